-- What modules make of the tasks of a response (RFC 9110, section 15.2.2, for the head that
-- switches protocols).
use Rattle.std.specs.Prelude.{◌≡◌, ℕ, ◌==◌, Bool, true, false, List, [], ◌∷◌, ◌++◌, Option, Some, None, Result, Ok, Err, if◌then◌else◌}
use Rattle.relay_tasks.specs.Head.{RequestHead, ResponseHead, Fields}
use Rattle.relay_tasks.specs.declared.context.Context.TheVariants.{Mismatch101, BeforeUpgrade}
use Rattle.relay_tasks.specs.declared.error.Error.{Error}
use Rattle.relay_tasks.specs.declared.error.ErrorSource.TheVariants.{Internal}
use Rattle.relay_tasks.specs.declared.error.Fail.{Fail}
use Rattle.relay_tasks.specs.declared.error.Fail.TheVariants as fail
use Rattle.relay_tasks.specs.declared.task.HttpTask.{HttpTask}
use Rattle.relay_tasks.specs.declared.task.HttpTask.TheVariants as task
use Rattle.relay_h1.specs.ClientHead.{is_informational}
use Rattle.relay_h1.specs.Verdict.{refused_from}
use Rattle.relay_session.specs.Reading.{head_of}
use Rattle.relay_modules.specs.Module.{ModuleCall, request_header, response_header, response_body, response_trailer, response_done}
use Rattle.relay_modules.specs.Lent.{with_touched}
use Rattle.relay_modules.specs.Seen.{Notes, CannotQueue, no_task_api}
use Rattle.relay_modules.specs.declared.seen.Seen.{Seen}

-- ---- one task

-- bytes that a filter answered end the body; with none the other task stands
abbrev pub ended_by : Option (List ℕ) → HttpTask → HttpTask
ended_by None other = other
ended_by (Some bytes) other = task.Body (Some bytes) true

-- a task, and what the modules make of it: each kind by its own filter, a failure by none
abbrev pub Makes : (ModuleCall → Type 0) → HttpTask → HttpTask → Type 0
Makes allows (task.Header head end) made =
    (left : ResponseHead) × (made ≡ task.Header left end)
    × (is_informational left.status ≡ is_informational head.status)
    × allows (response_header head left end None)
Makes allows (task.Body piece end) made =
    (left : Option (List ℕ)) × (made ≡ task.Body left end)
    × allows (response_body piece left end None)
Makes allows (task.UpgradedBody piece end) made =
    (left : Option (List ℕ)) × (made ≡ task.UpgradedBody left end)
    × allows (response_body piece left end None)
Makes allows (task.Trailer fields) made =
    (left : Option Fields) × (answer : Option (List ℕ))
    × (made ≡ ended_by answer (task.Trailer left))
    × allows (response_trailer fields left answer None)
Makes allows task.Done made =
    (answer : Option (List ℕ)) × (made ≡ ended_by answer task.Done)
    × allows (response_done answer None)
Makes allows (task.Failed error) made = made ≡ task.Failed error

-- the modules refuse the task with that error
abbrev pub Refuses : (ModuleCall → Type 0) → HttpTask → Error → Type 0
Refuses allows (task.Header head end) error =
    (left : ResponseHead) × allows (response_header head left end (Some error))
Refuses allows (task.Body piece end) error =
    (left : Option (List ℕ)) × allows (response_body piece left end (Some error))
Refuses allows (task.UpgradedBody piece end) error =
    (left : Option (List ℕ)) × allows (response_body piece left end (Some error))
Refuses allows (task.Trailer fields) error =
    (left : Option Fields) × allows (response_trailer fields left None (Some error))
Refuses allows task.Done error = allows (response_done None (Some error))
Refuses allows (task.Failed cause) error = ⊥

-- what the modules answer to a task; memory may be wanted
abbrev pub MakesTask : (ModuleCall → Type 0) → HttpTask → Result HttpTask Fail → Type 0
MakesTask allows came (Ok made) = Makes allows came made
MakesTask allows came (Err (fail.Error error)) = Refuses allows came error
MakesTask allows came (Err fail.OutOfMemory) = Unit {0}

-- what a task is refused with once the modules made it: no upgrade is offered, so neither a head
-- that switches protocols nor a piece behind one passes
abbrev pub refusal_of : HttpTask → Option Error
refusal_of (task.Header head end) =
    if head.status == 101 then Some (refused_from Internal Mismatch101) else None
refusal_of (task.Body piece end) = None
refusal_of (task.UpgradedBody piece end) = Some (refused_from Internal BeforeUpgrade)
refusal_of (task.Trailer fields) = None
refusal_of task.Done = None
refusal_of (task.Failed error) = None

-- the task passes the modules as that one
pub record Passes (allows : ModuleCall → Type 0) (came made : HttpTask) : Type 0 where
  pub makes : Makes allows came made
  pub stands : refusal_of made ≡ None

-- why a task does not pass: its filter's error, or what was made of it is refused
pub data Stops (allows : ModuleCall → Type 0) (came : HttpTask) (error : Error) : Type 0 where
  by_module : Refuses allows came error → Stops allows came error
  by_check : (made : HttpTask) → Makes allows came made → refusal_of made ≡ Some error
      → Stops allows came error

-- what filtering a task answers; memory may be wanted
abbrev pub FiltersTask : (ModuleCall → Type 0) → HttpTask → Result HttpTask Fail → Type 0
FiltersTask allows came (Ok made) = Passes allows came made
FiltersTask allows came (Err (fail.Error error)) = Stops allows came error
FiltersTask allows came (Err fail.OutOfMemory) = Unit {0}

-- ---- a batch

-- each task of a batch passes, in order
abbrev pub AllPass : (ModuleCall → Type 0) → List HttpTask → List HttpTask → Type 0
AllPass allows [] [] = Unit {0}
AllPass allows [] (made ∷ more) = ⊥
AllPass allows (came ∷ rest) [] = ⊥
AllPass allows (came ∷ rest) (made ∷ more) = Passes allows came made × AllPass allows rest more

-- the first task of a batch that does not pass; those before it did
pub record StopsAt (allows : ModuleCall → Type 0) (tasks : List HttpTask) (error : Error)
    : Type 0 where
  pub before : List HttpTask
  pub at : HttpTask
  pub behind : List HttpTask
  pub are_tasks : tasks ≡ before ++ at ∷ behind
  pub made : List HttpTask
  pub passed : AllPass allows before made
  pub stops : Stops allows at error

-- what filtering a batch answers; memory may be wanted
abbrev pub FiltersTasks : (ModuleCall → Type 0) → List HttpTask → Result (List HttpTask) Fail
    → Type 0
FiltersTasks allows tasks (Ok made) = AllPass allows tasks made
FiltersTasks allows tasks (Err (fail.Error error)) = StopsAt allows tasks error
FiltersTasks allows tasks (Err fail.OutOfMemory) = Unit {0}

-- all of the batch passed, and what was made of it is queued, and noted
pub record WritesBatch (allows : ModuleCall → Type 0) (tasks : List HttpTask) (old new : Seen)
    : Type 0 where
  pub made : List HttpTask
  pub passed : AllPass allows tasks made
  pub notes : Notes made old new

-- why a batch fails: a task does not pass, and nothing of the batch is queued; or all passed, and
-- what was made of them can not all be queued. Memory may be wanted before anything is queued
pub data FailsToWrite (allows : ModuleCall → Type 0) (tasks : List HttpTask) (old new : Seen)
    : Fail → Type 0 where
  by_filter : (error : Error) → StopsAt allows tasks error → new ≡ old
      → FailsToWrite allows tasks old new (fail.Error error)
  by_writer : (given : Fail) (made : List HttpTask) → AllPass allows tasks made
      → CannotQueue made old new given → FailsToWrite allows tasks old new given
  wants_memory : new ≡ old → FailsToWrite allows tasks old new fail.OutOfMemory

-- ---- a task that is kept

-- the task passed, and what was made of it is kept behind what was; all else stays
pub record KeepsTask (allows : ModuleCall → Type 0) (came : HttpTask) (old new : Seen)
    : Type 0 where
  pub made : HttpTask
  pub passed : Passes allows came made
  pub is_on : old.tasks_enabled ≡ true
  pub rest : new ≡ record old { kept = old.kept ++ made ∷ [] }

-- why a task is not kept: the task API is off, and no filter is asked; or it does not pass; memory
-- may be wanted
pub data FailsToKeep (allows : ModuleCall → Type 0) (came : HttpTask) (old : Seen)
    : Fail → Type 0 where
  is_off : old.tasks_enabled ≡ false → FailsToKeep allows came old (fail.Error no_task_api)
  by_filter : (error : Error) → old.tasks_enabled ≡ true → Stops allows came error
      → FailsToKeep allows came old (fail.Error error)
  wants_memory : old.tasks_enabled ≡ true → FailsToKeep allows came old fail.OutOfMemory

-- ---- the head of the request

-- the modules were given the head of the request, and what they left stands; the session counts as
-- touched
pub record FiltersHead (allows : ModuleCall → Type 0) (error : Option Error) (old new : Seen)
    : Type 0 where
  pub before : RequestHead
  pub after : RequestHead
  pub stood : head_of old.downstream.reading ≡ Some before
  pub rest : new ≡ with_touched old after
  pub allowed : allows (request_header before after error)

-- what filtering the head of the request answers; where memory is wanted, what was left stands too
abbrev pub FiltersRequest : (ModuleCall → Type 0) → Result Unit Fail → Seen → Seen → Type 0
FiltersRequest allows (Ok done) old new = FiltersHead allows None old new
FiltersRequest allows (Err (fail.Error error)) old new = FiltersHead allows (Some error) old new
FiltersRequest allows (Err fail.OutOfMemory) old new =
    (after : RequestHead) × (new ≡ with_touched old after)
