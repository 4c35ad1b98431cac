-- A session without its modules, as clauses see it.
use Rattle.std.specs.Prelude.{◌≡◌, ◌⊎◌, ◌==◌, ◌&&◌, ◌++◌, ℕ, Bool, true, false, not, length, List, [], None, Result, Ok, Err}
use Rattle.relay_tasks.specs.declared.error.Error.{Error}
use Rattle.relay_tasks.specs.declared.error.ErrorType.TheVariants.{WriteError}
use Rattle.relay_tasks.specs.declared.error.ErrorSource.TheVariants.{Internal}
use Rattle.relay_tasks.specs.declared.context.Context.TheVariants.{NoTaskApi}
use Rattle.relay_tasks.specs.declared.error.Fail.{Fail}
use Rattle.relay_tasks.specs.declared.error.Fail.TheVariants as fail
use Rattle.relay_tasks.specs.declared.log.View.{View}
use Rattle.relay_tasks.specs.declared.task.HttpTask.{HttpTask}
use Rattle.relay_tasks.specs.Error.{explained}
use Rattle.relay_session.specs.declared.session.HttpSession.{HttpSession}
use Rattle.relay_session.specs.declared.task_text.Place.{Place}
use Rattle.relay_session.specs.declared.writing.Writing.{Writing}
use Rattle.relay_session.specs.Generated.{IsFaultOrMemory}
use Rattle.relay_session.specs.Reading.{is_truncated}
use Rattle.relay_session.specs.Response.{AreQueued, FailsWithin, FailsBatch, has_head}
use Rattle.relay_modules.specs.declared.seen.Seen.{Seen}

-- a session of that client before its request, or behind a head that its caller read
pub record IsNew (downstream : HttpSession) (seen : Seen) : Type 0 where
  pub client : seen.downstream ≡ downstream
  pub touched : seen.touched ≡ false
  pub keepalive : seen.keepalive ≡ true
  pub log : seen.log ≡ []
  pub kept : seen.kept ≡ []
  pub wrote : seen.wrote ≡ []
  pub tasks_enabled : seen.tasks_enabled ≡ false
  pub headers_mutated : seen.headers_mutated ≡ false
  pub shutting_down : seen.shutting_down ≡ false
  pub may_spawn : seen.may_spawn ≡ false
  pub received : seen.upstream.received ≡ 0
  pub sent : seen.upstream.sent ≡ None

-- what the session shows to a log: whether a final head was queued, and whether bytes of the body
-- were given out that are kept no longer. It offers no upgrade
abbrev pub view_of : Seen → View
view_of seen =
    record {
      final_head = has_head seen.downstream.writing.place;
      truncated = is_truncated seen.downstream.reading;
      upgraded = false;
    }

-- the session with that response
abbrev pub with_response : Seen → Writing → Seen
with_response seen response =
    record seen { downstream = record seen.downstream { writing = response } }

-- tasks were queued; all else stays
pub record Queues (tasks : List HttpTask) (old new : Seen) : Type 0 where
  pub queued : AreQueued old.downstream.writing tasks new.downstream.writing
  pub rest : new ≡ with_response old new.downstream.writing

-- the session with those tasks noted behind the others
abbrev pub with_noted : Seen → List HttpTask → Seen
with_noted seen tasks = record seen { wrote = seen.wrote ++ tasks }

-- tasks were queued, and noted as queued; all else stays
pub record Notes (tasks : List HttpTask) (old new : Seen) : Type 0 where
  pub queued : AreQueued old.downstream.writing tasks new.downstream.writing
  pub rest : new ≡ with_noted (with_response old new.downstream.writing) tasks

-- why tasks are not all queued, and what was queued of them, as the client's session says; all else
-- stays
pub record CannotQueue (tasks : List HttpTask) (old new : Seen) (given : Fail) : Type 0 where
  pub fails : FailsBatch old.downstream.writing.output old.downstream.writing tasks
      new.downstream.writing given
  pub rest : new ≡ with_response old new.downstream.writing

-- the same, where memory may be wanted before anything is queued
pub data FailsToNote (tasks : List HttpTask) (old new : Seen) : Fail → Type 0 where
  cannot_queue : (given : Fail) → CannotQueue tasks old new given
      → FailsToNote tasks old new given
  wants_note : new ≡ old → FailsToNote tasks old new fail.OutOfMemory

-- the task API is off
abbrev pub no_task_api : Error
no_task_api = record (explained WriteError NoTaskApi) { esource = Internal }

-- the session that keeps no task
abbrev pub keeps_none : Seen → Seen
keeps_none seen = record seen { kept = [] }

-- the tasks that were kept are due: the task API is on, and there are some
abbrev pub is_due : Seen → Bool
is_due seen = seen.tasks_enabled && not (length seen.kept == 0)

-- the tasks that were kept were queued, and none is kept; where they are not due, nothing has
-- changed
abbrev pub WritesKept : Bool → Seen → Seen → Type 0
WritesKept true old new = Notes old.kept (keeps_none old) new
WritesKept false old new = new ≡ old

-- ---- answers of the relay

-- an answer of those tasks was queued; or the fault that is kept was answered and nothing has
-- changed, as where memory is wanted
abbrev pub Responds : List HttpTask → Result Unit Fail → Seen → Seen → Type 0
Responds tasks (Ok done) old new = Notes tasks old new
Responds tasks (Err (fail.Error error)) old new =
    IsFaultOrMemory old.downstream.writing.output (fail.Error error) × (new ≡ old)
Responds tasks (Err fail.OutOfMemory) old new = new ≡ old

-- a failure that is so, or memory is wanted
abbrev pub OrMemory : (Fail → Type 0) → Fail → Type 0
OrMemory fact fail.OutOfMemory = Unit {0}
OrMemory fact (fail.Error error) = fact (fail.Error error)

-- an answer with a body stopped at a task, and its head may be queued; all else stays
pub record StopsAnswer (tasks : List HttpTask) (old new : Seen) (given : Fail) : Type 0 where
  pub fails : FailsWithin old.downstream.writing.output old.downstream.writing tasks
      new.downstream.writing given
  pub rest : new ≡ with_response old new.downstream.writing

-- an answer of those tasks was queued; or the fault that is kept was answered, or memory is wanted,
-- and nothing has changed but that its head may be queued
abbrev pub RespondsWith : List HttpTask → Result Unit Fail → Seen → Seen → Type 0
RespondsWith tasks (Ok done) old new = Notes tasks old new
RespondsWith tasks (Err given) old new =
    OrMemory (IsFaultOrMemory old.downstream.writing.output) given
    × ((new ≡ old) ⊎ StopsAnswer tasks old new given)
