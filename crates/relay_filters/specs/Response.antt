-- A batch of the response behind the filters of the application and those of the modules: what
-- their calls add to the log, and what an attempt's response came to.
use Rattle.std.specs.Prelude.{◌≡◌, ℕ, Bool, true, false, ◌||◌, All, List, [], ◌++◌, None, IsSome, Result, Ok, Err}
use Rattle.relay_tasks.specs.declared.error.Error.{Error}
use Rattle.relay_tasks.specs.declared.error.Fail.{Fail}
use Rattle.relay_tasks.specs.declared.error.Fail.TheVariants as fail
use Rattle.relay_tasks.specs.declared.log.LogEntry.{LogEntry}
use Rattle.relay_tasks.specs.declared.task.HttpTask.{HttpTask}
use Rattle.relay_session.specs.Reading.{head_of}
use Rattle.relay_modules.specs.Module.{ModuleCall}
use Rattle.relay_modules.specs.declared.seen.Seen.{Seen}
use Rattle.relay_hooks.specs.Session.{moment}
use Rattle.relay_hooks.specs.Standing.{Standing, standing}
use Rattle.relay_calls.specs.Log.{Walk, filters_request, filters_response, is_module_response, modules_in, requests_in, responses_in}
use Rattle.relay_sides.specs.Lent.{SameButHead}
use Rattle.relay_filters.specs.Chain.{AllPass, FrontPasses, ModuleChain, ModuleFeeds, PassedModules, PassesModules, TaskChain, TaskFeeds}

-- ---- what calls add to the log

-- modules of that kind that were made allow the call: a hook may put others into its session, so
-- which of them stood there at a call is not said
abbrev pub SomeAllow : {M : Type 0} → (M → ModuleCall → Type 0) → ModuleCall → Type 0
SomeAllow {M} allows call = (modules : M) × allows modules call

-- the calls are of these two parts of a log, the application's and the modules', and none is of the
-- request
pub record PartsOf (es by_app by_modules : List LogEntry) : Type 0 where
  pub requests : requests_in es ≡ []
  pub responses : responses_in es ≡ by_app
  pub modules : modules_in es ≡ by_modules

-- a call of a filter of the request's body or of the response, which queued nothing
pub record IsFilterCall (e : LogEntry) : Type 0 where
  pub is_filter :
      (filters_request e.hook || (filters_response e.hook || is_module_response e.hook)) ≡ true
  pub quiet : e.wrote ≡ []

-- these calls were entered, behind what stood in the log, and lead from the session and the context
-- as they were to both as they are. Each is a filter's, and queued nothing. Of the client's session
-- they changed no more than the head
pub record Adds (allows : Standing → LogEntry → Type 0) (old : Seen) (mark : ℕ) (new : Seen)
    (mark' : ℕ) (es : List LogEntry) : Type 0 where
  pub log : new.log ≡ old.log ++ es
  pub walk : Walk allows (standing None false (moment old mark)) es
      (standing None false (moment new mark'))
  pub plain : All IsFilterCall es
  pub head : IsSome (head_of new.downstream.reading)
  pub client : SameButHead old.downstream new.downstream

-- the same, where memory was wanted in a call that was not entered: it may have left more
pub record AddsSome (allows : Standing → LogEntry → Type 0) (old : Seen) (mark : ℕ) (new : Seen)
    (es : List LogEntry) : Type 0 where
  pub to : Standing
  pub log : new.log ≡ old.log ++ es
  pub walk : Walk allows (standing None false (moment old mark)) es to
  pub plain : All IsFilterCall es

-- what a filter, or several, came to: what passed did so by the calls that were entered. An error
-- comes behind the calls so far, and has its cause in the last of them
abbrev pub Outcome : {Y : Type 0} → (Standing → LogEntry → Type 0)
    → (List LogEntry → Y → Type 0) → (List LogEntry → Type 0) → (Error → List LogEntry → Type 0)
    → Result Y Fail → Seen → ℕ → Seen → ℕ → Type 0
Outcome allows chain feeds refuses (Ok made) old mark new mark' =
    (es : List LogEntry) × Adds allows old mark new mark' es × chain es made
Outcome allows chain feeds refuses (Err (fail.Error e)) old mark new mark' =
    (es : List LogEntry) × Adds allows old mark new mark' es × feeds es × refuses e es
Outcome allows chain feeds refuses (Err fail.OutOfMemory) old mark new mark' =
    (es : List LogEntry) × AddsSome allows old mark new es × feeds es

-- ---- a batch

-- all calls are the application's
abbrev pub IsApps : List LogEntry → Type 0
IsApps es = PartsOf es es []

-- all calls are the modules'
abbrev pub IsModules : List LogEntry → Type 0
IsModules es = PartsOf es [] es

-- a batch passes the filters of the application, all its tasks, and then those of the modules,
-- where modules stand
pub record BatchPasses (of_head stand : Bool) (tasks : List HttpTask) (es : List LogEntry)
    (made : List HttpTask) : Type 0 where
  pub mid : List HttpTask
  pub by_app : List LogEntry
  pub by_modules : List LogEntry
  pub calls : es ≡ by_app ++ by_modules
  pub are_apps : IsApps by_app
  pub are_modules : IsModules by_modules
  pub pass : AllPass (TaskChain of_head) by_app tasks mid
  pub made_so : AllPass (PassesModules stand) by_modules mid made

-- what is left of a batch that passed its filters by these calls, as it came and as they made it:
-- of the calls of both stages it was the last that made it
pub record WasMade (of_head stand : Bool) (es : List LogEntry) (left made : List HttpTask)
    : Type 0 where
  pub mid : List HttpTask
  pub apps : List LogEntry
  pub by_app : List LogEntry
  pub are_apps : responses_in es ≡ apps ++ by_app
  pub modules : List LogEntry
  pub by_modules : List LogEntry
  pub are_modules : modules_in es ≡ modules ++ by_modules
  pub pass : AllPass (TaskChain of_head) by_app left mid
  pub made_so : AllPass (PassesModules stand) by_modules mid made

-- a batch was refused by a filter of the application, or all its tasks passed those and it was
-- refused by one of the modules, which stand then
pub data BatchStops (of_head stand : Bool) (tasks : List HttpTask) (es : List LogEntry)
    : Type 0 where
  by_app : IsApps es → FrontPasses (TaskChain of_head) (TaskFeeds of_head) tasks es
      → BatchStops of_head stand tasks es
  by_modules : stand ≡ true → (mid : List HttpTask) (first last : List LogEntry)
      → es ≡ first ++ last → IsApps first → IsModules last
      → AllPass (TaskChain of_head) first tasks mid
      → FrontPasses ModuleChain ModuleFeeds mid last → BatchStops of_head stand tasks es

-- ---- the response of an attempt

-- what passed a stage of filters by these calls: each by its own chain, one behind the other. The
-- calls behind them are those of a batch that was refused
pub record Stage (chain : HttpTask → List LogEntry → HttpTask → Type 0) (es : List LogEntry)
    (goes_on : Type 0) (came made : List HttpTask) : Type 0 where
  pub done : List LogEntry
  pub dropped : List LogEntry
  pub calls : es ≡ done ++ dropped
  pub all : goes_on → dropped ≡ []
  pub pass : AllPass chain done came made

-- the response as it came and as it was queued: each task passed the filters of the application and
-- then those of the modules, and what these made of it is queued. `stood` says that modules stood
-- for each batch
pub record MakesOf (of_head stood : Bool) (es : List LogEntry) (goes_on : Type 0)
    (came queued : List HttpTask) : Type 0 where
  pub mid : List HttpTask
  pub by_app : Stage (TaskChain of_head) (responses_in es) goes_on came mid
  pub by_modules : Stage (PassedModules stood) (modules_in es) goes_on mid queued
