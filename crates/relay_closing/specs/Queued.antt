-- What the hooks at the end of a request queue for the client (RFC 9110, section 15).
use Rattle.std.specs.Prelude.{◌≡◌, true, false, ◌⊎◌, List, Option, None, Some}
use Rattle.relay_tasks.specs.declared.error.Error.{Error}
use Rattle.relay_tasks.specs.declared.task.HttpTask.{HttpTask}
use Rattle.relay_session.specs.Response.{GoesOnWith, IsOpen, has_head}
use Rattle.relay_session.specs.declared.writing.Writing.{Writing}
use Rattle.relay_hooks.specs.Answer.{is_answer}
use Rattle.relay_phases.specs.Turns.{QueuesNothing}
use Rattle.relay_closing.specs.declared.place.Cause.{Cause}
use Rattle.relay_closing.specs.declared.place.End.{End}
use Rattle.relay_closing.specs.declared.place.End.TheVariants as end
use Rattle.relay_closing.specs.declared.place.Stage.{Stage}
use Rattle.relay_closing.specs.declared.place.Stage.TheVariants as stage
use Rattle.relay_closing.specs.Place.{error_of}

-- one answer was queued, and no final head was before
pub record QueuesAnswer (old new : Writing) (wrote : List HttpTask) : Type 0 where
  pub open_to : has_head old.place ≡ false
  pub queued : GoesOnWith old new wrote
  pub answers_to : new.request ≡ old.request
  pub stays_open : IsOpen old.output → IsOpen new.output
  pub answer : is_answer wrote ≡ true

-- nothing was queued, or one answer
abbrev pub QueuesOnce : Writing → Writing → List HttpTask → Type 0
QueuesOnce old new wrote = QueuesNothing old new wrote ⊎ QueuesAnswer old new wrote

-- what the hook that is called at a stage may queue
abbrev pub queues_at : Stage → Writing → Writing → List HttpTask → Type 0
queues_at (stage.Failing error) = QueuesOnce
queues_at (stage.Told told) = QueuesNothing
queues_at (stage.Reporting told) = QueuesNothing
queues_at (stage.Ending why) = QueuesNothing
queues_at (stage.Logged why) = QueuesNothing

-- ---- so far

-- the client was answered for that error, or there was none
abbrev pub queues_for : Option Error → Writing → Writing → List HttpTask → Type 0
queues_for None = QueuesNothing
queues_for (Some error) = QueuesOnce

-- the error for which `fail_to_proxy` was called up to a stage
abbrev pub told_to : Stage → Option Error
told_to (stage.Failing error) = None
told_to (stage.Told told) = Some told.error
told_to (stage.Reporting told) = Some told.error
told_to (stage.Ending why) = error_of why
told_to (stage.Logged why) = error_of why

-- what ended the request
abbrev pub cause_of : {K : Type 0} → End K → Cause
cause_of (end.Gone why) = why
cause_of (end.Kept why kept) = why
