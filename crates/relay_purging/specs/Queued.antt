-- How the answer of a purge is queued (RFC 9110, section 15): one final head, and no body.
use Rattle.std.specs.Prelude.{◌≡◌, false, true, List, [], ◌∷◌}
use Rattle.relay_tasks.specs.Head.{ResponseHead}
use Rattle.relay_tasks.specs.declared.error.Fail.{Fail}
use Rattle.relay_tasks.specs.declared.task.HttpTask.{HttpTask}
use Rattle.relay_tasks.specs.declared.task.HttpTask.TheVariants as task
use Rattle.relay_session.specs.Generated.{IsFaultOrMemory}
use Rattle.relay_session.specs.Response.{AreQueued, GoesOnWith, IsOpen, has_head}
use Rattle.relay_session.specs.declared.writing.Writing.{Writing}
use Rattle.relay_modules.specs.Seen.{OrMemory, with_response}
use Rattle.relay_modules.specs.declared.seen.Seen.{Seen}
use Rattle.relay_purging.specs.declared.turn.End.{End}
use Rattle.relay_purging.specs.declared.turn.End.TheVariants as end

-- the answer with that head, behind which no body comes
abbrev pub lone_head : ResponseHead → List HttpTask
lone_head head = task.Header head true ∷ []

-- nothing was queued: a write to the client had failed with that error, or memory was wanted
pub record CannotAnswer (why : Fail) (old new : Writing) : Type 0 where
  pub goes_on : GoesOnWith old new []
  pub answers_to : new.request ≡ old.request
  pub stays_open : IsOpen old.output → IsOpen new.output
  pub no_head : has_head new.place ≡ false
  pub fault : OrMemory (IsFaultOrMemory new.output) why

-- the answer with that head was queued, or could not be
abbrev pub QueuesHead : ResponseHead → End → Writing → Writing → Type 0
QueuesHead head end.Answered old new = AreQueued old (lone_head head) new
QueuesHead head (end.Unwritten why) old new = CannotAnswer why old new
QueuesHead head end.Lost old new = ⊥

-- the same of a session, of which all else stays
pub record QueuesBehind (head : ResponseHead) (old new : Seen) (how : End) : Type 0 where
  pub queued : QueuesHead head how old.downstream.writing new.downstream.writing
  pub rest : new ≡ with_response old new.downstream.writing
