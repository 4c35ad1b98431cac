-- What the hooks before the attempts queue for the client (RFC 9110, section 15).
use Rattle.std.specs.Prelude.{◌≡◌, Bool, true, false, ◌||◌, List}
use Rattle.relay_tasks.specs.declared.error.Fail.{Fail}
use Rattle.relay_tasks.specs.declared.task.HttpTask.{HttpTask}
use Rattle.relay_session.specs.Generated.{IsFaultOrMemory}
use Rattle.relay_session.specs.Response.{AreQueued, GoesOnWith, IsOpen, has_head}
use Rattle.relay_session.specs.declared.writing.Writing.{Writing}
use Rattle.relay_modules.specs.Seen.{OrMemory}
use Rattle.relay_hooks.specs.Answer.{is_whole, only_informs}
use Rattle.relay_hooks.specs.DefaultLaw.{lone_answer}
use Rattle.relay_phases.specs.Turns.{QueuesNothing}
use Rattle.relay_opening.specs.declared.place.End.{End}
use Rattle.relay_opening.specs.declared.place.End.TheVariants as end

-- one whole final answer was queued
pub record QueuesAnswer (old new : Writing) (wrote : List HttpTask) : Type 0 where
  pub queued : GoesOnWith old new wrote
  pub answers_to : new.request ≡ old.request
  pub stays_open : IsOpen old.output → IsOpen new.output
  pub whole : is_whole wrote ≡ true

-- the relay's own 502 was queued, exactly where no final head was
abbrev pub Completes : Bool → Writing → Writing → Type 0
Completes true old new = new ≡ old
Completes false old new = AreQueued old (lone_answer 502) new

-- a hook queued one whole final answer, or informational heads alone; then the relay's 502 was,
-- where no final head was queued
pub record QueuesRefusal (old new : Writing) (wrote : List HttpTask) : Type 0 where
  pub left : Writing  -- the response as the hook left it
  pub queued : GoesOnWith old left wrote
  pub answers_to : left.request ≡ old.request
  pub stays_open : IsOpen old.output → IsOpen left.output
  pub lawful : is_whole wrote || only_informs wrote ≡ true
  pub completed : Completes (has_head left.place) left new

-- the same without a 502, though no final head was queued: a write to the client had failed with
-- that error, or memory was wanted
pub record CannotRefuse (why : Fail) (old new : Writing) (wrote : List HttpTask) : Type 0 where
  pub queued : GoesOnWith old new wrote
  pub answers_to : new.request ≡ old.request
  pub stays_open : IsOpen old.output → IsOpen new.output
  pub lawful : is_whole wrote || only_informs wrote ≡ true
  pub no_head : has_head new.place ≡ false
  pub fault : OrMemory (IsFaultOrMemory new.output) why

-- what was queued by the way the hooks before the attempts ended
abbrev pub QueuesAtEnd : End → Writing → Writing → List HttpTask → Type 0
QueuesAtEnd end.Attempts old new wrote = QueuesNothing old new wrote
QueuesAtEnd end.Answered old new wrote = QueuesAnswer old new wrote
QueuesAtEnd end.Purge old new wrote = QueuesNothing old new wrote
QueuesAtEnd end.Declined old new wrote = QueuesRefusal old new wrote
QueuesAtEnd (end.Unwritten why) old new wrote = CannotRefuse why old new wrote
QueuesAtEnd (end.Failed error) old new wrote = QueuesNothing old new wrote
