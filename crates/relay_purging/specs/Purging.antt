-- The two turns of a purge: what the hook of each was told, what the purger was asked, and what was
-- queued (RFC 9110, section 15).
use Rattle.std.specs.Prelude.{◌≡◌, ℕ, Bool, true, not, ◌&&◌, is_none, is_some, List, [], Option, None, Some, Result, Ok, Err, if◌then◌else◌}
use Rattle.relay_tasks.specs.Head.{ResponseHead}
use Rattle.relay_tasks.specs.declared.error.Fail.{Fail}
use Rattle.relay_tasks.specs.declared.hook.Hook.TheVariants as hook
use Rattle.relay_tasks.specs.declared.log.Item.{Item}
use Rattle.relay_tasks.specs.declared.log.Item.TheVariants as item
use Rattle.relay_tasks.specs.declared.log.LogEntry.{LogEntry}
use Rattle.relay_tasks.specs.declared.peer.PurgeAction.{PurgeAction}
use Rattle.relay_tasks.specs.declared.task.HttpTask.{HttpTask}
use Rattle.relay_links.specs.Purger.{PurgerState}
use Rattle.relay_session.specs.Generated.{generated_head}
use Rattle.relay_session.specs.Reading.{head_of}
use Rattle.relay_session.specs.declared.writing.Writing.{Writing}
use Rattle.relay_modules.specs.declared.seen.Seen.{Seen}
use Rattle.relay_hooks.specs.Laws.{IsBodiless}
use Rattle.relay_hooks.specs.Purge.{purged_of}
use Rattle.relay_hooks.specs.Session.{is_answered, request_head}
use Rattle.relay_hooks.specs.Standing.{Standing}
use Rattle.relay_hooks.specs.declared.purge.PurgeStatus.{PurgeStatus}
use Rattle.relay_calls.specs.Entry.{cleared}
use Rattle.relay_phases.specs.Order.{Station as station}
use Rattle.relay_phases.specs.Turns.{QueuesNothing, Turns}
use Rattle.relay_purging.specs.Asked.{Asks}
use Rattle.relay_purging.specs.Queued.{QueuesHead}
use Rattle.relay_purging.specs.declared.turn.End.{End}
use Rattle.relay_purging.specs.declared.turn.End.TheVariants as end

-- ---- what the log tells

-- the head that an item has, of a response
abbrev pub response_in : Item → Option ResponseHead
response_in (item.Response head ends) = Some head
response_in other = None

-- the head with which a purge is answered, as the entry of its filter tells: the one that the
-- filter left, or that of the relay's own 500 where it failed
abbrev pub head_told : LogEntry → Option ResponseHead
head_told e = if is_none e.error then response_in e.output else Some (generated_head 500 0)

-- ---- the first turn

-- the second turn may come: the head was read, and no final head was queued
abbrev pub may_go_on : Result PurgeAction Fail → Seen → Bool
may_go_on (Ok action) seen = is_some (head_of seen.downstream.reading) && not (is_answered seen)
may_go_on (Err why) seen = true

-- nothing was queued by the hook, and the answer with that head was behind it, or could not be
pub record AnswersWith (head : ResponseHead) (how : End) (old new : Writing)
    (wrote : List HttpTask) : Type 0 where
  pub wrote_none : wrote ≡ []
  pub queued : QueuesHead head how old new

module _ (allows : Standing → LogEntry → Type 0) where
  -- it was asked what the purge does, and all else stays
  pub record AsksAction (action : PurgeAction) (old : Seen) (mark : ℕ) (new : Seen) : Type 0 where
    pub turn : Turns allows hook.PurgeAction station.purging station.purged QueuesNothing old mark
        new mark
    pub input : turn.e.input ≡ item.Request (request_head old)
    pub output : turn.e.output ≡ item.Action action
    pub stays : new ≡ record (cleared old) { log = new.log }

  -- ---- the second turn

  -- the purger was asked once, and its answer told to the filter; that head was queued
  pub record PurgesOnce (action : PurgeAction) (before after : PurgerState) (old : Seen) (mark : ℕ)
      (new : Seen) (behind : ℕ) (how : End) : Type 0 where
    pub status : PurgeStatus
    pub head : ResponseHead
    pub asks : Asks before action (request_head old) after (purged_of status)
    pub turn : Turns allows hook.PurgeResponseFilter station.purged station.answered
        (AnswersWith head how) old mark new behind
    pub input : turn.e.input ≡ item.Status (purged_of status)
    pub told : head_told turn.e ≡ Some head
    pub bodiless : IsBodiless head

  -- by how it ended; out of memory before the entry none is new
  abbrev pub PurgesTo : PurgeAction → PurgerState → PurgerState → Seen → ℕ → Seen → ℕ → End
      → Type 0
  PurgesTo action before after old mark new behind end.Answered =
      PurgesOnce action before after old mark new behind end.Answered
  PurgesTo action before after old mark new behind (end.Unwritten why) =
      PurgesOnce action before after old mark new behind (end.Unwritten why)
  PurgesTo action before after old mark new behind end.Lost = new.log ≡ old.log
