-- What the purger was asked for a request: just what its log tells (RFC 9110, section 9.3.5; RFC
-- 9111, section 4.4).
use Rattle.std.specs.Prelude.{◌≡◌, ◌⊎◌, List, [], ◌∷◌, ◌++◌}
use Rattle.relay_tasks.specs.Head.{RequestHead}
use Rattle.relay_tasks.specs.declared.log.LogEntry.{LogEntry}
use Rattle.relay_tasks.specs.declared.peer.PurgeAction.{PurgeAction}
use Rattle.relay_tasks.specs.declared.peer.Purged.{Purged}
use Rattle.relay_links.specs.Purger.{PurgerState}
use Rattle.relay_links.specs.Told.{more}
use Rattle.relay_hooks.specs.Purge.{purged_of}
use Rattle.relay_hooks.specs.declared.purge.PurgeStatus.{PurgeStatus}
use Rattle.relay_purging.specs.Asked.{Asks}
use Rattle.relay_purging.specs.Told.{call_for, purges_in}
use Rattle.relay_request.specs.Calls.{LastAsks}
use Rattle.relay_request.specs.declared.machine.Phase.{Phase}
use Rattle.relay_request.specs.declared.machine.Phase.TheVariants.{Ended}
use Rattle.relay_request.specs.declared.outcome.Outcome.{Outcome}
use Rattle.relay_request.specs.declared.outcome.Outcome.TheVariants.{OutOfMemory}
use Rattle.relay_request.specs.declared.record.AttemptRecord.{AttemptRecord}

-- the request has ended, for want of memory
abbrev pub HasLost : {L C : Type 0} → Phase L C → Type 0
HasLost phase = (attempts : List AttemptRecord) × (phase ≡ Ended OutOfMemory attempts)

-- what a turn asked the purger that took a request from the one log to the other, and on to that
-- phase
pub data AsksPurger {L C : Type 0} (before after : PurgerState) (old new : List LogEntry)
    (next : Phase L C) : Type 0 where
  -- nothing, and its calls tell of no purge
  nothing : after ≡ before → purges_in new ≡ purges_in old → AsksPurger before after old new next
  -- once, for the purge of which its call tells
  once : (action : PurgeAction) (head : RequestHead) (status : PurgeStatus)
      → Asks before action head after (purged_of status)
      → purges_in new ≡ purges_in old ++ call_for action head (purged_of status) ∷ []
      → AsksPurger before after old new next
  -- once, for what the last call before it asked; memory was wanted behind that for the next
  lost : (action : PurgeAction) (head : RequestHead) (answer : Purged)
      → Asks before action head after answer → LastAsks old action head → new ≡ old → HasLost next
      → AsksPurger before after old new next

-- the purger's list gained one call that the log does not tell, for what its last call asked
pub record PurgesMore (before after : PurgerState) (log : List LogEntry) : Type 0 where
  pub action : PurgeAction
  pub head : RequestHead
  pub answer : Purged
  pub asks : LastAsks log action head
  pub told : after.told ≡ more before.told (purges_in log ++ call_for action head answer ∷ [])

-- over a request the purger's list gained just the calls of which the log tells, where it tells its
-- calls; or one more, where the request ended for want of memory
abbrev pub HasPurged : PurgerState → PurgerState → List LogEntry → Outcome → Type 0
HasPurged before after log outcome =
    (after.told ≡ more before.told (purges_in log))
    ⊎ ((outcome ≡ OutOfMemory) × PurgesMore before after log)
