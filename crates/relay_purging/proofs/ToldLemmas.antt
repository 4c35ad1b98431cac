-- What the log tells of a purge: what the purger was asked, and the text of the answer.
use Rattle.std.proofs.Common.{◌≡◌, ℕ, List, [], ◌∷◌, refl, sym, ap, ◌∙◌}
use Rattle.relay_tasks.specs.Head.{RequestHead, ResponseHead}
use Rattle.relay_tasks.specs.declared.log.LogEntry.{LogEntry}
use Rattle.relay_tasks.specs.declared.peer.PurgeAction.{PurgeAction}
use Rattle.relay_links.specs.Purger.{PurgerState}
use Rattle.relay_links.specs.Told.{more}
use Rattle.relay_links.specs.declared.purger.PurgeCall.{PurgeCall}
use Rattle.relay_session.specs.TaskWire.{wire}
use Rattle.relay_session.specs.declared.task_text.Place.TheVariants as place
use Rattle.relay_session.specs.declared.task_text.Request.{Request}
use Rattle.relay_modules.specs.declared.seen.Seen.{Seen}
use Rattle.relay_hooks.specs.Laws.{IsBodiless}
use Rattle.relay_hooks.specs.Purge.{purged_of}
use Rattle.relay_hooks.specs.Session.{request_head}
use Rattle.relay_hooks.specs.Standing.{Standing}
use Rattle.relay_hooks.specs.declared.purge.PurgeStatus.{PurgeStatus}
use Rattle.relay_hooks.specs.declared.purge.PurgeStatus.TheVariants as status
use Rattle.relay_purging.specs.Asked.{Asks}
use Rattle.relay_purging.specs.Purging.{AsksAction, PurgesOnce}
use Rattle.relay_purging.specs.Queued.{lone_head}
use Rattle.relay_purging.specs.Told.{call_for, purges_in}
use Rattle.relay_purging.specs.declared.turn.End.{End}
use Rattle.relay_purging.proofs.QueuedLemmas.{is_whole_head}

-- ---- what the purger was asked

-- whatever it answered, the purger tells the call
told_call : (before : PurgerState) (action : PurgeAction) (head : RequestHead) (after : PurgerState)
    (answer : PurgeStatus) → Asks before action head after (purged_of answer)
    → after.told ≡ more before.told (call_for action head (purged_of answer) ∷ [])
told_call before action head after status.NoCache answers = answers.told
told_call before action head after status.Found answers = answers.told
told_call before action head after status.NotFound answers = answers.told
told_call before action head after (status.Error fault) fails = fails.told

-- the purger was asked just what the entries of both turns tell, once
pub told_purge : (allows : Standing → LogEntry → Type 0) (action : PurgeAction)
    (before after : PurgerState) (old mid : Seen) (mark : ℕ) (new : Seen) (behind : ℕ) (how : End)
    → (asks : AsksAction allows action old mark mid)
    → (purged : PurgesOnce allows action before after mid mark new behind how)
    → after.told ≡ more before.told (purges_in (asks.turn.e ∷ purged.turn.e ∷ []))
told_purge allows action before after old mid mark new behind how asks purged =
    let same : request_head mid ≡ request_head old = ap request_head asks.stays in
    let tells : purges_in (asks.turn.e ∷ purged.turn.e ∷ [])
    ≡ call_for action (request_head mid) (purged_of purged.status) ∷ [] =
    rw (purged.turn.hook, asks.output, asks.input, purged.input, same) refl in
    told_call before action (request_head mid) after purged.status purged.asks
    ∙ ap (λ (calls : List PurgeCall). more before.told calls) (sym tells)

-- ---- what the client is sent

-- the answer of a purge ends its response
pub lone_ends : (request : Request) (head : ResponseHead) → IsBodiless head
    → (wire request place.NoHead (lone_head head)).place ≡ place.Done
lone_ends request head bodiless =
    let whole = is_whole_head request head bodiless in
    rw (bodiless.is_final, whole.framed, whole.whole) refl
