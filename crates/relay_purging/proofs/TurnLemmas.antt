-- Each call is one turn, and what was queued behind the second is the answer that its entry tells.
use Rattle.std.proofs.Common.{◌≡◌, ℕ, Bool, true, false, ◌&&◌, not, Option, None, [], ◌∷◌, Result, Ok, Err, is_some, refl, sym, ap, subst, ◌∙◌, true≢false, unwrap_or}
use Rattle.std.specs.Prelude.{IfOk, IsOkUnless, OnErr, Some}
use Rattle.relay_tasks.specs.Head.{RequestHead, ResponseHead, new_request}
use Rattle.relay_tasks.specs.declared.error.Error.{Error}
use Rattle.relay_tasks.specs.declared.error.Fail.{Fail}
use Rattle.relay_tasks.specs.declared.error.Fail.TheVariants as fail
use Rattle.relay_tasks.specs.declared.hook.Hook.TheVariants as hook
use Rattle.relay_tasks.specs.declared.log.Item.TheVariants as item
use Rattle.relay_tasks.specs.declared.log.LogEntry.{LogEntry}
use Rattle.relay_tasks.specs.declared.peer.PurgeAction.{PurgeAction}
use Rattle.relay_tasks.specs.declared.peer.Purged.{Purged}
use Rattle.relay_links.specs.Purger.{PurgerState}
use Rattle.relay_session.specs.Generated.{generated_head}
use Rattle.relay_session.specs.Reading.{head_of}
use Rattle.relay_session.specs.declared.writing.Writing.{Writing}
use Rattle.relay_modules.specs.Module.{ModuleCall}
use Rattle.relay_modules.specs.Seen.{with_response}
use Rattle.relay_modules.specs.declared.seen.Seen.{Seen}
use Rattle.relay_hooks.specs.Call.{Left, answered, changed, entry, failed, only}
use Rattle.relay_hooks.specs.Laws.{IsBodiless}
use Rattle.relay_hooks.specs.Purge.{purged_of}
use Rattle.relay_hooks.specs.Session.{Leaves, is_answered, moment, request_head}
use Rattle.relay_hooks.specs.Standing.{Moment, Standing, standing}
use Rattle.relay_hooks.specs.declared.purge.PurgeStatus.{PurgeStatus}
use Rattle.relay_calls.specs.Calls.{CallsOf, Enters}
use Rattle.relay_calls.specs.Entry.{cleared}
use Rattle.relay_calls.specs.Log.{IsAllowed}
use Rattle.relay_calls.proofs.LogLemmas.{Walk-append}
use Rattle.relay_phases.specs.Looks.{Looks, Stays}
use Rattle.relay_phases.specs.Order.{next}
use Rattle.relay_phases.specs.Order.{Station as station}
use Rattle.relay_phases.specs.Turns.{CallsOnce, KeepsRest, ReadsNothing}
use Rattle.relay_phases.proofs.TurnLemmas.{KeepsRest-trans, leaves_turn, looks_turn}
use Rattle.relay_purging.specs.Asked.{Asks}
use Rattle.relay_purging.specs.Purging.{AsksAction, PurgesOnce, PurgesTo, head_told, may_go_on}
use Rattle.relay_purging.specs.Queued.{QueuesBehind, QueuesHead}
use Rattle.relay_purging.specs.declared.turn.End.{End}
use Rattle.relay_purging.specs.declared.turn.End.TheVariants as end
use Rattle.relay_purging.proofs.QueuedLemmas.{refusal_bodiless}

-- ---- the first turn

-- it was asked what the purge does
pub asks_action : (app : Standing → LogEntry → Type 0) (modules : ModuleCall → Type 0) (old : Seen)
    (mark : ℕ) (new : Seen) (answer : Result PurgeAction Fail)
    → Enters (answered item.Action answer)
    (Looks app hook.PurgeAction (item.Request (request_head old)) mark old new) old new
    → IfOk answer (λ action. AsksAction (IsAllowed app modules) action old mark new)
unfolding leaves_turn looks_turn
asks_action app modules old mark new (Ok action) looks =
    record {
      turn =
          looks_turn app modules hook.PurgeAction refl (item.Request (request_head old)) old mark
          new (only (item.Action action)) station.purging station.purged (λ at. refl) looks;
      input = refl;
      output = refl;
      stays =
          looks.rest ∙ ap (λ (s : Seen). record s { log = new.log; wrote = [] }) looks.lawful;
    }
asks_action app modules old mark new (Err why) looks = tt

-- of an answer that is sought no final head was queued, and of the request the head was read
is_open_to : (read answered : Bool) → read ≡ true → answered ≡ false
    → (read && not answered) ≡ true
is_open_to true false is_read open_to = refl
is_open_to true true is_read open_to = absurd (true≢false open_to)
is_open_to false answered is_read open_to = absurd (true≢false (sym is_read))

-- behind it the second turn may come
pub ready_asks : (app : Standing → LogEntry → Type 0) (old : Seen) (mark : ℕ) (new : Seen)
    (answer : Result PurgeAction Fail) → is_some (head_of old.downstream.reading) ≡ true
    → is_answered old ≡ false
    → Enters (answered item.Action answer)
    (Looks app hook.PurgeAction (item.Request (request_head old)) mark old new) old new
    → may_go_on answer new ≡ true
ready_asks app old mark new (Ok action) read open_to looks =
    subst (λ (s : Seen). may_go_on (Ok action) s ≡ true)
    (sym (looks.rest ∙ ap (λ (s : Seen). record s { log = new.log; wrote = [] }) looks.lawful))
    (is_open_to (is_some (head_of old.downstream.reading)) (is_answered old) read open_to)
ready_asks app old mark new (Err why) read open_to looks = refl

-- an error is not out of memory
abbrev is_error : Fail → Bool
is_error (fail.Error error) = true
is_error fail.OutOfMemory = false

-- a call that fails out of memory alone leaves the log where it fails
pub lost_asks : (called : Left → Type 0) (old new : Seen) (answer : Result PurgeAction Fail)
    → IsOkUnless answer fail.OutOfMemory → Enters (answered item.Action answer) called old new
    → OnErr answer (new.log ≡ old.log)
lost_asks called old new (Ok action) memory call = tt
lost_asks called old new (Err (fail.Error error)) memory call =
    absurd (true≢false (ap is_error memory))
lost_asks called old new (Err fail.OutOfMemory) memory same = same

-- ---- the second turn

-- the head that is lent is that of the request
pub is_lent : (seen : Seen) (head : RequestHead) → head_of seen.downstream.reading ≡ Some head
    → head ≡ request_head seen
is_lent seen head is = sym (ap (λ (h : Option RequestHead). unwrap_or h (new_request [] [])) is)

-- the purger was asked for the head that was lent, and so for the request
pub asked_of : (before : PurgerState) (action : PurgeAction) (seen : Seen) (after : PurgerState)
    (head : RequestHead) (answer : Purged) → head_of seen.downstream.reading ≡ Some head
    → Asks before action head after answer → Asks before action (request_head seen) after answer
asked_of before action seen after head answer lent asks =
    subst (λ (h : RequestHead). Asks before action h after answer) (is_lent seen head lent) asks

-- a hook that left its session as it was queued nothing
stays_leaves : (old new : Seen) → Stays old new → Leaves old new
stays_leaves old new same =
    subst (λ (s : Seen). Leaves old s) (sym same)
    (record {
      request = record { head = λ h. h; but_head = λ head. refl; untouched = λ h. refl };
      rest = refl;
    })

-- what the relay queues behind a call is no call
queued_behind : (allows : Standing → LogEntry → Type 0) (old : Seen) (before : ℕ) (mid new : Seen)
    (behind : ℕ) (e : LogEntry) → is_answered mid ≡ false
    → new ≡ with_response mid new.downstream.writing → CallsOnce allows old before mid behind e
    → CallsOnce allows old before new behind e
queued_behind allows old before mid new behind e open_to rest calls =
    record {
      log = ap (λ (s : Seen). s.log) rest ∙ calls.log;
      walk =
          Walk-append allows (e ∷ []) [] (standing None false (moment old before))
          (standing None false (moment mid behind)) (standing None false (moment new behind))
          calls.walk
          (record {
            mark = refl;
            head = ap request_head rest;
            keepalive = ap (λ (s : Seen). s.keepalive) rest;
            final_head = λ h. absurd (true≢false (sym h ∙ open_to));
            upgraded = λ h. h;
          });
      reads =
          subst (λ (s : Seen). ReadsNothing old s) (sym rest)
          (record { head = calls.reads.head; but_head = calls.reads.but_head });
      rest =
          KeepsRest-trans old mid new calls.rest
          (subst (λ (s : Seen). KeepsRest mid s) (sym rest) refl);
    }

module _ (app : Standing → LogEntry → Type 0) (modules : ModuleCall → Type 0) (status : PurgeStatus)
    (old : Seen) (mark : ℕ) (mid : Seen) (behind : ℕ) (left : Left)
    (call : CallsOf None false Stays app hook.PurgeResponseFilter (item.Status (purged_of status))
    old mark mid behind left) where
  -- the session stands open to an answer where it did before
  pub stays_open_to : is_answered old ≡ false → is_answered mid ≡ false
  stays_open_to open_to =
      ap is_answered call.rest ∙ (ap is_answered call.lawful ∙ open_to)

  -- its response is as it was
  stays_written : mid.downstream.writing ≡ old.downstream.writing
  stays_written =
      ap (λ (s : Seen). s.downstream.writing) call.rest
      ∙ ap (λ (s : Seen). s.downstream.writing) call.lawful

  module _ (action : PurgeAction) (asked told : PurgerState) (new : Seen) (head : ResponseHead)
      (bodiless : IsBodiless head) (open_to : is_answered old ≡ false)
      (asks : Asks asked action (request_head old) told (purged_of status))
      (leads : (at : Moment) → next station.purged
      (entry hook.PurgeResponseFilter (item.Status (purged_of status))
      (moment (cleared old) mark) left at) ≡ Some station.answered)
      (is_told : (at : Moment) → head_told
      (entry hook.PurgeResponseFilter (item.Status (purged_of status))
      (moment (cleared old) mark) left at) ≡ Some head) where
    -- the answer that the entry tells was queued, or could not be
    purged_once : (how : End) → QueuesBehind head mid new how
        → PurgesOnce (IsAllowed app modules) action asked told old mark new behind how
    unfolding leaves_turn
    purged_once how queues =
        let turn = leaves_turn app modules hook.PurgeResponseFilter refl
        (item.Status (purged_of status)) old mark mid behind Stays left station.purged
        station.answered (λ r h. stays_leaves (cleared old) r h) leads call in
        record {
          status = status;
          head = head;
          asks = asks;
          turn = record {
            e = turn.e;
            calls =
                queued_behind (IsAllowed app modules) old mark mid new behind turn.e
                (stays_open_to open_to) queues.rest turn.calls;
            hook = refl;
            order = turn.order;
            queued = record {
              wrote_none = turn.queued.wrote_none;
              queued =
                  subst (λ (w : Writing). QueuesHead head how w new.downstream.writing)
                  stays_written queues.queued;
            };
          };
          input = refl;
          told = is_told (moment call.returned behind);
          bodiless = bodiless;
        }

    -- by how it ended
    purged_to : (how : End) → QueuesBehind head mid new how
        → PurgesTo (IsAllowed app modules) action asked told old mark new behind how
    purged_to end.Answered queues = purged_once end.Answered queues
    purged_to (end.Unwritten why) queues = purged_once (end.Unwritten why) queues
    purged_to end.Lost queues = absurd queues.queued

module _ (app : Standing → LogEntry → Type 0) (modules : ModuleCall → Type 0) (status : PurgeStatus)
    (old : Seen) (mark : ℕ) (mid : Seen) (behind : ℕ) (action : PurgeAction)
    (asked told : PurgerState) (new : Seen) (open_to : is_answered old ≡ false)
    (asks : Asks asked action (request_head old) told (purged_of status)) where
  -- the head that the filter left was queued
  pub purges_filtered : (head : ResponseHead) → IsBodiless head
      → CallsOf None false Stays app hook.PurgeResponseFilter (item.Status (purged_of status)) old
      mark mid behind (only (item.Response head true))
      → (how : End) → QueuesBehind head mid new how
      → PurgesTo (IsAllowed app modules) action asked told old mark new behind how
  purges_filtered head bodiless call how queues =
      purged_to app modules status old mark mid behind (only (item.Response head true)) call action
      asked told new head bodiless open_to asks (λ at. refl) (λ at. refl) how queues

  -- or, where it failed, that of the relay's own 500
  pub purges_refused : (left : ResponseHead) (why : Fail) (error : Error) → why ≡ fail.Error error
      → Enters (changed {T = Unit} (item.Response left true) (Err why))
      (CallsOf None false Stays app hook.PurgeResponseFilter (item.Status (purged_of status)) old
      mark mid behind) old mid
      → (how : End) → QueuesBehind (generated_head 500 0) mid new how
      → PurgesTo (IsAllowed app modules) action asked told old mark new behind how
  purges_refused left fail.OutOfMemory error is call how queues =
      absurd (true≢false (sym (ap is_error is)))
  purges_refused left (fail.Error other) error is call how queues =
      purged_to app modules status old mark mid behind (failed (item.Response left true) other)
      call action asked told new (generated_head 500 0) refusal_bodiless open_to asks (λ at. refl)
      (λ at. refl) how queues
