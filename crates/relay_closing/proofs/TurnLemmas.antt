-- Where each call leads.
use Rattle.std.proofs.Common.{◌≡◌, ℕ, Bool, true, false, None, Ok, inl, inr, is_some, Option, List, refl, sym, ap, ◌∙◌, true≢false}
use Rattle.relay_tasks.specs.declared.error.Error.{Error}
use Rattle.relay_tasks.specs.declared.hook.Hook.TheVariants as hook
use Rattle.relay_tasks.specs.declared.log.Item.{Item}
use Rattle.relay_tasks.specs.declared.log.Item.TheVariants as item
use Rattle.relay_tasks.specs.declared.log.LogEntry.{LogEntry}
use Rattle.relay_modules.specs.Module.{ModuleCall}
use Rattle.relay_modules.specs.declared.seen.Seen.{Seen}
use Rattle.relay_hooks.specs.Call.{failure, only}
use Rattle.relay_hooks.specs.Laws.{AnswersOnce}
use Rattle.relay_hooks.specs.Session.{Leaves, moment, request_head}
use Rattle.relay_hooks.specs.Standing.{Moment, Standing}
use Rattle.relay_hooks.specs.declared.failing.FailToProxy.{FailToProxy}
use Rattle.relay_calls.specs.Calls.{Calls, CallsOf}
use Rattle.relay_calls.specs.Entry.{cleared}
use Rattle.relay_calls.specs.Log.{IsAllowed}
use Rattle.relay_phases.specs.Looks.{Looks}
use Rattle.relay_phases.specs.Order.{Station}
use Rattle.relay_phases.specs.Order.{Station as station}
use Rattle.relay_phases.proofs.TurnLemmas.{Calls-app, Kept, Kept-leaves, Kept-queues, Leads, entered, leaves_turn, looks_turn, queued_answers_to, queued_noted, queued_nothing, queued_open}
use Rattle.relay_closing.specs.Closes.{Asks, TurnsTo}
use Rattle.relay_closing.specs.Place.{CameTo, begins_at, error_of, logged, may_fail, may_finish, station_of}
use Rattle.relay_closing.specs.Queued.{QueuesOnce}
use Rattle.relay_closing.specs.declared.place.Cause.{Cause}
use Rattle.relay_closing.specs.declared.place.Cause.TheVariants as cause
use Rattle.relay_closing.specs.declared.place.End.TheVariants as end
use Rattle.relay_closing.specs.declared.place.Failure.{Failure}
use Rattle.relay_closing.specs.declared.place.Place.TheVariants as place
use Rattle.relay_closing.specs.declared.place.Stage.TheVariants as stage

-- ---- the stations at which the end may begin

-- where an error may be final, `fail_to_proxy` may come
fails_at : (start : Station) → may_fail start ≡ true → (input output : Item) (at : Moment)
    → Leads hook.FailToProxy input at (only output) start station.told
fails_at station.failing h input output at = λ behind. refl
fails_at station.repeatable h input output at = λ behind. refl
fails_at station.answered h input output at = λ behind. refl
fails_at other h input output at = absurd (true≢false (sym h))

-- where a request may end without an error, `logging` may
finishes_at : (start : Station) → may_finish start ≡ true → (input : Item) (at : Moment)
    → Leads hook.Logging input at (only item.Nothing) start station.logged
finishes_at station.answered h input at = λ behind. refl
finishes_at station.sent h input at = λ behind. refl
finishes_at station.relaying h input at = λ behind. refl
finishes_at station.at_trailers h input at = λ behind. refl
finishes_at other h input at = absurd (true≢false (sym h))

-- and so it may wherever all but `logging` is over
logs_at : (start : Station) (why : Cause) → begins_at start (stage.Ending why) ≡ true
    → (input : Item) (at : Moment)
    → Leads hook.Logging input at (only item.Nothing) (station_of start (stage.Ending why))
    station.logged
logs_at start cause.Finished h input at = finishes_at start h input at
logs_at start (cause.Hidden told) h input at = λ behind. refl
logs_at start (cause.Reported told summary) h input at = λ behind. refl

-- ---- each call

module _ (app : Standing → LogEntry → Type 0) (modules : ModuleCall → Type 0) (start : Station)
    (old : Seen) (before : ℕ) (new : Seen) (mark : ℕ) where
  -- the client was answered for the error
  module _ (error : Error) (answer : FailToProxy)
      (call : CallsOf None false (AnswersOnce (Ok answer)) app hook.FailToProxy
      (item.Failure error) old before new mark
      (only (item.Code answer.error_code answer.can_reuse_downstream)))
      (may : may_fail start ≡ true) where
    abbrev output : Item
    output = item.Code answer.error_code answer.can_reuse_downstream

    abbrev e : LogEntry
    e =
        entered app modules (AnswersOnce (Ok answer)) hook.FailToProxy (item.Failure error) old
        before new mark (only output) call

    -- the hook kept the session, and what it queued is told
    told_by : Kept (cleared old) call.returned
        → QueuesOnce old.downstream.writing new.downstream.writing e.wrote
        → Asks (IsAllowed app modules) hook.FailToProxy start (stage.Failing error) station.told
        (CameTo (stage.Told (record { error = error; answer = answer }))) old before new mark
    told_by kept queued =
        record {
          turn = record {
            e = e;
            calls =
                Calls-app app modules (AnswersOnce (Ok answer)) hook.FailToProxy
                (item.Failure error) old before new mark (only output) call refl kept;
            hook = refl;
            order =
                fails_at start may (item.Failure error) output (moment (cleared old) before)
                (moment call.returned mark);
            queued = queued;
          };
          input = refl;
          leads = (refl, refl);
        }

    pub tells_turn : AnswersOnce (Ok answer) (cleared old) call.returned
        → Asks (IsAllowed app modules) hook.FailToProxy start (stage.Failing error) station.told
        (CameTo (stage.Told (record { error = error; answer = answer }))) old before new mark
    tells_turn (inl leaves) =
        told_by (Kept-leaves (cleared old) call.returned leaves)
        (inl (queued_nothing app modules (AnswersOnce (Ok answer)) hook.FailToProxy
        (item.Failure error) old before new mark (only output) call leaves))
    tells_turn (inr (queues, open_to, once)) =
        told_by (Kept-queues (cleared old) call.returned open_to queues)
        (inr (record {
          open_to = open_to;
          queued =
              queued_noted app modules (AnswersOnce (Ok answer)) hook.FailToProxy
              (item.Failure error) old before new mark (only output) call queues;
          answers_to =
              queued_answers_to app modules (AnswersOnce (Ok answer)) hook.FailToProxy
              (item.Failure error) old before new mark (only output) call queues;
          stays_open =
              queued_open app modules (AnswersOnce (Ok answer)) hook.FailToProxy
              (item.Failure error) old before new mark (only output) call queues;
          answer = once;
        }))

  -- the same, whatever was answered
  pub fails_turn : (K : Type 0) (error : Error) → may_fail start ≡ true
      → (answer : FailToProxy)
      → CallsOf None false (AnswersOnce (Ok answer)) app hook.FailToProxy (item.Failure error) old
      before new mark (only (item.Code answer.error_code answer.can_reuse_downstream))
      → TurnsTo (IsAllowed app modules) {K = K} hook.FailToProxy start (stage.Failing error) old
      before new mark
      (place.At (stage.Told (record { error = error; answer = answer })))
  fails_turn K error may answer call = tells_turn error answer call may call.lawful

  -- the request is over, and its end was told
  pub logs_turn : (K : Type 0) (why : Cause) → begins_at start (stage.Ending why) ≡ true
      → (stays : Bool) → new.keepalive ≡ stays
      → Calls app hook.Logging (failure (error_of why)) old before new mark (only item.Nothing)
      → TurnsTo (IsAllowed app modules) {K = K} hook.Logging start (stage.Ending why) old before
      new mark (logged why stays)
  unfolding leaves_turn
  logs_turn K why may true is call =
      record {
        turn =
            leaves_turn app modules hook.Logging refl (failure (error_of why)) old before new mark
            Leaves (only item.Nothing) (station_of start (stage.Ending why)) station.logged
            (λ r h. h)
            (logs_at start why may (failure (error_of why)) (moment (cleared old) before)) call;
        input = refl;
        leads = (refl, refl, sym (ap (λ (s : Seen). s.keepalive) call.rest) ∙ is);
      }
  logs_turn K why may false is call =
      record {
        turn =
            leaves_turn app modules hook.Logging refl (failure (error_of why)) old before new mark
            Leaves (only item.Nothing) (station_of start (stage.Ending why)) station.logged
            (λ r h. h)
            (logs_at start why may (failure (error_of why)) (moment (cleared old) before)) call;
        input = refl;
        leads = (refl, refl, sym (ap (λ (s : Seen). s.keepalive) call.rest) ∙ is);
      }

-- ---- hooks that only look

module _ (app : Standing → LogEntry → Type 0) (modules : ModuleCall → Type 0) (start : Station)
    (old : Seen) (mark : ℕ) (new : Seen) where
  -- the error is not to be written
  pub hides_turn : (K : Type 0) (told : Failure)
      → Looks app hook.SuppressErrorLog (item.Failure told.error) mark old new
      (only (item.Answer true))
      → TurnsTo (IsAllowed app modules) {K = K} hook.SuppressErrorLog start (stage.Told told) old
      mark new mark (place.At (stage.Ending (cause.Hidden told)))
  unfolding leaves_turn looks_turn
  hides_turn K told looks =
      record {
        turn =
            looks_turn app modules hook.SuppressErrorLog refl (item.Failure told.error) old mark
            new (only (item.Answer true)) station.told station.ending (λ behind. refl) looks;
        input = refl;
        leads = (refl, refl);
      }

  -- it is
  pub shows_turn : (K : Type 0) (told : Failure)
      → Looks app hook.SuppressErrorLog (item.Failure told.error) mark old new
      (only (item.Answer false))
      → TurnsTo (IsAllowed app modules) {K = K} hook.SuppressErrorLog start (stage.Told told) old
      mark new mark (place.At (stage.Reporting told))
  unfolding leaves_turn looks_turn
  shows_turn K told looks =
      record {
        turn =
            looks_turn app modules hook.SuppressErrorLog refl (item.Failure told.error) old mark
            new (only (item.Answer false)) station.told station.reporting (λ behind. refl) looks;
        input = refl;
        leads = (refl, refl);
      }

  -- the request was asked for in one line
  pub reports_turn : (K : Type 0) (told : Failure) (summary : List ℕ)
      → Looks app hook.RequestSummary (item.Request (request_head old)) mark old new
      (only (item.Text summary))
      → TurnsTo (IsAllowed app modules) {K = K} hook.RequestSummary start (stage.Reporting told)
      old mark new mark (place.At (stage.Ending (cause.Reported told summary)))
  unfolding leaves_turn looks_turn
  reports_turn K told summary looks =
      record {
        turn =
            looks_turn app modules hook.RequestSummary refl (item.Request (request_head old)) old
            mark new (only (item.Text summary)) station.reporting station.ending (λ behind. refl)
            looks;
        input = refl;
        leads = (refl, refl);
      }

  -- it was asked what is kept
  pub keeps_turn : {K : Type 0} (why : Cause) (kept : Option K)
      → Looks app hook.PersistConnectionContext (item.Request (request_head old)) mark old new
      (only (item.Kept (is_some kept)))
      → TurnsTo (IsAllowed app modules) hook.PersistConnectionContext start (stage.Logged why) old
      mark new mark (place.Ended (end.Kept why kept))
  unfolding leaves_turn looks_turn
  keeps_turn why kept looks =
      record {
        turn =
            looks_turn app modules hook.PersistConnectionContext refl
            (item.Request (request_head old)) old mark new (only (item.Kept (is_some kept)))
            station.logged station.kept (λ behind. refl) looks;
        input = refl;
        leads = (refl, refl);
      }
