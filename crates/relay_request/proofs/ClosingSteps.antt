-- The first turn of the end of a request: its error is answered.
--
--   answered_turn   the turn that answers it
--   lost_turn       and that out of memory
--   answered_by     its entry is one in which that error was answered
--   queued_by       and tells what was queued
--   answered_with   the end stands behind it
--
-- And its other turns:
--
--   last_app        whatever the modules allow
--   last_counts     what one counts
--   may_call        it may be called
use Rattle.std.proofs.Common.{◌≡◌, ℕ, Bool, false, true, List, [], ◌∷◌, None, Some, append-nil, ap, arith, refl, subst, sym, true≢false, ◌∙◌}
use Rattle.std.specs.Prelude.{IsTrue, is_some, if◌then◌else◌}
use Rattle.relay_tasks.specs.declared.Error.{Error}
use Rattle.relay_tasks.specs.declared.hook.Hook.{Hook}
use Rattle.relay_tasks.specs.declared.hook.Hook.TheVariants as hook
use Rattle.relay_tasks.specs.declared.log.LogEntry.{LogEntry}
use Rattle.relay_tasks.specs.declared.task.HttpTask.{HttpTask}
use Rattle.relay_session.specs.Reading.{head_of}
use Rattle.relay_session.specs.declared.writing.Writing.{Writing}
use Rattle.relay_session.specs.declared.session.HttpSession.{HttpSession}
use Rattle.relay_modules.specs.Module.{ModuleCall}
use Rattle.relay_modules.specs.declared.seen.Seen.{Seen}
use Rattle.relay_hooks.specs.Session.{moment}
use Rattle.relay_hooks.specs.Standing.{Standing, standing}
use Rattle.relay_calls.specs.Log.{AllowsBy, IsAllowed, Walk, is_module}
use Rattle.relay_phases.specs.Order.{Station}
use Rattle.relay_phases.specs.Order.{Station as station}
use Rattle.relay_phases.specs.Turns.{Turns, wrote_in}
use Rattle.relay_closing.specs.Closes.{TurnsOn, TurnsTo}
use Rattle.relay_closing.specs.Place.{begun, end_station, is_lost, may_begin, may_go_on, station_of}
use Rattle.relay_closing.specs.declared.place.Place.{Place}
use Rattle.relay_closing.specs.declared.place.Cause.TheVariants as cause
use Rattle.relay_closing.specs.declared.place.End.TheVariants as end
use Rattle.relay_closing.specs.declared.place.Place.TheVariants as place
use Rattle.relay_closing.specs.declared.place.Stage.TheVariants as stage
use Rattle.relay_closing.specs.Queued.{QueuesOnce}
use Rattle.relay_closing.specs.declared.place.Failure.{Failure}
use Rattle.relay_closing.specs.declared.place.Stage.{Stage}
use Rattle.relay_closing.specs.Queued.{queues_at}
use Rattle.relay_request.specs.Calls.{AnswersError, CountsCalls, HasAnswered, has_last, seen_with}
use Rattle.relay_request.specs.ClosingHooks.{calls_next}
use Rattle.relay_request.specs.Sent.{IsAnswered}
use Rattle.relay_request.specs.declared.calls.At.{At}
use Rattle.relay_request.specs.declared.calls.At.TheVariants as at
use Rattle.relay_request.specs.declared.calls.Calls.{Calls}
use Rattle.relay_request.specs.declared.work.Work.{Work}
use Rattle.relay_request.specs.declared.work.TheConstants.Work.{CALLED, NONE}
use Rattle.relay_request.proofs.CallLemmas.{none_called, one_called}

-- ---- calls of the application

-- what is allowed of a call that is none of the modules does not depend on what they allow
allowed_app : (app : Standing → LogEntry → Type 0) (modules others : ModuleCall → Type 0)
    (st : Standing) (e : LogEntry) (of_module : Bool) → of_module ≡ false
    → AllowsBy of_module app modules st e → AllowsBy of_module app others st e
allowed_app app modules others st e true is allowed = absurd (true≢false is)
allowed_app app modules others st e false is allowed = allowed

walk_app : (app : Standing → LogEntry → Type 0) (modules others : ModuleCall → Type 0)
    (from to : Standing) (e : LogEntry) → is_module e.hook ≡ false
    → Walk (IsAllowed app modules) from (e ∷ []) to → Walk (IsAllowed app others) from (e ∷ []) to
walk_app app modules others from to e is (st, views, fits, allowed, rest) =
    (st, views, fits, allowed_app app modules others st e (is_module e.hook) is allowed, rest)

-- nor does a turn that calls such a hook
turn_app : (app : Standing → LogEntry → Type 0) (modules others : ModuleCall → Type 0)
    (which : Hook) → is_module which ≡ false → (from to : Station)
    (queues : Writing → Writing → List HttpTask → Type 0) (old : Seen) (before : ℕ) (new : Seen)
    (behind : ℕ) → Turns (IsAllowed app modules) which from to queues old before new behind
    → Turns (IsAllowed app others) which from to queues old before new behind
turn_app app modules others which is from to queues old before new behind turn = record {
  e = turn.e;
  calls = record {
    log = turn.calls.log;
    walk = walk_app app modules others (standing None false (moment old before))
        (standing None false (moment new behind)) turn.e
        (ap (λ (h : Hook). is_module h) turn.hook ∙ is) turn.calls.walk;
    reads = turn.calls.reads;
    rest = turn.calls.rest;
  };
  hook = turn.hook;
  order = turn.order;
  queued = turn.queued;
}

-- ---- the turn

-- the turn that begins the end with an error answers it, out of memory aside
answered_by_turn : {K : Type 0} (allows : Standing → LogEntry → Type 0) (error : Error)
    (from : Station) (old : Seen) (before : ℕ) (new : Seen) (behind : ℕ) (to : Place K)
    → is_lost to ≡ false
    → TurnsOn allows from false (begun {K = K} (Some error)) old before new behind to
    → AnswersError allows error from old before new behind
answered_by_turn allows error from old before new behind (place.At (stage.Failing e)) kept asks =
    absurd asks.leads
answered_by_turn allows error from old before new behind (place.At (stage.Told told)) kept asks =
    record { turn = asks.turn; input = asks.input }
answered_by_turn allows error from old before new behind (place.At (stage.Reporting told)) kept asks
    = let was : stage.Failing error ≡ stage.Told told = asks.leads.0 in cc
answered_by_turn allows error from old before new behind
    (place.At (stage.Ending cause.Finished)) kept asks = absurd asks.leads
answered_by_turn allows error from old before new behind
    (place.At (stage.Ending (cause.Hidden told))) kept asks =
    let was : stage.Failing error ≡ stage.Told told = asks.leads.0 in cc
answered_by_turn allows error from old before new behind
    (place.At (stage.Ending (cause.Reported told summary))) kept asks =
    let was : stage.Failing error ≡ stage.Reporting told = asks.leads.0 in cc
answered_by_turn allows error from old before new behind (place.At (stage.Logged why)) kept asks =
    let was : stage.Failing error ≡ stage.Ending why = asks.leads.0 in cc
answered_by_turn allows error from old before new behind (place.Ended (end.Gone why)) kept asks =
    let was : stage.Failing error ≡ stage.Ending why = asks.leads.0 in cc
answered_by_turn allows error from old before new behind (place.Ended (end.Kept why value)) kept
    asks = let was : stage.Failing error ≡ stage.Logged why = asks.leads.0 in cc
answered_by_turn allows error from old before new behind place.Lost kept asks =
    absurd (true≢false kept)

-- whatever the modules allow
pub answered_turn : {K : Type 0} (app : Standing → LogEntry → Type 0)
    (modules others : ModuleCall → Type 0) (error : Error) (from : Station) (old : Seen)
    (before : ℕ) (new : Seen) (behind : ℕ) (to : Place K) → is_lost to ≡ false
    → TurnsOn (IsAllowed app modules) from false (begun {K = K} (Some error)) old before new behind
    to
    → AnswersError (IsAllowed app others) error from old before new behind
unfolding answered_by_turn turn_app
answered_turn app modules others error from old before new behind to kept turns =
    let answers = answered_by_turn (IsAllowed app modules) error from old before new behind to kept
    turns in
    record {
      turn = turn_app app modules others hook.FailToProxy refl from station.told QueuesOnce old
          before new behind answers.turn;
      input = answers.input;
    }

-- the end stands behind it, told of that error
record IsTold {K : Type 0} (error : Error) (to : Place K) : Type 0 where
  told : Failure
  is_told : to ≡ place.At (stage.Told told)
  error_is : told.error ≡ error

told_by_turn : {K : Type 0} (allows : Standing → LogEntry → Type 0) (error : Error)
    (from : Station) (old : Seen) (before : ℕ) (new : Seen) (behind : ℕ) (to : Place K)
    → is_lost to ≡ false
    → TurnsOn allows from false (begun {K = K} (Some error)) old before new behind to
    → IsTold error to
told_by_turn allows error from old before new behind (place.At (stage.Failing e)) kept asks =
    absurd asks.leads
told_by_turn allows error from old before new behind (place.At (stage.Told told)) kept asks =
    let was : stage.Failing error ≡ stage.Failing told.error = asks.leads.0 in
    record { told = told; is_told = refl; error_is = cc }
told_by_turn allows error from old before new behind (place.At (stage.Reporting told)) kept asks =
    let was : stage.Failing error ≡ stage.Told told = asks.leads.0 in cc
told_by_turn allows error from old before new behind (place.At (stage.Ending cause.Finished)) kept
    asks = absurd asks.leads
told_by_turn allows error from old before new behind
    (place.At (stage.Ending (cause.Hidden told))) kept asks =
    let was : stage.Failing error ≡ stage.Told told = asks.leads.0 in cc
told_by_turn allows error from old before new behind
    (place.At (stage.Ending (cause.Reported told summary))) kept asks =
    let was : stage.Failing error ≡ stage.Reporting told = asks.leads.0 in cc
told_by_turn allows error from old before new behind (place.At (stage.Logged why)) kept asks =
    let was : stage.Failing error ≡ stage.Ending why = asks.leads.0 in cc
told_by_turn allows error from old before new behind (place.Ended (end.Gone why)) kept asks =
    let was : stage.Failing error ≡ stage.Ending why = asks.leads.0 in cc
told_by_turn allows error from old before new behind (place.Ended (end.Kept why value)) kept asks =
    let was : stage.Failing error ≡ stage.Logged why = asks.leads.0 in cc
told_by_turn allows error from old before new behind place.Lost kept asks =
    absurd (true≢false kept)

-- and its context is held there
pub answered_with : {C M K : Type 0} (app : Standing → LogEntry → Type 0)
    (modules others : ModuleCall → Type 0) (mark_of : C → ℕ) (error : Error) (from : Station)
    (old : Seen) (before : ℕ) (calls : Calls M K C) (client : HttpSession) (context : C)
    (to : Place K) → calls.at ≡ at.Closing context to → is_lost to ≡ false
    → TurnsOn (IsAllowed app modules) from false (begun {K = K} (Some error)) old before
    (seen_with calls client) (mark_of context) to
    → HasAnswered (IsAllowed app others) mark_of error from old before calls client
unfolding told_by_turn answered_turn
answered_with app modules others mark_of error from old before calls client context to is kept turns
    =
    let told = told_by_turn (IsAllowed app modules) error from old before (seen_with calls client)
    (mark_of context) to kept turns in
    record {
      context = context;
      told = told.told;
      is_at = is ∙ ap (λ (p : Place _). at.Closing context p) told.is_told;
      error_is = told.error_is;
      answers = answered_turn app modules others error from old before (seen_with calls client)
          (mark_of context) to kept turns;
    }

-- a hook of the end was called, whatever the modules allow; out of memory no entry is new
turns_app : {K : Type 0} (app : Standing → LogEntry → Type 0) (modules others : ModuleCall → Type 0)
    (which : Hook) → is_module which ≡ false → (start : Station) (from : Stage) (old : Seen)
    (before : ℕ) (new : Seen) (behind : ℕ) (to : Place K)
    → TurnsTo (IsAllowed app modules) which start from old before new behind to
    → TurnsTo (IsAllowed app others) which start from old before new behind to
unfolding turn_app
turns_app app modules others which is start from old before new behind (place.At at) asks = record {
  turn = turn_app app modules others which is (station_of start from) (station_of start at)
      (queues_at from) old before new behind asks.turn;
  input = asks.input;
  leads = asks.leads;
}
turns_app app modules others which is start from old before new behind (place.Ended how) asks =
    record {
      turn = turn_app app modules others which is (station_of start from) (end_station how)
          (queues_at from) old before new behind asks.turn;
      input = asks.input;
      leads = asks.leads;
    }
turns_app app modules others which is start from old before new behind place.Lost same = same

pub last_app : {K : Type 0} (app : Standing → LogEntry → Type 0)
    (modules others : ModuleCall → Type 0) (start : Station) (goes_back : Bool) (from : Place K)
    (old : Seen) (before : ℕ) (new : Seen) (behind : ℕ) (to : Place K)
    → TurnsOn (IsAllowed app modules) start goes_back from old before new behind to
    → TurnsOn (IsAllowed app others) start goes_back from old before new behind to
last_app app modules others start goes_back (place.At (stage.Failing error)) old before new behind
    to
    turns =
    turns_app app modules others hook.FailToProxy refl start (stage.Failing error) old before new
    behind to turns
last_app app modules others start goes_back (place.At (stage.Told told)) old before new behind to
    turns =
    turns_app app modules others hook.SuppressErrorLog refl start (stage.Told told) old before new
    behind to turns
last_app app modules others start goes_back (place.At (stage.Reporting told)) old before new behind
    to turns =
    turns_app app modules others hook.RequestSummary refl start (stage.Reporting told) old before
    new
    behind to turns
last_app app modules others start goes_back (place.At (stage.Ending why)) old before new behind to
    turns =
    turns_app app modules others hook.Logging refl start (stage.Ending why) old before new behind to
    turns
last_app app modules others start true (place.At (stage.Logged why)) old before new behind to turns
    =
    turns_app app modules others hook.PersistConnectionContext refl start (stage.Logged why) old
    before new behind to turns
last_app app modules others start false (place.At (stage.Logged why)) old before new behind to turns
    = turns
last_app app modules others start goes_back (place.Ended how) old before new behind to turns = turns
last_app app modules others start goes_back place.Lost old before new behind to turns = turns

-- a call of the end adds one entry, or none out of memory
counts_turn : {C M K : Type 0} (allows : Standing → LogEntry → Type 0) (which : Hook)
    (start : Station) (from : Stage) (old new : Calls M K C) (before behind : ℕ) (to : Place K)
    (work : Work)
    → TurnsTo allows which start from old.session.seen before new.session.seen behind to
    → work ≡ (if is_lost to then NONE else CALLED) → CountsCalls old new work
counts_turn allows which start from old new before behind (place.At at) work turns is =
    one_called old new work (rw is (omega arith)) turns.turn.e turns.turn.calls.log
counts_turn allows which start from old new before behind (place.Ended how) work turns is =
    one_called old new work (rw is (omega arith)) turns.turn.e turns.turn.calls.log
counts_turn allows which start from old new before behind place.Lost work turns is =
    none_called old new work (rw is refl) turns

pub last_counts : {C M K : Type 0} (allows : Standing → LogEntry → Type 0) (goes_back : Bool)
    (start : Station) (from : Place K) (old new : Calls M K C) (before behind : ℕ) (to : Place K)
    (work : Work) → calls_next from goes_back ≡ true
    → TurnsOn allows start goes_back from old.session.seen before new.session.seen behind to
    → work ≡ (if is_lost to then NONE else CALLED) → CountsCalls old new work
last_counts allows goes_back start (place.At (stage.Failing error)) old new before behind to work
    calls
    turns is =
    counts_turn allows hook.FailToProxy start (stage.Failing error) old new before behind to work
    turns is
last_counts allows goes_back start (place.At (stage.Told told)) old new before behind to work calls
    turns is =
    counts_turn allows hook.SuppressErrorLog start (stage.Told told) old new before behind to work
    turns is
last_counts allows goes_back start (place.At (stage.Reporting told)) old new before behind to work
    calls turns is =
    counts_turn allows hook.RequestSummary start (stage.Reporting told) old new before behind to
    work
    turns is
last_counts allows goes_back start (place.At (stage.Ending why)) old new before behind to work calls
    turns is =
    counts_turn allows hook.Logging start (stage.Ending why) old new before behind to work turns is
last_counts allows true start (place.At (stage.Logged why)) old new before behind to work calls
    turns
    is =
    counts_turn allows hook.PersistConnectionContext start (stage.Logged why) old new before behind
    to
    work turns is
last_counts allows false start (place.At (stage.Logged why)) old new before behind to work calls
    turns
    is = absurd (true≢false (sym calls))
last_counts allows goes_back start (place.Ended how) old new before behind to work calls turns is =
    absurd (true≢false (sym calls))
last_counts allows goes_back start place.Lost old new before behind to work calls turns is =
    absurd (true≢false (sym calls))

-- a hook may be called wherever the end stands, once the head was read
pub may_call : {K : Type 0} (there : Place K) (seen : Seen)
    → is_some (head_of seen.downstream.reading) ≡ true → IsTrue (may_go_on there seen)
may_call (place.At at) seen read = read
may_call (place.Ended how) seen read = refl
may_call place.Lost seen read = refl

-- a hook is called next where the end stands
pub closing_calls : {K X : Type 0} (a : At K X) (held : X) (there : Place K) (goes_back : Bool)
    → a ≡ at.Closing held there → has_last a goes_back ≡ true → calls_next there goes_back ≡ true
closing_calls a held there goes_back is calls =
    sym (ap (λ (b : At _ _). has_last b goes_back) is) ∙ calls

-- some station lets the end stand there
pub some_begin : {K : Type 0} (there : Place K)
    → (start : Station) × IsTrue (may_begin start there)
some_begin (place.At (stage.Failing error)) = (station.failing, refl)
some_begin (place.At (stage.Told told)) = (station.told, refl)
some_begin (place.At (stage.Reporting told)) = (station.told, refl)
some_begin (place.At (stage.Ending cause.Finished)) = (station.sent, refl)
some_begin (place.At (stage.Ending (cause.Hidden told))) = (station.told, refl)
some_begin (place.At (stage.Ending (cause.Reported told summary))) = (station.told, refl)
some_begin (place.At (stage.Logged why)) = (station.told, refl)
some_begin (place.Ended how) = (station.told, refl)
some_begin place.Lost = (station.told, refl)

-- out of memory no entry is new
pub lost_turn : {K : Type 0} (allows : Standing → LogEntry → Type 0) (error : Error)
    (from : Station) (old : Seen) (before : ℕ) (new : Seen) (behind : ℕ) (to : Place K)
    → is_lost to ≡ true
    → TurnsOn allows from false (begun {K = K} (Some error)) old before new behind to
    → new.log ≡ old.log
lost_turn allows error from old before new behind (place.At at) lost asks =
    absurd (true≢false (sym lost))
lost_turn allows error from old before new behind (place.Ended how) lost asks =
    absurd (true≢false (sym lost))
lost_turn allows error from old before new behind place.Lost lost same = same

-- ---- the call

module _ (allows : Standing → LogEntry → Type 0) {error : Error} {from : Station} {old : Seen}
    {before : ℕ} {new : Seen} {behind : ℕ}
    (answers : AnswersError allows error from old before new behind)
  where
    pub answered_by : IsAnswered (answers.turn.e ∷ []) error
    answered_by = record {
      first = answers.turn.e;
      rest = [];
      closed_are = refl;
      is_answer = answers.turn.hook;
      told = answers.input;
    }

    pub queued_by : QueuesOnce old.downstream.writing new.downstream.writing
        (wrote_in (answers.turn.e ∷ []))
    queued_by =
        subst (λ (l : List HttpTask). QueuesOnce old.downstream.writing new.downstream.writing l)
        (sym (append-nil answers.turn.e.wrote)) answers.turn.queued
