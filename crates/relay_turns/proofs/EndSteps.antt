-- The hooks of the end of a request: what a call of one leaves of the run so far, and what they
-- come to.
--
--   ends_served            a request of which such a hook is called next was served
--   begun_same .. logging_same, answered_on
--                          what is told of the start behind such a call
--   rests_on, rests_uses   a step in which no link is asked
--   calls_last, last_on    the calls so far and the run so far go on
--   gives_by, keeps_by     the outcome that is given, and the value that is kept
--   finishes_came, undone_limit, done_gives
--                          what a request came to that is brought to its end
use Rattle.std.proofs.Common.{◌≡◌, ◌≢◌, ℕ, ◌+◌, ◌⊎◌, Bool, true, false, ◌||◌, List, [], ◌∷◌, ◌++◌, append-nil, arith, length, Option, None, Some, is_some, not, refl, sym, ap, subst, ◌∙◌, true≢false, inl, inr}
use Rattle.std.specs.Prelude.{◌&&◌, IsSome, IsTrue, if◌then◌else◌}
use Rattle.std.specs.List.{list_any}
use Rattle.std.proofs.lemmas.List.Folds.{list_any-append}
use Rattle.relay_connector.specs.Connector.{Offer}
use Rattle.relay_links.specs.Link.{LinkState, LinkStart}
use Rattle.relay_connector.specs.declared.Returned.{Returned}
use Rattle.relay_links.proofs.GainsLemmas.{Gains-nothing}
use Rattle.relay_tasks.specs.Hooks.{same_hook}
use Rattle.relay_tasks.specs.declared.Error.{Error}
use Rattle.relay_tasks.specs.declared.Fault.{Fault}
use Rattle.relay_tasks.specs.declared.hook.Hook.{Hook}
use Rattle.relay_tasks.specs.declared.hook.Hook.TheVariants as hook
use Rattle.relay_tasks.specs.declared.log.Item.{Item}
use Rattle.relay_tasks.specs.declared.log.Item.TheVariants as item
use Rattle.relay_tasks.specs.declared.log.LogEntry.{LogEntry}
use Rattle.relay_session.specs.declared.session.HttpSession.{HttpSession}
use Rattle.relay_modules.specs.declared.seen.Seen.{Seen}
use Rattle.relay_hooks.specs.Call.{failure}
use Rattle.relay_hooks.specs.Session.{moment}
use Rattle.relay_hooks.specs.Standing.{Standing, standing}
use Rattle.relay_calls.specs.Log.{Walk}
use Rattle.relay_calls.proofs.LogLemmas.{Walk-append}
use Rattle.relay_phases.specs.Order.{Accepts, Station}
use Rattle.relay_phases.specs.Order.{Station}
use Rattle.relay_phases.specs.Order.{Station as station}
use Rattle.relay_phases.proofs.OrderLemmas.{Accepts-one}
use Rattle.relay_closing.specs.Closes.{Asks, TurnsAt, TurnsOn, TurnsTo, logged_in, logged_to}
use Rattle.relay_closing.specs.Place.{CameTo as LeadsTo, EndedBehind, begins_at, end_station, input_of, is_lost, may_begin, next_hook}
use Rattle.relay_closing.specs.Place.{station_of as closing_at}
use Rattle.relay_closing.specs.declared.place.Cause.{Cause}
use Rattle.relay_closing.specs.declared.place.Cause.TheVariants as cause
use Rattle.relay_closing.specs.declared.place.End.{End}
use Rattle.relay_closing.specs.declared.place.End.TheVariants as end
use Rattle.relay_closing.specs.declared.place.Place.{Place as Last}
use Rattle.relay_closing.specs.declared.place.Place.TheVariants as closing
use Rattle.relay_closing.specs.declared.place.Stage.{Stage}
use Rattle.relay_closing.specs.declared.place.Stage.TheVariants as stage
use Rattle.relay_attempt.specs.Passed.{Passed}
use Rattle.relay_request.specs.Ahead.{IsOwedAhead}
use Rattle.relay_request.specs.Bound.{IsWithin, OwnGave, PhaseCounts, most_sides}
use Rattle.relay_request.specs.Calls.{CallsLast, CallsSoFar, EndsBy, HasClosed, HasCome, IsLogged, IsUnended, KeepsValue, StandsAt, StandsBy, given_at, has_last, kept_at, last_from, last_of, log_of, reuse_of}
use Rattle.relay_request.specs.ClosingHooks.{Gives, calls_next, error_to, given, has_begun, is_gone, kept_in, stays_alive}
use Rattle.relay_request.specs.Purging.{HasLost}
use Rattle.relay_request.specs.Endings.{AttemptsFailed, EndsAhead, EndsLinked, EndsUnlinked, EndsWith, IsGiven, IsGivenAhead, IsInOrder, MadeAhead}
use Rattle.relay_request.specs.Passed.{Start, TellsClient, World, answer_in, before_end, begins_end, called_to, closed_to, opened_to}
use Rattle.relay_request.specs.Phases.{PhaseHolds, RunSoFar}
use Rattle.relay_request.specs.Refusals.{faults_before}
use Rattle.relay_request.specs.Relayable.{IsAccepted}
use Rattle.relay_request.specs.Closing.{Finishes}
use Rattle.relay_request.specs.Request.{CameTo, StepsOn, is_done, kept_of}
use Rattle.relay_request.specs.Sent.{IsAnswered}
use Rattle.relay_request.specs.Taken.{offers_before}
use Rattle.relay_request.specs.Tries.{AreTries}
use Rattle.relay_request.specs.Turn.{is_over}
use Rattle.relay_request.specs.Uses.{PhaseUses, StandsBehind, TurnUses}
use Rattle.relay_request.specs.Work.{added_work}
use Rattle.relay_request.specs.declared.calls.At.{At}
use Rattle.relay_request.specs.declared.calls.At.TheVariants as at
use Rattle.relay_request.specs.declared.calls.Calls.{Calls}
use Rattle.relay_request.specs.declared.outcome.Ending.{Ending}
use Rattle.relay_request.specs.declared.machine.Phase.{Phase}
use Rattle.relay_request.specs.declared.machine.Phase.TheVariants.{ReadHead, Connect, Unlinked, Prepare, Relay, Broken, Again, Fail, Close, Answer, Ended}
use Rattle.relay_request.specs.declared.outcome.Outcome.{Outcome}
use Rattle.relay_request.specs.declared.outcome.Outcome.TheVariants.{NoRequest, Refused, Served, TurnLimit, OutOfMemory}
use Rattle.relay_request.specs.declared.record.AttemptRecord.{AttemptRecord}
use Rattle.relay_request.specs.declared.work.Work.{Work}
use Rattle.relay_turns.proofs.PurgeSteps.{StandsElsewhere, ends_elsewhere}
use Rattle.relay_turns.proofs.LastCalls.{alive_less, alive_more, begins_behind, calls_logged, logged_append}
use Rattle.relay_turns.proofs.StepLemmas.{more-nil}
use Rattle.relay_turns.proofs.TakenLemmas.{takes_nothing}
use Rattle.relay_request.proofs.TreatLemmas.{ends_with, still_open}

-- ---- which requests have such a hook

-- a request that has ended, and was served
pub record EndsServed {L C : Type 0} (phase : Phase L C) (goes_back : Bool) : Type 0 where
  pub error : Option Error
  pub attempts : List AttemptRecord
  pub is : phase ≡ Ended (Served error goes_back) attempts

-- where a choice came to a flag, it was that one
chosen : (b reuse goes_back : Bool) → (if b then Some reuse else None) ≡ Some goes_back
    → (b ≡ true) × (reuse ≡ goes_back)
chosen true reuse goes_back is = (refl, cc)
chosen false reuse goes_back is = absurd (cc)

module _ (L C : Type 0) {K X : Type 0} where
  served_so : (outcome : Outcome) (attempts : List AttemptRecord) (here : At K X)
      (goes_back : Bool) → last_from (reuse_of outcome) here ≡ Some goes_back
      → EndsServed {L = L} {C = C} (Ended outcome attempts) goes_back
      × (has_last here goes_back ≡ true)
  served_so NoRequest attempts here goes_back is = absurd (cc)
  served_so (Refused error) attempts here goes_back is = absurd (cc)
  served_so (Served error reuse) attempts here goes_back is =
      let so = chosen (has_last here reuse) reuse goes_back is in (
        record {
          error = error;
          attempts = attempts;
          is = ap (λ (b : Bool). Ended (Served error b) attempts) so.1;
        },
        subst (λ (b : Bool). has_last here b ≡ true) so.1 so.0,
      )
  served_so TurnLimit attempts here goes_back is = absurd (cc)
  served_so OutOfMemory attempts here goes_back is = absurd (cc)

-- a request of which a hook of the end is called next was served
pub ends_served : {L C K X : Type 0} (phase : Phase L C) (here : At K X) (goes_back : Bool)
    → last_of phase here ≡ Some goes_back
    → EndsServed phase goes_back × (has_last here goes_back ≡ true)
ends_served ReadHead here goes_back is = absurd (cc)
ends_served (Connect context session tries) here goes_back is = absurd (cc)
ends_served (Unlinked context session attempts error) here goes_back is = absurd (cc)
ends_served (Prepare context session link lease) here goes_back is = absurd (cc)
ends_served (Relay a) here goes_back is = absurd (cc)
ends_served (Broken context session link lease keep e) here goes_back is = absurd (cc)
ends_served (Again context session link lease keep e) here goes_back is = absurd (cc)
ends_served (Fail link lease keep session e) here goes_back is = absurd (cc)
ends_served (Close link lease keep outcome) here goes_back is = absurd (cc)
ends_served (Answer session owed attempts) here goes_back is = absurd (cc)
ends_served {L} {C} (Ended outcome attempts) here goes_back is =
    served_so L C outcome attempts here goes_back is

-- ---- what is told of a log

-- what was told of the start is told still, where the end has begun
begun_before : (log : List LogEntry) (e : LogEntry)
    → list_any (λ (x : LogEntry). begins_end x.hook) log ≡ true
    → before_end (log ++ e ∷ []) ≡ before_end log
begun_before [] e is = absurd (true≢false (sym is))
begun_before (x ∷ es) e is = first (begins_end x.hook) is (begun_before es e)
  where
    first : (b : Bool) → (b || list_any (λ (y : LogEntry). begins_end y.hook) es) ≡ true
        → (list_any (λ (y : LogEntry). begins_end y.hook) es ≡ true
        → before_end (es ++ e ∷ []) ≡ before_end es)
        → (if b then [] else x ∷ before_end (es ++ e ∷ []))
        ≡ (if b then [] else x ∷ before_end es)
    first true is rest = refl
    first false is rest = ap (λ (l : List LogEntry). x ∷ l) (rest is)

begun_answer : (log : List LogEntry) (e : LogEntry)
    → list_any (λ (x : LogEntry). begins_end x.hook) log ≡ true
    → answer_in (log ++ e ∷ []) ≡ answer_in log
begun_answer [] e is = absurd (true≢false (sym is))
begun_answer (x ∷ es) e is = first (begins_end x.hook) is (begun_answer es e)
  where
    first : (b : Bool) → (b || list_any (λ (y : LogEntry). begins_end y.hook) es) ≡ true
        → (list_any (λ (y : LogEntry). begins_end y.hook) es ≡ true
        → answer_in (es ++ e ∷ []) ≡ answer_in es)
        → (if b then (if same_hook hook.FailToProxy x.hook then x ∷ [] else [])
        else answer_in (es ++ e ∷ []))
        ≡ (if b then (if same_hook hook.FailToProxy x.hook then x ∷ [] else [])
        else answer_in es)
    first true is rest = refl
    first false is rest = rest is

begun_same : (s : Start) (log : List LogEntry) (e : LogEntry)
    → list_any (λ (x : LogEntry). begins_end x.hook) log ≡ true
    → called_to s (log ++ e ∷ []) ≡ called_to s log
begun_same s log e is =
    ap (λ (l : List LogEntry). closed_to s l (answer_in (log ++ e ∷ []))) (begun_before log e is)
    ∙ ap (λ (l : List LogEntry). closed_to s (before_end log) l) (begun_answer log e is)

-- and where it begins with `logging`
logging_before : (log : List LogEntry) (e : LogEntry) → begins_end e.hook ≡ true
    → before_end (log ++ e ∷ []) ≡ before_end log
logging_before [] e is = rw is refl
logging_before (x ∷ es) e is =
    ap (λ (l : List LogEntry). if begins_end x.hook then [] else x ∷ l) (logging_before es e is)

logging_answer : (log : List LogEntry) (e : LogEntry) → begins_end e.hook ≡ true
    → same_hook hook.FailToProxy e.hook ≡ false → answer_in (log ++ e ∷ []) ≡ answer_in log
logging_answer [] e is none = by (begins_end e.hook) (same_hook hook.FailToProxy e.hook) none
  where
    by : (a b : Bool) → b ≡ false → (if a then (if b then e ∷ [] else []) else []) ≡ []
    by true true none = absurd (true≢false none)
    by true false none = refl
    by false b none = refl
logging_answer (x ∷ es) e is none =
    ap (λ (l : List LogEntry). if begins_end x.hook
    then (if same_hook hook.FailToProxy x.hook then x ∷ [] else []) else l)
    (logging_answer es e is none)

logging_same : (s : Start) (log : List LogEntry) (e : LogEntry) → begins_end e.hook ≡ true
    → same_hook hook.FailToProxy e.hook ≡ false
    → called_to s (log ++ e ∷ []) ≡ called_to s log
logging_same s log e is none =
    ap (λ (l : List LogEntry). closed_to s l (answer_in (log ++ e ∷ []))) (logging_before log e is)
    ∙ ap (λ (l : List LogEntry). closed_to s (before_end log) l) (logging_answer log e is none)

-- ---- an error that is answered when nothing is written any more

-- no error was answered
unanswered : (e : Error) → IsAnswered [] e → ⊥
unanswered e a = let none : ◌≡◌ {A = List LogEntry} [] (a.first ∷ a.rest) = a.closed_are in cc

module _ (s : Start) (log closed : List LogEntry) where
  accepted_on : (p : Passed) (head : _) → IsAccepted (opened_to s log) p head
      → IsAccepted (closed_to s log closed) p head
  accepted_on p head a =
      record { framing = a.framing; len = a.len; has = a.has; relayable = a.relayable }

  -- what hooks owed the client, without an error, they owe it still
  owed_on : (p : Passed) (why : Option Error) (text : List ℕ)
      → IsOwedAhead (opened_to s log) p why text → IsOwedAhead (closed_to s log closed) p why text
  owed_on p why text (IsOwedAhead.by_answer head tasks t has order is_answer is) =
      IsOwedAhead.by_answer head tasks t (accepted_on p head has) order is_answer is
  owed_on p why text (IsOwedAhead.by_error head e t has stops answers is) =
      absurd (unanswered e answers)

  order_on : (p : Passed) → IsInOrder (opened_to s log) p → IsInOrder (closed_to s log closed) p
  order_on p (IsInOrder.is_nothing written sent) = IsInOrder.is_nothing written sent
  order_on p (IsInOrder.is_refusal answer error down front sent) =
      IsInOrder.is_refusal answer error down front sent
  order_on p (IsInOrder.is_ahead why text owed front sent) =
      IsInOrder.is_ahead why text (owed_on p why text owed) front sent
  order_on p
      (IsInOrder.is_exchange why f began head out reused ends relayable sends stands order) =
      IsInOrder.is_exchange why f began head out reused ends relayable sends stands order
  order_on p (IsInOrder.is_unlinked head e has refused answers front sent) =
      absurd (unanswered e answers)
  order_on p (IsInOrder.is_unsent head start keep raised e has refuses treated answers front sent) =
      absurd (unanswered e answers)
  order_on p
      (IsInOrder.is_failure why f began head out reused ends before raised e relayable sends stands
      order treated answers front) =
      absurd (unanswered e answers)

  tells_on : (p : Passed) (w : World) → TellsClient (opened_to s log) p w
      → TellsClient (closed_to s log closed) p w
  tells_on p w t = record {
    came = t.came;
    written = t.written;
    faults = t.faults;
    connect_faults = t.connect_faults;
    fault_lists = t.fault_lists;
  }

  given_on : (p : Passed) (w : World) (text : List ℕ) → IsGiven (opened_to s log) p w text
      → IsGiven (closed_to s log closed) p w text
  given_on p w text (inl whole) = inl whole
  given_on p w text (inr (fails, front)) = inr (
    record { fault = fails.fault; kind = fails.kind; rose = fails.rose; among = fails.among },
    front,
  )

  given_ahead_on : (p : Passed) (w : World) (why : Option Error) (text : List ℕ)
      (told : Option Error) → IsGivenAhead (opened_to s log) p w why text told
      → IsGivenAhead (closed_to s log closed) p w why text told
  given_ahead_on p w None text told (inl whole) = inl whole
  given_ahead_on p w None text told (inr (fault, fails, is, front)) =
      inr (fault, record { kind = fails.kind; rose = fails.rose; told = fails.told }, is, front)
  given_ahead_on p w (Some e) text told (is, given) = (is, given_on p w text given)

  ahead_on : (p : Passed) (w : World) (told : Option Error) → EndsAhead (opened_to s log) p w told
      → EndsAhead (closed_to s log closed) p w told
  ahead_on p w told a = record {
    why = a.why;
    text = a.text;
    owed = owed_on p a.why a.text a.owed;
    given = given_ahead_on p w a.why a.text told a.given;
    unsent = a.unsent;
    untreated = a.untreated;
  }

  -- no request without a link failed with that error, whose answer would come before
  unlinked_on : (p : Passed) (w : World) (e : Error) (reuse : Bool)
      → EndsUnlinked (opened_to s log) p w (Served (Some e) reuse)
      → EndsUnlinked (closed_to s log closed) p w (Served (Some e) reuse)
  unlinked_on p w e reuse (inl fails, stays) = absurd (unanswered e fails.owed.told)
  unlinked_on p w e reuse (inr ahead, stays) = (inr (ahead_on p w (Some e) ahead), stays)

  tries_on : (tries : List AttemptRecord) → AreTries (opened_to s log) tries
      → AreTries (closed_to s log closed) tries
  tries_on tries are = record {
    fits = are.fits;
    told = are.told;
    each = are.each;
    allowed = are.allowed;
  }

  made_on : (why : Option Error) (attempts : List AttemptRecord)
      → MadeAhead (opened_to s log) why attempts → MadeAhead (closed_to s log closed) why attempts
  made_on None attempts made = made
  made_on (Some e) attempts made = tries_on attempts made

  attempts_on : (p : Passed) (w : World) (attempts : List AttemptRecord) (e : Error)
      → AttemptsFailed (opened_to s log) p w attempts e
      → AttemptsFailed (closed_to s log closed) p w attempts e
  unfolding ahead_on
  attempts_on p w attempts e (AttemptsFailed.unlinked made) =
      AttemptsFailed.unlinked (record {
        refused = made.refused;
        fits = made.fits;
        told = made.told;
        each = made.each;
        allowed = made.allowed;
        over = made.over;
      })
  attempts_on p w attempts e (AttemptsFailed.ahead ends made) =
      AttemptsFailed.ahead (ahead_on p w (Some e) ends) (made_on ends.why attempts made)

  -- no attempt that had a link failed with that error, whose answer would come before
  linked_on : (p : Passed) (w : World) (link : LinkState) (start : LinkStart) (keep reuse : Bool)
      (told : Option Error) (e : Error)
      → EndsLinked (opened_to s log) p w link start keep told (Served (Some e) reuse) → ⊥
  linked_on p w link start keep reuse told e (inl failed) = unanswered e failed.failed.told
  linked_on p w link start keep reuse told e (inr refused) = unanswered e refused.refused.told

module _ {L : Type 0} (state : L → LinkState) (start_at : L → LinkStart) (s : Start)
    (log closed : List LogEntry) where
  ends_on : (p : Passed) (w : World) (own : List (Returned L)) (attempts : List AttemptRecord)
      (e : Error) (reuse : Bool)
      → EndsWith state start_at (opened_to s log) p w own attempts (Served (Some e) reuse)
      → EndsWith state start_at (closed_to s log closed) p w own attempts (Served (Some e) reuse)
  ends_on p w [] attempts e reuse ends = (
    unlinked_on s log closed p w e reuse ends.0,
    attempts_on s log closed p w attempts e ends.1,
  )
  ends_on p w (r ∷ []) attempts e reuse ends =
      absurd (linked_on s log closed p w (state r.link) (start_at r.link) r.keep reuse
      ends.attempt.error e ends.ends)
  ends_on p w (r ∷ q ∷ rest) attempts e reuse ends = absurd ends

module _ {L : Type 0} (C : Type 0) (state : L → LinkState) (start_at : L → LinkStart) (s : Start)
    (log closed : List LogEntry) where
  holds_on : (p : Passed) (w : World) (own : List (Returned L)) (attempts : List AttemptRecord)
      (e : Error) (reuse : Bool)
      → PhaseHolds {C = C} state start_at (opened_to s log) p w own
      (Ended (Served (Some e) reuse) attempts)
      → PhaseHolds {C = C} state start_at (closed_to s log closed) p w own
      (Ended (Served (Some e) reuse) attempts)
  holds_on p w [] attempts e reuse holds =
      ends_on state start_at s log closed p w [] attempts e reuse holds
  holds_on p w (r ∷ own) attempts e reuse holds =
      ends_on state start_at s log closed p w (r ∷ own) attempts e reuse holds

  -- a request that ended with an error ends so still, once that is answered
  answered_on : (p : Passed) (w : World) (own : List (Returned L)) (attempts : List AttemptRecord)
      (e : Error) (reuse : Bool)
      → RunSoFar {C = C} state start_at (opened_to s log) p w own
      (Ended (Served (Some e) reuse) attempts)
      → RunSoFar {C = C} state start_at (closed_to s log closed) p w own
      (Ended (Served (Some e) reuse) attempts)
  answered_on p w own attempts e reuse run = record {
    tells = tells_on s log closed p w run.tells;
    order = order_on s log closed p run.order;
    untouched = run.untouched;
    going = run.going;
    calm = run.calm;
    holds = holds_on p w own attempts e reuse run.holds;
  }

-- ---- a call of a hook of the end

-- the log gained the call of that hook, or none where memory was wanted
pub data GainsCall (which : Hook) (old new : List LogEntry) : Type 0 where
  no_call : new ≡ old → GainsCall which old new
  one_call : (e : LogEntry) → e.hook ≡ which → new ≡ old ++ e ∷ [] → GainsCall which old new

-- the hook that comes next was called
pub record CallsNext (goes_back : Bool) (from : Stage) (old new : List LogEntry) : Type 0 where
  pub which : Hook
  pub next : next_hook from goes_back ≡ Some which
  pub gains : GainsCall which old new

module _ (allows : Standing → LogEntry → Type 0) (start : Station) (old : Seen) (before : ℕ)
    (new : Seen) (behind : ℕ) where
  turn_gains : {K : Type 0} (which : Hook) (from : Stage) (to : Last K)
      → TurnsTo allows which start from old before new behind to
      → GainsCall which old.log new.log
  turn_gains which from (closing.At to) asks =
      GainsCall.one_call asks.turn.e asks.turn.hook asks.turn.calls.log
  turn_gains which from (closing.Ended how) asks =
      GainsCall.one_call asks.turn.e asks.turn.hook asks.turn.calls.log
  turn_gains which from closing.Lost same = GainsCall.no_call same

  at_gains : {K : Type 0} (goes_back : Bool) (next : Option Hook) (from : Stage) (to : Last K)
      → next_hook from goes_back ≡ next → is_some next ≡ true
      → TurnsAt allows next start from old before new behind to
      → CallsNext goes_back from old.log new.log
  at_gains goes_back None from to is some turns = absurd (true≢false (sym some))
  at_gains goes_back (Some which) from to is some turns =
      record { which = which; next = is; gains = turn_gains which from to turns }

module _ {L : Type 0} (C : Type 0) (state : L → LinkState) (start_at : L → LinkStart) (s : Start)
    (log : List LogEntry) (e : LogEntry) where
  -- the calls that are told of the start are the same
  told_same : (p : Passed) (w : World) (own : List (Returned L)) (phase : Phase L C)
      → called_to s (log ++ e ∷ []) ≡ called_to s log
      → RunSoFar state start_at (called_to s log) p w own phase
      → RunSoFar state start_at (called_to s (log ++ e ∷ [])) p w own phase
  told_same p w own phase same run =
      subst (λ (t : Start). RunSoFar state start_at t p w own phase) (sym same) run

  -- or the answer of an error is told too
  told_answer : (p : Passed) (w : World) (own : List (Returned L)) (attempts : List AttemptRecord)
      (x : Error) (reuse : Bool) → IsUnended log → same_hook hook.FailToProxy e.hook ≡ true
      → RunSoFar {C = C} state start_at (called_to s log) p w own
      (Ended (Served (Some x) reuse) attempts)
      → RunSoFar {C = C} state start_at (called_to s (log ++ e ∷ [])) p w own
      (Ended (Served (Some x) reuse) attempts)
  told_answer p w own attempts x reuse open_to is run =
      subst (λ (t : Start). RunSoFar {C = C} state start_at t p w own
      (Ended (Served (Some x) reuse) attempts))
      (sym (ends_with s log (log ++ e ∷ []) e refl open_to is))
      (answered_on C state start_at s log (e ∷ []) p w own attempts x reuse
      (subst (λ (t : Start). RunSoFar {C = C} state start_at t p w own
      (Ended (Served (Some x) reuse) attempts)) (still_open s log open_to) run))

  -- the run so far of a request that has ended, behind the call that comes next
  one_on : (p : Passed) (w : World) (own : List (Returned L)) (attempts : List AttemptRecord)
      (error : Option Error) (reuse : Bool) (from : Stage) → error_to from ≡ error
      → list_any (λ (x : LogEntry). begins_end x.hook) log ≡ has_begun from
      → next_hook from reuse ≡ Some e.hook
      → RunSoFar {C = C} state start_at (called_to s log) p w own
      (Ended (Served error reuse) attempts)
      → RunSoFar {C = C} state start_at (called_to s (log ++ e ∷ [])) p w own
      (Ended (Served error reuse) attempts)
  one_on p w own attempts error reuse (stage.Failing x) is begun next run =
      let which : e.hook ≡ hook.FailToProxy = cc in
      subst (λ (o : Option Error). RunSoFar {C = C} state start_at (called_to s (log ++ e ∷ [])) p w
      own (Ended (Served o reuse) attempts)) is
      (told_answer p w own attempts x reuse begun
      (ap (λ (h : Hook). same_hook hook.FailToProxy h) which)
      (subst (λ (o : Option Error). RunSoFar {C = C} state start_at (called_to s log) p w
      own (Ended (Served o reuse) attempts)) (sym is) run))
  one_on p w own attempts error reuse (stage.Told told) is begun next run =
      told_same p w own (Ended (Served error reuse) attempts) (begun_same s log e begun) run
  one_on p w own attempts error reuse (stage.Reporting told) is begun next run =
      told_same p w own (Ended (Served error reuse) attempts) (begun_same s log e begun) run
  one_on p w own attempts error reuse (stage.Ending cause.Finished) is begun next run =
      let which : e.hook ≡ hook.Logging = cc in
      told_same p w own (Ended (Served error reuse) attempts)
      (logging_same s log e (ap (λ (h : Hook). begins_end h) which)
      (ap (λ (h : Hook). same_hook hook.FailToProxy h) which)) run
  one_on p w own attempts error reuse (stage.Ending (cause.Hidden told)) is begun next run =
      told_same p w own (Ended (Served error reuse) attempts) (begun_same s log e begun) run
  one_on p w own attempts error reuse (stage.Ending (cause.Reported told summary)) is begun next
      run =
      told_same p w own (Ended (Served error reuse) attempts) (begun_same s log e begun) run
  one_on p w own attempts error reuse (stage.Logged why) is begun next run =
      told_same p w own (Ended (Served error reuse) attempts) (begun_same s log e begun) run

module _ {L : Type 0} (C : Type 0) (state : L → LinkState) (start_at : L → LinkStart) where
  -- and behind a turn
  next_on : (s : Start) (p : Passed) (w : World) (own : List (Returned L))
      (attempts : List AttemptRecord) (error : Option Error) (reuse : Bool) (from : Stage)
      (old new : List LogEntry) → error_to from ≡ error
      → list_any (λ (x : LogEntry). begins_end x.hook) old ≡ has_begun from
      → CallsNext reuse from old new
      → RunSoFar {C = C} state start_at (called_to s old) p w own
      (Ended (Served error reuse) attempts)
      → RunSoFar {C = C} state start_at (called_to s new) p w own
      (Ended (Served error reuse) attempts)
  next_on s p w own attempts error reuse from old new is begun calls run =
      by calls.gains
    where
      by : GainsCall calls.which old new
          → RunSoFar {C = C} state start_at (called_to s new) p w own
          (Ended (Served error reuse) attempts)
      by (GainsCall.no_call same) =
          subst (λ (l : List LogEntry). RunSoFar {C = C} state start_at (called_to s l) p w own
          (Ended (Served error reuse) attempts)) (sym same) run
      by (GainsCall.one_call e which more) =
          subst (λ (l : List LogEntry). RunSoFar {C = C} state start_at (called_to s l) p w own
          (Ended (Served error reuse) attempts)) (sym more)
          (one_on C state start_at s old e p w own attempts error reuse from is begun
          (calls.next ∙ ap (λ (h : Hook). Some h) (sym which)) run)

-- what was counted is bounded still, whatever was called
within_on : (s : Start) (old new : List LogEntry) (tasks ends most : ℕ) (client : LinkState)
    (gave : List ℕ → Type 0) → IsWithin tasks ends most (called_to s old) client gave
    → IsWithin tasks ends most (called_to s new) client gave
within_on s old new tasks ends most client gave w = record {
  came = w.came;
  got = w.got;
  client_gave = w.client_gave;
  own_gave = w.own_gave;
  tasks_within = w.tasks_within;
  ends_within = w.ends_within;
}

-- ---- a step in which no link is asked

-- a turn counted nothing but calls of hooks
pub record CountsNone (was now : Work) : Type 0 where
  pub work : Work
  pub adds : now ≡ added_work was work
  pub unused : work.used ≡ 0
  pub unmoved : work.moved ≡ 0
  pub unended : work.ended ≡ 0

module _ {L C : Type 0} (state : L → LinkState) (start_at : L → LinkStart) where
  -- a step that leaves the phase, the links and the connector
  pub rests_on : (s t : Start) (p : Passed) (w : World) (own : List (Returned L))
      (returned : Option (List (Returned L))) (told : Option (List Fault))
      (has : Option (List Offer)) (was now : Work) (phase : Phase L C)
      → RunSoFar state start_at t p w own phase → CountsNone was now
      → ((tasks ends : ℕ) → PhaseCounts state start_at tasks ends s w.client w.ahead own phase
      → PhaseCounts state start_at tasks ends t w.client w.ahead own phase)
      → StepsOn state start_at s t p w own returned returned told told has has w.client w.ahead was
      now phase phase
  rests_on s t p w own returned told has was now phase run counts bounds = StepsOn.goes (record {
    passed = p;
    handed = [];
    gained = more-nil returned;
    run = subst (λ (rs : List (Returned L)). RunSoFar state start_at t p w rs phase)
        (sym (append-nil own)) run;
    refused = record {
      faults = [];
      gained = Gains-nothing told told refl;
      are = append-nil (faults_before own phase)
          ∙ ap (λ (rs : List (Returned L)). faults_before rs phase) (sym (append-nil own));
    };
    offered = record {
      taken = [];
      takes = takes_nothing [] has has refl refl;
      are = append-nil (offers_before start_at own phase)
          ∙ ap (λ (rs : List (Returned L)). offers_before start_at rs phase)
          (sym (append-nil own));
    };
    uses = λ n had. record {
      used = counts.work.used;
      turn = record {
        of_client = 0;
        of_own = 0;
        client_rose = refl;
        own_rose = subst (λ (k : ℕ). PhaseUses state start_at k (own ++ []) phase)
            (none_more n)
            (subst (λ (rs : List (Returned L)). PhaseUses state start_at n rs phase)
            (sym (append-nil own)) had);
        all = counts.unused;
      };
      adds = ap (λ (k : Work). k.used) counts.adds;
    };
    work = counts.work;
    adds = counts.adds;
    bounded = λ tasks ends counted.
        subst (λ (k : ℕ). PhaseCounts state start_at k (counts.work.ended + ends) t w.client w.ahead
        (own ++ []) phase) (as_many counts.work.moved tasks counts.unmoved)
        (subst (λ (k : ℕ). PhaseCounts state start_at tasks k t w.client w.ahead
        (own ++ []) phase) (as_many counts.work.ended ends counts.unended)
        (subst (λ (rs : List (Returned L)). PhaseCounts state start_at tasks ends t w.client w.ahead
        rs phase) (sym (append-nil own)) (bounds tasks ends counted)));
    rested = λ over. refl;
  })
    where
      none_more : (n : ℕ) → n ≡ 0 + n
      none_more n = omega arith

      as_many : (k n : ℕ) → k ≡ 0 → n ≡ k + n
      as_many k n none = omega arith

-- no use was counted, and no link changed
pub rests_uses : {L : Type 0} (state : L → LinkState) (n : ℕ) (client : LinkState)
    (held : Option LinkState) (returned : Option (List (Returned L))) → n ≡ 0
    → TurnUses n client client held (StandsBehind state returned returned held)
rests_uses state n client None returned none = inr (none, refl)
rests_uses state n client (Some link) returned none =
    (link, inl refl, inr (none, record { client_same = refl; upstream_same = refl }))

-- ---- where the calls stand

-- a log whose end has begun has, with one call more
begun_more : (log : List LogEntry) (e : LogEntry)
    → list_any (λ (x : LogEntry). begins_end x.hook) log ≡ true
    → list_any (λ (x : LogEntry). begins_end x.hook) (log ++ e ∷ []) ≡ true
begun_more log e is =
    list_any-append (λ (x : LogEntry). begins_end x.hook) log (e ∷ []) ∙ rw is refl

-- what `logging` was told, behind one call of it
logged_one : (log : List LogEntry) (e : LogEntry) → same_hook hook.Logging e.hook ≡ true
    → logged_in log ≡ [] → logged_in (log ++ e ∷ []) ≡ e.input ∷ []
logged_one [] e is none = rw is refl
logged_one (x ∷ es) e is none =
    first (same_hook hook.Logging x.hook) refl none (logged_one es e is)
  where
    first : (b : Bool) → same_hook hook.Logging x.hook ≡ b → logged_in (x ∷ es) ≡ []
        → (logged_in es ≡ [] → logged_in (es ++ e ∷ []) ≡ e.input ∷ [])
        → logged_in (x ∷ (es ++ e ∷ [])) ≡ e.input ∷ []
    first true first_is none rest =
        let some : x.input ∷ logged_in es ≡ [] = rw first_is at none in cc
    first false first_is none rest =
        rw first_is (rest (rw first_is at none))

-- the hook that was called is the one that comes next
next_is : (which : Hook) (goes_back : Bool) (from known : Stage) (hook_known : Hook)
    → from ≡ known → next_hook from goes_back ≡ Some which
    → next_hook known goes_back ≡ Some hook_known → (e : LogEntry) → e.hook ≡ which
    → e.hook ≡ hook_known
next_is which goes_back from known hook_known is next known_next e same =
    let both : ◌≡◌ {A = Option Hook} (Some which) (Some hook_known) =
    sym next ∙ ap (λ (k : Stage). next_hook k goes_back) is ∙ known_next in cc

-- behind `logging` that is the one that asks what is kept
persists : (which : Hook) (goes_back : Bool) (why : Cause)
    → next_hook (stage.Logged why) goes_back ≡ Some which → (e : LogEntry) → e.hook ≡ which
    → e.hook ≡ hook.PersistConnectionContext
persists which true why next e same = cc
persists which false why next e same = absurd (cc)

module _ {C M K : Type 0} (allows : Standing → LogEntry → Type 0) (mark_of : C → ℕ)
    (old new : Calls M K C) (held left : C) (error : Option Error) (from : Stage)
    (s : StandsAt allows mark_of old held old.session.seen.downstream error from) where
  -- the log in order, with one call more
  one_logged : (which : Hook) (at : Station) (leads : Stage → LogEntry → Type 0)
      → Asks allows which s.start from at leads old.session.seen (mark_of held) new.session.seen
      (mark_of left)
      → Walk allows s.from (log_of new)
      (standing None false (moment new.session.seen (mark_of left)))
      × Accepts station.accepted (log_of new) at
  one_logged which at leads asks = (
    subst (λ (l : List LogEntry). Walk allows s.from l
        (standing None false (moment new.session.seen (mark_of left)))) (sym asks.turn.calls.log)
        (Walk-append allows (log_of old) (asks.turn.e ∷ []) s.from
        (standing None false (moment old.session.seen (mark_of held)))
        (standing None false (moment new.session.seen (mark_of left))) s.walks
        asks.turn.calls.walk),
    subst (λ (l : List LogEntry). Accepts station.accepted l at) (sym asks.turn.calls.log)
        (Accepts-one station.accepted (closing_at s.start from) at (log_of old) asks.turn.e s.order
        asks.turn.order),
  )

  -- the end stands at the next stage
  one_stands : (which : Hook) (to : Stage) (leads : Stage → LogEntry → Type 0)
      (asks : Asks allows which s.start from (closing_at s.start to) leads old.session.seen
      (mark_of held) new.session.seen (mark_of left))
      → IsTrue (begins_at s.start to)
      → logged_in (log_of old ++ asks.turn.e ∷ []) ≡ logged_to to
      → list_any (λ (x : LogEntry). begins_end x.hook) (log_of old ++ asks.turn.e ∷ [])
      ≡ has_begun to
      → (same_hook hook.Logging asks.turn.e.hook && not asks.turn.e.keepalive) ≡ false
      → error_to to ≡ error_to from
      → StandsAt allows mark_of new left new.session.seen.downstream error to
  one_stands which to leads asks begins logged begun quiet same =
      let on = one_logged which (closing_at s.start to) leads asks in
      record {
        from = s.from;
        walks = on.0;
        start = s.start;
        begins = begins;
        order = on.1;
        logged = ap logged_in asks.turn.calls.log ∙ logged;
        alive = ap stays_alive asks.turn.calls.log
            ∙ alive_more (log_of old) asks.turn.e quiet s.alive;
        begun = ap (λ (l : List LogEntry). list_any (λ (x : LogEntry). begins_end x.hook) l)
            asks.turn.calls.log ∙ begun;
        error_is = same ∙ s.error_is;
      }

  -- by the stage behind the call
  to_stage : (which : Hook) (goes_back : Bool) (to : Stage)
      → next_hook from goes_back ≡ Some which
      → Asks allows which s.start from (closing_at s.start to) (LeadsTo to) old.session.seen
      (mark_of held) new.session.seen (mark_of left)
      → StandsAt allows mark_of new left new.session.seen.downstream error to
  to_stage which goes_back (stage.Failing e) next asks = absurd asks.leads
  to_stage which goes_back (stage.Told told) next asks =
      let is : from ≡ stage.Failing told.error = asks.leads.0 in
      let hook_is : asks.turn.e.hook ≡ hook.FailToProxy =
      next_is which goes_back from (stage.Failing told.error) hook.FailToProxy is next refl
      asks.turn.e asks.turn.hook in
      one_stands which (stage.Told told) (LeadsTo (stage.Told told)) asks refl
      (logged_append (log_of old) asks.turn.e (ap (λ (h : Hook). same_hook hook.Logging h) hook_is)
      ∙ s.logged ∙ ap logged_to is)
      (begins_behind (log_of old) asks.turn.e (ap (λ (h : Hook). begins_end h) hook_is))
      (ap (λ (h : Hook). same_hook hook.Logging h && not asks.turn.e.keepalive) hook_is)
      (ap error_to (sym is))
  to_stage which goes_back (stage.Reporting told) next asks =
      let is : from ≡ stage.Told told = asks.leads.0 in
      let hook_is : asks.turn.e.hook ≡ hook.SuppressErrorLog =
      next_is which goes_back from (stage.Told told) hook.SuppressErrorLog is next refl
      asks.turn.e asks.turn.hook in
      one_stands which (stage.Reporting told) (LeadsTo (stage.Reporting told)) asks refl
      (logged_append (log_of old) asks.turn.e (ap (λ (h : Hook). same_hook hook.Logging h) hook_is)
      ∙ s.logged ∙ ap logged_to is)
      (begun_more (log_of old) asks.turn.e (s.begun ∙ ap has_begun is))
      (ap (λ (h : Hook). same_hook hook.Logging h && not asks.turn.e.keepalive) hook_is)
      (ap error_to (sym is))
  to_stage which goes_back (stage.Ending cause.Finished) next asks = absurd asks.leads
  to_stage which goes_back (stage.Ending (cause.Hidden told)) next asks =
      let is : from ≡ stage.Told told = asks.leads.0 in
      let hook_is : asks.turn.e.hook ≡ hook.SuppressErrorLog =
      next_is which goes_back from (stage.Told told) hook.SuppressErrorLog is next refl
      asks.turn.e asks.turn.hook in
      one_stands which (stage.Ending (cause.Hidden told))
      (LeadsTo (stage.Ending (cause.Hidden told))) asks refl
      (logged_append (log_of old) asks.turn.e (ap (λ (h : Hook). same_hook hook.Logging h) hook_is)
      ∙ s.logged ∙ ap logged_to is)
      (begun_more (log_of old) asks.turn.e (s.begun ∙ ap has_begun is))
      (ap (λ (h : Hook). same_hook hook.Logging h && not asks.turn.e.keepalive) hook_is)
      (ap error_to (sym is))
  to_stage which goes_back (stage.Ending (cause.Reported told summary)) next asks =
      let is : from ≡ stage.Reporting told = asks.leads.0 in
      let hook_is : asks.turn.e.hook ≡ hook.RequestSummary =
      next_is which goes_back from (stage.Reporting told) hook.RequestSummary is next refl
      asks.turn.e asks.turn.hook in
      one_stands which (stage.Ending (cause.Reported told summary))
      (LeadsTo (stage.Ending (cause.Reported told summary))) asks refl
      (logged_append (log_of old) asks.turn.e (ap (λ (h : Hook). same_hook hook.Logging h) hook_is)
      ∙ s.logged ∙ ap logged_to is)
      (begun_more (log_of old) asks.turn.e (s.begun ∙ ap has_begun is))
      (ap (λ (h : Hook). same_hook hook.Logging h && not asks.turn.e.keepalive) hook_is)
      (ap error_to (sym is))
  to_stage which goes_back (stage.Logged why) next asks =
      let is : from ≡ stage.Ending why = asks.leads.0 in
      let hook_is : asks.turn.e.hook ≡ hook.Logging =
      next_is which goes_back from (stage.Ending why) hook.Logging is next refl
      asks.turn.e asks.turn.hook in
      one_stands which (stage.Logged why) (LeadsTo (stage.Logged why)) asks refl
      (logged_one (log_of old) asks.turn.e (ap (λ (h : Hook). same_hook hook.Logging h) hook_is)
      (s.logged ∙ ap logged_to is)
      ∙ ap (λ (i : Item). i ∷ [])
      (asks.input ∙ ap (λ (k : Stage). input_of k old.session.seen) is))
      (begins_behind (log_of old) asks.turn.e (ap (λ (h : Hook). begins_end h) hook_is))
      (ap (λ (h : Hook). same_hook hook.Logging h && not asks.turn.e.keepalive) hook_is
      ∙ ap (λ (b : Bool). not b) asks.leads.2)
      (ap error_to (sym is))

  -- behind the last of them
  to_end : (which : Hook) (goes_back : Bool) (how : End K)
      → next_hook from goes_back ≡ Some which
      → Asks allows which s.start from (end_station how) (EndedBehind how) old.session.seen
      (mark_of held) new.session.seen (mark_of left)
      → HasClosed allows mark_of new error how
  to_end which goes_back (end.Gone why) next asks =
      let is : from ≡ stage.Ending why = asks.leads.0 in
      let hook_is : asks.turn.e.hook ≡ hook.Logging =
      next_is which goes_back from (stage.Ending why) hook.Logging is next refl
      asks.turn.e asks.turn.hook in
      let on = one_logged which station.logged (EndedBehind {K = K} (end.Gone why)) asks in
      record {
        at = station.logged;
        in_order = record { from = s.from; to = _; walks = on.0; order = on.1 };
        logged = ap logged_in asks.turn.calls.log
            ∙ logged_one (log_of old) asks.turn.e
            (ap (λ (h : Hook). same_hook hook.Logging h) hook_is) (s.logged ∙ ap logged_to is)
            ∙ ap (λ (i : Item). i ∷ [])
            (asks.input ∙ ap (λ (k : Stage). input_of k old.session.seen) is)
            ∙ ap (λ (o : Option Error). failure o ∷ []) (ap error_to (sym is) ∙ s.error_is);
        begun = ap (λ (l : List LogEntry). list_any (λ (x : LogEntry). begins_end x.hook) l)
            asks.turn.calls.log
            ∙ begins_behind (log_of old) asks.turn.e (ap (λ (h : Hook). begins_end h) hook_is);
        keeps = λ some. absurd (true≢false (sym some));
        alive = ap stays_alive asks.turn.calls.log
            ∙ alive_less (log_of old) asks.turn.e
            (ap (λ (h : Hook). same_hook hook.Logging h && not asks.turn.e.keepalive) hook_is
            ∙ ap (λ (b : Bool). not b) asks.leads.2);
      }
  to_end which goes_back (end.Kept why kept) next asks =
      let is : from ≡ stage.Logged why = asks.leads.0 in
      let hook_is : asks.turn.e.hook ≡ hook.PersistConnectionContext =
      persists which goes_back why (ap (λ (k : Stage). next_hook k goes_back) (sym is) ∙ next)
      asks.turn.e asks.turn.hook in
      let on = one_logged which station.kept (EndedBehind (end.Kept why kept)) asks in
      record {
        at = station.kept;
        in_order = record { from = s.from; to = _; walks = on.0; order = on.1 };
        logged = ap logged_in asks.turn.calls.log
            ∙ logged_append (log_of old) asks.turn.e
            (ap (λ (h : Hook). same_hook hook.Logging h) hook_is)
            ∙ s.logged ∙ ap logged_to is
            ∙ ap (λ (o : Option Error). failure o ∷ []) (ap error_to (sym is) ∙ s.error_is);
        begun = ap (λ (l : List LogEntry). list_any (λ (x : LogEntry). begins_end x.hook) l)
            asks.turn.calls.log
            ∙ begun_more (log_of old) asks.turn.e (s.begun ∙ ap has_begun is);
        keeps = λ some. record {
          before = log_of old;
          last = asks.turn.e;
          log_is = asks.turn.calls.log;
          asks = hook_is;
          keeps = asks.leads.1 ∙ ap (λ (b : Bool). item.Kept b) some;
        };
        alive = ap stays_alive asks.turn.calls.log
            ∙ alive_more (log_of old) asks.turn.e
            (ap (λ (h : Hook). same_hook hook.Logging h && not asks.turn.e.keepalive) hook_is)
            s.alive;
      }

  -- wherever the call leads
  turn_to : (which : Hook) (goes_back : Bool) (to : Last K) → next_hook from goes_back ≡ Some which
      → TurnsTo allows which s.start from old.session.seen (mark_of held) new.session.seen
      (mark_of left) to
      → StandsBy allows mark_of new left new.session.seen.downstream error to
  turn_to which goes_back (closing.At to) next asks = to_stage which goes_back to next asks
  turn_to which goes_back (closing.Ended how) next asks = to_end which goes_back how next asks
  turn_to which goes_back closing.Lost next same = (
    closing_at s.start from,
    subst (λ (l : List LogEntry). IsLogged allows l (closing_at s.start from)) (sym same)
        (record { from = s.from; to = _; walks = s.walks; order = s.order }),
  )

  at_to : (next : Option Hook) (goes_back : Bool) (to : Last K) → next_hook from goes_back ≡ next
      → is_some next ≡ true
      → TurnsAt allows next s.start from old.session.seen (mark_of held) new.session.seen
      (mark_of left) to
      → StandsBy allows mark_of new left new.session.seen.downstream error to
  at_to None goes_back to is some turns = absurd (true≢false (sym some))
  at_to (Some which) goes_back to is some turns = turn_to which goes_back to is turns

  -- the hook that comes next was called
  stage_to : (goes_back : Bool) (to : Last K) → is_some (next_hook from goes_back) ≡ true
      → ((to ≡ closing.Lost) × (log_of new ≡ log_of old))
      ⊎ ((start : Station) → IsTrue (may_begin {K = K} start (closing.At from))
      → TurnsOn allows start goes_back (closing.At from) old.session.seen (mark_of held)
      new.session.seen (mark_of left) to)
      → StandsBy allows mark_of new left new.session.seen.downstream error to
  stage_to goes_back to some (inl lost) =
      subst (λ (k : Last K). StandsBy allows mark_of new left new.session.seen.downstream error k)
      (sym lost.0) (
        closing_at s.start from,
        subst (λ (l : List LogEntry). IsLogged allows l (closing_at s.start from)) (sym lost.1)
            (record { from = s.from; to = _; walks = s.walks; order = s.order }),
      )
  stage_to goes_back to some (inr turns) =
      at_to (next_hook from goes_back) goes_back to refl some (turns s.start s.begins)

  -- and the log tells so
  stage_log : (goes_back : Bool) (to : Last K) → is_some (next_hook from goes_back) ≡ true
      → ((to ≡ closing.Lost) × (log_of new ≡ log_of old))
      ⊎ ((start : Station) → IsTrue (may_begin {K = K} start (closing.At from))
      → TurnsOn allows start goes_back (closing.At from) old.session.seen (mark_of held)
      new.session.seen (mark_of left) to)
      → (log_of new ≡ log_of old) ⊎ CallsNext goes_back from (log_of old) (log_of new)
  stage_log goes_back to some (inl lost) = inl lost.1
  stage_log goes_back to some (inr turns) =
      inr (at_gains allows s.start old.session.seen (mark_of held) new.session.seen (mark_of left)
      goes_back (next_hook from goes_back) from to refl some (turns s.start s.begins))

module _ {C M K : Type 0} (allows : Standing → LogEntry → Type 0) (mark_of : C → ℕ)
    (old new : Calls M K C) (goes_back : Bool) (error : Option Error)
    (last : CallsLast allows mark_of goes_back old new) where
  -- the same of a request of which a hook of its end comes next
  last_to : (there : Last K) → last.from ≡ there → calls_next there goes_back ≡ true
      → StandsBy allows mark_of old last.held old.session.seen.downstream error there
      → StandsBy allows mark_of new last.left new.session.seen.downstream error last.to
  last_to (closing.At from) is some s =
      stage_to allows mark_of old new last.held last.left error from s goes_back last.to some
      (subst (λ (k : Last K). ((last.to ≡ closing.Lost) × (log_of new ≡ log_of old))
      ⊎ ((start : Station) → IsTrue (may_begin start k)
      → TurnsOn allows start goes_back k old.session.seen (mark_of last.held)
      new.session.seen (mark_of last.left) last.to)) is last.turns)
  last_to (closing.Ended how) is some s = absurd (true≢false (sym some))
  last_to closing.Lost is some s = absurd (true≢false (sym some))

  last_run : {L : Type 0} (state : L → LinkState) (start_at : L → LinkStart) (there : Last K)
      (s : Start) (p : Passed) (w : World) (own : List (Returned L))
      (attempts : List AttemptRecord) → last.from ≡ there → calls_next there goes_back ≡ true
      → StandsBy allows mark_of old last.held old.session.seen.downstream error there
      → RunSoFar {C = C} state start_at (called_to s (log_of old)) p w own
      (Ended (Served error goes_back) attempts)
      → RunSoFar {C = C} state start_at (called_to s (log_of new)) p w own
      (Ended (Served error goes_back) attempts)
  last_run state start_at (closing.At from) s p w own attempts is some stands run =
      by (stage_log allows mark_of old new last.held last.left error from stands goes_back last.to
      some (subst (λ (k : Last K). ((last.to ≡ closing.Lost) × (log_of new ≡ log_of old))
      ⊎ ((start : Station) → IsTrue (may_begin start k)
      → TurnsOn allows start goes_back k old.session.seen (mark_of last.held)
      new.session.seen (mark_of last.left) last.to)) is last.turns))
    where
      by : (log_of new ≡ log_of old) ⊎ CallsNext goes_back from (log_of old) (log_of new)
          → RunSoFar {C = C} state start_at (called_to s (log_of new)) p w own
          (Ended (Served error goes_back) attempts)
      by (inl same) =
          subst (λ (l : List LogEntry). RunSoFar {C = C} state start_at (called_to s l) p w own
          (Ended (Served error goes_back) attempts)) (sym same) run
      by (inr calls) =
          next_on C state start_at s p w own attempts error goes_back from (log_of old) (log_of new)
          stands.error_is stands.begun calls run
  last_run state start_at (closing.Ended how) s p w own attempts is some stands run =
      absurd (true≢false (sym some))
  last_run state start_at closing.Lost s p w own attempts is some stands run =
      absurd (true≢false (sym some))

module _ {L C M K : Type 0} (allows : Standing → LogEntry → Type 0) (mark_of : C → ℕ)
    (old new : Calls M K C) (phase : Phase L C) (goes_back : Bool)
    (ends : last_of phase old.at ≡ Some goes_back)
    (last : CallsLast allows mark_of goes_back old new)
    (so_far : CallsSoFar allows mark_of old phase) where
  -- where the end of the request stood
  stood : StandsBy allows mark_of old last.held old.session.seen.downstream
      (ends_served phase old.at goes_back ends).0.error last.from
  stood =
      let so = ends_served phase old.at goes_back ends in
      subst (λ (a : At K C). EndsBy allows mark_of a old old.session.seen.downstream so.0.error)
      last.was (subst (λ (k : Phase L C). CallsSoFar allows mark_of old k) so.0.is so_far)

  calls_some : calls_next last.from goes_back ≡ true
  calls_some =
      subst (λ (a : At K C). has_last a goes_back ≡ true) last.was
      (ends_served phase old.at goes_back ends).1

  -- the calls so far go on
  pub calls_last : CallsSoFar allows mark_of new phase
  calls_last =
      let so = ends_served phase old.at goes_back ends in
      subst (λ (k : Phase L C). CallsSoFar allows mark_of new k) (sym so.0.is)
      (subst (λ (a : At K C). EndsBy allows mark_of a new new.session.seen.downstream so.0.error)
      (sym last.is_at)
      (last_to allows mark_of old new goes_back so.0.error last last.from refl calls_some stood))

  -- where it stood no answer of a purge is filtered, and the log is in order behind it
  pub last_elsewhere : StandsElsewhere (log_of old)
      × ((at : Station) × IsLogged allows (log_of new) at)
  last_elsewhere =
      let so = ends_served phase old.at goes_back ends in (
        ends_elsewhere allows mark_of old last.held old.session.seen.downstream so.0.error goes_back
            last.from calls_some stood,
        calls_logged allows mark_of new phase calls_last,
      )

  -- and so does the run so far, in a step that calls a hook alone
  pub last_on : (state : L → LinkState) (start_at : L → LinkStart) (s : Start) (p : Passed)
      (w : World) (own : List (Returned L)) (returned : Option (List (Returned L)))
      (told : Option (List Fault)) (has : Option (List Offer)) (was now : Work)
      → CountsNone was now → RunSoFar state start_at (called_to s (log_of old)) p w own phase
      → StepsOn state start_at (called_to s (log_of old)) (called_to s (log_of new)) p w own
      returned returned told told has has w.client w.ahead was now phase phase
  last_on state start_at s p w own returned told has was now counts run =
      let so = ends_served phase old.at goes_back ends in
      rests_on state start_at (called_to s (log_of old)) (called_to s (log_of new)) p w own
      returned told has was now phase
      (subst (λ (k : Phase L C). RunSoFar state start_at (called_to s (log_of new)) p w own k)
      (sym so.0.is)
      (last_run allows mark_of old new goes_back so.0.error last state start_at last.from s p w own
      so.0.attempts refl calls_some stood
      (subst (λ (k : Phase L C). RunSoFar state start_at (called_to s (log_of old)) p w own k)
      so.0.is run)))
      counts
      (λ tasks ends counted.
      subst (λ (k : Phase L C). PhaseCounts state start_at tasks ends (called_to s (log_of new))
      w.client w.ahead own k) (sym so.0.is)
      (within_on s (log_of old) (log_of new) tasks ends (most_sides (length so.0.attempts)) w.client
      (OwnGave state start_at own)
      (subst (λ (k : Phase L C). PhaseCounts state start_at tasks ends (called_to s (log_of old))
      w.client w.ahead own k) so.0.is counted)))

-- ---- what a request came to

module _ {C M K : Type 0} (allows : Standing → LogEntry → Type 0) (mark_of : C → ℕ) where
  -- the outcome that is given of a request that was served, by where its end stands
  stands_give : (calls : Calls M K C) (held : C) (client : HttpSession) (error : Option Error)
      (reuse : Bool) (there : Last K) → StandsBy allows mark_of calls held client error there
      → Gives (log_of calls) (Served error reuse) (given there (Served error reuse))
  stands_give calls held client error reuse (closing.At (stage.Failing e)) s =
      Gives.cut error reuse refl (inl refl)
  stands_give calls held client error reuse (closing.At (stage.Told told)) s =
      Gives.cut error reuse refl (inl refl)
  stands_give calls held client error reuse (closing.At (stage.Reporting told)) s =
      Gives.cut error reuse refl (inl refl)
  stands_give calls held client error reuse (closing.At (stage.Ending why)) s =
      Gives.cut error reuse refl (inl refl)
  stands_give calls held client error true (closing.At (stage.Logged why)) s =
      Gives.cut error true refl (inl refl)
  stands_give calls held client error false (closing.At (stage.Logged why)) s =
      Gives.same refl (
        s.logged ∙ ap (λ (o : Option Error). failure o ∷ []) s.error_is,
        λ back. absurd (true≢false (sym back)),
      )
  stands_give calls held client error true (closing.Ended (end.Gone why)) s =
      Gives.closes error refl refl s.logged s.alive
  stands_give calls held client error false (closing.Ended (end.Gone why)) s =
      Gives.same refl (s.logged, λ back. absurd (true≢false (sym back)))
  stands_give calls held client error true (closing.Ended (end.Kept why kept)) s =
      Gives.same refl (s.logged, λ back. s.alive)
  stands_give calls held client error false (closing.Ended (end.Kept why kept)) s =
      Gives.same refl (s.logged, λ back. s.alive)
  stands_give calls held client error reuse closing.Lost s =
      Gives.cut error reuse refl (inr refl)

  -- the same, wherever the request stands
  ends_give : (calls : Calls M K C) (client : HttpSession) (error : Option Error) (reuse : Bool)
      (here : At K C) → EndsBy allows mark_of here calls client error
      → Gives (log_of calls) (Served error reuse) (given_at here (Served error reuse))
  ends_give calls client error reuse (at.Kept kept) ends = absurd ends
  ends_give calls client error reuse (at.Opening there) ends = absurd ends
  ends_give calls client error reuse (at.Purging action) ends = absurd ends
  ends_give calls client error reuse (at.Named peer) ends = absurd ends
  ends_give calls client error reuse (at.Repeatable treated) ends = absurd ends
  ends_give calls client error reuse at.Warning ends = absurd ends
  ends_give calls client error reuse at.Linked ends = absurd ends
  ends_give calls client error reuse (at.Treated treated) ends = absurd ends
  ends_give calls client error reuse (at.Closing held there) ends =
      stands_give calls held client error reuse there ends

-- an outcome that no hook of the end cuts off is given as it is
abbrev is_served : Outcome → Bool
is_served NoRequest = false
is_served (Refused error) = false
is_served (Served error reuse) = true
is_served TurnLimit = false
is_served OutOfMemory = false

given_same : {K X : Type 0} (here : At K X) (came : Outcome) → is_served came ≡ false
    → given_at here came ≡ came
given_same (at.Kept kept) came is = refl
given_same (at.Opening there) came is = refl
given_same (at.Purging action) came is = refl
given_same (at.Named peer) came is = refl
given_same (at.Repeatable error) came is = refl
given_same at.Warning came is = refl
given_same at.Linked came is = refl
given_same (at.Treated error) came is = refl
given_same (at.Closing held there) NoRequest is = refl
given_same (at.Closing held there) (Refused error) is = refl
given_same (at.Closing held there) (Served error reuse) is = absurd (true≢false is)
given_same (at.Closing held there) TurnLimit is = refl
given_same (at.Closing held there) OutOfMemory is = refl

module _ {C M K : Type 0} (allows : Standing → LogEntry → Type 0) (mark_of : C → ℕ) where
  -- the outcome that is given is the one that the request came to, of which `logging` was told, or
  -- its hooks were cut off
  come_give : (calls : Calls M K C) (came : Outcome) → HasCome allows mark_of calls came
      → Gives (log_of calls) came (given_at calls.at came)
  come_give calls NoRequest come = Gives.same (given_same calls.at NoRequest refl) come
  come_give calls (Refused error) come = Gives.same (given_same calls.at (Refused error) refl) come
  come_give calls (Served error reuse) come =
      ends_give allows mark_of calls calls.session.seen.downstream error reuse calls.at come
  come_give calls TurnLimit come = Gives.same (given_same calls.at TurnLimit refl) tt
  come_give calls OutOfMemory come = Gives.same (given_same calls.at OutOfMemory refl) tt

  -- of one that has not ended too
  limit_gives : (calls : Calls M K C) (came : Outcome) → came ≡ TurnLimit
      → Gives (log_of calls) came (given_at calls.at came)
  limit_gives calls came is =
      subst (λ (o : Outcome). Gives (log_of calls) o (given_at calls.at o)) (sym is)
      (Gives.same (given_same calls.at TurnLimit refl) tt)

  in_come : (calls : Calls M K C) (came outcome : Outcome) → came ≡ outcome
      → HasCome allows mark_of calls outcome → Gives (log_of calls) came (given_at calls.at came)
  in_come calls came outcome is come =
      subst (λ (o : Outcome). Gives (log_of calls) o (given_at calls.at o)) (sym is)
      (come_give calls outcome come)

  phase_gives : {L : Type 0} (calls : Calls M K C) (phase : Phase L C) (came : Outcome)
      → CameTo phase came → CallsSoFar allows mark_of calls phase
      → Gives (log_of calls) came (given_at calls.at came)
  phase_gives calls ReadHead came is so_far = limit_gives calls came is
  phase_gives calls (Connect context session tries) came is so_far = limit_gives calls came is
  phase_gives calls (Unlinked context session attempts error) came is so_far =
      limit_gives calls came is
  phase_gives calls (Prepare context session link lease) came is so_far =
      limit_gives calls came is
  phase_gives calls (Relay a) came is so_far = limit_gives calls came is
  phase_gives calls (Broken context session link lease keep error) came is so_far =
      limit_gives calls came is
  phase_gives calls (Again context session link lease keep error) came is so_far =
      limit_gives calls came is
  phase_gives calls (Fail link lease keep session error) came is so_far = limit_gives calls came is
  phase_gives calls (Close link lease keep outcome) came is so_far =
      in_come calls came outcome is so_far
  phase_gives calls (Answer session owed attempts) came is so_far = limit_gives calls came is
  phase_gives calls (Ended outcome attempts) came is so_far = in_come calls came outcome is so_far

-- what a request came to, and what is given of it
pub gives_by : {L C M K : Type 0} (allows : Standing → LogEntry → Type 0) (mark_of : C → ℕ)
    (calls : Calls M K C) (phase : Phase L C) (came outcome : Outcome) → CameTo phase came
    → outcome ≡ given_at calls.at came → CallsSoFar allows mark_of calls phase
    → Gives (log_of calls) came outcome
gives_by allows mark_of calls phase came outcome comes is so_far =
    subst (λ (o : Outcome). Gives (log_of calls) came o) (sym is)
    (phase_gives allows mark_of calls phase came comes so_far)

-- ---- the value that is kept

none_kept : (K : Type 0) (outcome : Outcome) → IsSome (kept_of {K = K} outcome None) → ⊥
none_kept K NoRequest some = absurd (true≢false (sym some))
none_kept K (Refused error) some = absurd (true≢false (sym some))
none_kept K (Served error reuse) some = absurd (true≢false (sym some))
none_kept K TurnLimit some = absurd (true≢false (sym some))
none_kept K OutOfMemory some = absurd (true≢false (sym some))

-- none of a request that was not served
unserved_kept : {K X : Type 0} (here : At K X) (came : Outcome) → is_served came ≡ false
    → IsSome (kept_of (given_at here came) (kept_at here)) → ⊥
unserved_kept here came none some =
    by came none (subst (λ (o : Outcome). IsSome (kept_of o (kept_at here)))
    (given_same here came none) some)
  where
    by : (o : Outcome) → is_served o ≡ false → IsSome (kept_of o (kept_at here)) → ⊥
    by NoRequest none some = true≢false (sym some)
    by (Refused error) none some = true≢false (sym some)
    by (Served error reuse) none some = true≢false none
    by TurnLimit none some = true≢false (sym some)
    by OutOfMemory none some = true≢false (sym some)

module _ {C M K : Type 0} (allows : Standing → LogEntry → Type 0) (mark_of : C → ℕ) where
  stands_keep : (calls : Calls M K C) (held : C) (client : HttpSession) (error : Option Error)
      (reuse : Bool) (there : Last K) → StandsBy allows mark_of calls held client error there
      → IsSome (kept_of (given there (Served error reuse)) (kept_in there))
      → KeepsValue (log_of calls)
  stands_keep calls held client error reuse (closing.At from) s some =
      absurd (none_kept K (given {K = K} (closing.At from) (Served error reuse)) some)
  stands_keep calls held client error reuse (closing.Ended how) s some = s.keeps some
  stands_keep calls held client error reuse closing.Lost s some =
      absurd (none_kept K (given {K = K} closing.Lost (Served error reuse)) some)

  ends_keep : (calls : Calls M K C) (client : HttpSession) (error : Option Error) (reuse : Bool)
      (here : At K C) → EndsBy allows mark_of here calls client error
      → IsSome (kept_of (given_at here (Served error reuse)) (kept_at here))
      → KeepsValue (log_of calls)
  ends_keep calls client error reuse (at.Kept kept) ends some = absurd ends
  ends_keep calls client error reuse (at.Opening there) ends some = absurd ends
  ends_keep calls client error reuse (at.Purging action) ends some = absurd ends
  ends_keep calls client error reuse (at.Named peer) ends some = absurd ends
  ends_keep calls client error reuse (at.Repeatable treated) ends some = absurd ends
  ends_keep calls client error reuse at.Warning ends some = absurd ends
  ends_keep calls client error reuse at.Linked ends some = absurd ends
  ends_keep calls client error reuse (at.Treated treated) ends some = absurd ends
  ends_keep calls client error reuse (at.Closing held there) ends some =
      stands_keep calls held client error reuse there ends some

  come_keep : (calls : Calls M K C) (came : Outcome) → HasCome allows mark_of calls came
      → IsSome (kept_of (given_at calls.at came) (kept_at calls.at)) → KeepsValue (log_of calls)
  come_keep calls NoRequest come some = absurd (unserved_kept calls.at NoRequest refl some)
  come_keep calls (Refused error) come some =
      absurd (unserved_kept calls.at (Refused error) refl some)
  come_keep calls (Served error reuse) come some =
      ends_keep calls calls.session.seen.downstream error reuse calls.at come some
  come_keep calls TurnLimit come some = absurd (unserved_kept calls.at TurnLimit refl some)
  come_keep calls OutOfMemory come some = absurd (unserved_kept calls.at OutOfMemory refl some)

  limit_keeps : (calls : Calls M K C) (came : Outcome) → came ≡ TurnLimit
      → IsSome (kept_of (given_at calls.at came) (kept_at calls.at)) → KeepsValue (log_of calls)
  limit_keeps calls came is some =
      absurd (unserved_kept calls.at TurnLimit refl
      (subst (λ (o : Outcome). IsSome (kept_of (given_at calls.at o) (kept_at calls.at))) is some))

  in_keep : (calls : Calls M K C) (came outcome : Outcome) → came ≡ outcome
      → HasCome allows mark_of calls outcome
      → IsSome (kept_of (given_at calls.at came) (kept_at calls.at)) → KeepsValue (log_of calls)
  in_keep calls came outcome is come some =
      come_keep calls outcome come
      (subst (λ (o : Outcome). IsSome (kept_of (given_at calls.at o) (kept_at calls.at))) is some)

  phase_keeps : {L : Type 0} (calls : Calls M K C) (phase : Phase L C) (came : Outcome)
      → CameTo phase came → CallsSoFar allows mark_of calls phase
      → IsSome (kept_of (given_at calls.at came) (kept_at calls.at)) → KeepsValue (log_of calls)
  phase_keeps calls ReadHead came is so_far some = limit_keeps calls came is some
  phase_keeps calls (Connect context session tries) came is so_far some =
      limit_keeps calls came is some
  phase_keeps calls (Unlinked context session attempts error) came is so_far some =
      limit_keeps calls came is some
  phase_keeps calls (Prepare context session link lease) came is so_far some =
      limit_keeps calls came is some
  phase_keeps calls (Relay a) came is so_far some = limit_keeps calls came is some
  phase_keeps calls (Broken context session link lease keep error) came is so_far some =
      limit_keeps calls came is some
  phase_keeps calls (Again context session link lease keep error) came is so_far some =
      limit_keeps calls came is some
  phase_keeps calls (Fail link lease keep session error) came is so_far some =
      limit_keeps calls came is some
  phase_keeps calls (Close link lease keep outcome) came is so_far some =
      in_keep calls came outcome is so_far some
  phase_keeps calls (Answer session owed attempts) came is so_far some =
      limit_keeps calls came is some
  phase_keeps calls (Ended outcome attempts) came is so_far some =
      in_keep calls came outcome is so_far some

-- a value that is kept is that of the last call
pub keeps_by : {L C M K : Type 0} (allows : Standing → LogEntry → Type 0) (mark_of : C → ℕ)
    (calls : Calls M K C) (phase : Phase L C) (came outcome : Outcome) → CameTo phase came
    → outcome ≡ given_at calls.at came → CallsSoFar allows mark_of calls phase
    → IsSome (kept_of outcome (kept_at calls.at)) → KeepsValue (log_of calls)
keeps_by allows mark_of calls phase came outcome comes is so_far some =
    phase_keeps allows mark_of calls phase came comes so_far
    (subst (λ (o : Outcome). IsSome (kept_of o (kept_at calls.at))) is some)

-- ---- the end of a request

-- what it came to, wherever it stood
pub finishes_came : {L C : Type 0} (phase : Phase L C) (before after : Option (List (Returned L)))
    (ending : Ending) → Finishes phase before after ending → CameTo phase ending.outcome
finishes_came ReadHead before after ending does = does.limit
finishes_came (Connect context session tries) before after ending does = does.limit
finishes_came (Unlinked context session attempts error) before after ending does = does.limit
finishes_came (Prepare context session link lease) before after ending does = does.limit
finishes_came (Relay a) before after ending does = does.limit
finishes_came (Broken context session link lease keep error) before after ending does = does.limit
finishes_came (Again context session link lease keep error) before after ending does = does.limit
finishes_came (Fail link lease keep session error) before after ending does = does.limit
finishes_came (Close link lease keep outcome) before after ending does = does.0
finishes_came (Answer session owed attempts) before after ending does = does.limit
finishes_came (Ended outcome attempts) before after ending does = does.0

-- where a hook of the end is to be called no more turns were given
cut_off : {K X : Type 0} (here : At K X) (error : Option Error) (reuse : Bool)
    → has_last here reuse ≡ true → given_at here (Served error reuse) ≡ TurnLimit
cut_off (at.Kept kept) error reuse calls = absurd (true≢false (sym calls))
cut_off (at.Opening there) error reuse calls = absurd (true≢false (sym calls))
cut_off (at.Purging action) error reuse calls = absurd (true≢false (sym calls))
cut_off (at.Named peer) error reuse calls = absurd (true≢false (sym calls))
cut_off (at.Repeatable treated) error reuse calls = absurd (true≢false (sym calls))
cut_off at.Warning error reuse calls = absurd (true≢false (sym calls))
cut_off at.Linked error reuse calls = absurd (true≢false (sym calls))
cut_off (at.Treated treated) error reuse calls = absurd (true≢false (sym calls))
cut_off (at.Closing held there) error reuse calls = rw calls refl

still_ends : {K X : Type 0} (here : At K X) (outcome : Outcome)
    → not (is_some (last_from (reuse_of outcome) here)) ≡ false
    → given_at here outcome ≡ TurnLimit
still_ends here NoRequest ends = absurd (true≢false ends)
still_ends here (Refused error) ends = absurd (true≢false ends)
still_ends here (Served error reuse) ends =
    cut_off here error reuse (by (has_last here reuse) ends)
  where
    by : (b : Bool) → not (is_some (if b then Some reuse else None)) ≡ false → b ≡ true
    by true ends = refl
    by false ends = absurd (true≢false ends)
still_ends here TurnLimit ends = absurd (true≢false ends)
still_ends here OutOfMemory ends = absurd (true≢false ends)

limited : {K X : Type 0} (here : At K X) (came : Outcome) → came ≡ TurnLimit
    → given_at here came ≡ TurnLimit
limited here came is =
    ap (λ (o : Outcome). given_at here o) is ∙ given_same here TurnLimit refl

-- a request that ended for want of memory gives that
pub lost_gives : {L C K : Type 0} (phase : Phase L C) (here : At K C) (came given : Outcome)
    → HasLost phase → CameTo phase came → given ≡ given_at here came → given ≡ OutOfMemory
lost_gives phase here came given (attempts, is) comes gives =
    let same : came ≡ OutOfMemory = subst (λ (k : Phase _ _). CameTo k came) is comes in
    gives ∙ ap (λ (o : Outcome). given_at here o) same ∙ given_same here OutOfMemory refl

-- a request that has not ended, or of which a hook is to be called, gives `TurnLimit`
pub undone_limit : {L C K X : Type 0} (phase : Phase L C) (here : At K X) (came : Outcome)
    → CameTo phase came → is_done phase here ≡ false → given_at here came ≡ TurnLimit
undone_limit ReadHead here came is undone = limited here came is
undone_limit (Connect context session tries) here came is undone = limited here came is
undone_limit (Unlinked context session attempts error) here came is undone = limited here came is
undone_limit (Prepare context session link lease) here came is undone = limited here came is
undone_limit (Relay a) here came is undone = limited here came is
undone_limit (Broken context session link lease keep error) here came is undone =
    limited here came is
undone_limit (Again context session link lease keep error) here came is undone =
    limited here came is
undone_limit (Fail link lease keep session error) here came is undone = limited here came is
undone_limit (Close link lease keep outcome) here came is undone = absurd (true≢false undone)
undone_limit (Answer session owed attempts) here came is undone = limited here came is
undone_limit (Ended outcome attempts) here came is undone =
    ap (λ (o : Outcome). given_at here o) is ∙ still_ends here outcome undone

-- once all its hooks were called none is cut off
none_cut : {K X : Type 0} (here : At K X) (error : Option Error) (reuse : Bool)
    → has_last here reuse ≡ false → given_at here (Served error reuse) ≢ TurnLimit
none_cut (at.Kept kept) error reuse none = λ limit. cc
none_cut (at.Opening there) error reuse none = λ limit. cc
none_cut (at.Purging action) error reuse none = λ limit. cc
none_cut (at.Named peer) error reuse none = λ limit. cc
none_cut (at.Repeatable treated) error reuse none = λ limit. cc
none_cut at.Warning error reuse none = λ limit. cc
none_cut at.Linked error reuse none = λ limit. cc
none_cut (at.Treated treated) error reuse none = λ limit. cc
none_cut (at.Closing held there) error reuse none = λ limit.
    by (is_lost there)
    (subst (λ (b : Bool). (if b then TurnLimit else
    (if is_lost there then OutOfMemory else Served error (reuse && not (is_gone there))))
    ≡ TurnLimit) none limit)
  where
    by : (b : Bool)
        → (if b then OutOfMemory else Served error (reuse && not (is_gone there))) ≡ TurnLimit
        → ⊥
    by true limit = cc
    by false limit = cc

all_called : {K X : Type 0} (here : At K X) (outcome : Outcome)
    → not (is_some (last_from (reuse_of outcome) here)) ≡ true → outcome ≢ TurnLimit
    → given_at here outcome ≢ TurnLimit
all_called here NoRequest ends other =
    λ limit. other (sym (given_same here NoRequest refl) ∙ limit)
all_called here (Refused error) ends other =
    λ limit. other (sym (given_same here (Refused error) refl) ∙ limit)
all_called here (Served error reuse) ends other =
    none_cut here error reuse (by (has_last here reuse) ends)
  where
    by : (b : Bool) → not (is_some (if b then Some reuse else None)) ≡ true → b ≡ false
    by true ends = absurd (true≢false (sym ends))
    by false ends = refl
all_called here TurnLimit ends other = λ limit. other refl
all_called here OutOfMemory ends other =
    λ limit. other (sym (given_same here OutOfMemory refl) ∙ limit)

module _ {L C : Type 0} (state : L → LinkState) (start_at : L → LinkStart) where
  -- a request that is done gives no `TurnLimit`
  pub done_gives : (tasks ends : ℕ) (s : Start) (client : LinkState) (ahead : List ℕ)
      (own : List (Returned L)) (phase : Phase L C) {K : Type 0} (here : At K C)
      (came outcome : Outcome) → PhaseCounts state start_at tasks ends s client ahead own phase
      → CameTo phase came → outcome ≡ given_at here came → is_done phase here ≡ true
      → (is_over phase ≡ true → came ≢ TurnLimit) → outcome ≢ TurnLimit
  done_gives tasks ends s client ahead own ReadHead here came outcome counts is given done over =
      absurd (true≢false (sym done))
  done_gives tasks ends s client ahead own (Connect context session tries) here came outcome counts
      is given done over = absurd (true≢false (sym done))
  done_gives tasks ends s client ahead own (Unlinked context session attempts error) here came
      outcome counts is given done over = absurd (true≢false (sym done))
  done_gives tasks ends s client ahead own (Prepare context session link lease) here came outcome
      counts is given done over = absurd (true≢false (sym done))
  done_gives tasks ends s client ahead own (Relay a) here came outcome counts is given done over =
      absurd (true≢false (sym done))
  done_gives tasks ends s client ahead own (Broken context session link lease keep e) here came
      outcome counts is given done over = absurd (true≢false (sym done))
  done_gives tasks ends s client ahead own (Again context session link lease keep e) here came
      outcome counts is given done over = absurd (true≢false (sym done))
  done_gives tasks ends s client ahead own (Fail link lease keep session e) here came outcome counts
      is given done over = absurd (true≢false (sym done))
  done_gives tasks ends s client ahead own (Close link lease keep end) here came outcome counts is
      given done over = absurd counts
  done_gives tasks ends s client ahead own (Answer session owed attempts) here came outcome counts
      is given done over = absurd (true≢false (sym done))
  done_gives tasks ends s client ahead own (Ended end attempts) here came outcome counts is given
      done over = λ limit.
      all_called here end done (λ same. over refl (is ∙ same))
      (ap (λ (o : Outcome). given_at here o) (sym is) ∙ sym given ∙ limit)
