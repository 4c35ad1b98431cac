-- The calls of a request, by the phase that a turn leads to.
--
--   turn_allowed                   what the modules allow in a turn is allowed by modules
--   walks_more, order_more         a log goes on past a call
--   breaks_more .. relays_more     an attempt goes out behind a call, or fails
--   treated_breaks                 its error was treated
--   repeats_turn .. repeats_logged  and another attempt follows
--   unopened_calls, begun_exchange  a turn that makes no call leaves the calls so far
--   settled_calls                  and so does the settling of a phase
use Rattle.std.proofs.Common.{◌≡◌, ℕ, ◌+◌, ◌≤◌, Bool, true, false, not, ◌&&◌, List, [], ◌∷◌, ◌++◌, length, length-append, append-nil, arith, Option, None, Some, refl, sym, ap, subst, ◌∙◌, true≢false}
use Rattle.std.proofs.lemmas.List.Folds.{list_any-append}
use Rattle.std.specs.Prelude.{◌==◌, IsTrue, if◌then◌else◌, unwrap_or}
use Rattle.relay_tasks.specs.Error.{may_retry}
use Rattle.relay_tasks.specs.Head.{RequestHead, new_request}
use Rattle.relay_tasks.specs.Hooks.{number_of, same_hook}
use Rattle.relay_tasks.specs.declared.Error.{Error}
use Rattle.relay_tasks.specs.declared.Peer.{Peer}
use Rattle.relay_tasks.specs.declared.hook.Hook.{Hook}
use Rattle.relay_tasks.specs.declared.hook.Hook.TheVariants as hook
use Rattle.relay_tasks.specs.declared.log.LogEntry.{LogEntry}
use Rattle.relay_tasks.specs.declared.log.View.{View}
use Rattle.relay_tasks.specs.declared.task.HttpTask.{HttpTask}
use Rattle.relay_connector.specs.declared.Returned.{Returned}
use Rattle.relay_opening.proofs.ToldLemmas.{reads_truncated}
use Rattle.relay_session.specs.Reading.{head_of, is_truncated}
use Rattle.relay_session.specs.Response.{has_head}
use Rattle.relay_session.specs.declared.session.HttpSession.{HttpSession}
use Rattle.relay_session.specs.declared.writing.Writing.{Writing}
use Rattle.relay_modules.specs.Module.{ModuleCall}
use Rattle.relay_modules.specs.declared.seen.Seen.{Seen}
use Rattle.relay_hooks.specs.Session.{moment, request_head}
use Rattle.relay_hooks.specs.Standing.{Standing, standing}
use Rattle.relay_calls.specs.Log.{Views, Walk}
use Rattle.relay_calls.proofs.LogLemmas.{Walk-append}
use Rattle.relay_phases.specs.Order.{Accepts, Station, came, next, well}
use Rattle.relay_phases.specs.Order.{Station as station}
use Rattle.relay_phases.specs.Turns.{CallsOnce, HasCalled, QueuesNothing, Turns}
use Rattle.relay_phases.proofs.OrderLemmas.{Accepts-one}
use Rattle.relay_opening.specs.Place.{TurnAllows}
use Rattle.relay_opening.specs.declared.place.Called.TheVariants as called
use Rattle.relay_opening.specs.declared.place.End.TheVariants as end
use Rattle.relay_opening.specs.declared.place.Place.{Place}
use Rattle.relay_opening.specs.declared.place.Place.TheVariants as place
use Rattle.relay_trying.specs.Trying as leads
use Rattle.relay_trying.specs.Trying.{Treats, may_break, may_follow}
use Rattle.relay_closing.specs.Place.{may_fail}
use Rattle.relay_request.specs.Calls.{BeginsCalls, BreaksAt, CallsNext, CallsSoFar, CountsCalls, GoesOn, HasBegun, HasCome, IsTreatedBefore, IsBreaking, IsLogged, IsOpening, IsOwing, IsSendingCalls, IsUncalled, IsUncalledEnd, IsUncalledFor, IsUnended, TakesNext, TellsPeer, is_before, leads_at, log_of, seen_with, station_at, treated_at}
use Rattle.relay_request.specs.Closing.{Settles}
use Rattle.relay_request.specs.Passed.{begins_end}
use Rattle.relay_request.specs.Sent.{IsTreated, IsUntreated, is_of}
use Rattle.relay_request.specs.Tries.{tries_in}
use Rattle.relay_request.specs.declared.calls.At.{At}
use Rattle.relay_request.specs.declared.calls.At.TheVariants as at
use Rattle.relay_request.specs.declared.calls.Calls.{Calls}
use Rattle.relay_request.specs.declared.calls.Opened.TheVariants as led
use Rattle.relay_request.specs.declared.machine.Attempt.{Attempt}
use Rattle.relay_request.specs.declared.machine.Phase.{Phase}
use Rattle.relay_request.specs.declared.outcome.Outcome.{Outcome}
use Rattle.relay_request.specs.declared.outcome.Outcome.TheVariants as outcome
use Rattle.relay_request.specs.declared.owed.Owed.{Owed}
use Rattle.relay_request.specs.declared.owed.Owed.TheVariants as owing
use Rattle.relay_request.specs.declared.machine.Phase.TheVariants.{ReadHead, Connect, Unlinked, Prepare, Relay, Broken, Again, Fail, Close, Answer, Ended}
use Rattle.relay_request.specs.declared.record.AttemptRecord.{AttemptRecord}
use Rattle.relay_request.specs.declared.work.Work.{Work}
use Rattle.relay_request.proofs.FilterLemmas.{order_past, unended_past, walks_past}
use Rattle.relay_request.proofs.TreatLemmas.{treats_last, unended_more, untreated_again}

-- what the modules allow in a turn is allowed by modules
pub turn_allowed : {K M : Type 0} (allows : M → ModuleCall → Type 0) (p : Place K)
    (made : Option M) (call : ModuleCall) → TurnAllows allows p made call
    → (modules : M) × allows modules call
turn_allowed allows (place.Behind (called.Made kept)) made call none = absurd none
turn_allowed allows (place.Behind called.Handed) made call none = absurd none
turn_allowed allows (place.Behind called.Early) made call none = absurd none
turn_allowed allows (place.Behind called.Spawning) None call none = absurd none
turn_allowed allows (place.Behind called.Spawning) (Some modules) call told = (modules, told)
turn_allowed allows (place.Behind called.Headed) made call none = absurd none
turn_allowed allows (place.Behind called.Filtered) made call none = absurd none
turn_allowed allows (place.Behind called.Sending) made call none = absurd none
turn_allowed allows (place.Ended how) made call none = absurd none
turn_allowed allows place.Lost made call none = absurd none

-- ---- logs

-- where nothing was called
nowhere : Standing
nowhere = record {
  mark = 0;
  head = new_request [] [];
  keepalive = false;
  view = record { final_head = false; truncated = false; upgraded = false };
  peer = None;
  reused = false;
}

-- no call is a log in order
pub none_logged : (allows : Standing → LogEntry → Type 0) (log : List LogEntry) → log ≡ []
    → (at : Station) × IsLogged allows log at
none_logged allows log none = (
  station.accepted,
  subst (λ (l : List LogEntry). IsLogged allows l station.accepted) (sym none) (record {
    from = nowhere;
    to = nowhere;
    walks = record {
      mark = refl;
      head = refl;
      keepalive = refl;
      final_head = λ is. is;
      upgraded = λ is. is;
    };
    order = refl;
  }),
)

-- the calls of a session that had none are its log
all_entries : (first now : Seen) (entries : List LogEntry) → first.log ≡ []
    → now.log ≡ first.log ++ entries → entries ≡ now.log
all_entries first now entries none log =
    sym (ap (λ (l : List LogEntry). l ++ entries) none) ∙ sym log

-- the calls that were made of a session are one, up to where they lead
called_stands : (allows : Standing → LogEntry → Type 0) (first now : Seen) (mark behind : ℕ)
    (to : Station) (queues : Writing → Writing → List HttpTask → Type 0) (log : List LogEntry)
    → first.log ≡ [] → now.log ≡ log
    → HasCalled allows first mark station.accepted to queues now behind → IsLogged allows log to
called_stands allows first now mark behind to queues log none same h =
    subst (λ (l : List LogEntry). IsLogged allows l to)
    (sym (ap (λ (l : List LogEntry). l ++ h.entries) none) ∙ sym h.log ∙ same)
    (record {
      from = standing None false (moment first mark);
      to = standing None false (moment now behind);
      walks = h.walks;
      order = h.order;
    })

pub called_logged : (allows : Standing → LogEntry → Type 0) (first now : Seen) (mark behind : ℕ)
    (to : Station) (queues : Writing → Writing → List HttpTask → Type 0) (log : List LogEntry)
    → first.log ≡ [] → now.log ≡ log
    → HasCalled allows first mark station.accepted to queues now behind
    → (at : Station) × IsLogged allows log at
called_logged allows first now mark behind to queues log none same h =
    (to, called_stands allows first now mark behind to queues log none same h)

-- the first call is none in which an error is treated, and the end does not begin with it
other_number : (other : Hook) → (number_of hook.NewCtx == number_of other) ≡ false → (n : ℕ)
    → (number_of hook.NewCtx == n) ≡ true → (number_of other == n) ≡ false
other_number other differs n is = grind (arith, differs, is)

first_other : (other : Hook) → (number_of hook.NewCtx == number_of other) ≡ false
    → (e : LogEntry) → next station.accepted e ≡ Some station.made → is_of other e ≡ false
first_other other differs e leads = by (same_hook hook.NewCtx e.hook) (came well e) refl leads
  where
    by : (a c : Bool) → same_hook hook.NewCtx e.hook ≡ a
        → (if (a && c) then Some station.made else None) ≡ Some station.made
        → is_of other e ≡ false
    by true true same is = other_number other differs (number_of e.hook) same
    by true false same is = cc
    by false c same is = cc

made_untreated : (es : List LogEntry) → Accepts station.accepted es station.made
    → length es ≡ 1 → IsUntreated es
made_untreated [] order one = absurd (omega (arith, one))
made_untreated (e ∷ []) order one = rw (first_other hook.ErrorWhileProxy refl e order) refl
made_untreated (e ∷ x ∷ es) order one = absurd (omega (arith, one))

made_unended : (es : List LogEntry) → Accepts station.accepted es station.made
    → length es ≡ 1 → IsUnended es
made_unended [] order one = absurd (omega (arith, one))
made_unended (e ∷ []) order one =
    rw (first_other hook.FailToProxy refl e order, first_other hook.Logging refl e order) refl
made_unended (e ∷ x ∷ es) order one = absurd (omega (arith, one))

-- the calls of a log that had none are as many as it has
entries_one : (before now entries : List LogEntry) → before ≡ [] → now ≡ before ++ entries
    → length now ≡ length before + 1 → length entries ≡ 1
entries_one before now entries none log one = omega (
  arith,
  one,
  ap (λ (l : List LogEntry). length l) none,
  ap (λ (l : List LogEntry). length l) log,
  length-append before entries,
)

-- the context was made, with which the end does not begin
pub begun_on : (these those entries : List LogEntry) → those ≡ these ++ entries
    → Accepts station.accepted entries station.made → length those ≡ length these + 1
    → IsUnended these → IsUnended those
begun_on these those entries log order one none =
    let single : length entries ≡ 1 = omega (
      arith,
      one,
      ap (λ (l : List LogEntry). length l) log,
      length-append these entries,
    ) in
    subst (λ (l : List LogEntry). IsUnended l) (sym log)
    (list_any-append (λ (x : LogEntry). begins_end x.hook) these entries
    ∙ rw (none, made_unended entries order single) refl)

-- a walk ends as well where the standing may change to
pub walk_further : (allows : Standing → LogEntry → Type 0) (es : List LogEntry)
    (from mid to : Standing) → Walk allows from es mid → Views mid to → Walk allows from es to
walk_further allows es from mid to walks views =
    subst (λ (l : List LogEntry). Walk allows from l to) (append-nil es)
    (Walk-append allows es [] from mid to walks views)

-- a log in order up to where a call may come is in order past it
pub order_more : {M K X : Type 0} (c d : Calls M K X) (here to : Station) (e : LogEntry)
    → log_of d ≡ log_of c ++ e ∷ [] → next here e ≡ Some to
    → Accepts station.accepted (log_of c) here → Accepts station.accepted (log_of d) to
order_more c d here to e more leads order =
    subst (λ (l : List LogEntry). Accepts station.accepted l to) (sym more)
    (Accepts-one station.accepted here to (log_of c) e order leads)

-- ---- what is counted

-- the log has one entry more
pub one_called : {M K X : Type 0} (old new : Calls M K X) (work : Work) → work.called ≤ 1
    → (e : LogEntry) → log_of new ≡ log_of old ++ e ∷ [] → CountsCalls old new work
one_called old new work once e is =
    let more = ap (λ (l : List LogEntry). length l) is ∙ length-append (log_of old) (e ∷ []) in
    record {
      counted = omega (arith, once, more);
      once = omega (arith, more);
      grows = record { rest = e ∷ []; joined = sym is };
    }

-- or it is the same
pub none_called : {M K X : Type 0} (old new : Calls M K X) (work : Work) → work.called ≡ 0
    → log_of new ≡ log_of old → CountsCalls old new work
none_called old new work none is =
    let same = ap (λ (l : List LogEntry). length l) is in
    record {
      counted = omega (arith, none, same);
      once = omega (arith, same);
      grows = record { rest = []; joined = append-nil (log_of old) ∙ sym is };
    }

-- what is counted goes by the log before, too
pub counted_from : {M K X : Type 0} (old mid new : Calls M K X) (work : Work)
    → log_of mid ≡ log_of old → CountsCalls mid new work → CountsCalls old new work
counted_from old mid new work same counts =
    let long = ap (λ (l : List LogEntry). length l) same in
    record {
      counted = omega (arith, counts.counted, long);
      once = omega (arith, counts.once, long);
      grows = record {
        rest = counts.grows.rest;
        joined = ap (λ (l : List LogEntry). l ++ counts.grows.rest) (sym same)
            ∙ counts.grows.joined;
      };
    }

-- ---- where an error may be treated

-- none was so far, and it may be there
breaks_untreated : {K X : Type 0} (a : At K X) (log : List LogEntry) (error : Error)
    (here : Station)
    → treated_at a ≡ None → IsTrue (may_break here) → BreaksAt a log error here
breaks_untreated (at.Kept kept) log error here none may = may
breaks_untreated (at.Opening there) log error here none may = may
breaks_untreated (at.Purging action) log error here none may = may
breaks_untreated (at.Named peer) log error here none may = may
breaks_untreated (at.Repeatable treated) log error here none may = may
breaks_untreated at.Warning log error here none may = may
breaks_untreated at.Linked log error here none may = may
breaks_untreated (at.Treated treated) log error here none may = cc
breaks_untreated (at.Closing held there) log error here none may = may

-- and it may still, where it was not
pub may_treat : {K X : Type 0} (a : At K X) (log : List LogEntry) (error : Error) (here : Station)
    → treated_at a ≡ None → BreaksAt a log error here → IsTrue (may_break here)
may_treat (at.Kept kept) log error here none may = may
may_treat (at.Opening there) log error here none may = may
may_treat (at.Purging action) log error here none may = may
may_treat (at.Named peer) log error here none may = may
may_treat (at.Repeatable treated) log error here none may = may
may_treat at.Warning log error here none may = may
may_treat at.Linked log error here none may = may
may_treat (at.Treated treated) log error here none may = cc
may_treat (at.Closing held there) log error here none may = may

-- nor is there one then that may be tried again
pub never_again : {K X : Type 0} (a : At K X) (left : HttpSession) (to : Station)
    → treated_at a ≡ None → (treated : Error) → treated_at a ≡ Some treated
    → may_retry treated.retry ≡ true → has_head left.writing.place ≡ false
    → is_truncated left.reading ≡ false → to ≡ station.repeatable
never_again a left to untreated treated is marked open_to kept =
    let clash : None ≡ Some treated = sym untreated ∙ is in cc

-- nor one whose treatment was shown anything
pub never_viewed : {K X : Type 0} (a : At K X) (left : HttpSession) (log : List LogEntry)
    (error : Error) → treated_at a ≡ None → (treated : Error) → treated_at a ≡ Some treated
    → IsTreatedBefore log error treated left
never_viewed a left log error untreated treated is =
    let clash : None ≡ Some treated = sym untreated ∙ is in cc

-- where it was, the log tells of that, and it may be answered
pub was_treated : {K X : Type 0} (a : At K X) (log : List LogEntry) (error treated : Error)
    (here : Station) → treated_at a ≡ Some treated → BreaksAt a log error here
    → IsTreated log error treated × IsTrue (may_fail here)
was_treated (at.Kept kept) log error treated here is breaks = cc
was_treated (at.Opening there) log error treated here is breaks = cc
was_treated (at.Purging action) log error treated here is breaks = cc
was_treated (at.Named peer) log error treated here is breaks = cc
was_treated (at.Repeatable other) log error treated here is breaks = cc
was_treated at.Warning log error treated here is breaks = cc
was_treated at.Linked log error treated here is breaks = cc
was_treated (at.Treated other) log error treated here is breaks =
    let same : other ≡ treated = cc in
    (subst (λ (e : Error). IsTreated log error e) same breaks.0, breaks.1)
was_treated (at.Closing held there) log error treated here is breaks = cc

-- wherever the treatment leads it may be answered
may_answer : (follows : Bool) → IsTrue (may_fail (leads.treated_at follows))
may_answer true = refl
may_answer false = refl

-- where it was marked so, no final head was queued, and what was read of the body is kept, another
-- attempt may follow
repeats_at : (treated : Error) (seen : Seen) → may_retry treated.retry ≡ true
    → has_head seen.downstream.writing.place ≡ false
    → is_truncated seen.downstream.reading ≡ false
    → leads.treated_at (may_follow treated seen) ≡ station.repeatable
repeats_at treated seen marked open_to kept =
    let lost = is_truncated seen.downstream.reading in
    ap (λ (b : Bool). leads.treated_at
    (b && (not (has_head seen.downstream.writing.place) && not lost)))
    marked
    ∙ ap (λ (b : Bool). leads.treated_at (not b && not lost)) open_to
    ∙ ap (λ (b : Bool). leads.treated_at (not b)) kept

same_error : (a b : Error) → Some a ≡ Some b → a ≡ b
same_error a b is = cc

-- what was treated is one error
viewed_as : (log : List LogEntry) (raised treated other : Error) (left : HttpSession)
    → IsTreatedBefore log raised treated left → other ≡ treated
    → IsTreatedBefore log raised other left
viewed_as log raised treated other left viewed same =
    subst (λ (e : Error). IsTreatedBefore log raised e left) (sym same) viewed

same_hooks : (a b : Hook) → Some a ≡ Some b → a ≡ b
same_hooks a b is = cc

-- ---- up to the exchange

module _ {C M K : Type 0} (allows : Standing → LogEntry → Type 0) (mark_of : C → ℕ) where
  -- a log that walked up to a call walks past it
  pub walks_more : (c d : Calls M K C) (context context' : C) (client left : HttpSession)
      (from : Standing) (e : LogEntry)
      → CallsOnce allows (seen_with c client) (mark_of context) (seen_with d left)
      (mark_of context') e
      → Walk allows from (log_of c)
      (standing None false (moment (seen_with c client) (mark_of context)))
      → Walk allows from (log_of d)
      (standing None false (moment (seen_with d left) (mark_of context')))
  walks_more c d context context' client left from e call walks =
      subst (λ (l : List LogEntry). Walk allows from l
      (standing None false (moment (seen_with d left) (mark_of context')))) (sym call.log)
      (Walk-append allows (log_of c) (e ∷ []) from
      (standing None false (moment (seen_with c client) (mark_of context)))
      (standing None false (moment (seen_with d left) (mark_of context'))) walks call.walk)

  -- up to the exchange the log is in order, up to where the hooks stand
  pub opening_logged : (calls : Calls M K C) (context : C) (client : HttpSession)
      (tries : List AttemptRecord) → IsOpening allows mark_of calls context client tries
      → (at : Station) × IsLogged allows (log_of calls) at
  opening_logged calls context client tries o = (
    station_at calls.at,
    record { from = o.from; to = _; walks = o.walks; order = o.order },
  )

  -- behind one call more it is in order up to where that leads
  pub logged_more : (c d : Calls M K C) (context context' : C) (client left : HttpSession)
      (tries : List AttemptRecord) (which : Hook) (to : Station)
      (queues : Writing → Writing → List HttpTask → Type 0)
      → Turns allows which (station_at c.at) to queues (seen_with c client) (mark_of context)
      (seen_with d left) (mark_of context')
      → IsOpening allows mark_of c context client tries → IsLogged allows (log_of d) to
  logged_more c d context context' client left tries which to queues turn o = record {
    from = o.from;
    to = standing None false (moment (seen_with d left) (mark_of context'));
    walks = walks_more c d context context' client left o.from turn.e turn.calls o.walks;
    order = order_more c d (station_at c.at) to turn.e turn.calls.log turn.order o.order;
  }

  -- and behind none it is as it was
  pub logged_same : (c d : Calls M K C) (context : C) (client : HttpSession)
      (tries : List AttemptRecord) → log_of d ≡ log_of c
      → IsOpening allows mark_of c context client tries
      → (at : Station) × IsLogged allows (log_of d) at
  logged_same c d context client tries same o =
      subst (λ (l : List LogEntry). (at : Station) × IsLogged allows l at) (sym same)
      (opening_logged c context client tries o)

  -- behind one call more an attempt may have failed
  pub breaks_more : (c d : Calls M K C) (context context' : C) (client left : HttpSession)
      (tries : List AttemptRecord) (which : Hook) (to : Station) (error : Error)
      → treated_at d.at ≡ None → begins_end which ≡ false → IsTrue (may_break to)
      → Turns allows which (station_at c.at) to QueuesNothing (seen_with c client) (mark_of context)
      (seen_with d left) (mark_of context')
      → IsOpening allows mark_of c context client tries
      → IsBreaking allows mark_of d context' left error
  breaks_more c d context context' client left tries which to error untreated before may turn o =
      record {
        from = o.from;
        walks = walks_more c d context context' client left o.from turn.e turn.calls o.walks;
        at = to;
        order = order_more c d (station_at c.at) to turn.e turn.calls.log turn.order o.order;
        breaks = breaks_untreated d.at (log_of d) error to untreated may;
        again = never_again d.at left to untreated;
        viewed = never_viewed d.at left (log_of d) error untreated;
        unended = unended_more (log_of c) (log_of d) turn.e which turn.calls.log turn.hook before
            o.unended;
      }

  -- or it may behind none
  pub breaks_same : (c d : Calls M K C) (context context' : C) (client left : HttpSession)
      (tries : List AttemptRecord) (error : Error) → d ≡ c → left ≡ client
      → mark_of context' ≡ mark_of context → treated_at d.at ≡ None
      → IsTrue (may_break (station_at c.at))
      → IsOpening allows mark_of c context client tries
      → IsBreaking allows mark_of d context' left error
  breaks_same c d context context' client left tries error same stays still untreated may o =
      record {
        from = o.from;
        walks = subst (λ (x : Calls M K C). Walk allows o.from (log_of x)
            (standing None false (moment (seen_with x left) (mark_of context')))) (sym same)
            (subst (λ (x : HttpSession). Walk allows o.from (log_of c)
            (standing None false (moment (seen_with c x) (mark_of context')))) (sym stays)
            (subst (λ (n : ℕ). Walk allows o.from (log_of c)
            (standing None false (moment (seen_with c client) n))) (sym still) o.walks));
        at = station_at c.at;
        order = subst (λ (x : Calls M K C). Accepts station.accepted (log_of x) (station_at c.at))
            (sym same) o.order;
        breaks = breaks_untreated d.at (log_of d) error (station_at c.at) untreated may;
        again = never_again d.at left (station_at c.at) untreated;
        viewed = never_viewed d.at left (log_of d) error untreated;
        unended = subst (λ (x : Calls M K C). IsUnended (log_of x)) (sym same) o.unended;
      }

  -- behind the call with which it goes out the head was filtered
  pub sending_more : (c d : Calls M K C) (context context' : C) (client left : HttpSession)
      (tries : List AttemptRecord) (which : Hook) → d.at ≡ at.Linked → begins_end which ≡ false
      → Turns allows which (station_at c.at) station.sent QueuesNothing (seen_with c client)
      (mark_of context) (seen_with d left) (mark_of context')
      → IsOpening allows mark_of c context client tries → IsSendingCalls allows mark_of d context' left
  sending_more c d context context' client left tries which linked before turn o = record {
    from = o.from;
    walks = walks_more c d context context' client left o.from turn.e turn.calls o.walks;
    order = order_more c d (station_at c.at) station.sent turn.e turn.calls.log turn.order o.order;
    unended = unended_more (log_of c) (log_of d) turn.e which turn.calls.log turn.hook before
        o.unended;
    linked = linked;
  }

  -- the error of an attempt was treated, and is to be answered
  pub treated_breaks : (c d : Calls M K C) (context context' : C) (client left : HttpSession)
      (peer : Peer) (reused : Bool) (raised treated : Error) → d.at ≡ at.Treated treated
      → (b : IsBreaking allows mark_of c context client raised)
      → Treats allows hook.ErrorWhileProxy peer reused b.at raised (seen_with c client)
      (mark_of context) (seen_with d left) (mark_of context') treated
      → IsBreaking allows mark_of d context' left raised
  treated_breaks c d context context' client left peer reused raised treated is b t =
      let to : Station = leads.treated_at (may_follow treated (seen_with c client)) in
      let e : LogEntry = t.call.turn.e in
      record {
        from = b.from;
        walks = walks_more c d context context' client left b.from e t.call.turn.calls b.walks;
        at = to;
        order = order_more c d b.at to e t.call.turn.calls.log t.call.turn.order b.order;
        breaks = subst (λ (a : At K C). BreaksAt a (log_of d) raised to) (sym is) (
          treats_last (log_of c) (log_of d) e t.call.turn.calls.log t.call.turn.hook raised treated
              t.call.input t.call.output,
          may_answer (may_follow treated (seen_with c client)),
        );
        viewed = λ other is_other. viewed_as (log_of d) raised treated other left (record {
          was = record {
            before = log_of c;
            e = e;
            after = [];
            called_are = t.call.turn.calls.log;
            is_last = refl;
            is_treatment = t.call.turn.hook;
            told = t.call.input;
            answered = t.call.output;
          };
          final_head = ap (λ (v : View). v.final_head) t.call.view
              ∙ ap (λ (x : Writing). has_head x.place) (sym t.call.turn.queued.same);
          truncated = ap (λ (v : View). v.truncated) t.call.view
              ∙ sym (reads_truncated (seen_with c client) (seen_with d left)
              t.call.turn.calls.reads);
        }) (same_error other treated (sym is_other ∙ ap (λ (a : At K C). treated_at a) is));
        again = λ other is_other marked open_to whole. repeats_at treated (seen_with c client)
            (subst (λ (x : Error). may_retry x.retry ≡ true)
            (same_error other treated (sym is_other ∙ ap (λ (a : At K C). treated_at a) is)) marked)
            (ap (λ (x : Writing). has_head x.place) (sym t.call.turn.queued.same) ∙ open_to)
            (sym (reads_truncated (seen_with c client) (seen_with d left) t.call.turn.calls.reads)
            ∙ whole);
        unended = unended_more (log_of c) (log_of d) e hook.ErrorWhileProxy t.call.turn.calls.log
            t.call.turn.hook refl b.unended;
      }

  -- memory was wanted for it, and the log is as it was
  pub untreated_logged : (c d : Calls M K C) (context : C) (client : HttpSession) (error : Error)
      → log_of d ≡ log_of c → IsBreaking allows mark_of c context client error
      → (at : Station) × IsLogged allows (log_of d) at
  untreated_logged c d context client error same b = (
    b.at,
    subst (λ (l : List LogEntry). IsLogged allows l b.at) (sym same)
        (record { from = b.from; to = _; walks = b.walks; order = b.order }),
  )

  -- where another attempt follows the application is asked for the warning of the error
  pub repeats_turn : (c d : Calls M K C) (context context' : C) (client left : HttpSession)
      (treated : Error)
      → CallsNext allows (record c { at = at.Repeatable treated }) client (mark_of context) d left
      (mark_of context')
      → leads_at d.at ≡ led.GoesOn
      → Turns allows hook.SuppressProxyWarnLog station.repeatable (station_at d.at) QueuesNothing
      (seen_with c client) (mark_of context) (seen_with d left) (mark_of context')
  repeats_turn c d context context' client left treated
      (TakesNext.leads before which comes there to turn) goes = absurd (true≢false (sym before))
  repeats_turn c d context context' client left treated (TakesNext.asks t) goes =
      let clash : at.Repeatable treated ≡ at.Opening (place.Ended end.Purge) = t.is_here in cc
  repeats_turn c d context context' client left treated (TakesNext.tried t) goes =
      subst (λ (h : Hook). Turns allows h station.repeatable (station_at d.at) QueuesNothing
      (seen_with c client) (mark_of context) (seen_with d left) (mark_of context'))
      (sym (same_hooks hook.SuppressProxyWarnLog t.which t.comes)) t.turn
  repeats_turn c d context context' client left treated (TakesNext.lost to same) goes =
      let clash : led.OutOfMemory ≡ led.GoesOn =
      sym (ap (λ (a : At K C). leads_at a) to) ∙ goes in cc

  -- so it does behind one whose error was treated and is marked so, where no final head was queued
  pub repeats_calls : (c d : Calls M K C) (context context' : C) (client left : HttpSession)
      (tries : List AttemptRecord) (error treated : Error) → treated_at c.at ≡ Some treated
      → may_retry treated.retry ≡ true → has_head client.writing.place ≡ false
      → is_truncated client.reading ≡ false
      → CallsNext allows (record c { at = at.Repeatable treated }) client (mark_of context) d left
      (mark_of context')
      → leads_at d.at ≡ led.GoesOn → IsBreaking allows mark_of c context client error
      → IsOpening allows mark_of d context' left tries × (is_before d.at ≡ false)
  repeats_calls c d context context' client left tries error treated is marked open_to kept
      (TakesNext.leads before which comes there to turn) goes b = absurd (true≢false (sym before))
  repeats_calls c d context context' client left tries error treated is marked open_to kept
      (TakesNext.asks t) goes b =
      let clash : at.Repeatable treated ≡ at.Opening (place.Ended end.Purge) = t.is_here in cc
  repeats_calls c d context context' client left tries error treated is marked open_to kept
      (TakesNext.tried t) goes b =
      let turn = repeats_turn c d context context' client left treated (TakesNext.tried t) goes in
      let here : Accepts station.accepted (log_of c) station.repeatable =
      subst (λ (x : Station). Accepts station.accepted (log_of c) x)
      (b.again treated is marked open_to kept) b.order in (
        record {
          from = b.from;
          walks = walks_more c d context context' client left b.from turn.e turn.calls b.walks;
          order = order_more c d station.repeatable (station_at d.at) turn.e turn.calls.log
              turn.order here;
          goes = t.goes;
          named = t.tells;
          untried = λ still. absurd (true≢false (sym still ∙ t.past));
          untreated = untreated_again (log_of c) (log_of d) turn.e turn.calls.log turn.hook;
          unanswered = ap (λ (x : Writing). has_head x.place) turn.queued.same ∙ open_to;
          kept = reads_truncated (seen_with c client) (seen_with d left) turn.calls.reads ∙ kept;
          unended = unended_more (log_of c) (log_of d) turn.e hook.SuppressProxyWarnLog
              turn.calls.log turn.hook refl b.unended;
        },
        t.past,
      )
  repeats_calls c d context context' client left tries error treated is marked open_to kept
      (TakesNext.lost to same) goes b =
      let clash : led.OutOfMemory ≡ led.GoesOn =
      sym (ap (λ (a : At K C). leads_at a) to) ∙ goes in cc

  -- wherever that call led the log is in order
  pub repeats_logged : (c d : Calls M K C) (context context' : C) (client left : HttpSession)
      (error treated : Error) → treated_at c.at ≡ Some treated → may_retry treated.retry ≡ true
      → has_head client.writing.place ≡ false → is_truncated client.reading ≡ false
      → CallsNext allows (record c { at = at.Repeatable treated }) client (mark_of context) d left
      (mark_of context')
      → IsBreaking allows mark_of c context client error
      → (at : Station) × IsLogged allows (log_of d) at
  repeats_logged c d context context' client left error treated is marked open_to kept
      (TakesNext.leads before which comes there to turn) b = absurd (true≢false (sym before))
  repeats_logged c d context context' client left error treated is marked open_to kept
      (TakesNext.asks t) b =
      let clash : at.Repeatable treated ≡ at.Opening (place.Ended end.Purge) = t.is_here in cc
  repeats_logged c d context context' client left error treated is marked open_to kept
      (TakesNext.tried t) b = (
        station_at d.at,
        record {
          from = b.from;
          to = standing None false (moment (seen_with d left) (mark_of context'));
          walks = walks_more c d context context' client left b.from t.turn.e t.turn.calls b.walks;
          order = order_more c d station.repeatable (station_at d.at) t.turn.e t.turn.calls.log
              t.turn.order (subst (λ (x : Station). Accepts station.accepted (log_of c) x)
              (b.again treated is marked open_to kept) b.order);
        },
      )
  repeats_logged c d context context' client left error treated is marked open_to kept
      (TakesNext.lost to same) b = untreated_logged c d context client error same b

  -- the context was made, and the calls so far are that one
  pub begun_calls : (c d : Calls M K C) (client left : HttpSession) (context : C)
      (tries : List AttemptRecord) → log_of c ≡ [] → tries ≡ [] → HasBegun d.at
      → has_head client.writing.place ≡ false → is_truncated client.reading ≡ false
      → length (log_of d) ≡ length (log_of c) + 1
      → HasCalled allows (seen_with c client) (mark_of context) station.accepted station.made
      QueuesNothing (seen_with d left) (mark_of context)
      → IsOpening allows mark_of d context left tries
  begun_calls c d client left context tries none untried begun open_to kept one called =
      let entries = all_entries (seen_with c client) (seen_with d left) called.entries none
      called.log in
      record {
        from = standing None false (moment (seen_with c client) (mark_of context));
        walks = subst (λ (l : List LogEntry). Walk allows
            (standing None false (moment (seen_with c client) (mark_of context))) l
            (standing None false (moment (seen_with d left) (mark_of context)))) entries
            called.walks;
        order = subst (λ (a : At K C). Accepts station.accepted (log_of d) (station_at a))
            (sym begun.1)
            (subst (λ (l : List LogEntry). Accepts station.accepted l station.made) entries
            called.order);
        goes = subst (λ (a : At K C). GoesOn a) (sym begun.1) tt;
        named = subst (λ (a : At K C). TellsPeer a (log_of d) (request_head (seen_with d left)))
            (sym begun.1) tt;
        untried = λ still. untried;
        untreated = subst (λ (l : List LogEntry). IsUntreated l) entries
            (made_untreated called.entries called.order
            (entries_one (log_of c) (log_of d) called.entries none called.log one));
        unanswered = ap (λ (x : Writing). has_head x.place) called.queued.same ∙ open_to;
        kept = reads_truncated (seen_with c client) (seen_with d left) called.reads ∙ kept;
        unended = begun_on (log_of c) (log_of d) called.entries called.log called.order one
            (subst (λ (l : List LogEntry). IsUnended l) (sym none) refl);
      }

module _ {M K X : Type 0} where
  -- between two sessions of the same head the standing of a log may change, where no final head was
  -- queued for the first
  pub views_on : (calls : Calls M K X) (mark behind : ℕ) (first now : HttpSession) → behind ≡ mark
      → head_of now.reading ≡ head_of first.reading → has_head first.writing.place ≡ false
      → Views (standing None false (moment (seen_with calls first) mark))
      (standing None false (moment (seen_with calls now) behind))
  views_on calls mark behind first now same head none = record {
    mark = same;
    head = ap (λ (h : Option RequestHead). unwrap_or h (new_request [] [])) head;
    keepalive = refl;
    final_head = λ is. absurd (true≢false (sym is ∙ none));
    upgraded = λ is. absurd (true≢false (sym is));
  }

module _ {C M K : Type 0} (allows : Standing → LogEntry → Type 0) (mark_of : C → ℕ) where
  -- behind another attempt more the calls so far are the same, where none comes next that is called
  -- before all of them
  tried_calls : (calls : Calls M K C) (context : C) (client : HttpSession)
      (tries tried : List AttemptRecord) → IsOpening allows mark_of calls context client tries
      → is_before calls.at ≡ false → IsOpening allows mark_of calls context client tried
  tried_calls calls context client tries tried o past = record {
    from = o.from;
    walks = o.walks;
    order = o.order;
    goes = o.goes;
    named = o.named;
    untried = λ still. absurd (true≢false (sym still ∙ past));
    untreated = o.untreated;
    unanswered = o.unanswered;
    kept = o.kept;
    unended = o.unended;
  }

  -- no call was made yet, and none is to be
  uncalled_end : (calls : Calls M K C) (came : Outcome) → log_of calls ≡ [] → IsUncalledEnd came
      → HasCome allows mark_of calls came
  uncalled_end calls outcome.NoRequest none is = none
  uncalled_end calls (outcome.Refused error) none is = none
  uncalled_end calls (outcome.Served error reuse) none is = absurd is
  uncalled_end calls outcome.TurnLimit none is = none_logged allows (log_of calls) none
  uncalled_end calls outcome.OutOfMemory none is = none_logged allows (log_of calls) none

  uncalled_for : (calls : Calls M K C) (client : HttpSession) (owed : Owed) → log_of calls ≡ []
      → IsUncalledFor owed → IsOwing allows mark_of calls client owed
  uncalled_for calls client (owing.Refused error) none is = none
  uncalled_for calls client (owing.Ahead why) none is = absurd is
  uncalled_for calls client (owing.Served error) none is = absurd is

module _ {L C M K : Type 0} (allows : Standing → LogEntry → Type 0) (mark_of : C → ℕ) where
  pub unopened_calls : (calls : Calls M K C) (next : Phase L C) → log_of calls ≡ []
      → IsUncalled next → CallsSoFar allows mark_of calls next
  unopened_calls calls ReadHead none is = none
  unopened_calls calls (Connect context session tries) none is = absurd is
  unopened_calls calls (Unlinked context session attempts error) none is = absurd is
  unopened_calls calls (Prepare context session link lease) none is = absurd is
  unopened_calls calls (Relay a) none is = absurd is
  unopened_calls calls (Broken context session link lease keep error) none is = absurd is
  unopened_calls calls (Again context session link lease keep error) none is = absurd is
  unopened_calls calls (Fail link lease keep session error) none is = absurd is
  unopened_calls calls (Close link lease keep outcome) none is = absurd is
  unopened_calls calls (Answer session owed attempts) none is =
      uncalled_for allows mark_of calls session.value owed none is
  unopened_calls calls (Ended outcome attempts) none is = uncalled_end allows mark_of calls outcome
      none is

  -- an exchange has begun behind the call that filtered its head, or was not begun
  pub begun_exchange : (old new : Calls M K C) (context : C) (session : HttpSession)
      (next : Phase L C) → IsSendingCalls allows mark_of old context session
      → BeginsCalls allows mark_of old session context new next → CallsSoFar allows mark_of new next
  begun_exchange old new context session ReadHead s begins = absurd begins
  begun_exchange old new context session (Connect other stays tries) s begins = absurd begins
  begun_exchange old new context session (Unlinked other stays attempts error) s begins =
      absurd begins
  begun_exchange old new context session (Prepare other stays link lease) s begins = absurd begins
  begun_exchange old new context session (Relay a) s begins =
      let b = begins.0 in
      let w = b.enters.walks in
      record {
        from = s.from;
        walks = walks_past allows s.from (log_of old) w.es (log_of new)
            (standing None false (moment (seen_with old session) (mark_of context)))
            (standing None false (moment (seen_with new a.value.exchange.down.inner.session)
            (mark_of a.value.context))) w.log s.walks w.walk;
        here = b.here;
        order = order_past (log_of old) w.es (log_of new) station.sent b.here w.log s.order b.order;
        relays = b.relays;
        alive = begins.1;
        unended = unended_past (log_of old) w.es (log_of new) w.log s.unended w.plain;
        linked = b.enters.stands ∙ s.linked;
      }
  begun_exchange old new context session (Broken other stays link lease keep error) s begins =
      let w = begins.enters.walks in
      let linked = begins.enters.stands ∙ s.linked in
      let untreated = ap (λ (x : At K C). treated_at x) linked in
      record {
        from = s.from;
        walks = walks_past allows s.from (log_of old) w.es (log_of new)
            (standing None false (moment (seen_with old session) (mark_of context)))
            (standing None false (moment (seen_with new stays.value) (mark_of other))) w.log
            s.walks w.walk;
        at = begins.here;
        order = order_past (log_of old) w.es (log_of new) station.sent begins.here w.log s.order
            begins.order;
        breaks = breaks_untreated new.at (log_of new) error begins.here untreated begins.breaks;
        again = never_again new.at stays.value begins.here untreated;
        viewed = never_viewed new.at stays.value (log_of new) error untreated;
        unended = unended_past (log_of old) w.es (log_of new) w.log s.unended w.plain;
      }
  begun_exchange old new context session (Again other stays link lease keep error) s begins =
      absurd begins
  begun_exchange old new context session (Fail link lease keep stays error) s begins =
      absurd begins
  begun_exchange old new context session (Close link lease keep outcome) s begins =
      let b = begins.1 in
      let w = b.walks in
      subst (λ (o : Outcome). HasCome allows mark_of new o) (sym begins.0) (
        b.here,
        record {
          from = s.from;
          to = w.to;
          walks = walks_past allows s.from (log_of old) w.es (log_of new)
              (standing None false (moment (seen_with old session) (mark_of context))) w.to w.log
              s.walks w.walk;
          order = order_past (log_of old) w.es (log_of new) station.sent b.here w.log s.order b.order;
        },
      )
  begun_exchange old new context session (Answer stays owed attempts) s begins = absurd begins
  begun_exchange old new context session (Ended outcome attempts) s begins = absurd begins

  -- the settling of a phase calls no hook
  pub settled_calls : (calls : Calls M K C) (next settled : Phase L C)
      (before after : Option (List (Returned L))) → Settles next before after settled
      → CallsSoFar allows mark_of calls next → CallsSoFar allows mark_of calls settled
  settled_calls calls ReadHead settled before after does so_far =
      subst (λ (k : Phase L C). CallsSoFar allows mark_of calls k) (sym does.0) so_far
  settled_calls calls (Connect context session tries) settled before after does so_far =
      subst (λ (k : Phase L C). CallsSoFar allows mark_of calls k) (sym does.0) so_far
  settled_calls calls (Unlinked context session attempts error) settled before after does so_far =
      subst (λ (k : Phase L C). CallsSoFar allows mark_of calls k) (sym does.0) so_far
  settled_calls calls (Prepare context session link lease) settled before after does so_far =
      subst (λ (k : Phase L C). CallsSoFar allows mark_of calls k) (sym does.0) so_far
  settled_calls calls (Relay a) settled before after does so_far =
      subst (λ (k : Phase L C). CallsSoFar allows mark_of calls k) (sym does.0) so_far
  settled_calls calls (Broken context session link lease keep error) settled before after does
      so_far =
      subst (λ (k : Phase L C). CallsSoFar allows mark_of calls k) (sym does.0) so_far
  settled_calls calls (Again context session link lease keep error) settled before after does
      so_far =
      subst (λ (k : Phase L C). CallsSoFar allows mark_of calls k) (sym does.1)
      (tried_calls allows mark_of calls context session.value (tries_in lease) does.0 so_far.0
      so_far.1)
  settled_calls calls (Fail link lease keep session error) settled before after does so_far =
      subst (λ (k : Phase L C). CallsSoFar allows mark_of calls k) (sym does.1) so_far
  settled_calls calls (Answer session owed attempts) settled before after does so_far =
      subst (λ (k : Phase L C). CallsSoFar allows mark_of calls k) (sym does.0) so_far
  settled_calls calls (Close link lease keep outcome) settled before after does so_far =
      subst (λ (k : Phase L C). CallsSoFar allows mark_of calls k) (sym does.1) so_far
  settled_calls calls (Ended outcome attempts) settled before after does so_far =
      subst (λ (k : Phase L C). CallsSoFar allows mark_of calls k) (sym does.0) so_far
