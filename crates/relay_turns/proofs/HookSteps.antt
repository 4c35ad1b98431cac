-- What a call of a hook makes of a request that wants a link.
--
--   turned, goes_by            the call, by where it leads
--   opening_on                 the calls so far, behind it
--   goes_connecting            the request goes on
--   answered                   hooks answered it
--   counts_called ..           what is counted of the call
use Rattle.std.proofs.Common.{◌≡◌, ℕ, ◌≤◌, true, false, List, [], ◌∷◌, ◌++◌, Some, None, Bool, Option, is_some, refl, sym, ap, subst, ◌∙◌, arith, true≢false}
use Rattle.relay_opening.proofs.ToldLemmas.{reads_truncated}
use Rattle.relay_tasks.specs.Head.{RequestHead}
use Rattle.relay_tasks.specs.Hooks.{same_hook}
use Rattle.relay_tasks.specs.declared.Error.{Error}
use Rattle.relay_tasks.specs.declared.Peer.{Peer}
use Rattle.relay_tasks.specs.declared.hook.Hook.{Hook}
use Rattle.relay_tasks.specs.declared.hook.Hook.TheVariants as hook
use Rattle.relay_tasks.specs.declared.log.LogEntry.{LogEntry}
use Rattle.relay_session.specs.Response.{IsOpen, has_head}
use Rattle.relay_session.specs.declared.session.HttpSession.{HttpSession}
use Rattle.relay_session.specs.declared.writing.Outgoing.TheVariants as outgoing
use Rattle.relay_session.specs.declared.writing.Writing.{Writing}
use Rattle.relay_hooks.specs.Session.{request_head}
use Rattle.relay_hooks.specs.Standing.{Standing}
use Rattle.relay_phases.specs.Order.{Accepts, Station, next}
use Rattle.relay_phases.specs.Order.{Station as station}
use Rattle.relay_phases.specs.Turns.{QueuesNothing, Turns}
use Rattle.relay_opening.specs.Opens.{TurnsTo}
use Rattle.relay_opening.specs.Place.{end_station, next_hook}
use Rattle.relay_opening.specs.declared.place.Called.{Called}
use Rattle.relay_opening.specs.declared.place.Called.TheVariants as called
use Rattle.relay_opening.specs.declared.place.Place.{Place}
use Rattle.relay_opening.specs.declared.place.Place.TheVariants as place
use Rattle.relay_opening.specs.declared.place.End.{End}
use Rattle.relay_opening.specs.declared.place.End.TheVariants as end
use Rattle.relay_opening.proofs.QueuedLemmas.{end_open}
use Rattle.relay_attempt.specs.Passed.{Passed}
use Rattle.relay_request.specs.Ahead.{IsOwedAhead, LastFails}
use Rattle.relay_request.specs.Calls.{CallsNext, CountsCalls, Goes, GoesOn, IsLogged, IsOpening, IsOwing, IsUnended, TakesNext, TellsError, TellsPeer, comes_next, failed_at, final_at, is_before, leads_at, leads_to, log_of, place_station, seen_with, station_at}
use Rattle.relay_request.specs.Passed.{Start, World, begins_end, opened_to}
use Rattle.relay_request.specs.Phases.{IsConnecting}
use Rattle.relay_request.specs.Sent.{IsUntreated}
use Rattle.relay_request.specs.Tries.{refusals_in}
use Rattle.relay_closing.specs.Place.{begun}
use Rattle.relay_request.specs.declared.owed.Owed.TheVariants as owing
use Rattle.relay_request.specs.declared.calls.At.{At}
use Rattle.relay_request.specs.declared.calls.At.TheVariants as at
use Rattle.relay_request.specs.declared.calls.Calls.{Calls}
use Rattle.relay_request.specs.declared.calls.Opened.{Opened}
use Rattle.relay_request.specs.declared.calls.Opened.TheVariants as led
use Rattle.relay_request.specs.Owed.{TellsAgain}
use Rattle.relay_request.specs.declared.record.AttemptRecord.{AttemptRecord}
use Rattle.relay_request.specs.declared.work.Work.{Work}
use Rattle.relay_request.proofs.CallLemmas.{logged_more, logged_same, none_called, one_called, order_more, walks_more}
use Rattle.relay_turns.proofs.LastCalls.{unended_unlogged, unlogged_alive}
use Rattle.relay_request.proofs.NamedLemmas.{refusals_still}
use Rattle.relay_turns.proofs.OpenSteps.{AnswersAs, hooks_answer, stays_connecting}
use Rattle.relay_request.proofs.TreatLemmas.{unended_more, untreated_more}

-- the hooks are over so, where they answered the request
record IsDone {K : Type 0} (p : Place K) : Type 0 where
  how : End
  is : p ≡ place.Ended how
  answers : AnswersAs how
  at : end_station how ≡ station.answered
  over : Goes {K = K} (place.Ended how) → ⊥

done_of : {K : Type 0} (p : Place K) → leads_to p ≡ led.Answered → IsDone p
done_of (place.Behind last) is = cc
done_of (place.Ended end.Attempts) is = cc
done_of (place.Ended end.Answered) is =
    record { how = end.Answered; is = refl; answers = tt; at = refl; over = λ goes. goes }
done_of (place.Ended end.Purge) is = cc
done_of (place.Ended end.Declined) is =
    record { how = end.Declined; is = refl; answers = tt; at = refl; over = λ goes. goes }
done_of (place.Ended (end.Unwritten why)) is = cc
done_of (place.Ended (end.Failed error)) is = cc
done_of place.Lost is = cc

-- where a call led anywhere but out of memory its place is known
pub known_at : {K X : Type 0} (a : At K X) (to : Opened) → to ≡ leads_at a
    → (to ≡ led.OutOfMemory → ⊥) → a ≡ at.Opening place.Lost → ⊥
known_at a to is known lost = known (is ∙ ap (λ (b : At _ _). leads_at b) lost)

-- the place of the hooks before the attempts, or the peer, of a place where the hooks stand
abbrev place_in : {K X : Type 0} → At K X → Place K
place_in (at.Kept kept) = place.Lost
place_in (at.Opening there) = there
place_in (at.Purging action) = place.Lost
place_in (at.Named peer) = place.Lost
place_in (at.Repeatable error) = place.Lost
place_in at.Warning = place.Lost
place_in at.Linked = place.Lost
place_in (at.Treated error) = place.Lost
place_in (at.Closing held there) = place.Lost

same_place : {K X : Type 0} (p q : Place K)
    → ◌≡◌ {A = At K X} (at.Opening p) (at.Opening q) → p ≡ q
same_place p q same = ap (λ (a : At _ _). place_in a) same

pub same_peer : {K X : Type 0} (p q : Peer) → ◌≡◌ {A = At K X} (at.Named p) (at.Named q) → p ≡ q
same_peer p q same = cc

-- a hook in which no error of an attempt is treated, with which no end begins, and which filters no
-- answer of a purge
abbrev IsBefore : Hook → Type 0
IsBefore which =
    (same_hook hook.ErrorWhileProxy which ≡ false) × (begins_end which ≡ false)
    × (same_hook hook.FailToConnect which ≡ false)
    × (same_hook hook.PurgeResponseFilter which ≡ false)

-- the hook that comes next is one
opens_behind : {K : Type 0} (last : Called K) (has_modules : Bool)
    → IsBefore (next_hook last has_modules)
opens_behind (called.Made None) has_modules = (refl, refl, refl, refl)
opens_behind (called.Made (Some kept)) has_modules = (refl, refl, refl, refl)
opens_behind called.Handed has_modules = (refl, refl, refl, refl)
opens_behind called.Early has_modules = (refl, refl, refl, refl)
opens_behind called.Spawning true = (refl, refl, refl, refl)
opens_behind called.Spawning false = (refl, refl, refl, refl)
opens_behind called.Headed has_modules = (refl, refl, refl, refl)
opens_behind called.Filtered has_modules = (refl, refl, refl, refl)
opens_behind called.Sending has_modules = (refl, refl, refl, refl)

-- where hooks come one behind the other, that is the one
same_next : (a b : Hook) → Some a ≡ Some b → IsBefore a → IsBefore b
same_next a b is other = let same : a ≡ b = cc in subst (λ (h : Hook). IsBefore h) same other

opens_by : {K X : Type 0} (a : At K X) (has_modules : Bool) (which : Hook)
    → comes_next a has_modules ≡ Some which → IsBefore which
opens_by (at.Kept kept) has_modules which is = cc
opens_by (at.Opening (place.Behind last)) has_modules which is =
    same_next (next_hook last has_modules) which is (opens_behind last has_modules)
opens_by (at.Opening (place.Ended end.Attempts)) has_modules which is =
    same_next hook.UpstreamPeer which is (refl, refl, refl, refl)
opens_by (at.Opening (place.Ended end.Answered)) has_modules which is = cc
opens_by (at.Opening (place.Ended end.Purge)) has_modules which is =
    same_next hook.PurgeAction which is (refl, refl, refl, refl)
opens_by (at.Opening (place.Ended end.Declined)) has_modules which is = cc
opens_by (at.Opening (place.Ended (end.Unwritten why))) has_modules which is = cc
opens_by (at.Opening (place.Ended (end.Failed error))) has_modules which is = cc
opens_by (at.Opening place.Lost) has_modules which is = cc
opens_by (at.Purging action) has_modules which is = cc
opens_by (at.Named peer) has_modules which is = cc
opens_by (at.Repeatable error) has_modules which is =
    same_next hook.SuppressProxyWarnLog which is (refl, refl, refl, refl)
opens_by at.Warning has_modules which is =
    same_next hook.RequestSummary which is (refl, refl, refl, refl)
opens_by at.Linked has_modules which is = cc
opens_by (at.Treated error) has_modules which is = cc
opens_by (at.Closing held there) has_modules which is = cc

failed_station : {K : Type 0} (p : Place K) (e : Error) → failed_at p ≡ Some e
    → place_station p ≡ station.failing
failed_station (place.Behind last) e is = cc
failed_station (place.Ended end.Attempts) e is = cc
failed_station (place.Ended end.Answered) e is = cc
failed_station (place.Ended end.Purge) e is = cc
failed_station (place.Ended end.Declined) e is = cc
failed_station (place.Ended (end.Unwritten why)) e is = cc
failed_station (place.Ended (end.Failed error)) e is = refl
failed_station place.Lost e is = cc

pub final_station : {K X : Type 0} (a : At K X) (e : Error) → final_at a ≡ Some e
    → station_at a ≡ station.failing
final_station (at.Kept kept) e is = cc
final_station (at.Opening there) e is = failed_station there e is
final_station (at.Purging action) e is = cc
final_station (at.Named peer) e is = cc
final_station (at.Repeatable treated) e is = cc
final_station at.Warning e is = cc
final_station at.Linked e is = cc
final_station (at.Treated error) e is = cc
final_station (at.Closing held there) e is = cc

pub final_fails : {K X : Type 0} (a : At K X) (log : List LogEntry) (head : RequestHead)
    (e : Error) → final_at a ≡ Some e → TellsPeer a log head → LastFails log e
final_fails (at.Kept kept) log head e is tells = cc
final_fails (at.Opening there) log head e is tells =
    subst (λ (o : Option Error). TellsError o log) is tells
final_fails (at.Purging action) log head e is tells = cc
final_fails (at.Named peer) log head e is tells = cc
final_fails (at.Repeatable treated) log head e is tells = cc
final_fails at.Warning log head e is tells = cc
final_fails at.Linked log head e is tells = cc
final_fails (at.Treated error) log head e is tells = cc
final_fails (at.Closing held there) log head e is tells = cc

module _ {C M K : Type 0} (allows : Standing → LogEntry → Type 0) (mark_of : C → ℕ)
    (old new : Calls M K C) (context context' : C) (client left : HttpSession)
    (turns : CallsNext allows old client (mark_of context) new left (mark_of context'))
  where
    -- a hook before the attempts was called, and led to that place
    record Turned (p : Place K) : Type 0 where
      before : is_before old.at ≡ true
      which : Hook
      comes : comes_next old.at (is_some old.session.modules) ≡ Some which
      turn : TurnsTo allows which (station_at old.at) (seen_with old client) (mark_of context)
          (seen_with new left) (mark_of context') p

    turned_by : CallsNext allows old client (mark_of context) new left (mark_of context')
        → (p : Place K) → new.at ≡ at.Opening p → (p ≡ place.Lost → ⊥) → (Goes p → ⊥) → Turned p
    turned_by (TakesNext.leads before which comes there to turn) p is known over = record {
      before = before;
      which = which;
      comes = comes;
      turn = subst (λ (q : Place K). TurnsTo allows which (station_at old.at)
          (seen_with old client) (mark_of context) (seen_with new left) (mark_of context') q)
          (same_place there p (sym to ∙ is)) turn;
    }
    turned_by (TakesNext.asks t) p is known over =
        let clash : at.Purging t.action ≡ at.Opening p = sym t.is_to ∙ is in cc
    turned_by (TakesNext.tried t) p is known over =
        absurd (over (subst (λ (a : At K C). GoesOn a) is t.goes))
    turned_by (TakesNext.lost to same) p is known over =
        absurd (known (sym (same_place place.Lost p (sym to ∙ is))))

    -- the call, by the place that it leads to, where the request does not go on there
    turned : (p : Place K) → new.at ≡ at.Opening p → (p ≡ place.Lost → ⊥) → (Goes p → ⊥) → Turned p
    turned p is known over = turned_by turns p is known over

    -- no call of these treats an error of an attempt that had a link
    untreated_by : CallsNext allows old client (mark_of context) new left (mark_of context')
        → IsUntreated (log_of old) → IsUntreated (log_of new)
    untreated_by (TakesNext.leads before which comes (place.Behind last) to turn) none =
        untreated_more (log_of old) (log_of new) turn.e which turn.calls.log turn.hook
        (opens_by old.at (is_some old.session.modules) which comes).0 none
    untreated_by (TakesNext.leads before which comes (place.Ended how) to turn) none =
        untreated_more (log_of old) (log_of new) turn.0.e which turn.0.calls.log turn.0.hook
        (opens_by old.at (is_some old.session.modules) which comes).0 none
    untreated_by (TakesNext.leads before which comes place.Lost to turn) none =
        subst (λ (l : List LogEntry). IsUntreated l) (sym turn) none
    untreated_by (TakesNext.asks t) none =
        untreated_more (log_of old) (log_of new) t.turn.e hook.PurgeAction t.turn.calls.log
        t.turn.hook refl none
    untreated_by (TakesNext.tried t) none =
        untreated_more (log_of old) (log_of new) t.turn.e t.which t.turn.calls.log t.turn.hook
        (opens_by old.at (is_some old.session.modules) t.which t.comes).0 none
    untreated_by (TakesNext.lost to same) none =
        subst (λ (l : List LogEntry). IsUntreated l) (sym same) none

    pub untreated : IsUntreated (log_of old) → IsUntreated (log_of new)
    untreated none = untreated_by turns none

    -- nor does one begin the end
    unended_by : CallsNext allows old client (mark_of context) new left (mark_of context')
        → IsUnended (log_of old) → IsUnended (log_of new)
    unended_by (TakesNext.leads before which comes (place.Behind last) to turn) none =
        unended_more (log_of old) (log_of new) turn.e which turn.calls.log turn.hook
        (opens_by old.at (is_some old.session.modules) which comes).1 none
    unended_by (TakesNext.leads before which comes (place.Ended how) to turn) none =
        unended_more (log_of old) (log_of new) turn.0.e which turn.0.calls.log turn.0.hook
        (opens_by old.at (is_some old.session.modules) which comes).1 none
    unended_by (TakesNext.leads before which comes place.Lost to turn) none =
        subst (λ (l : List LogEntry). IsUnended l) (sym turn) none
    unended_by (TakesNext.asks t) none =
        unended_more (log_of old) (log_of new) t.turn.e hook.PurgeAction t.turn.calls.log
        t.turn.hook refl none
    unended_by (TakesNext.tried t) none =
        unended_more (log_of old) (log_of new) t.turn.e t.which t.turn.calls.log t.turn.hook
        (opens_by old.at (is_some old.session.modules) t.which t.comes).1 none
    unended_by (TakesNext.lost to same) none =
        subst (λ (l : List LogEntry). IsUnended l) (sym same) none

    pub unended : IsUnended (log_of old) → IsUnended (log_of new)
    unended none = unended_by turns none

    -- nor tells one of an attempt without a link
    refusals_by : CallsNext allows old client (mark_of context) new left (mark_of context')
        → refusals_in (log_of new) ≡ refusals_in (log_of old)
    refusals_by (TakesNext.leads before which comes (place.Behind last) to turn) =
        ap (λ (l : List LogEntry). refusals_in l) turn.calls.log
        ∙ refusals_still (log_of old) turn.e which turn.hook
        (opens_by old.at (is_some old.session.modules) which comes).2
    refusals_by (TakesNext.leads before which comes (place.Ended how) to turn) =
        ap (λ (l : List LogEntry). refusals_in l) turn.0.calls.log
        ∙ refusals_still (log_of old) turn.0.e which turn.0.hook
        (opens_by old.at (is_some old.session.modules) which comes).2
    refusals_by (TakesNext.leads before which comes place.Lost to turn) =
        ap (λ (l : List LogEntry). refusals_in l) turn
    refusals_by (TakesNext.asks t) =
        ap (λ (l : List LogEntry). refusals_in l) t.turn.calls.log
        ∙ refusals_still (log_of old) t.turn.e hook.PurgeAction t.turn.hook refl
    refusals_by (TakesNext.tried t) =
        ap (λ (l : List LogEntry). refusals_in l) t.turn.calls.log
        ∙ refusals_still (log_of old) t.turn.e t.which t.turn.hook
        (opens_by old.at (is_some old.session.modules) t.which t.comes).2
    refusals_by (TakesNext.lost to same) = ap (λ (l : List LogEntry). refusals_in l) same

    pub refusals : refusals_in (log_of new) ≡ refusals_in (log_of old)
    refusals = refusals_by turns

    -- ---- the request goes on

    -- a hook was called that queued nothing, behind which the request goes on; where a hook before
    -- the attempts comes next, so did this one
    record Advanced (a : At K C) : Type 0 where
      which : Hook
      other : same_hook hook.FailToConnect which ≡ false
      turn : Turns allows which (station_at old.at) (station_at a) QueuesNothing
          (seen_with old client) (mark_of context) (seen_with new left) (mark_of context')
      goes : GoesOn a
      tells : TellsPeer a (log_of new) (request_head (seen_with new left))
      before : is_before a ≡ true → is_before old.at ≡ true

    -- behind one before the attempts
    goes_behind : (p : Place K) → is_before old.at ≡ true → (which : Hook)
        → same_hook hook.FailToConnect which ≡ false
        → TurnsTo allows which (station_at old.at) (seen_with old client) (mark_of context)
        (seen_with new left) (mark_of context') p
        → leads_to p ≡ led.GoesOn → Advanced (at.Opening p)
    goes_behind (place.Behind last) before which other turn goes = record {
      which = which;
      other = other;
      turn = turn;
      goes = tt;
      tells = tt;
      before = λ still. before;
    }
    goes_behind (place.Ended end.Attempts) before which other turn goes = record {
      which = which;
      other = other;
      turn = turn.0;
      goes = tt;
      tells = tt;
      before = λ still. before;
    }
    goes_behind (place.Ended end.Answered) before which other turn goes = cc
    goes_behind (place.Ended end.Purge) before which other turn goes = record {
      which = which;
      other = other;
      turn = turn.0;
      goes = tt;
      tells = tt;
      before = λ still. before;
    }
    goes_behind (place.Ended end.Declined) before which other turn goes = cc
    goes_behind (place.Ended (end.Unwritten why)) before which other turn goes = cc
    goes_behind (place.Ended (end.Failed error)) before which other turn goes = record {
      which = which;
      other = other;
      turn = turn.0;
      goes = tt;
      tells = record {
        before = log_of old;
        last = turn.0.e;
        is_last = turn.0.calls.log;
        error = turn.1;
      };
      before = λ still. before;
    }
    goes_behind place.Lost before which other turn goes = cc

    goes_by : CallsNext allows old client (mark_of context) new left (mark_of context')
        → leads_at new.at ≡ led.GoesOn → Advanced new.at
    goes_by (TakesNext.leads before which comes there to turn) goes =
        subst (λ (a : At K C). Advanced a) (sym to)
        (goes_behind there before which
        (opens_by old.at (is_some old.session.modules) which comes).2 turn
        (sym (ap (λ (a : At K C). leads_at a) to) ∙ goes))
    goes_by (TakesNext.asks t) goes =
        subst (λ (a : At K C). Advanced a) (sym t.is_to) (record {
          which = hook.PurgeAction;
          other = refl;
          turn = subst (λ (a : At K C). Turns allows hook.PurgeAction (station_at a) station.purged
              QueuesNothing (seen_with old client) (mark_of context) (seen_with new left)
              (mark_of context')) (sym t.is_here) t.turn;
          goes = tt;
          tells = t.tells;
          before = λ still. ap (λ (a : At K C). is_before a) t.is_here;
        })
    goes_by (TakesNext.tried t) goes = record {
      which = t.which;
      other = (opens_by old.at (is_some old.session.modules) t.which t.comes).2;
      turn = t.turn;
      goes = t.goes;
      tells = t.tells;
      before = λ still. absurd (true≢false (sym still ∙ t.past));
    }
    goes_by (TakesNext.lost to same) goes =
        let clash : led.OutOfMemory ≡ led.GoesOn =
        sym (ap (λ (a : At K C). leads_at a) to) ∙ goes in cc

    pub opening_on : (tries : List AttemptRecord) → leads_at new.at ≡ led.GoesOn
        → IsOpening allows mark_of old context client tries
        → IsOpening allows mark_of new context' left tries
    opening_on tries goes o =
        let g = goes_by turns goes in
        record {
          from = o.from;
          walks = walks_more allows mark_of old new context context' client left o.from g.turn.e
              g.turn.calls o.walks;
          order = order_more old new (station_at old.at) (station_at new.at) g.turn.e
              g.turn.calls.log g.turn.order o.order;
          goes = g.goes;
          named = g.tells;
          untried = λ still. o.untried (g.before still);
          untreated = untreated o.untreated;
          unanswered = ap (λ (x : Writing). has_head x.place) g.turn.queued.same ∙ o.unanswered;
          kept = reads_truncated (seen_with old client) (seen_with new left) g.turn.calls.reads
              ∙ o.kept;
          unended = unended o.unended;
        }

    pub goes_connecting : leads_at new.at ≡ led.GoesOn → (s : Start) (q : Passed)
        (w : World) (tries : List AttemptRecord)
        → IsConnecting (opened_to s (log_of old)) q w client tries
        → IsConnecting (opened_to s (log_of new)) q w left tries
    goes_connecting goes s q w tries k =
        let g = goes_by turns goes in
        stays_connecting allows old new client left (mark_of context) (mark_of context')
        g.which (station_at old.at) (station_at new.at) g.turn s q w tries g.other k

    -- ---- it does not

    -- the log leads to where the call leads
    order_on : (tries : List AttemptRecord) (e : LogEntry) (to : Station)
        → log_of new ≡ log_of old ++ e ∷ [] → next (station_at old.at) e ≡ Some to
        → IsOpening allows mark_of old context client tries
        → Accepts station.accepted (log_of new) to
    order_on tries e to more leads o =
        order_more old new (station_at old.at) to e more leads o.order

    -- hooks answered it: what waits is what its client is owed
    pub record Answered (s : Start) (q : Passed) : Type 0 where
      pub text : List ℕ
      pub is_open : left.writing.output ≡ outgoing.Open text
      pub owed : IsOwedAhead (opened_to s (log_of new)) q None text
      pub tells : s.tried ≡ [] → TellsAgain owed left
      pub before : is_before old.at ≡ true

    answered_by : (p : Place K) → new.at ≡ at.Opening p → leads_to p ≡ led.Answered → (s : Start)
        (q : Passed) (w : World) (tries : List AttemptRecord)
        → IsOpening allows mark_of old context client tries
        → IsConnecting (opened_to s (log_of old)) q w client tries → Answered s q
    answered_by p is leads s q w tries o k =
        let done = done_of p leads in
        let t = turned (place.Ended done.how)
        (is ∙ ap (λ (x : Place K). at.Opening x) done.is) (λ lost. cc) done.over in
        let waits : IsOpen left.writing.output =
        end_open done.how client.writing left.writing t.turn.0.e.wrote t.turn.0.queued
        ([], (k.begins k.head false).output) in
        let answers = hooks_answer allows old new client left (mark_of context)
        (mark_of context') t.which (station_at old.at) done.how s q w tries waits.0 t.turn.0
        done.answers (opens_by old.at (is_some old.session.modules) t.which t.comes).3 done.at
        (order_on tries t.turn.0.e (end_station done.how) t.turn.0.calls.log t.turn.0.order o)
        waits.1 k in
        record {
          text = waits.0;
          is_open = waits.1;
          owed = answers.owed;
          tells = answers.tells;
          before = t.before;
        }

    answered_at : (a : At K C) → new.at ≡ a → leads_at a ≡ led.Answered → (s : Start)
        (q : Passed) (w : World) (tries : List AttemptRecord)
        → IsOpening allows mark_of old context client tries
        → IsConnecting (opened_to s (log_of old)) q w client tries → Answered s q
    answered_at (at.Kept kept) is leads s q w tries o k = cc
    answered_at (at.Opening p) is leads s q w tries o k = answered_by p is leads s q w tries o k
    answered_at (at.Purging action) is leads s q w tries o k = cc
    answered_at (at.Named peer) is leads s q w tries o k = cc
    answered_at (at.Repeatable error) is leads s q w tries o k = cc
    answered_at at.Warning is leads s q w tries o k = cc
    answered_at at.Linked is leads s q w tries o k = cc
    answered_at (at.Treated error) is leads s q w tries o k = cc
    answered_at (at.Closing held there) is leads s q w tries o k = cc

    pub answered : leads_at new.at ≡ led.Answered → (s : Start) (q : Passed)
        (w : World) (tries : List AttemptRecord)
        → IsOpening allows mark_of old context client tries
        → IsConnecting (opened_to s (log_of old)) q w client tries → Answered s q
    answered leads s q w tries o k = answered_at new.at refl leads s q w tries o k

    -- ---- what is counted, and the log

    counts_by : CallsNext allows old client (mark_of context) new left (mark_of context')
        → (work : Work) → (new.at ≡ at.Opening place.Lost → ⊥) → work.called ≤ 1
        → CountsCalls old new work
    counts_by (TakesNext.leads before which comes (place.Behind last) to turn) work known once =
        one_called old new work once turn.e turn.calls.log
    counts_by (TakesNext.leads before which comes (place.Ended how) to turn) work known once =
        one_called old new work once turn.0.e turn.0.calls.log
    counts_by (TakesNext.leads before which comes place.Lost to turn) work known once =
        absurd (known to)
    counts_by (TakesNext.asks t) work known once =
        one_called old new work once t.turn.e t.turn.calls.log
    counts_by (TakesNext.tried t) work known once =
        one_called old new work once t.turn.e t.turn.calls.log
    counts_by (TakesNext.lost to same) work known once = absurd (known to)

    pub counts_called : (work : Work) → (new.at ≡ at.Opening place.Lost → ⊥) → work.called ≤ 1
        → CountsCalls old new work
    counts_called work known once = counts_by turns work known once

    -- out of memory there is an entry more or none, and none is counted
    memory_by : CallsNext allows old client (mark_of context) new left (mark_of context')
        → (work : Work) → work.called ≡ 0 → CountsCalls old new work
    memory_by (TakesNext.leads before which comes (place.Behind last) to turn) work none =
        one_called old new work (omega (arith, none)) turn.e turn.calls.log
    memory_by (TakesNext.leads before which comes (place.Ended how) to turn) work none =
        one_called old new work (omega (arith, none)) turn.0.e turn.0.calls.log
    memory_by (TakesNext.leads before which comes place.Lost to turn) work none = none_called old
        new work none turn
    memory_by (TakesNext.asks t) work none =
        one_called old new work (omega (arith, none)) t.turn.e t.turn.calls.log
    memory_by (TakesNext.tried t) work none =
        one_called old new work (omega (arith, none)) t.turn.e t.turn.calls.log
    memory_by (TakesNext.lost to same) work none = none_called old new work none same

    pub memory_called : (work : Work) → work.called ≡ 0 → CountsCalls old new work
    memory_called work none = memory_by turns work none

    -- and the log is in order still
    logged_by : CallsNext allows old client (mark_of context) new left (mark_of context')
        → (tries : List AttemptRecord) → IsOpening allows mark_of old context client tries
        → (at : Station) × IsLogged allows (log_of new) at
    logged_by (TakesNext.leads before which comes (place.Behind last) to turn) tries o =
        (_, logged_more allows mark_of old new context context' client left tries which _ _ turn o)
    logged_by (TakesNext.leads before which comes (place.Ended how) to turn) tries o = (
      _,
      logged_more allows mark_of old new context context' client left tries which _ _ turn.0
          o,
    )
    logged_by (TakesNext.leads before which comes place.Lost to turn) tries o =
        logged_same allows mark_of old new context client tries turn o
    logged_by (TakesNext.asks t) tries o = (
      station.purged,
      logged_more allows mark_of old new context context' client left tries hook.PurgeAction
          station.purged QueuesNothing
          (subst (λ (a : At K C). Turns allows hook.PurgeAction (station_at a) station.purged
          QueuesNothing (seen_with old client) (mark_of context) (seen_with new left)
          (mark_of context')) (sym t.is_here) t.turn) o,
    )
    logged_by (TakesNext.tried t) tries o = (
      station_at new.at,
      logged_more allows mark_of old new context context' client left tries t.which
          (station_at new.at) QueuesNothing t.turn o,
    )
    logged_by (TakesNext.lost to same) tries o =
        logged_same allows mark_of old new context client tries same o

    pub memory_logged : (tries : List AttemptRecord)
        → IsOpening allows mark_of old context client tries
        → (at : Station) × IsLogged allows (log_of new) at
    memory_logged tries o = logged_by turns tries o

    -- hooks answered it, and its end begins behind that
    owing_by : (p : Place K) → new.at ≡ at.Opening p → leads_to p ≡ led.Answered
        → (tries : List AttemptRecord) → IsOpening allows mark_of old context client tries
        → IsOwing allows mark_of (record new { at = at.Closing context' (begun None) }) left
        (owing.Ahead None)
    owing_by p is leads tries o =
        let done = done_of p leads in
        let t = turned (place.Ended done.how)
        (is ∙ ap (λ (x : Place K). at.Opening x) done.is) (λ lost. cc) done.over in
        let order : Accepts station.accepted (log_of new) station.answered =
        subst (λ (a : Station). Accepts station.accepted (log_of new) a) done.at
        (order_on tries t.turn.0.e (end_station done.how) t.turn.0.calls.log t.turn.0.order o) in
        let unended : IsUnended (log_of new) = unended_by turns o.unended in (
          record {
            from = o.from;
            walks = walks_more allows mark_of old new context context' client left o.from t.turn.0.e
                t.turn.0.calls o.walks;
            start = station.answered;
            begins = refl;
            order = order;
            logged = unended_unlogged (log_of new) unended;
            alive = unlogged_alive (log_of new) (unended_unlogged (log_of new) unended);
            begun = unended;
            error_is = refl;
          },
          (order, unended),
        )

    owing_at : (a : At K C) → new.at ≡ a → leads_at a ≡ led.Answered → (tries : List AttemptRecord)
        → IsOpening allows mark_of old context client tries
        → IsOwing allows mark_of (record new { at = at.Closing context' (begun None) }) left
        (owing.Ahead None)
    owing_at (at.Kept kept) is leads tries o = cc
    owing_at (at.Opening p) is leads tries o = owing_by p is leads tries o
    owing_at (at.Purging action) is leads tries o = cc
    owing_at (at.Named peer) is leads tries o = cc
    owing_at (at.Repeatable error) is leads tries o = cc
    owing_at at.Warning is leads tries o = cc
    owing_at at.Linked is leads tries o = cc
    owing_at (at.Treated error) is leads tries o = cc
    owing_at (at.Closing held there) is leads tries o = cc

    pub answered_owing : leads_at new.at ≡ led.Answered → (tries : List AttemptRecord)
        → IsOpening allows mark_of old context client tries
        → IsOwing allows mark_of (record new { at = at.Closing context' (begun None) }) left
        (owing.Ahead None)
    answered_owing leads tries o = owing_at new.at refl leads tries o
