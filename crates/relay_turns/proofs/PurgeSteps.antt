-- What the purger was asked, and what its answer makes of a request.
--
--   purges_append .. unpurged_on   the calls of the purger that a log tells
--   asks_nothing .. asks_still     what a turn asked it: nothing
--   purge_owing ..                 its answer is owed, and the calls so far
--   purge_leaves                   what waits for the client
--   settled_purger .. purged_end   over the steps of a request
use Rattle.std.proofs.Common.{◌≡◌, ◌⊎◌, ℕ, ◌+◌, ◌≤◌, Bool, true, false, List, [], ◌∷◌, ◌++◌, length, length-append, append-nil, append_assoc, Option, None, Some, refl, sym, ap, subst, ◌∙◌, arith, true≢false, inl, inr}
use Rattle.std.specs.Prelude.{IsTrue, if◌then◌else◌}
use Rattle.std.proofs.lemmas.Bool.{eqb-true}
use Rattle.relay_tasks.specs.Head.{RequestHead}
use Rattle.relay_tasks.specs.Hooks.{number_of, same_hook}
use Rattle.relay_tasks.specs.declared.Error.{Error}
use Rattle.relay_tasks.specs.declared.hook.Hook.TheVariants as hook
use Rattle.relay_tasks.specs.declared.log.Item.TheVariants as item
use Rattle.relay_tasks.specs.declared.log.LogEntry.{LogEntry}
use Rattle.relay_tasks.specs.declared.peer.PurgeAction.{PurgeAction}
use Rattle.relay_tasks.specs.declared.peer.Purged.{Purged}
use Rattle.relay_tasks.specs.declared.peer.Purged.TheVariants as answers
use Rattle.relay_links.specs.Purger.{PurgerState}
use Rattle.relay_links.specs.Told.{more}
use Rattle.relay_connector.specs.declared.Returned.{Returned}
use Rattle.relay_links.specs.declared.purger.PurgeCall.{PurgeCall}
use Rattle.relay_session.specs.Response.{AreQueued, IsOpen}
use Rattle.relay_session.specs.declared.session.HttpSession.{HttpSession}
use Rattle.relay_session.specs.declared.writing.Outgoing.TheVariants as outgoing
use Rattle.relay_session.specs.declared.writing.Writing.{Writing}
use Rattle.relay_hooks.specs.Purge.{purged_of}
use Rattle.relay_hooks.specs.Session.{request_head}
use Rattle.relay_hooks.specs.Standing.{Standing}
use Rattle.relay_hooks.specs.declared.purge.PurgeStatus.{PurgeStatus}
use Rattle.relay_hooks.specs.declared.purge.PurgeStatus.TheVariants as status
use Rattle.relay_phases.specs.Order.{Accepts, Station, next, next_behind}
use Rattle.relay_phases.specs.Order.{Station as station}
use Rattle.relay_phases.proofs.OrderLemmas.{next_behind-append}
use Rattle.relay_peer.specs.Body.{IsFrontOf}
use Rattle.relay_purging.specs.Asked.{Asks, IsAsked}
use Rattle.relay_purging.specs.Told.{call_for, call_told, purges_in}
use Rattle.relay_purging.specs.Purging.{PurgesOnce, PurgesTo}
use Rattle.relay_purging.specs.Queued.{lone_head}
use Rattle.relay_purging.specs.declared.turn.End.{End}
use Rattle.relay_purging.specs.declared.turn.End.TheVariants as end
use Rattle.relay_closing.specs.Place.{begins_at, begun, may_fail, may_finish}
use Rattle.relay_closing.specs.Place.{station_of as closing_at}
use Rattle.relay_closing.specs.declared.place.Cause.TheVariants as cause
use Rattle.relay_closing.specs.declared.place.Place.{Place as Last}
use Rattle.relay_closing.specs.declared.place.Place.TheVariants as closing
use Rattle.relay_closing.specs.declared.place.Stage.{Stage}
use Rattle.relay_closing.specs.declared.place.Stage.TheVariants as stage
use Rattle.relay_attempt.specs.Passed.{Passed}
use Rattle.relay_opening.specs.Place.{station_of}
use Rattle.relay_opening.specs.declared.place.Called.{Called}
use Rattle.relay_opening.specs.declared.place.Called.TheVariants as called
use Rattle.relay_opening.specs.declared.place.End.TheVariants as ended
use Rattle.relay_opening.specs.declared.place.Place.{Place}
use Rattle.relay_opening.specs.declared.place.Place.TheVariants as place
use Rattle.relay_trying.specs.Trying.{may_break}
use Rattle.relay_request.specs.Ahead.{IsOwedAhead}
use Rattle.relay_request.specs.Calls.{BreaksAt, CountsCalls, IsLogged, IsOpening, IsOwing, IsUnended, LastAsks, StandsBy, TellsPeer, final_at, is_before, log_of, place_station, purge_at, seen_with, station_at}
use Rattle.relay_request.specs.Closing.{Settles}
use Rattle.relay_request.specs.ClosingHooks.{calls_next}
use Rattle.relay_request.specs.Owed.{TellsAgain}
use Rattle.relay_request.specs.Passed.{Start, World, opened_to}
use Rattle.relay_request.specs.Phases.{IsConnecting}
use Rattle.relay_request.specs.Purging.{AsksPurger, HasLost, HasPurged}
use Rattle.relay_request.specs.Request.{is_done}
use Rattle.relay_request.specs.Sent.{IsUntreated}
use Rattle.relay_request.specs.Tries.{refusals_in}
use Rattle.relay_request.specs.declared.calls.At.{At}
use Rattle.relay_request.specs.declared.calls.At.TheVariants as at
use Rattle.relay_request.specs.declared.calls.Calls.{Calls}
use Rattle.relay_request.specs.declared.machine.Phase.{Phase}
use Rattle.relay_request.specs.declared.outcome.Outcome.{Outcome}
use Rattle.relay_request.specs.declared.outcome.Outcome.TheVariants as outcome
use Rattle.relay_request.specs.declared.owed.Owed.TheVariants as owing
use Rattle.relay_request.specs.declared.record.AttemptRecord.{AttemptRecord}
use Rattle.relay_request.specs.declared.work.Work.{Work}
use Rattle.relay_request.proofs.CallLemmas.{logged_same, none_called, one_called, order_more, walks_more}
use Rattle.relay_turns.proofs.LastCalls.{unended_unlogged, unlogged_alive}
use Rattle.relay_request.proofs.NamedLemmas.{refusals_still}
use Rattle.relay_turns.proofs.FilterSteps.{purge_past}
use Rattle.relay_turns.proofs.OpenSteps.{purge_answers}
use Rattle.relay_request.proofs.TreatLemmas.{unended_more, untreated_more}

-- ---- the calls that a log tells

-- one call more tells of one more where it filtered the answer of a purge, and of none else
pub purges_append : (log : List LogEntry) (last e : LogEntry)
    → purges_in ((log ++ last ∷ []) ++ e ∷ [])
    ≡ purges_in (log ++ last ∷ [])
    ++ (if same_hook hook.PurgeResponseFilter e.hook then call_told last e else [])
purges_append [] last e = append-nil _
purges_append (x ∷ []) last e =
    ap (λ (l : List PurgeCall).
    (if same_hook hook.PurgeResponseFilter last.hook then call_told x last else []) ++ l)
    (purges_append [] last e)
    ∙ sym (append_assoc
    (if same_hook hook.PurgeResponseFilter last.hook then call_told x last else [])
    (purges_in (last ∷ []))
    (if same_hook hook.PurgeResponseFilter e.hook then call_told last e else []))
purges_append (x ∷ y ∷ log) last e =
    ap (λ (l : List PurgeCall).
    (if same_hook hook.PurgeResponseFilter y.hook then call_told x y else []) ++ l)
    (purges_append (y ∷ log) last e)
    ∙ sym (append_assoc
    (if same_hook hook.PurgeResponseFilter y.hook then call_told x y else [])
    (purges_in (y ∷ (log ++ last ∷ [])))
    (if same_hook hook.PurgeResponseFilter e.hook then call_told last e else []))

-- ---- where none may be filtered

-- the filter of a purge's answer comes at one station
filters_at : (at to : Station) (e : LogEntry)
    → number_of e.hook ≡ number_of hook.PurgeResponseFilter → next at e ≡ Some to
    → at ≡ station.purged
filters_at station.accepted to e is leads = let none : None ≡ Some to = rw is at leads in cc
filters_at station.made to e is leads = let none : None ≡ Some to = rw is at leads in cc
filters_at station.handed to e is leads = let none : None ≡ Some to = rw is at leads in cc
filters_at station.early to e is leads = let none : None ≡ Some to = rw is at leads in cc
filters_at station.spawning to e is leads = let none : None ≡ Some to = rw is at leads in cc
filters_at station.headed to e is leads = let none : None ≡ Some to = rw is at leads in cc
filters_at station.filtered to e is leads = let none : None ≡ Some to = rw is at leads in cc
filters_at station.sending to e is leads = let none : None ≡ Some to = rw is at leads in cc
filters_at station.purging to e is leads = let none : None ≡ Some to = rw is at leads in cc
filters_at station.purged to e is leads = refl
filters_at station.trying to e is leads = let none : None ≡ Some to = rw is at leads in cc
filters_at station.named to e is leads = let none : None ≡ Some to = rw is at leads in cc
filters_at station.linked to e is leads = let none : None ≡ Some to = rw is at leads in cc
filters_at station.sent to e is leads = let none : None ≡ Some to = rw is at leads in cc
filters_at station.relaying to e is leads = let none : None ≡ Some to = rw is at leads in cc
filters_at station.at_piece to e is leads = let none : None ≡ Some to = rw is at leads in cc
filters_at station.at_head to e is leads = let none : None ≡ Some to = rw is at leads in cc
filters_at station.at_body to e is leads = let none : None ≡ Some to = rw is at leads in cc
filters_at station.at_trailers to e is leads = let none : None ≡ Some to = rw is at leads in cc
filters_at station.broken to e is leads = let none : None ≡ Some to = rw is at leads in cc
filters_at station.repeatable to e is leads = let none : None ≡ Some to = rw is at leads in cc
filters_at station.warning to e is leads = let none : None ≡ Some to = rw is at leads in cc
filters_at station.answered to e is leads = let none : None ≡ Some to = rw is at leads in cc
filters_at station.failing to e is leads = let none : None ≡ Some to = rw is at leads in cc
filters_at station.told to e is leads = let none : None ≡ Some to = rw is at leads in cc
filters_at station.reporting to e is leads = let none : None ≡ Some to = rw is at leads in cc
filters_at station.ending to e is leads = let none : None ≡ Some to = rw is at leads in cc
filters_at station.logged to e is leads = let none : None ≡ Some to = rw is at leads in cc
filters_at station.kept to e is leads = let none : None ≡ Some to = leads in cc

-- a call that comes elsewhere filters none
unfiltered : (at to : Station) (e : LogEntry) → (at ≡ station.purged → ⊥) → next at e ≡ Some to
    → same_hook hook.PurgeResponseFilter e.hook ≡ false
unfiltered at to e elsewhere leads = by (same_hook hook.PurgeResponseFilter e.hook) refl
  where
    by : (b : Bool) → same_hook hook.PurgeResponseFilter e.hook ≡ b → b ≡ false
    by true is =
        absurd (elsewhere (filters_at at to e
        (sym (eqb-true (number_of hook.PurgeResponseFilter) (number_of e.hook) is)) leads))
    by false is = refl

-- a log that goes on elsewhere by one call at most tells of no purge more
unpurged_by : (old : List LogEntry) (at to : Station) (rest : List LogEntry)
    → Accepts station.accepted old at → (at ≡ station.purged → ⊥)
    → Accepts station.accepted (old ++ rest) to → length rest ≤ 1
    → purges_in (old ++ rest) ≡ purges_in old
unpurged_by old at to [] order elsewhere leads few =
    ap (λ (l : List LogEntry). purges_in l) (append-nil old)
unpurged_by old at to (e ∷ []) order elsewhere leads few =
    purge_past old e (unfiltered at to e elsewhere
    (sym (next_behind-append (Some station.accepted) old (e ∷ [])
    ∙ ap (λ (a : Option Station). next_behind a (e ∷ [])) order) ∙ leads))
unpurged_by old at to (e ∷ f ∷ es) order elsewhere leads few = absurd (omega (arith, few))

-- ---- what a turn asked

module _ {L C M K : Type 0} (before after : PurgerState) (old new : Calls M K C) (phase : Phase L C)
  where
    -- a turn that stood elsewhere asked the purger nothing
    pub asks_nothing : (at to : Station) → after ≡ before
        → Accepts station.accepted (log_of old) at → (at ≡ station.purged → ⊥)
        → Accepts station.accepted (log_of new) to
        → IsFrontOf (log_of old) (log_of new) → length (log_of new) ≤ 1 + length (log_of old)
        → AsksPurger before after (log_of old) (log_of new) phase
    asks_nothing at to same order elsewhere leads front once =
        AsksPurger.nothing same
        (ap (λ (l : List LogEntry). purges_in l) (sym front.joined)
        ∙ unpurged_by (log_of old) at to front.rest order elsewhere
        (subst (λ (l : List LogEntry). Accepts station.accepted l to) (sym front.joined) leads)
        (omega (
          arith,
          once,
          ap (λ (l : List LogEntry). length l) front.joined,
          length-append (log_of old) front.rest,
        )))

    -- nor did one whose calls tell of no purge, however many these are
    pub asks_unpurged : after ≡ before → purges_in (log_of new) ≡ purges_in (log_of old)
        → AsksPurger before after (log_of old) (log_of new) phase
    asks_unpurged same none = AsksPurger.nothing same none

    -- one without a call asked nothing
    pub asks_still : after ≡ before → log_of new ≡ log_of old
        → AsksPurger before after (log_of old) (log_of new) phase
    asks_still same log =
        AsksPurger.nothing same (ap (λ (l : List LogEntry). purges_in l) log)

-- ---- where a request stands

-- the purger is asked next only where the request is a purge, and was asked what that does
purging_of : {K X : Type 0} (a : At K X) (action : PurgeAction) → purge_at a ≡ Some action
    → a ≡ at.Purging action
purging_of (at.Kept kept) action is = cc
purging_of (at.Opening there) action is = cc
purging_of (at.Purging does) action is = cc
purging_of (at.Named peer) action is = cc
purging_of (at.Repeatable error) action is = cc
purging_of at.Warning action is = cc
purging_of at.Linked action is = cc
purging_of (at.Treated error) action is = cc
purging_of (at.Closing held there) action is = cc

-- no attempt was made before
pub purge_before : {K X : Type 0} (a : At K X) (action : PurgeAction) → purge_at a ≡ Some action
    → is_before a ≡ true
purge_before a action is = ap (λ (b : At _ _). is_before b) (purging_of a action is)

-- nor is it where the error of a hook is to be answered
pub final_unpurged : {K X : Type 0} (a : At K X) (error : Error) → final_at a ≡ Some error
    → purge_at a ≡ None
final_unpurged (at.Kept kept) error is = refl
final_unpurged (at.Opening there) error is = refl
final_unpurged (at.Purging action) error is = cc
final_unpurged (at.Named peer) error is = refl
final_unpurged (at.Repeatable treated) error is = refl
final_unpurged at.Warning error is = refl
final_unpurged at.Linked error is = refl
final_unpurged (at.Treated treated) error is = refl
final_unpurged (at.Closing held there) error is = refl

-- elsewhere no filter of its answer comes next
behind_elsewhere : {K : Type 0} (last : Called K) → station_of last ≡ station.purged → ⊥
behind_elsewhere (called.Made kept) is = cc
behind_elsewhere called.Handed is = cc
behind_elsewhere called.Early is = cc
behind_elsewhere called.Spawning is = cc
behind_elsewhere called.Headed is = cc
behind_elsewhere called.Filtered is = cc
behind_elsewhere called.Sending is = cc

place_elsewhere : {K : Type 0} (p : Place K) → place_station p ≡ station.purged → ⊥
place_elsewhere (place.Behind last) is = behind_elsewhere last is
place_elsewhere (place.Ended ended.Attempts) is = cc
place_elsewhere (place.Ended ended.Answered) is = cc
place_elsewhere (place.Ended ended.Purge) is = cc
place_elsewhere (place.Ended ended.Declined) is = cc
place_elsewhere (place.Ended (ended.Unwritten why)) is = cc
place_elsewhere (place.Ended (ended.Failed error)) is = cc
place_elsewhere place.Lost is = cc

pub opens_elsewhere : {K X : Type 0} (a : At K X) → purge_at a ≡ None
    → station_at a ≡ station.purged → ⊥
opens_elsewhere (at.Kept kept) none is = cc
opens_elsewhere (at.Opening there) none is = place_elsewhere there is
opens_elsewhere (at.Purging action) none is = cc
opens_elsewhere (at.Named peer) none is = cc
opens_elsewhere (at.Repeatable error) none is = cc
opens_elsewhere at.Warning none is = cc
opens_elsewhere at.Linked none is = cc
opens_elsewhere (at.Treated error) none is = cc
opens_elsewhere (at.Closing held there) none is = cc

-- nor where an error is final, or may be treated
pub fails_elsewhere : (here : Station) → IsTrue (may_fail here) → here ≡ station.purged → ⊥
fails_elsewhere here may is =
    true≢false (sym (subst (λ (a : Station). may_fail a ≡ true) is may))

breaks_there : (here : Station) → IsTrue (may_break here) → here ≡ station.purged → ⊥
breaks_there here may is =
    true≢false (sym (subst (λ (a : Station). may_break a ≡ true) is may))

pub breaks_elsewhere : {K X : Type 0} (a : At K X) (log : List LogEntry) (error : Error)
    (here : Station) → BreaksAt a log error here → here ≡ station.purged → ⊥
breaks_elsewhere (at.Kept kept) log error here breaks = breaks_there here breaks
breaks_elsewhere (at.Opening there) log error here breaks = breaks_there here breaks
breaks_elsewhere (at.Purging action) log error here breaks = breaks_there here breaks
breaks_elsewhere (at.Named peer) log error here breaks = breaks_there here breaks
breaks_elsewhere (at.Repeatable treated) log error here breaks = breaks_there here breaks
breaks_elsewhere at.Warning log error here breaks = breaks_there here breaks
breaks_elsewhere at.Linked log error here breaks = breaks_there here breaks
breaks_elsewhere (at.Treated treated) log error here breaks = fails_elsewhere here breaks.1
breaks_elsewhere (at.Closing held there) log error here breaks = breaks_there here breaks

-- nor at the end of a request
stage_elsewhere : (start : Station) (here : Stage) → IsTrue (begins_at start here)
    → closing_at start here ≡ station.purged → ⊥
stage_elsewhere start (stage.Failing error) begins is = fails_elsewhere start begins is
stage_elsewhere start (stage.Told told) begins is = cc
stage_elsewhere start (stage.Reporting told) begins is = cc
stage_elsewhere start (stage.Ending cause.Finished) begins is =
    true≢false (sym (subst (λ (a : Station). may_finish a ≡ true) is begins))
stage_elsewhere start (stage.Ending (cause.Hidden told)) begins is = cc
stage_elsewhere start (stage.Ending (cause.Reported told summary)) begins is = cc
stage_elsewhere start (stage.Logged why) begins is = cc

-- the log of a request leads to a station where no filter of a purge's answer comes
pub record StandsElsewhere (log : List LogEntry) : Type 0 where
  pub here : Station
  pub order : Accepts station.accepted log here
  pub elsewhere : here ≡ station.purged → ⊥

pub ends_elsewhere : {C M K : Type 0} (allows : Standing → LogEntry → Type 0) (mark_of : C → ℕ)
    (calls : Calls M K C) (held : C) (client : HttpSession) (error : Option Error)
    (goes_back : Bool) (there : Last K) → calls_next there goes_back ≡ true
    → StandsBy allows mark_of calls held client error there → StandsElsewhere (log_of calls)
ends_elsewhere allows mark_of calls held client error goes_back (closing.At here) some s = record {
  here = closing_at s.start here;
  order = s.order;
  elsewhere = stage_elsewhere s.start here s.begins;
}
ends_elsewhere allows mark_of calls held client error goes_back (closing.Ended how) some s =
    absurd (true≢false (sym some))
ends_elsewhere allows mark_of calls held client error goes_back closing.Lost some s =
    absurd (true≢false (sym some))

-- ---- the answer of a purge

-- the call of which the two entries of a purge tell
told_by : (last e : LogEntry) (action : PurgeAction) (head : RequestHead) (answer : Purged)
    → last.input ≡ item.Request head → last.output ≡ item.Action action
    → e.hook ≡ hook.PurgeResponseFilter → e.input ≡ item.Status answer
    → (if same_hook hook.PurgeResponseFilter e.hook then call_told last e else [])
    ≡ call_for action head answer ∷ []
told_by last e action head answer input output filters told =
    rw (filters, input, output, told) refl

module _ {C M K : Type 0} (allows : Standing → LogEntry → Type 0) (mark_of : C → ℕ)
    (old new : Calls M K C) (context context' : C) (client left : HttpSession)
    (action : PurgeAction) (asked told : PurgerState) (is : purge_at old.at ≡ Some action)
  where
    -- the purger was asked, and its answer told to the filter
    abbrev pub IsPurged : End → Type 0
    IsPurged how =
        PurgesOnce allows action asked told (seen_with old client) (mark_of context)
        (seen_with new left) (mark_of context') how

    -- the same by how that ended
    abbrev pub IsPurgedTo : End → Type 0
    IsPurgedTo how =
        PurgesTo allows action asked told (seen_with old client) (mark_of context)
        (seen_with new left) (mark_of context') how

    is_at : old.at ≡ at.Purging action
    is_at = purging_of old.at action is

    -- the last call had asked what the purge does
    asks_for : (tries : List AttemptRecord) → IsOpening allows mark_of old context client tries
        → LastAsks (log_of old) action (request_head (seen_with old client))
    asks_for tries o =
        subst (λ (a : At K C). TellsPeer a (log_of old) (request_head (seen_with old client))) is_at
        o.named

    stood_at : (tries : List AttemptRecord) → IsOpening allows mark_of old context client tries
        → Accepts station.accepted (log_of old) station.purged
    stood_at tries o =
        subst (λ (a : At K C). Accepts station.accepted (log_of old) (station_at a)) is_at o.order

    -- no end begins with that, no error is treated in it, and it tells of no attempt
    pub purge_unended : (how : End) → IsPurgedTo how → IsUnended (log_of old)
        → IsUnended (log_of new)
    purge_unended end.Answered once none =
        unended_more (log_of old) (log_of new) once.turn.e hook.PurgeResponseFilter
        once.turn.calls.log once.turn.hook refl none
    purge_unended (end.Unwritten why) once none =
        unended_more (log_of old) (log_of new) once.turn.e hook.PurgeResponseFilter
        once.turn.calls.log once.turn.hook refl none
    purge_unended end.Lost same none = subst (λ (l : List LogEntry). IsUnended l) (sym same) none

    pub purge_untreated : IsPurged end.Answered → IsUntreated (log_of old)
        → IsUntreated (log_of new)
    purge_untreated once none =
        untreated_more (log_of old) (log_of new) once.turn.e hook.PurgeResponseFilter
        once.turn.calls.log once.turn.hook refl none

    pub purge_refusals : (how : End) → IsPurgedTo how
        → refusals_in (log_of new) ≡ refusals_in (log_of old)
    purge_refusals end.Answered once =
        ap (λ (l : List LogEntry). refusals_in l) once.turn.calls.log
        ∙ refusals_still (log_of old) once.turn.e hook.PurgeResponseFilter once.turn.hook refl
    purge_refusals (end.Unwritten why) once =
        ap (λ (l : List LogEntry). refusals_in l) once.turn.calls.log
        ∙ refusals_still (log_of old) once.turn.e hook.PurgeResponseFilter once.turn.hook refl
    purge_refusals end.Lost same = ap (λ (l : List LogEntry). refusals_in l) same

    -- out of memory there is an entry more or none, and none is counted
    pub purge_memory : (how : End) → IsPurgedTo how → (work : Work) → work.called ≡ 0
        → CountsCalls old new work
    purge_memory end.Answered once work none =
        one_called old new work (omega (arith, none)) once.turn.e once.turn.calls.log
    purge_memory (end.Unwritten why) once work none =
        one_called old new work (omega (arith, none)) once.turn.e once.turn.calls.log
    purge_memory end.Lost same work none = none_called old new work none same

    -- and the log is in order still
    purge_order : (how : End) → IsPurged how → (tries : List AttemptRecord)
        → IsOpening allows mark_of old context client tries → IsLogged allows (log_of new)
        station.answered
    purge_order how once tries o = record {
      from = o.from;
      to = _;
      walks = walks_more allows mark_of old new context context' client left o.from once.turn.e
          once.turn.calls o.walks;
      order = order_more old new station.purged station.answered once.turn.e once.turn.calls.log
          once.turn.order (stood_at tries o);
    }

    pub purge_logged : (how : End) → IsPurgedTo how → (tries : List AttemptRecord)
        → IsOpening allows mark_of old context client tries
        → (to : Station) × IsLogged allows (log_of new) to
    purge_logged end.Answered once tries o =
        (station.answered, purge_order end.Answered once tries o)
    purge_logged (end.Unwritten why) once tries o =
        (station.answered, purge_order (end.Unwritten why) once tries o)
    purge_logged end.Lost same tries o = logged_same allows mark_of old new context client tries
        same o

    -- its answer is owed, and the end of the request begins behind that
    pub purge_owing : IsPurged end.Answered → (tries : List AttemptRecord)
        → IsOpening allows mark_of old context client tries
        → IsOwing allows mark_of (record new { at = at.Closing context' (begun None) }) left
        (owing.Ahead None)
    purge_owing once tries o =
        let logged = purge_order end.Answered once tries o in
        let unended : IsUnended (log_of new) = purge_unended end.Answered once o.unended in (
          record {
            from = o.from;
            walks = walks_more allows mark_of old new context context' client left o.from
                once.turn.e
                once.turn.calls o.walks;
            start = station.answered;
            begins = refl;
            order = logged.order;
            logged = unended_unlogged (log_of new) unended;
            alive = unlogged_alive (log_of new) (unended_unlogged (log_of new) unended);
            begun = unended;
            error_is = refl;
          },
          (logged.order, unended),
        )

    -- what waits for the client is the text of its answer
    pub record PurgeLeaves (s : Start) (p : Passed) : Type 0 where
      pub text : List ℕ
      pub is_open : left.writing.output ≡ outgoing.Open text
      pub owed : IsOwedAhead (opened_to s (log_of new)) p None text
      pub tells : s.tried ≡ [] → TellsAgain owed left

    pub purge_leaves : IsPurged end.Answered → (s : Start) (p : Passed) (w : World)
        (tries : List AttemptRecord) → IsOpening allows mark_of old context client tries
        → IsConnecting (opened_to s (log_of old)) p w client tries → PurgeLeaves s p
    purge_leaves once s p w tries o k =
        let queued : AreQueued client.writing (lone_head once.head) left.writing =
        once.turn.queued.queued in
        let waits : IsOpen left.writing.output =
        (_, ap (λ (x : Writing). x.output) queued.grows.grown) in
        let answers = purge_answers allows old new client left (mark_of context) (mark_of context')
        action asked told s p w tries waits.0 once (purge_order end.Answered once tries o).order
        waits.1 k in
        record {
          text = waits.0;
          is_open = waits.1;
          owed = answers.owed;
          tells = answers.tells;
        }

    -- ---- what the purger was asked

    -- the call of which the log tells now
    pub asks_once : {L : Type 0} (how : End) → IsPurged how → (tries : List AttemptRecord)
        → IsOpening allows mark_of old context client tries → (phase : Phase L C)
        → AsksPurger asked told (log_of old) (log_of new) phase
    asks_once how once tries o phase =
        let last = asks_for tries o in
        let head = request_head (seen_with old client) in
        let answer = purged_of once.status in
        AsksPurger.once action head once.status once.asks
        (ap (λ (l : List LogEntry). purges_in l) once.turn.calls.log
        ∙ ap (λ (l : List LogEntry). purges_in (l ++ once.turn.e ∷ [])) last.is_last
        ∙ purges_append last.before last.last once.turn.e
        ∙ ap (λ (l : List PurgeCall). purges_in (last.before ++ last.last ∷ []) ++ l)
        (told_by last.last once.turn.e action head answer last.input last.output once.turn.hook
        once.input)
        ∙ ap (λ (l : List LogEntry). purges_in l ++ call_for action head answer ∷ [])
        (sym last.is_last))

    -- or, where memory was wanted, maybe one of which it does not tell
    pub asks_lost : {L : Type 0} (how : End) → IsPurgedTo how
        → (told ≡ asked) ⊎ IsAsked asked action (seen_with old client) told
        → (tries : List AttemptRecord) → IsOpening allows mark_of old context client tries
        → (phase : Phase L C) → HasLost phase → AsksPurger asked told (log_of old) (log_of new)
        phase
    asks_lost end.Answered once may tries o phase lost = asks_once end.Answered once tries o phase
    asks_lost (end.Unwritten why) once may tries o phase lost =
        asks_once (end.Unwritten why) once tries o phase
    asks_lost end.Lost same (inl none) tries o phase lost =
        AsksPurger.nothing none (ap (λ (l : List LogEntry). purges_in l) same)
    asks_lost end.Lost same (inr (answer, asks)) tries o phase lost =
        AsksPurger.lost action (request_head (seen_with old client)) answer asks (asks_for tries o)
        same lost

-- ---- over the steps of a request

module _ {L C : Type 0} where
  -- the settling of a phase asks the purger nothing
  pub settled_purger : (asked told : PurgerState) (old new : List LogEntry)
      (phase settled : Phase L C)
      (before after : Option (List (Returned L))) → Settles phase before after settled
      → AsksPurger asked told old new phase → AsksPurger asked told old new settled
  settled_purger asked told old new phase settled before after does (AsksPurger.nothing same none) =
      AsksPurger.nothing same none
  settled_purger asked told old new phase settled before after does
      (AsksPurger.once action head status asks tells) =
      AsksPurger.once action head status asks tells
  settled_purger asked told old new phase settled before after does
      (AsksPurger.lost action head answer asks last same (attempts, is)) =
      AsksPurger.lost action head answer asks last same (
        attempts,
        (subst (λ (k : Phase L C). Settles k before after settled) is does).0,
      )

  -- a request that ended for want of memory is done
  pub lost_done : {K : Type 0} (phase : Phase L C) (here : At K C) → HasLost phase
      → is_done phase here ≡ true
  lost_done phase here (attempts, is) =
      subst (λ (k : Phase L C). is_done k here ≡ true) (sym is) refl

-- a list that gained some, and then some, gained both
more_more : (told : Option (List PurgeCall)) (these those : List PurgeCall)
    → more (more told these) those ≡ more told (these ++ those)
more_more None these those = refl
more_more (Some calls) these those = ap (λ (l : List PurgeCall). Some l)
    (append_assoc calls these those)

none_more : (told : Option (List PurgeCall)) → more told [] ≡ told
none_more None = refl
none_more (Some calls) = ap (λ (l : List PurgeCall). Some l) (append-nil calls)

-- whatever it answered, the purger tells the call
told_call : (before : PurgerState) (action : PurgeAction) (head : RequestHead) (after : PurgerState)
    (answer : PurgeStatus) → Asks before action head after (purged_of answer)
    → after.told ≡ more before.told (call_for action head (purged_of answer) ∷ [])
told_call before action head after status.NoCache answers = answers.told
told_call before action head after status.Found answers = answers.told
told_call before action head after status.NotFound answers = answers.told
told_call before action head after (status.Error fault) fails = fails.told

module _ (first asked told : PurgerState) (log : List LogEntry)
    (so_far : asked.told ≡ more first.told (purges_in log)) where
  joined : (calls : List PurgeCall) → told.told ≡ more asked.told calls
      → told.told ≡ more first.told (purges_in log ++ calls)
  joined calls is =
      is ∙ ap (λ (t : Option (List PurgeCall)). more t calls) so_far
      ∙ more_more first.told (purges_in log) calls

  -- the calls that a step tells are those that the purger was asked
  pub purged_on : {L C : Type 0} (new : List LogEntry) (phase : Phase L C)
      → (HasLost phase → ⊥) → AsksPurger asked told log new phase
      → told.told ≡ more first.told (purges_in new)
  purged_on new phase going (AsksPurger.nothing same none) =
      ap (λ (s : PurgerState). s.told) same ∙ so_far
      ∙ ap (λ (l : List PurgeCall). more first.told l) (sym none)
  purged_on new phase going (AsksPurger.once action head status asks tells) =
      joined (call_for action head (purged_of status) ∷ [])
      (told_call asked action head told status asks)
      ∙ ap (λ (l : List PurgeCall). more first.told l) (sym tells)
  purged_on new phase going (AsksPurger.lost action head answer asks last same lost) =
      absurd (going lost)

  -- memory was wanted: the purger may have been asked once more
  one_more : (new : List LogEntry) (came : Outcome) (action : PurgeAction) (head : RequestHead)
      (answer : Purged) → told.told ≡ more asked.told (call_for action head answer ∷ [])
      → LastAsks log action head → new ≡ log → came ≡ outcome.OutOfMemory
      → HasPurged first told new came
  one_more new came action head answer tells last same is =
      inr (
        is,
        record {
          action = action;
          head = head;
          answer = answer;
          asks = subst (λ (l : List LogEntry). LastAsks l action head) (sym same) last;
          told = joined (call_for action head answer ∷ []) tells
              ∙ ap (λ (l : List LogEntry).
              more first.told (purges_in l ++ call_for action head answer ∷ [])) (sym same);
        },
      )

  purged_lost : (new : List LogEntry) (came : Outcome) (action : PurgeAction)
      (head : RequestHead) (answer : Purged) → Asks asked action head told answer
      → LastAsks log action head → new ≡ log → came ≡ outcome.OutOfMemory
      → HasPurged first told new came
  purged_lost new came action head answers.NoCache asks last same is =
      one_more new came action head answers.NoCache asks.told last same is
  purged_lost new came action head answers.Found asks last same is =
      one_more new came action head answers.Found asks.told last same is
  purged_lost new came action head answers.NotFound asks last same is =
      one_more new came action head answers.NotFound asks.told last same is
  purged_lost new came action head (answers.Failed fault) asks last same is =
      one_more new came action head (answers.Failed fault) asks.told last same is
  purged_lost new came action head answers.OutOfMemory asks last same is =
      inl (ap (λ (s : PurgerState). s.told) asks ∙ so_far
      ∙ ap (λ (l : List LogEntry). more first.told (purges_in l)) (sym same))

  -- so it is with the last step of a request
  pub purged_end : {L C : Type 0} (new : List LogEntry) (phase : Phase L C) (came : Outcome)
      → (HasLost phase → came ≡ outcome.OutOfMemory) → AsksPurger asked told log new phase
      → HasPurged first told new came
  purged_end new phase came ends (AsksPurger.nothing same none) =
      inl (ap (λ (s : PurgerState). s.told) same ∙ so_far
      ∙ ap (λ (l : List PurgeCall). more first.told l) (sym none))
  purged_end new phase came ends (AsksPurger.once action head status asks tells) =
      inl (joined (call_for action head (purged_of status) ∷ [])
      (told_call asked action head told status asks)
      ∙ ap (λ (l : List PurgeCall). more first.told l) (sym tells))
  purged_end new phase came ends (AsksPurger.lost action head answer asks last same lost) =
      purged_lost new came action head answer asks last same (ends lost)

-- before the first step the purger was asked nothing
pub purged_first : (first : PurgerState) → first.told ≡ more first.told (purges_in [])
purged_first first = sym (none_more first.told)
