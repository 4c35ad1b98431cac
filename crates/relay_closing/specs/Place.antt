-- Where the end of a request stands, which hook comes next, and where its answer leads.
use Rattle.std.specs.Prelude.{◌≡◌, Bool, true, false, ◌++◌, List, [], ◌∷◌, is_some, Option, None, Some}
use Rattle.relay_tasks.specs.declared.error.Error.{Error}
use Rattle.relay_tasks.specs.declared.hook.Hook.{Hook}
use Rattle.relay_tasks.specs.declared.hook.Hook.TheVariants as hook
use Rattle.relay_tasks.specs.declared.log.Item.{Item}
use Rattle.relay_tasks.specs.declared.log.Item.TheVariants as item
use Rattle.relay_tasks.specs.declared.log.LogEntry.{LogEntry}
use Rattle.relay_session.specs.Reading.{head_of}
use Rattle.relay_modules.specs.declared.seen.Seen.{Seen}
use Rattle.relay_hooks.specs.Call.{failure}
use Rattle.relay_hooks.specs.Session.{request_head}
use Rattle.relay_phases.specs.Order.{Station}
use Rattle.relay_phases.specs.Order.{Station as station}
use Rattle.relay_closing.specs.declared.place.Cause.{Cause}
use Rattle.relay_closing.specs.declared.place.Cause.TheVariants as cause
use Rattle.relay_closing.specs.declared.place.End.{End}
use Rattle.relay_closing.specs.declared.place.End.TheVariants as end
use Rattle.relay_closing.specs.declared.place.Place.{Place}
use Rattle.relay_closing.specs.declared.place.Place.TheVariants as place
use Rattle.relay_closing.specs.declared.place.Stage.{Stage}
use Rattle.relay_closing.specs.declared.place.Stage.TheVariants as stage

-- the error that ended the request, or none
abbrev pub error_of : Cause → Option Error
error_of cause.Finished = None
error_of (cause.Hidden told) = Some told.error
error_of (cause.Reported told summary) = Some told.error

-- memory was wanted
abbrev pub is_lost : {K : Type 0} → Place K → Bool
is_lost (place.At at) = false
is_lost (place.Ended how) = false
is_lost place.Lost = true

-- where the end begins, with that error or with none
abbrev pub begun : {K : Type 0} → Option Error → Place K
begun None = place.At (stage.Ending cause.Finished)
begun (Some error) = place.At (stage.Failing error)

-- a hook may be called wherever one is called next: the head was read
abbrev pub may_go_on : {K : Type 0} → Place K → Seen → Bool
may_go_on (place.At at) seen = is_some (head_of seen.downstream.reading)
may_go_on (place.Ended how) seen = true
may_go_on place.Lost seen = true

-- ---- where the order of calls has the request

-- an error may be final there: a hook or an attempt failed, there were too many attempts for a
-- further one, or an answer could not be written
abbrev pub may_fail : Station → Bool
may_fail station.failing = true
may_fail station.repeatable = true
may_fail station.answered = true
may_fail other = false

-- a request may end there without an error: an answer was queued, or messages are relayed
abbrev pub may_finish : Station → Bool
may_finish station.answered = true
may_finish station.sent = true
may_finish station.relaying = true
may_finish station.at_trailers = true
may_finish other = false

-- the end may begin at that station, where no hook was called yet
abbrev pub begins_at : Station → Stage → Bool
begins_at start (stage.Failing error) = may_fail start
begins_at start (stage.Told told) = true
begins_at start (stage.Reporting told) = true
begins_at start (stage.Ending cause.Finished) = may_finish start
begins_at start (stage.Ending (cause.Hidden told)) = true
begins_at start (stage.Ending (cause.Reported told summary)) = true
begins_at start (stage.Logged why) = true

-- the same, wherever it stands
abbrev pub may_begin : {K : Type 0} → Station → Place K → Bool
may_begin start (place.At at) = begins_at start at
may_begin start (place.Ended how) = true
may_begin start place.Lost = true

-- the station at which a request stands whose end began at `start`
abbrev pub station_of : Station → Stage → Station
station_of start (stage.Failing error) = start
station_of start (stage.Told told) = station.told
station_of start (stage.Reporting told) = station.reporting
station_of start (stage.Ending cause.Finished) = start
station_of start (stage.Ending (cause.Hidden told)) = station.ending
station_of start (stage.Ending (cause.Reported told summary)) = station.ending
station_of start (stage.Logged why) = station.logged

-- and at which it has ended
abbrev pub end_station : {K : Type 0} → End K → Station
end_station (end.Gone why) = station.logged
end_station (end.Kept why kept) = station.kept

-- ---- which hook comes next

-- the hook that is called, or none; `goes_back` says that the client goes back
abbrev pub next_hook : Stage → Bool → Option Hook
next_hook (stage.Failing error) goes_back = Some hook.FailToProxy
next_hook (stage.Told told) goes_back = Some hook.SuppressErrorLog
next_hook (stage.Reporting told) goes_back = Some hook.RequestSummary
next_hook (stage.Ending why) goes_back = Some hook.Logging
next_hook (stage.Logged why) true = Some hook.PersistConnectionContext
next_hook (stage.Logged why) false = None

-- what it is told: the error that is final, or the request
abbrev pub input_of : Stage → Seen → Item
input_of (stage.Failing error) seen = item.Failure error
input_of (stage.Told told) seen = item.Failure told.error
input_of (stage.Reporting told) seen = item.Request (request_head seen)
input_of (stage.Ending why) seen = failure (error_of why)
input_of (stage.Logged why) seen = item.Request (request_head seen)

-- where a turn leads that calls none
abbrev pub rested : {K : Type 0} → Stage → Place K
rested (stage.Failing error) = place.At (stage.Failing error)
rested (stage.Told told) = place.At (stage.Told told)
rested (stage.Reporting told) = place.At (stage.Reporting told)
rested (stage.Ending why) = place.At (stage.Ending why)
rested (stage.Logged why) = place.Ended (end.Gone why)

-- ---- where its answer leads

-- the end came to that stage from the other, where the call of the hook was that
abbrev pub CameTo : Stage → Stage → LogEntry → Type 0
CameTo (stage.Failing error) from e = ⊥
CameTo (stage.Told told) from e =
    (from ≡ stage.Failing told.error)
    × (e.output ≡ item.Code told.answer.error_code told.answer.can_reuse_downstream)
CameTo (stage.Reporting told) from e =
    (from ≡ stage.Told told) × (e.output ≡ item.Answer false)
CameTo (stage.Ending cause.Finished) from e = ⊥
CameTo (stage.Ending (cause.Hidden told)) from e =
    (from ≡ stage.Told told) × (e.output ≡ item.Answer true)
CameTo (stage.Ending (cause.Reported told summary)) from e =
    (from ≡ stage.Reporting told) × (e.output ≡ item.Text summary)
CameTo (stage.Logged why) from e =
    (from ≡ stage.Ending why) × (e.output ≡ item.Nothing) × (e.keepalive ≡ true)

-- and so it ended: behind `logging`, where the client is not to be kept then; or behind the hook
-- that gives what is kept
abbrev pub EndedBehind : {K : Type 0} → End K → Stage → LogEntry → Type 0
EndedBehind (end.Gone why) from e =
    (from ≡ stage.Ending why) × (e.output ≡ item.Nothing) × (e.keepalive ≡ false)
EndedBehind (end.Kept why kept) from e =
    (from ≡ stage.Logged why) × (e.output ≡ item.Kept (is_some kept))

-- where the end stands behind `logging`, by whether the client may be kept then
abbrev pub logged : {K : Type 0} → Cause → Bool → Place K
logged why true = place.At (stage.Logged why)
logged why false = place.Ended (end.Gone why)

-- ---- which hooks were called

-- those that are called for an error
abbrev pub hooks_for : Cause → List Hook
hooks_for cause.Finished = []
hooks_for (cause.Hidden told) = hook.FailToProxy ∷ hook.SuppressErrorLog ∷ []
hooks_for (cause.Reported told summary) =
    hook.FailToProxy ∷ hook.SuppressErrorLog ∷ hook.RequestSummary ∷ []

-- those that were called up to a stage, in order
abbrev pub hooks_to : Stage → List Hook
hooks_to (stage.Failing error) = []
hooks_to (stage.Told told) = hook.FailToProxy ∷ []
hooks_to (stage.Reporting told) = hook.FailToProxy ∷ hook.SuppressErrorLog ∷ []
hooks_to (stage.Ending why) = hooks_for why
hooks_to (stage.Logged why) = hooks_for why ++ hook.Logging ∷ []

-- and up to the end
abbrev pub hooks_of : {K : Type 0} → End K → List Hook
hooks_of (end.Gone why) = hooks_for why ++ hook.Logging ∷ []
hooks_of (end.Kept why kept) =
    hooks_for why ++ hook.Logging ∷ hook.PersistConnectionContext ∷ []
