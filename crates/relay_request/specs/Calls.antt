-- The calls of an application for one request: what its hooks are shown, their log, and where they
-- stand (RFC 9110, section 3.7).
use Rattle.std.specs.Prelude.{◌≡◌, ℕ, ◌+◌, ◌≤◌, ◌⊎◌, Bool, IsSome, IsTrue, true, false, not, is_some, length, List, [], ◌∷◌, ◌++◌, Option, Some, None, if◌then◌else◌}
use Rattle.relay_tasks.specs.Error.{may_retry}
use Rattle.relay_tasks.specs.Head.{RequestHead}
use Rattle.relay_tasks.specs.declared.Error.{Error}
use Rattle.relay_tasks.specs.declared.hook.Hook.{Hook}
use Rattle.relay_tasks.specs.declared.hook.Hook.TheVariants as hook
use Rattle.relay_tasks.specs.declared.log.Item.TheVariants as item
use Rattle.relay_tasks.specs.declared.log.LogEntry.{LogEntry}
use Rattle.relay_tasks.specs.declared.peer.PurgeAction.{PurgeAction}
use Rattle.std.specs.List.{list_any}
use Rattle.relay_session.specs.Reading.{is_truncated}
use Rattle.relay_session.specs.Response.{has_head}
use Rattle.relay_session.specs.declared.session.HttpSession.{HttpSession}
use Rattle.std.specs.Global.{Box}
use Rattle.relay_tasks.specs.declared.Fault.{Fault}
use Rattle.relay_modules.specs.Module.{ModuleCall}
use Rattle.relay_modules.specs.declared.seen.Seen.{Seen}
use Rattle.relay_hooks.specs.Call.{failure}
use Rattle.relay_hooks.specs.Session.{moment, request_head}
use Rattle.relay_hooks.specs.Standing.{Standing, standing}
use Rattle.relay_calls.specs.Log.{IsAllowed, Walk}
use Rattle.relay_phases.specs.Order.{Accepts, Station, accepted, sent}
use Rattle.relay_phases.specs.Order.{Station as station}
use Rattle.relay_phases.specs.Turns.{QueuesNothing, Turns}
use Rattle.relay_opening.specs.Opens.{TurnsTo}
use Rattle.relay_opening.specs.Place.{StandBehind, end_station, next_hook, station_of}
use Rattle.relay_opening.specs.declared.place.Called.TheVariants as called
use Rattle.relay_opening.specs.declared.place.End.TheVariants as end
use Rattle.relay_opening.specs.declared.place.Place.{Place}
use Rattle.relay_opening.specs.declared.place.Place.TheVariants as place
use Rattle.relay_peer.specs.Body.{IsFrontOf}
use Rattle.relay_filters.specs.Hooked.{Walks, WalksOut, is_lost as lost_by}
use Rattle.relay_hooked.specs.Stations.{Relays}
use Rattle.relay_trying.specs.Trying.{may_break}
use Rattle.relay_closing.specs.Closes.{TurnsOn, logged_in, logged_to}
use Rattle.relay_closing.specs.Place.{begins_at, begun, is_lost, may_begin, may_fail}
use Rattle.relay_closing.specs.Place.{station_of as closing_at}
use Rattle.relay_closing.specs.Queued.{QueuesOnce}
use Rattle.relay_closing.specs.declared.place.End.{End}
use Rattle.relay_closing.specs.declared.place.Failure.{Failure}
use Rattle.relay_closing.specs.declared.place.Place.{Place as Last}
use Rattle.relay_closing.specs.declared.place.Place.TheVariants as closing
use Rattle.relay_closing.specs.declared.place.Stage.{Stage}
use Rattle.relay_closing.specs.declared.place.Stage.TheVariants as stage
use Rattle.relay_request.specs.Ahead.{LastFails}
use Rattle.relay_request.specs.ClosingHooks.{calls_next, error_to, failed_with, given, has_begun, is_gone, kept_in, stays_alive}
use Rattle.relay_request.specs.Named.{IsNamed}
use Rattle.relay_request.specs.Passed.{begins_end}
use Rattle.relay_request.specs.Sent.{IsTreated, IsUntreated}
use Rattle.relay_request.specs.Tries.{tries_in}
use Rattle.relay_request.specs.declared.calls.At.{At}
use Rattle.relay_request.specs.declared.calls.At.TheVariants as at
use Rattle.relay_request.specs.declared.calls.Calls.{Calls}
use Rattle.relay_request.specs.declared.calls.Opened.{Opened}
use Rattle.relay_request.specs.declared.calls.Opened.TheVariants as led
use Rattle.relay_request.specs.declared.outcome.Outcome.{Outcome}
use Rattle.relay_request.specs.declared.outcome.Outcome.TheVariants.{NoRequest, Refused, Served, TurnLimit, OutOfMemory}
use Rattle.relay_request.specs.Endings.{error_of}
use Rattle.relay_request.specs.Owed.{outcome_failed, outcome_written}
use Rattle.relay_request.specs.declared.owed.Owed.{Owed}
use Rattle.relay_request.specs.declared.owed.Owed.TheVariants as owing
use Rattle.relay_request.specs.declared.work.Work.{Work}
use Rattle.relay_request.specs.declared.record.AttemptRecord.{AttemptRecord}
use Rattle.relay_request.specs.Work.{added_work, turns_after}
use Rattle.relay_request.specs.declared.machine.Attempt.{Attempt}
use Rattle.relay_request.specs.declared.machine.Machine.{Machine}
use Rattle.relay_request.specs.declared.machine.Phase.{Phase}
use Rattle.relay_request.specs.declared.machine.Phase.TheVariants.{ReadHead, Connect, Unlinked, Prepare, Relay, Broken, Again, Fail, Close, Answer, Ended}

-- the log
abbrev pub log_of : {M K X : Type 0} → Calls M K X → List LogEntry
log_of calls = calls.session.seen.log

-- what hooks are shown: the session, with its client in it
abbrev pub seen_with : {M K X : Type 0} → Calls M K X → HttpSession → Seen
seen_with calls client = record calls.session.seen { downstream = client }

-- the context was made, and that value was kept from the request before, or none
abbrev pub HasBegun : {K X : Type 0} → At K X → Type 0
HasBegun {K} here =
    (kept : Option K) × (here ≡ at.Opening (place.Behind (called.Made kept)))

-- the hook that is called next without the connector; `has_modules` says that modules were made
abbrev pub next_after : {K : Type 0} → Place K → Bool → Option Hook
next_after (place.Behind last) has_modules = Some (next_hook last has_modules)
next_after (place.Ended end.Attempts) has_modules = Some hook.UpstreamPeer
next_after (place.Ended end.Answered) has_modules = None
next_after (place.Ended end.Purge) has_modules = Some hook.PurgeAction
next_after (place.Ended end.Declined) has_modules = None
next_after (place.Ended (end.Unwritten why)) has_modules = None
next_after (place.Ended (end.Failed error)) has_modules = None
next_after place.Lost has_modules = None

abbrev pub comes_next : {K X : Type 0} → At K X → Bool → Option Hook
comes_next (at.Kept kept) has_modules = None
comes_next (at.Opening there) has_modules = next_after there has_modules
comes_next (at.Purging action) has_modules = None
comes_next (at.Named peer) has_modules = None
comes_next (at.Repeatable error) has_modules = Some hook.SuppressProxyWarnLog
comes_next at.Warning has_modules = Some hook.RequestSummary
comes_next at.Linked has_modules = None
comes_next (at.Treated error) has_modules = None
comes_next (at.Closing held there) has_modules = None

-- one is called next, and no peer was named
abbrev pub is_calling : {K X : Type 0} → At K X → Bool
is_calling here = is_some (comes_next here false)

-- the error that a hook before the attempts answered, which is to be answered
abbrev pub failed_at : {K : Type 0} → Place K → Option Error
failed_at (place.Behind last) = None
failed_at (place.Ended end.Attempts) = None
failed_at (place.Ended end.Answered) = None
failed_at (place.Ended end.Purge) = None
failed_at (place.Ended end.Declined) = None
failed_at (place.Ended (end.Unwritten why)) = None
failed_at (place.Ended (end.Failed error)) = Some error
failed_at place.Lost = None

-- the same, wherever it stands
abbrev pub final_at : {K X : Type 0} → At K X → Option Error
final_at (at.Kept kept) = None
final_at (at.Opening there) = failed_at there
final_at (at.Purging action) = None
final_at (at.Named peer) = None
final_at (at.Repeatable error) = None
final_at at.Warning = None
final_at at.Linked = None
final_at (at.Treated error) = None
final_at (at.Closing held there) = None

-- the error of an attempt as it was treated, which is to be answered
abbrev pub treated_at : {K X : Type 0} → At K X → Option Error
treated_at (at.Kept kept) = None
treated_at (at.Opening there) = None
treated_at (at.Purging action) = None
treated_at (at.Named peer) = None
treated_at (at.Repeatable error) = None
treated_at at.Warning = None
treated_at at.Linked = None
treated_at (at.Treated error) = Some error
treated_at (at.Closing held there) = None

-- what a purge does, where the purger is asked for it next
abbrev pub purge_at : {K X : Type 0} → At K X → Option PurgeAction
purge_at (at.Kept kept) = None
purge_at (at.Opening there) = None
purge_at (at.Purging action) = Some action
purge_at (at.Named peer) = None
purge_at (at.Repeatable error) = None
purge_at at.Warning = None
purge_at at.Linked = None
purge_at (at.Treated error) = None
purge_at (at.Closing held there) = None

-- a hook of the end is called next; `goes_back` says that the client may ask for more
abbrev pub has_last : {K X : Type 0} → At K X → Bool → Bool
has_last (at.Kept kept) goes_back = false
has_last (at.Opening there) goes_back = false
has_last (at.Purging action) goes_back = false
has_last (at.Named peer) goes_back = false
has_last (at.Repeatable error) goes_back = false
has_last at.Warning goes_back = false
has_last at.Linked goes_back = false
has_last (at.Treated error) goes_back = false
has_last (at.Closing held there) goes_back = calls_next there goes_back

-- the end of the request has begun, or begins next
abbrev pub is_closing_at : {K X : Type 0} → At K X → Bool
is_closing_at (at.Kept kept) = false
is_closing_at (at.Opening there) = false
is_closing_at (at.Purging action) = false
is_closing_at (at.Named peer) = false
is_closing_at (at.Repeatable error) = false
is_closing_at at.Warning = false
is_closing_at at.Linked = false
is_closing_at (at.Treated error) = false
is_closing_at (at.Closing held there) = true

-- memory was wanted in the hooks of the end
abbrev pub is_lost_at : {K X : Type 0} → At K X → Bool
is_lost_at (at.Kept kept) = false
is_lost_at (at.Opening there) = false
is_lost_at (at.Purging action) = false
is_lost_at (at.Named peer) = false
is_lost_at (at.Repeatable error) = false
is_lost_at at.Warning = false
is_lost_at at.Linked = false
is_lost_at (at.Treated error) = false
is_lost_at (at.Closing held there) = is_lost there

-- where the end stands once an error was told, or none
abbrev pub ended_with : {K X : Type 0} → At K X → Option Error → At K X
ended_with (at.Kept kept) error = at.Kept kept
ended_with (at.Opening there) error = at.Opening there
ended_with (at.Purging action) error = at.Purging action
ended_with (at.Named peer) error = at.Named peer
ended_with (at.Repeatable treated) error = at.Repeatable treated
ended_with at.Warning error = at.Warning
ended_with at.Linked error = at.Linked
ended_with (at.Treated treated) error = at.Treated treated
ended_with (at.Closing held there) error = at.Closing held (failed_with there error)

-- the session has its client again, of which nothing is written any more
abbrev pub closed_with : {M K X : Type 0} → Calls M K X → HttpSession → Option Error → Calls M K X
closed_with calls client error = record {
  session = record calls.session { seen = seen_with calls client };
  at = ended_with calls.at error;
}

-- the outcome that is given of a request that came to that one
abbrev pub given_at : {K X : Type 0} → At K X → Outcome → Outcome
given_at (at.Kept kept) came = came
given_at (at.Opening there) came = came
given_at (at.Purging action) came = came
given_at (at.Named peer) came = came
given_at (at.Repeatable error) came = came
given_at at.Warning came = came
given_at at.Linked came = came
given_at (at.Treated error) came = came
given_at (at.Closing held there) came = given there came

-- the value that is kept for the next request of the connection, or none
abbrev pub kept_at : {K X : Type 0} → At K X → Option K
kept_at (at.Kept kept) = None
kept_at (at.Opening there) = None
kept_at (at.Purging action) = None
kept_at (at.Named peer) = None
kept_at (at.Repeatable error) = None
kept_at at.Warning = None
kept_at at.Linked = None
kept_at (at.Treated error) = None
kept_at (at.Closing held there) = kept_in there

-- a hook before the attempts is called next; those of a purge are too
abbrev pub goes_before : {K : Type 0} → Place K → Bool
goes_before (place.Behind last) = true
goes_before (place.Ended end.Attempts) = false
goes_before (place.Ended end.Answered) = false
goes_before (place.Ended end.Purge) = true
goes_before (place.Ended end.Declined) = false
goes_before (place.Ended (end.Unwritten why)) = false
goes_before (place.Ended (end.Failed error)) = false
goes_before place.Lost = false

abbrev pub is_before : {K X : Type 0} → At K X → Bool
is_before (at.Kept kept) = false
is_before (at.Opening there) = goes_before there
is_before (at.Purging action) = true
is_before (at.Named peer) = false
is_before (at.Repeatable error) = false
is_before at.Warning = false
is_before at.Linked = false
is_before (at.Treated error) = false
is_before (at.Closing held there) = false

-- the station at which the order of calls has the request
abbrev pub place_station : {K : Type 0} → Place K → Station
place_station (place.Behind last) = station_of last
place_station (place.Ended how) = end_station how
place_station place.Lost = station.accepted

abbrev pub station_at : {K X : Type 0} → At K X → Station
station_at (at.Kept kept) = station.accepted
station_at (at.Opening there) = place_station there
station_at (at.Purging action) = station.purged
station_at (at.Named peer) = station.named
station_at (at.Repeatable error) = station.repeatable
station_at at.Warning = station.warning
station_at at.Linked = station.linked
station_at (at.Treated error) = station.failing
station_at (at.Closing held there) = station.told

-- the request goes on there: another hook comes next, an error is to be answered, or the connector
-- is asked
abbrev pub Goes : {K : Type 0} → Place K → Type 0
Goes (place.Behind last) = Unit {0}
Goes (place.Ended end.Attempts) = Unit {0}
Goes (place.Ended end.Answered) = ⊥
Goes (place.Ended end.Purge) = Unit {0}
Goes (place.Ended end.Declined) = ⊥
Goes (place.Ended (end.Unwritten why)) = ⊥
Goes (place.Ended (end.Failed error)) = Unit {0}
Goes place.Lost = ⊥

abbrev pub GoesOn : {K X : Type 0} → At K X → Type 0
GoesOn (at.Kept kept) = ⊥
GoesOn (at.Opening there) = Goes there
GoesOn (at.Purging action) = Unit {0}
GoesOn (at.Named peer) = Unit {0}
GoesOn (at.Repeatable error) = Unit {0}
GoesOn at.Warning = Unit {0}
GoesOn at.Linked = Unit {0}
GoesOn (at.Treated error) = ⊥
GoesOn (at.Closing held there) = ⊥

-- the error that a hook answered is that of the last call of the log
abbrev pub TellsError : Option Error → List LogEntry → Type 0
TellsError None log = Unit {0}
TellsError (Some error) log = LastFails log error

-- the last call asked what a purge of the request with that head does, and it is that
pub record LastAsks (log : List LogEntry) (action : PurgeAction) (head : RequestHead) : Type 0 where
  pub before : List LogEntry
  pub last : LogEntry
  pub is_last : log ≡ before ++ last ∷ []
  pub asks : last.hook ≡ hook.PurgeAction
  pub input : last.input ≡ item.Request head
  pub output : last.output ≡ item.Action action

-- the peer that was named is the one that the log tells, and so is the error of a hook, and what a
-- purge does of the request with that head
abbrev pub TellsPeer : {K X : Type 0} → At K X → List LogEntry → RequestHead → Type 0
TellsPeer (at.Kept kept) log head = Unit {0}
TellsPeer (at.Opening there) log head = TellsError (failed_at there) log
TellsPeer (at.Purging action) log head = LastAsks log action head
TellsPeer (at.Named peer) log head = IsNamed log peer
TellsPeer (at.Repeatable error) log head = Unit {0}
TellsPeer at.Warning log head = Unit {0}
TellsPeer at.Linked log head = Unit {0}
TellsPeer (at.Treated error) log head = Unit {0}
TellsPeer (at.Closing held there) log head = Unit {0}

-- what a call led to, by where the hooks stand behind it
abbrev pub leads_to : {K : Type 0} → Place K → Opened
leads_to (place.Behind last) = led.GoesOn
leads_to (place.Ended end.Attempts) = led.GoesOn
leads_to (place.Ended end.Answered) = led.Answered
leads_to (place.Ended end.Purge) = led.GoesOn
leads_to (place.Ended end.Declined) = led.Answered
leads_to (place.Ended (end.Unwritten why)) = led.OutOfMemory
leads_to (place.Ended (end.Failed error)) = led.GoesOn
leads_to place.Lost = led.OutOfMemory

abbrev pub leads_at : {K X : Type 0} → At K X → Opened
leads_at (at.Kept kept) = led.OutOfMemory
leads_at (at.Opening there) = leads_to there
leads_at (at.Purging action) = led.GoesOn
leads_at (at.Named peer) = led.GoesOn
leads_at (at.Repeatable error) = led.GoesOn
leads_at at.Warning = led.GoesOn
leads_at at.Linked = led.GoesOn
leads_at (at.Treated error) = led.OutOfMemory
leads_at (at.Closing held there) = led.OutOfMemory

-- what a hook of an attempt is told that only looks: the error for which it is called
abbrev pub IsToldOf : {K X : Type 0} → At K X → LogEntry → Type 0
IsToldOf (at.Kept kept) e = Unit {0}
IsToldOf (at.Opening there) e = Unit {0}
IsToldOf (at.Purging action) e = Unit {0}
IsToldOf (at.Named peer) e = Unit {0}
IsToldOf (at.Repeatable error) e = e.input ≡ item.Failure error
IsToldOf at.Warning e = Unit {0}
IsToldOf at.Linked e = Unit {0}
IsToldOf (at.Treated error) e = Unit {0}
IsToldOf (at.Closing held there) e = Unit {0}

module _ (allows : Standing → LogEntry → Type 0) where
  -- a hook of an attempt was called, which queued nothing, and behind which the request goes on;
  -- the log tells the peer that was named, or the error
  pub record CallsOfAttempt {K X : Type 0} (here : At K X) (has_modules : Bool) (old : Seen)
      (before : ℕ) (new : Seen) (behind : ℕ) (to : At K X) : Type 0 where
    pub later : is_before here ≡ false
    pub which : Hook
    pub comes : comes_next here has_modules ≡ Some which
    pub turn : Turns allows which (station_at here) (station_at to) QueuesNothing old before new
        behind
    pub told : IsToldOf here turn.e
    pub past : is_before to ≡ false
    pub goes : GoesOn to
    pub tells : TellsPeer to new.log (request_head new)

  -- the request is a purge, and it was asked what that does
  pub record AsksPurge {K X : Type 0} (here : At K X) (old : Seen) (before : ℕ) (new : Seen)
      (behind : ℕ) (to : At K X) : Type 0 where
    pub is_here : here ≡ at.Opening (place.Ended end.Purge)
    pub action : PurgeAction
    pub is_to : to ≡ at.Purging action
    pub turn : Turns allows hook.PurgeAction station.purging station.purged QueuesNothing old before
        new behind
    pub tells : LastAsks new.log action (request_head new)

  -- from there the hook that comes next was called, and led to that: one before the attempts, the
  -- first of a purge, or one of an attempt; out of memory no entry is new, wherever it stood
  pub data TakesNext {K X : Type 0} (here : At K X) (has_modules : Bool) (old : Seen) (before : ℕ)
      (new : Seen) (behind : ℕ) (to : At K X) : Type 0 where
    leads : is_before here ≡ true → (which : Hook) → comes_next here has_modules ≡ Some which
        → (there : Place K) → to ≡ at.Opening there
        → TurnsTo allows which (station_at here) old before new behind there
        → TakesNext here has_modules old before new behind to
    asks : AsksPurge here old before new behind to
        → TakesNext here has_modules old before new behind to
    tried : CallsOfAttempt here has_modules old before new behind to
        → TakesNext here has_modules old before new behind to
    lost : to ≡ at.Opening place.Lost → new.log ≡ old.log
        → TakesNext here has_modules old before new behind to

  -- the same of the calls of a request, with its client shown
  abbrev pub CallsNext : {M K X : Type 0} → Calls M K X → HttpSession → ℕ → Calls M K X →
      HttpSession → ℕ
      → Type 0
  CallsNext old client mark new left behind =
      TakesNext old.at (is_some old.session.modules) (seen_with old client) mark
      (seen_with new left) behind new.at

-- where it was just asked for subrequests, and the request goes on, modules stand behind that where
-- it makes them, and else those that stood before
abbrev pub AreMadeAt : {M K X : Type 0} → Bool → At K X → At K X → Option M → Option M → Type 0
AreMadeAt makes (at.Opening (place.Behind called.Early)) (at.Opening (place.Behind last)) old new =
    StandBehind makes old new
AreMadeAt makes other to old new = Unit {0}

-- the same of the calls of a request
abbrev pub AreMadeBy : {M K X : Type 0} → Bool → Calls M K X → Calls M K X → Type 0
AreMadeBy makes old new =
    AreMadeAt makes old.at new.at old.session.modules new.session.modules

-- the same of a turn, by the phase before it: it is asked for in one alone
abbrev pub AreMadeIn : {L C M K X : Type 0} → Bool → Phase L C → Calls M K X → Calls M K X → Type 0
AreMadeIn makes (Connect context session tries) old new = AreMadeBy makes old new
AreMadeIn makes other old new = Unit {0}

-- each call is allowed: by the application, or where a filter of modules was called, by modules of
-- its requests
abbrev pub allowed_by : {M : Type 0} → (Standing → LogEntry → Type 0) → (M → ModuleCall → Type 0)
    → Standing → LogEntry → Type 0
allowed_by {M} allows modules = IsAllowed allows (λ call. (made : M) × modules made call)

-- the calls of the log lead from one standing to the other, each allowed where it stood, and come
-- in order from the head that was accepted to that station
pub record IsLogged (allows : Standing → LogEntry → Type 0) (log : List LogEntry)
    (station : Station) : Type 0 where
  pub from : Standing
  pub to : Standing
  pub walks : Walk allows from log to
  pub order : Accepts accepted log station

-- the end of the request has not begun
abbrev pub IsUnended : List LogEntry → Type 0
IsUnended log = list_any (λ e. begins_end e.hook) log ≡ false

-- the last call asked what is kept for the next request of the connection, and a value is
pub record KeepsValue (log : List LogEntry) : Type 0 where
  pub before : List LogEntry
  pub last : LogEntry
  pub log_is : log ≡ before ++ last ∷ []
  pub asks : last.hook ≡ hook.PersistConnectionContext
  pub keeps : last.output ≡ item.Kept true

-- the error of an attempt was treated so, and the call was shown how the session stands
pub record IsTreatedBefore (called : List LogEntry) (raised treated : Error) (client : HttpSession)
    : Type 0 where
  pub was : IsTreated called raised treated
  pub final_head : was.e.view.final_head ≡ has_head client.writing.place
  pub truncated : was.e.view.truncated ≡ is_truncated client.reading

-- the error of an attempt may be treated at that station; or it was, and is to be answered there
abbrev pub BreaksAt : {K X : Type 0} → At K X → List LogEntry → Error → Station → Type 0
BreaksAt (at.Kept kept) log error here = IsTrue (may_break here)
BreaksAt (at.Opening there) log error here = IsTrue (may_break here)
BreaksAt (at.Purging action) log error here = IsTrue (may_break here)
BreaksAt (at.Named peer) log error here = IsTrue (may_break here)
BreaksAt (at.Repeatable treated) log error here = IsTrue (may_break here)
BreaksAt at.Warning log error here = IsTrue (may_break here)
BreaksAt at.Linked log error here = IsTrue (may_break here)
BreaksAt (at.Treated treated) log error here =
    IsTreated log error treated × IsTrue (may_fail here)
BreaksAt (at.Closing held there) log error here = IsTrue (may_break here)

module _ (allows : Standing → LogEntry → Type 0) where
  -- the application answered that error, which was final there: its entry alone is new, and what it
  -- queued is what the entry tells
  pub record AnswersError (error : Error) (from : Station) (old : Seen) (before : ℕ) (new : Seen)
      (behind : ℕ) : Type 0 where
    pub turn : Turns allows hook.FailToProxy from station.told QueuesOnce old before new behind
    pub input : turn.e.input ≡ item.Failure error

module _ {C M K : Type 0} (allows : Standing → LogEntry → Type 0) (mark_of : C → ℕ) where
  -- the application answered that error, and the end of the request stands behind that, with the
  -- context that it left
  pub record HasAnswered (error : Error) (from : Station) (old : Seen) (before : ℕ)
      (calls : Calls M K C) (client : HttpSession) : Type 0 where
    pub context : C
    pub told : Failure
    pub is_at : calls.at ≡ at.Closing context (closing.At (stage.Told told))
    pub error_is : told.error ≡ error
    pub answers : AnswersError allows error from old before (seen_with calls client)
        (mark_of context)

  -- the hook of the end that comes next was called, or none where no head was read
  pub record CallsLast (goes_back : Bool) (old new : Calls M K C) : Type 0 where
    pub held : C
    pub from : Last K
    pub was : old.at ≡ at.Closing held from
    pub left : C
    pub to : Last K
    pub is_at : new.at ≡ at.Closing left to
    pub turns : ((to ≡ closing.Lost) × (log_of new ≡ log_of old))
        ⊎ ((start : Station) → IsTrue (may_begin start from)
        → TurnsOn allows start goes_back from old.session.seen (mark_of held) new.session.seen
        (mark_of left) to)

  -- the hooks of the end stand at that stage: the calls so far lead to where the session and the
  -- context stand, in order; `logging` was told of that error, once it was called
  pub record StandsAt (calls : Calls M K C) (context : C) (client : HttpSession)
      (error : Option Error) (at : Stage) : Type 0 where
    pub from : Standing
    pub walks : Walk allows from (log_of calls)
        (standing None false (moment (seen_with calls client) (mark_of context)))
    pub start : Station
    pub begins : IsTrue (begins_at start at)
    pub order : Accepts accepted (log_of calls) (closing_at start at)
    pub logged : logged_in (log_of calls) ≡ logged_to at
    -- it left the keepalive flag on, if it was called
    pub alive : stays_alive (log_of calls) ≡ true
    pub begun : list_any (λ e. begins_end e.hook) (log_of calls) ≡ has_begun at
    pub error_is : error_to at ≡ error

  -- they were called, and that value is kept or none
  pub record HasClosed (calls : Calls M K C) (error : Option Error) (how : End K) : Type 0 where
    pub at : Station
    pub in_order : IsLogged allows (log_of calls) at
    pub logged : logged_in (log_of calls) ≡ failure error ∷ []
    pub begun : list_any (λ e. begins_end e.hook) (log_of calls) ≡ true
    pub keeps : IsSome (kept_in (closing.Ended how)) → KeepsValue (log_of calls)
    pub alive : stays_alive (log_of calls) ≡ not (is_gone (closing.Ended how))

  -- the same by where they stand; out of memory the log is in order
  abbrev pub StandsBy : Calls M K C → C → HttpSession → Option Error → Last K → Type 0
  StandsBy calls context client error (closing.At at) =
      StandsAt calls context client error at
  StandsBy calls context client error (closing.Ended how) = HasClosed calls error how
  StandsBy calls context client error closing.Lost =
      (at : Station) × IsLogged allows (log_of calls) at

  -- the calls of a request that has ended with that error or without one, or is to be answered for
  -- it: its end has begun
  abbrev pub EndsBy : At K C → Calls M K C → HttpSession → Option Error → Type 0
  EndsBy (at.Kept kept) calls client error = ⊥
  EndsBy (at.Opening there) calls client error = ⊥
  EndsBy (at.Purging action) calls client error = ⊥
  EndsBy (at.Named peer) calls client error = ⊥
  EndsBy (at.Repeatable treated) calls client error = ⊥
  EndsBy at.Warning calls client error = ⊥
  EndsBy at.Linked calls client error = ⊥
  EndsBy (at.Treated treated) calls client error = ⊥
  EndsBy (at.Closing held there) calls client error = StandsBy calls held client error there

  -- the same of what a request owes its client: of one that was turned down none was called; and
  -- one that hooks answered stands behind their answer
  abbrev pub IsOwing : Calls M K C → HttpSession → Owed → Type 0
  IsOwing calls client (owing.Refused error) = log_of calls ≡ []
  IsOwing calls client (owing.Ahead None) =
      EndsBy calls.at calls client None
      × (Accepts accepted (log_of calls) station.answered × IsUnended (log_of calls))
  IsOwing calls client (owing.Ahead (Some error)) = EndsBy calls.at calls client (Some error)
  IsOwing calls client (owing.Served error) = EndsBy calls.at calls client (Some error)

  -- and of a request that came to that outcome, and whose session has its client again
  abbrev pub HasCome : Calls M K C → Outcome → Type 0
  HasCome calls NoRequest = log_of calls ≡ []
  HasCome calls (Refused error) = log_of calls ≡ []
  HasCome calls (Served error reuse) =
      EndsBy calls.at calls calls.session.seen.downstream error
  HasCome calls TurnLimit = (at : Station) × IsLogged allows (log_of calls) at
  HasCome calls OutOfMemory = (at : Station) × IsLogged allows (log_of calls) at

module _ {C M K : Type 0} (allows : Standing → LogEntry → Type 0) (mark_of : C → ℕ) where
  -- the hooks up to the exchange, so far, behind those attempts: each call of them stands in the
  -- log, which ends at the mark of the context that is held, and the request goes on
  pub record IsOpening (calls : Calls M K C) (context : C) (client : HttpSession)
      (tries : List AttemptRecord) : Type 0 where
    pub from : Standing
    pub walks : Walk allows from (log_of calls)
        (standing None false (moment (seen_with calls client) (mark_of context)))
    pub order : Accepts accepted (log_of calls) (station_at calls.at)
    pub goes : GoesOn calls.at
    pub named : TellsPeer calls.at (log_of calls) (request_head (seen_with calls client))
    -- as long as hooks before the attempts are called no attempt was made
    pub untried : is_before calls.at ≡ true → tries ≡ []
    -- of no attempt that had a link the error was treated but where another one followed
    pub untreated : IsUntreated (log_of calls)
    -- no final head was queued for the client, and what was read of its body is kept
    pub unanswered : has_head client.writing.place ≡ false
    pub kept : is_truncated client.reading ≡ false
    pub unended : IsUnended (log_of calls)

  -- the calls so far of an attempt that failed with that error: the log walks to where the session
  -- and the context stand, and the error may be treated there, or answered
  pub record IsBreaking (calls : Calls M K C) (context : C) (client : HttpSession) (error : Error)
      : Type 0 where
    pub from : Standing
    pub walks : Walk allows from (log_of calls)
        (standing None false (moment (seen_with calls client) (mark_of context)))
    pub at : Station
    pub order : Accepts accepted (log_of calls) at
    pub breaks : BreaksAt calls.at (log_of calls) error at
    -- where its error was treated, and may be tried again as far as the log tells
    pub again : (treated : Error) → treated_at calls.at ≡ Some treated
        → may_retry treated.retry ≡ true → has_head client.writing.place ≡ false
        → is_truncated client.reading ≡ false → at ≡ station.repeatable
    pub viewed : (treated : Error) → treated_at calls.at ≡ Some treated
        → IsTreatedBefore (log_of calls) error treated client
    pub unended : IsUnended (log_of calls)

  -- the calls so far of a request whose last attempt was given no link: the log walks to where the
  -- session and the context stand, and the error is final there
  pub record IsLackingCalls (calls : Calls M K C) (context : C) (client : HttpSession) : Type 0
    where
      pub from : Standing
      pub walks : Walk allows from (log_of calls)
          (standing None false (moment (seen_with calls client) (mark_of context)))
      pub at : Station
      pub order : Accepts accepted (log_of calls) at
      pub fails : IsTrue (may_fail at)
      pub unended : IsUnended (log_of calls)

module _ {L C M K : Type 0} (allows : Standing → LogEntry → Type 0) (mark_of : C → ℕ) where
  -- the calls so far of an attempt whose exchange is under way: they walk to where its session and
  -- its context stand, in order up to where messages are relayed, and no hook wanted memory
  pub record IsRelayingCalls (calls : Calls M K C) (a : Attempt L C) : Type 0 where
    pub from : Standing
    pub walks : Walk allows from (log_of calls)
        (standing None false (moment (seen_with calls a.exchange.down.inner.session)
        (mark_of a.context)))
    pub here : Station
    pub order : Accepts accepted (log_of calls) here
    pub relays : Relays here
    pub alive : lost_by a.exchange.down.stopped ≡ false
    pub unended : IsUnended (log_of calls)
    pub linked : calls.at ≡ at.Linked

  -- the calls so far, by the phase in which the request stands
  abbrev pub CallsSoFar : Calls M K C → Phase L C → Type 0
  CallsSoFar calls ReadHead = log_of calls ≡ []
  CallsSoFar calls (Connect context session tries) =
      IsOpening allows mark_of calls context session.value tries
  CallsSoFar calls (Unlinked context session attempts error) =
      IsLackingCalls allows mark_of calls context session.value
  CallsSoFar calls (Prepare context session link lease) =
      IsOpening allows mark_of calls context session.value (tries_in lease)
      × (calls.at ≡ at.Linked)
  CallsSoFar calls (Relay a) = IsRelayingCalls calls a.value
  CallsSoFar calls (Broken context session link lease keep error) =
      IsBreaking allows mark_of calls context session.value error
  CallsSoFar calls (Again context session link lease keep error) =
      IsOpening allows mark_of calls context session.value (tries_in lease)
      × (is_before calls.at ≡ false)
  CallsSoFar calls (Fail link lease keep session error) =
      IsOwing allows mark_of calls session.value (owing.Served error)
  CallsSoFar calls (Close link lease keep outcome) = HasCome allows mark_of calls outcome
  CallsSoFar calls (Answer session owed attempts) =
      IsOwing allows mark_of calls session.value owed
  CallsSoFar calls (Ended outcome attempts) = HasCome allows mark_of calls outcome

-- no hook is called of a request that came to that outcome
abbrev pub IsUncalledEnd : Outcome → Type 0
IsUncalledEnd NoRequest = Unit {0}
IsUncalledEnd (Refused error) = Unit {0}
IsUncalledEnd (Served error reuse) = ⊥
IsUncalledEnd TurnLimit = Unit {0}
IsUncalledEnd OutOfMemory = Unit {0}

-- nor of one that owes its client that
abbrev pub IsUncalledFor : Owed → Type 0
IsUncalledFor (owing.Refused error) = Unit {0}
IsUncalledFor (owing.Ahead why) = ⊥
IsUncalledFor (owing.Served error) = ⊥

-- so far none was called, and none is to be
abbrev pub IsUncalled : {L C : Type 0} → Phase L C → Type 0
IsUncalled ReadHead = Unit {0}
IsUncalled (Connect context session tries) = ⊥
IsUncalled (Unlinked context session attempts error) = ⊥
IsUncalled (Prepare context session link lease) = ⊥
IsUncalled (Relay a) = ⊥
IsUncalled (Broken context session link lease keep error) = ⊥
IsUncalled (Again context session link lease keep error) = ⊥
IsUncalled (Fail link lease keep session error) = ⊥
IsUncalled (Close link lease keep outcome) = ⊥
IsUncalled (Answer session owed attempts) = IsUncalledFor owed
IsUncalled (Ended outcome attempts) = IsUncalledEnd outcome

-- the exchange of an attempt finished: the end of the request begins with its context, and the
-- session has its client again
pub record HasFinished {L C M K : Type 0} (a : Attempt L C) (old new : Calls M K C)
    (outcome : Outcome) : Type 0 where
  pub calls : new ≡ closed_with (record old { at = at.Closing a.context (begun None) })
      a.exchange.down.inner.session None
  pub reuse : Bool
  pub served : outcome ≡ Served None reuse

module _ {C M K : Type 0} (allows : Standing → LogEntry → Type 0) (mark_of : C → ℕ) where
  -- calls of filters were entered, each allowed: they stand in the log behind those before, and
  -- lead from that session and that context to these; where the hooks stand has not changed. Where
  -- a hook wanted memory, before or in between, it is not said where they lead
  pub record EntersCalls (was_lost lost : Bool) (old : Calls M K C) (client : HttpSession)
      (context : C) (new : Calls M K C) (client' : HttpSession) (context' : C) : Type 0 where
    pub walks : Walks allows was_lost lost (seen_with old client) (mark_of context)
        (seen_with new client') (mark_of context')
    pub stands : new.at ≡ old.at

-- the client is owed that in that phase, and the session is this one
abbrev pub OwesIn : {L C : Type 0} → Phase L C → Box HttpSession → Owed → Type 0
OwesIn ReadHead session owed = ⊥
OwesIn (Connect context other tries) session owed = ⊥
OwesIn (Unlinked context other attempts error) session owed = ⊥
OwesIn (Prepare context other link lease) session owed = ⊥
OwesIn (Relay a) session owed = ⊥
OwesIn (Broken context other link lease keep error) session owed = ⊥
OwesIn (Again context other link lease keep error) session owed = ⊥
OwesIn (Fail link lease keep other error) session owed =
    (other ≡ session) × (owed ≡ owing.Served error)
OwesIn (Close link lease keep outcome) session owed = ⊥
OwesIn (Answer other owes attempts) session owed = (other ≡ session) × (owes ≡ owed)
OwesIn (Ended outcome attempts) session owed = ⊥

-- a request came to that outcome in that phase
abbrev pub CameIn : {L C : Type 0} → Phase L C → Outcome → Type 0
CameIn ReadHead came = ⊥
CameIn (Connect context session tries) came = ⊥
CameIn (Unlinked context session attempts error) came = ⊥
CameIn (Prepare context session link lease) came = ⊥
CameIn (Relay a) came = ⊥
CameIn (Broken context session link lease keep error) came = ⊥
CameIn (Again context session link lease keep error) came = ⊥
CameIn (Fail link lease keep session error) came = ⊥
CameIn (Close link lease keep outcome) came = outcome ≡ came
CameIn (Answer session owed attempts) came = ⊥
CameIn (Ended outcome attempts) came = outcome ≡ came

-- hooks are shown the same of both sessions
abbrev pub ShowsSame : HttpSession → HttpSession → Type 0
ShowsSame left client =
    (left.reading ≡ client.reading) × (left.writing.place ≡ client.writing.place)

-- what a request comes to that owes its client that, where that is its session: it owes it still;
-- it has ended, its answer written or a write of it failed, and the session has its client again;
-- or memory was wanted. No hook is called
pub data Owing {L C M K : Type 0} (client : HttpSession) (owed : Owed) (old new : Calls M K C)
    (next : Phase L C) : Type 0 where
  waits : (session : Box HttpSession) → OwesIn next session owed → ShowsSame session.value client
      → new ≡ old → Owing client owed old new next
  written : (left : HttpSession) (again : Bool) (came : Outcome) → CameIn next came
      → came ≡ outcome_written owed again
      → ShowsSame left client → new ≡ closed_with old left (error_of came)
      → Owing client owed old new next
  failed : (left : HttpSession) (fault : Fault) (came : Outcome) → CameIn next came
      → came ≡ outcome_failed owed fault → ShowsSame left client
      → new ≡ closed_with old left (error_of came) → Owing client owed old new next
  lost : CameIn next OutOfMemory → log_of new ≡ log_of old → Owing client owed old new next

module _ {C M K : Type 0} (allows : Standing → LogEntry → Type 0) (mark_of : C → ℕ) where
  -- the calls so far of an attempt whose head was filtered: they walk to where that session and that
  -- context stand, and the last of them filtered it
  pub record IsSendingCalls (calls : Calls M K C) (context : C) (client : HttpSession) : Type 0
    where
      pub from : Standing
      pub walks : Walk allows from (log_of calls)
          (standing None false (moment (seen_with calls client) (mark_of context)))
      pub order : Accepts accepted (log_of calls) sent
      pub unended : IsUnended (log_of calls)
      pub linked : calls.at ≡ at.Linked

  -- an exchange began by calls of filters, in order up to where messages are relayed
  pub record BegunBy (old : Calls M K C) (session : HttpSession) (context : C) (new : Calls M K C)
      (client : HttpSession) (context' : C) : Type 0 where
    pub enters : EntersCalls allows mark_of false false old session context new client context'
    pub here : Station
    pub order : Accepts sent enters.walks.es here
    pub relays : Relays here

  -- one was not begun for what such calls answered, in order up to where it may be treated
  pub record UnbegunBy (old : Calls M K C) (session : HttpSession) (context : C) (new : Calls M K C)
      (client : HttpSession) (context' : C) : Type 0 where
    pub enters : EntersCalls allows mark_of false false old session context new client context'
    pub here : Station
    pub order : Accepts sent enters.walks.es here
    pub breaks : IsTrue (may_break here)

  -- nor was one for which memory was wanted, behind such calls
  pub record LostBy (old : Calls M K C) (session : HttpSession) (context : C) (new : Calls M K C)
      : Type 0 where
    pub walks : WalksOut allows (seen_with old session) (mark_of context) new.session.seen
    pub here : Station
    pub order : Accepts sent walks.es here

module _ {L C M K : Type 0} (allows : Standing → LogEntry → Type 0) (mark_of : C → ℕ) where
  -- with that session and that context an exchange has begun, or what was to be put first did not
  -- pass its filter; or the request has ended for want of memory
  abbrev pub BeginsCalls : Calls M K C → HttpSession → C → Calls M K C → Phase L C → Type 0
  BeginsCalls old session context new ReadHead = ⊥
  BeginsCalls old session context new (Connect other stays tries) = ⊥
  BeginsCalls old session context new (Unlinked other stays attempts error) = ⊥
  BeginsCalls old session context new (Prepare other stays link lease) = ⊥
  BeginsCalls old session context new (Relay a) =
      BegunBy allows mark_of old session context new a.value.exchange.down.inner.session
      a.value.context × (lost_by a.value.exchange.down.stopped ≡ false)
  BeginsCalls old session context new (Broken other stays link lease keep error) =
      UnbegunBy allows mark_of old session context new stays.value other
  BeginsCalls old session context new (Again other stays link lease keep error) = ⊥
  BeginsCalls old session context new (Fail link lease keep stays error) = ⊥
  BeginsCalls old session context new (Close link lease keep outcome) =
      (outcome ≡ OutOfMemory) × LostBy allows mark_of old session context new
  BeginsCalls old session context new (Answer stays owed attempts) = ⊥
  BeginsCalls old session context new (Ended outcome attempts) = ⊥

-- what a failed exchange left: the attempt is broken, with that context and that session; or the
-- request has ended
abbrev pub BreaksOff : {L C : Type 0} → C → HttpSession → Phase L C → Type 0
BreaksOff context session ReadHead = ⊥
BreaksOff context session (Connect other stays tries) = ⊥
BreaksOff context session (Unlinked other stays attempts error) = ⊥
BreaksOff context session (Prepare other stays link lease) = ⊥
BreaksOff context session (Relay a) = ⊥
BreaksOff context session (Broken other stays link lease keep error) =
    (other ≡ context) × (stays.value ≡ session)
BreaksOff context session (Again other stays link lease keep error) = ⊥
BreaksOff context session (Fail link lease keep stays error) = ⊥
BreaksOff context session (Close link lease keep outcome) = outcome ≡ OutOfMemory
BreaksOff context session (Answer stays owed attempts) = ⊥
BreaksOff context session (Ended outcome attempts) = ⊥

-- whether the client of a request that has ended may ask for more
abbrev pub reuse_of : Outcome → Option Bool
reuse_of NoRequest = None
reuse_of (Refused error) = None
reuse_of (Served error reuse) = Some reuse
reuse_of TurnLimit = None
reuse_of OutOfMemory = None

abbrev pub goes_back_in : {L C : Type 0} → Phase L C → Option Bool
goes_back_in ReadHead = None
goes_back_in (Connect context session tries) = None
goes_back_in (Unlinked context session attempts error) = None
goes_back_in (Prepare context session link lease) = None
goes_back_in (Relay a) = None
goes_back_in (Broken context session link lease keep error) = None
goes_back_in (Again context session link lease keep error) = None
goes_back_in (Fail link lease keep session error) = None
goes_back_in (Close link lease keep outcome) = None
goes_back_in (Answer session owed attempts) = None
goes_back_in (Ended outcome attempts) = reuse_of outcome

-- the same where a hook of its end is called next
abbrev pub last_from : {K X : Type 0} → Option Bool → At K X → Option Bool
last_from None here = None
last_from (Some goes_back) here = if has_last here goes_back then Some goes_back else None

abbrev pub last_of : {L C K X : Type 0} → Phase L C → At K X → Option Bool
last_of phase here = last_from (goes_back_in phase) here

-- one is called next
abbrev pub is_ending : {L C K X : Type 0} → Phase L C → At K X → Bool
is_ending phase here = is_some (last_of phase here)

-- what a turn counts of calls: no more than the entries that it added to the log, behind those that
-- stood there; a call that is out of memory has none
pub record GrowsCalls {M K X : Type 0} (old new : Calls M K X) (work : Work) : Type 0 where
  pub counted : work.called + length (log_of old) ≤ length (log_of new)
  pub grows : IsFrontOf (log_of old) (log_of new)

-- the same of one that added one at most
pub record CountsCalls {M K X : Type 0} (old new : Calls M K X) (work : Work) : Type 0 where
  pub counted : work.called + length (log_of old) ≤ length (log_of new)
  pub once : length (log_of new) ≤ 1 + length (log_of old)
  pub grows : IsFrontOf (log_of old) (log_of new)

-- a phase whose turn may enter several calls: those of a piece or of a batch, or with which an
-- exchange begins
abbrev pub is_exchanging : {L C : Type 0} → Phase L C → Bool
is_exchanging ReadHead = false
is_exchanging (Connect context session tries) = false
is_exchanging (Unlinked context session attempts error) = false
is_exchanging (Prepare context session link lease) = true
is_exchanging (Relay a) = true
is_exchanging (Broken context session link lease keep error) = false
is_exchanging (Again context session link lease keep error) = false
is_exchanging (Fail link lease keep session error) = false
is_exchanging (Close link lease keep outcome) = false
is_exchanging (Answer session owed attempts) = false
is_exchanging (Ended outcome attempts) = false

-- what a turn counts that calls a hook of the end: the call, and nothing else
pub record CountsLast {L C M K X : Type 0} (old new : Calls M K X) (was now : Machine L C)
    : Type 0 where
  pub work : Work
  pub calls : CountsCalls old new work
  pub adds : now.work ≡ added_work was.work work
  pub turns : now.turns ≡ turns_after was.turns work
  pub unused : work.used ≡ 0
  pub unmoved : work.moved ≡ 0
  pub unended : work.ended ≡ 0
