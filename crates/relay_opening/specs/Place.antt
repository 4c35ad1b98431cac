-- Where the opening of a request stands, and where a call leads.
use Rattle.std.specs.Prelude.{◌≡◌, Bool, true, false, not, ◌&&◌, is_some, IsSome, Option, None, Some, Result, Ok, Err, if◌then◌else◌}
use Rattle.relay_tasks.specs.declared.error.Fail.{Fail}
use Rattle.relay_tasks.specs.declared.error.Fail.TheVariants as fail
use Rattle.relay_tasks.specs.declared.hook.Hook.{Hook}
use Rattle.relay_tasks.specs.declared.hook.Hook.TheVariants as hook
use Rattle.relay_session.specs.Reading.{head_of}
use Rattle.relay_modules.specs.Module.{ModuleCall}
use Rattle.relay_modules.specs.declared.seen.Seen.{Seen}
use Rattle.relay_hooks.specs.Session.{is_answered}
use Rattle.relay_phases.specs.Order.{Station}
use Rattle.relay_phases.specs.Order.{Station as station}
use Rattle.relay_opening.specs.declared.place.Called.{Called}
use Rattle.relay_opening.specs.declared.place.Called.TheVariants as called
use Rattle.relay_opening.specs.declared.place.End.{End}
use Rattle.relay_opening.specs.declared.place.End.TheVariants as end
use Rattle.relay_opening.specs.declared.place.Place.{Place}
use Rattle.relay_opening.specs.declared.place.Place.TheVariants as place

-- the station at which the order of calls has the request behind a call
abbrev pub station_of : {K : Type 0} → Called K → Station
station_of (called.Made kept) = station.made
station_of called.Handed = station.handed
station_of called.Early = station.early
station_of called.Spawning = station.spawning
station_of called.Headed = station.headed
station_of called.Filtered = station.filtered
station_of called.Sending = station.sending

-- and where it has it as the hooks before the attempts ended
abbrev pub end_station : End → Station
end_station end.Attempts = station.trying
end_station end.Answered = station.answered
end_station end.Purge = station.purging
end_station end.Declined = station.answered
end_station (end.Unwritten why) = station.answered
end_station (end.Failed error) = station.failing

-- a hook may still be called: the head was read, and no final head was queued
abbrev pub is_open : Seen → Bool
is_open seen = is_some (head_of seen.downstream.reading) && not (is_answered seen)

-- the same, wherever a hook is called next
abbrev pub may_go_on : {K : Type 0} → Place K → Seen → Bool
may_go_on (place.Behind last) seen = is_open seen
may_go_on (place.Ended how) seen = true
may_go_on place.Lost seen = true

-- ---- where a call leads

-- a call that failed
abbrev pub failed : {K : Type 0} → Fail → Place K
failed fail.OutOfMemory = place.Lost
failed (fail.Error error) = place.Ended (end.Failed error)

-- a call that answers nothing
abbrev pub behind : {K : Type 0} → Result Unit Fail → Place K → Place K
behind (Ok done) well = well
behind (Err why) well = failed why

-- a call that says yes or no
abbrev pub behind_say : {K : Type 0} → Result Bool Fail → Place K → Place K → Place K
behind_say (Ok say) on_yes on_no = if say then on_yes else on_no
behind_say (Err why) on_yes on_no = failed why

-- ---- which call comes next

-- the hook that comes behind a call; `has_modules` says that modules were made
abbrev pub next_hook : {K : Type 0} → Called K → Bool → Hook
next_hook (called.Made None) has_modules = hook.EarlyRequestFilter
next_hook (called.Made (Some kept)) has_modules = hook.OnConnectionReuse
next_hook called.Handed has_modules = hook.EarlyRequestFilter
next_hook called.Early has_modules = hook.AllowSpawningSubrequest
next_hook called.Spawning true = hook.ModuleRequestHeader
next_hook called.Spawning false = hook.RequestFilter
next_hook called.Headed has_modules = hook.RequestFilter
next_hook called.Filtered has_modules = hook.IsPurge
next_hook called.Sending has_modules = hook.ProxyUpstreamFilter

-- ---- which modules stand

-- the modules behind the question for subrequests: some, where the request makes modules; and else
-- those that stood before it
abbrev pub StandBehind : {M : Type 0} → Bool → Option M → Option M → Type 0
StandBehind true old new = IsSome new
StandBehind false old new = new ≡ old

-- where it was just asked for subrequests, and that did not fail, they stand so
abbrev pub AreMade : {K M : Type 0} → Bool → Place K → Place K → Option M → Option M → Type 0
AreMade makes (place.Behind called.Early) (place.Behind last) old new = StandBehind makes old new
AreMade makes other to old new = Unit {0}

-- ---- which calls of the modules may come

-- none
abbrev pub NoCalls : ModuleCall → Type 0
NoCalls call = ⊥

-- those that the modules allow, where they filter the head in the next turn; none else
abbrev pub TurnAllows : {K M : Type 0} → (M → ModuleCall → Type 0) → Place K → Option M
    → ModuleCall → Type 0
TurnAllows allows (place.Behind called.Spawning) (Some modules) = allows modules
TurnAllows allows other made = NoCalls

-- each of them is one of these
abbrev pub Includes : {K M : Type 0} → (M → ModuleCall → Type 0) → Place K → Option M
    → (ModuleCall → Type 0) → Type 0
Includes allows p made within =
    (call : ModuleCall) → TurnAllows allows p made call → within call
