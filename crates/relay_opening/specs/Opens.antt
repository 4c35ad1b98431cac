-- The hooks before the attempts, so far: the log walks, in order, each call allowed (RFC 9110,
-- section 3.7).
use Rattle.std.specs.Prelude.{◌≡◌, ℕ, Bool, Some}
use Rattle.relay_tasks.specs.declared.hook.Hook.{Hook}
use Rattle.relay_tasks.specs.declared.log.LogEntry.{LogEntry}
use Rattle.relay_modules.specs.declared.seen.Seen.{Seen}
use Rattle.relay_hooks.specs.Standing.{Standing}
use Rattle.relay_phases.specs.Order.{Station, accepted}
use Rattle.relay_phases.specs.Turns.{HasCalled, QueuesNothing, Rests, Turns}
use Rattle.relay_opening.specs.Place.{end_station, next_hook, station_of}
use Rattle.relay_opening.specs.Queued.{QueuesAtEnd}
use Rattle.relay_opening.specs.declared.place.End.{End}
use Rattle.relay_opening.specs.declared.place.End.TheVariants as end
use Rattle.relay_opening.specs.declared.place.Place.{Place}
use Rattle.relay_opening.specs.declared.place.Place.TheVariants as place

-- where the hooks before the attempts failed, the entry of the call that ended them has that error
abbrev pub FailsAs : End → LogEntry → Type 0
FailsAs end.Attempts e = Unit {0}
FailsAs end.Answered e = Unit {0}
FailsAs end.Purge e = Unit {0}
FailsAs end.Declined e = Unit {0}
FailsAs (end.Unwritten why) e = Unit {0}
FailsAs (end.Failed error) e = e.error ≡ Some error

module _ (allows : Standing → LogEntry → Type 0) where
  -- a turn that calls a hook: one call, which leads to that place, and with its error where the
  -- place is a failure; out of memory no entry is new
  abbrev pub TurnsTo : {K : Type 0} → Hook → Station → Seen → ℕ → Seen → ℕ → Place K → Type 0
  TurnsTo which from old before new behind (place.Behind last) =
      Turns allows which from (station_of last) QueuesNothing old before new behind
  TurnsTo which from old before new behind (place.Ended how) =
      (turn : Turns allows which from (end_station how) (QueuesAtEnd how) old before new behind)
      × FailsAs how turn.e
  TurnsTo which from old before new behind place.Lost = new.log ≡ old.log

  -- a turn: it calls the hook that comes next, or nothing once the hooks before the attempts are
  -- over; `has_modules` says that modules were made
  abbrev pub TurnsOn : {K : Type 0} → Bool → Place K → Seen → ℕ → Seen → ℕ → Place K → Type 0
  TurnsOn has_modules (place.Behind last) old before new behind to =
      TurnsTo (next_hook last has_modules) (station_of last) old before new behind to
  TurnsOn has_modules (place.Ended how) old before new behind to =
      Rests old before new behind (place.Ended how) to
  TurnsOn has_modules place.Lost old before new behind to =
      Rests old before new behind place.Lost to

  -- the hooks before the attempts, so far, of a session that was first at that mark, by where the
  -- opening stands; nothing is known where memory was wanted
  abbrev pub OpensSoFar : {K : Type 0} → Seen → ℕ → Place K → Seen → ℕ → Type 0
  OpensSoFar first mark (place.Behind last) now behind =
      HasCalled allows first mark accepted (station_of last) QueuesNothing now behind
  OpensSoFar first mark (place.Ended how) now behind =
      HasCalled allows first mark accepted (end_station how) (QueuesAtEnd how) now behind
  OpensSoFar first mark place.Lost now behind = Unit {0}
