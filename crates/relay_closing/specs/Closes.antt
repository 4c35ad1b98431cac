-- The hooks at the end of a request, so far: the log walks, in order, each call allowed (RFC 9110,
-- section 3.7).
use Rattle.std.specs.Prelude.{◌≡◌, ℕ, Bool, IsTrue, List, [], ◌∷◌, map, filter, Option, None, Some}
use Rattle.relay_tasks.specs.Hooks.{same_hook}
use Rattle.relay_tasks.specs.declared.error.Error.{Error}
use Rattle.relay_tasks.specs.declared.hook.Hook.{Hook}
use Rattle.relay_tasks.specs.declared.hook.Hook.TheVariants as hook
use Rattle.relay_tasks.specs.declared.log.Item.{Item}
use Rattle.relay_tasks.specs.declared.log.LogEntry.{LogEntry}
use Rattle.relay_modules.specs.declared.seen.Seen.{Seen}
use Rattle.relay_hooks.specs.Call.{failure}
use Rattle.relay_hooks.specs.Standing.{Standing}
use Rattle.relay_phases.specs.Order.{Station}
use Rattle.relay_phases.specs.Turns.{HasCalled, Rests, Turns}
use Rattle.relay_closing.specs.Place.{CameTo, EndedBehind, end_station, error_of, hooks_of, hooks_to, input_of, may_begin, next_hook, rested, station_of}
use Rattle.relay_closing.specs.Queued.{cause_of, queues_at, queues_for, told_to}
use Rattle.relay_closing.specs.declared.place.Place.{Place}
use Rattle.relay_closing.specs.declared.place.Place.TheVariants as place
use Rattle.relay_closing.specs.declared.place.Stage.{Stage}
use Rattle.relay_closing.specs.declared.place.Stage.TheVariants as stage

-- what `logging` was told, each time that it was called
abbrev pub logged_in : List LogEntry → List Item
logged_in es = map (λ e. e.input) (filter (λ e. same_hook hook.Logging e.hook) es)

-- what it was told up to a stage: nothing, or once the error that ended the request
abbrev pub logged_to : Stage → List Item
logged_to (stage.Failing error) = []
logged_to (stage.Told told) = []
logged_to (stage.Reporting told) = []
logged_to (stage.Ending why) = []
logged_to (stage.Logged why) = failure (error_of why) ∷ []

module _ (allows : Standing → LogEntry → Type 0) where
  -- at a stage that hook was called once, with what it is told there; it may come there and leads
  -- to that station; the call led so, and it queued what it may
  pub record Asks (which : Hook) (start : Station) (from : Stage) (at : Station)
      (came : Stage → LogEntry → Type 0) (old : Seen) (before : ℕ) (new : Seen) (behind : ℕ)
      : Type 0 where
    pub turn : Turns allows which (station_of start from) at (queues_at from) old before new behind
    pub input : turn.e.input ≡ input_of from old
    pub leads : came from turn.e

  -- a turn that calls a hook, by where it leads; out of memory no entry is new
  abbrev pub TurnsTo : {K : Type 0} → Hook → Station → Stage → Seen → ℕ → Seen → ℕ → Place K
      → Type 0
  TurnsTo which start from old before new behind (place.At to) =
      Asks which start from (station_of start to) (CameTo to) old before new behind
  TurnsTo which start from old before new behind (place.Ended how) =
      Asks which start from (end_station how) (EndedBehind how) old before new behind
  TurnsTo which start from old before new behind place.Lost = new.log ≡ old.log

  -- a turn at a stage: it calls the hook that comes next, or none
  abbrev pub TurnsAt : {K : Type 0} → Option Hook → Station → Stage → Seen → ℕ → Seen → ℕ
      → Place K → Type 0
  TurnsAt (Some which) start from old before new behind to =
      TurnsTo which start from old before new behind to
  TurnsAt None start from old before new behind to =
      Rests old before new behind (rested from) to

  -- a turn of a request whose end began at `start`; once it is over nothing is called
  abbrev pub TurnsOn : {K : Type 0} → Station → Bool → Place K → Seen → ℕ → Seen → ℕ → Place K
      → Type 0
  TurnsOn start goes_back (place.At from) old before new behind to =
      TurnsAt (next_hook from goes_back) start from old before new behind to
  TurnsOn start goes_back (place.Ended how) old before new behind to =
      Rests old before new behind (place.Ended how) to
  TurnsOn start goes_back place.Lost old before new behind to =
      Rests old before new behind place.Lost to

  -- the end of a request so far, of a session that was first at that mark: the log behind the one
  -- it had then has exactly these calls, in order and allowed; `logging` was told that; an answer was
  -- queued where the client was told of an error, once at most
  pub record HasClosed (start : Station) (first : Seen) (mark : ℕ) (at : Station)
      (which : List Hook) (told : Option Error) (logs : List Item) (now : Seen) (behind : ℕ)
      : Type 0 where
    pub called : HasCalled allows first mark start at (queues_for told) now behind
    pub hooks : map (λ e. e.hook) called.entries ≡ which
    pub logged : logged_in called.entries ≡ logs

  -- the same by where the end stands; nothing is known where memory was wanted
  abbrev pub HasClosedTo : {K : Type 0} → Station → Seen → ℕ → Place K → Seen → ℕ → Type 0
  HasClosedTo start first mark (place.At at) now behind =
      HasClosed start first mark (station_of start at) (hooks_to at) (told_to at) (logged_to at) now
      behind
  HasClosedTo start first mark (place.Ended how) now behind =
      HasClosed start first mark (end_station how) (hooks_of how) (error_of (cause_of how))
      (failure (error_of (cause_of how)) ∷ []) now behind
  HasClosedTo start first mark place.Lost now behind = Unit {0}

  -- and it may have begun at that station
  pub record ClosesSoFar {K : Type 0} (start : Station) (first : Seen) (mark : ℕ) (p : Place K)
      (now : Seen) (behind : ℕ) : Type 0 where
    pub begins : IsTrue (may_begin start p)
    pub calls : HasClosedTo start first mark p now behind
