-- What holds where some calls are allowed holds where more are.
use Rattle.std.proofs.Common.{ℕ, Bool, true, false, List, [], ◌∷◌, None}
use Rattle.relay_tasks.specs.declared.hook.Hook.{Hook}
use Rattle.relay_tasks.specs.declared.log.LogEntry.{LogEntry}
use Rattle.relay_tasks.specs.declared.task.HttpTask.{HttpTask}
use Rattle.relay_session.specs.declared.writing.Writing.{Writing}
use Rattle.relay_modules.specs.Module.{ModuleCall}
use Rattle.relay_modules.specs.declared.seen.Seen.{Seen}
use Rattle.relay_hooks.specs.Session.{moment}
use Rattle.relay_hooks.specs.Standing.{Standing, standing}
use Rattle.relay_calls.specs.Log.{AllowsBy, IsAllowed, Walk, after, is_module}
use Rattle.relay_phases.specs.Order.{Station}
use Rattle.relay_phases.specs.Order.{Station as station}
use Rattle.relay_phases.specs.Turns.{HasCalled, QueuesNothing, Turns}
use Rattle.relay_opening.specs.Opens.{OpensSoFar, TurnsOn, TurnsTo}
use Rattle.relay_opening.specs.Place.{NoCalls, end_station, next_hook, station_of}
use Rattle.relay_opening.specs.Queued.{QueuesAtEnd}
use Rattle.relay_opening.specs.declared.place.Place.{Place}
use Rattle.relay_opening.specs.declared.place.Place.TheVariants as place
use Rattle.relay_opening.proofs.OpensLemmas.{OpensSoFar-turn}

-- what is allowed by an application and its modules is by wider ones
by_wider : (of_module : Bool) (app wide : Standing → LogEntry → Type 0)
    (within more : ModuleCall → Type 0)
    → ((st : Standing) (e : LogEntry) → app st e → wide st e)
    → ((call : ModuleCall) → within call → more call) → (st : Standing) (e : LogEntry)
    → AllowsBy of_module app within st e → AllowsBy of_module wide more st e
by_wider true app wide within more apps calls st e (call, tells, allowed) =
    (call, tells, calls call allowed)
by_wider false app wide within more apps calls st e allowed = apps st e allowed

pub IsAllowed-wider : (app wide : Standing → LogEntry → Type 0)
    (within more : ModuleCall → Type 0)
    → ((st : Standing) (e : LogEntry) → app st e → wide st e)
    → ((call : ModuleCall) → within call → more call) → (st : Standing) (e : LogEntry)
    → IsAllowed app within st e → IsAllowed wide more st e
IsAllowed-wider app wide within more apps calls st e allowed =
    by_wider (is_module e.hook) app wide within more apps calls st e allowed

module _ (allows wider : Standing → LogEntry → Type 0)
    (wide : (st : Standing) (e : LogEntry) → allows st e → wider st e) where
  -- a log that walks also does where more is allowed
  pub Walk-wider : (es : List LogEntry) (from to : Standing) → Walk allows from es to
      → Walk wider from es to
  Walk-wider [] from to views = views
  Walk-wider (e ∷ es) from to (st, views, fits, allowed, rest) =
      (st, views, fits, wide st e allowed, Walk-wider es (after st e) to rest)

  -- a turn that is allowed also is
  unfoldable Turns-wider : (which : Hook) (from to : Station)
      (queues : Writing → Writing → List HttpTask → Type 0) (old : Seen) (before : ℕ) (new : Seen)
      (behind : ℕ) → Turns allows which from to queues old before new behind
      → Turns wider which from to queues old before new behind
  Turns-wider which from to queues old before new behind turn =
      record {
        e = turn.e;
        calls = record {
          log = turn.calls.log;
          walk =
              Walk-wider (turn.e ∷ []) (standing None false (moment old before))
              (standing None false (moment new behind)) turn.calls.walk;
          reads = turn.calls.reads;
          rest = turn.calls.rest;
        };
        hook = turn.hook;
        order = turn.order;
        queued = turn.queued;
      }

  TurnsTo-wider : {K : Type 0} (which : Hook) (from : Station) (old : Seen) (before : ℕ)
      (new : Seen) (behind : ℕ) (to : Place K)
      → TurnsTo allows which from old before new behind to
      → TurnsTo wider which from old before new behind to
  unfolding Turns-wider
  TurnsTo-wider which from old before new behind (place.Behind last) turn =
      Turns-wider which from (station_of last) QueuesNothing old before new behind turn
  TurnsTo-wider which from old before new behind (place.Ended how) (turn, error) = (
    Turns-wider which from (end_station how) (QueuesAtEnd how) old before new behind turn,
    error,
  )
  TurnsTo-wider which from old before new behind place.Lost same = same

  -- wherever it is taken
  pub TurnsOn-wider : {K : Type 0} (has_modules : Bool) (from : Place K) (old : Seen) (before : ℕ)
      (new : Seen) (behind : ℕ) (to : Place K)
      → TurnsOn allows has_modules from old before new behind to
      → TurnsOn wider has_modules from old before new behind to
  TurnsOn-wider has_modules (place.Behind last) old before new behind to turn =
      TurnsTo-wider (next_hook last has_modules) (station_of last) old before new behind to turn
  TurnsOn-wider has_modules (place.Ended how) old before new behind to rests = rests
  TurnsOn-wider has_modules place.Lost old before new behind to rests = rests

  -- so were calls made
  pub HasCalled-wider : (first : Seen) (mark : ℕ) (from to : Station)
      (queues : Writing → Writing → List HttpTask → Type 0) (now : Seen) (behind : ℕ)
      → HasCalled allows first mark from to queues now behind
      → HasCalled wider first mark from to queues now behind
  HasCalled-wider first mark from to queues now behind called =
      record {
        entries = called.entries;
        log = called.log;
        walks =
            Walk-wider called.entries (standing None false (moment first mark))
            (standing None false (moment now behind)) called.walks;
        order = called.order;
        queued = called.queued;
        reads = called.reads;
        rest = called.rest;
      }

  -- and so does the opening stand
  pub OpensSoFar-wider : {K : Type 0} (first : Seen) (mark : ℕ) (p : Place K) (now : Seen)
      (behind : ℕ) → OpensSoFar allows first mark p now behind
      → OpensSoFar wider first mark p now behind
  OpensSoFar-wider first mark (place.Behind last) now behind called =
      HasCalled-wider first mark station.accepted (station_of last) QueuesNothing now behind called
  OpensSoFar-wider first mark (place.Ended how) now behind called =
      HasCalled-wider first mark station.accepted (end_station how) (QueuesAtEnd how) now behind
      called
  OpensSoFar-wider first mark place.Lost now behind called = tt

-- ---- turns within a wider relation

-- a turn takes the opening on, whatever calls of the modules were allowed before it, where those of
-- the turn are too
pub opens_turn : {K : Type 0} (app : Standing → LogEntry → Type 0)
    (once within : ModuleCall → Type 0) → ((call : ModuleCall) → once call → within call)
    → (first : Seen) (mark : ℕ) (old : Seen) (before : ℕ) (new : Seen) (behind : ℕ)
    (has_modules : Bool) (from to : Place K)
    → TurnsOn (IsAllowed app once) has_modules from old before new behind to
    → OpensSoFar (IsAllowed app within) first mark from old before
    → OpensSoFar (IsAllowed app within) first mark to new behind
opens_turn app once within includes first mark old before new behind has_modules from to turn
    opened =
    OpensSoFar-turn (IsAllowed app within) first mark old before new behind has_modules from to
    (TurnsOn-wider (IsAllowed app once) (IsAllowed app within)
    (IsAllowed-wider app app once within (λ st e h. h) includes) has_modules from old before new
    behind to turn)
    opened

-- the opening begins so whatever calls of the modules are allowed
pub opens_begun : {K : Type 0} (app : Standing → LogEntry → Type 0) (within : ModuleCall → Type 0)
    (first : Seen) (mark : ℕ) (p : Place K) (now : Seen) (behind : ℕ)
    → OpensSoFar (IsAllowed app NoCalls) first mark p now behind
    → OpensSoFar (IsAllowed app within) first mark p now behind
opens_begun app within first mark p now behind opened =
    OpensSoFar-wider (IsAllowed app NoCalls) (IsAllowed app within)
    (IsAllowed-wider app app NoCalls within (λ st e h. h) (λ call none. absurd none)) first mark p
    now behind opened
