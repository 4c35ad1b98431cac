-- The hooks before the attempts, so far: how they begin, and how each turn takes them on.
use Rattle.std.proofs.Common.{◌≡◌, ℕ, Bool, true, false, List, Option, is_some, not, ◌&&◌, refl, sym, ap, subst, ◌∙◌, true≢false}
use Rattle.relay_tasks.specs.declared.hook.Hook.{Hook}
use Rattle.relay_tasks.specs.declared.hook.Hook.TheVariants as hook
use Rattle.relay_tasks.specs.declared.log.Item.TheVariants as item
use Rattle.relay_tasks.specs.declared.log.LogEntry.{LogEntry}
use Rattle.relay_tasks.specs.declared.task.HttpTask.{HttpTask}
use Rattle.relay_session.specs.declared.writing.Writing.{Writing}
use Rattle.relay_session.specs.Reading.{head_of}
use Rattle.relay_session.specs.Response.{has_head}
use Rattle.relay_session.specs.declared.session.HttpSession.{HttpSession}
use Rattle.relay_modules.specs.Module.{ModuleCall}
use Rattle.relay_modules.specs.declared.seen.Seen.{Seen}
use Rattle.relay_hooks.specs.Call.{only}
use Rattle.relay_hooks.specs.Session.{is_answered}
use Rattle.relay_hooks.specs.Standing.{Standing}
use Rattle.relay_calls.specs.Log.{IsAllowed}
use Rattle.relay_phases.proofs.TurnLemmas.{HasCalled-more, HasCalled-none, HasCalled-rests, queues_behind_nothing}
use Rattle.relay_phases.specs.Looks.{Looks}
use Rattle.relay_phases.specs.Order.{Station}
use Rattle.relay_phases.specs.Order.{Station as station}
use Rattle.relay_phases.specs.Turns.{HasCalled, QueuesNothing, Turns}
use Rattle.relay_opening.specs.Opens.{OpensSoFar, TurnsOn, TurnsTo}
use Rattle.relay_opening.specs.Place.{end_station, is_open, may_go_on, next_hook, station_of}
use Rattle.relay_opening.specs.Queued.{QueuesAtEnd}
use Rattle.relay_opening.specs.declared.place.Called.TheVariants as called
use Rattle.relay_opening.specs.declared.place.Place.{Place}
use Rattle.relay_opening.specs.declared.place.Place.TheVariants as place
use Rattle.relay_opening.proofs.TurnLemmas.{makes_turn}

module _ (allows : Standing → LogEntry → Type 0) (first : Seen) (mark : ℕ) where
  -- one call more, where nothing was queued before
  opened_more : (which : Hook) (from to : Station)
      (queues : Writing → Writing → List HttpTask → Type 0)
      (old : Seen) (before : ℕ) (new : Seen) (behind : ℕ)
      → HasCalled allows first mark station.accepted from QueuesNothing old before
      → Turns allows which from to queues old before new behind
      → HasCalled allows first mark station.accepted to queues new behind
  opened_more which from to queues old before new behind opened turns =
      HasCalled-more allows QueuesNothing queues queues (queues_behind_nothing queues) first mark
      which station.accepted from to old before new behind opened turns

  module _ {K : Type 0} (old : Seen) (before : ℕ) (new : Seen) (behind : ℕ) where
    -- a turn that calls a hook takes the opening on
    OpensSoFar-call : (which : Hook) (from : Station) (to : Place K)
        → HasCalled allows first mark station.accepted from QueuesNothing old before
        → TurnsTo allows which from old before new behind to
        → OpensSoFar allows first mark to new behind
    OpensSoFar-call which from (place.Behind last) opened turns =
        opened_more which from (station_of last) QueuesNothing old before new behind opened turns
    OpensSoFar-call which from (place.Ended how) opened turns =
        opened_more which from (end_station how) (QueuesAtEnd how) old before new behind opened
        turns.0
    OpensSoFar-call which from place.Lost opened turns = tt

    -- each turn does
    pub OpensSoFar-turn : (has_modules : Bool) (from to : Place K)
        → TurnsOn allows has_modules from old before new behind to
        → OpensSoFar allows first mark from old before → OpensSoFar allows first mark to new behind
    OpensSoFar-turn has_modules (place.Behind last) to turns opened =
        OpensSoFar-call (next_hook last has_modules) (station_of last) to opened turns
    OpensSoFar-turn has_modules (place.Ended how) to rests opened =
        subst (λ (p : Place K). OpensSoFar allows first mark p new behind) (sym rests.place)
        (HasCalled-rests allows first mark station.accepted (end_station how) (QueuesAtEnd how) old
        before new behind (place.Ended how) to rests opened)
    OpensSoFar-turn has_modules place.Lost to rests opened =
        subst (λ (p : Place K). OpensSoFar allows first mark p new behind) (sym rests.place) tt

-- ---- a hook may be called again

both : (a b : Bool) → a && b ≡ true → (a ≡ true) × (b ≡ true)
both true b h = (refl, h)
both false b h = absurd (true≢false (sym h))

joined : (a b : Bool) → a ≡ true → b ≡ true → a && b ≡ true
joined true b ha hb = hb
joined false b ha hb = absurd (true≢false (sym ha))

is_false : (b : Bool) → not b ≡ true → b ≡ false
is_false true h = absurd (true≢false (sym h))
is_false false h = refl

-- where a hook is called next the head was read, and no final head was queued
pub is_open-parts : (seen : Seen) → is_open seen ≡ true
    → (is_some (head_of seen.downstream.reading) ≡ true) × (is_answered seen ≡ false)
is_open-parts seen open_to =
    let parts =
    both (is_some (head_of seen.downstream.reading)) (not (is_answered seen)) open_to in
    (parts.0, is_false (is_answered seen) parts.1)

-- a turn leaves it so, unless it ends
pub may_go_on-turn : {K : Type 0} (allows : Standing → LogEntry → Type 0) (old : Seen) (before : ℕ)
    (new : Seen) (behind : ℕ) (has_modules : Bool) (from to : Place K)
    → TurnsOn allows has_modules from old before new behind to
    → may_go_on from old ≡ true → may_go_on to new ≡ true
may_go_on-turn allows old before new behind has_modules (place.Behind last) (place.Behind more)
    turns ready =
    let parts =
    both (is_some (head_of old.downstream.reading)) (not (is_answered old)) ready in
    joined (is_some (head_of new.downstream.reading)) (not (is_answered new))
    (turns.calls.reads.head parts.0)
    (subst (λ (w : Writing). not (has_head w.place) ≡ true) (sym turns.queued.same) parts.1)
may_go_on-turn allows old before new behind has_modules (place.Behind last) (place.Ended how) turns
    ready = refl
may_go_on-turn allows old before new behind has_modules (place.Behind last) place.Lost turns ready
    = refl
may_go_on-turn {K = K} allows old before new behind has_modules (place.Ended how) to rests ready =
    subst (λ (p : Place K). may_go_on p new ≡ true) (sym rests.place) refl
may_go_on-turn {K = K} allows old before new behind has_modules place.Lost to rests ready =
    subst (λ (p : Place K). may_go_on p new ≡ true) (sym rests.place) refl

-- ---- the context

-- the context was made: the first call
pub OpensSoFar-begun : {K : Type 0} (app : Standing → LogEntry → Type 0)
    (modules : ModuleCall → Type 0) (first : Seen) (mark : ℕ) (new : Seen) (kept : Option K)
    → Looks app hook.NewCtx item.Nothing mark first new (only item.Nothing)
    → OpensSoFar (IsAllowed app modules) first mark (place.Behind (called.Made kept)) new mark
OpensSoFar-begun app modules first mark new kept looks =
    opened_more (IsAllowed app modules) first mark hook.NewCtx station.accepted station.made
    QueuesNothing first mark new mark
    (HasCalled-none (IsAllowed app modules) first mark station.accepted)
    (makes_turn app modules item.Nothing first mark new looks)

-- the context was made where a hook may be called
pub is_open-begun : (app : Standing → LogEntry → Type 0) (first : Seen) (mark : ℕ) (new : Seen)
    → Looks app hook.NewCtx item.Nothing mark first new (only item.Nothing)
    → is_some (head_of first.downstream.reading) ≡ true → is_answered first ≡ false
    → is_open new ≡ true
is_open-begun app first mark new looks read open_to =
    let same : new.downstream ≡ first.downstream =
    ap (λ (s : Seen). s.downstream) looks.rest ∙ ap (λ (s : Seen). s.downstream) looks.lawful in
    joined (is_some (head_of new.downstream.reading)) (not (is_answered new))
    (subst (λ (d : HttpSession). is_some (head_of d.reading) ≡ true) (sym same) read)
    (subst (λ (d : HttpSession). not (has_head d.writing.place) ≡ true) (sym same)
    (ap not open_to))
