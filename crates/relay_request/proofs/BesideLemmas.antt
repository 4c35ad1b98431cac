-- The turns of a purge call the application alone, so what its modules allow does not matter.
use Rattle.std.proofs.Common.{◌≡◌, ℕ, Bool, false, refl, sym, ap, subst, ◌∙◌}
use Rattle.relay_tasks.specs.declared.hook.Hook.{Hook}
use Rattle.relay_tasks.specs.declared.hook.Hook.TheVariants as hook
use Rattle.relay_tasks.specs.declared.log.LogEntry.{LogEntry}
use Rattle.relay_tasks.specs.declared.peer.PurgeAction.{PurgeAction}
use Rattle.relay_links.specs.Purger.{PurgerState}
use Rattle.relay_modules.specs.Module.{ModuleCall}
use Rattle.relay_modules.specs.declared.seen.Seen.{Seen}
use Rattle.relay_hooks.specs.Standing.{Standing}
use Rattle.relay_calls.specs.Log.{AllowsBy, IsAllowed, is_module}
use Rattle.relay_phases.specs.Order.{Station as station}
use Rattle.relay_phases.specs.Turns.{QueuesNothing}
use Rattle.relay_trying.proofs.WithinLemmas.{Turns-wider}
use Rattle.relay_purging.specs.Purging.{AnswersWith, AsksAction, PurgesOnce, PurgesTo}
use Rattle.relay_purging.specs.declared.turn.End.{End}
use Rattle.relay_purging.specs.declared.turn.End.TheVariants as end

module _ (app : Standing → LogEntry → Type 0) (these those : ModuleCall → Type 0) where
  -- a call of the application is allowed beside each relation of the modules' calls
  beside : (which : Hook) → is_module which ≡ false → (st : Standing) (e : LogEntry)
      → e.hook ≡ which → IsAllowed app these st e → IsAllowed app those st e
  beside which none st e is allowed =
      let plain : is_module e.hook ≡ false = ap is_module is ∙ none in
      subst (λ (b : Bool). AllowsBy b app those st e) (sym plain)
      (subst (λ (b : Bool). AllowsBy b app these st e) plain allowed)

  -- so is the first turn of a purge
  pub asks_beside : (action : PurgeAction) (old : Seen) (mark : ℕ) (new : Seen)
      → AsksAction (IsAllowed app these) action old mark new
      → AsksAction (IsAllowed app those) action old mark new
  unfolding Turns-wider
  asks_beside action old mark new asks = record {
    turn = Turns-wider (IsAllowed app these) (IsAllowed app those) hook.PurgeAction
        (beside hook.PurgeAction refl) station.purging station.purged QueuesNothing old mark new
        mark asks.turn;
    input = asks.input;
    output = asks.output;
    stays = asks.stays;
  }

  -- and the second
  purges_once : (action : PurgeAction) (before after : PurgerState) (old : Seen) (mark : ℕ)
      (new : Seen) (behind : ℕ) (how : End)
      → PurgesOnce (IsAllowed app these) action before after old mark new behind how
      → PurgesOnce (IsAllowed app those) action before after old mark new behind how
  unfolding Turns-wider
  purges_once action before after old mark new behind how once = record {
    status = once.status;
    head = once.head;
    asks = once.asks;
    turn = Turns-wider (IsAllowed app these) (IsAllowed app those) hook.PurgeResponseFilter
        (beside hook.PurgeResponseFilter refl) station.purged station.answered
        (AnswersWith once.head how) old mark new behind once.turn;
    input = once.input;
    told = once.told;
    bodiless = once.bodiless;
  }

  pub purges_beside : (action : PurgeAction) (before after : PurgerState) (old : Seen) (mark : ℕ)
      (new : Seen) (behind : ℕ) (how : End)
      → PurgesTo (IsAllowed app these) action before after old mark new behind how
      → PurgesTo (IsAllowed app those) action before after old mark new behind how
  purges_beside action before after old mark new behind end.Answered once =
      purges_once action before after old mark new behind end.Answered once
  purges_beside action before after old mark new behind (end.Unwritten why) once =
      purges_once action before after old mark new behind (end.Unwritten why) once
  purges_beside action before after old mark new behind end.Lost same = same
