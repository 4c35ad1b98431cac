-- The turns of a purge within a wider relation of the calls that are allowed.
use Rattle.std.proofs.Common.{ℕ, false, List, [], ◌∷◌, None}
use Rattle.relay_tasks.specs.declared.hook.Hook.{Hook}
use Rattle.relay_tasks.specs.declared.hook.Hook.TheVariants as hook
use Rattle.relay_tasks.specs.declared.log.LogEntry.{LogEntry}
use Rattle.relay_tasks.specs.declared.peer.PurgeAction.{PurgeAction}
use Rattle.relay_tasks.specs.declared.task.HttpTask.{HttpTask}
use Rattle.relay_links.specs.Purger.{PurgerState}
use Rattle.relay_session.specs.declared.writing.Writing.{Writing}
use Rattle.relay_modules.specs.declared.seen.Seen.{Seen}
use Rattle.relay_hooks.specs.Session.{moment}
use Rattle.relay_hooks.specs.Standing.{Standing, standing}
use Rattle.relay_calls.specs.Log.{Walk}
use Rattle.relay_phases.specs.Order.{Station}
use Rattle.relay_phases.specs.Order.{Station as station}
use Rattle.relay_phases.specs.Turns.{QueuesNothing, Turns}
use Rattle.relay_purging.specs.Purging.{AnswersWith, AsksAction, PurgesOnce, PurgesTo}
use Rattle.relay_purging.specs.declared.turn.End.{End}
use Rattle.relay_purging.specs.declared.turn.End.TheVariants as end

module _ (allows wider : Standing → LogEntry → Type 0)
    (wide : (st : Standing) (e : LogEntry) → allows st e → wider st e) where
  -- a walk of one call also is one
  walk_wider : (from to : Standing) (e : LogEntry) → Walk allows from (e ∷ []) to
      → Walk wider from (e ∷ []) to
  walk_wider from to e (st, views, fits, allowed, rest) =
      (st, views, fits, wide st e allowed, rest)

  -- a turn also is one
  turns_wider : (which : Hook) (from to : Station)
      (queues : Writing → Writing → List HttpTask → Type 0) (old : Seen) (before : ℕ) (new : Seen)
      (behind : ℕ) → Turns allows which from to queues old before new behind
      → Turns wider which from to queues old before new behind
  turns_wider which from to queues old before new behind turn =
      record {
        e = turn.e;
        calls = record {
          log = turn.calls.log;
          walk =
              walk_wider (standing None false (moment old before))
              (standing None false (moment new behind)) turn.e turn.calls.walk;
          reads = turn.calls.reads;
          rest = turn.calls.rest;
        };
        hook = turn.hook;
        order = turn.order;
        queued = turn.queued;
      }

  -- the first turn is
  pub AsksAction-wider : (action : PurgeAction) (old : Seen) (mark : ℕ) (new : Seen)
      → AsksAction allows action old mark new → AsksAction wider action old mark new
  unfolding turns_wider
  AsksAction-wider action old mark new asks =
      record {
        turn =
            turns_wider hook.PurgeAction station.purging station.purged QueuesNothing old mark new
            mark asks.turn;
        input = asks.input;
        output = asks.output;
        stays = asks.stays;
      }

  -- and so is the second
  purges_wider : (action : PurgeAction) (before after : PurgerState) (old : Seen) (mark : ℕ)
      (new : Seen) (behind : ℕ) (how : End)
      → PurgesOnce allows action before after old mark new behind how
      → PurgesOnce wider action before after old mark new behind how
  unfolding turns_wider
  purges_wider action before after old mark new behind how once =
      record {
        status = once.status;
        head = once.head;
        asks = once.asks;
        turn =
            turns_wider hook.PurgeResponseFilter station.purged station.answered
            (AnswersWith once.head how) old mark new behind once.turn;
        input = once.input;
        told = once.told;
        bodiless = once.bodiless;
      }

  pub PurgesTo-wider : (action : PurgeAction) (before after : PurgerState) (old : Seen) (mark : ℕ)
      (new : Seen) (behind : ℕ) (how : End)
      → PurgesTo allows action before after old mark new behind how
      → PurgesTo wider action before after old mark new behind how
  PurgesTo-wider action before after old mark new behind end.Answered once =
      purges_wider action before after old mark new behind end.Answered once
  PurgesTo-wider action before after old mark new behind (end.Unwritten why) once =
      purges_wider action before after old mark new behind (end.Unwritten why) once
  PurgesTo-wider action before after old mark new behind end.Lost same = same
