-- What an application allows by itself is allowed beside each relation of the modules' calls: no
-- hook of an attempt is a filter of theirs.
use Rattle.std.proofs.Common.{◌≡◌, ℕ, Bool, true, false, List, [], ◌∷◌, Option, Some, None, Result, Ok, Err, refl, ap, ◌∙◌, true≢false}
use Rattle.relay_tasks.specs.Head.{RequestHead}
use Rattle.relay_tasks.specs.declared.error.Error.{Error}
use Rattle.relay_tasks.specs.declared.error.Fail.{Fail}
use Rattle.relay_tasks.specs.declared.error.Fail.TheVariants as fail
use Rattle.relay_tasks.specs.declared.hook.Hook.{Hook}
use Rattle.relay_tasks.specs.declared.hook.Hook.TheVariants as hook
use Rattle.relay_tasks.specs.declared.log.Item.{Item}
use Rattle.relay_tasks.specs.declared.log.Item.TheVariants as item
use Rattle.relay_tasks.specs.declared.log.LogEntry.{LogEntry}
use Rattle.relay_tasks.specs.declared.peer.Peer.{Peer}
use Rattle.relay_tasks.specs.declared.task.HttpTask.{HttpTask}
use Rattle.relay_session.specs.declared.writing.Writing.{Writing}
use Rattle.relay_modules.specs.Module.{ModuleCall}
use Rattle.relay_modules.specs.declared.seen.Seen.{Seen}
use Rattle.relay_hooks.specs.Call.{Left, failed, only}
use Rattle.relay_hooks.specs.Session.{moment, request_head}
use Rattle.relay_hooks.specs.Standing.{Standing, standing}
use Rattle.relay_calls.specs.Log.{AllowsBy, IsAllowed, Walk, is_module}
use Rattle.relay_calls.proofs.CallLemmas.{AllowsBy-app}
use Rattle.relay_phases.specs.Order.{Station}
use Rattle.relay_phases.specs.Order.{Station as station}
use Rattle.relay_phases.specs.Turns.{QueuesNothing, Turns}
use Rattle.relay_trying.specs.Trying.{CallsHook, FiltersHead, LooksOnce, NamesPeer, TellsConnected, Treats, may_follow, treated_at}

-- ---- turns within a wider relation

module _ (allows wider : Standing → LogEntry → Type 0) (which : Hook)
    (wide : (st : Standing) (e : LogEntry) → e.hook ≡ which → allows st e → wider st e) where
  -- a walk of one call of that hook also is one
  pub walk_wider : (from to : Standing) (e : LogEntry) → e.hook ≡ which
      → Walk allows from (e ∷ []) to → Walk wider from (e ∷ []) to
  walk_wider from to e is (st, views, fits, allowed, rest) =
      (st, views, fits, wide st e is allowed, rest)

  -- a turn that calls it also is one
  unfoldable pub Turns-wider : (from to : Station)
      (queues : Writing → Writing → List HttpTask → Type 0) (old : Seen) (before : ℕ) (new : Seen)
      (behind : ℕ) → Turns allows which from to queues old before new behind
      → Turns wider which from to queues old before new behind
  Turns-wider from to queues old before new behind turn =
      record {
        e = turn.e;
        calls = record {
          log = turn.calls.log;
          walk =
              walk_wider (standing None false (moment old before))
              (standing None false (moment new behind)) turn.e turn.hook turn.calls.walk;
          reads = turn.calls.reads;
          rest = turn.calls.rest;
        };
        hook = turn.hook;
        order = turn.order;
        queued = turn.queued;
      }

-- ---- the modules beside the application

-- where no filter of the modules was called, the application allowed it
pub AllowsBy-own : (of_module : Bool) (app : Standing → LogEntry → Type 0)
    (modules : ModuleCall → Type 0) (st : Standing) (e : LogEntry) → of_module ≡ false
    → AllowsBy of_module app modules st e → app st e
AllowsBy-own true app modules st e is_app allowed = absurd (true≢false is_app)
AllowsBy-own false app modules st e is_app allowed = allowed

module _ (app : Standing → LogEntry → Type 0) (modules : ModuleCall → Type 0) where
  -- a call of the application's is allowed whatever the modules allow
  pub allowed_within : (which : Hook) → is_module which ≡ false → (st : Standing) (e : LogEntry)
      → e.hook ≡ which → app st e → IsAllowed app modules st e
  allowed_within which is_app st e is allowed =
      AllowsBy-app (is_module e.hook) app modules st e (ap is_module is ∙ is_app) allowed

  -- so is its turn
  unfoldable pub CallsHook-within : (which : Hook) → is_module which ≡ false
      → (peer : Option Peer) (reused : Bool) (from to : Station) (told : Item) (left : Left)
      (old : Seen) (before : ℕ) (new : Seen) (behind : ℕ)
      → CallsHook app which peer reused from to told left old before new behind
      → CallsHook (IsAllowed app modules) which peer reused from to told left old before new behind
  unfolding Turns-wider
  CallsHook-within which is_app peer reused from to told left old before new behind call =
      record {
        turn =
            Turns-wider app (IsAllowed app modules) which (allowed_within which is_app) from to
            QueuesNothing old before new behind call.turn;
        allowed =
            allowed_within which is_app (standing peer reused (moment old before)) call.turn.e
            call.turn.hook call.allowed;
        input = call.input;
        output = call.output;
        error = call.error;
        view = call.view;
      }

  -- of a hook that only looks
  pub LooksOnce-within : (which : Hook) → is_module which ≡ false → (from to : Station)
      (told : Item) (left : Left) (old : Seen) (mark : ℕ) (new : Seen)
      → LooksOnce app which from to told left old mark new
      → LooksOnce (IsAllowed app modules) which from to told left old mark new
  LooksOnce-within which is_app from to told left old mark new looks =
      record {
        call =
            CallsHook-within which is_app None false from to told left old mark new mark looks.call;
        stays = looks.stays;
      }

  module _ (old : Seen) (before : ℕ) (new : Seen) (behind : ℕ) where
    -- of the hook that names a peer
    pub NamesPeer-within : (answer : Result Peer Fail) → NamesPeer app old before new behind answer
        → NamesPeer (IsAllowed app modules) old before new behind answer
    NamesPeer-within (Ok peer) call =
        CallsHook-within hook.UpstreamPeer refl None false station.trying station.named
        (item.Request (request_head old)) (only (item.Addressed peer false)) old before new behind
        call
    NamesPeer-within (Err (fail.Error error)) call =
        CallsHook-within hook.UpstreamPeer refl None false station.trying station.failing
        (item.Request (request_head old)) (failed item.Nothing error) old before new behind call
    NamesPeer-within (Err fail.OutOfMemory) same = same

    -- of the one that is told of its link
    pub TellsConnected-within : (peer : Peer) (reused : Bool) (answer : Result Unit Fail)
        → TellsConnected app peer reused old before new behind answer
        → TellsConnected (IsAllowed app modules) peer reused old before new behind answer
    TellsConnected-within peer reused (Ok done) call =
        CallsHook-within hook.ConnectedToUpstream refl (Some peer) reused station.named
        station.linked (item.Addressed peer reused) (only item.Nothing) old before new behind call
    TellsConnected-within peer reused (Err (fail.Error error)) call =
        CallsHook-within hook.ConnectedToUpstream refl (Some peer) reused station.named
        station.broken (item.Addressed peer reused) (failed item.Nothing error) old before new
        behind call
    TellsConnected-within peer reused (Err fail.OutOfMemory) same = same

    -- of the filter of the head
    pub FiltersHead-within : (head : RequestHead) (answer : Result RequestHead Fail)
        → FiltersHead app head old before new behind answer
        → FiltersHead (IsAllowed app modules) head old before new behind answer
    FiltersHead-within head (Ok filtered) call =
        CallsHook-within hook.UpstreamRequestFilter refl None false station.linked station.sent
        (item.Request head) (only (item.Request filtered)) old before new behind call
    FiltersHead-within head (Err (fail.Error error)) breaks =
        record {
          left = breaks.left;
          call =
              CallsHook-within hook.UpstreamRequestFilter refl None false station.linked
              station.broken (item.Request head) (failed (item.Request breaks.left) error) old
              before new behind breaks.call;
        }
    FiltersHead-within head (Err fail.OutOfMemory) same = same

    -- of the hooks that treat an error
    pub Treats-within : (which : Hook) → is_module which ≡ false → (peer : Peer) (reused : Bool)
        (from : Station) (error treated : Error)
        → Treats app which peer reused from error old before new behind treated
        → Treats (IsAllowed app modules) which peer reused from error old before new behind treated
    unfolding CallsHook-within
    Treats-within which is_app peer reused from error treated treats =
        record {
          call =
              CallsHook-within which is_app (Some peer) reused from
              (treated_at (may_follow treated old)) (item.Failure error)
              (only (item.Failure treated)) old before new behind treats.call;
          marked = treats.marked;
        }
