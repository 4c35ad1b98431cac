-- A turn of the exchange that the phase holds is one of the phase.
use Rattle.std.proofs.Common.{refl}
use Rattle.relay_filters.specs.Hooked.{is_lost}
use Rattle.relay_request.specs.Calls.{EntersCalls, allowed_by}
use Rattle.relay_turns.proofs.RelaySteps.{lent_both, lent_turn}
use Rattle.relay_proxy.proofs.relaying.turn_within.Goals as goal

-- the attempt that its pointer lends is the one that the phase holds
pub returns-clause-turns : goal.returns-clause-turns
returns-clause-turns g c =
    lent_turn g.L.ByteLink.state g.L.ByteLink.start _ _ _ _ _ _ c.in-Relay.attempt
    c.deref_mut.result.now c.turn_counted.new.attempt _ _ _ _ c.in-Relay.is
    c.deref_mut.ensures.value refl c.turn_counted.ensures.lease c.turn_counted.ensures.turns

-- so the calls that it entered are those of the attempt
pub returns-clause-enters : goal.returns-clause-enters
returns-clause-enters g c =
    lent_both (λ a b.
    EntersCalls (allowed_by (g.SV.ProxyHttp.allows c.args.hooks.now) g.SV.Modules.HttpModule.allows)
    (g.SV.ProxyHttp.mark_of c.args.hooks.now) (is_lost a.exchange.down.stopped)
    (is_lost b.exchange.down.stopped) c.args.calls.now a.exchange.down.inner.session a.context
    c.turn_counted.new.calls b.exchange.down.inner.session b.context) c.in-Relay.attempt
    c.deref_mut.result.now c.turn_counted.new.attempt _ _ c.in-Relay.is
    c.deref_mut.ensures.value refl c.turn_counted.ensures.enters
