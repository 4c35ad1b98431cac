-- One more connection is given up.
use Rattle.std.proofs.Common.{◌∙◌, List, arith, subst, sym}
use Rattle.relay_connector.specs.Upstream.{upstream_state, upstream_start}
use Rattle.relay_request.specs.Calls.{allowed_by}
use Rattle.relay_server.specs.Serving.{Visit, books, Serves}
use Rattle.relay_server.proofs.ServingLemmas.{on_given_up, on_then}
use Rattle.relay_server.proofs.serve.give_all_up.Goals as goal

-- the first connection is given up
pub loop-connection-preserved : goal.loop-connection-preserved
loop-connection-preserved g c =
    let link_state = upstream_state g.K.Byte.ByteLink.state g.K.Message.MessageLink.state
    g.K.Custom.MessageLink.state in
    let link_start = upstream_start g.K.Byte.ByteLink.start g.K.Message.MessageLink.start
    g.K.Custom.MessageLink.start in
    let goes = c.loop-connection.invariant.0 in
    let proxy = c.loop-connection.proxy in
    let rest = c.take_first.new.self in (
      on_then link_state link_start g.O.Stream.ByteLink.state
          g.SV.ProxyHttp.allows g.SV.Modules.HttpModule.allows g.SV.ProxyHttp.mark_of
          g.K.Connector.returned g.K.Connector.out g.K.Connector.fault_count
          c.args.proxy.now proxy c.give_up.new.proxy c.args.floor.now c.loop-connection.floor rest
          goes
          (rw c.in-Some.ensures
          (on_given_up link_state link_start g.O.Stream.ByteLink.state
          g.SV.ProxyHttp.allows g.SV.Modules.HttpModule.allows g.SV.ProxyHttp.mark_of
          g.K.Connector.returned g.K.Connector.out g.K.Connector.fault_count
          proxy c.give_up.new.proxy c.in-Some.connection.value rest
          (λ before. (rw c.into_inner.ensures at c.give_up.ensures.serves before rest))
          (rw c.into_inner.ensures at c.give_up.ensures.held) c.give_up.ensures.counted
          c.give_up.ensures.same)),
      λ before serves.
          let now = subst (λ (visits : List (Visit g.row.O-Stream.Denot g.row.SV-Kept.Denot
          _ g.row.SV-CTX.Denot g.row.SV-Modules.Denot)).
          Serves link_state link_start g.O.Stream.ByteLink.state
          (allowed_by (g.SV.ProxyHttp.allows proxy.inner) g.SV.Modules.HttpModule.allows)
          (g.SV.ProxyHttp.mark_of proxy.inner) before
          (books g.K.Connector.returned g.K.Connector.fault_count proxy) visits)
          c.in-Some.ensures (goes.serves before serves) in
          c.give_up.ensures.uncounted (rw c.into_inner.ensures (now.under_way.of_one.going))
          ∙ c.loop-connection.invariant.1 before serves,
      omega (arith, c.close.ensures.grows, c.loop-connection.invariant.2),
      c.close.ensures.ports ∙ c.loop-connection.invariant.3,
    )

-- none is left where no first one is
pub returns-clause-goes : goal.returns-clause-goes
returns-clause-goes g c =
    rw (c.in_default.ensures.0 ∙ sym c.in_default.ensures.1) at c.loop-connection.invariant.0
