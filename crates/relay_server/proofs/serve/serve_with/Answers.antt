-- From no request under way to none again.
use Rattle.std.proofs.Common.{◌≡◌, ◌∙◌, ap, arith, inl, inr}
use Rattle.relay_connector.specs.Upstream.{upstream_state, upstream_start}
use Rattle.relay_request.specs.Calls.{allowed_by}
use Rattle.relay_proxy.specs.declared.proxy.HttpProxy.{HttpProxy}
use Rattle.relay_server.specs.Serving.{books}
use Rattle.relay_server.proofs.ServingLemmas.{first_serves, last_serves, none_ended}
use Rattle.relay_server.proofs.serve.serve_with.Goals as goal

-- no memory for the floor: no request has ended
pub returns-in_default-clause-requests : goal.returns-in_default-clause-requests
returns-in_default-clause-requests g c =
    let link_state = upstream_state g.K.Byte.ByteLink.state g.K.Message.MessageLink.state
    g.K.Custom.MessageLink.state in
    let link_start = upstream_start g.K.Byte.ByteLink.start g.K.Message.MessageLink.start
    g.K.Custom.MessageLink.start in
    none_ended link_state link_start
    (allowed_by (g.SV.ProxyHttp.allows c.args.proxy.now.inner) g.SV.Modules.HttpModule.allows)
    (books g.K.Connector.returned g.K.Connector.fault_count c.args.proxy.now)

-- where as many requests ended as were asked for, giving up counts no more
pub end_of-requires-2 : goal.end_of-requires-2
end_of-requires-2 g c =
    let link_state = upstream_state g.K.Byte.ByteLink.state g.K.Message.MessageLink.state
    g.K.Custom.MessageLink.state in
    let link_start = upstream_start g.K.Byte.ByteLink.start g.K.Message.MessageLink.start
    g.K.Custom.MessageLink.start in
    λ done.
    let before = books g.K.Connector.returned g.K.Connector.fault_count c.args.proxy.now in
    let first = first_serves link_state link_start
    g.O.Stream.ByteLink.state
    (allowed_by (g.SV.ProxyHttp.allows c.args.proxy.now.inner) g.SV.Modules.HttpModule.allows)
    (g.SV.ProxyHttp.mark_of c.args.proxy.now.inner) before c.in-Ok.floor c.in-Ok.ensures in
    let stays = c.give_all_up.ensures.uncounted before
    (c.serve_floor-stop.ensures.goes.serves before first) in
    let all = c.serve_floor-stop.ensures.done done in
    omega (arith, stays, all, c.requests_ended.ensures, c.requests_ended-before.ensures)

-- the requests that ended are those of the floor; the application is the one that it was
pub returns-clause-requests : goal.returns-clause-requests
returns-clause-requests g c =
    let link_state = upstream_state g.K.Byte.ByteLink.state g.K.Message.MessageLink.state
    g.K.Custom.MessageLink.state in
    let link_start = upstream_start g.K.Byte.ByteLink.start g.K.Message.MessageLink.start
    g.K.Custom.MessageLink.start in
    let before = books g.K.Connector.returned g.K.Connector.fault_count c.args.proxy.now in
    let now = c.give_all_up.new.proxy in
    let same : now.inner ≡ c.args.proxy.now.inner =
    ap (λ (p : HttpProxy g.row.SV.Denot g.row.K.Denot g.row.P.Denot). p.inner)
    c.give_all_up.ensures.goes.same
    ∙ ap (λ (p : HttpProxy g.row.SV.Denot g.row.K.Denot g.row.P.Denot). p.inner)
    c.serve_floor-stop.ensures.goes.same in
    let first = first_serves link_state link_start
    g.O.Stream.ByteLink.state
    (allowed_by (g.SV.ProxyHttp.allows c.args.proxy.now.inner) g.SV.Modules.HttpModule.allows)
    (g.SV.ProxyHttp.mark_of c.args.proxy.now.inner) before c.in-Ok.floor c.in-Ok.ensures in
    rw same at
    (last_serves link_state link_start g.O.Stream.ByteLink.state
    (allowed_by (g.SV.ProxyHttp.allows now.inner) g.SV.Modules.HttpModule.allows)
    (g.SV.ProxyHttp.mark_of now.inner) before
    (books g.K.Connector.returned g.K.Connector.fault_count now)
    c.give_all_up.new.floor c.give_all_up.ensures.empty
    (c.give_all_up.ensures.goes.serves before
    (c.serve_floor-stop.ensures.goes.serves before first)))

-- giving all up leaves the ports, and counts no request
pub returns-clause-listens : goal.returns-clause-listens
returns-clause-listens g c =
    let link_state = upstream_state g.K.Byte.ByteLink.state g.K.Message.MessageLink.state
    g.K.Custom.MessageLink.state in
    let link_start = upstream_start g.K.Byte.ByteLink.start g.K.Message.MessageLink.start
    g.K.Custom.MessageLink.start in
    let before = books g.K.Connector.returned g.K.Connector.fault_count c.args.proxy.now in
    let first = first_serves link_state link_start
    g.O.Stream.ByteLink.state
    (allowed_by (g.SV.ProxyHttp.allows c.args.proxy.now.inner) g.SV.Modules.HttpModule.allows)
    (g.SV.ProxyHttp.mark_of c.args.proxy.now.inner) before c.in-Ok.floor c.in-Ok.ensures in
    let stays = c.give_all_up.ensures.uncounted before
    (c.serve_floor-stop.ensures.goes.serves before first) in
    elim c.serve_floor-stop.ensures.listens [
      | inl there ↦ inl (c.give_all_up.ensures.ports ∙ there)
      | inr still ↦ inr (
        c.give_all_up.ensures.ports ∙ still.0,
        omega (
          arith,
          stays,
          still.1,
          c.requests_ended.ensures,
          c.requests_ended-before.ensures,
          c.end_of-2.ensures.served,
        ),
      )
    ]
