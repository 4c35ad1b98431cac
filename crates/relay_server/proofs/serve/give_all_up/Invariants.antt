-- What holds between two connections that are given up.
use Rattle.std.proofs.Common.{◌≡◌, ◌≤◌, length}
use Rattle.relay_connector.specs.Upstream.{upstream_state, upstream_start}
use Rattle.relay_request.specs.Calls.{allowed_by}
use Rattle.relay_server.specs.Serving.{Books, books, Serves, ServesOn}
use Rattle.relay_server.proofs.serve.give_all_up.Given as goal

-- those that are left are served, and no request was counted
abbrev pub invariant-loop-connection : goal.invariant-loop-connection
invariant-loop-connection g l =
    let link_state = upstream_state g.K.Byte.ByteLink.state g.K.Message.MessageLink.state
    g.K.Custom.MessageLink.state in
    let link_start = upstream_start g.K.Byte.ByteLink.start g.K.Message.MessageLink.start
    g.K.Custom.MessageLink.start in
    ServesOn link_state link_start g.O.Stream.ByteLink.state
    g.SV.ProxyHttp.allows g.SV.Modules.HttpModule.allows g.SV.ProxyHttp.mark_of
    g.K.Connector.returned g.K.Connector.out g.K.Connector.fault_count
    l.fn.proxy l.proxy l.fn.floor l.floor
    × ((before : Books _)
    → Serves link_state link_start g.O.Stream.ByteLink.state
    (allowed_by (g.SV.ProxyHttp.allows l.fn.proxy.inner) g.SV.Modules.HttpModule.allows)
    (g.SV.ProxyHttp.mark_of l.fn.proxy.inner) before
    (books g.K.Connector.returned g.K.Connector.fault_count l.fn.proxy) l.fn.floor
    → l.proxy.requests_ended ≡ l.fn.proxy.requests_ended)
    × (g.O.Poller.fault_count l.fn.poller ≤ g.O.Poller.fault_count l.poller)
    × (g.O.Poller.ports l.poller ≡ g.O.Poller.ports l.fn.poller)

-- one connection fewer is left
abbrev pub decreases-loop-connection : goal.decreases-loop-connection
decreases-loop-connection g l = length l.floor
