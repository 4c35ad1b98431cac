-- What holds between two clients that are accepted.
use Rattle.std.proofs.Common.{◌≡◌, ◌≤◌, length}
use Rattle.relay_connector.specs.Upstream.{upstream_state, upstream_start}
use Rattle.relay_server.specs.Serving.{ServesOn}
use Rattle.relay_server.proofs.serve.accept_all.Given as goal

-- the floor serves so far
abbrev pub invariant-loop-seat : goal.invariant-loop-seat
invariant-loop-seat g l =
    let link_state = upstream_state g.K.Byte.ByteLink.state g.K.Message.MessageLink.state
    g.K.Custom.MessageLink.state in
    let link_start = upstream_start g.K.Byte.ByteLink.start g.K.Message.MessageLink.start
    g.K.Custom.MessageLink.start in
    ServesOn link_state link_start g.O.Stream.ByteLink.state
    g.SV.ProxyHttp.allows g.SV.Modules.HttpModule.allows g.SV.ProxyHttp.mark_of
    g.K.Connector.returned g.K.Connector.out g.K.Connector.fault_count
    l.fn.proxy l.proxy l.fn.floor l.floor
    × (length l.floor ≤ l._seat)
    × (l._seat ≤ 64)
    × (g.O.Poller.fault_count l.fn.poller ≤ g.O.Poller.fault_count l.poller)
    × (g.O.Poller.ports l.poller ≡ g.O.Poller.ports l.fn.poller)
