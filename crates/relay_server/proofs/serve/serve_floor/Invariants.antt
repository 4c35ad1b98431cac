-- What holds between two rounds.
use Rattle.std.proofs.Common.{◌≡◌, ◌≤◌, [], ◌∷◌, length}
use Rattle.relay_connector.specs.Upstream.{upstream_state, upstream_start}
use Rattle.relay_links.specs.Count.{last_count}
use Rattle.relay_links.specs.Told.{more}
use Rattle.relay_server.specs.Serving.{ServesOn}
use Rattle.relay_server.proofs.serve.serve_floor.Given as goal

-- the floor serves so far, and its port is open
abbrev pub invariant-loop : goal.invariant-loop
invariant-loop g l =
    let link_state = upstream_state g.K.Byte.ByteLink.state g.K.Message.MessageLink.state
    g.K.Custom.MessageLink.state in
    let link_start = upstream_start g.K.Byte.ByteLink.start g.K.Message.MessageLink.start
    g.K.Custom.MessageLink.start in
    ServesOn link_state link_start g.O.Stream.ByteLink.state
    g.SV.ProxyHttp.allows g.SV.Modules.HttpModule.allows g.SV.ProxyHttp.mark_of
    g.K.Connector.returned g.K.Connector.out g.K.Connector.fault_count
    l.fn.proxy l.proxy l.fn.floor l.floor
    × (length l.floor ≤ 64)
    × (g.O.Poller.fault_count l.fn.poller ≤ g.O.Poller.fault_count l.poller)
    × (l.fn.proxy.requests_ended ≤ l.proxy.requests_ended)
    × (l.proxy.requests_ended ≤ last_count)
    × (g.O.Poller.ports l.poller ≡ more (g.O.Poller.ports l.fn.poller) (l.fn.port ∷ []))
