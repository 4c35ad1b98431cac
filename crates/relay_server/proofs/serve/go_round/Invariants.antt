-- What holds between two turns of a round.
use Rattle.std.proofs.Common.{◌≡◌, ◌≤◌, length}
use Rattle.relay_connector.specs.Upstream.{upstream_state, upstream_start}
use Rattle.relay_links.specs.Count.{last_count}
use Rattle.relay_server.specs.Serving.{ServesOn}
use Rattle.relay_server.proofs.serve.go_round.Given as goal

-- the floor serves so far
abbrev pub invariant-loop-turn : goal.invariant-loop-turn
invariant-loop-turn g l =
    let link_state = upstream_state g.K.Byte.ByteLink.state g.K.Message.MessageLink.state
    g.K.Custom.MessageLink.state in
    let link_start = upstream_start g.K.Byte.ByteLink.start g.K.Message.MessageLink.start
    g.K.Custom.MessageLink.start in
    ServesOn link_state link_start g.O.Stream.ByteLink.state
    g.SV.ProxyHttp.allows g.SV.Modules.HttpModule.allows g.SV.ProxyHttp.mark_of
    g.K.Connector.returned g.K.Connector.out g.K.Connector.fault_count
    l.fn.proxy l.proxy l.fn.floor l.floor
    × (length l.floor ≤ 64)
    × (g.O.Poller.fault_count l.fn.poller ≤ g.O.Poller.fault_count l.poller)
    × (l.fn.before ≤ l.proxy.requests_ended)
    × (l.proxy.requests_ended ≤ last_count)
    × (g.O.Poller.ports l.poller ≡ g.O.Poller.ports l.fn.poller)
    × (l.place ≤ l._turn)
