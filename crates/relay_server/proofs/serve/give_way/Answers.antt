-- The first connection that is idle is taken out, and given up.
use Rattle.std.proofs.Common.{◌≡◌, true}
use Rattle.relay_connector.specs.Upstream.{upstream_state, upstream_start}
use Rattle.relay_server.specs.Idle.{is_idle}
use Rattle.relay_server.proofs.FloorLemmas.{first_passes}
use Rattle.relay_server.proofs.IdleLemmas.{idle_goes}
use Rattle.relay_server.proofs.ServingLemmas.{held_by_one, on_given_up, on_leaves}
use Rattle.relay_server.proofs.serve.give_way.Given.{Over}
use Rattle.relay_server.proofs.serve.give_way.Goals as goal

-- it was idle
idle : (g : Over) → (c : goal.After-close g) → is_idle c.in-Some.connection.value ≡ true
idle g c = first_passes is_idle c.take.new.self c.args.place c.in-Some.connection.value
    c.in-Some.ensures.fewer.0 (rw c.in-Some.ensures.taken at c.requires.idle)

-- the connector's links that are out cover its own
pub give_up-requires : goal.give_up-requires
give_up-requires g c =
    let link_state = upstream_state g.K.Byte.ByteLink.state g.K.Message.MessageLink.state
    g.K.Custom.MessageLink.state in
    let link_start = upstream_start g.K.Byte.ByteLink.start g.K.Message.MessageLink.start
    g.K.Custom.MessageLink.start in
    rw c.into_inner.ensures
    (held_by_one link_state link_start c.args.place
    c.in-Some.connection.value c.take.new.self c.args.floor.now
    (g.K.Connector.out c.args.proxy.now.connector) c.in-Some.ensures.taken c.requires.held)

-- the others are served on
pub returns-clause-goes : goal.returns-clause-goes
returns-clause-goes g c =
    let link_state = upstream_state g.K.Byte.ByteLink.state g.K.Message.MessageLink.state
    g.K.Custom.MessageLink.state in
    let link_start = upstream_start g.K.Byte.ByteLink.start g.K.Message.MessageLink.start
    g.K.Custom.MessageLink.start in
    rw c.in-Some.ensures.taken
    (on_leaves link_state link_start g.O.Stream.ByteLink.state
    g.SV.ProxyHttp.allows g.SV.Modules.HttpModule.allows g.SV.ProxyHttp.mark_of
    g.K.Connector.returned g.K.Connector.out g.K.Connector.fault_count
    c.args.proxy.now c.give_up.new.proxy c.args.place c.in-Some.connection.value c.take.new.self
    c.take.new.self
    (on_given_up link_state link_start g.O.Stream.ByteLink.state
    g.SV.ProxyHttp.allows g.SV.Modules.HttpModule.allows g.SV.ProxyHttp.mark_of
    g.K.Connector.returned g.K.Connector.out g.K.Connector.fault_count
    c.args.proxy.now c.give_up.new.proxy c.in-Some.connection.value c.take.new.self
    (λ before. (rw c.into_inner.ensures at c.give_up.ensures.serves before c.take.new.self))
    (rw c.into_inner.ensures at c.give_up.ensures.held) c.give_up.ensures.counted
    c.give_up.ensures.same))

-- it was the first that is idle
pub returns-clause-gives_way : goal.returns-clause-gives_way
returns-clause-gives_way g c = record {
  place = c.args.place;
  visit = c.in-Some.connection.value;
  first = c.requires.idle;
  idle = idle g c;
  others = c.in-Some.ensures.taken;
}

-- its request has not ended, so it is not counted
pub returns-clause-uncounted : goal.returns-clause-uncounted
returns-clause-uncounted g c = c.give_up.ensures.uncounted
    (rw c.into_inner.ensures (idle_goes c.in-Some.connection.value (idle g c)))
