-- A connection takes its turn: it is put where it was, or last, or it is ended.
use Rattle.std.proofs.Common.{refl, arith, inr}
use Rattle.relay_connector.specs.Upstream.{upstream_state, upstream_start}
use Rattle.relay_server.proofs.ServingLemmas.{held_by_one, on_turned, on_ended, on_waits, on_moves, on_leaves}
use Rattle.relay_server.proofs.serve.take_turn.Goals as goal

-- the connector's links that are out cover its own
pub step-requires : goal.step-requires
step-requires g c =
    let link_state = upstream_state g.K.Byte.ByteLink.state g.K.Message.MessageLink.state
    g.K.Custom.MessageLink.state in
    let link_start = upstream_start g.K.Byte.ByteLink.start g.K.Message.MessageLink.start
    g.K.Custom.MessageLink.start in
    rw (c.deref_mut-2.ensures.value, c.wake.ensures, c.deref_mut.ensures.value)
    (held_by_one link_state link_start c.args.place
    c.in-Some.connection.value c.take.new.self c.args.floor.now
    (g.K.Connector.out c.args.proxy.now.connector) c.in-Some.ensures.taken c.requires.held)

-- they do behind the step
pub end_taken-requires-clause-held : goal.end_taken-requires-clause-held
end_taken-requires-clause-held g c =
    let link_state = upstream_state g.K.Byte.ByteLink.state g.K.Message.MessageLink.state
    g.K.Custom.MessageLink.state in
    let link_start = upstream_start g.K.Byte.ByteLink.start g.K.Message.MessageLink.start
    g.K.Custom.MessageLink.start in
    let one = held_by_one link_state link_start c.args.place
    c.in-Some.connection.value c.take.new.self c.args.floor.now
    (g.K.Connector.out c.args.proxy.now.connector) c.in-Some.ensures.taken c.requires.held in
    let held = rw (c.deref_mut-2.ensures.value, c.wake.ensures, c.deref_mut.ensures.value)
    at c.step.ensures.held in
    rw c.into_inner.ensures (omega (arith, one, held))

-- its request has ended
pub returns-in-Ended-clause-goes : goal.returns-in-Ended-clause-goes
returns-in-Ended-clause-goes g c =
    let link_state = upstream_state g.K.Byte.ByteLink.state g.K.Message.MessageLink.state
    g.K.Custom.MessageLink.state in
    let link_start = upstream_start g.K.Byte.ByteLink.start g.K.Message.MessageLink.start
    g.K.Custom.MessageLink.start in
    let rest = c.take.new.self in
    rw (c.in-Some.ensures.taken)
    (on_leaves link_state link_start g.O.Stream.ByteLink.state
    g.SV.ProxyHttp.allows g.SV.Modules.HttpModule.allows g.SV.ProxyHttp.mark_of
    g.K.Connector.returned g.K.Connector.out g.K.Connector.fault_count
    c.args.proxy.now c.end_taken.new.proxy c.args.place c.in-Some.connection.value rest
    c.end_taken.new.floor
    (on_ended link_state link_start g.O.Stream.ByteLink.state
    g.SV.ProxyHttp.allows g.SV.Modules.HttpModule.allows g.SV.ProxyHttp.mark_of
    g.K.Connector.returned g.K.Connector.out g.K.Connector.fault_count
    c.args.proxy.now c.step.new.proxy c.end_taken.new.proxy c.in-Some.connection.value
    c.step.new.self rest c.end_taken.new.floor
    (λ before serves. c.step.ensures.ends before rest (rw c.in-Ended.is refl)
    (rw (c.deref_mut-2.ensures.value, c.wake.ensures, c.deref_mut.ensures.value) serves))
    (rw (c.deref_mut-2.ensures.value, c.wake.ensures, c.deref_mut.ensures.value)
    at c.step.ensures.held)
    c.step.ensures.same
    (rw c.into_inner.ensures at c.end_taken.ensures.serves)
    (rw c.into_inner.ensures at c.end_taken.ensures.held) c.end_taken.ensures.counted
    c.end_taken.ensures.same))

-- it moved, and is last
pub returns-in-Moved-clause-goes : goal.returns-in-Moved-clause-goes
returns-in-Moved-clause-goes g c =
    let link_state = upstream_state g.K.Byte.ByteLink.state g.K.Message.MessageLink.state
    g.K.Custom.MessageLink.state in
    let link_start = upstream_start g.K.Byte.ByteLink.start g.K.Message.MessageLink.start
    g.K.Custom.MessageLink.start in
    let rest = c.take.new.self in
    rw (c.in-Some.ensures.taken, c.put_last.ensures)
    (on_moves link_state link_start g.O.Stream.ByteLink.state
    g.SV.ProxyHttp.allows g.SV.Modules.HttpModule.allows g.SV.ProxyHttp.mark_of
    g.K.Connector.returned g.K.Connector.out g.K.Connector.fault_count
    c.args.proxy.now c.step.new.proxy c.args.place c.in-Some.connection.value c.step.new.self rest
    (on_turned link_state link_start g.O.Stream.ByteLink.state
    g.SV.ProxyHttp.allows g.SV.Modules.HttpModule.allows g.SV.ProxyHttp.mark_of
    g.K.Connector.returned g.K.Connector.out g.K.Connector.fault_count
    c.args.proxy.now c.step.new.proxy c.in-Some.connection.value c.step.new.self rest
    (λ before serves. c.step.ensures.goes before rest (rw c.in-Moved.is refl)
    (rw (c.deref_mut-2.ensures.value, c.wake.ensures, c.deref_mut.ensures.value) serves))
    (rw (c.deref_mut-2.ensures.value, c.wake.ensures, c.deref_mut.ensures.value)
    at c.step.ensures.held)
    c.step.ensures.same))

-- it is last
pub returns-in-Moved-clause-order : goal.returns-in-Moved-clause-order
returns-in-Moved-clause-order g c = record {
  visit = c.in-Some.connection.value;
  rest = c.take.new.self;
  taken = c.in-Some.ensures.taken;
  last = inr (c.step.new.self, c.put_last.ensures);
}

-- it waited, and is where it was
pub returns-then-still-clause-goes : goal.returns-then-still-clause-goes
returns-then-still-clause-goes g c =
    let link_state = upstream_state g.K.Byte.ByteLink.state g.K.Message.MessageLink.state
    g.K.Custom.MessageLink.state in
    let link_start = upstream_start g.K.Byte.ByteLink.start g.K.Message.MessageLink.start
    g.K.Custom.MessageLink.start in
    let rest = c.take.new.self in
    rw (c.in-Some.ensures.taken, c.put.ensures.put)
    (on_waits link_state link_start g.O.Stream.ByteLink.state
    g.SV.ProxyHttp.allows g.SV.Modules.HttpModule.allows g.SV.ProxyHttp.mark_of
    g.K.Connector.returned g.K.Connector.out g.K.Connector.fault_count
    c.args.proxy.now c.step.new.proxy c.args.place c.in-Some.connection.value c.step.new.self rest
    (on_turned link_state link_start g.O.Stream.ByteLink.state
    g.SV.ProxyHttp.allows g.SV.Modules.HttpModule.allows g.SV.ProxyHttp.mark_of
    g.K.Connector.returned g.K.Connector.out g.K.Connector.fault_count
    c.args.proxy.now c.step.new.proxy c.in-Some.connection.value c.step.new.self rest
    (λ before serves. c.step.ensures.goes before rest (rw c.in-Waited.is refl)
    (rw (c.deref_mut-2.ensures.value, c.wake.ensures, c.deref_mut.ensures.value) serves))
    (rw (c.deref_mut-2.ensures.value, c.wake.ensures, c.deref_mut.ensures.value)
    at c.step.ensures.held)
    c.step.ensures.same))

-- it is where it was
pub returns-then-still-clause-order : goal.returns-then-still-clause-order
returns-then-still-clause-order g c = inr (record {
  visit = c.in-Some.connection.value;
  next = c.step.new.self;
  rest = c.take.new.self;
  taken = c.in-Some.ensures.taken;
  put = c.put.ensures.put;
})

-- the same where it may move on
pub returns-else-still-clause-goes : goal.returns-else-still-clause-goes
returns-else-still-clause-goes g c =
    let link_state = upstream_state g.K.Byte.ByteLink.state g.K.Message.MessageLink.state
    g.K.Custom.MessageLink.state in
    let link_start = upstream_start g.K.Byte.ByteLink.start g.K.Message.MessageLink.start
    g.K.Custom.MessageLink.start in
    let rest = c.take.new.self in
    rw (c.in-Some.ensures.taken, c.put.ensures.put)
    (on_waits link_state link_start g.O.Stream.ByteLink.state
    g.SV.ProxyHttp.allows g.SV.Modules.HttpModule.allows g.SV.ProxyHttp.mark_of
    g.K.Connector.returned g.K.Connector.out g.K.Connector.fault_count
    c.args.proxy.now c.step.new.proxy c.args.place c.in-Some.connection.value c.step.new.self rest
    (on_turned link_state link_start g.O.Stream.ByteLink.state
    g.SV.ProxyHttp.allows g.SV.Modules.HttpModule.allows g.SV.ProxyHttp.mark_of
    g.K.Connector.returned g.K.Connector.out g.K.Connector.fault_count
    c.args.proxy.now c.step.new.proxy c.in-Some.connection.value c.step.new.self rest
    (λ before serves. c.step.ensures.goes before rest (rw c.in-Waited.is refl)
    (rw (c.deref_mut-2.ensures.value, c.wake.ensures, c.deref_mut.ensures.value) serves))
    (rw (c.deref_mut-2.ensures.value, c.wake.ensures, c.deref_mut.ensures.value)
    at c.step.ensures.held)
    c.step.ensures.same))
