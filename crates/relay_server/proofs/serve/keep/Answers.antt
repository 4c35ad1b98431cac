-- A connection is put last, or given up.
use Rattle.std.proofs.Common.{inr}
use Rattle.relay_connector.specs.Upstream.{upstream_state, upstream_start}
use Rattle.relay_server.proofs.ServingLemmas.{on_put_last, on_given_up}
use Rattle.relay_server.proofs.serve.keep.Goals as goal

-- the connection is kept
pub returns-in-Ok-clause-goes : goal.returns-in-Ok-clause-goes
returns-in-Ok-clause-goes g c =
    let link_state = upstream_state g.K.Byte.ByteLink.state g.K.Message.MessageLink.state
    g.K.Custom.MessageLink.state in
    let link_start = upstream_start g.K.Byte.ByteLink.start g.K.Message.MessageLink.start
    g.K.Custom.MessageLink.start in
    rw (c.put_last.ensures, c.in-Ok.ensures.ok)
    (on_put_last link_state link_start g.O.Stream.ByteLink.state
    g.SV.ProxyHttp.allows g.SV.Modules.HttpModule.allows g.SV.ProxyHttp.mark_of
    g.K.Connector.returned g.K.Connector.out g.K.Connector.fault_count
    c.args.proxy.now c.args.connection c.args.floor.now)

-- there is no memory for it
pub returns-in-Err-clause-goes : goal.returns-in-Err-clause-goes
returns-in-Err-clause-goes g c =
    let link_state = upstream_state g.K.Byte.ByteLink.state g.K.Message.MessageLink.state
    g.K.Custom.MessageLink.state in
    let link_start = upstream_start g.K.Byte.ByteLink.start g.K.Message.MessageLink.start
    g.K.Custom.MessageLink.start in
    rw c.in-Err.ensures.value_returned at
    (on_given_up link_state link_start g.O.Stream.ByteLink.state
    g.SV.ProxyHttp.allows g.SV.Modules.HttpModule.allows g.SV.ProxyHttp.mark_of
    g.K.Connector.returned g.K.Connector.out g.K.Connector.fault_count
    c.args.proxy.now c.give_up.new.proxy c.in-Err.failed.value c.args.floor.now
    (λ before. c.give_up.ensures.serves before c.args.floor.now)
    c.give_up.ensures.held c.give_up.ensures.counted c.give_up.ensures.same)

-- it is last
pub returns-in-Ok-clause-last : goal.returns-in-Ok-clause-last
returns-in-Ok-clause-last g c = inr (c.in-Ok.connection.value, c.put_last.ensures)
