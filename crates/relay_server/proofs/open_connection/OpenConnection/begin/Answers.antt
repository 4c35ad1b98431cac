-- The first request begins, for which no hook was called.
use Rattle.std.proofs.Common.{refl, sym}
use Rattle.relay_connector.specs.Upstream.{upstream_state, upstream_start}
use Rattle.relay_request.specs.Calls.{allowed_by}
use Rattle.relay_server.specs.Serving.{books}
use Rattle.relay_server.proofs.ServingLemmas.{begins}
use Rattle.relay_server.proofs.open_connection.OpenConnection.begin.Goals as goal

-- the first request begins
pub returns-clause-serves : goal.returns-clause-serves
returns-clause-serves g c =
    let link_state = upstream_state g.K.Byte.ByteLink.state g.K.Message.MessageLink.state
    g.K.Custom.MessageLink.state in
    let link_start = upstream_start g.K.Byte.ByteLink.start g.K.Message.MessageLink.start
    g.K.Custom.MessageLink.start in
    λ before rest serves.
    begins link_state link_start g.D.ByteLink.state
    (allowed_by (g.SV.ProxyHttp.allows c.args.proxy.now.inner) g.SV.Modules.HttpModule.allows)
    (g.SV.ProxyHttp.mark_of c.args.proxy.now.inner) before
    (books g.K.Connector.returned g.K.Connector.fault_count c.args.proxy.now)
    (record {
      client = c.begin-machine.new.client;
      phase = c.begin-machine.result.machine.phase;
      calls = c.begin-machine.result.calls;
      first = c.begin-machine.result.machine.first;
    }) rest _ _ refl (sym c.begin-machine.ensures.first) c.begin-machine.ensures.starts
    c.begin-machine.ensures.calls
    c.begin-machine.ensures.run c.begin-machine.ensures.going serves
