-- A request under way is ended without being counted.
use Rattle.std.proofs.Common.{ap}
use Rattle.relay_connector.specs.Upstream.{upstream_state, upstream_start}
use Rattle.relay_request.specs.Calls.{allowed_by}
use Rattle.relay_proxy.specs.declared.proxy.HttpProxy.{HttpProxy}
use Rattle.relay_server.specs.Serving.{books}
use Rattle.relay_server.proofs.ServingLemmas.{gives_up}
use Rattle.relay_server.proofs.open_connection.OpenConnection.give_up.Goals as goal

-- the request is ended under way
pub returns-clause-serves : goal.returns-clause-serves
returns-clause-serves g c =
    let link_state = upstream_state g.K.Byte.ByteLink.state g.K.Message.MessageLink.state
    g.K.Custom.MessageLink.state in
    let link_start = upstream_start g.K.Byte.ByteLink.start g.K.Message.MessageLink.start
    g.K.Custom.MessageLink.start in
    λ before rest goes.
    let returned = g.K.Connector.returned in
    let faults = g.K.Connector.fault_count in
    rw (ap (λ (p : HttpProxy g.row.SV.Denot g.row.K.Denot g.row.P.Denot). p.inner)
    c.end.ensures.same)
    (gives_up link_state link_start g.D.ByteLink.state
    (allowed_by (g.SV.ProxyHttp.allows c.args.proxy.now.inner)
    g.SV.Modules.HttpModule.allows) (g.SV.ProxyHttp.mark_of c.args.proxy.now.inner) before
    (books returned faults c.args.proxy.now) (books returned faults c.end.new.self)
    (record {
      client = c.self.inside.client;
      phase = c.self.inside.machine.machine.phase;
      calls = c.self.inside.machine.calls;
      first = c.self.inside.machine.machine.first;
    }) rest
    _ c.end.result.0 (rw c.self.view_is goes) c.end.ensures.ends
    (ap (λ (p : HttpProxy g.row.SV.Denot g.row.K.Denot g.row.P.Denot). p.requests_ended)
    c.end.ensures.same)
    c.end.ensures.faults
    (ap (λ (p : HttpProxy g.row.SV.Denot g.row.K.Denot g.row.P.Denot). p.conf.max_retries)
    c.end.ensures.same))
