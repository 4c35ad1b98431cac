-- The request is ended, and the next one begins where the connection is reused.
use Rattle.std.proofs.Common.{ap, refl, sym}
use Rattle.relay_connector.specs.Upstream.{upstream_state, upstream_start}
use Rattle.relay_request.specs.Calls.{allowed_by}
use Rattle.relay_proxy.specs.declared.proxy.HttpProxy.{HttpProxy}
use Rattle.relay_server.specs.Serving.{books}
use Rattle.relay_server.proofs.ServingLemmas.{ends_one, begins}
use Rattle.relay_server.proofs.open_connection.OpenConnection.end.Goals as goal

-- no request follows
pub returns-then-not-is_reused-clause-serves : goal.returns-then-not-is_reused-clause-serves
returns-then-not-is_reused-clause-serves g c =
    let link_state = upstream_state g.K.Byte.ByteLink.state g.K.Message.MessageLink.state
    g.K.Custom.MessageLink.state in
    let link_start = upstream_start g.K.Byte.ByteLink.start g.K.Message.MessageLink.start
    g.K.Custom.MessageLink.start in
    λ before rest ends.
    let returned = g.K.Connector.returned in
    let faults = g.K.Connector.fault_count in
    rw (ap (λ (p : HttpProxy g.row.SV.Denot g.row.K.Denot g.row.P.Denot). p.inner)
    c.end-processed.ensures.same)
    (ends_one link_state link_start g.D.ByteLink.state
    (allowed_by (g.SV.ProxyHttp.allows c.args.proxy.now.inner)
    g.SV.Modules.HttpModule.allows) (g.SV.ProxyHttp.mark_of c.args.proxy.now.inner) before
    (books returned faults c.args.proxy.now) (books returned faults c.end-processed.new.self)
    (record {
      client = c.self.inside.client;
      phase = c.self.inside.machine.machine.phase;
      calls = c.self.inside.machine.calls;
      first = c.self.inside.machine.machine.first;
    }) rest
    _ c.end-processed.result.0 (rw c.self.view_is ends) c.end-processed.ensures.ends
    (ap (λ (p : HttpProxy g.row.SV.Denot g.row.K.Denot g.row.P.Denot). p.requests_ended)
    c.end-processed.ensures.same)
    c.end-processed.ensures.faults
    (ap (λ (p : HttpProxy g.row.SV.Denot g.row.K.Denot g.row.P.Denot). p.conf.max_retries)
    c.end-processed.ensures.same))

-- the next request begins
pub returns-clause-serves : goal.returns-clause-serves
returns-clause-serves g c =
    let link_state = upstream_state g.K.Byte.ByteLink.state g.K.Message.MessageLink.state
    g.K.Custom.MessageLink.state in
    let link_start = upstream_start g.K.Byte.ByteLink.start g.K.Message.MessageLink.start
    g.K.Custom.MessageLink.start in
    λ before rest ends.
    let returned = g.K.Connector.returned in
    let faults = g.K.Connector.fault_count in
    let now = books returned faults c.end-processed.new.self in
    begins link_state link_start g.D.ByteLink.state
    (allowed_by (g.SV.ProxyHttp.allows c.end-processed.new.self.inner)
    g.SV.Modules.HttpModule.allows) (g.SV.ProxyHttp.mark_of c.end-processed.new.self.inner) before
    now
    (record {
      client = c.begin-machine.new.client;
      phase = c.begin-machine.result.machine.phase;
      calls = c.begin-machine.result.calls;
      first = c.begin-machine.result.machine.first;
    }) rest _ _ refl (sym c.begin-machine.ensures.first) c.begin-machine.ensures.starts
    c.begin-machine.ensures.calls
    c.begin-machine.ensures.run c.begin-machine.ensures.going
    (rw (ap (λ (p : HttpProxy g.row.SV.Denot g.row.K.Denot g.row.P.Denot). p.inner)
    c.end-processed.ensures.same)
    (ends_one link_state link_start g.D.ByteLink.state
    (allowed_by (g.SV.ProxyHttp.allows c.args.proxy.now.inner)
    g.SV.Modules.HttpModule.allows) (g.SV.ProxyHttp.mark_of c.args.proxy.now.inner) before
    (books returned faults c.args.proxy.now) now
    (record {
      client = c.self.inside.client;
      phase = c.self.inside.machine.machine.phase;
      calls = c.self.inside.machine.calls;
      first = c.self.inside.machine.machine.first;
    }) rest
    _ c.end-processed.result.0 (rw c.self.view_is ends) c.end-processed.ensures.ends
    (ap (λ (p : HttpProxy g.row.SV.Denot g.row.K.Denot g.row.P.Denot). p.requests_ended)
    c.end-processed.ensures.same)
    c.end-processed.ensures.faults
    (ap (λ (p : HttpProxy g.row.SV.Denot g.row.K.Denot g.row.P.Denot). p.conf.max_retries)
    c.end-processed.ensures.same)))
