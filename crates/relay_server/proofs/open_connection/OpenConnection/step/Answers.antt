-- The proxy's step is a turn of the first request.
use Rattle.std.proofs.Common.{◌∙◌, ap}
use Rattle.relay_connector.specs.Upstream.{upstream_state, upstream_start}
use Rattle.relay_request.specs.Calls.{allowed_by}
use Rattle.relay_proxy.specs.declared.proxy.HttpProxy.{HttpProxy}
use Rattle.relay_server.specs.Serving.{books}
use Rattle.relay_server.proofs.ServingLemmas.{goes_on, ends_now}
use Rattle.relay_server.proofs.open_connection.OpenConnection.step.Goals as goal

-- a step that does not end the request leaves it under way
pub returns-clause-goes : goal.returns-clause-goes
returns-clause-goes g c =
    let link_state = upstream_state g.K.Byte.ByteLink.state g.K.Message.MessageLink.state
    g.K.Custom.MessageLink.state in
    let link_start = upstream_start g.K.Byte.ByteLink.start g.K.Message.MessageLink.start
    g.K.Custom.MessageLink.start in
    λ before rest goes serves.
    rw (ap (λ (p : HttpProxy g.row.SV.Denot g.row.K.Denot g.row.P.Denot). p.inner)
    c.step-step.ensures.same)
    (goes_on link_state link_start g.D.ByteLink.state
    (allowed_by (g.SV.ProxyHttp.allows c.args.proxy.now.inner)
    g.SV.Modules.HttpModule.allows) (g.SV.ProxyHttp.mark_of c.args.proxy.now.inner) before
    (books g.K.Connector.returned g.K.Connector.fault_count c.args.proxy.now) _
    (record {
      client = c.self.inside.client;
      phase = c.self.inside.machine.machine.phase;
      calls = c.self.inside.machine.calls;
      first = c.self.inside.machine.machine.first;
    })
    _ rest _ _ _ _ _ _ (rw c.self.view_is serves) (record {
      counted = ap (λ (p : HttpProxy g.row.SV.Denot g.row.K.Denot g.row.P.Denot).
          p.requests_ended) c.step-step.ensures.same;
      faults = c.step-step.ensures.faults;
      most = ap (λ (p : HttpProxy g.row.SV.Denot g.row.K.Denot g.row.P.Denot).
          p.conf.max_retries) c.step-step.ensures.same;
      first = c.step-step.ensures.first;
      calls = c.step-step.ensures.calls;
      front = c.step-step.ensures.front;
      steps = c.step-step.ensures.steps;
    })
    (c.step-step.ensures.ended ∙ goes))

-- one that ends it leaves it at its end
pub returns-clause-ends : goal.returns-clause-ends
returns-clause-ends g c =
    let link_state = upstream_state g.K.Byte.ByteLink.state g.K.Message.MessageLink.state
    g.K.Custom.MessageLink.state in
    let link_start = upstream_start g.K.Byte.ByteLink.start g.K.Message.MessageLink.start
    g.K.Custom.MessageLink.start in
    λ before rest ends serves.
    rw (ap (λ (p : HttpProxy g.row.SV.Denot g.row.K.Denot g.row.P.Denot). p.inner)
    c.step-step.ensures.same)
    (ends_now link_state link_start g.D.ByteLink.state
    (allowed_by (g.SV.ProxyHttp.allows c.args.proxy.now.inner)
    g.SV.Modules.HttpModule.allows) (g.SV.ProxyHttp.mark_of c.args.proxy.now.inner) before
    (books g.K.Connector.returned g.K.Connector.fault_count c.args.proxy.now) _
    (record {
      client = c.self.inside.client;
      phase = c.self.inside.machine.machine.phase;
      calls = c.self.inside.machine.calls;
      first = c.self.inside.machine.machine.first;
    })
    _ rest _ _ _ _ _ _ (rw c.self.view_is serves) (record {
      counted = ap (λ (p : HttpProxy g.row.SV.Denot g.row.K.Denot g.row.P.Denot).
          p.requests_ended) c.step-step.ensures.same;
      faults = c.step-step.ensures.faults;
      most = ap (λ (p : HttpProxy g.row.SV.Denot g.row.K.Denot g.row.P.Denot).
          p.conf.max_retries) c.step-step.ensures.same;
      first = c.step-step.ensures.first;
      calls = c.step-step.ensures.calls;
      front = c.step-step.ensures.front;
      steps = c.step-step.ensures.steps;
    })
    (c.step-step.ensures.ended ∙ ends))
