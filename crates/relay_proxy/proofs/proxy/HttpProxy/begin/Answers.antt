-- A request that begins has passed nothing.
use Rattle.std.proofs.Common.{refl}
use Rattle.relay_connector.specs.Upstream.{upstream_state, upstream_start}
use Rattle.relay_request.specs.Turn.{world_of}
use Rattle.relay_turns.proofs.HeadSteps.{begins_reading}
use Rattle.relay_proxy.proofs.proxy.HttpProxy.begin.Goals as goal

-- a request that begins reads its head, and nothing has passed
pub returns-clause-run : goal.returns-clause-run
returns-clause-run g c =
    let link_state = upstream_state g.K.Byte.ByteLink.state g.K.Message.MessageLink.state
    g.K.Custom.MessageLink.state in
    let link_start = upstream_start g.K.Byte.ByteLink.start g.K.Message.MessageLink.start
    g.K.Custom.MessageLink.start in
    rw c.new.ensures (begins_reading link_state link_start
    c.args.self.now.conf.max_retries
    (world_of g.D.ByteLink.state c.args.client.now
    (g.K.Connector.fault_count c.args.self.now.connector)))

-- which begins where it stands
pub returns-clause-starts : goal.returns-clause-starts
returns-clause-starts g c = rw c.new-2.ensures.log refl
