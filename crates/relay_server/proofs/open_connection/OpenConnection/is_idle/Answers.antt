-- Of a connection that is idle nothing was asked, and nothing was done.
use Rattle.relay_connector.specs.Upstream.{upstream_state, upstream_start}
use Rattle.relay_request.specs.Calls.{allowed_by}
use Rattle.relay_request.specs.Turn.{world_of}
use Rattle.relay_server.proofs.IdleLemmas.{not_begun, none_called}
use Rattle.relay_server.proofs.open_connection.OpenConnection.is_idle.Goals as goal

-- its head is read, and no byte is ahead
pub returns-then-is_reading_head-clause-unbegun : goal.returns-then-is_reading_head-clause-unbegun
returns-then-is_reading_head-clause-unbegun g c =
    let link_state = upstream_state g.K.Byte.ByteLink.state g.K.Message.MessageLink.state
    g.K.Custom.MessageLink.state in
    let link_start = upstream_start g.K.Byte.ByteLink.start g.K.Message.MessageLink.start
    g.K.Custom.MessageLink.start in
    λ faults s p own idle run.
    not_begun link_state link_start s p
    (world_of g.D.ByteLink.state c.args.self.now.client faults) own c.args.self.now.phase idle run

-- nor was a hook called
pub returns-then-is_reading_head-clause-uncalled :
    goal.returns-then-is_reading_head-clause-uncalled
returns-then-is_reading_head-clause-uncalled g c = λ app idle calls.
    none_called (allowed_by (g.SV.ProxyHttp.allows app) g.SV.Modules.HttpModule.allows)
    (g.SV.ProxyHttp.mark_of app) c.args.self.now idle calls
