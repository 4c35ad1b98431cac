-- The machine's phase is brought to its end.
use Rattle.std.proofs.Common.{◌∙◌}
use Rattle.relay_connector.specs.Upstream.{upstream_state, upstream_start}
use Rattle.relay_request.specs.Calls.{allowed_by}
use Rattle.relay_request.specs.Turn.{world_of}
use Rattle.relay_turns.proofs.EndSteps.{finishes_came, keeps_by, lost_gives, undone_limit}
use Rattle.relay_turns.proofs.StepLemmas.{end_of, over_end}
use Rattle.relay_proxy.proofs.proxy.HttpProxy.end.Goals as goal

-- a run comes to its end as its phase is brought there
pub returns-clause-ends : goal.returns-clause-ends
returns-clause-ends g c =
    let link_state = upstream_state g.K.Byte.ByteLink.state g.K.Message.MessageLink.state
    g.K.Custom.MessageLink.state in
    let link_start = upstream_start g.K.Byte.ByteLink.start g.K.Message.MessageLink.start
    g.K.Custom.MessageLink.start in
    λ s p own run.
    let e = end_of link_state link_start s p own
    (world_of g.D.ByteLink.state c.args.client.now
    (g.K.Connector.fault_count c.args.self.now.connector))
    c.args.machine.machine.phase _ _ c.finish-ending.result c.finish-ending.ensures.finishes run in
    rw c.finish-ending.ensures.faults (record {
      handed = e.handed;
      gained = e.gained;
      came = c.finish-ending.result.outcome;
      ended = e.ended;
      given = c.outcome-outcome.ensures;
      comes = finishes_came c.args.machine.machine.phase
          (g.K.Connector.returned c.args.self.now.connector)
          (g.K.Connector.returned c.finish-ending.new.connector) c.finish-ending.result
          c.finish-ending.ensures.finishes;
      refused = e.refused;
      offered = e.offered;
      uses = e.uses;
      bounded = e.bounded;
      over = over_end link_state link_start
          c.args.machine.machine.phase (g.K.Connector.returned c.args.self.now.connector)
          (g.K.Connector.returned c.finish-ending.new.connector) c.finish-ending.result run.going
          c.finish-ending.ensures.finishes;
      quiet = e.quiet;
    })

-- one that has not ended, or of which a hook is to be called, gives `TurnLimit`
pub returns-clause-limit : goal.returns-clause-limit
returns-clause-limit g c = λ undone.
    c.outcome-outcome.ensures
    ∙ undone_limit c.args.machine.machine.phase c.args.machine.calls.at
    c.finish-ending.result.outcome
    (finishes_came c.args.machine.machine.phase (g.K.Connector.returned c.args.self.now.connector)
    (g.K.Connector.returned c.finish-ending.new.connector) c.finish-ending.result
    c.finish-ending.ensures.finishes) undone

-- a value that is kept is that of the last call
pub returns-clause-keeps : goal.returns-clause-keeps
returns-clause-keeps g c = λ so_far some.
    rw c.into_parts-log.ensures.log
    (keeps_by (allowed_by (g.SV.ProxyHttp.allows c.args.self.now.inner)
    g.SV.Modules.HttpModule.allows) (g.SV.ProxyHttp.mark_of c.args.self.now.inner)
    c.args.machine.calls c.args.machine.machine.phase c.finish-ending.result.outcome
    c.outcome-outcome.result
    (finishes_came c.args.machine.machine.phase (g.K.Connector.returned c.args.self.now.connector)
    (g.K.Connector.returned c.finish-ending.new.connector) c.finish-ending.result
    c.finish-ending.ensures.finishes) c.outcome-outcome.ensures so_far
    (rw (c.kept_of-kept.ensures, c.into_parts-log.ensures.kept) at some))

-- one that ended for want of memory gives that
pub returns-clause-lost : goal.returns-clause-lost
returns-clause-lost g c = λ lost.
    lost_gives c.args.machine.machine.phase c.args.machine.calls.at c.finish-ending.result.outcome
    c.outcome-outcome.result lost
    (finishes_came c.args.machine.machine.phase (g.K.Connector.returned c.args.self.now.connector)
    (g.K.Connector.returned c.finish-ending.new.connector) c.finish-ending.result
    c.finish-ending.ensures.finishes) c.outcome-outcome.ensures
