-- The turn and its settling are a step, but for the hooks of the end.
use Rattle.std.proofs.Common.{List, ap, inl, inr, ◌∙◌}
use Rattle.relay_connector.specs.Upstream.{upstream_state, upstream_start}
use Rattle.relay_tasks.specs.declared.log.LogEntry.{LogEntry}
use Rattle.relay_request.specs.Calls.{allowed_by, log_of}
use Rattle.relay_request.specs.Stock.{items_held}
use Rattle.relay_request.specs.Taken.{offers_of_turn}
use Rattle.relay_request.proofs.CallLemmas.{settled_calls}
use Rattle.relay_proxy.proofs.StockLemmas.{stocks_by}
use Rattle.relay_request.specs.Passed.{called_to}
use Rattle.relay_request.specs.declared.work.Work.{Work}
use Rattle.relay_turns.proofs.PurgeSteps.{settled_purger}
use Rattle.relay_turns.proofs.StepLemmas.{step_on, settled_cause}
use Rattle.relay_turns.proofs.UseLemmas.{moves_on, settled_moves, settled_uses}
use Rattle.relay_proxy.proofs.proxy.HttpProxy.advance.Goals as goal

-- a turn that was settled is a step
pub returns-clause-steps : goal.returns-clause-steps
returns-clause-steps g c =
    let link_state = upstream_state g.K.Byte.ByteLink.state g.K.Message.MessageLink.state
    g.K.Custom.MessageLink.state in
    let link_start = upstream_start g.K.Byte.ByteLink.start g.K.Message.MessageLink.start
    g.K.Custom.MessageLink.start in
    λ s p own most first calls run.
    let old = called_to s (log_of c.args.machine.now.calls) in
    let new = called_to s (log_of c.take_turn-step.new.calls) in
    rw (c.settle.ensures.faults, c.settle.ensures.refusals, c.settle.ensures.offers)
    (step_on link_state link_start old new p own _ _
    c.args.machine.now.machine.phase c.take_turn-step.new.phase c.settle.new.phase
    c.take_turn-step.result.step _ _ _ _ _ _ _
    (c.take_turn-step.ensures.turn s p own most first calls)
    (λ over. ap (λ (l : List LogEntry). called_to s l) (c.take_turn-step.ensures.still over))
    c.take_turn-step.ensures.rests c.take_turn-step.ensures.returned c.settle.ensures.settles
    c.take_turn-step.ensures.refusals c.take_turn-step.ensures.offers
    c.take_turn-step.ensures.carries c.take_turn-step.ensures.tells run
    (g.D.ByteLink.state c.args.client.now.link)
    c.args.client.now.ahead c.args.machine.now.machine.work _ c.take_turn-step.result.work
    c.plus-machine.ensures.sum (λ n had. c.take_turn-step.ensures.counts s p own n calls run had)
    (λ tasks ends had. c.take_turn-step.ensures.bounds s p own tasks ends most calls run had))

-- its cause is that of the turn
pub returns-clause-cause : goal.returns-clause-cause
returns-clause-cause g c =
    let link_state = upstream_state g.K.Byte.ByteLink.state g.K.Message.MessageLink.state
    g.K.Custom.MessageLink.state in
    let link_start = upstream_start g.K.Byte.ByteLink.start g.K.Message.MessageLink.start
    g.K.Custom.MessageLink.start in
    rw c.settle.ensures.faults
    (elim c.take_turn-step.ensures.cause [
      | inl cause ↦ inl (settled_cause link_state link_start
          (log_of c.args.machine.now.calls) _ _
          c.args.machine.now.machine.phase c.take_turn-step.new.phase c.settle.new.phase
          c.take_turn-step.result.step _ _ c.settle.ensures.settles c.take_turn-step.ensures.over
          c.take_turn-step.ensures.hands_on cause)
      | inr called ↦ inr called
    ])

-- its uses are those of the turn
pub returns-clause-uses : goal.returns-clause-uses
returns-clause-uses g c =
    let link_state = upstream_state g.K.Byte.ByteLink.state g.K.Message.MessageLink.state
    g.K.Custom.MessageLink.state in
    let link_start = upstream_start g.K.Byte.ByteLink.start g.K.Message.MessageLink.start
    g.K.Custom.MessageLink.start in
    λ s p own calls run. (
      c.take_turn-step.result.work.used,
      ap (λ (work : Work). work.used) c.plus-machine.ensures.sum,
      settled_uses link_state link_start
          c.take_turn-step.result.work.used (g.D.ByteLink.state c.args.client.now.link)
          (g.D.ByteLink.state c.take_turn-step.new.client.link) _ c.take_turn-step.new.phase
          c.settle.new.phase _ _ _ c.take_turn-step.ensures.returned c.settle.ensures.settles
          (c.take_turn-step.ensures.uses s p own calls run),
    )

-- and what it moved in an exchange
pub returns-clause-moves : goal.returns-clause-moves
returns-clause-moves g c =
    let link_state = upstream_state g.K.Byte.ByteLink.state g.K.Message.MessageLink.state
    g.K.Custom.MessageLink.state in
    let link_start = upstream_start g.K.Byte.ByteLink.start g.K.Message.MessageLink.start
    g.K.Custom.MessageLink.start in
    λ a is did.
    moves_on link_state link_start (log_of c.args.machine.now.calls)
    c.args.machine.now.machine.work _ c.take_turn-step.result.work _ _ a.value.exchange
    c.settle.new.phase c.plus-machine.ensures.sum
    (rw c.settle.ensures.faults
    (settled_moves link_state link_start (log_of c.args.machine.now.calls)
    _ _ c.take_turn-step.result.work a.value.exchange c.take_turn-step.new.phase
    c.settle.new.phase _ _ c.settle.ensures.settles (c.take_turn-step.ensures.moves a is did)))

-- what it asked the purger is what the turn asked
pub returns-clause-purger : goal.returns-clause-purger
returns-clause-purger g c = λ so_far.
    settled_purger _ _ _ _ c.take_turn-step.new.phase c.settle.new.phase _ _
    c.settle.ensures.settles (c.take_turn-step.ensures.purger so_far)

-- its calls are those of the turn, for the settling makes none
pub returns-clause-calls : goal.returns-clause-calls
returns-clause-calls g c = λ s p own most first so_far run.
    settled_calls (allowed_by (g.SV.ProxyHttp.allows c.args.self.now.inner)
    g.SV.Modules.HttpModule.allows) (g.SV.ProxyHttp.mark_of c.args.self.now.inner)
    c.take_turn-step.new.calls c.take_turn-step.new.phase c.settle.new.phase _ _
    c.settle.ensures.settles (c.take_turn-step.ensures.calls s p own most first so_far run)

-- what it took of the connector's links is what the turn took
pub returns-clause-stock : goal.returns-clause-stock
returns-clause-stock g c =
    let link_start = upstream_start g.K.Byte.ByteLink.start g.K.Message.MessageLink.start
    g.K.Custom.MessageLink.start in
    stocks_by link_start (g.K.Connector.returned c.args.self.now.connector)
    (g.K.Connector.returned c.settle.new.connector)
    (items_held link_start c.args.machine.now.machine.phase)
    (items_held link_start c.settle.new.phase)
    (g.K.Connector.stock c.args.self.now.connector) (g.K.Connector.stock c.settle.new.connector)
    (offers_of_turn link_start c.args.machine.now.machine.phase c.take_turn-step.new.phase)
    (rw c.settle.ensures.offers c.take_turn-step.ensures.offers)
    (c.settle.ensures.links ∙ c.take_turn-step.ensures.links)
