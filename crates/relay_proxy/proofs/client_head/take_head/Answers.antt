-- A head that the entry check refuses, and a request for a tunnel, are given their answers.
use Rattle.std.proofs.Common.{refl, ap, ◌∙◌, Some}
use Rattle.relay_tasks.specs.declared.Error.{Error}
use Rattle.relay_tasks.specs.declared.ErrorSource.TheVariants.{Downstream}
use Rattle.relay_request.specs.Endings as endings
use Rattle.relay_request.specs.Calls.{log_of}
use Rattle.relay_request.specs.Passed.{opened_to}
use Rattle.relay_request.specs.Turn.{world_of}
use Rattle.relay_request.proofs.CallLemmas.{unopened_calls}
use Rattle.relay_proxy.proofs.client_head.take_head.Goals as goal

-- a head that the entry check refuses is turned down, for the first line that applies
pub returns-in-Err-clause-run : goal.returns-in-Err-clause-run
returns-in-Err-clause-run g c = λ s p faults none run has.
    let refused = c.in-Err.ensures in
    c.give_answer.ensures.run (opened_to s (log_of c.args.calls.now)) p _ run
    (endings.IsTurnedDown.is_not_entered c.args.read.head c.args.read.framing c.args.read.len
    refused.0 has refused.2 refl
    (ap Some (c.into_down.ensures
    ∙ ap (λ (e : Error). record e { esource = Downstream }) refused.1)))

-- its cause is that of the answer
pub returns-in-Err-clause-cause : goal.returns-in-Err-clause-cause
returns-in-Err-clause-cause g c = λ log faults.
    let w = world_of g.D.ByteLink.state c.args.client.now faults in
    c.give_answer.ensures.cause log w w

-- a request for a tunnel is turned down
pub returns-then-is_connect-clause-run : goal.returns-then-is_connect-clause-run
returns-then-is_connect-clause-run g c = λ s p faults none run has.
    c.give_answer-then-is_connect.ensures.run (opened_to s (log_of c.args.calls.now)) p _ run
    (endings.IsTurnedDown.asks_to_connect c.args.read.head c.args.read.framing c.args.read.len has
    c.in_default.ensures (c.if-is_connect.ensures.0 refl) refl refl)

-- the cause is that of the answer
pub returns-then-is_connect-clause-cause : goal.returns-then-is_connect-clause-cause
returns-then-is_connect-clause-cause g c = λ log faults.
    let w = world_of g.D.ByteLink.state c.args.client.now faults in
    c.give_answer-then-is_connect.ensures.cause log w w

-- any other is looked at further
pub returns-clause-run : goal.returns-clause-run
returns-clause-run g c = λ s p faults none run has.
    c.accept_head.ensures.run s p faults none run has c.in_default.ensures
    (λ asks. let clash = c.if-is_connect.ensures.1 asks in cc)

-- no hook is called for a head that is refused
pub returns-in-Err-clause-calls : goal.returns-in-Err-clause-calls
returns-in-Err-clause-calls g c = λ none.
    unopened_calls _ _ c.args.calls.now c.give_answer.result.phase none
    c.give_answer.ensures.refuses

-- nor for a request for a tunnel
pub returns-then-is_connect-clause-calls : goal.returns-then-is_connect-clause-calls
returns-then-is_connect-clause-calls g c = λ none.
    unopened_calls _ _ c.args.calls.now c.give_answer-then-is_connect.result.phase none
    c.give_answer-then-is_connect.ensures.refuses
