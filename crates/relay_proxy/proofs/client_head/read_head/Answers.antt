-- The verdict is on the client's bytes as they stood.
use Rattle.std.proofs.Common.{refl}
use Rattle.relay_h1.proofs.HeadEndLemmas.{head_end-within}
use Rattle.relay_request.specs.Endings as endings
use Rattle.relay_request.specs.Calls.{log_of}
use Rattle.relay_request.specs.Passed.{opened_to}
use Rattle.relay_request.specs.Turn.{world_of}
use Rattle.relay_request.proofs.CallLemmas.{none_logged, unopened_calls}
use Rattle.relay_proxy.proofs.client_head.read_head.Goals as goal

-- a head that was found lies within the client's bytes
pub take_head-requires : goal.take_head-requires
take_head-requires g c =
    let verdict = rw c.in-Ok-Some.field-0-is at c.in-Ok-Some.ensures.verdict in
    rw c.judge_request.ensures.same (head_end-within _ _ verdict.starts.ends).1

-- an open head is read on
pub returns-in-Ok-None-clause-run : goal.returns-in-Ok-None-clause-run
returns-in-Ok-None-clause-run g c = λ s p faults none run.
    (rw c.judge_request.ensures.same at
    (c.await_head.ensures.run (opened_to s (log_of c.args.calls.now)) p faults)) run
    (rw c.in-Ok-None.field-0-is at c.in-Ok-None.ensures.verdict)

-- and no hook is called for it
pub returns-in-Ok-None-clause-calls : goal.returns-in-Ok-None-clause-calls
returns-in-Ok-None-clause-calls g c = λ none.
    unopened_calls _ _ c.args.calls.now c.await_head.result.phase none
    c.await_head.ensures.refuses

-- nor for a bad one
pub returns-in-Err-Error-clause-calls : goal.returns-in-Err-Error-clause-calls
returns-in-Err-Error-clause-calls g c = λ none.
    unopened_calls _ _ c.args.calls.now c.give_answer.result.phase none
    c.give_answer.ensures.refuses

-- nor out of memory
pub returns-in-Err-OutOfMemory-clause-calls : goal.returns-in-Err-OutOfMemory-clause-calls
returns-in-Err-OutOfMemory-clause-calls g c = λ none.
    rw c.out_of_memory.ensures.phase (none_logged _ _ none)

-- a bad head is turned down
pub returns-in-Err-Error-clause-run : goal.returns-in-Err-Error-clause-run
returns-in-Err-Error-clause-run g c = λ s p faults none run.
    let verdict = rw c.in-Err-Error.field-0-is at c.in-Err-Error.ensures.verdict in
    rw c.judge_request.ensures.same
    (c.give_answer.ensures.run (opened_to s (log_of c.args.calls.now)) p
    (world_of g.D.ByteLink.state c.args.client.now faults) run
    (endings.IsTurnedDown.has_bad_head verdict.0 verdict.2 refl
    (rw verdict.1 refl)))

-- an open head has the cause of its read
pub returns-in-Ok-None-clause-cause : goal.returns-in-Ok-None-clause-cause
returns-in-Ok-None-clause-cause g c = λ log faults.
    (rw c.judge_request.ensures.same at (c.await_head.ensures.cause log faults))
    (rw c.in-Ok-None.field-0-is at c.in-Ok-None.ensures.verdict)

-- a head that was found has the cause of its taking
pub returns-in-Ok-Some-clause-cause : goal.returns-in-Ok-Some-clause-cause
returns-in-Ok-Some-clause-cause g c = λ log faults.
    rw c.judge_request.ensures.same at (c.take_head.ensures.cause log faults)

-- a bad head has the cause of its answer
pub returns-in-Err-Error-clause-cause : goal.returns-in-Err-Error-clause-cause
returns-in-Err-Error-clause-cause g c = λ log faults.
    c.give_answer.ensures.cause log (world_of g.D.ByteLink.state c.args.client.now faults)
    (world_of g.D.ByteLink.state c.judge_request.new.self faults)
