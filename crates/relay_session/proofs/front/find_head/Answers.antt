-- The verdict on the bytes ahead is the answer.
use Rattle.std.proofs.Common.{ap}
use Rattle.relay_h1.proofs.HeadEndLemmas.{head_end-within}
use Rattle.relay_session.proofs.FrontLemmas.{fails_to_find}
use Rattle.relay_session.proofs.front.find_head.Goals as goal

pub take_head-requires : goal.take_head-requires
take_head-requires g c =
    let has = rw c.in-Ok-Some.field-0-is at c.in-Ok-Some.ensures.verdict in
    rw c.judge_request.ensures.same (head_end-within _ _ has.starts.ends).1

pub returns-in-Err-clause-answer : goal.returns-in-Err-clause-answer
returns-in-Err-clause-answer g c =
    fails_to_find c.args.client.now.ahead _ c.in-Err.fail
    (ap (λ client. client.ahead) c.judge_request.ensures.same) c.in-Err.ensures.verdict
