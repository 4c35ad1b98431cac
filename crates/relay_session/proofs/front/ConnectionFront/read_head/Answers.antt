-- The verdict on the bytes ahead is the answer, where it stands.
use Rattle.std.proofs.Common.{ap, ◌∙◌, drop}
use Rattle.relay_h1.proofs.HeadEndLemmas.{head_end-within}
use Rattle.relay_session.proofs.FrontLemmas.{stood_ahead, refused_ahead}
use Rattle.relay_session.proofs.front.ConnectionFront.read_head.Goals as goal

pub take_head-requires : goal.take_head-requires
take_head-requires g c =
    let has = rw c.in-Ok-Some.field-0-is at c.in-Ok-Some.ensures.verdict in
    rw c.judge_request.ensures.same (head_end-within _ _ has.starts.ends).1

pub returns-in-Ok-Some-clause-answer : goal.returns-in-Ok-Some-clause-answer
returns-in-Ok-Some-clause-answer g c =
    let has = rw c.in-Ok-Some.field-0-is at c.in-Ok-Some.ensures.verdict in
    rw c.take_head.ensures.head
    (stood_ahead _ _ c.args.self.now.ahead _ c.in-Ok-Some.read.head c.in-Ok-Some.read.framing
    c.in-Ok-Some.read.len _ (ap (λ client. g.D.ByteLink.state client.link) c.take_head.ensures.after
    ∙ ap (λ client. g.D.ByteLink.state client.link) c.judge_request.ensures.same) has
    c.take_head.ensures.ends
    (ap (λ client. client.ahead) c.take_head.ensures.after
    ∙ ap (λ client. drop c.in-Ok-Some.read.len client.ahead) c.judge_request.ensures.same))

pub returns-in-Err-clause-answer : goal.returns-in-Err-clause-answer
returns-in-Err-clause-answer g c =
    refused_ahead _ _ c.args.self.now.ahead _ c.in-Err.fail
    (ap (λ client. g.D.ByteLink.state client.link) c.judge_request.ensures.same)
    (ap (λ client. client.ahead) c.judge_request.ensures.same) c.in-Err.ensures.verdict
