-- Each answer of the client is one of the session.
use Rattle.std.proofs.Common.{◌≡◌}
use Rattle.relay_session.specs.declared.reading.Reading.TheVariants as reading
use Rattle.relay_session.proofs.ReadingLemmas.{head_came, head_stays, head_grew, head_waits, head_ends, head_failed, is_head}
use Rattle.relay_session.proofs.reading.Reading.read_request.Goals as goal

pub returns-then-has_head-clause-goes : goal.returns-then-has_head-clause-goes
returns-then-has_head-clause-goes g c = λ given body so_far.
    head_stays _ given body _ c.args.self.now (c.has_head.ensures.0 c.if-has_head.true) so_far

pub returns-in-Item-clause-goes : goal.returns-in-Item-clause-goes
returns-in-Item-clause-goes g c =
    let is : c.args.self.now ≡ reading.Head =
    is_head c.args.self.now c.has_head.result c.has_head.ensures.1 c.if-has_head.false in
    let gives = c.in-Item.ensures.answer in
    rw is (λ given body so_far.
    head_came _ _ given body (g.F.Front.ahead c.args.client.now) _ c.in-Item.head c.in-Item._ends
    c.begun.result so_far gives (c.begun.ensures gives.framing gives.has.framed))

pub returns-in-Failed-clause-goes : goal.returns-in-Failed-clause-goes
returns-in-Failed-clause-goes g c =
    let is : c.args.self.now ≡ reading.Head =
    is_head c.args.self.now c.has_head.result c.has_head.ensures.1 c.if-has_head.false in
    rw is (λ given body so_far.
    head_failed _ _ given body (g.F.Front.ahead c.args.client.now) _ c.in-Failed.fail so_far
    c.in-Failed.ensures.answer)

pub returns-in-More-clause-goes : goal.returns-in-More-clause-goes
returns-in-More-clause-goes g c =
    let is : c.args.self.now ≡ reading.Head =
    is_head c.args.self.now c.has_head.result c.has_head.ensures.1 c.if-has_head.false in
    rw is (λ given body so_far.
    head_grew _ _ given body (g.F.Front.ahead c.args.client.now) _ so_far
    c.in-More.ensures.answer)

pub returns-in-Waited-clause-goes : goal.returns-in-Waited-clause-goes
returns-in-Waited-clause-goes g c =
    let is : c.args.self.now ≡ reading.Head =
    is_head c.args.self.now c.has_head.result c.has_head.ensures.1 c.if-has_head.false in
    rw is (λ given body so_far.
    head_waits _ _ given body (g.F.Front.ahead c.args.client.now) _ c.in-Waited.pause so_far
    c.in-Waited.ensures.answer)

pub returns-in-End-clause-goes : goal.returns-in-End-clause-goes
returns-in-End-clause-goes g c =
    let is : c.args.self.now ≡ reading.Head =
    is_head c.args.self.now c.has_head.result c.has_head.ensures.1 c.if-has_head.false in
    rw is (λ given body so_far.
    head_ends _ _ given body (g.F.Front.ahead c.args.client.now) _ so_far
    c.in-End.ensures.answer)
