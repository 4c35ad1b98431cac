-- Where a head stood nothing changes; the head that a call gives is the one that is answered.
use Rattle.std.proofs.Common.{◌≡◌, refl, ap}
use Rattle.relay_session.specs.declared.reading.Reading.TheVariants as reading
use Rattle.relay_session.specs.Reading.{head_of}
use Rattle.relay_session.proofs.ReadingLemmas.{head_stays, is_head}
use Rattle.relay_session.proofs.SessionLemmas.{answers_on, answers_head}
use Rattle.relay_session.proofs.session.HttpSession.read_request.Goals as goal

pub returns-then-has_head-clause-goes : goal.returns-then-has_head-clause-goes
returns-then-has_head-clause-goes g c = λ given body so_far.
    head_stays _ given body _ c.args.self.now.reading (c.has_head.ensures.0 c.if-has_head.true)
    so_far

pub returns-then-has_head-clause-answers : goal.returns-then-has_head-clause-answers
returns-then-has_head-clause-answers g c = λ given body reads answers.
    answers_on given reads.came c.args.self.now.reading c.args.self.now.reading
    c.args.self.now.writing refl answers

pub returns-clause-answers : goal.returns-clause-answers
returns-clause-answers g c =
    let is : c.args.self.now.reading ≡ reading.Head =
    is_head c.args.self.now.reading c.has_head.result c.has_head.ensures.1 c.if-has_head.false in
    rw (is, c.answer_head.ensures.reading) (λ given body reads answers.
    answers_head _ _ given body _ c.args.self.now.writing c.answer_head.new.self.writing
    c.read_request-took.new.self c.read_request-took.result reads
    (c.read_request-took.ensures.begins (ap head_of is)) c.answer_head.ensures.sets answers)
