-- The head stays, so the response answers the same request.
use Rattle.relay_session.proofs.SessionLemmas.{answers_on}
use Rattle.relay_session.proofs.session.HttpSession.read_body_or_idle.Goals as goal

pub returns-clause-answers : goal.returns-clause-answers
returns-clause-answers g c = λ given came answers.
    answers_on given came c.args.self.now.reading c.read_body_or_idle.new.self
    c.args.self.now.writing c.read_body_or_idle.ensures.head answers
