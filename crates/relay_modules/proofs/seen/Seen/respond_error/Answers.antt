use Rattle.std.proofs.lemmas.Result.{err_from_is_err_and}
use Rattle.relay_session.specs.Generated.{answer_tasks}
use Rattle.relay_modules.proofs.NoteLemmas.{Notes-answer, Responds-memory, Responds-fails}
use Rattle.relay_modules.proofs.seen.Seen.respond_error.Goals as goal

pub returns-in_err-answer-clause-answers : goal.returns-in_err-answer-clause-answers
returns-in_err-answer-clause-answers c =
    let failure = err_from_is_err_and c.from_residual.result c.from_residual.ensures.1 in
    rw (failure.1, failure.2)
    (Responds-memory
    (answer_tasks c.args.self.now.downstream.writing.place c.args.code) c.args.self.now _
    c.in_err-answer.ensures.memory)

pub returns-in_err-wrote-clause-answers : goal.returns-in_err-wrote-clause-answers
returns-in_err-wrote-clause-answers c =
    let failure =
    err_from_is_err_and c.from_residual-in_err-wrote.result
    c.from_residual-in_err-wrote.ensures.1 in
    rw (failure.1, failure.2)
    (Responds-memory
    (answer_tasks c.args.self.now.downstream.writing.place c.args.code) c.args.self.now _
    c.in_err-wrote.ensures.memory)

pub returns-clause-answers : goal.returns-clause-answers
returns-clause-answers c =
    Notes-answer (answer_tasks c.args.self.now.downstream.writing.place c.args.code)
    c.args.self.now c.respond_error.new.self c.in_ok-wrote.wrote
    c.in_ok-respond_error.ensures.ok c.in_ok-respond_error.ensures.reading
    (rw (← c.in_ok-answer.ensures.ok) c.in_ok-wrote.ensures.ok)
