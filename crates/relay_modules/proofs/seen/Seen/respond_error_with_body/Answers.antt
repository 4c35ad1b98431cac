use Rattle.std.proofs.lemmas.Result.{err_from_is_err_and}
use Rattle.relay_session.specs.Generated.{body_answer_tasks}
use Rattle.relay_modules.proofs.NoteLemmas.{Notes-answer, RespondsWith-memory, RespondsWith-fails}
use Rattle.relay_modules.proofs.seen.Seen.respond_error_with_body.Goals as goal

pub returns-in_err-answer : goal.returns-in_err-answer
returns-in_err-answer c =
    let failure = err_from_is_err_and c.from_residual.result c.from_residual.ensures.1 in
    rw (failure.1, failure.2)
    (record {
      answers = RespondsWith-memory
          (body_answer_tasks c.args.self.now.downstream.writing.place c.args.code c.args.body)
          c.args.self.now _
          c.in_err-answer.ensures.memory;
    })

pub returns-in_err-wrote : goal.returns-in_err-wrote
returns-in_err-wrote c =
    let failure =
    err_from_is_err_and c.from_residual-in_err-wrote.result
    c.from_residual-in_err-wrote.ensures.1 in
    rw (failure.1, failure.2)
    (record {
      answers = RespondsWith-memory
          (body_answer_tasks c.args.self.now.downstream.writing.place c.args.code c.args.body)
          c.args.self.now _
          c.in_err-wrote.ensures.memory;
    })

pub returns : goal.returns
returns c =
    record {
      answers = Notes-answer
          (body_answer_tasks c.args.self.now.downstream.writing.place c.args.code c.args.body)
          c.args.self.now c.respond_error_with_body.new.self c.in_ok-wrote.wrote
          c.in_ok-respond_error_with_body.ensures.ok c.in_ok-respond_error_with_body.ensures.reading
          (rw (← c.in_ok-answer.ensures.ok) c.in_ok-wrote.ensures.ok);
    }

pub returns-in_err-respond_error_with_body :
    goal.returns-in_err-respond_error_with_body
returns-in_err-respond_error_with_body c =
    let failure =
    err_from_is_err_and c.from_residual-in_err-respond_error_with_body.result
    c.from_residual-in_err-respond_error_with_body.ensures.1 in
    rw (failure.1, failure.2)
    (record {
      answers = RespondsWith-fails
          (body_answer_tasks c.args.self.now.downstream.writing.place c.args.code c.args.body)
          c.args.self.now c.respond_error_with_body.new.self _
          c.in_err-respond_error_with_body.ensures.memory
          c.in_err-respond_error_with_body.ensures.err
          c.in_err-respond_error_with_body.ensures.reading;
    })
