use Rattle.std.proofs.Common.{sym, ◌∙◌}
use Rattle.std.proofs.lemmas.Result.{err_from_is_err_and}
use Rattle.relay_session.proofs.AnswerLemmas.{place_before, stops_before, body_answer_failure}
use Rattle.relay_session.proofs.writing.Writing.respond_error_with_body.Goals as goal

pub returns-in_err-tasks-clause-err : goal.returns-in_err-tasks-clause-err
returns-in_err-tasks-clause-err c =
    let failure =
    err_from_is_err_and c.from_residual-in_err-tasks.result
    c.from_residual-in_err-tasks.ensures.1 in
    stops_before c.from_residual-in_err-tasks.result c.args.self.now c.args.code c.args.body
    c.in_ok-alloc.ensures.ok c.in_ok-alloc.ensures.fits
    (place_before c.args.self.now.place
    (sym c.response_written.ensures ∙ c.if-response_written.false))
    (rw (failure.1, failure.2) c.in_err-tasks.ensures.memory)

pub returns-clause-memory : goal.returns-clause-memory
returns-clause-memory c =
    body_answer_failure c.queue_tasks.result c.args.self.now c.queue_tasks.new.self c.args.code
    c.args.body c.in_ok-tasks.tasks c.in_ok-tasks.ensures.fits
    (place_before c.args.self.now.place
    (sym c.response_written.ensures ∙ c.if-response_written.false))
    c.in_ok-alloc.ensures.ok c.in_ok-tasks.ensures.ok c.queue_tasks.ensures.err
