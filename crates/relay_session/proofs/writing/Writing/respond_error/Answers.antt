use Rattle.std.proofs.Common.{true, sym, ◌∙◌}
use Rattle.relay_tasks.specs.declared.task.HttpTask.TheVariants as task
use Rattle.relay_session.proofs.AnswerLemmas.{place_before, answer_queued, answer_failure, answer_kept, answer_text}
use Rattle.relay_session.proofs.ResponseLemmas.{takes_queued}
use Rattle.relay_session.proofs.writing.Writing.respond_error.Goals as goal

pub returns-clause-ok : goal.returns-clause-ok
returns-clause-ok c =
    answer_queued c.queue_head.result c.args.self.now c.queue_head.new.self c.args.code
    c.in_ok-head.head c.in_ok-alloc.ensures.fits
    (place_before c.args.self.now.place
    (sym c.response_written.ensures ∙ c.if-response_written.false))
    c.in_ok-head.ensures.ok
    (takes_queued c.args.self.now.output c.args.self.now c.queue_head.new.self
    (task.Header c.in_ok-head.head true) c.queue_head.result c.queue_head.ensures)

pub returns-clause-text : goal.returns-clause-text
returns-clause-text c =
    answer_text c.queue_head.result c.args.self.now c.queue_head.new.self c.args.code
    c.in_ok-head.head c.in_ok-head.ensures.ok
    (takes_queued c.args.self.now.output c.args.self.now c.queue_head.new.self
    (task.Header c.in_ok-head.head true) c.queue_head.result c.queue_head.ensures)

pub returns-clause-err : goal.returns-clause-err
returns-clause-err c =
    answer_failure c.queue_head.result c.args.self.now c.queue_head.new.self c.args.code
    c.in_ok-head.head _
    (place_before c.args.self.now.place
    (sym c.response_written.ensures ∙ c.if-response_written.false))
    c.in_ok-head.ensures.ok c.queue_head.ensures

pub returns-clause-kept : goal.returns-clause-kept
returns-clause-kept c =
    answer_kept c.queue_head.result c.args.self.now c.queue_head.new.self c.args.code
    c.in_ok-head.head _ c.in_ok-alloc.ensures.fits
    (place_before c.args.self.now.place
    (sym c.response_written.ensures ∙ c.if-response_written.false))
    c.in_ok-head.ensures.ok c.queue_head.ensures
