use Rattle.std.proofs.Common.{false, arith}
use Rattle.relay_tasks.specs.declared.task.HttpTask.TheVariants as task
use Rattle.relay_session.proofs.ResponseLemmas.{takes_queued, takes_failure, takes_kept, bare_head}
use Rattle.relay_session.proofs.writing.Writing.write_response_header.Goals as goal

pub returns-clause-ok : goal.returns-clause-ok
returns-clause-ok c =
    takes_queued c.args.self.now.output c.args.self.now c.queue_head.new.self
    (task.Header c.args.head false) c.queue_head.result c.queue_head.ensures

pub returns-clause-err : goal.returns-clause-err
returns-clause-err c =
    takes_failure _ _ _ _ _ _ c.queue_head.result c.queue_head.ensures

pub returns-clause-kept : goal.returns-clause-kept
returns-clause-kept c =
    takes_kept _ _ _ _ _ _ c.queue_head.result (omega arith)
    (bare_head c.args.self.now.request c.args.self.now.place c.args.head) c.queue_head.ensures
