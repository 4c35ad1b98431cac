use Rattle.std.proofs.Common.{arith}
use Rattle.relay_tasks.specs.declared.task.HttpTask.TheVariants as task
use Rattle.relay_session.proofs.ResponseLemmas.{takes_queued, takes_failure, takes_kept, bare_end}
use Rattle.relay_session.proofs.writing.Writing.finish_body.Goals as goal

pub returns-clause-ok : goal.returns-clause-ok
returns-clause-ok c =
    takes_queued c.args.self.now.output c.args.self.now c.queue_end.new.self task.Done
    c.queue_end.result c.queue_end.ensures

pub returns-clause-err : goal.returns-clause-err
returns-clause-err c =
    takes_failure _ _ _ _ _ _ c.queue_end.result c.queue_end.ensures

pub returns-clause-kept : goal.returns-clause-kept
returns-clause-kept c =
    takes_kept _ _ _ _ _ _ c.queue_end.result (omega arith) (bare_end c.args.self.now.place)
    c.queue_end.ensures
