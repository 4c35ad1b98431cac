use Rattle.std.proofs.Common.{arith, subst, List}
use Rattle.relay_tasks.specs.declared.task.HttpTask.{HttpTask}
use Rattle.relay_session.proofs.ResponseLemmas.{HasQueued, HasQueued-none, HasQueued-more}
use Rattle.relay_session.proofs.writing.Writing.queue_tasks.Goals as goal

pub loop-task-init : goal.loop-task-init
loop-task-init c = HasQueued-none c.args.self.now c.args.tasks c.requires (omega arith)

pub loop-task-preserved : goal.loop-task-preserved
loop-task-preserved c =
    HasQueued-more c.args.self.now c.loop-task.self c.queue_task.new.self c.args.tasks
    c.take_first.new.self c.in-Some.task
    (subst (λ (l : List HttpTask). HasQueued c.args.self.now c.loop-task.self c.args.tasks l)
    c.in-Some.ensures c.loop-task.invariant)
    c.in_ok-queue_task.ensures.ok
