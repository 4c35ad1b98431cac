-- A task that is moved leaves the pipe and joins the list; without memory it is lost.
use Rattle.std.proofs.Common.{List, sym, ◌∙◌, subst}
use Rattle.relay_tasks.specs.declared.task.HttpTask.{HttpTask}
use Rattle.relay_core.proofs.BatchLemmas.{Moving, moving_on, on_err, loses_after}
use Rattle.relay_core.proofs.batch.move_plain.Goals as goal

-- one more plain task moved
pub loop-pipe-preserved : goal.loop-pipe-preserved
loop-pipe-preserved c =
    let start = c.args.pipe.now in
    let next = c.take_held-task.new.self in
    let P : List HttpTask → Type 0 = λ tasks. Moving start c.args.tasks.now next tasks in
    subst P (sym c.in_ok-push.ensures.ok)
    (moving_on start c.args.tasks.now c.loop-pipe.pipe next c.loop-pipe.tasks
    c.take_held-task.result c.take_held-task.ensures
    (sym c.begins_plain.ensures ∙ c.loop-pipe-test.true) c.loop-pipe.invariant)

-- there is no memory for it
pub returns-in_err-push-clause-err : goal.returns-in_err-push-clause-err
returns-in_err-push-clause-err c =
    on_err c.from_residual.result _
    (loses_after c.args.pipe.now c.loop-pipe.pipe c.take_held-task.new.self
    c.take_held-task.result c.loop-pipe.invariant.moved c.loop-pipe.invariant.parts
    c.take_held-task.ensures)
