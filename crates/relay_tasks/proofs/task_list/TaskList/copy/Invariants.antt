use Rattle.std.proofs.Common.{◌≡◌, map}
use Rattle.relay_tasks.proofs.task_list.TaskList.copy.Given as goal

-- the copy so far is what the loop has gone over
abbrev pub invariant-loop-task : goal.invariant-loop-task
invariant-loop-task l = l.copy ≡ map (λ task. task.now) l.yielded
