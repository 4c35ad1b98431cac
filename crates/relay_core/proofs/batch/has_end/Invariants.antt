-- The tasks that are left say whether one of all ends the response.
use Rattle.std.proofs.Common.{◌≡◌, drop}
use Rattle.std.specs.List.{list_any}
use Rattle.relay_tasks.specs.Task.{is_end}
use Rattle.relay_core.proofs.batch.has_end.Given as goal

-- no task before the place is an end
abbrev pub invariant-loop-at : goal.invariant-loop-at
invariant-loop-at l = list_any is_end (drop l.at l.tasks) ≡ list_any is_end l.fn.tasks
