-- The task at a place is the first of those that are left.
use Rattle.std.proofs.Common.{◌∙◌, sym, arith}
use Rattle.relay_tasks.specs.Task.{is_end}
use Rattle.relay_core.proofs.BatchLemmas.{any_found, any_passed, none_within}
use Rattle.relay_core.proofs.batch.has_end.Goals as goal
use Rattle.relay_core.proofs.batch.has_end.Goals.{in-Some+else-is_end, in_default}

-- the task at the place is an end
pub returns-then-is_end : goal.returns-then-is_end
returns-then-is_end c =
    sym (any_found is_end c.args.tasks.now c.loop-at.at c.in-Some.task.now c.in-Some.ensures
    (sym c.is_end.ensures ∙ c.if-is_end.true)) ∙ c.loop-at.invariant

-- it is none, or no task is left
pub loop-at-preserved : goal.loop-at-preserved
loop-at-preserved c =
    elim c.match-get.branch [
      | in-Some+else-is_end w ↦
          any_passed is_end c.args.tasks.now c.loop-at.at w.in-Some.task.now w.in-Some.ensures
          (sym w.is_end.ensures ∙ w.if-is_end.false) ∙ c.loop-at.invariant
      | in_default w ↦
          absurd (none_within c.args.tasks.now c.loop-at.at w.in_default.ensures (omega arith))
    ]
