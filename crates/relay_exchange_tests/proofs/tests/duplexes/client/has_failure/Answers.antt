-- The task at a place is the first of those that are left.
use Rattle.std.proofs.Common.{◌∙◌, sym, arith}
use Rattle.relay_core.specs.Pipe.{is_failure}
use Rattle.relay_core.proofs.BatchLemmas.{any_found, any_passed, none_within}
use Rattle.relay_exchange_tests.proofs.tests.duplexes.client.has_failure.Goals as goal
use Rattle.relay_exchange_tests.proofs.tests.duplexes.client.has_failure.Goals.{in-Some+else-is_failure, in_default}

-- the task at the place is a failure
pub returns-then-is_failure : goal.returns-then-is_failure
returns-then-is_failure c =
    sym (any_found is_failure c.args.tasks.now c.loop-at.at c.in-Some.task.now c.in-Some.ensures
    (sym c.is_failure.ensures ∙ c.if-is_failure.true)) ∙ c.loop-at.invariant

-- it is none, or no task is left
pub loop-at-preserved : goal.loop-at-preserved
loop-at-preserved c =
    elim c.match-get.branch [
      | in-Some+else-is_failure w ↦
          any_passed is_failure c.args.tasks.now c.loop-at.at w.in-Some.task.now w.in-Some.ensures
          (sym w.is_failure.ensures ∙ w.if-is_failure.false) ∙ c.loop-at.invariant
      | in_default w ↦
          absurd (none_within c.args.tasks.now c.loop-at.at w.in_default.ensures (omega arith))
    ]
