use Rattle.std.proofs.Common.{◌≡◌, ◌++◌, length}
use Rattle.relay_modules.proofs.seen.noted.Given as goal

-- what was noted and what is left are all of them
abbrev pub invariant-loop-task : goal.invariant-loop-task
invariant-loop-task l = l.all ++ l.rest ≡ l.fn.wrote ++ l.fn.more

abbrev pub decreases-loop-task : goal.decreases-loop-task
decreases-loop-task l = length l.rest
