-- What was moved and what is still to be moved is the front of the pipe; its rest stays.
use Rattle.std.proofs.Common.{length}
use Rattle.relay_core.proofs.BatchLemmas.{Moving}
use Rattle.relay_core.proofs.batch.move_plain.Given as goal

-- what moved and what is left are what was held
abbrev pub invariant-loop-pipe : goal.invariant-loop-pipe
invariant-loop-pipe l = Moving l.fn.pipe l.fn.tasks l.pipe l.tasks

-- one task fewer is left
abbrev pub decreases-loop-pipe : goal.decreases-loop-pipe
decreases-loop-pipe l = length l.pipe.tasks
