use Rattle.std.proofs.Common.{length}
use Rattle.relay_session.proofs.ResponseLemmas.{HasQueued}
use Rattle.relay_session.proofs.writing.Writing.queue_tasks.Given as goal

-- the tasks so far were queued
abbrev pub invariant-loop-task : goal.invariant-loop-task
invariant-loop-task l = HasQueued l.fn.self l.self l.fn.tasks l.tasks

abbrev pub decreases-loop-task : goal.decreases-loop-task
decreases-loop-task l = length l.tasks
