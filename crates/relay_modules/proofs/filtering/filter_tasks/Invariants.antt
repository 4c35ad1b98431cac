use Rattle.std.proofs.Common.{length}
use Rattle.relay_modules.specs.Module.{ModuleCall}
use Rattle.relay_modules.proofs.FilteringLemmas.{HasFiltered}
use Rattle.relay_modules.proofs.filtering.filter_tasks.Given as goal

-- the tasks so far passed, and the modules allow no more than at first
abbrev pub invariant-loop-task : goal.invariant-loop-task
invariant-loop-task g l =
    HasFiltered (g.M.HttpModule.allows l.fn.modules) l.fn.tasks l.tasks l.made
    × ((call : ModuleCall) → g.M.HttpModule.allows l.modules call
    → g.M.HttpModule.allows l.fn.modules call)

abbrev pub decreases-loop-task : goal.decreases-loop-task
decreases-loop-task g l = length l.tasks
