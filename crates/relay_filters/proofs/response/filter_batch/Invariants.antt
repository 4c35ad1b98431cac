use Rattle.std.proofs.Common.{length}
use Rattle.relay_calls.specs.Log.{IsAllowed}
use Rattle.relay_filters.specs.Chain.{TaskChain}
use Rattle.relay_filters.specs.Response.{IsApps, SomeAllow}
use Rattle.relay_filters.proofs.OutcomeLemmas.{SoFar}
use Rattle.relay_filters.proofs.response.filter_batch.Given as goal

-- the tasks so far passed
abbrev pub invariant-loop-task : goal.invariant-loop-task
invariant-loop-task g l =
    SoFar (IsAllowed (g.SV.ProxyHttp.allows l.fn.app)
    (SomeAllow g.SV.Modules.HttpModule.allows))
    (TaskChain l.fn.of_head) IsApps l.fn.tasks l.tasks l.filtered l.fn.session.seen
    (g.SV.ProxyHttp.mark_of l.fn.app l.fn.ctx) l.session.seen
    (g.SV.ProxyHttp.mark_of l.fn.app l.ctx)

abbrev pub decreases-loop-task : goal.decreases-loop-task
decreases-loop-task g l = length l.tasks
