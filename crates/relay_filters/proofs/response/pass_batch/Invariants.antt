use Rattle.std.proofs.Common.{length, IsSome}
use Rattle.relay_calls.specs.Log.{IsAllowed}
use Rattle.relay_filters.specs.Chain.{ModuleChain}
use Rattle.relay_filters.specs.Response.{IsModules, SomeAllow}
use Rattle.relay_filters.proofs.OutcomeLemmas.{SoFar}
use Rattle.relay_filters.proofs.response.pass_batch.Given as goal

-- the tasks so far passed, and modules stand
abbrev pub invariant-loop-task : goal.invariant-loop-task
invariant-loop-task g l = record {
  passed : SoFar (IsAllowed (g.SV.ProxyHttp.allows l.fn.app)
      (SomeAllow g.SV.Modules.HttpModule.allows)) ModuleChain IsModules l.fn.tasks l.tasks
      l.passed l.fn.session.seen (g.SV.ProxyHttp.mark_of l.fn.app l.fn.ctx) l.session.seen
      (g.SV.ProxyHttp.mark_of l.fn.app l.fn.ctx);
  stand : IsSome l.session.modules;
}

abbrev pub decreases-loop-task : goal.decreases-loop-task
decreases-loop-task g l = length l.tasks
