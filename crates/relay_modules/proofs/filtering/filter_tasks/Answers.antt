use Rattle.std.proofs.Common.{List, subst}
use Rattle.relay_tasks.specs.declared.task.HttpTask.{HttpTask}
use Rattle.relay_modules.proofs.FilteringLemmas.{HasFiltered, HasFiltered-more, HasFiltered-fails, Passes-widen}
use Rattle.relay_modules.proofs.filtering.filter_tasks.Goals as goal

pub returns-in-Err-clause-filters : goal.returns-in-Err-clause-filters
returns-in-Err-clause-filters g c =
    HasFiltered-fails (g.M.HttpModule.allows c.loop-task.modules)
    (g.M.HttpModule.allows c.args.modules.now) c.loop-task.invariant.1 c.args.tasks
    c.take_first.new.self c.loop-task.made c.in-Some.task c.in-Err.fail
    (subst (λ (l : List HttpTask). HasFiltered (g.M.HttpModule.allows c.args.modules.now)
    c.args.tasks l c.loop-task.made) c.in-Some.ensures c.loop-task.invariant.0)
    c.in-Err.ensures.filters

pub loop-task-preserved : goal.loop-task-preserved
loop-task-preserved g c = (
  rw c.in_ok-push-in-Ok.ensures.ok
      (HasFiltered-more (g.M.HttpModule.allows c.args.modules.now) c.args.tasks
      c.take_first.new.self c.loop-task.made c.in-Some.task c.in-Ok.one
      (subst (λ (l : List HttpTask). HasFiltered (g.M.HttpModule.allows c.args.modules.now)
      c.args.tasks l c.loop-task.made) c.in-Some.ensures c.loop-task.invariant.0)
      (Passes-widen (g.M.HttpModule.allows c.loop-task.modules)
      (g.M.HttpModule.allows c.args.modules.now) c.loop-task.invariant.1 c.in-Some.task c.in-Ok.one
      c.in-Ok.ensures.filters)),
  λ call h. c.loop-task.invariant.1 call (c.filter_task.ensures.narrows call h),
)
