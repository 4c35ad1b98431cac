-- Each task passes behind the others, up to the first that does not.
use Rattle.std.proofs.Common.{[]}
use Rattle.std.proofs.lemmas.Result.{err_from_is_err_and}
use Rattle.relay_filters.specs.Chain.{ModuleChain, ModuleFeeds}
use Rattle.relay_filters.specs.Response.{IsModules}
use Rattle.relay_filters.proofs.ChainLemmas.{module_feeds, parts_append, parts_none, task_modules}
use Rattle.relay_filters.proofs.OutcomeLemmas.{all_passed, none_passed, one_lost, one_more, one_stops}
use Rattle.relay_filters.proofs.response.pass_batch.Goals as goal

-- none so far
pub loop-task-init : goal.loop-task-init
loop-task-init g c = record {
  passed = none_passed _ _ _ _ _ _ _ parts_none c.requires.read c.new-passed.ensures;
  stand = c.requires.made;
}

-- one more passed
pub loop-task-preserved : goal.loop-task-preserved
loop-task-preserved g c = record {
  passed = one_more _ ModuleChain IsModules ModuleFeeds c.args.of_head _ _ _ _ _ c.in-Some.task
      c.in-Ok.made _ _ _ _ _ _ (λ es fs p q. parts_append es fs [] es [] fs p q)
      (λ es t. task_modules c.in-Some.task es (module_feeds c.in-Some.task es c.in-Ok.made t))
      c.in-Some.ensures c.in_ok-push-in-Ok.ensures.ok c.loop-task.invariant.passed
      c.in-Ok.ensures.passes;
  stand = c.in-Ok.ensures.stands;
}

-- the first that did not
pub returns-in-Err-clause-passes : goal.returns-in-Err-clause-passes
returns-in-Err-clause-passes g c =
    one_stops _ ModuleChain IsModules ModuleFeeds c.args.of_head _ _ _ c.loop-task.passed
    c.in-Some.task _ _ _ _ _ _ _ (λ es fs p q. parts_append es fs [] es [] fs p q)
    (λ es fed. task_modules c.in-Some.task es fed) c.in-Some.ensures c.loop-task.invariant.passed
    c.in-Err.ensures.passes

-- memory was wanted for what was made
pub returns-in_err-push-in-Ok-clause-passes : goal.returns-in_err-push-in-Ok-clause-passes
returns-in_err-push-in-Ok-clause-passes g c =
    let failure = err_from_is_err_and c.from_residual.result c.from_residual.ensures.1 in
    rw (failure.1, failure.2)
    (one_lost _ ModuleChain IsModules ModuleFeeds c.args.of_head _ _ _ c.loop-task.passed
    c.in-Some.task c.in-Ok.made _ _ _ _ _ _ _ (λ es fs p q. parts_append es fs [] es [] fs p q)
    (λ es fed. task_modules c.in-Some.task es fed)
    (λ es t. module_feeds c.in-Some.task es c.in-Ok.made t) c.in-Some.ensures
    c.in_err-push-in-Ok.ensures.memory c.loop-task.invariant.passed
    c.in-Ok.ensures.passes)

-- all passed
pub returns-clause-passes : goal.returns-clause-passes
returns-clause-passes g c =
    all_passed _ ModuleChain IsModules ModuleFeeds c.args.of_head _ _ _ _ _ _ _
    c.in_default.ensures.0 c.loop-task.invariant.passed
