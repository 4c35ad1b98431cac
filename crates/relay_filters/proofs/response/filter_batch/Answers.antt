-- Each task passes behind the others, up to the first that does not.
use Rattle.std.proofs.Common.{[]}
use Rattle.std.proofs.lemmas.Result.{err_from_is_err_and}
use Rattle.relay_filters.specs.Chain.{TaskChain, TaskFeeds}
use Rattle.relay_filters.specs.Response.{IsApps}
use Rattle.relay_filters.proofs.ChainLemmas.{parts_append, parts_none, task_apps, task_feeds}
use Rattle.relay_filters.proofs.OutcomeLemmas.{all_passed, none_passed, one_lost, one_more, one_stops}
use Rattle.relay_filters.proofs.response.filter_batch.Goals as goal

-- none so far
pub loop-task-init : goal.loop-task-init
loop-task-init g c = none_passed _ _ _ _ _ _ _ parts_none c.requires c.new-filtered.ensures

-- one more passed
pub loop-task-preserved : goal.loop-task-preserved
loop-task-preserved g c =
    one_more _ (TaskChain c.args.of_head) IsApps (TaskFeeds c.args.of_head) c.args.of_head _ _ _ _ _
    c.in-Some.task c.in-Ok.made _ _ _ _ _ _ (λ es fs p q. parts_append es fs es [] fs [] p q)
    (λ es t. task_apps c.args.of_head c.in-Some.task es
    (task_feeds c.args.of_head c.in-Some.task es c.in-Ok.made t)) c.in-Some.ensures
    c.in_ok-push-in-Ok.ensures.ok c.loop-task.invariant c.in-Ok.ensures

-- the first that did not
pub returns-in-Err : goal.returns-in-Err
returns-in-Err g c =
    one_stops _ (TaskChain c.args.of_head) IsApps (TaskFeeds c.args.of_head) c.args.of_head _ _ _
    c.loop-task.filtered c.in-Some.task _ _ _ _ _ _ _
    (λ es fs p q. parts_append es fs es [] fs [] p q)
    (λ es fed. task_apps c.args.of_head c.in-Some.task es fed) c.in-Some.ensures
    c.loop-task.invariant c.in-Err.ensures

-- memory was wanted for what was made
pub returns-in_err-push-in-Ok : goal.returns-in_err-push-in-Ok
returns-in_err-push-in-Ok g c =
    let failure = err_from_is_err_and c.from_residual.result c.from_residual.ensures.1 in
    rw (failure.1, failure.2)
    (one_lost _ (TaskChain c.args.of_head) IsApps (TaskFeeds c.args.of_head) c.args.of_head _ _ _
    c.loop-task.filtered c.in-Some.task c.in-Ok.made _ _ _ _ _ _ _
    (λ es fs p q. parts_append es fs es [] fs [] p q)
    (λ es fed. task_apps c.args.of_head c.in-Some.task es fed)
    (λ es t. task_feeds c.args.of_head c.in-Some.task es c.in-Ok.made t) c.in-Some.ensures
    c.in_err-push-in-Ok.ensures.memory c.loop-task.invariant c.in-Ok.ensures)

-- all passed
pub returns : goal.returns
returns g c =
    all_passed _ (TaskChain c.args.of_head) IsApps (TaskFeeds c.args.of_head) c.args.of_head _ _ _ _
    _ _ _ c.in_default.ensures.0 c.loop-task.invariant
