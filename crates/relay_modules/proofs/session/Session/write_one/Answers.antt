use Rattle.std.proofs.Common.{List, [], ◌∷◌, ◌++◌, ap, subst, ◌∙◌}
use Rattle.std.proofs.lemmas.Result.{err_from_is_err_and}
use Rattle.relay_tasks.specs.declared.task.HttpTask.{HttpTask}
use Rattle.relay_modules.specs.Filtering.{FailsToWrite}
use Rattle.relay_modules.specs.Module.{AllowsMade}
use Rattle.relay_modules.proofs.NoteLemmas.{FailsToWrite-memory}
use Rattle.relay_modules.proofs.session.Session.write_one.Goals as goal

pub returns-in_err-push-clause-err : goal.returns-in_err-push-clause-err
returns-in_err-push-clause-err g c =
    let failure = err_from_is_err_and c.from_residual.result c.from_residual.ensures.1 in
    rw (failure.1, failure.2)
    (FailsToWrite-memory (AllowsMade g.M.HttpModule.allows c.args.self.now.modules)
    (c.args.task ∷ []) c.args.self.now.seen _ c.in_err-push.ensures.memory)

-- the batch of that task, as it was refused
pub returns-in_err-write_response_tasks-clause-err :
    goal.returns-in_err-write_response_tasks-clause-err
returns-in_err-write_response_tasks-clause-err g c =
    let failure =
    err_from_is_err_and c.from_residual-in_err-write_response_tasks.result
    c.from_residual-in_err-write_response_tasks.ensures.1 in
    rw (failure.1, failure.2)
    (subst
    (λ (l : List HttpTask).
    FailsToWrite (AllowsMade g.M.HttpModule.allows c.args.self.now.modules) l
    c.args.self.now.seen c.write_response_tasks.new.self.seen
    c.in_err-write_response_tasks.field-0.0)
    (c.in_ok-push.ensures.ok ∙ ap (λ (l : List HttpTask). l ++ c.args.task ∷ [])
    c.new-tasks.ensures)
    c.in_err-write_response_tasks.ensures.err)
