use Rattle.std.proofs.Common.{[], ◌∷◌}
use Rattle.std.proofs.lemmas.Result.{err_from_is_err_and}
use Rattle.relay_tasks.specs.declared.task.HttpTask.TheVariants as task
use Rattle.relay_modules.specs.Module.{AllowsMade}
use Rattle.relay_modules.proofs.NoteLemmas.{FailsToWrite-memory}
use Rattle.relay_modules.proofs.session.Session.write_response_header_ref.Goals as goal

pub returns-in_err-head-clause-err : goal.returns-in_err-head-clause-err
returns-in_err-head-clause-err g c =
    let failure = err_from_is_err_and c.from_residual.result c.from_residual.ensures.1 in
    rw (failure.1, failure.2)
    (FailsToWrite-memory (AllowsMade g.M.HttpModule.allows c.args.self.now.modules)
    (task.Header c.args.head.now c.args.end ∷ []) c.args.self.now.seen _
    c.in_err-head.ensures.memory)

pub returns-clause-err : goal.returns-clause-err
returns-clause-err g c = rw (← c.in_ok-head.ensures.ok) c.write_one.ensures.err
