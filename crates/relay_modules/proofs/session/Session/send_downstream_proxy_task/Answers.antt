use Rattle.std.proofs.Common.{◌≡◌, Bool, true, false, arith}
use Rattle.std.proofs.lemmas.Result.{err_from_is_err_and}
use Rattle.relay_modules.specs.Filtering as filtering
use Rattle.relay_modules.specs.Module.{AllowsMade}
use Rattle.relay_modules.proofs.NoteLemmas.{FailsToKeep-filter, FailsToKeep-memory}
use Rattle.relay_modules.proofs.session.Session.send_downstream_proxy_task.Goals as goal

pub returns-then-not-self-clause-err : goal.returns-then-not-self-clause-err
returns-then-not-self-clause-err g c =
    let off : c.args.self.now.seen.tasks_enabled ≡ false = grind (arith, c.if-not-self.true) in
    rw (c.into_in.ensures, c.explain-error.ensures) (filtering.FailsToKeep.is_off off)

pub returns-in_err-made-clause-err : goal.returns-in_err-made-clause-err
returns-in_err-made-clause-err g c =
    let on : c.args.self.now.seen.tasks_enabled ≡ true = grind (arith, c.if-not-self.false) in
    let failure = err_from_is_err_and c.from_residual.result c.from_residual.ensures.1 in
    rw (failure.1, failure.2)
    (FailsToKeep-filter (AllowsMade g.M.HttpModule.allows c.args.self.now.modules) c.args.task
    c.args.self.now.seen _ on c.in_err-made.ensures.filters)

pub returns-clause-err : goal.returns-clause-err
returns-clause-err g c =
    let on : c.args.self.now.seen.tasks_enabled ≡ true = grind (arith, c.if-not-self.false) in
    FailsToKeep-memory (AllowsMade g.M.HttpModule.allows c.args.self.now.modules) c.args.task
    c.args.self.now.seen c.push.result on c.push.ensures.memory
