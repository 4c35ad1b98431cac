use Rattle.std.proofs.lemmas.Result.{err_from_is_err_and}
use Rattle.relay_modules.specs.Module.{AllowsMade}
use Rattle.relay_modules.proofs.NoteLemmas.{FailsToWrite-filter, FailsToWrite-noted}
use Rattle.relay_modules.proofs.session.Session.write_response_tasks.Goals as goal

pub returns-in_err-made-clause-err : goal.returns-in_err-made-clause-err
returns-in_err-made-clause-err g c =
    let failure = err_from_is_err_and c.from_residual.result c.from_residual.ensures.1 in
    rw (failure.1, failure.2)
    (FailsToWrite-filter (AllowsMade g.M.HttpModule.allows c.args.self.now.modules) c.args.tasks
    c.args.self.now.seen _ c.in_err-made.ensures.filters)

pub returns-clause-err : goal.returns-clause-err
returns-clause-err g c =
    FailsToWrite-noted (AllowsMade g.M.HttpModule.allows c.args.self.now.modules) c.args.tasks
    c.in_ok-made.made c.args.self.now.seen c.note_tasks.new.self c.note_tasks.result
    c.in_ok-made.ensures.filters c.note_tasks.ensures.err
