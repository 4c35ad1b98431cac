use Rattle.std.proofs.lemmas.Result.{err_from_is_err_and}
use Rattle.relay_modules.specs.Seen as seen
use Rattle.relay_modules.proofs.NoteLemmas.{Notes-queued, FailsToNote-memory}
use Rattle.relay_modules.proofs.seen.Seen.note_tasks.Goals as goal

pub returns-in_err-wrote-clause-err : goal.returns-in_err-wrote-clause-err
returns-in_err-wrote-clause-err c =
    let failure = err_from_is_err_and c.from_residual.result c.from_residual.ensures.1 in
    rw (failure.1, failure.2)
    (FailsToNote-memory c.args.tasks c.args.self.now _ c.in_err-wrote.ensures.memory)

pub returns-in_err-over-clause-err : goal.returns-in_err-over-clause-err
returns-in_err-over-clause-err c =
    let failure =
    err_from_is_err_and c.from_residual-in_err-over.result
    c.from_residual-in_err-over.ensures.1 in
    rw (failure.1, failure.2) (seen.FailsToNote.cannot_queue _ c.in_err-over.ensures.err)

pub returns-clause-ok : goal.returns-clause-ok
returns-clause-ok c =
    Notes-queued c.args.tasks c.args.self.now c.queue_tasks.new.self c.in_ok-wrote.wrote
    c.in_ok-over.ensures.ok c.in_ok-wrote.ensures.ok
