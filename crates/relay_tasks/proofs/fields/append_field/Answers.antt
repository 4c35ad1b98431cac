use Rattle.std.proofs.lemmas.Result.{err_from_is_err_and}
use Rattle.relay_tasks.proofs.Refusals.{full_as_head, done_not_full}
use Rattle.relay_tasks.proofs.fields.append_field.Goals as goal

-- the map's refusal is the head's
pub returns-in_err-append-clause-full : goal.returns-in_err-append-clause-full
returns-in_err-append-clause-full c =
    let failure = err_from_is_err_and c.from_residual.result c.from_residual.ensures.1 in
    rw (failure.1, failure.2) (full_as_head _ _ c.in_err-append.ensures.full)

-- the map took the value
pub returns-clause-full : goal.returns-clause-full
returns-clause-full c = done_not_full _ _ _ _ _ c.in_ok-append.ensures.full
