-- Each kind of task by its own filters: what failed there.
use Rattle.std.proofs.Common.{[], refl}
use Rattle.std.proofs.lemmas.Result.{err_from_is_err_and}
use Rattle.relay_filters.proofs.OutcomeLemmas.{adds_none, no_chain, stops}
use Rattle.relay_filters.proofs.response.filter_task.Goals as goal

-- a head
pub returns-in_err-filter_head-in-Header : goal.returns-in_err-filter_head-in-Header
returns-in_err-filter_head-in-Header g c =
    let failure = err_from_is_err_and c.from_residual.result c.from_residual.ensures.1 in
    rw (c.in-Header.is, failure.1, failure.2)
    (stops {X = Unit} {Y = Unit} _ no_chain no_chain _ _ _ _ _ _ _ _ (λ es fed. fed)
    c.in_err-filter_head-in-Header.ensures)

-- a piece
pub returns-in_err-filter_piece-in-Body : goal.returns-in_err-filter_piece-in-Body
returns-in_err-filter_piece-in-Body g c =
    let failure = err_from_is_err_and c.from_residual-in_err-filter_piece-in-Body.result
    c.from_residual-in_err-filter_piece-in-Body.ensures.1 in
    rw (c.in-Body.is, failure.1, failure.2)
    (stops {X = Unit} {Y = Unit} _ no_chain no_chain _ _ _ _ _ _ _ _ (λ es fed. fed)
    c.in_err-filter_piece-in-Body.ensures)

-- a piece behind an upgrade
pub returns-in_err-filter_piece-in-UpgradedBody : goal.returns-in_err-filter_piece-in-UpgradedBody
returns-in_err-filter_piece-in-UpgradedBody g c =
    let failure = err_from_is_err_and
    c.from_residual-in_err-filter_piece-in-UpgradedBody.result
    c.from_residual-in_err-filter_piece-in-UpgradedBody.ensures.1 in
    rw (c.in-UpgradedBody.is, failure.1, failure.2)
    (stops {X = Unit} {Y = Unit} _ no_chain no_chain _ _ _ _ _ _ _ _ (λ es fed. fed)
    c.in_err-filter_piece-in-UpgradedBody.ensures)

-- trailer fields
pub returns-in_err-filter_fields-in-Trailer-Some :
    goal.returns-in_err-filter_fields-in-Trailer-Some
returns-in_err-filter_fields-in-Trailer-Some g c =
    let failure = err_from_is_err_and
    c.from_residual-in_err-filter_fields-in-Trailer-Some.result
    c.from_residual-in_err-filter_fields-in-Trailer-Some.ensures.1 in
    rw (c.in-Trailer-Some.is, c.in-Trailer-Some.field-0-is, failure.1, failure.2)
    (stops {X = Unit} {Y = Unit} _ no_chain no_chain _ _ _ _ _ _ _ _ (λ es fed. fed)
    c.in_err-filter_fields-in-Trailer-Some.ensures)

-- a task that no filter is called for goes on as it is
pub returns-in-Trailer-None : goal.returns-in-Trailer-None
returns-in-Trailer-None g c =
    rw (c.in-Trailer-None.is, c.in-Trailer-None.field-0-is)
    ([], adds_none _ _ _ c.requires, (refl, refl))

pub returns-in-Done : goal.returns-in-Done
returns-in-Done g c = rw c.in-Done.is ([], adds_none _ _ _ c.requires, (refl, refl))

pub returns-in-Failed : goal.returns-in-Failed
returns-in-Failed g c = rw c.in-Failed.is ([], adds_none _ _ _ c.requires, (refl, refl))
