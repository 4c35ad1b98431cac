use Rattle.relay_authority.proofs.AttemptLemmas.{then_goes_on}
use Rattle.relay_authority.specs.Attempt.{Validates}
use Rattle.relay_authority.specs.Sent.{Reconciles}
use Rattle.relay_authority.proofs.attempt.settle_h2.Goals as goal

-- the reconciled head is validated
pub returns : goal.returns
returns c =
    then_goes_on Reconciles Validates c.args.head.now _ _ c.validate.result
    c.in_ok-reconcile_upstream_authority.ensures.table c.validate.ensures
