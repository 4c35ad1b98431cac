use Rattle.relay_authority.proofs.AttemptLemmas.{then_goes_on}
use Rattle.relay_authority.specs.Attempt.{SetsHostWhere, Then, Validates}
use Rattle.relay_authority.specs.Sent.{Reconciles}
use Rattle.relay_authority.proofs.attempt.settle_h1.Goals as goal

-- the reconciled head gets its Host
pub returns : goal.returns
returns c =
    then_goes_on Reconciles
    (Then (SetsHostWhere c.args.client_had_host) Validates) c.args.head.now _ _ c.settle_host.result
    c.in_ok-reconcile_upstream_authority.ensures.table c.settle_host.ensures
