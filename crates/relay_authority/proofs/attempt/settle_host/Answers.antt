use Rattle.relay_authority.proofs.AttemptLemmas.{then_goes_on}
use Rattle.relay_authority.specs.Attempt.{SetsHostWhere, Validates}
use Rattle.relay_authority.proofs.attempt.settle_host.Goals as goal

-- the head with its Host is validated
pub returns : goal.returns
returns c =
    then_goes_on (SetsHostWhere c.args.client_had_host) Validates c.args.head.now _ _
    c.validate.result
    c.in_ok-set_host_where.ensures c.validate.ensures
