use Rattle.relay_tasks.specs.declared.ErrorSource.TheVariants as side
use Rattle.relay_authority.proofs.AttemptLemmas.{fails_to_give}
use Rattle.relay_authority.specs.Attempt.{SettlesH2}
use Rattle.relay_authority.proofs.attempt.settle_h2_head.Goals as goal

-- the failure is put on the relay's own side
pub returns-in-Err : goal.returns-in-Err
returns-in-Err c = fails_to_give side.Internal SettlesH2 c.args.head c.settle_h2.new.head _ _
    c.in-Err.ensures c.of_relay.ensures
