use Rattle.relay_tasks.specs.declared.ErrorSource.TheVariants as side
use Rattle.relay_authority.proofs.AttemptLemmas.{fails_to_give}
use Rattle.relay_authority.specs.Attempt.{SettlesH1}
use Rattle.relay_authority.proofs.attempt.settle_h1_head.Goals as goal

-- the failure is put on the relay's own side
pub returns-in-Err : goal.returns-in-Err
returns-in-Err c =
    fails_to_give side.Internal
    (SettlesH1 c.args.client_had_host) c.args.head c.settle_h1.new.head _ _ c.in-Err.ensures
    c.of_relay.ensures
