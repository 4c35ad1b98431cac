use Rattle.relay_authority.proofs.Laws.{agrees, rests}
use Rattle.relay_authority.proofs.reconcile.reconcile_upstream_authority.Goals as goal

-- the table leaves Host as the authority
pub returns-clause-agrees : goal.returns-clause-agrees
returns-clause-agrees c =
    agrees c.args.head.now c.reconcile.new.head c.reconcile.result c.reconcile.ensures

-- and leaves nothing to reconcile
pub returns-clause-rests : goal.returns-clause-rests
returns-clause-rests c =
    rests c.args.head.now c.reconcile.new.head c.reconcile.result c.reconcile.ensures
