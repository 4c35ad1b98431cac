use Rattle.relay_authority.proofs.Laws.{one_host}
use Rattle.relay_authority.proofs.sent.set_h1_host_from_authority.Goals as goal

-- the table leaves one Host
pub returns-clause-one_host : goal.returns-clause-one_host
returns-clause-one_host c =
    one_host c.args.head.now c.set_host.new.head c.set_host.result c.set_host.ensures
