use Rattle.relay_tasks.specs.Head.{RequestHead}
use Rattle.relay_authority.proofs.StageLemmas.{fails_on_no_side}
use Rattle.relay_authority.specs.Http2.{SetsAuthority}
use Rattle.relay_authority.proofs.address.name_host.Goals as goal

-- the URI names the host
pub returns-in-Ok : goal.returns-in-Ok
returns-in-Ok c = rw c.as_slice.ensures.value at c.in-Ok.ensures

-- the host cannot be named
pub returns : goal.returns
returns c =
    fails_on_no_side (λ (old : RequestHead).
    SetsAuthority old c.args.host.items c.args.tls c.args.path) c.args.head _ _
    (rw c.as_slice.ensures.value at c.in-Err.ensures)
