-- Over HTTP/1 the head is the table's, and keeps all but its target and its Host.
use Rattle.relay_authority.proofs.KeptLemmas.{made_kept}
use Rattle.relay_authority.proofs.upstream.sent_head.Goals as goal

-- over HTTP/1 it counts whether the client had a Host
pub returns-in-H1-clause-table : goal.returns-in-H1-clause-table
returns-in-H1-clause-table c = rw (c.in-H1.is, ← c.has_host.ensures) c.sent_h1_head.ensures

-- and what is sent keeps the rest of the head
pub returns-in-H1-clause-kept : goal.returns-in-H1-clause-kept
returns-in-H1-clause-kept c =
    made_kept c.args.client _ c.args.filtered c.args.upstream _ c.sent_h1_head.ensures
