use Rattle.relay_authority.proofs.Settling.{judges}
use Rattle.relay_authority.specs.Entry.{Validated}
use Rattle.relay_authority.proofs.entry.validate_request_authority.Goals as goal

-- the refusal is that of the table
pub returns : goal.returns
returns c = rw c.judged.ensures
    (judges (Validated c.args.head.now) c.refusal.result c.refusal.ensures)
