use Rattle.std.proofs.Common.{inr}
use Rattle.relay_authority.proofs.Settling.{judges_wider, refuted}
use Rattle.relay_authority.specs.Entry.{Entered, LacksHost, Validated}
use Rattle.relay_authority.proofs.entry.check_entry.Goals as goal

-- there is a Host, or none is owed
pub returns : goal.returns
returns c =
    let owed : ¬ (LacksHost c.args.head.now) =
    refuted _ c.lacks_host.ensures c.if-lacks_host.false in
    judges_wider {T = Validated c.args.head.now} {U = Entered c.args.head.now} _
    (λ answer table. inr (owed, table))
    c.validate_request_authority.ensures
