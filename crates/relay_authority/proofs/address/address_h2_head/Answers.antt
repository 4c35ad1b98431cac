use Rattle.std.proofs.Common.{inr}
use Rattle.relay_authority.proofs.Settling.{refuted}
use Rattle.relay_authority.proofs.StageLemmas.{makes_wider, path_fails}
use Rattle.relay_authority.specs.Address.{Addresses, LacksAuthority}
use Rattle.relay_authority.proofs.address.address_h2_head.Goals as goal

-- the path is there, and the host moves
pub returns-in-Ok : goal.returns-in-Ok
returns-in-Ok c =
    let named : ¬ (LacksAuthority c.args.custom c.args.head) =
    refuted _ c.lacks_authority.ensures c.if-lacks_authority.false in
    makes_wider {U = Addresses c.args.custom c.args.tls c.args.head} _
    (λ answer moved. inr (named, inr (c.in-Ok.path, c.in-Ok.ensures, moved))) c.move_host.ensures

-- there is no path
pub returns-in-Err : goal.returns-in-Err
returns-in-Err c =
    let named : ¬ (LacksAuthority c.args.custom c.args.head) =
    refuted _ c.lacks_authority.ensures c.if-lacks_authority.false in
    path_fails c.args.custom c.args.tls c.args.head _ _ named c.in-Err.ensures
    c.of_relay-in-Err.ensures
