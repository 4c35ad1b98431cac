use Rattle.std.proofs.Common.{inl}
use Rattle.relay_authority.proofs.AttemptLemmas.{readies_nothing}
use Rattle.relay_authority.proofs.attempt.ready_h1_head.Goals as goal

-- Host was put
pub returns-in-Ok : goal.returns-in-Ok
returns-in-Ok c =
    inl (
      c.spoke_h2-lacks_host.ensures.0 c.if-not-lacks_host.false,
      rw c.set_version.ensures at c.in-Ok.ensures,
    )

-- it was not
pub returns-in-Err : goal.returns-in-Err
returns-in-Err c =
    readies_nothing c.args.custom c.args.head c.set_version.new.self
    c.set_h1_host_from_authority_if_absent.new.head _ _
    (c.spoke_h2-lacks_host.ensures.0 c.if-not-lacks_host.false) c.set_version.ensures
    c.in-Err.ensures c.of_client.ensures
