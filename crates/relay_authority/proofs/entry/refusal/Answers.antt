use Rattle.std.proofs.Common.{inl, inr, refl}
use Rattle.relay_authority.proofs.EntryLemmas.{behind_host}
use Rattle.relay_authority.proofs.Settling.{refuted, test_holds, test_fails}
use Rattle.relay_authority.specs.Target.{is_ambiguous}
use Rattle.relay_authority.proofs.entry.refusal.Goals as goal

-- no line on Host applies, and the target is ambiguous
pub returns-then-is_ambiguous : goal.returns-then-is_ambiguous
returns-then-is_ambiguous c =
    behind_host c.args.head.now _ _ _ _ c.has_many_hosts.ensures c.if-has_many_hosts.false
    c.host_has_userinfo.ensures c.if-host_has_userinfo.false
    c.host_is_no_authority.ensures c.if-host_is_no_authority.false
    (inl (
      test_holds _ _ _ is_ambiguous c.is_ambiguous.ensures c.raw_path.ensures.value
          c.if-is_ambiguous.true,
      refl,
    ))

-- the target is clear, and its authority has userinfo
pub returns-then-authority_has_userinfo : goal.returns-then-authority_has_userinfo
returns-then-authority_has_userinfo c =
    behind_host c.args.head.now _ _ _ _ c.has_many_hosts.ensures c.if-has_many_hosts.false
    c.host_has_userinfo.ensures c.if-host_has_userinfo.false
    c.host_is_no_authority.ensures c.if-host_is_no_authority.false
    (inr (
      test_fails _ _ _ is_ambiguous c.is_ambiguous.ensures c.raw_path.ensures.value
          c.if-is_ambiguous.false,
      inl (c.authority_has_userinfo.ensures.0 c.if-authority_has_userinfo.true, refl),
    ))

-- the authority has none, and Host is another
pub returns-then-host_disagrees : goal.returns-then-host_disagrees
returns-then-host_disagrees c =
    behind_host c.args.head.now _ _ _ _ c.has_many_hosts.ensures c.if-has_many_hosts.false
    c.host_has_userinfo.ensures c.if-host_has_userinfo.false
    c.host_is_no_authority.ensures c.if-host_is_no_authority.false
    (inr (
      test_fails _ _ _ is_ambiguous c.is_ambiguous.ensures c.raw_path.ensures.value
          c.if-is_ambiguous.false,
      inr (
        refuted _ c.authority_has_userinfo.ensures c.if-authority_has_userinfo.false,
        inl (c.host_disagrees.ensures.0 c.if-host_disagrees.true, refl),
      ),
    ))

-- no line applies
pub returns : goal.returns
returns c =
    behind_host c.args.head.now _ _ _ _ c.has_many_hosts.ensures c.if-has_many_hosts.false
    c.host_has_userinfo.ensures c.if-host_has_userinfo.false
    c.host_is_no_authority.ensures c.if-host_is_no_authority.false
    (inr (
      test_fails _ _ _ is_ambiguous c.is_ambiguous.ensures c.raw_path.ensures.value
          c.if-is_ambiguous.false,
      inr (
        refuted _ c.authority_has_userinfo.ensures c.if-authority_has_userinfo.false,
        inr (refuted _ c.host_disagrees.ensures c.if-host_disagrees.false, refl),
      ),
    ))
