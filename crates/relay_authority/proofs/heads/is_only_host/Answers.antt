use Rattle.std.proofs.Common.{◌≡◌, ◌∙◌, sym, refl, ap}
use Rattle.std.proofs.lemmas.Slice.Eq.{bytes_eq-Decides}
use Rattle.std.specs.Prelude.{Some, slice_get}
use Rattle.relay_authority.specs.Heads.{hosts}
use Rattle.relay_authority.proofs.Settling.{not_below-not}
use Rattle.relay_authority.proofs.HostLemmas.{only_of_first}
use Rattle.relay_authority.proofs.heads.is_only_host.Goals as goal

-- the first Host is the text, so the number of them decides
pub returns-then-eq : goal.returns-then-eq
returns-then-eq c =
    let same : c.in-Some.host.now ≡ c.args.text.now =
    (bytes_eq-Decides _ _).0 (sym c.eq.ensures ∙ c.if-eq.true) in
    let first : slice_get (hosts c.args.head.now.fields) 0 ≡ Some c.args.text.now =
    sym c.in-Some.ensures ∙ ap Some same in (
      λ few. only_of_first _ _ first (not_below-not _ _ _ c.has_many_hosts.ensures few),
      λ only. rw (c.has_many_hosts.ensures, only) refl,
    )
