use Rattle.std.proofs.Common.{◌≡◌, ◌∙◌, sym}
use Rattle.std.proofs.lemmas.Slice.Eq.{bytes_eq-Decides}
use Rattle.http_uri.specs.Grammar.{IsAuthority}
use Rattle.relay_authority.proofs.MovedTarget.{moves_target}
use Rattle.relay_authority.specs.Cut.{parts_of}
use Rattle.relay_authority.specs.Sent.{moved_target}
use Rattle.relay_authority.proofs.reconcile.move_target.Goals as goal

-- the moved target is set, or is too long
pub returns : goal.returns
returns c =
    let differ : ¬ (c.args.host.now ≡ c.args.cut.authority.now) = λ same.
    let on = (bytes_eq-Decides _ _).1 same in
    absurd (let clash = sym c.if-eq.false ∙ c.eq.ensures ∙ on in cc) in
    let authority : IsAuthority c.args.host.now =
    c.is_authority.ensures.0 c.if-not-is_authority.false in
    let text : c.as_slice.result.now ≡ moved_target (parts_of c.args.cut) c.args.host.now =
    c.as_slice.ensures.value ∙ c.in_ok-target.ensures in
    moves_target c.args.head.now _ c.args.host.now
    (parts_of c.args.cut) _ c.requires.cut c.requires.sendable differ authority
    (rw text at c.set_raw_path.ensures.ok)
    (rw text at c.set_raw_path.ensures.refused) c.set_raw_path.ensures.causes
    c.set_raw_path.ensures.err
