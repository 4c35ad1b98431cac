use Rattle.std.proofs.Common.{inl}
use Rattle.relay_authority.proofs.Settling.{settles_wider, refuted}
use Rattle.relay_authority.specs.Framing.{Frames, IsFramed}
use Rattle.relay_authority.proofs.framing.finalize_h1_upstream_request_framing.Goals as goal

-- the body has no framing, so the field is put
pub returns : goal.returns
returns c =
    let unframed : ¬ (IsFramed c.args.head.now) =
    refuted _ c.is_framed.ensures c.if-is_framed.false in
    settles_wider {U = Frames c.args.head.now c.args.downstream_has_body} _ _ _
    (λ outcome put. inl ((c.if-not-downstream_has_body.false, unframed), put))
    (rw c.from_static.ensures at c.put_field.ensures)
