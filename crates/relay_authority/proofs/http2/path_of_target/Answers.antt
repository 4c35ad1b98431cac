use Rattle.std.proofs.Common.{◌∙◌, inl, refl, sym}
use Rattle.std.specs.Prelude.{IsUtf8}
use Rattle.relay_authority.proofs.PathLemmas.{of_origin, of_ambiguous, of_none, of_absolute}
use Rattle.relay_authority.proofs.Settling.{answers_wider, answers_refusal, refuted}
use Rattle.relay_authority.specs.Http2.{PathFor}
use Rattle.relay_authority.proofs.http2.path_of_target.Goals as goal

-- the target is not UTF-8
pub returns-then-not-is_utf8 : goal.returns-then-not-is_utf8
returns-then-not-is_utf8 c =
    answers_refusal (PathFor c.args.target.now) _ _ c.refusal.ensures
    (inl (refuted _ c.is_utf8.ensures c.if-not-is_utf8.true, refl))

-- the origin form
pub returns-then-is_origin : goal.returns-then-is_origin
returns-then-is_origin c =
    let utf8 : IsUtf8 c.args.target.now = c.is_utf8.ensures.0 c.if-not-is_utf8.false in
    answers_wider {U = PathFor c.args.target.now} _
    (of_origin c.args.target.now utf8 (sym c.is_origin.ensures ∙ c.if-is_origin.true))
    c.taken_path.ensures

-- no authority
pub returns-in-None : goal.returns-in-None
returns-in-None c =
    let utf8 : IsUtf8 c.args.target.now = c.is_utf8.ensures.0 c.if-not-is_utf8.false in
    answers_wider {U = PathFor c.args.target.now} _
    (of_none c.args.target.now utf8
    (sym c.is_origin.ensures ∙ c.if-is_origin.false) c.in-None.ensures.1 c.in-None.ensures.0)
    c.taken_path-in-None.ensures

-- an ambiguous target
pub returns-in-AmbiguousAuthority : goal.returns-in-AmbiguousAuthority
returns-in-AmbiguousAuthority c =
    let utf8 : IsUtf8 c.args.target.now = c.is_utf8.ensures.0 c.if-not-is_utf8.false in
    answers_refusal (PathFor c.args.target.now) _ _ c.refusal-in-AmbiguousAuthority.ensures
    (of_ambiguous c.args.target.now utf8
    (sym c.is_origin.ensures ∙ c.if-is_origin.false) c.in-AmbiguousAuthority.ensures.1)

-- the absolute form
pub returns-in-Absolute : goal.returns-in-Absolute
returns-in-Absolute c =
    let utf8 : IsUtf8 c.args.target.now = c.is_utf8.ensures.0 c.if-not-is_utf8.false in
    answers_wider {U = PathFor c.args.target.now} _
    (of_absolute c.args.target.now utf8 _
    (sym c.is_origin.ensures ∙ c.if-is_origin.false) c.in-Absolute.ensures.1
    c.in-Absolute.ensures.0)
    c.path_of_rest.ensures
