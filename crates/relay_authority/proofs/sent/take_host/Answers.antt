use Rattle.std.proofs.Common.{◌≡◌, ◌∷◌, ◌∙◌, [], inl, inr, refl, ap}
use Rattle.std.proofs.lemmas.Result.{err_from_is_err_and}
use Rattle.http_header.specs.FieldValue.{FieldValue}
use Rattle.relay_authority.proofs.Settling.{settles_wider, failed_by, done_not_refused, refuted}
use Rattle.relay_authority.specs.Heads.{HasUserinfo, hosts}
use Rattle.relay_authority.specs.Sent.{TakesHost}
use Rattle.relay_authority.proofs.sent.take_host.Goals as goal

-- no value can say the authority
pub returns-in_err-value : goal.returns-in_err-value
returns-in_err-value c =
    let bare : ¬ (HasUserinfo c.args.authority.items) =
    rw c.as_slice.ensures.value at (refuted _ c.has_userinfo.ensures c.if-has_userinfo.false) in
    let failure = err_from_is_err_and c.from_residual.result c.from_residual.ensures.1 in
    rw (failure.1, failure.2)
    (failed_by (TakesHost c.args.head.now c.args.authority.items) _ _ _ _ _
    c.in_err-value.ensures.causes c.in_err-value.ensures.invalid
    (λ bad. inr (bare, inl (bad, refl))))

-- a value says it, and is put in place of what was there
pub returns : goal.returns
returns c =
    let bare : ¬ (HasUserinfo c.args.authority.items) =
    rw c.as_slice.ensures.value at (refuted _ c.has_userinfo.ensures c.if-has_userinfo.false) in
    let valid = done_not_refused _ _ _ c.in_ok-value.ensures.invalid in
    let text : c.as_bytes.result.now ≡ c.args.authority.items = c.as_bytes.ensures.value
    ∙ ap (λ (v : FieldValue). v.bytes) c.in_ok-value.ensures.ok in
    let differ : ¬ (hosts c.args.head.now.fields ≡ c.args.authority.items ∷ []) =
    rw text at (refuted _ c.is_only_host.ensures c.if-is_only_host.false) in
    settles_wider {U = TakesHost c.args.head.now c.args.authority.items} _ _ _
    (λ outcome put. inr (bare, inr (valid, inr (differ, put))))
    (rw c.in_ok-value.ensures.ok at c.put_field.ensures)
