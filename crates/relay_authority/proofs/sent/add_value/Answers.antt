use Rattle.std.proofs.Common.{inl, inr, refl}
use Rattle.std.proofs.lemmas.Result.{err_from_is_err_and}
use Rattle.relay_authority.proofs.Settling.{settles_wider, failed_by, done_not_refused}
use Rattle.relay_authority.specs.Sent.{AddsValue}
use Rattle.relay_authority.proofs.sent.add_value.Goals as goal

-- no value can say the authority
pub returns-in_err-value : goal.returns-in_err-value
returns-in_err-value c =
    let failure = err_from_is_err_and c.from_residual.result c.from_residual.ensures.1 in
    rw (failure.1, failure.2)
    (failed_by (AddsValue c.args.head.now c.args.authority.items) _ _ _ _ _
    c.in_err-value.ensures.causes c.in_err-value.ensures.invalid
    (λ bad. inl (bad, refl)))

-- a value says it, and is put
pub returns : goal.returns
returns c =
    settles_wider {U = AddsValue c.args.head.now c.args.authority.items} _ _ _
    (λ outcome put. inr (done_not_refused _ _ _ c.in_ok-value.ensures.invalid, put))
    (rw c.in_ok-value.ensures.ok at c.put_field.ensures)
