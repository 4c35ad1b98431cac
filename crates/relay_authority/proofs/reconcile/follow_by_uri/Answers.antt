use Rattle.std.proofs.Common.{inl, inr, refl}
use Rattle.std.proofs.lemmas.Result.{err_from_is_err_and}
use Rattle.relay_authority.proofs.Settling.{done_as, done_not_refused, failed_by, refused_as, refuted}
use Rattle.relay_authority.specs.Sent.{IsMoved, ReconcilesUri}
use Rattle.relay_authority.proofs.reconcile.follow_by_uri.Goals as goal

-- the target is not UTF-8
pub returns-then-not-raw_path_is_utf8 : goal.returns-then-not-raw_path_is_utf8
returns-then-not-raw_path_is_utf8 c =
    refused_as (ReconcilesUri c.args.head.now c.args.host.now) _ _ _ c.refusal.ensures
    (inl (refuted _ c.raw_path_is_utf8.ensures c.if-not-raw_path_is_utf8.true, refl))

-- Host is no authority
pub returns-in_err-authority : goal.returns-in_err-authority
returns-in_err-authority c =
    let utf8 = c.raw_path_is_utf8.ensures.0 c.if-not-raw_path_is_utf8.false in
    let differ = refuted _ c.is_uri_authority.ensures c.if-is_uri_authority.false in
    let failure = err_from_is_err_and c.from_residual.result c.from_residual.ensures.1 in
    rw (failure.1, failure.2)
    (failed_by (ReconcilesUri c.args.head.now c.args.host.now) _ _ _ _ _
    c.in_err-authority.ensures.causes c.in_err-authority.ensures.invalid
    (λ bad. inr ((λ no. no utf8), inr (differ, inl (bad, refl)))))

-- the URI moved
pub returns : goal.returns
returns c =
    let utf8 = c.raw_path_is_utf8.ensures.0 c.if-not-raw_path_is_utf8.false in
    let differ = refuted _ c.is_uri_authority.ensures c.if-is_uri_authority.false in
    let valid = done_not_refused _ _ _ c.in_ok-authority.ensures.invalid in
    let moved : IsMoved c.args.head.now c.args.host.now c.in_ok-moved.moved =
    rw (← c.in_ok-authority.ensures.ok) c.in_ok-moved.ensures.ok in
    done_as (ReconcilesUri c.args.head.now c.args.host.now) _ _ _ _ c.set_uri.ensures.ok
    c.set_uri.ensures.memory c.set_uri.ensures.err
    (inr (
      (λ no. no utf8),
      inr
          (differ, inr (valid, (c.in_ok-moved.moved, moved, c.in_ok-moved.ensures.utf8, refl))),
    ))
