use Rattle.std.proofs.Common.{inr, refl}
use Rattle.relay_authority.proofs.Settling.{done_as, done_not_refused, refuted}
use Rattle.relay_authority.specs.Http2.{SetsAuthority}
use Rattle.relay_authority.specs.Heads.{HasUserinfo}
use Rattle.relay_authority.proofs.http2.update_h2_scheme_authority.Goals as goal

-- the URI is made, and set
pub returns : goal.returns
returns c =
    let valid = done_not_refused _ _ _ c.in_ok-authority.ensures.invalid in
    let bare : ¬ (HasUserinfo c.args.raw_host.now) =
    refuted _ c.has_userinfo.ensures c.if-has_userinfo.false in
    let parts = rw c.in_ok-authority.ensures.ok at c.absolute_uri.ensures in
    done_as (SetsAuthority c.args.head.now c.args.raw_host.now c.args.tls c.args.path) _ _ _ _
    c.set_uri.ensures.ok c.set_uri.ensures.memory c.set_uri.ensures.err
    (inr (valid, inr (bare, (c.absolute_uri.result, parts, refl))))
