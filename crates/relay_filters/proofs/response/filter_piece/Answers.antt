-- A filter failed, or the piece passed both.
use Rattle.std.proofs.Common.{refl}
use Rattle.std.proofs.lemmas.Result.{err_from_is_err_and}
use Rattle.relay_tasks.specs.declared.hook.Hook.TheVariants as hook
use Rattle.relay_tasks.specs.declared.log.Item.TheVariants as item
use Rattle.relay_filters.specs.Response.{SomeAllow}
use Rattle.relay_filters.proofs.OutcomeLemmas.{delayed_fails, no_chain}
use Rattle.relay_filters.proofs.ResponseLemmas.{body_fails, body_passes}
use Rattle.relay_filters.proofs.response.filter_piece.Goals as goal

pub returns-in_err-call_upstream_response_body_filter :
    goal.returns-in_err-call_upstream_response_body_filter
returns-in_err-call_upstream_response_body_filter g c =
    let failure = err_from_is_err_and c.from_residual.result c.from_residual.ensures.1 in
    rw (failure.1, failure.2)
    (delayed_fails {Y = Unit} (g.SV.ProxyHttp.allows c.args.app.now)
    (SomeAllow g.SV.Modules.HttpModule.allows) hook.UpstreamResponseBodyFilter
    (item.Piece c.args.body.now c.args.end) _ _ _ _ _ no_chain _ _ _ refl c.requires tt
    (λ e gave. gave) c.in_err-call_upstream_response_body_filter.ensures.calls)

pub returns-in_err-call_response_body_filter : goal.returns-in_err-call_response_body_filter
returns-in_err-call_response_body_filter g c =
    let failure = err_from_is_err_and c.from_residual-in_err-call_response_body_filter.result
    c.from_residual-in_err-call_response_body_filter.ensures.1 in
    rw (failure.1, failure.2)
    (body_fails (g.SV.ProxyHttp.allows c.args.app.now)
    (SomeAllow g.SV.Modules.HttpModule.allows) c.args.of_head c.args.body.now
    c.call_upstream_response_body_filter.new.body c.call_response_body_filter.new.body c.args.end _
    _ _ _ _ _ _ c.requires c.in_ok-call_upstream_response_body_filter.ensures.calls {Y = Unit}
    no_chain _
    c.in_err-call_response_body_filter.ensures.calls)

pub returns : goal.returns
returns g c =
    body_passes (g.SV.ProxyHttp.allows c.args.app.now)
    (SomeAllow g.SV.Modules.HttpModule.allows) c.args.of_head c.args.body.now
    c.call_upstream_response_body_filter.new.body c.call_response_body_filter.new.body c.args.end _
    _ _ _ _ _ _ c.requires c.in_ok-call_upstream_response_body_filter.ensures.calls _
    c.in_ok-call_response_body_filter.ensures.calls
