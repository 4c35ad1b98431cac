-- The filter failed, its head is refused, or it was framed.
use Rattle.std.proofs.Common.{refl, ap, ◌∙◌}
use Rattle.std.proofs.lemmas.Result.{err_from_is_err_and}
use Rattle.relay_tasks.specs.declared.error.Error.{Error}
use Rattle.relay_tasks.specs.declared.error.ErrorSource.TheVariants.{Upstream}
use Rattle.relay_tasks.specs.declared.hook.Hook.TheVariants as hook
use Rattle.relay_tasks.specs.declared.log.Item.TheVariants as item
use Rattle.relay_filters.specs.Response.{SomeAllow}
use Rattle.relay_filters.proofs.OutcomeLemmas.{call_fails, no_chain}
use Rattle.relay_filters.proofs.ResponseLemmas.{upstream_frames, upstream_switches}
use Rattle.relay_filters.proofs.response.filter_upstream_head.Goals as goal

pub returns-in_err-call_upstream_response_filter :
    goal.returns-in_err-call_upstream_response_filter
returns-in_err-call_upstream_response_filter g c =
    let failure = err_from_is_err_and c.from_residual.result c.from_residual.ensures.1 in
    rw (failure.1, failure.2)
    (call_fails Unit {Y = Unit} (g.SV.ProxyHttp.allows c.args.app.now)
    (SomeAllow g.SV.Modules.HttpModule.allows) hook.UpstreamResponseFilter
    (item.Response c.args.head.now c.args.end) _ _ _ _ _ no_chain _ _ _ refl c.requires tt
    (λ e gave. gave) c.in_err-call_upstream_response_filter.ensures.calls)

pub returns-in_err-check_switch : goal.returns-in_err-check_switch
returns-in_err-check_switch g c =
    let failure = err_from_is_err_and c.from_residual-in_err-check_switch.result
    c.from_residual-in_err-check_switch.ensures.1 in
    rw (failure.1, failure.2)
    (upstream_switches (g.SV.ProxyHttp.allows c.args.app.now)
    (SomeAllow g.SV.Modules.HttpModule.allows) c.args.of_head c.args.head.now
    c.call_upstream_response_filter.new.head c.args.end _ _ _ _ c.requires
    c.in_ok-call_upstream_response_filter.ensures.calls {Y = Unit} no_chain c.into_up.result _
    (c.into_up.ensures ∙ ap (λ (e : Error). record e { esource = Upstream }) c.mismatch.ensures)
    c.in_err-check_switch.ensures)

pub returns : goal.returns
returns g c =
    upstream_frames (g.SV.ProxyHttp.allows c.args.app.now)
    (SomeAllow g.SV.Modules.HttpModule.allows) c.args.of_head c.args.head.now
    c.call_upstream_response_filter.new.head c.args.end _ _ _ _ c.requires
    c.in_ok-call_upstream_response_filter.ensures.calls c.into_up.result c.frame_head.new.head
    c.frame_head.result c.in_ok-check_switch.ensures c.frame_head.ensures.ok
    c.frame_head.ensures.causes c.frame_head.ensures.lacks c.frame_head.ensures.full
