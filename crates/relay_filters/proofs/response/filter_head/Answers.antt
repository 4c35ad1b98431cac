-- A filter failed, or the head was checked behind both.
use Rattle.std.proofs.Common.{ap, ◌∙◌}
use Rattle.std.proofs.lemmas.Result.{err_from_is_err_and}
use Rattle.relay_tasks.specs.declared.error.Error.{Error}
use Rattle.relay_tasks.specs.declared.error.ErrorSource.TheVariants.{Internal}
use Rattle.relay_filters.specs.Response.{SomeAllow}
use Rattle.relay_filters.proofs.OutcomeLemmas.{no_chain, stops}
use Rattle.relay_filters.proofs.ResponseLemmas.{response_checks, response_fails}
use Rattle.relay_filters.proofs.response.filter_head.Goals as goal

pub returns-in_err-filter_upstream_head : goal.returns-in_err-filter_upstream_head
returns-in_err-filter_upstream_head g c =
    let failure = err_from_is_err_and c.from_residual.result c.from_residual.ensures.1 in
    rw (failure.1, failure.2)
    (stops {X = Unit} {Y = Unit} _ no_chain no_chain _ _ _ _ _ _ _ _ (λ es fed. fed)
    c.in_err-filter_upstream_head.ensures)

pub returns-in_err-call_response_filter : goal.returns-in_err-call_response_filter
returns-in_err-call_response_filter g c =
    let failure = err_from_is_err_and c.from_residual-in_err-call_response_filter.result
    c.from_residual-in_err-call_response_filter.ensures.1 in
    rw (failure.1, failure.2)
    (response_fails (g.SV.ProxyHttp.allows c.args.app.now)
    (SomeAllow g.SV.Modules.HttpModule.allows) c.args.of_head c.args.head.now
    c.filter_upstream_head.new.head c.call_response_filter.new.head c.args.end _ _ _ _ _ _
    c.in_ok-filter_upstream_head.ensures {Y = Unit} no_chain _
    c.in_err-call_response_filter.ensures.calls)

pub returns : goal.returns
returns g c =
    response_checks (g.SV.ProxyHttp.allows c.args.app.now)
    (SomeAllow g.SV.Modules.HttpModule.allows) c.args.of_head c.args.head.now
    c.filter_upstream_head.new.head c.call_response_filter.new.head c.args.end _ _ _ _ _ _
    c.into_in.result
    (c.into_in.ensures ∙ ap (λ (e : Error). record e { esource = Internal }) c.mismatch.ensures)
    c.in_ok-filter_upstream_head.ensures c.in_ok-call_response_filter.ensures.calls
    c.check_switch.result c.check_switch.ensures
