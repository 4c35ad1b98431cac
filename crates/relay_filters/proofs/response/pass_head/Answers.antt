-- The filter failed, its head is refused, or it passed.
use Rattle.std.proofs.lemmas.Result.{err_from_is_err_and}
use Rattle.relay_filters.proofs.ModuleLemmas.{module_head_fails, module_head_passes, module_head_refused}
use Rattle.relay_filters.proofs.response.pass_head.Goals as goal

pub returns-in_err-call_module_response_header-clause-passes :
    goal.returns-in_err-call_module_response_header-clause-passes
returns-in_err-call_module_response_header-clause-passes g c =
    let failure = err_from_is_err_and c.from_residual.result c.from_residual.ensures.1 in
    rw (failure.1, failure.2)
    (module_head_fails (g.SV.ProxyHttp.allows c.args.app.now)
    g.SV.Modules.HttpModule.allows c.args.session.now.modules c.requires.made c.args.of_head
    c.args.head _ c.args.end _ _ _ _ c.requires.read
    c.in_err-call_module_response_header.ensures.calls)

pub returns-in_err-check_switch-clause-passes : goal.returns-in_err-check_switch-clause-passes
returns-in_err-check_switch-clause-passes g c =
    let failure = err_from_is_err_and c.from_residual-in_err-check_switch.result
    c.from_residual-in_err-check_switch.ensures.1 in
    rw (failure.1, failure.2)
    (module_head_refused (g.SV.ProxyHttp.allows c.args.app.now)
    g.SV.Modules.HttpModule.allows c.args.session.now.modules c.requires.made c.args.of_head
    c.args.head _ c.args.end _ _ _ c.into_in.result c.mismatch.result _ c.into_in.ensures
    c.mismatch.ensures c.requires.read c.in_ok-call_module_response_header.ensures.calls
    c.in_err-check_switch.ensures)

pub returns-clause-passes : goal.returns-clause-passes
returns-clause-passes g c =
    module_head_passes (g.SV.ProxyHttp.allows c.args.app.now)
    g.SV.Modules.HttpModule.allows c.args.session.now.modules c.requires.made c.args.of_head
    c.args.head _ c.args.end _ _ _ c.into_in.result c.requires.read
    c.in_ok-call_module_response_header.ensures.calls c.in_ok-check_switch.ensures
