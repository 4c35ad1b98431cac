-- The modules' filter is called with a piece, and then the application's.
use Rattle.std.proofs.lemmas.Result.{err_from_is_err_and}
use Rattle.relay_filters.proofs.CallLemmas.{both_calls, module_stops}
use Rattle.relay_filters.proofs.request.call_both.Goals as goal

-- the modules' failed, or memory was wanted
pub returns-in_err-call_module_request_body : goal.returns-in_err-call_module_request_body
returns-in_err-call_module_request_body g c =
    let failure = err_from_is_err_and c.from_residual.result c.from_residual.ensures.1 in
    rw (failure.1, failure.2)
    (module_stops (g.SV.ProxyHttp.allows c.args.app.now) g.SV.Modules.HttpModule.allows
    c.args.session.now.modules c.requires.made c.args.body.now c.call_module_request_body.new.body
    c.args.end _ _ _ c.requires.read _ c.in_err-call_module_request_body.ensures.calls)

pub returns : goal.returns
returns g c =
    both_calls (g.SV.ProxyHttp.allows c.args.app.now) g.SV.Modules.HttpModule.allows
    c.args.session.now.modules c.requires.made c.args.body.now c.call_module_request_body.new.body
    c.args.end _ _ _ c.requires.read c.in_ok-call_module_request_body.ensures.calls _ _ _
    c.call_request_body_filter.result c.call_request_body_filter.ensures.calls
