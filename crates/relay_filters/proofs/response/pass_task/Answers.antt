-- Each kind of task by its own filter of the modules.
use Rattle.std.proofs.Common.{[], refl}
use Rattle.std.proofs.lemmas.Result.{err_from_is_err_and}
use Rattle.relay_filters.proofs.ModuleLemmas.{module_body_fails, module_body_passes, module_done_fails, module_done_passes, module_trailer_fails, module_trailer_passes, module_upgraded_fails, module_upgraded_passes}
use Rattle.relay_filters.proofs.OutcomeLemmas.{adds_none}
use Rattle.relay_filters.proofs.response.pass_task.Goals as goal

-- a piece
pub returns-in_err-call_module_response_body-in-Body-clause-passes :
    goal.returns-in_err-call_module_response_body-in-Body-clause-passes
returns-in_err-call_module_response_body-in-Body-clause-passes g c =
    let failure = err_from_is_err_and c.from_residual.result c.from_residual.ensures.1 in
    rw (c.in-Body.is, failure.1, failure.2)
    (module_body_fails (g.SV.ProxyHttp.allows c.args.app.now)
    g.SV.Modules.HttpModule.allows c.args.session.now.modules c.requires.made c.args.of_head
    c.in-Body.body _ c.in-Body.end _ _ _ c.requires.read _
    c.in_err-call_module_response_body-in-Body.ensures.calls)

pub returns-in_ok-call_module_response_body-in-Body-clause-passes :
    goal.returns-in_ok-call_module_response_body-in-Body-clause-passes
returns-in_ok-call_module_response_body-in-Body-clause-passes g c =
    rw c.in-Body.is
    (module_body_passes (g.SV.ProxyHttp.allows c.args.app.now)
    g.SV.Modules.HttpModule.allows c.args.session.now.modules c.requires.made c.args.of_head
    c.in-Body.body _ c.in-Body.end _ _ _ c.requires.read
    c.in_ok-call_module_response_body-in-Body.ensures.calls)

-- a piece behind an upgrade
pub returns-in_err-call_module_response_body-in-UpgradedBody-clause-passes :
    goal.returns-in_err-call_module_response_body-in-UpgradedBody-clause-passes
returns-in_err-call_module_response_body-in-UpgradedBody-clause-passes g c =
    let failure = err_from_is_err_and
    c.from_residual-in_err-call_module_response_body-in-UpgradedBody.result
    c.from_residual-in_err-call_module_response_body-in-UpgradedBody.ensures.1 in
    rw (c.in-UpgradedBody.is, failure.1, failure.2)
    (module_upgraded_fails (g.SV.ProxyHttp.allows c.args.app.now)
    g.SV.Modules.HttpModule.allows c.args.session.now.modules c.requires.made c.args.of_head
    c.in-UpgradedBody.body _ c.in-UpgradedBody.end _ _ _ c.requires.read _
    c.in_err-call_module_response_body-in-UpgradedBody.ensures.calls)

pub returns-in_ok-call_module_response_body-in-UpgradedBody-clause-passes :
    goal.returns-in_ok-call_module_response_body-in-UpgradedBody-clause-passes
returns-in_ok-call_module_response_body-in-UpgradedBody-clause-passes g c =
    rw c.in-UpgradedBody.is
    (module_upgraded_passes (g.SV.ProxyHttp.allows c.args.app.now)
    g.SV.Modules.HttpModule.allows c.args.session.now.modules c.requires.made c.args.of_head
    c.in-UpgradedBody.body _ c.in-UpgradedBody.end _ _ _ c.requires.read
    c.in_ok-call_module_response_body-in-UpgradedBody.ensures.calls)

-- trailer fields
pub returns-in_err-answer-in-Trailer-clause-passes :
    goal.returns-in_err-answer-in-Trailer-clause-passes
returns-in_err-answer-in-Trailer-clause-passes g c =
    let failure = err_from_is_err_and c.from_residual-in_err-answer-in-Trailer.result
    c.from_residual-in_err-answer-in-Trailer.ensures.1 in
    rw (c.in-Trailer.is, failure.1, failure.2)
    (module_trailer_fails (g.SV.ProxyHttp.allows c.args.app.now)
    g.SV.Modules.HttpModule.allows c.args.session.now.modules c.requires.made c.args.of_head _ _ _
    c.requires.read c.in-Trailer.fields _ _ c.in_err-answer-in-Trailer.ensures.calls)

pub returns-in_ok-answer-in-Trailer-clause-passes :
    goal.returns-in_ok-answer-in-Trailer-clause-passes
returns-in_ok-answer-in-Trailer-clause-passes g c =
    rw c.in-Trailer.is
    (module_trailer_passes (g.SV.ProxyHttp.allows c.args.app.now)
    g.SV.Modules.HttpModule.allows c.args.session.now.modules c.requires.made c.args.of_head _ _ _
    c.requires.read c.in-Trailer.fields c.call_module_response_trailer.new.trailers
    c.in_ok-answer-in-Trailer.answer c.ended_by.result c.ended_by.ensures
    c.in_ok-answer-in-Trailer.ensures.calls)

-- the end
pub returns-in_err-answer-in-Done-clause-passes : goal.returns-in_err-answer-in-Done-clause-passes
returns-in_err-answer-in-Done-clause-passes g c =
    let failure = err_from_is_err_and c.from_residual-in_err-answer-in-Done.result
    c.from_residual-in_err-answer-in-Done.ensures.1 in
    rw (c.in-Done.is, failure.1, failure.2)
    (module_done_fails (g.SV.ProxyHttp.allows c.args.app.now)
    g.SV.Modules.HttpModule.allows c.args.session.now.modules c.requires.made c.args.of_head _ _ _
    c.requires.read _ c.in_err-answer-in-Done.ensures.calls)

pub returns-in_ok-answer-in-Done-clause-passes : goal.returns-in_ok-answer-in-Done-clause-passes
returns-in_ok-answer-in-Done-clause-passes g c =
    rw c.in-Done.is
    (module_done_passes (g.SV.ProxyHttp.allows c.args.app.now)
    g.SV.Modules.HttpModule.allows c.args.session.now.modules c.requires.made c.args.of_head _ _ _
    c.requires.read c.in_ok-answer-in-Done.answer c.ended_by-in-Done.result
    c.ended_by-in-Done.ensures c.in_ok-answer-in-Done.ensures.calls)

-- a failure, which no filter is called for
pub returns-in-Failed-clause-passes : goal.returns-in-Failed-clause-passes
returns-in-Failed-clause-passes g c =
    rw c.in-Failed.is ([], adds_none _ _ _ c.requires.read, (refl, refl))
