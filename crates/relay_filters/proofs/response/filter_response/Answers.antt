-- Both stages of filters, or the first refused the batch.
use Rattle.std.proofs.Common.{sym, ◌∙◌}
use Rattle.std.proofs.lemmas.Result.{err_from_is_err_and}
use Rattle.relay_calls.specs.Log.{IsAllowed}
use Rattle.relay_filters.specs.Response.{SomeAllow}
use Rattle.relay_filters.proofs.BatchLemmas.{app_failure, app_requests, app_stops, both_alone, both_failure, both_failures, both_requests, both_stages, first_alone, first_failures, first_requests, first_stage}
use Rattle.relay_filters.proofs.response.filter_response.Goals as goal

-- the filters of the application refused it
pub returns-in_err-filtered-clause-filters : goal.returns-in_err-filtered-clause-filters
returns-in_err-filtered-clause-filters g c =
    let failure = err_from_is_err_and c.from_residual.result c.from_residual.ensures.1 in
    rw (failure.1, failure.2)
    (app_stops _ c.args.of_head c.args.tasks _ _ _ _ _ _ c.in_err-filtered.ensures)

pub returns-in_err-filtered-clause-requests : goal.returns-in_err-filtered-clause-requests
returns-in_err-filtered-clause-requests g c =
    app_requests (IsAllowed (g.SV.ProxyHttp.allows c.args.app.now)
    (SomeAllow g.SV.Modules.HttpModule.allows)) c.args.of_head c.args.tasks
    c.args.session.now.seen (g.SV.ProxyHttp.mark_of c.args.app.now c.args.ctx.now)
    c.filter_batch.new.session.seen
    (g.SV.ProxyHttp.mark_of c.args.app.now c.filter_batch.new.ctx) c.filter_batch.result
    c.filter_batch.ensures

pub returns-in_err-filtered-clause-failure : goal.returns-in_err-filtered-clause-failure
returns-in_err-filtered-clause-failure g c =
    let failure = err_from_is_err_and c.from_residual.result c.from_residual.ensures.1 in
    rw (failure.1, failure.2)
    (app_failure _ c.args.of_head c.args.tasks _ _ _ _ _ c.in_err-filtered.ensures)

-- it passed them, and modules stand
pub returns-then-is_some-clause-filters : goal.returns-then-is_some-clause-filters
returns-then-is_some-clause-filters g c =
    both_stages _ c.args.of_head c.args.tasks c.in_ok-filtered.filtered _ _ _ _ _ _
    c.in_ok-filtered.ensures c.pass_batch.result c.pass_batch.ensures.passes _
    c.pass_batch.ensures.stands

pub returns-then-is_some-clause-requests : goal.returns-then-is_some-clause-requests
returns-then-is_some-clause-requests g c =
    both_requests _ c.args.of_head c.args.tasks c.in_ok-filtered.filtered _ _ _ _ _ _
    c.in_ok-filtered.ensures c.pass_batch.result c.pass_batch.ensures.passes

pub returns-then-is_some-clause-failures : goal.returns-then-is_some-clause-failures
returns-then-is_some-clause-failures g c =
    both_failures _ c.args.of_head c.args.tasks c.in_ok-filtered.filtered _ _ _ _ _ _
    c.in_ok-filtered.ensures c.pass_batch.result c.pass_batch.ensures.passes

pub returns-then-is_some-clause-alone : goal.returns-then-is_some-clause-alone
returns-then-is_some-clause-alone g c =
    both_alone _ c.args.of_head c.args.tasks c.in_ok-filtered.filtered _ _ _ _ _ _
    c.in_ok-filtered.ensures c.pass_batch.result c.pass_batch.ensures.passes

pub returns-then-is_some-clause-failure : goal.returns-then-is_some-clause-failure
returns-then-is_some-clause-failure g c =
    both_failure _ c.args.of_head c.args.tasks c.in_ok-filtered.filtered _ _ _ _ _ _
    c.in_ok-filtered.ensures c.pass_batch.result c.pass_batch.ensures.passes

-- none do
pub returns-else-is_some-clause-filters : goal.returns-else-is_some-clause-filters
returns-else-is_some-clause-filters g c =
    first_stage _ c.args.of_head c.args.tasks c.in_ok-filtered.filtered _ _ _ _
    c.in_ok-filtered.ensures _ (sym c.is_some.ensures ∙ c.if-is_some.false)

pub returns-else-is_some-clause-requests : goal.returns-else-is_some-clause-requests
returns-else-is_some-clause-requests g c =
    first_requests _ c.args.of_head c.args.tasks c.in_ok-filtered.filtered _ _ _ _
    c.in_ok-filtered.ensures

pub returns-else-is_some-clause-failures : goal.returns-else-is_some-clause-failures
returns-else-is_some-clause-failures g c =
    first_failures _ c.args.of_head c.args.tasks c.in_ok-filtered.filtered _ _ _ _
    c.in_ok-filtered.ensures

pub returns-else-is_some-clause-alone : goal.returns-else-is_some-clause-alone
returns-else-is_some-clause-alone g c =
    first_alone _ c.args.of_head c.args.tasks c.in_ok-filtered.filtered _ _ _ _
    c.in_ok-filtered.ensures
