-- The head that the filter left goes out, or the attempt is broken.
use Rattle.std.proofs.lemmas.Result.{err_from_is_err_and}
use Rattle.relay_trying.proofs.CallLemmas.{breaks_head, filters_head}
use Rattle.relay_trying.proofs.link.filter_head.Goals as goal

pub returns-in_err-call_upstream_request_filter-clause-filters :
    goal.returns-in_err-call_upstream_request_filter-clause-filters
returns-in_err-call_upstream_request_filter-clause-filters g c =
    let failure = err_from_is_err_and c.from_residual.result c.from_residual.ensures.1 in
    rw (failure.1, failure.2)
    (breaks_head (g.SV.ProxyHttp.allows c.args.app.now) c.args.session.now.seen
    (g.SV.ProxyHttp.mark_of c.args.app.now c.args.ctx.now)
    c.call_upstream_request_filter.new.session.seen
    (g.SV.ProxyHttp.mark_of c.args.app.now c.call_upstream_request_filter.new.ctx) c.args.head
    c.call_upstream_request_filter.new.head c.in_err-call_upstream_request_filter.field-0.0
    c.in_err-call_upstream_request_filter.ensures.calls)

pub returns-clause-filters : goal.returns-clause-filters
returns-clause-filters g c =
    filters_head (g.SV.ProxyHttp.allows c.args.app.now) c.args.session.now.seen
    (g.SV.ProxyHttp.mark_of c.args.app.now c.args.ctx.now)
    c.call_upstream_request_filter.new.session.seen
    (g.SV.ProxyHttp.mark_of c.args.app.now c.call_upstream_request_filter.new.ctx) c.args.head
    c.call_upstream_request_filter.new.head c.in_ok-call_upstream_request_filter.ensures.calls
