-- The purger was asked once, and the answer that the filter's entry tells was queued.
use Rattle.relay_hooks.specs.Purge.{purged_of}
use Rattle.relay_modules.specs.Module.{AllowsMade}
use Rattle.relay_purging.proofs.TurnLemmas.{asked_of, purges_filtered, purges_refused}
use Rattle.relay_purging.proofs.turn.purge.Goals as goal

pub returns-in_default-purge_head-clause-asked : goal.returns-in_default-purge_head-clause-asked
returns-in_default-purge_head-clause-asked g c = (
  purged_of c.in-Some.status,
  asked_of (g.P.Purger.state c.args.purger.now) c.args.action c.args.session.now.seen
      (g.P.Purger.state c.ask.new.purger) c.req_header.result.now (purged_of c.in-Some.status)
      c.req_header.ensures c.in-Some.ensures,
)

pub returns-in-Ok-call_purge_response_filter-clause-purges :
    goal.returns-in-Ok-call_purge_response_filter-clause-purges
returns-in-Ok-call_purge_response_filter-clause-purges g c =
    λ made. purges_filtered (g.SV.ProxyHttp.allows c.args.app.now)
    (AllowsMade g.SV.Modules.HttpModule.allows made) c.in-Some.status c.args.session.now.seen
    (g.SV.ProxyHttp.mark_of c.args.app.now c.args.ctx.now)
    c.call_purge_response_filter.new.session.seen
    (g.SV.ProxyHttp.mark_of c.args.app.now c.call_purge_response_filter.new.ctx) c.args.action
    (g.P.Purger.state c.args.purger.now) (g.P.Purger.state c.ask.new.purger) c.answer.new.seen
    c.requires.open_to
    (asked_of (g.P.Purger.state c.args.purger.now) c.args.action c.args.session.now.seen
    (g.P.Purger.state c.ask.new.purger) c.req_header.result.now (purged_of c.in-Some.status)
    c.req_header.ensures c.in-Some.ensures)
    c.call_purge_response_filter.new.answer
    c.in-Ok-call_purge_response_filter.ensures.bodiless
    c.in-Ok-call_purge_response_filter.ensures.calls c.answer.result c.answer.ensures

pub returns-in-Err-Error-clause-purges : goal.returns-in-Err-Error-clause-purges
returns-in-Err-Error-clause-purges g c =
    λ made. purges_refused (g.SV.ProxyHttp.allows c.args.app.now)
    (AllowsMade g.SV.Modules.HttpModule.allows made) c.in-Some.status c.args.session.now.seen
    (g.SV.ProxyHttp.mark_of c.args.app.now c.args.ctx.now)
    c.call_purge_response_filter.new.session.seen
    (g.SV.ProxyHttp.mark_of c.args.app.now c.call_purge_response_filter.new.ctx) c.args.action
    (g.P.Purger.state c.args.purger.now) (g.P.Purger.state c.ask.new.purger) c.refuse.new.seen
    c.requires.open_to
    (asked_of (g.P.Purger.state c.args.purger.now) c.args.action c.args.session.now.seen
    (g.P.Purger.state c.ask.new.purger) c.req_header.result.now (purged_of c.in-Some.status)
    c.req_header.ensures c.in-Some.ensures)
    c.call_purge_response_filter.new.answer c.in-Err-Error.field-0 c.in-Err-Error.field-0-0
    c.in-Err-Error.field-0-is c.in-Err-Error.ensures.calls c.refuse.result c.refuse.ensures

pub returns-clause-asked : goal.returns-clause-asked
returns-clause-asked g c = (
  purged_of c.in-Some.status,
  asked_of (g.P.Purger.state c.args.purger.now) c.args.action c.args.session.now.seen
      (g.P.Purger.state c.ask.new.purger) c.req_header.result.now (purged_of c.in-Some.status)
      c.req_header.ensures c.in-Some.ensures,
)
