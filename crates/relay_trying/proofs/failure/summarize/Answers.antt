-- The answer is the line of the warning.
use Rattle.relay_tasks.specs.declared.hook.Hook.TheVariants.{RequestSummary}
use Rattle.relay_tasks.specs.declared.log.Item.TheVariants.{Request, Text}
use Rattle.relay_hooks.specs.Session.{request_head}
use Rattle.relay_trying.proofs.CallLemmas.{lost, ready_looks, summarizes}
use Rattle.relay_trying.proofs.failure.summarize.Goals as goal

pub returns-clause-summarizes : goal.returns-clause-summarizes
returns-clause-summarizes g c =
    summarizes (g.SV.ProxyHttp.allows c.args.app.now) c.args.session.now.seen
    (g.SV.ProxyHttp.mark_of c.args.app.now c.args.ctx.now)
    c.call_request_summary.new.session.seen c.call_request_summary.result
    c.call_request_summary.ensures.calls

pub returns-clause-lost : goal.returns-clause-lost
returns-clause-lost g c =
    lost Text _ c.args.session.now.seen c.call_request_summary.new.session.seen
    c.call_request_summary.result c.call_request_summary.ensures.memory
    c.call_request_summary.ensures.calls

pub returns-clause-ready : goal.returns-clause-ready
returns-clause-ready g c =
    ready_looks (g.SV.ProxyHttp.allows c.args.app.now) RequestSummary
    (Request (request_head c.args.session.now.seen)) c.args.session.now.seen
    (g.SV.ProxyHttp.mark_of c.args.app.now c.args.ctx.now) c.call_request_summary.new.session.seen
    c.requires Text c.call_request_summary.result c.call_request_summary.ensures.calls
