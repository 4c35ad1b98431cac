-- The answer says whether a warning is to be written.
use Rattle.relay_tasks.specs.declared.hook.Hook.TheVariants.{SuppressProxyWarnLog}
use Rattle.relay_tasks.specs.declared.log.Item.TheVariants.{Answer, Failure}
use Rattle.relay_trying.proofs.CallLemmas.{lost, ready_looks, warns}
use Rattle.relay_trying.proofs.failure.warn.Goals as goal

pub returns-clause-warns : goal.returns-clause-warns
returns-clause-warns g c =
    warns (g.SV.ProxyHttp.allows c.args.app.now) c.args.session.now.seen
    (g.SV.ProxyHttp.mark_of c.args.app.now c.args.ctx.now)
    c.call_suppress_proxy_warn_log.new.session.seen c.args.error.now
    c.call_suppress_proxy_warn_log.result c.call_suppress_proxy_warn_log.ensures.calls

pub returns-clause-lost : goal.returns-clause-lost
returns-clause-lost g c =
    lost Answer _ c.args.session.now.seen c.call_suppress_proxy_warn_log.new.session.seen
    c.call_suppress_proxy_warn_log.result c.call_suppress_proxy_warn_log.ensures.memory
    c.call_suppress_proxy_warn_log.ensures.calls

pub returns-clause-ready : goal.returns-clause-ready
returns-clause-ready g c =
    ready_looks (g.SV.ProxyHttp.allows c.args.app.now) SuppressProxyWarnLog
    (Failure c.args.error.now) c.args.session.now.seen
    (g.SV.ProxyHttp.mark_of c.args.app.now c.args.ctx.now)
    c.call_suppress_proxy_warn_log.new.session.seen c.requires Answer
    c.call_suppress_proxy_warn_log.result c.call_suppress_proxy_warn_log.ensures.calls
