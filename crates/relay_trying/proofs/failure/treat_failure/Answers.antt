-- The error is treated, and leads on as its mark and the session say.
use Rattle.std.proofs.Common.{Some}
use Rattle.relay_tasks.specs.declared.hook.Hook.TheVariants.{ErrorWhileProxy}
use Rattle.relay_tasks.specs.declared.log.Item.TheVariants.{Failure}
use Rattle.relay_trying.proofs.CallLemmas.{lost, ready_answered, treats_failure}
use Rattle.relay_trying.proofs.failure.treat_failure.Goals as goal

pub returns-clause-treats : goal.returns-clause-treats
returns-clause-treats g c =
    λ from may.
    treats_failure (g.SV.ProxyHttp.allows c.args.app.now) c.args.peer.now c.args.reused
    c.args.error c.args.session.now.seen
    (g.SV.ProxyHttp.mark_of c.args.app.now c.args.ctx.now)
    c.call_error_while_proxy.new.session.seen
    (g.SV.ProxyHttp.mark_of c.args.app.now c.call_error_while_proxy.new.ctx) from may
    c.call_error_while_proxy.result c.call_error_while_proxy.ensures.calls

pub returns-clause-lost : goal.returns-clause-lost
returns-clause-lost g c =
    lost Failure _ c.args.session.now.seen c.call_error_while_proxy.new.session.seen
    c.call_error_while_proxy.result c.call_error_while_proxy.ensures.memory
    c.call_error_while_proxy.ensures.calls

pub returns-clause-ready : goal.returns-clause-ready
returns-clause-ready g c =
    ready_answered (g.SV.ProxyHttp.allows c.args.app.now) ErrorWhileProxy (Some c.args.peer.now)
    c.args.reused (Failure c.args.error) c.args.session.now.seen
    (g.SV.ProxyHttp.mark_of c.args.app.now c.args.ctx.now) c.call_error_while_proxy.new.session.seen
    (g.SV.ProxyHttp.mark_of c.args.app.now c.call_error_while_proxy.new.ctx) c.requires Failure
    c.call_error_while_proxy.result c.call_error_while_proxy.ensures.calls
