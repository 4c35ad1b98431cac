-- The error is treated, and leads on as its mark and the session say.
use Rattle.std.proofs.Common.{false, Some}
use Rattle.relay_tasks.specs.declared.hook.Hook.TheVariants.{FailToConnect}
use Rattle.relay_tasks.specs.declared.log.Item.TheVariants.{Failure}
use Rattle.relay_trying.proofs.CallLemmas.{lost, ready_answered, treats_refusal}
use Rattle.relay_trying.proofs.failure.treat_refusal.Goals as goal

pub returns-clause-treats : goal.returns-clause-treats
returns-clause-treats g c =
    treats_refusal (g.SV.ProxyHttp.allows c.args.app.now) c.args.peer.now c.args.error
    c.args.session.now.seen (g.SV.ProxyHttp.mark_of c.args.app.now c.args.ctx.now)
    c.call_fail_to_connect.new.session.seen
    (g.SV.ProxyHttp.mark_of c.args.app.now c.call_fail_to_connect.new.ctx)
    c.call_fail_to_connect.result c.call_fail_to_connect.ensures.calls

pub returns-clause-lost : goal.returns-clause-lost
returns-clause-lost g c =
    lost Failure _ c.args.session.now.seen c.call_fail_to_connect.new.session.seen
    c.call_fail_to_connect.result c.call_fail_to_connect.ensures.memory
    c.call_fail_to_connect.ensures.calls

pub returns-clause-ready : goal.returns-clause-ready
returns-clause-ready g c =
    ready_answered (g.SV.ProxyHttp.allows c.args.app.now) FailToConnect (Some c.args.peer.now)
    false (Failure c.args.error) c.args.session.now.seen
    (g.SV.ProxyHttp.mark_of c.args.app.now c.args.ctx.now) c.call_fail_to_connect.new.session.seen
    (g.SV.ProxyHttp.mark_of c.args.app.now c.call_fail_to_connect.new.ctx) c.requires Failure
    c.call_fail_to_connect.result c.call_fail_to_connect.ensures.calls
