-- The head comes next, or the attempt is broken.
use Rattle.std.proofs.Common.{Some}
use Rattle.relay_tasks.specs.declared.hook.Hook.TheVariants.{ConnectedToUpstream}
use Rattle.relay_tasks.specs.declared.log.Item.TheVariants.{Addressed, Nothing}
use Rattle.relay_trying.proofs.CallLemmas.{ready_changed, tells_connected}
use Rattle.relay_trying.proofs.link.tell_connected.Goals as goal

pub returns-clause-tells : goal.returns-clause-tells
returns-clause-tells g c =
    tells_connected (g.SV.ProxyHttp.allows c.args.app.now) c.args.session.now.seen
    (g.SV.ProxyHttp.mark_of c.args.app.now c.args.ctx.now)
    c.call_connected_to_upstream.new.session.seen
    (g.SV.ProxyHttp.mark_of c.args.app.now c.call_connected_to_upstream.new.ctx)
    c.args.peer.now c.args.reused c.call_connected_to_upstream.result
    c.call_connected_to_upstream.ensures.calls

pub returns-clause-ready : goal.returns-clause-ready
returns-clause-ready g c =
    ready_changed (g.SV.ProxyHttp.allows c.args.app.now) ConnectedToUpstream
    (Some c.args.peer.now) c.args.reused (Addressed c.args.peer.now c.args.reused)
    c.args.session.now.seen (g.SV.ProxyHttp.mark_of c.args.app.now c.args.ctx.now)
    c.call_connected_to_upstream.new.session.seen
    (g.SV.ProxyHttp.mark_of c.args.app.now c.call_connected_to_upstream.new.ctx) c.requires
    Nothing c.call_connected_to_upstream.result c.call_connected_to_upstream.ensures.calls
