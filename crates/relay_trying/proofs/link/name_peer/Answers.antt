-- The peer is named, or the error is final.
use Rattle.std.proofs.Common.{false, None}
use Rattle.relay_tasks.specs.declared.hook.Hook.TheVariants.{UpstreamPeer}
use Rattle.relay_tasks.specs.declared.log.Item.TheVariants.{Addressed, Request}
use Rattle.relay_hooks.specs.Session.{request_head}
use Rattle.relay_trying.proofs.CallLemmas.{names_peer, ready_answered}
use Rattle.relay_trying.proofs.link.name_peer.Goals as goal

pub returns-clause-names : goal.returns-clause-names
returns-clause-names g c =
    names_peer (g.SV.ProxyHttp.allows c.args.app.now) c.args.session.now.seen
    (g.SV.ProxyHttp.mark_of c.args.app.now c.args.ctx.now) c.call_upstream_peer.new.session.seen
    (g.SV.ProxyHttp.mark_of c.args.app.now c.call_upstream_peer.new.ctx)
    c.call_upstream_peer.result c.call_upstream_peer.ensures.calls

pub returns-clause-ready : goal.returns-clause-ready
returns-clause-ready g c =
    ready_answered (g.SV.ProxyHttp.allows c.args.app.now) UpstreamPeer None false
    (Request (request_head c.args.session.now.seen)) c.args.session.now.seen
    (g.SV.ProxyHttp.mark_of c.args.app.now c.args.ctx.now) c.call_upstream_peer.new.session.seen
    (g.SV.ProxyHttp.mark_of c.args.app.now c.call_upstream_peer.new.ctx) c.requires
    (λ peer. Addressed peer false) c.call_upstream_peer.result c.call_upstream_peer.ensures.calls
