-- It was asked what the purge does.
use Rattle.relay_modules.specs.Module.{AllowsMade}
use Rattle.relay_purging.proofs.TurnLemmas.{asks_action}
use Rattle.relay_purging.proofs.turn.ask_action.Goals as goal

pub returns-clause-asks : goal.returns-clause-asks
returns-clause-asks g c =
    λ made. asks_action (g.SV.ProxyHttp.allows c.args.app.now)
    (AllowsMade g.SV.Modules.HttpModule.allows made) c.args.session.now.seen
    (g.SV.ProxyHttp.mark_of c.args.app.now c.args.ctx.now) c.call_purge_action.new.session.seen
    c.call_purge_action.result c.call_purge_action.ensures.calls
