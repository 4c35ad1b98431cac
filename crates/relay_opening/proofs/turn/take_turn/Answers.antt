-- A turn calls the hook that comes next, and leaves the opening where a hook may be called.
use Rattle.std.proofs.Common.{is_some}
use Rattle.relay_modules.specs.Module.{AllowsMade}
use Rattle.relay_opening.specs.Place.{TurnAllows}
use Rattle.relay_opening.proofs.OpensLemmas.{may_go_on-turn}
use Rattle.relay_opening.proofs.WiderLemmas.{opens_turn}
use Rattle.relay_opening.proofs.turn.take_turn.Goals as goal

pub returns-in-Behind-clause-turns : goal.returns-in-Behind-clause-turns
returns-in-Behind-clause-turns g c = rw c.in-Behind.is c.call_next.ensures.turns

pub returns-in-Behind-clause-opens : goal.returns-in-Behind-clause-opens
returns-in-Behind-clause-opens g c =
    let allows = g.SV.Modules.HttpModule.allows in
    λ made first mark includes opened.
    opens_turn (g.SV.ProxyHttp.allows c.args.app.now)
    (TurnAllows allows c.args.place c.args.session.now.modules) (AllowsMade allows made) includes
    first mark c.args.session.now.seen
    (g.SV.ProxyHttp.mark_of c.args.app.now c.args.ctx.now) c.call_next.new.session.seen
    (g.SV.ProxyHttp.mark_of c.args.app.now c.call_next.new.ctx)
    (is_some c.args.session.now.modules) c.args.place c.call_next.result
    (returns-in-Behind-clause-turns g c) opened

pub returns-in-Behind-clause-ready : goal.returns-in-Behind-clause-ready
returns-in-Behind-clause-ready g c =
    may_go_on-turn _ c.args.session.now.seen
    (g.SV.ProxyHttp.mark_of c.args.app.now c.args.ctx.now) c.call_next.new.session.seen
    (g.SV.ProxyHttp.mark_of c.args.app.now c.call_next.new.ctx)
    (is_some c.args.session.now.modules) c.args.place c.call_next.result
    (returns-in-Behind-clause-turns g c) c.requires
