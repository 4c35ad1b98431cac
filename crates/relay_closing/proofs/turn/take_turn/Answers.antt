-- A turn calls the hook that comes next, and takes the end on.
use Rattle.std.proofs.Common.{◌≡◌, true, subst}
use Rattle.relay_modules.specs.Module.{AllowsMade}
use Rattle.relay_calls.specs.Log.{IsAllowed}
use Rattle.relay_closing.specs.Place.{may_begin, may_go_on}
use Rattle.relay_closing.specs.declared.place.Place.{Place}
use Rattle.relay_closing.proofs.ClosesLemmas.{ClosesSoFar-turn, ready_turn, start_of, start_of-begins}
use Rattle.relay_closing.proofs.turn.take_turn.Goals as goal

pub returns-in-At-clause-turns : goal.returns-in-At-clause-turns
returns-in-At-clause-turns g c =
    λ made start begins.
    rw c.in-At.is
    (c.call_next.ensures.turns made start
    (subst (λ (p : Place g.row.SV-Kept.Denot). may_begin start p ≡ true) c.in-At.is begins))

pub returns-in-At-clause-closes : goal.returns-in-At-clause-closes
returns-in-At-clause-closes g c =
    λ made start first mark closed.
    ClosesSoFar-turn
    (IsAllowed (g.SV.ProxyHttp.allows c.args.app.now)
    (AllowsMade g.SV.Modules.HttpModule.allows made))
    start first mark c.args.session.now.seen
    (g.SV.ProxyHttp.mark_of c.args.app.now c.args.ctx.now) c.call_next.new.session.seen
    (g.SV.ProxyHttp.mark_of c.args.app.now c.call_next.new.ctx) c.args.goes_back c.args.place
    c.call_next.result (returns-in-At-clause-turns g c made start) closed

pub returns-in-At-clause-ready : goal.returns-in-At-clause-ready
returns-in-At-clause-ready g c =
    let made = c.args.session.now.modules in
    let start = start_of c.in-At.stage in
    ready_turn
    (IsAllowed (g.SV.ProxyHttp.allows c.args.app.now)
    (AllowsMade g.SV.Modules.HttpModule.allows made))
    start c.args.session.now.seen
    (g.SV.ProxyHttp.mark_of c.args.app.now c.args.ctx.now) c.call_next.new.session.seen
    (g.SV.ProxyHttp.mark_of c.args.app.now c.call_next.new.ctx) c.args.goes_back c.in-At.stage
    c.call_next.result (c.call_next.ensures.turns made start (start_of-begins c.in-At.stage))
    (subst
    (λ (p : Place g.row.SV-Kept.Denot). may_go_on p c.args.session.now.seen ≡ true) c.in-At.is
    c.requires)
