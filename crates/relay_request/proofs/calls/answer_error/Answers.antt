-- The error is answered with the session that has its client in it, which is then taken out again.
use Rattle.std.proofs.Common.{None, arith, refl, sym}
use Rattle.relay_modules.specs.Module.{AllowsMade, ModuleCall}
use Rattle.relay_calls.specs.Log.{IsAllowed}
use Rattle.relay_phases.specs.Order.{Station as station}
use Rattle.relay_request.proofs.ClosingSteps.{answered_with, lost_turn}
use Rattle.relay_request.proofs.calls.answer_error.Goals as goal

-- it was answered, and its context is held
pub returns-clause-answers : goal.returns-clause-answers
returns-clause-answers g c =
    λ from may. answered_with {K = g.row.SV-Kept.Denot} (g.SV.ProxyHttp.allows c.args.app.now)
    (AllowsMade g.SV.Modules.HttpModule.allows None)
    (λ (call : ModuleCall). (made : g.row.SV-Modules.Denot)
    × g.SV.Modules.HttpModule.allows made call) (g.SV.ProxyHttp.mark_of c.args.app.now) c.args.error
    from _ _ _ _ _ c.take_turn-place.result refl
    (grind (arith, c.is_lost.ensures, c.if-is_lost.false))
    (rw (c.swap-2.ensures.x_after, sym c.swap.ensures.y_after)
    (rw c.begin_closing-failing.ensures.place at (c.take_turn-place.ensures.turns None from
    (rw c.begin_closing-failing.ensures.place may))))

-- or memory was wanted
pub returns-then-is_lost-clause-lost : goal.returns-then-is_lost-clause-lost
returns-then-is_lost-clause-lost g c =
    lost_turn {K = g.row.SV-Kept.Denot} (IsAllowed (g.SV.ProxyHttp.allows c.args.app.now)
    (AllowsMade g.SV.Modules.HttpModule.allows None)) c.args.error station.failing _ _ _ _
    c.take_turn-place.result (grind (arith, c.is_lost.ensures, c.if-is_lost.true))
    (rw c.begin_closing-failing.ensures.place at
    (c.take_turn-place.ensures.turns None station.failing
    (rw c.begin_closing-failing.ensures.place refl)))
