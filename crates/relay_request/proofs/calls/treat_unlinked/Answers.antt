-- The error is treated with the session that has its client in it, which is then taken out again.
use Rattle.std.proofs.Common.{false, refl, sym}
use Rattle.std.proofs.lemmas.Result.{IfOk-weaker}
use Rattle.relay_tasks.specs.declared.hook.Hook.TheVariants as hook
use Rattle.relay_modules.specs.Module.{ModuleCall}
use Rattle.relay_phases.specs.Order.{Station as station}
use Rattle.relay_trying.proofs.WithinLemmas.{Treats-within}
use Rattle.relay_request.proofs.calls.treat_unlinked.Goals as goal

-- it is treated
pub returns-clause-treats : goal.returns-clause-treats
returns-clause-treats g c =
    rw (c.swap-2.ensures.x_after, sym c.swap.ensures.y_after)
    (IfOk-weaker c.treat_refusal-treated.result _ _
    (λ treated t. Treats-within (g.SV.ProxyHttp.allows c.args.app.now)
    (λ (call : ModuleCall). (made : g.row.SV-Modules.Denot)
    × g.SV.Modules.HttpModule.allows made call) _ _ _ _ hook.FailToConnect refl
    c.args.peer.now false station.named c.args.error treated t)
    c.treat_refusal-treated.ensures.treats)
