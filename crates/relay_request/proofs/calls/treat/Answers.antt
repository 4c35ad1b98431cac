-- The error is treated with the session that has its client in it, which is then taken out again.
use Rattle.std.proofs.Common.{refl, sym}
use Rattle.relay_tasks.specs.declared.hook.Hook.TheVariants as hook
use Rattle.relay_modules.specs.Module.{ModuleCall}
use Rattle.relay_trying.proofs.WithinLemmas.{Treats-within}
use Rattle.relay_request.proofs.calls.treat.Goals as goal

-- it is treated
pub returns-clause-treats : goal.returns-clause-treats
returns-clause-treats g c =
    rw (c.swap-2.ensures.x_after, sym c.swap.ensures.y_after)
    (λ from may. Treats-within (g.SV.ProxyHttp.allows c.args.app.now)
    (λ (call : ModuleCall). (made : g.row.SV-Modules.Denot)
    × g.SV.Modules.HttpModule.allows made call) _ _ _ _ hook.ErrorWhileProxy refl
    c.args.peer.now c.args.reused from c.args.error _
    (c.in_ok-treated.ensures.treats from may))
