-- The purger is asked with the session that has its client in it, which is then taken out again.
use Rattle.std.proofs.Common.{None, refl, sym, inl, inr}
use Rattle.relay_modules.specs.Module.{AllowsMade, ModuleCall}
use Rattle.relay_request.proofs.BesideLemmas.{purges_beside}
use Rattle.relay_request.proofs.calls.call_purger.Goals as goal

-- its answer was filtered and queued, or memory was wanted
pub returns-clause-purges : goal.returns-clause-purges
returns-clause-purges g c =
    rw (c.swap-2.ensures.x_after, sym c.swap.ensures.y_after)
    (purges_beside (g.SV.ProxyHttp.allows c.args.app.now)
    (AllowsMade g.SV.Modules.HttpModule.allows None)
    (λ (call : ModuleCall). (made : g.row.SV-Modules.Denot)
    × g.SV.Modules.HttpModule.allows made call) _ _ _ _ _ _ _ _ (c.purge-end.ensures.purges None))

-- it was asked once
pub returns-clause-asked : goal.returns-clause-asked
returns-clause-asked g c = rw (sym c.swap.ensures.y_after) (inr c.purge-end.ensures.asked)

-- or not at all
pub returns-then-not-has_head-clause-asked : goal.returns-then-not-has_head-clause-asked
returns-then-not-has_head-clause-asked g c = inl refl
