-- The context is made of the session with its client in it, which is then taken out again.
use Rattle.std.proofs.Common.{sym}
use Rattle.relay_modules.specs.Module.{ModuleCall}
use Rattle.relay_opening.specs.declared.place.Called.TheVariants as called
use Rattle.relay_opening.specs.declared.place.Place.TheVariants as place
use Rattle.relay_opening.proofs.WiderLemmas.{opens_begun}
use Rattle.relay_request.proofs.calls.begin_calls.Goals as goal

-- the first call stands in the log
pub returns-clause-begins : goal.returns-clause-begins
returns-clause-begins g c =
    rw (c.swap-2.ensures.x_after, sym c.swap.ensures.y_after)
    (opens_begun {K = g.row.SV-Kept.Denot} (g.SV.ProxyHttp.allows c.args.app.now)
    (λ (call : ModuleCall). (made : g.row.SV-Modules.Denot)
    × g.SV.Modules.HttpModule.allows made call) _ _
    (place.Behind (called.Made c.match-replace.kept)) _ _
    (rw c.in_ok-context.ensures.place at c.in_ok-context.ensures.opens))
