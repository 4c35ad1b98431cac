-- The filter is called with the session that has its client in it, which is then taken out again.
use Rattle.std.proofs.Common.{sym}
use Rattle.relay_modules.specs.Module.{ModuleCall}
use Rattle.relay_trying.proofs.WithinLemmas.{FiltersHead-within}
use Rattle.relay_request.proofs.calls.filter.Goals as goal

-- it is the call of the filter
pub returns-clause-filters : goal.returns-clause-filters
returns-clause-filters g c =
    rw (c.swap-2.ensures.x_after, sym c.swap.ensures.y_after)
    (FiltersHead-within (g.SV.ProxyHttp.allows c.args.app.now)
    (λ (call : ModuleCall). (made : g.row.SV-Modules.Denot)
    × g.SV.Modules.HttpModule.allows made call) _ _ _ _ c.args.ready c.filter_head-filtered.result
    c.filter_head-filtered.ensures.filters)
