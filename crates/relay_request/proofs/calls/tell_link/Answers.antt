-- The application is told with the session that has its client in it, which is then taken out
-- again.
use Rattle.std.proofs.Common.{sym}
use Rattle.relay_modules.specs.Module.{ModuleCall}
use Rattle.relay_trying.proofs.WithinLemmas.{TellsConnected-within}
use Rattle.relay_request.proofs.calls.tell_link.Goals as goal

-- it was told
pub returns-then-is_ok-clause-told : goal.returns-then-is_ok-clause-told
returns-then-is_ok-clause-told g c =
    rw (c.swap-2.ensures.x_after, sym c.swap.ensures.y_after)
    (TellsConnected-within (g.SV.ProxyHttp.allows c.args.app.now)
    (λ (call : ModuleCall). (made : g.row.SV-Modules.Denot)
    × g.SV.Modules.HttpModule.allows made call) _ _ _ _ c.args.peer.now c.args.reused
    c.tell_connected-told.result c.tell_connected-told.ensures.tells)

-- or it failed
pub returns-else-is_ok-clause-told : goal.returns-else-is_ok-clause-told
returns-else-is_ok-clause-told g c =
    rw (c.swap-2.ensures.x_after, sym c.swap.ensures.y_after)
    (TellsConnected-within (g.SV.ProxyHttp.allows c.args.app.now)
    (λ (call : ModuleCall). (made : g.row.SV-Modules.Denot)
    × g.SV.Modules.HttpModule.allows made call) _ _ _ _ c.args.peer.now c.args.reused
    c.tell_connected-told.result c.tell_connected-told.ensures.tells)
