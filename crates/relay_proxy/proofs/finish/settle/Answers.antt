-- A phase that is not to be closed stays as it is.
use Rattle.std.proofs.Common.{sym, ◌∙◌}
use Rattle.relay_turns.proofs.TurnLemmas.{open_settles}
use Rattle.relay_proxy.proofs.finish.settle.Goals as goal

-- nothing is handed back
pub returns-else-is_closing-clause-settles : goal.returns-else-is_closing-clause-settles
returns-else-is_closing-clause-settles g c =
    open_settles c.args.phase.now (g.K.Connector.returned c.args.connector.now)
    (sym c.is_closing.ensures ∙ c.if-is_closing.false)
