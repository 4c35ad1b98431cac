-- What was taken out of the pipe before memory ran out is lost.
use Rattle.std.proofs.Common.{[], ◌∷◌}
use Rattle.relay_core.proofs.BatchLemmas.{loses_more, on_err}
use Rattle.relay_core.proofs.batch.next_batch.Goals as goal

-- there is no memory for the first task
pub returns-in_err-push-clause-err : goal.returns-in_err-push-clause-err
returns-in_err-push-clause-err c =
    on_err c.from_residual.result _ (record {
      lost = c.take_held.result ∷ [];
      parts = c.take_held.ensures;
    })

-- there is none for those behind it
pub returns-in_err-move_plain-clause-err : goal.returns-in_err-move_plain-clause-err
returns-in_err-move_plain-clause-err c =
    on_err c.from_residual-in_err-move_plain.result _
    (loses_more _ _ _ c.take_held.result c.take_held.ensures c.in_err-move_plain.ensures.err)
