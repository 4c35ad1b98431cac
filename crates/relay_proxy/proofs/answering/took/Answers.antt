-- More waits, or the answer was written whole.
use Rattle.std.proofs.Common.{refl}
use Rattle.relay_request.specs.Calls.{Owing}
use Rattle.relay_proxy.proofs.answering.took.Goals as goal

-- more waits
pub returns-then-has_pending-clause-calls : goal.returns-then-has_pending-clause-calls
returns-then-has_pending-clause-calls g c =
    Owing.waits c.args.session (refl, refl) (refl, refl) refl

-- it was written whole
pub returns-clause-calls : goal.returns-clause-calls
returns-clause-calls g c =
    Owing.written c.args.session.value _ _ (rw c.ended.ensures.phase refl)
    c.outcome_written-outcome.ensures
    (refl, refl) c.ended.ensures.calls
