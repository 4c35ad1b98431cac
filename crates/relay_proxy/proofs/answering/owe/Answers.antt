-- What was queued waits, or nothing does.
use Rattle.std.proofs.Common.{false, refl}
use Rattle.relay_request.specs.Calls.{Owing}
use Rattle.relay_request.proofs.MadeLemmas.{ended_closing}
use Rattle.relay_proxy.proofs.answering.owe.Goals as goal

-- it waits
pub returns-clause-calls : goal.returns-clause-calls
returns-clause-calls g c = Owing.waits c.args.session (refl, refl) (refl, refl) refl

-- nothing waits, and the session has its client again
pub returns-then-not-has_pending-clause-calls : goal.returns-then-not-has_pending-clause-calls
returns-then-not-has_pending-clause-calls g c =
    Owing.written c.args.session.value false _ (rw c.ended.ensures.phase refl) c.outcome.ensures
    (refl, refl) c.ended.ensures.calls

-- the end of the request goes on
pub returns-then-not-has_pending-clause-stays : goal.returns-then-not-has_pending-clause-stays
returns-then-not-has_pending-clause-stays g c = λ closing.
    rw c.ended.ensures.calls (ended_closing c.args.calls.now.at _ closing)
