-- What was queued waits, or nothing does.
use Rattle.std.proofs.Common.{false, refl}
use Rattle.relay_request.specs.Calls.{Owing}
use Rattle.relay_request.specs.Leaving.{Answers}
use Rattle.relay_turns.proofs.FailSteps.{none_waits, some_waits}
use Rattle.relay_proxy.proofs.failing.owe.Goals as goal

-- nothing waits
pub returns-then-not-has_pending-clause-comes : goal.returns-then-not-has_pending-clause-comes
returns-then-not-has_pending-clause-comes g c =
    Answers.is_over (rw c.deref.ensures at (none_waits _ _ c.has_pending.ensures
    c.if-not-has_pending.true)) (rw c.outcome.ensures refl)

-- it waits
pub returns-clause-comes : goal.returns-clause-comes
returns-clause-comes g c =
    Answers.waits c.args.session refl
    (rw c.deref.ensures at (some_waits _ _ c.has_pending.ensures c.if-not-has_pending.false)) refl

-- and the calls are those that they were
pub returns-clause-calls : goal.returns-clause-calls
returns-clause-calls g c = Owing.waits c.args.session (refl, refl) (refl, refl) refl

-- or the session has its client again
pub returns-then-not-has_pending-clause-calls : goal.returns-then-not-has_pending-clause-calls
returns-then-not-has_pending-clause-calls g c =
    Owing.written c.args.session.value false _ refl (rw c.outcome.ensures refl) (refl, refl)
    (rw (← c.into_inner.ensures, c.outcome.ensures) c.take_client.ensures)
