-- One write, where something waits.
use Rattle.std.proofs.Common.{false, refl}
use Rattle.relay_request.specs.Calls.{Owing}
use Rattle.relay_proxy.proofs.answering.write_answer.Goals as goal

-- where nothing waits the session has its client again
pub returns-then-not-has_pending-clause-calls : goal.returns-then-not-has_pending-clause-calls
returns-then-not-has_pending-clause-calls g c =
    Owing.written c.args.session.value false _ (rw c.ended.ensures.phase refl) c.outcome.ensures
    (refl, refl) c.ended.ensures.calls
