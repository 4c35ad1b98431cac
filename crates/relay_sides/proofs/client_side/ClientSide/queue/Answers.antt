-- A failure in front, an end that was asked for, or what the session did.
use Rattle.std.proofs.Common.{refl, sym, ◌∙◌}
use Rattle.relay_sides.specs.Client as client
use Rattle.relay_sides.proofs.client_side.ClientSide.queue.Goals as goal

-- a failure stands in front
pub returns-in-Some-clause-queues : goal.returns-in-Some-clause-queues
returns-in-Some-clause-queues c =
    client.QueuesFront.fails c.in-Some.error (sym c.failure_in_front.ensures ∙ c.in-Some.is) refl
    refl
