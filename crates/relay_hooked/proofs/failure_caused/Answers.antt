-- The law is a lemma.
use Rattle.relay_hooked.proofs.FailLemmas.{fails_here}
use Rattle.relay_hooked.proofs.failure_caused.Goals as goal

-- each reason of a step is a cause
pub returns : goal.returns
returns g c = λ link ahead s b up duplex p q e so_far tells reason.
    fails_here g.L.ByteLink.state g.L.ByteLink.start link ahead s b up duplex p q e so_far tells
    reason
