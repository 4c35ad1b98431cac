-- The laws are lemmas.
use Rattle.relay_hooked.proofs.OrderLemmas.{attempt_so_far, told_so_far}
use Rattle.relay_hooked.proofs.attempt_so_far.Goals as goal

-- both sides hold their halves
pub returns-clause-attempt : goal.returns-clause-attempt
returns-clause-attempt g c = λ link ahead s b up duplex p q h.
    attempt_so_far g.L.ByteLink.state g.L.ByteLink.start link ahead s b up duplex p q h

-- which are told
pub returns-clause-told : goal.returns-clause-told
returns-clause-told g c = λ link ahead s b up duplex p q h.
    told_so_far g.L.ByteLink.state g.L.ByteLink.start link ahead s b up duplex p q h
