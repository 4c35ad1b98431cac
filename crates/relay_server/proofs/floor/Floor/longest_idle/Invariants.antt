-- What holds between two places that are looked at.
use Rattle.relay_server.specs.Idle.{is_idle}
use Rattle.relay_server.proofs.FloorLemmas.{NoneBelow}
use Rattle.relay_server.proofs.floor.Floor.longest_idle.Given as goal

-- nobody was idle so far
abbrev pub invariant-loop-place : goal.invariant-loop-place
invariant-loop-place g l = NoneBelow (λ b. b.value) is_idle l.self-inside.connections.items l.place
