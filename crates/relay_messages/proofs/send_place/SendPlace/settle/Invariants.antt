use Rattle.std.proofs.Common.{◌≡◌, ◌-◌, length}
use Rattle.relay_messages.specs.SendPlace.{sends_front}
use Rattle.relay_messages.proofs.send_place.SendPlace.settle.Given as goal

abbrev pub invariant-loop-self : goal.invariant-loop-self
invariant-loop-self l = sends_front l.items l.self ≡ sends_front l.items l.fn.self

abbrev pub decreases-loop-self : goal.decreases-loop-self
decreases-loop-self l = length l.items - l.self.at
