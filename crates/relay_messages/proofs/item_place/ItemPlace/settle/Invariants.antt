use Rattle.std.proofs.Common.{◌≡◌, ◌-◌, length}
use Rattle.relay_messages.specs.ItemPlace.{front_of}
use Rattle.relay_messages.proofs.item_place.ItemPlace.settle.Given as goal

abbrev pub invariant-loop-self : goal.invariant-loop-self
invariant-loop-self l =
    (front_of l.stream l.taken l.items l.self ≡ front_of l.stream l.taken l.items l.fn.self)
    × (l.self.over ≡ l.fn.self.over) × (l.self.ended ≡ l.fn.self.ended)

abbrev pub decreases-loop-self : goal.decreases-loop-self
decreases-loop-self l = length l.items - l.self.at
