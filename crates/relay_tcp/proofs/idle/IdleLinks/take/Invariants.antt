-- Of the links from the place on, those to the peer are gone, and no more than these were counted;
-- those before it stand as they did.
use Rattle.std.proofs.Common.{◌≡◌, ◌≤◌, length}
use Rattle.relay_tcp.specs.IdleLinks.{CountsUnasked}
use Rattle.relay_tcp.proofs.IdleLemmas.{left_behind}
use Rattle.relay_tcp.proofs.idle.IdleLinks.take.Given as goal

abbrev pub invariant-loop-at : goal.invariant-loop-at
invariant-loop-at l =
    (l.at ≤ length l.fn.self.links.items)
    × (l.self.links.items ≡ left_behind l.peer l.fn.self.links.items l.at)
    × CountsUnasked l.fn.self.unasked l.fn.self.links.items 0 l.self.unasked l.self.links.items

abbrev pub decreases-loop-at : goal.decreases-loop-at
decreases-loop-at l = l.at
