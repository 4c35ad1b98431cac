-- The link that is asked about is the one that stood at the place, and the one that is taken out.
use Rattle.std.proofs.Common.{◌≡◌, ◌+◌, ◌≤◌, ap, ◌∙◌, refl, sym, arith}
use Rattle.relay_tcp.proofs.IdleLemmas.{goes_on, taken}
use Rattle.relay_tcp.proofs.idle.IdleLinks.take.Goals as goal
use Rattle.relay_tcp.proofs.idle.IdleLinks.take.Goals.{in-Unasked, in-Over}

pub returns-in-Idle-clause-last : goal.returns-in-Idle-clause-last
returns-in-Idle-clause-last c =
    taken c.args.peer.now c.args.self.now.links.items c.loop-at.self.links.items
    c.remove-link.new.self.items c.loop-at.at c.index.result.now c.remove-link.result
    c.loop-at-test.true c.loop-at.invariant.0 c.loop-at.invariant.1 c.index.ensures
    (sym c.if-is_for.ensures) c.remove-link.ensures.value c.remove-link.ensures.items
    c.again.result c.again.ensures.connection (c.in-Idle.ensures.was_open refl)
    (c.in-Idle.ensures.faultless refl) c.again.ensures.unused

-- where it does not stand, it is one link less, and the count rose by one at most
pub loop-at-preserved-after-look : goal.loop-at-preserved-after-look
loop-at-preserved-after-look c =
    let now = c.match-look.self in
    let then = c.loop-at.self in
    let left : now.links.items ≡ c.remove-link.new.self.items =
    elim c.match-look.branch [
      | in-Unasked w ↦ ap (λ self. self.links.items) w.self-is
      | in-Over w ↦ ap (λ self. self.links.items) w.self-is
    ] in
    let grew : then.unasked ≤ now.unasked =
    elim c.match-look.branch [
      | in-Unasked w ↦ grind (arith, w.self-is)
      | in-Over w ↦ grind (arith, w.self-is)
    ] in
    let once : now.unasked ≤ then.unasked + 1 =
    elim c.match-look.branch [
      | in-Unasked w ↦ grind (arith, w.self-is)
      | in-Over w ↦ grind (arith, w.self-is)
    ] in
    goes_on c.args.peer.now c.args.self.now.links.items then.links.items now.links.items
    c.loop-at.at c.index.result.now c.remove-link.result c.loop-at-test.true
    c.loop-at.invariant.0 c.loop-at.invariant.1 c.index.ensures (sym c.if-is_for.ensures)
    c.remove-link.ensures.value (left ∙ c.remove-link.ensures.items)
    c.args.self.now.unasked then.unasked now.unasked c.loop-at.invariant.2 grew once
