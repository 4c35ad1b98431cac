-- The first connection that is idle, or nobody.
use Rattle.std.proofs.Common.{◌≡◌, ◌<◌, ◌∙◌, true, length, sym, arith}
use Rattle.relay_server.specs.Idle.{is_idle}
use Rattle.relay_server.proofs.FloorLemmas.{found_first, found_none}
use Rattle.relay_server.proofs.floor.Floor.longest_idle.Goals as goal

-- it is idle, and those before it are not
pub returns-then-is_idle : goal.returns-then-is_idle
returns-then-is_idle g c =
    let connections = c.self.inside.connections in
    let within : c.loop-place.place < length connections.items =
    omega (arith, c.loop-place-test.true, c.len-place-end.ensures, connections.ok.0) in
    let idle : is_idle c.index.result.now.value ≡ true =
    rw c.deref.ensures at (sym c.is_idle.ensures.exact ∙ c.if-is_idle.true) in
    rw (← c.self.view_is)
    (sym (found_first (λ b. b.value) is_idle connections.items c.loop-place.place
    c.index.result.now within c.index.ensures c.loop-place.invariant idle))

-- nobody is idle
pub returns : goal.returns
returns g c =
    let connections = c.self.inside.connections in
    rw (← c.self.view_is)
    (sym (found_none (λ b. b.value) is_idle connections.items
    (λ k d less. c.loop-place.invariant k d
    (omega (arith, less, c.loop-place-test.false, c.len-place-end.ensures, connections.ok.0)))))
