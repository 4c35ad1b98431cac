use Rattle.std.proofs.Common.{◌≡◌, ◌++◌, take}
use Rattle.std.specs.List.{flat_map}
use Rattle.relay_h1.proofs.wire.push_parts.Given as goal

abbrev pub invariant-loop-part : goal.invariant-loop-part
invariant-loop-part l =
    l.out.items ≡ l.initial.out.items ++ flat_map (λ p. p.now) (take l.part-index l.parts)
