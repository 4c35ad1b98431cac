-- A side that begins behind the bytes that came has passed nothing.
use Rattle.std.proofs.Common.{inl, refl}
use Rattle.relay_sides.proofs.ClientPast.{begins}
use Rattle.relay_sides.proofs.client_side.ClientSide.new.Goals as goal

-- nothing has passed the side
pub returns-clause-begins : goal.returns-clause-begins
returns-clause-begins c = λ s came link ahead b.
    record {
      passed = begins s came link ahead c.args.session b;
      tasks = record { none = λ is. refl; one = λ is. inl refl };
    }
