-- The connection stood at its place, or nobody did.
use Rattle.std.proofs.Common.{arith}
use Rattle.relay_server.proofs.FloorLemmas.{took}
use Rattle.relay_server.proofs.floor.Floor.take.Goals as goal

-- the connection stood at its place
pub returns-clause-taken : goal.returns-clause-taken
returns-clause-taken g c = rw (← c.self.view_is)
    (took (λ b. b.value) (λ q. q.items) c.self.inside.connections c.remove.new.self
    c.remove.result c.args.place
    (λ some.
    let within = c.remove.ensures.variant.0 some in
    omega (arith, within, c.self.inside.connections.ok.0))
    c.remove.ensures.value c.remove.ensures.items
    c.remove.ensures.unchanged)
