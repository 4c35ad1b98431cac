-- There is room, so the connection stands at its place.
use Rattle.relay_server.proofs.FloorLemmas.{put_at}
use Rattle.relay_server.proofs.floor.Floor.put.Goals as goal

-- the connection stands at its place
pub returns-clause-put : goal.returns-clause-put
returns-clause-put g c = rw (c.in-Ok.ensures.items, ← c.self.view_is)
    (put_at (λ b. b.value) c.self.inside.connections.items c.args.place c.args.connection)
