-- The client's side is asked for one write.
use Rattle.relay_core.proofs.LastLemmas.{once}
use Rattle.relay_core.proofs.duplex.Duplex.down_write.Goals as goal

-- the only call is that of the write
pub returns-clause-lasts : goal.returns-clause-lasts
returns-clause-lasts g c =
    once g.D.Down.lasts c.args.down.now c.write_pending-answer.new.self
    c.write_pending-answer.ensures.lasts
