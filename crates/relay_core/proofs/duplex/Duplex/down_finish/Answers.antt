-- The client's side is asked once to end the response.
use Rattle.relay_core.proofs.LastLemmas.{once}
use Rattle.relay_core.proofs.duplex.Duplex.down_finish.Goals as goal

-- output is pending behind that call
pub returns-then-has_pending-clause-lasts : goal.returns-then-has_pending-clause-lasts
returns-then-has_pending-clause-lasts g c =
    once g.D.Down.lasts c.args.down.now c.finish.new.self c.finish.ensures.lasts

-- or none is
pub returns-else-has_pending-clause-lasts : goal.returns-else-has_pending-clause-lasts
returns-else-has_pending-clause-lasts g c =
    once g.D.Down.lasts c.args.down.now c.finish.new.self c.finish.ensures.lasts

-- or the call failed
pub returns-in-Err-clause-lasts : goal.returns-in-Err-clause-lasts
returns-in-Err-clause-lasts g c =
    once g.D.Down.lasts c.args.down.now c.finish.new.self c.finish.ensures.lasts
