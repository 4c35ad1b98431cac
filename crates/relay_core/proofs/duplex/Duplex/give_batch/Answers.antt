-- The client's side takes one batch.
use Rattle.relay_core.proofs.LastLemmas.{once}
use Rattle.relay_core.proofs.duplex.Duplex.give_batch.Goals as goal

-- the batch was taken by one call
pub returns-after-end-2-clause-lasts : goal.returns-after-end-2-clause-lasts
returns-after-end-2-clause-lasts g c =
    once g.D.Down.lasts c.args.down.now c.take_batch.new.self c.take_batch.ensures.lasts

-- or refused by one
pub returns-in-Err-clause-lasts : goal.returns-in-Err-clause-lasts
returns-in-Err-clause-lasts g c =
    once g.D.Down.lasts c.args.down.now c.take_batch.new.self c.take_batch.ensures.lasts
