-- The client's side is given one batch, or none where memory was wanted for it.
use Rattle.relay_core.specs.Down.{stays}
use Rattle.relay_core.proofs.duplex.Duplex.down_take.Goals as goal

-- where memory was wanted, no call was made
pub returns-in-Err-clause-lasts : goal.returns-in-Err-clause-lasts
returns-in-Err-clause-lasts g c = stays
