-- A failed task tells of its error.
use Rattle.relay_sides.specs.Filtered as filtered
use Rattle.relay_sides.proofs.filtered.hand_on.Goals as goal

-- the task is a failure
pub returns-in-Failed : goal.returns-in-Failed
returns-in-Failed c = λ method own.
    filtered.Withholds.tells_error c.in-Failed.error c.in-Failed.is
