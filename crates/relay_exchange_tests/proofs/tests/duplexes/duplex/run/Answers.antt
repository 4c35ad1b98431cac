-- A branch that was chosen can be taken.
use Rattle.relay_exchange_tests.proofs.tests.duplexes.duplex.run.Goals as goal

-- the branch that was chosen can be taken
pub step-last-requires : goal.step-last-requires
step-last-requires g c = c.in-Some.ensures.can
