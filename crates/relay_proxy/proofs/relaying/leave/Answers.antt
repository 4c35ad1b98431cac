-- The error of a failed exchange is to be treated, or memory was wanted.
use Rattle.relay_turns.proofs.FailSteps.{left_memory}
use Rattle.relay_proxy.proofs.relaying.leave.Goals as goal

-- memory was wanted
pub returns-in-OutOfMemory-clause-run : goal.returns-in-OutOfMemory-clause-run
returns-in-OutOfMemory-clause-run g c = λ s p w tells leased left.
    rw c.closed.ensures.phase
    (left_memory g.L.ByteLink.state g.L.ByteLink.start s p w c.args.link c.args.lease tells leased
    (rw c.in-OutOfMemory.is at left))

-- the exchange failed with an error
pub returns-in-Error-clause-run : goal.returns-in-Error-clause-run
returns-in-Error-clause-run g c = λ s p w tells leased left.
    c.break_off.ensures.run s p w tells leased (rw c.in-Error.is at left)
