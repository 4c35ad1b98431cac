-- An attempt that is held goes on; one that is not gives its link back.
use Rattle.std.proofs.Common.{inl, refl}
use Rattle.relay_turns.proofs.PrepareSteps.{held, not_held}
use Rattle.relay_proxy.proofs.preparing.hold.Goals as goal

-- an attempt that is held is relayed
pub returns-in-Ok-clause-run : goal.returns-in-Ok-clause-run
returns-in-Ok-clause-run g c = λ s p w tells order calm relaying.
    held g.L.ByteLink.state g.L.ByteLink.start s p w c.args.attempt c.in-Ok.attempt
    c.in-Ok.ensures.ok tells order calm relaying

pub returns-in-Ok-clause-comes : goal.returns-in-Ok-clause-comes
returns-in-Ok-clause-comes g c = inl (c.in-Ok.attempt, c.in-Ok.ensures.ok, refl)

-- one for which memory was wanted gives its link back
pub returns-in-Err-clause-run : goal.returns-in-Err-clause-run
returns-in-Err-clause-run g c = λ s p w tells order calm relaying.
    rw (c.closed.ensures.phase, c.into_link.ensures, c.in-Err.ensures.value_returned)
    (not_held g.L.ByteLink.state g.L.ByteLink.start s p w c.args.attempt tells order relaying)

-- the link of an attempt that is held was asked as often
pub returns-in-Ok-clause-asked : goal.returns-in-Ok-clause-asked
returns-in-Ok-clause-asked g c = λ n had. rw c.in-Ok.ensures.ok had

-- and so was one that is to go back
pub returns-in-Err-clause-asked : goal.returns-in-Err-clause-asked
returns-in-Err-clause-asked g c = λ n had.
    rw (c.closed.ensures.phase, c.into_link.ensures, c.in-Err.ensures.value_returned) had
