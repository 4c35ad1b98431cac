-- The attempt is broken, with its session; or memory was wanted for that.
use Rattle.relay_turns.proofs.FailSteps.{leaves_part, left_broken, left_memory}
use Rattle.relay_proxy.proofs.relaying.break_off.Goals as goal

-- it is held
pub returns-in-Ok-clause-run : goal.returns-in-Ok-clause-run
returns-in-Ok-clause-run g c = λ s p w tells leased left.
    left_broken g.L.ByteLink.state g.L.ByteLink.start s p w c.args.link c.args.lease tells leased
    c.args.context c.args.session c.in-Ok.session c.args.error left c.in-Ok.ensures.ok

-- memory was wanted
pub returns-in-Err-clause-run : goal.returns-in-Err-clause-run
returns-in-Err-clause-run g c = λ s p w tells leased left.
    rw c.closed.ensures.phase
    (left_memory g.L.ByteLink.state g.L.ByteLink.start s p w c.args.link c.args.lease tells leased
    (leaves_part s p w.client w.ahead (g.L.ByteLink.state c.args.link)
    (g.L.ByteLink.start c.args.link) c.args.session c.args.error left))
