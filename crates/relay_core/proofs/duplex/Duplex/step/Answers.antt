-- What follows from what a step does.
use Rattle.relay_core.specs.Table.{core}
use Rattle.relay_core.proofs.CauseLemmas.{step_cause, step_keeps}
use Rattle.relay_core.proofs.DoneLemmas.{step_ends_request, step_ends_response, response_full}
use Rattle.relay_core.proofs.EndLemmas.{step_tells}
use Rattle.relay_core.proofs.SoundLemmas.{step_sound}
use Rattle.relay_core.proofs.StillLemmas.{wait_enabled, wait_stands}
use Rattle.relay_core.proofs.UseLemmas.{step_asks, step_moved}
use Rattle.relay_core.proofs.duplex.Duplex.step.Goals as goal

-- the side of the branch told why it waits or failed
pub returns-clause-cause : goal.returns-clause-cause
returns-clause-cause g c =
    step_cause c.args.branch
    (core c.args.self.now (g.D.Down.state c.args.down.now) (g.U.Up.state c.args.up.now))
    (core c.step_by.new.self (g.D.Down.state c.step_by.new.down) (g.U.Up.state c.step_by.new.up))
    c.step_by.result c.step_by.ensures.exact

-- a send error is kept only from such an answer
pub returns-clause-kept : goal.returns-clause-kept
returns-clause-kept g c =
    step_keeps c.args.branch
    (core c.args.self.now (g.D.Down.state c.args.down.now) (g.U.Up.state c.args.up.now))
    (core c.step_by.new.self (g.D.Down.state c.step_by.new.down) (g.U.Up.state c.step_by.new.up))
    c.step_by.result c.step_by.ensures.exact

-- the answer says whether a half failed, and whether both have finished
pub returns-clause-tells : goal.returns-clause-tells
returns-clause-tells g c =
    step_tells c.args.branch
    (core c.args.self.now (g.D.Down.state c.args.down.now) (g.U.Up.state c.args.up.now))
    (core c.step_by.new.self (g.D.Down.state c.step_by.new.down) (g.U.Up.state c.step_by.new.up))
    c.step_by.result c.requires c.step_by.ensures.exact

-- the client's request becomes done for its causes alone
pub returns-clause-request_done : goal.returns-clause-request_done
returns-clause-request_done g c =
    step_ends_request c.args.branch
    (core c.args.self.now (g.D.Down.state c.args.down.now) (g.U.Up.state c.args.up.now))
    (core c.step_by.new.self (g.D.Down.state c.step_by.new.down) (g.U.Up.state c.step_by.new.up))
    c.step_by.result c.requires c.step_by.ensures.exact

-- the upstream's response becomes done for its causes alone
pub returns-clause-response_done : goal.returns-clause-response_done
returns-clause-response_done g c =
    step_ends_response c.args.branch
    (core c.args.self.now (g.D.Down.state c.args.down.now) (g.U.Up.state c.args.up.now))
    (core c.step_by.new.self (g.D.Down.state c.step_by.new.down) (g.U.Up.state c.step_by.new.up))
    c.step_by.result c.step_by.ensures.exact

-- where the response pipe is full, the client's half can go on
pub returns-clause-full : goal.returns-clause-full
returns-clause-full g c =
    response_full
    (core c.step_by.new.self (g.D.Down.state c.step_by.new.down) (g.U.Up.state c.step_by.new.up))

-- a sound state stays sound
pub returns-clause-sound : goal.returns-clause-sound
returns-clause-sound g c =
    step_sound c.args.branch
    (core c.args.self.now (g.D.Down.state c.args.down.now) (g.U.Up.state c.args.up.now))
    (core c.step_by.new.self (g.D.Down.state c.step_by.new.down) (g.U.Up.state c.step_by.new.up))
    c.step_by.result c.requires c.step_by.ensures.exact

-- a step that waits leaves what can be taken
pub returns-clause-rests : goal.returns-clause-rests
returns-clause-rests g c =
    wait_enabled c.args.branch
    (core c.args.self.now (g.D.Down.state c.args.down.now) (g.U.Up.state c.args.up.now))
    (core c.step_by.new.self (g.D.Down.state c.step_by.new.down) (g.U.Up.state c.step_by.new.up))
    c.step_by.result c.step_by.ensures.exact

-- and the duplex as it was
pub returns-clause-stands : goal.returns-clause-stands
returns-clause-stands g c =
    wait_stands c.args.branch
    (core c.args.self.now (g.D.Down.state c.args.down.now) (g.U.Up.state c.args.up.now))
    (core c.step_by.new.self (g.D.Down.state c.step_by.new.down) (g.U.Up.state c.step_by.new.up))
    c.step_by.result c.step_by.ensures.exact

-- a step asks one link once, or none
pub returns-clause-asks : goal.returns-clause-asks
returns-clause-asks g c =
    step_asks (g.D.Down.link c.args.client.now) (g.D.Down.link c.step_by.new.client)
    (g.U.Up.link c.args.up.now) (g.U.Up.link c.step_by.new.up) c.args.branch
    (core c.args.self.now (g.D.Down.state c.args.down.now) (g.U.Up.state c.args.up.now))
    (core c.step_by.new.self (g.D.Down.state c.step_by.new.down) (g.U.Up.state c.step_by.new.up))
    c.step_by.result c.step_by.ensures.exact c.step_by.ensures.links

-- one that moved asked its link, or it moved a task or brought an end
pub returns-clause-moves : goal.returns-clause-moves
returns-clause-moves g c = λ s p q f is.
    step_moved (g.D.Down.link c.args.client.now) (g.D.Down.link c.step_by.new.client)
    (g.U.Up.link c.args.up.now) (g.U.Up.link c.step_by.new.up) c.args.branch
    (core c.args.self.now (g.D.Down.state c.args.down.now) (g.U.Up.state c.args.up.now))
    (core c.step_by.new.self (g.D.Down.state c.step_by.new.down) (g.U.Up.state c.step_by.new.up))
    c.step_by.result c.requires f.sound c.step_by.ensures.exact c.step_by.ensures.links is
    (c.step_by.ensures.gains s p q f is)
