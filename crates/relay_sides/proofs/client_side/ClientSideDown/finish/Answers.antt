-- The end was asked for before, it was queued, or it was refused.
use Rattle.std.proofs.Common.{ap, None, refl, true}
use Rattle.relay_session.specs.declared.session.HttpSession.{HttpSession}
use Rattle.relay_sides.proofs.ClientEnds.{again_told, ends_again, ends_on, ends_refused, ends_told}
use Rattle.relay_sides.proofs.ClientTold.{with_told}
use Rattle.relay_sides.proofs.LastLemmas.{done_lasts, same_lasts}
use Rattle.relay_sides.proofs.client_side.ClientSideDown.finish.Goals as goal

-- the end was asked for before
pub returns-then-self-clause-goes : goal.returns-then-self-clause-goes
returns-then-self-clause-goes g c = λ client s p h.
    with_told s _ _ c.args.self.now.session c.args.self.now.told c.args.self.now.done
    c.args.self.now.finished c.args.self.now.broken _ p.put p.batched _ None
    (ends_again s p _ _ c.args.self.now.session c.args.self.now.told c.args.self.now.done
    c.args.self.now.finished c.args.self.now.broken c.if-self.true h.passed)
    (again_told s p _ _ c.args.self.now.session c.args.self.now.told c.args.self.now.done
    c.args.self.now.finished c.args.self.now.broken c.if-self.true h)

-- the end was queued
pub returns-in-Ok-clause-goes : goal.returns-in-Ok-clause-goes
returns-in-Ok-clause-goes g c = λ client s p h.
    with_told s _ _ c.finish_body.new.self c.args.self.now.told c.args.self.now.done true
    c.args.self.now.broken _ p.put p.batched _ None
    (ends_on s p _ _ c.args.self.now.session c.finish_body.new.self c.args.self.now.told
    c.args.self.now.done c.args.self.now.finished c.args.self.now.broken c.if-self.false h.passed
    (ap (λ (x : HttpSession). x.reading) c.finish_body.ensures.reading) c.in-Ok.ensures.ok)
    (ends_told s p _ _ c.args.self.now.session c.args.self.now.told c.args.self.now.done
    c.args.self.now.finished c.args.self.now.broken h c.in-Ok.ensures.ok.passes)

-- the end was refused
pub returns-in-Err-clause-goes : goal.returns-in-Err-clause-goes
returns-in-Err-clause-goes g c =
    rw c.failed-self.ensures
    (λ client s p h.
    ends_refused s p _ _ c.args.self.now.session c.finish_body.new.self c.args.self.now.told
    c.args.self.now.done c.args.self.now.finished c.args.self.now.broken c.in-Err.why h
    c.in-Err.ensures.kept c.in-Err.ensures.err)

-- nothing changed where the end was asked for before
pub returns-then-self-clause-lasts : goal.returns-then-self-clause-lasts
returns-then-self-clause-lasts g c =
    same_lasts c.args.self.now.session c.args.self.now.session refl

-- an end that was queued leaves the head, and a final head
pub returns-in-Ok-clause-lasts : goal.returns-in-Ok-clause-lasts
returns-in-Ok-clause-lasts g c =
    done_lasts c.args.self.now.session c.finish_body.new.self
    (ap (λ (x : HttpSession). x.reading) c.finish_body.ensures.reading)
    c.in-Ok.ensures.ok.grows

-- and nothing changed where it was refused
pub returns-in-Err-clause-lasts : goal.returns-in-Err-clause-lasts
returns-in-Err-clause-lasts g c =
    same_lasts c.args.self.now.session c.finish_body.new.self c.in-Err.ensures.kept
