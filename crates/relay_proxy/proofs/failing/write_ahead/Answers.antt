-- The one write leaves the attempt as it stood, but for what was written; or memory was wanted.
use Rattle.std.proofs.Common.{◌++◌, refl, subst, take}
use Rattle.relay_h1.specs.Move.{taken}
use Rattle.relay_session.specs.Response.{Holds, pending}
use Rattle.relay_session.specs.declared.session.HttpSession.{HttpSession}
use Rattle.relay_request.specs.Leaving.{WritesAhead}
use Rattle.relay_request.specs.Turn.{world_of}
use Rattle.relay_turns.proofs.AheadSteps.{ahead_memory, ahead_offered, some_ahead}
use Rattle.relay_turns.proofs.LastCalls.{shows_same}
use Rattle.relay_proxy.proofs.failing.write_ahead.Goals as goal

-- what was offered was taken, in part or not at all, or the write failed
pub returns-clause-run : goal.returns-clause-run
returns-clause-run g c = λ s p faults run.
    ahead_offered g.L.ByteLink.state g.L.ByteLink.start s p
    (world_of g.D.ByteLink.state c.args.client.now faults)
    (world_of g.D.ByteLink.state c.offer.new.client faults) c.args.context c.args.session
    c.args.link c.args.lease c.args.keep c.args.error run
    (some_ahead c.args.session.value c.requires) c.offer.result _ refl c.offer.ensures.ahead
    (rw c.deref_mut.ensures.value at c.offer.ensures.answer)
    (rw c.deref_mut.ensures.value at c.offer.ensures.same)
    (λ tasks. subst (λ (h : HttpSession). Holds h.writing tasks p.written
    → Holds c.offer.new.session.writing tasks
    (p.written ++ take (taken c.offer.result) (pending h.writing.output)))
    c.deref_mut.ensures.value (c.offer.ensures.keeps tasks p.written))

-- hooks are shown the same of the session
pub returns-clause-comes : goal.returns-clause-comes
returns-clause-comes g c =
    WritesAhead.stays _
    (shows_same c.args.session.value c.offer.new.session
    (rw c.deref_mut.ensures.value at c.offer.ensures.same)) refl

-- memory was wanted
pub returns-in-OutOfMemory-clause-run : goal.returns-in-OutOfMemory-clause-run
returns-in-OutOfMemory-clause-run g c = λ s p faults run.
    ahead_memory g.L.ByteLink.state g.L.ByteLink.start s p
    (world_of g.D.ByteLink.state c.args.client.now faults)
    (world_of g.D.ByteLink.state c.offer.new.client faults) c.args.context c.args.session
    c.args.link c.args.lease c.args.keep c.args.error run
    (some_ahead c.args.session.value c.requires) refl _
    (rw c.deref_mut.ensures.value at c.in-OutOfMemory.ensures.answer)
