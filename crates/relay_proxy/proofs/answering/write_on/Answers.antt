-- Each answer of the one write is a turn of the answer.
use Rattle.std.proofs.Common.{◌≡◌, ◌&&◌, Bool, length, refl, rules, ap, subst, sym}
use Rattle.std.specs.Prelude.{◌==◌}
use Rattle.relay_session.specs.declared.session.HttpSession.{HttpSession}
use Rattle.relay_request.specs.Turn.{world_of}
use Rattle.relay_request.specs.Owed.{outcome_written}
use Rattle.relay_request.specs.Reuse.{may_ask_again}
use Rattle.relay_request.specs.declared.machine.Phase.TheVariants.{Answer, Ended}
use Rattle.relay_turns.proofs.AnswerSteps.{answer_took, answer_waits, answer_silent, answer_fails, answer_memory, taken_of, moved_or_ended}
use Rattle.relay_request.specs.Calls.{Owing}
use Rattle.relay_turns.proofs.LastCalls.{owing_as, shows_same}
use Rattle.relay_proxy.proofs.answering.write_on.Goals as goal

-- the client took some
pub returns-in-Took-clause-run : goal.returns-in-Took-clause-run
returns-in-Took-clause-run g c = λ s p own faults run.
    let still : c.is_empty.result ≡ (length c.offer.new.client.ahead == 0) = search rules in
    answer_took g.L.ByteLink.state g.L.ByteLink.start s p
    (world_of g.D.ByteLink.state c.args.client.now faults)
    (world_of g.D.ByteLink.state c.offer.new.client faults) own c.args.session c.args.owed
    c.args.attempts refl _ _ (ap (λ (k : HttpSession). k.writing.output) c.deref_mut.ensures.value)
    run _ _ _ refl (rw c.deref_mut.ensures.value at c.offer.ensures.same) c.in-Took.ensures.answer
    (λ long. (c.took.ensures.left long).0)
    (λ none. subst (λ (b : Bool). c.took.result.phase
    ≡ Ended (outcome_written c.args.owed (b && may_ask_again c.offer.new.session))
    c.args.attempts) still (c.took.ensures.whole none).0)

-- it has to be waited for
pub returns-in-NotReady-clause-run : goal.returns-in-NotReady-clause-run
returns-in-NotReady-clause-run g c = λ s p own faults run.
    answer_waits g.L.ByteLink.state g.L.ByteLink.start s p
    (world_of g.D.ByteLink.state c.args.client.now faults)
    (world_of g.D.ByteLink.state c.offer.new.client faults) own c.args.session c.args.owed
    c.args.attempts refl _ _ (ap (λ (k : HttpSession). k.writing.output) c.deref_mut.ensures.value)
    run _ refl (rw c.deref_mut.ensures.value at c.offer.ensures.same) c.in-NotReady.ensures.answer

-- it is silent
pub returns-in-Silent-clause-run : goal.returns-in-Silent-clause-run
returns-in-Silent-clause-run g c = λ s p own faults run.
    answer_silent g.L.ByteLink.state g.L.ByteLink.start s p
    (world_of g.D.ByteLink.state c.args.client.now faults)
    (world_of g.D.ByteLink.state c.offer.new.client faults) own c.args.session c.args.owed
    c.args.attempts refl _ _ (ap (λ (k : HttpSession). k.writing.output) c.deref_mut.ensures.value)
    run _ refl (rw c.deref_mut.ensures.value at c.offer.ensures.same) c.in-Silent.ensures.answer

-- the write failed
pub returns-in-Failed-clause-run : goal.returns-in-Failed-clause-run
returns-in-Failed-clause-run g c = λ s p own faults run.
    rw (c.ended.ensures.phase, c.outcome_failed.ensures)
    (answer_fails g.L.ByteLink.state g.L.ByteLink.start s p
    (world_of g.D.ByteLink.state c.args.client.now faults)
    (world_of g.D.ByteLink.state c.offer.new.client faults) own c.args.session c.args.owed
    c.args.attempts refl _ _ (ap (λ (k : HttpSession). k.writing.output) c.deref_mut.ensures.value)
    run c.in-Failed.fault c.in-Failed.ensures.answer)

-- memory was wanted
pub returns-in-OutOfMemory-clause-run : goal.returns-in-OutOfMemory-clause-run
returns-in-OutOfMemory-clause-run g c = λ s p own faults run.
    (answer_memory g.L.ByteLink.state g.L.ByteLink.start s p
    (world_of g.D.ByteLink.state c.args.client.now faults)
    (world_of g.D.ByteLink.state c.offer.new.client faults) own c.args.session c.args.owed
    c.args.attempts refl _ _ (ap (λ (k : HttpSession). k.writing.output) c.deref_mut.ensures.value)
    run c.in-OutOfMemory.ensures.answer)

-- it went on because the link took bytes
pub returns-in-Took-clause-cause : goal.returns-in-Took-clause-cause
returns-in-Took-clause-cause g c = λ log faults.
    moved_or_ended {C = g.row.C.Denot} g.L.ByteLink.state g.L.ByteLink.start log
    (world_of g.D.ByteLink.state c.args.client.now faults)
    (world_of g.D.ByteLink.state c.offer.new.client faults)
    (Answer c.args.session c.args.owed c.args.attempts) c.took.result.phase c.took.result.step
    c.took.ensures.step
    (λ is. taken_of _ _ _ _ _
    (rw (sym c.deref_mut.ensures.value) at c.requires) c.in-Took.ensures.answer)

-- ---- the calls

-- what was offered leaves a session of which hooks are shown the same
pub returns-in-Took-clause-calls : goal.returns-in-Took-clause-calls
returns-in-Took-clause-calls g c =
    owing_as c.args.session.value c.offer.new.session c.args.owed c.args.calls.now c.took.new.calls
    c.took.result.phase
    (rw c.deref_mut.ensures.value at c.offer.ensures.same) c.took.ensures.calls

pub returns-in-NotReady-clause-calls : goal.returns-in-NotReady-clause-calls
returns-in-NotReady-clause-calls g c =
    Owing.waits _ (refl, refl)
    (shows_same c.args.session.value c.offer.new.session
    (rw c.deref_mut.ensures.value at c.offer.ensures.same)) refl

pub returns-in-Silent-clause-calls : goal.returns-in-Silent-clause-calls
returns-in-Silent-clause-calls g c =
    Owing.waits _ (refl, refl)
    (shows_same c.args.session.value c.offer.new.session
    (rw c.deref_mut.ensures.value at c.offer.ensures.same)) refl

-- the write failed
pub returns-in-Failed-clause-calls : goal.returns-in-Failed-clause-calls
returns-in-Failed-clause-calls g c =
    Owing.failed _ c.in-Failed.fault _ (rw c.ended.ensures.phase refl) c.outcome_failed.ensures
    (shows_same c.args.session.value c.offer.new.session
    (rw c.deref_mut.ensures.value at c.offer.ensures.same)) c.ended.ensures.calls

-- memory was wanted
pub returns-in-OutOfMemory-clause-calls : goal.returns-in-OutOfMemory-clause-calls
returns-in-OutOfMemory-clause-calls g c = Owing.lost refl refl
