-- The bytes that a read gave are more of the head.
use Rattle.std.proofs.Common.{refl, ap, ◌∙◌, subst, sym, inl, List, ℕ}
use Rattle.relay_h1.specs.Verdict.{IsOpen}
use Rattle.relay_links.specs.Link.{LinkState}
use Rattle.relay_peer.proofs.FaultLemmas.{grew_none, grew_same}
use Rattle.relay_request.specs.Endings.{ended_outcome}
use Rattle.relay_turns.proofs.Tells.{sided}
use Rattle.relay_turns.proofs.HeadSteps.{head_came, head_waits, head_ends, head_fails}
use Rattle.relay_proxy.proofs.client_head.await_head.Goals as goal

-- more of the head came
pub returns-in-Ok-Bytes-clause-run : goal.returns-in-Ok-Bytes-clause-run
returns-in-Ok-Bytes-clause-run g c = λ s p faults run open_head.
    let more = rw c.in-Ok-Bytes.field-0-is at c.in-Ok-Bytes.ensures.ok in
    head_came g.L.ByteLink.state g.L.ByteLink.start s p _ _ more.room _ more.grown refl more.gives
    run

-- it went on because the link gave bytes
pub returns-in-Ok-Bytes-clause-cause : goal.returns-in-Ok-Bytes-clause-cause
returns-in-Ok-Bytes-clause-cause g c = λ log faults open_head.
    let more = rw c.in-Ok-Bytes.field-0-is at c.in-Ok-Bytes.ensures.ok in
    inl (more.room, _, more.gives)

-- it waits because the link answered so
pub returns-in-Ok-NotReady-clause-cause : goal.returns-in-Ok-NotReady-clause-cause
returns-in-Ok-NotReady-clause-cause g c = λ log faults open_head.
    let waits = rw c.in-Ok-NotReady.field-0-is at c.in-Ok-NotReady.ensures.ok in
    inl waits.0.waits

-- in silence the read asks a silent link, which has not changed
pub returns-in-Ok-Silent-clause-cause : goal.returns-in-Ok-Silent-clause-cause
returns-in-Ok-Silent-clause-cause g c = λ log faults open_head.
    let still = rw c.in-Ok-Silent.field-0-is at c.in-Ok-Silent.ensures.ok in
    record {
      stalled = (
        subst (λ (xs : List ℕ). IsOpen xs) (sym still.1) open_head,
        ap (λ (l : LinkState). l.silent_on_read) still.0.same ∙ still.0.silent,
      );
      client_same = still.0.same;
      held_same = refl;
    }

-- the head waits for the link
pub returns-in-Ok-NotReady-clause-run : goal.returns-in-Ok-NotReady-clause-run
returns-in-Ok-NotReady-clause-run g c = λ s p faults run open_head.
    let waits = rw c.in-Ok-NotReady.field-0-is at c.in-Ok-NotReady.ensures.ok in
    head_waits g.L.ByteLink.state g.L.ByteLink.start s p _ _ waits.1 refl waits.0.given
    waits.0.taken waits.0.faults (grew_none _ _ waits.0.read_faults waits.0.write_faults) run

-- the head met silence
pub returns-in-Ok-Silent-clause-run : goal.returns-in-Ok-Silent-clause-run
returns-in-Ok-Silent-clause-run g c = λ s p faults run open_head.
    let still = rw c.in-Ok-Silent.field-0-is at c.in-Ok-Silent.ensures.ok in
    head_waits g.L.ByteLink.state g.L.ByteLink.start s p _ _ still.1 refl
    (ap (λ (l : LinkState). l.given) still.0.same) (ap (λ (l : LinkState). l.taken) still.0.same)
    (ap (λ (l : LinkState). l.faults) still.0.same) (grew_same _ _ still.0.same) run

-- the client ended inside its head or before it
pub returns-in-Ok-End-clause-run : goal.returns-in-Ok-End-clause-run
returns-in-Ok-End-clause-run g c = λ s p faults run open_head.
    let ends = rw c.in-Ok-End.field-0-is at c.in-Ok-End.ensures.ok in
    head_ends g.L.ByteLink.state g.L.ByteLink.start s p _ _ _ _ open_head ends.0 ends.1 refl
    (c.end_of_client.ensures.outcome ∙ ap ended_outcome c.ahead.ensures) c.new.ensures run

-- the read failed
pub returns-in-Ok-Failed-clause-run : goal.returns-in-Ok-Failed-clause-run
returns-in-Ok-Failed-clause-run g c = λ s p faults run open_head.
    let fails = rw c.in-Ok-Failed.field-0-is at c.in-Ok-Failed.ensures.ok in
    head_fails g.L.ByteLink.state g.L.ByteLink.start s p _ _ _ _ _ open_head fails.0 fails.1 refl
    (sided _ _ _ _ c.of_fault.ensures c.into_down-error.ensures) c.new-in-Ok-Failed.ensures run
