-- Each answer of the one read, as an answer of the call.
use Rattle.std.proofs.Common.{refl, ap, ◌∙◌}
use Rattle.relay_tasks.specs.declared.error.Error.{Error}
use Rattle.relay_tasks.specs.declared.error.ErrorSource.TheVariants.{Upstream}
use Rattle.relay_tasks.specs.declared.took.Pause.TheVariants.{NotReady, Silent}
use Rattle.relay_peer.proofs.ReadingSteps.{wants_memory, link_gives, link_waits, link_ends, link_fails}
use Rattle.relay_peer.proofs.response_reading.ResponseReading.read_on.Goals as goal

pub returns-in-Err-clause-reads : goal.returns-in-Err-clause-reads
returns-in-Err-clause-reads g c =
    wants_memory c.args.method.now c.args.upgrade (g.L.ByteLink.state c.args.link.now)
    (g.L.ByteLink.state c.read_from.new.link) c.args.self.now c.read_from.new.self
    (ap g.L.ByteLink.state c.in-Err.ensures.err.1) c.in-Err.ensures.err.0

pub returns-in-Ok-Bytes-clause-reads : goal.returns-in-Ok-Bytes-clause-reads
returns-in-Ok-Bytes-clause-reads g c =
    let more = rw c.in-Ok-Bytes.field-0-is at c.in-Ok-Bytes.ensures.ok in
    link_gives c.args.method.now c.args.upgrade (g.L.ByteLink.state c.args.link.now)
    (g.L.ByteLink.state c.read_from.new.link) c.args.self.now c.find_again.new.self
    c.read_from.new.self c.in-Ok-Bytes.field-0-0 c.find_again.result more c.find_again.ensures.finds
    c.find_again.ensures.cuts

pub returns-in-Ok-NotReady-clause-reads : goal.returns-in-Ok-NotReady-clause-reads
returns-in-Ok-NotReady-clause-reads g c =
    let more = rw c.in-Ok-NotReady.field-0-is at c.in-Ok-NotReady.ensures.ok in
    link_waits c.args.method.now c.args.upgrade (g.L.ByteLink.state c.args.link.now)
    (g.L.ByteLink.state c.read_from.new.link) c.args.self.now c.read_from.new.self NotReady
    (more.0, refl) more.1

pub returns-in-Ok-Silent-clause-reads : goal.returns-in-Ok-Silent-clause-reads
returns-in-Ok-Silent-clause-reads g c =
    let more = rw c.in-Ok-Silent.field-0-is at c.in-Ok-Silent.ensures.ok in
    link_waits c.args.method.now c.args.upgrade (g.L.ByteLink.state c.args.link.now)
    (g.L.ByteLink.state c.read_from.new.link) c.args.self.now c.read_from.new.self Silent
    (more.0, refl) more.1

pub returns-in-Ok-End-clause-reads : goal.returns-in-Ok-End-clause-reads
returns-in-Ok-End-clause-reads g c =
    let more = rw c.in-Ok-End.field-0-is at c.in-Ok-End.ensures.ok in
    link_ends c.args.method.now c.args.upgrade (g.L.ByteLink.state c.args.link.now)
    (g.L.ByteLink.state c.read_from.new.link) c.args.self.now c.end.new.self c.read_from.new.self
    c.end.result (more.0, refl) more.0.ended more.1 c.end.ensures.ends
    c.end.ensures.cuts

pub returns-in-Ok-Failed-clause-reads : goal.returns-in-Ok-Failed-clause-reads
returns-in-Ok-Failed-clause-reads g c =
    let more = rw c.in-Ok-Failed.field-0-is at c.in-Ok-Failed.ensures.ok in
    link_fails c.args.method.now c.args.upgrade (g.L.ByteLink.state c.args.link.now)
    (g.L.ByteLink.state c.read_from.new.link) c.args.self.now c.read_from.new.self
    c.in-Ok-Failed.fault c.into_up.result (more.0, refl) more.1
    (c.into_up.ensures ∙ ap (λ (e : Error). record e { esource = Upstream }) c.of_fault.ensures)
