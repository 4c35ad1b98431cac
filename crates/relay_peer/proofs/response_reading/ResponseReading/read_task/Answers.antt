-- What stands ahead is the answer, and else what one read of the link brings.
use Rattle.relay_peer.specs.declared.response_reading.Found.TheVariants as found
use Rattle.relay_peer.proofs.ReadingSteps.{reads_found, reads_on}
use Rattle.relay_peer.proofs.response_reading.ResponseReading.read_task.Goals as goal

pub returns-in-Task-clause-reads : goal.returns-in-Task-clause-reads
returns-in-Task-clause-reads g c =
    reads_found c.args.method.now c.args.upgrade (g.L.ByteLink.state c.args.link.now)
    c.args.self.now
    c.find.new.self
    (found.Task c.in-Task.task) tt c.in-Task.ensures.finds c.in-Task.ensures.rests
    c.in-Task.ensures.cuts

pub returns-in-Nothing-clause-reads : goal.returns-in-Nothing-clause-reads
returns-in-Nothing-clause-reads g c =
    reads_on c.args.method.now c.args.upgrade (g.L.ByteLink.state c.args.link.now)
    (g.L.ByteLink.state c.read_on.new.link) c.args.self.now c.find.new.self c.read_on.new.self
    c.read_on.result c.in-Nothing.ensures.finds c.in-Nothing.ensures.rests
    c.in-Nothing.ensures.cuts c.read_on.ensures.reads

pub returns-in-End-clause-reads : goal.returns-in-End-clause-reads
returns-in-End-clause-reads g c =
    reads_found c.args.method.now c.args.upgrade (g.L.ByteLink.state c.args.link.now)
    c.args.self.now
    c.find.new.self
    found.End tt c.in-End.ensures.finds c.in-End.ensures.rests tt

pub returns-in-Failed-clause-reads : goal.returns-in-Failed-clause-reads
returns-in-Failed-clause-reads g c =
    reads_found c.args.method.now c.args.upgrade (g.L.ByteLink.state c.args.link.now)
    c.args.self.now
    c.find.new.self
    (found.Failed c.in-Failed.fail) tt c.in-Failed.ensures.finds c.in-Failed.ensures.rests tt
