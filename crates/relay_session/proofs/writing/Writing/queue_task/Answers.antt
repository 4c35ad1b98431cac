use Rattle.std.proofs.Common.{arith, refl}
use Rattle.relay_tasks.specs.declared.task.HttpTask.TheVariants as task
use Rattle.relay_session.proofs.ResponseLemmas.{takes_queued, takes_failed, failed_task}
use Rattle.relay_session.proofs.writing.Writing.queue_task.Goals as goal

pub returns-in-Header-clause-ok : goal.returns-in-Header-clause-ok
returns-in-Header-clause-ok c =
    rw c.in-Header.is
    (takes_queued c.args.self.now.output c.args.self.now c.queue_head.new.self
    (task.Header c.in-Header.head c.in-Header.ends) c.queue_head.result c.queue_head.ensures)

pub returns-in-Header-clause-err : goal.returns-in-Header-clause-err
returns-in-Header-clause-err c =
    rw c.in-Header.is
    (takes_failed c.args.self.now.output c.args.self.now c.queue_head.new.self
    (task.Header c.in-Header.head c.in-Header.ends) c.queue_head.result c.queue_head.ensures)

pub returns-in-Body-clause-ok : goal.returns-in-Body-clause-ok
returns-in-Body-clause-ok c =
    rw c.in-Body.is
    (takes_queued c.args.self.now.output c.args.self.now c.queue_piece.new.self
    (task.Body c.in-Body.piece c.in-Body.ends) c.queue_piece.result (rw (← c.bytes_of.ensures) c.queue_piece.ensures))

pub returns-in-Body-clause-err : goal.returns-in-Body-clause-err
returns-in-Body-clause-err c =
    rw c.in-Body.is
    (takes_failed c.args.self.now.output c.args.self.now c.queue_piece.new.self
    (task.Body c.in-Body.piece c.in-Body.ends) c.queue_piece.result (rw (← c.bytes_of.ensures) c.queue_piece.ensures))

pub returns-in-UpgradedBody-clause-ok : goal.returns-in-UpgradedBody-clause-ok
returns-in-UpgradedBody-clause-ok c =
    rw c.in-UpgradedBody.is
    (takes_queued c.args.self.now.output c.args.self.now c.queue_piece-in-UpgradedBody.new.self
    (task.UpgradedBody c.in-UpgradedBody.piece c.in-UpgradedBody.ends) c.queue_piece-in-UpgradedBody.result (rw (← c.bytes_of-in-UpgradedBody.ensures) c.queue_piece-in-UpgradedBody.ensures))

pub returns-in-UpgradedBody-clause-err : goal.returns-in-UpgradedBody-clause-err
returns-in-UpgradedBody-clause-err c =
    rw c.in-UpgradedBody.is
    (takes_failed c.args.self.now.output c.args.self.now c.queue_piece-in-UpgradedBody.new.self
    (task.UpgradedBody c.in-UpgradedBody.piece c.in-UpgradedBody.ends) c.queue_piece-in-UpgradedBody.result (rw (← c.bytes_of-in-UpgradedBody.ensures) c.queue_piece-in-UpgradedBody.ensures))

pub returns-in-Trailer-clause-ok : goal.returns-in-Trailer-clause-ok
returns-in-Trailer-clause-ok c =
    rw c.in-Trailer.is
    (takes_queued c.args.self.now.output c.args.self.now c.queue_end.new.self
    (task.Trailer c.in-Trailer.field-0) c.queue_end.result c.queue_end.ensures)

pub returns-in-Trailer-clause-err : goal.returns-in-Trailer-clause-err
returns-in-Trailer-clause-err c =
    rw c.in-Trailer.is
    (takes_failed c.args.self.now.output c.args.self.now c.queue_end.new.self
    (task.Trailer c.in-Trailer.field-0) c.queue_end.result c.queue_end.ensures)

pub returns-in-Done-clause-ok : goal.returns-in-Done-clause-ok
returns-in-Done-clause-ok c =
    rw c.in-Done.is
    (takes_queued c.args.self.now.output c.args.self.now c.queue_end-in-Done.new.self
    task.Done c.queue_end-in-Done.result c.queue_end-in-Done.ensures)

pub returns-in-Done-clause-err : goal.returns-in-Done-clause-err
returns-in-Done-clause-err c =
    rw c.in-Done.is
    (takes_failed c.args.self.now.output c.args.self.now c.queue_end-in-Done.new.self
    task.Done c.queue_end-in-Done.result c.queue_end-in-Done.ensures)

pub returns-clause-err : goal.returns-clause-err
returns-clause-err c =
    rw c.in-Failed.is
    (failed_task c.args.self.now c.args.self.now.output c.in-Failed.error c.failure.result
    (omega arith) refl c.failure.ensures)
