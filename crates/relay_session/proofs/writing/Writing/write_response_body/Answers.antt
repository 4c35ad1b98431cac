use Rattle.std.proofs.Common.{Some}
use Rattle.relay_tasks.specs.declared.task.HttpTask.TheVariants as task
use Rattle.relay_session.proofs.ResponseLemmas.{takes_queued, takes_failed}
use Rattle.relay_session.proofs.writing.Writing.write_response_body.Goals as goal

pub returns-clause-ok : goal.returns-clause-ok
returns-clause-ok c =
    takes_queued c.args.self.now.output c.args.self.now c.queue_piece.new.self
    (task.Body (Some c.args.piece) c.args.end) c.queue_piece.result c.queue_piece.ensures

pub returns-clause-err : goal.returns-clause-err
returns-clause-err c =
    takes_failed c.args.self.now.output c.args.self.now c.queue_piece.new.self
    (task.Body (Some c.args.piece) c.args.end) c.queue_piece.result c.queue_piece.ensures
