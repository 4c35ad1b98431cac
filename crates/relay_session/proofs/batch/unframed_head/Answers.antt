use Rattle.relay_session.specs.TaskWire.{framing_of}
use Rattle.relay_session.proofs.BatchLemmas.{unframed_err}
use Rattle.relay_session.proofs.batch.unframed_head.Goals as goal

pub returns-in-Err : goal.returns-in-Err
returns-in-Err c =
    rw c.in-Header.is
    (unframed_err (framing_of c.args.request.now c.in-Header.head) c.in-Err.error c.in-Err.ensures)
