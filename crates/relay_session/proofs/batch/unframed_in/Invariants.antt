use Rattle.std.proofs.Common.{◌≡◌, drop}
use Rattle.relay_session.specs.TaskWire.{unframed_in}
use Rattle.relay_session.proofs.batch.unframed_in.Given as goal

-- none of the tasks so far decides
abbrev pub invariant-loop-at : goal.invariant-loop-at
invariant-loop-at l =
    unframed_in l.fn.request l.fn.tasks ≡ unframed_in l.fn.request (drop l.at l.fn.tasks)
