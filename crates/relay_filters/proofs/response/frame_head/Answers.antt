-- A head that is not framed has no room for it, or memory was wanted.
use Rattle.relay_filters.proofs.ResponseLemmas.{frame_causes, frame_full}
use Rattle.relay_filters.proofs.response.frame_head.Goals as goal

pub returns-in-Err-clause-causes : goal.returns-in-Err-clause-causes
returns-in-Err-clause-causes c =
    rw c.inside.ensures (frame_causes c.in-Err.why c.in-Err.ensures.causes)

pub returns-in-Err-clause-full : goal.returns-in-Err-clause-full
returns-in-Err-clause-full c =
    rw c.inside.ensures
    (frame_full c.in-Err.why c.in-Err.ensures.causes c.in-Err.ensures.full.0)
