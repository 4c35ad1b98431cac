use Rattle.relay_authority.proofs.StageLemmas.{fails_on_no_side}
use Rattle.relay_authority.specs.Upstream.{FramesBody}
use Rattle.relay_authority.proofs.upstream.framed.Goals as goal

-- the field cannot be put
pub returns-in-Err : goal.returns-in-Err
returns-in-Err c = fails_on_no_side (FramesBody c.args.has_body) c.args.head _ _ c.in-Err.ensures
