-- What the filter left is made as it is sent beside the session's own head.
use Rattle.relay_turns.proofs.SentLemmas.{settles_as, unsettled_as}
use Rattle.relay_proxy.proofs.preparing.settled.Goals as goal

-- it is made, and has a framing or none
pub returns-in-Ok-clause-settles : goal.returns-in-Ok-clause-settles
returns-in-Ok-clause-settles c =
    settles_as c.args.client.now c.req_header.result.now c.args.filtered c.in-Ok.sent
    c.framed.result c.req_header.ensures
    (rw c.is_body_empty.ensures at c.in-Ok.ensures.table) c.framed.ensures.ok
    c.framed.ensures.err

-- it is refused, or memory was wanted
pub returns-in-Err-clause-settles : goal.returns-in-Err-clause-settles
returns-in-Err-clause-settles c =
    unsettled_as c.args.client.now c.req_header.result.now c.args.filtered c.in-Err.why
    c.req_header.ensures (rw c.is_body_empty.ensures at c.in-Err.ensures.table)

pub returns-in-Ok-clause-framed : goal.returns-in-Ok-clause-framed
returns-in-Ok-clause-framed c = c.framed.ensures.framed
