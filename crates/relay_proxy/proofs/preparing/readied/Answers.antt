-- The copy is that of the session's head.
use Rattle.relay_turns.proofs.SentLemmas.{readies_as}
use Rattle.relay_proxy.proofs.preparing.readied.Goals as goal

-- it is made ready, or refused
pub returns : goal.returns
returns c =
    readies_as c.args.client.now c.req_header.result.now c.in-Ok.copy c.ready_head.result
    c.req_header.ensures c.in-Ok.ensures.ok c.ready_head.ensures
