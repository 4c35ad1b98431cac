-- The method that stands for the request's own gives the same framing and head.
use Rattle.std.proofs.Common.{false}
use Rattle.relay_session.proofs.AskedLemmas.{same_framing, same_head, same_response_framing}
use Rattle.relay_session.proofs.task_text.Request.of.Goals as goal

pub returns-clause-framing : goal.returns-clause-framing
returns-clause-framing c = λ response.
    rw (c.asks_of.ensures, c.method.ensures, c.version.ensures)
    (same_framing c.args.head.now.method c.args.head.now.version false response)

pub returns-clause-head : goal.returns-clause-head
returns-clause-head c = λ response.
    rw (c.asks_of.ensures, c.method.ensures, c.version.ensures)
    (same_head c.args.head.now.method c.args.head.now.version false response)

pub returns-clause-found : goal.returns-clause-found
returns-clause-found c = λ response.
    rw (c.asks_of.ensures, c.method.ensures)
    (same_response_framing c.args.head.now.method false response)
