-- The head is the first, and its text stands behind what was queued.
use Rattle.std.proofs.Common.{sym, ◌∙◌}
use Rattle.relay_peer.proofs.RequestLemmas.{first_head}
use Rattle.relay_peer.proofs.request_writing.RequestWriting.queue_head.Goals as goal

pub returns-clause-keeps : goal.returns-clause-keeps
returns-clause-keeps c = λ framed sent taken so_far.
    first_head sent taken c.args.self.now c.push_request_head.new.self c.args.head c.args.body framed
    (sym c.has_head.ensures ∙ c.if-has_head.false) c.in_ok-push_request_head.ensures.ok so_far
