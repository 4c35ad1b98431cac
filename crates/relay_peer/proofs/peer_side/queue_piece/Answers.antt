-- The bytes are queued first, then the end where the task carries it.
use Rattle.std.proofs.Common.{sym, ◌∙◌}
use Rattle.relay_peer.proofs.SendLemmas.{nothing_queued, piece_queued, ended_piece}
use Rattle.relay_peer.proofs.peer_side.queue_piece.Goals as goal

-- the bytes were not queued
pub returns-in-Err-clause-queues : goal.returns-in-Err-clause-queues
returns-in-Err-clause-queues g c =
    nothing_queued c.args.client.now c.write_body.new.self c.args.task c.in-Err.why
    c.in-Err.ensures.memory c.in-Err.ensures.err

-- the bytes were queued, and the end with them
pub returns-then-ends-clause-queues : goal.returns-then-ends-clause-queues
returns-then-ends-clause-queues g c = λ sent had so_far.
    ended_piece sent had c.args.task c.bytes_of.result c.write_body.new.self
    c.finish_body.new.self c.finish_body.result (sym c.is_end-ends.ensures ∙ c.if-ends.true)
    c.bytes_of.ensures (c.in-Ok.ensures.keeps sent had so_far) c.finish_body.ensures.keeps
    c.finish_body.ensures.short c.finish_body.ensures.causes c.finish_body.ensures.err

-- the bytes were queued
pub returns-else-ends-clause-queues : goal.returns-else-ends-clause-queues
returns-else-ends-clause-queues g c = λ sent had so_far.
    piece_queued sent had c.args.task c.bytes_of.result c.write_body.new.self.request
    (sym c.is_end-ends.ensures ∙ c.if-ends.false) c.bytes_of.ensures
    (c.in-Ok.ensures.keeps sent had so_far)
