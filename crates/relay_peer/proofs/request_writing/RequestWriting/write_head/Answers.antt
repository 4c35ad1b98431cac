-- The framing is that of the head, or the head is refused for it.
use Rattle.std.proofs.Common.{◌∙◌, sym, ap, Some}
use Rattle.relay_h1.proofs.JudgeLemmas.{framed_is}
use Rattle.relay_h1.specs.Framing.{request_framing}
use Rattle.relay_peer.proofs.RequestLemmas.{not_framed_in, on_ok}
use Rattle.relay_peer.proofs.request_writing.RequestWriting.write_head.Goals as goal

pub returns-in-Ok-clause-keeps : goal.returns-in-Ok-clause-keeps
returns-in-Ok-clause-keeps c =
    on_ok _ _ c.queue_head.result c.queue_head.ensures.keeps
    (framed_is c.in-Ok.framing (request_framing c.args.head) c.in-Ok.ensures
    ∙ ap Some (sym c.new.ensures.rest))

pub returns-in-Err-clause-causes : goal.returns-in-Err-clause-causes
returns-in-Err-clause-causes c =
    not_framed_in c.args.head c.in-Err.error c.into_in.result c.in-Err.ensures c.into_in.ensures
