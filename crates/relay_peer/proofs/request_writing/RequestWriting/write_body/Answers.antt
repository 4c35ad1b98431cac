-- The piece stands behind the head and the pieces that were queued.
use Rattle.relay_peer.proofs.RequestLemmas.{piece_behind}
use Rattle.relay_peer.proofs.request_writing.RequestWriting.write_body.Goals as goal

pub returns-in-Sending-clause-keeps : goal.returns-in-Sending-clause-keeps
returns-in-Sending-clause-keeps c =
    let sending = c.in-Sending.sending in
    piece_behind c.push_piece.result c.args.self.now c.push_piece.new.self c.args.piece
    sending.head sending.body c.push_piece.new.body c.in-Sending.is c.push_piece.ensures.text
    c.push_piece.ensures.rest c.push_piece.ensures.so_far
