-- The bytes ahead hold the answer, or it lies behind one read of the link.
use Rattle.std.proofs.Common.{ap}
use Rattle.relay_session.proofs.FrontLemmas.{piece_ahead, end_ahead, failed_ahead, open_not_done, passed_on}
use Rattle.relay_session.proofs.front.ConnectionFront.read_piece.Goals as goal

pub await_piece-requires : goal.await_piece-requires
await_piece-requires g c =
    open_not_done c.args.body.now c.take_body.new.reader c.args.self.now.ahead _
    c.in-More.ensures.takes c.in-More.ensures.exact

pub returns-in-Piece-clause-body : goal.returns-in-Piece-clause-body
returns-in-Piece-clause-body g c = λ mode.
    piece_ahead _ _ _ c.args.body.now c.take_body.new.reader c.args.self.now.ahead _
    c.in-Piece.piece
    c.in-Piece.ends (ap (λ client. g.D.ByteLink.state client.link) c.take_body.ensures.same)
    c.in-Piece.ensures.takes c.in-Piece.ensures.answer

pub returns-in-End-clause-body : goal.returns-in-End-clause-body
returns-in-End-clause-body g c = λ mode.
    end_ahead _ _ _ c.args.body.now c.take_body.new.reader c.args.self.now.ahead _
    (ap (λ client. g.D.ByteLink.state client.link) c.take_body.ensures.same)
    c.in-End.ensures.takes c.in-End.ensures.answer

pub returns-in-More-clause-body : goal.returns-in-More-clause-body
returns-in-More-clause-body g c = λ mode.
    let answer = rw c.take_body.ensures.same at c.await_piece.ensures.answer in
    passed_on _ _ c.args.body.now c.take_body.new.reader c.await_piece.new.body
    c.args.self.now.ahead c.take_body.new.self.ahead _ c.await_piece.result
    c.in-More.ensures.takes c.in-More.ensures.answer answer

pub returns-in-Failed-clause-body : goal.returns-in-Failed-clause-body
returns-in-Failed-clause-body g c = λ mode.
    rw c.of_client.ensures
    (failed_ahead _ _ _ c.args.body.now c.take_body.new.reader c.args.self.now.ahead _
    c.in-Failed.fail (ap (λ client. g.D.ByteLink.state client.link) c.take_body.ensures.same)
    c.in-Failed.ensures.takes c.in-Failed.ensures.answer)
