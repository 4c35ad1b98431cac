-- Each answer of the client is one of the session, in either mode.
use Rattle.std.specs.Prelude.{◌&&◌}
use Rattle.relay_tasks.specs.declared.took.Took.TheVariants as took
use Rattle.relay_h1.specs.BodyReader.{is_done}
use Rattle.relay_session.proofs.LinkLemmas.{either_link, piece_ends, watches_plain}
use Rattle.relay_session.proofs.ReadingLemmas.{rest_on}
use Rattle.relay_session.proofs.reading.BegunRequest.read.Goals as goal

pub returns-in-Item-clause-goes : goal.returns-in-Item-clause-goes
returns-in-Item-clause-goes g c = λ given body begins.
    rw (c.saturating_add-self.ensures, c.len.ensures.value)
    (rest_on _ _ given body (g.F.Front.ahead c.args.client.now) _ c.args.self.now
    c.read_piece.new.body c.keep.new.self (took.Item (c.in-Item.piece, c.in-Item._ends)) c.args.idle
    c.in-Item.ensures.body c.in-Item.ensures.still c.in-Item.ensures.stays (c.keep.ensures body) begins)

pub returns-in-More-clause-goes : goal.returns-in-More-clause-goes
returns-in-More-clause-goes g c = λ given body begins.
    rest_on _ _ given body (g.F.Front.ahead c.args.client.now) _ c.args.self.now
    c.read_piece.new.body c.args.self.now.replay took.More c.args.idle c.in-More.ensures.body c.in-More.ensures.still
    c.in-More.ensures.stays (λ kept. tt) begins

pub returns-in-Waited-clause-goes : goal.returns-in-Waited-clause-goes
returns-in-Waited-clause-goes g c = λ given body begins.
    rest_on _ _ given body (g.F.Front.ahead c.args.client.now) _ c.args.self.now
    c.read_piece.new.body c.args.self.now.replay (took.Waited c.in-Waited.pause) c.args.idle c.in-Waited.ensures.body
    c.in-Waited.ensures.still c.in-Waited.ensures.stays (λ kept. tt) begins

pub returns-in-End-clause-goes : goal.returns-in-End-clause-goes
returns-in-End-clause-goes g c = λ given body begins.
    rest_on _ _ given body (g.F.Front.ahead c.args.client.now) _ c.args.self.now
    c.read_piece.new.body c.args.self.now.replay took.End c.args.idle c.in-End.ensures.body c.in-End.ensures.still
    c.in-End.ensures.stays (λ kept. tt) begins

pub returns-in-Failed-clause-goes : goal.returns-in-Failed-clause-goes
returns-in-Failed-clause-goes g c = λ given body begins.
    rest_on _ _ given body (g.F.Front.ahead c.args.client.now) _ c.args.self.now
    c.read_piece.new.body c.args.self.now.replay (took.Failed c.in-Failed.fail) c.args.idle c.in-Failed.ensures.body
    c.in-Failed.ensures.still c.in-Failed.ensures.stays (λ kept. tt) begins

pub returns-in-Item-clause-link : goal.returns-in-Item-clause-link
returns-in-Item-clause-link g c =
    either_link (g.F.Front.state c.args.client.now)
    (g.F.Front.state c.read_piece.new.self) c.args.self.now.body c.read_piece.new.body
    (g.F.Front.ahead c.args.client.now) (g.F.Front.ahead c.read_piece.new.self)
    (took.Item (c.in-Item.piece, c.in-Item._ends)) (c.args.idle && is_done c.args.self.now.body)
    c.in-Item.ensures.body c.in-Item.ensures.still

pub returns-in-Item-clause-ends : goal.returns-in-Item-clause-ends
returns-in-Item-clause-ends g c = λ mode.
    piece_ends (g.F.Front.state c.args.client.now)
    (g.F.Front.state c.read_piece.new.self) c.args.self.now.body c.read_piece.new.body
    (g.F.Front.ahead c.args.client.now) (g.F.Front.ahead c.read_piece.new.self)
    (took.Item (c.in-Item.piece, c.in-Item._ends)) (c.in-Item.ensures.body mode)

pub returns-in-Item-clause-watches : goal.returns-in-Item-clause-watches
returns-in-Item-clause-watches g c = λ mode.
    watches_plain (g.F.Front.state c.args.client.now)
    (g.F.Front.state c.read_piece.new.self) c.args.self.now.body c.read_piece.new.body
    (g.F.Front.ahead c.args.client.now) (g.F.Front.ahead c.read_piece.new.self)
    (took.Item (c.in-Item.piece, c.in-Item._ends)) (c.in-Item.ensures.still mode)

pub returns-in-More-clause-link : goal.returns-in-More-clause-link
returns-in-More-clause-link g c =
    either_link (g.F.Front.state c.args.client.now)
    (g.F.Front.state c.read_piece.new.self) c.args.self.now.body c.read_piece.new.body
    (g.F.Front.ahead c.args.client.now) (g.F.Front.ahead c.read_piece.new.self)
    took.More (c.args.idle && is_done c.args.self.now.body)
    c.in-More.ensures.body c.in-More.ensures.still

pub returns-in-More-clause-ends : goal.returns-in-More-clause-ends
returns-in-More-clause-ends g c = λ mode.
    piece_ends (g.F.Front.state c.args.client.now)
    (g.F.Front.state c.read_piece.new.self) c.args.self.now.body c.read_piece.new.body
    (g.F.Front.ahead c.args.client.now) (g.F.Front.ahead c.read_piece.new.self)
    took.More (c.in-More.ensures.body mode)

pub returns-in-More-clause-watches : goal.returns-in-More-clause-watches
returns-in-More-clause-watches g c = λ mode.
    watches_plain (g.F.Front.state c.args.client.now)
    (g.F.Front.state c.read_piece.new.self) c.args.self.now.body c.read_piece.new.body
    (g.F.Front.ahead c.args.client.now) (g.F.Front.ahead c.read_piece.new.self)
    took.More (c.in-More.ensures.still mode)

pub returns-in-Waited-clause-link : goal.returns-in-Waited-clause-link
returns-in-Waited-clause-link g c =
    either_link (g.F.Front.state c.args.client.now)
    (g.F.Front.state c.read_piece.new.self) c.args.self.now.body c.read_piece.new.body
    (g.F.Front.ahead c.args.client.now) (g.F.Front.ahead c.read_piece.new.self)
    (took.Waited c.in-Waited.pause) (c.args.idle && is_done c.args.self.now.body)
    c.in-Waited.ensures.body c.in-Waited.ensures.still

pub returns-in-Waited-clause-ends : goal.returns-in-Waited-clause-ends
returns-in-Waited-clause-ends g c = λ mode.
    piece_ends (g.F.Front.state c.args.client.now)
    (g.F.Front.state c.read_piece.new.self) c.args.self.now.body c.read_piece.new.body
    (g.F.Front.ahead c.args.client.now) (g.F.Front.ahead c.read_piece.new.self)
    (took.Waited c.in-Waited.pause) (c.in-Waited.ensures.body mode)

pub returns-in-Waited-clause-watches : goal.returns-in-Waited-clause-watches
returns-in-Waited-clause-watches g c = λ mode.
    watches_plain (g.F.Front.state c.args.client.now)
    (g.F.Front.state c.read_piece.new.self) c.args.self.now.body c.read_piece.new.body
    (g.F.Front.ahead c.args.client.now) (g.F.Front.ahead c.read_piece.new.self)
    (took.Waited c.in-Waited.pause) (c.in-Waited.ensures.still mode)

pub returns-in-End-clause-link : goal.returns-in-End-clause-link
returns-in-End-clause-link g c =
    either_link (g.F.Front.state c.args.client.now)
    (g.F.Front.state c.read_piece.new.self) c.args.self.now.body c.read_piece.new.body
    (g.F.Front.ahead c.args.client.now) (g.F.Front.ahead c.read_piece.new.self)
    took.End (c.args.idle && is_done c.args.self.now.body)
    c.in-End.ensures.body c.in-End.ensures.still

pub returns-in-End-clause-ends : goal.returns-in-End-clause-ends
returns-in-End-clause-ends g c = λ mode.
    piece_ends (g.F.Front.state c.args.client.now)
    (g.F.Front.state c.read_piece.new.self) c.args.self.now.body c.read_piece.new.body
    (g.F.Front.ahead c.args.client.now) (g.F.Front.ahead c.read_piece.new.self)
    took.End (c.in-End.ensures.body mode)

pub returns-in-End-clause-watches : goal.returns-in-End-clause-watches
returns-in-End-clause-watches g c = λ mode.
    watches_plain (g.F.Front.state c.args.client.now)
    (g.F.Front.state c.read_piece.new.self) c.args.self.now.body c.read_piece.new.body
    (g.F.Front.ahead c.args.client.now) (g.F.Front.ahead c.read_piece.new.self)
    took.End (c.in-End.ensures.still mode)

pub returns-in-Failed-clause-link : goal.returns-in-Failed-clause-link
returns-in-Failed-clause-link g c =
    either_link (g.F.Front.state c.args.client.now)
    (g.F.Front.state c.read_piece.new.self) c.args.self.now.body c.read_piece.new.body
    (g.F.Front.ahead c.args.client.now) (g.F.Front.ahead c.read_piece.new.self)
    (took.Failed c.in-Failed.fail) (c.args.idle && is_done c.args.self.now.body)
    c.in-Failed.ensures.body c.in-Failed.ensures.still

pub returns-in-Failed-clause-ends : goal.returns-in-Failed-clause-ends
returns-in-Failed-clause-ends g c = λ mode.
    piece_ends (g.F.Front.state c.args.client.now)
    (g.F.Front.state c.read_piece.new.self) c.args.self.now.body c.read_piece.new.body
    (g.F.Front.ahead c.args.client.now) (g.F.Front.ahead c.read_piece.new.self)
    (took.Failed c.in-Failed.fail) (c.in-Failed.ensures.body mode)

pub returns-in-Failed-clause-watches : goal.returns-in-Failed-clause-watches
returns-in-Failed-clause-watches g c = λ mode.
    watches_plain (g.F.Front.state c.args.client.now)
    (g.F.Front.state c.read_piece.new.self) c.args.self.now.body c.read_piece.new.body
    (g.F.Front.ahead c.args.client.now) (g.F.Front.ahead c.read_piece.new.self)
    (took.Failed c.in-Failed.fail) (c.in-Failed.ensures.still mode)
