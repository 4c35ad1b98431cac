-- A piece is put, or a hook was called with it.
use Rattle.std.proofs.Common.{inr, refl}
use Rattle.relay_core.proofs.LastLemmas.{once}
use Rattle.relay_core.proofs.UseLemmas.{put_gains}
use Rattle.relay_core.proofs.duplex.Duplex.down_read.Goals as goal

-- the pipe has one task more, or a hook was called
pub returns-in-Item-clause-gains : goal.returns-in-Item-clause-gains
returns-in-Item-clause-gains g c = λ s p h is.
    rw (c.put_piece.ensures.duplex, c.upgraded-upgraded.ensures)
    (inr (put_gains c.args.self.now (g.D.Down.state c.args.down.now)
    (g.D.Down.state c.read_piece.new.self) c.in-Item.piece
    (c.in-Item.ensures.puts s p h c.in-Item.piece refl)))

-- a piece came by one call
pub returns-in-Item-clause-lasts : goal.returns-in-Item-clause-lasts
returns-in-Item-clause-lasts g c =
    once g.D.Down.lasts c.args.down.now c.read_piece.new.self c.read_piece.ensures.lasts

-- bytes came that hold none
pub returns-in-More-clause-lasts : goal.returns-in-More-clause-lasts
returns-in-More-clause-lasts g c =
    once g.D.Down.lasts c.args.down.now c.read_piece.new.self c.read_piece.ensures.lasts

-- the client is waited for
pub returns-in-Waited-clause-lasts : goal.returns-in-Waited-clause-lasts
returns-in-Waited-clause-lasts g c =
    once g.D.Down.lasts c.args.down.now c.read_piece.new.self c.read_piece.ensures.lasts

-- or the read failed
pub returns-in-Failed-clause-lasts : goal.returns-in-Failed-clause-lasts
returns-in-Failed-clause-lasts g c =
    once g.D.Down.lasts c.args.down.now c.read_piece.new.self c.read_piece.ensures.lasts
