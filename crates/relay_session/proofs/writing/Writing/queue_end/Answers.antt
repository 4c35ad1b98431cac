use Rattle.relay_session.proofs.writing.Writing.queue_end.Goals as goal

pub returns : goal.returns
returns c = rw c.new.ensures at c.queue_piece.ensures
