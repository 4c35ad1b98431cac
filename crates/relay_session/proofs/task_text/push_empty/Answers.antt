use Rattle.relay_session.proofs.task_text.push_empty.Goals as goal

pub returns-clause-ok : goal.returns-clause-ok
returns-clause-ok c = rw c.new.ensures at c.push_piece.ensures.ok

pub returns-clause-goes_on : goal.returns-clause-goes_on
returns-clause-goes_on c = rw c.new.ensures at c.push_piece.ensures.goes_on
