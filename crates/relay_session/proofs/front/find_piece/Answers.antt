-- What the bytes ahead hold is the answer.
use Rattle.relay_session.proofs.FrontLemmas.{fails_to_cut}
use Rattle.relay_session.proofs.front.find_piece.Goals as goal

pub returns-in-Failed-clause-answer : goal.returns-in-Failed-clause-answer
returns-in-Failed-clause-answer g c =
    rw c.of_client.ensures
    (fails_to_cut c.args.body.now c.take_body.new.reader c.args.client.now.ahead _ c.in-Failed.fail
    c.in-Failed.ensures.takes c.in-Failed.ensures.answer)
