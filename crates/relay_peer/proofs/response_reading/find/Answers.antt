-- Each place has a step of its own.
use Rattle.relay_peer.proofs.response_reading.find.Goals as goal

pub returns-in-NoHead-clause-finds : goal.returns-in-NoHead-clause-finds
returns-in-NoHead-clause-finds c = λ closed given told.
    rw c.in-NoHead.is (c.find_head.ensures.finds closed given told)

pub returns-in-Informed-clause-finds : goal.returns-in-Informed-clause-finds
returns-in-Informed-clause-finds c = λ closed given told.
    rw c.in-Informed.is (c.find_head-in-Informed.ensures.finds closed given told)

pub returns-in-InBody-clause-finds : goal.returns-in-InBody-clause-finds
returns-in-InBody-clause-finds c = λ closed given told.
    rw c.in-InBody.is (c.find_piece.ensures.finds c.args.method.now c.args.upgrade closed given
    told)
