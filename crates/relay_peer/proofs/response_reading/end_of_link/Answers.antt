-- Before the final head the response is cut off; inside a body its reader decides.
use Rattle.std.proofs.Common.{◌∙◌, ap, List, ℕ, length, ◌==◌}
use Rattle.relay_peer.specs.declared.response_reading.ResponsePlace.TheVariants.{NoHead, Informed}
use Rattle.relay_peer.proofs.ResponseLemmas.{head_cut, has_come}
use Rattle.relay_peer.proofs.response_reading.end_of_link.Goals as goal

pub returns-in-NoHead-clause-ends : goal.returns-in-NoHead-clause-ends
returns-in-NoHead-clause-ends c = λ method upgrade given told ahead still none.
    let here = rw c.in-NoHead.is at still in
    rw (c.cut_off.ensures.fails given (none ∙ ap (λ (xs : List ℕ). length xs == 0) here.1))
    (head_cut method upgrade given told NoHead ahead tt here)

pub returns-in-Informed-clause-ends : goal.returns-in-Informed-clause-ends
returns-in-Informed-clause-ends c = λ method upgrade given told ahead still none.
    let here = rw c.in-Informed.is at still in
    rw (c.cut_off-in-Informed.ensures.fails given (has_come given here.1))
    (head_cut method upgrade given told Informed ahead tt here)

pub returns-in-InBody-clause-ends : goal.returns-in-InBody-clause-ends
returns-in-InBody-clause-ends c = λ method upgrade given told ahead still none.
    c.end_of_body.ensures.ends method upgrade given told ahead (rw c.in-InBody.is at still)

pub returns-in-NoHead-clause-cuts : goal.returns-in-NoHead-clause-cuts
returns-in-NoHead-clause-cuts c = λ bytes rest. rw c.in-NoHead.is
    (c.cut_off.ensures.cuts bytes rest)

pub returns-in-Informed-clause-cuts : goal.returns-in-Informed-clause-cuts
returns-in-Informed-clause-cuts c = λ bytes rest.
    rw c.in-Informed.is (c.cut_off-in-Informed.ensures.cuts bytes rest)

pub returns-in-InBody-clause-cuts : goal.returns-in-InBody-clause-cuts
returns-in-InBody-clause-cuts c = λ bytes rest.
    rw c.in-InBody.is (c.end_of_body.ensures.cuts bytes rest)
