use Rattle.std.proofs.Common.{◌≡◌, true, false, rules}
use Rattle.relay_h1.specs.BodyWire.{is_short, after_piece}
use Rattle.relay_session.proofs.WireSteps.{short_goes}
use Rattle.relay_session.proofs.task_text.push_piece.Goals as goal

pub returns-then-not-ends-clause-goes_on : goal.returns-then-not-ends-clause-goes_on
returns-then-not-ends-clause-goes_on c =
    let goes : c.args.ends ≡ false = search rules in
    rw (goes, ← c.new-body.ensures.rest, ← c.in_ok-push_piece.ensures.rest)
    c.in_ok-push_piece.ensures.so_far

pub returns-in-Err-Error-clause-goes_on : goal.returns-in-Err-Error-clause-goes_on
returns-in-Err-Error-clause-goes_on c =
    let ends : c.args.ends ≡ true = search rules in
    let left : is_short (after_piece c.args.rest c.args.piece) ≡ true = search rules in
    short_goes c.args.rest c.args.piece c.args.ends ends left
    (rw (← c.new-body.ensures.rest, ← c.in_ok-push_piece.ensures.rest) c.in_ok-push_piece.ensures.so_far)
