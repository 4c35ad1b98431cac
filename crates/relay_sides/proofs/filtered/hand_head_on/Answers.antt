-- A head that is withheld: it switches protocols, or could not be chunked.
use Rattle.std.proofs.Common.{sym, ap, ◌∙◌, arith, Err}
use Rattle.relay_tasks.specs.declared.error.Fail.{Fail}
use Rattle.relay_sides.proofs.FilterLemmas.{switch_withholds, full_withholds}
use Rattle.relay_sides.proofs.filtered.hand_head_on.Goals as goal

-- the head switches protocols
pub returns-then-status-eq101 : goal.returns-then-status-eq101
returns-then-status-eq101 c = λ method own.
    switch_withholds method c.args.head c.args.end c.status.result c.explain-error.result
    c.into_up.result c.status.ensures.value (omega (arith, c.if-status-eq101.true))
    c.explain-error.ensures c.into_up.ensures

-- the head has no room for its framing
pub returns-in-Err : goal.returns-in-Err
returns-in-Err c = λ method own.
    full_withholds method c.args.head c.args.end c.in-Err.fail c.inside.result
    (sym (c.has_no_end.ensures method own) ∙ c.if-not-has_no_end.false) c.in-Err.ensures.causes
    (λ is. c.in-Err.ensures.full.0 (ap (λ (f : Fail). Err f) is)) c.inside.ensures
