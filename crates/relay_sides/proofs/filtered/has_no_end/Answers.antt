-- Whether a head lacks a framing rests on whether the request is a HEAD, not on its method else.
use Rattle.std.proofs.Common.{codes, sym, ◌∙◌}
use Rattle.relay_sides.proofs.FilterLemmas.{one_test}
use Rattle.relay_sides.proofs.filtered.has_no_end.Goals as goal

-- the request is none
pub returns-else-of_head : goal.returns-else-of_head
returns-else-of_head c = λ method own.
    c.lacks_framing-else-of_head.ensures
    ∙ one_test (codes "GET") method c.args.end c.args.head.now (sym c.if-of_head.false ∙ own)
