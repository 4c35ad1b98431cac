-- The hook is called with the session that has its client in it, which is then taken out again.
use Rattle.std.proofs.Common.{sym}
use Rattle.relay_request.proofs.calls.call_next.Goals as goal

-- it is the hook that comes next
pub returns-clause-turns : goal.returns-clause-turns
returns-clause-turns g c =
    rw (c.swap-2.ensures.x_after, sym c.replace-at.ensures.value, sym c.swap.ensures.y_after)
    c.take_next-at.ensures.turns
