-- The hooks are called with the client's own session, which then goes back.
use Rattle.std.proofs.Common.{sym}
use Rattle.relay_filters.proofs.lent.pass_tasks.Goals as goal

pub returns-clause-filters : goal.returns-clause-filters
returns-clause-filters g c =
    rw (c.swap_session-2.ensures.given, sym c.swap_session.ensures.taken)
    c.filter_response-passed.ensures.filters
