-- A head without some of its fields has the status that it had.
use Rattle.std.proofs.Common.{◌≡◌}
use Rattle.relay_examples.proofs.gateway.GatewayFilters.upstream_response_filter.Given as goal

abbrev pub invariant-loop-name : goal.invariant-loop-name
invariant-loop-name l = l.head.status ≡ l.initial.head.status
