-- The tasks that are left say whether one of all is a failure.
use Rattle.std.proofs.Common.{◌≡◌, drop}
use Rattle.std.specs.List.{list_any}
use Rattle.relay_core.specs.Pipe.{is_failure}
use Rattle.relay_exchange_tests.proofs.tests.duplexes.client.has_failure.Given as goal

-- no task before the place is a failure
abbrev pub invariant-loop-at : goal.invariant-loop-at
invariant-loop-at l = list_any is_failure (drop l.at l.tasks) ≡ list_any is_failure l.fn.tasks
