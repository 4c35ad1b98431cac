-- The requests so far, and then any run of those that are left, are a run of the script.
use Rattle.relay_command.specs.Report.{request_specs}
use Rattle.relay_json.specs.Script.{script_spec}
use Rattle.relay_command.proofs.ExchangeLemmas.{IsUnderWay}
use Rattle.relay_command.proofs.exchange.run_exchanges.Given as goal

abbrev pub invariant-loop-left : goal.invariant-loop-left
invariant-loop-left l =
    IsUnderWay (script_spec l.fn.script) l.run l.left (request_specs l.requests.items)

abbrev pub decreases-loop-left : goal.decreases-loop-left
decreases-loop-left l = l.left
