-- What is written, and then what is left, is the whole text.
use Rattle.std.proofs.Common.{◌≡◌, ◌+◌, ◌++◌, drop}
use Rattle.relay_command.specs.Report.{request_specs, requests_text}
use Rattle.relay_command.proofs.report.report_text.Given as goal

abbrev pub invariant-loop-index : goal.invariant-loop-index
invariant-loop-index l =
    l.out.items ++ requests_text (l.index + 1) (request_specs (drop l.index l.requests))
    ≡ requests_text 1 (request_specs l.requests)
