-- What is written, and then what is left, is what was there, and then the whole text.
use Rattle.std.proofs.Common.{◌≡◌, ◌++◌, drop}
use Rattle.relay_command.specs.Report.{log_text}
use Rattle.relay_command.proofs.report.push_log.Given as goal

abbrev pub invariant-loop-line : goal.invariant-loop-line
invariant-loop-line l =
    l.out.items ++ log_text (drop l.line-index l.log) ≡ l.fn.out.items ++ log_text l.log
