-- What is written, and then what is left, is what was there, and then the whole text.
use Rattle.std.proofs.Common.{◌≡◌, ◌+◌, ◌++◌, drop}
use Rattle.relay_command.specs.Report.{attempts_text}
use Rattle.relay_command.proofs.report.push_attempts.Given as goal

abbrev pub invariant-loop-index : goal.invariant-loop-index
invariant-loop-index l =
    l.out.items ++ attempts_text (l.index + 1) (drop l.index l.attempts)
    ≡ l.fn.out.items ++ attempts_text 1 l.attempts
