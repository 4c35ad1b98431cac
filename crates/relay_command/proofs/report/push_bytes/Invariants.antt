-- What is written, and then what is left, is what was there, and then the whole text.
use Rattle.std.proofs.Common.{◌≡◌, ◌++◌, drop}
use Rattle.relay_command.specs.Report.{shown}
use Rattle.relay_command.proofs.report.push_bytes.Given as goal

abbrev pub invariant-loop-byte : goal.invariant-loop-byte
invariant-loop-byte l =
    l.out.items ++ shown (drop l.byte-index l.bytes) ≡ l.fn.out.items ++ shown l.bytes
