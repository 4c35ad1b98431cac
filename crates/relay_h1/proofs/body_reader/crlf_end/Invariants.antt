use Rattle.std.proofs.Common.{◌≡◌, ◌≤◌, ◌-◌, drop, length}
use Rattle.relay_h1.specs.Body.{crlf_end}
use Rattle.relay_h1.specs.HeadEnd.{shifted}
use Rattle.relay_h1.proofs.body_reader.crlf_end.Given as goal

-- the first CR LF stands at the place or behind it
abbrev pub invariant-loop-at : goal.invariant-loop-at
invariant-loop-at l = record {
  within : l.at ≤ length l.bytes;
  behind : crlf_end l.bytes ≡ shifted l.at (crlf_end (drop l.at l.bytes));
}

abbrev pub decreases-loop-at : goal.decreases-loop-at
decreases-loop-at l = length l.bytes - l.at
