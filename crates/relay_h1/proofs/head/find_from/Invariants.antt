use Rattle.std.proofs.Common.{◌≤◌, ◌-◌, length}
use Rattle.relay_h1.specs.HeadEnd.{NoMarkBefore}
use Rattle.relay_h1.proofs.head.find_from.Given as goal

-- no mark begins before the place
abbrev pub invariant-loop-at : goal.invariant-loop-at
invariant-loop-at l = record {
  within : l.at ≤ length l.bytes;
  none_before : NoMarkBefore l.at l.bytes;
}

abbrev pub decreases-loop-at : goal.decreases-loop-at
decreases-loop-at l = length l.bytes - l.at
