use Rattle.std.proofs.Common.{◌≡◌, ◌+◌, ◌-◌, ◌^◌, ◌≤◌, drop, length, min}
use Rattle.relay_filters.specs.Delay.{summed}
use Rattle.relay_filters.proofs.rested.sum_from.Given as goal

-- the sum so far and what is left are all of it
abbrev pub invariant-loop-at : goal.invariant-loop-at
invariant-loop-at l = record {
  fits : l.sum ≤ 2 ^ 64 - 1;
  summed : min (l.sum + summed (drop l.at l.delays)) (2 ^ 64 - 1)
      ≡ min (summed (drop l.fn.first l.delays)) (2 ^ 64 - 1);
}

abbrev pub decreases-loop-at : goal.decreases-loop-at
decreases-loop-at l = length l.delays - l.at
