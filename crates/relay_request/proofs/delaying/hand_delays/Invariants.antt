use Rattle.std.proofs.Common.{◌≡◌, ◌-◌, drop, length}
use Rattle.relay_request.specs.Delays.{calls_behind, total_behind}
use Rattle.relay_request.proofs.delaying.hand_delays.Given as goal

-- behind those that are left it will have been called as behind all
abbrev pub invariant-loop-at : goal.invariant-loop-at
invariant-loop-at g l = record {
  calls : calls_behind (g.Y.Delay.calls l.delay) (drop l.at l.delays)
      ≡ calls_behind (g.Y.Delay.calls l.fn.delay) (drop l.fn.from l.delays);
  total : total_behind (g.Y.Delay.total l.delay) (drop l.at l.delays)
      ≡ total_behind (g.Y.Delay.total l.fn.delay) (drop l.fn.from l.delays);
}

abbrev pub decreases-loop-at : goal.decreases-loop-at
decreases-loop-at g l = length l.delays - l.at
