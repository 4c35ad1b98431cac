use Rattle.std.proofs.Common.{◌+◌, ◌^◌, ◌≡◌, ◌<◌, true, length, drop}
use Rattle.std.specs.Fmt.{digits_onto}
use Rattle.relay_h1.specs.BodyWire.{size_line}
use Rattle.relay_h1.proofs.size_line.SizeLine.new.Given as goal

-- the digits before `start` are still to be written
abbrev pub invariant-loop-left : goal.invariant-loop-left
invariant-loop-left l = record {
  within : l.start < 16;
  sized : length l.bytes ≡ 18;
  fits : l.left < 16 ^ (l.start + 1);
  so_far : digits_onto (l.start + 49) 16 true l.left (drop (l.start + 1) l.bytes)
      ≡ size_line l.size;
}

abbrev pub decreases-loop-left : goal.decreases-loop-left
decreases-loop-left l = l.left
