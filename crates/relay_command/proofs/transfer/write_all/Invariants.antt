-- The sink has taken the start of the text.
use Rattle.std.proofs.Common.{◌-◌, ◌≤◌, length, take}
use Rattle.relay_command.specs.Transfer.{Takes}
use Rattle.relay_command.proofs.transfer.write_all.Given as goal

abbrev pub invariant-loop-done : goal.invariant-loop-done
invariant-loop-done g l = record {
  within : l.done ≤ length l.text;
  taken : Takes (g.T.Sink.state l.fn.sink) (g.T.Sink.state l.sink) (take l.done l.text);
}

abbrev pub decreases-loop-done : goal.decreases-loop-done
decreases-loop-done g l = length l.text - l.done
