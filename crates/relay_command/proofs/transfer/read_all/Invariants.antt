-- The text is what the source has given; each turn adds to it.
use Rattle.std.proofs.Common.{◌+◌, ◌-◌, length}
use Rattle.relay_command.specs.Transfer.{Gives, input_limit}
use Rattle.relay_command.proofs.transfer.read_all.Given as goal

abbrev pub invariant-loop-room : goal.invariant-loop-room
invariant-loop-room g l =
    Gives (g.S.Source.state l.fn.source) (g.S.Source.state l.source) l.text.items

abbrev pub decreases-loop-room : goal.decreases-loop-room
decreases-loop-room g l = input_limit + 1 - length l.text.items
