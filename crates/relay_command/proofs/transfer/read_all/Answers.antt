-- What came before and what came with the last read are all that the source gave.
use Rattle.std.proofs.Common.{◌++◌}
use Rattle.relay_command.proofs.TransferLemmas.{Gives-append}
use Rattle.relay_command.proofs.transfer.read_all.Goals as goal

pub returns-in-OutOfMemory : goal.returns-in-OutOfMemory
returns-in-OutOfMemory g c = record {
  bytes = c.loop-room.text.items ++ c.in-OutOfMemory.ensures.bytes;
  gives = Gives-append _ _ _ c.loop-room.text.items c.in-OutOfMemory.ensures.bytes
      c.loop-room.invariant c.in-OutOfMemory.ensures.gives;
}
