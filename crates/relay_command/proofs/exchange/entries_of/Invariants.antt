-- The entries so far are those of the peers that were taken, and all peers are these and the rest.
use Rattle.std.proofs.Common.{◌≡◌, ◌++◌}
use Rattle.relay_command.specs.Exchange.{AreEntriesOf}
use Rattle.relay_json.specs.Script.{peer_specs}
use Rattle.relay_command.proofs.exchange.entries_of.Given as goal

abbrev pub invariant-loop-peer : goal.invariant-loop-peer
invariant-loop-peer l =
    AreEntriesOf (peer_specs l.yielded) l.entries.items
    × (l.yielded ++ l.peer-iterator.rest.items ≡ l.fn.peers.items)
