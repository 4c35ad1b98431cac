-- The names so far, and then those of the peers that are left, are those of all.
use Rattle.std.proofs.Common.{◌≡◌, ◌++◌, drop}
use Rattle.relay_command.specs.Exchange.{names_of}
use Rattle.relay_json.specs.Script.{peer_specs}
use Rattle.relay_command.proofs.exchange.peer_names.Given as goal

abbrev pub invariant-loop-peer : goal.invariant-loop-peer
invariant-loop-peer l =
    l.names.items ++ names_of (peer_specs (drop l.peer-index l.peers))
    ≡ names_of (peer_specs l.peers)
