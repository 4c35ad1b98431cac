-- The connector has the entries of the peers.
use Rattle.std.proofs.Common.{List, subst, sym}
use Rattle.relay_connector.specs.declared.script_connector.PeerScript.{PeerScript}
use Rattle.relay_command.specs.Exchange.{AreEntriesOf}
use Rattle.relay_json.specs.Script.{peer_specs}
use Rattle.relay_command.proofs.exchange.connector_of.Goals as goal

pub returns-in-Ok : goal.returns-in-Ok
returns-in-Ok c =
    let fresh = c.in-Ok.ensures.ok in
    record {
      returned = fresh.returned;
      idle = fresh.idle;
      out = fresh.out;
      faults = fresh.faults;
      refusals = fresh.refusals;
      entries = subst
          (λ (entries : List PeerScript). AreEntriesOf (peer_specs c.args.peers.items) entries)
          (sym fresh.next) c.in_ok-entries.ensures;
    }
