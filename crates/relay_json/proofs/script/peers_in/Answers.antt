-- A list of too many values has no peers, and any other has those that its values are.
use Rattle.std.proofs.Common.{Option, List, Vec, Global, subst, sym, arith}
use Rattle.relay_json.specs.Script.{PeerSpec, peer_specs}
use Rattle.relay_json.specs.Values.{Reads}
use Rattle.relay_json.specs.declared.script.PeerEntry.{PeerEntry}
use Rattle.relay_json.proofs.ScriptLemmas.{peers_many, peers_few}
use Rattle.relay_json.proofs.script.peers_in.Goals as goal

pub returns-then-values-gt-LIMIT : goal.returns-then-values-gt-LIMIT
returns-then-values-gt-LIMIT c =
    peers_many c.args.values.now (omega (arith, c.if-values-gt-LIMIT.true))

pub returns : goal.returns
returns c =
    subst (λ (read : Option (List PeerSpec)).
    Reads (λ (peers : Vec PeerEntry Global). peer_specs peers.items) c.each_peer.result read)
    (sym (peers_few c.args.values.now (omega (arith, c.if-values-gt-LIMIT.false))))
    c.each_peer.ensures
