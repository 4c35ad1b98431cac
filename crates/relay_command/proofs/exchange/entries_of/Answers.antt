-- One more entry is that of the next peer.
use Rattle.std.proofs.Common.{◌≡◌, ◌∷◌, ◌++◌, ◌∙◌, [], List, ap, append_assoc, refl, subst, sym}
use Rattle.std.proofs.lemmas.List.{map-append}
use Rattle.relay_connector.specs.declared.script_connector.PeerScript.{PeerScript}
use Rattle.relay_connector.specs.declared.upstream.Upstream.TheVariants.{H1}
use Rattle.relay_command.specs.Exchange.{AreEntriesOf}
use Rattle.relay_json.specs.Script.{PeerSpec, peer_spec, peer_specs}
use Rattle.relay_json.specs.declared.script.PeerEntry.{PeerEntry}
use Rattle.relay_command.proofs.ExchangeLemmas.{entries_more}
use Rattle.relay_command.proofs.exchange.entries_of.Goals as goal

pub loop-peer-preserved : goal.loop-peer-preserved
loop-peer-preserved c =
    let peer = c.in-Some.peer in
    let entry : PeerScript = record {
      name = peer.name;
      link = H1 c.new.result;
      connect = peer.connect;
      again = peer.again;
    } in
    let so_far = c.loop-peer.yielded in
    let all : peer_specs (so_far ++ peer ∷ []) ≡ peer_specs so_far ++ peer_spec peer ∷ [] =
    map-append peer_spec so_far (peer ∷ []) in
    let pushed : c.push.new.self.items ≡ c.loop-peer.entries.items ++ entry ∷ [] =
    c.in_ok-push.ensures.items in
    let more = entries_more (peer_specs so_far) c.loop-peer.entries.items (peer_spec peer) entry
    c.loop-peer.invariant.0
    (record { name = refl; link = c.new.ensures; connect = refl; again = refl }) in (
      subst (λ (ps : List PeerSpec). AreEntriesOf ps c.push.new.self.items) (sym all)
          (subst (λ (es : List PeerScript).
          AreEntriesOf (peer_specs so_far ++ peer_spec peer ∷ []) es)
          (sym pushed) more),
      append_assoc so_far (peer ∷ []) c.next.new.self.rest.items
          ∙ ap (λ (ps : List PeerEntry). so_far ++ ps) (sym c.in-Some.ensures.steps.0)
          ∙ c.loop-peer.invariant.1,
    )
