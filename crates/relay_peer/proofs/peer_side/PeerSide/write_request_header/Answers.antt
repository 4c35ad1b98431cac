-- On a link that was handed out, a new side begins with the head that was queued.
use Rattle.std.proofs.Common.{ap, sym, ◌∙◌}
use Rattle.relay_peer.specs.declared.h1_client.H1Client.{H1Client}
use Rattle.relay_peer.proofs.SendLemmas.{begins_side, begins_head, on_ok}
use Rattle.relay_peer.proofs.peer_side.PeerSide.write_request_header.Goals as goal

-- nothing has passed the side
pub returns-clause-begins : goal.returns-clause-begins
returns-clause-begins g c =
    on_ok _ _ c.write_request_header.result c.write_request_header.ensures.keeps
    (λ keeps s own none fresh reused out.
    begins_side s (g.L.ByteLink.start c.args.self.now.client.link)
    (g.L.ByteLink.start c.write_request_header.new.self.link)
    (g.L.ByteLink.state c.args.self.now.client.link)
    (g.L.ByteLink.state c.write_request_header.new.self.link) reused c.args.self.now
    c.write_request_header.new.self c.args.head own
    (ap (λ (k : H1Client _). k.asked) c.write_request_header.ensures.same ∙ fresh.unasked
    ∙ sym none)
    (ap (λ (k : H1Client _). g.L.ByteLink.start k.link) c.write_request_header.ensures.same)
    (ap (λ (k : H1Client _). g.L.ByteLink.state k.link) c.write_request_header.ensures.same)
    (ap (λ (k : H1Client _). k.response) c.write_request_header.ensures.same) keeps
    (ap (λ (k : H1Client _). k.failed) c.write_request_header.ensures.same) fresh out)

-- the head is the one that was queued
pub returns-clause-head : goal.returns-clause-head
returns-clause-head g c =
    on_ok _ _ c.write_request_header.result c.write_request_header.ensures.keeps
    (λ keeps fresh.
    begins_head c.args.self.now c.write_request_header.new.self c.args.head keeps fresh)
