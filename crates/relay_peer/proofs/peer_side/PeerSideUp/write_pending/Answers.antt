-- What the link took leaves the queue, and a fault is blamed.
use Rattle.std.proofs.Common.{Option, ap, sym, subst, ◌∙◌}
use Rattle.relay_tasks.specs.declared.error.Error.{Error}
use Rattle.relay_peer.specs.declared.h1_client.H1Client.{H1Client}
use Rattle.relay_peer.specs.Peer.{AreMarked}
use Rattle.relay_peer.proofs.MarkLemmas.{marked_write, unsent_here}
use Rattle.relay_peer.proofs.SideLemmas.{side_on, calm_put}
use Rattle.relay_peer.proofs.SendLemmas.{write_goes}
use Rattle.relay_peer.proofs.UseLemmas.{put_uses, put_asked}
use Rattle.relay_peer.proofs.peer_side.PeerSideUp.write_pending.Goals as goal

-- what passed goes on with what the link took
pub returns-clause-goes : goal.returns-clause-goes
returns-clause-goes g c = λ s q stands.
    side_on s _ _ _ _ c.args.self.now _ q _ _ _ _ c.write_pending-put.ensures.start
    (λ calm still. calm_put c.args.self.now.told _ _ c.write_pending-put.result
    c.write_pending-put.ensures.failed calm
    (sym (ap (λ t. t.errors) c.written-self.ensures) ∙ still))
    (subst (λ (e : Option Error). AreMarked (g.L.ByteLink.start c.args.self.now.client.link)
    (g.L.ByteLink.state c.write_pending-put.new.self.link) c.write_pending-put.new.self.failed
    c.args.self.now.read_failed e c.args.self.now.lost) (sym c.put_error-self.ensures)
    (marked_write (g.L.ByteLink.start c.args.self.now.client.link)
    (g.L.ByteLink.state c.args.self.now.client.link)
    (g.L.ByteLink.state c.write_pending-put.new.self.link) c.args.self.now.client.request.unsent
    c.write_pending-put.result c.args.self.now.client.failed c.write_pending-put.new.self.failed
    c.args.self.now.read_failed c.args.self.now.send_failed c.args.self.now.lost
    c.write_pending-put.ensures.answer.writes c.write_pending-put.ensures.failed
    stands.peer.faults (unsent_here _ c.args.self.now.send_failed c.requires) stands.peer.calm
    stands.marked))
    stands
    (write_goes s (g.L.ByteLink.start c.args.self.now.client.link)
    (g.L.ByteLink.start c.write_pending-put.new.self.link)
    (g.L.ByteLink.state c.args.self.now.client.link)
    (g.L.ByteLink.state c.write_pending-put.new.self.link) c.args.self.now.client
    c.write_pending-put.new.self c.args.self.now.lost q
    c.write_pending-put.result c.write_pending-put.ensures.start
    (ap (λ (k : H1Client _). k.response) c.write_pending-put.ensures.same)
    (ap (λ (k : H1Client _). k.asked) c.write_pending-put.ensures.same)
    c.write_pending-put.ensures.failed
    c.write_pending-put.ensures.answer c.write_pending-put.ensures.keeps stands.peer)

-- the peer's link was asked, unless it is silent
pub returns-clause-asks : goal.returns-clause-asks
returns-clause-asks g c =
    put_uses (g.L.ByteLink.state c.args.self.now.client.link)
    (g.L.ByteLink.state c.write_pending-put.new.self.link) c.args.self.now.client.request.unsent
    c.write_pending-put.result c.write_pending-put.ensures.answer.writes

-- it was, where the write failed
pub returns-clause-fails : goal.returns-clause-fails
returns-clause-fails g c =
    put_asked (g.L.ByteLink.state c.args.self.now.client.link)
    (g.L.ByteLink.state c.write_pending-put.new.self.link) c.args.self.now.client.request.unsent
    c.write_pending-put.result c.write_pending-put.ensures.answer.writes
