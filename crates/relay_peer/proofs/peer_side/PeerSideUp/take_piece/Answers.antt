-- Each answer on a piece: it is queued, or lost, and behind one that was lost no more is queued.
use Rattle.std.proofs.Common.{Option, Some, refl, ap, sym, subst, ◌∙◌}
use Rattle.relay_tasks.specs.declared.error.Error.{Error}
use Rattle.relay_peer.specs.declared.h1_client.H1Client.{H1Client}
use Rattle.relay_peer.specs.Peer.{AreMarked}
use Rattle.relay_peer.proofs.MarkLemmas.{marked_same, marked_still, marked_loses, loses_short}
use Rattle.relay_peer.proofs.SideLemmas.{side_on, calm_withheld}
use Rattle.relay_peer.proofs.SendLemmas.{take_queues, take_loses, take_still}
use Rattle.relay_peer.proofs.peer_side.PeerSideUp.take_piece.Goals as goal

-- a piece was lost before, and this one is refused
pub returns-in-Some-clause-goes : goal.returns-in-Some-clause-goes
returns-in-Some-clause-goes g c = λ s q stands.
    side_on s _ _ _ _ c.args.self.now _ q _ _ _ _ refl
    (λ calm still. calm_withheld c.args.self.now.told _ _ c.in-Some.why refl calm
    (sym (ap (λ t. t.errors) c.failed-self.ensures) ∙ still))
    (subst (λ (e : Option Error). AreMarked (g.L.ByteLink.start c.args.self.now.client.link)
    (g.L.ByteLink.state c.args.self.now.client.link) c.args.self.now.client.failed
    c.args.self.now.read_failed e c.args.self.now.lost) (sym c.error_or-self.ensures)
    (marked_still (g.L.ByteLink.start c.args.self.now.client.link)
    (g.L.ByteLink.state c.args.self.now.client.link) c.args.self.now.client.failed
    c.args.self.now.read_failed c.args.self.now.send_failed c.args.self.now.lost c.in-Some.why
    c.in-Some.is stands.marked))
    stands
    (take_still s (g.L.ByteLink.start c.args.self.now.client.link)
    (g.L.ByteLink.state c.args.self.now.client.link) c.args.self.now.client
    c.args.self.now.lost c.in-Some.why q c.args.task c.in-Some.is
    stands.peer)

-- the piece was queued
pub returns-in-Ok-clause-goes : goal.returns-in-Ok-clause-goes
returns-in-Ok-clause-goes g c = λ s q stands.
    side_on s _ _ _ _ c.args.self.now _ q _ _ _ _
    (ap (λ (k : H1Client _). g.L.ByteLink.start k.link) c.queue_piece.ensures.same)
    (λ calm still. ap (λ (k : H1Client _). k.failed) c.queue_piece.ensures.same ∙ calm still)
    (marked_same (g.L.ByteLink.start c.args.self.now.client.link)
    (g.L.ByteLink.state c.args.self.now.client.link)
    (g.L.ByteLink.state c.queue_piece.new.client.link) c.args.self.now.client.failed
    c.queue_piece.new.client.failed c.args.self.now.read_failed c.args.self.now.send_failed
    c.args.self.now.lost
    (ap (λ (k : H1Client _). g.L.ByteLink.state k.link) c.queue_piece.ensures.same)
    (ap (λ (k : H1Client _). k.failed) c.queue_piece.ensures.same) stands.marked)
    stands
    (take_queues s (g.L.ByteLink.start c.args.self.now.client.link)
    (g.L.ByteLink.start c.queue_piece.new.client.link)
    (g.L.ByteLink.state c.args.self.now.client.link)
    (g.L.ByteLink.state c.queue_piece.new.client.link) c.args.self.now.client
    c.queue_piece.new.client c.args.self.now.lost q c.args.task c.in-None.is
    (ap (λ (k : H1Client _). g.L.ByteLink.start k.link) c.queue_piece.ensures.same)
    (ap (λ (k : H1Client _). g.L.ByteLink.state k.link) c.queue_piece.ensures.same)
    (ap (λ (k : H1Client _). k.response) c.queue_piece.ensures.same)
    (ap (λ (k : H1Client _). k.asked) c.queue_piece.ensures.same)
    (ap (λ (k : H1Client _). k.failed) c.queue_piece.ensures.same) c.in-Ok.ensures.queues
    stands.peer)

-- the piece was lost
pub returns-in-Err-clause-goes : goal.returns-in-Err-clause-goes
returns-in-Err-clause-goes g c = λ s q stands.
    side_on s _ _ _ _ c.args.self.now _ q _ _ _ _
    (ap (λ (k : H1Client _). g.L.ByteLink.start k.link) c.queue_piece.ensures.same)
    (λ calm still. calm_withheld c.args.self.now.told _ _ c.in-Err.why
    (ap (λ (k : H1Client _). k.failed) c.queue_piece.ensures.same) calm
    (sym (ap (λ t. t.errors) c.failed-self-in-Err.ensures) ∙ still))
    (subst (λ (e : Option Error). AreMarked (g.L.ByteLink.start c.args.self.now.client.link)
    (g.L.ByteLink.state c.queue_piece.new.client.link) c.queue_piece.new.client.failed
    c.args.self.now.read_failed e (Some c.in-Err.why)) (sym c.error_or-self-in-Err.ensures)
    (marked_loses (g.L.ByteLink.start c.args.self.now.client.link)
    (g.L.ByteLink.state c.queue_piece.new.client.link) c.queue_piece.new.client.failed
    c.args.self.now.read_failed c.args.self.now.send_failed c.args.self.now.lost c.in-Err.why
    (loses_short stands.peer.sending q.sent c.args.task c.queue_piece.new.client.request
    c.in-Err.why (c.in-Err.ensures.queues stands.peer.sending q.sent stands.peer.so_far))
    (marked_same (g.L.ByteLink.start c.args.self.now.client.link)
    (g.L.ByteLink.state c.args.self.now.client.link)
    (g.L.ByteLink.state c.queue_piece.new.client.link) c.args.self.now.client.failed
    c.queue_piece.new.client.failed c.args.self.now.read_failed c.args.self.now.send_failed
    c.args.self.now.lost
    (ap (λ (k : H1Client _). g.L.ByteLink.state k.link) c.queue_piece.ensures.same)
    (ap (λ (k : H1Client _). k.failed) c.queue_piece.ensures.same)
    stands.marked)))
    stands
    (take_loses s (g.L.ByteLink.start c.args.self.now.client.link)
    (g.L.ByteLink.start c.queue_piece.new.client.link)
    (g.L.ByteLink.state c.args.self.now.client.link)
    (g.L.ByteLink.state c.queue_piece.new.client.link) c.args.self.now.client
    c.queue_piece.new.client c.args.self.now.lost q c.args.task
    c.in-Err.why c.in-None.is
    (ap (λ (k : H1Client _). g.L.ByteLink.start k.link) c.queue_piece.ensures.same)
    (ap (λ (k : H1Client _). g.L.ByteLink.state k.link) c.queue_piece.ensures.same)
    (ap (λ (k : H1Client _). k.response) c.queue_piece.ensures.same)
    (ap (λ (k : H1Client _). k.asked) c.queue_piece.ensures.same)
    (ap (λ (k : H1Client _). k.failed) c.queue_piece.ensures.same) c.in-Err.ensures.queues
    stands.peer)
