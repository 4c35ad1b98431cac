-- Each answer of a read: the side goes on with the bytes that came, and with its task.
use Rattle.std.proofs.Common.{Bool, ◌||◌, refl, sym, ap, ◌∙◌}
use Rattle.relay_peer.specs.declared.h1_client.H1Client.{H1Client}
use Rattle.relay_tasks.specs.declared.took.Took.TheVariants as took
use Rattle.relay_peer.specs.Peer.{state_of}
use Rattle.relay_peer.proofs.CutLemmas.{cuts_item, cuts_none, cut_no_failure}
use Rattle.relay_peer.proofs.PeerLemmas.{more_gave, end_read}
use Rattle.relay_peer.proofs.PeerTasks.{read_gives}
use Rattle.relay_peer.proofs.SideLemmas.{side_on, side_reads, calm_same, calm_failed, calm_paused, or_none}
use Rattle.relay_peer.proofs.MarkLemmas.{marked_task, same_error}
use Rattle.relay_peer.proofs.UseLemmas.{peer_may, peer_waits}
use Rattle.relay_peer.proofs.peer_side.PeerSideUp.read_task.Goals as goal

-- a task came
pub returns-in-Item-clause-reads : goal.returns-in-Item-clause-reads
returns-in-Item-clause-reads g c = record {
  exact = ap (λ (k : H1Client _). state_of (record c.args.self.now { client = k }))
      c.read_response_task.ensures.same;
  upgraded_stays = λ before. before;
  no_failure = cut_no_failure _ _ _ c.in-Item.task c.in-Item.ensures.reads.cuts;
}

-- and is told
pub returns-in-Item-clause-goes : goal.returns-in-Item-clause-goes
returns-in-Item-clause-goes g c = λ s q stands.
    side_on s _ _ _ _ c.args.self.now _ q _ _ _ _ c.read_response_task.ensures.start
    (λ calm still. calm_same c.args.self.now.told _ _ _ (took.Item c.in-Item.task)
    c.in-Item.ensures.failed refl refl calm still)
    (marked_task _ _ (g.L.ByteLink.start c.args.self.now.client.link)
    (g.L.ByteLink.state c.args.self.now.client.link)
    (g.L.ByteLink.state c.read_response_task.new.self.link)
    c.args.self.now.client.response c.read_response_task.new.self.response
    (took.Item c.in-Item.task) c.args.self.now.client.failed c.read_response_task.new.self.failed
    c.args.self.now.read_failed c.args.self.now.read_failed c.args.self.now.send_failed
    c.args.self.now.lost c.in-Item.ensures.reads c.in-Item.ensures.failed
    (sym (or_none c.args.self.now.read_failed)) stands.peer.faults stands.marked)
    stands
    (read_gives s (g.L.ByteLink.start c.args.self.now.client.link)
    (g.L.ByteLink.start c.read_response_task.new.self.link)
    (g.L.ByteLink.state c.args.self.now.client.link)
    (g.L.ByteLink.state c.read_response_task.new.self.link) c.args.self.now.client
    c.read_response_task.new.self c.args.self.now.lost q c.in-Item.task
    c.read_response_task.ensures.start
    (ap (λ (k : H1Client _). k.request) c.read_response_task.ensures.same)
    (ap (λ (k : H1Client _). k.asked) c.read_response_task.ensures.same)
    c.in-Item.ensures.reads c.in-Item.ensures.failed stands.peer)

-- it is cut as it came
pub returns-in-Item-clause-cuts : goal.returns-in-Item-clause-cuts
returns-in-Item-clause-cuts g c =
    cuts_item _ _ _ _ c.args.self.now.client.response c.read_response_task.new.self.response
    c.in-Item.task c.in-Item.ensures.reads

-- the link gave bytes
pub returns-in-More-clause-goes : goal.returns-in-More-clause-goes
returns-in-More-clause-goes g c = λ s q stands.
    side_reads s _ _ _ _ c.args.self.now c.read_response_task.new.self _ _ q took.More
    c.read_response_task.ensures.start
    (ap (λ (k : H1Client _). k.request) c.read_response_task.ensures.same)
    (ap (λ (k : H1Client _). k.asked) c.read_response_task.ensures.same)
    c.in-More.ensures.reads refl (c.in-More.ensures.ends refl) c.in-More.ensures.failed
    (sym (or_none c.args.self.now.read_failed))
    (λ calm still. calm_same c.args.self.now.told _ _ _ took.More c.in-More.ensures.failed refl refl
    calm still)
    stands

-- the link gave bytes
pub returns-in-More-clause-gives : goal.returns-in-More-clause-gives
returns-in-More-clause-gives g c = λ s q stands unended is.
    more_gave s (g.L.ByteLink.start c.args.self.now.client.link)
    (g.L.ByteLink.state c.args.self.now.client.link)
    (g.L.ByteLink.state c.read_response_task.new.self.link) c.args.self.now.client
    c.read_response_task.new.self c.args.self.now.lost q
    c.in-More.ensures.reads stands.peer

-- before the end was handed on the response has not ended
pub returns-in-End-clause-gives : goal.returns-in-End-clause-gives
returns-in-End-clause-gives g c = λ s q stands unended is.
    let ends = end_read s (g.L.ByteLink.start c.args.self.now.client.link)
    (g.L.ByteLink.state c.args.self.now.client.link)
    (g.L.ByteLink.state c.read_response_task.new.self.link) c.args.self.now.client
    c.read_response_task.new.self c.args.self.now.lost q
    c.in-End.ensures.reads stands.peer in
    let wrong = sym unended ∙ ends in
    absurd (cc)

-- the response had ended
pub returns-in-End-clause-goes : goal.returns-in-End-clause-goes
returns-in-End-clause-goes g c = λ s q stands.
    side_reads s _ _ _ _ c.args.self.now c.read_response_task.new.self _ _ q took.End
    c.read_response_task.ensures.start
    (ap (λ (k : H1Client _). k.request) c.read_response_task.ensures.same)
    (ap (λ (k : H1Client _). k.asked) c.read_response_task.ensures.same)
    c.in-End.ensures.reads refl (c.in-End.ensures.ends refl) c.in-End.ensures.failed
    (sym (or_none c.args.self.now.read_failed))
    (λ calm still. calm_same c.args.self.now.told _ _ _ took.End c.in-End.ensures.failed refl refl
    calm still)
    stands

-- the link had nothing
pub returns-in-Waited-clause-goes : goal.returns-in-Waited-clause-goes
returns-in-Waited-clause-goes g c = λ s q stands.
    side_reads s _ _ _ _ c.args.self.now c.read_response_task.new.self _ _ q
    (took.Waited c.in-Waited.pause) c.read_response_task.ensures.start
    (ap (λ (k : H1Client _). k.request) c.read_response_task.ensures.same)
    (ap (λ (k : H1Client _). k.asked) c.read_response_task.ensures.same)
    c.in-Waited.ensures.reads refl (c.in-Waited.ensures.ends refl) c.in-Waited.ensures.failed
    (sym (or_none c.args.self.now.read_failed))
    (λ calm still. calm_paused c.args.self.now.told _ _ c.in-Waited.pause
    c.in-Waited.ensures.failed calm (sym (ap (λ t. t.errors) c.paused-self.ensures) ∙ still))
    stands

-- the read failed
pub returns-in-Failed-clause-goes : goal.returns-in-Failed-clause-goes
returns-in-Failed-clause-goes g c = λ s q stands.
    side_reads s _ _ _ _ c.args.self.now c.read_response_task.new.self _ _ q
    (took.Failed c.in-Failed.why) c.read_response_task.ensures.start
    (ap (λ (k : H1Client _). k.request) c.read_response_task.ensures.same)
    (ap (λ (k : H1Client _). k.asked) c.read_response_task.ensures.same)
    c.in-Failed.ensures.reads refl (c.in-Failed.ensures.ends refl) c.in-Failed.ensures.failed
    (c.either-self.ensures
    ∙ ap (λ (b : Bool). c.args.self.now.read_failed || b)
    (c.is_error.ensures ∙ sym (same_error c.in-Failed.why)))
    (λ calm still. calm_failed c.args.self.now.told _ _ c.in-Failed.why
    c.in-Failed.ensures.failed calm (sym (ap (λ t. t.errors) c.failed-self.ensures)
    ∙ still)) stands

-- the link gave bytes, and no task
pub returns-in-More-clause-cuts : goal.returns-in-More-clause-cuts
returns-in-More-clause-cuts g c =
    cuts_none _ _ _ _ c.args.self.now.client.response c.read_response_task.new.self.response
    took.More took.More c.in-More.ensures.reads refl

-- the response had ended
pub returns-in-End-clause-cuts : goal.returns-in-End-clause-cuts
returns-in-End-clause-cuts g c =
    cuts_none _ _ _ _ c.args.self.now.client.response c.read_response_task.new.self.response
    took.End took.More c.in-End.ensures.reads refl

-- the link had nothing
pub returns-in-Waited-clause-cuts : goal.returns-in-Waited-clause-cuts
returns-in-Waited-clause-cuts g c =
    cuts_none _ _ _ _ c.args.self.now.client.response c.read_response_task.new.self.response
    (took.Waited c.in-Waited.pause) (took.Waited c.in-Waited.pause) c.in-Waited.ensures.reads refl

-- the read failed
pub returns-in-Failed-clause-cuts : goal.returns-in-Failed-clause-cuts
returns-in-Failed-clause-cuts g c =
    cuts_none _ _ _ _ c.args.self.now.client.response c.read_response_task.new.self.response
    (took.Failed c.in-Failed.why) (took.Failed c.in-Failed.why) c.in-Failed.ensures.reads refl

-- a task that came asked the link once at most
pub returns-in-Item-clause-asks : goal.returns-in-Item-clause-asks
returns-in-Item-clause-asks g c =
    peer_may (g.L.ByteLink.state c.args.self.now.client.link)
    (g.L.ByteLink.state c.read_response_task.new.self.link) _ _ c.args.self.now.client.response
    c.read_response_task.new.self.response (took.Item c.in-Item.task) c.in-Item.ensures.reads

-- and a read that brought none
pub returns-in-More-clause-asks : goal.returns-in-More-clause-asks
returns-in-More-clause-asks g c =
    peer_may (g.L.ByteLink.state c.args.self.now.client.link)
    (g.L.ByteLink.state c.read_response_task.new.self.link) _ _ c.args.self.now.client.response
    c.read_response_task.new.self.response took.More c.in-More.ensures.reads

-- and one behind the end
pub returns-in-End-clause-asks : goal.returns-in-End-clause-asks
returns-in-End-clause-asks g c =
    peer_may (g.L.ByteLink.state c.args.self.now.client.link)
    (g.L.ByteLink.state c.read_response_task.new.self.link) _ _ c.args.self.now.client.response
    c.read_response_task.new.self.response took.End c.in-End.ensures.reads

-- and one that failed
pub returns-in-Failed-clause-asks : goal.returns-in-Failed-clause-asks
returns-in-Failed-clause-asks g c =
    peer_may (g.L.ByteLink.state c.args.self.now.client.link)
    (g.L.ByteLink.state c.read_response_task.new.self.link) _ _ c.args.self.now.client.response
    c.read_response_task.new.self.response (took.Failed c.in-Failed.why) c.in-Failed.ensures.reads

-- one that waits asked it, or it is silent
pub returns-in-Waited-clause-asks : goal.returns-in-Waited-clause-asks
returns-in-Waited-clause-asks g c =
    peer_waits (g.L.ByteLink.state c.args.self.now.client.link)
    (g.L.ByteLink.state c.read_response_task.new.self.link) c.in-Waited.pause
    (took.Waited c.in-Waited.pause) refl c.in-Waited.ensures.used c.in-Waited.ensures.silent
