-- How an exchange ends: both directions were relayed, or one side answers for the error.
--
--   finished_of   from SoFar and Finishes: IsFinished, or IsOverEarly
--   fails_with    from SoFar and the reason of an error: FailsWith
use Rattle.std.proofs.Common.{◌≡◌, ℕ, Bool, true, false, not, ◌==◌, ◌⊎◌, List, [], ◌∷◌, ◌++◌, length, drop, refl, sym, ap, subst, ◌∙◌, append-nil, append_assoc, inl, inr, Option, Some, None, arith}
use Rattle.std.specs.Prelude.{◌||◌, ◌&&◌, ◌↔◌, IsTrue, is_some, is_none}
use Rattle.std.specs.List.{list_any}
use Rattle.std.proofs.lemmas.Bool.Decides.{nat_tests}
use Rattle.relay_tasks.specs.declared.error.Error.{Error}
use Rattle.relay_tasks.specs.declared.fault.Fault.{Fault}
use Rattle.relay_tasks.specs.declared.task.HttpTask.{HttpTask}
use Rattle.relay_tasks.specs.declared.task.HttpTask.TheVariants as task
use Rattle.relay_tasks.specs.Head.{RequestHead}
use Rattle.relay_tasks.specs.Task.{is_end}
use Rattle.relay_links.specs.Count.{Rose}
use Rattle.relay_links.specs.Link.{LinkState, LinkStart}
use Rattle.relay_h1.specs.Body.{Body, ended_text}
use Rattle.relay_h1.specs.Tasks.{Tasks, ended}
use Rattle.relay_peer.specs.H1Client.{may_keep_client}
use Rattle.relay_peer.specs.ResponseReading.{says, may_keep_reading}
use Rattle.relay_peer.specs.ResponseReading as reading
use Rattle.relay_peer.specs.RequestWriting.{Sent, Stands, sent_wire, may_keep_writing, short_request}
use Rattle.relay_session.specs.Response.{Holds, IsOpen, is_over, pending}
use Rattle.relay_session.specs.declared.task_text.Place.TheVariants as place
use Rattle.relay_session.specs.declared.writing.Outgoing.TheVariants as outgoing
use Rattle.relay_session.specs.Asked.{request_of}
use Rattle.relay_session.specs.Reading.{is_body_done, IsWhole}
use Rattle.relay_session.specs.declared.task_text.Request.{Request}
use Rattle.relay_session.specs.TaskWire.{first_refusal, or_later, refusal, wire}
use Rattle.relay_session.proofs.WireSteps.{first_refusal-append}
use Rattle.relay_core.specs.Moves.{SoFar, Finishes, HasReason, Refused, Unended}
use Rattle.relay_core.specs.Table as core
use Rattle.relay_links.specs.declared.link.UpKind.{UpKind}
use Rattle.relay_core.proofs.BoolLemmas.{and_right, and_both, or_left, clash, decide, not_false}
use Rattle.relay_core.proofs.TaskLemmas.{any_left}
use Rattle.relay_core.specs.Past.{Origin, DownPast, UpPast}
use Rattle.relay_core.specs.declared.duplex.Duplex.{Duplex}
use Rattle.relay_peer.specs.Body.{IsFrontOf, body_of, sent_as}
use Rattle.relay_sides.specs.Client as client
use Rattle.relay_sides.specs.Client.{AllPass, ClientBlames, ClientRefuses, CannotEnd, given_to, queued}
use Rattle.relay_peer.specs.Faults as faults
use Rattle.relay_sides.specs.Filtered.{AreHeads, stops_for_error}
use Rattle.relay_sides.specs.Filtered as filtered
use Rattle.relay_peer.specs.Peer.{IsPeer, AreTasks, PeerBlames, IsOnlyFault, IsWriteError, told_of}
use Rattle.relay_peer.specs.Peer as peer
use Rattle.relay_sides.specs.declared.client_side.ClientSide.{ClientSide}
use Rattle.relay_sides.specs.declared.filtered.Filtered.{Filtered}
use Rattle.relay_peer.specs.declared.peer_side.PeerSide.{PeerSide}
use Rattle.relay_core.specs.declared.told.Told.{Told}
use Rattle.relay_sides.proofs.ClientPast.{open_is_whole}
use Rattle.relay_sides.proofs.ClientTasks.{plain-append}
use Rattle.relay_sides.proofs.FilterLemmas.{inside_of}
use Rattle.relay_attempt.specs.Agrees.{AsksAlike}
use Rattle.relay_attempt.specs.Exchange.{DownHolds, UpHolds, Blames, BlamesInside, down_state, core_of, IsFinished, IsOverEarly, FailsWith}
use Rattle.relay_exchange.specs.Exchange.{may_keep_at}
use Rattle.relay_attempt.specs.Head.{link_of, may_keep}
use Rattle.relay_exchange.specs.declared.exchange.Stage.{Stage}
use Rattle.relay_exchange.specs.declared.exchange.Stage.TheVariants as stage
use Rattle.relay_attempt.specs.declared.h1_exchange.H1Exchange.{H1Exchange}
use Rattle.relay_attempt.specs.Order.{FailsFor, SendsWhole, SendsShort, IsRelayed, EndsEarly, HasEnded, IsInOrder, Leaves, MayServe}
use Rattle.relay_attempt.specs.Attempt.{DownHalf, IsAttempt, UpHalf}
use Rattle.relay_attempt.specs.Order as order
use Rattle.relay_attempt.proofs.SentLemmas.{IsWritten, stays_over}
use Rattle.relay_attempt.proofs.OrderLemmas.{passed_by, answers_own, text_written, tasks_own, batched_front, handed_any, headed, heads_withheld, refused_for, over_by_end, ended_said, attempt_so_far, cut_queued, front_pass, order_cut, order_so_far, IsCut}
use Rattle.relay_attempt.proofs.EarlyLemmas.{kept_ended}
use Rattle.relay_attempt.proofs.WriterLemmas.{IsWriters, client_apart, head_apart, link_apart, peer_apart, refused_is}
use Rattle.relay_attempt.proofs.FitLemmas.{over_has_end}
use Rattle.relay_attempt.proofs.KeepLemmas.{kept_parts, kept_unfailed, sent_whole, read_whole, over_ends}
use Rattle.relay_attempt.proofs.ServeLemmas.{never_refused_short, sends_short, ended_stands, kept_writing, kept_reading, all_keep}
use Rattle.relay_attempt.proofs.ShortLemmas.{short_or_whole}

-- what is not awaited is empty
none_waits : (waits : List ℕ) → not (length waits == 0) ≡ false → waits ≡ []
none_waits [] none = refl
none_waits (one ∷ waits) none =
    let some : (length (one ∷ waits) == 0) ≡ false = grind (arith, nat_tests) in
    let wrong = rw some at none in
    absurd (cc)

-- nothing is pending where nothing kept the side from sending: all was sent
none_unsent : (waits : List ℕ) (sends : Option Error) → sends ≡ None
    → not (length waits == 0) && is_none sends ≡ false → waits ≡ []
none_unsent waits None none still = none_waits waits (and_true _ still)
  where
    and_true : (b : Bool) → b && true ≡ false → b ≡ false
    and_true true wrong = wrong
    and_true false still = refl
none_unsent waits (Some e) none still = absurd (cc)

-- neither of two stands: nothing waits, and no fault is kept
neither : (waits : Bool) (kept : Option Fault) → waits || is_some kept ≡ false
    → (waits ≡ false) × (kept ≡ None)
neither false None none = (refl, refl)
neither false (Some fault) none = absurd (cc)
neither true kept none = absurd (cc)

-- one head
same_head : (a b : RequestHead) → Some a ≡ Some b → a ≡ b
same_head a b same = cc

-- the peer's side answers for the error, by the head that is sent
own_blames : {L : Type 0} (state : L → LinkState) (start_at : L → LinkStart) (s : Origin)
    (q : UpPast) (up : Filtered (PeerSide L)) → UpHolds state start_at up s q → (e : Error)
    → BlamesInside state start_at up.inner s q e
    → PeerBlames (start_at up.inner.client.link) (state up.inner.client.link) s.sent s.asked q e
own_blames state start_at s q up h e blames =
    let u = h.holds.peer in
    subst (λ (a : RequestHead).
    PeerBlames (start_at up.inner.client.link) (state up.inner.client.link) a s.asked q e)
    (same_head blames.0 u.head (sym blames.1 ∙ u.is_head) ∙ u.own) blames.2

-- why the exchange failed with that error, and the session holds what was queued
record FailsHere {L : Type 0} (state : L → LinkState) (start_at : L → LinkStart)
    (s : Origin) (p : DownPast) (q : UpPast) (link : LinkState) (down : ClientSide)
    (up : Filtered (PeerSide L)) (e : Error) : Type 0 where
  why : FailsFor s (passed_by p q) link (state up.inner.client.link)
      (start_at up.inner.client.link) e
  holds : Holds down.session.writing (order.queued_in (order.order_of why)) p.written

module _ {L : Type 0} (state : L → LinkState) (start_at : L → LinkStart)
    (s : Origin) (p : DownPast) (q : UpPast) (link : LinkState) (ahead : List ℕ)
    (down : ClientSide) (up : Filtered (PeerSide L)) (duplex : Duplex)
    (so_far : SoFar (DownHolds link ahead down s) (UpHolds state start_at up s)
    (Blames state start_at up s) (core_of state start_at duplex down up) p q)
    (passes : AllPass s (queued p))
  where
    -- what passed is in order
    abbrev in_order : IsInOrder s (passed_by p q) (state up.inner.client.link).ended
    in_order = order_so_far state start_at s p q link ahead down up duplex so_far passes

    -- what was written
    abbrev text : IsWritten down.session.writing (queued p) p.written
    text = text_written s p link ahead down.session so_far.down.passed.client

    -- the past of the peer's side, over its link
    abbrev peer_holds : IsPeer s (start_at up.inner.client.link) (state up.inner.client.link)
        up.inner.client up.inner.lost (inside_of q (so_far.up.given ++ so_far.up.withheld))
    peer_holds = so_far.up.holds.peer

    -- the tasks that came
    abbrev tasks_are : AreTasks s.sent.method s.asked (state up.inner.client.link).ended q.got
        (so_far.up.given ++ so_far.up.withheld) up.inner.client.response
    tasks_are = tasks_own s (start_at up.inner.client.link) (state up.inner.client.link) up q
        so_far.up

    -- those that were withheld are heads
    heads_here : AreHeads so_far.up.withheld
    heads_here =
        heads_withheld s (start_at up.inner.client.link) (state up.inner.client.link) up q so_far.up

    -- the tasks that were queued are a front of those that were handed on
    abbrev front : IsFrontOf p.batched q.read
    front = batched_front p q.read _ _ _ _ so_far.down.passed.plain so_far.responses

    -- with an end among the tasks, or where the response is done, the response is over behind them
    over_behind : (list_any is_end p.batched ≡ true) ⊎ (down.done ≡ true)
        → is_over (wire (request_of s.head) place.NoHead p.batched).place ≡ true
    over_behind (inl ends) =
        over_by_end s (state up.inner.client.link).ended q.got q.read in_order.are_of
        (headed s (start_at up.inner.client.link) (state up.inner.client.link) up q so_far.up)
        p.batched front (front_pass (request_of s.head) p.batched p.closing passes) ends
    over_behind (inr done) =
        subst (λ (r : Request). is_over (wire r place.NoHead p.batched).place ≡ true)
        (answers_own s p link ahead down.session so_far.down.passed.client)
        (so_far.down.passed.over done)

    -- the response has come whole, where its end was read
    whole_by : list_any is_end q.read ≡ true
        → (n : ℕ) × Tasks s.sent.method s.asked q.got (state up.inner.client.link).ended
        (says (told_of in_order.are_of.given) (ended n))
    whole_by ends =
        in_order.are_of.whole
        (sym (ap (list_any is_end) in_order.are_of.are
        ∙ handed_any s.sent.method in_order.are_of.given) ∙ ends)

    -- and it is over behind all that was queued
    over_by : (list_any is_end p.batched ≡ true) ⊎ (down.done ≡ true)
        → is_over (order.text_of in_order).place ≡ true
    over_by why =
        stays_over (request_of s.head) place.NoHead p.batched p.closing (over_behind why)

    -- the text of what was queued answers the request with its own head
    text_own : (wire down.session.writing.request place.NoHead (queued p)).text
        ≡ (order.text_of in_order).text
    text_own =
        ap (λ (r : Request). (wire r place.NoHead (queued p)).text)
        (answers_own s p link ahead down.session so_far.down.passed.client)

    -- nothing waits, and no fault is kept: all was written
    written_all :
        not (length (pending down.session.writing.output) == 0) || is_some down.broken ≡ false
        → p.written ≡ (order.text_of in_order).text
    written_all none =
        let still = neither _ down.broken none in
        on (text.all (none_waits (pending down.session.writing.output) still.0))
        (so_far.down.passed.unbroken still.1) ∙ text_own
      where
        on : (p.written ≡ (wire down.session.writing.request place.NoHead (queued p)).text)
            ⊎ ((fault : Fault) × (down.session.writing.output ≡ outgoing.Broken fault))
            → IsOpen down.session.writing.output
            → p.written ≡ (wire down.session.writing.request place.NoHead (queued p)).text
        on (inl all) is = all
        on (inr broken) is =
            absurd (open_is_whole down.session.writing.output is.0 broken.0 is.1 broken.1)

    -- where no send error is kept nothing is left to be sent
    none_left : duplex.send_error ≡ None → Finishes (core_of state start_at duplex down up) p q
        → up.inner.client.request.unsent ≡ []
    none_left none finishes =
        none_unsent up.inner.client.request.unsent up.inner.send_failed
        (sym so_far.marks.sends ∙ none) (finishes.sent none)

    -- and the request was sent whole
    sent_all : duplex.send_error ≡ None → Finishes (core_of state start_at duplex down up) p q
        → q.sent ≡ sent_wire (sent_as s.sent p.put)
    sent_all none finishes =
        sym (append-nil q.sent)
        ∙ ap (λ (l : List ℕ). q.sent ++ l)
        (sym (none_left none finishes))
        ∙ so_far.up.holds.peer.so_far.text
        ∙ ap sent_wire (so_far.up.holds.peer.queued.unlost (finishes.unlost none))
        ∙ ap (λ (h : RequestHead). sent_wire (sent_as h q.taken)) so_far.up.holds.peer.own
        ∙ ap (λ (l : List HttpTask). sent_wire (sent_as s.sent l)) (finishes.taken none)

    -- and so did its body
    sends_whole : duplex.send_error ≡ None → Finishes (core_of state start_at duplex down up) p q
        → SendsWhole s (passed_by p q) (state up.inner.client.link).ended
        in_order
    sends_whole none finishes =
        let c = so_far.down.passed.client in
        let done = finishes.request_ended none in
        let all = ended_said (given_to s p) c.body ahead c.head c.framing c.len (c.told_whole done)
        c.has in
        record {
          n = all.0;
          body = subst (λ (l : List ℕ).
              Body c.framing (drop c.len (given_to s p)) (ended_text l all.0)) (sym c.joined) all.1;
          ended = c.whole done;
          sent = sent_all none finishes;
        }

    -- where both heads ask alike an end is among the tasks that were handed on, where the response
    -- is over behind its batches
    read_ends : AsksAlike s.head s.sent → (list_any is_end p.batched ≡ true) ⊎ (down.done ≡ true)
        → list_any is_end q.read ≡ true
    read_ends alike (inl ends) =
        ap (list_any is_end) (sym front.joined) ∙ any_left is_end p.batched front.rest ends
    read_ends alike (inr done) =
        ap (list_any is_end) in_order.are_of.are
        ∙ handed_any s.sent.method in_order.are_of.given
        ∙ over_has_end s.head s.sent.method alike s.asked
        (state up.inner.client.link).ended q.got q.read
        in_order.are_of so_far.up.withheld up.inner.client.response tasks_are heads_here p.batched
        front.rest (sym front.joined) (over_behind (inr done))

    -- where the end of the response was read no read of the peer failed
    unread : list_any is_end q.read ≡ true → up.inner.read_failed ≡ false
    unread ends =
        or_left up.inner.read_failed (stops_for_error up.stopped) (so_far.marks.reads (inr ends))

    -- and where no send error is kept no call of the peer's client did
    calm : duplex.send_error ≡ None → list_any is_end q.read ≡ true
        → up.inner.client.failed ≡ false
    calm none ends =
        so_far.up.holds.marked.calm (unread ends) (sym so_far.marks.sends ∙ none)

    -- a request whose error says that it ends short does
    ends_short : (e : Error) → Blames state start_at up s q e → e ≡ short_request
        → SendsShort s (passed_by p q) (state up.inner.client.link).ended in_order
    ends_short e (filtered.BlamesOver.by_inner blames) short =
        sends_short s (passed_by p q) (state up.inner.client.link).ended
        (state up.inner.client.link) (start_at up.inner.client.link) in_order q.lost e
        (own_blames state start_at s q up so_far.up e blames) short
    ends_short e (filtered.BlamesOver.by_refusal is) short =
        absurd (never_refused_short s.sent.method s.asked q.got e
        (refused_for s (start_at up.inner.client.link) (state up.inner.client.link) up q so_far.up e
        is) short)

    -- a send error that is kept is that of a write, or the request ends short
    kept_error : (e : Error) → duplex.send_error ≡ Some e
        → IsWriteError (start_at up.inner.client.link) (state up.inner.client.link)
        up.inner.read_failed e
        ⊎ SendsShort s (passed_by p q) (state up.inner.client.link).ended in_order
    kept_error e some =
        elim (so_far.up.holds.marked.named e (sym so_far.marks.sends ∙ some)) [
          | inl written ↦ inl written
          | inr short ↦ inr (ends_short e (so_far.send_error e some) short)
        ]

    -- where the end of the response was read, that write is the one call of the link that failed
    send_error : list_any is_end q.read ≡ true → (e : Error) → duplex.send_error ≡ Some e
        → IsOnlyFault (start_at up.inner.client.link) (state up.inner.client.link) e
        ⊎ SendsShort s (passed_by p q) (state up.inner.client.link).ended in_order
    send_error ends e some =
        subst
        (λ (b : Bool).
        IsWriteError (start_at up.inner.client.link) (state up.inner.client.link) b e
        ⊎ SendsShort s (passed_by p q) (state up.inner.client.link).ended in_order)
        (unread ends) (kept_error e some)

    -- the peer's side answers for it
    write_blamed : (e : Error)
        → IsOnlyFault (start_at up.inner.client.link) (state up.inner.client.link) e
        → PeerBlames (start_at up.inner.client.link) (state up.inner.client.link) s.sent s.asked
        (order.up_past in_order q.lost) e
    write_blamed e w =
        peer.PeerBlames.link_failed w.fault w.is w.rose
        (faults.HasAnswered.on_write w.kind [] [] w.told)

    -- or the peer's side answers for the error that is kept
    request_by : (error : Option Error) → duplex.send_error ≡ error
        → Finishes (core_of state start_at duplex down up) p q → list_any is_end q.read ≡ true
        → (SendsWhole s (passed_by p q) (state up.inner.client.link).ended in_order
        × ((state up.inner.client.link).faults ≡ (start_at up.inner.client.link).faults))
        ⊎ (((e : Error) × (lost : Bool)
        × PeerBlames (start_at up.inner.client.link) (state up.inner.client.link) s.sent s.asked
        (order.up_past in_order lost) e
        × IsOnlyFault (start_at up.inner.client.link) (state up.inner.client.link) e)
        ⊎ SendsShort s (passed_by p q) (state up.inner.client.link).ended in_order)
    request_by None none finishes ends =
        inl (sends_whole none finishes, peer_holds.calm (calm none ends))
    request_by (Some e) some finishes ends = elim (send_error ends e some) [
      | inl written ↦ inr (inl (e, q.lost, write_blamed e written, written))
      | inr short ↦ inr (inr short)
    ]

    -- both directions were relayed, where the end of the response was read
    abbrev relayed_of : Finishes (core_of state start_at duplex down up) p q
        → list_any is_end q.read ≡ true
        → IsRelayed s (passed_by p q) (state up.inner.client.link) (start_at up.inner.client.link)
    relayed_of finishes ends =
        let all = whole_by ends in
        record {
          order = in_order;
          n = all.0;
          whole = all.1;
          ended = ends;
          over = over_by finishes.ended;
          written = written_all finishes.written;
          request = request_by duplex.send_error refl finishes ends;
          reads = so_far.up.holds.marked.reads (unread ends);
        }

    -- how far the request was sent, whether or not the end of the response was read
    sent_by : (error : Option Error) → duplex.send_error ≡ error
        → Finishes (core_of state start_at duplex down up) p q
        → SendsWhole s (passed_by p q) (state up.inner.client.link).ended in_order
        ⊎ (((e : Error) × (read_failed : Bool)
        × IsWriteError (start_at up.inner.client.link) (state up.inner.client.link) read_failed e)
        ⊎ SendsShort s (passed_by p q) (state up.inner.client.link).ended in_order)
    sent_by None none finishes = inl (sends_whole none finishes)
    sent_by (Some e) some finishes = elim (kept_error e some) [
      | inl written ↦ inr (inl (e, up.inner.read_failed, written))
      | inr short ↦ inr (inr short)
    ]

    -- where its end was not read the peer's client does not keep its link
    pub unkept_early : Finishes (core_of state start_at duplex down up) p q
        → list_any is_end q.read ≡ false → may_keep_client up.inner.client ≡ true → ⊥
    unkept_early finishes none kept =
        clash (list_any is_end q.read)
        (ap (list_any is_end) in_order.are_of.are
        ∙ handed_any s.sent.method in_order.are_of.given
        ∙ kept_ended (request_of s.head) s.sent.method s.asked
        (state up.inner.client.link).ended q.got so_far.up.given so_far.up.withheld up.inner.client
        tasks_are heads_here in_order.are_of.follow
        (subst
        (λ (l : List HttpTask). is_over (wire (request_of s.head) place.NoHead l).place ≡ true)
        (front.joined ∙ in_order.are_of.are)
        (stays_over (request_of s.head) place.NoHead p.batched front.rest
        (over_behind finishes.ended))) kept)
        none

    -- the response was over early, where its end was not read
    abbrev early_of : Finishes (core_of state start_at duplex down up) p q
        → list_any is_end q.read ≡ false
        → EndsEarly s (passed_by p q) (state up.inner.client.link) (start_at up.inner.client.link)
    early_of finishes none = record {
      order = in_order;
      open_still = none;
      differs = λ alike. clash (list_any is_end q.read) (read_ends alike finishes.ended) none;
      over = over_by finishes.ended;
      written = written_all finishes.written;
      request = sent_by duplex.send_error refl finishes;
    }

    -- where the request was sent whole, and without a fault, no send error is kept
    unsent : list_any is_end q.read ≡ true
        → MayServe s (passed_by p q) (state up.inner.client.link).ended in_order
        → (error : Option Error) → duplex.send_error ≡ error
        → ¬ (Rose (start_at up.inner.client.link).faults (state up.inner.client.link).faults)
        → duplex.send_error ≡ None
    unsent ends serves None is faultless = is
    unsent ends serves (Some e) is faultless = elim (send_error ends e is) [
      | inl written ↦ absurd (faultless written.rose)
      | inr short ↦
          absurd (short_or_whole s (passed_by p q) (state up.inner.client.link).ended in_order
          short serves)
    ]

    -- a link that may serve another request is kept
    pub keeps_of : Finishes (core_of state start_at duplex down up) p q
        → list_any is_end q.read ≡ true
        → MayServe s (passed_by p q) (state up.inner.client.link).ended in_order
        → ¬ (Rose (start_at up.inner.client.link).faults (state up.inner.client.link).faults)
        → core.may_keep duplex.kind duplex && may_keep_client up.inner.client ≡ true
    keeps_of finishes ends serves faultless =
        let none = unsent ends serves duplex.send_error refl faultless in
        let u = peer_holds in
        let stands = subst (λ (x : Sent). Stands x up.inner.client.request.request)
        (u.queued.unlost (finishes.unlost none)
        ∙ ap (λ (h : RequestHead). sent_as h q.taken) u.own
        ∙ ap (λ (ts : List HttpTask). sent_as s.sent ts) (finishes.taken none)) u.so_far.stands in
        let whole = ended_stands s.sent p.put up.inner.client.request.request stands
        (so_far.down.passed.client.whole (finishes.request_ended none)) in
        let over : reading.is_over up.inner.client.response.place ≡ true =
        sym tasks_are.ended
        ∙ any_left is_end so_far.up.given so_far.up.withheld
        (sym (handed_any s.sent.method so_far.up.given)
        ∙ ap (list_any is_end) (sym in_order.are_of.are)
        ∙ ends) in
        and_both (core.may_keep duplex.kind duplex) _
        (ap (λ (k : UpKind). core.may_keep k duplex) so_far.marks.kind
        ∙ all_keep (core.is_failed duplex.word) (is_none duplex.send_error)
        duplex.upstream_request_done duplex.upstream_response_done finishes.unfailed
        (ap (λ (e : Option Error). is_none e) none) (finishes.done none) (response_done ends))
        (and_both (may_keep_writing up.inner.client.request) _
        (kept_writing s.sent up.inner.client.request
        (u.is_head ∙ ap (λ (h : RequestHead). Some h) u.own) serves.asks whole
        (none_left none finishes))
        (and_both (may_keep_reading up.inner.client.response) _
        (kept_reading s.sent.method s.asked (state up.inner.client.link).ended q.got
        (told_of in_order.are_of.given) (told_of (so_far.up.given ++ so_far.up.withheld))
        up.inner.client.response.place up.inner.client.response.ahead tasks_are.so_far.at over
        serves.response)
        (not_false up.inner.client.failed (calm none ends))))
      where
        response_done : list_any is_end q.read ≡ true → duplex.upstream_response_done ≡ true
        response_done ends = elim (decide duplex.upstream_response_done) [
          | inl done ↦ done
          | inr goes_on ↦ clash (list_any is_end q.read) ends (so_far.unended goes_on)
        ]

    -- the request has ended exactly where the client's side says so
    request_ends : IsTrue (is_body_done down.session.reading) ↔ HasEnded in_order
    request_ends =
        let c = so_far.down.passed.client in (λ done. c.whole done, λ ended. c.ended ended)

    -- what is ahead of the client then stands behind it
    request_behind : is_body_done down.session.reading ≡ true
        → IsWhole (given_to s p) (body_of p.put) ahead
    request_behind done =
        let c = so_far.down.passed.client in
        subst (λ (l : List ℕ). IsWhole (given_to s p) l ahead) (sym c.joined) (c.told_whole done)

    -- what the client's side leaves of its request, and the peer's side of its response
    pub leaves_of : (keeps : Bool) (n : ℕ)
        → Tasks s.sent.method s.asked q.got (state up.inner.client.link).ended
        (says (told_of in_order.are_of.given) (ended n))
        → (keeps ≡ true → may_keep_client up.inner.client ≡ true)
        → Leaves s (passed_by p q) (state up.inner.client.link).ended in_order ahead
        (is_body_done down.session.reading) up.closes keeps
    leaves_of keeps n whole serves =
        record {
          ended = request_ends;
          behind = request_behind;
          closes = so_far.up.closes;
          serves = λ kept. may_serve (serves kept);
        }
      where
        may_serve : may_keep_client up.inner.client ≡ true
            → MayServe s (passed_by p q) (state up.inner.client.link).ended in_order
        may_serve kept =
            let u = peer_holds in
            let parts = kept_parts up.inner.client kept in
            let sent = sent_whole u.sending q.sent up.inner.client.request s.sent
            (u.is_head ∙ ap (λ (h : RequestHead). Some h) u.own) u.so_far parts.0 in
            record {
              pieces = sent.pieces;
              request = sent.request;
              complete = sent.complete;
              asks = sent.asks;
              response = read_whole s.sent.method s.asked (state up.inner.client.link).ended q.got
                  (told_of so_far.up.given) (told_of (so_far.up.given ++ so_far.up.withheld))
                  up.inner.client.response n tasks_are.so_far parts.1 whole;
            }

    -- the client's side answers for the error
    fails_client : (e : Error) → ClientBlames s p link e
        → FailsHere state start_at s p q link down up e
    fails_client e blames = record {
      why = order.FailsFor.by_client in_order blames;
      holds = so_far.down.passed.client.response;
    }

    -- the peer's side answers for the error
    fails_peer : (e : Error) → Blames state start_at up s q e
        → FailsHere state start_at s p q link down up e
    fails_peer e (filtered.BlamesOver.by_inner blames) = record {
      why = order.FailsFor.by_peer in_order q.lost
          (own_blames state start_at s q up so_far.up e blames);
      holds = so_far.down.passed.client.response;
    }
    fails_peer e (filtered.BlamesOver.by_refusal is) = record {
      why = order.FailsFor.by_refusal in_order
          (refused_for s (start_at up.inner.client.link) (state up.inner.client.link) up q so_far.up
          e is);
      holds = so_far.down.passed.client.response;
    }

    -- a batch is refused as a whole
    fails_batch : (e : Error) (batch rest : List HttpTask) → p.closing ≡ []
        → q.read ≡ p.batched ++ (batch ++ rest)
        → first_refusal (request_of s.head) (wire (request_of s.head) place.NoHead p.batched).place
        batch ≡ Some e → FailsHere state start_at s p q link down up e
    fails_batch e batch rest unasked came refused = record {
      why = order.FailsFor.by_writer in_order batch unasked
          (record { rest = rest; joined = append_assoc p.batched batch rest ∙ sym came })
          (first_refusal-append (request_of s.head) place.NoHead p.batched batch
          ∙ ap (λ (o : Option Error).
          or_later o (first_refusal (request_of s.head)
          (wire (request_of s.head) place.NoHead p.batched).place batch))
          (front_pass (request_of s.head) p.batched p.closing passes) ∙ refused);
      holds = so_far.down.passed.client.response;
    }

    -- the response cannot end where its end was asked for: only where the client's link failed,
    -- since an end is asked for behind one among its tasks, or where the response is over
    never_unended : (e : Error)
        → refusal (request_of s.head) (wire (request_of s.head) place.NoHead (queued p)).place
        task.Done ≡ Some e
        → (list_any is_end p.batched ≡ true) ⊎ (down.done ≡ true) → ⊥
    never_unended e refused asked =
        over_ends (request_of s.head) (wire (request_of s.head) place.NoHead (queued p)).place e
        (over_by asked) refused

-- the client's side told no error, or this one alone
abbrev pub TellsError : Told → Error → Type 0
TellsError told e = (told.errors ≡ 0) ⊎ ((told.errors ≡ 1) × (told.last ≡ Some e))

module _ {L : Type 0} (state : L → LinkState) (start_at : L → LinkStart)
    (s : Origin) (p : DownPast) (q : UpPast) (link : LinkState) (ahead : List ℕ)
    (down : ClientSide) (up : Filtered (PeerSide L)) (duplex : Duplex)
    (so_far : SoFar (DownHolds link ahead down s) (UpHolds state start_at up s)
    (Blames state start_at up s) (core_of state start_at duplex down up) p q)
    (e : Error) (tells : TellsError down.told e)
  where
    -- the exchange failed with the error, for a cause
    abbrev Fails : Type 0
    Fails = FailsHere state start_at s p q link down up e

    -- none of the tasks that were queued is refused, or the first that is is so with the error
    queued_by : AllPass s (queued p)
        ⊎ (first_refusal (request_of s.head) place.NoHead (queued p) ≡ Some e)
    queued_by = elim tells [
      | inl none ↦ inl (so_far.down.tasks.none none)
      | inr one ↦ elim (so_far.down.tasks.one one.0) [
        | inl pass ↦ inl pass
        | inr refused ↦ inr (refused.2 ∙ (sym refused.1 ∙ one.1))
      ]
    ]

    -- so none is where the error is none of the writer's
    none_refused : (IsWriters e → ⊥) → AllPass s (queued p)
    none_refused apart = elim queued_by [
      | inl pass ↦ pass
      | inr refused ↦ absurd (apart (refused_is (request_of s.head) place.NoHead (queued p) e
          (plain-append p.batched p.closing so_far.down.passed.plain so_far.down.passed.plain_end)
          refused))
    ]

    -- the client's side answers for the error
    fails_blamed : ClientBlames s p link e → Fails
    fails_blamed blames =
        fails_client state start_at s p q link ahead down up duplex so_far
        (none_refused (client_apart s p link e blames)) e blames

    -- the peer's side does
    fails_given : Blames state start_at up s q e → Fails
    fails_given (filtered.BlamesOver.by_inner blames) =
        fails_peer state start_at s p q link ahead down up duplex so_far
        (none_refused (peer_apart (start_at up.inner.client.link) (state up.inner.client.link)
        s.sent s.asked q e (own_blames state start_at s q up so_far.up e blames))) e
        (filtered.BlamesOver.by_inner blames)
    fails_given (filtered.BlamesOver.by_refusal is) =
        fails_peer state start_at s p q link ahead down up duplex so_far
        (none_refused (head_apart s.sent.method s.asked q.got e
        (refused_for s (start_at up.inner.client.link) (state up.inner.client.link) up q so_far.up e
        is))) e (filtered.BlamesOver.by_refusal is)

    -- where nothing that was queued is refused, none of the batches is
    batches_pass : AllPass s (queued p) → AllPass s p.batched
    batches_pass pass = front_pass (request_of s.head) p.batched p.closing pass

    -- the last task that was queued is refused
    fails_cut : (first : List HttpTask) (at : HttpTask) → p.closing ≡ []
        → p.batched ≡ first ++ at ∷ []
        → refusal (request_of s.head) (wire (request_of s.head) place.NoHead first).place at
        ≡ Some e
        → AllPass s first → Fails
    fails_cut first at unasked is refused passes = record {
      why = order.FailsFor.by_cut at
          (order_cut s link (state up.inner.client.link) (start_at up.inner.client.link)
          (down_state down) refl attempt first at cut) refl
          (subst (λ (l : List HttpTask). IsFrontOf l q.read) is
          (batched_front p q.read _ _ _ _ so_far.down.passed.plain so_far.responses))
          (first_refusal-append (request_of s.head) place.NoHead first (at ∷ [])
          ∙ ap (λ (o : Option Error).
          or_later o (first_refusal (request_of s.head)
          (wire (request_of s.head) place.NoHead first).place (at ∷ []))) passes
          ∙ ap (λ (o : Option Error). or_later o None) refused);
      holds = subst (λ (l : List HttpTask). Holds down.session.writing l p.written)
          (cut_queued s link (state up.inner.client.link) (start_at up.inner.client.link)
          (down_state down) refl attempt first at cut) so_far.down.passed.client.response;
    }
      where
        attempt : IsAttempt (DownHalf s link down.done)
            (UpHalf s (start_at up.inner.client.link) (state up.inner.client.link))
            (down_state down)
        attempt = attempt_so_far state start_at s p q link ahead down up duplex so_far

        cut : IsCut s link (state up.inner.client.link) (start_at up.inner.client.link)
            (down_state down) refl attempt first at
        cut = record { batched = is; unasked = unasked; passes = passes }

    -- the client's side refuses tasks that the peer gave: its link failed, or a task of them is
    -- refused, since no end was asked for
    fails_tasks : Refused (λ r left e. ClientRefuses s r link down.told left e) false p q e → Fails
    fails_tasks r = on r.refused
      where
        on : ClientRefuses s p link down.told r.left e → Fails
        on (client.ClientRefuses.link_failed fault is rose) =
            fails_client state start_at s p q link ahead down up duplex so_far
            (none_refused (link_apart fault e is)) e
            (client.ClientBlames.link_failed fault is rose.0 (inl rose.1))
        on (client.ClientRefuses.is_cut first at unasked is refused passes) =
            fails_cut first at unasked is refused (elim tells [
              | inl none ↦ front_pass (request_of s.head) first (at ∷ [])
                  (subst (λ (l : List HttpTask). AllPass s l) is
                  (batches_pass (so_far.down.tasks.none none)))
              | inr one ↦ passes one.0
            ])
        on (client.ClientRefuses.is_unfit unasked refused passes) =
            let batches : AllPass s p.batched = elim tells [
              | inl none ↦ batches_pass (so_far.down.tasks.none none)
              | inr one ↦ passes one.0
            ] in
            fails_batch state start_at s p q link ahead down up duplex so_far
            (subst (λ (l : List HttpTask). AllPass s l)
            (sym (ap (λ (l : List HttpTask). p.batched ++ l) unasked ∙ append-nil p.batched))
            batches) e r.left r.rest unasked r.came refused
        on (client.ClientRefuses.behind_the_end some is) =
            let none : length p.closing ≡ 0 = ap (λ (l : List HttpTask). length l) (r.unasked refl)
            in
            absurd (omega (arith, some, none))

    -- the response cannot end where its end was asked for: only where the client's link failed
    fails_ending :
        Unended (λ r e. ClientBlames s r link e ⊎ CannotEnd s r down.told e) (down_state down) p e
        → Fails
    fails_ending u = elim u.why [
      | inl blames ↦ fails_blamed blames
      | inr cannot ↦ absurd (never_unended state start_at s p q link ahead down up duplex so_far
          (elim tells [
            | inl none ↦ so_far.down.tasks.none none
            | inr one ↦ cannot.passes one.0
          ]) e cannot.refused (u.asked refl))
    ]

    -- the error has its cause in what passed
    fails_here :
        HasReason (λ r e. ClientBlames s r link e)
        (λ r left e. ClientRefuses s r link down.told left e)
        (λ r e. ClientBlames s r link e ⊎ CannotEnd s r down.told e) (Blames state start_at up s)
        (down_state down) p q e → Fails
    fails_here (inl blames) = fails_blamed blames
    fails_here (inr (inl blames)) = fails_given blames
    fails_here (inr (inr (inl refused))) = fails_tasks refused
    fails_here (inr (inr (inr unended))) = fails_ending unended

module _ {L : Type 0} (state : L → LinkState) (start_at : L → LinkStart) where
  -- an exchange that finished, and what it leaves
  pub finished_of : (s : Origin) (p : DownPast) (q : UpPast) (link : LinkState) (ahead : List ℕ)
      (x : H1Exchange L) → x.exchange.stage ≡ stage.Bodies
      → SoFar (DownHolds link ahead x.down s) (UpHolds state start_at x.exchange.up s)
      (Blames state start_at x.exchange.up s)
      (core_of state start_at x.exchange.duplex x.down x.exchange.up) p q
      → AllPass s (queued p)
      → Finishes (core_of state start_at x.exchange.duplex x.down x.exchange.up) p q
      → IsFinished state start_at s (passed_by p q) ahead x
      ⊎ IsOverEarly state start_at s (passed_by p q) ahead x
  finished_of s p q link ahead x is f passes finishes =
      elim (decide (list_any is_end q.read)) [
        | inl ends ↦ inl (whole ends)
        | inr none ↦ inr (early none)
      ]
    where
      client_keeps : may_keep x ≡ true → may_keep_client x.exchange.up.inner.client ≡ true
      client_keeps kept = and_right (may_keep_at x.exchange.stage x.exchange.duplex) _ kept

      faultless : may_keep x ≡ true → (state (link_of x)).faults ≡ (start_at (link_of x)).faults
      faultless kept =
          f.up.holds.peer.calm (kept_unfailed x.exchange.up.inner.client (client_keeps kept))

      whole : list_any is_end q.read ≡ true
          → IsFinished state start_at s (passed_by p q) ahead x
      whole ends =
          let relayed = relayed_of state start_at s p q link ahead x.down x.exchange.up
          x.exchange.duplex f passes finishes ends in
          record {
            relayed = relayed;
            answers = answers_own s p link ahead x.down.session f.down.passed.client;
            leaves = leaves_of state start_at s p q link ahead x.down x.exchange.up
                x.exchange.duplex f passes (may_keep x) relayed.n relayed.whole client_keeps;
            faultless = faultless;
            keeps = λ serves calm.
                subst
                (λ (at : Stage).
                may_keep_at at x.exchange.duplex && may_keep_client x.exchange.up.inner.client
                ≡ true)
                (sym is)
                (keeps_of state start_at s p q link ahead x.down x.exchange.up
                x.exchange.duplex f passes finishes ends serves calm);
          }

      early : list_any is_end q.read ≡ false
          → IsOverEarly state start_at s (passed_by p q) ahead x
      early none = record {
        early = early_of state start_at s p q link ahead x.down x.exchange.up
            x.exchange.duplex f passes finishes none;
        answers = answers_own s p link ahead x.down.session f.down.passed.client;
        ended = request_ends state start_at s p q link ahead x.down x.exchange.up
            x.exchange.duplex f passes;
        behind = request_behind state start_at s p q link ahead x.down x.exchange.up
            x.exchange.duplex f passes;
        closes = f.up.closes;
        unkept = elim (decide (may_keep x)) [
          | inl kept ↦ absurd (unkept_early state start_at s p q link ahead x.down
              x.exchange.up x.exchange.duplex f passes finishes none (client_keeps kept))
          | inr dropped ↦ dropped
        ];
      }

  -- an exchange that failed, and the session of its client that this leaves
  pub fails_with : (s : Origin) (p : DownPast) (q : UpPast) (link : LinkState) (ahead : List ℕ)
      (x : H1Exchange L)
      → SoFar (DownHolds link ahead x.down s) (UpHolds state start_at x.exchange.up s)
      (Blames state start_at x.exchange.up s)
      (core_of state start_at x.exchange.duplex x.down x.exchange.up) p q
      → (e : Error) → TellsError x.down.told e
      → HasReason (λ r e. ClientBlames s r link e)
      (λ r left e. ClientRefuses s r link x.down.told left e)
      (λ r e. ClientBlames s r link e ⊎ CannotEnd s r x.down.told e)
      (Blames state start_at x.exchange.up s) (down_state x.down) p q e
      → FailsWith state start_at s (passed_by p q) link ahead x e
  fails_with s p q link ahead x f e tells reason =
      let down = x.down in
      let fails = fails_here state start_at s p q link ahead down x.exchange.up x.exchange.duplex f
      e tells reason in
      record {
        why = fails.why;
        answers = answers_own s p link ahead down.session f.down.passed.client;
        holds = fails.holds;
        broken = f.down.passed.client.broken;
        down = p;
        client = f.down.passed.client;
        came = refl;
      }
