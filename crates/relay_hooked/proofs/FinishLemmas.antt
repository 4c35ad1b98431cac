-- How an exchange behind filters finishes.
--
--   finishes_so   from SoFar and Finishes: IsRelayed or EndsEarly, and what that leaves
use Rattle.std.proofs.Common.{◌≡◌, ℕ, Bool, true, false, not, ◌==◌, ◌⊎◌, List, [], ◌∷◌, ◌++◌, length, refl, sym, ap, subst, ◌∙◌, append-nil, append_assoc, arith, inl, inr, Option, Some, None}
use Rattle.std.specs.Prelude.{◌||◌, ◌&&◌, is_none, is_some}
use Rattle.std.specs.List.{list_any}
use Rattle.std.proofs.lemmas.Bool.Decides.{nat_tests}
use Rattle.relay_tasks.specs.declared.error.Error.{Error}
use Rattle.relay_tasks.specs.declared.fault.Fault.{Fault}
use Rattle.relay_tasks.specs.declared.task.HttpTask.{HttpTask}
use Rattle.relay_tasks.specs.Head.{RequestHead}
use Rattle.relay_tasks.specs.Task.{is_end}
use Rattle.relay_links.specs.Link.{LinkState, LinkStart}
use Rattle.relay_peer.specs.Body.{IsFrontOf, sent_as}
use Rattle.relay_peer.specs.Faults as faults
use Rattle.relay_peer.specs.H1Client.{may_keep_client}
use Rattle.relay_peer.specs.Peer.{AreTasks, IsOnlyFault, IsWriteError, PeerBlames, told_of}
use Rattle.relay_peer.specs.Peer as peer
use Rattle.relay_peer.specs.RequestWriting.{Sent, Stands, may_keep_writing, sent_wire, short_request}
use Rattle.relay_peer.specs.ResponseReading.{keeps_at, may_keep_reading}
use Rattle.relay_peer.specs.ResponseReading as reading
use Rattle.relay_peer.specs.declared.peer_side.PeerSide.{PeerSide}
use Rattle.relay_peer.specs.declared.response_reading.ResponsePlace.{ResponsePlace}
use Rattle.relay_peer.specs.declared.response_reading.ResponsePlace.TheVariants as at
use Rattle.relay_session.specs.Asked.{request_of}
use Rattle.relay_session.specs.Reading.{IsWhole}
use Rattle.relay_session.specs.Response.{Holds, HoldsOn, IsOpen, has_head, is_over, pending}
use Rattle.relay_session.specs.TaskWire.{wire}
use Rattle.relay_session.specs.TaskWire.{Sent as TaskSent}
use Rattle.relay_session.specs.declared.task_text.Place.TheVariants as place
use Rattle.relay_session.specs.declared.task_text.Request.{Request}
use Rattle.relay_session.specs.declared.writing.Outgoing.{Outgoing}
use Rattle.relay_session.specs.declared.writing.Outgoing.TheVariants as outgoing
use Rattle.relay_session.specs.declared.writing.Writing.{Writing}
use Rattle.relay_core.specs.Moves.{EndsLast, Finishes}
use Rattle.relay_core.specs.Past.{Origin, DownPast, UpPast}
use Rattle.relay_core.specs.declared.duplex.Duplex.{Duplex}
use Rattle.relay_core.proofs.BoolLemmas.{and_both, and_left, and_right, clash, decide, not_false}
use Rattle.relay_core.proofs.TaskLemmas.{any_left}
use Rattle.relay_sides.specs.Client.{AllPass}
use Rattle.relay_sides.specs.Filtered.{is_head_request}
use Rattle.relay_sides.proofs.ClientPast.{open_is_whole}
use Rattle.relay_filters.specs.Hooked.{TakesOn, inside}
use Rattle.relay_attempt.proofs.KeepLemmas.{kept_parts, kept_unfailed, read_whole, sent_whole}
use Rattle.relay_attempt.proofs.OrderLemmas.{answers_own, front_pass, text_written}
use Rattle.relay_attempt.proofs.SentLemmas.{IsWritten, stays_over}
use Rattle.relay_hooked.specs.Attempt.{HookedHalf}
use Rattle.relay_hooked.specs.Laws.{GoesSoFar, passed_by}
use Rattle.relay_hooked.specs.Order.{EndsEarly, IsInOrder, IsRelayed, Keeps, Leaves, MayServe, SendsShort, SendsWhole}
use Rattle.relay_hooked.specs.Order as order
use Rattle.relay_attempt.proofs.ServeLemmas.{all_keep, ended_stands, kept_reading, kept_writing}
use Rattle.relay_filters.specs.Request.{ended_by, passed, pieces_in}
use Rattle.relay_core.specs.Table as core
use Rattle.relay_links.specs.declared.link.UpKind.{UpKind}
use Rattle.relay_links.specs.Count.{Rose}
use Rattle.relay_hooked.proofs.PassedLemmas.{passed_ends}
use Rattle.relay_hooked.specs.Sides.{Behind, filtering, hooked_core, hooked_state, keeps_link}
use Rattle.relay_hooked.proofs.HalfLemmas.{hooked_half, own_blames, tasks_came}
use Rattle.relay_hooked.proofs.OrderLemmas.{attempt_so_far, ends_made, first_batched, order_so_far}
use Rattle.relay_hooked.proofs.PlaceLemmas.{ends_over, last_in, last_made}

-- what tasks a session holds say whether they close the connection
held_closes : (response : Writing) (tasks : List HttpTask) (taken : List ℕ)
    → Holds response tasks taken
    → response.closes ≡ (wire response.request place.NoHead tasks).closes
held_closes response tasks taken holds = of response.output holds
  where
    of : (output : Outgoing) → HoldsOn response output tasks taken
        → response.closes ≡ (wire response.request place.NoHead tasks).closes
    of (outgoing.Open queue) text = sym (ap (λ (w : TaskSent). w.closes) text.wire.is)
    of (outgoing.Broken fault) text = sym (ap (λ (w : TaskSent). w.closes) text.1.wire.is)

-- what is not awaited is empty
none_waits : (waits : List ℕ) → not (length waits == 0) ≡ false → waits ≡ []
none_waits [] none = refl
none_waits (one ∷ waits) none =
    let some : (length (one ∷ waits) == 0) ≡ false = grind (arith, nat_tests) in
    let wrong = rw some at none in
    absurd (cc)

-- nothing is pending where nothing kept the side from sending: all was sent
none_unsent : (waits : List ℕ) (sends : Option Error) → sends ≡ None
    → not (length waits == 0) && is_none sends ≡ false → waits ≡ []
none_unsent waits None none still = none_waits waits (and_true _ still)
  where
    and_true : (b : Bool) → b && true ≡ false → b ≡ false
    and_true true wrong = wrong
    and_true false still = refl
none_unsent waits (Some e) none still = absurd (cc)

-- neither of two stands: nothing waits, and no fault is kept
neither : (waits : Bool) (kept : Option Fault) → waits || is_some kept ≡ false
    → (waits ≡ false) × (kept ≡ None)
neither false None none = (refl, refl)
neither false (Some fault) none = absurd (cc)
neither true kept none = absurd (cc)

-- a side that answers with the error of a request that ends short tells of one
sends_short : (s : Origin) (start : LinkStart) (link : LinkState) (q : UpPast) (e : Error)
    → PeerBlames start link s.sent s.asked q e → e ≡ short_request → SendsShort s q.taken
sends_short s start link q e (peer.PeerBlames.link_failed fault is rose answered) same =
    let wrong = ap (λ (x : Error). x.context) (sym is ∙ same) in absurd (cc)
sends_short s start link q e (peer.PeerBlames.is_cut_off told gone is reads) same =
    let wrong = ap (λ (x : Error). x.etype) (sym is ∙ same) in absurd (cc)
sends_short s start link q e
    (peer.PeerBlames.is_broken why closed_then came told is front reads for) same =
    let wrong = ap (λ (x : Error). x.etype) (sym is ∙ same) in absurd (cc)
sends_short s start link q e
    (peer.PeerBlames.is_short_request front pieces first found joined short is) same = record {
      front = front;
      pieces = pieces;
      first = first;
      ended = found;
      joined = joined;
      short = short;
    }

-- a reading that lets its link be kept has come to the end
keeps_over : (now : ResponsePlace) → keeps_at now ≡ true → reading.is_over now ≡ true
keeps_over at.NoHead keeps = absurd (cc)
keeps_over at.Informed keeps = absurd (cc)
keeps_over (at.InBody body) keeps = absurd (cc)
keeps_over (at.Ended kept) keeps = refl

-- an end is the last of the front of tasks of which it is
front_last : (front rest tasks : List HttpTask) → front ++ rest ≡ tasks → EndsLast tasks
    → EndsLast front
front_last front rest tasks joined last = λ first behind same found.
    none_of behind rest
    (last first (behind ++ rest)
    (sym joined ∙ ap (λ (l : List HttpTask). l ++ rest) same ∙ append_assoc first behind rest)
    found)
  where
    none_of : (xs ys : List HttpTask) → xs ++ ys ≡ [] → xs ≡ []
    none_of [] ys none = refl
    none_of (x ∷ xs) ys none = absurd (cc)

module _ {L : Type 0} (state : L → LinkState) (start_at : L → LinkStart)
    (link : LinkState) (ahead : List ℕ) (s : Origin)
    (b : Behind) (up : PeerSide L) (duplex : Duplex) (p : DownPast) (q : UpPast)
    (so_far : GoesSoFar state start_at link ahead s b up duplex p q)
    (passes : AllPass s (so_far.down.passed.queued ++ p.closing))
  where
    -- what passed is in order
    abbrev in_order : IsInOrder (filtering s b) s (passed_by p q) (state up.client.link).ended
    in_order = order_so_far state start_at link ahead s b up duplex p q so_far passes

    -- the client's half
    abbrev half : HookedHalf (filtering s b) s link b.ended b.side.done p
    half = hooked_half link ahead s b p so_far.down

    -- what was written
    abbrev text : IsWritten b.side.session.writing (so_far.down.passed.queued ++ p.closing)
        p.written
    text = text_written s (inside p so_far.down.passed.came so_far.down.passed.queued) link ahead
        b.side.session so_far.down.passed.holds.passed.client

    -- the tasks that passed the filters are a front of those that were read
    front : IsFrontOf p.batched q.read
    front =
        first_batched (filtering s b) s link (state up.client.link) (start_at up.client.link)
        b.ended (hooked_state b) refl
        (attempt_so_far state start_at link ahead s b up duplex p q so_far)

    -- the tasks that came
    tasks_are : AreTasks s.sent.method s.asked (state up.client.link).ended q.got q.read
        up.client.response
    tasks_are = tasks_came s (start_at up.client.link) (state up.client.link) up q so_far.up

    -- the text answers the request with its own head
    text_own : (wire b.side.session.writing.request place.NoHead
        (so_far.down.passed.queued ++ p.closing)).text ≡ (order.text_of in_order).text
    text_own =
        ap (λ (r : Request). (wire r place.NoHead (so_far.down.passed.queued ++ p.closing)).text)
        (answers_own s (inside p so_far.down.passed.came so_far.down.passed.queued) link ahead
        b.side.session so_far.down.passed.holds.passed.client)

    -- nothing waits, and no fault is kept: all was written
    written_all :
        not (length (pending b.side.session.writing.output) == 0) || is_some b.side.broken ≡ false
        → p.written ≡ (order.text_of in_order).text
    written_all none =
        let still = neither _ b.side.broken none in
        on (text.all (none_waits (pending b.side.session.writing.output) still.0))
        (so_far.down.passed.holds.passed.unbroken still.1) ∙ text_own
      where
        on : (p.written
            ≡ (wire b.side.session.writing.request place.NoHead
            (so_far.down.passed.queued ++ p.closing)).text)
            ⊎ ((fault : Fault) × (b.side.session.writing.output ≡ outgoing.Broken fault))
            → IsOpen b.side.session.writing.output
            → p.written
            ≡ (wire b.side.session.writing.request place.NoHead
            (so_far.down.passed.queued ++ p.closing)).text
        on (inl all) is = all
        on (inr broken) is =
            absurd (open_is_whole b.side.session.writing.output is.0 broken.0 is.1 broken.1)

    -- ---- the request

    -- where no send error is kept nothing is left to be sent
    none_left : duplex.send_error ≡ None → Finishes (hooked_core duplex b up) p q
        → up.client.request.unsent ≡ []
    none_left none finishes =
        none_unsent up.client.request.unsent up.send_failed (sym so_far.marks.sends ∙ none)
        (finishes.sent none)

    -- and the request was sent whole
    sent_all : duplex.send_error ≡ None → Finishes (hooked_core duplex b up) p q
        → q.sent ≡ sent_wire (sent_as s.sent p.put)
    sent_all none finishes =
        sym (append-nil q.sent)
        ∙ ap (λ (l : List ℕ). q.sent ++ l) (sym (none_left none finishes))
        ∙ so_far.up.peer.so_far.text
        ∙ ap sent_wire (so_far.up.peer.queued.unlost (finishes.unlost none))
        ∙ ap (λ (h : RequestHead). sent_wire (sent_as h q.taken)) so_far.up.peer.own
        ∙ ap (λ (l : List HttpTask). sent_wire (sent_as s.sent l)) (finishes.taken none)

    -- as the filter left it
    sends_whole : duplex.send_error ≡ None → Finishes (hooked_core duplex b up) p q
        → SendsWhole (filtering s b) s (passed_by p q) (state up.client.link).ended in_order
    sends_whole none finishes = record {
      ended = finishes.request_ended none;
      taken = finishes.taken none;
      sent = sent_all none finishes;
    }

    -- where the end of the response was read no read of the peer failed
    unread : list_any is_end q.read ≡ true → up.read_failed ≡ false
    unread ends = so_far.marks.reads (inr ends)

    -- and where no send error is kept no call of the peer's client did
    calm : duplex.send_error ≡ None → list_any is_end q.read ≡ true → up.client.failed ≡ false
    calm none ends = so_far.up.marked.calm (unread ends) (sym so_far.marks.sends ∙ none)

    -- a send error that is kept is that of a write, or the request ends short
    kept_error : (e : Error) → duplex.send_error ≡ Some e
        → IsWriteError (start_at up.client.link) (state up.client.link) up.read_failed e
        ⊎ SendsShort s q.taken
    kept_error e some =
        elim (so_far.up.marked.named e (sym so_far.marks.sends ∙ some)) [
          | inl written ↦ inl written
          | inr short ↦ inr (sends_short s (start_at up.client.link) (state up.client.link) q e
              (own_blames state start_at s up q so_far.up e (so_far.send_error e some)) short)
        ]

    -- where the end of the response was read, that write is the one call of the link that failed
    send_error : list_any is_end q.read ≡ true → (e : Error) → duplex.send_error ≡ Some e
        → IsOnlyFault (start_at up.client.link) (state up.client.link) e ⊎ SendsShort s q.taken
    send_error ends e some =
        subst
        (λ (b : Bool).
        IsWriteError (start_at up.client.link) (state up.client.link) b e ⊎ SendsShort s q.taken)
        (unread ends) (kept_error e some)

    -- the peer's side answers for it
    write_blamed : (e : Error) → IsOnlyFault (start_at up.client.link) (state up.client.link) e
        → PeerBlames (start_at up.client.link) (state up.client.link) s.sent s.asked
        (order.up_past in_order q.lost) e
    write_blamed e w =
        peer.PeerBlames.link_failed w.fault w.is w.rose
        (faults.HasAnswered.on_write w.kind [] [] w.told)

    -- how the request was sent, where the end of the response was read
    request_by : (error : Option Error) → duplex.send_error ≡ error
        → Finishes (hooked_core duplex b up) p q → list_any is_end q.read ≡ true
        → (SendsWhole (filtering s b) s (passed_by p q) (state up.client.link).ended in_order
        × ((state up.client.link).faults ≡ (start_at up.client.link).faults))
        ⊎ (((e : Error) × (lost : Bool)
        × PeerBlames (start_at up.client.link) (state up.client.link) s.sent s.asked
        (order.up_past in_order lost) e
        × IsOnlyFault (start_at up.client.link) (state up.client.link) e)
        ⊎ SendsShort s q.taken)
    request_by None none finishes ends =
        inl (sends_whole none finishes, so_far.up.peer.calm (calm none ends))
    request_by (Some e) some finishes ends = elim (send_error ends e some) [
      | inl written ↦ inr (inl (e, q.lost, write_blamed e written, written))
      | inr short ↦ inr (inr short)
    ]

    -- how it was sent, whether or not that was read
    sent_by : (error : Option Error) → duplex.send_error ≡ error
        → Finishes (hooked_core duplex b up) p q
        → SendsWhole (filtering s b) s (passed_by p q) (state up.client.link).ended in_order
        ⊎ (((e : Error) × (read_failed : Bool)
        × IsWriteError (start_at up.client.link) (state up.client.link) read_failed e)
        ⊎ SendsShort s q.taken)
    sent_by None none finishes = inl (sends_whole none finishes)
    sent_by (Some e) some finishes = elim (kept_error e some) [
      | inl written ↦ inr (inl (e, up.read_failed, written))
      | inr short ↦ inr (inr short)
    ]

    -- ---- the response

    -- an end that passed the filters was read, and is the last of what was
    read_ends : list_any is_end p.batched ≡ true → list_any is_end q.read ≡ true
    read_ends ends =
        ap (list_any is_end) (sym front.joined) ∙ any_left is_end p.batched front.rest ends

    -- so all of it passed
    all_batched : list_any is_end p.batched ≡ true → p.batched ≡ q.read
    all_batched ends =
        sym (append-nil p.batched)
        ∙ ap (λ (l : List HttpTask). p.batched ++ l)
        (sym (tasks_are.ends_last p.batched front.rest (sym front.joined) ends)) ∙ front.joined

    -- with an end among them, and a final head, what the filters made leaves the response over
    pub over_made : list_any is_end p.batched ≡ true
        → has_head (wire (request_of s.head) place.NoHead so_far.down.passed.queued).place ≡ true
        → is_over (order.text_of in_order).place ≡ true
    over_made ends has =
        stays_over (request_of s.head) place.NoHead so_far.down.passed.queued p.closing
        (ends_over (request_of s.head) so_far.down.passed.queued
        (last_made (is_head_request s.head.method) b.stood (filtering s b).calls
        (TakesOn b.stopped b.refused) p.batched so_far.down.passed.queued half.makes
        (last_in p.batched
        (front_last p.batched front.rest q.read front.joined tasks_are.ends_last)))
        (ends_made (filtering s b) s link (state up.client.link) (start_at up.client.link) b.ended
        (hooked_state b) refl
        (attempt_so_far state start_at link ahead s b up duplex p q so_far) ∙ ends)
        (front_pass (request_of s.head) so_far.down.passed.queued p.closing passes) has)

    -- the response was relayed whole, where its end passed the filters
    abbrev relayed_of : Finishes (hooked_core duplex b up) p q → list_any is_end p.batched ≡ true
        → IsRelayed (filtering s b) s (passed_by p q) (state up.client.link)
        (start_at up.client.link)
    relayed_of finishes ends =
        let all = in_order.are_said.whole (read_ends ends) in
        record {
          order = in_order;
          n = all.0;
          whole = all.1;
          ended = read_ends ends;
          batched = all_batched ends;
          over = over_made ends;
          written = written_all finishes.written;
          request = request_by duplex.send_error refl finishes (read_ends ends);
          reads = so_far.up.marked.reads (unread (read_ends ends));
        }

    -- and else it was over early
    abbrev early_of : Finishes (hooked_core duplex b up) p q → list_any is_end p.batched ≡ false
        → EndsEarly (filtering s b) s (passed_by p q) (state up.client.link)
        (start_at up.client.link)
    early_of finishes none = record {
      order = in_order;
      open_still = none;
      over = stays_over (request_of s.head) place.NoHead so_far.down.passed.queued p.closing
          (half.over (done_by finishes.ended));
      written = written_all finishes.written;
      request = sent_by duplex.send_error refl finishes;
      reads = λ ends. so_far.up.marked.reads (unread ends);
    }
      where
        done_by : (list_any is_end p.batched ≡ true) ⊎ (b.side.done ≡ true) → b.side.done ≡ true
        done_by (inl ends) = clash (list_any is_end p.batched) ends none
        done_by (inr done) = done

    -- ---- what it leaves

    -- the response of a link that is kept was read to its end
    read_to_end : may_keep_client up.client ≡ true → list_any is_end q.read ≡ true
    read_to_end kept =
        tasks_are.ended
        ∙ keeps_over up.client.response.place
        (and_left (keeps_at up.client.response.place) _ (kept_parts up.client kept).1)

    -- and it may serve another request
    may_serve : may_keep_client up.client ≡ true
        → MayServe s (passed_by p q) (state up.client.link).ended q.read
    may_serve kept =
        let u = so_far.up.peer in
        let parts = kept_parts up.client kept in
        let sent = sent_whole u.sending q.sent up.client.request s.sent
        (u.is_head ∙ ap (λ (h : RequestHead). Some h) u.own) u.so_far parts.0 in
        let all = in_order.are_said.whole (read_to_end kept) in
        record {
          pieces = sent.pieces;
          request = sent.request;
          complete = sent.complete;
          asks = sent.asks;
          response = read_whole s.sent.method s.asked (state up.client.link).ended q.got
              (told_of q.read) (told_of q.read) up.client.response all.0 tasks_are.so_far parts.1
              all.1;
        }

    -- what a finished exchange leaves
    leaves_of : Leaves (filtering s b) s (passed_by p q) (state up.client.link)
        (start_at up.client.link) in_order ahead b.side.session (keeps_link duplex up)
    leaves_of =
        let c = so_far.down.passed.holds.passed.client in
        record {
          ended = (λ is. c.whole is, λ ends. c.ended ends);
          behind = λ is.
              subst (λ (l : List ℕ). IsWhole (s.ahead ++ p.came) l ahead) (sym c.joined)
              (c.told_whole is);
          closes =
              held_closes b.side.session.writing (so_far.down.passed.queued ++ p.closing) p.written
              c.response
              ∙ ap (λ (r : Request).
              (wire r place.NoHead (so_far.down.passed.queued ++ p.closing)).closes)
              (answers_own s (inside p so_far.down.passed.came so_far.down.passed.queued) link ahead
              b.side.session c);
          serves = λ kept. may_serve (and_right (core.may_keep duplex.kind duplex) _ kept);
          read_whole = λ kept. read_to_end (and_right (core.may_keep duplex.kind duplex) _ kept);
          faultless = λ kept.
              so_far.up.peer.calm
              (kept_unfailed up.client (and_right (core.may_keep duplex.kind duplex) _ kept));
        }

    -- where the request did not end short, and no call failed, no send error is kept
    unsent : list_any is_end q.read ≡ true → ¬ (SendsShort s q.taken)
        → ¬ (Rose (start_at up.client.link).faults (state up.client.link).faults)
        → (error : Option Error) → duplex.send_error ≡ error → duplex.send_error ≡ None
    unsent ends whole faultless None is = is
    unsent ends whole faultless (Some e) is = elim (send_error ends e is) [
      | inl written ↦ absurd (faultless written.rose)
      | inr short ↦ absurd (whole short)
    ]

    -- a request that had not ended before its first piece, and has, has an end among its pieces
    ends_put : b.at_first ≡ false → b.ended ≡ true → list_any is_end p.put ≡ true
    ends_put fresh ended =
        let r = so_far.down.passed.request refl in
        ap (list_any is_end)
        (r.left ∙ ap (λ (a : Bool). passed a (pieces_in so_far.down.passed.own)) fresh)
        ∙ passed_ends (pieces_in so_far.down.passed.own)
        ∙ sym (r.is_ended
        ∙ ap (λ (a : Bool). ended_by a (pieces_in so_far.down.passed.own)) fresh)
        ∙ ended

    -- a link that may serve another request is kept
    keeps_of : Finishes (hooked_core duplex b up) p q → list_any is_end q.read ≡ true
        → b.at_first ≡ false
        → Keeps (state up.client.link) (start_at up.client.link) in_order (keeps_link duplex up)
    keeps_of finishes ends fresh serves faultless whole_sent =
        let none = unsent ends whole_sent faultless duplex.send_error refl in
        let u = so_far.up.peer in
        let stands = subst (λ (x : Sent). Stands x up.client.request.request)
        (u.queued.unlost (finishes.unlost none)
        ∙ ap (λ (h : RequestHead). sent_as h q.taken) u.own
        ∙ ap (λ (ts : List HttpTask). sent_as s.sent ts) (finishes.taken none)) u.so_far.stands in
        let whole = ended_stands s.sent p.put up.client.request.request stands
        (ends_put fresh (finishes.request_ended none)) in
        let over : reading.is_over up.client.response.place ≡ true = sym tasks_are.ended ∙ ends in
        and_both (core.may_keep duplex.kind duplex) _
        (ap (λ (k : UpKind). core.may_keep k duplex) so_far.marks.kind
        ∙ all_keep (core.is_failed duplex.word) (is_none duplex.send_error)
        duplex.upstream_request_done duplex.upstream_response_done finishes.unfailed
        (ap (λ (e : Option Error). is_none e) none) (finishes.done none) (response_done ends))
        (and_both (may_keep_writing up.client.request) _
        (kept_writing s.sent up.client.request
        (u.is_head ∙ ap (λ (h : RequestHead). Some h) u.own) serves.asks whole
        (none_left none finishes))
        (and_both (may_keep_reading up.client.response) _
        (kept_reading s.sent.method s.asked (state up.client.link).ended q.got (told_of q.read)
        (told_of q.read) up.client.response.place up.client.response.ahead tasks_are.so_far.at over
        serves.response)
        (not_false up.client.failed (calm none ends))))
      where
        response_done : list_any is_end q.read ≡ true → duplex.upstream_response_done ≡ true
        response_done ends = elim (decide duplex.upstream_response_done) [
          | inl done ↦ done
          | inr goes_on ↦ clash (list_any is_end q.read) ends (so_far.unended goes_on)
        ]

    -- so it finishes
    pub finishes_so : Finishes (hooked_core duplex b up) p q
        → ((r : IsRelayed (filtering s b) s (passed_by p q) (state up.client.link)
        (start_at up.client.link))
        × Leaves (filtering s b) s (passed_by p q) (state up.client.link) (start_at up.client.link)
        r.order ahead b.side.session (keeps_link duplex up)
        × (b.at_first ≡ false
        → Keeps (state up.client.link) (start_at up.client.link) r.order (keeps_link duplex up)))
        ⊎ ((r : EndsEarly (filtering s b) s (passed_by p q) (state up.client.link)
        (start_at up.client.link))
        × Leaves (filtering s b) s (passed_by p q) (state up.client.link) (start_at up.client.link)
        r.order ahead b.side.session (keeps_link duplex up)
        × (b.at_first ≡ false → list_any is_end r.order.read ≡ true
        → Keeps (state up.client.link) (start_at up.client.link) r.order (keeps_link duplex up)))
    finishes_so finishes = elim (decide (list_any is_end p.batched)) [
      | inl ends ↦ inl (
        relayed_of finishes ends,
        leaves_of,
        λ fresh. keeps_of finishes (read_ends ends) fresh,
      )
      | inr none ↦ inr (
        early_of finishes none,
        leaves_of,
        λ fresh ends. keeps_of finishes ends fresh,
      )
    ]
