-- Without a failure and without a tunnel, what is done is done for its cause, whatever step the
-- client's half takes.
use Rattle.std.proofs.Common.{if◌then◌else◌, ◌≡◌, Bool, true, false, ◌&&◌, ◌||◌, not, List, [], ◌∷◌, ◌++◌, option_to_list, Some, None, Result, Ok, Err, refl, sym, ap, ◌∙◌, subst, inl, inr, ◌⊎◌, append-nil}
use Rattle.std.specs.List.{list_any}
use Rattle.relay_tasks.specs.declared.error.Fail.{Fail}
use Rattle.relay_tasks.specs.declared.task.HttpTask.{HttpTask}
use Rattle.relay_tasks.specs.declared.task.HttpTask.TheVariants as task
use Rattle.relay_tasks.specs.declared.took.Took.{Took}
use Rattle.relay_tasks.specs.declared.took.Took.TheVariants as took
use Rattle.relay_tasks.specs.Task.{is_end}
use Rattle.relay_links.specs.declared.link.Put.{Put}
use Rattle.relay_links.specs.declared.link.Put.TheVariants as put
use Rattle.relay_core.specs.declared.downstream_state.DownstreamStateMachine.{DownstreamStateMachine}
use Rattle.relay_core.specs.declared.downstream_state.DownstreamStateMachine.TheVariants.{Reading, ReadingFinished, Errored}
use Rattle.relay_core.specs.declared.duplex.Duplex.{Duplex}
use Rattle.relay_core.specs.declared.piece.Piece.{Piece}
use Rattle.relay_core.specs.Down.{DownState, GivesPiece, ReadsPiece, TakesBatch, Finishes, accepts}
use Rattle.relay_core.specs.Down as down
use Rattle.relay_core.specs.Moves.{Ordinary, EndsLast}
use Rattle.relay_core.specs.Past.{DownPast, UpPast, put_in}
use Rattle.relay_core.specs.Piece.{is_empty, task_of, task_put_of, put_of}
use Rattle.relay_core.specs.State.{is_response_done, is_reading, finished}
use Rattle.relay_core.specs.Steps.{with_responses}
use Rattle.relay_core.specs.Table.{core, is_failed, after_down_write, with_upgrade, with_response_done, with_request_done, after_batch, after_down_read, with_piece_read, after_down_finish}
use Rattle.relay_core.specs.Up.{UpState}
use Rattle.relay_core.proofs.BoolLemmas.{clash, and_left, and_right, and_both, or_inl, or_inr, or_cases}
use Rattle.relay_core.proofs.TaskLemmas.{any_left, any_right, any_cases, ends_more}
use Rattle.relay_core.proofs.OrdinaryLemmas.{ordinary_at, SameEnds, ends_of, same_ends}

-- the client's half runs, and its pending output changed
ordinary_side : (d : Duplex) (side side' : DownState) (u : UpState) (p : DownPast) (q : UpPast)
    → d.client_finished ≡ false → SameEnds side side' → Ordinary (core d side u) p q
    → Ordinary (core d side' u) p q
ordinary_side d side side' u p q runs same o = record {
  ends_last = o.ends_last;
  ended = λ h. same.request ∙ o.ended h;
  request_done = λ h. elim (o.request_done h) [
    | inl ended ↦ inl (same.request ∙ ended)
    | inr closed ↦ inr closed
  ];
  unlost = o.unlost;
  whole = λ h done. let w = o.whole h done in (w.0, same.request ∙ w.1);
  put_end = λ h. o.put_end (sym same.request ∙ h);
  taken_end = λ h none. o.taken_end (sym same.request ∙ h) none;
  sent = λ h fin. let w = o.sent h fin in (w.0, same.request ∙ w.1, w.2);
  through = o.through;
  answered = λ h. elim (o.answered h) [
    | inl given ↦ inl given
    | inr said ↦ inr (same.response ∙ said)
  ];
  client_done = λ fin. clash d.client_finished fin runs;
  closed = o.closed;
}

-- a write to the client leaves both ends
pub down_writes_ends : (old new : DownState) (answer : Put) → down.Writes old new answer
    → SameEnds old new
down_writes_ends old new (put.Took n) is = ends_of old _ new is refl refl
down_writes_ends old new put.NotReady is = ends_of old _ new is refl refl
down_writes_ends old new put.Silent is = ends_of old _ new is refl refl
down_writes_ends old new (put.Failed fault) is = ends_of old _ new is refl refl
down_writes_ends old new put.OutOfMemory is = same_ends old new is

-- one write to the client
pub ordinary_down_write : (d : Duplex) (side side' : DownState) (u : UpState) (answer : Put)
    (p : DownPast) (q : UpPast) → d.client_finished ≡ false → down.Writes side side' answer
    → Ordinary (core d side u) p q → is_failed (after_down_write d answer).word ≡ false
    → Ordinary (core (after_down_write d answer) side' u) p q
ordinary_down_write d side side' u (put.Took n) p q runs writes o alive =
    ordinary_side d side side' u p q runs (down_writes_ends side side' (put.Took n) writes) o
ordinary_down_write d side side' u put.NotReady p q runs writes o alive =
    ordinary_side d side side' u p q runs (down_writes_ends side side' put.NotReady writes) o
ordinary_down_write d side side' u put.Silent p q runs writes o alive =
    ordinary_side d side side' u p q runs (down_writes_ends side side' put.Silent writes) o
ordinary_down_write d side side' u (put.Failed fault) p q runs writes o alive =
    clash true refl alive
ordinary_down_write d side side' u put.OutOfMemory p q runs writes o alive = clash true refl alive

-- a request that is done after it may have ended was done before, or ended
done_before : (request : DownstreamStateMachine) (set : Bool)
    → is_reading (finished request set) ≡ false → (is_reading request ≡ false) ⊎ (set ≡ true)
done_before Reading true h = inr refl
done_before Reading false h = inl h
done_before ReadingFinished set h = inl refl
done_before Errored set h = inl refl

-- a response that is done stays done
response_stays : (u v c : Bool) → (u && c) ≡ true → ((u || v) && c) ≡ true
response_stays true v c h = h
response_stays false v c h = clash false h refl

-- the client was given a batch, and accepted no 101 in it
ordinary_given : (d : Duplex) (accepted upgraded done : Bool) (side side' : DownState)
    (u : UpState) (batch rest : List HttpTask) (p p' : DownPast) (q : UpPast)
    → accepted ≡ false → upgraded ≡ false → d.client_finished ≡ false
    → is_response_done d.client_response ≡ false → side'.request_ended ≡ side.request_ended
    → side'.response_done ≡ done → p'.put ≡ p.put → p'.batched ≡ p.batched ++ batch
    → p'.closing ≡ p.closing → Ordinary (core d side u) p q
    → Ordinary (core (with_request_done (with_response_done
    (with_upgrade (with_responses d rest) accepted) (list_any is_end batch || done))
    (list_any is_end batch && upgraded)) side' u) p' q
ordinary_given d true upgraded done side side' u batch rest p p' q once plain runs open_yet ended
    said is_put is_batched is_closing o = clash true refl once
ordinary_given d false upgraded done side side' u batch rest p p' q once plain runs open_yet ended
    said is_put is_batched is_closing o = record {
      ends_last = let P : List HttpTask → Type 0 = λ xs. EndsLast xs in
          subst P (sym is_put) o.ends_last;
      ended = λ h. ended ∙ o.ended (ap (list_any is_end) (sym is_put) ∙ h);
      request_done = λ h.
          elim (done_before d.client_request (list_any is_end batch && upgraded) h) [
            | inl before ↦ elim (o.request_done before) [
              | inl over ↦ inl (ended ∙ over)
              | inr closed ↦ inr closed
            ]
            | inr now ↦ clash upgraded (and_right (list_any is_end batch) upgraded now) plain
          ];
      unlost = o.unlost;
      whole = λ h over. let w = o.whole h over in (w.0, ended ∙ w.1);
      put_end = λ h. elim (o.put_end (sym ended ∙ h)) [
        | inl end ↦ inl (ap (list_any is_end) is_put ∙ end)
        | inr over ↦ inr over
      ];
      taken_end = λ h none. o.taken_end (sym ended ∙ h) none;
      sent = λ h fin. let w = o.sent h fin in (w.0, ended ∙ w.1, w.2);
      through = o.through;
      answered = λ h. elim (or_cases d.client_response.upstream_done
          (list_any is_end batch || done) (and_left _ d.client_response.cached_done h)) [
            | inl before ↦ clash (is_response_done d.client_response)
                (and_both d.client_response.upstream_done d.client_response.cached_done before
                (and_right _ d.client_response.cached_done h)) open_yet
            | inr now ↦ elim (or_cases (list_any is_end batch) done now) [
              | inl end ↦ inl (ap (list_any is_end) is_batched
                  ∙ any_right is_end p.batched batch end)
              | inr told ↦ inr (said ∙ told)
            ]
          ];
      client_done = λ fin. clash d.client_finished fin runs;
      closed = elim o.closed [
        | inl none ↦ inl (is_closing ∙ none)
        | inr over ↦ clash (is_response_done d.client_response) over open_yet
      ];
    }

-- a 101 that is not seen was not accepted
not_accepted : (side side' : DownState) → side'.upgraded ≡ false → accepts side side' ≡ false
not_accepted side side' plain = none (not side.upgraded) side'.upgraded plain
  where
    none : (a b : Bool) → b ≡ false → (a && b) ≡ false
    none true b h = h
    none false b h = refl

-- the client took a batch
pub ordinary_batch : (d : Duplex) (side side' : DownState) (u : UpState)
    (batch rest : List HttpTask) (done : Bool) (p p' : DownPast) (q : UpPast)
    → side'.upgraded ≡ false → d.client_finished ≡ false
    → is_response_done d.client_response ≡ false → TakesBatch side batch side' (Ok done)
    → p'.put ≡ p.put → p'.batched ≡ p.batched ++ batch → p'.closing ≡ p.closing
    → Ordinary (core d side u) p q
    → Ordinary (core (after_batch (with_responses d rest) side batch side' (Ok done)) side' u) p' q
ordinary_batch d side side' u batch rest done p p' q plain runs open_yet takes is_put is_batched
    is_closing o =
    let once = not_accepted side side' plain in
    ordinary_given d (accepts side side') side'.upgraded done side side' u batch rest p p' q once
    plain runs open_yet
    (ap (λ (s : DownState). s.request_ended) takes.exact
    ∙ ap (λ (b : Bool). if b then false else side.request_ended) once)
    (ap (λ (s : DownState). s.response_done) takes.exact) is_put is_batched is_closing o

-- a task of the response was dropped
pub ordinary_drop : (d : Duplex) (side : DownState) (u : UpState) (rest : List HttpTask)
    (p : DownPast) (q : UpPast) → Ordinary (core d side u) p q
    → Ordinary (core (with_responses d rest) side u) p q
ordinary_drop d side u rest p q o = record {
  ends_last = o.ends_last;
  ended = o.ended;
  request_done = o.request_done;
  unlost = o.unlost;
  whole = o.whole;
  put_end = o.put_end;
  taken_end = o.taken_end;
  sent = o.sent;
  through = o.through;
  answered = o.answered;
  client_done = o.client_done;
  closed = o.closed;
}

-- the request is done, since its pipe was closed
pub ordinary_closed : (d : Duplex) (side : DownState) (u : UpState) (p : DownPast) (q : UpPast)
    → d.client_finished ≡ false → d.requests.closed ≡ true → Ordinary (core d side u) p q
    → Ordinary (core (with_request_done d true) side u) p q
ordinary_closed d side u p q runs closed o = record {
  ends_last = o.ends_last;
  ended = o.ended;
  request_done = λ h. inr closed;
  unlost = o.unlost;
  whole = o.whole;
  put_end = o.put_end;
  taken_end = o.taken_end;
  sent = o.sent;
  through = o.through;
  answered = o.answered;
  client_done = λ fin. clash d.client_finished fin runs;
  closed = o.closed;
}

-- a piece that puts an end is the last of the request
put_by : (piece : Piece) (none : Bool)
    → list_any is_end (option_to_list (if none then None else Some (task_of false piece))) ≡ true
    → piece.upstream_end ≡ true
put_by piece true h = clash false h refl
put_by piece false h = elim (or_cases piece.upstream_end false h) [
  | inl end ↦ end
  | inr never ↦ clash false never refl
]

-- a piece of which an end is put is the last of the request
put_end : (piece : Piece) → list_any is_end (put_of false piece) ≡ true
    → piece.upstream_end ≡ true
put_end piece h = put_by piece (is_empty piece.bytes && not piece.upstream_end) h

-- the last piece puts the end of the request
end_put : (piece : Piece) → piece.upstream_end ≡ true
    → list_any is_end (put_of false piece) ≡ true
end_put piece is = rw is (put (is_empty piece.bytes))
  where
    put : (none : Bool) → list_any is_end (option_to_list
        (if none && not true then None else Some (task.Body piece.bytes true))) ≡ true
    put true = refl
    put false = refl

-- what is put in front of nothing is nothing
front_none : (tasks more : List HttpTask) → tasks ++ more ≡ [] → tasks ≡ []
front_none [] more none = refl
front_none (one ∷ tasks) more none = cc

-- and so is what is put behind it
behind_none : (tasks more : List HttpTask) → tasks ++ more ≡ [] → more ≡ []
behind_none [] more none = none
behind_none (one ∷ tasks) more none = cc

-- nothing was put behind the end
none_put : (tasks more : List HttpTask) → tasks ≡ [] → more ≡ [] → tasks ++ more ≡ []
none_put tasks more is none = ap (λ (xs : List HttpTask). xs ++ more) is ∙ none

-- the client gave a piece
ordinary_piece : (d : Duplex) (tunnel : Bool) (side side' : DownState) (u : UpState)
    (piece : Piece) (p p' : DownPast) (q : UpPast) → side.upgraded ≡ tunnel → tunnel ≡ false
    → d.client_finished ≡ false → GivesPiece side side' piece
    → p'.put ≡ p.put ++ put_of tunnel piece → p'.batched ≡ p.batched → p'.closing ≡ p.closing
    → Ordinary (core d side u) p q → Ordinary (core (with_piece_read d tunnel piece) side' u) p' q
ordinary_piece d true side side' u piece p p' q same plain runs gives is_put is_batched is_closing
    o = clash true refl plain
ordinary_piece d false side side' u piece p p' q same plain runs gives is_put is_batched is_closing
    o =
    let stops : side.request_ended ≡ true → put_of false piece ≡ [] =
    λ over. ap (λ (b : Bool). put_of b piece) (sym same) ∙ gives.nothing_behind over in
    let now : side'.request_ended ≡ (side.request_ended || piece.upstream_end) =
    ap (λ (s : DownState). s.request_ended) gives.exact in
    let stays : side.request_ended ≡ true → side'.request_ended ≡ true =
    λ over. now ∙ or_inl side.request_ended piece.upstream_end over in
    let said : side'.response_done ≡ side.response_done =
    ap (λ (s : DownState). s.response_done) gives.exact in
    record {
      ends_last = let P : List HttpTask → Type 0 = λ xs. EndsLast xs in
          subst P (sym is_put)
          (ends_more p.put (task_put_of false piece) o.ends_last (λ any. stops (o.ended any)));
      ended = λ h. elim (any_cases is_end p.put (put_of false piece)
          (ap (list_any is_end) (sym is_put) ∙ h)) [
            | inl before ↦ stays (o.ended before)
            | inr end ↦ now ∙ or_inr side.request_ended piece.upstream_end (put_end piece end)
          ];
      request_done = λ h. elim (done_before d.client_request piece.client_end h) [
        | inl before ↦ elim (o.request_done before) [
          | inl over ↦ inl (stays over)
          | inr closed ↦ inr closed
        ]
        | inr end ↦ inl (gives.ends end)
      ];
      unlost = o.unlost;
      whole = λ h done. let w = o.whole h done in
          (none_put d.requests.tasks (put_of false piece) w.0 (stops w.1), stays w.1);
      put_end = λ h. elim (or_cases side.request_ended piece.upstream_end (sym now ∙ h)) [
        | inl before ↦ elim (o.put_end before) [
          | inl end ↦ inl (ap (list_any is_end) is_put
              ∙ any_left is_end p.put (put_of false piece) end)
          | inr done ↦ inr done
        ]
        | inr end ↦ inl (ap (list_any is_end) is_put
            ∙ any_right is_end p.put (put_of false piece) (end_put piece end))
      ];
      taken_end = λ h none. elim (or_cases side.request_ended piece.upstream_end (sym now ∙ h)) [
        | inl before ↦ o.taken_end before (front_none d.requests.tasks (put_of false piece) none)
        | inr end ↦ clash (list_any is_end (put_of false piece)) (end_put piece end)
            (ap (list_any is_end) (behind_none d.requests.tasks (put_of false piece) none))
      ];
      sent = λ h fin. let w = o.sent h fin in
          (none_put d.requests.tasks (put_of false piece) w.0 (stops w.1), stays w.1, w.2);
      through = o.through;
      answered = λ h. elim (or_cases d.client_response.upstream_done (piece.client_end && false)
          (and_left _ d.client_response.cached_done h)) [
            | inl before ↦ elim (o.answered (and_both d.client_response.upstream_done
                d.client_response.cached_done before
                (and_right _ d.client_response.cached_done h))) [
                  | inl given ↦ inl (ap (list_any is_end) is_batched ∙ given)
                  | inr told ↦ inr (said ∙ told)
                ]
            | inr never ↦ clash false (and_right piece.client_end false never) refl
          ];
      client_done = λ fin. clash d.client_finished fin runs;
      closed = elim o.closed [
        | inl none ↦ inl (is_closing ∙ none)
        | inr over ↦ inr (response_stays d.client_response.upstream_done
            (piece.client_end && false) d.client_response.cached_done over)
      ];
    }

-- the client was read, and gave nothing
ordinary_idle : (d : Duplex) (side side' : DownState) (u : UpState) (p p' : DownPast) (q : UpPast)
    → d.client_finished ≡ false → SameEnds side side' → p'.put ≡ p.put ++ []
    → p'.batched ≡ p.batched → p'.closing ≡ p.closing → Ordinary (core d side u) p q
    → Ordinary (core d side' u) p' q
ordinary_idle d side side' u p p' q runs same is_put is_batched is_closing o =
    ordinary_at (core d side' u) p p' q q (is_put ∙ append-nil p.put) is_batched is_closing refl
    (ordinary_side d side side' u p q runs same o)

-- one read of the client
pub ordinary_down_read : (d : Duplex) (side side' : DownState) (u : UpState)
    (answer : Took Piece) (p p' : DownPast) (q : UpPast) → side.upgraded ≡ false
    → d.client_finished ≡ false → ReadsPiece side side' answer
    → p'.put ≡ p.put ++ put_in side.upgraded answer → p'.batched ≡ p.batched
    → p'.closing ≡ p.closing → Ordinary (core d side u) p q
    → is_failed (after_down_read d side.upgraded answer).word ≡ false
    → Ordinary (core (after_down_read d side.upgraded answer) side' u) p' q
ordinary_down_read d side side' u (took.Item piece) p p' q plain runs reads is_put is_batched
    is_closing o alive =
    ordinary_piece d side.upgraded side side' u piece p p' q refl plain runs reads is_put is_batched
    is_closing o
ordinary_down_read d side side' u took.More p p' q plain runs reads is_put is_batched is_closing o
    alive =
    ordinary_idle d side side' u p p' q runs (same_ends side side' reads) is_put is_batched
    is_closing o
ordinary_down_read d side side' u (took.Waited why) p p' q plain runs reads is_put is_batched
    is_closing o alive =
    ordinary_idle d side side' u p p' q runs (ends_of side _ side' reads refl refl) is_put
    is_batched is_closing o
ordinary_down_read d side side' u took.End p p' q plain runs reads is_put is_batched is_closing o
    alive = absurd reads
ordinary_down_read d side side' u (took.Failed why) p p' q plain runs reads is_put is_batched
    is_closing o alive = clash true refl alive

-- the client's half, with its response done, asked for the end of the response's body
ordinary_ended : (d : Duplex) (side side' : DownState) (u : UpState) (p p' : DownPast)
    (q : UpPast) → d.client_finished ≡ false → is_response_done d.client_response ≡ true
    → SameEnds side side' → p'.put ≡ p.put → p'.batched ≡ p.batched → Ordinary (core d side u) p q
    → Ordinary (core d side' u) p' q
ordinary_ended d side side' u p p' q runs response same is_put is_batched o =
    let w = ordinary_at (core d side' u) p (record p' { closing = p.closing }) q q is_put is_batched
    refl refl (ordinary_side d side side' u p q runs same o) in
    record {
      ends_last = w.ends_last;
      ended = w.ended;
      request_done = w.request_done;
      unlost = w.unlost;
      whole = w.whole;
      put_end = w.put_end;
      taken_end = w.taken_end;
      sent = w.sent;
      through = w.through;
      answered = w.answered;
      client_done = w.client_done;
      closed = inr response;
    }

-- the client's half, with its request and its response done, ended the response's body: with
-- nothing pending it finished
pub ordinary_down_finish : (d : Duplex) (side side' : DownState) (u : UpState) (pending : Bool)
    (answer : Result Unit Fail) (p p' : DownPast) (q : UpPast) → side'.pending ≡ pending
    → d.client_finished ≡ false → is_reading d.client_request ≡ false
    → is_response_done d.client_response ≡ true → Finishes side side' answer → p'.put ≡ p.put
    → p'.batched ≡ p.batched → Ordinary (core d side u) p q
    → is_failed (after_down_finish d pending answer).word ≡ false
    → Ordinary (core (after_down_finish d pending answer) side' u) p' q
ordinary_down_finish d side side' u true (Err why) p p' q is runs request response ends is_put
    is_batched o alive = clash true refl alive
ordinary_down_finish d side side' u false (Err why) p p' q is runs request response ends is_put
    is_batched o alive = clash true refl alive
ordinary_down_finish d side side' u true (Ok done) p p' q is runs request response ends is_put
    is_batched o alive =
    ordinary_ended d side side' u p p' q runs response (ends_of side _ side' ends.exact refl refl)
    is_put is_batched o
ordinary_down_finish d side side' u false (Ok done) p p' q is runs request response ends is_put
    is_batched o alive =
    let w = ordinary_ended d side side' u p p' q runs response
    (ends_of side _ side' ends.exact refl refl) is_put is_batched o in
    record {
      ends_last = w.ends_last;
      ended = w.ended;
      request_done = w.request_done;
      unlost = w.unlost;
      whole = w.whole;
      put_end = w.put_end;
      taken_end = w.taken_end;
      sent = w.sent;
      through = λ fin. inr refl;
      answered = w.answered;
      client_done = λ fin. (request, response, is);
      closed = w.closed;
    }
