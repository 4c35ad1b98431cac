-- Without a failure and without a tunnel, what is done is done for its cause, whatever step the
-- upstream half takes.
use Rattle.std.proofs.Common.{◌≡◌, Bool, true, false, ◌&&◌, ◌||◌, List, [], ◌∷◌, ◌++◌, Option, Some, None, Result, Ok, Err, refl, sym, ap, ◌∙◌, inl, inr, append_assoc, ◌==◌, length, arith}
use Rattle.std.specs.List.{list_any}
use Rattle.relay_tasks.specs.declared.error.Error.{Error}
use Rattle.relay_tasks.specs.declared.error.Fail.{Fail}
use Rattle.relay_tasks.specs.declared.error.Fail.TheVariants as fail
use Rattle.relay_tasks.specs.declared.task.HttpTask.{HttpTask}
use Rattle.relay_tasks.specs.declared.task.HttpTask.TheVariants as task
use Rattle.relay_tasks.specs.declared.took.Took.{Took}
use Rattle.relay_tasks.specs.declared.took.Took.TheVariants as took
use Rattle.relay_tasks.specs.Task.{is_end}
use Rattle.relay_links.specs.declared.link.Put.{Put}
use Rattle.relay_links.specs.declared.link.Put.TheVariants as put
use Rattle.relay_core.specs.declared.duplex.Duplex.{Duplex}
use Rattle.relay_core.specs.Down.{DownState}
use Rattle.relay_core.specs.Moves.{Ordinary, EndsLast}
use Rattle.relay_core.specs.Past.{DownPast, UpPast, loses}
use Rattle.relay_core.specs.Pipe as pipe
use Rattle.relay_core.specs.Sound.{Runs}
use Rattle.relay_core.specs.State.{is_complete}
use Rattle.relay_core.specs.Steps.{with_requests}
use Rattle.relay_core.specs.Table.{core, is_failed, with_send_error, after_up_write, after_up_take, with_piece_sent, ends_request, ends_tunnel, after_up_read, with_task_read, told_error, after_up_finish, up_is_through}
use Rattle.relay_core.specs.Up.{UpState}
use Rattle.relay_core.proofs.BoolLemmas.{clash, and_left, and_right, and-true, or_inl, or_inr, or_cases, or_false}
use Rattle.std.proofs.lemmas.Bool.{eqb-true}
use Rattle.relay_core.proofs.TaskLemmas.{any_left, any_right, any_cases}

-- an upstream half that runs wrote, and its pending output changed
ordinary_written : (d : Duplex) (side : DownState) (u u' : UpState) (p : DownPast) (q : UpPast)
    → d.upstream_finished ≡ false → Ordinary (core d side u) p q → Ordinary (core d side u') p q
ordinary_written d side u u' p q runs o = record {
  ends_last = o.ends_last;
  ended = o.ended;
  request_done = o.request_done;
  unlost = o.unlost;
  whole = o.whole;
  put_end = o.put_end;
  taken_end = o.taken_end;
  sent = λ h fin. clash d.upstream_finished fin runs;
  through = o.through;
  answered = o.answered;
  client_done = o.client_done;
  closed = o.closed;
}

-- with a send error nothing is said of the upstream's request
ordinary_unsent : (d : Duplex) (rest : List HttpTask) (request response : Bool) (error : Error)
    (side : DownState) (u u' : UpState) (p : DownPast) (q q' : UpPast)
    → d.upstream_finished ≡ false → Ordinary (core d side u) p q
    → Ordinary (core (with_send_error (record d {
      requests = record d.requests { tasks = rest };
      upstream_request_done = request;
      upstream_response_done = response;
    }) error) side u') p q'
ordinary_unsent d rest request response error side u u' p q q' runs o = record {
  ends_last = o.ends_last;
  ended = o.ended;
  request_done = o.request_done;
  unlost = λ h. cc;
  whole = λ h done. cc;
  put_end = λ h. inr refl;
  taken_end = λ h none. refl;
  sent = λ h fin. clash d.upstream_finished fin runs;
  through = λ fin. clash d.upstream_finished fin runs;
  answered = o.answered;
  client_done = o.client_done;
  closed = o.closed;
}

-- one write to the upstream
pub ordinary_up_write : (d : Duplex) (side : DownState) (u u' : UpState) (answer : Put)
    (p : DownPast) (q : UpPast) → d.upstream_finished ≡ false → Ordinary (core d side u) p q
    → is_failed (after_up_write d answer).word ≡ false
    → Ordinary (core (after_up_write d answer) side u') p q
ordinary_up_write d side u u' (put.Took n) p q runs o alive =
    ordinary_written d side u u' p q runs o
ordinary_up_write d side u u' put.NotReady p q runs o alive =
    ordinary_written d side u u' p q runs o
ordinary_up_write d side u u' put.Silent p q runs o alive = ordinary_written d side u u' p q runs o
ordinary_up_write d side u u' (put.Failed fault) p q runs o alive =
    ordinary_unsent d d.requests.tasks d.upstream_request_done d.upstream_response_done _ side u u'
    p q q runs o
ordinary_up_write d side u u' put.OutOfMemory p q runs o alive = clash true refl alive

-- without a tunnel, a piece with which the upstream's request ends is an end
ends_is_end : (piece : HttpTask) → ends_request false piece ≡ is_end piece
ends_is_end (task.Header head end) = refl
ends_is_end (task.Body bytes end) = and-true end
ends_is_end (task.UpgradedBody bytes end) = refl
ends_is_end (task.Trailer fields) = refl
ends_is_end task.Done = refl
ends_is_end (task.Failed error) = refl

-- the end of the request was taken: nothing is held behind it, and the client told that it ended
ended_whole : (put taken : List HttpTask) (piece : HttpTask) (rest : List HttpTask) (ended : Bool)
    → put ≡ taken ++ (piece ∷ rest) → is_end piece ≡ true → EndsLast put
    → (list_any is_end put ≡ true → ended ≡ true) → (rest ≡ []) × (ended ≡ true)
ended_whole put taken piece rest ended parts end last tells =
    let front : list_any is_end (taken ++ piece ∷ []) ≡ true =
    any_right is_end taken (piece ∷ []) (or_inl (is_end piece) false end) in
    let parts' : put ≡ (taken ++ piece ∷ []) ++ rest =
    parts ∙ sym (append_assoc taken (piece ∷ []) rest) in (
      last (taken ++ piece ∷ []) rest parts' front,
      tells (ap (list_any is_end) parts' ∙ any_left is_end (taken ++ piece ∷ []) rest front),
    )

-- the last piece of a request that has ended, whose end is among what was put, is an end
last_ends : (put taken : List HttpTask) (piece : HttpTask) (rest : List HttpTask)
    → put ≡ taken ++ (piece ∷ rest) → rest ≡ [] → list_any is_end put ≡ true → EndsLast put
    → is_end piece ≡ true
last_ends put taken piece rest parts none end last =
    elim (any_cases is_end taken (piece ∷ rest) (ap (list_any is_end) (sym parts) ∙ end)) [
      | inl before ↦ (let wrong : piece ∷ rest ≡ [] = last taken (piece ∷ rest) parts before in cc)
      | inr here ↦ elim (or_cases (is_end piece) (list_any is_end rest) here) [
        | inl is ↦ is
        | inr behind ↦ clash (list_any is_end rest) behind (ap (list_any is_end) none)
      ]
    ]

-- the upstream took a piece
ordinary_sent : (d : Duplex) (tunnel : Bool) (side : DownState) (u u' : UpState)
    (piece : HttpTask) (rest : List HttpTask) (p : DownPast) (q q' : UpPast) → tunnel ≡ false
    → d.upstream_finished ≡ false → d.upstream_request_done ≡ false
    → p.put ≡ q.taken ++ (piece ∷ rest) → q'.lost ≡ (q.lost || false)
    → Ordinary (core d side u) p q
    → Ordinary (core (with_piece_sent (with_requests d rest) tunnel piece) side u') p q'
ordinary_sent d true side u u' piece rest p q q' plain runs unsent parts is_lost o =
    clash true refl plain
ordinary_sent d false side u u' piece rest p q q' plain runs unsent parts is_lost o = record {
  ends_last = o.ends_last;
  ended = o.ended;
  request_done = o.request_done;
  unlost = λ h. is_lost ∙ or_false q.lost false (o.unlost h) refl;
  whole = λ h done. elim (or_cases d.upstream_request_done (ends_request false piece) done) [
    | inl before ↦ clash d.upstream_request_done before unsent
    | inr now ↦ ended_whole p.put q.taken piece rest side.request_ended parts
        (sym (ends_is_end piece) ∙ now) o.ends_last o.ended
  ];
  put_end = λ h. elim (o.put_end h) [
    | inl end ↦ inl end
    | inr done ↦ inr (or_inl d.upstream_request_done (ends_request false piece) done)
  ];
  taken_end = λ h none. elim (o.put_end h) [
    | inl end ↦ or_inr d.upstream_request_done (ends_request false piece)
        (ends_is_end piece ∙ last_ends p.put q.taken piece rest parts none end o.ends_last)
    | inr done ↦ or_inl d.upstream_request_done (ends_request false piece) done
  ];
  sent = λ h fin. clash d.upstream_finished fin runs;
  through = λ fin. clash d.upstream_finished fin runs;
  answered = o.answered;
  client_done = o.client_done;
  closed = o.closed;
}

-- the upstream answered on a piece
pub ordinary_up_take : (d : Duplex) (tunnel : Bool) (side : DownState) (u u' : UpState)
    (piece : HttpTask) (rest : List HttpTask) (answer : Result Unit Fail) (p : DownPast)
    (q q' : UpPast) → tunnel ≡ false → d.upstream_finished ≡ false
    → d.upstream_request_done ≡ false → p.put ≡ q.taken ++ (piece ∷ rest)
    → q'.lost ≡ (q.lost || loses answer) → Ordinary (core d side u) p q
    → is_failed (after_up_take (with_requests d rest) tunnel piece answer).word ≡ false
    → Ordinary (core (after_up_take (with_requests d rest) tunnel piece answer) side u') p q'
ordinary_up_take d tunnel side u u' piece rest (Ok done) p q q' plain runs unsent parts is_lost o
    alive =
    ordinary_sent d tunnel side u u' piece rest p q q' plain runs unsent parts is_lost o
ordinary_up_take d tunnel side u u' piece rest (Err (fail.Error error)) p q q' plain runs unsent
    parts is_lost o alive =
    ordinary_unsent d rest (d.upstream_request_done || ends_request tunnel piece)
    (d.upstream_response_done || ends_tunnel tunnel piece) error side u u' p q q' runs o
ordinary_up_take d tunnel side u u' piece rest (Err fail.OutOfMemory) p q q' plain runs unsent
    parts is_lost o alive = clash true refl alive

-- the upstream gave a task
ordinary_task : (d : Duplex) (tunnel : Bool) (side : DownState) (u u' : UpState)
    (new : HttpTask) (p : DownPast) (q : UpPast) → tunnel ≡ false → d.upstream_finished ≡ false
    → Ordinary (core d side u) p q → Ordinary (core (with_task_read d tunnel new) side u') p q
ordinary_task d tunnel side u u' new p q plain runs o = record {
  ends_last = o.ends_last;
  ended = o.ended;
  request_done = o.request_done;
  unlost = o.unlost;
  whole = λ h done. elim (or_cases d.upstream_request_done (is_end new && tunnel) done) [
    | inl before ↦ o.whole h before
    | inr now ↦ clash tunnel (and_right (is_end new) tunnel now) plain
  ];
  put_end = λ h. elim (o.put_end h) [
    | inl end ↦ inl end
    | inr done ↦ inr (or_inl d.upstream_request_done (is_end new && tunnel) done)
  ];
  taken_end = λ h none.
      or_inl d.upstream_request_done (is_end new && tunnel) (o.taken_end h none);
  sent = λ h fin. clash d.upstream_finished fin runs;
  through = λ fin. clash d.upstream_finished fin runs;
  answered = o.answered;
  client_done = o.client_done;
  closed = o.closed;
}

-- one read of the upstream
pub ordinary_up_read : (d : Duplex) (tunnel : Bool) (side : DownState) (u u' : UpState)
    (answer : Took HttpTask) (p : DownPast) (q : UpPast) → tunnel ≡ false
    → d.upstream_finished ≡ false → Ordinary (core d side u) p q
    → is_failed (after_up_read d tunnel answer).word ≡ false
    → Ordinary (core (after_up_read d tunnel answer) side u') p q
ordinary_up_read d tunnel side u u' (took.Item new) p q plain runs o alive =
    ordinary_task d tunnel side u u' new p q plain runs o
ordinary_up_read d tunnel side u u' took.More p q plain runs o alive =
    ordinary_written d side u u' p q runs o
ordinary_up_read d tunnel side u u' (took.Waited why) p q plain runs o alive =
    ordinary_written d side u u' p q runs o
ordinary_up_read d tunnel side u u' took.End p q plain runs o alive =
    ordinary_written d side u u' p q runs o
ordinary_up_read d tunnel side u u' (took.Failed (fail.Error error)) p q plain runs o alive =
    ordinary_task d tunnel side u u' (task.Failed (told_error d.send_error error)) p q plain runs o
ordinary_up_read d tunnel side u u' (took.Failed fail.OutOfMemory) p q plain runs o alive =
    clash true refl alive

-- a pipe that holds nothing
empty_none : (tasks : List HttpTask) → (length tasks == 0) ≡ true → tasks ≡ []
empty_none [] h = refl
empty_none (x ∷ xs) h =
    let e : length (x ∷ xs) ≡ 0 = eqb-true (length (x ∷ xs)) 0 h in absurd (omega arith)

-- an upstream half that is through and has no output to be sent finished: the request was taken
-- whole, and the response has ended or the client's half has
pub ordinary_up_finish : (d : Duplex) (side : DownState) (u : UpState) (why : Option Error)
    (p : DownPast) (q : UpPast) → d.upstream_finished ≡ false → up_is_through d ≡ true
    → (d.send_error ≡ None → u.pending ≡ false) → Runs d side.body_done side.upgraded
    → Ordinary (core d side u) p q → is_failed (after_up_finish d why).word ≡ false
    → Ordinary (core (after_up_finish d why) side u) p q
ordinary_up_finish d side u (Some error) p q open_yet through quiet r o alive =
    clash true refl alive
ordinary_up_finish d side u None p q open_yet through quiet r o alive =
    let complete : (is_complete d.word && (d.upstream_request_done || pipe.is_empty d.requests))
    ≡ true → d.client_finished ≡ true =
    λ both. sym r.complete ∙ and_left (is_complete d.word) _ both in
    record {
      ends_last = o.ends_last;
      ended = o.ended;
      request_done = λ h. inr refl;
      unlost = o.unlost;
      whole = o.whole;
      put_end = o.put_end;
      taken_end = o.taken_end;
      sent = λ h fin.
          elim (or_cases (d.upstream_request_done && d.upstream_response_done) _ through) [
            | inl both ↦ (let w = o.whole h (and_left d.upstream_request_done _ both) in
                (w.0, w.1, quiet h))
            | inr both ↦
                elim (or_cases d.upstream_request_done (pipe.is_empty d.requests)
                (and_right (is_complete d.word) _ both)) [
                  | inl done ↦ (let w = o.whole h done in (w.0, w.1, quiet h))
                  | inr empty ↦ elim (o.request_done (o.client_done (complete both)).0) [
                    | inl ended ↦ (empty_none d.requests.tasks empty, ended, quiet h)
                    | inr closed ↦ clash d.requests.closed closed (r.requests_closed ∙ open_yet)
                  ]
                ]
          ];
      through = λ fin.
          elim (or_cases (d.upstream_request_done && d.upstream_response_done) _ through) [
            | inl both ↦ inl (and_right d.upstream_request_done _ both)
            | inr both ↦ inr (complete both)
          ];
      answered = o.answered;
      client_done = o.client_done;
      closed = o.closed;
    }
