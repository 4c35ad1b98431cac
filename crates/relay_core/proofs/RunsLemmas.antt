-- Where no half fails, the halves agree after each step.
use Rattle.std.proofs.Common.{◌≡◌, Bool, true, false, ◌&&◌, ◌||◌, not, if◌then◌else◌, List, [], ◌∷◌, ◌++◌, Option, Some, None, is_some, Result, Ok, Err, refl, sym, ap, ◌∙◌, subst, inl, inr, ◌⊎◌}
use Rattle.std.specs.List.{list_any}
use Rattle.relay_tasks.specs.declared.error.Error.{Error}
use Rattle.relay_tasks.specs.declared.error.Fail.{Fail}
use Rattle.relay_tasks.specs.declared.error.Fail.TheVariants as fail
use Rattle.relay_tasks.specs.declared.task.HttpTask.{HttpTask}
use Rattle.relay_tasks.specs.declared.task.HttpTask.TheVariants as task
use Rattle.relay_tasks.specs.declared.took.Took.{Took}
use Rattle.relay_tasks.specs.declared.took.Took.TheVariants as took
use Rattle.relay_tasks.specs.Task.{is_end}
use Rattle.relay_links.specs.declared.branch.Branch.{Branch}
use Rattle.relay_links.specs.declared.branch.Branch.TheVariants as branch
use Rattle.relay_links.specs.declared.link.Put.{Put}
use Rattle.relay_links.specs.declared.link.Put.TheVariants as put
use Rattle.relay_core.specs.declared.downstream_state.DownstreamStateMachine.{DownstreamStateMachine}
use Rattle.relay_core.specs.declared.downstream_state.DownstreamStateMachine.TheVariants.{Reading, ReadingFinished, Errored}
use Rattle.relay_core.specs.declared.duplex.Duplex.{Duplex}
use Rattle.relay_core.specs.declared.piece.Piece.{Piece}
use Rattle.relay_core.specs.declared.step.Step.{Step}
use Rattle.relay_core.specs.Batch.{batch_of, rest_of}
use Rattle.relay_core.specs.Down.{DownState, ReadsPiece, TakesBatch, Finishes, accepts}
use Rattle.relay_core.specs.Down as down
use Rattle.relay_core.specs.Piece.{put_of}
use Rattle.relay_core.specs.Sound.{Runs, ends_from, ends_with}
use Rattle.relay_core.specs.State.{is_response_done, is_reading, finished}
use Rattle.relay_core.specs.Steps.{StepsTo, with_requests, with_responses}
use Rattle.relay_core.specs.Table.{State, enabled, down_runs, up_runs, is_failed, failed, with_send_error, after_up_write, after_down_write, after_piece, with_piece_sent, ends_tunnel, ends_request, with_upgrade, with_response_done, with_request_done, after_batch, after_up_read, with_task_read, told_error, after_down_read, after_up_finish, after_down_finish}
use Rattle.relay_core.proofs.BoolLemmas.{clash, and_left, and_right, and_both, or_inl, or_inr, or_cases, or-true, not_true}
use Rattle.relay_core.proofs.MoveLemmas.{batch-rest}

-- what holds of a duplex holds at what it is
runs_at : (d d' : Duplex) (b b' u u' : Bool) → d' ≡ d → b' ≡ b → u' ≡ u → Runs d b u
    → Runs d' b' u'
runs_at d d' b b' u u' is same same' r =
    let P : Duplex → Type 0 = λ x. Runs x b' u' in
    let Q : Bool → Type 0 = λ x. Runs d x u' in
    let R : Bool → Type 0 = λ x. Runs d b x in
    subst P (sym is) (subst Q (sym same) (subst R (sym same') r))

-- an end that was passed on stays so, where each of its forms does
end_stays : (a a' e e' c c' : Bool) → (a ≡ true → a' ≡ true) → (e ≡ true → e' ≡ true)
    → (c ≡ true → c' ≡ true) → (a || (e || c)) ≡ true → (a' || (e' || c')) ≡ true
end_stays true a' e e' c c' p q r h = or_inl a' (e' || c') (p refl)
end_stays false a' true e' c c' p q r h = or_inr a' (e' || c') (or_inl e' c' (q refl))
end_stays false a' false e' c c' p q r h = or_inr a' (e' || c') (or_inr e' c' (r h))

-- a request that is done stays done in a tunnel
tunnel_stays : (u q q' : Bool) → (q ≡ true → q' ≡ true) → (u && q) ≡ true → (u && q') ≡ true
tunnel_stays true q q' p h = p h
tunnel_stays false q q' p h = h

-- a response that is done stays done
done_stays : (u v c : Bool) → (u && c) ≡ true → ((u || v) && c) ≡ true
done_stays true v c h = h
done_stays false v c h = clash false h refl

-- a request that is read after it may have ended was read before, and did not end
read_before : (request : DownstreamStateMachine) (set : Bool)
    → is_reading (finished request set) ≡ true → (is_reading request ≡ true) × (set ≡ false)
read_before Reading true h = cc
read_before Reading false h = (refl, refl)
read_before ReadingFinished set h = cc
read_before Errored set h = cc

-- a duplex that failed owes nothing
runs_failed : (d : Duplex) (b u : Bool) → is_failed (failed d).word ≡ false → Runs (failed d) b u
runs_failed d b u h = clash true refl h

-- a send error is kept
runs_send_error : (d : Duplex) (error : Error) (b u : Bool) → Runs d b u
    → Runs (with_send_error d error) b u
runs_send_error d error b u r = record {
  uncached = r.uncached;
  reading = r.reading;
  unsent = λ h. refl;
  ended = λ h. end_stays _ _ _ _ (u && d.upstream_request_done) (u && true) (λ p. p) (λ p. p)
      (tunnel_stays u d.upstream_request_done true (λ p. refl)) (r.ended h);
  requests_closed = r.requests_closed;
  responses_closed = r.responses_closed;
  complete = r.complete;
}

-- one write to the upstream
runs_up_write : (d : Duplex) (answer : Put) (b u : Bool) → Runs d b u
    → is_failed (after_up_write d answer).word ≡ false → Runs (after_up_write d answer) b u
runs_up_write d (put.Took n) b u r h = r
runs_up_write d put.NotReady b u r h = r
runs_up_write d put.Silent b u r h = r
runs_up_write d (put.Failed fault) b u r h = runs_send_error d _ b u r
runs_up_write d put.OutOfMemory b u r h = runs_failed d b u h

-- one write to the client
runs_down_write : (d : Duplex) (answer : Put) (b u : Bool) → Runs d b u
    → is_failed (after_down_write d answer).word ≡ false → Runs (after_down_write d answer) b u
runs_down_write d (put.Took n) b u r h = r
runs_down_write d put.NotReady b u r h = r
runs_down_write d put.Silent b u r h = r
runs_down_write d (put.Failed fault) b u r h = runs_failed d b u h
runs_down_write d put.OutOfMemory b u r h = runs_failed d b u h

-- other tasks are held of the request
runs_requests : (d : Duplex) (tasks : List HttpTask) (b u : Bool) → Runs d b u
    → Runs (with_requests d tasks) b u
runs_requests d tasks b u r = record {
  uncached = r.uncached;
  reading = r.reading;
  unsent = r.unsent;
  ended = r.ended;
  requests_closed = r.requests_closed;
  responses_closed = r.responses_closed;
  complete = r.complete;
}

-- a piece with which a tunnel ends, ends the request too
ends_both : (tunnel : Bool) (piece : HttpTask) → ends_tunnel tunnel piece ≡ true
    → (tunnel ≡ true) × (ends_request tunnel piece ≡ true)
ends_both tunnel (task.Header head end) h = cc
ends_both tunnel (task.Body bytes end) h = cc
ends_both tunnel (task.UpgradedBody bytes end) h =
    (and_right end tunnel h, and_left end tunnel h)
ends_both tunnel (task.Trailer fields) h = cc
ends_both tunnel task.Done h = cc
ends_both tunnel (task.Failed error) h = cc

-- a piece went to the upstream
runs_sent : (d : Duplex) (piece : HttpTask) (b u : Bool) → Runs d b u
    → Runs (with_piece_sent d u piece) b u
runs_sent d piece b u r = record {
  uncached = r.uncached;
  reading = r.reading;
  unsent = λ h. or_inl d.upstream_request_done (ends_request u piece) (r.unsent h);
  ended = λ h. elim (or_cases d.upstream_response_done (ends_tunnel u piece) h) [
    | inl before ↦ end_stays _ _ _ _ (u && d.upstream_request_done)
        (u && (d.upstream_request_done || ends_request u piece)) (λ p. p) (λ p. p)
        (tunnel_stays u d.upstream_request_done (d.upstream_request_done || ends_request u piece)
        (or_inl d.upstream_request_done (ends_request u piece))) (r.ended before)
    | inr now ↦ or_inr (is_response_done d.client_response) _
        (or_inr (ends_with d.responses.tasks) _
        (and_both u (d.upstream_request_done || ends_request u piece) (ends_both u piece now).0
        (or_inr d.upstream_request_done (ends_request u piece) (ends_both u piece now).1)))
  ];
  requests_closed = r.requests_closed;
  responses_closed = r.responses_closed;
  complete = r.complete;
}

-- the upstream answered on it
runs_piece : (d : Duplex) (answer : Result Unit Fail) (b u : Bool) → Runs d b u
    → is_failed (after_piece d answer).word ≡ false → Runs (after_piece d answer) b u
runs_piece d (Ok done) b u r h = r
runs_piece d (Err (fail.Error error)) b u r h = runs_send_error d error b u r
runs_piece d (Err fail.OutOfMemory) b u r h = runs_failed d b u h

-- the last task of two lists is that of the second, or there is an end in the first
ends_in_parts : (so_far : Bool) (xs ys : List HttpTask) → ends_from so_far (xs ++ ys) ≡ true
    → (ends_with ys ≡ true) ⊎ ((so_far ≡ true) ⊎ (list_any is_end xs ≡ true))
ends_in_parts so_far [] [] h = inr (inl h)
ends_in_parts so_far [] (y ∷ ys) h = inl h
ends_in_parts so_far (x ∷ xs) ys h =
    elim (ends_in_parts (is_end x) xs ys h) [
      | inl last ↦ inl last
      | inr first ↦ elim first [
        | inl here ↦ inr (inr (or_inl (is_end x) (list_any is_end xs) here))
        | inr later ↦ inr (inr (or_inr (is_end x) (list_any is_end xs) later))
      ]
    ]

-- a list ends where its last task is an end
pub ends-append : (so_far : Bool) (xs : List HttpTask) (task : HttpTask)
    → ends_from so_far (xs ++ task ∷ []) ≡ is_end task
ends-append so_far [] task = refl
ends-append so_far (x ∷ xs) task = ends-append (is_end x) xs task

-- an end of the upstream's response is passed on with a batch
ended_after : (d : Duplex) (batch rest : List HttpTask) (done b u c : Bool)
    → batch ++ rest ≡ d.responses.tasks → Runs d b u
    → ((u && d.upstream_request_done) ≡ true → c ≡ true) → d.upstream_response_done ≡ true
    → (((d.client_response.upstream_done || (list_any is_end batch || done))
    && d.client_response.cached_done) || (ends_with rest || c)) ≡ true
ended_after d batch rest done b u c parts r tunnel h =
    let now : Bool = d.client_response.upstream_done || (list_any is_end batch || done) in
    let by_end = λ (end : list_any is_end batch ≡ true).
    or_inl (now && d.client_response.cached_done) (ends_with rest || c)
    (and_both now d.client_response.cached_done
    (or_inr d.client_response.upstream_done (list_any is_end batch || done)
    (or_inl (list_any is_end batch) done end)) r.uncached) in
    elim (or_cases (is_response_done d.client_response)
    (ends_with d.responses.tasks || (u && d.upstream_request_done)) (r.ended h)) [
      | inl before ↦ or_inl (now && d.client_response.cached_done) (ends_with rest || c)
          (done_stays d.client_response.upstream_done (list_any is_end batch || done)
          d.client_response.cached_done before)
      | inr other ↦ elim (or_cases (ends_with d.responses.tasks) (u && d.upstream_request_done)
          other) [
            | inl last ↦ elim (ends_in_parts false batch rest
                (ap (λ (xs : List HttpTask). ends_with xs) parts ∙ last)) [
                  | inl behind ↦ or_inr (now && d.client_response.cached_done) (ends_with rest || c)
                      (or_inl (ends_with rest) c behind)
                  | inr first ↦ elim first [
                    | inl never ↦ clash false never refl
                    | inr end ↦ by_end end
                  ]
                ]
            | inr ended ↦ or_inr (now && d.client_response.cached_done) (ends_with rest || c)
                (or_inr (ends_with rest) c (tunnel ended))
          ]
    ]

-- the client was given a batch; a 101 was accepted in it or not
runs_batch : (d : Duplex) (batch rest : List HttpTask) (done accepted b b' u u' : Bool)
    → batch ++ rest ≡ d.responses.tasks → b' ≡ (if accepted then false else b)
    → (u ≡ true → accepted ≡ false) → (u ≡ true → u' ≡ true) → Runs d b u
    → Runs (with_request_done (with_response_done (with_upgrade (with_responses d rest) accepted)
    (list_any is_end batch || done)) (list_any is_end batch && u')) b' u'
runs_batch d batch rest done true b b' u u' parts was once stays r = record {
  uncached = r.uncached;
  reading = λ h. was;
  unsent = λ h. and_both d.upstream_request_done (is_some d.send_error) (r.unsent h) h;
  ended = ended_after d batch rest done b u
      (u' && (d.upstream_request_done && is_some d.send_error)) parts r
      (λ is. clash true refl (once (and_left u d.upstream_request_done is)));
  requests_closed = r.requests_closed;
  responses_closed = r.responses_closed;
  complete = r.complete;
}
runs_batch d batch rest done false b b' u u' parts was once stays r = record {
  uncached = r.uncached;
  reading = λ h. was
      ∙ r.reading (read_before d.client_request (list_any is_end batch && u') h).0;
  unsent = r.unsent;
  ended = ended_after d batch rest done b u (u' && d.upstream_request_done) parts r
      (λ is. and_both u' d.upstream_request_done (stays (and_left u d.upstream_request_done is))
      (and_right u d.upstream_request_done is));
  requests_closed = r.requests_closed;
  responses_closed = r.responses_closed;
  complete = r.complete;
}

-- a client that was upgraded accepts no 101 again
accepts_once : (side side' : DownState) → side.upgraded ≡ true → accepts side side' ≡ false
accepts_once side side' is = rw is refl

-- the client answered on a batch
runs_after_batch : (d : Duplex) (side side' : DownState) (batch rest : List HttpTask)
    (answer : Result Bool Fail) → batch ++ rest ≡ d.responses.tasks
    → TakesBatch side batch side' answer → Runs d side.body_done side.upgraded
    → is_failed (after_batch (with_responses d rest) side batch side' answer).word ≡ false
    → Runs (after_batch (with_responses d rest) side batch side' answer) side'.body_done
    side'.upgraded
runs_after_batch d side side' batch rest (Ok done) parts takes r h =
    runs_batch d batch rest done (accepts side side') side.body_done side'.body_done
    side.upgraded side'.upgraded parts (ap (λ (s : DownState). s.body_done) takes.exact)
    (accepts_once side side') takes.upgraded_stays r
runs_after_batch d side side' batch rest (Err why) parts takes r h =
    runs_failed (with_responses d rest) side'.body_done side'.upgraded h

-- a task was dropped, the response being done
runs_drop : (d : Duplex) (rest : List HttpTask) (b u : Bool)
    → is_response_done d.client_response ≡ true → Runs d b u → Runs (with_responses d rest) b u
runs_drop d rest b u done r = record {
  uncached = r.uncached;
  reading = r.reading;
  unsent = r.unsent;
  ended = λ h. or_inl (is_response_done d.client_response) _ done;
  requests_closed = r.requests_closed;
  responses_closed = r.responses_closed;
  complete = r.complete;
}

-- the response is done
runs_response_done : (d : Duplex) (done b u : Bool) → Runs d b u
    → Runs (with_response_done d done) b u
runs_response_done d done b u r = record {
  uncached = r.uncached;
  reading = r.reading;
  unsent = r.unsent;
  ended = λ h. end_stays (is_response_done d.client_response) _ (ends_with d.responses.tasks)
      (ends_with d.responses.tasks) (u && d.upstream_request_done) (u && d.upstream_request_done)
      (done_stays d.client_response.upstream_done done d.client_response.cached_done) (λ p. p)
      (λ p. p) (r.ended h);
  requests_closed = r.requests_closed;
  responses_closed = r.responses_closed;
  complete = r.complete;
}

-- the client's request may have ended; where it is still read, its body is open
runs_request_done : (d : Duplex) (done b b' u : Bool) → (done ≡ false → b' ≡ b) → Runs d b u
    → Runs (with_request_done d done) b' u
runs_request_done d done b b' u same r = record {
  uncached = r.uncached;
  reading = λ h. same (read_before d.client_request done h).1
      ∙ r.reading (read_before d.client_request done h).0;
  unsent = r.unsent;
  ended = r.ended;
  requests_closed = r.requests_closed;
  responses_closed = r.responses_closed;
  complete = r.complete;
}

-- the upstream gave a task
runs_task_read : (d : Duplex) (tunnel : Bool) (task : HttpTask) (b u : Bool)
    → d.upstream_response_done ≡ false → Runs d b u → Runs (with_task_read d tunnel task) b u
runs_task_read d tunnel task b u runs r = record {
  uncached = r.uncached;
  reading = r.reading;
  unsent = λ h. or_inl d.upstream_request_done (is_end task && tunnel) (r.unsent h);
  ended = λ h. elim (or_cases d.upstream_response_done (is_end task) h) [
    | inl before ↦ clash d.upstream_response_done before runs
    | inr now ↦ or_inr (is_response_done d.client_response) _
        (or_inl (ends_with (d.responses.tasks ++ task ∷ [])) _
        (ends-append false d.responses.tasks task ∙ now))
  ];
  requests_closed = r.requests_closed;
  responses_closed = r.responses_closed;
  complete = r.complete;
}

-- one read of the upstream
runs_up_read : (d : Duplex) (tunnel : Bool) (answer : Took HttpTask) (b u : Bool)
    → d.upstream_response_done ≡ false → Runs d b u
    → is_failed (after_up_read d tunnel answer).word ≡ false
    → Runs (after_up_read d tunnel answer) b u
runs_up_read d tunnel (took.Item task) b u runs r h = runs_task_read d tunnel task b u runs r
runs_up_read d tunnel took.More b u runs r h = r
runs_up_read d tunnel (took.Waited why) b u runs r h = r
runs_up_read d tunnel took.End b u runs r h = r
runs_up_read d tunnel (took.Failed (fail.Error error)) b u runs r h =
    runs_task_read d tunnel (task.Failed (told_error d.send_error error)) b u runs r
runs_up_read d tunnel (took.Failed fail.OutOfMemory) b u runs r h = runs_failed d b u h

-- a body that was open and did not end is open
body_stays : (b end : Bool) → end ≡ false → (b || end) ≡ b
body_stays true end is = refl
body_stays false end is = is

-- one read of the client
runs_down_read : (d : Duplex) (side side' : DownState) (answer : Took Piece)
    → ReadsPiece side side' answer → Runs d side.body_done side.upgraded
    → is_failed (after_down_read d side.upgraded answer).word ≡ false
    → Runs (after_down_read d side.upgraded answer) side'.body_done side'.upgraded
runs_down_read d side side' (took.Item piece) reads r h =
    let with_tasks =
    runs_requests d (d.requests.tasks ++ put_of side.upgraded piece) side.body_done
    side.upgraded r in
    let read = runs_request_done _ piece.client_end side.body_done side'.body_done side.upgraded
    (λ end. ap (λ (s : DownState). s.body_done) reads.exact
    ∙ body_stays side.body_done piece.client_end end) with_tasks in
    runs_at _ _ side'.body_done side'.body_done side.upgraded side'.upgraded refl refl
    (ap (λ (s : DownState). s.upgraded) reads.exact)
    (runs_response_done _ (piece.client_end && side.upgraded) side'.body_done side.upgraded read)
runs_down_read d side side' took.More reads r h =
    runs_at d d side.body_done side'.body_done side.upgraded side'.upgraded refl
    (ap (λ (s : DownState). s.body_done) reads) (ap (λ (s : DownState). s.upgraded) reads) r
runs_down_read d side side' (took.Waited why) reads r h =
    runs_at d d side.body_done side'.body_done side.upgraded side'.upgraded refl
    (ap (λ (s : DownState). s.body_done) reads) (ap (λ (s : DownState). s.upgraded) reads) r
runs_down_read d side side' took.End reads r h = absurd reads
runs_down_read d side side' (took.Failed why) reads r h =
    runs_failed d side'.body_done side'.upgraded h

-- the upstream half came to its end
runs_up_finish : (d : Duplex) (why : Option Error) (b u : Bool) → Runs d b u
    → is_failed (after_up_finish d why).word ≡ false → Runs (after_up_finish d why) b u
runs_up_finish d None b u r h = record {
  uncached = r.uncached;
  reading = r.reading;
  unsent = r.unsent;
  ended = r.ended;
  requests_closed = refl;
  responses_closed = refl;
  complete = r.complete;
}
runs_up_finish d (Some error) b u r h = runs_failed d b u h

-- the response's body was ended
runs_down_finish : (d : Duplex) (pending : Bool) (answer : Result Unit Fail) (b u : Bool)
    → Runs d b u → is_failed (after_down_finish d pending answer).word ≡ false
    → Runs (after_down_finish d pending answer) b u
runs_down_finish d true (Ok done) b u r h = r
runs_down_finish d false (Ok done) b u r h = record {
  uncached = r.uncached;
  reading = r.reading;
  unsent = r.unsent;
  ended = r.ended;
  requests_closed = r.requests_closed;
  responses_closed = sym (or-true d.upstream_finished);
  complete = refl;
}
runs_down_finish d true (Err why) b u r h = runs_failed d b u h
runs_down_finish d false (Err why) b u r h = runs_failed d b u h

-- what a side tells of its body and of an upgrade stays
pub record SameBody (old new : DownState) : Type 0 where
  pub body : new.body_done ≡ old.body_done
  pub upgraded : new.upgraded ≡ old.upgraded

-- a side that became one with the same body and upgrade keeps them
body_of : (old mid new : DownState) → new ≡ mid → mid.body_done ≡ old.body_done
    → mid.upgraded ≡ old.upgraded → SameBody old new
body_of old mid new is body upgraded = record {
  body = ap (λ (s : DownState). s.body_done) is ∙ body;
  upgraded = ap (λ (s : DownState). s.upgraded) is ∙ upgraded;
}

-- a side that stayed as it was keeps both
same_body : (old new : DownState) → new ≡ old → SameBody old new
same_body old new is = body_of old old new is refl refl

-- a write to the client leaves both
pub down_writes_body : (old new : DownState) (answer : Put) → down.Writes old new answer
    → SameBody old new
down_writes_body old new (put.Took n) is = body_of old _ new is refl refl
down_writes_body old new put.NotReady is = body_of old _ new is refl refl
down_writes_body old new put.Silent is = body_of old _ new is refl refl
down_writes_body old new (put.Failed fault) is = body_of old _ new is refl refl
down_writes_body old new put.OutOfMemory is = same_body old new is

-- the end of the response's body leaves both
pub down_ends_body : (old new : DownState) (answer : Result Unit Fail) → Finishes old new answer
    → SameBody old new
down_ends_body old new (Ok done) ends = body_of old _ new ends.exact refl refl
down_ends_body old new (Err why) is = body_of old _ new is refl refl

-- what holds after the effect of a branch holds of the new state
runs_then : (wanted : Duplex) (old new : State) → new.duplex ≡ wanted
    → SameBody old.down new.down
    → (is_failed wanted.word ≡ false → Runs wanted old.down.body_done old.down.upgraded)
    → is_failed new.duplex.word ≡ false
    → Runs new.duplex new.down.body_done new.down.upgraded
runs_then wanted old new is same made h =
    runs_at wanted new.duplex old.down.body_done new.down.body_done old.down.upgraded
    new.down.upgraded is same.body same.upgraded
    (made (sym (ap (λ (d : Duplex). is_failed d.word) is) ∙ h))

-- a half that runs has not failed
pub up_sound : (d : Duplex) → up_runs d ≡ true → is_failed d.word ≡ false
up_sound d runs = not_true (is_failed d.word) (and_right (not d.upstream_finished) _ runs)

-- a client's half that goes on has not failed
pub down_sound : (d : Duplex) → down_runs d ≡ true → is_failed d.word ≡ false
down_sound d runs = not_true (is_failed d.word) (and_right (not d.client_finished) _ runs)

-- where no half fails, the halves agree after each step
pub step_runs : (b : Branch) (old new : State) (result : Step) → enabled old b ≡ true
    → StepsTo b old new result → Runs old.duplex old.down.body_done old.down.upgraded
    → is_failed new.duplex.word ≡ false → Runs new.duplex new.down.body_done new.down.upgraded
step_runs branch.UpWrite old new result on by r =
    runs_then _ old new by.does.duplex (same_body old.down new.down by.down)
    (runs_up_write old.duplex by.does.answer old.down.body_done old.down.upgraded r)
step_runs branch.DownWrite old new result on by r =
    runs_then _ old new by.does.duplex
    (down_writes_body old.down new.down by.does.answer by.does.writes)
    (runs_down_write old.duplex by.does.answer old.down.body_done old.down.upgraded r)
step_runs branch.UpTake old new result on by r =
    runs_then _ old new by.does.duplex (same_body old.down new.down by.down)
    (runs_piece _ by.does.answer old.down.body_done old.down.upgraded
    (runs_sent (with_requests old.duplex by.does.rest) by.does.piece old.down.body_done
    old.down.upgraded
    (runs_requests old.duplex by.does.rest old.down.body_done old.down.upgraded r)))
step_runs branch.DownTake old new result on by r =
    let held = old.duplex.responses.tasks in
    elim by.does [
      | inl gives ↦ λ h. runs_at _ new.duplex new.down.body_done new.down.body_done
          new.down.upgraded new.down.upgraded gives.duplex refl refl
          (runs_after_batch old.duplex old.down new.down (batch_of held) (rest_of held) gives.answer
          (batch-rest held) gives.takes r
          (sym (ap (λ (d : Duplex). is_failed d.word) gives.duplex) ∙ h))
      | inr loses ↦ λ h. clash true refl
          (sym (ap (λ (d : Duplex). is_failed d.word) loses.duplex) ∙ h)
    ]
step_runs branch.DownDrop old new result on by r =
    runs_then _ old new by.does.duplex (same_body old.down new.down by.down)
    (λ h. runs_drop old.duplex by.does.rest old.down.body_done old.down.upgraded
    (and_left (is_response_done old.duplex.client_response) _
    (and_right (down_runs old.duplex) _ on)) r)
step_runs branch.DownEnd old new result on by r =
    runs_then _ old new by.does.duplex (same_body old.down new.down by.down)
    (λ h. runs_response_done old.duplex true old.down.body_done old.down.upgraded r)
step_runs branch.DownClosed old new result on by r =
    runs_then _ old new by.does.duplex (same_body old.down new.down by.down)
    (λ h. runs_request_done old.duplex true old.down.body_done old.down.body_done
    old.down.upgraded (λ p. refl) r)
step_runs branch.UpRead old new result on by r =
    runs_then _ old new by.does.duplex (same_body old.down new.down by.down)
    (runs_up_read old.duplex old.down.upgraded by.does.answer old.down.body_done
    old.down.upgraded
    (not_true old.duplex.upstream_response_done
    (and_left (not old.duplex.upstream_response_done) _ (and_right (up_runs old.duplex) _ on)))
    r)
step_runs branch.DownRead old new result on by r =
    λ h. runs_at _ new.duplex new.down.body_done new.down.body_done new.down.upgraded
    new.down.upgraded by.does.duplex refl refl
    (runs_down_read old.duplex old.down new.down by.does.answer by.does.reads r
    (sym (ap (λ (d : Duplex). is_failed d.word) by.does.duplex) ∙ h))
step_runs branch.UpFinish old new result on by r =
    runs_then _ old new by.does.duplex (same_body old.down new.down by.down)
    (runs_up_finish old.duplex _ old.down.body_done old.down.upgraded r)
step_runs branch.DownFinish old new result on by r =
    runs_then _ old new by.does.duplex
    (down_ends_body old.down new.down by.does.answer by.does.ends)
    (runs_down_finish old.duplex new.down.pending by.does.answer old.down.body_done
    old.down.upgraded r)
step_runs branch.MessageUp old new result on by r = absurd by
step_runs branch.MessageDown old new result on by r = absurd by
