-- What a step adds to what passed, in numbers, by each branch.
--
--   adds_same    a step that did nothing
--   adds_then    a step behind another
--   adds_read    one read of the upstream
--   adds_by      any other branch
use Rattle.std.proofs.Common.{◌≡◌, ◌+◌, ◌≤◌, Bool, true, false, ◌&&◌, ◌||◌, not, List, [], ◌∷◌, ◌++◌, length, length-append, append-nil, Option, Some, None, Result, Ok, Err, refl, sym, ap, ◌∙◌, subst, inl, inr, arith}
use Rattle.relay_tasks.specs.declared.error.Error.{Error}
use Rattle.relay_tasks.specs.declared.error.Fail.{Fail}
use Rattle.relay_tasks.specs.declared.error.Fail.TheVariants as fail
use Rattle.relay_tasks.specs.declared.task.HttpTask.{HttpTask}
use Rattle.relay_tasks.specs.declared.took.Took.{Took}
use Rattle.relay_tasks.specs.declared.took.Took.TheVariants as took
use Rattle.relay_tasks.specs.Task.{is_end}
use Rattle.relay_links.specs.declared.branch.Branch.{Branch}
use Rattle.relay_links.specs.declared.branch.Branch.TheVariants as branch
use Rattle.relay_links.specs.declared.link.Put.{Put}
use Rattle.relay_links.specs.declared.link.Put.TheVariants as put
use Rattle.relay_core.specs.declared.downstream_state.DownstreamStateMachine.{DownstreamStateMachine}
use Rattle.relay_core.specs.declared.downstream_state.DownstreamStateMachine.TheVariants as request
use Rattle.relay_core.specs.declared.duplex.Duplex.{Duplex}
use Rattle.relay_core.specs.declared.piece.Piece.{Piece}
use Rattle.relay_core.specs.declared.step.Step.{Step}
use Rattle.relay_core.specs.Batch.{batch_of, rest_of}
use Rattle.relay_core.specs.Counts.{one_if, EndsStay, Adds}
use Rattle.relay_core.specs.Down.{DownState, ReadsPiece, TakesBatch, Finishes, accepts}
use Rattle.relay_core.specs.Down as down
use Rattle.relay_core.specs.Past.{UpPast, task_in}
use Rattle.relay_core.specs.Piece.{put_of}
use Rattle.relay_core.specs.State.{is_reading, is_response_done, finished}
use Rattle.relay_core.specs.Steps.{StepsTo, with_requests, with_responses}
use Rattle.relay_core.specs.Table.{State, enabled, is_failed, failed, with_send_error, after_up_write, after_down_write, after_piece, with_piece_sent, after_up_take, with_upgrade, with_response_done, with_request_done, after_batch, with_task_read, after_up_read, after_down_read, after_up_finish, after_down_finish}
use Rattle.relay_core.proofs.BoolLemmas.{clash, or_inl}
use Rattle.relay_core.proofs.SoundLemmas.{enabled_sound}
use Rattle.relay_core.proofs.MoveLemmas.{batch-rest}

-- ---- the duplex

-- no more is held of the response, and what is done stays so, the request where no 101 was accepted
record Stays (accepted : Bool) (d d' : Duplex) : Type 0 where
  responses : length d'.responses.tasks ≤ length d.responses.tasks
  ended : d.upstream_response_done ≡ true → d'.upstream_response_done ≡ true
  request : accepted ≡ false → is_reading d.client_request ≡ false
      → is_reading d'.client_request ≡ false
  response : is_response_done d.client_response ≡ true → is_response_done d'.client_response ≡ true
  up_finished : d.upstream_finished ≡ true → d'.upstream_finished ≡ true
  client_finished : d.client_finished ≡ true → d'.client_finished ≡ true

module _ (accepted : Bool) where
  -- a duplex stays as it is
  stays_same : (d : Duplex) → Stays accepted d d
  stays_same d = record {
    responses = omega arith;
    ended = λ h. h;
    request = λ none h. h;
    response = λ h. h;
    up_finished = λ h. h;
    client_finished = λ h. h;
  }

  -- one change behind another
  stays_next : (a b c : Duplex) → Stays accepted a b → Stays accepted b c → Stays accepted a c
  stays_next a b c one two = record {
    responses = omega (arith, one.responses, two.responses);
    ended = λ h. two.ended (one.ended h);
    request = λ none h. two.request none (one.request none h);
    response = λ h. two.response (one.response h);
    up_finished = λ h. two.up_finished (one.up_finished h);
    client_finished = λ h. two.client_finished (one.client_finished h);
  }

  -- so does what it became
  stays_at : (old wanted new : Duplex) → new ≡ wanted → Stays accepted old wanted
      → Stays accepted old new
  stays_at old wanted new is stays =
      let P : Duplex → Type 0 = λ d. Stays accepted old d in subst P (sym is) stays

  -- a half that failed
  stays_failed : (d : Duplex) → Stays accepted d (failed d)
  stays_failed d = record {
    responses = omega arith;
    ended = λ h. h;
    request = λ none h. h;
    response = λ h. h;
    up_finished = λ h. h;
    client_finished = λ h. h;
  }

  -- a send error
  stays_send_error : (d : Duplex) (error : Error) → Stays accepted d (with_send_error d error)
  stays_send_error d error = record {
    responses = omega arith;
    ended = λ h. h;
    request = λ none h. h;
    response = λ h. h;
    up_finished = λ h. h;
    client_finished = λ h. h;
  }

  -- a write to the upstream
  stays_up_write : (d : Duplex) (answer : Put) → Stays accepted d (after_up_write d answer)
  stays_up_write d (put.Took n) = stays_same d
  stays_up_write d put.NotReady = stays_same d
  stays_up_write d put.Silent = stays_same d
  stays_up_write d (put.Failed fault) = stays_send_error d _
  stays_up_write d put.OutOfMemory = stays_failed d

  -- a write to the client
  stays_down_write : (d : Duplex) (answer : Put) → Stays accepted d (after_down_write d answer)
  stays_down_write d (put.Took n) = stays_same d
  stays_down_write d put.NotReady = stays_same d
  stays_down_write d put.Silent = stays_same d
  stays_down_write d (put.Failed fault) = stays_failed d
  stays_down_write d put.OutOfMemory = stays_failed d

  -- the answer on a piece
  stays_piece : (d : Duplex) (answer : Result Unit Fail) → Stays accepted d (after_piece d answer)
  stays_piece d (Ok done) = stays_same d
  stays_piece d (Err (fail.Error error)) = stays_send_error d error
  stays_piece d (Err fail.OutOfMemory) = stays_failed d

  -- a piece that went to the upstream
  stays_take : (d : Duplex) (rest : List HttpTask) (tunnel : Bool) (piece : HttpTask)
      (answer : Result Unit Fail)
      → Stays accepted d (after_up_take (with_requests d rest) tunnel piece answer)
  stays_take d rest tunnel piece answer =
      let mid = with_requests d rest in
      stays_next d (with_piece_sent mid tunnel piece) _
      (record {
        responses = omega arith;
        ended = λ h. or_inl d.upstream_response_done _ h;
        request = λ none h. h;
        response = λ h. h;
        up_finished = λ h. h;
        client_finished = λ h. h;
      })
      (stays_piece (with_piece_sent mid tunnel piece) answer)

  -- fewer tasks of the response are held
  stays_fewer : (d : Duplex) (front rest : List HttpTask) → d.responses.tasks ≡ front ++ rest
      → Stays accepted d (with_responses d rest)
  stays_fewer d front rest parts = record {
    responses = omega
        (arith, ap (λ (xs : List HttpTask). length xs) parts, length-append front rest);
    ended = λ h. h;
    request = λ none h. h;
    response = λ h. h;
    up_finished = λ h. h;
    client_finished = λ h. h;
  }

  -- a response that is done stays so
  more_done : (u c done : Bool) → (u && c) ≡ true → ((u || done) && c) ≡ true
  more_done true c done h = h
  more_done false c done h = cc

  -- a response that is done, or not
  stays_response : (d : Duplex) (done : Bool) → Stays accepted d (with_response_done d done)
  stays_response d done = record {
    responses = omega arith;
    ended = λ h. h;
    request = λ none h. h;
    response = λ h. more_done d.client_response.upstream_done d.client_response.cached_done done h;
    up_finished = λ h. h;
    client_finished = λ h. h;
  }

  -- a request that is not read is not read once it may have ended
  not_reading : (m : DownstreamStateMachine) (done : Bool) → is_reading m ≡ false
      → is_reading (finished m done) ≡ false
  not_reading request.Reading done h = cc
  not_reading request.ReadingFinished done h = refl
  not_reading request.Errored done h = refl

  -- a request that is done, or not
  stays_request : (d : Duplex) (done : Bool) → Stays accepted d (with_request_done d done)
  stays_request d done = record {
    responses = omega arith;
    ended = λ h. h;
    request = λ none h. not_reading d.client_request done h;
    response = λ h. h;
    up_finished = λ h. h;
    client_finished = λ h. h;
  }

  -- a 101 that was accepted or not
  stays_upgrade : (d : Duplex) (opens : Bool) → opens ≡ accepted
      → Stays accepted d (with_upgrade d opens)
  stays_upgrade d false is = stays_same d
  stays_upgrade d true is = record {
    responses = omega arith;
    ended = λ h. h;
    request = λ none h. clash true refl (is ∙ none);
    response = λ h. h;
    up_finished = λ h. h;
    client_finished = λ h. h;
  }

  -- a batch
  stays_batch : (d : Duplex) (side : DownState) (tasks : List HttpTask) (side' : DownState)
      (answer : Result Bool Fail) → accepts side side' ≡ accepted
      → Stays accepted d (after_batch d side tasks side' answer)
  stays_batch d side tasks side' (Ok done) is =
      stays_next _ _ _
      (stays_next _ _ _ (stays_upgrade d (accepts side side') is)
      (stays_response (with_upgrade d (accepts side side')) _))
      (stays_request _ _)
  stays_batch d side tasks side' (Err why) is = stays_failed d

  -- more pieces of the request are held
  stays_more : (d : Duplex) (tasks : List HttpTask) → Stays accepted d (with_requests d tasks)
  stays_more d tasks = record {
    responses = omega arith;
    ended = λ h. h;
    request = λ none h. h;
    response = λ h. h;
    up_finished = λ h. h;
    client_finished = λ h. h;
  }

  -- a read of the client
  stays_read : (d : Duplex) (upgraded : Bool) (answer : Took Piece)
      → Stays accepted d (after_down_read d upgraded answer)
  stays_read d upgraded (took.Item piece) =
      let put = with_requests d (d.requests.tasks ++ put_of upgraded piece) in
      stays_next d (with_request_done put piece.client_end) _
      (stays_next d put _ (stays_more d _) (stays_request put piece.client_end))
      (stays_response (with_request_done put piece.client_end) _)
  stays_read d upgraded took.More = stays_same d
  stays_read d upgraded (took.Waited pause) = stays_same d
  stays_read d upgraded took.End = stays_same d
  stays_read d upgraded (took.Failed why) = stays_failed d

  -- the end of the upstream half
  stays_up_finish : (d : Duplex) (why : Option Error) → Stays accepted d (after_up_finish d why)
  stays_up_finish d None = record {
    responses = omega arith;
    ended = λ h. h;
    request = λ none h. h;
    response = λ h. h;
    up_finished = λ h. refl;
    client_finished = λ h. h;
  }
  stays_up_finish d (Some error) = stays_failed d

  -- the end of the response's body
  stays_down_finish : (d : Duplex) (pending : Bool) (answer : Result Unit Fail)
      → Stays accepted d (after_down_finish d pending answer)
  stays_down_finish d true (Ok done) = stays_same d
  stays_down_finish d false (Ok done) = record {
    responses = omega arith;
    ended = λ h. h;
    request = λ none h. h;
    response = λ h. h;
    up_finished = λ h. h;
    client_finished = λ h. refl;
  }
  stays_down_finish d true (Err why) = stays_failed d
  stays_down_finish d false (Err why) = stays_failed d

-- ---- the client's side

-- an upgrade stays, and none was accepted where there is none; and where no half failed a body that
-- was ended stays so
record SideStays (accepted failed : Bool) (side side' : DownState) : Type 0 where
  plain : side'.upgraded ≡ false → side.upgraded ≡ false
  none : side'.upgraded ≡ false → accepted ≡ false
  body : failed ≡ false → side.body_finished ≡ true → side'.body_finished ≡ true

-- a side that stands
side_same : (failed : Bool) (side side' : DownState) → side' ≡ side
    → SideStays false failed side side'
side_same failed side side' is = record {
  plain = λ h. sym (ap (λ (s : DownState). s.upgraded) is) ∙ h;
  none = λ h. refl;
  body = λ now h. ap (λ (s : DownState). s.body_finished) is ∙ h;
}

-- a side that became one which keeps both
side_at : (failed : Bool) (side mid side' : DownState) → side' ≡ mid → mid.upgraded ≡ side.upgraded
    → (failed ≡ false → side.body_finished ≡ true → mid.body_finished ≡ true)
    → SideStays false failed side side'
side_at failed side mid side' is upgraded body = record {
  plain = λ h. sym upgraded ∙ sym (ap (λ (s : DownState). s.upgraded) is) ∙ h;
  none = λ h. refl;
  body = λ now h. ap (λ (s : DownState). s.body_finished) is ∙ body now h;
}

-- a write to the client
side_write : (failed : Bool) (side side' : DownState) (answer : Put)
    → down.Writes side side' answer → SideStays false failed side side'
side_write failed side side' (put.Took n) is = side_at failed side _ side' is refl (λ now h. h)
side_write failed side side' put.NotReady is = side_at failed side _ side' is refl (λ now h. h)
side_write failed side side' put.Silent is = side_at failed side _ side' is refl (λ now h. h)
side_write failed side side' (put.Failed fault) is =
    side_at failed side _ side' is refl (λ now h. h)
side_write failed side side' put.OutOfMemory is = side_same failed side side' is

-- a read of the client
side_read : (failed : Bool) (side side' : DownState) (answer : Took Piece)
    → ReadsPiece side side' answer → SideStays false failed side side'
side_read failed side side' (took.Item piece) reads =
    side_at failed side _ side' reads.exact refl (λ now h. h)
side_read failed side side' took.More is = side_same failed side side' is
side_read failed side side' (took.Waited pause) is =
    side_at failed side _ side' is refl (λ now h. h)
side_read failed side side' took.End reads = absurd reads
side_read failed side side' (took.Failed why) is = side_at failed side _ side' is refl (λ now h. h)

-- the end of the response's body
side_finish : (failed : Bool) (side side' : DownState) (answer : Result Unit Fail)
    → Finishes side side' answer → SideStays false failed side side'
side_finish failed side side' (Ok done) ends =
    side_at failed side _ side' ends.exact refl (λ now h. refl)
side_finish failed side side' (Err why) is = side_at failed side _ side' is refl (λ now h. h)

-- no upgrade, so none was accepted
none_accepted : (before after : Bool) → after ≡ false → (not before && after) ≡ false
none_accepted true after h = refl
none_accepted false after h = h

-- an upgrade that stays was not before where there is none
not_yet : (before after : Bool) → (before ≡ true → after ≡ true) → after ≡ false
    → before ≡ false
not_yet true after stays h = clash after (stays refl) h
not_yet false after stays h = refl

-- a batch
side_batch : (failed : Bool) (side side' : DownState) (tasks : List HttpTask)
    (answer : Result Bool Fail) → TakesBatch side tasks side' answer
    → ((why : Fail) → answer ≡ Err why → failed ≡ true)
    → SideStays (accepts side side') failed side side'
side_batch failed side side' tasks (Ok done) takes fails = record {
  plain = λ h. not_yet side.upgraded side'.upgraded takes.upgraded_stays h;
  none = λ h. none_accepted side.upgraded side'.upgraded h;
  body = λ now h. takes.finished_stays h;
}
side_batch failed side side' tasks (Err why) takes fails = record {
  plain = λ h. not_yet side.upgraded side'.upgraded takes.upgraded_stays h;
  none = λ h. none_accepted side.upgraded side'.upgraded h;
  body = λ now h. clash failed (fails why refl) now;
}

-- ---- a step

-- a number that counts a test that stays
one_stays : (a b : Bool) → (a ≡ true → b ≡ true) → one_if a ≤ one_if b
one_stays true b holds = omega (arith, ap one_if (holds refl))
one_stays false b holds = omega arith

-- where the duplex and the client's side stay
adds_stays : (accepted : Bool) (old new : State) (q q' : UpPast) (more : List HttpTask)
    → is_failed old.duplex.word ≡ false → Stays accepted old.duplex new.duplex
    → SideStays accepted (is_failed new.duplex.word) old.down new.down
    → q'.read ≡ q.read ++ more → Adds old new q q'
adds_stays accepted old new q q' more alive stays side is =
    let longer : length q'.read ≡ length q.read + length more =
    ap (λ (xs : List HttpTask). length xs) is ∙ length-append q.read more in
    let ended = one_stays old.duplex.upstream_response_done new.duplex.upstream_response_done
    stays.ended in
    record {
      held = omega (arith, stays.responses, longer, ended);
      read = omega (arith, longer, ended);
      alive = λ now. alive;
      plain = side.plain;
      stay = λ now open_still. record {
        request = stays.request (side.none open_still);
        response = stays.response;
        up_finished = stays.up_finished;
        client_finished = stays.client_finished;
        body_finished = side.body now;
      };
    }

-- a half that failed says so
failed_says : (d wanted : Duplex) → d ≡ failed wanted → is_failed d.word ≡ true
failed_says d wanted is = ap (λ (x : Duplex). is_failed x.word) is

-- a batch that was refused fails its half
batch_fails : (d wanted : Duplex) (side side' : DownState) (tasks : List HttpTask)
    (answer : Result Bool Fail) → d ≡ after_batch wanted side tasks side' answer → (why : Fail)
    → answer ≡ Err why → is_failed d.word ≡ true
batch_fails d wanted side side' tasks (Ok done) is why err = absurd (cc)
batch_fails d wanted side side' tasks (Err e) is why err = failed_says d wanted is

-- a step by any branch but a read of the upstream
pub adds_by : (b : Branch) (old new : State) (result : Step) → enabled old b ≡ true
    → StepsTo b old new result → (q q' : UpPast) → q'.read ≡ q.read
    → (b ≡ branch.UpRead → ⊥) → Adds old new q q'
adds_by b old new result on by q q' is no_read =
    let alive = enabled_sound b old on in
    let same : q'.read ≡ q.read ++ [] = is ∙ sym (append-nil q.read) in
    by_branch b by no_read alive same
  where
    d : Duplex
    d = old.duplex

    f : Bool
    f = is_failed new.duplex.word

    by_branch : (b : Branch) → StepsTo b old new result → (b ≡ branch.UpRead → ⊥)
        → is_failed old.duplex.word ≡ false → q'.read ≡ q.read ++ [] → Adds old new q q'
    by_branch branch.UpWrite by no_read alive same =
        adds_stays false old new q q' [] alive
        (stays_at false d _ new.duplex by.does.duplex (stays_up_write false d by.does.answer))
        (side_same f old.down new.down by.down) same
    by_branch branch.DownWrite by no_read alive same =
        adds_stays false old new q q' [] alive
        (stays_at false d _ new.duplex by.does.duplex (stays_down_write false d by.does.answer))
        (side_write f old.down new.down by.does.answer by.does.writes) same
    by_branch branch.UpTake by no_read alive same =
        adds_stays false old new q q' [] alive
        (stays_at false d _ new.duplex by.does.duplex
        (stays_take false d by.does.rest old.down.upgraded by.does.piece by.does.answer))
        (side_same f old.down new.down by.down) same
    by_branch branch.DownTake by no_read alive same =
        let held = d.responses.tasks in
        elim by.does [
          | inl gives ↦ (
              let a = accepts old.down new.down in
              adds_stays a old new q q' [] alive
              (stays_at a d _ new.duplex gives.duplex
              (stays_next a d _ _
              (stays_fewer a d (batch_of held) (rest_of held) (sym (batch-rest held)))
              (stays_batch a _ old.down (batch_of held) new.down gives.answer refl)))
              (side_batch f old.down new.down (batch_of held) gives.answer gives.takes
              (batch_fails new.duplex (with_responses d (rest_of held)) old.down new.down
              (batch_of held) gives.answer gives.duplex))
              same)
          | inr loses ↦ adds_stays false old new q q' [] alive
              (stays_at false d _ new.duplex loses.duplex
              (stays_next false d _ _ (stays_fewer false d loses.lost loses.left loses.parts)
              (stays_failed false _)))
              (side_same f old.down new.down loses.same) same
        ]
    by_branch branch.DownDrop by no_read alive same =
        adds_stays false old new q q' [] alive
        (stays_at false d _ new.duplex by.does.duplex
        (stays_fewer false d (by.does.task ∷ []) by.does.rest by.does.held))
        (side_same f old.down new.down by.down) same
    by_branch branch.DownEnd by no_read alive same =
        adds_stays false old new q q' [] alive
        (stays_at false d _ new.duplex by.does.duplex (stays_response false d true))
        (side_same f old.down new.down by.down) same
    by_branch branch.DownClosed by no_read alive same =
        adds_stays false old new q q' [] alive
        (stays_at false d _ new.duplex by.does.duplex (stays_request false d true))
        (side_same f old.down new.down by.down) same
    by_branch branch.UpRead by no_read alive same = absurd (no_read refl)
    by_branch branch.DownRead by no_read alive same =
        adds_stays false old new q q' [] alive
        (stays_at false d _ new.duplex by.does.duplex
        (stays_read false d old.down.upgraded by.does.answer))
        (side_read f old.down new.down by.does.answer by.does.reads) same
    by_branch branch.UpFinish by no_read alive same =
        adds_stays false old new q q' [] alive
        (stays_at false d _ new.duplex by.does.duplex (stays_up_finish false d _))
        (side_same f old.down new.down by.down) same
    by_branch branch.DownFinish by no_read alive same =
        adds_stays false old new q q' [] alive
        (stays_at false d _ new.duplex by.does.duplex
        (stays_down_finish false d new.down.pending by.does.answer))
        (side_finish f old.down new.down by.does.answer by.does.ends) same
    by_branch branch.MessageUp by no_read alive same = absurd by
    by_branch branch.MessageDown by no_read alive same = absurd by

-- a task that was put, which was read, or ended the response
adds_put : (old new : State) (q q' : UpPast) (more : List HttpTask) (tunnel : Bool)
    (task : HttpTask)
    → is_failed old.duplex.word ≡ false → old.duplex.upstream_response_done ≡ false
    → new.down ≡ old.down → new.duplex ≡ with_task_read old.duplex tunnel task
    → q'.read ≡ q.read ++ more → 1 ≤ length more + one_if (is_end task) → Adds old new q q'
adds_put old new q q' more tunnel task alive unread down is read some =
    let d = old.duplex in
    let put : length new.duplex.responses.tasks ≡ length d.responses.tasks + 1 =
    ap (λ (x : Duplex). length x.responses.tasks) is
    ∙ length-append d.responses.tasks (task ∷ []) in
    let longer : length q'.read ≡ length q.read + length more =
    ap (λ (xs : List HttpTask). length xs) read ∙ length-append q.read more in
    let was : one_if d.upstream_response_done ≡ 0 = ap one_if unread in
    let ended : one_if new.duplex.upstream_response_done ≡ one_if (is_end task) =
    ap (λ (x : Duplex). one_if x.upstream_response_done) is
    ∙ ap (λ (b : Bool). one_if (b || is_end task)) unread in
    record {
      held = omega (arith, put, longer, was, ended, some);
      read = omega (arith, longer, was, ended);
      alive = λ now. alive;
      plain = λ h. sym (ap (λ (s : DownState). s.upgraded) down) ∙ h;
      stay = λ now open_still. record {
        request = λ h. ap (λ (x : Duplex). is_reading x.client_request) is ∙ h;
        response = λ h. ap (λ (x : Duplex). is_response_done x.client_response) is ∙ h;
        up_finished = λ h. ap (λ (x : Duplex). x.upstream_finished) is ∙ h;
        client_finished = λ h. ap (λ (x : Duplex). x.client_finished) is ∙ h;
        body_finished = λ h. ap (λ (s : DownState). s.body_finished) down ∙ h;
      };
    }

-- one read of the upstream
pub adds_read : (old new : State) (q q' : UpPast) (tunnel : Bool) (answer : Took HttpTask)
    → is_failed old.duplex.word ≡ false → old.duplex.upstream_response_done ≡ false
    → new.down ≡ old.down → new.duplex ≡ after_up_read old.duplex tunnel answer
    → q'.read ≡ q.read ++ task_in answer → Adds old new q q'
adds_read old new q q' tunnel (took.Item task) alive unread down is read =
    adds_put old new q q' (task ∷ []) tunnel task alive unread down is read (omega arith)
adds_read old new q q' tunnel took.More alive unread down is read =
    adds_stays false old new q q' [] alive
    (stays_at false old.duplex _ new.duplex is (stays_same false old.duplex))
    (side_same _ old.down new.down down) read
adds_read old new q q' tunnel (took.Waited pause) alive unread down is read =
    adds_stays false old new q q' [] alive
    (stays_at false old.duplex _ new.duplex is (stays_same false old.duplex))
    (side_same _ old.down new.down down) read
adds_read old new q q' tunnel took.End alive unread down is read =
    adds_stays false old new q q' [] alive
    (stays_at false old.duplex _ new.duplex is (stays_same false old.duplex))
    (side_same _ old.down new.down down) read
adds_read old new q q' tunnel (took.Failed (fail.Error error)) alive unread down is read =
    adds_put old new q q' [] tunnel _ alive unread down is read (omega arith)
adds_read old new q q' tunnel (took.Failed fail.OutOfMemory) alive unread down is read =
    adds_stays false old new q q' [] alive
    (stays_at false old.duplex _ new.duplex is (stays_failed false old.duplex))
    (side_same _ old.down new.down down) read

-- ---- steps one behind another

-- ends that came stay through two steps
stay_then : (a b c : State) → EndsStay a b → EndsStay b c → EndsStay a c
stay_then a b c one two = record {
  request = λ h. two.request (one.request h);
  response = λ h. two.response (one.response h);
  up_finished = λ h. two.up_finished (one.up_finished h);
  client_finished = λ h. two.client_finished (one.client_finished h);
  body_finished = λ h. two.body_finished (one.body_finished h);
}

-- one step behind another
pub adds_then : (a b c : State) (q q' q'' : UpPast) → Adds a b q q' → Adds b c q' q''
    → Adds a c q q''
adds_then a b c q q' q'' one two = record {
  held = omega (arith, one.held, two.held);
  read = omega (arith, one.read, two.read);
  alive = λ h. one.alive (two.alive h);
  plain = λ h. one.plain (two.plain h);
  stay = λ now open_still. stay_then a b c (one.stay (two.alive now) (two.plain open_still))
      (two.stay now open_still);
}
