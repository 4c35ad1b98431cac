-- Why the client's request and the upstream's response became done; a full response pipe moves.
use Rattle.std.proofs.Common.{◌≡◌, Bool, true, false, ◌&&◌, ◌||◌, ◌==◌, not, ℕ, List, [], ◌∷◌, ◌++◌, length, Option, Some, None, Result, Ok, Err, refl, sym, ap, ◌∙◌, inl, inr}
use Rattle.std.specs.List.{list_any}
use Rattle.relay_tasks.specs.declared.error.Error.{Error}
use Rattle.relay_tasks.specs.declared.error.Fail.{Fail}
use Rattle.relay_tasks.specs.declared.error.Fail.TheVariants as fail
use Rattle.relay_tasks.specs.declared.task.HttpTask.{HttpTask}
use Rattle.relay_tasks.specs.declared.task.HttpTask.TheVariants as task
use Rattle.relay_tasks.specs.declared.took.Took.{Took}
use Rattle.relay_tasks.specs.declared.took.Took.TheVariants as took
use Rattle.relay_tasks.specs.Task.{is_end}
use Rattle.relay_links.specs.declared.branch.Branch.{Branch}
use Rattle.relay_links.specs.declared.branch.Branch.TheVariants as branch
use Rattle.relay_links.specs.declared.link.Put.{Put}
use Rattle.relay_links.specs.declared.link.Put.TheVariants as put
use Rattle.relay_core.specs.declared.downstream_state.DownstreamStateMachine.{DownstreamStateMachine}
use Rattle.relay_core.specs.declared.downstream_state.DownstreamStateMachine.TheVariants.{Reading, ReadingFinished, Errored}
use Rattle.relay_core.specs.declared.duplex.Duplex.{Duplex}
use Rattle.relay_core.specs.declared.piece.Piece.{Piece}
use Rattle.relay_core.specs.declared.step.Step.{Step}
use Rattle.relay_core.specs.Batch.{batch_of, rest_of}
use Rattle.relay_core.specs.Down.{DownState, ReadsPiece, accepts}
use Rattle.relay_core.specs.Ends.{EndsRequest, UpstreamTunnelEnds, EndsResponse, can_pass_on}
use Rattle.relay_core.specs.Pipe.{is_empty, places}
use Rattle.relay_core.specs.Sound.{ends_with}
use Rattle.relay_core.specs.State.{is_reading, finished, reset_to_reading, is_response_done}
use Rattle.relay_core.specs.Steps.{StepsTo, with_requests, with_responses}
use Rattle.relay_core.specs.Table.{State, enabled, down_runs, after_up_write, after_down_write, after_piece, with_piece_sent, ends_request, ends_tunnel, with_upgrade, after_batch, after_up_read, told_error, after_down_read, custom_error, after_up_finish, after_down_finish}
use Rattle.relay_core.proofs.BoolLemmas.{clash, and_left, and_right, or_cases, or_inl, or_inr}
use Rattle.relay_core.proofs.RunsLemmas.{ends-append}

-- what a duplex says of the client's request and of the upstream's response
pub record SameEnds (d d' : Duplex) : Type 0 where
  pub request : d'.client_request ≡ d.client_request
  pub response : d'.upstream_response_done ≡ d.upstream_response_done

-- a write to the upstream leaves what is done
same_up_write : (d : Duplex) (answer : Put) → SameEnds d (after_up_write d answer)
same_up_write d (put.Took n) = record { request = refl; response = refl }
same_up_write d put.NotReady = record { request = refl; response = refl }
same_up_write d put.Silent = record { request = refl; response = refl }
same_up_write d (put.Failed fault) = record { request = refl; response = refl }
same_up_write d put.OutOfMemory = record { request = refl; response = refl }

-- so does a write to the client
same_down_write : (d : Duplex) (answer : Put) → SameEnds d (after_down_write d answer)
same_down_write d (put.Took n) = record { request = refl; response = refl }
same_down_write d put.NotReady = record { request = refl; response = refl }
same_down_write d put.Silent = record { request = refl; response = refl }
same_down_write d (put.Failed fault) = record { request = refl; response = refl }
same_down_write d put.OutOfMemory = record { request = refl; response = refl }

-- and the answer on a piece
same_piece : (d : Duplex) (answer : Result Unit Fail) → SameEnds d (after_piece d answer)
same_piece d (Ok done) = record { request = refl; response = refl }
same_piece d (Err (fail.Error error)) = record { request = refl; response = refl }
same_piece d (Err fail.OutOfMemory) = record { request = refl; response = refl }

-- and the end of the upstream half
same_up_finish : (d : Duplex) (why : Option Error) → SameEnds d (after_up_finish d why)
same_up_finish d None = record { request = refl; response = refl }
same_up_finish d (Some error) = record { request = refl; response = refl }

-- and the end of the response's body
same_down_finish : (d : Duplex) (pending : Bool) (answer : Result Unit Fail)
    → SameEnds d (after_down_finish d pending answer)
same_down_finish d true (Ok done) = record { request = refl; response = refl }
same_down_finish d false (Ok done) = record { request = refl; response = refl }
same_down_finish d true (Err why) = record { request = refl; response = refl }
same_down_finish d false (Err why) = record { request = refl; response = refl }

-- a read of the upstream says nothing of the client's request
request_up_read : (d : Duplex) (tunnel : Bool) (answer : Took HttpTask)
    → (after_up_read d tunnel answer).client_request ≡ d.client_request
request_up_read d tunnel (took.Item task) = refl
request_up_read d tunnel took.More = refl
request_up_read d tunnel (took.Waited why) = refl
request_up_read d tunnel took.End = refl
request_up_read d tunnel (took.Failed (fail.Error error)) = refl
request_up_read d tunnel (took.Failed fail.OutOfMemory) = refl

-- a read of the client says nothing of the upstream's response
response_down_read : (d : Duplex) (upgraded : Bool) (answer : Took Piece)
    → (after_down_read d upgraded answer).upstream_response_done ≡ d.upstream_response_done
response_down_read d upgraded (took.Item piece) = refl
response_down_read d upgraded took.More = refl
response_down_read d upgraded (took.Waited why) = refl
response_down_read d upgraded took.End = refl
response_down_read d upgraded (took.Failed why) = refl

-- nor does a 101, nor a batch
response_upgrade : (d : Duplex) (accepted : Bool)
    → (with_upgrade d accepted).upstream_response_done ≡ d.upstream_response_done
response_upgrade d true = refl
response_upgrade d false = refl

-- a batch leaves the upstream's response
response_batch : (d : Duplex) (side side' : DownState) (tasks : List HttpTask)
    (answer : Result Bool Fail)
    → (after_batch d side tasks side' answer).upstream_response_done ≡ d.upstream_response_done
response_batch d side side' tasks (Ok done) = response_upgrade d (accepts side side')
response_batch d side side' tasks (Err why) = refl

-- a request that was read and stayed so is not done
request_stayed : {A : Type 0} (d d' : Duplex) → d'.client_request ≡ d.client_request
    → is_reading d.client_request ≡ true → is_reading d'.client_request ≡ false → A
request_stayed d d' same reading done =
    clash (is_reading d.client_request) reading (ap is_reading (sym same) ∙ done)

-- a request that was read is done only where its end was told
set_true : (r : DownstreamStateMachine) (set : Bool) → is_reading r ≡ true
    → is_reading (finished r set) ≡ false → set ≡ true
set_true Reading true reading done = refl
set_true Reading false reading done = clash true refl done
set_true ReadingFinished set reading done = clash false reading refl
set_true Errored set reading done = clash false reading refl

-- a request that is opened again is read
reset_reads : (r : DownstreamStateMachine) → is_reading r ≡ true
    → is_reading (reset_to_reading r) ≡ true
reset_reads Reading reading = refl
reset_reads ReadingFinished reading = refl
reset_reads Errored reading = reading

-- a request that is read is read after a 101 too
upgrade_reads : (d : Duplex) (accepted : Bool) → is_reading d.client_request ≡ true
    → is_reading (with_upgrade d accepted).client_request ≡ true
upgrade_reads d true reading = reset_reads d.client_request reading
upgrade_reads d false reading = reading

-- a batch makes the request done only where it ends a tunnel
batch_ends : (d : Duplex) (side side' : DownState) (tasks : List HttpTask)
    (answer : Result Bool Fail) → is_reading d.client_request ≡ true
    → is_reading (after_batch d side tasks side' answer).client_request ≡ false
    → (side'.upgraded ≡ true)
    × ((after_batch d side tasks side' answer).client_response.upstream_done ≡ true)
batch_ends d side side' tasks (Ok done) reading over =
    let d' : Duplex = with_upgrade d (accepts side side') in
    let both : (list_any is_end tasks && side'.upgraded) ≡ true =
    set_true d'.client_request (list_any is_end tasks && side'.upgraded)
    (upgrade_reads d (accepts side side') reading) over in (
      and_right (list_any is_end tasks) side'.upgraded both,
      or_inr d'.client_response.upstream_done (list_any is_end tasks || done)
          (or_inl (list_any is_end tasks) done
          (and_left (list_any is_end tasks) side'.upgraded both)),
    )
batch_ends d side side' tasks (Err why) reading over = clash _ reading over

-- a read makes the request done only with its end
read_ends : (d : Duplex) (side side' : DownState) (answer : Took Piece)
    → ReadsPiece side side' answer → is_reading d.client_request ≡ true
    → is_reading (after_down_read d side.upgraded answer).client_request ≡ false
    → side'.request_ended ≡ true
read_ends d side side' (took.Item piece) reads reading over =
    reads.ends (set_true d.client_request piece.client_end reading over)
read_ends d side side' took.More reads reading over = clash _ reading over
read_ends d side side' (took.Waited why) reads reading over = clash _ reading over
read_ends d side side' took.End reads reading over = absurd reads
read_ends d side side' (took.Failed why) reads reading over = clash _ reading over

-- the client's request becomes done for one of its causes
pub step_ends_request : (b : Branch) (old new : State) (result : Step) → enabled old b ≡ true
    → StepsTo b old new result → is_reading old.duplex.client_request ≡ true
    → is_reading new.duplex.client_request ≡ false → EndsRequest old new
step_ends_request branch.UpWrite old new result on by reading over =
    request_stayed old.duplex new.duplex
    (ap (λ (d : Duplex). d.client_request) by.does.duplex
    ∙ (same_up_write old.duplex by.does.answer).request) reading over
step_ends_request branch.DownWrite old new result on by reading over =
    request_stayed old.duplex new.duplex
    (ap (λ (d : Duplex). d.client_request) by.does.duplex
    ∙ (same_down_write old.duplex by.does.answer).request) reading over
step_ends_request branch.UpTake old new result on by reading over =
    request_stayed old.duplex new.duplex
    (ap (λ (d : Duplex). d.client_request) by.does.duplex
    ∙ (same_piece
    (with_piece_sent (with_requests old.duplex by.does.rest) old.down.upgraded by.does.piece)
    by.does.answer).request) reading over
step_ends_request branch.DownTake old new result on by reading over =
    let held = old.duplex.responses.tasks in
    elim by.does [
      | inl gives ↦ (let ends =
          batch_ends (with_responses old.duplex (rest_of held)) old.down new.down (batch_of held)
          gives.answer reading
          (ap (λ (d : Duplex). is_reading d.client_request) (sym gives.duplex) ∙ over) in
          inr (inr (record {
            tunnel = ends.0;
            done = ap (λ (d : Duplex). d.client_response.upstream_done) gives.duplex ∙ ends.1;
          })))
      | inr loses ↦ request_stayed old.duplex new.duplex
          (ap (λ (d : Duplex). d.client_request) loses.duplex) reading over
    ]
step_ends_request branch.DownDrop old new result on by reading over =
    request_stayed old.duplex new.duplex (ap (λ (d : Duplex). d.client_request) by.does.duplex)
    reading over
step_ends_request branch.DownEnd old new result on by reading over =
    request_stayed old.duplex new.duplex (ap (λ (d : Duplex). d.client_request) by.does.duplex)
    reading over
step_ends_request branch.DownClosed old new result on by reading over =
    inr (inl (and_left old.duplex.requests.closed (is_reading old.duplex.client_request)
    (and_right (down_runs old.duplex) _ on)))
step_ends_request branch.UpRead old new result on by reading over =
    request_stayed old.duplex new.duplex
    (ap (λ (d : Duplex). d.client_request) by.does.duplex
    ∙ request_up_read old.duplex old.down.upgraded by.does.answer) reading over
step_ends_request branch.DownRead old new result on by reading over =
    inl (read_ends old.duplex old.down new.down by.does.answer by.does.reads reading
    (ap (λ (d : Duplex). is_reading d.client_request) (sym by.does.duplex) ∙ over))
step_ends_request branch.UpFinish old new result on by reading over =
    request_stayed old.duplex new.duplex
    (ap (λ (d : Duplex). d.client_request) by.does.duplex
    ∙ (same_up_finish old.duplex (custom_error old.duplex.kind old.duplex.send_error)).request)
    reading over
step_ends_request branch.DownFinish old new result on by reading over =
    request_stayed old.duplex new.duplex
    (ap (λ (d : Duplex). d.client_request) by.does.duplex
    ∙ (same_down_finish old.duplex new.down.pending by.does.answer).request) reading over
step_ends_request branch.MessageUp old new result on by reading over = absurd by
step_ends_request branch.MessageDown old new result on by reading over = absurd by

-- a response that was open and stayed so is not done
response_stayed : {A : Type 0} (d d' : Duplex)
    → d'.upstream_response_done ≡ d.upstream_response_done
    → d.upstream_response_done ≡ false → d'.upstream_response_done ≡ true → A
response_stayed d d' same open_yet over =
    clash d'.upstream_response_done over (same ∙ open_yet)

-- a piece that ends a tunnel goes in one, and ends the request too
tunnel_piece : (tunnel : Bool) (piece : HttpTask) → ends_tunnel tunnel piece ≡ true
    → (tunnel ≡ true) × (ends_request tunnel piece ≡ true)
tunnel_piece tunnel (task.Header head end) h = clash true refl (sym h)
tunnel_piece tunnel (task.Body bytes end) h = clash true refl (sym h)
tunnel_piece tunnel (task.UpgradedBody bytes end) h =
    (and_right end tunnel h, and_left end tunnel h)
tunnel_piece tunnel (task.Trailer fields) h = clash true refl (sym h)
tunnel_piece tunnel task.Done h = clash true refl (sym h)
tunnel_piece tunnel (task.Failed error) h = clash true refl (sym h)

-- a request that is done stays so, whatever the upstream answers
request_over : (d : Duplex) (answer : Result Unit Fail) → d.upstream_request_done ≡ true
    → (after_piece d answer).upstream_request_done ≡ true
request_over d (Ok done) over = over
request_over d (Err (fail.Error error)) over = refl
request_over d (Err fail.OutOfMemory) over = over

-- a task that was put and makes the response done ends it
task_ends : (done : Bool) (held : List HttpTask) (task : HttpTask) → done ≡ false
    → (done || is_end task) ≡ true → ends_with (held ++ task ∷ []) ≡ true
task_ends true held task open_yet over = clash true refl open_yet
task_ends false held task open_yet over = ends-append false held task ∙ over

-- a read of the upstream makes its response done only by a task that ends it
up_read_ends : (d : Duplex) (tunnel : Bool) (answer : Took HttpTask)
    → d.upstream_response_done ≡ false
    → (after_up_read d tunnel answer).upstream_response_done ≡ true
    → ends_with (after_up_read d tunnel answer).responses.tasks ≡ true
up_read_ends d tunnel (took.Item task) open_yet over =
    task_ends d.upstream_response_done d.responses.tasks task open_yet over
up_read_ends d tunnel took.More open_yet over = clash _ over open_yet
up_read_ends d tunnel (took.Waited why) open_yet over = clash _ over open_yet
up_read_ends d tunnel took.End open_yet over = clash _ over open_yet
up_read_ends d tunnel (took.Failed (fail.Error error)) open_yet over =
    task_ends d.upstream_response_done d.responses.tasks
    (task.Failed (told_error d.send_error error)) open_yet over
up_read_ends d tunnel (took.Failed fail.OutOfMemory) open_yet over = clash _ over open_yet

-- a piece makes the upstream's response done only where it ends a tunnel
piece_ends : (old new : State) (rest : List HttpTask) (piece : HttpTask)
    (answer : Result Unit Fail)
    → new.duplex
    ≡ after_piece (with_piece_sent (with_requests old.duplex rest) old.down.upgraded piece)
    answer
    → old.duplex.upstream_response_done ≡ false → new.duplex.upstream_response_done ≡ true
    → UpstreamTunnelEnds old new
piece_ends old new rest piece answer is open_yet over =
    let d : Duplex = with_piece_sent (with_requests old.duplex rest) old.down.upgraded piece in
    let told : (old.duplex.upstream_response_done || ends_tunnel old.down.upgraded piece) ≡ true =
    sym (ap (λ (x : Duplex). x.upstream_response_done) is ∙ (same_piece d answer).response)
    ∙ over in
    elim (or_cases old.duplex.upstream_response_done (ends_tunnel old.down.upgraded piece) told) [
      | inl before ↦ clash old.duplex.upstream_response_done before open_yet
      | inr here ↦ (let both = tunnel_piece old.down.upgraded piece here in record {
        tunnel = both.0;
        done = ap (λ (x : Duplex). x.upstream_request_done) is
            ∙ request_over d answer
            (or_inr old.duplex.upstream_request_done (ends_request old.down.upgraded piece) both.1);
      })
    ]

-- the upstream's response becomes done for one of its causes
pub step_ends_response : (b : Branch) (old new : State) (result : Step) → StepsTo b old new result
    → old.duplex.upstream_response_done ≡ false → new.duplex.upstream_response_done ≡ true
    → EndsResponse old new
step_ends_response branch.UpWrite old new result by open_yet over =
    response_stayed old.duplex new.duplex
    (ap (λ (d : Duplex). d.upstream_response_done) by.does.duplex
    ∙ (same_up_write old.duplex by.does.answer).response) open_yet over
step_ends_response branch.DownWrite old new result by open_yet over =
    response_stayed old.duplex new.duplex
    (ap (λ (d : Duplex). d.upstream_response_done) by.does.duplex
    ∙ (same_down_write old.duplex by.does.answer).response) open_yet over
step_ends_response branch.UpTake old new result by open_yet over =
    inr (piece_ends old new by.does.rest by.does.piece by.does.answer by.does.duplex open_yet over)
step_ends_response branch.DownTake old new result by open_yet over =
    let held = old.duplex.responses.tasks in
    elim by.does [
      | inl gives ↦ response_stayed old.duplex new.duplex
          (ap (λ (d : Duplex). d.upstream_response_done) gives.duplex
          ∙ response_batch (with_responses old.duplex (rest_of held)) old.down new.down
          (batch_of held) gives.answer) open_yet over
      | inr loses ↦ response_stayed old.duplex new.duplex
          (ap (λ (d : Duplex). d.upstream_response_done) loses.duplex) open_yet over
    ]
step_ends_response branch.DownDrop old new result by open_yet over =
    response_stayed old.duplex new.duplex
    (ap (λ (d : Duplex). d.upstream_response_done) by.does.duplex) open_yet over
step_ends_response branch.DownEnd old new result by open_yet over =
    response_stayed old.duplex new.duplex
    (ap (λ (d : Duplex). d.upstream_response_done) by.does.duplex) open_yet over
step_ends_response branch.DownClosed old new result by open_yet over =
    response_stayed old.duplex new.duplex
    (ap (λ (d : Duplex). d.upstream_response_done) by.does.duplex) open_yet over
step_ends_response branch.UpRead old new result by open_yet over =
    inl (ap (λ (d : Duplex). ends_with d.responses.tasks) by.does.duplex
    ∙ up_read_ends old.duplex old.down.upgraded by.does.answer open_yet
    (ap (λ (d : Duplex). d.upstream_response_done) (sym by.does.duplex) ∙ over))
step_ends_response branch.DownRead old new result by open_yet over =
    response_stayed old.duplex new.duplex
    (ap (λ (d : Duplex). d.upstream_response_done) by.does.duplex
    ∙ response_down_read old.duplex old.down.upgraded by.does.answer) open_yet over
step_ends_response branch.UpFinish old new result by open_yet over =
    response_stayed old.duplex new.duplex
    (ap (λ (d : Duplex). d.upstream_response_done) by.does.duplex
    ∙ (same_up_finish old.duplex (custom_error old.duplex.kind old.duplex.send_error)).response)
    open_yet over
step_ends_response branch.DownFinish old new result by open_yet over =
    response_stayed old.duplex new.duplex
    (ap (λ (d : Duplex). d.upstream_response_done) by.does.duplex
    ∙ (same_down_finish old.duplex new.down.pending by.does.answer).response) open_yet over
step_ends_response branch.MessageUp old new result by open_yet over = absurd by
step_ends_response branch.MessageDown old new result by open_yet over = absurd by

-- a client's half that holds a task writes, takes or drops
holds_goes : (runs pending done empty : Bool) → runs ≡ true → empty ≡ false
    → ((runs && pending)
    || ((runs && (not pending && (not done && not empty)))
    || (runs && (done && not empty)))) ≡ true
holds_goes true true done empty p q = refl
holds_goes true false true false p q = refl
holds_goes true false false false p q = refl
holds_goes true false done true p q = clash true refl q
holds_goes false pending done empty p q = clash false p refl

-- where the response pipe is full, the client's half writes, takes or drops
pub response_full : (s : State) → down_runs s.duplex ≡ true
    → length s.duplex.responses.tasks ≡ places
    → can_pass_on s ≡ true
response_full s runs full =
    holds_goes (down_runs s.duplex) s.down.pending (is_response_done s.duplex.client_response)
    (is_empty s.duplex.responses) runs (ap (λ (n : ℕ). n == 0) full)
