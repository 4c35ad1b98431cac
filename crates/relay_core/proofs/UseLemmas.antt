-- Which link a step asked, and what it moved.
--
--   up_write_uses, down_write_uses, up_read_uses, down_read_uses    from the answer of a side
--   step_asks     from what each branch did with its link: Asks
--   step_moved    from that, and a step that moved: HasMoved
use Rattle.std.proofs.Common.{◌≡◌, Bool, true, false, ◌&&◌, ◌||◌, not, if◌then◌else◌, ◌⊎◌, List, [], ◌∷◌, ◌++◌, ◌==◌, length, Option, Some, None, is_some, Result, Ok, Err, refl, sym, ap, ◌∙◌, subst, inl, inr}
use Rattle.relay_tasks.specs.declared.error.Error.{Error}
use Rattle.relay_tasks.specs.declared.error.Fail.{Fail}
use Rattle.relay_tasks.specs.declared.error.Fail.TheVariants as fail
use Rattle.relay_tasks.specs.declared.fault.Fault.{Fault}
use Rattle.relay_tasks.specs.declared.task.HttpTask.{HttpTask}
use Rattle.relay_tasks.specs.declared.took.Pause.TheVariants as pause
use Rattle.relay_tasks.specs.declared.took.Took.{Took}
use Rattle.relay_tasks.specs.declared.took.Took.TheVariants as took
use Rattle.relay_links.specs.Link.{LinkState}
use Rattle.relay_links.specs.declared.branch.Branch.{Branch}
use Rattle.relay_links.specs.declared.branch.Branch.TheVariants as branch
use Rattle.relay_links.specs.declared.link.Put.{Put}
use Rattle.relay_links.specs.declared.link.Put.TheVariants as put
use Rattle.relay_core.specs.declared.downstream_state.DownstreamStateMachine.{DownstreamStateMachine}
use Rattle.relay_core.specs.declared.downstream_state.DownstreamStateMachine.TheVariants as request
use Rattle.relay_core.specs.declared.duplex.Duplex.{Duplex}
use Rattle.relay_core.specs.declared.piece.Piece.{Piece}
use Rattle.relay_core.specs.declared.step.Step.{Step}
use Rattle.relay_core.specs.declared.step.Step.TheVariants as step
use Rattle.relay_core.specs.Asked.{Brings}
use Rattle.relay_core.specs.Batch.{batch_of, rest_of, plain_front}
use Rattle.relay_core.specs.Down.{DownState, EndsBody, Finishes}
use Rattle.relay_core.specs.Pipe.{is_failure}
use Rattle.relay_core.specs.Piece.{task_put_of}
use Rattle.relay_core.specs.Sound.{IsSound}
use Rattle.relay_core.specs.State.{is_reading, is_response_done, finished}
use Rattle.relay_core.specs.Steps.{StepsTo, with_requests, with_responses}
use Rattle.relay_core.specs.Table.{State, enabled, down_runs, up_runs, is_failed, step_of_up_write, step_of_down_write, step_of_up_take, step_of_batch, step_of_up_read, step_of_down_read, step_of_half, step_of_up_finish, step_of_down_finish, after_up_take, after_up_finish, after_down_finish, with_piece_read, with_piece_sent, custom_error}
use Rattle.relay_core.specs.Uses.{IsUsed, MayUse, ReadUses, WriteUses, StepUses, PutsOrCalls, Asks, GainsTask, LosesTasks, ReadsInside, MovesInside, HasMoved, BranchUses, BranchGains}
use Rattle.relay_core.proofs.BoolLemmas.{clash, and_left, and_right, not_true}
use Rattle.relay_core.proofs.KeepLemmas.{up_open, down_open}
use Rattle.relay_core.proofs.MoveLemmas.{batch-rest, leaves_batch, leaves_piece}

-- ---- a piece

-- a piece that puts a task is one more in the pipe
pub put_gains : (d : Duplex) (side side' : DownState) (piece : Piece)
    → PutsOrCalls side side' piece
    → ReadsInside d side (with_piece_read d side.upgraded piece) side'
put_gains d side side' piece (inr called) = inr called
put_gains d side side' piece (inl puts) =
    inl (by_task (task_put_of side.upgraded piece) refl puts)
  where
    by_task : (task : Option HttpTask) → task_put_of side.upgraded piece ≡ task
        → is_some task ≡ true
        → GainsTask d.requests.tasks (with_piece_read d side.upgraded piece).requests.tasks
    by_task None is some = absurd (cc)
    by_task (Some task) is some = (task, rw is refl)

-- ---- one link, by the answer of its side

module _ (before after : LinkState) where
  -- a write to the upstream
  pub up_write_uses : (answer : Put) → WriteUses before after answer
      → StepUses before after (step_of_up_write answer)
  up_write_uses (put.Took n) uses = inl uses
  up_write_uses put.NotReady uses = uses
  up_write_uses put.Silent uses = uses
  up_write_uses (put.Failed fault) uses = uses
  up_write_uses put.OutOfMemory uses = uses

  -- one that moved asked the link
  pub up_write_asked : (answer : Put) → WriteUses before after answer
      → ((fault : Fault) → answer ≡ put.Failed fault → IsUsed before after)
      → step_of_up_write answer ≡ step.Moved → IsUsed before after
  up_write_asked (put.Took n) uses fails is = uses
  up_write_asked put.NotReady uses fails is = uses
  up_write_asked put.Silent uses fails is = absurd (cc)
  up_write_asked (put.Failed fault) uses fails is = fails fault refl
  up_write_asked put.OutOfMemory uses fails is = absurd (cc)

  -- a write to the client
  pub down_write_uses : (answer : Put) → WriteUses before after answer
      → StepUses before after (step_of_down_write answer)
  down_write_uses (put.Took n) uses = inl uses
  down_write_uses put.NotReady uses = uses
  down_write_uses put.Silent uses = uses
  down_write_uses (put.Failed fault) uses = uses
  down_write_uses put.OutOfMemory uses = uses

  -- one that moved asked the link
  pub down_write_asked : (answer : Put) → WriteUses before after answer
      → step_of_down_write answer ≡ step.Moved → IsUsed before after
  down_write_asked (put.Took n) uses is = uses
  down_write_asked put.NotReady uses is = uses
  down_write_asked put.Silent uses is = absurd (cc)
  down_write_asked (put.Failed fault) uses is = absurd (cc)
  down_write_asked put.OutOfMemory uses is = absurd (cc)

  -- a read of the upstream
  pub up_read_uses : (answer : Took HttpTask) → ReadUses before after answer
      → StepUses before after (step_of_up_read answer)
  up_read_uses (took.Item task) uses = uses
  up_read_uses took.More uses = uses
  up_read_uses (took.Waited pause.NotReady) uses = uses
  up_read_uses (took.Waited pause.Silent) uses = uses
  up_read_uses took.End uses = uses
  up_read_uses (took.Failed (fail.Error error)) uses = uses
  up_read_uses (took.Failed fail.OutOfMemory) uses = uses

  -- a read of the client
  pub down_read_uses : (answer : Took Piece) → ReadUses before after answer
      → StepUses before after (step_of_down_read answer)
  down_read_uses (took.Item piece) uses = uses
  down_read_uses took.More uses = uses
  down_read_uses (took.Waited pause.NotReady) uses = uses
  down_read_uses (took.Waited pause.Silent) uses = uses
  down_read_uses took.End uses = uses
  down_read_uses (took.Failed why) uses = uses

  -- where a link gave bytes or a task was put, the link was asked or the pipe gained the task
  pub brings_gains : (old new : Duplex) → Brings old new before after
      → IsUsed before after ⊎ GainsTask old.responses.tasks new.responses.tasks
  brings_gains old new (inl task) = inr task
  brings_gains old new (inr gave) = inl gave.gives.used

  -- ---- branches that ask no link

  -- a piece that went to the upstream
  take_uses : (answer : Result Unit Fail) → after ≡ before
      → StepUses before after (step_of_up_take answer)
  take_uses (Ok done) same = inr same
  take_uses (Err (fail.Error error)) same = inr same
  take_uses (Err fail.OutOfMemory) same = inr same

  -- a batch that went to the client
  batch_uses : (answer : Result Bool Fail) → after ≡ before
      → StepUses before after (step_of_batch answer)
  batch_uses (Ok done) same = inr same
  batch_uses (Err why) same = inr same

  -- a half that finished
  half_uses : (other : Bool) → after ≡ before → StepUses before after (step_of_half other)
  half_uses true same = same
  half_uses false same = inr same

  -- the upstream half came to its end
  up_finish_uses : (d : Duplex) (kept : Option Error) → after ≡ before
      → StepUses before after (step_of_up_finish d kept)
  up_finish_uses d None same = half_uses d.client_finished same
  up_finish_uses d (Some error) same = inr same

  -- the response's body was ended
  down_finish_uses : (d : Duplex) (pending : Bool) (answer : Result Unit Fail) → after ≡ before
      → StepUses before after (step_of_down_finish d pending answer)
  down_finish_uses d true (Ok done) same = inr same
  down_finish_uses d false (Ok done) same = half_uses d.upstream_finished same
  down_finish_uses d true (Err why) same = inr same
  down_finish_uses d false (Err why) same = inr same

  -- a step with that answer
  step_uses : (result is : Step) → result ≡ is → StepUses before after is
      → StepUses before after result
  step_uses result is same uses = subst (λ (r : Step). StepUses before after r) (sym same) uses

-- ---- both links

module _ (client client' upstream upstream' : LinkState) where
  -- the upstream's link alone was asked
  asks_up : (result : Step) → StepUses upstream upstream' result → client' ≡ client
      → Asks result client client' upstream upstream'
  asks_up step.Moved (inl used) same = inl (inr (record { used = used; other_same = same }))
  asks_up step.Moved (inr still) same =
      inr (record { client_same = same; upstream_same = still })
  asks_up (step.Waited pause.NotReady) used same =
      inr (record { used = used; other_same = same })
  asks_up (step.Waited pause.Silent) still same =
      record { client_same = same; upstream_same = still }
  asks_up step.Finished still same = record { client_same = same; upstream_same = still }
  asks_up (step.Failed why) (inl used) same =
      inl (inr (record { used = used; other_same = same }))
  asks_up (step.Failed why) (inr still) same =
      inr (record { client_same = same; upstream_same = still })

  -- the client's link alone was asked
  asks_down : (result : Step) → StepUses client client' result → upstream' ≡ upstream
      → Asks result client client' upstream upstream'
  asks_down step.Moved (inl used) same = inl (inl (record { used = used; other_same = same }))
  asks_down step.Moved (inr still) same =
      inr (record { client_same = still; upstream_same = same })
  asks_down (step.Waited pause.NotReady) used same =
      inl (record { used = used; other_same = same })
  asks_down (step.Waited pause.Silent) still same =
      record { client_same = still; upstream_same = same }
  asks_down step.Finished still same = record { client_same = still; upstream_same = same }
  asks_down (step.Failed why) (inl used) same =
      inl (inl (record { used = used; other_same = same }))
  asks_down (step.Failed why) (inr still) same =
      inr (record { client_same = still; upstream_same = same })

  -- a step asks one link once, or none
  pub step_asks : (b : Branch) (old new : State) (result : Step) → StepsTo b old new result
      → BranchUses b result client client' upstream upstream'
      → Asks result client client' upstream upstream'
  step_asks branch.UpWrite old new result by uses = asks_up result uses.0 uses.1
  step_asks branch.DownWrite old new result by uses = asks_down result uses.0 uses.1
  step_asks branch.UpTake old new result by uses =
      asks_up result (step_uses upstream upstream' result _ by.does.step
      (take_uses upstream upstream' by.does.answer uses.0)) uses.1
  step_asks branch.DownTake old new result by uses =
      elim by.does [
        | inl gives ↦ asks_up result (step_uses upstream upstream' result _ gives.step
            (batch_uses upstream upstream' gives.answer uses.0)) uses.1
        | inr loses ↦ asks_up result (step_uses upstream upstream' result
            (step.Failed fail.OutOfMemory) loses.step (inr uses.0)) uses.1
      ]
  step_asks branch.DownDrop old new result by uses =
      asks_up result (step_uses upstream upstream' result step.Moved by.does.step (inr uses.0))
      uses.1
  step_asks branch.DownEnd old new result by uses =
      asks_up result (step_uses upstream upstream' result step.Moved by.does.step (inr uses.0))
      uses.1
  step_asks branch.DownClosed old new result by uses =
      asks_up result (step_uses upstream upstream' result step.Moved by.does.step (inr uses.0))
      uses.1
  step_asks branch.UpRead old new result by uses = asks_up result uses.0 uses.1
  step_asks branch.DownRead old new result by uses = asks_down result uses.0 uses.1
  step_asks branch.UpFinish old new result by uses =
      asks_up result (step_uses upstream upstream' result _ by.does.step
      (up_finish_uses upstream upstream' old.duplex _ uses.0)) uses.1
  step_asks branch.DownFinish old new result by uses =
      asks_up result (step_uses upstream upstream' result _ by.does.step
      (down_finish_uses upstream upstream' old.duplex new.down.pending by.does.answer uses.0))
      uses.1
  step_asks branch.MessageUp old new result by uses = absurd by
  step_asks branch.MessageDown old new result by uses = absurd by

-- ---- what moved

-- a piece that was taken is one less in the pipe
taken_rest : (d : Duplex) (rest : List HttpTask) (tunnel : Bool) (piece : HttpTask)
    (answer : Result Unit Fail)
    → (after_up_take (with_requests d rest) tunnel piece answer).requests.tasks ≡ rest
taken_rest d rest tunnel piece answer =
    (leaves_piece (with_piece_sent (with_requests d rest) tunnel piece) answer).requests

-- a batch of some tasks has one in front
batch_first : (task : HttpTask) (tasks : List HttpTask)
    → (first : HttpTask) × (more : List HttpTask) × (batch_of (task ∷ tasks) ≡ first ∷ more)
batch_first task tasks = by (is_failure task)
  where
    by : (fails : Bool)
        → (first : HttpTask) × (more : List HttpTask)
        × ((if fails then task ∷ [] else task ∷ plain_front tasks) ≡ first ∷ more)
    by true = (task, [], refl)
    by false = (task, plain_front tasks, refl)

-- a batch that was taken leaves the rest of the pipe
batch_loses : (tasks after : List HttpTask) → (length tasks == 0) ≡ false
    → after ≡ rest_of tasks → LosesTasks tasks after
batch_loses [] after some is = absurd (cc)
batch_loses (task ∷ tasks) after some is =
    let front = batch_first task tasks in
    record {
      first = front.0;
      more = front.1;
      parts = sym (batch-rest (task ∷ tasks))
          ∙ ap (λ (xs : List HttpTask). xs ++ rest_of (task ∷ tasks)) front.2
          ∙ ap (λ (xs : List HttpTask). (front.0 ∷ front.1) ++ xs) (sym is);
    }

-- a request that may have ended is read no more
read_no_more : (m : DownstreamStateMachine) → is_reading (finished m true) ≡ false
read_no_more request.Reading = refl
read_no_more request.ReadingFinished = refl
read_no_more request.Errored = refl

-- the upstream half that moved by its end has finished
up_finished : (d after : Duplex) (kept : Option Error) (result : Step)
    → after ≡ after_up_finish d kept → result ≡ step_of_up_finish d kept → result ≡ step.Moved
    → after.upstream_finished ≡ true
up_finished d after None result is came moved = ap (λ (x : Duplex). x.upstream_finished) is
up_finished d after (Some error) result is came moved = absurd (cc)

-- the client's half that moved by its end has finished, or something waits for the client, since
-- the response's body was ended
down_finished : (d after : Duplex) (side side' : DownState) (pending : Bool)
    (answer : Result Unit Fail) (result : Step) → after ≡ after_down_finish d pending answer
    → result ≡ step_of_down_finish d pending answer → Finishes side side' answer
    → result ≡ step.Moved
    → ((pending ≡ true) × EndsBody side side') ⊎ (after.client_finished ≡ true)
down_finished d after side side' true (Ok done) result is came ends moved = inl (refl, ends)
down_finished d after side side' false (Ok done) result is came ends moved =
    inr (ap (λ (x : Duplex). x.client_finished) is)
down_finished d after side side' true (Err why) result is came ends moved = absurd (cc)
down_finished d after side side' false (Err why) result is came ends moved = absurd (cc)

-- where that queued something, the body had not been ended before
ends_first : (side side' : DownState) → EndsBody side side' → side.pending ≡ false
    → side'.pending ≡ true → (side.body_finished ≡ false) × (side'.body_finished ≡ true)
ends_first side side' ends quiet waits = (
  by side.body_finished ends.again,
  ap (λ (s : DownState). s.body_finished) ends.exact,
)
  where
    by : (b : Bool) → (b ≡ true → side'.pending ≡ side.pending) → b ≡ false
    by true again = clash side.pending (sym (again refl) ∙ waits) quiet
    by false again = refl

-- a response that is ended is done, where no cache has more of it
ended_done : (upstream cached : Bool) → cached ≡ true → ((upstream || true) && cached) ≡ true
ended_done true cached is = is
ended_done false cached is = is

module _ (client client' upstream upstream' : LinkState) where
  -- the links as a branch that asks none leaves them, and what it moved
  inside : (b : Branch) (old new : State) → (upstream' ≡ upstream) × (client' ≡ client)
      → MovesInside b old new → HasMoved b old new client client' upstream upstream'
  inside b old new same moves = inr (record {
    unasked = record { client_same = same.1; upstream_same = same.0 };
    moves = moves;
  })

  -- a step that moved asked its link, or it moved a task, brought an end or called a hook
  pub step_moved : (b : Branch) (old new : State) (result : Step) → enabled old b ≡ true
      → IsSound old → StepsTo b old new result
      → BranchUses b result client client' upstream upstream' → result ≡ step.Moved
      → BranchGains b old new client client' upstream upstream'
      → HasMoved b old new client client' upstream upstream'
  step_moved branch.UpWrite old new result on sound by uses moved gains =
      inl (record { used = gains; other_same = uses.1 })
  step_moved branch.DownWrite old new result on sound by uses moved gains =
      inl (record { used = gains; other_same = uses.1 })
  step_moved branch.UpTake old new result on sound by uses moved gains =
      inside branch.UpTake old new uses (record {
        first = by.does.piece;
        more = [];
        parts = by.does.held
            ∙ ap (λ (xs : List HttpTask). by.does.piece ∷ xs)
            (sym (ap (λ (x : Duplex). x.requests.tasks) by.does.duplex
            ∙ taken_rest old.duplex by.does.rest old.down.upgraded by.does.piece
            by.does.answer));
      })
  step_moved branch.DownTake old new result on sound by uses moved gains =
      let some = not_true (length old.duplex.responses.tasks == 0)
      (and_right (not (is_response_done old.duplex.client_response)) _
      (and_right (not old.down.pending) _ (and_right (down_runs old.duplex) _ on))) in
      inside branch.DownTake old new uses (elim by.does [
        | inl gives ↦ batch_loses old.duplex.responses.tasks new.duplex.responses.tasks some
            (ap (λ (x : Duplex). x.responses.tasks) gives.duplex
            ∙ (leaves_batch (with_responses old.duplex (rest_of old.duplex.responses.tasks))
            old.down (batch_of old.duplex.responses.tasks) new.down gives.answer).responses)
        | inr loses ↦ (let wrong = sym loses.step ∙ moved in absurd (cc))
      ])
  step_moved branch.DownDrop old new result on sound by uses moved gains =
      inside branch.DownDrop old new uses (record {
        first = by.does.task;
        more = [];
        parts = by.does.held
            ∙ ap (λ (xs : List HttpTask). by.does.task ∷ xs)
            (sym (ap (λ (x : Duplex). x.responses.tasks) by.does.duplex));
      })
  step_moved branch.DownEnd old new result on sound by uses moved gains =
      let alive = not_true (is_failed old.duplex.word)
      (and_right (not old.duplex.client_finished) _ (and_left (down_runs old.duplex) _ on)) in
      inside branch.DownEnd old new uses (
        not_true (is_response_done old.duplex.client_response)
            (and_right (length old.duplex.responses.tasks == 0) _
            (and_right old.duplex.responses.closed _ (and_right (down_runs old.duplex) _ on))),
        ap (λ (x : Duplex). is_response_done x.client_response) by.does.duplex
            ∙ ended_done old.duplex.client_response.upstream_done
            old.duplex.client_response.cached_done (sound.runs alive).uncached,
      )
  step_moved branch.DownClosed old new result on sound by uses moved gains =
      inside branch.DownClosed old new uses (
        and_right old.duplex.requests.closed _ (and_right (down_runs old.duplex) _ on),
        ap (λ (x : Duplex). is_reading x.client_request) by.does.duplex
            ∙ read_no_more old.duplex.client_request,
      )
  step_moved branch.UpRead old new result on sound by uses moved gains =
      let may : MayUse upstream upstream' =
      subst (λ (r : Step). StepUses upstream upstream' r) moved uses.0 in
      elim gains [
        | inl used ↦ inl (record { used = used; other_same = uses.1 })
        | inr task ↦ elim may [
          | inl used ↦ inl (record { used = used; other_same = uses.1 })
          | inr still ↦ inside branch.UpRead old new (still, uses.1) task
        ]
      ]
  step_moved branch.DownRead old new result on sound by uses moved gains =
      let may : MayUse client client' =
      subst (λ (r : Step). StepUses client client' r) moved uses.0 in
      elim gains [
        | inl used ↦ inl (record { used = used; other_same = uses.1 })
        | inr moves ↦ elim may [
          | inl used ↦ inl (record { used = used; other_same = uses.1 })
          | inr still ↦ inside branch.DownRead old new (uses.1, still) moves
        ]
      ]
  step_moved branch.UpFinish old new result on sound by uses moved gains =
      inside branch.UpFinish old new uses (
        up_open old.duplex (and_left (up_runs old.duplex) _ on),
        up_finished old.duplex new.duplex (custom_error old.duplex.kind old.duplex.send_error)
            result by.does.duplex by.does.step moved,
      )
  step_moved branch.DownFinish old new result on sound by uses moved gains =
      let quiet = not_true old.down.pending
      (and_right (is_response_done old.duplex.client_response) _
      (and_right (not (is_reading old.duplex.client_request)) _
      (and_right (down_runs old.duplex) _ on))) in
      inside branch.DownFinish old new uses
      (elim (down_finished old.duplex new.duplex old.down new.down new.down.pending by.does.answer
      result by.does.duplex by.does.step by.does.ends moved) [
        | inl waits ↦ (
            let first = ends_first old.down new.down waits.1 quiet waits.0 in
            inl (quiet, waits.0, first.0, first.1))
        | inr done ↦
            inr (down_open old.duplex (and_left (down_runs old.duplex) _ on), done)
      ])
  step_moved branch.MessageUp old new result on sound by uses moved gains = absurd by
  step_moved branch.MessageDown old new result on sound by uses moved gains = absurd by
