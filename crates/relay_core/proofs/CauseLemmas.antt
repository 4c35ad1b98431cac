-- Each answer of a step has its cause, and tells what the duplex has become.
use Rattle.std.proofs.Common.{◌≡◌, ℕ, Bool, true, false, List, Option, Some, None, Result, Ok, Err, refl, sym, ap, subst, inl, inr, arith}
use Rattle.relay_tasks.specs.declared.error.Error.{Error}
use Rattle.relay_tasks.specs.declared.error.Fail.{Fail}
use Rattle.relay_tasks.specs.declared.error.Fail.TheVariants as fail
use Rattle.relay_tasks.specs.declared.error.ErrorSource.TheVariants.{Upstream, Downstream}
use Rattle.relay_tasks.specs.declared.task.HttpTask.{HttpTask}
use Rattle.relay_tasks.specs.declared.took.Pause.{Pause}
use Rattle.relay_tasks.specs.declared.took.Pause.TheVariants as pause
use Rattle.relay_tasks.specs.declared.took.Took.{Took}
use Rattle.relay_tasks.specs.declared.took.Took.TheVariants as took
use Rattle.relay_links.specs.Count.{Rose, up}
use Rattle.relay_links.specs.declared.branch.Branch.{Branch}
use Rattle.relay_links.specs.declared.branch.Branch.TheVariants as branch
use Rattle.relay_links.specs.declared.link.Put.{Put}
use Rattle.relay_links.specs.declared.link.Put.TheVariants as put
use Rattle.relay_core.specs.declared.piece.Piece.{Piece}
use Rattle.relay_core.specs.declared.step.Step.{Step}
use Rattle.relay_core.specs.declared.step.Step.TheVariants as step
use Rattle.relay_links.specs.declared.link.UpKind.{UpKind}
use Rattle.relay_links.specs.declared.link.UpKind.TheVariants as kind
use Rattle.relay_core.specs.declared.told.Told.{Told}
use Rattle.relay_core.specs.declared.duplex.Duplex.{Duplex}
use Rattle.relay_core.specs.Batch.{batch_of, rest_of}
use Rattle.relay_core.specs.Causes.{PauseRose, ErrorRose, HasCause, KeepsSendError, told_of}
use Rattle.relay_core.specs.Down.{DownState, ReadsPiece, TakesBatch, Finishes}
use Rattle.relay_core.specs.Down as down
use Rattle.relay_core.specs.Steps.{StepsTo, with_requests, with_responses}
use Rattle.relay_core.specs.Table.{State, after_up_write, after_down_write, after_piece, with_piece_sent, with_upgrade, after_batch, after_up_read, after_down_read, after_up_finish, after_down_finish, step_of_up_write, step_of_down_write, step_of_up_take, step_of_batch, step_of_up_read, step_of_down_read, custom_error, step_of_half, step_of_up_finish, step_of_down_finish}
use Rattle.relay_core.specs.Told.{paused, failed, fault_of}
use Rattle.relay_core.specs.Up.{UpState, ReadsTask, TakesPiece}
use Rattle.relay_core.specs.Up as up

-- one more is a rise
rose-up : (n : ℕ) → Rose n (up n)
rose-up n below = omega arith

-- a pause raises its count
pause_rose : (why : Pause) (told : Told) → PauseRose why told (paused why told)
pause_rose pause.NotReady told = rose-up told.waits
pause_rose pause.Silent told = rose-up told.silences

-- a pause that a side tells has its cause
waited : (why : Pause) (before after : Told) → after ≡ paused why before
    → PauseRose why before after
waited why before after is =
    let P : Told → Type 0 = λ told. PauseRose why before told in
    subst P (sym is) (pause_rose why before)

-- an error that a side tells has its cause
rose : (error : Error) (before after : Told) → after ≡ failed (fail.Error error) before
    → ErrorRose before after error
rose error before after is =
    let P : Told → Type 0 = λ told. ErrorRose before told error in
    subst P (sym is) (record { rose = rose-up before.errors; last = refl })

-- a failure that a side tells has its cause
failing : (why : Fail) (before after : Told) (kept : Option Error) → after ≡ failed why before
    → HasCause before after kept (step.Failed why)
failing fail.OutOfMemory before after kept is = tt
failing (fail.Error error) before after kept is = inl (rose error before after is)

-- a write to the upstream
up_write : (side side' : UpState) (kept : Option Error) (answer : Put)
    → up.Writes side side' answer
    → HasCause side.told side'.told kept (step_of_up_write answer)
up_write side side' kept (put.Took n) writes = tt
up_write side side' kept put.NotReady writes =
    waited pause.NotReady side.told side'.told (ap (λ (s : UpState). s.told) writes)
up_write side side' kept put.Silent writes =
    waited pause.Silent side.told side'.told (ap (λ (s : UpState). s.told) writes)
up_write side side' kept (put.Failed fault) writes = tt
up_write side side' kept put.OutOfMemory writes = tt

-- a write to the client
down_write : (side side' : DownState) (kept : Option Error) (answer : Put)
    → down.Writes side side' answer
    → HasCause side.told side'.told kept (step_of_down_write answer)
down_write side side' kept (put.Took n) writes = tt
down_write side side' kept put.NotReady writes =
    waited pause.NotReady side.told side'.told (ap (λ (s : DownState). s.told) writes)
down_write side side' kept put.Silent writes =
    waited pause.Silent side.told side'.told (ap (λ (s : DownState). s.told) writes)
down_write side side' kept (put.Failed fault) writes =
    inl (rose (fault_of Downstream fault) side.told side'.told
    (ap (λ (s : DownState). s.told) writes))
down_write side side' kept put.OutOfMemory writes = tt

-- a piece for the upstream: its error is kept, and no step fails with it
up_take : (before after : Told) (kept : Option Error) (answer : Result Unit Fail)
    → HasCause before after kept (step_of_up_take answer)
up_take before after kept (Ok done) = tt
up_take before after kept (Err (fail.Error error)) = tt
up_take before after kept (Err fail.OutOfMemory) = tt

-- a batch for the client
batch : (side side' : DownState) (tasks : List HttpTask) (kept : Option Error)
    (answer : Result Bool Fail) → TakesBatch side tasks side' answer
    → HasCause side.told side'.told kept (step_of_batch answer)
batch side side' tasks kept (Ok done) takes = tt
batch side side' tasks kept (Err why) takes =
    failing why side.told side'.told kept (ap (λ (s : DownState). s.told) takes.exact)

-- a read of the upstream: its error is put, and no step fails with it
up_read : (side side' : UpState) (kept : Option Error) (answer : Took HttpTask)
    → ReadsTask side side' answer
    → HasCause side.told side'.told kept (step_of_up_read answer)
up_read side side' kept (took.Item task) reads = tt
up_read side side' kept took.More reads = tt
up_read side side' kept (took.Waited why) reads =
    waited why side.told side'.told (ap (λ (s : UpState). s.told) reads)
up_read side side' kept took.End reads = tt
up_read side side' kept (took.Failed (fail.Error error)) reads = tt
up_read side side' kept (took.Failed fail.OutOfMemory) reads = tt

-- a read of the client
down_read : (side side' : DownState) (kept : Option Error) (answer : Took Piece)
    → ReadsPiece side side' answer
    → HasCause side.told side'.told kept (step_of_down_read answer)
down_read side side' kept (took.Item piece) reads = tt
down_read side side' kept took.More reads = tt
down_read side side' kept (took.Waited why) reads =
    waited why side.told side'.told (ap (λ (s : DownState). s.told) reads)
down_read side side' kept took.End reads = tt
down_read side side' kept (took.Failed why) reads =
    failing why side.told side'.told kept (ap (λ (s : DownState). s.told) reads)

-- a half that finishes neither waits nor fails
half : (before after : Told) (kept : Option Error) (other : Bool)
    → HasCause before after kept (step_of_half other)
half before after kept true = tt
half before after kept false = tt

-- the end of the upstream half: it fails with the send error alone
up_finish : (before after : Told) (d : Duplex) (why : UpKind) (kept : Option Error)
    → HasCause before after kept (step_of_up_finish d (custom_error why kept))
up_finish before after d kind.H1 kept = half before after kept d.client_finished
up_finish before after d kind.H2 kept = half before after kept d.client_finished
up_finish before after d kind.Custom None = half before after None d.client_finished
up_finish before after d kind.Custom (Some error) = inr refl

-- the end of the response's body
down_finish : (side side' : DownState) (kept : Option Error) (d : Duplex) (pending : Bool)
    (answer : Result Unit Fail) → Finishes side side' answer
    → HasCause side.told side'.told kept (step_of_down_finish d pending answer)
down_finish side side' kept d true (Ok done) ends = tt
down_finish side side' kept d false (Ok done) ends =
    half side.told side'.told kept d.upstream_finished
down_finish side side' kept d true (Err why) ends =
    failing why side.told side'.told kept (ap (λ (s : DownState). s.told) ends)
down_finish side side' kept d false (Err why) ends =
    failing why side.told side'.told kept (ap (λ (s : DownState). s.told) ends)

-- the cause of an answer, at what the answer is
answered : (before after : Told) (kept : Option Error) (result is : Step) → result ≡ is
    → HasCause before after kept is → HasCause before after kept result
answered before after kept result is same cause =
    let P : Step → Type 0 = λ r. HasCause before after kept r in subst P (sym same) cause

-- each answer of a step has its cause
pub step_cause : (b : Branch) (old new : State) (result : Step) → StepsTo b old new result
    → HasCause (told_of b old) (told_of b new) old.duplex.send_error result
step_cause branch.UpWrite old new result by =
    answered old.up.told new.up.told old.duplex.send_error result _ by.does.step
    (up_write old.up new.up old.duplex.send_error by.does.answer by.does.writes)
step_cause branch.DownWrite old new result by =
    answered old.down.told new.down.told old.duplex.send_error result _ by.does.step
    (down_write old.down new.down old.duplex.send_error by.does.answer by.does.writes)
step_cause branch.UpTake old new result by =
    answered old.up.told new.up.told old.duplex.send_error result _ by.does.step
    (up_take old.up.told new.up.told old.duplex.send_error by.does.answer)
step_cause branch.DownTake old new result by =
    elim by.does [
      | inl gives ↦
          answered old.down.told new.down.told old.duplex.send_error result _ gives.step
          (batch old.down new.down _ old.duplex.send_error gives.answer gives.takes)
      | inr loses ↦
          answered old.down.told new.down.told old.duplex.send_error result _ loses.step tt
    ]
step_cause branch.DownDrop old new result by =
    answered old.down.told new.down.told old.duplex.send_error result _ by.does.step tt
step_cause branch.DownEnd old new result by =
    answered old.down.told new.down.told old.duplex.send_error result _ by.does.step tt
step_cause branch.DownClosed old new result by =
    answered old.down.told new.down.told old.duplex.send_error result _ by.does.step tt
step_cause branch.UpRead old new result by =
    answered old.up.told new.up.told old.duplex.send_error result _ by.does.step
    (up_read old.up new.up old.duplex.send_error by.does.answer by.does.reads)
step_cause branch.DownRead old new result by =
    answered old.down.told new.down.told old.duplex.send_error result _ by.does.step
    (down_read old.down new.down old.duplex.send_error by.does.answer by.does.reads)
step_cause branch.UpFinish old new result by =
    answered old.up.told new.up.told old.duplex.send_error result _ by.does.step
    (up_finish old.up.told new.up.told old.duplex old.duplex.kind old.duplex.send_error)
step_cause branch.DownFinish old new result by =
    answered old.down.told new.down.told old.duplex.send_error result _ by.does.step
    (down_finish old.down new.down old.duplex.send_error old.duplex new.down.pending
    by.does.answer by.does.ends)
step_cause branch.MessageUp old new result by = absurd by
step_cause branch.MessageDown old new result by = absurd by

-- a send error that is kept from a write
keeps_write : (side side' : UpState) (d : Duplex) (answer : Put) → up.Writes side side' answer
    → KeepsSendError side.told side'.told d.send_error (after_up_write d answer).send_error
keeps_write side side' d (put.Took n) writes = inl refl
keeps_write side side' d put.NotReady writes = inl refl
keeps_write side side' d put.Silent writes = inl refl
keeps_write side side' d (put.Failed fault) writes =
    inr (
      fault_of Upstream fault,
      refl,
      rose (fault_of Upstream fault) side.told side'.told
          (ap (λ (s : UpState). s.told) writes),
    )
keeps_write side side' d put.OutOfMemory writes = inl refl

-- the upstream told the error that is kept of a piece
keeps_piece : (side side' : UpState) (d : Duplex) (answer : Result Unit Fail)
    → TakesPiece side side' answer
    → KeepsSendError side.told side'.told d.send_error (after_piece d answer).send_error
keeps_piece side side' d (Ok done) takes = inl refl
keeps_piece side side' d (Err (fail.Error error)) takes =
    inr (error, refl, rose error side.told side'.told (ap (λ (s : UpState). s.told) takes))
keeps_piece side side' d (Err fail.OutOfMemory) takes = inl refl

-- a batch leaves the send error
pub kept_batch : (d : Duplex) (side side' : DownState) (tasks : List HttpTask)
    (answer : Result Bool Fail)
    → (after_batch d side tasks side' answer).send_error ≡ d.send_error
kept_batch d side side' tasks (Ok done) = kept_upgrade d (down.accepts side side')
  where
    kept_upgrade : (d : Duplex) (accepted : Bool)
        → (with_upgrade d accepted).send_error ≡ d.send_error
    kept_upgrade d true = refl
    kept_upgrade d false = refl
kept_batch d side side' tasks (Err why) = refl

-- so does a read of the upstream
pub kept_up_read : (d : Duplex) (tunnel : Bool) (answer : Took HttpTask)
    → (after_up_read d tunnel answer).send_error ≡ d.send_error
kept_up_read d tunnel (took.Item task) = refl
kept_up_read d tunnel took.More = refl
kept_up_read d tunnel (took.Waited why) = refl
kept_up_read d tunnel took.End = refl
kept_up_read d tunnel (took.Failed (fail.Error error)) = refl
kept_up_read d tunnel (took.Failed fail.OutOfMemory) = refl

-- and a read of the client
pub kept_down_read : (d : Duplex) (upgraded : Bool) (answer : Took Piece)
    → (after_down_read d upgraded answer).send_error ≡ d.send_error
kept_down_read d upgraded (took.Item piece) = refl
kept_down_read d upgraded took.More = refl
kept_down_read d upgraded (took.Waited why) = refl
kept_down_read d upgraded took.End = refl
kept_down_read d upgraded (took.Failed why) = refl

-- and a write to the client
pub kept_down_write : (d : Duplex) (answer : Put)
    → (after_down_write d answer).send_error ≡ d.send_error
kept_down_write d (put.Took n) = refl
kept_down_write d put.NotReady = refl
kept_down_write d put.Silent = refl
kept_down_write d (put.Failed fault) = refl
kept_down_write d put.OutOfMemory = refl

-- and the end of the upstream half
pub kept_up_finish : (d : Duplex) (why : Option Error)
    → (after_up_finish d why).send_error ≡ d.send_error
kept_up_finish d None = refl
kept_up_finish d (Some error) = refl

-- and the end of the response's body
pub kept_down_finish : (d : Duplex) (pending : Bool) (answer : Result Unit Fail)
    → (after_down_finish d pending answer).send_error ≡ d.send_error
kept_down_finish d true (Ok done) = refl
kept_down_finish d false (Ok done) = refl
kept_down_finish d true (Err why) = refl
kept_down_finish d false (Err why) = refl

-- a send error at what the duplex is
keeps_at : (before after : Told) (old : Option Error) (wanted new : Duplex) → new ≡ wanted
    → KeepsSendError before after old wanted.send_error
    → KeepsSendError before after old new.send_error
keeps_at before after old wanted new is keeps =
    let P : Duplex → Type 0 = λ d. KeepsSendError before after old d.send_error in
    subst P (sym is) keeps

-- the send error is kept only from an answer of the upstream's side
pub step_keeps : (b : Branch) (old new : State) (result : Step) → StepsTo b old new result
    → KeepsSendError old.up.told new.up.told old.duplex.send_error new.duplex.send_error
step_keeps branch.UpWrite old new result by =
    keeps_at old.up.told new.up.told old.duplex.send_error _ new.duplex by.does.duplex
    (keeps_write old.up new.up old.duplex by.does.answer by.does.writes)
step_keeps branch.DownWrite old new result by =
    keeps_at old.up.told new.up.told old.duplex.send_error _ new.duplex by.does.duplex
    (inl (kept_down_write old.duplex by.does.answer))
step_keeps branch.UpTake old new result by =
    keeps_at old.up.told new.up.told old.duplex.send_error _ new.duplex by.does.duplex
    (keeps_piece old.up new.up
    (with_piece_sent (with_requests old.duplex by.does.rest) old.down.upgraded by.does.piece)
    by.does.answer by.does.takes)
step_keeps branch.DownTake old new result by =
    elim by.does [
      | inl gives ↦ keeps_at old.up.told new.up.told old.duplex.send_error _ new.duplex gives.duplex
          (inl (kept_batch (with_responses old.duplex (rest_of old.duplex.responses.tasks)) old.down
          new.down (batch_of old.duplex.responses.tasks) gives.answer))
      | inr loses ↦ keeps_at old.up.told new.up.told old.duplex.send_error _ new.duplex loses.duplex
          (inl refl)
    ]
step_keeps branch.DownDrop old new result by =
    keeps_at old.up.told new.up.told old.duplex.send_error _ new.duplex by.does.duplex (inl refl)
step_keeps branch.DownEnd old new result by =
    keeps_at old.up.told new.up.told old.duplex.send_error _ new.duplex by.does.duplex (inl refl)
step_keeps branch.DownClosed old new result by =
    keeps_at old.up.told new.up.told old.duplex.send_error _ new.duplex by.does.duplex (inl refl)
step_keeps branch.UpRead old new result by =
    keeps_at old.up.told new.up.told old.duplex.send_error _ new.duplex by.does.duplex
    (inl (kept_up_read old.duplex old.down.upgraded by.does.answer))
step_keeps branch.DownRead old new result by =
    keeps_at old.up.told new.up.told old.duplex.send_error _ new.duplex by.does.duplex
    (inl (kept_down_read old.duplex old.down.upgraded by.does.answer))
step_keeps branch.UpFinish old new result by =
    keeps_at old.up.told new.up.told old.duplex.send_error _ new.duplex by.does.duplex
    (inl (kept_up_finish old.duplex _))
step_keeps branch.DownFinish old new result by =
    keeps_at old.up.told new.up.told old.duplex.send_error _ new.duplex by.does.duplex
    (inl (kept_down_finish old.duplex new.down.pending by.does.answer))
step_keeps branch.MessageUp old new result by = absurd by
step_keeps branch.MessageDown old new result by = absurd by
