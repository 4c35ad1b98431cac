-- A step that waits leaves all but what a side tells, so the same branches can be taken.
use Rattle.std.proofs.Common.{◌≡◌, Bool, true, false, Option, Some, None, Result, Ok, Err, refl, sym, ap, ◌∙◌, subst, inl, inr}
use Rattle.relay_tasks.specs.declared.error.Error.{Error}
use Rattle.relay_tasks.specs.declared.error.Fail.{Fail}
use Rattle.relay_tasks.specs.declared.error.Fail.TheVariants as fail
use Rattle.relay_tasks.specs.declared.task.HttpTask.{HttpTask}
use Rattle.relay_tasks.specs.declared.took.Pause.{Pause}
use Rattle.relay_tasks.specs.declared.took.Took.{Took}
use Rattle.relay_tasks.specs.declared.took.Took.TheVariants as took
use Rattle.relay_links.specs.declared.branch.Branch.{Branch}
use Rattle.relay_links.specs.declared.branch.Branch.TheVariants as branch
use Rattle.relay_links.specs.declared.link.Put.{Put}
use Rattle.relay_links.specs.declared.link.Put.TheVariants as put
use Rattle.relay_core.specs.declared.duplex.Duplex.{Duplex}
use Rattle.relay_core.specs.declared.piece.Piece.{Piece}
use Rattle.relay_core.specs.declared.step.Step.{Step}
use Rattle.relay_core.specs.declared.step.Step.TheVariants as step
use Rattle.relay_links.specs.declared.link.UpKind.{UpKind}
use Rattle.relay_core.specs.declared.told.Told.{Told}
use Rattle.relay_core.specs.Down.{DownState, ReadsPiece}
use Rattle.relay_core.specs.Down as down
use Rattle.relay_core.specs.Steps.{StepsTo}
use Rattle.relay_core.specs.Table.{State, core, enabled, after_up_write, after_down_write, after_up_read, after_down_read, step_of_up_write, step_of_down_write, step_of_up_take, step_of_batch, step_of_up_read, step_of_down_read, custom_error, step_of_half, step_of_up_finish, step_of_down_finish}
use Rattle.relay_core.specs.Uses.{Stands}
use Rattle.relay_core.specs.Up.{UpState, ReadsTask}
use Rattle.relay_core.specs.Up as up

-- a step that waits
abbrev waits : Step → Bool
waits step.Moved = false
waits (step.Waited pause) = true
waits step.Finished = false
waits (step.Failed why) = false

-- an answer of another kind is no wait
no_wait : {A : Type 0} (result is : Step) (pause : Pause) → result ≡ is → waits is ≡ false
    → result ≡ step.Waited pause → A
no_wait result is pause same not h =
    let never : true ≡ false = sym (ap waits (sym same ∙ h)) ∙ not in absurd (cc)

-- which branches can be taken does not depend on what the sides tell
told_apart : (d : Duplex) (side : DownState) (u : UpState) (told told' : Told) (x : Branch)
    → enabled (core d (record side { told = told }) (record u { told = told' })) x
    ≡ enabled (core d side u) x
told_apart d side u told told' branch.UpWrite = refl
told_apart d side u told told' branch.DownWrite = refl
told_apart d side u told told' branch.UpTake = refl
told_apart d side u told told' branch.DownTake = refl
told_apart d side u told told' branch.DownDrop = refl
told_apart d side u told told' branch.DownEnd = refl
told_apart d side u told told' branch.DownClosed = refl
told_apart d side u told told' branch.UpRead = refl
told_apart d side u told told' branch.DownRead = refl
told_apart d side u told told' branch.UpFinish = refl
told_apart d side u told told' branch.DownFinish = refl
told_apart d side u told told' branch.MessageUp = refl
told_apart d side u told told' branch.MessageDown = refl

-- all but what the sides tell is as it was
record Still (old new : State) : Type 0 where
  duplex : new.duplex ≡ old.duplex
  told : Told
  down : new.down ≡ record old.down { told = told }
  up_told : Told
  up : new.up ≡ record old.up { told = up_told }

-- the same branches can be taken
still_enabled : (old new : State) → Still old new → (x : Branch) → enabled new x ≡ enabled old x
still_enabled old new s x =
    let P : Duplex → Type 0 = λ d. enabled (core d new.down new.up) x ≡ enabled old x in
    let Q : DownState → Type 0 = λ side. enabled (core old.duplex side new.up) x ≡ enabled old x in
    let R : UpState → Type 0 = λ u.
    enabled (core old.duplex (record old.down { told = s.told }) u) x ≡ enabled old x in
    subst P (sym s.duplex) (subst Q (sym s.down) (subst R (sym s.up)
    (told_apart old.duplex old.down old.up s.told s.up_told x)))

-- only the upstream's side told
up_still : (old new : State) (told : Told) → new.duplex ≡ old.duplex → new.down ≡ old.down
    → new.up ≡ record old.up { told = told } → Still old new
up_still old new told same down up = record {
  duplex = same;
  told = old.down.told;
  down = down;
  up_told = told;
  up = up;
}

-- only the client's side told
down_still : (old new : State) (told : Told) → new.duplex ≡ old.duplex
    → new.down ≡ record old.down { told = told } → new.up ≡ old.up → Still old new
down_still old new told same down up = record {
  duplex = same;
  told = told;
  down = down;
  up_told = old.up.told;
  up = up;
}

-- a write to the upstream that waits
up_write_still : (old new : State) (result : Step) (pause : Pause) (answer : Put)
    → up.Writes old.up new.up answer → new.duplex ≡ after_up_write old.duplex answer
    → result ≡ step_of_up_write answer → new.down ≡ old.down → result ≡ step.Waited pause
    → Still old new
up_write_still old new result pause (put.Took n) writes is came same h =
    no_wait result step.Moved pause came refl h
up_write_still old new result pause put.NotReady writes is came same h =
    up_still old new _ is same writes
up_write_still old new result pause put.Silent writes is came same h =
    up_still old new _ is same writes
up_write_still old new result pause (put.Failed fault) writes is came same h =
    no_wait result step.Moved pause came refl h
up_write_still old new result pause put.OutOfMemory writes is came same h =
    no_wait result (step.Failed fail.OutOfMemory) pause came refl h

-- a write to the client that waits
down_write_still : (old new : State) (result : Step) (pause : Pause) (answer : Put)
    → down.Writes old.down new.down answer → new.duplex ≡ after_down_write old.duplex answer
    → result ≡ step_of_down_write answer → new.up ≡ old.up → result ≡ step.Waited pause
    → Still old new
down_write_still old new result pause (put.Took n) writes is came same h =
    no_wait result step.Moved pause came refl h
down_write_still old new result pause put.NotReady writes is came same h =
    down_still old new _ is writes same
down_write_still old new result pause put.Silent writes is came same h =
    down_still old new _ is writes same
down_write_still old new result pause (put.Failed fault) writes is came same h =
    no_wait result _ pause came refl h
down_write_still old new result pause put.OutOfMemory writes is came same h =
    no_wait result (step.Failed fail.OutOfMemory) pause came refl h

-- a read of the upstream that waits
up_read_still : (old new : State) (result : Step) (pause : Pause) (answer : Took HttpTask)
    → ReadsTask old.up new.up answer
    → new.duplex ≡ after_up_read old.duplex old.down.upgraded answer
    → result ≡ step_of_up_read answer → new.down ≡ old.down → result ≡ step.Waited pause
    → Still old new
up_read_still old new result pause (took.Item task) reads is came same h =
    no_wait result step.Moved pause came refl h
up_read_still old new result pause took.More reads is came same h =
    no_wait result step.Moved pause came refl h
up_read_still old new result pause (took.Waited why) reads is came same h =
    up_still old new _ is same reads
up_read_still old new result pause took.End reads is came same h = absurd reads
up_read_still old new result pause (took.Failed (fail.Error error)) reads is came same h =
    no_wait result step.Moved pause came refl h
up_read_still old new result pause (took.Failed fail.OutOfMemory) reads is came same h =
    no_wait result (step.Failed fail.OutOfMemory) pause came refl h

-- a read of the client that waits
down_read_still : (old new : State) (result : Step) (pause : Pause) (answer : Took Piece)
    → ReadsPiece old.down new.down answer
    → new.duplex ≡ after_down_read old.duplex old.down.upgraded answer
    → result ≡ step_of_down_read answer → new.up ≡ old.up → result ≡ step.Waited pause
    → Still old new
down_read_still old new result pause (took.Item piece) reads is came same h =
    no_wait result step.Moved pause came refl h
down_read_still old new result pause took.More reads is came same h =
    no_wait result step.Moved pause came refl h
down_read_still old new result pause (took.Waited why) reads is came same h =
    down_still old new _ is reads same
down_read_still old new result pause took.End reads is came same h = absurd reads
down_read_still old new result pause (took.Failed why) reads is came same h =
    no_wait result (step.Failed why) pause came refl h

-- ends and tasks that pass are no waits
take_moves : (answer : Result Unit Fail) → waits (step_of_up_take answer) ≡ false
take_moves (Ok done) = refl
take_moves (Err (fail.Error error)) = refl
take_moves (Err fail.OutOfMemory) = refl

-- a batch is no wait
batch_moves : (answer : Result Bool Fail) → waits (step_of_batch answer) ≡ false
batch_moves (Ok done) = refl
batch_moves (Err why) = refl

-- nor is a half that finishes
half_moves : (other : Bool) → waits (step_of_half other) ≡ false
half_moves true = refl
half_moves false = refl

-- nor is the end of the upstream half
up_finish_moves : (d : Duplex) (why : UpKind)
    → waits (step_of_up_finish d (custom_error why d.send_error)) ≡ false
up_finish_moves d why = by_kept (custom_error why d.send_error)
  where
    by_kept : (kept : Option Error) → waits (step_of_up_finish d kept) ≡ false
    by_kept None = half_moves d.client_finished
    by_kept (Some error) = refl

-- nor is the end of the response's body
down_finish_moves : (d : Duplex) (pending : Bool) (answer : Result Unit Fail)
    → waits (step_of_down_finish d pending answer) ≡ false
down_finish_moves d true (Ok done) = refl
down_finish_moves d false (Ok done) = half_moves d.upstream_finished
down_finish_moves d true (Err why) = refl
down_finish_moves d false (Err why) = refl

-- a step that waits leaves all but what a side tells
wait_still : (b : Branch) (old new : State) (result : Step) (pause : Pause)
    → StepsTo b old new result → result ≡ step.Waited pause → Still old new
wait_still branch.UpWrite old new result pause by h =
    up_write_still old new result pause by.does.answer by.does.writes by.does.duplex by.does.step
    by.down h
wait_still branch.DownWrite old new result pause by h =
    down_write_still old new result pause by.does.answer by.does.writes by.does.duplex by.does.step
    by.up h
wait_still branch.UpTake old new result pause by h =
    no_wait result _ pause by.does.step (take_moves by.does.answer) h
wait_still branch.DownTake old new result pause by h =
    elim by.does [
      | inl gives ↦ no_wait result _ pause gives.step (batch_moves gives.answer) h
      | inr loses ↦ no_wait result (step.Failed fail.OutOfMemory) pause loses.step refl h
    ]
wait_still branch.DownDrop old new result pause by h =
    no_wait result step.Moved pause by.does.step refl h
wait_still branch.DownEnd old new result pause by h =
    no_wait result step.Moved pause by.does.step refl h
wait_still branch.DownClosed old new result pause by h =
    no_wait result step.Moved pause by.does.step refl h
wait_still branch.UpRead old new result pause by h =
    up_read_still old new result pause by.does.answer by.does.reads by.does.duplex by.does.step
    by.down h
wait_still branch.DownRead old new result pause by h =
    down_read_still old new result pause by.does.answer by.does.reads by.does.duplex by.does.step
    by.up h
wait_still branch.UpFinish old new result pause by h =
    no_wait result _ pause by.does.step (up_finish_moves old.duplex old.duplex.kind) h
wait_still branch.DownFinish old new result pause by h =
    no_wait result _ pause by.does.step
    (down_finish_moves old.duplex new.down.pending by.does.answer) h
wait_still branch.MessageUp old new result pause by h = absurd by
wait_still branch.MessageDown old new result pause by h = absurd by

-- the same branches can be taken behind a step that waits
pub wait_enabled : (b : Branch) (old new : State) (result : Step) → StepsTo b old new result
    → (pause : Pause) → result ≡ step.Waited pause → (x : Branch)
    → enabled new x ≡ enabled old x
wait_enabled b old new result by pause h x =
    still_enabled old new (wait_still b old new result pause by h) x

-- and the duplex is as it was
pub wait_stands : (b : Branch) (old new : State) (result : Step) → StepsTo b old new result
    → (pause : Pause) → result ≡ step.Waited pause → Stands old new
wait_stands b old new result by pause h =
    let s = wait_still b old new result pause by h in
    record {
      duplex = s.duplex;
      pending = ap (λ (side : DownState). side.pending) s.down;
      body_finished = ap (λ (side : DownState). side.body_finished) s.down;
      calls = ap (λ (side : DownState). side.calls) s.down;
    }
