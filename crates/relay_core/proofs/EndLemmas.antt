-- What a step answers tells what the duplex has become.
use Rattle.std.proofs.Common.{◌≡◌, Bool, true, false, ◌&&◌, not, List, Option, Some, None, Result, Ok, Err, refl, sym, ap, ◌∙◌, subst, inl, inr}
use Rattle.relay_tasks.specs.declared.error.Error.{Error}
use Rattle.relay_tasks.specs.declared.error.Fail.{Fail}
use Rattle.relay_tasks.specs.declared.error.Fail.TheVariants as fail
use Rattle.relay_tasks.specs.declared.task.HttpTask.{HttpTask}
use Rattle.relay_tasks.specs.declared.took.Took.{Took}
use Rattle.relay_tasks.specs.declared.took.Took.TheVariants as took
use Rattle.relay_links.specs.declared.branch.Branch.{Branch}
use Rattle.relay_links.specs.declared.branch.Branch.TheVariants as branch
use Rattle.relay_links.specs.declared.link.Put.{Put}
use Rattle.relay_links.specs.declared.link.Put.TheVariants as put
use Rattle.relay_core.specs.declared.duplex.Duplex.{Duplex}
use Rattle.relay_core.specs.declared.piece.Piece.{Piece}
use Rattle.relay_core.specs.declared.step.Step.{Step}
use Rattle.relay_core.specs.declared.step.Step.TheVariants as step
use Rattle.relay_core.specs.Batch.{batch_of, rest_of}
use Rattle.relay_core.specs.Causes.{Tells, says_failed, says_finished}
use Rattle.relay_core.specs.Down.{DownState, accepts}
use Rattle.relay_core.specs.Steps.{StepsTo, with_requests, with_responses}
use Rattle.relay_core.specs.Table.{State, enabled, down_runs, up_runs, is_failed, is_finished, failed, after_up_write, step_of_up_write, after_down_write, step_of_down_write, after_piece, with_piece_sent, step_of_up_take, with_upgrade, after_batch, step_of_batch, after_up_read, step_of_up_read, after_down_read, step_of_down_read, after_up_finish, step_of_up_finish, step_of_half, after_down_finish, step_of_down_finish}
use Rattle.relay_core.proofs.BoolLemmas.{and_left, and_right, and-true, and_false, not_true}

-- no half failed, and not both have finished
pub record Alive (d : Duplex) : Type 0 where
  pub sound : is_failed d.word ≡ false
  pub open_yet : is_finished d ≡ false

-- an upstream half that goes on is alive
alive_up : (d : Duplex) → up_runs d ≡ true → Alive d
alive_up d runs = record {
  sound = not_true (is_failed d.word) (and_right (not d.upstream_finished) _ runs);
  open_yet = ap (λ (b : Bool). b && d.client_finished)
      (not_true d.upstream_finished (and_left (not d.upstream_finished) _ runs));
}

-- so is a client's half that goes on
alive_down : (d : Duplex) → down_runs d ≡ true → Alive d
alive_down d runs = record {
  sound = not_true (is_failed d.word) (and_right (not d.client_finished) _ runs);
  open_yet = and_false d.upstream_finished d.client_finished
      (not_true d.client_finished (and_left (not d.client_finished) _ runs));
}

-- an answer that says neither, where the duplex goes on
goes_on : (result : Step) (d : Duplex) → says_failed result ≡ false
    → says_finished result ≡ false → Alive d → Tells result d
goes_on result d p q alive =
    record { failed = p ∙ sym alive.sound; finished = q ∙ sym alive.open_yet }

-- the failure of a half
gives_up : (d : Duplex) (why : Fail) → Alive d → Tells (step.Failed why) (failed d)
gives_up d why alive = record { failed = refl; finished = sym alive.open_yet }

-- a write to the upstream says what it left
tells_up_write : (d : Duplex) (answer : Put) → Alive d
    → Tells (step_of_up_write answer) (after_up_write d answer)
tells_up_write d (put.Took n) alive = goes_on _ d refl refl alive
tells_up_write d put.NotReady alive = goes_on _ d refl refl alive
tells_up_write d put.Silent alive = goes_on _ d refl refl alive
tells_up_write d (put.Failed fault) alive =
    record { failed = sym alive.sound; finished = sym alive.open_yet }
tells_up_write d put.OutOfMemory alive = gives_up d fail.OutOfMemory alive

-- so does a write to the client
tells_down_write : (d : Duplex) (answer : Put) → Alive d
    → Tells (step_of_down_write answer) (after_down_write d answer)
tells_down_write d (put.Took n) alive = goes_on _ d refl refl alive
tells_down_write d put.NotReady alive = goes_on _ d refl refl alive
tells_down_write d put.Silent alive = goes_on _ d refl refl alive
tells_down_write d (put.Failed fault) alive = gives_up d _ alive
tells_down_write d put.OutOfMemory alive = gives_up d fail.OutOfMemory alive

-- and the answer on a piece
tells_piece : (d : Duplex) (answer : Result Unit Fail) → Alive d
    → Tells (step_of_up_take answer) (after_piece d answer)
tells_piece d (Ok done) alive = goes_on step.Moved d refl refl alive
tells_piece d (Err (fail.Error error)) alive =
    record { failed = sym alive.sound; finished = sym alive.open_yet }
tells_piece d (Err fail.OutOfMemory) alive = gives_up d fail.OutOfMemory alive

-- an accepted 101 leaves the duplex alive
tells_upgrade : (d : Duplex) (accepted : Bool) → Alive d → Alive (with_upgrade d accepted)
tells_upgrade d true alive = record { sound = alive.sound; open_yet = alive.open_yet }
tells_upgrade d false alive = alive

-- a batch says what it left
tells_batch : (d : Duplex) (side side' : DownState) (tasks : List HttpTask)
    (answer : Result Bool Fail) → Alive d
    → Tells (step_of_batch answer) (after_batch d side tasks side' answer)
tells_batch d side side' tasks (Ok done) alive =
    let after = tells_upgrade d (accepts side side') alive in
    record { failed = sym after.sound; finished = sym after.open_yet }
tells_batch d side side' tasks (Err why) alive = gives_up d why alive

-- so does a read of the upstream
tells_up_read : (d : Duplex) (tunnel : Bool) (answer : Took HttpTask) → Alive d
    → Tells (step_of_up_read answer) (after_up_read d tunnel answer)
tells_up_read d tunnel (took.Item task) alive =
    record { failed = sym alive.sound; finished = sym alive.open_yet }
tells_up_read d tunnel took.More alive = goes_on step.Moved d refl refl alive
tells_up_read d tunnel (took.Waited why) alive = goes_on (step.Waited why) d refl refl alive
tells_up_read d tunnel took.End alive = goes_on step.Moved d refl refl alive
tells_up_read d tunnel (took.Failed (fail.Error error)) alive =
    record { failed = sym alive.sound; finished = sym alive.open_yet }
tells_up_read d tunnel (took.Failed fail.OutOfMemory) alive = gives_up d fail.OutOfMemory alive

-- and a read of the client
tells_down_read : (d : Duplex) (upgraded : Bool) (answer : Took Piece) → Alive d
    → Tells (step_of_down_read answer) (after_down_read d upgraded answer)
tells_down_read d upgraded (took.Item piece) alive =
    record { failed = sym alive.sound; finished = sym alive.open_yet }
tells_down_read d upgraded took.More alive = goes_on step.Moved d refl refl alive
tells_down_read d upgraded (took.Waited why) alive = goes_on (step.Waited why) d refl refl alive
tells_down_read d upgraded took.End alive = goes_on step.Moved d refl refl alive
tells_down_read d upgraded (took.Failed why) alive = gives_up d why alive

-- a half that finishes is no failure
half_failed : (other : Bool) → says_failed (step_of_half other) ≡ false
half_failed true = refl
half_failed false = refl

-- it says that both have finished where the other has
half_finished : (other : Bool) → says_finished (step_of_half other) ≡ other
half_finished true = refl
half_finished false = refl

-- the end of the upstream half says what it left
tells_up_finish : (d : Duplex) (why : Option Error) → Alive d
    → Tells (step_of_up_finish d why) (after_up_finish d why)
tells_up_finish d None alive = record {
  failed = half_failed d.client_finished ∙ sym alive.sound;
  finished = half_finished d.client_finished;
}
tells_up_finish d (Some error) alive = gives_up d (fail.Error error) alive

-- so does the end of the response's body
tells_down_finish : (d : Duplex) (pending : Bool) (answer : Result Unit Fail) → Alive d
    → Tells (step_of_down_finish d pending answer) (after_down_finish d pending answer)
tells_down_finish d true (Ok done) alive = goes_on step.Moved d refl refl alive
tells_down_finish d false (Ok done) alive = record {
  failed = half_failed d.upstream_finished;
  finished = half_finished d.upstream_finished ∙ sym (and-true d.upstream_finished);
}
tells_down_finish d true (Err why) alive = gives_up d why alive
tells_down_finish d false (Err why) alive = gives_up d why alive

-- an answer tells of what the duplex is
tells_at : (result is : Step) (d wanted : Duplex) → result ≡ is → d ≡ wanted → Tells is wanted
    → Tells result d
tells_at result is d wanted same same' tells =
    let P : Step → Type 0 = λ r. Tells r d in
    let Q : Duplex → Type 0 = λ x. Tells is x in
    subst P (sym same) (subst Q (sym same') tells)

-- each answer tells exactly whether a half failed, and whether both have finished
pub step_tells : (b : Branch) (old new : State) (result : Step) → enabled old b ≡ true
    → StepsTo b old new result → Tells result new.duplex
step_tells branch.UpWrite old new result on by =
    tells_at result _ new.duplex _ by.does.step by.does.duplex
    (tells_up_write old.duplex by.does.answer
    (alive_up old.duplex (and_left (up_runs old.duplex) _ on)))
step_tells branch.DownWrite old new result on by =
    tells_at result _ new.duplex _ by.does.step by.does.duplex
    (tells_down_write old.duplex by.does.answer
    (alive_down old.duplex (and_left (down_runs old.duplex) _ on)))
step_tells branch.UpTake old new result on by =
    let alive = alive_up old.duplex (and_left (up_runs old.duplex) _ on) in
    tells_at result _ new.duplex _ by.does.step by.does.duplex
    (tells_piece
    (with_piece_sent (with_requests old.duplex by.does.rest) old.down.upgraded by.does.piece)
    by.does.answer (record { sound = alive.sound; open_yet = alive.open_yet }))
step_tells branch.DownTake old new result on by =
    let alive = alive_down old.duplex (and_left (down_runs old.duplex) _ on) in
    let held = old.duplex.responses.tasks in
    elim by.does [
      | inl gives ↦ tells_at result _ new.duplex _ gives.step gives.duplex
          (tells_batch (with_responses old.duplex (rest_of held)) old.down new.down (batch_of held)
          gives.answer (record { sound = alive.sound; open_yet = alive.open_yet }))
      | inr loses ↦ tells_at result _ new.duplex _ loses.step loses.duplex
          (gives_up (with_responses old.duplex loses.left) fail.OutOfMemory
          (record { sound = alive.sound; open_yet = alive.open_yet }))
    ]
step_tells branch.DownDrop old new result on by =
    let alive = alive_down old.duplex (and_left (down_runs old.duplex) _ on) in
    tells_at result step.Moved new.duplex _ by.does.step by.does.duplex
    (record { failed = sym alive.sound; finished = sym alive.open_yet })
step_tells branch.DownEnd old new result on by =
    let alive = alive_down old.duplex (and_left (down_runs old.duplex) _ on) in
    tells_at result step.Moved new.duplex _ by.does.step by.does.duplex
    (record { failed = sym alive.sound; finished = sym alive.open_yet })
step_tells branch.DownClosed old new result on by =
    let alive = alive_down old.duplex (and_left (down_runs old.duplex) _ on) in
    tells_at result step.Moved new.duplex _ by.does.step by.does.duplex
    (record { failed = sym alive.sound; finished = sym alive.open_yet })
step_tells branch.UpRead old new result on by =
    tells_at result _ new.duplex _ by.does.step by.does.duplex
    (tells_up_read old.duplex old.down.upgraded by.does.answer
    (alive_up old.duplex (and_left (up_runs old.duplex) _ on)))
step_tells branch.DownRead old new result on by =
    tells_at result _ new.duplex _ by.does.step by.does.duplex
    (tells_down_read old.duplex old.down.upgraded by.does.answer
    (alive_down old.duplex (and_left (down_runs old.duplex) _ on)))
step_tells branch.UpFinish old new result on by =
    tells_at result _ new.duplex _ by.does.step by.does.duplex
    (tells_up_finish old.duplex _ (alive_up old.duplex (and_left (up_runs old.duplex) _ on)))
step_tells branch.DownFinish old new result on by =
    tells_at result _ new.duplex _ by.does.step by.does.duplex
    (tells_down_finish old.duplex new.down.pending by.does.answer
    (alive_down old.duplex (and_left (down_runs old.duplex) _ on)))
step_tells branch.MessageUp old new result on by = absurd by
step_tells branch.MessageDown old new result on by = absurd by
