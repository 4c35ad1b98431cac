-- What one step of a duplex does, branch by branch: the answer of the outside, and its effect.
use Rattle.std.specs.Prelude.{◌≡◌, Bool, true, ◌||◌, List, [], ◌∷◌, ◌++◌, ◌⊎◌, Result}
use Rattle.relay_tasks.specs.declared.error.Error.{Error}
use Rattle.relay_tasks.specs.declared.error.ErrorSource.TheVariants.{Upstream, Downstream}
use Rattle.relay_tasks.specs.declared.error.Fail.{Fail}
use Rattle.relay_tasks.specs.declared.error.Fail.TheVariants as fail
use Rattle.relay_tasks.specs.declared.task.HttpTask.{HttpTask}
use Rattle.relay_tasks.specs.declared.took.Took.{Took}
use Rattle.relay_links.specs.declared.branch.Branch.{Branch}
use Rattle.relay_links.specs.declared.branch.Branch.TheVariants as branch
use Rattle.relay_links.specs.declared.link.Put.{Put}
use Rattle.relay_core.specs.declared.duplex.Duplex.{Duplex}
use Rattle.relay_core.specs.declared.piece.Piece.{Piece}
use Rattle.relay_core.specs.declared.step.Step.{Step}
use Rattle.relay_core.specs.declared.step.Step.TheVariants as step
use Rattle.relay_core.specs.Batch.{batch_of, rest_of}
use Rattle.relay_core.specs.Down.{DownState, ReadsPiece, TakesBatch, Finishes}
use Rattle.relay_core.specs.Down as down
use Rattle.relay_core.specs.Past.{DownPast, UpPast, DownGoes, BatchGoes, UpGoes, put_in, task_in, closing_in, loses, error_of_took, error_of_put, error_of_result}
use Rattle.relay_core.specs.Table.{State, failed, after_up_write, step_of_up_write, after_down_write, step_of_down_write, after_up_take, step_of_up_take, after_batch, step_of_batch, with_response_done, with_request_done, after_up_read, step_of_up_read, after_down_read, step_of_down_read, custom_error, after_up_finish, step_of_up_finish, after_down_finish, step_of_down_finish}
use Rattle.relay_core.specs.Up.{UpState, ReadsTask, TakesPiece}
use Rattle.relay_core.specs.Up as up

-- the duplex with these tasks in the request pipe
abbrev pub with_requests : Duplex → List HttpTask → Duplex
with_requests d tasks = record d { requests = record d.requests { tasks = tasks } }

-- the duplex with these tasks in the response pipe
abbrev pub with_responses : Duplex → List HttpTask → Duplex
with_responses d tasks = record d { responses = record d.responses { tasks = tasks } }

-- one write to the upstream
pub record UpWrites (before : Duplex) (side : UpState) (after : Duplex) (side' : UpState)
    (result : Step) : Type 0 where
  pub answer : Put
  pub writes : up.Writes side side' answer
  pub duplex : after ≡ after_up_write before answer
  pub step : result ≡ step_of_up_write answer

-- one write to the client
pub record DownWrites (before : Duplex) (side : DownState) (after : Duplex) (side' : DownState)
    (result : Step) : Type 0 where
  pub answer : Put
  pub writes : down.Writes side side' answer
  pub duplex : after ≡ after_down_write before answer
  pub step : result ≡ step_of_down_write answer

-- the first piece of the request pipe went to the upstream; the client was upgraded or not
pub record UpTakes (tunnel : Bool) (before : Duplex) (side : UpState) (after : Duplex)
    (side' : UpState) (result : Step) : Type 0 where
  pub piece : HttpTask
  pub rest : List HttpTask
  pub answer : Result Unit Fail
  pub held : before.requests.tasks ≡ piece ∷ rest
  pub takes : TakesPiece side side' answer
  pub duplex : after ≡ after_up_take (with_requests before rest) tunnel piece answer
  pub step : result ≡ step_of_up_take answer

-- the client was given these tasks
pub record GivesBatch (before : Duplex) (side : DownState) (tasks : List HttpTask)
    (after : Duplex) (side' : DownState) (result : Step) : Type 0 where
  pub answer : Result Bool Fail
  pub takes : TakesBatch side tasks side' answer
  pub duplex : after ≡ after_batch before side tasks side' answer
  pub step : result ≡ step_of_batch answer

-- there was no memory for a batch: the client was given nothing, and tasks were lost
pub record LosesBatch (before : Duplex) (side : DownState) (after : Duplex) (side' : DownState)
    (result : Step) : Type 0 where
  pub lost : List HttpTask
  pub left : List HttpTask
  pub parts : before.responses.tasks ≡ lost ++ left
  pub same : side' ≡ side
  pub duplex : after ≡ failed (with_responses before left)
  pub step : result ≡ step.Failed fail.OutOfMemory

-- the tasks of the response pipe that go together went to the client
abbrev pub DownTakes : Duplex → DownState → Duplex → DownState → Step → Type 0
DownTakes before side after side' result =
    GivesBatch (with_responses before (rest_of before.responses.tasks)) side
    (batch_of before.responses.tasks) after side' result
    ⊎ LosesBatch before side after side' result

-- the first task of the response pipe was dropped
pub record DownDrops (before after : Duplex) (result : Step) : Type 0 where
  pub task : HttpTask
  pub rest : List HttpTask
  pub held : before.responses.tasks ≡ task ∷ rest
  pub duplex : after ≡ with_responses before rest
  pub step : result ≡ step.Moved

-- one read of the upstream; the client was upgraded or not
pub record UpReads (tunnel : Bool) (before : Duplex) (side : UpState) (after : Duplex)
    (side' : UpState) (result : Step) : Type 0 where
  pub answer : Took HttpTask
  pub reads : ReadsTask side side' answer
  pub duplex : after ≡ after_up_read before tunnel answer
  pub step : result ≡ step_of_up_read answer

-- one read of the client
pub record DownReads (before : Duplex) (side : DownState) (after : Duplex) (side' : DownState)
    (result : Step) : Type 0 where
  pub answer : Took Piece
  pub reads : ReadsPiece side side' answer
  pub duplex : after ≡ after_down_read before side.upgraded answer
  pub step : result ≡ step_of_down_read answer

-- the upstream half came to its end
pub record UpEnds (before after : Duplex) (result : Step) : Type 0 where
  pub duplex : after ≡ after_up_finish before (custom_error before.kind before.send_error)
  pub step : result ≡ step_of_up_finish before (custom_error before.kind before.send_error)

-- the response's body was ended, and with nothing pending the client's half
pub record DownEnds (before : Duplex) (side : DownState) (after : Duplex) (side' : DownState)
    (result : Step) : Type 0 where
  pub answer : Result Unit Fail
  pub ends : Finishes side side' answer
  pub duplex : after ≡ after_down_finish before side'.pending answer
  pub step : result ≡ step_of_down_finish before side'.pending answer

-- ---- the same, with what passed: how each branch of a side goes on with its past

-- one write to the upstream
pub record UpWritesOn
    (holds : UpPast → Type 0) (blamed_before blames : UpPast → Error → Type 0) (q : UpPast)
    (before : Duplex) (side : UpState) (after : Duplex) (side' : UpState) (result : Step)
    : Type 0 where
  pub answer : Put
  pub writes : up.Writes side side' answer
  pub duplex : after ≡ after_up_write before answer
  pub step : result ≡ step_of_up_write answer
  pub goes :
      UpGoes holds blamed_before blames q q.read q.taken q.lost (error_of_put Upstream answer)

-- one write to the client
pub record DownWritesOn
    (holds : DownPast → Type 0) (blames : DownPast → Error → Type 0) (p : DownPast)
    (before : Duplex) (side : DownState) (after : Duplex) (side' : DownState) (result : Step)
    : Type 0 where
  pub answer : Put
  pub writes : down.Writes side side' answer
  pub duplex : after ≡ after_down_write before answer
  pub step : result ≡ step_of_down_write answer
  pub goes : DownGoes holds blames p.put p.batched p.closing (error_of_put Downstream answer)

-- the first piece of the request pipe went to the upstream
pub record UpTakesOn
    (holds : UpPast → Type 0) (blamed_before blames : UpPast → Error → Type 0) (q : UpPast)
    (tunnel : Bool) (before : Duplex) (side : UpState) (after : Duplex) (side' : UpState)
    (result : Step) : Type 0 where
  pub piece : HttpTask
  pub rest : List HttpTask
  pub answer : Result Unit Fail
  pub held : before.requests.tasks ≡ piece ∷ rest
  pub takes : TakesPiece side side' answer
  pub duplex : after ≡ after_up_take (with_requests before rest) tunnel piece answer
  pub step : result ≡ step_of_up_take answer
  pub goes : UpGoes holds blamed_before blames q q.read (q.taken ++ piece ∷ [])
      (q.lost || loses answer) (error_of_result answer)

-- the client was given these tasks
pub record GivesBatchOn
    (holds : DownPast → Type 0) (blames : DownPast → Error → Type 0)
    (refuses : DownPast → List HttpTask → Error → Type 0) (p : DownPast)
    (before : Duplex) (side : DownState) (tasks : List HttpTask) (after : Duplex)
    (side' : DownState) (result : Step) : Type 0 where
  pub answer : Result Bool Fail
  pub takes : TakesBatch side tasks side' answer
  pub duplex : after ≡ after_batch before side tasks side' answer
  pub step : result ≡ step_of_batch answer
  pub goes : BatchGoes holds blames refuses p tasks answer

-- there was no memory for a batch, and the client's past stays
pub record LosesBatchOn
    (holds : DownPast → Type 0) (p : DownPast) (before : Duplex) (side : DownState)
    (after : Duplex) (side' : DownState) (result : Step) : Type 0 where
  pub loses : LosesBatch before side after side' result
  pub stands : holds p

-- the tasks of the response pipe that go together went to the client
abbrev pub DownTakesOn :
    (DownPast → Type 0) → (DownPast → Error → Type 0) → (DownPast → List HttpTask → Error → Type 0)
    → DownPast → Duplex → DownState → Duplex → DownState → Step → Type 0
DownTakesOn holds blames refuses p before side after side' result =
    GivesBatchOn holds blames refuses p (with_responses before (rest_of before.responses.tasks))
    side (batch_of before.responses.tasks) after side' result
    ⊎ LosesBatchOn holds p before side after side' result

-- one read of the upstream
pub record UpReadsOn
    (holds : UpPast → Type 0) (blamed_before blames : UpPast → Error → Type 0) (q : UpPast)
    (tunnel : Bool) (before : Duplex) (side : UpState) (after : Duplex) (side' : UpState)
    (result : Step) : Type 0 where
  pub answer : Took HttpTask
  pub reads : ReadsTask side side' answer
  pub duplex : after ≡ after_up_read before tunnel answer
  pub step : result ≡ step_of_up_read answer
  pub goes : UpGoes holds blamed_before blames q (q.read ++ task_in answer) q.taken q.lost
      (error_of_took answer)

-- one read of the client
pub record DownReadsOn
    (holds : DownPast → Type 0) (blames : DownPast → Error → Type 0) (p : DownPast)
    (before : Duplex) (side : DownState) (after : Duplex) (side' : DownState) (result : Step)
    : Type 0 where
  pub answer : Took Piece
  pub reads : ReadsPiece side side' answer
  pub duplex : after ≡ after_down_read before side.upgraded answer
  pub step : result ≡ step_of_down_read answer
  pub goes : DownGoes holds blames (p.put ++ put_in side.upgraded answer) p.batched p.closing
      (error_of_took answer)

-- the response's body was ended
pub record DownEndsOn
    (holds : DownPast → Type 0) (cannot_end : DownPast → Error → Type 0) (p : DownPast)
    (before : Duplex) (side : DownState) (after : Duplex) (side' : DownState) (result : Step)
    : Type 0 where
  pub answer : Result Unit Fail
  pub ends : Finishes side side' answer
  pub duplex : after ≡ after_down_finish before side'.pending answer
  pub step : result ≡ step_of_down_finish before side'.pending answer
  pub goes : DownGoes holds cannot_end p.put p.batched (p.closing ++ closing_in answer)
      (error_of_result answer)

-- the duplex changed so, and something moved
pub record Becomes (wanted after : Duplex) (result : Step) : Type 0 where
  pub duplex : after ≡ wanted
  pub step : result ≡ step.Moved

-- a branch of the client's half: the upstream's side stays
pub record OnDown (did : Type 0) (old new : State) : Type 0 where
  pub does : did
  pub up : new.up ≡ old.up

-- a branch of the upstream half: the client's side stays
pub record OnUp (did : Type 0) (old new : State) : Type 0 where
  pub does : did
  pub down : new.down ≡ old.down

-- a branch that asks neither side
pub record OnNeither (did : Type 0) (old new : State) : Type 0 where
  pub does : did
  pub down : new.down ≡ old.down
  pub up : new.up ≡ old.up

-- what a step by that branch does
abbrev pub StepsTo : Branch → State → State → Step → Type 0
StepsTo branch.UpWrite old new result =
    OnUp (UpWrites old.duplex old.up new.duplex new.up result) old new
StepsTo branch.DownWrite old new result =
    OnDown (DownWrites old.duplex old.down new.duplex new.down result) old new
StepsTo branch.UpTake old new result =
    OnUp (UpTakes old.down.upgraded old.duplex old.up new.duplex new.up result) old new
StepsTo branch.DownTake old new result =
    OnDown (DownTakes old.duplex old.down new.duplex new.down result) old new
StepsTo branch.DownDrop old new result = OnNeither (DownDrops old.duplex new.duplex result) old new
StepsTo branch.DownEnd old new result =
    OnNeither (Becomes (with_response_done old.duplex true) new.duplex result) old new
StepsTo branch.DownClosed old new result =
    OnNeither (Becomes (with_request_done old.duplex true) new.duplex result) old new
StepsTo branch.UpRead old new result =
    OnUp (UpReads old.down.upgraded old.duplex old.up new.duplex new.up result) old new
StepsTo branch.DownRead old new result =
    OnDown (DownReads old.duplex old.down new.duplex new.down result) old new
StepsTo branch.UpFinish old new result = OnNeither (UpEnds old.duplex new.duplex result) old new
StepsTo branch.DownFinish old new result =
    OnDown (DownEnds old.duplex old.down new.duplex new.down result) old new
StepsTo branch.MessageUp old new result = ⊥
StepsTo branch.MessageDown old new result = ⊥
