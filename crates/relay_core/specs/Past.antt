-- What passed through a side since its exchange began, and how a call goes on with it.
use Rattle.std.specs.Prelude.{◌≡◌, ℕ, Bool, true, false, List, [], ◌∷◌, ◌++◌, Option, Some, None, Result, Ok, Err}
use Rattle.std.specs.List.{list_any}
use Rattle.relay_tasks.specs.declared.error.Error.{Error}
use Rattle.relay_tasks.specs.declared.error.ErrorSource.{ErrorSource}
use Rattle.relay_tasks.specs.declared.error.Fail.{Fail}
use Rattle.relay_tasks.specs.declared.error.Fail.TheVariants as fail
use Rattle.relay_tasks.specs.declared.log.LogEntry.{LogEntry}
use Rattle.relay_tasks.specs.declared.task.HttpTask.{HttpTask}
use Rattle.relay_tasks.specs.declared.task.HttpTask.TheVariants as task
use Rattle.relay_tasks.specs.Head.{RequestHead}
use Rattle.relay_tasks.specs.declared.took.Took.{Took}
use Rattle.relay_tasks.specs.declared.took.Took.TheVariants as took
use Rattle.relay_links.specs.Link.{LinkState, GivesBytes}
use Rattle.relay_links.specs.declared.link.Put.{Put}
use Rattle.relay_links.specs.declared.link.Put.TheVariants as put
use Rattle.relay_core.specs.declared.piece.Piece.{Piece}
use Rattle.relay_core.specs.Piece.{put_of}
use Rattle.relay_core.specs.Pipe.{is_failure}
use Rattle.relay_core.specs.Told.{fault_of}

-- ---- the pasts

-- where an exchange began: with the head that the client's bytes say, and the head that is sent
-- upstream of it; whether both sides ask for an upgrade; where the client's link stood: the bytes
-- that were read ahead from it, how many bytes it had given and taken, and how many of its calls
-- had failed; whether the upstream's link had been used before; how many faults the client's link
-- had told of its reads and of its writes; and the calls of hooks that stood in the log
pub record Origin : Type 0 where
  pub head : RequestHead
  pub sent : RequestHead
  pub asked : Bool
  pub ahead : List ℕ
  pub given : ℕ
  pub taken : ℕ
  pub faults : ℕ
  pub reused : Bool
  pub read_faults : ℕ
  pub write_faults : ℕ
  pub called : List LogEntry

-- what passed through the client's side since its request began: the bytes that its link gave and
-- took; the tasks that its pieces put; the tasks that it was given; and the ends of the response
-- that were asked for behind them
pub record DownPast : Type 0 where
  pub came : List ℕ
  pub written : List ℕ
  pub put : List HttpTask
  pub batched : List HttpTask
  pub closing : List HttpTask

-- what passed through the upstream's side since its link was handed out: the bytes that the link
-- gave and took; the tasks that it gave; the pieces that it was given, and whether one of them was
-- lost, as it was refused or memory was wanted for it
pub record UpPast : Type 0 where
  pub got : List ℕ
  pub sent : List ℕ
  pub read : List HttpTask
  pub taken : List HttpTask
  pub lost : Bool

-- ---- what an answer says

-- the error of a failure; out of memory is none
abbrev pub error_of_fail : Fail → Option Error
error_of_fail fail.OutOfMemory = None
error_of_fail (fail.Error error) = Some error

-- the error of a read
abbrev pub error_of_took : {T : Type 0} → Took T → Option Error
error_of_took (took.Item item) = None
error_of_took took.More = None
error_of_took (took.Waited pause) = None
error_of_took took.End = None
error_of_took (took.Failed fail) = error_of_fail fail

-- the error of a call that queues
abbrev pub error_of_result : {T : Type 0} → Result T Fail → Option Error
error_of_result (Ok done) = None
error_of_result (Err why) = error_of_fail why

-- the error of a write on that side
abbrev pub error_of_put : ErrorSource → Put → Option Error
error_of_put side (put.Took n) = None
error_of_put side put.NotReady = None
error_of_put side put.Silent = None
error_of_put side (put.Failed fault) = Some (fault_of side fault)
error_of_put side put.OutOfMemory = None

-- the task that a read gave
abbrev pub task_in : Took HttpTask → List HttpTask
task_in (took.Item task) = task ∷ []
task_in took.More = []
task_in (took.Waited pause) = []
task_in took.End = []
task_in (took.Failed fail) = []

-- the task that a read of the client puts
abbrev pub put_in : Bool → Took Piece → List HttpTask
put_in upgraded (took.Item piece) = put_of upgraded piece
put_in upgraded took.More = []
put_in upgraded (took.Waited pause) = []
put_in upgraded took.End = []
put_in upgraded (took.Failed fail) = []

-- the end that was asked for, where it was not refused
abbrev pub closing_in : Result Unit Fail → List HttpTask
closing_in (Ok done) = task.Done ∷ []
closing_in (Err why) = []

-- the piece was lost
abbrev pub loses : Result Unit Fail → Bool
loses (Ok done) = false
loses (Err why) = true

-- a read of the link gave bytes
pub record GaveBytes (before after : LinkState) : Type 0 where
  pub room : List ℕ
  pub n : ℕ
  pub gives : GivesBytes before room n after

-- ---- how a call goes on

-- the call went on to a past with these tasks, and its error is one that the client's side answers
-- for
pub record DownGoes
    (holds : DownPast → Type 0) (blames : DownPast → Error → Type 0)
    (put batched closing : List HttpTask) (error : Option Error) : Type 0 where
  pub past : DownPast
  pub stands : holds past
  pub is_put : past.put ≡ put
  pub is_batched : past.batched ≡ batched
  pub is_closing : past.closing ≡ closing
  pub blamed : (e : Error) → error ≡ Some e → blames past e

-- a batch was refused: its front was given, and the side refuses what stands behind it. The error
-- of a failure that is given alone is not the side's own
pub record BatchRefused
    (holds : DownPast → Type 0) (refuses : DownPast → List HttpTask → Error → Type 0)
    (p : DownPast) (tasks : List HttpTask) (why : Fail) : Type 0 where
  pub filtered : List HttpTask
  pub left : List HttpTask
  pub parts : filtered ++ left ≡ tasks
  pub past : DownPast
  pub stands : holds past
  pub is_put : past.put ≡ p.put
  pub is_batched : past.batched ≡ p.batched ++ filtered
  pub is_closing : past.closing ≡ p.closing
  pub refused : (e : Error) → list_any is_failure tasks ≡ false → why ≡ fail.Error e
      → refuses past left e

-- what passed after a batch, by its answer
abbrev pub BatchGoes :
    (DownPast → Type 0) → (DownPast → Error → Type 0) → (DownPast → List HttpTask → Error → Type 0)
    → DownPast → List HttpTask → Result Bool Fail → Type 0
BatchGoes holds blames refuses p tasks (Ok done) =
    DownGoes holds blames p.put (p.batched ++ tasks) p.closing None
BatchGoes holds blames refuses p tasks (Err why) = BatchRefused holds refuses p tasks why

-- the call went on to a past with these tasks; the upstream's side answers for its error, and still
-- for those that it answered for before
pub record UpGoes
    (holds : UpPast → Type 0) (blamed_before blames : UpPast → Error → Type 0) (q : UpPast)
    (read taken : List HttpTask) (lost : Bool) (error : Option Error) : Type 0 where
  pub past : UpPast
  pub stands : holds past
  pub is_read : past.read ≡ read
  pub is_taken : past.taken ≡ taken
  pub is_lost : past.lost ≡ lost
  pub keeps : (e : Error) → blamed_before q e → blames past e
  pub blamed : (e : Error) → error ≡ Some e → blames past e
