-- The pieces of a request's body as tasks, and what a request is sent as with them (RFC 9112,
-- sections 6 and 7).
use Rattle.std.specs.Prelude.{◌≡◌, ℕ, if◌then◌else◌, List, [], ◌∷◌, ◌++◌, unwrap_or}
use Rattle.relay_tasks.specs.Head.{RequestHead}
use Rattle.relay_tasks.specs.declared.task.HttpTask.{HttpTask}
use Rattle.relay_tasks.specs.declared.task.HttpTask.TheVariants as task
use Rattle.relay_tasks.specs.Task.{is_end}
use Rattle.relay_peer.specs.RequestWriting.{Sent, begun, with_piece, with_end}

-- the first list is the front of the second
pub record IsFrontOf {X : Type 0} (front whole : List X) : Type 0 where
  pub rest : List X
  pub joined : front ++ rest ≡ whole

-- the bytes of the body that a task brings
abbrev pub bytes_of : HttpTask → List ℕ
bytes_of (task.Header head end) = []
bytes_of (task.Body piece end) = unwrap_or piece []
bytes_of (task.UpgradedBody piece end) = unwrap_or piece []
bytes_of (task.Trailer fields) = []
bytes_of task.Done = []
bytes_of (task.Failed error) = []

-- the bytes of the body that tasks bring, one after the other
abbrev pub body_of : List HttpTask → List ℕ
body_of [] = []
body_of (task ∷ tasks) = bytes_of task ++ body_of tasks

-- what a request is sent as with one task more: its bytes, and the end where the task carries it
abbrev pub sent_with : Sent → HttpTask → Sent
sent_with sent task =
    if is_end task then with_end (with_piece sent (bytes_of task))
    else with_piece sent (bytes_of task)

-- the same, with tasks in order
abbrev pub sent_behind : Sent → List HttpTask → Sent
sent_behind sent [] = sent
sent_behind sent (task ∷ tasks) = sent_behind (sent_with sent task) tasks

-- what a request with that head is sent as, its body being brought by these tasks
abbrev pub sent_as : RequestHead → List HttpTask → Sent
sent_as head tasks = sent_behind (begun head []) tasks
