-- The pieces in which a response moves.
use Rattle.std.specs.Prelude.{ℕ, Bool, true, List, codes}
use Rattle.relay_tasks.specs.declared.task.HttpTask.{HttpTask}
use Rattle.relay_tasks.specs.declared.task.HttpTask.TheVariants as task

-- whether the task is the last of its response
abbrev pub is_end : HttpTask → Bool
is_end (task.Header head end) = end
is_end (task.Body piece end) = end
is_end (task.UpgradedBody piece end) = end
is_end (task.Trailer fields) = true
is_end task.Done = true
is_end (task.Failed error) = true

-- the name of the task's kind
abbrev pub type_name : HttpTask → List ℕ
type_name (task.Header head end) = codes "Header"
type_name (task.Body piece end) = codes "Body"
type_name (task.UpgradedBody piece end) = codes "UpgradedBody"
type_name (task.Trailer fields) = codes "Trailer"
type_name task.Done = codes "Done"
type_name (task.Failed error) = codes "Failed"
