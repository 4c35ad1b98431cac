-- Pieces of a request body, and the tasks in which they pass the request pipe.
use Rattle.std.specs.Prelude.{ℕ, Bool, true, ◌&&◌, not, ◌==◌, if◌then◌else◌, List, length, Option, Some, None, option_to_list}
use Rattle.relay_tasks.specs.declared.task.HttpTask.{HttpTask}
use Rattle.relay_tasks.specs.declared.task.HttpTask.TheVariants as task
use Rattle.relay_core.specs.declared.piece.Piece.{Piece}

-- there are no bytes
abbrev pub is_empty : Option (List ℕ) → Bool
is_empty None = true
is_empty (Some bytes) = length bytes == 0

-- the task of a piece: raw bytes of a tunnel, or bytes of the request's body
abbrev pub task_of : Bool → Piece → HttpTask
task_of upgraded piece =
    if upgraded then task.UpgradedBody piece.bytes piece.upstream_end
    else task.Body piece.bytes piece.upstream_end

-- the task that a piece puts: none where it is empty and not the end
abbrev pub task_put_of : Bool → Piece → Option HttpTask
task_put_of upgraded piece =
    if is_empty piece.bytes && not piece.upstream_end then None else Some (task_of upgraded piece)

-- what a piece puts into the request pipe
abbrev pub put_of : Bool → Piece → List HttpTask
put_of upgraded piece = option_to_list (task_put_of upgraded piece)
