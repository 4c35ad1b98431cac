-- Batches of the response: which tasks go to the client together.
use Rattle.std.specs.Prelude.{◌≡◌, if◌then◌else◌, List, [], ◌∷◌, ◌++◌}
use Rattle.relay_tasks.specs.declared.task.HttpTask.{HttpTask}
use Rattle.relay_core.specs.Pipe.{Held, is_failure}

-- the tasks up to the first failure
abbrev pub plain_front : List HttpTask → List HttpTask
plain_front [] = []
plain_front (task ∷ tasks) = if is_failure task then [] else task ∷ plain_front tasks

-- the tasks from the first failure on
abbrev pub behind_plain : List HttpTask → List HttpTask
behind_plain [] = []
behind_plain (task ∷ tasks) = if is_failure task then task ∷ tasks else behind_plain tasks

-- the tasks that go together: a failure alone, else all up to the first failure
abbrev pub batch_of : List HttpTask → List HttpTask
batch_of [] = []
batch_of (task ∷ tasks) = if is_failure task then task ∷ [] else task ∷ plain_front tasks

-- the tasks that stay behind
abbrev pub rest_of : List HttpTask → List HttpTask
rest_of [] = []
rest_of (task ∷ tasks) = if is_failure task then tasks else behind_plain tasks

-- the pipe lost tasks at its front: there was no memory for them
pub record Loses (old new : Held) : Type 0 where
  pub lost : List HttpTask
  pub parts : old ≡ record new { tasks = lost ++ new.tasks }
