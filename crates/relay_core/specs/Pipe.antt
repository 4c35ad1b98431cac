-- A pipe: the tasks that it holds, and what a put and a take do.
use Rattle.std.specs.Prelude.{◌≡◌, ℕ, ◌<◌, Bool, true, false, ◌&&◌, not, ◌==◌, nat_lt, List, [], ◌∷◌, ◌++◌, ◌⊎◌, length, Option, Some, None, Result, Ok, Err, IsSome}
use Rattle.relay_tasks.specs.declared.task.HttpTask.{HttpTask}
use Rattle.relay_tasks.specs.declared.task.HttpTask.TheVariants as task

-- a pipe: its tasks in order, whether it was closed, and whether it was marked as failed
pub record Held : Type 0 where
  pub tasks : List HttpTask
  pub closed : Bool
  pub failed : Bool

-- how many tasks a pipe holds at most
abbrev pub places : ℕ
places = 4

-- the task of a place, if there is one, and then the tasks behind it
abbrev pub placed : Option HttpTask → List HttpTask → List HttpTask
placed None behind = behind
placed (Some task) behind = task ∷ behind

-- the tasks of the four places, in order
abbrev pub held_in : Option HttpTask → Option HttpTask → Option HttpTask → Option HttpTask
    → List HttpTask
held_in first second third fourth = placed first (placed second (placed third (placed fourth [])))

-- no empty place stands before a task
pub record HasNoGap (first second third fourth : Option HttpTask) : Type 0 where
  pub first_full : IsSome second → IsSome first
  pub second_full : IsSome third → IsSome second
  pub third_full : IsSome fourth → IsSome third

-- the pipe with that task behind those held
abbrev pub with_task : Held → HttpTask → Held
with_task pipe task = record pipe { tasks = pipe.tasks ++ task ∷ [] }

-- the pipe holds nothing
abbrev pub is_empty : Held → Bool
is_empty pipe = length pipe.tasks == 0

-- the pipe is open and has room
abbrev pub has_room : Held → Bool
has_room pipe = not pipe.closed && nat_lt (length pipe.tasks) places

-- the task says that the upstream failed
abbrev pub is_failure : HttpTask → Bool
is_failure (task.Header head end) = false
is_failure (task.Body piece end) = false
is_failure (task.UpgradedBody piece end) = false
is_failure (task.Trailer fields) = false
is_failure task.Done = false
is_failure (task.Failed error) = true

-- the list begins with a task that is no failure
abbrev pub begins_plain : List HttpTask → Bool
begins_plain [] = false
begins_plain (task ∷ tasks) = not (is_failure task)

-- the task was put behind those held: there was room, and the pipe was open
pub record Added (old : Held) (task : HttpTask) (new : Held) : Type 0 where
  pub room : length old.tasks < places
  pub was_open : old.closed ≡ false
  pub after : new ≡ with_task old task

-- the task came back: four are held, or the pipe is closed
pub record CameBack (old : Held) (task : HttpTask) (new : Held) (back : HttpTask) : Type 0 where
  pub cause : (length old.tasks ≡ places) ⊎ (old.closed ≡ true)
  pub given_back : back ≡ task
  pub same : new ≡ old

-- what a put does, by its answer
abbrev pub Puts : Held → HttpTask → Held → Result Unit HttpTask → Type 0
Puts old task new (Ok done) = Added old task new
Puts old task new (Err back) = CameBack old task new back

-- what a take does, by its answer
abbrev pub Takes : Held → Held → Option HttpTask → Type 0
Takes old new None = (old.tasks ≡ []) × (new ≡ old)
Takes old new (Some task) = old ≡ record new { tasks = task ∷ new.tasks }
