-- What a chain of filters keeps of each task: whether it is the end, and whether it is a failure.
--
--   makes_plain   what the filters made has a failure exactly where what came has one
--   makes_ends    and an end exactly where that has one
use Rattle.std.proofs.Common.{◌≡◌, Bool, true, false, inl, inr, List, [], ◌∷◌, Option, Some, None, refl, ap, ◌∙◌}
use Rattle.std.specs.Prelude.{◌||◌, ℕ}
use Rattle.std.specs.List.{list_any}
use Rattle.relay_tasks.specs.declared.log.LogEntry.{LogEntry}
use Rattle.relay_tasks.specs.declared.task.HttpTask.{HttpTask}
use Rattle.relay_tasks.specs.declared.task.HttpTask.TheVariants as task
use Rattle.relay_tasks.specs.Task.{is_end}
use Rattle.relay_core.specs.Pipe.{is_failure}
use Rattle.relay_modules.specs.Filtering.{ended_by}
use Rattle.relay_filters.specs.Chain.{AllPass, ModuleChain, PassedModules, TaskChain}
use Rattle.relay_filters.specs.Response.{MakesOf}

-- where a chain keeps what a test says of each, it keeps what it says of a list
any_kept : (test : HttpTask → Bool) (chain : HttpTask → List LogEntry → HttpTask → Type 0)
    → ((x : HttpTask) (es : List LogEntry) (y : HttpTask) → chain x es y → test y ≡ test x)
    → (es : List LogEntry) (xs ys : List HttpTask) → AllPass chain es xs ys
    → list_any test ys ≡ list_any test xs
any_kept test chain keeps es [] [] none = refl
any_kept test chain keeps es [] (y ∷ ys) none = absurd none
any_kept test chain keeps es (x ∷ xs) [] none = absurd none
any_kept test chain keeps es (x ∷ xs) (y ∷ ys) (own, rest, is, c, pass) =
    ap (λ (b : Bool). b || list_any test ys) (keeps x own y c)
    ∙ ap (λ (b : Bool). test x || b) (any_kept test chain keeps rest xs ys pass)

-- ---- an end

-- the filters of the application leave whether a task is the end
pub task_end : (of_head : Bool) (x : HttpTask) (es : List LogEntry) (y : HttpTask)
    → TaskChain of_head x es y → is_end y ≡ is_end x
task_end of_head (task.Header head end) es y (last, h, is) = ap is_end is
task_end of_head (task.Body bytes end) es y (last, b, is) = ap is_end is
task_end of_head (task.UpgradedBody bytes end) es y (last, b, is) = ap is_end is
task_end of_head (task.Trailer None) es y (none, is) = ap is_end is
task_end of_head (task.Trailer (Some fields)) es y (last, t, is) = ap is_end is
task_end of_head task.Done es y (none, is) = ap is_end is
task_end of_head (task.Failed error) es y (none, is) = ap is_end is

-- an answer of the modules to an end is one
answer_ends : (answer : Option (List ℕ)) (other : HttpTask) → is_end other ≡ true
    → is_end (ended_by answer other) ≡ true
answer_ends None other ends = ends
answer_ends (Some bytes) other ends = refl

-- so do those of the modules
pub module_end : (x : HttpTask) (es : List LogEntry) (y : HttpTask) → ModuleChain x es y
    → is_end y ≡ is_end x
module_end (task.Header head end) es y (last, c, passes, is) = ap is_end is
module_end (task.Body bytes end) es y (last, c, is) = ap is_end is
module_end (task.UpgradedBody bytes end) es y (last, c, is) = ap is_end is
module_end (task.Trailer fields) es y (last, answer, c, is) =
    ap is_end is ∙ answer_ends answer (task.Trailer last) refl
module_end task.Done es y (answer, c, is) = ap is_end is ∙ answer_ends answer task.Done refl
module_end (task.Failed error) es y (none, is) = ap is_end is

-- ---- a failure

-- the filters of the application leave whether a task is a failure
task_failure : (of_head : Bool) (x : HttpTask) (es : List LogEntry) (y : HttpTask)
    → TaskChain of_head x es y → is_failure y ≡ is_failure x
task_failure of_head (task.Header head end) es y (last, h, is) = ap is_failure is
task_failure of_head (task.Body bytes end) es y (last, b, is) = ap is_failure is
task_failure of_head (task.UpgradedBody bytes end) es y (last, b, is) = ap is_failure is
task_failure of_head (task.Trailer None) es y (none, is) = ap is_failure is
task_failure of_head (task.Trailer (Some fields)) es y (last, t, is) = ap is_failure is
task_failure of_head task.Done es y (none, is) = ap is_failure is
task_failure of_head (task.Failed error) es y (none, is) = ap is_failure is

-- an answer of the modules is none
answer_plain : (answer : Option (List ℕ)) (other : HttpTask) → is_failure other ≡ false
    → is_failure (ended_by answer other) ≡ false
answer_plain None other plain = plain
answer_plain (Some bytes) other plain = refl

-- so do those of the modules
module_failure : (x : HttpTask) (es : List LogEntry) (y : HttpTask) → ModuleChain x es y
    → is_failure y ≡ is_failure x
module_failure (task.Header head end) es y (last, c, passes, is) = ap is_failure is
module_failure (task.Body bytes end) es y (last, c, is) = ap is_failure is
module_failure (task.UpgradedBody bytes end) es y (last, c, is) = ap is_failure is
module_failure (task.Trailer fields) es y (last, answer, c, is) =
    ap is_failure is ∙ answer_plain answer (task.Trailer last) refl
module_failure task.Done es y (answer, c, is) =
    ap is_failure is ∙ answer_plain answer task.Done refl
module_failure (task.Failed error) es y (none, is) = ap is_failure is

-- ---- the filters

-- what the modules' filters keep, is kept where a task may go on as it is too
pub passed_keeps : (test : HttpTask → Bool)
    → ((x : HttpTask) (es : List LogEntry) (y : HttpTask) → ModuleChain x es y
    → test y ≡ test x) → (stood : Bool) (x : HttpTask) (es : List LogEntry) (y : HttpTask)
    → PassedModules stood x es y → test y ≡ test x
passed_keeps test keeps true x es y c = keeps x es y c
passed_keeps test keeps false x es y (inl c) = keeps x es y c
passed_keeps test keeps false x es y (inr same) = ap test same.1

module _ (of_head stood : Bool) (es : List LogEntry) (on : Type 0) (came made : List HttpTask)
    (m : MakesOf of_head stood es on came made) where
  -- a test that both chains keep holds of what was made where it does of what came
  makes_keep : (test : HttpTask → Bool)
      → ((x : HttpTask) (fs : List LogEntry) (y : HttpTask) → TaskChain of_head x fs y
      → test y ≡ test x)
      → ((x : HttpTask) (fs : List LogEntry) (y : HttpTask) → ModuleChain x fs y → test y ≡ test x)
      → list_any test made ≡ list_any test came
  makes_keep test apps modules =
      any_kept test (PassedModules stood) (passed_keeps test modules stood) m.by_modules.done m.mid
      made m.by_modules.pass
      ∙ any_kept test (TaskChain of_head) apps m.by_app.done came m.mid m.by_app.pass

  -- a failure was made exactly where one came
  pub makes_plain : list_any is_failure made ≡ list_any is_failure came
  makes_plain = makes_keep is_failure (task_failure of_head) module_failure

  -- and an end exactly where one came
  pub makes_ends : list_any is_end made ≡ list_any is_end came
  makes_ends = makes_keep is_end (task_end of_head) module_end
