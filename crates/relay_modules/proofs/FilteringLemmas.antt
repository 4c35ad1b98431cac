-- What holds of the modules' calls, as far as a batch was filtered.
use Rattle.std.proofs.Common.{◌≡◌, List, [], ◌∷◌, ◌++◌, Some, None, Result, Ok, Err, refl, sym, ap, ◌∙◌, subst, append_assoc, append-nil}
use Rattle.relay_tasks.specs.declared.error.Error.{Error}
use Rattle.relay_tasks.specs.declared.error.Fail.{Fail}
use Rattle.relay_tasks.specs.declared.error.Fail.TheVariants as fail
use Rattle.relay_tasks.specs.declared.task.HttpTask.{HttpTask}
use Rattle.relay_tasks.specs.declared.task.HttpTask.TheVariants as task
use Rattle.relay_modules.specs.Module.{ModuleCall, response_header, response_body, response_trailer, response_done}
use Rattle.relay_modules.specs.Filtering.{Makes, Refuses, Passes, Stops, by_module, by_check, FiltersTask, AllPass, StopsAt, FiltersTasks}

-- ---- a module that allows less

-- what a module makes of a task, one that allows more makes too
Makes-widen : (P Q : ModuleCall → Type 0) → ((call : ModuleCall) → P call → Q call)
    → (came made : HttpTask) → Makes P came made → Makes Q came made
Makes-widen P Q wide (task.Header head end) made (left, is, kind, h) =
    (left, is, kind, wide (response_header head left end None) h)
Makes-widen P Q wide (task.Body piece end) made (left, is, h) =
    (left, is, wide (response_body piece left end None) h)
Makes-widen P Q wide (task.UpgradedBody piece end) made (left, is, h) =
    (left, is, wide (response_body piece left end None) h)
Makes-widen P Q wide (task.Trailer fields) made (left, answer, is, h) =
    (left, answer, is, wide (response_trailer fields left answer None) h)
Makes-widen P Q wide task.Done made (answer, is, h) =
    (answer, is, wide (response_done answer None) h)
Makes-widen P Q wide (task.Failed error) made is = is

-- what a module refuses, one that allows more refuses too
Refuses-widen : (P Q : ModuleCall → Type 0) → ((call : ModuleCall) → P call → Q call)
    → (came : HttpTask) (error : Error) → Refuses P came error → Refuses Q came error
Refuses-widen P Q wide (task.Header head end) error (left, h) =
    (left, wide (response_header head left end (Some error)) h)
Refuses-widen P Q wide (task.Body piece end) error (left, h) =
    (left, wide (response_body piece left end (Some error)) h)
Refuses-widen P Q wide (task.UpgradedBody piece end) error (left, h) =
    (left, wide (response_body piece left end (Some error)) h)
Refuses-widen P Q wide (task.Trailer fields) error (left, h) =
    (left, wide (response_trailer fields left None (Some error)) h)
Refuses-widen P Q wide task.Done error h = wide (response_done None (Some error)) h
Refuses-widen P Q wide (task.Failed cause) error h = h

-- a task that stops at a module stops at one that allows more
pub Stops-widen : (P Q : ModuleCall → Type 0) → ((call : ModuleCall) → P call → Q call)
    → (came : HttpTask) (error : Error) → Stops P came error → Stops Q came error
Stops-widen P Q wide came error (by_module h) = by_module (Refuses-widen P Q wide came error h)
Stops-widen P Q wide came error (by_check made h refused) =
    by_check made (Makes-widen P Q wide came made h) refused

-- a task that passes a module passes one that allows more
pub Passes-widen : (P Q : ModuleCall → Type 0) → ((call : ModuleCall) → P call → Q call)
    → (came made : HttpTask) → Passes P came made → Passes Q came made
Passes-widen P Q wide came made h =
    record { makes = Makes-widen P Q wide came made h.makes; stands = h.stands }

-- ---- a batch so far

-- a front of the batch passed, and the rest is left
pub record HasFiltered (allows : ModuleCall → Type 0) (tasks rest made : List HttpTask)
    : Type 0 where
  pub before : List HttpTask
  pub are : tasks ≡ before ++ rest
  pub passed : AllPass allows before made

-- nothing was filtered yet
pub HasFiltered-none : (allows : ModuleCall → Type 0) (tasks : List HttpTask)
    → HasFiltered allows tasks tasks []
HasFiltered-none allows tasks = record { before = []; are = refl; passed = tt }

-- one task more passes behind a batch that did
AllPass-more : (allows : ModuleCall → Type 0) (before made : List HttpTask) (came one : HttpTask)
    → AllPass allows before made → Passes allows came one
    → AllPass allows (before ++ came ∷ []) (made ++ one ∷ [])
AllPass-more allows [] [] came one all h = (h, tt)
AllPass-more allows [] (made ∷ more) came one all h = absurd all
AllPass-more allows (first ∷ rest) [] came one all h = absurd all
AllPass-more allows (first ∷ rest) (made ∷ more) came one all h =
    (all.0, AllPass-more allows rest more came one all.1 h)

-- the next task passed too
pub HasFiltered-more : (allows : ModuleCall → Type 0) (tasks rest made : List HttpTask)
    (came one : HttpTask) → HasFiltered allows tasks (came ∷ rest) made → Passes allows came one
    → HasFiltered allows tasks rest (made ++ one ∷ [])
HasFiltered-more allows tasks rest made came one so h =
    record {
      before = so.before ++ came ∷ [];
      are = so.are ∙ sym (append_assoc so.before (came ∷ []) rest);
      passed = AllPass-more allows so.before made came one so.passed h;
    }

-- with nothing left, all of the batch passed
pub HasFiltered-all : (allows : ModuleCall → Type 0) (tasks made : List HttpTask)
    → HasFiltered allows tasks [] made → AllPass allows tasks made
HasFiltered-all allows tasks made so =
    subst (λ (l : List HttpTask). AllPass allows l made)
    (sym (so.are ∙ append-nil so.before)) so.passed

-- the next task stopped
pub HasFiltered-stops : (allows : ModuleCall → Type 0) (tasks rest made : List HttpTask)
    (came : HttpTask) (error : Error) → HasFiltered allows tasks (came ∷ rest) made
    → Stops allows came error → StopsAt allows tasks error
HasFiltered-stops allows tasks rest made came error so h =
    record {
      before = so.before;
      at = came;
      behind = rest;
      are_tasks = so.are;
      made = made;
      passed = so.passed;
      stops = h;
    }

-- the call ends with the failure of the next task
pub HasFiltered-fails : (P Q : ModuleCall → Type 0) → ((call : ModuleCall) → P call → Q call)
    → (tasks rest made : List HttpTask) (came : HttpTask) (given : Fail)
    → HasFiltered Q tasks (came ∷ rest) made → FiltersTask P came (Err given)
    → FiltersTasks Q tasks (Err given)
HasFiltered-fails P Q wide tasks rest made came fail.OutOfMemory so h = tt
HasFiltered-fails P Q wide tasks rest made came (fail.Error error) so h =
    HasFiltered-stops Q tasks rest made came error so (Stops-widen P Q wide came error h)
