-- The rules of a hook, one after the other.
use Rattle.std.specs.Prelude.{◌≡◌, Bool, true, if◌then◌else◌, List, [], ◌∷◌, Option, Some, None, Result, Ok, Err}
use Rattle.relay_tasks.specs.declared.error.Error.{Error}
use Rattle.relay_tasks.specs.declared.error.Fail.{Fail}
use Rattle.relay_tasks.specs.declared.error.Fail.TheVariants as fail
use Rattle.relay_tasks.specs.declared.hook.Hook.{Hook}
use Rattle.relay_tasks.specs.Hooks.{same_hook}
use Rattle.relay_script.specs.declared.rule.Action.{Action}
use Rattle.relay_script.specs.declared.rule.Rule.{Rule}

-- what rules left of a value, and the error that ended them
pub record Outcome (X : Type 0) : Type 0 where
  pub left : X
  pub error : Option Error

-- the value, and no error
abbrev pub goes_on : {X : Type 0} → X → Outcome X
goes_on x = record { left = x; error = None }

-- the value, and an error behind which no rule runs
abbrev pub stops : {X : Type 0} → X → Error → Outcome X
stops x error = record { left = x; error = Some error }

-- what follows runs on what was left, where no error ended it
abbrev pub followed : {X : Type 0} → X → Option Error → (X → Outcome X) → Outcome X
followed x None next = next x
followed x (Some error) next = stops x error

-- the rules of the hook in order, up to the first error
abbrev pub run_rules : {X : Type 0} → (Action → X → Outcome X) → Hook → List Rule → X → Outcome X
run_rules act hook [] x = goes_on x
run_rules act hook (rule ∷ rules) x =
    if same_hook rule.hook hook
    then followed (act rule.action x).left (act rule.action x).error (run_rules act hook rules)
    else run_rules act hook rules x

-- the rules of the hook in order, where none fails
abbrev pub apply_rules : {X : Type 0} → (Action → X → X) → Hook → List Rule → X → X
apply_rules act hook [] x = x
apply_rules act hook (rule ∷ rules) x =
    if same_hook rule.hook hook
    then apply_rules act hook rules (act rule.action x)
    else apply_rules act hook rules x

-- an action that may stand leaves what the test tells
abbrev pub Keeps : {X : Type 0} → (Action → X → Outcome X) → (Action → Bool) → (X → Bool) → Type 0
Keeps {X} act may test =
    (action : Action) (x : X) → may action ≡ true → test (act action x).left ≡ test x

-- a call answered so and left that, out of memory aside
abbrev pub Answers : {X : Type 0} → Result Unit Fail → X → Outcome X → Type 0
Answers (Ok done) left outcome = outcome ≡ goes_on left
Answers (Err (fail.Error error)) left outcome = outcome ≡ stops left error
Answers (Err fail.OutOfMemory) left outcome = Unit {0}
