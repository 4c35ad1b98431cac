-- What one rule of a list does, and what no rule changes.
use Rattle.std.proofs.Common.{◌≡◌, ℕ, suc, ◌+◌, ◌<◌, true, false, List, ◌∷◌, length, drop, get_or, drop-cons, refl, sym, ap, ◌∙◌, add-one}
use Rattle.std.specs.Prelude.{Bool, ◌&&◌}
use Rattle.relay_tasks.specs.declared.hook.Hook.{Hook}
use Rattle.relay_script.specs.Fold.{Keeps, Outcome, goes_on, run_rules}
use Rattle.relay_tasks.specs.Hooks.{same_hook}
use Rattle.relay_script.specs.declared.rule.Action.{Action}
use Rattle.relay_script.specs.declared.rule.Rule.{Rule}

-- where both hold, each holds
pub both_true : (a b : Bool) → (a && b) ≡ true → (a ≡ true) × (b ≡ true)
both_true true b h = (refl, h)
both_true false b h = absurd cc

-- the rules from a place on: the rule there, and those behind it
pub from_place : (rules : List Rule) (at : ℕ) (rule : Rule) → at < length rules
    → rule ≡ get_or rules at rule
    → drop at rules ≡ rule ∷ drop (at + 1) rules
from_place rules at rule within is =
    rw add-one (drop-cons rules at rule within ∙ ap (λ r. r ∷ drop (suc at) rules) (sym is))

module _ {X : Type 0} (act : Action → X → Outcome X) (hook : Hook) where
  -- a rule of the hook that went on
  pub run_rules-on : (rule : Rule) (rules : List Rule) (x y : X) → same_hook rule.hook hook ≡ true
      → act rule.action x ≡ goes_on y
      → run_rules act hook (rule ∷ rules) x ≡ run_rules act hook rules y
  run_rules-on rule rules x y on did = rw (on, did)

  -- a rule of another hook
  pub run_rules-off : (rule : Rule) (rules : List Rule) (x : X) → same_hook rule.hook hook ≡ false
      → run_rules act hook (rule ∷ rules) x ≡ run_rules act hook rules x
  run_rules-off rule rules x off = rw off

-- a rule that went on left what no rule changes
pub kept_on : {X : Type 0} (act : Action → X → Outcome X) (may : Action → Bool) (test : X → Bool)
    (rule : Rule)
    (x y : X) → Keeps act may test → may rule.action ≡ true → act rule.action x ≡ goes_on y
    → test y ≡ test x
kept_on act may test rule x y keeps ok did = let kept = keeps rule.action x ok in rw did at kept
