use Rattle.std.proofs.Common.{◌≡◌, true, drop}
use Rattle.std.specs.Prelude.{Bool}
use Rattle.std.specs.List.{list_all}
use Rattle.relay_script.specs.Fold.{Keeps, run_rules}
use Rattle.relay_script.specs.declared.rule.Action.{Action}
use Rattle.relay_script.proofs.filtered.run_rules.Given as goal

-- the rules that are left make of the value what all made of the first, and no rule before them
-- changed what none changes
abbrev pub invariant-loop-rule : goal.invariant-loop-rule
invariant-loop-rule g l =
    record {
      made : run_rules g.T.Filtered.changed l.hook (drop l.rule-index l.rules) l.value
          ≡ run_rules g.T.Filtered.changed l.hook l.rules l.fn.value;
      kept : (may : Action → Bool) (test : _) → Keeps g.T.Filtered.changed may test
          → list_all (λ rule. may rule.action) l.rules ≡ true
          → (list_all (λ rule. may rule.action) (drop l.rule-index l.rules) ≡ true)
          × (test l.value ≡ test l.fn.value);
    }
