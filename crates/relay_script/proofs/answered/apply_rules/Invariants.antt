use Rattle.std.proofs.Common.{◌≡◌, drop}
use Rattle.relay_script.specs.Fold.{apply_rules}
use Rattle.relay_script.proofs.answered.apply_rules.Given as goal

-- the rules that are left make of the value what all made of the first
abbrev pub invariant-loop-rule : goal.invariant-loop-rule
invariant-loop-rule g l =
    apply_rules g.T.Answered.told l.hook (drop l.rule-index l.rules) l.value
    ≡ apply_rules g.T.Answered.told l.hook l.rules l.fn.value
