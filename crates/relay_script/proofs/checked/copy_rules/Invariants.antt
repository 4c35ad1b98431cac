use Rattle.std.proofs.Common.{◌≡◌, take}
use Rattle.relay_script.proofs.checked.copy_rules.Given as goal

-- the copy so far is what the loop has gone over
abbrev pub invariant-loop-rule : goal.invariant-loop-rule
invariant-loop-rule l = l.copy.items ≡ take l.rule-index l.rules
