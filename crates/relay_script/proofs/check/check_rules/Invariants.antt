use Rattle.std.proofs.Common.{◌≡◌, drop}
use Rattle.relay_script.specs.Lawful.{verdict_of, verdict_from}
use Rattle.relay_script.proofs.check.check_rules.Given as goal

-- the verdict on the rules that are left is the verdict
abbrev pub invariant-loop-at : goal.invariant-loop-at
invariant-loop-at l = verdict_from l.rules l.at (drop l.at l.rules) ≡ verdict_of l.rules
