-- What was read, and then what the values that are left are, is what all are.
use Rattle.std.proofs.Common.{◌≡◌, drop}
use Rattle.serde_json.specs.View.{items_view}
use Rattle.relay_json.specs.Rules.{rule_of}
use Rattle.relay_json.specs.Values.{each_of}
use Rattle.relay_json.proofs.ScriptLemmas.{with_front}
use Rattle.relay_json.proofs.rules.each_rule.Given as goal

abbrev pub invariant-loop-value : goal.invariant-loop-value
invariant-loop-value l =
    with_front l.rules.items (each_of rule_of (items_view (drop l.value-index l.values)))
    ≡ each_of rule_of (items_view l.values)
