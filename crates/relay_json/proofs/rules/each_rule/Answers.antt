-- One rule more stands behind those so far.
use Rattle.std.proofs.Common.{◌+◌, ◌∙◌, List, ap, drop}
use Rattle.serde_json.specs.View.{items_view}
use Rattle.relay_script.specs.declared.rule.Rule.{Rule}
use Rattle.relay_json.specs.Rules.{rule_of}
use Rattle.relay_json.specs.Values.{each_of}
use Rattle.relay_json.proofs.ScriptLemmas.{with_front, item_more}
use Rattle.relay_json.proofs.rules.each_rule.Goals as goal

pub loop-value-preserved : goal.loop-value-preserved
loop-value-preserved c =
    let values = c.args.values.now in
    let i = c.loop-value.value-index in
    let rule = c.in_ok-rule.rule in
    ap (λ (front : List Rule). with_front front
    (each_of rule_of (items_view (drop (i + 1) values)))) c.in_ok-push.ensures.items
    ∙ item_more rule_of values i _ c.loop-value.rules.items rule c.loop-value-test.true
    c.value-item.is c.in_ok-rule.ensures
    ∙ c.loop-value.invariant
