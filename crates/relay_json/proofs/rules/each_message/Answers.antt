-- One message more stands behind those so far.
use Rattle.std.proofs.Common.{◌+◌, ◌∙◌, List, ℕ, ap, drop}
use Rattle.serde_json.specs.View.{items_view}
use Rattle.relay_json.specs.Values.{each_of, text_of}
use Rattle.relay_json.proofs.ScriptLemmas.{with_front, item_more}
use Rattle.relay_json.proofs.rules.each_message.Goals as goal

pub loop-value-preserved : goal.loop-value-preserved
loop-value-preserved c =
    let values = c.args.values.now in
    let i = c.loop-value.value-index in
    let message = c.in_ok-message.message in
    ap (λ (front : List (List ℕ)). with_front front
    (each_of text_of (items_view (drop (i + 1) values)))) c.in-Ok.ensures.ok
    ∙ item_more text_of values i _ c.loop-value.messages message c.loop-value-test.true
    c.value-item.is c.in_ok-message.ensures
    ∙ c.loop-value.invariant
