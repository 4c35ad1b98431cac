-- What was read, and then what the values that are left are, is what all are.
use Rattle.std.proofs.Common.{◌≡◌, drop}
use Rattle.serde_json.specs.View.{items_view}
use Rattle.relay_json.specs.Values.{each_of}
use Rattle.relay_json.specs.Script.{write_item_of}
use Rattle.relay_json.proofs.ScriptLemmas.{with_front}
use Rattle.relay_json.proofs.script.each_write_item.Given as goal

abbrev pub invariant-loop-value : goal.invariant-loop-value
invariant-loop-value l =
    with_front l.items.items (each_of write_item_of (items_view (drop l.value-index l.values)))
    ≡ each_of write_item_of (items_view l.values)
