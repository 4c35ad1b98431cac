-- The value is read exactly where the bytes are one.
use Rattle.std.proofs.Common.{◌∙◌, Some, Err, ap, sym, true≢false}
use Rattle.std.specs.Prelude.{is_ok}
use Rattle.relay_json.proofs.RuleLemmas.{value_read, value_none}
use Rattle.relay_json.proofs.rules.value_in.Goals as goal

pub returns-in-Ok : goal.returns-in-Ok
returns-in-Ok c =
    value_read c.args.bytes.now
    (λ none. true≢false (ap is_ok (c.in-Ok.ensures.invalid.1 none)))
    ∙ ap Some (sym c.in-Ok.ensures.ok)

pub returns-in-Err-Invalid : goal.returns-in-Err-Invalid
returns-in-Err-Invalid c = value_none c.args.bytes.now
    (c.in-Err-Invalid.ensures.invalid.0 (ap Err c.in-Err-Invalid.field-0-is))
