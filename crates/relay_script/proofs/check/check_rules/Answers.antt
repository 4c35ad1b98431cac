use Rattle.std.proofs.Common.{◌≡◌, ◌<◌, ◌∷◌, suc, length, drop, drop-cons, ap, sym, ◌∙◌}
use Rattle.relay_script.proofs.check.check_rules.Goals as goal

-- the rule at hand is the first of those that are left
pub returns-in-Some : goal.returns-in-Some
returns-in-Some c =
    let rules = c.args.rules.now in
    let at = c.loop-at.at in
    let rule = c.index-rules-at.result in
    let within : at < length rules = c.loop-at-test.true in
    let left : drop at rules ≡ rule ∷ drop (suc at) rules =
    drop-cons rules at rule within ∙ ap (λ r. r ∷ drop (suc at) rules) (sym c.index-rules-at.is) in
    let held = rw left at c.loop-at.invariant in
    rw (← c.in-Some.ensures) at held
