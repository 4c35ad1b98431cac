use Rattle.std.proofs.Common.{◌≡◌, ◌∙◌, ◌+◌, ◌∷◌, drop, sym}
use Rattle.relay_script.proofs.FoldLemmas.{both_true, from_place, kept_on, run_rules-off, run_rules-on}
use Rattle.relay_script.proofs.filtered.run_rules.Goals as goal
use Rattle.relay_script.proofs.filtered.run_rules.Goals.{then-is_on+in_ok-change, else-is_on}

-- a rule that failed left the value
pub returns-in_err-change-clause-keeps : goal.returns-in_err-change-clause-keeps
returns-in_err-change-clause-keeps g c =
    λ may test keeps all.
    rw c.in_err-change.ensures.err (c.loop-rule.invariant.kept may test keeps all).1

-- the rule at hand is the first of those that are left
pub loop-rule-preserved : goal.loop-rule-preserved
loop-rule-preserved g c =
    let rules = c.args.rules.now in
    let at = c.loop-rule.rule-index in
    let rule = c.rule-item.result in
    let before = c.loop-rule.invariant in
    let left : drop at rules ≡ rule ∷ drop (at + 1) rules =
    from_place rules at rule c.loop-rule-test.true c.rule-item.is in
    let made = rw left at before.made in
    elim c.if-is_on.branch [
      | then-is_on+in_ok-change w ↦
          record {
            made =
                rw w.value-is
                (sym (run_rules-on g.T.Filtered.changed c.args.hook rule (drop (at + 1) rules) _ _
                (sym c.is_on.ensures ∙ w.if-is_on.true) w.in_ok-change.ensures.answers)
                ∙ made);
            kept = λ may test keeps all.
                let held = before.kept may test keeps all in
                let parts = both_true _ _ (rw left at held.0) in (
                  parts.1,
                  rw w.value-is
                      (kept_on g.T.Filtered.changed may test rule _ _ keeps parts.0
                      w.in_ok-change.ensures.answers
                      ∙ held.1),
                );
          }
      | else-is_on w ↦
          record {
            made =
                rw w.value-is
                (sym (run_rules-off g.T.Filtered.changed c.args.hook rule (drop (at + 1) rules) _
                (sym c.is_on.ensures ∙ w.if-is_on.false))
                ∙ made);
            kept = λ may test keeps all.
                let held = before.kept may test keeps all in
                ((both_true _ _ (rw left at held.0)).1, rw w.value-is held.1);
          }
    ]

-- each rule was gone over
pub returns-clause-keeps : goal.returns-clause-keeps
returns-clause-keeps g c = λ may test keeps all. (c.loop-rule.invariant.kept may test keeps all).1
