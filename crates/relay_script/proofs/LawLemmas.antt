-- What checked rules keep of a head that they change.
use Rattle.std.proofs.Common.{◌≡◌, ℕ, ◌+◌, true, false, List, [], ◌∷◌, refl, inl, inr, arith}
use Rattle.std.proofs.lemmas.Bool.{cases_Bool}
use Rattle.std.proofs.lemmas.Bool.Decides.{nat_tests}
use Rattle.std.specs.List.{list_all}
use Rattle.std.specs.Prelude.{Bool, not, ◌&&◌, ◌||◌, ◌==◌, nat_le, nat_lt, if◌then◌else◌, Option, Some, None, Result, is_none, is_ok}
use Rattle.relay_script.proofs.FoldLemmas.{both_true}
use Rattle.relay_script.specs.Actions.{has_room, informs, is_status, on_response}
use Rattle.relay_script.specs.Fold.{Keeps}
use Rattle.relay_script.specs.Lawful.{are_lawful, fault_of, found, has_code, is_crowded, is_final_code, keeps_framing, says_end, verdict_from}
use Rattle.relay_script.specs.Table.{may_stand}
use Rattle.relay_script.specs.declared.check.RuleError.{RuleError}
use Rattle.relay_script.specs.declared.check.RuleFault.{RuleFault}
use Rattle.relay_script.specs.declared.rule.Action.TheVariants as action
use Rattle.relay_script.specs.declared.rule.Rule.{Rule}

-- ---- what a rule without a fault keeps

-- no choice of five is made
pub record NoneChosen (stands codes says framing crowded : Bool) : Type 0 where
  pub stands_is : stands ≡ true
  pub codes_is : codes ≡ true
  pub says_is : says ≡ true
  pub framing_is : framing ≡ true
  pub crowded_is : crowded ≡ false

-- where nothing is chosen, each condition holds
none_chosen : {F : Type 0} (f g h k l : F) (a b c d e : Bool)
    → is_none (if not a then Some f else if not b then Some g else if not c then Some h
    else if not d then Some k else if e then Some l else None) ≡ true
    → NoneChosen a b c d e
none_chosen f g h k l false b c d e none = absurd cc
none_chosen f g h k l true false c d e none = absurd cc
none_chosen f g h k l true true false d e none = absurd cc
none_chosen f g h k l true true true false e none = absurd cc
none_chosen f g h k l true true true true true none = absurd cc
none_chosen f g h k l true true true true false none =
    record {
      stands_is = refl;
      codes_is = refl;
      says_is = refl;
      framing_is = refl;
      crowded_is = refl;
    }

-- the conditions on a rule without a fault
pub conditions : (all : List Rule) (rule : Rule) → is_none (fault_of all rule) ≡ true
    → NoneChosen (may_stand rule.hook rule.action) (has_code rule.action)
    (says_end rule.hook rule.action)
    (keeps_framing rule.hook rule.action) (is_crowded rule.hook all)
conditions all rule none = none_chosen _ _ _ _ _ _ _ _ _ _ none

-- ---- all rules of a list

-- a list that passes has a first rule without a fault
from_found : (at : ℕ) (fault : Option RuleFault) (rest : Result Unit RuleError)
    → is_ok (found at fault rest) ≡ true
    → (is_none fault ≡ true) × (is_ok rest ≡ true)
from_found at None rest ok = (refl, ok)
from_found at (Some fault) rest ok = absurd cc

-- no rule of a list that passes has a fault
without_fault : (all : List Rule) (at : ℕ) (rules : List Rule)
    → is_ok (verdict_from all at rules) ≡ true
    → list_all (λ rule. is_none (fault_of all rule)) rules ≡ true
without_fault all at [] ok = refl
without_fault all at (rule ∷ rules) ok =
    let parts = from_found at (fault_of all rule) (verdict_from all (at + 1) rules) ok in
    rw (parts.0, without_fault all (at + 1) rules parts.1)

-- what each element has that passes the first test
list_all-weaker : {X : Type 0} (p q : X → Bool) → ((x : X) → p x ≡ true → q x ≡ true)
    → (xs : List X)
    → list_all p xs ≡ true → list_all q xs ≡ true
list_all-weaker p q weaker [] all = refl
list_all-weaker p q weaker (x ∷ xs) all =
    let parts = both_true (p x) (list_all p xs) all in
    rw (weaker x parts.0, list_all-weaker p q weaker xs parts.1)

-- the codes of lawful rules are those of final heads
pub lawful_codes : (rules : List Rule) → are_lawful rules ≡ true
    → list_all (λ rule. has_code rule.action) rules ≡ true
lawful_codes rules lawful =
    list_all-weaker (λ rule. is_none (fault_of rules rule)) (λ rule. has_code rule.action)
    (λ rule none. (conditions rules rule none).codes_is) rules (without_fault rules 0 rules lawful)

-- lawful rules keep the framing of a purge's answer
pub lawful_framing : (rules : List Rule) → are_lawful rules ≡ true
    → list_all (λ rule. keeps_framing rule.hook rule.action) rules ≡ true
lawful_framing rules lawful =
    list_all-weaker (λ rule. is_none (fault_of rules rule))
    (λ rule. keeps_framing rule.hook rule.action)
    (λ rule none. (conditions rules rule none).framing_is) rules
    (without_fault rules 0 rules lawful)

-- ---- the kind of a head

-- what is false with anything is false
and_false : (b : Bool) → (b && false) ≡ false
and_false true = refl
and_false false = refl

-- a status of 200 and more is not below 200
not_below : (code : ℕ) → nat_le 200 code ≡ true → nat_lt code 200 ≡ false
not_below code h = grind (arith, nat_tests)

-- 101 and 200 to 999 are codes of final heads
code_is_final : (code : ℕ) → ((code == 101) || is_final_code code) ≡ true → informs code ≡ false
code_is_final code ok =
    elim (cases_Bool (code == 101)) [
      | inl is ↦ rw is (and_false (nat_le 100 code && nat_lt code 200))
      | inr other ↦
          let final = rw other at ok in
          rw (
            not_below code (both_true (nat_le 200 code) (nat_lt code 1000) final).0,
            and_false (nat_le 100 code),
          )
    ]

-- an action with such a code leaves the kind of a head
pub keeps_kind : Keeps on_response has_code (λ head. informs head.status)
keeps_kind (action.Set name value) head ok =
    elim (cases_Bool (has_room head.fields name)) [ inl room ↦ rw room | inr full ↦ rw full ]
keeps_kind (action.Remove name) head ok = refl
keeps_kind (action.Status code) head ok =
    elim (cases_Bool (informs head.status)) [
      | inl early ↦ rw early early
      | inr final ↦ elim (cases_Bool (is_status code)) [
        | inl digits ↦ rw (final, digits) (code_is_final code ok)
        | inr none ↦ rw (final, none) final
      ]
    ]
keeps_kind action.Drop head ok = refl
keeps_kind (action.Text text) head ok = refl
keeps_kind (action.Answer code say) head ok = refl
keeps_kind (action.Error etype) head ok = refl
keeps_kind (action.Retry mark) head ok = refl
keeps_kind (action.Say say) head ok = refl
keeps_kind (action.Keep value) head ok = refl
keeps_kind (action.Inject up down) head ok = refl
