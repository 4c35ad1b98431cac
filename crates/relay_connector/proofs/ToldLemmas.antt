-- The faults that a connector in memory tells.
use Rattle.std.proofs.Common.{◌≡◌, ℕ, ◌+◌, ◌-◌, ◌<◌, nat_le, cond, true, false, List, [], ◌∷◌, ◌++◌, replicate, Option, Some, None, refl, ap, sym, ◌∙◌, append-nil, arith, inl, inr}
use Rattle.std.proofs.lemmas.Bool.{cases_Bool, leb-false}
use Rattle.std.proofs.lemmas.Bool.Decides.{nat_tests}
use Rattle.relay_tasks.specs.declared.fault.Fault.{Fault}
use Rattle.relay_links.specs.Count.{last_count, up}
use Rattle.relay_links.specs.Told.{Gains}
use Rattle.relay_connector.specs.Connector.{nothing_left}

-- the faults of entries, and then those past the last of them, by the count of all
abbrev told : List Fault → ℕ → ℕ → Option (List Fault)
told refused size faults =
    cond (nat_le last_count faults) None
    (Some (refused ++ replicate (faults - size) nothing_left))

-- the fault of an entry is told behind those of the entries before, while the count goes on
pub told_once : (refused now : List Fault) (size size_now faults after : ℕ) (fault : Fault)
    → faults ≡ size → now ≡ refused ++ fault ∷ [] → size_now ≡ size + 1 → after ≡ up faults
    → Gains (told refused size faults) (fault ∷ []) (told now size_now after)
told_once refused now size size_now faults after fault in_order is size_is counted =
    elim (cases_Bool (nat_le last_count after)) [
      | inl still ↦ rw still tt
      | inr on ↦
          let below : after < last_count = leb-false last_count after on in
          let more : nat_le last_count faults ≡ false = grind (arith, nat_tests, counted) in
          let none : faults - size ≡ 0 = omega (arith, in_order) in
          let none_now : after - size_now ≡ 0 = omega (arith, in_order, size_is, counted) in
          rw (on, more, none, none_now) (
          ap (λ (xs : List Fault). Some (xs ++ fault ∷ [])) (append-nil refused)
          ∙ sym (ap Some (append-nil now ∙ is)))
    ]
