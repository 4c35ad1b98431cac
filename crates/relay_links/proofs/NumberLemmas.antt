-- Tests of numbers.
use Rattle.std.proofs.Common.{◌≡◌, ℕ, ◌-◌, true, false, leb, refl, arith, leb-true, leb-false, le-leb}
use borrow.Author.Tests.{lt-leb}

-- what is left is nothing exactly where all is done
pub leb-sub : (a b : ℕ) → leb (a - b) 0 ≡ leb a b
leb-sub a b = elim (leb a b) as (λ v. leb a b ≡ v → leb (a - b) 0 ≡ v) [
  | true ↦ λ below. le-leb (a - b) 0 (omega (arith, leb-true a b below))
  | false ↦ λ above. lt-leb (a - b) 0 (omega (arith, leb-false a b above))
] refl
