-- Numbers: what a word spells in plain decimal digits.
use Rattle.std.specs.Prelude.{◌≡◌, ◌<◌, ◌^◌, ℕ, List, decimal}

-- the word spells a number below 2^16: plain decimal digits without a leading zero
pub record SpellsNumber (word : List ℕ) (number : ℕ) : Type 0 where
  pub spelled : word ≡ decimal number
  pub fits : number < 2 ^ 16

-- the word spells no such number
abbrev pub SpellsNoNumber : List ℕ → Type 0
SpellsNoNumber word = (number : ℕ) → ¬ (SpellsNumber word number)
