-- The sum of the delays that calls asked for, one after the other.
use Rattle.std.proofs.Common.{◌≡◌, ℕ, ◌+◌, ◌≤◌, min, List, drop, length, sym, ap, ◌∙◌, arith}
use Rattle.std.proofs.lemmas.List.{drop_all}
use Rattle.relay_filters.specs.Delay.{summed}

-- a sum that is cut twice is cut once
cut_once : (sum one rest last : ℕ)
    → min (min (sum + one) last + rest) last ≡ min (sum + (one + rest)) last
cut_once sum one rest last = omega arith

-- one delay more was summed
pub summed_on : (delays : List ℕ) (at sum one last whole : ℕ)
    → summed (drop at delays) ≡ one + summed (drop (at + 1) delays)
    → min (sum + summed (drop at delays)) last ≡ whole
    → min (min (sum + one) last + summed (drop (at + 1) delays)) last ≡ whole
summed_on delays at sum one last whole more so =
    cut_once sum one (summed (drop (at + 1) delays)) last
    ∙ ap (λ (n : ℕ). min (sum + n) last) (sym more) ∙ so

-- all delays were summed
pub summed_all : (delays : List ℕ) (at sum last whole : ℕ) → length delays ≤ at → sum ≤ last
    → min (sum + summed (drop at delays)) last ≡ whole → sum ≡ whole
summed_all delays at sum last whole past fits so =
    let none : min (sum + 0) last ≡ whole =
    ap (λ (l : List ℕ). min (sum + summed l) last) (sym (drop_all at delays past)) ∙ so in
    sym (whole_is none) ∙ none
  where
    whole_is : min (sum + 0) last ≡ whole → min (sum + 0) last ≡ sum
    whole_is none = omega arith
