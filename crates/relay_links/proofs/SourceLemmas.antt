-- A source over a list: what it gave and what is left, after more of it is given.
use Rattle.std.proofs.Common.{◌≡◌, ℕ, ◌+◌, List, ◌++◌, take, drop, refl, sym, ap, ◌∙◌, take-append-drop, drop-drop}
use Rattle.std.proofs.Math.Seq.{take-add}

-- what it gave, after n more
pub given-more : (bytes room : List ℕ) (at n : ℕ) → take n room ≡ take n (drop at bytes)
    → take (at + n) bytes ≡ take at bytes ++ take n room
given-more bytes room at n copied =
    take-add at n bytes ∙ ap (λ (t : List ℕ). take at bytes ++ t) (sym copied)

-- what was left, from what is left after n more
pub left-more : (bytes room : List ℕ) (at n : ℕ) → take n room ≡ take n (drop at bytes)
    → drop at bytes ≡ take n room ++ drop (at + n) bytes
left-more bytes room at n copied =
    sym (take-append-drop n (drop at bytes)) ∙ rw (copied, drop-drop) refl
