-- The elements of a list from a place on, and texts one behind the other.
use Rattle.std.proofs.Common.{◌≡◌, ℕ, suc, ◌+◌, ◌<◌, ◌≤◌, ◌⊎◌, List, ◌++◌, ◌∷◌, length, get_or, drop, Some, None, inl, inr, sym, ap, ◌∙◌, add-one, drop-cons, append_assoc, true≢false}
use Rattle.std.specs.Prelude.{is_some}
use Rattle.std.specs.List.{slice_get}
use Rattle.std.proofs.lemmas.Option.{slice_get_within, slice_get_cases, get_or_from_slice_get}

-- the element at the place, and those behind it
pub drop_at : {A : Type 0} (xs : List A) (n : ℕ) (x : A) → slice_get xs n ≡ Some x
    → drop n xs ≡ x ∷ drop (n + 1) xs
drop_at xs n x is =
    rw add-one (drop-cons xs n x (slice_get_within xs n x is)
    ∙ ap (λ y. y ∷ drop (suc n) xs) (get_or_from_slice_get xs n x x is))

-- where there is none, the list has ended
pub none_at : {A : Type 0} (xs : List A) (n : ℕ) → slice_get xs n ≡ None → length xs ≤ n
none_at {A = A} xs n none = by (slice_get_cases xs n).1
  where
    by : ((x : A) × (n < length xs) × (slice_get xs n ≡ Some x) × (get_or xs n x ≡ x))
        ⊎ ((length xs ≤ n) × (slice_get xs n ≡ None)) → length xs ≤ n
    by (inl some) = absurd (true≢false (ap is_some (sym some.2 ∙ none)))
    by (inr past) = past.0

-- one more text is written behind some
pub written_on : (out texts text before after : List ℕ) → before ≡ out ++ texts
    → after ≡ before ++ text → after ≡ out ++ (texts ++ text)
written_on out texts text before after first then =
    then ∙ ap (λ (l : List ℕ). l ++ text) first ∙ append_assoc out texts text
