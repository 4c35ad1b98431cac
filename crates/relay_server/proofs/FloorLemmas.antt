-- Places of a floor: what is taken out and put in, and the first that is idle.
use Rattle.std.proofs.Common.{◌≡◌, ℕ, nat_lt, IsSome, IfSome, IfNone, OnSome, MatchOption, zero, suc, ◌+◌, ◌<◌, ◌≤◌, Bool, true, false, List, [], ◌∷◌, map, length, get_or, Option, Some, None, refl, sym, ap, inl, inr, arith}
use Rattle.std.specs.List.{insert, remove, position, position_or_len}
use Rattle.std.proofs.lemmas.List.{get_or-map, get_or_default, length-map}
use Rattle.std.proofs.lemmas.Bool.{cases_eq}
use Rattle.std.proofs.lemmas.List.Sums.{position_or_len_is}
use Rattle.std.proofs.lemmas.List.Quantifiers.{position-Some}
use Rattle.std.proofs.lemmas.List.Edits.{get_or-insert_at}

module _ {X Y : Type 0} (f : X → Y) where
  -- what is taken out stood at its place
  pub taken_at : (xs : List X) (i : ℕ) (x : X) → i < length xs → x ≡ get_or xs i x
      → map f xs ≡ insert (map f (remove xs i)) i (f x)
  taken_at [] i x within at = absurd (omega (arith, within))
  taken_at (y ∷ xs) zero x within at = ap (λ (z : X). f z ∷ map f xs) (sym at)
  taken_at (y ∷ xs) (suc i) x within at =
      ap (λ (zs : List Y). f y ∷ zs) (taken_at xs i x (omega (arith, within)) at)

  -- what is put in stands at its place
  pub put_at : (xs : List X) (i : ℕ) (x : X)
      → map f (insert xs i x) ≡ insert (map f xs) i (f x)
  put_at xs zero x = refl
  put_at [] (suc i) x = refl
  put_at (y ∷ xs) (suc i) x = ap (λ (zs : List Y). f y ∷ zs) (put_at xs i x)

  module _ (passes : Y → Bool) where
    -- none below this place passes
    abbrev pub NoneBelow : List X → ℕ → Type 0
    NoneBelow xs i = (k : ℕ) (d : X) → k < i → passes (f (get_or xs k d)) ≡ false

    -- one more place does not pass
    pub none_more : (xs : List X) (i : ℕ) (x : X) → i < length xs → x ≡ get_or xs i x
        → NoneBelow xs i → passes (f x) ≡ false → NoneBelow xs (i + 1)
    none_more xs i x within at below fails = λ k d less. elim (cases_eq k i) [
      | inl same ↦ rw same (rw (get_or_default xs i d x within, ← at) fails)
      | inr other ↦ below k d (omega (arith, less, other))
    ]

    -- the first that passes
    pub found_first : (xs : List X) (i : ℕ) (x : X) → i < length xs → x ≡ get_or xs i x
        → NoneBelow xs i → passes (f x) ≡ true → position passes (map f xs) ≡ Some i
    found_first xs i x within at below found =
        let long : length (map f xs) ≡ length xs = length-map xs f in
        let first : position_or_len passes (map f xs) ≡ i =
        position_or_len_is passes (map f xs) i (f x) (omega (arith, long, within))
        (λ k less. rw (get_or-map f xs k x (f x) (omega (arith, less, within))) (below k x less))
        (λ inside. rw (get_or-map f xs i x (f x) within, ← at) found) in
        let inside : nat_lt i (length (map f xs)) ≡ true = grind (arith, long, within) in
        rw (first, inside) refl

    -- none passes
    pub found_none : (xs : List X) → NoneBelow xs (length xs)
        → position passes (map f xs) ≡ None
    found_none [] below = refl
    found_none (x ∷ xs) below =
        let long : length (map f (x ∷ xs)) ≡ length (x ∷ xs) = length-map (x ∷ xs) f in
        let all : position_or_len passes (map f (x ∷ xs)) ≡ length (map f (x ∷ xs)) =
        position_or_len_is passes (map f (x ∷ xs)) (length (map f (x ∷ xs))) (f x) (omega arith)
        (λ k less. rw (get_or-map f (x ∷ xs) k x (f x) (omega (arith, less, long)))
        (below k x (omega (arith, less, long))))
        (λ inside. absurd (omega (arith, inside))) in
        let outside : nat_lt (length (map f (x ∷ xs))) (length (map f (x ∷ xs))) ≡ false =
        grind arith in
        rw (all, outside) refl

-- what stands at a place, where it was put in
pub first_passes : {X : Type 0} (passes : X → Bool) (xs : List X) (i : ℕ) (x : X)
    → i ≤ length xs → position passes (insert xs i x) ≡ Some i → passes x ≡ true
first_passes passes xs i x within first =
    let at : get_or (insert xs i x) i x ≡ x = get_or-insert_at xs i x x within in
    rw at at ((position-Some passes (insert xs i x) i x first).1)

-- what a queue gave stood at its place, or nothing changed
pub took : {V X Y : Type 0} (f : X → Y) (items : V → List X) (old new : V) (result : Option X)
    (i : ℕ) → (IsSome result → i < length (items old))
    → IfSome result (λ x. x ≡ get_or (items old) i x)
    → OnSome result (items new ≡ remove (items old) i) → IfNone result (new ≡ old)
    → MatchOption result (map f (items new) ≡ map f (items old))
    (λ x. map f (items old) ≡ insert (map f (items new)) i (f x))
took f items old new None i within at left same = ap (λ (v : _). map f (items v)) same
took f items old new (Some x) i within at left same =
    rw left (taken_at f (items old) i x (within refl) at)
