-- How the end of a head is found from a place in the middle.
use Rattle.std.proofs.Common.{◌≡◌, ◌≢◌, ℕ, zero, suc, ◌+◌, ◌-◌, ◌<◌, ◌≤◌, List, [], ◌∷◌, length, take, drop, Bool, false, true, ◌&&◌, refl, sym, ◌∙◌, ap, arith, Option, Some, None, get_or, add-one, drop-cons, option_map, ◌++◌, inl, inr, bytes_eq, subst}
use Rattle.std.specs.Prelude.{◌⊎◌}
use Rattle.std.proofs.lemmas.List.{drop-drop, drop-append-le, take-append-le, take-append-drop, length-drop, length-take-le, get_or-take, get_or-drop}
use Rattle.std.proofs.lemmas.Bool.{cases_Bool, cases_lt}
use Rattle.std.proofs.lemmas.Slice.Eq.{bytes_eq-Decides}
use Rattle.relay_h1.specs.HeadEnd.{begins_with_mark, end_mark, head_end, shifted, NoMarkBefore}

-- what is shifted by one more
pub shifted-suc : (n : ℕ) (place : Option ℕ) → shifted (n + 1) place ≡ shifted n (shifted 1 place)
shifted-suc n None = refl
shifted-suc n (Some k) = ap Some (omega arith)

-- nothing is shifted by nothing
pub shifted-zero : (place : Option ℕ) → place ≡ shifted 0 place
shifted-zero None = refl
shifted-zero (Some k) = ap Some (omega arith)

-- counting one more is shifting by one
pub shifted-one : (place : Option ℕ) → option_map suc place ≡ shifted 1 place
shifted-one None = refl
shifted-one (Some k) = ap Some (omega arith)

-- one byte is passed by
pub head_end-cons : (b : ℕ) (bytes : List ℕ) → begins_with_mark (b ∷ bytes) ≡ false
    → head_end (b ∷ bytes) ≡ shifted 1 (head_end bytes)
head_end-cons b bytes none_here = rw none_here (shifted-one (head_end bytes))

-- where no mark stands, the search goes on behind the byte
pub head_end-skip : (bytes : List ℕ) (at : ℕ) → at < length bytes
    → begins_with_mark (drop at bytes) ≡ false
    → head_end (drop at bytes) ≡ shifted 1 (head_end (drop (at + 1) bytes))
head_end-skip bytes at within none_here =
    let here = drop-cons bytes at 0 within in
    rw (here, add-one)
    (head_end-cons (get_or bytes at 0) (drop (suc at) bytes) (rw here at none_here))

-- a mark at the front ends the head behind it
pub head_end-here : (bytes : List ℕ) → begins_with_mark bytes ≡ true → head_end bytes ≡ Some 4
head_end-here [] here = cc
head_end-here (b ∷ bytes) here = rw here refl

-- nothing and more is nothing
and-false : (b : Bool) → (b && false) ≡ false
and-false true = refl
and-false false = refl

-- fewer than four bytes hold no end
pub head_end-short : (bytes : List ℕ) → length bytes < 4 → head_end bytes ≡ None
head_end-short [] few = refl
head_end-short (a ∷ []) few = simp and-false
head_end-short (a ∷ b ∷ []) few = simp and-false
head_end-short (a ∷ b ∷ c ∷ []) few = simp and-false
head_end-short (a ∷ b ∷ c ∷ d ∷ rest) few = absurd (omega arith)

-- where no mark begins before a place, the search may start there
pub head_end-from : (place : ℕ) (bytes : List ℕ) → place ≤ length bytes → NoMarkBefore place bytes
    → head_end bytes ≡ shifted place (head_end (drop place bytes))
head_end-from zero bytes within none_before = shifted-zero (head_end bytes)
head_end-from (suc n) bytes within none_before =
    let so_far = head_end-from n bytes (omega arith) (λ k less. none_before k (omega arith)) in
    let here = head_end-skip bytes n (omega arith) (none_before n (omega arith)) in
    rw (← add-one)
    (so_far ∙ ap (shifted n) here ∙ sym (shifted-suc n (head_end (drop (n + 1) bytes))))

-- the byte of a mark at a place
mark_byte : (bytes : List ℕ) (k i : ℕ) → begins_with_mark (drop k bytes) ≡ true → i < 4
    → get_or bytes (k + i) 0 ≡ get_or end_mark i 0
mark_byte bytes k i here inside =
    sym (get_or-take 4 (drop k bytes) i 0 inside ∙ get_or-drop k bytes i 0)
    ∙ ap (λ (m : List ℕ). get_or m i 0)
    ((bytes_eq-Decides (take 4 (drop k bytes)) end_mark).0 here)

-- each byte of a mark is CR or LF
mark_is_crlf : (i : ℕ) → i < 4 → (get_or end_mark i 0 ≡ 13) ⊎ (get_or end_mark i 0 ≡ 10)
mark_is_crlf zero inside = inl refl
mark_is_crlf (suc zero) inside = inr refl
mark_is_crlf (suc (suc zero)) inside = inl refl
mark_is_crlf (suc (suc (suc zero))) inside = inr refl
mark_is_crlf (suc (suc (suc (suc i)))) inside = absurd (omega arith)

-- among four bytes whose last is neither CR nor LF no mark begins
pub no_mark_in_four : (bytes : List ℕ) (at : ℕ) → NoMarkBefore at bytes
    → ¬ (get_or bytes (at + 3) 0 ≡ 13) → ¬ (get_or bytes (at + 3) 0 ≡ 10)
    → NoMarkBefore (at + 4) bytes
no_mark_in_four bytes at none_before no_cr no_lf = λ k less.
    elim (cases_lt k at) [
      | inl before ↦ none_before k before
      | inr not_before ↦ elim (cases_Bool (begins_with_mark (drop k bytes))) [
        | inl here ↦
            let there : k + (at + 3 - k) ≡ at + 3 = omega arith in
            let same =
            subst (λ (n : ℕ). get_or bytes n 0 ≡ get_or end_mark (at + 3 - k) 0) there
            (mark_byte bytes k (at + 3 - k) here (omega arith)) in
            elim (mark_is_crlf (at + 3 - k) (omega arith)) [
              | inl cr ↦ absurd (no_cr (same ∙ cr))
              | inr lf ↦ absurd (no_lf (same ∙ lf))
            ]
        | inr none ↦ none
      ]
    ]

-- where a search goes on by so many bytes no mark begins before
pub no_mark_by_stride : (bytes : List ℕ) (at n : ℕ) → NoMarkBefore at bytes
    → begins_with_mark (drop at bytes) ≡ false → n ≤ 4
    → (1 < n → (get_or bytes (at + 3) 0 ≢ 13) × (get_or bytes (at + 3) 0 ≢ 10))
    → NoMarkBefore (at + n) bytes
no_mark_by_stride bytes at n none_before none_here few passes = λ k less.
    elim (cases_lt 1 n) [
      | inl more ↦
          let no_part = passes more in
          no_mark_in_four bytes at none_before no_part.0 no_part.1 k (omega arith)
      | inr one ↦ elim (cases_lt k at) [
        | inl before ↦ none_before k before
        | inr not_before ↦
            let same : at ≡ k = omega arith in
            subst (λ (j : ℕ). begins_with_mark (drop j bytes) ≡ false) same
            none_here
      ]
    ]

-- what is shifted to nothing was nothing
pub shifted-none : (n : ℕ) (place : Option ℕ) → shifted n place ≡ None → place ≡ None
shifted-none n None none = refl
shifted-none n (Some k) none = cc

-- where no head ends, none ends behind the first byte either, and no mark begins here
no_end_here : (b : ℕ) (bytes : List ℕ) → head_end (b ∷ bytes) ≡ None
    → (begins_with_mark (b ∷ bytes) ≡ false) × (head_end bytes ≡ None)
no_end_here b bytes none =
    elim (cases_Bool (begins_with_mark (b ∷ bytes))) [
      | inl here ↦ let ends = head_end-here (b ∷ bytes) here in cc
      | inr none_here ↦ (
        none_here,
        shifted-none 1 (head_end bytes) (sym (head_end-cons b bytes none_here)
            ∙ none),
      )
    ]

-- where no head ends, no mark begins at all
pub no_mark_without_end : (bytes : List ℕ) → head_end bytes ≡ None → (k : ℕ)
    → begins_with_mark (drop k bytes) ≡ false
no_mark_without_end [] none zero = refl
no_mark_without_end [] none (suc k) = refl
no_mark_without_end (b ∷ bytes) none zero = (no_end_here b bytes none).0
no_mark_without_end (b ∷ bytes) none (suc k) =
    no_mark_without_end bytes (no_end_here b bytes none).1 k

-- what is dropped begins no mark
pub NoMarkBefore-drop : (n place : ℕ) (bytes : List ℕ) → NoMarkBefore place bytes
    → NoMarkBefore (place - n) (drop n bytes)
NoMarkBefore-drop n place bytes none_before =
    λ k less. rw drop-drop (none_before (n + k) (omega arith))

-- what follows the last three bytes begins no mark before them
pub NoMarkBefore-append : (place : ℕ) (bytes more : List ℕ) → place + 3 ≤ length bytes
    → NoMarkBefore place bytes
    → NoMarkBefore place (bytes ++ more)
NoMarkBefore-append place bytes more margin none_before = λ k less.
    let inside : k ≤ length bytes = omega arith in
    let room : 4 ≤ length (drop k bytes) = omega (arith, length-drop k bytes) in
    rw (drop-append-le k bytes more inside, take-append-le 4 (drop k bytes) more room)
    (none_before k less)

-- a place that was shifted comes from a place
pub shifted-some : (n len : ℕ) (place : Option ℕ) → shifted n place ≡ Some len
    → (k : ℕ) × (place ≡ Some k) × (len ≡ k + n)
shifted-some n len None is = cc
shifted-some n len (Some k) is = (k, refl, cc)

-- an end at four has four bytes before it
ends_at_four : (bytes : List ℕ) (len : ℕ) → head_end bytes ≡ Some len → head_end bytes ≡ Some 4
    → (4 ≤ len) × (len ≤ length bytes)
ends_at_four bytes len ends four =
    let same : len ≡ 4 = cc in
    elim (cases_lt (length bytes) 4) [
      | inl few ↦ let none = head_end-short bytes few in cc
      | inr enough ↦ (omega arith, omega arith)
    ]

-- a head has four bytes at least, and ends in the bytes
pub head_end-within : (bytes : List ℕ) (len : ℕ) → head_end bytes ≡ Some len
    → (4 ≤ len) × (len ≤ length bytes)
head_end-within [] len ends = cc
head_end-within (b ∷ bytes) len ends =
    elim (cases_Bool (begins_with_mark (b ∷ bytes))) [
      | inl here ↦ ends_at_four (b ∷ bytes) len ends (head_end-here (b ∷ bytes) here)
      | inr none_here ↦
          let behind =
          shifted-some 1 len (head_end bytes) (sym (head_end-cons b bytes none_here) ∙ ends) in
          let within = head_end-within bytes behind.0 behind.1 in
          (omega (arith, within.0, behind.2), omega (arith, within.1, behind.2))
    ]

-- what follows four bytes does not change whether they are a mark
mark-append : (bytes more : List ℕ) → 4 ≤ length bytes
    → begins_with_mark (bytes ++ more) ≡ begins_with_mark bytes
mark-append bytes more enough = ap (λ x. bytes_eq x end_mark) (take-append-le 4 bytes more enough)

-- the bytes that follow do not move an end
pub head_end-append : (bytes more : List ℕ) (len : ℕ) → head_end bytes ≡ Some len
    → head_end (bytes ++ more) ≡ Some len
head_end-append [] more len ends = cc
head_end-append (b ∷ bytes) more len ends =
    let within = head_end-within (b ∷ bytes) len ends in
    let same = mark-append (b ∷ bytes) more (omega (arith, within.0, within.1)) in
    elim (cases_Bool (begins_with_mark (b ∷ bytes))) [
      | inl here ↦ head_end-here (b ∷ (bytes ++ more)) (same ∙ here)
          ∙ sym (head_end-here (b ∷ bytes) here) ∙ ends
      | inr none_here ↦
          let behind =
          shifted-some 1 len (head_end bytes) (sym (head_end-cons b bytes none_here) ∙ ends) in
          head_end-cons b (bytes ++ more) (same ∙ none_here)
          ∙ ap (shifted 1) (head_end-append bytes more behind.0 behind.1 ∙ sym behind.1)
          ∙ sym (head_end-cons b bytes none_here) ∙ ends
    ]

-- a mark stands before an end
mark_at_end : (bytes : List ℕ) (len : ℕ) → head_end bytes ≡ Some len
    → (k : ℕ) × (len ≡ k + 4) × (begins_with_mark (drop k bytes) ≡ true)
mark_at_end [] len ends = cc
mark_at_end (b ∷ bytes) len ends =
    elim (cases_Bool (begins_with_mark (b ∷ bytes))) [
      | inl here ↦ let four = head_end-here (b ∷ bytes) here in (0, cc, here)
      | inr none_here ↦
          let behind =
          shifted-some 1 len (head_end bytes) (sym (head_end-cons b bytes none_here) ∙ ends) in
          let mark = mark_at_end bytes behind.0 behind.1 in
          (suc mark.0, omega (arith, behind.2, mark.1), mark.2)
    ]

-- where no head ends yet, one that ends later ends behind these bytes
pub head_end-later : (bytes more : List ℕ) (len : ℕ) → head_end bytes ≡ None
    → head_end (bytes ++ more) ≡ Some len
    → length bytes < len
head_end-later bytes more len none ends =
    let mark = mark_at_end (bytes ++ more) len ends in
    elim (cases_lt (length bytes) len) [
      | inl later ↦ later
      | inr not_later ↦
          let k = mark.0 in
          let inside : k ≤ length bytes = omega (arith, mark.1) in
          let room : 4 ≤ length (drop k bytes) = omega (arith, mark.1, length-drop k bytes) in
          let seen : begins_with_mark (drop k bytes ++ more) ≡ true =
          rw (drop-append-le k bytes more inside) at mark.2 in
          let none_here = no_mark_without_end bytes none k in
          let same = mark-append (drop k bytes) more room in
          cc
    ]

-- the end of the whole is that of a front as long, by what that front holds
ends_there : (front rest : List ℕ) (len : ℕ) (place : Option ℕ) → head_end front ≡ place
    → length front ≡ len → head_end (front ++ rest) ≡ Some len
    → head_end front ≡ Some (length front)
ends_there front rest len None is size ends =
    let later = head_end-later front rest len is ends in absurd (omega (arith, later))
ends_there front rest len (Some k) is size ends =
    is ∙ sym (head_end-append front rest k is) ∙ ends ∙ ap Some (sym size)

-- the bytes up to the first end are one head
pub head_end-take : (bytes : List ℕ) (len : ℕ) → head_end bytes ≡ Some len
    → head_end (take len bytes) ≡ Some (length (take len bytes))
head_end-take bytes len ends =
    let size = length-take-le len bytes (head_end-within bytes len ends).1 in
    let whole = take-append-drop len bytes in
    ends_there (take len bytes) (drop len bytes) len (head_end (take len bytes)) refl size
    (subst (λ (b : List ℕ). head_end b ≡ Some len) (sym whole) ends)
