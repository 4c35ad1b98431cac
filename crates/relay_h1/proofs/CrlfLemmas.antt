-- Where the first CR LF ends, and that what follows it changes nothing.
use Rattle.std.proofs.Common.{◌≡◌, ℕ, suc, ◌+◌, ◌-◌, ◌<◌, ◌≤◌, Bool, true, false, ◌&&◌, List, [], ◌∷◌, ◌++◌, length, take, drop, get_or, refl, sym, ◌∙◌, ap, arith, Some, None, bytes_eq, add-one, drop-cons, inl, inr}
use Rattle.std.proofs.lemmas.Bool.{cases_Bool, cases_lt}
use Rattle.std.proofs.lemmas.List.{length-take-le, length-take, take-append-le, take-take}
use Rattle.bytes.proofs.Ranges.{take-append_past}
use Rattle.relay_h1.specs.HeadEnd.{head_end, begins_with_mark, end_mark, shifted}
use Rattle.relay_h1.specs.Wire.{crlf}
use Rattle.relay_h1.specs.Body.{begins_with_crlf, crlf_end, line_end, most_line, trailer_end}
use Rattle.relay_h1.proofs.HeadEndLemmas.{head_end-within, head_end-here, head_end-cons, shifted-one, shifted-some}

-- nothing and more is nothing
and-false : (b : Bool) → (b && false) ≡ false
and-false true = refl
and-false false = refl

-- fewer than two bytes begin no CR LF
pub crlf-short : (bytes : List ℕ) → length bytes < 2 → begins_with_crlf bytes ≡ false
crlf-short [] few = refl
crlf-short (a ∷ []) few = simp and-false
crlf-short (a ∷ b ∷ bytes) few = absurd (omega arith)

-- bytes that begin with CR LF are two at least
pub crlf_is_long : (bytes : List ℕ) → begins_with_crlf bytes ≡ true → 2 ≤ length bytes
crlf_is_long bytes begins =
    elim (cases_lt (length bytes) 2) [
      | inl few ↦ let none = crlf-short bytes few in cc
      | inr enough ↦ omega arith
    ]

-- whether bytes begin with CR LF is told by their first two, whatever follows
pub crlf-append : (bytes more : List ℕ) → 2 ≤ length bytes
    → begins_with_crlf (bytes ++ more) ≡ begins_with_crlf bytes
crlf-append bytes more enough = ap (λ x. bytes_eq x crlf) (take-append-le 2 bytes more enough)

-- the same for the first n bytes
pub crlf-front : (bytes more : List ℕ) (n : ℕ) → 2 ≤ n → n ≤ length bytes
    → begins_with_crlf (take n bytes ++ more) ≡ begins_with_crlf bytes
crlf-front bytes more n enough inside =
    let size = length-take-le n bytes inside in
    ap (λ x. bytes_eq x crlf)
    (take-append-le 2 (take n bytes) more (omega arith) ∙ take-take 2 n bytes enough)

-- the same for CR LF CR LF
mark-front : (bytes more : List ℕ) (n : ℕ) → 4 ≤ n → n ≤ length bytes
    → begins_with_mark (take n bytes ++ more) ≡ begins_with_mark bytes
mark-front bytes more n enough inside =
    let size = length-take-le n bytes inside in
    ap (λ x. bytes_eq x end_mark)
    (take-append-le 4 (take n bytes) more (omega arith) ∙ take-take 4 n bytes enough)

-- a CR LF at the front ends the line behind it
pub crlf_end-here : (bytes : List ℕ) → begins_with_crlf bytes ≡ true → crlf_end bytes ≡ Some 2
crlf_end-here [] here = cc
crlf_end-here (b ∷ bytes) here = rw here refl

-- one byte is passed by
pub crlf_end-cons : (b : ℕ) (bytes : List ℕ) → begins_with_crlf (b ∷ bytes) ≡ false
    → crlf_end (b ∷ bytes) ≡ shifted 1 (crlf_end bytes)
crlf_end-cons b bytes none_here = rw none_here (shifted-one (crlf_end bytes))

-- where no CR LF stands, the search goes on behind the byte
pub crlf_end-skip : (bytes : List ℕ) (at : ℕ) → at < length bytes
    → begins_with_crlf (drop at bytes) ≡ false
    → crlf_end (drop at bytes) ≡ shifted 1 (crlf_end (drop (at + 1) bytes))
crlf_end-skip bytes at within none_here =
    let here = drop-cons bytes at 0 within in
    rw (here, add-one)
    (crlf_end-cons (get_or bytes at 0) (drop (suc at) bytes) (rw here at none_here))

-- fewer than two bytes hold no end
pub crlf_end-short : (bytes : List ℕ) → length bytes < 2 → crlf_end bytes ≡ None
crlf_end-short [] few = refl
crlf_end-short (a ∷ []) few = simp and-false
crlf_end-short (a ∷ b ∷ bytes) few = absurd (omega arith)

-- an end at two has two bytes before it
ends_at_two : (bytes : List ℕ) (len : ℕ) → crlf_end bytes ≡ Some len → crlf_end bytes ≡ Some 2
    → begins_with_crlf bytes ≡ true → (2 ≤ len) × (len ≤ length bytes)
ends_at_two bytes len ends two begins =
    let same : len ≡ 2 = cc in
    (omega arith, omega (arith, crlf_is_long bytes begins))

-- a line has two bytes at least, and ends in the bytes
pub crlf_end-within : (bytes : List ℕ) (len : ℕ) → crlf_end bytes ≡ Some len
    → (2 ≤ len) × (len ≤ length bytes)
crlf_end-within [] len ends = cc
crlf_end-within (b ∷ bytes) len ends =
    elim (cases_Bool (begins_with_crlf (b ∷ bytes))) [
      | inl here ↦ ends_at_two (b ∷ bytes) len ends (crlf_end-here (b ∷ bytes) here) here
      | inr none_here ↦
          let behind =
          shifted-some 1 len (crlf_end bytes) (sym (crlf_end-cons b bytes none_here) ∙ ends) in
          let within = crlf_end-within bytes behind.0 behind.1 in
          (omega (arith, within.0, behind.2), omega (arith, within.1, behind.2))
    ]

-- what follows the first CR LF does not move it
pub crlf_end-front : (bytes more : List ℕ) (len : ℕ) → crlf_end bytes ≡ Some len
    → crlf_end (take len bytes ++ more) ≡ Some len
crlf_end-front [] more len ends = cc
crlf_end-front (b ∷ bytes) more len ends =
    let within = crlf_end-within (b ∷ bytes) len ends in
    let same = crlf-front (b ∷ bytes) more len within.0 within.1 in
    elim (cases_Bool (begins_with_crlf (b ∷ bytes))) [
      | inl here ↦ crlf_end-here (take len (b ∷ bytes) ++ more) (same ∙ here)
          ∙ sym (crlf_end-here (b ∷ bytes) here) ∙ ends
      | inr none_here ↦
          let behind =
          shifted-some 1 len (crlf_end bytes) (sym (crlf_end-cons b bytes none_here) ∙ ends) in
          let k = behind.0 in
          let is : len ≡ suc k = omega (arith, behind.2) in
          let rest : begins_with_crlf (b ∷ (take k bytes ++ more)) ≡ false =
          rw is at (same ∙ none_here) in
          rw is
          (crlf_end-cons b (take k bytes ++ more) rest
          ∙ ap (shifted 1) (crlf_end-front bytes more k behind.1) ∙ ap Some (omega arith))
    ]

-- what follows the end of a head does not move it
pub head_end-front : (bytes more : List ℕ) (len : ℕ) → head_end bytes ≡ Some len
    → head_end (take len bytes ++ more) ≡ Some len
head_end-front [] more len ends = cc
head_end-front (b ∷ bytes) more len ends =
    let within = head_end-within (b ∷ bytes) len ends in
    let same = mark-front (b ∷ bytes) more len within.0 within.1 in
    elim (cases_Bool (begins_with_mark (b ∷ bytes))) [
      | inl here ↦ head_end-here (take len (b ∷ bytes) ++ more) (same ∙ here)
          ∙ sym (head_end-here (b ∷ bytes) here) ∙ ends
      | inr none_here ↦
          let behind =
          shifted-some 1 len (head_end bytes) (sym (head_end-cons b bytes none_here) ∙ ends) in
          let k = behind.0 in
          let is : len ≡ suc k = omega (arith, behind.2) in
          let rest : begins_with_mark (b ∷ (take k bytes ++ more)) ≡ false =
          rw is at (same ∙ none_here) in
          rw is
          (head_end-cons b (take k bytes ++ more) rest
          ∙ ap (shifted 1) (head_end-front bytes more k behind.1) ∙ ap Some (omega arith))
    ]

-- a line at the front keeps the limit, and lies in the bytes
pub line_end-within : (bytes : List ℕ) (len : ℕ) → line_end bytes ≡ Some len
    → (2 ≤ len) × (len ≤ length bytes) × (len ≤ most_line)
line_end-within bytes len ends =
    let within = crlf_end-within (take most_line bytes) len ends in
    let size = length-take most_line bytes in
    (within.0, omega (arith, within.1, size), omega (arith, within.1, size))

-- what follows the line at the front does not move its end
pub line_end-front : (bytes more : List ℕ) (len : ℕ) → line_end bytes ≡ Some len
    → line_end (take len bytes ++ more) ≡ Some len
line_end-front bytes more len ends =
    let within = line_end-within bytes len ends in
    let size = length-take-le len bytes within.1 in
    let cut =
    take-append_past (take len bytes) more (most_line - len) most_line
    (omega (arith, size, within.2)) in
    let front = take-take len most_line bytes within.2 in
    let there = crlf_end-front (take most_line bytes) (take (most_line - len) more) len ends in
    ap crlf_end cut ∙ ap (λ x. crlf_end (x ++ take (most_line - len) more)) (sym front) ∙ there

-- a trailer section has two bytes at least, and ends in the bytes
pub trailer_end-within : (bytes : List ℕ) (len : ℕ) → trailer_end bytes ≡ Some len
    → (2 ≤ len) × (len ≤ length bytes)
trailer_end-within bytes len ends =
    elim (cases_Bool (begins_with_crlf bytes)) [
      | inl here ↦
          let two : len ≡ 2 = cc (rw here at ends) in
          (omega arith, omega (arith, crlf_is_long bytes here))
      | inr none_here ↦
          let within = head_end-within bytes len (rw none_here at ends) in
          (omega (arith, within.0), within.1)
    ]

-- what follows the trailer section does not move its end
pub trailer_end-front : (bytes more : List ℕ) (len : ℕ) → trailer_end bytes ≡ Some len
    → trailer_end (take len bytes ++ more) ≡ Some len
trailer_end-front bytes more len ends =
    let within = trailer_end-within bytes len ends in
    let same = crlf-front bytes more len within.0 within.1 in
    elim (cases_Bool (begins_with_crlf bytes)) [
      | inl here ↦ rw (same ∙ here) (rw here at ends)
      | inr none_here ↦
          rw (same ∙ none_here) (head_end-front bytes more len (rw none_here at ends))
    ]
