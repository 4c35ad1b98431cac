-- How the size of a chunk is written, digit after digit from its end.
use Rattle.std.proofs.Common.{◌≡◌, ℕ, zero, suc, ◌+◌, ◌-◌, ◌*◌, ◌^◌, ◌/◌, ◌%◌, ◌<◌, ◌≤◌, Bool, true, false, cond, eqb, List, [], ◌∷◌, ◌++◌, length, drop, set, refl, sym, ◌∙◌, ap, arith, add-one}
use Rattle.std.proofs.Math.Nat.{pow-suc}
use Rattle.std.proofs.lemmas.Bool.{eq-eqb, ne_eqb}
use Rattle.std.proofs.lemmas.List.{drop-set}
use Rattle.std.specs.Fmt.{digits, digits_onto, digit_glyph}
use Rattle.relay_h1.specs.Wire.{crlf}
use Rattle.relay_h1.specs.BodyWire.{size_line}

-- the last digit is written, and what is left has more
pub onto_more : (k n : ℕ) (acc : List ℕ) → 16 ≤ n
    → digits_onto (suc k) 16 true n acc
    ≡ digits_onto k 16 true (n / 16) (digit_glyph true (n % 16) ∷ acc)
onto_more k n acc more = rw (ne_eqb (n / 16) 0 (λ none. omega arith)) refl

-- the first digit is written
pub onto_first : (k n : ℕ) (acc : List ℕ) → n < 16
    → digits_onto (suc k) 16 true n acc ≡ digit_glyph true n ∷ acc
onto_first k n acc one =
    let same : n % 16 ≡ n = omega arith in
    rw (eq-eqb (n / 16) 0 (omega arith)) (ap (λ d. digit_glyph true d ∷ acc) same)

-- the digits stand in front of what is behind them
onto_append : (k n : ℕ) (xs ys : List ℕ)
    → digits_onto k 16 true n (xs ++ ys) ≡ digits_onto k 16 true n xs ++ ys
onto_append zero n xs ys = refl
onto_append (suc k) n xs ys =
    by (eqb (n / 16) 0) (onto_append k (n / 16) (digit_glyph true (n % 16) ∷ xs) ys)
  where
    glyph : ℕ
    glyph = digit_glyph true (n % 16)

    by : (b : Bool)
        → digits_onto k 16 true (n / 16) (glyph ∷ (xs ++ ys))
        ≡ digits_onto k 16 true (n / 16) (glyph ∷ xs) ++ ys
        → cond b (glyph ∷ (xs ++ ys)) (digits_onto k 16 true (n / 16) (glyph ∷ (xs ++ ys)))
        ≡ cond b (glyph ∷ xs) (digits_onto k 16 true (n / 16) (glyph ∷ xs)) ++ ys
    by true before = refl
    by false before = before

-- the whole line
pub onto_line : (n : ℕ) → digits_onto 64 16 true n crlf ≡ size_line n
unfolding digits
onto_line n = onto_append 64 n [] crlf

-- what fits some digits and is no digit itself has one before it
pub has_digit_before : (n place : ℕ) → n < 16 ^ (place + 1) → 16 ≤ n → 0 < place
has_digit_before n zero fits more = absurd (omega arith)
has_digit_before n (suc place) fits more = omega arith

-- without its last digit it fits one digit less
pub fits_before : (n place : ℕ) → n < 16 ^ (place + 1) → 0 < place
    → n / 16 < 16 ^ (place - 1 + 1)
fits_before n place fits some =
    let same : place - 1 + 1 ≡ place = omega arith in
    let room : n < 16 ^ place * 16 = rw (add-one, pow-suc) at fits in
    rw same (omega arith)

-- one digit more stands in the buffer
pub written_more : (bytes : List ℕ) (start left glyph : ℕ) (line : List ℕ)
    → start < length bytes → 0 < start → 16 ≤ left → glyph ≡ digit_glyph true (left % 16)
    → digits_onto (start + 49) 16 true left (drop (start + 1) bytes) ≡ line
    → digits_onto (start - 1 + 49) 16 true (left / 16)
    (drop (start - 1 + 1) (set bytes start glyph))
    ≡ line
written_more bytes start left glyph line inside some more is so_far =
    let fuel : start + 49 ≡ suc (start - 1 + 49) = omega arith in
    let place : start - 1 + 1 ≡ start = omega arith in
    let front = drop-set bytes start glyph inside in
    rw (place, front, is)
    (sym (onto_more (start - 1 + 49) left (drop (start + 1) bytes) more)
    ∙ ap (λ k. digits_onto k 16 true left (drop (start + 1) bytes)) (sym fuel)
    ∙ so_far)

-- the first digit stands in the buffer, and with it the whole line
pub written_first : (bytes : List ℕ) (start left glyph : ℕ) (line : List ℕ)
    → start < length bytes → left < 16 → glyph ≡ digit_glyph true left
    → digits_onto (start + 49) 16 true left (drop (start + 1) bytes) ≡ line
    → drop start (set bytes start glyph) ≡ line
written_first bytes start left glyph line inside one is so_far =
    let fuel : start + 49 ≡ suc (start + 48) = omega arith in
    let front = drop-set bytes start glyph inside in
    front
    ∙ ap (λ d. d ∷ drop (start + 1) bytes) is
    ∙ sym (onto_first (start + 48) left (drop (start + 1) bytes) one)
    ∙ ap (λ k. digits_onto k 16 true left (drop (start + 1) bytes)) (sym fuel)
    ∙ so_far
