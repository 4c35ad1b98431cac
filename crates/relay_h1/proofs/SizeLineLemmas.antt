-- The line in front of a chunk is read as a chunk line of that size.
use Rattle.std.proofs.Common.{◌≡◌, ℕ, zero, suc, ◌+◌, ◌-◌, ◌*◌, ◌^◌, ◌/◌, ◌%◌, ◌<◌, ◌≤◌, Bool, true, false, cond, eqb, List, [], ◌∷◌, ◌++◌, length, take, refl, sym, ◌∙◌, ap, arith, append-nil, append_assoc, length-append, Some, None, inl, inr}
use Rattle.std.proofs.Math.Nat.{pow-suc}
use Rattle.std.proofs.Math.Seq.{take-append_seam}
use Rattle.std.proofs.lemmas.Bool.{cases_Bool, cases_lt, eq-eqb, ne_eqb}
use Rattle.std.proofs.lemmas.Bool.Decides.{nat_tests}
use Rattle.std.proofs.lemmas.Fmt.{digits_is_IsNumeral}
use Rattle.std.proofs.lemmas.List.Elements.{All-cons, All-head, All-tail}
use Rattle.bytes.proofs.Ranges.{take-append_past}
use Rattle.std.specs.List.{AllPass}
use Rattle.std.specs.Char.{is_ascii_hexdigit}
use Rattle.std.specs.Fmt.{digits, digits_onto, digit_glyph}
use Rattle.httparse.specs.Grammar.{ChunkLine, print_chunk_line}
use Rattle.relay_h1.specs.Wire as wire
use Rattle.relay_h1.specs.Body.{most_line, crlf_end, line_end, IsLineOf, StartsWithLine}
use Rattle.relay_h1.specs.BodyWire.{size_line}

-- each digit that is written is one
glyph_is_digit : (d : ℕ) → d < 16 → is_ascii_hexdigit (digit_glyph true d) ≡ true
glyph_is_digit d small =
    elim (cases_lt d 10) [
      | inl below ↦ grind (arith, nat_tests)
      | inr above ↦ grind (arith, nat_tests)
    ]

-- what is written in front of digits are digits
onto_digits : (k n : ℕ) (acc : List ℕ) → AllPass is_ascii_hexdigit acc
    → AllPass is_ascii_hexdigit (digits_onto k 16 true n acc)
onto_digits zero n acc all = all
onto_digits (suc k) n acc all =
    let glyph = digit_glyph true (n % 16) in
    let more : AllPass is_ascii_hexdigit (glyph ∷ acc) =
    All-cons (λ c. is_ascii_hexdigit c ≡ true) glyph acc (glyph_is_digit (n % 16) (omega arith)) all
    in
    let rest = onto_digits k (n / 16) (glyph ∷ acc) more in
    by (eqb (n / 16) 0) more rest
  where
    by : (b : Bool) → AllPass is_ascii_hexdigit (digit_glyph true (n % 16) ∷ acc)
        → AllPass is_ascii_hexdigit
        (digits_onto k 16 true (n / 16) (digit_glyph true (n % 16) ∷ acc))
        → AllPass is_ascii_hexdigit
        (cond b (digit_glyph true (n % 16) ∷ acc)
        (digits_onto k 16 true (n / 16) (digit_glyph true (n % 16) ∷ acc)))
    by true more rest = more
    by false more rest = rest

-- a number below 16^j has j digits at most
onto_short : (k j n : ℕ) (acc : List ℕ) → n < 16 ^ (j + 1)
    → length (digits_onto k 16 true n acc) ≤ j + 1 + length acc
onto_short zero j n acc fits = omega arith
onto_short (suc k) zero n acc fits = rw (eq-eqb (n / 16) 0 (omega arith)) (omega arith)
onto_short (suc k) (suc j) n acc fits =
    let one_less : suc j + 1 ≡ suc (j + 1) = omega arith in
    let room : n < 16 ^ (j + 1) * 16 = rw (one_less, pow-suc 16 (j + 1)) at fits in
    let rest = onto_short k j (n / 16) (digit_glyph true (n % 16) ∷ acc) (omega arith) in
    elim (cases_Bool (eqb (n / 16) 0)) [
      | inl last ↦ rw last (omega arith)
      | inr more ↦ rw more (omega (arith, rest))
    ]

-- a size has 16 digits at most
pub digits_short : (n : ℕ) → n < 2 ^ 64 → length (digits 16 true n) ≤ 16
unfolding digits
digits_short n fits = onto_short 64 15 n [] fits

-- and each is one
pub digits_pass : (n : ℕ) → AllPass is_ascii_hexdigit (digits 16 true n)
unfolding digits
digits_pass n = onto_digits 64 n [] (λ k d inside. absurd (omega arith))

-- the line that is written
written_line : ℕ → ChunkLine
written_line size = record { digits = digits 16 true size; pad = []; extension = None }

-- it is a chunk line of that size
pub size_line_is_line : (size : ℕ) → size < 2 ^ 64 → IsLineOf (size_line size) size
unfolding written_line print_chunk_line
size_line_is_line size fits =
    let numeral = digits_is_IsNumeral 16 true (omega arith) (omega arith) size (omega arith) in
    record {
      line = written_line size;
      reads = (
        record {
          digits = (numeral.0.0, digits_short size fits, digits_pass size);
          pad = λ k d inside. absurd (omega arith);
          extension = tt;
        },
        simp append-nil,
      );
      sized = sym numeral.1;
    }

-- no digit is a CR
no_cr : (d : ℕ) → is_ascii_hexdigit d ≡ true → eqb d 13 ≡ false
no_cr d is = ne_eqb d 13 (λ same. let here : false ≡ true = rw same at is in cc)

-- so the first CR LF is the one behind the digits
digits_end : (digits rest : List ℕ) → AllPass is_ascii_hexdigit digits
    → crlf_end (digits ++ 13 ∷ 10 ∷ rest) ≡ Some (length digits + 2)
digits_end [] rest all = refl
digits_end (d ∷ digits) rest all =
    let behind =
    digits_end digits rest (All-tail (λ c. is_ascii_hexdigit c ≡ true) d digits all) in
    rw (no_cr d (All-head (λ c. is_ascii_hexdigit c ≡ true) d digits all), behind)
    (ap Some (omega arith))

-- the line ends behind its digits, whatever follows it
size_line_ends : (size : ℕ) (rest : List ℕ) → size < 2 ^ 64
    → line_end (size_line size ++ rest) ≡ Some (length (size_line size))
size_line_ends size rest fits =
    let line = size_line size in
    let some = length-append (digits 16 true size) wire.crlf in
    let short : length line ≤ most_line = omega (arith, digits_short size fits, some) in
    let left = most_line - length line in
    ap crlf_end (take-append_past line rest left most_line (omega arith))
    ∙ ap crlf_end (append_assoc (digits 16 true size) wire.crlf (take left rest))
    ∙ digits_end (digits 16 true size) (take left rest) (digits_pass size)
    ∙ ap Some (sym some)

-- the line stands at the front of what it is written before
pub size_line_starts : (size : ℕ) (rest : List ℕ) → size < 2 ^ 64
    → StartsWithLine (size_line size ++ rest) (length (size_line size)) size
size_line_starts size rest fits =
    record {
      ends = size_line_ends size rest fits;
      is_line = rw take-append_seam (size_line_is_line size fits);
    }
