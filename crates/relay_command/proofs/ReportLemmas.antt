-- Shown bytes are read back: no other bytes are shown as they are.
use Rattle.std.proofs.Common.{◌≡◌, ℕ, ◌+◌, ◌-◌, ◌*◌, ◌/◌, ◌%◌, ◌<◌, ◌≤◌, List, [], ◌∷◌, ◌++◌, Bool, true, false, if◌then◌else◌, nat_lt, nat_le, ◌==◌, ◌&&◌, codes, refl, sym, ap, ◌∙◌, arith}
use Rattle.std.proofs.lemmas.Bool.{eqb-true, ltb-true, ltb-false, lt-ltb, le-ltb}
use Rattle.relay_command.specs.Report.{hex_digit, shown_byte, shown, AreBytes}

-- the value of a digit
abbrev unhex : ℕ → ℕ
unhex d = if nat_lt d 58 then d - 48 else d - 87

-- the byte that the front of a shown text stands for, and the text behind it
abbrev read_digits : List ℕ → ℕ × List ℕ
read_digits (high ∷ low ∷ rest) = (16 * unhex high + unhex low, rest)
read_digits _ = (0, [])

abbrev read_name : List ℕ → ℕ × List ℕ
read_name (name ∷ rest) =
    if name == 92 then (92, rest) else
    (if name == 114 then (13, rest) else
    (if name == 110 then (10, rest) else read_digits rest))
read_name [] = (0, [])

abbrev read_byte : List ℕ → ℕ × List ℕ
read_byte (first ∷ rest) = if first == 92 then read_name rest else (first, rest)
read_byte [] = (0, [])

-- a digit is read back
unhex-hex_at : (small : Bool) (n : ℕ) → nat_lt n 10 ≡ small → n < 16
    → unhex (if small then 48 + n else 87 + n) ≡ n
unhex-hex_at true n is below =
    let less : n < 10 = ltb-true n 10 is in
    let digit : nat_lt (48 + n) 58 ≡ true = lt-ltb (48 + n) 58 (omega arith) in
    rw digit (omega arith)
unhex-hex_at false n is below =
    let more : 10 ≤ n = ltb-false n 10 is in
    let letter : nat_lt (87 + n) 58 ≡ false = le-ltb (87 + n) 58 (omega arith) in
    rw letter (omega arith)

unhex-hex : (n : ℕ) → n < 16 → unhex (hex_digit n) ≡ n
unhex-hex n below = unhex-hex_at (nat_lt n 10) n refl below

digits_back : (x : ℕ) → x < 256 → 16 * unhex (hex_digit (x / 16)) + unhex (hex_digit (x % 16)) ≡ x
digits_back x below =
    rw (unhex-hex (x / 16) (omega arith), unhex-hex (x % 16) (omega arith)) (omega arith)

-- a shown byte, by the tests on it
abbrev shown_by : Bool → Bool → Bool → Bool → ℕ → List ℕ
shown_by slash cr lf plain x =
    if slash then codes "\\\\" else
    (if cr then codes "\\r" else
    (if lf then codes "\\n" else
    (if plain then x ∷ [] else codes "\\x" ++ hex_digit (x / 16) ∷ hex_digit (x % 16) ∷ [])))

back_at : (slash cr lf plain : Bool) (x : ℕ) (rest : List ℕ)
    → (x == 92) ≡ slash → (x == 13) ≡ cr → (x == 10) ≡ lf → x < 256
    → read_byte (shown_by slash cr lf plain x ++ rest) ≡ (x, rest)
back_at true cr lf plain x rest is92 is13 is10 below =
    ap (λ y. (y, rest)) (sym (eqb-true x 92 is92))
back_at false true lf plain x rest is92 is13 is10 below =
    ap (λ y. (y, rest)) (sym (eqb-true x 13 is13))
back_at false false true plain x rest is92 is13 is10 below =
    ap (λ y. (y, rest)) (sym (eqb-true x 10 is10))
back_at false false false true x rest is92 is13 is10 below = rw is92
back_at false false false false x rest is92 is13 is10 below =
    ap (λ y. (y, rest)) (digits_back x below)

-- the front of a shown text is read back
read_byte-shown : (x : ℕ) (rest : List ℕ) → x < 256 → read_byte (shown_byte x ++ rest) ≡ (x, rest)
read_byte-shown x rest below =
    back_at (x == 92) (x == 13) (x == 10) (nat_le 32 x && nat_le x 126) x rest refl refl refl below

filled_at : (slash cr lf plain : Bool) (x : ℕ) (rest : List ℕ)
    → shown_by slash cr lf plain x ++ rest ≡ [] → ⊥
filled_at true cr lf plain x rest is = cc
filled_at false true lf plain x rest is = cc
filled_at false false true plain x rest is = cc
filled_at false false false true x rest is = cc
filled_at false false false false x rest is = cc

-- a shown byte is some text
filled : (x : ℕ) (rest : List ℕ) → shown_byte x ++ rest ≡ [] → ⊥
filled x rest is = filled_at (x == 92) (x == 13) (x == 10) (nat_le 32 x && nat_le x 126) x rest is

-- no two lists of bytes are shown alike
pub shown_alone : (bytes others : List ℕ) → AreBytes bytes → AreBytes others
    → shown bytes ≡ shown others → bytes ≡ others
shown_alone [] [] b o is = refl
shown_alone [] (y ∷ ys) b o is = absurd (filled y (shown ys) (sym is))
shown_alone (x ∷ xs) [] b o is = absurd (filled x (shown xs) is)
shown_alone (x ∷ xs) (y ∷ ys) b o is =
    let both : (x, shown xs) ≡ (y, shown ys) =
    sym (read_byte-shown x (shown xs) b.0) ∙ ap read_byte is ∙ read_byte-shown y (shown ys) o.0 in
    let first : x ≡ y = ap (λ p. p.0) both in
    let rest : xs ≡ ys = shown_alone xs ys b.1 o.1 (ap (λ p. p.1) both) in
    rw (first, rest)
