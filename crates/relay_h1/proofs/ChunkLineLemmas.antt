-- Whether a text is a chunk line can be told.
use Rattle.std.proofs.Common.{◌≡◌, ◌≢◌, ℕ, Bool, true, List, [], ◌∷◌, ◌++◌, length, refl, sym, ◌∙◌, ap, subst, arith, Option, Some, None, inl, inr, append-nil, bytes_eq}
use Rattle.std.specs.Prelude.{◌⊎◌}
use Rattle.std.proofs.lemmas.Bool.{cases_Bool, cases_eq, cases_lt}
use Rattle.std.proofs.lemmas.Bool.Decides.{not_from_Decides}
use Rattle.std.proofs.lemmas.List.Elements.{All-nil, All-cons, All-tail}
use Rattle.std.proofs.lemmas.Slice.Eq.{bytes_eq-Decides}
use Rattle.std.specs.Char.{is_ascii_hexdigit}
use Rattle.httparse.specs.Grammar.{is_ows, is_extension_byte, crlf, print_end, chunk_size}
use Rattle.httparse.specs.Pieces.{Piece, Begins, Then, Run, HexDigits, Extension}
use Rattle.httparse.proofs.ChunkLemmas.{Run_deterministic, HexDigits_deterministic, chunk_line, chunk_pieces, chunk_from_pieces}
use Rattle.httparse.proofs.PieceLemmas.{IsDeterministic}
use Rattle.relay_h1.specs.Body.{IsLineOf}

-- the text, whole, is the piece
abbrev Whole : {A : Type 0} → Piece A → List ℕ → Type 0
Whole {A} G text = (a : A) × G a text []

-- a run with nothing behind it has no end
no_run_of_nothing : (test : ℕ → Bool) (a r : List ℕ) → ¬ (Run test a [] r)
no_run_of_nothing test [] [] run = run.2
no_run_of_nothing test [] (b ∷ r) run = let is = run.1 in cc
no_run_of_nothing test (b ∷ a) r run = let is = run.1 in cc

-- a run that begins with a byte which passes goes on behind it
run_behind : (test : ℕ → Bool) (b : ℕ) (text a r : List ℕ) → test b ≡ true
    → Run test a (b ∷ text) r → Begins (Run test) text
run_behind test b text [] [] pass run = absurd run.2
run_behind test b text [] (x ∷ r) pass run =
    let is = run.1 in
    let stops = run.2 in
    absurd (cc)
run_behind test b text (x ∷ a) r pass run =
    let is = run.1 in
    (a, r, (All-tail (λ v. test v ≡ true) x a run.0, cc, run.2))

-- whether a text begins with a run that ends
tell_run : (test : ℕ → Bool) (text : List ℕ)
    → Begins (Run test) text ⊎ (¬ (Begins (Run test) text))
tell_run test [] = inr (λ found. no_run_of_nothing test found.0 found.1 found.2)
tell_run test (b ∷ text) =
    elim (cases_Bool (test b)) [
      | inl pass ↦
          elim (tell_run test text) [
            | inl found ↦
                let all = All-cons (λ v. test v ≡ true) b found.0 pass found.2.0 in
                inl (b ∷ found.0, found.1, (all, ap (λ t. b ∷ t) found.2.1, found.2.2))
            | inr none ↦
                inr (λ found. none (run_behind test b text found.0 found.1 pass found.2))
          ]
      | inr fails ↦ inl ([], b ∷ text, (All-nil (λ v. test v ≡ true), refl, fails))
    ]

-- one piece and then another, to the end of the text
tell_then : {A B : Type 0} (G : Piece A) (H : Piece B) → IsDeterministic G → (text : List ℕ)
    → Begins G text ⊎ (¬ (Begins G text))
    → ((middle : List ℕ) → Whole H middle ⊎ (¬ (Whole H middle)))
    → Whole (Then G H) text ⊎ (¬ (Whole (Then G H) text))
tell_then G H det text first second =
    elim first [
      | inr none ↦ inr (λ found. none (found.0.0, found.1.0, found.1.1))
      | inl begins ↦
          elim (second begins.1) [
            | inl rest ↦ inl ((begins.0, rest.0), (begins.1, begins.2, rest.1))
            | inr none ↦
                inr
                (λ found.
                let same =
                det.unique found.0.0 begins.0 text found.1.0 begins.1 found.1.1 begins.2 in
                none (found.0.1, subst (λ (m : List ℕ). H found.0.1 m []) same.1 found.1.2))
          ]
    ]

-- whether a text begins with the digits of a size
tell_digits : (text : List ℕ) → Begins HexDigits text ⊎ (¬ (Begins HexDigits text))
tell_digits text =
    elim (tell_run is_ascii_hexdigit text) [
      | inr none ↦ inr (λ found. none (found.0, found.1, found.2.0))
      | inl run ↦
          elim (cases_lt 0 (length run.0)) [
            | inr empty ↦
                inr
                (λ found.
                let same =
                (Run_deterministic is_ascii_hexdigit).unique found.0 run.0 text found.1 run.1
                found.2.0 run.2 in
                omega (arith, found.2.1, ap (λ (x : List ℕ). length x) same.0, empty))
            | inl some ↦
                elim (cases_lt 16 (length run.0)) [
                  | inl many ↦
                      inr
                      (λ found.
                      let same =
                      (Run_deterministic is_ascii_hexdigit).unique found.0 run.0 text found.1 run.1
                      found.2.0 run.2 in
                      omega (arith, found.2.2, ap (λ (x : List ℕ). length x) same.0, many))
                  | inr few ↦ inl (run.0, run.1, (run.2, some, few))
                ]
          ]
    ]

-- whether two texts are the same
tell_same : (a b : List ℕ) → (a ≡ b) ⊎ (¬ (a ≡ b))
tell_same a b =
    elim (cases_Bool (bytes_eq a b)) [
      | inl same ↦ inl ((bytes_eq-Decides a b).0 same)
      | inr other ↦ inr (not_from_Decides (bytes_eq a b) (bytes_eq-Decides a b) other)
    ]

-- a semicolon is no CR
no_semicolon : ◌≡◌ {A = ℕ} 59 13 → ⊥
no_semicolon is = omega arith

-- nothing is no line end
no_extension : (e : Option (List ℕ)) → ¬ (Extension e [] [])
no_extension None is = let e = is.1 in cc
no_extension (Some x) is = let e = is.1 in cc

-- a text that begins with another byte than a semicolon is CR LF alone
plain_end : (b : ℕ) (text : List ℕ) (e : Option (List ℕ)) → b ≢ 59 → Extension e (b ∷ text) []
    → b ∷ text ≡ print_end crlf
plain_end b text None other is = is.1
plain_end b text (Some x) other is = let e = is.1 in absurd (other (cc))

-- a text behind a semicolon that is an extension is a run and CR LF
extension_run : (text : List ℕ) (e : Option (List ℕ)) → Extension e (59 ∷ text) []
    → (x : List ℕ) × Run is_extension_byte x text (print_end crlf)
extension_run text None is = let e = is.1 in absurd (no_semicolon (cc))
extension_run text (Some x) is =
    let e = is.1 in
    (x, (is.0, cc (append-nil (print_end crlf)), refl))

-- whether a text behind a semicolon is an extension and CR LF
tell_behind_semicolon : (text : List ℕ)
    → Whole Extension (59 ∷ text) ⊎ (¬ (Whole Extension (59 ∷ text)))
tell_behind_semicolon text =
    elim (tell_run is_extension_byte text) [
      | inr none ↦
          inr
          (λ found.
          let other = extension_run text found.0 found.1 in
          none (other.0, print_end crlf, other.1))
      | inl run ↦
          elim (tell_same run.1 (print_end crlf)) [
            | inl same ↦
                let is : text ≡ run.0 ++ print_end crlf =
                run.2.1 ∙ ap (λ x. run.0 ++ x) same in
                inl (Some run.0, (run.2.0, ap (λ x. 59 ∷ x) is))
            | inr wrong ↦
                inr
                (λ found.
                let other = extension_run text found.0 found.1 in
                wrong
                ((Run_deterministic is_extension_byte).unique run.0 other.0 text run.1
                (print_end crlf) run.2 other.1).1)
          ]
    ]

-- whether a text is an extension and CR LF
tell_extension : (text : List ℕ) → Whole Extension text ⊎ (¬ (Whole Extension text))
tell_extension [] = inr (λ found. no_extension found.0 found.1)
tell_extension (b ∷ text) =
    elim (cases_eq b 59) [
      | inl semicolon ↦
          subst (λ (c : ℕ). Whole Extension (c ∷ text) ⊎ (¬ (Whole Extension (c ∷ text))))
          (sym semicolon) (tell_behind_semicolon text)
      | inr other ↦
          elim (tell_same (b ∷ text) (print_end crlf)) [
            | inl plain ↦ inl (None, (tt, plain))
            | inr no_end ↦ inr (λ found. no_end (plain_end b text found.0 other found.1))
          ]
    ]

-- whether a text is a chunk line
pub tell_line : (text : List ℕ)
    → ((size : ℕ) × IsLineOf text size) ⊎ ((size : ℕ) → ¬ (IsLineOf text size))
tell_line text =
    elim (tell_then HexDigits (Then (Run is_ows) Extension) HexDigits_deterministic text
    (tell_digits text)
    (λ middle. tell_then (Run is_ows) Extension (Run_deterministic is_ows) middle
    (tell_run is_ows middle) tell_extension)) [
      | inl found ↦
          inl (
            chunk_size (chunk_line found.0),
            record {
              line = chunk_line found.0;
              reads = chunk_from_pieces text found.0 [] found.1;
              sized = refl;
            },
          )
      | inr none ↦
          inr (λ size line. none (_, chunk_pieces text line.line [] line.reads))
    ]
