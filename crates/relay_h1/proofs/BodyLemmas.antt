-- What a text says of a body: one thing, and always something.
use Rattle.std.proofs.Common.{◌≡◌, ℕ, zero, suc, ◌+◌, ◌<◌, ◌≤◌, List, [], length, take, drop, refl, sym, ◌∙◌, ap, subst, arith, Option, Some, None, inl, inr}
use Rattle.std.specs.Prelude.{◌⊎◌}
use Rattle.std.proofs.lemmas.Bool.{cases_Bool, cases_lt}
use Rattle.std.proofs.lemmas.List.{length-drop}
use Rattle.httparse.specs.Grammar.{chunk_size}
use Rattle.httparse.proofs.ChunkLemmas.{chunk_line_unique}
use Rattle.relay_h1.specs.declared.framing.Framing.{Framing}
use Rattle.relay_h1.specs.declared.framing.Framing.TheVariants as framing
use Rattle.relay_h1.specs.Body.{BodyText, BodyMark, open_text, ended_text, broken_text, behind, line_end, most_line, most_trailer, IsLineOf, StartsWithLine, IsLineOpen, IsLineBroken, begins_with_crlf, trailer_end, IsTrailerOpen, IsTrailerTooLong, EndsTrailer, ChunkedPlace, at_line, in_chunk, behind_chunk, in_trailer, Chunked, Body}
use Rattle.relay_h1.specs.Body as body
use Rattle.relay_h1.proofs.ChunkLineLemmas.{tell_line}
use Rattle.relay_h1.proofs.CrlfLemmas.{crlf_is_long, line_end-within}

-- a text is a line of one size
pub IsLineOf-unique : (text : List ℕ) (a b : ℕ) → IsLineOf text a → IsLineOf text b → a ≡ b
IsLineOf-unique text a b x y =
    let same = chunk_line_unique text x.line y.line [] [] x.reads y.reads in
    x.sized ∙ ap chunk_size same.0 ∙ sym y.sized

-- the line at the front has one length and one size
StartsWithLine-unique : (bytes : List ℕ) (n m a b : ℕ) → StartsWithLine bytes n a
    → StartsWithLine bytes m b → (n ≡ m) × (a ≡ b)
StartsWithLine-unique bytes n m a b x y =
    let ends_x = x.ends in
    let ends_y = y.ends in
    let same : n ≡ m = cc in
    let there = subst (λ k. IsLineOf (take k bytes) a) same x.is_line in
    (same, IsLineOf-unique (take m bytes) a b there y.is_line)

-- a line that has ended is not open
line_or_open : (bytes : List ℕ) (len size : ℕ) → StartsWithLine bytes len size
    → ¬ (IsLineOpen bytes)
line_or_open bytes len size starts still =
    let ends = starts.ends in
    let none = still.no_end in
    cc

-- a line that is broken is not open
broken_or_open : (bytes : List ℕ) → IsLineBroken bytes → ¬ (IsLineOpen bytes)
broken_or_open bytes (body.IsLineBroken.too_long none long) still =
    omega (arith, long, still.may_end)
broken_or_open bytes (body.IsLineBroken.no_line len ends wrong) still =
    let none = still.no_end in
    cc

-- a chunk line is not broken
line_or_broken : (bytes : List ℕ) (len size : ℕ) → StartsWithLine bytes len size
    → ¬ (IsLineBroken bytes)
line_or_broken bytes len size starts (body.IsLineBroken.too_long none long) =
    let ends = starts.ends in
    cc
line_or_broken bytes len size starts (body.IsLineBroken.no_line other ends wrong) =
    let ends_here = starts.ends in
    let same : len ≡ other = cc in
    wrong size (subst (λ k. IsLineOf (take k bytes) size) same starts.is_line)

-- a trailer section that is too long is not open
long_or_open : (bytes : List ℕ) → IsTrailerTooLong bytes → ¬ (IsTrailerOpen bytes)
long_or_open bytes (body.IsTrailerTooLong.never_ends none long) still =
    omega (arith, long, still.may_end)
long_or_open bytes (body.IsTrailerTooLong.ends_late len ends late) still =
    let none = still.no_end in
    cc

-- a trailer section that has ended is not too long
ended_or_long : (bytes : List ℕ) (len : ℕ) → EndsTrailer bytes len → ¬ (IsTrailerTooLong bytes)
ended_or_long bytes len ends (body.IsTrailerTooLong.never_ends none long) =
    let here = ends.ends in
    cc
ended_or_long bytes len ends (body.IsTrailerTooLong.ends_late other there late) =
    let here = ends.ends in
    let same : len ≡ other = cc in
    omega (arith, ends.short, same, late)

-- a trailer section that has ended is not open
ended_or_open : (bytes : List ℕ) (len : ℕ) → EndsTrailer bytes len → ¬ (IsTrailerOpen bytes)
ended_or_open bytes len ends still =
    let here = ends.ends in
    let none = still.no_end in
    cc

-- one length of a trailer section
EndsTrailer-unique : (bytes : List ℕ) (n m : ℕ) → EndsTrailer bytes n → EndsTrailer bytes m → n ≡ m
EndsTrailer-unique bytes n m x y =
    let ends_x = x.ends in
    let ends_y = y.ends in
    cc

-- what bytes say from a place on is one text
pub Chunked-unique : (place : ChunkedPlace) (bytes : List ℕ) (a b : BodyText)
    → Chunked place bytes a → Chunked place bytes b → a ≡ b
Chunked-unique _ _ _ _ (body.Chunked.line_open bytes x) (body.Chunked.line_open _ y) = refl
Chunked-unique _ _ _ _ (body.Chunked.line_open bytes x) (body.Chunked.line_broken _ y) =
    absurd (broken_or_open bytes y x)
Chunked-unique _ _ _ _ (body.Chunked.line_open bytes x) (body.Chunked.chunk _ len size _ y _ _) =
    absurd (line_or_open bytes len size y x)
Chunked-unique _ _ _ _ (body.Chunked.line_open bytes x) (body.Chunked.last_chunk _ len _ y _) =
    absurd (line_or_open bytes len 0 y x)
Chunked-unique _ _ _ _ (body.Chunked.line_broken bytes x) (body.Chunked.line_open _ y) =
    absurd (broken_or_open bytes x y)
Chunked-unique _ _ _ _ (body.Chunked.line_broken bytes x) (body.Chunked.line_broken _ y) = refl
Chunked-unique _ _ _ _ (body.Chunked.line_broken bytes x) (body.Chunked.chunk _ len size _ y _ _) =
    absurd (line_or_broken bytes len size y x)
Chunked-unique _ _ _ _ (body.Chunked.line_broken bytes x) (body.Chunked.last_chunk _ len _ y _) =
    absurd (line_or_broken bytes len 0 y x)
Chunked-unique _ _ _ _ (body.Chunked.chunk bytes len size _ x some_x c)
    (body.Chunked.line_open _ y) =
    absurd (line_or_open bytes len size x y)
Chunked-unique _ _ _ _ (body.Chunked.chunk bytes len size _ x some_x c)
    (body.Chunked.line_broken _ y) =
    absurd (line_or_broken bytes len size x y)
Chunked-unique _ _ _ _ (body.Chunked.chunk bytes len size s x some_x c)
    (body.Chunked.chunk _ other given t y some_y d) =
    let same = StartsWithLine-unique bytes len other size given x y in
    let there : Chunked (body.ChunkedPlace.in_chunk size) (drop len bytes) t =
    rw (same.0, same.1) d in
    let texts = Chunked-unique (body.ChunkedPlace.in_chunk size) (drop len bytes) s t c there in
    rw (same.0, texts) refl
Chunked-unique _ _ _ _ (body.Chunked.chunk bytes len size _ x some_x c)
    (body.Chunked.last_chunk _ other _ y _) =
    let same = StartsWithLine-unique bytes len other size 0 x y in
    absurd (omega (arith, same.1, some_x))
Chunked-unique _ _ _ _ (body.Chunked.last_chunk bytes len _ x c) (body.Chunked.line_open _ y) =
    absurd (line_or_open bytes len 0 x y)
Chunked-unique _ _ _ _ (body.Chunked.last_chunk bytes len _ x c) (body.Chunked.line_broken _ y) =
    absurd (line_or_broken bytes len 0 x y)
Chunked-unique _ _ _ _ (body.Chunked.last_chunk bytes len _ x c)
    (body.Chunked.chunk _ other size _ y some_y _) =
    let same = StartsWithLine-unique bytes len other 0 size x y in
    absurd (omega (arith, same.1, some_y))
Chunked-unique _ _ _ _ (body.Chunked.last_chunk bytes len s x c)
    (body.Chunked.last_chunk _ other t y d) =
    let same = StartsWithLine-unique bytes len other 0 0 x y in
    let there : Chunked body.ChunkedPlace.in_trailer (drop len bytes) t = rw same.0 d in
    let texts = Chunked-unique body.ChunkedPlace.in_trailer (drop len bytes) s t c there in
    rw (same.0, texts) refl
Chunked-unique _ _ _ _ (body.Chunked.chunk_open bytes left x) (body.Chunked.chunk_open _ _ y) =
    refl
Chunked-unique _ _ _ _ (body.Chunked.chunk_open bytes left x)
    (body.Chunked.chunk_whole _ _ t y d) =
    absurd (omega arith)
Chunked-unique _ _ _ _ (body.Chunked.chunk_whole bytes left s x c)
    (body.Chunked.chunk_open _ _ y) =
    absurd (omega arith)
Chunked-unique _ _ _ _ (body.Chunked.chunk_whole bytes left s x c)
    (body.Chunked.chunk_whole _ _ t y d) =
    ap (behind left (take left bytes))
    (Chunked-unique body.ChunkedPlace.behind_chunk (drop left bytes) s t c d)
Chunked-unique _ _ _ _ (body.Chunked.crlf_open bytes x) (body.Chunked.crlf_open _ y) = refl
Chunked-unique _ _ _ _ (body.Chunked.crlf_open bytes x) (body.Chunked.crlf_broken _ y none) =
    absurd (omega arith)
Chunked-unique _ _ _ _ (body.Chunked.crlf_open bytes x) (body.Chunked.crlf_whole _ t y d) =
    absurd (omega (arith, crlf_is_long bytes y))
Chunked-unique _ _ _ _ (body.Chunked.crlf_broken bytes x none) (body.Chunked.crlf_open _ y) =
    absurd (omega arith)
Chunked-unique _ _ _ _ (body.Chunked.crlf_broken bytes x none) (body.Chunked.crlf_broken _ y _) =
    refl
Chunked-unique _ _ _ _ (body.Chunked.crlf_broken bytes x none) (body.Chunked.crlf_whole _ t y d) =
    absurd (cc)
Chunked-unique _ _ _ _ (body.Chunked.crlf_whole bytes s x c) (body.Chunked.crlf_open _ y) =
    absurd (omega (arith, crlf_is_long bytes x))
Chunked-unique _ _ _ _ (body.Chunked.crlf_whole bytes s x c) (body.Chunked.crlf_broken _ y none) =
    absurd (cc)
Chunked-unique _ _ _ _ (body.Chunked.crlf_whole bytes s x c) (body.Chunked.crlf_whole _ t y d) =
    ap (behind 2 []) (Chunked-unique body.ChunkedPlace.at_line (drop 2 bytes) s t c d)
Chunked-unique _ _ _ _ (body.Chunked.trailer_open bytes x) (body.Chunked.trailer_open _ y) = refl
Chunked-unique _ _ _ _ (body.Chunked.trailer_open bytes x) (body.Chunked.trailer_broken _ y) =
    absurd (long_or_open bytes y x)
Chunked-unique _ _ _ _ (body.Chunked.trailer_open bytes x) (body.Chunked.trailer_ended _ len y) =
    absurd (ended_or_open bytes len y x)
Chunked-unique _ _ _ _ (body.Chunked.trailer_broken bytes x) (body.Chunked.trailer_open _ y) =
    absurd (long_or_open bytes x y)
Chunked-unique _ _ _ _ (body.Chunked.trailer_broken bytes x) (body.Chunked.trailer_broken _ y) =
    refl
Chunked-unique _ _ _ _ (body.Chunked.trailer_broken bytes x) (body.Chunked.trailer_ended _ len y) =
    absurd (ended_or_long bytes len y x)
Chunked-unique _ _ _ _ (body.Chunked.trailer_ended bytes len x) (body.Chunked.trailer_open _ y) =
    absurd (ended_or_open bytes len x y)
Chunked-unique _ _ _ _ (body.Chunked.trailer_ended bytes len x)
    (body.Chunked.trailer_broken _ y) =
    absurd (ended_or_long bytes len x y)
Chunked-unique _ _ _ _ (body.Chunked.trailer_ended bytes len x)
    (body.Chunked.trailer_ended _ other y) =
    ap (ended_text []) (EndsTrailer-unique bytes len other x y)

-- a body is one text
pub Body-unique : (framing : Framing) (bytes : List ℕ) (a b : BodyText) → Body framing bytes a
    → Body framing bytes b → a ≡ b
Body-unique framing.Empty bytes a b x y = x ∙ sym y
Body-unique (framing.Length n) bytes a b x y = x ∙ sym y
Body-unique framing.Chunked bytes a b x y =
    Chunked-unique body.ChunkedPlace.at_line bytes a b x y
Body-unique framing.UntilClose bytes a b x y = x ∙ sym y
Body-unique framing.Tunnel bytes a b x y = x ∙ sym y

-- ---- every text says something

-- the line at the front is open, broken, or a chunk line
data LineSays (bytes : List ℕ) : Type 0 where
  says_nothing : IsLineOpen bytes → LineSays bytes
  says_wrong : IsLineBroken bytes → LineSays bytes
  says_size : (len size : ℕ) → StartsWithLine bytes len size → LineSays bytes

-- a place stands somewhere or nowhere
some_place : (place : Option ℕ) → (place ≡ None) ⊎ ((len : ℕ) × (place ≡ Some len))
some_place None = inl refl
some_place (Some len) = inr (len, refl)

line_says : (bytes : List ℕ) → LineSays bytes
line_says bytes =
    elim (some_place (line_end bytes)) [
      | inl none ↦
          elim (cases_lt (length bytes) most_line) [
            | inl few ↦ says_nothing (record { no_end = none; may_end = few })
            | inr many ↦ says_wrong (body.IsLineBroken.too_long none (omega arith))
          ]
      | inr end ↦
          elim (tell_line (take end.0 bytes)) [
            | inl line ↦
                says_size end.0 line.0 (record { ends = end.1; is_line = line.1 })
            | inr wrong ↦ says_wrong (body.IsLineBroken.no_line end.0 end.1 wrong)
          ]
    ]

-- a text that the bytes say from a place on
abbrev Said : ChunkedPlace → List ℕ → Type 0
Said place bytes = (text : BodyText) × Chunked place bytes text

trailer_said : (bytes : List ℕ) → Said in_trailer bytes
trailer_said bytes =
    elim (some_place (trailer_end bytes)) [
      | inl none ↦
          elim (cases_lt (length bytes) (most_trailer + 2)) [
            | inl few ↦
                (_, body.Chunked.trailer_open bytes (record { no_end = none; may_end = few }))
            | inr many ↦ (
              _,
              body.Chunked.trailer_broken bytes
                  (body.IsTrailerTooLong.never_ends none (omega arith)),
            )
          ]
      | inr end ↦
          elim (cases_lt (most_trailer + 2) end.0) [
            | inl late ↦ (
              _,
              body.Chunked.trailer_broken bytes
                  (body.IsTrailerTooLong.ends_late end.0 end.1 late),
            )
            | inr soon ↦ (
              _,
              body.Chunked.trailer_ended bytes end.0
                  (record { ends = end.1; short = omega arith }),
            )
          ]
    ]

-- behind a chunk, where all that is shorter is said before a line
crlf_said : (bytes : List ℕ)
    → ((rest : List ℕ) → length rest ≤ length bytes → Said at_line rest) → Said behind_chunk bytes
crlf_said bytes lines =
    elim (cases_lt (length bytes) 2) [
      | inl few ↦ (_, body.Chunked.crlf_open bytes few)
      | inr enough ↦
          elim (cases_Bool (begins_with_crlf bytes)) [
            | inl begins ↦
                let rest = lines (drop 2 bytes) (omega (arith, length-drop 2 bytes)) in
                (_, body.Chunked.crlf_whole bytes rest.0 begins rest.1)
            | inr other ↦ (_, body.Chunked.crlf_broken bytes (omega arith) other)
          ]
    ]

-- inside a chunk
chunk_said : (bytes : List ℕ) (left : ℕ)
    → ((rest : List ℕ) → length rest ≤ length bytes → Said at_line rest)
    → Said (in_chunk left) bytes
chunk_said bytes left lines =
    elim (cases_lt (length bytes) left) [
      | inl few ↦ (_, body.Chunked.chunk_open bytes left few)
      | inr enough ↦
          let size = length-drop left bytes in
          let rest = crlf_said (drop left bytes) (λ r less. lines r (omega arith)) in
          (_, body.Chunked.chunk_whole bytes left rest.0 (omega arith) rest.1)
    ]

-- before a line, where all that is shorter is said there
line_said : (bytes : List ℕ) → LineSays bytes
    → ((rest : List ℕ) → length rest < length bytes → Said at_line rest) → Said at_line bytes
line_said bytes (says_nothing still) lines = (_, body.Chunked.line_open bytes still)
line_said bytes (says_wrong wrong) lines = (_, body.Chunked.line_broken bytes wrong)
line_said bytes (says_size len zero starts) lines =
    let rest = trailer_said (drop len bytes) in
    (_, body.Chunked.last_chunk bytes len rest.0 starts rest.1)
line_said bytes (says_size len (suc size) starts) lines =
    let within = line_end-within bytes len starts.ends in
    let gone = length-drop len bytes in
    let rest = chunk_said (drop len bytes) (suc size) (λ r less. lines r (omega arith)) in
    (_, body.Chunked.chunk bytes len (suc size) rest.0 starts (omega arith) rest.1)

lines_said : (n : ℕ) (bytes : List ℕ) → length bytes < n → Said at_line bytes
lines_said zero bytes few = absurd (omega arith)
lines_said (suc n) bytes few =
    line_said bytes (line_says bytes) (λ rest less. lines_said n rest (omega arith))

-- bytes say something from every place on
pub Chunked-total : (place : ChunkedPlace) (bytes : List ℕ)
    → (text : BodyText) × Chunked place bytes text
Chunked-total body.ChunkedPlace.at_line bytes =
    lines_said (length bytes + 1) bytes (omega arith)
Chunked-total (body.ChunkedPlace.in_chunk left) bytes =
    chunk_said bytes left (λ rest less. lines_said (length rest + 1) rest (omega arith))
Chunked-total body.ChunkedPlace.behind_chunk bytes =
    crlf_said bytes (λ rest less. lines_said (length rest + 1) rest (omega arith))
Chunked-total body.ChunkedPlace.in_trailer bytes = trailer_said bytes

-- every text says something of its body
pub Body-total : (framing : Framing) (bytes : List ℕ) → (text : BodyText) × Body framing bytes text
Body-total framing.Empty bytes = (_, refl)
Body-total (framing.Length n) bytes = (_, refl)
Body-total framing.Chunked bytes = Chunked-total body.ChunkedPlace.at_line bytes
Body-total framing.UntilClose bytes = (_, refl)
Body-total framing.Tunnel bytes = (_, refl)
