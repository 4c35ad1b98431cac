-- What stays of a body when more bytes come: the text once it has ended or is broken, and the bytes
-- that have come in any case.
use Rattle.std.proofs.Common.{◌≡◌, ℕ, ◌+◌, ◌-◌, ◌<◌, ◌≤◌, true, false, List, [], ◌++◌, length, take, drop, refl, sym, ◌∙◌, ap, subst, arith, Option, Some, None, inl, inr, append_assoc, append-nil, nat_le}
use Rattle.std.specs.Prelude.{◌⊎◌, ⊤}
use Rattle.std.proofs.lemmas.Bool.{cases_Bool, cases_lt}
use Rattle.std.proofs.lemmas.Bool.Decides.{nat_tests}
use Rattle.std.proofs.lemmas.List.{length-append, length-drop, take-append-drop, take-append-le, drop-append-le, take_all}
use Rattle.bytes.proofs.Ranges.{take-append_past}
use Rattle.relay_h1.specs.declared.framing.Framing.{Framing}
use Rattle.relay_h1.specs.declared.framing.Framing.TheVariants as framing
use Rattle.relay_h1.specs.Body.{BodyText, BodyMark, still_open, ended, broken, open_text, ended_text, behind, counted_from, most_line, most_trailer, line_end, IsLineOf, StartsWithLine, IsLineBroken, begins_with_crlf, trailer_end, IsTrailerTooLong, EndsTrailer, ChunkedPlace, at_line, in_chunk, behind_chunk, in_trailer, Chunked, of_length, Body}
use Rattle.relay_h1.specs.Body as body
use Rattle.relay_h1.proofs.HeadEndLemmas.{head_end-later}
use Rattle.relay_h1.proofs.CrlfLemmas.{crlf_is_long, crlf-append, line_end-within, line_end-front, trailer_end-within, trailer_end-front}
use Rattle.relay_h1.proofs.BodyLemmas.{Chunked-unique, Chunked-total}

-- ---- lines and trailer sections

-- bytes with more behind them are their first n bytes, the other ones, and the more
front_and_more : (bytes more : List ℕ) (n : ℕ)
    → take n bytes ++ (drop n bytes ++ more) ≡ bytes ++ more
front_and_more bytes more n =
    sym (append_assoc (take n bytes) (drop n bytes) more)
    ∙ ap (λ x. x ++ more) (take-append-drop n bytes)

-- the bytes that follow do not move the end of a line
line_end-append : (bytes more : List ℕ) (len : ℕ) → line_end bytes ≡ Some len
    → line_end (bytes ++ more) ≡ Some len
line_end-append bytes more len ends =
    subst (λ x. line_end x ≡ Some len) (front_and_more bytes more len)
    (line_end-front bytes (drop len bytes ++ more) len ends)

-- the bytes that follow do not move the end of a trailer section
trailer_end-append : (bytes more : List ℕ) (len : ℕ) → trailer_end bytes ≡ Some len
    → trailer_end (bytes ++ more) ≡ Some len
trailer_end-append bytes more len ends =
    subst (λ x. trailer_end x ≡ Some len) (front_and_more bytes more len)
    (trailer_end-front bytes (drop len bytes ++ more) len ends)

-- a chunk line at the front stays one
StartsWithLine-append : (bytes more : List ℕ) (len size : ℕ) → StartsWithLine bytes len size
    → StartsWithLine (bytes ++ more) len size
StartsWithLine-append bytes more len size starts =
    let within = line_end-within bytes len starts.ends in
    record {
      ends = line_end-append bytes more len starts.ends;
      is_line = rw (take-append-le len bytes more within.1) starts.is_line;
    }

-- a broken line stays broken
IsLineBroken-append : (bytes more : List ℕ) → IsLineBroken bytes → IsLineBroken (bytes ++ more)
IsLineBroken-append bytes more (body.IsLineBroken.too_long none long) =
    let same = take-append-le most_line bytes more long in
    body.IsLineBroken.too_long (rw same none) (omega (arith, long, length-append bytes more))
IsLineBroken-append bytes more (body.IsLineBroken.no_line len ends wrong) =
    let within = line_end-within bytes len ends in
    body.IsLineBroken.no_line len (line_end-append bytes more len ends)
    (rw (take-append-le len bytes more within.1) wrong)

-- a trailer section that has ended stays as it is
EndsTrailer-append : (bytes more : List ℕ) (len : ℕ) → EndsTrailer bytes len
    → EndsTrailer (bytes ++ more) len
EndsTrailer-append bytes more len ends =
    record { ends = trailer_end-append bytes more len ends.ends; short = ends.short }

-- where no trailer section ends yet, one that ends later ends behind these bytes
trailer_end-later : (bytes more : List ℕ) (len : ℕ) → 2 ≤ length bytes → trailer_end bytes ≡ None
    → trailer_end (bytes ++ more) ≡ Some len
    → length bytes < len
trailer_end-later bytes more len enough none ends =
    elim (cases_Bool (begins_with_crlf bytes)) [
      | inl here ↦ let two : trailer_end bytes ≡ Some 2 = rw here refl in cc
      | inr none_here ↦
          let same = crlf-append bytes more enough in
          head_end-later bytes more len (rw none_here at none) (rw (same ∙ none_here) at ends)
    ]

-- a place stands somewhere or nowhere
some_place : (place : Option ℕ) → (place ≡ None) ⊎ ((len : ℕ) × (place ≡ Some len))
some_place None = inl refl
some_place (Some len) = inr (len, refl)

-- a trailer section that is too long stays too long
IsTrailerTooLong-append : (bytes more : List ℕ) → IsTrailerTooLong bytes
    → IsTrailerTooLong (bytes ++ more)
IsTrailerTooLong-append bytes more (body.IsTrailerTooLong.never_ends none long) =
    elim (some_place (trailer_end (bytes ++ more))) [
      | inl still_none ↦ body.IsTrailerTooLong.never_ends still_none
          (omega (arith, long, length-append bytes more))
      | inr end ↦
          let later = trailer_end-later bytes more end.0 (omega (arith, long)) none end.1 in
          body.IsTrailerTooLong.ends_late end.0 end.1 (omega (arith, long, later))
    ]
IsTrailerTooLong-append bytes more (body.IsTrailerTooLong.ends_late len ends late) =
    body.IsTrailerTooLong.ends_late len (trailer_end-append bytes more len ends) late

-- ---- the steps through a chunked body, with more bytes behind

-- over the line of a chunk
over_line : (bytes more : List ℕ) (len size : ℕ) (text : BodyText) → StartsWithLine bytes len size
    → 0 < size → Chunked (in_chunk size) (drop len bytes ++ more) text
    → Chunked at_line (bytes ++ more) (behind len [] text)
over_line bytes more len size text starts some rest =
    let within = line_end-within bytes len starts.ends in
    body.Chunked.chunk (bytes ++ more) len size text
    (StartsWithLine-append bytes more len size starts) some
    (rw (drop-append-le len bytes more within.1) rest)

-- over the line of the last chunk
over_last : (bytes more : List ℕ) (len : ℕ) (text : BodyText) → StartsWithLine bytes len 0
    → Chunked in_trailer (drop len bytes ++ more) text
    → Chunked at_line (bytes ++ more) (behind len [] text)
over_last bytes more len text starts rest =
    let within = line_end-within bytes len starts.ends in
    body.Chunked.last_chunk (bytes ++ more) len text (StartsWithLine-append bytes more len 0 starts)
    (rw (drop-append-le len bytes more within.1) rest)

-- over the bytes of a chunk
over_chunk : (bytes more : List ℕ) (left : ℕ) (text : BodyText) → left ≤ length bytes
    → Chunked behind_chunk (drop left bytes ++ more) text
    → Chunked (in_chunk left) (bytes ++ more) (behind left (take left bytes) text)
over_chunk bytes more left text inside rest =
    let there : Chunked behind_chunk (drop left (bytes ++ more)) text =
    rw (drop-append-le left bytes more inside) rest in
    rw (← take-append-le left bytes more inside)
    (body.Chunked.chunk_whole (bytes ++ more) left text
    (omega (arith, length-append bytes more)) there)

-- over the CR LF behind a chunk
over_crlf : (bytes more : List ℕ) (text : BodyText) → begins_with_crlf bytes ≡ true
    → Chunked at_line (drop 2 bytes ++ more) text
    → Chunked behind_chunk (bytes ++ more) (behind 2 [] text)
over_crlf bytes more text begins rest =
    let enough = crlf_is_long bytes begins in
    body.Chunked.crlf_whole (bytes ++ more) text (crlf-append bytes more enough ∙ begins)
    (rw (drop-append-le 2 bytes more enough) rest)

-- ---- what has ended or is broken stays

-- the mark of a text that has ended, or is broken
abbrev IsFinal : BodyMark → Type 0
IsFinal still_open = ⊥
IsFinal (ended n) = ⊤
IsFinal broken = ⊤

-- whether a mark is final does not depend on where it is counted from
IsFinal-counted : (n : ℕ) (mark : BodyMark) → IsFinal (counted_from n mark) → IsFinal mark
IsFinal-counted n still_open final = final
IsFinal-counted n (ended k) final = tt
IsFinal-counted n broken final = tt

-- what a chunked body says from a place on stays, once it has ended or is broken
Chunked-append : (place : ChunkedPlace) (bytes more : List ℕ) (text : BodyText)
    → IsFinal text.mark → Chunked place bytes text → Chunked place (bytes ++ more) text
Chunked-append _ _ more _ final (body.Chunked.line_open bytes still) = absurd final
Chunked-append _ _ more _ final (body.Chunked.line_broken bytes wrong) =
    body.Chunked.line_broken (bytes ++ more) (IsLineBroken-append bytes more wrong)
Chunked-append _ _ more _ final (body.Chunked.chunk bytes len size text starts some rest) =
    over_line bytes more len size text starts some
    (Chunked-append (in_chunk size) (drop len bytes) more text
    (IsFinal-counted len text.mark final) rest)
Chunked-append _ _ more _ final (body.Chunked.last_chunk bytes len text starts rest) =
    over_last bytes more len text starts
    (Chunked-append in_trailer (drop len bytes) more text
    (IsFinal-counted len text.mark final) rest)
Chunked-append _ _ more _ final (body.Chunked.chunk_open bytes left few) = absurd final
Chunked-append _ _ more _ final (body.Chunked.chunk_whole bytes left text inside rest) =
    over_chunk bytes more left text inside
    (Chunked-append behind_chunk (drop left bytes) more text
    (IsFinal-counted left text.mark final) rest)
Chunked-append _ _ more _ final (body.Chunked.crlf_open bytes few) = absurd final
Chunked-append _ _ more _ final (body.Chunked.crlf_broken bytes enough none) =
    body.Chunked.crlf_broken (bytes ++ more) (omega (arith, enough, length-append bytes more))
    (crlf-append bytes more enough ∙ none)
Chunked-append _ _ more _ final (body.Chunked.crlf_whole bytes text begins rest) =
    over_crlf bytes more text begins
    (Chunked-append at_line (drop 2 bytes) more text (IsFinal-counted 2 text.mark final) rest)
Chunked-append _ _ more _ final (body.Chunked.trailer_open bytes still) = absurd final
Chunked-append _ _ more _ final (body.Chunked.trailer_broken bytes long) =
    body.Chunked.trailer_broken (bytes ++ more) (IsTrailerTooLong-append bytes more long)
Chunked-append _ _ more _ final (body.Chunked.trailer_ended bytes len ends) =
    body.Chunked.trailer_ended (bytes ++ more) len (EndsTrailer-append bytes more len ends)

-- a body with a length that is not there yet is open
length_open : (n : ℕ) (bytes : List ℕ) → length bytes < n
    → (of_length n bytes).mark ≡ still_open
length_open n bytes few =
    let open_here : nat_le n (length bytes) ≡ false = grind (arith, nat_tests) in
    rw open_here refl

-- and one that is there has ended
length_ended : (n : ℕ) (bytes : List ℕ) → n ≤ length bytes
    → of_length n bytes ≡ ended_text (take n bytes) n
length_ended n bytes enough =
    let whole : nat_le n (length bytes) ≡ true = grind (arith, nat_tests) in
    rw whole refl

-- a body with a length stays, once it has ended
of_length-append : (n : ℕ) (bytes more : List ℕ) → IsFinal (of_length n bytes).mark
    → of_length n bytes ≡ of_length n (bytes ++ more)
of_length-append n bytes more final =
    elim (cases_lt (length bytes) n) [
      | inl few ↦ absurd (subst IsFinal (length_open n bytes few) final)
      | inr enough ↦
          length_ended n bytes (omega arith)
          ∙ ap (λ x. ended_text x n) (sym (take-append-le n bytes more (omega arith)))
          ∙ sym (length_ended n (bytes ++ more) (omega (arith, length-append bytes more)))
    ]

-- what a text says of a body stays, once it has ended or is broken
Body-append : (framing : Framing) (bytes more : List ℕ) (text : BodyText)
    → IsFinal text.mark → Body framing bytes text → Body framing (bytes ++ more) text
Body-append framing.Empty bytes more text final says = says
Body-append (framing.Length n) bytes more text final says =
    says ∙ of_length-append n bytes more (subst (λ (t : BodyText). IsFinal t.mark) says final)
Body-append framing.Chunked bytes more text final says =
    Chunked-append at_line bytes more text final says
Body-append framing.UntilClose bytes more text final says =
    absurd (subst (λ (t : BodyText). IsFinal t.mark) says final)
Body-append framing.Tunnel bytes more text final says =
    absurd (subst (λ (t : BodyText). IsFinal t.mark) says final)

-- a body that has ended stays as it is, whatever comes
pub Body-ended-append : (framing : Framing) (bytes more : List ℕ) (body : List ℕ) (n : ℕ)
    → Body framing bytes (ended_text body n) → Body framing (bytes ++ more) (ended_text body n)
Body-ended-append framing bytes more body n says =
    Body-append framing bytes more (ended_text body n) tt says

-- a body that is broken stays broken at the same place, whatever comes
pub Body-broken-append : (framing : Framing) (bytes more body : List ℕ)
    → Body framing bytes (record { bytes = body; mark = broken })
    → Body framing (bytes ++ more) (record { bytes = body; mark = broken })
Body-broken-append framing bytes more body says =
    Body-append framing bytes more (record { bytes = body; mark = broken }) tt says

-- ---- what has come is the front of what comes later

-- the list begins with the part
abbrev HasFront : List ℕ → List ℕ → Type 0
HasFront part whole = (rest : List ℕ) × (part ++ rest ≡ whole)

-- a front behind the same piece
HasFront-behind : (n : ℕ) (piece : List ℕ) (text there later : BodyText)
    → HasFront text.bytes there.bytes → later ≡ behind n piece there
    → HasFront (piece ++ text.bytes) later.bytes
HasFront-behind n piece text there later front is = (
  front.0,
  append_assoc piece text.bytes front.0 ∙ ap (λ x. piece ++ x) front.1
      ∙ sym (ap (λ (t : BodyText). t.bytes) is),
)

-- the bytes of a chunk that has not come whole are the front of what it says later
chunk_front : (bytes more : List ℕ) (left : ℕ) (later : BodyText) → length bytes < left
    → Chunked (in_chunk left) (bytes ++ more) later → HasFront bytes later.bytes
chunk_front bytes more _ _ few (body.Chunked.chunk_open _ left still) = (more, refl)
chunk_front bytes more _ _ few (body.Chunked.chunk_whole _ left text inside rest) =
    let k = left - length bytes in
    let cut = take-append_past bytes more k left (omega arith) in (
      take k more ++ text.bytes,
      sym (append_assoc bytes (take k more) text.bytes) ∙ ap (λ x. x ++ text.bytes) (sym cut),
    )

-- the bytes that a chunked body has said are the front of what it says later
Chunked-front : (place : ChunkedPlace) (bytes more : List ℕ) (text later : BodyText)
    → Chunked place bytes text → Chunked place (bytes ++ more) later
    → HasFront text.bytes later.bytes
Chunked-front _ _ more _ later (body.Chunked.line_open bytes still) says = (later.bytes, refl)
Chunked-front _ _ more _ later (body.Chunked.line_broken bytes wrong) says = (later.bytes, refl)
Chunked-front _ _ more _ later (body.Chunked.chunk bytes len size text starts some rest) says =
    let there = Chunked-total (in_chunk size) (drop len bytes ++ more) in
    let whole = over_line bytes more len size there.0 starts some there.1 in
    HasFront-behind len [] text there.0 later
    (Chunked-front (in_chunk size) (drop len bytes) more text there.0 rest there.1)
    (Chunked-unique at_line (bytes ++ more) later _ says whole)
Chunked-front _ _ more _ later (body.Chunked.last_chunk bytes len text starts rest) says =
    let there = Chunked-total in_trailer (drop len bytes ++ more) in
    let whole = over_last bytes more len there.0 starts there.1 in
    HasFront-behind len [] text there.0 later
    (Chunked-front in_trailer (drop len bytes) more text there.0 rest there.1)
    (Chunked-unique at_line (bytes ++ more) later _ says whole)
Chunked-front _ _ more _ later (body.Chunked.chunk_open bytes left few) says =
    chunk_front bytes more left later few says
Chunked-front _ _ more _ later (body.Chunked.chunk_whole bytes left text inside rest) says =
    let there = Chunked-total behind_chunk (drop left bytes ++ more) in
    let whole = over_chunk bytes more left there.0 inside there.1 in
    HasFront-behind left (take left bytes) text there.0 later
    (Chunked-front behind_chunk (drop left bytes) more text there.0 rest there.1)
    (Chunked-unique (in_chunk left) (bytes ++ more) later _ says whole)
Chunked-front _ _ more _ later (body.Chunked.crlf_open bytes few) says = (later.bytes, refl)
Chunked-front _ _ more _ later (body.Chunked.crlf_broken bytes enough none) says =
    (later.bytes, refl)
Chunked-front _ _ more _ later (body.Chunked.crlf_whole bytes text begins rest) says =
    let there = Chunked-total at_line (drop 2 bytes ++ more) in
    let whole = over_crlf bytes more there.0 begins there.1 in
    HasFront-behind 2 [] text there.0 later
    (Chunked-front at_line (drop 2 bytes) more text there.0 rest there.1)
    (Chunked-unique behind_chunk (bytes ++ more) later _ says whole)
Chunked-front _ _ more _ later (body.Chunked.trailer_open bytes still) says = (later.bytes, refl)
Chunked-front _ _ more _ later (body.Chunked.trailer_broken bytes long) says = (later.bytes, refl)
Chunked-front _ _ more _ later (body.Chunked.trailer_ended bytes len ends) says =
    (later.bytes, refl)

-- the first bytes of a list are the front of the first bytes of a longer one
take_front : (n : ℕ) (bytes more : List ℕ) → HasFront (take n bytes) (take n (bytes ++ more))
take_front n bytes more =
    elim (cases_lt (length bytes) n) [
      | inl few ↦
          let k = n - length bytes in (
            take k more,
            ap (λ x. x ++ take k more) (take_all n bytes (omega arith))
                ∙ sym (take-append_past bytes more k n (omega arith)),
          )
      | inr enough ↦
          ([], append-nil (take n bytes) ∙ sym (take-append-le n bytes more (omega arith)))
    ]

-- what has come of a body is the front of what comes later
pub Body-front : (framing : Framing) (bytes more : List ℕ) (text later : BodyText)
    → Body framing bytes text → Body framing (bytes ++ more) later
    → (rest : List ℕ) × (text.bytes ++ rest ≡ later.bytes)
Body-front framing.Empty bytes more text later says says_later = rw (says, says_later) ([], refl)
Body-front (framing.Length n) bytes more text later says says_later =
    rw (says, says_later) (take_front n bytes more)
Body-front framing.Chunked bytes more text later says says_later =
    Chunked-front at_line bytes more text later says says_later
Body-front framing.UntilClose bytes more text later says says_later =
    rw (says, says_later) (more, refl)
Body-front framing.Tunnel bytes more text later says says_later =
    rw (says, says_later) (more, refl)

-- ---- a body ends in its bytes

-- where a mark stands, if it tells a place, so many bytes are there
abbrev IsMarkWithin : BodyMark → ℕ → Type 0
IsMarkWithin still_open size = ⊤
IsMarkWithin (ended n) size = n ≤ size
IsMarkWithin broken size = ⊤

-- a mark that is counted from n bytes earlier
IsMarkWithin-counted : (n rest size : ℕ) (mark : BodyMark) → n + rest ≤ size
    → IsMarkWithin mark rest → IsMarkWithin (counted_from n mark) size
IsMarkWithin-counted n rest size still_open sum within = tt
IsMarkWithin-counted n rest size (ended k) sum within = omega arith
IsMarkWithin-counted n rest size broken sum within = tt

-- and that is counted behind the first n bytes
IsMarkWithin-drop : (n : ℕ) (bytes : List ℕ) (mark : BodyMark) → n ≤ length bytes
    → IsMarkWithin mark (length (drop n bytes))
    → IsMarkWithin (counted_from n mark) (length bytes)
IsMarkWithin-drop n bytes mark inside within =
    IsMarkWithin-counted n (length (drop n bytes)) (length bytes) mark
    (omega (arith, inside, length-drop n bytes)) within

-- a chunked body ends in its bytes
Chunked-within : (place : ChunkedPlace) (bytes : List ℕ) (text : BodyText)
    → Chunked place bytes text → IsMarkWithin text.mark (length bytes)
Chunked-within _ _ _ (body.Chunked.line_open bytes still) = tt
Chunked-within _ _ _ (body.Chunked.line_broken bytes wrong) = tt
Chunked-within _ _ _ (body.Chunked.chunk bytes len size text starts some rest) =
    IsMarkWithin-drop len bytes text.mark (line_end-within bytes len starts.ends).1
    (Chunked-within (in_chunk size) (drop len bytes) text rest)
Chunked-within _ _ _ (body.Chunked.last_chunk bytes len text starts rest) =
    IsMarkWithin-drop len bytes text.mark (line_end-within bytes len starts.ends).1
    (Chunked-within in_trailer (drop len bytes) text rest)
Chunked-within _ _ _ (body.Chunked.chunk_open bytes left few) = tt
Chunked-within _ _ _ (body.Chunked.chunk_whole bytes left text inside rest) =
    IsMarkWithin-drop left bytes text.mark inside
    (Chunked-within behind_chunk (drop left bytes) text rest)
Chunked-within _ _ _ (body.Chunked.crlf_open bytes few) = tt
Chunked-within _ _ _ (body.Chunked.crlf_broken bytes enough none) = tt
Chunked-within _ _ _ (body.Chunked.crlf_whole bytes text begins rest) =
    IsMarkWithin-drop 2 bytes text.mark (crlf_is_long bytes begins)
    (Chunked-within at_line (drop 2 bytes) text rest)
Chunked-within _ _ _ (body.Chunked.trailer_open bytes still) = tt
Chunked-within _ _ _ (body.Chunked.trailer_broken bytes long) = tt
Chunked-within _ _ _ (body.Chunked.trailer_ended bytes len ends) =
    (trailer_end-within bytes len ends.ends).1

-- a body with a length ends in its bytes
length_within : (n : ℕ) (bytes : List ℕ) → IsMarkWithin (of_length n bytes).mark (length bytes)
length_within n bytes =
    elim (cases_lt (length bytes) n) [
      | inl few ↦ rw (length_open n bytes few) tt
      | inr enough ↦
          subst (λ (t : BodyText). IsMarkWithin t.mark (length bytes))
          (sym (length_ended n bytes (omega arith))) (omega arith)
    ]

-- a body ends in its bytes
Body-within : (framing : Framing) (bytes : List ℕ) (text : BodyText) → Body framing bytes text
    → IsMarkWithin text.mark (length bytes)
Body-within framing.Empty bytes text says = rw says (omega arith)
Body-within (framing.Length n) bytes text says = rw says (length_within n bytes)
Body-within framing.Chunked bytes text says = Chunked-within at_line bytes text says
Body-within framing.UntilClose bytes text says = rw says tt
Body-within framing.Tunnel bytes text says = rw says tt

-- a body that has ended takes no more bytes than there are
pub Body-ended-within : (framing : Framing) (bytes body : List ℕ) (n : ℕ)
    → Body framing bytes (ended_text body n) → n ≤ length bytes
Body-ended-within framing bytes body n says =
    Body-within framing bytes (ended_text body n) says
