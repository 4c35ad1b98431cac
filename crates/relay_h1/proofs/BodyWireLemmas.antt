-- Reading the text of a body gives the body back.
use Rattle.std.proofs.Common.{◌≡◌, ℕ, zero, suc, ◌+◌, ◌-◌, ◌^◌, ◌<◌, ◌≤◌, Bool, true, false, List, [], ◌∷◌, ◌++◌, length, take, drop, refl, sym, ◌∙◌, ap, subst, arith, append-nil, append_assoc, length-append, if◌then◌else◌, inl, inr, None, ◌==◌, not}
use Rattle.std.proofs.Math.Seq.{take-append_seam, drop-append_seam}
use Rattle.std.proofs.lemmas.List.Elements.{All-head, All-tail, All-cons, All-push}
use Rattle.std.proofs.lemmas.Bool.{cases_lt, cases_Bool, eq-eqb, ne_eqb, eqb-true, le-leb, lt-leb}
use Rattle.std.proofs.lemmas.List.{take_all, take-take, length-take, length-take-le}
use Rattle.std.specs.Char.{is_ascii_hexdigit}
use Rattle.std.specs.List.{All, concat}
use Rattle.httparse.specs.Grammar.{print_chunk_line}
use Rattle.relay_h1.specs.declared.framing.Framing.{Framing}
use Rattle.relay_h1.specs.declared.framing.Framing.TheVariants as framing
use Rattle.relay_h1.specs.Wire as wire
use Rattle.relay_h1.specs.Body.{BodyText, BodyMark, behind, counted_from, ended_text, open_text, Chunked, ChunkedPlace, Body, of_length}
use Rattle.relay_h1.specs.Body as body
use Rattle.relay_h1.specs.BodyWire.{size_line, chunk, piece_text, after_piece, pieces_text, after_pieces, body_part, end_text, is_full, is_raw, is_short, HasWritten, ReadsBackOpen, ReadsBackWhole}
use Rattle.relay_h1.proofs.SizeLineLemmas.{size_line_starts}

-- each piece is one that can be
pub AllFit : List (List ℕ) → Type 0
AllFit pieces = All (λ piece. length piece < 2 ^ 64) pieces

-- ---- counting what stands before

counted_nothing : (mark : BodyMark) → counted_from 0 mark ≡ mark
counted_nothing body.BodyMark.still_open = refl
counted_nothing (body.BodyMark.ended k) = ap body.BodyMark.ended (omega arith)
counted_nothing body.BodyMark.broken = refl

counted_twice : (n m : ℕ) (mark : BodyMark)
    → counted_from n (counted_from m mark) ≡ counted_from (n + m) mark
counted_twice n m body.BodyMark.still_open = refl
counted_twice n m (body.BodyMark.ended k) = ap body.BodyMark.ended (omega arith)
counted_twice n m body.BodyMark.broken = refl

-- nothing stands before
behind_nothing : (said : BodyText) → behind 0 [] said ≡ said
behind_nothing said =
    ap (λ (m : BodyMark). let t : BodyText = record { bytes = said.bytes; mark = m } in t)
    (counted_nothing said.mark)

-- what stands before what stands before
behind_behind : (n m : ℕ) (front more : List ℕ) (said : BodyText)
    → behind n front (behind m more said) ≡ behind (n + m) (front ++ more) said
behind_behind n m front more said =
    rw (append_assoc front more said.bytes, counted_twice n m said.mark) refl

-- ---- chunks

-- what says the same bytes with the same mark says the same
same_said : (bytes : List ℕ) (a b : BodyMark) → a ≡ b
    → let s : BodyText = record { bytes = bytes; mark = a } in
    let t : BodyText = record { bytes = bytes; mark = b } in s ≡ t
same_said bytes a b same =
    ap (λ (m : BodyMark). let t : BodyText = record { bytes = bytes; mark = m } in t) same

-- how long a chunk is
chunk_len : (bytes : List ℕ)
    → length (size_line (length bytes)) + (length bytes + 2) ≡ length (chunk bytes)
chunk_len bytes =
    let line = size_line (length bytes) in
    omega (arith, length-append (line ++ bytes) wire.crlf, length-append line bytes)

-- a chunk says its bytes, in front of what follows it
chunk_says : (bytes tail : List ℕ) (said : BodyText) → 0 < length bytes → length bytes < 2 ^ 64
    → Chunked body.ChunkedPlace.at_line tail said
    → Chunked body.ChunkedPlace.at_line (chunk bytes ++ tail)
    (behind (length (chunk bytes)) bytes said)
chunk_says bytes tail said some fits follows =
    let n = length bytes in
    let line = size_line n in
    let inside = bytes ++ 13 ∷ 10 ∷ tail in
    let parted : chunk bytes ++ tail ≡ line ++ inside = simp append_assoc in
    let crlf = body.Chunked.crlf_whole (13 ∷ 10 ∷ tail) said refl follows in
    let rest : Chunked body.ChunkedPlace.behind_chunk (drop n inside) (behind 2 [] said) =
    rw drop-append_seam crlf in
    let all : n ≤ length inside = omega (arith, length-append bytes (13 ∷ 10 ∷ tail)) in
    let whole = body.Chunked.chunk_whole inside n (behind 2 [] said) all rest in
    let there =
    subst
    (λ (l : List ℕ). Chunked (body.ChunkedPlace.in_chunk n) inside (behind n l (behind 2 [] said)))
    (take-append_seam bytes (13 ∷ 10 ∷ tail)) whole in
    let behind_line
    : Chunked (body.ChunkedPlace.in_chunk n) (drop (length line) (line ++ inside))
    (behind n bytes (behind 2 [] said)) =
    rw drop-append_seam there in
    let read =
    body.Chunked.chunk (line ++ inside) (length line) n _ (size_line_starts n inside fits) some
    behind_line in
    let marks =
    ap (counted_from (length line)) (counted_twice n 2 said.mark)
    ∙ counted_twice (length line) (n + 2) said.mark
    ∙ ap (λ k. counted_from k said.mark) (chunk_len bytes) in
    rw parted
    (subst (λ (t : BodyText). Chunked body.ChunkedPlace.at_line (line ++ inside) t)
    (same_said (bytes ++ said.bytes) _ _ marks) read)

-- pieces say their bytes, in front of what follows them
pieces_say : (pieces : List (List ℕ)) (tail : List ℕ) (said : BodyText) → AllFit pieces
    → Chunked body.ChunkedPlace.at_line tail said
    → Chunked body.ChunkedPlace.at_line (pieces_text framing.Chunked pieces ++ tail)
    (behind (length (pieces_text framing.Chunked pieces)) (concat pieces) said)
unfolding AllFit
pieces_say [] tail said all follows = rw (behind_nothing said) follows
pieces_say ([] ∷ pieces) tail said all follows =
    pieces_say pieces tail said (All-tail (λ piece. length piece < 2 ^ 64) [] pieces all) follows
pieces_say ((b ∷ bytes) ∷ pieces) tail said all follows =
    let piece = b ∷ bytes in
    let fits = All-head (λ piece. length piece < 2 ^ 64) piece pieces all in
    let rest =
    pieces_say pieces tail said (All-tail (λ piece. length piece < 2 ^ 64) piece pieces all) follows
    in
    let text = pieces_text framing.Chunked pieces in
    let here = chunk_says piece (text ++ tail) _ (omega arith) fits rest in
    let said_here =
    behind_behind (length (chunk piece)) (length text) piece (concat pieces) said
    ∙ ap (λ k. behind k (piece ++ concat pieces) said) (sym (length-append (chunk piece) text)) in
    subst
    (λ (x : List ℕ). Chunked body.ChunkedPlace.at_line x
    (behind (length (chunk piece ++ text)) (piece ++ concat pieces) said))
    (sym (append_assoc (chunk piece) text tail))
    (subst
    (λ (t : BodyText). Chunked body.ChunkedPlace.at_line (chunk piece ++ (text ++ tail)) t)
    said_here here)

-- the end says the end
end_says : Chunked body.ChunkedPlace.at_line (end_text framing.Chunked) (ended_text [] 5)
unfolding print_chunk_line
end_says =
    body.Chunked.last_chunk (end_text framing.Chunked) 3 (ended_text [] 2)
    record {
      ends = refl;
      is_line = record {
        line = record { digits = 48 ∷ []; pad = []; extension = None };
        reads = (
          record {
            digits = (
              omega arith,
              omega arith,
              All-cons (λ c. is_ascii_hexdigit c ≡ true) 48 [] refl
                  (λ k d inside. absurd (omega arith)),
            );
            pad = λ k d inside. absurd (omega arith);
            extension = tt;
          },
          refl,
        );
        sized = refl;
      };
    }
    (body.Chunked.trailer_ended (13 ∷ 10 ∷ []) 2 record { ends = refl; short = omega arith })

-- ---- bytes that stand as they are

-- the first bytes of none
take_nothing : (n : ℕ) → take n [] ≡ let none : List ℕ = [] in none
take_nothing zero = refl
take_nothing (suc n) = refl

-- the first n bytes of joined lists
take-append : (n : ℕ) (xs ys : List ℕ) → take n (xs ++ ys) ≡ take n xs ++ take (n - length xs) ys
take-append n [] ys = let same : n - 0 ≡ n = omega arith in rw (same, take_nothing) refl
take-append zero (x ∷ xs) ys =
    let none : zero - length (x ∷ xs) ≡ zero = omega arith in rw none refl
take-append (suc n) (x ∷ xs) ys =
    let same : suc n - suc (length xs) ≡ n - length xs = omega arith in
    rw same (ap (λ l. x ∷ l) (take-append n xs ys))

-- pieces of a body with a length
length_text : (n : ℕ) (pieces : List (List ℕ))
    → pieces_text (framing.Length n) pieces ≡ take n (concat pieces)
length_text n [] = sym (take_nothing n)
length_text n (piece ∷ pieces) =
    ap (λ l. take n piece ++ l) (length_text (n - length piece) pieces)
    ∙ sym (take-append n piece (concat pieces))

length_rest : (n : ℕ) (pieces : List (List ℕ))
    → after_pieces (framing.Length n) pieces ≡ framing.Length (n - length (concat pieces))
length_rest n [] = ap framing.Length (omega arith)
length_rest n (piece ∷ pieces) =
    length_rest (n - length piece) pieces
    ∙ ap framing.Length (omega (arith, length-append piece (concat pieces)))

-- pieces of a body up to the close
close_text : (pieces : List (List ℕ)) → pieces_text framing.UntilClose pieces ≡ concat pieces
close_text [] = refl
close_text (piece ∷ pieces) = ap (λ l. piece ++ l) (close_text pieces)

tunnel_text : (pieces : List (List ℕ)) → pieces_text framing.Tunnel pieces ≡ concat pieces
tunnel_text [] = refl
tunnel_text (piece ∷ pieces) = ap (λ l. piece ++ l) (tunnel_text pieces)

empty_text : (pieces : List (List ℕ)) → pieces_text framing.Empty pieces ≡ []
empty_text [] = refl
empty_text (piece ∷ pieces) = empty_text pieces

-- what is left of these stays
chunked_rest : (pieces : List (List ℕ)) → after_pieces framing.Chunked pieces ≡ framing.Chunked
chunked_rest [] = refl
chunked_rest (piece ∷ pieces) = chunked_rest pieces

close_rest : (pieces : List (List ℕ)) → after_pieces framing.UntilClose pieces ≡ framing.UntilClose
close_rest [] = refl
close_rest (piece ∷ pieces) = close_rest pieces

tunnel_rest : (pieces : List (List ℕ)) → after_pieces framing.Tunnel pieces ≡ framing.Tunnel
tunnel_rest [] = refl
tunnel_rest (piece ∷ pieces) = tunnel_rest pieces

empty_rest : (pieces : List (List ℕ)) → after_pieces framing.Empty pieces ≡ framing.Empty
empty_rest [] = refl
empty_rest (piece ∷ pieces) = empty_rest pieces

-- ---- so far

-- bytes that have ended after n bytes of text, or are open
abbrev body_said : List ℕ → Bool → ℕ → BodyText
body_said bytes at_end n =
    record {
      bytes = bytes;
      mark = if at_end then body.BodyMark.ended n else body.BodyMark.still_open;
    }

-- a text that has its length says that it has ended
length_is_whole : (n : ℕ) (bytes : List ℕ) → n ≤ length bytes
    → body_said (take n bytes) true (length (take n bytes)) ≡ of_length n (take n bytes)
length_is_whole n bytes enough =
    let sized = length-take-le n bytes enough in
    rw (take-take n n bytes (omega arith), sized, le-leb n n (omega arith)) refl

-- no byte is left to come
left_none : (n k : ℕ) → not (n - k == 0) ≡ false → n ≤ k
left_none n k none =
    elim (cases_Bool (n - k == 0)) [
      | inl all ↦ let zero_left = eqb-true (n - k) 0 all in omega arith
      | inr some ↦ let other : not (n - k == 0) ≡ true = rw some refl in cc
    ]

-- a text that is cut off at its length says what it has
length_says : (n : ℕ) (bytes : List ℕ)
    → body_said (take n bytes) (n - length bytes == 0) (length (take n bytes))
    ≡ of_length n (take n bytes)
length_says n bytes =
    elim (cases_lt (length bytes) n) [
      | inl less ↦
          let all = take_all n bytes (omega arith) in
          rw (
            all,
            all,
            ne_eqb (n - length bytes) 0 (λ none. omega arith),
            lt-leb n (length bytes) less,
          ) refl
      | inr enough ↦
          let sized = length-take-le n bytes enough in
          rw (
            take-take n n bytes (omega arith),
            sized,
            eq-eqb (n - length bytes) 0 (omega arith),
            le-leb n n (omega arith),
          ) refl
    ]

-- read back, what was written so far is the body so far
pub reads_back_open : (given : Framing) (pieces : List (List ℕ)) (text : List ℕ) (rest : Framing)
    → HasWritten given pieces text rest → ReadsBackOpen given pieces text rest
unfolding AllFit
reads_back_open framing.Empty pieces text rest w =
    rw (w.is_text ∙ empty_text pieces, w.is_rest ∙ empty_rest pieces) refl
reads_back_open (framing.Length n) pieces text rest w =
    rw (w.is_text ∙ length_text n pieces, w.is_rest ∙ length_rest n pieces)
    (length_says n (concat pieces))
reads_back_open framing.Chunked pieces text rest w =
    let line : body.IsLineOpen [] = record { no_end = refl; may_end = omega arith } in
    let says = pieces_say pieces [] (open_text []) w.fit (body.Chunked.line_open [] line) in
    rw (w.is_text, w.is_rest ∙ chunked_rest pieces)
    (simp append-nil at says)
reads_back_open framing.UntilClose pieces text rest w =
    rw (w.is_text ∙ close_text pieces, w.is_rest ∙ close_rest pieces) refl
reads_back_open framing.Tunnel pieces text rest w =
    rw (w.is_text ∙ tunnel_text pieces, w.is_rest ∙ tunnel_rest pieces) refl

-- ---- whole

-- read back, what was written to its end is the whole body
pub reads_back_whole : (given : Framing) (pieces : List (List ℕ)) (text : List ℕ) (rest : Framing)
    → HasWritten given pieces text rest → is_short rest ≡ false
    → ReadsBackWhole given pieces (text ++ end_text rest)
unfolding AllFit
reads_back_whole framing.Empty pieces text rest w whole =
    rw (w.is_text ∙ empty_text pieces, w.is_rest ∙ empty_rest pieces) refl
reads_back_whole (framing.Length n) pieces text rest w whole =
    let is_rest = w.is_rest ∙ length_rest n pieces in
    let none : not (n - length (concat pieces) == 0) ≡ false = rw is_rest at whole in
    let enough = left_none n (length (concat pieces)) none in
    rw (w.is_text ∙ length_text n pieces, is_rest, append-nil (take n (concat pieces)))
    (length_is_whole n (concat pieces) enough)
reads_back_whole framing.Chunked pieces text rest w whole =
    let says = pieces_say pieces (end_text framing.Chunked) (ended_text [] 5) w.fit end_says in
    let end = end_text framing.Chunked in
    rw (
      w.is_text,
      w.is_rest ∙ chunked_rest pieces,
      length-append (pieces_text framing.Chunked pieces) (end_text framing.Chunked),
    )
    (simp append-nil at says)
reads_back_whole framing.UntilClose pieces text rest w whole =
    rw (w.is_text ∙ close_text pieces, w.is_rest ∙ close_rest pieces, append-nil (concat pieces))
    refl
reads_back_whole framing.Tunnel pieces text rest w whole =
    rw (w.is_text ∙ tunnel_text pieces, w.is_rest ∙ tunnel_rest pieces, append-nil (concat pieces))
    refl

-- ---- one piece more

pieces_text-push : (given : Framing) (pieces : List (List ℕ)) (piece : List ℕ)
    → pieces_text given (pieces ++ piece ∷ [])
    ≡ pieces_text given pieces ++ piece_text (after_pieces given pieces) piece
pieces_text-push given [] piece = append-nil (piece_text given piece)
pieces_text-push given (first ∷ pieces) piece =
    ap (λ l. piece_text given first ++ l) (pieces_text-push (after_piece given first) pieces piece)
    ∙ sym (append_assoc (piece_text given first) _ _)

after_pieces-push : (given : Framing) (pieces : List (List ℕ)) (piece : List ℕ)
    → after_pieces given (pieces ++ piece ∷ []) ≡ after_piece (after_pieces given pieces) piece
after_pieces-push given [] piece = refl
after_pieces-push given (first ∷ pieces) piece =
    after_pieces-push (after_piece given first) pieces piece

-- a body whose pieces are chunked has no length that it could come short of
pub never_short : (rest : Framing) → is_raw rest ≡ false → is_short rest ≡ false
never_short framing.Empty chunked = cc
never_short (framing.Length left) chunked = cc
never_short framing.Chunked chunked = refl
never_short framing.UntilClose chunked = refl
never_short framing.Tunnel chunked = refl

-- a body that is full stays as it is
pub full_stays : (rest : Framing) (piece : List ℕ) → is_full rest ≡ true
    → after_piece rest piece ≡ rest
full_stays framing.Empty piece full = refl
full_stays (framing.Length left) piece full =
    let none = eqb-true left 0 full in ap framing.Length (omega arith)
full_stays framing.Chunked piece full = cc
full_stays framing.UntilClose piece full = cc
full_stays framing.Tunnel piece full = cc

-- only the bytes that belong to the body count
pub after_piece-part : (rest : Framing) (piece : List ℕ)
    → after_piece rest (body_part rest piece) ≡ after_piece rest piece
after_piece-part framing.Empty piece = refl
after_piece-part (framing.Length left) piece =
    let sized = length-take left piece in ap framing.Length (omega arith)
after_piece-part framing.Chunked piece = refl
after_piece-part framing.UntilClose piece = refl
after_piece-part framing.Tunnel piece = refl

-- one piece more was written
pub HasWritten-push : (given : Framing) (pieces : List (List ℕ)) (text : List ℕ) (rest : Framing)
    (piece : List ℕ)
    → HasWritten given pieces text rest → length piece < 2 ^ 64
    → HasWritten given (pieces ++ piece ∷ []) (text ++ piece_text rest piece)
    (after_piece rest piece)
HasWritten-push given pieces text rest piece w fits =
    record {
      fit = All-push (λ p. length p < 2 ^ 64) pieces piece w.fit fits;
      is_text = rw (w.is_text, w.is_rest) (sym (pieces_text-push given pieces piece));
      is_rest =
          ap (λ r. after_piece r piece) w.is_rest ∙ sym (after_pieces-push given pieces piece);
    }
