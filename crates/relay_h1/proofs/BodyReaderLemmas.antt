-- How the places of a reader follow each other, whatever bytes come.
use Rattle.std.proofs.Common.{◌≡◌, ℕ, zero, suc, ◌+◌, ◌-◌, ◌<◌, ◌≤◌, true, false, List, [], ◌∷◌, ◌++◌, length, take, drop, refl, sym, ◌∙◌, ap, subst, arith, inl, inr, zero-add, add-zero, nat_le, ◌==◌}
use Rattle.std.proofs.lemmas.Bool.{cases_lt}
use Rattle.std.proofs.lemmas.Bool.Decides.{nat_tests}
use Rattle.std.proofs.lemmas.List.{append_assoc, append-nil, length-append, length-take-le, length-take, take-append-le, take-append-drop, take-take, take_all, drop-append-le, drop_all}
use Rattle.bytes.proofs.Ranges.{take-append_past}
use Rattle.httparse.specs.Grammar.{ChunkLine, print_chunk_line}
use Rattle.httparse.specs.Spans.{IsChunkLineAt}
use Rattle.httparse.proofs.ChunkLemmas.{chunk_line_unique}
use Rattle.relay_tasks.specs.declared.context.Context.TheVariants.{BadFraming}
use Rattle.relay_tasks.specs.declared.error.Error.{Error}
use Rattle.relay_tasks.specs.declared.error.Fail.TheVariants as fail
use Rattle.relay_tasks.specs.Error.{refused}
use Rattle.relay_h1.specs.declared.framing.Framing.{Framing}
use Rattle.relay_h1.specs.declared.framing.Framing.TheVariants as framing
use Rattle.relay_h1.specs.declared.body_reader.Cut.{Cut}
use Rattle.relay_h1.specs.declared.body_reader.Cut.TheVariants as cut
use Rattle.relay_h1.specs.declared.body_reader.BodyFront.{BodyFront}
use Rattle.relay_h1.specs.declared.body_reader.BodyFront.TheVariants as front
use Rattle.relay_h1.specs.declared.body_reader.Passed.{Passed}
use Rattle.relay_h1.specs.declared.body_reader.State.{State}
use Rattle.relay_h1.specs.declared.body_reader.State.TheVariants as state
use Rattle.relay_h1.specs.Body.{BodyText, BodyMark, open_text, ended_text, broken_text, behind, counted_from, begins_with_crlf, line_end, IsLineOf, StartsWithLine, IsLineOpen, IsLineBroken, EndsTrailer, trailer_end, at_line, in_chunk, behind_chunk, in_trailer, Chunked, of_length, Body}
use Rattle.relay_h1.specs.Body as body
use Rattle.relay_h1.specs.BodyReader.{Reads, first_state, is_done, is_of, GoesOver, Takes, TakesRun, Answers, IsExact, piece_of, SoFar, Tells, run, IsInRun, run_front, after_run, Stands, Passes}
use Rattle.relay_h1.proofs.BodyLemmas.{Chunked-unique, Chunked-total}
use Rattle.relay_h1.proofs.CrlfLemmas.{crlf_is_long, crlf-front, line_end-within, line_end-front, trailer_end-within, trailer_end-front}

-- a mark counted from no byte earlier
counted-zero : (mark : BodyMark) → counted_from 0 mark ≡ mark
counted-zero body.BodyMark.still_open = refl
counted-zero (body.BodyMark.ended n) = ap body.BodyMark.ended (zero-add n)
counted-zero body.BodyMark.broken = refl

-- a mark counted twice
counted-twice : (n m : ℕ) (mark : BodyMark)
    → counted_from n (counted_from m mark) ≡ counted_from (n + m) mark
counted-twice n m body.BodyMark.still_open = refl
counted-twice n m (body.BodyMark.ended k) = ap body.BodyMark.ended (omega arith)
counted-twice n m body.BodyMark.broken = refl

-- a text behind nothing
pub behind-nothing : (text : BodyText) → behind 0 [] text ≡ text
behind-nothing text = ap (λ m. record text { mark = m }) (counted-zero text.mark)

-- a text behind a piece that is behind a piece
pub behind-twice : (n m : ℕ) (p q : List ℕ) (text : BodyText)
    → behind n p (behind m q text) ≡ behind (n + m) (p ++ q) text
behind-twice n m p q text =
    let BodyText-of : List ℕ → BodyMark → BodyText = λ x m. record { bytes = x; mark = m } in
    ap (λ x. BodyText-of x (counted_from n (counted_from m text.mark)))
    (sym (append_assoc p q text.bytes))
    ∙ ap (BodyText-of ((p ++ q) ++ text.bytes)) (counted-twice n m text.mark)

-- nothing is gone over
pub GoesOver-nothing : (at : State) → GoesOver at [] [] at
GoesOver-nothing at = record {
  says = λ later text reads. subst (Reads at later) (sym (behind-nothing text)) reads;
  of_framing = λ framing of. of;
}

-- one piece and then another
pub GoesOver-append : (a b c : State) (x y p q : List ℕ) → GoesOver a x p b → GoesOver b y q c
    → GoesOver a (x ++ y) (p ++ q) c
GoesOver-append a b c x y p q first second = record {
  says =
      λ later text reads.
      let there = first.says (y ++ later) _ (second.says later text reads) in
      let same = behind-twice (length x) (length y) p q text in
      rw (append_assoc, length-append x y, ← same) there;
  of_framing = λ framing of. second.of_framing framing (first.of_framing framing of);
}

-- all stays ahead
pub Takes-nothing : (at : State) (ahead : List ℕ) → Takes at ahead [] at ahead
Takes-nothing at ahead = record {
  taken = [];
  split = refl;
  over = GoesOver-nothing at;
}

-- one piece and then another, out of the bytes ahead
pub Takes-append : (a b c : State) (ahead mid rest p q : List ℕ) → Takes a ahead p b mid
    → Takes b mid q c rest → Takes a ahead (p ++ q) c rest
Takes-append a b c ahead mid rest p q first second = record {
  taken = first.taken ++ second.taken;
  split = first.split ∙ ap (λ x. first.taken ++ x) second.split
      ∙ sym (append_assoc first.taken second.taken rest);
  over = GoesOver-append a b c first.taken second.taken p q first.over second.over;
}

-- the first n bytes ahead were gone over
pub Takes-front : (old new : State) (ahead piece : List ℕ) (n : ℕ)
    → GoesOver old (take n ahead) piece new → Takes old ahead piece new (drop n ahead)
Takes-front old new ahead piece n over = record {
  taken = take n ahead;
  split = sym (take-append-drop n ahead);
  over = over;
}

-- the reader stays where it is
pub stays : (at : State) (ahead : List ℕ) (here : BodyFront) → Stands here at ahead
    → Passes at ahead (record { state = at; front = here }) ahead
stays at ahead here stands = record { takes = Takes-nothing at ahead; stands = stands }

-- the reader goes over the first n bytes and then on
pub goes_on : (old mid : State) (ahead rest : List ℕ) (n : ℕ) (new : Passed)
    → GoesOver old (take n ahead) [] mid → Passes mid (drop n ahead) new rest
    → Passes old ahead new rest
goes_on old mid ahead rest n new over passes = record {
  takes =
      Takes-append old mid new.state ahead (drop n ahead) rest [] []
      (Takes-front old mid ahead [] n over) passes.takes;
  stands = passes.stands;
}

-- what follows the first n bytes of a list is what is behind them
drop-front : (bytes later : List ℕ) (n : ℕ) → n ≤ length bytes
    → drop n (take n bytes ++ later) ≡ later
drop-front bytes later n inside =
    let size = length-take-le n bytes inside in
    drop-append-le n (take n bytes) later (omega arith)
    ∙ ap (λ x. x ++ later) (drop_all n (take n bytes) (omega arith))

-- and they are its first n bytes
take-front : (bytes later : List ℕ) (n : ℕ) → n ≤ length bytes
    → take n (take n bytes ++ later) ≡ take n bytes
take-front bytes later n inside =
    let size = length-take-le n bytes inside in
    take-append-le n (take n bytes) later (omega arith) ∙ take-take n n bytes (omega arith)

-- the chunk line at the front stays one
StartsWithLine-front : (bytes later : List ℕ) (len size : ℕ) → StartsWithLine bytes len size
    → StartsWithLine (take len bytes ++ later) len size
StartsWithLine-front bytes later len size starts =
    let within = line_end-within bytes len starts.ends in
    record {
      ends = line_end-front bytes later len starts.ends;
      is_line = rw (take-front bytes later len within.1) starts.is_line;
    }

-- over the line of a chunk
pub GoesOver-line : (bytes : List ℕ) (len size : ℕ) → StartsWithLine bytes len size → 0 < size
    → GoesOver state.ChunkLine (take len bytes) [] (state.Chunk size)
GoesOver-line bytes len size starts some = record {
  says =
      λ later text reads.
      let within = line_end-within bytes len starts.ends in
      let there : Chunked (in_chunk size) (drop len (take len bytes ++ later)) text =
      rw (drop-front bytes later len within.1) reads in
      rw (length-take-le len bytes within.1)
      (body.Chunked.chunk (take len bytes ++ later) len size text
      (StartsWithLine-front bytes later len size starts) some there);
  of_framing = λ framing of. of;
}

-- over the line of the last chunk
pub GoesOver-last : (bytes : List ℕ) (len : ℕ) → StartsWithLine bytes len 0
    → GoesOver state.ChunkLine (take len bytes) [] state.Trailer
GoesOver-last bytes len starts = record {
  says =
      λ later text reads.
      let within = line_end-within bytes len starts.ends in
      let there : Chunked in_trailer (drop len (take len bytes ++ later)) text =
      rw (drop-front bytes later len within.1) reads in
      rw (length-take-le len bytes within.1)
      (body.Chunked.last_chunk (take len bytes ++ later) len text
      (StartsWithLine-front bytes later len 0 starts) there);
  of_framing = λ framing of. of;
}

-- over the CR LF behind a chunk
pub GoesOver-crlf : (bytes : List ℕ) → begins_with_crlf bytes ≡ true
    → GoesOver state.ChunkEnd (take 2 bytes) [] state.ChunkLine
GoesOver-crlf bytes begins = record {
  says =
      λ later text reads.
      let enough = crlf_is_long bytes begins in
      let there : Chunked at_line (drop 2 (take 2 bytes ++ later)) text =
      rw (drop-front bytes later 2 enough) reads in
      rw (length-take-le 2 bytes enough)
      (body.Chunked.crlf_whole (take 2 bytes ++ later) text
      (crlf-front bytes later 2 (omega arith) enough ∙ begins) there);
  of_framing = λ framing of. of;
}

-- out of a chunk of which no byte is to come
pub GoesOver-chunk_end : GoesOver (state.Chunk 0) [] [] state.ChunkEnd
GoesOver-chunk_end = record {
  says = λ later text reads. body.Chunked.chunk_whole later 0 text (omega arith) reads;
  of_framing = λ framing of. of;
}

-- over the trailer section
pub GoesOver-trailer : (bytes : List ℕ) (len : ℕ) → EndsTrailer bytes len
    → GoesOver state.Trailer (take len bytes) [] state.Done
GoesOver-trailer bytes len ends = record {
  says =
      λ later text reads.
      let within = trailer_end-within bytes len ends.ends in
      let here : EndsTrailer (take len bytes ++ later) len =
      record { ends = trailer_end-front bytes later len ends.ends; short = ends.short } in
      let size = length-take-le len bytes within.1 in
      rw (reads, size, add-zero)
      (body.Chunked.trailer_ended (take len bytes ++ later) len here);
  of_framing = λ framing of. refl;
}

-- what is behind the first list
drop-append_past : (part later : List ℕ) (k left : ℕ) → left ≡ length part + k
    → drop left (part ++ later) ≡ drop k later
drop-append_past [] later k left sum = let same : left ≡ k = omega arith in rw same refl
drop-append_past (b ∷ part) later k zero sum = absurd (omega arith)
drop-append_past (b ∷ part) later k (suc left) sum =
    drop-append_past part later k left (omega arith)

-- all of them, and nothing behind them
whole_split : (bytes : List ℕ) → bytes ≡ bytes ++ drop (length bytes) bytes
whole_split bytes =
    sym (ap (λ x. bytes ++ x) (drop_all (length bytes) bytes (omega arith)) ∙ append-nil bytes)

-- the first bytes, as many as there are, and what is behind them
front_split : (bytes : List ℕ) (left : ℕ)
    → bytes ≡ take left bytes ++ drop (length (take left bytes)) bytes
front_split bytes left =
    let size = length-take left bytes in
    elim (cases_lt (length bytes) left) [
      | inl few ↦
          let all = take_all left bytes (omega arith) in
          rw (all) (whole_split bytes)
      | inr enough ↦
          let same : length (take left bytes) ≡ left = omega (arith, size) in
          rw same (sym (take-append-drop left bytes))
    ]

-- some bytes of a chunk and then the rest of it
chunk_parts : (part later : List ℕ) (left k : ℕ) (text : BodyText) → left ≡ length part + k
    → Chunked (in_chunk k) later text
    → Chunked (in_chunk left) (part ++ later) (behind (length part) part text)
chunk_parts part _ left _ _ sum (body.Chunked.chunk_open later k few) =
    body.Chunked.chunk_open (part ++ later) left (omega (arith, length-append part later))
chunk_parts part _ left _ _ sum (body.Chunked.chunk_whole later k text enough rest) =
    let size = length-append part later in
    let cut = take-append_past part later k left sum in
    let gone = drop-append_past part later k left sum in
    let there : Chunked behind_chunk (drop left (part ++ later)) text = rw gone rest in
    let whole = body.Chunked.chunk_whole (part ++ later) left text (omega arith) there in
    rw (behind-twice (length part) k part (take k later) text, ← sum, ← cut) whole

-- some bytes of a body with a length and then the rest of it
length_parts : (part later : List ℕ) (left k : ℕ) → left ≡ length part + k
    → behind (length part) part (of_length k later) ≡ of_length left (part ++ later)
length_parts part later left k sum =
    let size = length-append part later in
    let cut = take-append_past part later k left sum in
    elim (cases_lt (length later) k) [
      | inl few ↦
          let open_here : nat_le k (length later) ≡ false = grind (arith, nat_tests) in
          let open_there : nat_le left (length (part ++ later)) ≡ false =
          grind (arith, nat_tests) in
          rw (open_here, open_there, cut) refl
      | inr enough ↦
          let whole_here : nat_le k (length later) ≡ true = grind (arith, nat_tests) in
          let whole_there : nat_le left (length (part ++ later)) ≡ true =
          grind (arith, nat_tests) in
          rw (whole_here, whole_there, cut, ← sum) refl
    ]

-- over the run of body bytes at the front
pub GoesOver-run : (at : State) (bytes : List ℕ)
    → GoesOver at (run at bytes) (run at bytes) (after_run at (length (run at bytes)))
GoesOver-run state.ChunkLine bytes = GoesOver-nothing state.ChunkLine
GoesOver-run (state.Chunk left) bytes = record {
  says =
      λ later text reads.
      let size = length-take left bytes in
      let n = length (take left bytes) in
      let sum : left ≡ n + (left - n) = omega (arith, size) in
      chunk_parts (take left bytes) later left (left - n) text sum reads;
  of_framing = λ framing of. of;
}
GoesOver-run state.ChunkEnd bytes = GoesOver-nothing state.ChunkEnd
GoesOver-run state.Trailer bytes = GoesOver-nothing state.Trailer
GoesOver-run (state.Length left) bytes = record {
  says =
      λ later text reads.
      let size = length-take left bytes in
      let n = length (take left bytes) in
      let sum : left ≡ n + (left - n) = omega (arith, size) in
      rw reads (length_parts (take left bytes) later left (left - n) sum);
  of_framing = λ framing of. of;
}
GoesOver-run state.UntilClose bytes = record {
  says = λ later text reads. rw reads refl;
  of_framing = λ framing of. of;
}
GoesOver-run state.Tunnel bytes = record {
  says = λ later text reads. rw reads refl;
  of_framing = λ framing of. of;
}
GoesOver-run state.Done bytes = GoesOver-nothing state.Done

-- the run and what is behind it
pub run_split : (at : State) (bytes : List ℕ)
    → bytes ≡ run at bytes ++ drop (length (run at bytes)) bytes
run_split state.ChunkLine bytes = refl
run_split (state.Chunk left) bytes = front_split bytes left
run_split state.ChunkEnd bytes = refl
run_split state.Trailer bytes = refl
run_split (state.Length left) bytes = front_split bytes left
run_split state.UntilClose bytes = whole_split bytes
run_split state.Tunnel bytes = whole_split bytes
run_split state.Done bytes = refl

-- a run is taken whole
pub Takes-run : (at : State) (bytes : List ℕ)
    → Takes at bytes (run at bytes) (after_run at (length (run at bytes)))
    (drop (length (run at bytes)) bytes)
Takes-run at bytes = record {
  taken = run at bytes;
  split = run_split at bytes;
  over = GoesOver-run at bytes;
}

-- a text that is longer than the line at its front is no line
pub longer_than_line : (text : List ℕ) (len given : ℕ) (line : ChunkLine)
    → IsChunkLineAt text len given line → ¬ (len ≡ length text) → (size : ℕ)
    → ¬ (IsLineOf text size)
longer_than_line text len given line at other size whole =
    let same = chunk_line_unique text line whole.line (drop len text) [] at.reads whole.reads in
    let is = ap (λ (x : List ℕ). length x) at.reads.1 in
    let none = ap (λ (x : List ℕ). length x) same.1 in
    let parts = length-append (print_chunk_line line) (drop len text) in
    other (omega (arith, at.len_is, is, none, parts))

-- the first of some bytes are some
some_taken : (bytes : List ℕ) (left : ℕ) → 0 < left → 0 < length bytes
    → 0 < length (take left bytes)
some_taken bytes left some there = omega (arith, length-take left bytes)

-- inside a run, some bytes are bytes of the body
run_is_some : (at : State) (bytes : List ℕ) → IsInRun at → 0 < length bytes
    → 0 < length (run at bytes)
run_is_some state.ChunkLine bytes inside some = absurd inside
run_is_some (state.Chunk left) bytes inside some = some_taken bytes left inside some
run_is_some state.ChunkEnd bytes inside some = absurd inside
run_is_some state.Trailer bytes inside some = absurd inside
run_is_some (state.Length left) bytes inside some = some_taken bytes left inside some
run_is_some state.UntilClose bytes inside some = some
run_is_some state.Tunnel bytes inside some = some
run_is_some state.Done bytes inside some = absurd inside

-- and nothing is nothing yet
run_is_open : (at : State) → IsInRun at → Reads at [] (open_text [])
run_is_open state.ChunkLine inside = absurd inside
run_is_open (state.Chunk left) inside = body.Chunked.chunk_open [] left inside
run_is_open state.ChunkEnd inside = absurd inside
run_is_open state.Trailer inside = absurd inside
run_is_open (state.Length zero) inside = absurd (omega arith)
run_is_open (state.Length (suc left)) inside =
    let none : nat_le (suc left) 0 ≡ false = grind (arith, nat_tests) in
    rw none refl
run_is_open state.UntilClose inside = refl
run_is_open state.Tunnel inside = refl
run_is_open state.Done inside = absurd inside

-- inside a run the reader stays
pub stays_in_run : (at : State) (ahead : List ℕ) → IsInRun at
    → Passes at ahead (record { state = at; front = run_front ahead }) ahead
stays_in_run at [] inside = stays at [] front.More (run_is_open at inside)
stays_in_run at (b ∷ ahead) inside =
    let some : (length (b ∷ ahead) == 0) ≡ false = grind (arith, nat_tests) in
    rw some
    (stays at (b ∷ ahead) front.Run (run_is_some at (b ∷ ahead) inside (omega arith)))

-- a body that has ended has nothing more, whatever bytes come
pub done_reads : (at : State) (bytes : List ℕ) → is_done at ≡ true
    → Reads at bytes (ended_text [] 0)
done_reads state.ChunkLine bytes done = absurd (cc)
done_reads (state.Chunk left) bytes done = absurd (cc)
done_reads state.ChunkEnd bytes done = absurd (cc)
done_reads state.Trailer bytes done = absurd (cc)
done_reads (state.Length left) bytes done =
    let none : left ≡ 0 = grind (arith, nat_tests) in
    let whole : nat_le 0 (length bytes) ≡ true = grind (arith, nat_tests) in
    rw (none, whole) refl
done_reads state.UntilClose bytes done = absurd (cc)
done_reads state.Tunnel bytes done = absurd (cc)
done_reads state.Done bytes done = refl

-- what is told from the new place is told from the old one
pub Takes-reads : (old new : State) (ahead piece rest : List ℕ) (text : BodyText)
    (takes : Takes old ahead piece new rest) → Reads new rest text
    → Reads old ahead (behind (length takes.taken) piece text)
Takes-reads old new ahead piece rest text takes reads =
    rw takes.split (takes.over.says rest text reads)

-- behind framing alone, the end is an end
Takes-ended : (old new : State) (ahead rest : List ℕ) (takes : Takes old ahead [] new rest)
    → is_done new ≡ true → Reads old ahead (ended_text [] (length takes.taken))
Takes-ended old new ahead rest takes done =
    rw add-zero at
    (Takes-reads old new ahead [] rest (ended_text [] 0) takes (done_reads new rest done))

-- ---- the answers of a call

-- the end of a body
pub answers_end : (old : State) (ahead rest : List ℕ) (passed : Passed)
    → Passes old ahead passed rest → passed.front ≡ front.End
    → Answers old ahead passed.state rest cut.End
answers_end old ahead rest passed passes is =
    let done : is_done passed.state ≡ true = rw is at passes.stands in
    let parts = ap (λ (x : List ℕ). length x) passes.takes.split in (
      length passes.takes.taken,
      Takes-ended old passed.state ahead rest passes.takes done,
      omega (arith, parts, length-append passes.takes.taken rest),
      done,
    )

-- a run of body bytes, or out of memory for it
pub answers_run : (old new : State) (ahead mid rest : List ℕ) (passed : Passed) (given : Cut)
    → Passes old ahead passed mid → passed.front ≡ front.Run
    → TakesRun passed.state mid new rest given → Answers old ahead new rest given
answers_run old new ahead mid rest passed (cut.Piece piece end) passes is takes =
    let some : 0 < length (run passed.state mid) = rw is at passes.stands in
    record {
      at = passed.state;
      behind_framing = mid;
      framing = passes.takes;
      longest = record {
        run_is = takes.0;
        stands = takes.1
            ∙ ap (λ (x : List ℕ). after_run passed.state (length x)) (sym takes.0);
      };
      some = omega (arith, some, ap (λ (x : List ℕ). length x) takes.0);
      moved = rw (takes.0, takes.2) (run_split passed.state mid);
      is_end = takes.3;
    }
answers_run old new ahead mid rest passed cut.End passes is takes = absurd takes
answers_run old new ahead mid rest passed cut.More passes is takes = absurd takes
answers_run old new ahead mid rest passed (cut.Failed fail.OutOfMemory) passes is takes =
    rw (takes.0, takes.1) (rw is at passes.stands)
answers_run old new ahead mid rest passed (cut.Failed (fail.Error error)) passes is takes =
    absurd takes

-- and what is left behind it
pub takes_run : (old new : State) (ahead mid rest : List ℕ) (passed : Passed) (given : Cut)
    → Passes old ahead passed mid → TakesRun passed.state mid new rest given
    → Takes old ahead (piece_of given) new rest
takes_run old new ahead mid rest passed (cut.Piece piece end) passes takes =
    let at = passed.state in
    let n = length (run at mid) in
    rw (takes.0, takes.1, takes.2)
    (Takes-append old at (after_run at n) ahead mid (drop n mid) [] (run at mid) passes.takes
    (Takes-run at mid))
takes_run old new ahead mid rest passed cut.End passes takes = absurd takes
takes_run old new ahead mid rest passed cut.More passes takes = absurd takes
takes_run old new ahead mid rest passed (cut.Failed fail.OutOfMemory) passes takes =
    rw (takes.0, takes.1) passes.takes
takes_run old new ahead mid rest passed (cut.Failed (fail.Error error)) passes takes = absurd takes

-- ---- the body so far

-- the place at first is one of the framing
first_of : (framing : Framing) → is_of framing (first_state framing) ≡ true
first_of framing.Empty = refl
first_of (framing.Length n) = refl
first_of framing.Chunked = refl
first_of framing.UntilClose = refl
first_of framing.Tunnel = refl

-- what is read at first is the body
first_reads : (framing : Framing) (bytes : List ℕ) (text : BodyText)
    → Reads (first_state framing) bytes text → Body framing bytes text
first_reads framing.Empty bytes text reads = reads
first_reads (framing.Length n) bytes text reads = reads
first_reads framing.Chunked bytes text reads = reads
first_reads framing.UntilClose bytes text reads = reads
first_reads framing.Tunnel bytes text reads = reads

-- nothing was read yet
pub SoFar-first : (framing : Framing) (ahead : List ℕ)
    → SoFar framing ahead [] (first_state framing) ahead
SoFar-first framing ahead = record {
  consumed = [];
  split = refl;
  of_framing = first_of framing;
  says = λ later text reads.
      subst (Body framing later) (sym (behind-nothing text)) (first_reads framing later text reads);
}

-- what a call takes stands behind what was taken before
pub SoFar-take : (framing : Framing) (given body piece ahead rest : List ℕ) (old new : State)
    → Takes old ahead piece new rest → SoFar framing given body old ahead
    → SoFar framing given (body ++ piece) new rest
SoFar-take framing given body piece ahead rest old new takes so_far = record {
  consumed = so_far.consumed ++ takes.taken;
  split = so_far.split ∙ ap (λ x. so_far.consumed ++ x) takes.split
      ∙ sym (append_assoc so_far.consumed takes.taken rest);
  of_framing = takes.over.of_framing framing so_far.of_framing;
  says =
      λ later text reads.
      let there = takes.over.says later text reads in
      let whole = so_far.says (takes.taken ++ later) _ there in
      let same = behind-twice (length so_far.consumed) (length takes.taken) body piece text in
      rw (append_assoc, length-append so_far.consumed takes.taken, ← same) whole;
}

-- more bytes have come
pub SoFar-more : (framing : Framing) (given body ahead more : List ℕ) (at : State)
    → SoFar framing given body at ahead → SoFar framing (given ++ more) body at (ahead ++ more)
SoFar-more framing given body ahead more at so_far = record {
  consumed = so_far.consumed;
  split = ap (λ x. x ++ more) so_far.split ∙ append_assoc so_far.consumed ahead more;
  of_framing = so_far.of_framing;
  says = so_far.says;
}

-- what is told from the place where the reader is tells the body
pub SoFar-reads : (framing : Framing) (given body ahead : List ℕ) (at : State) (text : BodyText)
    → SoFar framing given body at ahead → Reads at ahead text
    → Body framing given (behind (length given - length ahead) body text)
SoFar-reads framing given body ahead at text so_far reads =
    let size = length-append so_far.consumed ahead in
    let parts = ap (λ (x : List ℕ). length x) so_far.split in
    let here : length given - length ahead ≡ length so_far.consumed = omega arith in
    rw (here, so_far.split) (so_far.says ahead text reads)

-- a body that has ended
SoFar-ended : (framing : Framing) (given body ahead : List ℕ) (at : State)
    → SoFar framing given body at ahead → is_done at ≡ true
    → Body framing given (ended_text body (length given - length ahead))
SoFar-ended framing given body ahead at so_far done =
    rw (append-nil, add-zero) at
    (SoFar-reads framing given body ahead at (ended_text [] 0) so_far (done_reads at ahead done))

-- the answer of a call tells the body
pub SoFar-tells : (framing : Framing) (given body ahead rest : List ℕ) (old new : State)
    (answer : Cut)
    → Answers old ahead new rest answer → Takes old ahead (piece_of answer) new rest
    → SoFar framing given body old ahead
    → Tells framing given (body ++ piece_of answer) (length rest) answer
SoFar-tells framing given body ahead rest old new (cut.Piece piece end) answers takes so_far = λ is.
    SoFar-ended framing given (body ++ piece) rest new
    (SoFar-take framing given body piece ahead rest old new takes so_far) (sym answers.is_end ∙ is)
SoFar-tells framing given body ahead rest old new cut.End answers takes so_far =
    SoFar-ended framing given (body ++ []) rest new
    (SoFar-take framing given body [] ahead rest old new takes so_far) answers.3
SoFar-tells framing given body ahead rest old new cut.More answers takes so_far =
    SoFar-reads framing given body ahead old (open_text []) so_far answers
SoFar-tells framing given body ahead rest old new (cut.Failed fail.OutOfMemory) answers takes
    so_far =
    tt
SoFar-tells framing given body ahead rest old new (cut.Failed (fail.Error error)) answers takes
    so_far =
    SoFar-reads framing given body ahead old broken_text so_far answers.1

-- ---- what is told from a place is one thing

-- one text
Reads-unique : (at : State) (bytes : List ℕ) (a b : BodyText) → Reads at bytes a → Reads at bytes b
    → a ≡ b
Reads-unique state.ChunkLine bytes a b x y = Chunked-unique at_line bytes a b x y
Reads-unique (state.Chunk left) bytes a b x y = Chunked-unique (in_chunk left) bytes a b x y
Reads-unique state.ChunkEnd bytes a b x y = Chunked-unique behind_chunk bytes a b x y
Reads-unique state.Trailer bytes a b x y = Chunked-unique in_trailer bytes a b x y
Reads-unique (state.Length left) bytes a b x y = x ∙ sym y
Reads-unique state.UntilClose bytes a b x y = x ∙ sym y
Reads-unique state.Tunnel bytes a b x y = x ∙ sym y
Reads-unique state.Done bytes a b x y = x ∙ sym y

-- and always some text
Reads-total : (at : State) (bytes : List ℕ) → (text : BodyText) × Reads at bytes text
Reads-total state.ChunkLine bytes = Chunked-total at_line bytes
Reads-total (state.Chunk left) bytes = Chunked-total (in_chunk left) bytes
Reads-total state.ChunkEnd bytes = Chunked-total behind_chunk bytes
Reads-total state.Trailer bytes = Chunked-total in_trailer bytes
Reads-total (state.Length left) bytes = (_, refl)
Reads-total state.UntilClose bytes = (_, refl)
Reads-total state.Tunnel bytes = (_, refl)
Reads-total state.Done bytes = (_, refl)

-- what the old place tells is the piece and then what the new place tells, and nothing else
pub GoesOver-back : (old new : State) (bytes piece later : List ℕ) (text : BodyText)
    → GoesOver old bytes piece new → Reads old (bytes ++ later) text
    → (rest : BodyText) × Reads new later rest × (text ≡ behind (length bytes) piece rest)
GoesOver-back old new bytes piece later text over reads =
    let rest = Reads-total new later in
    let there = over.says later rest.0 rest.1 in
    (rest.0, rest.1, Reads-unique old (bytes ++ later) text _ reads there)

-- where a piece was taken, the text has bytes
holds_bytes : (old new : State) (ahead piece rest : List ℕ) (text : BodyText)
    → Takes old ahead piece new rest → 0 < length piece → Reads old ahead text
    → 0 < length text.bytes
holds_bytes old new ahead piece rest text takes some reads =
    let behind_it = Reads-total new rest in
    let there = Takes-reads old new ahead piece rest behind_it.0 takes behind_it.1 in
    let same = Reads-unique old ahead text _ reads there in
    let size = ap (λ (t : BodyText). length t.bytes) same in
    omega (arith, some, size, length-append piece behind_it.0.bytes)

-- nor where memory is wanted for one
holds_run : (old new : State) (ahead rest : List ℕ) (text : BodyText)
    → Takes old ahead [] new rest → 0 < length (run new rest) → Reads old ahead text
    → 0 < length text.bytes
holds_run old new ahead rest text takes some reads =
    let n = length (run new rest) in
    let all =
    Takes-append old new (after_run new n) ahead rest (drop n rest) [] (run new rest) takes
    (Takes-run new rest) in
    holds_bytes old (after_run new n) ahead (run new rest) (drop n rest) text all some reads

-- the texts without a byte of the body are three kinds
open_or_ended : (n : ℕ) → ¬ (open_text [] ≡ ended_text [] n)
open_or_ended n same = let marks = ap (λ (t : BodyText). t.mark) same in cc

open_or_broken : ¬ (open_text [] ≡ broken_text)
open_or_broken same = let marks = ap (λ (t : BodyText). t.mark) same in cc

ended_or_broken : (n : ℕ) → ¬ (ended_text [] n ≡ broken_text)
ended_or_broken n same = let marks = ap (λ (t : BodyText). t.mark) same in cc

-- where the text says nothing yet, so does the answer
only_more : (old new : State) (ahead rest : List ℕ) (given : Cut)
    → Answers old ahead new rest given → Takes old ahead (piece_of given) new rest
    → Reads old ahead (open_text []) → given ≡ cut.More
only_more old new ahead rest (cut.Piece piece end) answers takes reads =
    let some = holds_bytes old new ahead piece rest (open_text []) takes answers.some reads in
    absurd (omega arith)
only_more old new ahead rest cut.End answers takes reads =
    absurd (open_or_ended answers.0 (Reads-unique old ahead _ _ reads answers.1))
only_more old new ahead rest cut.More answers takes reads = refl
only_more old new ahead rest (cut.Failed fail.OutOfMemory) answers takes reads =
    let some = holds_run old new ahead rest (open_text []) takes answers reads in
    absurd (omega arith)
only_more old new ahead rest (cut.Failed (fail.Error error)) answers takes reads =
    absurd (open_or_broken (Reads-unique old ahead _ _ reads answers.1))

-- where the text ends, so does the answer
only_end : (old new : State) (ahead rest : List ℕ) (given : Cut) (n : ℕ)
    → Answers old ahead new rest given → Takes old ahead (piece_of given) new rest
    → Reads old ahead (ended_text [] n) → given ≡ cut.End
only_end old new ahead rest (cut.Piece piece end) n answers takes reads =
    let some = holds_bytes old new ahead piece rest (ended_text [] n) takes answers.some reads in
    absurd (omega arith)
only_end old new ahead rest cut.End n answers takes reads = refl
only_end old new ahead rest cut.More n answers takes reads =
    absurd (open_or_ended n (Reads-unique old ahead _ _ answers reads))
only_end old new ahead rest (cut.Failed fail.OutOfMemory) n answers takes reads =
    let some = holds_run old new ahead rest (ended_text [] n) takes answers reads in
    absurd (omega arith)
only_end old new ahead rest (cut.Failed (fail.Error error)) n answers takes reads =
    absurd (ended_or_broken n (Reads-unique old ahead _ _ reads answers.1))

-- where the text is broken, so is the answer
only_broken : (old new : State) (ahead rest : List ℕ) (given : Cut)
    → Answers old ahead new rest given → Takes old ahead (piece_of given) new rest
    → Reads old ahead broken_text → given ≡ cut.Failed (fail.Error (refused BadFraming))
only_broken old new ahead rest (cut.Piece piece end) answers takes reads =
    let some = holds_bytes old new ahead piece rest broken_text takes answers.some reads in
    absurd (omega arith)
only_broken old new ahead rest cut.End answers takes reads =
    absurd (ended_or_broken answers.0 (Reads-unique old ahead _ _ answers.1 reads))
only_broken old new ahead rest cut.More answers takes reads =
    absurd (open_or_broken (Reads-unique old ahead _ _ answers reads))
only_broken old new ahead rest (cut.Failed fail.OutOfMemory) answers takes reads =
    let some = holds_run old new ahead rest broken_text takes answers reads in
    absurd (omega arith)
only_broken old new ahead rest (cut.Failed (fail.Error error)) answers takes reads =
    ap (λ e. cut.Failed (fail.Error e)) answers.0

-- the answers are exact
pub answers_exactly : (old new : State) (ahead rest : List ℕ) (given : Cut)
    → Answers old ahead new rest given → Takes old ahead (piece_of given) new rest
    → IsExact old ahead given
answers_exactly old new ahead rest given answers takes = record {
  more = (
    λ is. subst (λ (g : Cut). Answers old ahead new rest g) is answers,
    only_more old new ahead rest given answers takes,
  );
  end = (
    λ is.
        let ends = subst (λ (g : Cut). Answers old ahead new rest g) is answers in
        (ends.0, ends.1),
    λ ends. only_end old new ahead rest given ends.0 answers takes ends.1,
  );
  broken_there = (
    λ is. (subst (λ (g : Cut). Answers old ahead new rest g) is answers).1,
    only_broken old new ahead rest given answers takes,
  );
}

-- ---- all that a call owes

-- what the clauses of a call say
pub record Meets (old : State) (ahead : List ℕ) (new : State) (rest : List ℕ) (given : Cut)
    : Type 0 where
  pub answer : Answers old ahead new rest given
  pub takes : Takes old ahead (piece_of given) new rest

-- a run
pub meets_run : (old new : State) (ahead mid rest : List ℕ) (passed : Passed) (given : Cut)
    → Passes old ahead passed mid → passed.front ≡ front.Run
    → TakesRun passed.state mid new rest given → Meets old ahead new rest given
meets_run old new ahead mid rest passed given passes is takes = record {
  answer = answers_run old new ahead mid rest passed given passes is takes;
  takes = takes_run old new ahead mid rest passed given passes takes;
}

-- the end
pub meets_end : (old : State) (ahead rest : List ℕ) (passed : Passed)
    → Passes old ahead passed rest → passed.front ≡ front.End
    → Meets old ahead passed.state rest cut.End
meets_end old ahead rest passed passes is = record {
  answer = answers_end old ahead rest passed passes is;
  takes = passes.takes;
}

-- nothing yet
pub meets_more : (old : State) (ahead rest : List ℕ) (passed : Passed)
    → Passes old ahead passed rest → passed.front ≡ front.More
    → Meets old ahead passed.state rest cut.More
meets_more old ahead rest passed passes is = record {
  answer =
      Takes-reads old passed.state ahead [] rest (open_text []) passes.takes
      (rw is at passes.stands);
  takes = passes.takes;
}

-- what is broken
pub meets_broken : (old : State) (ahead rest : List ℕ) (passed : Passed) (error : Error)
    → Passes old ahead passed rest → passed.front ≡ front.Broken → error ≡ refused BadFraming
    → Meets old ahead passed.state rest (cut.Failed (fail.Error error))
meets_broken old ahead rest passed error passes is refusal = record {
  answer = (
    refusal,
    Takes-reads old passed.state ahead [] rest broken_text passes.takes (rw is at passes.stands),
  );
  takes = passes.takes;
}

-- the answer comes exactly where the text says so
pub meets_exactly : {old new : State} {ahead rest : List ℕ} {given : Cut}
    → Meets old ahead new rest given → IsExact old ahead given
meets_exactly {old} {new} {ahead} {rest} {given} meets =
    answers_exactly old new ahead rest given meets.answer meets.takes

-- the body so far goes on
pub meets_so_far : {old new : State} {ahead rest : List ℕ} {given : Cut}
    → Meets old ahead new rest given → (framing : Framing) (all body : List ℕ)
    → SoFar framing all body old ahead → SoFar framing all (body ++ piece_of given) new rest
meets_so_far {old} {new} {ahead} {rest} {given} meets framing all body =
    SoFar-take framing all body (piece_of given) ahead rest old new meets.takes

-- and the answer tells it
pub meets_tells : {old new : State} {ahead rest : List ℕ} {given : Cut}
    → Meets old ahead new rest given → (framing : Framing) (all body : List ℕ)
    → SoFar framing all body old ahead
    → Tells framing all (body ++ piece_of given) (length rest) given
meets_tells {old} {new} {ahead} {rest} {given} meets framing all body =
    SoFar-tells framing all body ahead rest old new given meets.answer meets.takes

-- ---- the end of a body

-- where nothing more is to come, the body has ended
pub nothing_more : (at : State) → Reads at [] (ended_text [] 0) → is_done at ≡ true
nothing_more state.ChunkLine reads =
    let still : Chunked at_line [] (open_text []) =
    body.Chunked.line_open [] (record { no_end = refl; may_end = omega arith }) in
    absurd (open_or_ended 0 (Reads-unique state.ChunkLine [] _ _ still reads))
nothing_more (state.Chunk zero) reads =
    let still : Chunked (in_chunk 0) [] (open_text []) =
    body.Chunked.chunk_whole [] 0 (open_text []) (omega arith)
    (body.Chunked.crlf_open [] (omega arith)) in
    absurd (open_or_ended 0 (Reads-unique (state.Chunk 0) [] _ _ still reads))
nothing_more (state.Chunk (suc left)) reads =
    let still : Chunked (in_chunk (suc left)) [] (open_text []) =
    body.Chunked.chunk_open [] (suc left) (omega arith) in
    absurd (open_or_ended 0 (Reads-unique (state.Chunk (suc left)) [] _ _ still reads))
nothing_more state.ChunkEnd reads =
    let still : Chunked behind_chunk [] (open_text []) =
    body.Chunked.crlf_open [] (omega arith) in
    absurd (open_or_ended 0 (Reads-unique state.ChunkEnd [] _ _ still reads))
nothing_more state.Trailer reads =
    let still : Chunked in_trailer [] (open_text []) =
    body.Chunked.trailer_open [] (record { no_end = refl; may_end = omega arith }) in
    absurd (open_or_ended 0 (Reads-unique state.Trailer [] _ _ still reads))
nothing_more (state.Length zero) reads = refl
nothing_more (state.Length (suc left)) reads =
    let none : nat_le (suc left) 0 ≡ false = grind (arith, nat_tests) in
    let still : of_length (suc left) [] ≡ open_text [] = rw none refl in
    absurd (open_or_ended 0 (sym still ∙ sym reads))
nothing_more state.UntilClose reads = absurd (open_or_ended 0 (sym reads))
nothing_more state.Tunnel reads = absurd (open_or_ended 0 (sym reads))
nothing_more state.Done reads = refl
