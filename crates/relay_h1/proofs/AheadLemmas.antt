-- The bytes ahead, as their buffer changes.
use Rattle.std.proofs.Common.{◌≡◌, ℕ, ◌+◌, ◌-◌, ◌≤◌, List, ◌++◌, length, take, drop, slice_range, sym, ◌∙◌, ap, arith, None}
use Rattle.std.proofs.lemmas.List.{length-take-le, take-take, take-append-le, append-nil, drop-append-le}
use Rattle.std.proofs.lemmas.List.Edits.{length-between}
use Rattle.std.proofs.lemmas.Slice.{between_is}
use Rattle.bytes.proofs.Ranges.{drop-slice_range, take-append_past}
use Rattle.relay_links.specs.declared.link.Got.{Got}
use Rattle.relay_links.specs.declared.link.Got.TheVariants as got
use Rattle.relay_links.specs.Link.{LinkState, Reads}
use Rattle.relay_h1.specs.Ahead.{IsAhead}
use Rattle.relay_h1.specs.HeadEnd.{head_end, NoMarkBefore}
use Rattle.relay_h1.specs.Move.{ReadsMore, given, read_size}
use Rattle.relay_h1.proofs.HeadEndLemmas.{NoMarkBefore-drop, NoMarkBefore-append, no_mark_without_end}

-- the front is consumed
pub IsAhead-consume : (buffer : List ℕ) (start end searched n : ℕ)
    → IsAhead buffer start end searched
    → n ≤ length (slice_range buffer start end) → IsAhead buffer (start + n) end (searched - n)
IsAhead-consume buffer start end searched n ahead some =
    let size = length-between buffer start end ahead.within in
    let rest = drop-slice_range buffer start end n (omega arith) in
    record {
      ordered = omega arith;
      within = ahead.within;
      margin = omega (arith, ahead.margin);
      known =
          λ k less. rw (← rest)
          (NoMarkBefore-drop n searched (slice_range buffer start end) ahead.known k less);
    }

-- all was searched in vain
pub IsAhead-searched : (buffer : List ℕ) (start end searched : ℕ)
    → IsAhead buffer start end searched
    → head_end (slice_range buffer start end) ≡ None → IsAhead buffer start end (end - start - 3)
IsAhead-searched buffer start end searched ahead none =
    record {
      ordered = ahead.ordered;
      within = ahead.within;
      margin = omega arith;
      known = λ k less. no_mark_without_end (slice_range buffer start end) none k;
    }

-- the front, and some of what follows it
pub take-behind : (front room post : List ℕ) (end n : ℕ) → length front ≡ end → n ≤ length room
    → take (end + n) (front ++ (room ++ post)) ≡ front ++ take n room
take-behind front room post end n size fits =
    take-append_past front (room ++ post) n (end + n) (omega arith)
    ∙ ap (λ x. front ++ x) (take-append-le n room post fits)

-- what a read left in the room stands behind the bytes before it
pub ReadsMore-room : (before after : LinkState) (old room new : List ℕ) (end : ℕ) (answer : Got)
    → length room ≡ read_size → Reads before room after answer
    → ((n : ℕ) → n ≤ length room → take (end + n) new ≡ old ++ take n room)
    → ReadsMore before after old (take (end + given answer) new) answer
ReadsMore-room before after old room new end (got.Bytes n) size reads behind =
    record {
      room = room;
      sized = size;
      gives = reads;
      grown = behind n reads.fits;
    }
ReadsMore-room before after old room new end got.NotReady size reads behind =
    (reads, behind 0 (omega arith) ∙ append-nil old)
ReadsMore-room before after old room new end got.Silent size reads behind =
    (reads, behind 0 (omega arith) ∙ append-nil old)
ReadsMore-room before after old room new end got.End size reads behind =
    (reads, behind 0 (omega arith) ∙ append-nil old)
ReadsMore-room before after old room new end (got.Failed fault) size reads behind =
    (reads, behind 0 (omega arith) ∙ append-nil old)

-- the same behind what was consumed
pub ReadsMore-drop : (before after : LinkState) (old new : List ℕ) (start : ℕ) (answer : Got)
    → start ≤ length old → ReadsMore before after old new answer
    → ReadsMore before after (drop start old) (drop start new) answer
ReadsMore-drop before after old new start (got.Bytes n) inside more =
    record {
      room = more.room;
      sized = more.sized;
      gives = more.gives;
      grown = ap (drop start) more.grown ∙ drop-append-le start old (take n more.room) inside;
    }
ReadsMore-drop before after old new start got.NotReady inside more =
    (more.0, ap (drop start) more.1)
ReadsMore-drop before after old new start got.Silent inside more = (more.0, ap (drop start) more.1)
ReadsMore-drop before after old new start got.End inside more = (more.0, ap (drop start) more.1)
ReadsMore-drop before after old new start (got.Failed fault) inside more =
    (more.0, ap (drop start) more.1)

-- and what a read brings completes no mark that begins so far before the end
pub NoMarkBefore-more : (before after : LinkState) (old new : List ℕ) (place : ℕ) (answer : Got)
    → place ≤ length old - 3 → NoMarkBefore place old → ReadsMore before after old new answer
    → NoMarkBefore place new
NoMarkBefore-more before after old new place (got.Bytes n) margin none_before more = λ k less.
    rw more.grown
    (NoMarkBefore-append place old (take n more.room) (omega arith) none_before k less)
NoMarkBefore-more before after old new place got.NotReady margin none_before more =
    rw more.1 none_before
NoMarkBefore-more before after old new place got.Silent margin none_before more =
    rw more.1 none_before
NoMarkBefore-more before after old new place got.End margin none_before more = rw more.1 none_before
NoMarkBefore-more before after old new place (got.Failed fault) margin none_before more =
    rw more.1 none_before

-- the bytes ahead are the buffer up to their end, without what was consumed
pub ReadsMore-ahead : (before after : LinkState) (buffer grown bytes : List ℕ) (start end : ℕ)
    (answer : Got)
    → start ≤ end → end ≤ length buffer → slice_range buffer start end ≡ bytes
    → ReadsMore before after (take end buffer) (take (end + given answer) grown) answer
    → ReadsMore before after bytes (slice_range grown start (end + given answer)) answer
ReadsMore-ahead before after buffer grown bytes start end answer ordered within are more =
    let size = length-take-le end buffer within in
    let cut =
    ReadsMore-drop before after (take end buffer) (take (end + given answer) grown) start
    answer (omega arith) more in
    rw (between_is grown start (end + given answer), ← are, between_is buffer start end) cut

-- a buffer that was lengthened has the same bytes up to the old end
pub take_lengthened : (old new : List ℕ) (end len : ℕ) → end ≤ len → take len new ≡ old
    → take end new ≡ take end old
take_lengthened old new end len within front = rw (← front) (sym (take-take end len new within))

-- more bytes came behind those ahead
pub IsAhead-grow : (before after : LinkState) (buffer grown : List ℕ) (start end searched : ℕ)
    (answer : Got)
    → IsAhead buffer start end searched → end + given answer ≤ length grown
    → ReadsMore before after (slice_range buffer start end)
    (slice_range grown start (end + given answer)) answer
    → IsAhead grown start (end + given answer) searched
IsAhead-grow before after buffer grown start end searched answer ahead within more =
    let size = length-between buffer start end ahead.within in
    record {
      ordered = omega (arith, ahead.ordered);
      within = within;
      margin = omega (arith, ahead.margin);
      known =
          NoMarkBefore-more before after (slice_range buffer start end) _ searched answer
          (omega (arith, ahead.margin)) ahead.known more;
    }
