-- What a request of a length is sent as: fewer bytes than its length say are a request that ends
-- short, and such a request is none that was sent whole.
--
--   after_length     what is left of a length behind pieces
--   stays_unshort    a framing that pieces leave as it is
--   framing_is       the framing of a head that has one
--   short_or_whole   no request was sent short and whole
use Rattle.std.proofs.Common.{◌≡◌, ℕ, ◌+◌, ◌-◌, ◌≤◌, ◌<◌, Bool, true, false, ◌⊎◌, inl, inr, List, [], ◌∷◌, ◌++◌, length, take, refl, sym, ap, subst, ◌∙◌, arith, append-nil, Option, Some}
use Rattle.std.specs.Prelude.{unwrap_or, if◌then◌else◌}
use Rattle.std.specs.List.{concat}
use Rattle.std.proofs.lemmas.Bool.Decides.{nat_tests}
use Rattle.std.proofs.lemmas.List.{length-append, length-take}
use Rattle.std.proofs.lemmas.List.Folds.{concat-append}
use Rattle.relay_tasks.specs.declared.task.HttpTask.{HttpTask}
use Rattle.relay_tasks.specs.Head.{RequestHead}
use Rattle.relay_tasks.specs.Task.{is_end}
use Rattle.relay_h1.specs.declared.framing.Framing.{Framing}
use Rattle.relay_h1.specs.declared.framing.Framing.TheVariants as framing
use Rattle.relay_h1.specs.BodyWire.{after_piece, after_pieces, body_text, end_text, is_short, pieces_text}
use Rattle.relay_h1.specs.Framing.{request_framing}
use Rattle.relay_h1.specs.Wire.{request_text}
use Rattle.relay_core.specs.Past.{Origin}
use Rattle.relay_peer.specs.Body.{body_of, bytes_of, sent_as, sent_behind}
use Rattle.relay_peer.specs.RequestWriting as writing
use Rattle.relay_peer.specs.RequestWriting.{Sent, body_framing, sent_wire}
use Rattle.relay_peer.proofs.FrontLemmas.{front_then}
use Rattle.relay_attempt.specs.Order.{IsInOrder, MayServe, SendsShort}
use Rattle.relay_attempt.specs.Passed.{Passed}

-- ---- what is left of a body

-- what is left of a length behind pieces
pub after_length : (n : ℕ) (pieces : List (List ℕ))
    → after_pieces (framing.Length n) pieces ≡ framing.Length (n - length (concat pieces))
after_length n [] = ap (λ (k : ℕ). framing.Length k) (none n)
  where
    none : (k : ℕ) → k ≡ k - 0
    none k = omega arith
after_length n (piece ∷ pieces) =
    after_length (n - length piece) pieces
    ∙ ap (λ (k : ℕ). framing.Length k)
    (parts n (length piece) (length (concat pieces)) (length (piece ++ concat pieces))
    (length-append piece (concat pieces)))
  where
    parts : (k a b all : ℕ) → all ≡ a + b → k - a - b ≡ k - all
    parts k a b all sum = omega arith

-- a framing that a piece leaves as it is stays
stays_framed : (given : Framing) → ((piece : List ℕ) → after_piece given piece ≡ given)
    → (pieces : List (List ℕ)) → after_pieces given pieces ≡ given
stays_framed given keeps [] = refl
stays_framed given keeps (piece ∷ pieces) =
    ap (λ (f : Framing). after_pieces f pieces) (keeps piece) ∙ stays_framed given keeps pieces

-- so it is not short where it was not
pub stays_unshort : (given : Framing) → ((piece : List ℕ) → after_piece given piece ≡ given)
    → is_short given ≡ false → (pieces : List (List ℕ))
    → is_short (after_pieces given pieces) ≡ false
stays_unshort given keeps unshort pieces =
    ap (λ (f : Framing). is_short f) (stays_framed given keeps pieces) ∙ unshort

-- the framing of a head that has one
pub framing_is : (head : RequestHead) (given : Framing) → request_framing head ≡ Some given
    → body_framing head ≡ given
unfolding body_framing
framing_is head given framed = ap (λ (f : Option Framing). unwrap_or f framing.Empty) framed

-- ---- how long a text is

-- the text of pieces of a length has no more bytes than they have
text_within : (n : ℕ) (pieces : List (List ℕ))
    → length (pieces_text (framing.Length n) pieces) ≤ length (concat pieces)
text_within n [] = omega arith
text_within n (piece ∷ pieces) =
    let later = text_within (n - length piece) pieces in
    omega (
      arith,
      later,
      length-append (take n piece) (pieces_text (framing.Length (n - length piece)) pieces),
      length-take n piece,
      length-append piece (concat pieces),
    )

-- where none of the length is missing it has that many at least
text_whole : (n : ℕ) (pieces : List (List ℕ)) → n ≤ length (concat pieces)
    → n ≤ length (pieces_text (framing.Length n) pieces)
text_whole n [] enough = enough
text_whole n (piece ∷ pieces) enough =
    let all = length-append piece (concat pieces) in
    let later = text_whole (n - length piece) pieces (omega (arith, enough, all)) in
    omega (
      arith,
      later,
      length-append (take n piece) (pieces_text (framing.Length (n - length piece)) pieces),
      length-take n piece,
    )

-- where a length is not short, none of it is missing
unshort_length : (n : ℕ) (pieces : List (List ℕ))
    → is_short (after_pieces (framing.Length n) pieces) ≡ false → n ≤ length (concat pieces)
unshort_length n pieces fits =
    on (n - length (concat pieces))
    (ap (λ (f : Framing). is_short f) (sym (after_length n pieces)) ∙ fits) refl
  where
    on : (k : ℕ) → is_short (framing.Length k) ≡ false → n - length (concat pieces) ≡ k
        → n ≤ length (concat pieces)
    on k unshort is =
        let none : k ≡ 0 = grind (arith, nat_tests, unshort) in
        omega (arith, none, is)

-- where it is, some is
short_length : (n : ℕ) (pieces : List (List ℕ))
    → is_short (after_pieces (framing.Length n) pieces) ≡ true → length (concat pieces) < n
short_length n pieces short =
    on (n - length (concat pieces))
    (ap (λ (f : Framing). is_short f) (sym (after_length n pieces)) ∙ short) refl
  where
    on : (k : ℕ) → is_short (framing.Length k) ≡ true → n - length (concat pieces) ≡ k
        → length (concat pieces) < n
    on k some is =
        let more : 0 < k = grind (arith, nat_tests, some) in
        omega (arith, more, is)

-- the text of a body of some length is that of its pieces
length_text : (n : ℕ) (pieces : List (List ℕ))
    → body_text (framing.Length n) pieces ≡ pieces_text (framing.Length n) pieces
length_text n pieces =
    ap (λ (f : Framing). pieces_text (framing.Length n) pieces ++ end_text f)
    (after_length n pieces) ∙ append-nil (pieces_text (framing.Length n) pieces)

-- ---- what a request is sent as

-- it is sent with that head and pieces that have no more than so many bytes
record IsWithin (head : RequestHead) (most : ℕ) (sent : Sent) : Type 0 where
  pub pieces : List (List ℕ)
  pub is : (sent ≡ writing.Sent.begun head pieces) ⊎ (sent ≡ writing.Sent.whole head pieces)
  pub within : length (concat pieces) ≤ most

-- tasks behind what was sent bring no more than their bytes
behind_within : (head : RequestHead) (most : ℕ) (sent : Sent) (tasks : List HttpTask)
    → IsWithin head most sent
    → IsWithin head (most + length (body_of tasks)) (sent_behind sent tasks)
behind_within head most sent [] is =
    record { pieces = is.pieces; is = is.is; within = omega (arith, is.within) }
behind_within head most sent (one ∷ tasks) is =
    let size = length-append (bytes_of one) (body_of tasks) in
    let later = behind_within head (most + length (bytes_of one))
    (if is_end one then writing.with_end (writing.with_piece sent (bytes_of one))
    else writing.with_piece sent (bytes_of one)) tasks (on (is_end one) is.is) in
    record {
      pieces = later.pieces;
      is = later.is;
      within = omega (arith, later.within, size);
    }
  where
    piece : List ℕ
    piece = bytes_of one

    more : length (concat (is.pieces ++ piece ∷ [])) ≤ most + length piece
    more =
        let all = ap (λ (l : List ℕ). length l) (concat-append is.pieces (piece ∷ [])) in
        omega (
          arith,
          all,
          is.within,
          length-append (concat is.pieces) (concat (piece ∷ [])),
          ap (λ (l : List ℕ). length l) (append-nil piece),
        )

    on : (ends : Bool)
        → (sent ≡ writing.Sent.begun head is.pieces) ⊎ (sent ≡ writing.Sent.whole head is.pieces)
        → IsWithin head (most + length piece)
        (if ends then writing.with_end (writing.with_piece sent piece)
        else writing.with_piece sent piece)
    on true (inl begun) = record {
      pieces = is.pieces ++ piece ∷ [];
      is = inr (ap (λ (x : Sent). writing.with_end (writing.with_piece x piece)) begun);
      within = more;
    }
    on false (inl begun) = record {
      pieces = is.pieces ++ piece ∷ [];
      is = inl (ap (λ (x : Sent). writing.with_piece x piece) begun);
      within = more;
    }
    on true (inr whole) = record {
      pieces = is.pieces;
      is = inr (ap (λ (x : Sent). writing.with_end (writing.with_piece x piece)) whole);
      within = omega (arith, is.within);
    }
    on false (inr whole) = record {
      pieces = is.pieces;
      is = inr (ap (λ (x : Sent). writing.with_piece x piece) whole);
      within = omega (arith, is.within);
    }

-- its text has the head's and no more bytes than the tasks bring, where its body has a length
sent_within : (head : RequestHead) (n : ℕ) (tasks : List HttpTask)
    → body_framing head ≡ framing.Length n
    → length (sent_wire (sent_as head tasks))
    ≤ length (request_text head) + length (body_of tasks)
sent_within head n tasks is =
    on (behind_within head 0 (writing.Sent.begun head []) tasks
    (record { pieces = []; is = inl refl; within = omega arith }))
  where
    text : List (List ℕ) → List ℕ
    text pieces = request_text head ++ pieces_text (framing.Length n) pieces

    on : IsWithin head (0 + length (body_of tasks)) (sent_as head tasks)
        → length (sent_wire (sent_as head tasks))
        ≤ length (request_text head) + length (body_of tasks)
    on w = elim w.is [
      | inl begun ↦
          omega (
            arith,
            ap (λ (x : Sent). length (sent_wire x)) begun,
            ap (λ (f : Framing). length (request_text head ++ pieces_text f w.pieces)) is,
            length-append (request_text head) (pieces_text (framing.Length n) w.pieces),
            text_within n w.pieces,
            w.within,
          )
      | inr whole ↦
          omega (
            arith,
            ap (λ (x : Sent). length (sent_wire x)) whole,
            ap (λ (f : Framing). length (request_text head ++ body_text f w.pieces)) is,
            ap (λ (l : List ℕ). length (request_text head ++ l)) (length_text n w.pieces),
            length-append (request_text head) (pieces_text (framing.Length n) w.pieces),
            text_within n w.pieces,
            w.within,
          )
    ]

-- ---- short or whole

-- a framing in which pieces end short has a length
record HasLength (f : Framing) : Type 0 where
  pub n : ℕ
  pub is : f ≡ framing.Length n

short_has : (f : Framing) (pieces : List (List ℕ)) → is_short (after_pieces f pieces) ≡ true
    → HasLength f
short_has framing.Empty pieces short =
    let wrong = sym short ∙ stays_unshort framing.Empty (λ piece. refl) refl pieces in absurd (cc)
short_has (framing.Length n) pieces short = record { n = n; is = refl }
short_has framing.Chunked pieces short =
    let wrong = sym short ∙ stays_unshort framing.Chunked (λ piece. refl) refl pieces in absurd (cc)
short_has framing.UntilClose pieces short =
    let wrong = sym short ∙ stays_unshort framing.UntilClose (λ piece. refl) refl pieces in
    absurd (cc)
short_has framing.Tunnel pieces short =
    let wrong = sym short ∙ stays_unshort framing.Tunnel (λ piece. refl) refl pieces in absurd (cc)

-- the pieces of a request that ended short are all that were taken
short_all : (s : Origin) (p : Passed) (closed : Bool) (order : IsInOrder s p closed)
    (short : SendsShort s p closed order) → short.front ≡ order.taken
short_all s p closed order short =
    let among = front_then short.front order.taken order.pieces short.first order.first_taken in
    let none = order.are_pieces.ends_last short.front among.rest (sym among.joined) short.ended in
    let all : short.front ≡ order.pieces =
    sym (append-nil short.front) ∙ ap (λ (l : List HttpTask). short.front ++ l) (sym none)
    ∙ among.joined in
    on (order.first_taken.rest) short.first.rest short.first.joined
    (ap (λ (l : List HttpTask). l ++ order.first_taken.rest) short.first.joined
    ∙ order.first_taken.joined ∙ sym all)
  where
    on : (behind rest : List HttpTask) → short.front ++ rest ≡ order.taken
        → (short.front ++ rest) ++ behind ≡ short.front → short.front ≡ order.taken
    on behind [] is same = sym (append-nil short.front) ∙ is
    on behind (one ∷ rest) is same =
        let all = ap (λ (l : List HttpTask). length l) same in
        absurd (omega (
          arith,
          all,
          length-append (short.front ++ one ∷ rest) behind,
          length-append short.front (one ∷ rest),
        ))

-- no request was sent short and whole
pub short_or_whole : (s : Origin) (p : Passed) (closed : Bool) (order : IsInOrder s p closed)
    → SendsShort s p closed order → MayServe s p closed order → ⊥
short_or_whole s p closed order short serves =
    let has = short_has (body_framing s.sent) short.pieces short.short in
    let few = short_length has.n short.pieces
    (subst (λ (f : Framing). is_short (after_pieces f short.pieces) ≡ true) has.is short.short) in
    let enough = text_whole has.n serves.pieces
    (unshort_length has.n serves.pieces
    (subst (λ (f : Framing). is_short (after_pieces f serves.pieces) ≡ false) has.is
    serves.complete)) in
    omega (
      arith,
      few,
      enough,
      ap (λ (l : List ℕ). length l) serves.request,
      ap (λ (f : Framing). length (request_text s.sent ++ body_text f serves.pieces)) has.is,
      ap (λ (l : List ℕ). length (request_text s.sent ++ l)) (length_text has.n serves.pieces),
      length-append (request_text s.sent) (pieces_text (framing.Length has.n) serves.pieces),
      ap (λ (l : List ℕ). length l) order.sent.joined,
      length-append p.sent order.sent.rest,
      sent_within s.sent has.n order.taken has.is,
      ap (λ (l : List HttpTask). length (body_of l)) (short_all s p closed order short),
      ap (λ (l : List ℕ). length l) short.joined,
    )
