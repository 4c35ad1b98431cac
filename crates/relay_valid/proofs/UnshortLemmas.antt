-- A request in order is never sent short: its pieces, with the end among them, are a whole body.
--
--   request_unshort   from IsInOrder: the pieces that were sent leave nothing of the length missing
--   never_short       so no request ends short, where both heads agree
--   never_early       nor is a response over early
use Rattle.std.proofs.Common.{◌≡◌, ℕ, ◌-◌, Bool, true, false, List, ◌++◌, length, drop, refl, sym, ap, subst, ◌∙◌, arith, append-nil, inl, inr, nat_le}
use Rattle.std.specs.List.{list_any, concat}
use Rattle.std.proofs.lemmas.Bool.{cases_lt}
use Rattle.std.proofs.lemmas.Bool.Decides.{nat_tests}
use Rattle.std.proofs.lemmas.List.{length-take-le}
use Rattle.relay_tasks.specs.declared.task.HttpTask.{HttpTask}
use Rattle.relay_links.specs.Link.{LinkState, LinkStart}
use Rattle.relay_tasks.specs.Task.{is_end}
use Rattle.relay_h1.specs.declared.framing.Framing.{Framing}
use Rattle.relay_h1.specs.declared.framing.Framing.TheVariants as framing
use Rattle.relay_h1.specs.Body.{BodyText, Body, ended_text, of_length}
use Rattle.relay_h1.specs.Body as body
use Rattle.relay_h1.specs.BodyWire.{after_pieces, is_short}
use Rattle.relay_peer.specs.RequestWriting.{body_framing}
use Rattle.relay_core.specs.Past.{Origin}
use Rattle.relay_peer.specs.Body.{IsFrontOf, body_of}
use Rattle.relay_peer.proofs.FrontLemmas.{front_then}
use Rattle.relay_attempt.specs.Agrees.{Agrees}
use Rattle.relay_attempt.specs.Order.{EndsEarly, IsInOrder, SendsShort}
use Rattle.relay_attempt.proofs.ShortLemmas.{after_length, framing_is, stays_unshort}
use Rattle.relay_attempt.specs.Passed.{Passed, asked}

-- a whole body with a length has that many bytes
length_whole : (n m : ℕ) (bytes whole : List ℕ) → ended_text whole m ≡ of_length n bytes
    → length whole ≡ n
length_whole n m bytes whole is =
    elim (cases_lt (length bytes) n) [
      | inl few ↦
          let open_here : nat_le n (length bytes) ≡ false = grind (arith, nat_tests) in
          let mark : (of_length n bytes).mark ≡ body.BodyMark.still_open = rw open_here refl in
          absurd (apart (ap (λ (t : BodyText). t.mark) is ∙ mark))
      | inr enough ↦
          ap (λ (t : BodyText). length t.bytes) is ∙ length-take-le n bytes (omega arith)
    ]
  where
    apart : body.BodyMark.ended m ≡ body.BodyMark.still_open → ⊥
    apart same = cc

-- a length of which nothing is missing is not short
none_missing : (n : ℕ) → n ≡ 0 → is_short (framing.Length n) ≡ false
none_missing n none = ap (λ (k : ℕ). is_short (framing.Length k)) none

-- a whole body does not end short
whole_unshort : (given : Framing) (bytes whole : List ℕ) (n : ℕ) (pieces : List (List ℕ))
    → Body given bytes (ended_text whole n) → concat pieces ≡ whole
    → is_short (after_pieces given pieces) ≡ false
whole_unshort framing.Empty bytes whole n pieces reads joined =
    stays_unshort framing.Empty (λ piece. refl) refl pieces
whole_unshort (framing.Length m) bytes whole n pieces reads joined =
    ap (λ (f : Framing). is_short f) (after_length m pieces)
    ∙ none_missing (m - length (concat pieces))
    (omega (
      arith,
      length_whole m n bytes whole reads,
      ap (λ (xs : List ℕ). length xs) joined,
    ))
whole_unshort framing.Chunked bytes whole n pieces reads joined =
    stays_unshort framing.Chunked (λ piece. refl) refl pieces
whole_unshort framing.UntilClose bytes whole n pieces reads joined =
    stays_unshort framing.UntilClose (λ piece. refl) refl pieces
whole_unshort framing.Tunnel bytes whole n pieces reads joined =
    stays_unshort framing.Tunnel (λ piece. refl) refl pieces

-- a request in order does not end short, where both heads agree
pub request_unshort : (s : Origin) → Agrees s.head s.sent → (p : Passed) (closed : Bool)
    (order : IsInOrder s p closed) (front : List HttpTask) (pieces : List (List ℕ))
    → IsFrontOf front order.taken
    → list_any is_end front ≡ true → concat pieces ≡ body_of front
    → is_short (after_pieces (body_framing s.sent) pieces) ≡ false
request_unshort s agrees p closed order front pieces first found joined =
    let said = order.are_pieces in
    let among = front_then front order.taken order.pieces first order.first_taken in
    let none = said.ends_last front among.rest (sym among.joined) found in
    let same : front ≡ order.pieces =
    sym (append-nil front) ∙ ap (λ (l : List HttpTask). front ++ l) (sym none) ∙ among.joined in
    let whole = said.whole (subst (λ (l : List HttpTask). list_any is_end l ≡ true) same found) in
    let bytes = drop order.asks.len (asked s p) in
    ap (λ (f : Framing). is_short (after_pieces f pieces))
    (framing_is s.sent order.asks.framing (agrees.framing ∙ order.asks.has.framed))
    ∙ whole_unshort order.asks.framing bytes (body_of order.pieces) whole.0 pieces
    (subst (λ (t : BodyText). Body order.asks.framing bytes t) whole.1 said.says)
    (joined ∙ ap body_of same)

-- so no request ends short
pub never_short : (s : Origin) → Agrees s.head s.sent → (p : Passed) (closed : Bool)
    (order : IsInOrder s p closed) → SendsShort s p closed order → ⊥
never_short s agrees p closed order short =
    apart (sym short.short
    ∙ request_unshort s agrees p closed order short.front short.pieces short.first short.ended
    short.joined)
  where
    apart : true ≡ false → ⊥
    apart same = cc

-- nor is a response over towards the client before its end was read
pub never_early : (s : Origin) → Agrees s.head s.sent → (p : Passed) (link : LinkState)
    (start : LinkStart) → EndsEarly s p link start → ⊥
never_early s agrees p link start early = early.differs agrees.method
