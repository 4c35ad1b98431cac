-- How the writing of a request goes on.
use Rattle.std.proofs.Common.{◌≡◌, ℕ, ◌^◌, ◌<◌, false, List, [], ◌∷◌, ◌++◌, length, refl, sym, ap, subst, ◌∙◌, append-nil, append_assoc, Option, Some, Result, Ok, Err, OnOk, unwrap_or}
use Rattle.std.proofs.lemmas.List.Elements.{All-nil}
use Rattle.relay_tasks.specs.Head.{RequestHead}
use Rattle.relay_h1.specs.declared.framing.Framing.{Framing}
use Rattle.relay_h1.specs.declared.framing.Framing.TheVariants as framing
use Rattle.relay_h1.specs.BodyWire.{HasWritten, after_piece, pieces_text, piece_text}
use Rattle.relay_h1.specs.Framing.{request_framing, IsFramedBy}
use Rattle.relay_h1.specs.Verdict.{refused_from}
use Rattle.relay_h1.proofs.JudgeLemmas.{not_framed}
use Rattle.relay_tasks.specs.declared.context.Context.TheVariants.{BadFraming}
use Rattle.relay_tasks.specs.declared.error.Error.{Error}
use Rattle.relay_tasks.specs.declared.error.ErrorSource.TheVariants.{Internal}
use Rattle.relay_h1.specs.Wire.{request_text}
use Rattle.relay_peer.specs.declared.request_writing.RequestPlace.{RequestPlace}
use Rattle.relay_peer.specs.declared.request_writing.RequestPlace.TheVariants as request
use Rattle.relay_peer.specs.declared.request_writing.RequestWriting.{RequestWriting}
use Rattle.relay_peer.specs.RequestWriting.{Sent, SentSoFar, Stands, with_head, with_piece, has_head, body_framing}
use Rattle.relay_peer.specs.RequestWriting as writing

-- the framing of a head that has one
framing_is : (head : RequestHead) (given : Framing) → request_framing head ≡ Some given
    → body_framing head ≡ given
unfolding body_framing
framing_is head given framed = ap (λ (f : Option Framing). unwrap_or f framing.Empty) framed

-- nothing of a body was written yet
none_written : (given : Framing) → HasWritten given [] [] given
none_written given = record {
  fit = All-nil (λ piece. length piece < 2 ^ 64);
  is_text = refl;
  is_rest = refl;
}

-- no head was queued
no_head : (at : RequestPlace) → has_head at ≡ false → at ≡ request.NoHead
no_head request.NoHead none = refl
no_head (request.Sending sending) none = cc

-- the head is the first
head_queued : (sent : Sent) (taken unsent : List ℕ) (head : RequestHead) (rest : Framing)
    → request_framing head ≡ Some rest
    → SentSoFar sent taken (record { request = request.NoHead; unsent = unsent })
    → SentSoFar (with_head sent head) taken
    (record {
      request = request.Sending (record { head = head; body = rest });
      unsent = unsent ++ request_text head;
    })
head_queued writing.Sent.nothing taken unsent head rest framed so_far = record {
  stands = (
    refl,
    subst (λ (f : Framing). HasWritten f [] [] rest) (sym (framing_is head rest framed))
        (none_written rest),
  );
  text = sym (append_assoc taken unsent (request_text head))
      ∙ ap (λ (xs : List ℕ). xs ++ request_text head) so_far.text
      ∙ sym (append-nil (request_text head));
}
head_queued (writing.Sent.begun first pieces) taken unsent head rest framed so_far =
    absurd so_far.stands
head_queued (writing.Sent.whole first pieces) taken unsent head rest framed so_far =
    absurd so_far.stands

-- the same, where the writing has no head
pub first_head : (sent : Sent) (taken : List ℕ) (old : RequestWriting) (unsent : List ℕ)
    (head : RequestHead) (rest : Framing) → request_framing head ≡ Some rest
    → has_head old.request ≡ false → unsent ≡ old.unsent ++ request_text head
    → SentSoFar sent taken old
    → SentSoFar (with_head sent head) taken
    (record { request = request.Sending (record { head = head; body = rest }); unsent = unsent })
first_head sent taken old unsent head rest framed none queued so_far =
    let none_yet = no_head old.request none in
    subst (λ (xs : List ℕ). SentSoFar (with_head sent head) taken
    (record { request = request.Sending (record { head = head; body = rest }); unsent = xs }))
    (sym queued)
    (head_queued sent taken old.unsent head rest framed
    (subst (λ (r : RequestPlace).
    SentSoFar sent taken (record { request = r; unsent = old.unsent }))
    none_yet so_far))

-- what was written of a body goes on with the piece
PieceGoesOn : Framing → List ℕ → Framing → Type 0
PieceGoesOn rest piece after =
    (given : Framing) (pieces : List (List ℕ)) (text : List ℕ)
    → HasWritten given pieces text rest
    → HasWritten given (pieces ++ piece ∷ []) (text ++ piece_text rest piece) after

-- a piece is queued behind a head
piece_queued : (sent : Sent) (taken old new piece : List ℕ) (head : RequestHead)
    (rest after : Framing) → new ≡ old ++ piece_text rest piece → after ≡ after_piece rest piece
    → PieceGoesOn rest piece after
    → SentSoFar sent taken
    (record { request = request.Sending (record { head = head; body = rest }); unsent = old })
    → SentSoFar (with_piece sent piece) taken
    (record { request = request.Sending (record { head = head; body = after }); unsent = new })
unfolding PieceGoesOn
piece_queued writing.Sent.nothing taken old new piece head rest after grown is goes so_far =
    absurd so_far.stands
piece_queued (writing.Sent.begun first pieces) taken old new piece head rest after grown is goes
    so_far =
    let given = body_framing first in
    let w = goes given pieces (pieces_text given pieces) so_far.stands.1 in
    record {
      stands = (
        so_far.stands.0,
        subst (λ (t : List ℕ). HasWritten given (pieces ++ piece ∷ []) t after) w.is_text w,
      );
      text =
          ap (λ (xs : List ℕ). taken ++ xs) grown
          ∙ sym (append_assoc taken old (piece_text rest piece))
          ∙ ap (λ (xs : List ℕ). xs ++ piece_text rest piece) so_far.text
          ∙ append_assoc (request_text first) (pieces_text given pieces) (piece_text rest piece)
          ∙ ap (λ (xs : List ℕ). request_text first ++ xs) w.is_text;
    }
piece_queued (writing.Sent.whole first pieces) taken old new piece head rest after grown is goes
    so_far =
    let ended : rest ≡ framing.Empty = so_far.stands.1 in
    let stays : after ≡ framing.Empty =
    is ∙ ap (λ (r : Framing). after_piece r piece) ended in
    let none : new ≡ old =
    grown ∙ ap (λ (r : Framing). old ++ piece_text r piece) ended ∙ append-nil old in
    record {
      stands = (so_far.stands.0, stays, so_far.stands.2);
      text = ap (λ (xs : List ℕ). taken ++ xs) none ∙ so_far.text;
    }

-- the same, where the piece was queued
pub piece_behind : {A E : Type 0} (result : Result A E) (old : RequestWriting)
    (new piece : List ℕ) (head : RequestHead) (rest after : Framing)
    → old.request ≡ request.Sending (record { head = head; body = rest })
    → OnOk result (new ≡ old.unsent ++ piece_text rest piece)
    → OnOk result (after ≡ after_piece rest piece)
    → OnOk result ((given : Framing) (pieces : List (List ℕ)) (text : List ℕ)
    → HasWritten given pieces text rest
    → HasWritten given (pieces ++ piece ∷ []) (text ++ piece_text rest piece) after)
    → OnOk result ((sent : Sent) (taken : List ℕ) → SentSoFar sent taken old
    → SentSoFar (with_piece sent piece) taken
    (record { request = request.Sending (record { head = head; body = after }); unsent = new }))
unfolding PieceGoesOn
piece_behind (Ok count) old new piece head rest after at grown is goes =
    λ sent taken so_far.
    piece_queued sent taken old.unsent new piece head rest after grown is goes
    (subst (λ (r : RequestPlace).
    SentSoFar sent taken (record { request = r; unsent = old.unsent }))
    at so_far)
piece_behind (Err error) old new piece head rest after at grown is goes = tt

-- the head's framing was refused
pub not_framed_in : (head : RequestHead) (inner outer : Error)
    → IsFramedBy (Err inner) (request_framing head) → outer ≡ record inner { esource = Internal }
    → outer ≡ refused_from Internal BadFraming
not_framed_in head inner outer is out =
    out ∙ ap (λ (e : Error). record e { esource = Internal })
    (not_framed inner (request_framing head) is).1

-- what an Ok answer ensures under a premise that holds
pub on_ok : {A E : Type 0} (P Q : Type 0) (result : Result A E) → OnOk result (P → Q) → P
    → OnOk result Q
on_ok P Q (Ok a) ensures here = ensures here
on_ok P Q (Err e) ensures here = tt
