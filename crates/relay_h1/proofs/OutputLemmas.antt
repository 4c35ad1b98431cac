-- The bytes that wait: a piece, and what was gathered behind it.
use Rattle.std.proofs.Common.{◌≡◌, ℕ, ◌+◌, ◌-◌, ◌≤◌, ◌<◌, List, [], ◌++◌, length, take, drop, sym, ap, ◌∙◌, arith, append-nil, append_assoc, Result, Ok, Err, OnOk}
use Rattle.std.proofs.Math.Seq.{drop-append-add}
use Rattle.std.proofs.lemmas.List.{drop-drop, drop-append-le, take-append-le, drop-take}
use Rattle.bytes.proofs.Ranges.{take-append_past}

-- behind the first n of both, where these are of the piece
pub drop_of_piece : (piece rest : List ℕ) (n : ℕ) → n < length piece
    → drop n piece ++ rest ≡ drop n (piece ++ rest)
drop_of_piece piece rest n within = sym (drop-append-le n piece rest (omega arith))

-- behind the first n of both, where the piece is among them
pub drop_past_piece : (piece items : List ℕ) (start n : ℕ) → length piece ≤ n
    → drop (start + (n - length piece)) items ≡ drop n (piece ++ drop start items)
drop_past_piece piece items start n past =
    let split : n ≡ length piece + (n - length piece) = omega arith in
    sym (drop-drop (n - length piece) start items)
    ∙ sym (drop-append-add piece (drop start items) (n - length piece))
    ∙ ap (λ (m : ℕ). drop m (piece ++ drop start items)) (sym split)

-- the first n of both, where these are of the piece
pub take_of_piece : (piece items : List ℕ) (start n : ℕ) → n ≤ length piece
    → take n piece ++ drop start (take start items) ≡ take n (piece ++ drop start items)
take_of_piece piece items start n within =
    let none : drop start (take start items) ≡ [] =
    ap (λ (m : ℕ). drop start (take m items)) (omega arith) ∙ drop-take start 0 items in
    rw none (append-nil (take n piece) ∙ sym (take-append-le n piece (drop start items) within))

-- the first n of both, where the piece is among them
pub take_past_piece : (piece items : List ℕ) (start n : ℕ) → length piece ≤ n
    → piece ++ drop start (take (start + (n - length piece)) items)
    ≡ take n (piece ++ drop start items)
take_past_piece piece items start n past =
    let behind = n - length piece in
    ap (λ (l : List ℕ). piece ++ l) (drop-take start behind items)
    ∙ sym (take-append_past piece (drop start items) behind n (omega arith))

-- what was put behind the text stands behind all that waits
pub waits_behind : {V E : Type 0} (result : Result V E) (piece items new text waits : List ℕ)
    (start : ℕ) → start ≤ length items → piece ++ drop start items ≡ waits
    → OnOk result (new ≡ items ++ text) → OnOk result (piece ++ drop start new ≡ waits ++ text)
waits_behind (Ok value) piece items new text waits start within is grown =
    ap (λ (l : List ℕ). piece ++ drop start l) grown
    ∙ ap (λ (l : List ℕ). piece ++ l) (drop-append-le start items text within)
    ∙ sym (append_assoc piece (drop start items) text)
    ∙ ap (λ (l : List ℕ). l ++ text) is
waits_behind (Err error) piece items new text waits start within is grown = tt
