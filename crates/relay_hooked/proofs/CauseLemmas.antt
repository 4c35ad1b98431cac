-- An end of what the filter of requests left was told to a call, or a call took a piece away.
use Rattle.std.proofs.Common.{◌≡◌, All, Bool, true, false, ◌⊎◌, List, [], ◌∷◌, Option, Some, None, refl, sym, ap, ◌∙◌, inl, inr}
use Rattle.std.specs.Prelude.{◌||◌, ◌&&◌, is_none}
use Rattle.std.specs.List.{list_any}
use Rattle.std.proofs.lemmas.List.Elements.{All-head, All-tail}
use Rattle.relay_tasks.specs.Task.{is_end}
use Rattle.relay_tasks.specs.declared.error.Error.{Error}
use Rattle.relay_tasks.specs.declared.log.Item.{Item}
use Rattle.relay_tasks.specs.declared.log.LogEntry.{LogEntry}
use Rattle.relay_core.specs.Past.{Origin}
use Rattle.relay_filters.specs.Request.{PieceCall, end_in, ended_by, has_piece, is_end_by, is_end_in, is_told_end, passed, pieces_in, takes_away}
use Rattle.relay_attempt.specs.Passed.{Passed}
use Rattle.relay_hooked.specs.Calls.{Filtering}
use Rattle.relay_hooked.specs.Order.{IsInOrderWith, is_taken, takes}
use Rattle.relay_hooked.proofs.NeutralLemmas.{passed_none}
use Rattle.relay_hooked.proofs.PassedLemmas.{passed_ends}

-- one of two
or_split : (a b : Bool) → (a || b) ≡ true → (a ≡ true) ⊎ (b ≡ true)
or_split true b is = inl refl
or_split false b is = inr is

or_left : (a b : Bool) → a ≡ true → (a || b) ≡ true
or_left true b is = refl
or_left false b is = cc

or_right : (a b : Bool) → b ≡ true → (a || b) ≡ true
or_right true b is = refl
or_right false b is = is

-- the call that ended the request was told the end, or took the piece away
by_call : (e : LogEntry) → PieceCall e → is_end_by e ≡ true
    → (is_told_end e ≡ true) ⊎ (takes e ≡ true)
by_call e call ends = by_error e.error refl
  where
    left_is : (given : Bool) → is_end_in given e.output ≡ (call.end || takes_away given call.left)
    left_is given = ap (λ (i : Item). is_end_in given i) call.became

    on : (is_told_end e ≡ true) ⊎ (is_taken (has_piece e.input) e.output ≡ true)
        → e.error ≡ None → (is_told_end e ≡ true) ⊎ (takes e ≡ true)
    on (inl told) ok = inl told
    on (inr taken) ok =
        inr (ap (λ (o : Option Error). is_none o && is_taken (has_piece e.input) e.output) ok
        ∙ taken)

    by_error : (o : Option Error) → e.error ≡ o → (is_told_end e ≡ true) ⊎ (takes e ≡ true)
    by_error None ok =
        let is_end = sym (ap (λ (o : Option Error).
        is_none o && is_end_in (has_piece e.input) e.output) ok) ∙ ends in
        elim (or_split call.end (takes_away (has_piece e.input) call.left)
        (sym (left_is (has_piece e.input)) ∙ is_end)) [
          | inl last ↦ on (inl (ap end_in call.was ∙ last)) ok
          | inr taken ↦ on (inr (ap (λ (i : Item). is_taken (has_piece e.input) i) call.became
              ∙ taken)) ok
        ]
    by_error (Some error) bad =
        absurd (no_end (sym (ap (λ (o : Option Error).
        is_none o && is_end_in (has_piece e.input) e.output) bad) ∙ ends))
      where
        no_end : false ≡ true → ⊥
        no_end is = cc

-- so one of the calls was, or did
by_calls : (a : Bool) (es : List LogEntry) → All PieceCall es → ended_by a es ≡ true
    → (a ≡ true) ⊎ ((list_any is_told_end es ≡ true) ⊎ (list_any takes es ≡ true))
by_calls a [] none ends = inl ends
by_calls a (e ∷ es) all ends =
    elim (by_calls (a || is_end_by e) es (All-tail PieceCall e es all) ends) [
      | inl before ↦ elim (or_split a (is_end_by e) before) [
        | inl was ↦ inl was
        | inr here ↦ elim (by_call e (All-head PieceCall e es all) here) [
          | inl told ↦ inr (inl (or_left (is_told_end e) (list_any is_told_end es) told))
          | inr taken ↦ inr (inr (or_left (takes e) (list_any takes es) taken))
        ]
      ]
      | inr (inl told) ↦ inr (inl (or_right (is_told_end e) (list_any is_told_end es) told))
      | inr (inr taken) ↦ inr (inr (or_right (takes e) (list_any takes es) taken))
    ]

-- an end that passed has its cause
end_passed : (a : Bool) (es : List LogEntry) → All PieceCall es
    → list_any is_end (passed a es) ≡ true
    → (list_any is_told_end es ≡ true) ⊎ (list_any takes es ≡ true)
end_passed true es all ends =
    absurd (none_there (sym (ap (list_any is_end) (passed_none es)) ∙ ends))
  where
    none_there : false ≡ true → ⊥
    none_there is = cc
end_passed false es all ends = elim (by_calls false es all (sym (passed_ends es) ∙ ends)) [
  | inl wrong ↦ absurd (none_there wrong)
  | inr why ↦ why
]
  where
    none_there : false ≡ true → ⊥
    none_there is = cc

-- and so has one of what the filter left
pub end_caused : (refused : Option Error) (f : Filtering) (s : Origin) (p : Passed) (closed : Bool)
    (order : IsInOrderWith refused f s p closed) → list_any is_end order.pieces ≡ true
    → (list_any is_end order.came ≡ true) ⊎ (list_any takes (pieces_in f.calls) ≡ true)
end_caused refused f s p closed order ends =
    elim (end_passed f.at_first (pieces_in f.calls) order.passed.each
    (sym (ap (list_any is_end) order.passed.left) ∙ ends)) [
      | inl told ↦ inl (order.passed.told told)
      | inr taken ↦ inr taken
    ]
