-- Without a tunnel, whether a half failed or not, nothing is put behind the end of the request,
-- and an end of the response is asked for only where it is due.
use Rattle.std.proofs.Common.{◌≡◌, true, false, List, [], ◌++◌, Result, Ok, Err, refl, sym, ap, ◌∙◌, subst, inl, inr, ◌⊎◌, append-nil}
use Rattle.std.specs.List.{list_any}
use Rattle.relay_tasks.specs.declared.error.Fail.{Fail}
use Rattle.relay_tasks.specs.declared.task.HttpTask.{HttpTask}
use Rattle.relay_tasks.specs.declared.took.Took.{Took}
use Rattle.relay_tasks.specs.declared.took.Took.TheVariants as took
use Rattle.relay_tasks.specs.Task.{is_end}
use Rattle.relay_links.specs.declared.link.Put.{Put}
use Rattle.relay_core.specs.declared.duplex.Duplex.{Duplex}
use Rattle.relay_core.specs.declared.piece.Piece.{Piece}
use Rattle.relay_core.specs.Down.{DownState, ReadsPiece, TakesBatch, Finishes}
use Rattle.relay_core.specs.Down as down
use Rattle.relay_core.specs.Moves.{Steady, Ordinary, EndsLast}
use Rattle.relay_core.specs.Past.{DownPast, UpPast, put_in}
use Rattle.relay_core.specs.State.{is_response_done}
use Rattle.relay_core.specs.Table.{State, is_failed, after_down_read}
use Rattle.relay_core.proofs.BoolLemmas.{clash}
use Rattle.relay_core.proofs.OrdinaryLemmas.{SameEnds, same_ends}
use Rattle.relay_core.proofs.OrdinaryDown.{down_writes_ends}

-- what is done for its cause where no half failed is so too where one does
pub steady_of : (s : State) (p : DownPast) (q : UpPast) → Ordinary s p q → Steady s p
steady_of s p q o = record {
  ends_last = o.ends_last;
  ended = o.ended;
  closed = elim o.closed [
    | inl none ↦ inl none
    | inr done ↦ inr (o.answered done)
  ];
}

-- the client's side tells the same ends, and the lists of its past are as they were
pub steady_at : (old new : State) (p p' : DownPast) → SameEnds old.down new.down
    → p'.put ≡ p.put → p'.batched ≡ p.batched → p'.closing ≡ p.closing → Steady old p
    → Steady new p'
steady_at old new p p' same is_put is_batched is_closing t = record {
  ends_last = let P : List HttpTask → Type 0 = λ xs. EndsLast xs in
      subst P (sym is_put) t.ends_last;
  ended = λ h. same.request ∙ t.ended (ap (list_any is_end) (sym is_put) ∙ h);
  closed = elim t.closed [
    | inl none ↦ inl (is_closing ∙ none)
    | inr over ↦ elim over [
      | inl given ↦ inr (inl (ap (list_any is_end) is_batched ∙ given))
      | inr said ↦ inr (inr (same.response ∙ said))
    ]
  ];
}

-- a step that asks nothing of the client leaves its ends
pub steady_same : (old new : State) (p : DownPast) → new.down ≡ old.down
    → (old.down.upgraded ≡ false → Steady old p) → new.down.upgraded ≡ false → Steady new p
steady_same old new p is steady plain =
    steady_at old new p p (same_ends old.down new.down is) refl refl refl
    (steady (sym (ap (λ (s : DownState). s.upgraded) is) ∙ plain))

-- a write to the client leaves its ends, whatever its answer
pub steady_down_write : (old new : State) (answer : Put) (p p' : DownPast)
    → down.Writes old.down new.down answer → p'.put ≡ p.put → p'.batched ≡ p.batched
    → p'.closing ≡ p.closing → Steady old p → Steady new p'
steady_down_write old new answer p p' writes is_put is_batched is_closing t =
    steady_at old new p p' (down_writes_ends old.down new.down answer writes) is_put is_batched
    is_closing t

-- the client was read: a piece does not fail the step, and any other answer puts nothing
pub steady_down_read : (old new : State) (answer : Took Piece) (p p' : DownPast) (q : UpPast)
    → ReadsPiece old.down new.down answer
    → new.duplex ≡ after_down_read old.duplex old.down.upgraded answer
    → is_failed old.duplex.word ≡ false → p'.put ≡ p.put ++ put_in old.down.upgraded answer
    → p'.batched ≡ p.batched → p'.closing ≡ p.closing
    → (is_failed new.duplex.word ≡ false → Ordinary new p' q) → Steady old p → Steady new p'
steady_down_read old new (took.Item piece) p p' q reads is alive is_put is_batched is_closing
    ordinary t =
    steady_of new p' q (ordinary (ap (λ (d : Duplex). is_failed d.word) is ∙ alive))
steady_down_read old new took.More p p' q reads is alive is_put is_batched is_closing ordinary t =
    steady_at old new p p' (same_ends old.down new.down reads) (is_put ∙ append-nil p.put)
    is_batched is_closing t
steady_down_read old new (took.Waited why) p p' q reads is alive is_put is_batched is_closing
    ordinary t =
    steady_at old new p p'
    (record {
      request = ap (λ (s : DownState). s.request_ended) reads;
      response = ap (λ (s : DownState). s.response_done) reads;
    }) (is_put ∙ append-nil p.put) is_batched is_closing t
steady_down_read old new took.End p p' q reads is alive is_put is_batched is_closing ordinary t =
    absurd reads
steady_down_read old new (took.Failed why) p p' q reads is alive is_put is_batched is_closing
    ordinary t =
    steady_at old new p p'
    (record {
      request = ap (λ (s : DownState). s.request_ended) reads;
      response = ap (λ (s : DownState). s.response_done) reads;
    }) (is_put ∙ append-nil p.put) is_batched is_closing t

-- where the response is not done, no end of it was asked for
pub not_yet_asked : (old : State) (p p' : DownPast) (q : UpPast)
    → is_response_done old.duplex.client_response ≡ false → p'.closing ≡ p.closing
    → Ordinary old p q → p'.closing ≡ []
not_yet_asked old p p' q open_yet is_closing o =
    elim o.closed [
      | inl none ↦ is_closing ∙ none
      | inr done ↦ clash (is_response_done old.duplex.client_response) done open_yet
    ]

-- a batch was refused: the response is not done, so that no end of it was asked for
pub steady_refused : (old new : State) (batch : List HttpTask) (why : Fail) (p p' : DownPast)
    (q : UpPast) → TakesBatch old.down batch new.down (Err why)
    → is_response_done old.duplex.client_response ≡ false → p'.put ≡ p.put
    → p'.closing ≡ p.closing → Ordinary old p q → Steady new p'
steady_refused old new batch why p p' q takes open_yet is_put is_closing o = record {
  ends_last = let P : List HttpTask → Type 0 = λ xs. EndsLast xs in
      subst P (sym is_put) o.ends_last;
  ended = λ h. ap (λ (s : DownState). s.request_ended) takes.exact
      ∙ o.ended (ap (list_any is_end) (sym is_put) ∙ h);
  closed = inl (not_yet_asked old p p' q open_yet is_closing o);
}

-- ending the response's body leaves what the client's side tells, whatever the answer
down_ends_same : (old new : DownState) (answer : Result Unit Fail) → Finishes old new answer
    → SameEnds old new
down_ends_same old new (Ok done) ends = record {
  request = ap (λ (s : DownState). s.request_ended) ends.exact;
  response = ap (λ (s : DownState). s.response_done) ends.exact;
}
down_ends_same old new (Err why) ends = record {
  request = ap (λ (s : DownState). s.request_ended) ends;
  response = ap (λ (s : DownState). s.response_done) ends;
}

-- an end of the response is asked for only where it is done: behind an end among its tasks, or
-- where the client's side said so, which it still says whatever the answer
pub asked_when_done : (old new : State) (answer : Result Unit Fail) (p p' : DownPast) (q : UpPast)
    → Finishes old.down new.down answer → is_response_done old.duplex.client_response ≡ true
    → p'.batched ≡ p.batched → Ordinary old p q
    → (list_any is_end p'.batched ≡ true) ⊎ (new.down.response_done ≡ true)
asked_when_done old new answer p p' q ends response is_batched o =
    let same = down_ends_same old.down new.down answer ends in
    elim (o.answered response) [
      | inl given ↦ inl (ap (list_any is_end) is_batched ∙ given)
      | inr said ↦ inr (same.response ∙ said)
    ]

-- the response is done where an end of it is asked for
pub steady_down_finish : (old new : State) (answer : Result Unit Fail) (p p' : DownPast)
    (q : UpPast) → Finishes old.down new.down answer
    → is_response_done old.duplex.client_response ≡ true → p'.put ≡ p.put
    → p'.batched ≡ p.batched → Ordinary old p q → Steady new p'
steady_down_finish old new answer p p' q ends response is_put is_batched o =
    let same = down_ends_same old.down new.down answer ends in
    record {
      ends_last = let P : List HttpTask → Type 0 = λ xs. EndsLast xs in
          subst P (sym is_put) o.ends_last;
      ended = λ h. same.request ∙ o.ended (ap (list_any is_end) (sym is_put) ∙ h);
      closed = inr (asked_when_done old new answer p p' q ends response is_batched o);
    }
