-- Without a failure and without a tunnel, what is done is done for its cause, whatever step is
-- taken.
use Rattle.std.proofs.Common.{◌≡◌, List, refl, sym, ap, ◌∙◌, subst, inl, inr}
use Rattle.std.specs.List.{list_any}
use Rattle.relay_tasks.specs.declared.task.HttpTask.{HttpTask}
use Rattle.relay_tasks.specs.Task.{is_end}
use Rattle.relay_core.specs.Down.{DownState}
use Rattle.relay_core.specs.Moves.{Ordinary, EndsLast}
use Rattle.relay_core.specs.Past.{DownPast, UpPast}
use Rattle.relay_core.specs.Table.{State}

-- the pasts have these lists
pub ordinary_at : (s : State) (p p' : DownPast) (q q' : UpPast) → p'.put ≡ p.put
    → p'.batched ≡ p.batched → p'.closing ≡ p.closing → q'.lost ≡ q.lost → Ordinary s p q
    → Ordinary s p' q'
ordinary_at s p p' q q' is_put is_batched is_closing is_lost o = record {
  ends_last = let P : List HttpTask → Type 0 = λ xs. EndsLast xs in
      subst P (sym is_put) o.ends_last;
  ended = λ h. o.ended (ap (list_any is_end) (sym is_put) ∙ h);
  request_done = o.request_done;
  unlost = λ h. is_lost ∙ o.unlost h;
  whole = o.whole;
  put_end = λ h. elim (o.put_end h) [
    | inl end ↦ inl (ap (list_any is_end) is_put ∙ end)
    | inr done ↦ inr done
  ];
  taken_end = o.taken_end;
  sent = o.sent;
  through = o.through;
  answered = λ h. elim (o.answered h) [
    | inl given ↦ inl (ap (list_any is_end) is_batched ∙ given)
    | inr said ↦ inr said
  ];
  client_done = o.client_done;
  closed = elim o.closed [
    | inl none ↦ inl (is_closing ∙ none)
    | inr done ↦ inr done
  ];
}

-- what the client's side tells of its request and its response stays
pub record SameEnds (old new : DownState) : Type 0 where
  pub request : new.request_ended ≡ old.request_ended
  pub response : new.response_done ≡ old.response_done

-- a side that became one with the same ends keeps them
pub ends_of : (old mid new : DownState) → new ≡ mid → mid.request_ended ≡ old.request_ended
    → mid.response_done ≡ old.response_done → SameEnds old new
ends_of old mid new is request response = record {
  request = ap (λ (s : DownState). s.request_ended) is ∙ request;
  response = ap (λ (s : DownState). s.response_done) is ∙ response;
}

-- a side that stayed as it was keeps its ends
pub same_ends : (old new : DownState) → new ≡ old → SameEnds old new
same_ends old new is = ends_of old old new is refl refl
