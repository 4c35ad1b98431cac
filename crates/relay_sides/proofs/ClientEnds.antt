-- The end of the response: it was asked for before, is queued, or refused.
use Rattle.std.proofs.Common.{◌≡◌, ℕ, ◌<◌, Bool, true, false, List, [], ◌∷◌, ◌++◌, length, Option, Some, None, Err, refl, sym, ◌∙◌, ap, subst, append-nil, append_assoc, length-append, inl, inr, arith}
use Rattle.std.specs.Prelude.{◌⊎◌}
use Rattle.std.proofs.lemmas.Bool.{cases_Bool}
use Rattle.relay_tasks.specs.declared.error.Error.{Error}
use Rattle.relay_tasks.specs.declared.error.Fail.{Fail}
use Rattle.relay_tasks.specs.declared.error.Fail.TheVariants as fail
use Rattle.relay_tasks.specs.declared.fault.Fault.{Fault}
use Rattle.relay_tasks.specs.declared.task.HttpTask.{HttpTask}
use Rattle.relay_tasks.specs.declared.task.HttpTask.TheVariants as task
use Rattle.relay_links.specs.Link.{LinkState}
use Rattle.relay_h1.specs.BodyWire.{is_short, after_piece}
use Rattle.relay_session.specs.Response.{IsText, Holds, HoldsOn, IsQueued, IsRefusal, IsFailure, error_of}
use Rattle.relay_session.specs.TaskSteps.{IsWire}
use Rattle.relay_session.specs.TaskWire.{Sent, joined, nothing_at, or_later, task_sent, piece_at, piece_refusal_at, refusal, wire}
use Rattle.relay_session.specs.declared.session.HttpSession.{HttpSession}
use Rattle.relay_session.specs.declared.task_text.Place.{Place}
use Rattle.relay_session.specs.declared.task_text.Place.TheVariants as place
use Rattle.relay_session.specs.declared.task_text.Request.{Request}
use Rattle.relay_session.specs.declared.writing.Outgoing.{Outgoing}
use Rattle.relay_session.specs.declared.writing.Outgoing.TheVariants as outgoing
use Rattle.relay_session.specs.declared.writing.Writing.{Writing}
use Rattle.relay_session.proofs.WireSteps.{GoesOnAt, IsWire-push, joined_nothing}
use Rattle.relay_core.specs.Past.{Origin, DownPast, DownGoes, error_of_result}
use Rattle.relay_sides.specs.Client.{IsClient, IsClosed, IsSide, IsTold, HasPassed, ClientBlames, CannotEnd}
use Rattle.relay_sides.specs.Client as client
use Rattle.relay_sides.proofs.ClientPast.{open_is_whole}
use Rattle.relay_sides.proofs.ClientTasks.{plain-append, piece_over, holds_sent, past_queued, requeued}
use Rattle.relay_session.specs.Asked.{request_of}
use Rattle.relay_core.specs.Told.{failed}
use Rattle.relay_core.specs.declared.told.Told.{Told}
use Rattle.relay_sides.proofs.ClientTold.{refused_here, told_failed, told_first, told_more}
use Rattle.relay_sides.proofs.ClientBatch.{fail_is}

-- behind an end that is not refused no body is open
end_closes : (at : Place) → piece_refusal_at at [] true ≡ None
    → IsClosed (piece_at at [] true).place
end_closes place.NoHead passes = tt
end_closes (place.Body rest) passes =
    elim (cases_Bool (is_short (after_piece rest []))) [
      | inl short ↦ let refused = rw short at passes in absurd (cc)
      | inr fits ↦ rw fits tt
    ]
end_closes place.Done passes = tt

-- an end where no body is open gives nothing
wire_again : (request : Request) (tasks : List HttpTask) (sent : Sent) → IsClosed sent.place
    → IsWire request tasks sent → IsWire request (tasks ++ task.Done ∷ []) sent
wire_again request tasks sent closed wire =
    subst (λ (s : Sent). IsWire request (tasks ++ task.Done ∷ []) s) (same sent closed)
    (IsWire-push request tasks sent task.Done wire (goes sent.place closed))
  where
    goes : (at : Place) → IsClosed at → GoesOnAt request at task.Done
    goes place.NoHead closed = tt
    goes (place.Body rest) closed = absurd closed
    goes place.Done closed = tt

    nothing : (at : Place) → IsClosed at → task_sent request at task.Done ≡ nothing_at at
    nothing place.NoHead closed = refl
    nothing (place.Body rest) closed = absurd closed
    nothing place.Done closed = refl

    same : (sent : Sent) → IsClosed sent.place
        → joined sent (task_sent request sent.place task.Done) ≡ sent
    same sent closed =
        ap (joined sent) (nothing sent.place closed) ∙ joined_nothing sent

-- the text of the tasks at a place that is closed stays
text_again : (now : Writing) (tasks : List HttpTask) (text : List ℕ) → IsClosed now.place
    → IsText now tasks text → IsText now (tasks ++ task.Done ∷ []) text
text_again now tasks text closed is = record {
  counted = is.counted;
  wire = wire_again now.request tasks _ closed is.wire;
  counts = is.counts;
}

-- what the session holds on stays at that place
holds_again : (now : Writing) (output : Outgoing) (tasks : List HttpTask) (taken : List ℕ)
    → IsClosed now.place → HoldsOn now output tasks taken
    → HoldsOn now output (tasks ++ task.Done ∷ []) taken
holds_again now (outgoing.Open queue) tasks taken closed holds =
    text_again now tasks (taken ++ queue) closed holds
holds_again now (outgoing.Broken fault) tasks taken closed holds =
    (holds.0, text_again now tasks (taken ++ holds.0) closed holds.1)

-- a list that got one more has some
some_closing : (closing : List HttpTask) → 0 < length (closing ++ task.Done ∷ [])
some_closing closing = omega (arith, length-append closing (task.Done ∷ []))

-- an end where no body is open is not refused
closed_passes : (request : Request) (at : Place) → IsClosed at
    → refusal request at task.Done ≡ None
closed_passes request place.NoHead closed = refl
closed_passes request (place.Body rest) closed = absurd closed
closed_passes request place.Done closed = refl

-- an end that is not refused stands behind the tasks that were queued
pub ends_told : (s : Origin) (p : DownPast) (link : LinkState) (ahead : List ℕ)
    (session : HttpSession) (told : Told) (done finished : Bool) (broken : Option Fault)
    → IsSide s p link ahead session told done finished broken
    → refusal session.writing.request session.writing.place task.Done ≡ None
    → IsTold s (p.batched ++ (p.closing ++ task.Done ∷ [])) told
ends_told s p link ahead session told done finished broken side passes =
    subst (λ (l : List HttpTask). IsTold s l told)
    (append_assoc p.batched p.closing (task.Done ∷ []))
    (told_more s (client.queued p) told side.tasks (task.Done ∷ [])
    (refused_here s p link ahead session side.passed.client (task.Done ∷ []) None
    (ap (λ (o : Option Error). or_later o None) passes)))

-- so does one that was asked for again
pub again_told : (s : Origin) (p : DownPast) (link : LinkState) (ahead : List ℕ)
    (session : HttpSession) (told : Told) (done finished : Bool) (broken : Option Fault)
    → finished ≡ true → IsSide s p link ahead session told done finished broken
    → IsTold s (p.batched ++ (p.closing ++ task.Done ∷ [])) told
again_told s p link ahead session told done finished broken asked side =
    ends_told s p link ahead session told done finished broken side
    (closed_passes session.writing.request session.writing.place (side.passed.closed asked))

-- the end was asked for again
pub ends_again : (s : Origin) (p : DownPast) (link : LinkState) (ahead : List ℕ)
    (session : HttpSession) (told : Told) (done finished : Bool) (broken : Option Fault)
    → finished ≡ true → HasPassed s p link ahead session done finished broken
    → DownGoes (λ q. HasPassed s q link ahead session done finished broken)
    (λ q e. ClientBlames s q link e ⊎ CannotEnd s q told e) p.put p.batched
    (p.closing ++ task.Done ∷ []) None
ends_again s p link ahead session told done finished broken asked h = record {
  past = past_queued p p.batched (p.closing ++ task.Done ∷ []);
  stands = record {
    client = requeued s p link ahead session session p.batched (p.closing ++ task.Done ∷ [])
        h.client refl refl
        (subst (λ (l : List HttpTask). Holds session.writing l p.written)
        (append_assoc p.batched p.closing (task.Done ∷ []))
        (holds_again session.writing session.writing.output (client.queued p) p.written
        (h.closed asked) h.client.response))
        h.client.broken;
    over = h.over;
    plain = h.plain;
    plain_end = plain-append p.closing (task.Done ∷ []) h.plain_end refl;
    place_over = h.place_over;
    said = h.said;
    unasked = λ is. let wrong = sym asked ∙ is in absurd (cc);
    asked = λ is. some_closing p.closing;
    closed = h.closed;
    unbroken = h.unbroken;
    fault = h.fault;
  };
  is_put = refl;
  is_batched = refl;
  is_closing = refl;
  blamed = λ e is. absurd (cc);
}

-- the end was queued
pub ends_on : (s : Origin) (p : DownPast) (link : LinkState) (ahead : List ℕ)
    (old new : HttpSession) (told : Told) (done finished : Bool) (broken : Option Fault)
    → finished ≡ false
    → HasPassed s p link ahead old done finished broken
    → new.reading ≡ old.reading
    → IsQueued old.writing task.Done new.writing
    → DownGoes (λ q. HasPassed s q link ahead new done true broken)
    (λ q e. ClientBlames s q link e ⊎ CannotEnd s q told e) p.put p.batched
    (p.closing ++ task.Done ∷ []) None
ends_on s p link ahead old new told done finished broken unasked h reading one = record {
  past = past_queued p p.batched (p.closing ++ task.Done ∷ []);
  stands = record {
    client = requeued s p link ahead old new p.batched (p.closing ++ task.Done ∷ []) h.client
        reading
        (ap (λ (w : Writing). w.request) one.grows.grown)
        (subst (λ (l : List HttpTask). Holds new.writing l p.written)
        (append_assoc p.batched p.closing (task.Done ∷ []))
        (one.goes_on (client.queued p) p.written h.client.response))
        (λ fault is. absurd (open_is_whole new.writing.output _ fault
        (ap (λ (w : Writing). w.output) one.grows.grown) is));
    over = rw (ap (λ (w : Writing). w.request) one.grows.grown) h.over;
    plain = h.plain;
    plain_end = plain-append p.closing (task.Done ∷ []) h.plain_end refl;
    place_over = λ is. rw (ap (λ (w : Writing). w.place) one.grows.grown)
        (piece_over old.writing.place [] true (h.place_over is));
    said = λ is. inr refl;
    unasked = λ is. absurd (cc);
    asked = λ is. some_closing p.closing;
    closed = λ is. rw (ap (λ (w : Writing). w.place) one.grows.grown)
        (end_closes old.writing.place one.passes);
    unbroken = λ none. (_, ap (λ (w : Writing). w.output) one.grows.grown);
    fault = h.fault;
  };
  is_put = refl;
  is_batched = refl;
  is_closing = refl;
  blamed = λ e is. absurd (cc);
}

-- the error of an answer is that of its failure
same_why : (why : Fail) (e : Error) → error_of_result {T = Unit {0}} (Err why) ≡ Some e
    → why ≡ fail.Error e
same_why fail.OutOfMemory e is = absurd (cc)
same_why (fail.Error error) e is = cc

-- why the end was refused
end_refused : (s : Origin) (p : DownPast) (link : LinkState) (ahead : List ℕ)
    (session : HttpSession) (output : Outgoing) (told : Told) (why : Fail) (e : Error)
    → IsClient s p link ahead session → IsTold s (client.queued p) told
    → session.writing.output ≡ output
    → IsFailure output (refusal session.writing.request session.writing.place task.Done) why
    → why ≡ fail.Error e → ClientBlames s p link e ⊎ CannotEnd s p (failed why told) e
end_refused s p link ahead session (outgoing.Open queue) told why e h t is refused of =
    let request = session.writing.request in
    let sent = holds_sent session.writing session.writing.output (client.queued p) p.written
    h.response in
    let there = subst
    (λ (f : Fail). IsRefusal (refusal request session.writing.place task.Done) f) of refused in
    inr (record {
      refused = subst (λ (r : Request).
          refusal r (wire r place.NoHead (client.queued p)).place task.Done ≡ Some e)
          (h.answers ∙ ap request_of h.own)
          (ap (λ (q : Place). refusal request q task.Done) sent ∙ there);
      passes = λ one.
          told_first s (client.queued p) told t e
          (subst (λ (f : Fail). (failed f told).errors ≡ 1) of one);
    })
end_refused s p link ahead session (outgoing.Broken fault) told why e h t is refused of =
    inl (client.ClientBlames.link_failed fault (fail_is why (error_of fault) e refused of)
    (h.broken fault is).0 (inl (h.broken fault is).1))

-- the end was refused, and nothing was queued
pub ends_refused : (s : Origin) (p : DownPast) (link : LinkState) (ahead : List ℕ)
    (old new : HttpSession) (told : Told) (done finished : Bool) (broken : Option Fault)
    (why : Fail)
    → IsSide s p link ahead old told done finished broken → new ≡ old
    → IsFailure old.writing.output
    (refusal old.writing.request old.writing.place task.Done) why
    → DownGoes (λ q. IsSide s q link ahead new (failed why told) done finished broken)
    (λ q e. ClientBlames s q link e ⊎ CannotEnd s q (failed why told) e) p.put p.batched
    (p.closing ++ []) (error_of_result {T = Unit {0}} (Err why))
ends_refused s p link ahead old new told done finished broken why side same refused = record {
  past = p;
  stands = record {
    passed = rw same side.passed;
    tasks = told_failed s (client.queued p) told side.tasks why;
  };
  is_put = refl;
  is_batched = refl;
  is_closing = sym (append-nil p.closing);
  blamed = λ e is.
      end_refused s p link ahead old old.writing.output told why e side.passed.client side.tasks
      refl refused
      (same_why why e is);
}
