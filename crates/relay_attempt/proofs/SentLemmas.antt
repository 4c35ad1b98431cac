-- What tasks are sent as to the client: none of them is a failure, and an end behind a final head
-- ends the response.
use Rattle.std.proofs.Common.{◌≡◌, ℕ, Bool, true, false, List, [], ◌∷◌, ◌++◌, map, ◌||◌, Option, Some, None, refl, sym, ◌∙◌, ap, subst, append-nil, inl, inr, ◌⊎◌, if◌then◌else◌}
use Rattle.std.specs.List.{list_any}
use Rattle.std.proofs.lemmas.Bool.{cases_Bool}
use Rattle.relay_tasks.specs.declared.task.HttpTask.{HttpTask}
use Rattle.relay_tasks.specs.declared.task.HttpTask.TheVariants as task
use Rattle.relay_tasks.specs.Head.{ResponseHead}
use Rattle.relay_tasks.specs.Task.{is_end}
use Rattle.relay_h1.specs.declared.framing.Framing.{Framing}
use Rattle.relay_h1.specs.BodyWire.{is_short, after_piece}
use Rattle.relay_h1.specs.ClientHead.{is_informational, lacks_framing, chunked_head}
use Rattle.relay_peer.specs.ResponseReading.{ToldResponse, untold, with_task, with_head, with_piece}
use Rattle.relay_session.specs.Response.{Holds, HoldsOn, has_head, is_over, pending}
use Rattle.relay_session.specs.TaskWire.{Sent, framing_of, shown, piece_sent, piece_refusal, piece_at, piece_refusal_at, framed_head_sent, framed_head_refusal, head_at, head_refusal_at, task_sent, refusal, wire, first_refusal}
use Rattle.relay_session.proofs.WireSteps.{wire-append}
use Rattle.relay_sides.proofs.ClientTasks.{or_none, tasks_over}
use Rattle.relay_session.specs.declared.task_text.Place.{Place}
use Rattle.relay_session.specs.declared.task_text.Place.TheVariants as place
use Rattle.relay_session.specs.declared.task_text.Request.{Request}
use Rattle.relay_session.specs.declared.writing.Outgoing.{Outgoing}
use Rattle.relay_session.specs.declared.writing.Outgoing.TheVariants as outgoing
use Rattle.relay_session.specs.declared.writing.Writing.{Writing}
use Rattle.relay_tasks.specs.declared.fault.Fault.{Fault}
use Rattle.relay_core.specs.Moves.{EndsLast}
use Rattle.relay_peer.specs.Body.{IsFrontOf}
use Rattle.relay_sides.specs.Filtered.{handed}
use Rattle.relay_peer.specs.Peer.{told_behind, told_of}

-- ---- the end

-- behind the end nothing moves the response
done_stays_one : (request : Request) (one : HttpTask)
    → (task_sent request place.Done one).place ≡ place.Done
done_stays_one request (task.Header head ends) = refl
done_stays_one request (task.Body piece ends) = refl
done_stays_one request (task.UpgradedBody piece ends) = refl
done_stays_one request (task.Trailer fields) = refl
done_stays_one request task.Done = refl
done_stays_one request (task.Failed error) = refl

-- nor do tasks in order
done_stays : (request : Request) (at : Place) (tasks : List HttpTask) → at ≡ place.Done
    → (wire request at tasks).place ≡ place.Done
done_stays request at [] done = done
done_stays request at (one ∷ tasks) done =
    done_stays request (task_sent request at one).place tasks
    (ap (λ (p : Place). (task_sent request p one).place) done ∙ done_stays_one request one)

-- where a response stands behind a task: a final head was sent, and behind an end nothing is open
record IsBehind (ends : Bool) (at : Place) : Type 0 where
  pub has : has_head at ≡ true
  pub done : ends ≡ true → at ≡ place.Done

-- behind a piece of a body
piece_behind : (rest : Framing) (piece : List ℕ) (ends : Bool)
    → piece_refusal rest piece ends ≡ None → IsBehind ends (piece_sent rest piece ends).place
piece_behind rest piece false passes = record { has = refl; done = λ ends. absurd (cc) }
piece_behind rest piece true passes =
    elim (cases_Bool (is_short (after_piece rest piece))) [
      | inl short ↦ let refused = rw short at passes in absurd (cc)
      | inr fits ↦ rw fits (record { has = refl; done = λ ends. refl })
    ]

-- a piece where a final head was sent
at_behind : (at : Place) (piece : List ℕ) (ends : Bool) → has_head at ≡ true
    → piece_refusal_at at piece ends ≡ None → IsBehind ends (piece_at at piece ends).place
at_behind place.NoHead piece ends has passes = absurd (cc)
at_behind (place.Body rest) piece ends has passes = piece_behind rest piece ends passes
at_behind place.Done piece ends has passes = record { has = refl; done = λ ends. refl }

-- a final head, by its framing
framed_behind : (head : ResponseHead) (ends : Bool) (framing : Option Framing)
    → framed_head_refusal ends framing ≡ None
    → IsBehind ends (framed_head_sent head ends framing).place
framed_behind head ends None passes = absurd (cc)
framed_behind head ends (Some framing) passes = piece_behind framing [] ends passes

-- a final head was sent wherever one was told
abbrev Shows : ToldResponse → Place → Type 0
Shows told at = (head : ResponseHead) → told.final ≡ Some head → has_head at ≡ true

-- where no final head was sent none was told
never_shows : {A : Type 0} → false ≡ true → A
never_shows wrong = absurd (cc)

-- a head: it is the final one, or one was told before
head_behind : (request : Request) (told : ToldResponse) (at : Place) (head given : ResponseHead)
    (ends : Bool) (final : ResponseHead) → given.status ≡ head.status
    → Shows told at → head_refusal_at request at given ends ≡ None
    → (with_head told head).final ≡ Some final
    → IsBehind ends (head_at request at given ends).place
head_behind request told place.NoHead head given ends final same shows passes tells =
    on (is_informational head.status) (ap is_informational same) tells
  where
    on : (informs : Bool) → is_informational given.status ≡ informs
        → (if informs then record told { informed = told.informed ++ head ∷ [] }
        else record told { final = Some head }).final ≡ Some final
        → IsBehind ends (head_at request place.NoHead given ends).place
    on true informs tells = never_shows (shows final tells)
    on false informs tells =
        rw informs
        (framed_behind (shown request given) ends (framing_of request given)
        (rw informs at passes))
head_behind request told (place.Body rest) head given ends final same shows passes tells =
    piece_behind rest [] ends passes
head_behind request told place.Done head given ends final same shows passes tells =
    record { has = refl; done = λ ends. refl }

-- the status of a head stays as it is handed on
handed_status : (chunked : Bool) (head : ResponseHead)
    → (if chunked then chunked_head head else head).status ≡ head.status
handed_status true head = refl
handed_status false head = refl

-- a piece of the body leaves the final head
piece_final : (told : ToldResponse) (piece : Option (List ℕ))
    → (with_piece told piece).final ≡ told.final
piece_final told None = refl
piece_final told (Some piece) = refl

-- a task as it is handed on, with which a final head was told
task_behind : (request : Request) (method : List ℕ) (told : ToldResponse) (at : Place)
    (one : HttpTask)
    (final : ResponseHead) → Shows told at
    → refusal request at (handed method one) ≡ None
    → (with_task told one).final ≡ Some final
    → IsBehind (is_end one) (task_sent request at (handed method one)).place
task_behind request method told at (task.Header head ends) final shows passes tells =
    head_behind request told at head
    (if lacks_framing method ends head then chunked_head head else head) ends final
    (handed_status (lacks_framing method ends head) head) shows passes tells
task_behind request method told at (task.Body piece ends) final shows passes tells =
    at_behind at _ ends (shows final (sym (piece_final told piece) ∙ tells)) passes
task_behind request method told at (task.UpgradedBody piece ends) final shows passes tells =
    at_behind at _ ends (shows final tells) passes
task_behind request method told at (task.Trailer fields) final shows passes tells =
    at_behind at [] true (shows final tells) passes
task_behind request method told at task.Done final shows passes tells =
    at_behind at [] true (shows final tells) passes
task_behind request method told at (task.Failed error) final shows passes tells = absurd (cc)

-- behind tasks with an end, as they are handed on, with which a final head was told, the response
-- has ended
ends_at : (request : Request) (method : List ℕ) (told : ToldResponse) (at : Place)
    (tasks : List HttpTask) (final : ResponseHead) → Shows told at
    → EndsLast tasks → list_any is_end tasks ≡ true
    → (told_behind told tasks).final ≡ Some final
    → first_refusal request at (map (handed method) tasks) ≡ None
    → (wire request at (map (handed method) tasks)).place ≡ place.Done
ends_at request method told at [] final shows last ends tells passes = absurd (cc)
ends_at request method told at (one ∷ tasks) final shows last ends tells passes =
    let next = (task_sent request at (handed method one)).place in
    let parts = or_none (refusal request at (handed method one))
    (first_refusal request next (map (handed method) tasks)) passes in
    elim (cases_Bool (is_end one)) [
      | inl here ↦
          let none = last (one ∷ []) tasks refl (rw here refl) in
          let alone = subst (λ (l : List HttpTask). (told_behind (with_task told one) l).final
          ≡ Some final) none tells in
          let first = task_behind request method told at one final shows parts.0 alone in
          done_stays request next (map (handed method) tasks) (first.done here)
      | inr goes ↦
          ends_at request method (with_task told one) next tasks final
          (λ head there.
          (task_behind request method told at one head shows parts.0 there).has)
          (λ front behind same found. last (one ∷ front) behind (ap (λ l. one ∷ l) same)
          (ends_behind (is_end one) (list_any is_end front) found))
          (rw goes at ends) tells parts.1
    ]
  where
    ends_behind : (a b : Bool) → b ≡ true → (a || b) ≡ true
    ends_behind true b is = refl
    ends_behind false b is = is

-- tasks with an end, as they are handed on, none of which is refused, leave the response over
pub ends_over : (request : Request) (method : List ℕ) (tasks : List HttpTask)
    (final : ResponseHead) → EndsLast tasks → list_any is_end tasks ≡ true
    → (told_of tasks).final ≡ Some final
    → first_refusal request place.NoHead (map (handed method) tasks) ≡ None
    → is_over (wire request place.NoHead (map (handed method) tasks)).place ≡ true
ends_over request method tasks final last ends tells passes =
    ap is_over
    (ends_at request method untold place.NoHead tasks final (λ head none. absurd (cc)) last ends
    tells passes)

-- ---- behind a response that is over

-- tasks that leave a response over leave it so with more behind them
pub stays_over : (request : Request) (at : Place) (tasks closing : List HttpTask)
    → is_over (wire request at tasks).place ≡ true
    → is_over (wire request at (tasks ++ closing)).place ≡ true
stays_over request at tasks closing over =
    ap (λ (m : Sent). is_over m.place) (wire-append request at tasks closing)
    ∙ tasks_over request (wire request at tasks).place closing over

-- ---- the text

-- what was taken of the text of the tasks, and where it leaves the response; with nothing waiting
-- all of it was taken, unless a write failed
pub record IsWritten (now : Writing) (tasks : List HttpTask) (taken : List ℕ) : Type 0 where
  pub front : IsFrontOf taken (wire now.request place.NoHead tasks).text
  pub at : (wire now.request place.NoHead tasks).place ≡ now.place
  pub all : pending now.output ≡ []
      → (taken ≡ (wire now.request place.NoHead tasks).text)
      ⊎ ((fault : Fault) × (now.output ≡ outgoing.Broken fault))

-- by what waits
written_at : (now : Writing) (output : Outgoing) (tasks : List HttpTask) (taken : List ℕ)
    → now.output ≡ output → HoldsOn now output tasks taken → IsWritten now tasks taken
written_at now (outgoing.Open queue) tasks taken is holds =
    let text : taken ++ queue ≡ (wire now.request place.NoHead tasks).text =
    ap (λ (m : Sent). m.text) (sym holds.wire.is) in
    record {
      front = record { rest = queue; joined = text };
      at = ap (λ (m : Sent). m.place) holds.wire.is;
      all = λ none.
          inl
          (sym
          (sym text ∙ ap (λ (l : List ℕ). taken ++ l) (ap pending (sym is) ∙ none)
          ∙ append-nil taken));
    }
written_at now (outgoing.Broken fault) tasks taken is holds = record {
  front = record {
    rest = holds.0;
    joined = ap (λ (m : Sent). m.text) (sym holds.1.wire.is);
  };
  at = ap (λ (m : Sent). m.place) holds.1.wire.is;
  all = λ none. inr (fault, is);
}

-- what was written, of a session that holds these tasks
pub written_of : (now : Writing) (tasks : List HttpTask) (taken : List ℕ)
    → Holds now tasks taken → IsWritten now tasks taken
written_of now tasks taken holds = written_at now now.output tasks taken refl holds
