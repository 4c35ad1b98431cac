-- Tasks for the client: what of the response was sent with them, and is over then.
use Rattle.std.proofs.Common.{◌≡◌, ℕ, Bool, true, false, List, [], ◌∷◌, ◌++◌, Option, Some, None, refl, ◌∙◌, ap, append-nil, inl, inr, arith}
use Rattle.std.specs.List.{list_any}
use Rattle.std.proofs.lemmas.Bool.{cases_Bool}
use Rattle.std.proofs.lemmas.List.Folds.{list_any-append}
use Rattle.relay_tasks.specs.declared.error.Error.{Error}
use Rattle.relay_tasks.specs.declared.fault.Fault.{Fault}
use Rattle.relay_tasks.specs.declared.task.HttpTask.{HttpTask}
use Rattle.relay_tasks.specs.declared.task.HttpTask.TheVariants as task
use Rattle.relay_tasks.specs.Head.{ResponseHead}
use Rattle.relay_links.specs.Link.{LinkState}
use Rattle.relay_h1.specs.declared.framing.Framing.{Framing}
use Rattle.relay_h1.specs.declared.framing.Framing.TheVariants as framing
use Rattle.relay_h1.specs.BodyWire.{is_full, after_piece}
use Rattle.relay_session.specs.Response.{Holds, HoldsOn, Grows, AreQueued, given_of, is_over}
use Rattle.relay_session.specs.TaskWire.{Sent, ends_with, piece_sent, piece_at, head_at, task_sent, refusal, wire, or_later, first_refusal}
use Rattle.relay_session.specs.declared.session.HttpSession.{HttpSession}
use Rattle.relay_session.specs.declared.task_text.Place.{Place}
use Rattle.relay_session.specs.declared.task_text.Place.TheVariants as place
use Rattle.relay_session.specs.declared.task_text.Request.{Request}
use Rattle.relay_session.specs.declared.writing.Outgoing.{Outgoing}
use Rattle.relay_session.specs.declared.writing.Outgoing.TheVariants as outgoing
use Rattle.relay_session.specs.declared.writing.Writing.{Writing}
use Rattle.relay_core.specs.Past.{Origin, DownPast}
use Rattle.relay_core.specs.Pipe.{is_failure}
use Rattle.relay_sides.specs.Client.{IsClient, FailsWrite}

-- ---- what was sent

-- a task that is not refused is no failure
task_plain : (request : Request) (at : Place) (one : HttpTask)
    → refusal request at one ≡ None → is_failure one ≡ false
task_plain request at (task.Header head ends) passes = refl
task_plain request at (task.Body piece ends) passes = refl
task_plain request at (task.UpgradedBody piece ends) passes = refl
task_plain request at (task.Trailer fields) passes = refl
task_plain request at task.Done passes = refl
task_plain request at (task.Failed error) passes = absurd (cc)

-- of two refusals there is none where neither is
pub or_none : (a b : Option Error) → or_later a b ≡ None → (a ≡ None) × (b ≡ None)
or_none None b none = (refl, none)
or_none (Some error) b none = absurd (cc)

-- tasks of which none is refused hold no failure
pub tasks_plain : (request : Request) (at : Place) (tasks : List HttpTask)
    → first_refusal request at tasks ≡ None → list_any is_failure tasks ≡ false
tasks_plain request at [] passes = refl
tasks_plain request at (one ∷ tasks) passes =
    let next = (task_sent request at one).place in
    let parts = or_none (refusal request at one) (first_refusal request next tasks) passes in
    rw (task_plain request at one parts.0) (tasks_plain request next tasks parts.1)

-- a task that counts as given where it is refused is no failure
pub given_plain : (one : HttpTask) → list_any is_failure (given_of one) ≡ false
given_plain (task.Header head ends) = refl
given_plain (task.Body piece ends) = refl
given_plain (task.UpgradedBody piece ends) = refl
given_plain (task.Trailer fields) = refl
given_plain task.Done = refl
given_plain (task.Failed error) = refl

-- lists without a failure, joined
pub plain-append : (xs ys : List HttpTask) → list_any is_failure xs ≡ false
    → list_any is_failure ys ≡ false → list_any is_failure (xs ++ ys) ≡ false
plain-append xs ys first next = list_any-append is_failure xs ys ∙ rw (first, next) refl

-- a framing that takes no more bytes takes none behind a piece
pub full_stays : (rest : Framing) (piece : List ℕ) → is_full rest ≡ true
    → is_full (after_piece rest piece) ≡ true
full_stays framing.Empty piece full = refl
full_stays (framing.Length left) piece full = grind (arith, full)
full_stays framing.Chunked piece full = absurd (cc)
full_stays framing.UntilClose piece full = absurd (cc)
full_stays framing.Tunnel piece full = absurd (cc)

-- behind a piece of a body, or its end
body_over : (rest : Framing) (piece : List ℕ) (ends : Bool) → is_full rest ≡ true
    → is_over (piece_sent rest piece ends).place ≡ true
body_over rest piece ends full =
    elim (cases_Bool (ends_with rest piece ends)) [
      | inl whole ↦ rw whole refl
      | inr goes_on ↦ rw goes_on (full_stays rest piece full)
    ]

-- a response that is over stays so behind a piece
pub piece_over : (at : Place) (piece : List ℕ) (ends : Bool) → is_over at ≡ true
    → is_over (piece_at at piece ends).place ≡ true
piece_over place.NoHead piece ends over = absurd (cc)
piece_over (place.Body rest) piece ends over = body_over rest piece ends over
piece_over place.Done piece ends over = refl

-- and behind a head
head_over : (request : Request) (at : Place) (head : ResponseHead) (ends : Bool)
    → is_over at ≡ true → is_over (head_at request at head ends).place ≡ true
head_over request place.NoHead head ends over = absurd (cc)
head_over request (place.Body rest) head ends over = body_over rest [] ends over
head_over request place.Done head ends over = refl

-- and behind a task
pub task_over : (request : Request) (at : Place) (one : HttpTask) → is_over at ≡ true
    → is_over (task_sent request at one).place ≡ true
task_over request at (task.Header head ends) over = head_over request at head ends over
task_over request at (task.Body piece ends) over = piece_over at _ ends over
task_over request at (task.UpgradedBody piece ends) over = piece_over at _ ends over
task_over request at (task.Trailer fields) over = piece_over at [] true over
task_over request at task.Done over = piece_over at [] true over
task_over request at (task.Failed error) over = over

-- and behind tasks in order
pub tasks_over : (request : Request) (at : Place) (tasks : List HttpTask)
    → is_over at ≡ true → is_over (wire request at tasks).place ≡ true
tasks_over request at [] over = over
tasks_over request at (one ∷ tasks) over =
    tasks_over request (task_sent request at one).place tasks (task_over request at one over)

-- what grew by something stands where that leads
pub grows_to : (old new : Writing) (sent : Sent) → Grows sent old new → is_over sent.place ≡ true
    → is_over new.place ≡ true
grows_to old new sent g over = rw (ap (λ (w : Writing). w.place) g.grown) over

-- the place behind tasks that were queued
pub queued_over : (old new : Writing) (tasks : List HttpTask) → AreQueued old tasks new
    → is_over old.place ≡ true → is_over new.place ≡ true
queued_over old new tasks q over =
    grows_to old new (wire old.request old.place tasks) q.grows
    (tasks_over old.request old.place tasks over)

-- the tasks of a session lead to the place where its response stands
pub holds_sent : (now : Writing) (output : Outgoing) (tasks : List HttpTask) (taken : List ℕ)
    → HoldsOn now output tasks taken → (wire now.request place.NoHead tasks).place ≡ now.place
holds_sent now (outgoing.Open queue) tasks taken text =
    ap (λ (t : Sent). t.place) text.wire.is
holds_sent now (outgoing.Broken fault) tasks taken text =
    ap (λ (t : Sent). t.place) text.1.wire.is

-- ---- what passed

-- the past with other tasks for the client
abbrev pub past_queued : DownPast → List HttpTask → List HttpTask → DownPast
past_queued p batched closing = record {
  came = p.came;
  written = p.written;
  put = p.put;
  batched = batched;
  closing = closing;
}

-- what passed, where only the response went on
pub requeued : (s : Origin) (p : DownPast) (link : LinkState) (ahead : List ℕ)
    (old new : HttpSession) (batched closing : List HttpTask) → IsClient s p link ahead old
    → new.reading ≡ old.reading → new.writing.request ≡ old.writing.request
    → Holds new.writing (batched ++ closing) p.written
    → ((fault : Fault) → new.writing.output ≡ outgoing.Broken fault → FailsWrite s link fault)
    → IsClient s (past_queued p batched closing) link ahead new
requeued s p link ahead old new batched closing h reading request holds broken = record {
  came = h.came;
  written = h.written;
  faults = h.faults;
  head = h.head;
  own = h.own;
  framing = h.framing;
  len = h.len;
  has = h.has;
  has_head = rw reading h.has_head;
  answers = request ∙ h.answers;
  body = h.body;
  request = rw reading h.request;
  joined = h.joined;
  some = h.some;
  ended = rw reading h.ended;
  whole = rw reading h.whole;
  headed = rw reading h.headed;
  told_whole = rw reading h.told_whole;
  response = holds;
  broken = broken;
  tells = h.tells;
}

-- tasks that follow those of a response whose end was not asked for
pub follow : (now : Writing) (batched closing tasks : List HttpTask) (taken : List ℕ) → closing ≡ []
    → Holds now ((batched ++ closing) ++ tasks) taken
    → Holds now ((batched ++ tasks) ++ closing) taken
follow now batched closing tasks taken none holds =
    rw none (rw append-nil (rw (none, append-nil) at holds))
