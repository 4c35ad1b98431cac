-- What each call leaves of a session: the head of its request, and a final head that was queued.
use Rattle.std.proofs.Common.{◌≡◌, ℕ, Bool, true, List, [], ◌∷◌, Option, Some, None, refl, sym, ap, subst, inl, inr}
use Rattle.std.proofs.lemmas.Bool.{cases_Bool}
use Rattle.relay_tasks.specs.declared.error.Error.{Error}
use Rattle.relay_tasks.specs.declared.error.Fail.{Fail}
use Rattle.relay_tasks.specs.declared.error.Fail.TheVariants as fail
use Rattle.relay_tasks.specs.declared.task.HttpTask.{HttpTask}
use Rattle.relay_tasks.specs.declared.task.HttpTask.TheVariants as task
use Rattle.relay_tasks.specs.Head.{ResponseHead}
use Rattle.relay_h1.specs.declared.framing.Framing.{Framing}
use Rattle.relay_session.specs.Reading.{head_of}
use Rattle.relay_session.specs.Response.{AreQueued, FailsBatch, Grows, StopsAt, StopsBatch, StopsOn, has_head}
use Rattle.relay_session.specs.TaskWire.{Sent, batch_refusal, ends_with, head_at, piece_at, piece_sent, task_sent, wire}
use Rattle.relay_session.specs.declared.reading.Reading.{Reading}
use Rattle.relay_session.specs.declared.session.HttpSession.{HttpSession}
use Rattle.relay_session.specs.declared.task_text.Place.{Place}
use Rattle.relay_session.specs.declared.task_text.Place.TheVariants as place
use Rattle.relay_session.specs.declared.task_text.Request.{Request}
use Rattle.relay_session.specs.declared.writing.Outgoing.{Outgoing}
use Rattle.relay_session.specs.declared.writing.Outgoing.TheVariants as outgoing
use Rattle.relay_session.specs.declared.writing.Writing.{Writing}
use Rattle.relay_sides.specs.Client.{IsLasting, QueuesAll, QueuesFront}
use Rattle.relay_sides.specs.Client as client

-- ---- a final head that was queued stays so

-- behind a piece of a body, or its end
body_headed : (rest : Framing) (piece : List ℕ) (ends : Bool)
    → has_head (piece_sent rest piece ends).place ≡ true
body_headed rest piece ends =
    elim (cases_Bool (ends_with rest piece ends)) [
      | inl whole ↦ rw whole refl
      | inr goes_on ↦ rw goes_on refl
    ]

-- behind a piece
piece_headed : (at : Place) (piece : List ℕ) (ends : Bool) → has_head at ≡ true
    → has_head (piece_at at piece ends).place ≡ true
piece_headed place.NoHead piece ends headed = absurd (cc)
piece_headed (place.Body rest) piece ends headed = body_headed rest piece ends
piece_headed place.Done piece ends headed = refl

-- behind a head
head_headed : (request : Request) (at : Place) (head : ResponseHead) (ends : Bool)
    → has_head at ≡ true → has_head (head_at request at head ends).place ≡ true
head_headed request place.NoHead head ends headed = absurd (cc)
head_headed request (place.Body rest) head ends headed = body_headed rest [] ends
head_headed request place.Done head ends headed = refl

-- and behind a task
task_headed : (request : Request) (at : Place) (one : HttpTask) → has_head at ≡ true
    → has_head (task_sent request at one).place ≡ true
task_headed request at (task.Header head ends) headed = head_headed request at head ends headed
task_headed request at (task.Body piece ends) headed = piece_headed at _ ends headed
task_headed request at (task.UpgradedBody piece ends) headed = piece_headed at _ ends headed
task_headed request at (task.Trailer fields) headed = piece_headed at [] true headed
task_headed request at task.Done headed = piece_headed at [] true headed
task_headed request at (task.Failed error) headed = headed

-- and behind tasks in order
tasks_headed : (request : Request) (at : Place) (tasks : List HttpTask) → has_head at ≡ true
    → has_head (wire request at tasks).place ≡ true
tasks_headed request at [] headed = headed
tasks_headed request at (one ∷ tasks) headed =
    tasks_headed request (task_sent request at one).place tasks
    (task_headed request at one headed)

-- what grew by something stands where that leads
grown_headed : (old new : Writing) (sent : Sent) → Grows sent old new
    → has_head sent.place ≡ true → has_head new.place ≡ true
grown_headed old new sent g headed = rw (ap (λ (w : Writing). w.place) g.grown) headed

-- ---- calls that queue

-- tasks that were queued
queued_headed : (old new : Writing) (tasks : List HttpTask) → AreQueued old tasks new
    → has_head old.place ≡ true → has_head new.place ≡ true
queued_headed old new tasks q headed =
    grown_headed old new (wire old.request old.place tasks) q.grows
    (tasks_headed old.request old.place tasks headed)

-- a task on which a call stopped
stopped_headed : (old new : Writing) (one : HttpTask) (why : Fail) → StopsOn old one new why
    → has_head old.place ≡ true → has_head new.place ≡ true
stopped_headed old new one fail.OutOfMemory same headed =
    subst (λ (w : Writing). has_head w.place ≡ true) (sym same) headed
stopped_headed old new one (fail.Error error) refused headed =
    grown_headed old new (task_sent old.request old.place one) refused.grows
    (task_headed old.request old.place one headed)

-- a call that stopped at one of several tasks
stops_headed : (old new : Writing) (tasks : List HttpTask) (why : Fail)
    → StopsAt old tasks new why → has_head old.place ≡ true → has_head new.place ≡ true
stops_headed old new tasks why s headed =
    stopped_headed s.mid new s.at why s.stops
    (queued_headed old s.mid s.before s.queued headed)

-- a batch that was refused
batch_headed : (refused : Option Error) (old new : Writing) (tasks : List HttpTask) (why : Fail)
    → StopsBatch refused old tasks new why → has_head old.place ≡ true
    → has_head new.place ≡ true
batch_headed (Some error) old new tasks why same headed =
    subst (λ (w : Writing). has_head w.place ≡ true) (sym same.1) headed
batch_headed None old new tasks why s headed = stops_headed old new tasks why s headed

-- a call that failed to queue a batch
fails_headed : (output : Outgoing) (old new : Writing) (tasks : List HttpTask) (why : Fail)
    → FailsBatch output old tasks new why → has_head old.place ≡ true → has_head new.place ≡ true
fails_headed (outgoing.Open queue) old new tasks why s headed =
    batch_headed (batch_refusal old.request old.place tasks) old new tasks why s headed
fails_headed (outgoing.Broken fault) old new tasks why same headed =
    subst (λ (w : Writing). has_head w.place ≡ true) (sym same.1) headed

-- ---- what lasts

-- a session that is the same
pub same_lasts : (old new : HttpSession) → new ≡ old → IsLasting old new
same_lasts old new same = record {
  head = ap (λ (x : HttpSession). head_of x.reading) same;
  answered = λ headed. subst (λ (x : HttpSession). has_head x.writing.place ≡ true) (sym same)
      headed;
}

-- one of which the body was read
pub read_lasts : (old new : HttpSession) → head_of new.reading ≡ head_of old.reading
    → new.writing ≡ old.writing → IsLasting old new
read_lasts old new head same = record {
  head = head;
  answered = λ headed. subst (λ (w : Writing). has_head w.place ≡ true) (sym same) headed;
}

-- one that wrote
pub wrote_lasts : (old new : HttpSession) → new.reading ≡ old.reading
    → new.writing.place ≡ old.writing.place → IsLasting old new
wrote_lasts old new same stands = record {
  head = ap (λ (r : Reading). head_of r) same;
  answered = λ headed. subst (λ (at : Place). has_head at ≡ true) (sym stands) headed;
}

-- one for which all of a batch was queued
pub all_last : (old new : HttpSession) (tasks : List HttpTask) (finished over : Bool)
    → QueuesAll old new tasks finished over → IsLasting old new
all_last old new tasks finished over q = record {
  head = ap (λ (r : Reading). head_of r) q.reading;
  answered = queued_headed old.writing new.writing tasks q.queued;
}

-- or a front of it
pub front_lasts : (old new : HttpSession) (tasks : List HttpTask) (finished : Bool) (why : Fail)
    → QueuesFront old new tasks finished why → IsLasting old new
front_lasts old new tasks finished why (client.QueuesFront.fails found front is same) =
    same_lasts old new same
front_lasts old new tasks finished why (client.QueuesFront.is_late none late is same) =
    same_lasts old new same
front_lasts old new tasks finished why (client.QueuesFront.stops none unasked same fails) =
    record {
      head = ap (λ (r : Reading). head_of r) same;
      answered = fails_headed old.writing.output old.writing new.writing tasks why fails;
    }

-- one whose end was queued
pub ended_lasts : (old new : HttpSession) (sent : Sent) → new.reading ≡ old.reading
    → Grows sent old.writing new.writing
    → (has_head old.writing.place ≡ true → has_head sent.place ≡ true) → IsLasting old new
ended_lasts old new sent same grows stays = record {
  head = ap (λ (r : Reading). head_of r) same;
  answered = λ headed. grown_headed old.writing new.writing sent grows (stays headed);
}

-- the end of the body of a response
pub done_lasts : (old new : HttpSession) → new.reading ≡ old.reading
    → Grows (task_sent old.writing.request old.writing.place task.Done) old.writing new.writing
    → IsLasting old new
done_lasts old new same grows =
    ended_lasts old new _ same grows
    (task_headed old.writing.request old.writing.place task.Done)
