-- The response of a session as its clauses see it: its tasks so far, what the link took of their
-- text, and what waits.
use Rattle.std.specs.Prelude.{◌≡◌, ℕ, ◌+◌, ◌<◌, ◌==◌, Bool, true, false, not, ◌&&◌, ◌||◌, List, [], ◌∷◌, ◌++◌, length, min, Option, Some, None, Result, Ok, Err}
use Rattle.relay_tasks.specs.declared.error.Error.{Error}
use Rattle.relay_tasks.specs.declared.error.ErrorSource.TheVariants.{Downstream}
use Rattle.relay_tasks.specs.declared.error.Fail.{Fail}
use Rattle.relay_tasks.specs.declared.error.Fail.TheVariants as fail
use Rattle.relay_tasks.specs.declared.fault.Fault.{Fault}
use Rattle.relay_tasks.specs.declared.task.HttpTask.{HttpTask}
use Rattle.relay_tasks.specs.declared.task.HttpTask.TheVariants as task
use Rattle.relay_tasks.specs.Error.{error_of_fault}
use Rattle.relay_links.specs.Count.{last_count}
use Rattle.relay_links.specs.declared.link.Put.{Put}
use Rattle.relay_links.specs.declared.link.Put.TheVariants as put
use Rattle.relay_links.specs.Link.{LinkState}
use Rattle.relay_h1.specs.BodyWire.{is_full}
use Rattle.relay_h1.specs.Move.{WritesOut}
use Rattle.relay_session.specs.declared.task_text.Place.{Place}
use Rattle.relay_session.specs.declared.task_text.Place.TheVariants as place
use Rattle.relay_session.specs.declared.writing.Outgoing.{Outgoing}
use Rattle.relay_session.specs.declared.writing.Outgoing.TheVariants as outgoing
use Rattle.relay_session.specs.declared.writing.Writing.{Writing}
use Rattle.relay_session.specs.TaskWire.{Sent, task_sent, refusal, wire, first_refusal, batch_refusal}
use Rattle.relay_session.specs.TaskSteps.{IsWire}

-- a final head was queued
abbrev pub has_head : Place → Bool
has_head place.NoHead = false
has_head (place.Body rest) = true
has_head place.Done = true

-- a final head was queued, and its end was too or its framing takes no more bytes
abbrev pub is_over : Place → Bool
is_over place.NoHead = false
is_over (place.Body rest) = is_full rest
is_over place.Done = true

-- the bytes that wait
abbrev pub pending : Outgoing → List ℕ
pending (outgoing.Open queue) = queue
pending (outgoing.Broken fault) = []

-- nothing waits, and no write failed
abbrev pub is_written_out : Outgoing → Bool
is_written_out (outgoing.Open queue) = length queue == 0
is_written_out (outgoing.Broken fault) = false

-- the response stands as it did before its first task: no final head was queued, nothing waits, and
-- no write failed. Informational heads may have been written
abbrev pub is_unqueued : Writing → Bool
is_unqueued response = not (has_head response.place) && is_written_out response.output

-- ---- the tasks so far

-- these tasks are sent as this text, and so many bytes of it are of the body; the response stands
-- behind them, and knows whether they close the connection
pub record IsText (response : Writing) (tasks : List HttpTask) (text : List ℕ) : Type 0 where
  pub counted : ℕ
  pub wire : IsWire response.request tasks
      (record {
        text = text;
        counted = counted;
        closes = response.closes;
        place = response.place;
      })
  pub counts : response.body_bytes ≡ min counted last_count

-- what the link took, and what waits behind it, is the text of the tasks; once a write failed, what
-- the link took is the front of that text
abbrev pub HoldsOn : Writing → Outgoing → List HttpTask → List ℕ → Type 0
HoldsOn response (outgoing.Open queue) tasks taken = IsText response tasks (taken ++ queue)
HoldsOn response (outgoing.Broken fault) tasks taken =
    (lost : List ℕ) × IsText response tasks (taken ++ lost)

-- these are the tasks of the session since it began, and the bytes that the link took of them
abbrev pub Holds : Writing → List HttpTask → List ℕ → Type 0
Holds response tasks taken = HoldsOn response response.output tasks taken

-- the call goes on with these tasks: whatever the tasks before were, they follow those
abbrev pub GoesOnWith : Writing → Writing → List HttpTask → Type 0
GoesOnWith old new more =
    (tasks : List HttpTask) (taken : List ℕ) → Holds old tasks taken
    → Holds new (tasks ++ more) taken

-- ---- one call

-- what is sent waits behind what waited, and the response has moved on to where that leads
pub record Grows (sent : Sent) (old new : Writing) : Type 0 where
  pub queue : List ℕ
  pub was_open : old.output ≡ outgoing.Open queue
  pub grown : new ≡ record old {
    place = sent.place;
    output = outgoing.Open (queue ++ sent.text);
    body_bytes = min (old.body_bytes + sent.counted) last_count;
    closes = old.closes || sent.closes;
  }

-- the task was queued, and is not refused
pub record IsQueued (old : Writing) (task : HttpTask) (new : Writing) : Type 0 where
  pub passes : refusal old.request old.place task ≡ None
  pub grows : Grows (task_sent old.request old.place task) old new
  pub goes_on : GoesOnWith old new (task ∷ [])

-- these tasks were queued, and none of them is refused
pub record AreQueued (old : Writing) (tasks : List HttpTask) (new : Writing) : Type 0 where
  pub passes : first_refusal old.request old.place tasks ≡ None
  pub grows : Grows (wire old.request old.place tasks) old new
  pub goes_on : GoesOnWith old new tasks

-- the error of a session whose write failed so
abbrev pub error_of : Fault → Error
error_of fault = record (error_of_fault fault) { esource = Downstream }

-- a refusal is that one; memory may be wanted
abbrev pub IsRefusal : Option Error → Fail → Type 0
IsRefusal refused fail.OutOfMemory = Unit {0}
IsRefusal refused (fail.Error error) = refused ≡ Some error

-- the failure of a call: the fault that is kept, or else the refusal; memory may be wanted where no
-- fault is kept
abbrev pub IsFailure : Outgoing → Option Error → Fail → Type 0
IsFailure (outgoing.Open queue) refused given = IsRefusal refused given
IsFailure (outgoing.Broken fault) refused given = given ≡ fail.Error (error_of fault)

-- a task that is refused counts as given; a failure is no part of the response
abbrev pub given_of : HttpTask → List HttpTask
given_of (task.Header head ends) = task.Header head ends ∷ []
given_of (task.Body piece ends) = task.Body piece ends ∷ []
given_of (task.UpgradedBody piece ends) = task.UpgradedBody piece ends ∷ []
given_of (task.Trailer fields) = task.Trailer fields ∷ []
given_of task.Done = task.Done ∷ []
given_of (task.Failed error) = []

-- the task was refused: what it is sent as was queued
pub record IsRefused (old : Writing) (task : HttpTask) (new : Writing) (error : Error)
    : Type 0 where
  pub refused : refusal old.request old.place task ≡ Some error
  pub grows : Grows (task_sent old.request old.place task) old new
  pub goes_on : GoesOnWith old new (given_of task)

-- what is sent was queued, whatever the refusal
pub record Given (sent : Sent) (why : Option Error) (goes : Type 0) (old new : Writing)
    (refused : Option Error) : Type 0 where
  pub grows : Grows sent old new
  pub is_refused : why ≡ refused
  pub goes_on : goes

-- a call that queues one thing, by its answer: nothing was queued where a fault is kept, and where
-- memory was wanted
abbrev pub Takes :
    Outgoing → Sent → Option Error → Type 0 → Writing → Writing → Result Unit Fail → Type 0
Takes output sent why goes old new (Ok done) = Given sent why goes old new None
Takes (outgoing.Open queue) sent why goes old new (Err fail.OutOfMemory) = new ≡ old
Takes (outgoing.Open queue) sent why goes old new (Err (fail.Error error)) =
    Given sent why goes old new (Some error)
Takes (outgoing.Broken fault) sent why goes old new (Err given) =
    (given ≡ fail.Error (error_of fault)) × (new ≡ old)

-- the answer by a refusal
abbrev pub passed : Option Error → Result Unit Fail
passed None = Ok tt
passed (Some error) = Err (fail.Error error)

-- a task on which a call stopped: it was refused, or memory was wanted and nothing of it was queued
abbrev pub StopsOn : Writing → HttpTask → Writing → Fail → Type 0
StopsOn old task new fail.OutOfMemory = new ≡ old
StopsOn old task new (fail.Error error) = IsRefused old task new error

-- the failure of a call that queues a task: the fault that is kept, which changes nothing, or else
-- that of the task
abbrev pub FailsOn : Outgoing → Writing → HttpTask → Writing → Fail → Type 0
FailsOn (outgoing.Open queue) old task new given = StopsOn old task new given
FailsOn (outgoing.Broken fault) old task new given =
    (given ≡ fail.Error (error_of fault)) × (new ≡ old)

-- a call that queues several tasks stopped at one of them; those before it were queued
pub record StopsAt (old : Writing) (tasks : List HttpTask) (new : Writing) (given : Fail)
    : Type 0 where
  pub before : List HttpTask
  pub at : HttpTask
  pub behind : List HttpTask
  pub are_tasks : tasks ≡ before ++ at ∷ behind
  pub mid : Writing
  pub queued : AreQueued old before mid
  pub stops : StopsOn mid at new given

-- the failure of a call that queues several tasks: the fault that is kept, which changes nothing, or
-- else that of the task at which it stopped
abbrev pub FailsWithin : Outgoing → Writing → List HttpTask → Writing → Fail → Type 0
FailsWithin (outgoing.Open queue) old tasks new given = StopsAt old tasks new given
FailsWithin (outgoing.Broken fault) old tasks new given =
    (given ≡ fail.Error (error_of fault)) × (new ≡ old)

-- the failure of a batch: the check refuses it and nothing has changed, or it stopped at a task
abbrev pub StopsBatch : Option Error → Writing → List HttpTask → Writing → Fail → Type 0
StopsBatch (Some error) old tasks new given = (given ≡ fail.Error error) × (new ≡ old)
StopsBatch None old tasks new given = StopsAt old tasks new given

-- the failure of a call that queues a batch: the fault that is kept, which changes nothing, or else
-- that of the batch
abbrev pub FailsBatch : Outgoing → Writing → List HttpTask → Writing → Fail → Type 0
FailsBatch (outgoing.Open queue) old tasks new given =
    StopsBatch (batch_refusal old.request old.place tasks) old tasks new given
FailsBatch (outgoing.Broken fault) old tasks new given =
    (given ≡ fail.Error (error_of fault)) × (new ≡ old)

-- no write has failed
abbrev pub IsOpen : Outgoing → Type 0
IsOpen output = (queue : List ℕ) × (output ≡ outgoing.Open queue)

-- a write is due, or the answer of one that failed is
abbrev pub MayWrite : Outgoing → Type 0
MayWrite (outgoing.Open queue) = 0 < length queue
MayWrite (outgoing.Broken fault) = Unit {0}

-- what a write leaves: a fault is kept, and what waited is dropped
abbrev pub LeavesOpen : List ℕ → Put → Outgoing → Type 0
LeavesOpen rest (put.Took n) left = left ≡ outgoing.Open rest
LeavesOpen rest put.NotReady left = left ≡ outgoing.Open rest
LeavesOpen rest put.Silent left = left ≡ outgoing.Open rest
LeavesOpen rest put.OutOfMemory left = left ≡ outgoing.Open rest
LeavesOpen rest (put.Failed fault) left = left ≡ outgoing.Broken fault

-- one write to the link of the bytes that wait, what the link took leaves them
pub record WritesQueue
    (before after : LinkState) (queue : List ℕ) (answer : Put) (left : Outgoing) : Type 0 where
  pub rest : List ℕ
  pub writes : WritesOut before after queue rest answer
  pub leaves : LeavesOpen rest answer left

-- one write, or the answer of the one that failed, which the link does not see
abbrev pub WritesPending : Outgoing → LinkState → LinkState → Put → Outgoing → Type 0
WritesPending (outgoing.Open queue) before after answer left =
    WritesQueue before after queue answer left
WritesPending (outgoing.Broken fault) before after answer left =
    (answer ≡ put.Failed fault) × (after ≡ before) × (left ≡ outgoing.Broken fault)
