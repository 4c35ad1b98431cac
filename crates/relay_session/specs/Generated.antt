-- The answers that the relay makes itself (RFC 9110, section 15).
use Rattle.std.specs.Prelude.{◌≡◌, ℕ, true, false, List, [], ◌∷◌, ◌++◌, length, codes, Some}
use Rattle.std.specs.Fmt.{decimal}
use Rattle.http.specs.declared.version.TheConstants.Version.{HTTP_11}
use Rattle.http_header.specs.FieldValue.{plain_value}
use Rattle.relay_tasks.specs.Head.{ResponseHead}
use Rattle.relay_tasks.specs.declared.error.Fail.{Fail}
use Rattle.relay_tasks.specs.declared.error.Fail.TheVariants as fail
use Rattle.relay_tasks.specs.declared.task.HttpTask.{HttpTask}
use Rattle.relay_tasks.specs.declared.task.HttpTask.TheVariants as task
use Rattle.relay_session.specs.declared.task_text.Place.{Place}
use Rattle.relay_session.specs.declared.task_text.Place.TheVariants as place
use Rattle.relay_session.specs.declared.writing.Outgoing.{Outgoing}
use Rattle.relay_session.specs.declared.writing.Outgoing.TheVariants as outgoing
use Rattle.relay_session.specs.declared.writing.Writing.{Writing}
use Rattle.relay_session.specs.Response.{error_of}
use Rattle.relay_h1.specs.ClientHead.{is_sent_to}
use Rattle.relay_h1.specs.Wire.{generated}

-- the head of an answer before a body of so many bytes
unfoldable pub generated_head : ℕ → ℕ → ResponseHead
generated_head code size =
    record {
      status = code;
      version = HTTP_11;
      fields =
          (codes "server", plain_value (codes "Pingora") ∷ [])
          ∷ (codes "content-length", plain_value (decimal size) ∷ [])
          ∷ (codes "cache-control", plain_value (codes "private, no-store") ∷ []) ∷ [];
    }

-- the tasks of an answer without a body, by where the response stands: none behind a final head
abbrev pub answer_tasks : Place → ℕ → List HttpTask
answer_tasks place.NoHead code = task.Header (generated_head code 0) true ∷ []
answer_tasks (place.Body rest) code = []
answer_tasks place.Done code = []

-- the head of an answer, and its body
abbrev pub head_and_body : ℕ → List ℕ → List HttpTask
head_and_body code body =
    task.Header (generated_head code (length body)) false ∷ task.Body (Some body) true ∷ []

-- the tasks of an answer with that body, by where the response stands
abbrev pub body_answer_tasks : Place → ℕ → List ℕ → List HttpTask
body_answer_tasks place.NoHead code body = head_and_body code body
body_answer_tasks (place.Body rest) code body = []
body_answer_tasks place.Done code body = []

-- where no head was queued and the client is sent the answer's head, its text is the generated one
abbrev pub AnswersText : ℕ → Writing → Writing → Type 0
AnswersText code old new =
    (queue : List ℕ) → old.output ≡ outgoing.Open queue → old.place ≡ place.NoHead
    → is_sent_to old.request.version code ≡ true
    → new.output ≡ outgoing.Open (queue ++ generated code)

-- the failure is the fault that is kept
abbrev pub IsKeptFault : Outgoing → Fail → Type 0
IsKeptFault (outgoing.Open queue) given = ⊥
IsKeptFault (outgoing.Broken fault) given = given ≡ fail.Error (error_of fault)

-- the failure of a call that is never refused: the fault that is kept, or else out of memory
abbrev pub IsFaultOrMemory : Outgoing → Fail → Type 0
IsFaultOrMemory (outgoing.Open queue) given = given ≡ fail.OutOfMemory
IsFaultOrMemory (outgoing.Broken fault) given = given ≡ fail.Error (error_of fault)
