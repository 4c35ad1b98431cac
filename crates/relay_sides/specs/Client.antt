-- The client's side: what passed between a client and its session since the request began, and why
-- the side answers with an error (RFC 9112, sections 6 and 7).
use Rattle.std.specs.Prelude.{◌≡◌, ℕ, ◌<◌, ◌≤◌, Bool, true, false, not, ◌||◌, ◌==◌, ◌⊎◌, List, [], ◌∷◌, ◌++◌, length, Option, Some, None, IsSome, is_some, Result, Ok, Err}
use Rattle.std.specs.List.{list_any}
use Rattle.relay_tasks.specs.declared.error.Error.{Error}
use Rattle.relay_tasks.specs.declared.error.Fail.{Fail}
use Rattle.relay_tasks.specs.declared.error.Fail.TheVariants as fail
use Rattle.relay_tasks.specs.declared.fault.Fault.{Fault}
use Rattle.relay_tasks.specs.declared.took.Took.{Took}
use Rattle.relay_tasks.specs.declared.took.Took.TheVariants as took
use Rattle.relay_tasks.specs.declared.task.HttpTask.{HttpTask}
use Rattle.relay_tasks.specs.declared.task.HttpTask.TheVariants as task
use Rattle.relay_tasks.specs.Head.{RequestHead}
use Rattle.relay_tasks.specs.Task.{is_end}
use Rattle.relay_links.specs.Count.{Rose}
use Rattle.relay_links.specs.Link.{LinkState, IsReadFault, IsWriteFault}
use Rattle.relay_links.specs.Told.{Since}
use Rattle.relay_links.specs.declared.link.Put.{Put}
use Rattle.relay_links.specs.declared.link.Put.TheVariants as put
use Rattle.relay_h1.specs.declared.framing.Framing.{Framing}
use Rattle.relay_h1.specs.Body.{open_text, broken}
use Rattle.relay_h1.specs.Verdict.{HasRequest}
use Rattle.relay_session.specs.Asked.{request_of}
use Rattle.relay_session.specs.Front.{link_fault, client_closed, client_sent_more, body_broken, ends_with_head}
use Rattle.relay_session.specs.Reading.{head_of, is_body_done, is_kept, replay_of, RequestSoFar, SaysBody, IsWhole}
use Rattle.relay_session.specs.Replay.{retry_buffer}
use Rattle.relay_session.specs.Response.{Holds, AreQueued, FailsBatch, IsOpen, has_head, is_over, pending}
use Rattle.relay_session.specs.TaskWire.{ends_short, first_refusal, refusal, wire}
use Rattle.relay_session.specs.declared.session.HttpSession.{HttpSession}
use Rattle.relay_session.specs.declared.task_text.Place.{Place}
use Rattle.relay_session.specs.declared.task_text.Place.TheVariants as place
use Rattle.relay_session.specs.declared.writing.Outgoing.TheVariants as outgoing
use Rattle.relay_core.specs.Down.{DownState}
use Rattle.relay_core.specs.Past.{Origin, DownPast}
use Rattle.relay_core.specs.Piece.{put_of}
use Rattle.relay_core.specs.Pipe.{is_failure}
use Rattle.relay_core.specs.declared.piece.Piece.{Piece}
use Rattle.relay_core.specs.declared.told.Told.{Told}
use Rattle.relay_core.specs.Told.{paused, failed}
use Rattle.relay_peer.specs.Body.{body_of, bytes_of}
use Rattle.relay_peer.specs.Faults.{TellsSince, IsAmong, IsLast}

-- the bytes of the client since its request began, those that were ahead then first
abbrev pub given_to : Origin → DownPast → List ℕ
given_to s p = s.ahead ++ p.came

-- the tasks of the response that were queued for the client
abbrev pub queued : DownPast → List HttpTask
queued p = p.batched ++ p.closing

-- the state of the side, whose last batch left the response done or not, and whose response's end
-- was asked for or not; `kept` is the fault of the first write that failed. That stays pending, to
-- be answered again. It calls no hook
abbrev pub state_of : HttpSession → Told → Bool → Bool → Option Fault → DownState
state_of session told done finished kept = record {
  request_ended = is_body_done session.reading;
  body_done = is_body_done session.reading;
  awaits_upgrade = false;
  upgraded = false;
  response_done = done;
  body_finished = finished;
  pending = not (length (pending session.writing.output) == 0) || is_some kept;
  told = told;
  calls = 0;
}

-- the fault is of the kind that a write answers, and among those that the client's link told of its
-- writes since the request began
pub record AnsweredWrite (s : Origin) (link : LinkState) (fault : Fault) : Type 0 where
  pub kind : IsWriteFault fault
  pub among : IsAmong s.write_faults link.write_faults fault

-- a write of the client's link failed so since the request began
abbrev pub FailsWrite : Origin → LinkState → Fault → Type 0
FailsWrite s link fault = Rose s.faults link.faults × AnsweredWrite s link fault

-- a piece that was put has a byte of the body, or it is an end
abbrev pub HasSome : HttpTask → Type 0
HasSome task = (0 < length (bytes_of task)) ⊎ (is_end task ≡ true)

-- so has each of them
abbrev pub HaveSome : List HttpTask → Type 0
HaveSome [] = Unit {0}
HaveSome (task ∷ tasks) = HasSome task × HaveSome tasks

-- what passed since the request began, which is told by the client's link: the request as far as it
-- was read, whose body the pieces are, and the response as far as it was queued
pub record IsClient
    (s : Origin) (p : DownPast) (link : LinkState) (ahead : List ℕ) (session : HttpSession)
    : Type 0 where
  pub came : Since [] s.given link.given p.came
  pub written : Since [] s.taken link.taken p.written
  pub faults : s.faults ≤ link.faults
  pub head : RequestHead
  pub framing : Framing
  pub len : ℕ
  pub has : HasRequest (given_to s p) head framing len
  pub has_head : IsSome (head_of session.reading)
  pub own : head ≡ s.head
  pub answers : session.writing.request ≡ request_of head
  pub body : List ℕ
  pub request : RequestSoFar (given_to s p) body ahead session.reading
  -- the pieces, joined, are the body that was given out; an end among them is the body's, and one
  -- is among them where the body has ended
  pub joined : body_of p.put ≡ body
  pub some : HaveSome p.put
  pub ended : list_any is_end p.put ≡ true → is_body_done session.reading ≡ true
  pub whole : is_body_done session.reading ≡ true → list_any is_end p.put ≡ true
  -- a request without a body has ended from its head on
  pub headed : ends_with_head framing ≡ true → is_body_done session.reading ≡ true
  pub told_whole : is_body_done session.reading ≡ true → IsWhole (given_to s p) body ahead
  -- what was written and what waits is the text of what was queued
  pub response : Holds session.writing (queued p) p.written
  pub broken : (fault : Fault) → session.writing.output ≡ outgoing.Broken fault
      → FailsWrite s link fault
  pub tells : TellsSince s.read_faults s.write_faults link

-- no body of the response is open there
abbrev pub IsClosed : Place → Type 0
IsClosed place.NoHead = Unit {0}
IsClosed (place.Body rest) = ⊥
IsClosed place.Done = Unit {0}

-- what passed, and how the flags of the side tell of it: a response that is done was over behind
-- its batches, and is over; one that is over is done, or its end was asked for; once that was so no
-- body of it is open; and no write failed where no fault is kept
pub record HasPassed
    (s : Origin) (p : DownPast) (link : LinkState) (ahead : List ℕ) (session : HttpSession)
    (done finished : Bool) (kept : Option Fault) : Type 0 where
  pub client : IsClient s p link ahead session
  pub over : done ≡ true
      → is_over (wire session.writing.request place.NoHead p.batched).place ≡ true
  -- a failure is not queued
  pub plain : list_any is_failure p.batched ≡ false
  pub plain_end : list_any is_failure p.closing ≡ false
  pub place_over : done ≡ true → is_over session.writing.place ≡ true
  pub said : is_over session.writing.place ≡ true → (done ≡ true) ⊎ (finished ≡ true)
  pub unasked : finished ≡ false → p.closing ≡ []
  pub asked : finished ≡ true → 0 < length p.closing
  pub closed : finished ≡ true → IsClosed session.writing.place
  pub unbroken : kept ≡ None → IsOpen session.writing.output
  pub fault : (f : Fault) → kept ≡ Some f → FailsWrite s link f

-- what each call leaves of the session: the head of its request; and a final head that was queued
-- stays so
pub record IsLasting (old new : HttpSession) : Type 0 where
  pub head : head_of new.reading ≡ head_of old.reading
  pub answered : has_head old.writing.place ≡ true → has_head new.writing.place ≡ true

-- none of the tasks is refused by the client's writer
abbrev pub AllPass : Origin → List HttpTask → Type 0
AllPass s tasks = first_refusal (request_of s.head) place.NoHead tasks ≡ None

-- what the errors that the side told say of the tasks that were queued: where it told none, none of
-- them is refused; where it told one, none is, or the first that is refused is so with that error
pub record IsTold (s : Origin) (tasks : List HttpTask) (told : Told) : Type 0 where
  pub none : told.errors ≡ 0 → AllPass s tasks
  pub one : told.errors ≡ 1 → AllPass s tasks
      ⊎ ((e : Error) × (told.last ≡ Some e)
      × (first_refusal (request_of s.head) place.NoHead tasks ≡ Some e))

-- the past of a side: what passed, and what its errors say of it
pub record IsSide
    (s : Origin) (p : DownPast) (link : LinkState) (ahead : List ℕ) (session : HttpSession)
    (told : Told) (done finished : Bool) (kept : Option Fault) : Type 0 where
  pub passed : HasPassed s p link ahead session done finished kept
  pub tasks : IsTold s (queued p) told

-- a session that begins behind these bytes of a client, whose head was read out of them: all bytes
-- of the body that were given out are kept, and nothing was queued or written
pub record BeginsBehind
    (s : Origin) (came : List ℕ) (link : LinkState) (ahead : List ℕ) (session : HttpSession)
    : Type 0 where
  pub gave : Since [] s.given link.given came
  pub written : Since [] s.taken link.taken []
  pub faults : s.faults ≤ link.faults
  pub head : RequestHead
  pub framing : Framing
  pub len : ℕ
  pub has : HasRequest (s.ahead ++ came) head framing len
  pub has_head : IsSome (head_of session.reading)
  pub own : head ≡ s.head
  pub answers : session.writing.request ≡ request_of head
  pub body : List ℕ
  pub request : RequestSoFar (s.ahead ++ came) body ahead session.reading
  pub kept : is_kept session.reading ≡ true
  pub headed : ends_with_head framing ≡ true → is_body_done session.reading ≡ true
  pub whole : is_body_done session.reading ≡ true → IsWhole (s.ahead ++ came) body ahead
  pub response : Holds session.writing [] []
  pub output : session.writing.output ≡ outgoing.Open []
  pub tells : TellsSince s.read_faults s.write_faults link

-- what is put before more is read of a body, of which that is kept: one piece, with the end, where
-- the body has ended
abbrev pub first_put : Option (List ℕ) → Bool → List HttpTask
first_put kept done =
    put_of false (record { bytes = kept; upstream_end = done; client_end = done })

-- what a session puts first
abbrev pub put_again : HttpSession → List HttpTask
put_again session =
    first_put (retry_buffer (replay_of session.reading)) (is_body_done session.reading)

-- the past of a side that begins behind these bytes, when these pieces were put
abbrev pub begun_past : List ℕ → List HttpTask → DownPast
begun_past came put =
    record { came = came; written = []; put = put; batched = []; closing = [] }

-- the response is not over behind the tasks that were queued
abbrev pub IsUnanswered : Origin → DownPast → Type 0
IsUnanswered s p =
    is_over (wire (request_of s.head) place.NoHead (queued p)).place ≡ false

-- a read of the client's link failed so, last of those since the request began, and its fault
-- counts: the body of the request is open, or the response is not over
pub record CountsRead (s : Origin) (p : DownPast) (link : LinkState) (fault : Fault) : Type 0 where
  pub kind : IsReadFault fault
  pub last : IsLast s.read_faults link.read_faults fault
  pub matters : ((body : List ℕ) × SaysBody (given_to s p) (open_text body)) ⊎ IsUnanswered s p

-- a fault of the client's link counts: it is that of a write, or that of such a read
abbrev pub Counts : Origin → DownPast → LinkState → Fault → Type 0
Counts s p link fault = AnsweredWrite s link fault ⊎ CountsRead s p link fault

-- why the side answers with that error: the client's link failed, its body is broken, it ended
-- inside its body or behind its request, or it sent more than its request. Behind its request it is
-- blamed only while the response is not over
pub data ClientBlames (s : Origin) (p : DownPast) (link : LinkState) (e : Error) : Type 0 where
  link_failed : (fault : Fault) → e ≡ link_fault fault → Rose s.faults link.faults
      → Counts s p link fault → ClientBlames s p link e
  body_is_broken : (body : List ℕ)
      → SaysBody (given_to s p) (record { bytes = body; mark = broken })
      → e ≡ body_broken → ClientBlames s p link e
  ends_inside : (body : List ℕ) → SaysBody (given_to s p) (open_text body) → link.ended ≡ true
      → e ≡ client_closed → ClientBlames s p link e
  ends_behind : (body : List ℕ) → IsWhole (given_to s p) body [] → link.ended ≡ true
      → IsUnanswered s p → e ≡ client_closed → ClientBlames s p link e
  sent_more : (body behind : List ℕ) → IsWhole (given_to s p) body behind → 0 < length behind
      → IsUnanswered s p → e ≡ client_sent_more → ClientBlames s p link e

-- the response cannot end where it stands, with that error; where the side told no other, none of
-- the tasks that were queued is refused
pub record CannotEnd (s : Origin) (p : DownPast) (told : Told) (e : Error) : Type 0 where
  pub refused : refusal (request_of s.head)
      (wire (request_of s.head) place.NoHead (queued p)).place task.Done ≡ Some e
  pub passes : told.errors ≡ 1 → AllPass s (queued p)

-- why the side refuses a batch of which these tasks are left: a write failed before; the last task
-- that was given is refused, so that its end was not queued; the batch is refused as a whole, none
-- of which was queued, for the first of its tasks that is refused; or the end of the response was
-- asked for before. Where the side told no other error, none of the tasks before is refused
pub data ClientRefuses
    (s : Origin) (p : DownPast) (link : LinkState) (told : Told) (left : List HttpTask) (e : Error)
    : Type 0 where
  link_failed : (fault : Fault) → e ≡ link_fault fault → FailsWrite s link fault
      → ClientRefuses s p link told left e
  is_cut : (front : List HttpTask) (at : HttpTask) → p.closing ≡ []
      → p.batched ≡ front ++ at ∷ []
      → refusal (request_of s.head) (wire (request_of s.head) place.NoHead front).place at ≡ Some e
      → (told.errors ≡ 1 → AllPass s front) → ClientRefuses s p link told left e
  is_unfit : p.closing ≡ []
      → first_refusal (request_of s.head) (wire (request_of s.head) place.NoHead p.batched).place
      left ≡ Some e
      → (told.errors ≡ 1 → AllPass s p.batched) → ClientRefuses s p link told left e
  behind_the_end : 0 < length p.closing → e ≡ ends_short → ClientRefuses s p link told left e

-- ---- what the code does between the session and the duplex

-- the piece that an answer of the session is: the end comes with the last bytes, or alone
abbrev pub piece_answer : Took (List ℕ) → Bool → Took Piece
piece_answer (took.Item bytes) done =
    took.Item (record { bytes = Some bytes; upstream_end = done; client_end = done })
piece_answer took.More done = took.More
piece_answer (took.Waited pause) done = took.Waited pause
piece_answer took.End done =
    took.Item (record { bytes = None; upstream_end = true; client_end = true })
piece_answer (took.Failed why) done = took.Failed why

-- one more answer of a read
abbrev pub told_read : Took Piece → Told → Told
told_read (took.Item piece) told = told
told_read took.More told = told
told_read (took.Waited pause) told = paused pause told
told_read took.End told = told
told_read (took.Failed why) told = failed why told

-- the fault of a write that failed
abbrev pub fault_in : Put → Option Fault
fault_in (put.Took n) = None
fault_in put.NotReady = None
fault_in put.Silent = None
fault_in (put.Failed fault) = Some fault
fault_in put.OutOfMemory = None

-- the error of a failure in front
abbrev pub failure_in_front : List HttpTask → Option Error
failure_in_front [] = None
failure_in_front (task.Header head end ∷ tasks) = None
failure_in_front (task.Body piece end ∷ tasks) = None
failure_in_front (task.UpgradedBody piece end ∷ tasks) = None
failure_in_front (task.Trailer fields ∷ tasks) = None
failure_in_front (task.Done ∷ tasks) = None
failure_in_front (task.Failed error ∷ tasks) = Some error

-- tasks were queued for the session's client
pub record QueuesAll (old new : HttpSession) (tasks : List HttpTask) (finished over : Bool)
    : Type 0 where
  pub unasked : finished ≡ false
  pub reading : new.reading ≡ old.reading
  pub queued : AreQueued old.writing tasks new.writing
  pub is_over : over ≡ is_over new.writing.place

-- why not all of them were
pub data QueuesFront (old new : HttpSession) (tasks : List HttpTask) (finished : Bool) (why : Fail)
    : Type 0 where
  fails : (error : Error) → failure_in_front tasks ≡ Some error → why ≡ fail.Error error
      → new ≡ old → QueuesFront old new tasks finished why
  is_late : failure_in_front tasks ≡ None → finished ≡ true → why ≡ fail.Error ends_short
      → new ≡ old → QueuesFront old new tasks finished why
  stops : failure_in_front tasks ≡ None → finished ≡ false → new.reading ≡ old.reading
      → FailsBatch old.writing.output old.writing tasks new.writing why
      → QueuesFront old new tasks finished why

-- what queueing tasks does, by its answer
abbrev pub Queues :
    HttpSession → HttpSession → List HttpTask → Bool → Result Bool Fail → Type 0
Queues old new tasks finished (Ok over) = QueuesAll old new tasks finished over
Queues old new tasks finished (Err why) = QueuesFront old new tasks finished why
