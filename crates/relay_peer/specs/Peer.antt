-- The upstream's side: what passed between a peer and its client since the link was handed out, and
-- why the side answers with an error (RFC 9110, section 15.2; RFC 9112, sections 3 to 8).
use Rattle.std.specs.Prelude.{◌≡◌, ℕ, All, ◌≤◌, Bool, true, false, not, ◌==◌, ◌&&◌, ◌⊎◌, List, [], ◌∷◌, ◌++◌, length, Option, Some, None, is_some, is_none, Result, Ok, Err}
use Rattle.std.specs.List.{list_any, concat}
use Rattle.relay_tasks.specs.declared.context.Context.{Context}
use Rattle.relay_tasks.specs.declared.error.Error.{Error}
use Rattle.relay_tasks.specs.declared.error.ErrorSource.TheVariants.{Upstream}
use Rattle.relay_tasks.specs.declared.error.Fail.{Fail}
use Rattle.relay_tasks.specs.declared.error.Fail.TheVariants as fail
use Rattle.relay_tasks.specs.declared.fault.Fault.{Fault}
use Rattle.relay_tasks.specs.declared.task.HttpTask.{HttpTask}
use Rattle.relay_tasks.specs.declared.took.Took.{Took}
use Rattle.relay_tasks.specs.declared.task.HttpTask.TheVariants as task
use Rattle.relay_tasks.specs.Head.{RequestHead, ResponseHead}
use Rattle.relay_tasks.specs.Task.{is_end}
use Rattle.relay_links.specs.Count.{Rose}
use Rattle.relay_links.specs.Link.{LinkState, LinkStart, IsSound, IsWriteFault}
use Rattle.relay_links.specs.Told.{Since}
use Rattle.relay_links.specs.declared.link.Got.{Got}
use Rattle.relay_links.specs.declared.link.Put.{Put}
use Rattle.relay_links.specs.declared.link.Put.TheVariants as put
use Rattle.relay_h1.specs.declared.framing.Framing.{Framing}
use Rattle.relay_h1.specs.BodyReader.{has_length}
use Rattle.relay_h1.specs.BodyWire.{after_pieces}
use Rattle.relay_h1.specs.BodyWire as wire
use Rattle.relay_h1.specs.Tasks.{HasFinal, Tasks, broken, cut_off}
use Rattle.relay_h1.specs.Verdict.{refused_from}
use Rattle.relay_peer.specs.declared.h1_client.H1Client.{H1Client}
use Rattle.relay_peer.specs.declared.request_writing.RequestWriting.{RequestWriting}
use Rattle.relay_peer.specs.RequestWriting.{Sent, nothing, SentSoFar, with_piece, sent_wire, head_in, rest_of, body_framing, short_request}
use Rattle.relay_peer.specs.declared.response_reading.ResponseReading.{ResponseReading}
use Rattle.relay_peer.specs.ResponseReading.{ReadSoFar, Asks, AnswerCuts, BreaksFor, IsResponseTask, untold, with_task, says, is_over, cut_off_error, fault_error}
use Rattle.relay_peer.specs.ResponseReading as reading
use Rattle.relay_core.specs.Moves.{EndsLast}
use Rattle.relay_core.specs.Past.{Origin, UpPast}
use Rattle.relay_core.specs.Told.{fault_of}
use Rattle.relay_core.specs.Up.{UpState}
use Rattle.relay_links.specs.declared.link.UpKind.TheVariants.{H1}
use Rattle.relay_peer.specs.declared.peer_side.PeerSide.{PeerSide}
use Rattle.relay_peer.specs.Faults.{HasAnswered, FailsOnce, TellsFaults}
use Rattle.relay_peer.specs.Body.{IsFrontOf, bytes_of, body_of, sent_with, sent_as}

-- ---- the response

-- what tasks tell behind what was told
abbrev pub told_behind : reading.ToldResponse → List HttpTask → reading.ToldResponse
told_behind told [] = told
told_behind told (task ∷ tasks) = told_behind (with_task told task) tasks

-- what the tasks of a response tell
abbrev pub told_of : List HttpTask → reading.ToldResponse
told_of tasks = told_behind untold tasks

-- a piece of the body stands behind the final head
abbrev pub StandsBehind : reading.ToldResponse → HttpTask → Type 0
StandsBehind told (task.Header head end) = Unit {0}
StandsBehind told (task.Body piece end) = is_some told.final ≡ true
StandsBehind told (task.UpgradedBody piece end) = Unit {0}
StandsBehind told (task.Trailer fields) = Unit {0}
StandsBehind told task.Done = Unit {0}
StandsBehind told (task.Failed error) = Unit {0}

-- the tasks follow what was told: one final head behind those that inform, then its body
abbrev pub Follow : reading.ToldResponse → List HttpTask → Type 0
Follow told [] = Unit {0}
Follow told (task ∷ tasks) =
    IsResponseTask told task × StandsBehind told task × Follow (with_task told task) tasks

-- how a body with that framing ends: one of a length with a piece, and each other by the end alone
abbrev pub EndsAs : Framing → HttpTask → Type 0
EndsAs framing (task.Header head end) = Unit {0}
EndsAs framing (task.Body piece end) = end ≡ true → has_length framing ≡ true
EndsAs framing (task.UpgradedBody piece end) = Unit {0}
EndsAs framing (task.Trailer fields) = Unit {0}
EndsAs framing task.Done = has_length framing ≡ false
EndsAs framing (task.Failed error) = Unit {0}

-- the final head that was told stands in the bytes, and the tasks end its body as it is framed
pub record EndFramed (method : List ℕ) (upgrade : Bool) (got : List ℕ)
    (informed : List ResponseHead) (head : ResponseHead)
    (tasks : List HttpTask) : Type 0 where
  pub framing : Framing
  pub len : ℕ
  pub has : HasFinal method upgrade got informed head framing len
  pub each : All (EndsAs framing) tasks

-- tasks that tell what the bytes of a link say of the response to that method
pub record AreTasks
    (method : List ℕ) (upgrade closed : Bool) (got : List ℕ) (tasks : List HttpTask)
    (client : ResponseReading) : Type 0 where
  pub so_far : ReadSoFar method upgrade closed got (told_of tasks) client
  pub follow : Follow untold tasks
  pub ended : list_any is_end tasks ≡ is_over client.place
  pub ends_last : EndsLast tasks
  pub framed : (head : ResponseHead) → (told_of tasks).final ≡ Some head
      → EndFramed method upgrade got (told_of tasks).informed head tasks

-- ---- the side

-- the state of the side: nothing is pending once something kept it from sending, so that no write
-- is made behind one that failed
abbrev pub state_of : {L : Type 0} → PeerSide L → UpState
state_of side = record {
  kind = H1;
  upgraded = false;
  pending = not (length side.client.request.unsent == 0) && is_none side.send_failed;
  told = side.told;
  read_failed = side.read_failed;
  send_failed = side.send_failed;
}

-- the error of a write that failed, else the one before
abbrev pub put_error : Put → Option Error → Option Error
put_error (put.Took n) before = before
put_error put.NotReady before = before
put_error put.Silent before = before
put_error (put.Failed fault) before = Some (fault_of Upstream fault)
put_error put.OutOfMemory before = before

-- what was queued of the request with that head, the pieces being these: all of them, unless one
-- was lost
pub record IsQueued (head : RequestHead) (taken : List HttpTask) (lost : Bool) (sent : Sent)
    : Type 0 where
  pub unlost : lost ≡ false → sent ≡ sent_as head taken
  pub front : IsFrontOf (sent_wire sent) (sent_wire (sent_as head taken))

-- what of a piece was queued that was lost: nothing, or its bytes without the end that it carries.
-- It is lost when out of memory, or since the request ends short
pub data Loses (sent : Sent) (taken : List ℕ) (task : HttpTask) (writing : RequestWriting)
    : Fail → Type 0 where
  unwritten : SentSoFar sent taken writing → Loses sent taken task writing fail.OutOfMemory
  unended : is_end task ≡ true → SentSoFar (with_piece sent (bytes_of task)) taken writing
      → Loses sent taken task writing fail.OutOfMemory
  is_short : is_end task ≡ true → SentSoFar (with_piece sent (bytes_of task)) taken writing
      → wire.is_short (rest_of writing.request) ≡ true
      → Loses sent taken task writing (fail.Error short_request)

-- what of a piece was queued
abbrev pub Queues : Sent → List ℕ → HttpTask → RequestWriting → Result Unit Fail → Type 0
Queues sent taken task writing (Ok done) = SentSoFar (sent_with sent task) taken writing
Queues sent taken task writing (Err why) = Loses sent taken task writing why

-- why the side answers with that error: the link failed, the response is cut off or broken, or the
-- request ended short
pub data PeerBlames (start : LinkStart) (link : LinkState) (head : RequestHead) (upgrade : Bool)
    (q : UpPast) (e : Error) : Type 0 where
  link_failed : (fault : Fault) → e ≡ fault_error fault → Rose start.faults link.faults
      → HasAnswered start link fault → PeerBlames start link head upgrade q e
  is_cut_off : (told : reading.ToldResponse) → link.ended ≡ true → e ≡ cut_off_error q.got
      → Tasks head.method upgrade q.got true (says told cut_off) → PeerBlames start link head
      upgrade q e
  is_broken : (why : Context) (closed : Bool) (came : List ℕ) (told : reading.ToldResponse)
      → e ≡ refused_from Upstream why → IsFrontOf came q.got
      → Tasks head.method upgrade came closed (says told broken)
      → BreaksFor head.method upgrade came told why → PeerBlames start link head upgrade q e
  is_short_request : (front : List HttpTask) (pieces : List (List ℕ)) → IsFrontOf front q.taken
      → list_any is_end front ≡ true → concat pieces ≡ body_of front
      → wire.is_short (after_pieces (body_framing head) pieces) ≡ true → e ≡ short_request
      → PeerBlames start link head upgrade q e

-- what passed since the link was handed out, which the link tells: the request as far as it was
-- queued, and the response as far as it was read. Once a piece was lost, no more of the request is
-- queued
pub record IsPeer {L : Type 0}
    (o : Origin) (start : LinkStart) (link : LinkState) (client : H1Client L)
    (lost : Option Fail) (q : UpPast) : Type 0 where
  pub got : Since [] start.given link.given q.got
  pub sent : Since [] start.taken link.taken q.sent
  pub faults : start.faults ≤ link.faults
  pub tells : TellsFaults start link
  -- where no call answered a fault, none came
  pub calm : client.failed ≡ false → link.faults ≡ start.faults
  pub sound : IsSound link
  pub head : RequestHead
  pub is_head : head_in client.request.request ≡ Some head
  pub own : head ≡ o.sent
  pub asks : client.asked ≡ o.asked
  pub sending : Sent
  pub so_far : SentSoFar sending q.sent client.request
  pub queued : IsQueued head q.taken q.lost sending
  pub tasks : AreTasks head.method o.asked link.ended q.got q.read client.response
  pub takes : lost ≡ None → q.lost ≡ false
  pub why_lost : (e : Error) → lost ≡ Some (fail.Error e) → PeerBlames start link head o.asked q e

-- the error tells of a fault that a write of the link answered, the only one of its writes; and
-- where no read failed, that is the one call of it that did
pub record IsWriteError (start : LinkStart) (link : LinkState) (read_failed : Bool) (e : Error)
    : Type 0 where
  pub fault : Fault
  pub is : e ≡ fault_error fault
  pub kind : IsWriteFault fault
  pub rose : Rose start.faults link.faults
  pub told : Since [] start.write_faults link.write_faults (fault ∷ [])
  pub once : read_failed ≡ false → FailsOnce start link fault

-- the error tells of the one fault that the link answered: a write failed, and no other call of it
abbrev pub IsOnlyFault : LinkStart → LinkState → Error → Type 0
IsOnlyFault start link e = IsWriteError start link false e

-- an error with which nothing more is sent: that of a write, or that of a request that ends short
abbrev pub CannotSend : LinkStart → LinkState → Bool → Error → Type 0
CannotSend start link read_failed e = IsWriteError start link read_failed e ⊎ (e ≡ short_request)

-- what the marks of the side tell: where no read answered an error, no read of the link failed,
-- where it tells its faults; where no error kept anything from being sent, no write did; where
-- neither, no call of the client failed. And which errors keep something from being sent
pub record AreMarked
    (start : LinkStart) (link : LinkState) (failed read_failed : Bool)
    (send_failed : Option Error) (lost : Option Fail) : Type 0 where
  pub reads : read_failed ≡ false → Since [] start.read_faults link.read_faults []
  pub writes : send_failed ≡ None → Since [] start.write_faults link.write_faults []
  pub calm : read_failed ≡ false → send_failed ≡ None → failed ≡ false
  pub named : (e : Error) → send_failed ≡ Some e → CannotSend start link read_failed e
  pub short : (e : Error) → lost ≡ Some (fail.Error e) → e ≡ short_request

-- what passed over a link that had been used before or not
pub record IsPeerSide {L : Type 0}
    (o : Origin) (start : LinkStart) (link : LinkState) (side : PeerSide L) (q : UpPast)
    : Type 0 where
  pub peer : IsPeer o start link side.client side.lost q
  pub reused : start.reused ≡ o.reused
  -- each fault was told
  pub calm : side.told.errors ≡ 0 → side.client.failed ≡ false
  pub marked : AreMarked start link side.client.failed side.read_failed side.send_failed side.lost

-- a side for which nothing was queued, and which read nothing
pub record IsNew {L : Type 0} (side : PeerSide L) : Type 0 where
  pub sent : SentSoFar nothing [] side.client.request
  pub read : (method : List ℕ) (upgrade closed : Bool)
      → ReadSoFar method upgrade closed [] untold side.client.response
  pub takes : side.lost ≡ None
  pub calm : side.client.failed ≡ false
  pub unasked : side.client.asked ≡ false
  pub unread : side.read_failed ≡ false
  pub unsent : side.send_failed ≡ None

-- a read of a task asks the link once at most, and cuts a piece of the body out of the bytes ahead
-- and those that came: all that they hold of its run, with the end exactly where it completes a
-- length
pub record CutsTask
    (before after : LinkState) (old new : ResponseReading) (answer : Took HttpTask)
    : Type 0 where
  pub came : List ℕ
  pub asked : Option Got
  pub asks : Asks before after came asked
  pub cuts : AnswerCuts old.place (old.ahead ++ came) answer new.ahead

-- nothing passed yet
abbrev pub none_passed : UpPast
none_passed = record { got = []; sent = []; read = []; taken = []; lost = false }

-- what the side answers for is the same, whatever it read
pub peer_unread : (start : LinkStart) (link : LinkState) (head : RequestHead) (upgrade : Bool)
    (q : UpPast) (read : List HttpTask) (e : Error) → PeerBlames start link head upgrade q e
    → PeerBlames start link head upgrade (record q { read = read }) e
peer_unread start link head upgrade q read e (PeerBlames.link_failed fault is rose answered) =
    PeerBlames.link_failed fault is rose answered
peer_unread start link head upgrade q read e (PeerBlames.is_cut_off told ended is says) =
    PeerBlames.is_cut_off told ended is says
peer_unread start link head upgrade q read e
    (PeerBlames.is_broken why closed came told is front says breaks) =
    PeerBlames.is_broken why closed came told is front says breaks
peer_unread start link head upgrade q read e
    (PeerBlames.is_short_request front pieces within ends joined short is) =
    PeerBlames.is_short_request front pieces within ends joined short is
