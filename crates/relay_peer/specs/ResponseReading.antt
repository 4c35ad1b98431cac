-- How a response is read: what its tasks tell so far, and what each call says of the bytes that
-- the link gave (RFC 9110, section 15.2; RFC 9112, sections 4 to 8).
use Rattle.std.specs.Prelude.{◌≡◌, ℕ, ◌+◌, ◌<◌, ◌==◌, Bool, true, false, not, ◌&&◌, List, [], ◌∷◌, ◌++◌, ◌⊎◌, length, drop, min, Option, Some, None, if◌then◌else◌}
use Rattle.http.specs.declared.Version.{Version}
use Rattle.http.specs.declared.version.Http.{Http}
use Rattle.http.specs.declared.version.Http.TheVariants.{Http09, Http10, Http11, H2, H3}
use Rattle.relay_tasks.specs.Head.{ResponseHead}
use Rattle.relay_tasks.specs.Error.{explained, error_of_fault}
use Rattle.relay_tasks.specs.Task.{is_end}
use Rattle.relay_tasks.specs.declared.context.Context.{Context}
use Rattle.relay_tasks.specs.declared.context.Context.TheVariants.{BadFraming, UpstreamClosed}
use Rattle.relay_tasks.specs.declared.error.Error.{Error}
use Rattle.relay_tasks.specs.declared.error.ErrorSource.TheVariants.{Upstream}
use Rattle.relay_tasks.specs.declared.error.ErrorType.TheVariants.{ConnectionClosed}
use Rattle.relay_tasks.specs.declared.error.RetryType.TheVariants.{Decided, ReusedOnly}
use Rattle.relay_tasks.specs.declared.error.Fail.TheVariants as fail
use Rattle.relay_tasks.specs.declared.fault.Fault.{Fault}
use Rattle.relay_tasks.specs.declared.task.HttpTask.{HttpTask}
use Rattle.relay_tasks.specs.declared.task.HttpTask.TheVariants as task
use Rattle.relay_tasks.specs.declared.took.Pause.{Pause}
use Rattle.relay_tasks.specs.declared.took.Pause.TheVariants as pause
use Rattle.relay_tasks.specs.declared.took.Took.{Took}
use Rattle.relay_tasks.specs.declared.took.Took.TheVariants as took
use Rattle.relay_links.specs.Link.{LinkState}
use Rattle.relay_links.specs.Count.{last_count}
use Rattle.relay_links.specs.declared.link.Got.{Got}
use Rattle.relay_links.specs.declared.link.Got.TheVariants as got
use Rattle.relay_h1.specs.declared.framing.Framing.{Framing}
use Rattle.relay_h1.specs.Body.{Body, open_text}
use Rattle.relay_h1.specs.Body as body
use Rattle.relay_h1.specs.declared.body_reader.State.{State}
use Rattle.relay_h1.specs.declared.body_reader.State.TheVariants as state
use Rattle.relay_h1.specs.BodyReader.{SoFar, Takes, TakesPiece, first_state, is_done}
use Rattle.relay_h1.specs.BodyWire.{says_end}
use Rattle.relay_h1.specs.ClientHead.{is_informational}
use Rattle.relay_h1.specs.Move.{ReadsMore}
use Rattle.relay_h1.specs.Options.{closes}
use Rattle.relay_h1.specs.Tasks.{Informs, Tasks, ResponseText, ResponseMark, still_open, ended, broken, cut_off, HasFinal, IsRefusedBehind}
use Rattle.relay_h1.specs.Verdict.{HasResponse, IsOpen, refused_from}
use Rattle.relay_peer.specs.declared.response_reading.Found.{Found}
use Rattle.relay_peer.specs.declared.response_reading.Found.TheVariants as found
use Rattle.relay_peer.specs.declared.response_reading.OpenBody.{OpenBody}
use Rattle.relay_peer.specs.declared.response_reading.ResponsePlace.{ResponsePlace}
use Rattle.relay_peer.specs.declared.response_reading.ResponsePlace.TheVariants as place
use Rattle.relay_peer.specs.declared.response_reading.ResponseReading.{ResponseReading}
use Rattle.relay_peer.specs.declared.response_reading.ReadingStep.{ReadingStep}

-- ---- what tasks tell

-- what tasks tell of a response: its informational heads, its final head, the bytes of its body
pub record ToldResponse : Type 0 where
  pub informed : List ResponseHead
  pub final : Option ResponseHead
  pub body : List ℕ

-- nothing was told yet
abbrev pub untold : ToldResponse
untold = record { informed = []; final = None; body = [] }

-- what is told with one head more
abbrev pub with_head : ToldResponse → ResponseHead → ToldResponse
with_head told head =
    if is_informational head.status then record told { informed = told.informed ++ head ∷ [] }
    else record told { final = Some head }

-- what is told with one piece of the body more
abbrev pub with_piece : ToldResponse → Option (List ℕ) → ToldResponse
with_piece told None = told
with_piece told (Some piece) = record told { body = told.body ++ piece }

-- what is told with one task more
abbrev pub with_task : ToldResponse → HttpTask → ToldResponse
with_task told (task.Header head end) = with_head told head
with_task told (task.Body piece end) = with_piece told piece
with_task told (task.UpgradedBody piece end) = told
with_task told (task.Trailer fields) = told
with_task told task.Done = told
with_task told (task.Failed error) = told

-- a piece of some bytes
abbrev pub IsPiece : Option (List ℕ) → Type 0
IsPiece None = ⊥
IsPiece (Some piece) = 0 < length piece

-- a task that an HTTP/1 response gives behind what was told: a head, where no final one was told,
-- some bytes of the body, or the end alone
abbrev pub IsResponseTask : ToldResponse → HttpTask → Type 0
IsResponseTask told (task.Header head end) = told.final ≡ None
IsResponseTask told (task.Body piece end) = IsPiece piece
IsResponseTask told (task.UpgradedBody piece end) = ⊥
IsResponseTask told (task.Trailer fields) = ⊥
IsResponseTask told task.Done = Unit {0}
IsResponseTask told (task.Failed error) = ⊥

-- how many bytes of a body a task has
abbrev pub piece_len : Option (List ℕ) → ℕ
piece_len None = 0
piece_len (Some piece) = length piece

-- how many bytes of a body an answer has
abbrev pub body_len : Took HttpTask → ℕ
body_len (took.Item (task.Header head end)) = 0
body_len (took.Item (task.Body piece end)) = piece_len piece
body_len (took.Item (task.UpgradedBody piece end)) = piece_len piece
body_len (took.Item (task.Trailer fields)) = 0
body_len (took.Item task.Done) = 0
body_len (took.Item (task.Failed error)) = 0
body_len took.More = 0
body_len (took.Waited pause) = 0
body_len took.End = 0
body_len (took.Failed fail) = 0

-- the answer is an error; out of memory is none
abbrev pub is_error : Took HttpTask → Bool
is_error (took.Item task) = false
is_error took.More = false
is_error (took.Waited pause) = false
is_error took.End = false
is_error (took.Failed fail.OutOfMemory) = false
is_error (took.Failed (fail.Error error)) = true

-- the answer is that the link has to be waited for
abbrev pub is_wait : Took HttpTask → Bool
is_wait (took.Item task) = false
is_wait took.More = false
is_wait (took.Waited pause) = true
is_wait took.End = false
is_wait (took.Failed fail) = false

-- the answer is a task
abbrev pub is_item : Took HttpTask → Bool
is_item (took.Item task) = true
is_item took.More = false
is_item (took.Waited pause) = false
is_item took.End = false
is_item (took.Failed fail) = false

-- a count after so many more; it stands still at its last value
abbrev pub counted : ℕ → ℕ → ℕ
counted count more = min (count + more) last_count

-- what is told, and the mark of the response
abbrev pub says : ToldResponse → ResponseMark → ResponseText
says told mark =
    record { informed = told.informed; final = told.final; body = told.body; mark = mark }

-- ---- whether the link may be kept

-- HTTP/1.1
abbrev pub is_version_11 : Http → Bool
is_version_11 Http09 = false
is_version_11 Http10 = false
is_version_11 Http11 = true
is_version_11 H2 = false
is_version_11 H3 = false

abbrev pub is_http_11 : Version → Bool
is_http_11 version = is_version_11 version.0

-- the head and the framing of a response let its link be kept: HTTP/1.1, a body that says where it
-- ends, and no option `close` (RFC 9112, section 9.3)
abbrev pub lets_keep : ResponseHead → Framing → Bool
lets_keep head framing =
    is_http_11 head.version && (says_end framing && not (closes head.fields))

-- ---- where the reading is

-- the response has ended
abbrev pub is_over : ResponsePlace → Bool
is_over place.NoHead = false
is_over place.Informed = false
is_over (place.InBody body) = false
is_over (place.Ended keeps) = true

-- the response has ended, and its head and framing let the link be kept
abbrev pub keeps_at : ResponsePlace → Bool
keeps_at place.NoHead = false
keeps_at place.Informed = false
keeps_at (place.InBody body) = false
keeps_at (place.Ended keeps) = keeps

-- the final head has not come
abbrev pub IsAwaitingHead : ResponsePlace → Type 0
IsAwaitingHead place.NoHead = Unit {0}
IsAwaitingHead place.Informed = Unit {0}
IsAwaitingHead (place.InBody body) = ⊥
IsAwaitingHead (place.Ended keeps) = ⊥

-- where the reading is behind a final head: its body has ended at once, or is to come
abbrev pub place_behind_final : ResponseHead → Framing → ResponsePlace
place_behind_final head framing =
    if is_done (first_state framing) then place.Ended (lets_keep head framing)
    else place.InBody
    (record { reader = first_state framing; keeps = lets_keep head framing })

-- where the reading is behind a head
abbrev pub place_behind : ResponseHead → Framing → ResponsePlace
place_behind head framing =
    if is_informational head.status then place.Informed else place_behind_final head framing

-- the step over a head: the task carries the end where the body has ended at once
abbrev pub step_over : ResponseHead → Framing → ReadingStep
step_over head framing =
    record {
      place = place_behind head framing;
      found = found.Task (task.Header head (is_over (place_behind head framing)));
    }

-- of the bytes that the link gave, the first were the informational heads, and the rest is ahead
pub record IsAwaiting (method : List ℕ) (upgrade : Bool) (given : List ℕ) (told : ToldResponse)
    (ahead : List ℕ) : Type 0 where
  pub n : ℕ
  pub informs : Informs method upgrade given told.informed n
  pub rest : ahead ≡ drop n given
  pub no_final : told.final ≡ None
  pub no_body : told.body ≡ []

-- of the bytes that the link gave, the first were the informational heads and the final head, and
-- those of the body before the ones ahead said the bytes that were told; more of it is to come
pub record IsInBody
    (method : List ℕ) (upgrade : Bool) (given : List ℕ) (told : ToldResponse) (body : OpenBody)
    (ahead : List ℕ) : Type 0 where
  pub n : ℕ
  pub head : ResponseHead
  pub framing : Framing
  pub len : ℕ
  pub informs : Informs method upgrade given told.informed n
  pub has : HasResponse method upgrade (drop n given) head framing len
  pub is_final : is_informational head.status ≡ false
  pub final : told.final ≡ Some head
  pub so_far : SoFar framing (drop (n + len) given) told.body body.reader ahead
  pub goes_on : is_done body.reader ≡ false
  pub keeps : body.keeps ≡ lets_keep head framing

-- what was told is the response whole, which ended with the first so many bytes that the link gave
pub record IsWhole
    (method : List ℕ) (upgrade closed : Bool) (given : List ℕ) (told : ToldResponse) (kept : Bool)
    (ahead : List ℕ) : Type 0 where
  pub n : ℕ
  pub head : ResponseHead
  pub framing : Framing
  pub len : ℕ
  pub place : ℕ
  pub informs : Informs method upgrade given told.informed n
  pub has : HasResponse method upgrade (drop n given) head framing len
  pub final : told.final ≡ Some head
  pub whole : Tasks method upgrade given closed (says told (ended place))
  pub rest : says_end framing ≡ true → ahead ≡ drop place given
  pub keeps : kept ≡ lets_keep head framing

-- where the reading of the response to that method is, after the link gave these bytes since this
-- client began, and what the tasks so far told of them; `upgrade` is whether the request asked for
-- an upgrade, `closed` whether the link has ended. What follows is read from here
abbrev pub ReadAt :
    List ℕ → Bool → Bool → List ℕ → ToldResponse → ResponsePlace → List ℕ → Type 0
ReadAt method upgrade closed given told place.NoHead ahead =
    IsAwaiting method upgrade given told ahead × (ahead ≡ given)
ReadAt method upgrade closed given told place.Informed ahead =
    IsAwaiting method upgrade given told ahead × (0 < length given)
ReadAt method upgrade closed given told (place.InBody body) ahead =
    IsInBody method upgrade given told body ahead
ReadAt method upgrade closed given told (place.Ended keeps) ahead =
    IsWhole method upgrade closed given told keeps ahead

-- the same, for the whole reading
pub record ReadSoFar
    (method : List ℕ) (upgrade closed : Bool) (given : List ℕ) (told : ToldResponse)
    (reading : ResponseReading) : Type 0 where
  pub at : ReadAt method upgrade closed given told reading.place reading.ahead

-- the same, where the bytes ahead hold no task, no end and nothing to refuse
abbrev pub OpenAt : List ℕ → Bool → List ℕ → ToldResponse → ResponsePlace → List ℕ → Type 0
OpenAt method upgrade given told place.NoHead ahead =
    IsAwaiting method upgrade given told ahead × (ahead ≡ given) × IsOpen ahead
OpenAt method upgrade given told place.Informed ahead =
    IsAwaiting method upgrade given told ahead × (0 < length given) × IsOpen ahead
OpenAt method upgrade given told (place.InBody body) ahead =
    (here : IsInBody method upgrade given told body ahead)
    × Body here.framing (drop (here.n + here.len) given) (open_text told.body)
OpenAt method upgrade given told (place.Ended keeps) ahead = ⊥

-- ---- how a body is cut

-- a piece as a reader there cuts it from the bytes: all that they hold of its run, of one chunk at
-- most, and the end exactly where it completes the body's length
abbrev pub IsCut : State → List ℕ → Option (List ℕ) → Bool → List ℕ → Type 0
IsCut at bytes None end rest = ⊥
IsCut at bytes (Some piece) end rest = (new : State) × TakesPiece at bytes piece end new rest

-- bytes of a body's length are missing there
abbrev pub is_in_length : State → Bool
is_in_length state.ChunkLine = false
is_in_length (state.Chunk left) = false
is_in_length state.ChunkEnd = false
is_in_length state.Trailer = false
is_in_length (state.Length left) = not (left == 0)
is_in_length state.UntilClose = false
is_in_length state.Tunnel = false
is_in_length state.Done = false

-- a task of a body that is read from there: a piece as it is cut, or the end alone, which no body
-- of a length has
abbrev pub CutsBody : State → List ℕ → HttpTask → List ℕ → Type 0
CutsBody at bytes (task.Header head end) rest = ⊥
CutsBody at bytes (task.Body piece end) rest = IsCut at bytes piece end rest
CutsBody at bytes (task.UpgradedBody piece end) rest = ⊥
CutsBody at bytes (task.Trailer fields) rest = ⊥
CutsBody at bytes task.Done rest = is_in_length at ≡ false
CutsBody at bytes (task.Failed error) rest = ⊥

-- the task is a head
abbrev pub IsHead : HttpTask → Type 0
IsHead (task.Header head end) = Unit {0}
IsHead (task.Body piece end) = ⊥
IsHead (task.UpgradedBody piece end) = ⊥
IsHead (task.Trailer fields) = ⊥
IsHead task.Done = ⊥
IsHead (task.Failed error) = ⊥

-- a task out of the bytes, from where the reading is: a head up to the final one, and then the body
-- as it is cut
abbrev pub Cuts : ResponsePlace → List ℕ → HttpTask → List ℕ → Type 0
Cuts place.NoHead bytes task rest = IsHead task
Cuts place.Informed bytes task rest = IsHead task
Cuts (place.InBody body) bytes task rest = CutsBody body.reader bytes task rest
Cuts (place.Ended keeps) bytes task rest = ⊥

-- the same for an answer
abbrev pub AnswerCuts : ResponsePlace → List ℕ → Took HttpTask → List ℕ → Type 0
AnswerCuts at bytes (took.Item task) rest = Cuts at bytes task rest
AnswerCuts at bytes took.More rest = Unit {0}
AnswerCuts at bytes (took.Waited pause) rest = Unit {0}
AnswerCuts at bytes took.End rest = Unit {0}
AnswerCuts at bytes (took.Failed fail) rest = Unit {0}

-- in a body no more than framing was passed
abbrev pub PassesIn : State → ResponsePlace → List ℕ → List ℕ → Type 0
PassesIn at place.NoHead bytes rest = ⊥
PassesIn at place.Informed bytes rest = ⊥
PassesIn at (place.InBody body) bytes rest = Takes at bytes [] body.reader rest
PassesIn at (place.Ended keeps) bytes rest = ⊥

-- the same at each place
abbrev pub PassesOn : ResponsePlace → ResponsePlace → List ℕ → List ℕ → Type 0
PassesOn place.NoHead new bytes rest = IsAwaitingHead new
PassesOn place.Informed new bytes rest = IsAwaitingHead new
PassesOn (place.InBody body) new bytes rest = PassesIn body.reader new bytes rest
PassesOn (place.Ended keeps) new bytes rest = ⊥

-- what was found in the bytes ahead was cut so, or nothing was taken of the body
abbrev pub FoundCuts : ResponsePlace → ResponsePlace → List ℕ → List ℕ → Found → Type 0
FoundCuts old new bytes rest (found.Task task) = Cuts old bytes task rest
FoundCuts old new bytes rest found.Nothing = PassesOn old new bytes rest
FoundCuts old new bytes rest found.End = Unit {0}
FoundCuts old new bytes rest (found.Failed fail) = Unit {0}

-- ---- why a response is broken

-- the bytes of a response are broken behind what was told, for that reason. Behind the heads that
-- inform stands no head: none ends within the limit (`HeadTooLong`), the text is none
-- (`HeadGrammar`), or it has no framing (`BadFraming`). Or behind the final head the body is
-- broken, as one in chunks may be (`BadFraming`)
pub data BreaksFor (method : List ℕ) (upgrade : Bool) (given : List ℕ) (told : ToldResponse)
    (why : Context) : Type 0 where
  in_head : IsRefusedBehind method upgrade given told.informed why → told.final ≡ None
      → told.body ≡ [] → BreaksFor method upgrade given told why
  in_body : (head : ResponseHead) (framing : Framing) (len : ℕ)
      → HasFinal method upgrade given told.informed head framing len → told.final ≡ Some head
      → Body framing (drop len given)
      (record { bytes = told.body; mark = body.BodyMark.broken })
      → why ≡ BadFraming → BreaksFor method upgrade given told why

-- ---- what stands ahead

-- a task was found
abbrev pub is_task : Found → Bool
is_task (found.Task task) = true
is_task found.Nothing = false
is_task found.End = false
is_task (found.Failed fail) = false

-- what was found ahead, where these bytes came so far and this was told before
abbrev pub Finds :
    List ℕ → Bool → Bool → List ℕ → ToldResponse → ResponsePlace → ResponsePlace → List ℕ → Found
    → Type 0
Finds method upgrade closed given told old new rest (found.Task task) =
    IsResponseTask told task × (is_end task ≡ is_over new)
    × ReadAt method upgrade closed given (with_task told task) new rest
Finds method upgrade closed given told old new rest found.Nothing =
    OpenAt method upgrade given told new rest
Finds method upgrade closed given told old new rest found.End =
    (is_over old ≡ true) × ReadAt method upgrade closed given told new rest
Finds method upgrade closed given told old new rest (found.Failed fail.OutOfMemory) =
    ReadAt method upgrade closed given told new rest
Finds method upgrade closed given told old new rest (found.Failed (fail.Error error)) =
    (why : Context) × (error ≡ refused_from Upstream why)
    × Tasks method upgrade given closed (says told broken)
    × BreaksFor method upgrade given told why
    × ReadAt method upgrade closed given told new rest

-- ---- what a call answers

-- how a call asked the link, once at most, and the bytes that came
abbrev pub Asks : LinkState → LinkState → List ℕ → Option Got → Type 0
Asks before after came None = (after ≡ before) × (came ≡ [])
Asks before after came (Some got) = ReadsMore before after [] came got

-- the link gave bytes
abbrev pub GaveBytes : Option Got → Type 0
GaveBytes asked = (n : ℕ) × (asked ≡ Some (got.Bytes n))

-- what the link answered, as a pause
abbrev pub got_of : Pause → Got
got_of pause.NotReady = got.NotReady
got_of pause.Silent = got.Silent

-- the error of a link that ended inside a response, in a head or in the body: it may help to try
-- again on a new link only where no byte of the response had come (RFC 9110, section 9.2.2)
abbrev pub cut_off_error : List ℕ → Error
cut_off_error given =
    record (explained ConnectionClosed UpstreamClosed) {
      esource = Upstream;
      retry = if length given == 0 then ReusedOnly else Decided false;
    }

-- the error of a fault of the peer's link
abbrev pub fault_error : Fault → Error
fault_error fault = record (error_of_fault fault) { esource = Upstream }

-- why a read is refused: the text is broken, the link failed, or it ended inside the response
pub data Refuses
    (method : List ℕ) (upgrade closed : Bool) (given : List ℕ) (told : ToldResponse)
    (asked : Option Got) (error : Error) : Type 0 where
  is_broken : (why : Context) → error ≡ refused_from Upstream why
      → Tasks method upgrade given closed (says told broken)
      → BreaksFor method upgrade given told why
      → Refuses method upgrade closed given told asked error
  has_failed : (fault : Fault) → asked ≡ Some (got.Failed fault) → error ≡ fault_error fault
      → Tasks method upgrade given false (says told still_open)
      → Refuses method upgrade closed given told asked error
  is_cut_off : asked ≡ Some got.End → error ≡ cut_off_error given
      → Tasks method upgrade given true (says told cut_off)
      → Refuses method upgrade closed given told asked error

-- the answer of a call, where these bytes came so far, in it too, and this was told before it
abbrev pub Answers :
    List ℕ → Bool → Bool → List ℕ → ToldResponse → Option Got → ResponsePlace → ResponseReading
    → Took HttpTask → Type 0
Answers method upgrade closed given told asked old new (took.Item task) =
    IsResponseTask told task × (is_end task ≡ is_over new.place)
    × ReadSoFar method upgrade closed given (with_task told task) new
Answers method upgrade closed given told asked old new took.More =
    GaveBytes asked × Tasks method upgrade given false (says told still_open)
    × ReadSoFar method upgrade closed given told new
Answers method upgrade closed given told asked old new (took.Waited pause) =
    (asked ≡ Some (got_of pause)) × Tasks method upgrade given false (says told still_open)
    × ReadSoFar method upgrade closed given told new
Answers method upgrade closed given told asked old new took.End =
    (asked ≡ None) × (is_over old ≡ true) × ReadSoFar method upgrade closed given told new
Answers method upgrade closed given told asked old new (took.Failed fail.OutOfMemory) =
    ReadSoFar method upgrade closed given told new
Answers method upgrade closed given told asked old new (took.Failed (fail.Error error)) =
    Refuses method upgrade closed given told asked error
    × ReadSoFar method upgrade closed given told new

-- behind the end of the response a call answers it again, and changes nothing
pub record Rests (old new : ResponseReading) (asked : Option Got) (answer : Took HttpTask)
    : Type 0 where
  pub is_end : answer ≡ took.End
  pub unasked : asked ≡ None
  pub same : new ≡ old

-- ---- exactly

-- the answer to what the link answered, where the bytes hold no task, no end and nothing to refuse
abbrev pub IsAnswerOfLink : Option Got → Took HttpTask → Type 0
IsAnswerOfLink None answer = ⊥
IsAnswerOfLink (Some (got.Bytes n)) answer = answer ≡ took.More
IsAnswerOfLink (Some got.NotReady) answer = answer ≡ took.Waited pause.NotReady
IsAnswerOfLink (Some got.Silent) answer = answer ≡ took.Waited pause.Silent
IsAnswerOfLink (Some got.End) answer = ⊥
IsAnswerOfLink (Some (got.Failed fault)) answer =
    answer ≡ took.Failed (fail.Error (fault_error fault))

-- the answer to an end: it is told once, and behind it stands `End`
abbrev pub end_answer : Bool → Took HttpTask
end_answer over = if over then took.End else took.Item task.Done

-- the answer where the bytes say no more than was told, by their mark; `over` is whether the end
-- was told
abbrev pub IsAnswerAt : ResponseMark → List ℕ → Option Got → Bool → Took HttpTask → Type 0
IsAnswerAt still_open given asked over answer = IsAnswerOfLink asked answer
IsAnswerAt (ended n) given asked over answer = answer ≡ end_answer over
IsAnswerAt broken given asked over answer =
    (why : Context) × (answer ≡ took.Failed (fail.Error (refused_from Upstream why)))
IsAnswerAt cut_off given asked over answer =
    answer ≡ took.Failed (fail.Error (cut_off_error given))

-- a task
abbrev pub IsItem : Took HttpTask → Type 0
IsItem (took.Item task) = Unit {0}
IsItem took.More = ⊥
IsItem (took.Waited pause) = ⊥
IsItem took.End = ⊥
IsItem (took.Failed fail) = ⊥

-- out of memory aside, the answer is the one of their mark where the bytes say no more than was
-- told, and a task where they say more
pub record AnswersExactly
    (method : List ℕ) (upgrade closed : Bool) (given : List ℕ) (told : ToldResponse)
    (asked : Option Got) (over : Bool) (answer : Took HttpTask) : Type 0 where
  pub by_mark : (mark : ResponseMark) → Tasks method upgrade given closed (says told mark)
      → (answer ≡ took.Failed fail.OutOfMemory) ⊎ IsAnswerAt mark given asked over answer
  pub next : ((mark : ResponseMark) → Tasks method upgrade given closed (says told mark) → ⊥)
      → (answer ≡ took.Failed fail.OutOfMemory) ⊎ IsItem answer

-- ---- a call

-- a call on a reading: it asks the link only where the bytes ahead hold no task, no end and nothing
-- to refuse, goes on with what was told, and cuts a piece out of the bytes ahead and those that
-- came
pub record ReadsTask
    (method : List ℕ) (upgrade : Bool) (before after : LinkState) (old new : ResponseReading)
    (answer : Took HttpTask) : Type 0 where
  pub came : List ℕ
  pub asked : Option Got
  pub asks : Asks before after came asked
  -- a fault of the link is answered
  pub fails : (fault : Fault) → asked ≡ Some (got.Failed fault)
      → answer ≡ took.Failed (fail.Error (fault_error fault))
  pub rests : is_over old.place ≡ true → Rests old new asked answer
  pub cuts : AnswerCuts old.place (old.ahead ++ came) answer new.ahead
  pub needs : (given : List ℕ) (told : ToldResponse) (got : Got)
      → ReadSoFar method upgrade before.ended given told old → asked ≡ Some got
      → Tasks method upgrade given false (says told still_open)
  pub answers : (given : List ℕ) (told : ToldResponse)
      → ReadSoFar method upgrade before.ended given told old
      → Answers method upgrade after.ended (given ++ came) told asked old.place new answer
  pub exact : (given : List ℕ) (told : ToldResponse)
      → ReadSoFar method upgrade before.ended given told old
      → AnswersExactly method upgrade after.ended (given ++ came) told asked (is_over old.place)
      answer

-- the same, where nothing stood ahead: one read, and what stands ahead after it
pub record ReadsOn
    (method : List ℕ) (upgrade : Bool) (before after : LinkState) (old new : ResponseReading)
    (answer : Took HttpTask) : Type 0 where
  pub came : List ℕ
  pub asked : Option Got
  pub asks : Asks before after came asked
  pub fails : (fault : Fault) → asked ≡ Some (got.Failed fault)
      → answer ≡ took.Failed (fail.Error (fault_error fault))
  pub cuts : AnswerCuts old.place (old.ahead ++ came) answer new.ahead
  pub answers : (given : List ℕ) (told : ToldResponse)
      → OpenAt method upgrade given told old.place old.ahead
      → Answers method upgrade after.ended (given ++ came) told asked old.place new answer

-- what was found ahead after bytes came, as an answer
abbrev pub FindsAgain :
    List ℕ → Bool → Bool → List ℕ → ToldResponse → ResponsePlace → ResponseReading → Took HttpTask
    → Type 0
FindsAgain method upgrade closed given told old new (took.Item task) =
    Finds method upgrade closed given told old new.place new.ahead (found.Task task)
FindsAgain method upgrade closed given told old new took.More =
    Finds method upgrade closed given told old new.place new.ahead found.Nothing
FindsAgain method upgrade closed given told old new (took.Waited pause) = ⊥
FindsAgain method upgrade closed given told old new took.End =
    Finds method upgrade closed given told old new.place new.ahead found.End
FindsAgain method upgrade closed given told old new (took.Failed fail) =
    Finds method upgrade closed given told old new.place new.ahead (found.Failed fail)

-- what follows from the end of the link, where nothing stands ahead: a body that lasts until then
-- has ended, and else the response is cut off
abbrev pub FindsAtEnd :
    List ℕ → Bool → List ℕ → ToldResponse → ResponsePlace → List ℕ → Found → Type 0
FindsAtEnd method upgrade given told new ahead (found.Task task.Done) =
    (is_over new ≡ true) × ReadAt method upgrade true given told new ahead
FindsAtEnd method upgrade given told new ahead (found.Task (task.Header head end)) = ⊥
FindsAtEnd method upgrade given told new ahead (found.Task (task.Body piece end)) = ⊥
FindsAtEnd method upgrade given told new ahead (found.Task (task.UpgradedBody piece end)) = ⊥
FindsAtEnd method upgrade given told new ahead (found.Task (task.Trailer fields)) = ⊥
FindsAtEnd method upgrade given told new ahead (found.Task (task.Failed error)) = ⊥
FindsAtEnd method upgrade given told new ahead found.Nothing = ⊥
FindsAtEnd method upgrade given told new ahead found.End = ⊥
FindsAtEnd method upgrade given told new ahead (found.Failed fail.OutOfMemory) = ⊥
FindsAtEnd method upgrade given told new ahead (found.Failed (fail.Error error)) =
    (error ≡ cut_off_error given) × Tasks method upgrade given true (says told cut_off)
    × ReadAt method upgrade true given told new ahead

-- the same, as an answer
abbrev pub EndsThere :
    List ℕ → Bool → List ℕ → ToldResponse → ResponseReading → Took HttpTask → Type 0
EndsThere method upgrade given told new (took.Item task) =
    FindsAtEnd method upgrade given told new.place new.ahead (found.Task task)
EndsThere method upgrade given told new took.More = ⊥
EndsThere method upgrade given told new (took.Waited pause) = ⊥
EndsThere method upgrade given told new took.End = ⊥
EndsThere method upgrade given told new (took.Failed fail) =
    FindsAtEnd method upgrade given told new.place new.ahead (found.Failed fail)

-- all that the link gave was the response, whole, and its head and framing let the link be kept
pub record IsReadWhole (method : List ℕ) (upgrade closed : Bool) (given : List ℕ)
    (told : ToldResponse) : Type 0 where
  pub n : ℕ
  pub head : ResponseHead
  pub framing : Framing
  pub len : ℕ
  pub place : ℕ
  pub informs : Informs method upgrade given told.informed n
  pub has : HasResponse method upgrade (drop n given) head framing len
  pub final : told.final ≡ Some head
  pub whole : Tasks method upgrade given closed (says told (ended place))
  pub none_past : drop place given ≡ []
  pub keeps : lets_keep head framing ≡ true

-- the response has ended, no byte past it was read, and its head and framing let the link be kept
abbrev pub may_keep_reading : ResponseReading → Bool
may_keep_reading reading = keeps_at reading.place && (length reading.ahead == 0)
