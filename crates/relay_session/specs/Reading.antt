-- How far the request of a session has come, and what each call says of all that its client gave
-- since the session began (RFC 9112, sections 2, 3, 6 and 9).
use Rattle.std.specs.Prelude.{◌≡◌, ℕ, ◌<◌, ◌≤◌, Bool, true, false, not, ◌⊎◌, List, [], ◌∷◌, ◌++◌, length, drop, min, Option, Some, None, ⊤}
use Rattle.relay_tasks.specs.declared.context.Context.{Context}
use Rattle.relay_tasks.specs.declared.error.Error.{Error}
use Rattle.relay_tasks.specs.declared.error.ErrorSource.TheVariants.{Downstream}
use Rattle.relay_tasks.specs.declared.error.Fail.TheVariants as fail
use Rattle.relay_tasks.specs.declared.fault.Fault.{Fault}
use Rattle.relay_tasks.specs.declared.took.Pause.TheVariants.{NotReady, Silent}
use Rattle.relay_tasks.specs.declared.took.Took.{Took}
use Rattle.relay_tasks.specs.declared.took.Took.TheVariants as took
use Rattle.relay_tasks.specs.Head.{RequestHead}
use Rattle.relay_links.specs.Count.{last_count, up}
use Rattle.relay_links.specs.Link.{LinkState, IsSound, WaitsOnRead, IsSilentOnRead, EndsRead, FailsRead}
use Rattle.relay_links.specs.Told.{more}
use Rattle.relay_h1.specs.declared.framing.Framing.{Framing}
use Rattle.relay_h1.specs.Body.{BodyText, open_text, ended_text, broken, Body}
use Rattle.relay_h1.specs.BodyReader.{SoFar, first_state, is_done}
use Rattle.relay_h1.specs.Verdict.{IsOpen, HasRequest, IsRefusedRequest, refused_from}
use Rattle.relay_session.specs.Front.{link_fault, client_closed, body_broken, Gave, Watches, ends_with_head}
use Rattle.relay_session.specs.declared.reading.Reading.{Reading}
use Rattle.relay_session.specs.declared.reading.Reading.TheVariants as reading
use Rattle.relay_session.specs.declared.reading.BegunRequest.{BegunRequest}
use Rattle.relay_session.specs.declared.replay.Replay.{Replay}
use Rattle.relay_session.specs.declared.replay.Replay.TheVariants as replay
use Rattle.relay_session.specs.Replay as kept
use Rattle.relay_session.specs.Replay.{Keeps}

-- ---- what a reading shows

-- the head, once it was read
abbrev pub head_of : Reading → Option RequestHead
head_of reading.Head = None
head_of (reading.Body request) = Some request.head

-- the reading with another head in place of the one that was read
abbrev pub with_head : Reading → RequestHead → Reading
with_head reading.Head head = reading.Head
with_head (reading.Body request) head = reading.Body (record request { head = head })

-- the body has ended
abbrev pub is_body_done : Reading → Bool
is_body_done reading.Head = false
is_body_done (reading.Body request) = is_done request.body

-- the body has no bytes, as its head says
abbrev pub is_body_empty : Reading → Bool
is_body_empty reading.Head = false
is_body_empty (reading.Body request) = ends_with_head request.framing

-- how many bytes of the body were given out
abbrev pub received : Reading → ℕ
received reading.Head = 0
received (reading.Body request) = request.received

-- what is kept of the body, to be sent again
abbrev pub replay_of : Reading → Replay
replay_of reading.Head = replay.Kept []
replay_of (reading.Body request) = request.replay

-- a head was read, and all bytes of the body that were given out are kept
abbrev pub is_kept : Reading → Bool
is_kept reading.Head = false
is_kept (reading.Body request) = kept.is_kept request.replay

-- a head was read, and bytes of the body were given out that are kept no longer
abbrev pub is_truncated : Reading → Bool
is_truncated reading.Head = false
is_truncated (reading.Body request) = not (kept.is_kept request.replay)

-- a request whose head was just read
abbrev pub begun : RequestHead → Framing → BegunRequest
begun head framing = record {
  head = head;
  framing = framing;
  body = first_state framing;
  received = 0;
  replay = replay.Kept [];
}

-- ---- the request so far

-- a head with that framing began the bytes given, those behind it say these bytes of the body so
-- far, and whatever follows, the body is these and then what is read from here
pub record IsInBody (given body ahead : List ℕ) (request : BegunRequest) : Type 0 where
  pub head : RequestHead
  pub len : ℕ
  pub has : HasRequest given head request.framing len
  pub so_far : SoFar request.framing (drop len given) body request.body ahead
  pub counted : request.received ≡ min (length body) last_count
  pub kept : Keeps body request.replay

-- how far the request has come, where these bytes were given since the session began, those that
-- were ahead then first, these bytes of the body were given out, and these bytes are ahead
abbrev pub RequestSoFar : List ℕ → List ℕ → List ℕ → Reading → Type 0
RequestSoFar given body ahead reading.Head = (given ≡ ahead) × (body ≡ [])
RequestSoFar given body ahead (reading.Body request) = IsInBody given body ahead request

-- the bytes given are a request whose body says that text
pub record SaysBody (given : List ℕ) (text : BodyText) : Type 0 where
  pub head : RequestHead
  pub framing : Framing
  pub len : ℕ
  pub has : HasRequest given head framing len
  pub says : Body framing (drop len given) text

-- the bytes given are a request with that body, whole, and then the bytes behind it
pub record IsWhole (given body behind : List ℕ) : Type 0 where
  pub head : RequestHead
  pub framing : Framing
  pub len : ℕ
  pub has : HasRequest given head framing len
  pub n : ℕ
  pub says : Body framing (drop len given) (ended_text body n)
  pub behind_it : behind ≡ drop n (drop len given)

-- the call gave what it was asked for
abbrev pub IsItem : {T : Type 0} → Took T → Type 0
IsItem (took.Item item) = Unit {0}
IsItem took.More = ⊥
IsItem (took.Waited pause) = ⊥
IsItem took.End = ⊥
IsItem (took.Failed fail) = ⊥

-- the answer is that one, but when out of memory
abbrev pub Yields : {T : Type 0} → Took T → Took T → Type 0
Yields answer wanted = (answer ≡ wanted) ⊎ (answer ≡ took.Failed fail.OutOfMemory)

-- ---- what a call for the head says

-- the bytes given begin with the head that stands now
abbrev pub BeginsWith : List ℕ → Reading → Type 0
BeginsWith given reading.Head = ⊥
BeginsWith given (reading.Body request) =
    (len : ℕ) × HasRequest given request.head request.framing len

-- why no head can come, by all bytes given
pub data RefusesRequest
    (before after : LinkState) (given : List ℕ) (error : Error) : Type 0 where
  is_refused : (why : Context) → IsRefusedRequest given why → error ≡ refused_from Downstream why
      → RefusesRequest before after given error
  ends_inside : IsOpen given → 0 < length given → EndsRead before after → error ≡ client_closed
      → RefusesRequest before after given error
  link_failed : (fault : Fault) → IsOpen given → FailsRead before fault after
      → error ≡ link_fault fault → RefusesRequest before after given error

-- what the answer of a call for the head says of all bytes given; `came` are those of this call
abbrev pub TellsHead :
    LinkState → LinkState → List ℕ → List ℕ → Reading → Took ⊤ → Type 0
TellsHead before after given came new (took.Item done) = BeginsWith given new
TellsHead before after given came new took.More = IsOpen given × Gave before after came
TellsHead before after given came new (took.Waited NotReady) =
    IsOpen given × WaitsOnRead before after
TellsHead before after given came new (took.Waited Silent) =
    IsOpen given × IsSilentOnRead before after
TellsHead before after given came new took.End = (given ≡ []) × EndsRead before after
TellsHead before after given came new (took.Failed fail.OutOfMemory) = Unit {0}
TellsHead before after given came new (took.Failed (fail.Error error)) =
    RefusesRequest before after given error

-- the call is refused for what the head is
abbrev pub IsHeadRefusal : Took ⊤ → Type 0
IsHeadRefusal (took.Item done) = ⊥
IsHeadRefusal took.More = ⊥
IsHeadRefusal (took.Waited pause) = ⊥
IsHeadRefusal took.End = ⊥
IsHeadRefusal (took.Failed fail.OutOfMemory) = Unit {0}
IsHeadRefusal (took.Failed (fail.Error error)) =
    (why : Context) × (error ≡ refused_from Downstream why)

-- out of memory aside, each answer comes wherever all bytes given, and the end of the link, say so
pub record IsExactHead (after : LinkState) (given : List ℕ) (answer : Took ⊤) : Type 0 where
  pub item : (head : RequestHead) (framing : Framing) (len : ℕ) → HasRequest given head framing len
      → Yields answer (took.Item tt)
  pub end : given ≡ [] → after.ended ≡ true → Yields answer took.End
  pub inside : IsOpen given → 0 < length given → after.ended ≡ true
      → Yields answer (took.Failed (fail.Error client_closed))
  pub refused_there : (why : Context) → IsRefusedRequest given why → IsHeadRefusal answer

-- one call for the head goes on with the request, and says what all bytes given say
pub record ReadsOn
    (before after : LinkState) (given body left : List ℕ) (old new : Reading) (answer : Took ⊤)
    : Type 0 where
  pub came : List ℕ
  pub grown : after.given ≡ more before.given came
  pub keeps : RequestSoFar (given ++ came) body left new
  pub tells : old ≡ reading.Head → TellsHead before after (given ++ came) came new answer
  pub exact : old ≡ reading.Head → IsExactHead after (given ++ came) answer

-- ---- what a call for the body says

-- the bytes of the body that a call gave out
abbrev pub piece_of : Took (List ℕ) → List ℕ
piece_of (took.Item piece) = piece
piece_of took.More = []
piece_of (took.Waited pause) = []
piece_of took.End = []
piece_of (took.Failed fail) = []

-- why no more of the body can come, by all bytes given
pub data RefusesRest
    (before after : LinkState) (given body : List ℕ) (error : Error) : Type 0 where
  is_broken : SaysBody given (record { bytes = body; mark = broken }) → error ≡ body_broken
      → RefusesRest before after given body error
  ends_inside : SaysBody given (open_text body) → EndsRead before after → error ≡ client_closed
      → RefusesRest before after given body error
  link_failed : (fault : Fault) → SaysBody given (open_text body) → FailsRead before fault after
      → error ≡ link_fault fault → RefusesRest before after given body error

-- what the answer of a call for the body says of all bytes given; `body` are all bytes of the body
-- that were given out, `came` the bytes of this call, `left` those ahead after it
abbrev pub TellsBody :
    LinkState → LinkState → List ℕ → List ℕ → List ℕ → List ℕ → Reading → Took (List ℕ) → Type 0
TellsBody before after given came body left new (took.Item piece) =
    (0 < length piece) × (is_body_done new ≡ true → IsWhole given body left)
TellsBody before after given came body left new took.More =
    SaysBody given (open_text body) × Gave before after came
TellsBody before after given came body left new (took.Waited NotReady) =
    SaysBody given (open_text body) × WaitsOnRead before after
TellsBody before after given came body left new (took.Waited Silent) =
    SaysBody given (open_text body) × IsSilentOnRead before after
TellsBody before after given came body left new took.End = IsWhole given body left
TellsBody before after given came body left new (took.Failed fail.OutOfMemory) =
    is_body_done new ≡ false
TellsBody before after given came body left new (took.Failed (fail.Error error)) =
    RefusesRest before after given body error

-- the call gave a piece, or memory was wanted for it
abbrev pub YieldsItem : {T : Type 0} → Took T → Type 0
YieldsItem (took.Item item) = Unit {0}
YieldsItem took.More = ⊥
YieldsItem (took.Waited pause) = ⊥
YieldsItem took.End = ⊥
YieldsItem (took.Failed fail.OutOfMemory) = Unit {0}
YieldsItem (took.Failed (fail.Error error)) = ⊥

-- out of memory aside, each answer comes wherever all bytes given, and the end of the link, say
-- so; `body` are the bytes of the body that were given out before the call
pub record IsExactBody (after : LinkState) (given body : List ℕ) (answer : Took (List ℕ))
    : Type 0 where
  pub piece : (text : BodyText) → SaysBody given text → length body < length text.bytes
      → YieldsItem answer
  pub end : (n : ℕ) → SaysBody given (ended_text body n) → Yields answer took.End
  pub broken_there : SaysBody given (record { bytes = body; mark = broken })
      → Yields answer (took.Failed (fail.Error body_broken))
  pub inside : SaysBody given (open_text body) → after.ended ≡ true
      → Yields answer (took.Failed (fail.Error client_closed))

-- one call for the body goes on with the request, and says what all bytes given say. Where the
-- request has ended and its client is to be still, it says what the client did
pub record ReadsRest
    (before after : LinkState) (given body ahead left : List ℕ) (still : Bool) (new : Reading)
    (answer : Took (List ℕ)) : Type 0 where
  pub came : List ℕ
  pub grown : after.given ≡ more before.given came
  pub keeps : RequestSoFar (given ++ came) (body ++ piece_of answer) left new
  pub tells : still ≡ false
      → TellsBody before after (given ++ came) came (body ++ piece_of answer) left new answer
  pub exact : still ≡ false → IsExactBody after (given ++ came) body answer
  pub watches : still ≡ true
      → IsWhole (given ++ came) body left × Watches before after ahead left answer

-- ---- what a call for the body leaves

-- the faults that the link tells of its reads: none came, or the one that is answered
pub data AddsFault (before after : LinkState) (answer : Took (List ℕ)) : Type 0 where
  none_came : after.read_faults ≡ before.read_faults → AddsFault before after answer
  one_came : (fault : Fault) → after.read_faults ≡ more before.read_faults (fault ∷ [])
      → answer ≡ took.Failed (fail.Error (link_fault fault)) → AddsFault before after answer

-- of the link: it was asked once at most, which its count of uses tells; no byte was taken, its
-- count of faults does not fall, and a sound link stays sound; where the answer is NotReady, it was
-- asked, and that was counted; where it is Silent, the link is silent on a read and stays as it was.
-- Of the faults that it tells the one that is answered alone is new
pub record ReadsLink (before after : LinkState) (answer : Took (List ℕ)) : Type 0 where
  pub asks : (after.used ≡ up before.used) ⊎ (after ≡ before)
  pub used : answer ≡ took.Waited NotReady → after.used ≡ up before.used
  pub taken : after.taken ≡ before.taken
  pub faults : before.faults ≤ after.faults
  pub calm : ((e : Error) → answer ≡ took.Failed (fail.Error e) → ⊥)
      → after.faults ≡ before.faults
  pub sound : IsSound before → IsSound after
  pub waits : answer ≡ took.Waited NotReady → after.waits ≡ up before.waits
  pub silent : answer ≡ took.Waited Silent → (after ≡ before) × (after.silent_on_read ≡ true)
  pub read_faults : AddsFault before after answer
  pub write_faults : after.write_faults ≡ before.write_faults

-- whether the body has ended then, by the answer: it ends with a piece or by `End` alone
abbrev pub EndsBy : {T : Type 0} → Took T → Bool → Type 0
EndsBy (took.Item item) done = Unit {0}
EndsBy took.More done = done ≡ false
EndsBy (took.Waited pause) done = done ≡ false
EndsBy took.End done = done ≡ true
EndsBy (took.Failed fail) done = done ≡ false
