-- What a client gives to its session: its head, and its body piece by piece (RFC 9112, sections 2,
-- 3, 6 and 7).
use Rattle.std.specs.Prelude.{◌≡◌, ℕ, ◌+◌, ◌<◌, Bool, true, false, List, [], ◌∷◌, ◌++◌, length, take, drop, ◌==◌, ◌||◌}
use Rattle.relay_tasks.specs.declared.context.Context.{Context}
use Rattle.relay_tasks.specs.declared.context.Context.TheVariants.{BadFraming, ClientClosed, ClientSentMore}
use Rattle.relay_tasks.specs.declared.error.Error.{Error}
use Rattle.relay_tasks.specs.declared.error.ErrorSource.TheVariants.{Downstream}
use Rattle.relay_tasks.specs.declared.error.ErrorType.TheVariants.{ConnectionClosed}
use Rattle.relay_tasks.specs.declared.error.Fail.TheVariants as fail
use Rattle.relay_tasks.specs.declared.fault.Fault.{Fault}
use Rattle.relay_tasks.specs.declared.took.Pause.TheVariants.{NotReady, Silent}
use Rattle.relay_tasks.specs.declared.took.Took.{Took}
use Rattle.relay_tasks.specs.declared.took.Took.TheVariants as took
use Rattle.relay_tasks.specs.Error.{error_of_fault, explained}
use Rattle.relay_tasks.specs.Head.{RequestHead}
use Rattle.relay_links.specs.Link.{LinkState, GivesBytes, WaitsOnRead, IsSilentOnRead, EndsRead, FailsRead}
use Rattle.relay_h1.specs.declared.framing.Framing.{Framing}
use Rattle.relay_h1.specs.declared.framing.Framing.TheVariants as framing
use Rattle.relay_h1.specs.declared.body_reader.State.{State}
use Rattle.relay_h1.specs.declared.body_reader.State.TheVariants as state
use Rattle.relay_h1.specs.Body.{open_text, ended_text, broken_text}
use Rattle.relay_h1.specs.Move.{read_size}
use Rattle.relay_h1.specs.BodyReader.{Reads, Takes, TakesPiece, is_of, is_done, may_end}
use Rattle.relay_h1.specs.Verdict.{IsOpen, HasRequest, IsRefusedRequest, refused_from}

-- ---- errors of the client's side

-- the error that tells of a fault of the client's link
abbrev pub link_fault : Fault → Error
link_fault fault = record (error_of_fault fault) { esource = Downstream }

-- the client's connection is of no more use, for that reason
abbrev pub closed_for : Context → Error
closed_for why = record (explained ConnectionClosed why) { esource = Downstream }

-- the client ended where it may not
abbrev pub client_closed : Error
client_closed = closed_for ClientClosed

-- the client sent more than its request
abbrev pub client_sent_more : Error
client_sent_more = closed_for ClientSentMore

-- the client's body is no text of its framing
abbrev pub body_broken : Error
body_broken = refused_from Downstream BadFraming

-- ---- what came

-- one read of the link, into a room of that size, gave these bytes
pub record Gave (before after : LinkState) (came : List ℕ) : Type 0 where
  pub room : List ℕ
  pub sized : length room ≡ read_size
  pub n : ℕ
  pub gives : GivesBytes before room n after
  pub are : came ≡ take n room

-- the bytes that came in a call: none where the link was not asked, or those of one read, which a
-- call makes only where the bytes ahead leave it open
pub data Comes (still_open : Type 0) (before after : LinkState) : List ℕ → Type 0 where
  unasked : after ≡ before → Comes still_open before after []
  one_read : (came : List ℕ) → still_open → Gave before after came
      → Comes still_open before after came

-- ---- heads

-- the request ends with its head
abbrev pub ends_with_head : Framing → Bool
ends_with_head framing.Empty = true
ends_with_head (framing.Length n) = n == 0
ends_with_head framing.Chunked = false
ends_with_head framing.UntilClose = false
ends_with_head framing.Tunnel = false

-- the bytes ahead and those that came begin with that head, which was consumed
pub record GivesHead
    (before after : LinkState) (ahead left : List ℕ) (head : RequestHead) (ends : Bool)
    : Type 0 where
  pub came : List ℕ
  pub comes : Comes (IsOpen ahead) before after came
  pub framing : Framing
  pub len : ℕ
  pub has : HasRequest (ahead ++ came) head framing len
  pub is_end : ends ≡ ends_with_head framing
  pub rest : left ≡ drop len (ahead ++ came)

-- one read gave bytes, and the head is still open
pub record LeavesHeadOpen (before after : LinkState) (ahead left : List ℕ) : Type 0 where
  pub was_open : IsOpen ahead
  pub came : List ℕ
  pub gave : Gave before after came
  pub grown : left ≡ ahead ++ came
  pub still_open : IsOpen left

-- memory was wanted: what came is ahead, and nothing was consumed
pub record KeepsHead (before after : LinkState) (ahead left : List ℕ) : Type 0 where
  pub came : List ℕ
  pub comes : Comes (IsOpen ahead) before after came
  pub grown : left ≡ ahead ++ came

-- why no head can come
pub data RefusesHead
    (before after : LinkState) (ahead left : List ℕ) (error : Error) : Type 0 where
  is_refused : (came : List ℕ) (why : Context) → Comes (IsOpen ahead) before after came
      → left ≡ ahead ++ came → IsRefusedRequest (ahead ++ came) why
      → error ≡ refused_from Downstream why → RefusesHead before after ahead left error
  ends_inside : IsOpen ahead → 0 < length ahead → EndsRead before after → left ≡ ahead
      → error ≡ client_closed → RefusesHead before after ahead left error
  link_failed : (fault : Fault) → IsOpen ahead → FailsRead before fault after → left ≡ ahead
      → error ≡ link_fault fault → RefusesHead before after ahead left error

-- one call for the head, by its answer
abbrev pub ReadsHead :
    LinkState → LinkState → List ℕ → List ℕ → Took (RequestHead × Bool) → Type 0
ReadsHead before after ahead left (took.Item item) =
    GivesHead before after ahead left item.0 item.1
ReadsHead before after ahead left took.More = LeavesHeadOpen before after ahead left
ReadsHead before after ahead left (took.Waited NotReady) =
    IsOpen ahead × WaitsOnRead before after × (left ≡ ahead)
ReadsHead before after ahead left (took.Waited Silent) =
    IsOpen ahead × IsSilentOnRead before after × (left ≡ ahead)
ReadsHead before after ahead left took.End =
    (ahead ≡ []) × EndsRead before after × (left ≡ ahead)
ReadsHead before after ahead left (took.Failed fail.OutOfMemory) =
    KeepsHead before after ahead left
ReadsHead before after ahead left (took.Failed (fail.Error error)) =
    RefusesHead before after ahead left error

-- the answer where the client ended behind these bytes of a head
abbrev pub end_of_head : {T : Type 0} → List ℕ → Took T
end_of_head [] = took.End
end_of_head (b ∷ came) = took.Failed (fail.Error client_closed)

-- the bytes ahead begin with that head, which was consumed
pub record FindsHeadThere (ahead left : List ℕ) (head : RequestHead) (ends : Bool) : Type 0 where
  pub framing : Framing
  pub len : ℕ
  pub has : HasRequest ahead head framing len
  pub is_end : ends ≡ ends_with_head framing
  pub rest : left ≡ drop len ahead

-- what the bytes ahead say of the head
abbrev pub FindsHead : List ℕ → List ℕ → Took (RequestHead × Bool) → Type 0
FindsHead ahead left (took.Item item) = FindsHeadThere ahead left item.0 item.1
FindsHead ahead left took.More = IsOpen ahead × (left ≡ ahead)
FindsHead ahead left (took.Waited pause) = ⊥
FindsHead ahead left took.End = ⊥
FindsHead ahead left (took.Failed fail.OutOfMemory) = left ≡ ahead
FindsHead ahead left (took.Failed (fail.Error error)) =
    (why : Context) × (error ≡ refused_from Downstream why) × IsRefusedRequest ahead why
    × (left ≡ ahead)

-- ---- bodies

-- the bytes ahead and those that came hold a piece of the body, the longest of one chunk at most
pub record GivesPiece
    (still_open : Type 0) (before after : LinkState) (old new : State) (ahead left : List ℕ)
    (piece : List ℕ) (ends : Bool) : Type 0 where
  pub came : List ℕ
  pub comes : Comes still_open before after came
  pub takes : Takes old (ahead ++ came) piece new left
  pub longest : TakesPiece old (ahead ++ came) piece ends new left

-- one read gave bytes, and they hold no byte of the body and no end
pub record LeavesBodyOpen
    (still_open : Type 0) (before after : LinkState) (old new : State) (ahead left : List ℕ)
    : Type 0 where
  pub was_open : still_open
  pub came : List ℕ
  pub gave : Gave before after came
  pub takes : Takes old (ahead ++ came) [] new left
  pub says : Reads old (ahead ++ came) (open_text [])

-- nothing came: the framing in front was passed
pub record StaysInBody
    (still_open : Type 0) (old new : State) (ahead left : List ℕ) : Type 0 where
  pub was_open : still_open
  pub takes : Takes old ahead [] new left

-- memory was wanted: no byte of the body was taken, and it has not ended
pub record KeepsBody
    (still_open : Type 0) (before after : LinkState) (old new : State) (ahead left : List ℕ)
    : Type 0 where
  pub came : List ℕ
  pub comes : Comes still_open before after came
  pub takes : Takes old (ahead ++ came) [] new left
  pub inside : is_done new ≡ false

-- why the body has ended: the bytes say so, or it lasts until the client ends
pub data EndsBody
    (still_open : Type 0) (before after : LinkState) (old new : State) (ahead left : List ℕ)
    : Type 0 where
  is_whole : (came : List ℕ) (n : ℕ) → Comes still_open before after came
      → Takes old (ahead ++ came) [] new left → Reads old (ahead ++ came) (ended_text [] n)
      → n + length left ≡ length (ahead ++ came) → is_done new ≡ true
      → EndsBody still_open before after old new ahead left
  client_ended : (at : State) → StaysInBody still_open old at ahead left → EndsRead before after
      → ((framing : Framing) → is_of framing old ≡ true → may_end framing ≡ true)
      → new ≡ state.Done → EndsBody still_open before after old new ahead left

-- why no more of the body can come
pub data RefusesBody
    (still_open : Type 0) (before after : LinkState) (old new : State) (ahead left : List ℕ)
    (error : Error) : Type 0 where
  is_broken : (came : List ℕ) → Comes still_open before after came
      → Takes old (ahead ++ came) [] new left → Reads old (ahead ++ came) broken_text
      → error ≡ body_broken → RefusesBody still_open before after old new ahead left error
  ends_inside : StaysInBody still_open old new ahead left → EndsRead before after
      → ((framing : Framing) → is_of framing old ≡ true → may_end framing ≡ false)
      → error ≡ client_closed → RefusesBody still_open before after old new ahead left error
  link_failed : (fault : Fault) → StaysInBody still_open old new ahead left
      → FailsRead before fault after → error ≡ link_fault fault
      → RefusesBody still_open before after old new ahead left error

-- one call for a piece of the body, by its answer
abbrev pub ReadsBody :
    Type 0 → LinkState → LinkState → State → State → List ℕ → List ℕ → Took (List ℕ × Bool)
    → Type 0
ReadsBody still_open before after old new ahead left (took.Item item) =
    GivesPiece still_open before after old new ahead left item.0 item.1
ReadsBody still_open before after old new ahead left took.More =
    LeavesBodyOpen still_open before after old new ahead left
ReadsBody still_open before after old new ahead left (took.Waited NotReady) =
    StaysInBody still_open old new ahead left × WaitsOnRead before after
ReadsBody still_open before after old new ahead left (took.Waited Silent) =
    StaysInBody still_open old new ahead left × IsSilentOnRead before after
ReadsBody still_open before after old new ahead left took.End =
    EndsBody still_open before after old new ahead left
ReadsBody still_open before after old new ahead left (took.Failed fail.OutOfMemory) =
    KeepsBody still_open before after old new ahead left
ReadsBody still_open before after old new ahead left (took.Failed (fail.Error error)) =
    RefusesBody still_open before after old new ahead left error

-- one call for a piece of a body that has not ended, or whose client may do as it likes
abbrev pub ReadsPiece :
    LinkState → LinkState → State → State → List ℕ → List ℕ → Took (List ℕ × Bool) → Type 0
ReadsPiece before after old new ahead left answer =
    ReadsBody (Reads old ahead (open_text [])) before after old new ahead left answer

-- what the bytes ahead say of the body
abbrev pub FindsPiece : State → State → List ℕ → List ℕ → Took (List ℕ × Bool) → Type 0
FindsPiece old new ahead left (took.Item item) =
    Takes old ahead item.0 new left × TakesPiece old ahead item.0 item.1 new left
FindsPiece old new ahead left took.More =
    Takes old ahead [] new left × Reads old ahead (open_text [])
FindsPiece old new ahead left (took.Waited pause) = ⊥
FindsPiece old new ahead left took.End =
    (n : ℕ) × Takes old ahead [] new left × Reads old ahead (ended_text [] n)
    × (n + length left ≡ length ahead) × (is_done new ≡ true)
FindsPiece old new ahead left (took.Failed fail.OutOfMemory) =
    Takes old ahead [] new left × (is_done new ≡ false)
FindsPiece old new ahead left (took.Failed (fail.Error error)) =
    (error ≡ body_broken) × Takes old ahead [] new left × Reads old ahead broken_text

-- the answer where the client ended inside a body, by whether the body may end there
abbrev pub EndsInBody : State → State → Took (List ℕ × Bool) → Type 0
EndsInBody old new (took.Item item) = ⊥
EndsInBody old new took.More = ⊥
EndsInBody old new (took.Waited pause) = ⊥
EndsInBody old new took.End =
    ((framing : Framing) → is_of framing old ≡ true → may_end framing || is_done old ≡ true)
    × (new ≡ state.Done)
EndsInBody old new (took.Failed fail.OutOfMemory) = ⊥
EndsInBody old new (took.Failed (fail.Error error)) =
    ((framing : Framing) → is_of framing old ≡ true → may_end framing || is_done old ≡ false)
    × (error ≡ client_closed) × (new ≡ old)

-- ---- a client that is to be still

-- what a client did that is to be still: it had sent more, sends more, ends, or its link failed
pub data Stirs
    (before after : LinkState) (ahead left : List ℕ) (error : Error) : Type 0 where
  had_sent : 0 < length ahead → after ≡ before → left ≡ ahead → error ≡ client_sent_more
      → Stirs before after ahead left error
  sends : (came : List ℕ) → ahead ≡ [] → Gave before after came → left ≡ came
      → error ≡ client_sent_more → Stirs before after ahead left error
  ends : ahead ≡ [] → EndsRead before after → left ≡ ahead → error ≡ client_closed
      → Stirs before after ahead left error
  link_failed : (fault : Fault) → ahead ≡ [] → FailsRead before fault after → left ≡ ahead
      → error ≡ link_fault fault → Stirs before after ahead left error

-- one look at a client that is to be still, by its answer: nothing is consumed
abbrev pub Watches :
    {T : Type 0} → LinkState → LinkState → List ℕ → List ℕ → Took T → Type 0
Watches before after ahead left (took.Item item) = ⊥
Watches before after ahead left took.More = ⊥
Watches before after ahead left (took.Waited NotReady) =
    (ahead ≡ []) × WaitsOnRead before after × (left ≡ ahead)
Watches before after ahead left (took.Waited Silent) =
    (ahead ≡ []) × IsSilentOnRead before after × (left ≡ ahead)
Watches before after ahead left took.End = ⊥
Watches before after ahead left (took.Failed fail.OutOfMemory) =
    (ahead ≡ []) × (after ≡ before) × (left ≡ ahead)
Watches before after ahead left (took.Failed (fail.Error error)) =
    Stirs before after ahead left error
