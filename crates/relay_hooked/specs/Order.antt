-- What was sent to the peer and what was written to the client of an attempt behind filters, in
-- terms of the bytes that passed and of the calls of the attempt (RFC 9110, section 15.2; RFC 9112,
-- sections 3 to 8).
use Rattle.std.specs.Prelude.{◌≡◌, ◌↔◌, All, IsTrue, ℕ, Bool, true, false, ◌⊎◌, ◌&&◌, List, [], ◌∷◌, ◌++◌, drop, Option, Some, None, is_none}
use Rattle.std.specs.List.{list_any, concat}
use Rattle.relay_tasks.specs.declared.error.Error.{Error}
use Rattle.relay_tasks.specs.declared.error.Fail.TheVariants as fail
use Rattle.relay_tasks.specs.declared.fault.Fault.{Fault}
use Rattle.relay_tasks.specs.declared.log.Item.{Item}
use Rattle.relay_tasks.specs.declared.log.Item.TheVariants as item
use Rattle.relay_tasks.specs.declared.log.LogEntry.{LogEntry}
use Rattle.relay_tasks.specs.declared.task.HttpTask.{HttpTask}
use Rattle.relay_tasks.specs.declared.task.HttpTask.TheVariants as task
use Rattle.relay_tasks.specs.Head.{ResponseHead}
use Rattle.relay_tasks.specs.Task.{is_end}
use Rattle.relay_links.specs.Link.{LinkState, LinkStart}
use Rattle.relay_links.specs.Count.{Rose}
use Rattle.relay_links.specs.Told.{Since}
use Rattle.relay_h1.specs.BodyWire.{after_pieces, body_text, is_short}
use Rattle.relay_h1.specs.Options.{closes}
use Rattle.relay_h1.specs.Wire.{request_text}
use Rattle.relay_h1.specs.Tasks.{HasFinal, Tasks, ResponseText, ended}
use Rattle.relay_h1.specs.declared.framing.Framing.{Framing}
use Rattle.relay_peer.specs.RequestWriting.{body_framing, sent_wire}
use Rattle.relay_peer.specs.ResponseReading.{IsReadWhole, untold, says}
use Rattle.relay_peer.specs.Body.{IsFrontOf, body_of, sent_as}
use Rattle.relay_peer.specs.Peer.{told_of, AreTasks, EndFramed, Follow, IsOnlyFault, IsWriteError, PeerBlames}
use Rattle.relay_peer.specs.declared.response_reading.ResponseReading.{ResponseReading}
use Rattle.relay_session.specs.Asked.{request_of}
use Rattle.relay_session.specs.Reading.{IsWhole, is_body_done}
use Rattle.relay_session.specs.Response.{Holds, has_head, is_over}
use Rattle.relay_session.specs.TaskWire.{Sent, first_refusal, refusal, wire}
use Rattle.relay_session.specs.declared.task_text.Place.TheVariants as place
use Rattle.relay_session.specs.declared.session.HttpSession.{HttpSession}
use Rattle.relay_session.specs.declared.writing.Outgoing.TheVariants as outgoing
use Rattle.relay_core.specs.Moves.{EndsLast}
use Rattle.relay_core.specs.Past.{Origin, DownPast, UpPast}
use Rattle.relay_calls.specs.Log.{requests_in}
use Rattle.relay_sides.specs.Client.{ClientBlames, FailsWrite, IsClient}
use Rattle.relay_sides.specs.Filtered.{is_head_request}
use Rattle.relay_filters.specs.Chain.{Refuses}
use Rattle.relay_filters.specs.Hooked.{TakesOn}
use Rattle.relay_filters.specs.Request.{InChains, PassesRequest, PieceCall, has_piece, pieces_in, takes_away}
use Rattle.relay_filters.specs.Response.{BatchStops, MakesOf, WasMade}
use Rattle.relay_attempt.specs.Order.{ArePieces, Asks}
use Rattle.relay_attempt.specs.Passed.{Passed, asked}
use Rattle.relay_hooked.specs.Calls.{Filtering, IsFilter}

-- ---- the response

-- these tasks are the response that the bytes say, as the peer gave it: its heads in order, and the
-- first bytes of its body; an end among them is the last of them, and the response's, and comes
-- with a piece where the body has a length, and alone where it has none. A reading gave them of
-- these bytes, and has come to the end where one is among them
pub record AreSaid
    (method : List ℕ) (upgrade closed : Bool) (got : List ℕ) (tasks : List HttpTask) : Type 0 where
  pub follow : Follow untold tasks
  pub informed : (text : ResponseText) → Tasks method upgrade got closed text
      → IsFrontOf (told_of tasks).informed text.informed
  pub final : (head : ResponseHead) → (told_of tasks).final ≡ Some head
      → (framing : Framing) × (len : ℕ)
      × HasFinal method upgrade got (told_of tasks).informed head framing len
  pub body : (text : ResponseText) → Tasks method upgrade got closed text
      → IsFrontOf (told_of tasks).body text.body
  pub ends_last : EndsLast tasks
  pub whole : list_any is_end tasks ≡ true
      → (n : ℕ) × Tasks method upgrade got closed (says (told_of tasks) (ended n))
  pub framed : (head : ResponseHead) → (told_of tasks).final ≡ Some head
      → EndFramed method upgrade got (told_of tasks).informed head tasks
  pub reading : ResponseReading
  pub are_tasks : AreTasks method upgrade closed got tasks reading

-- ---- both

-- what was sent is the front of the text of the head that is sent and of what the filters of
-- requests left, by these calls, those of each piece as one, of the client's body, from its first
-- byte on. What was written is
-- the front of the text of what the filters of responses made, by these calls, of the first of the
-- tasks that the peer's bytes are. The first of these that the client's writer refuses is refused
-- so; an end is asked for behind them only where one is among them, or where the response is over
-- behind them. Each of the calls is a filter's
pub record IsInOrderWith
    (refused : Option Error) (f : Filtering) (s : Origin) (p : Passed) (closed : Bool)
    : Type 0 where
  pub are_filters : All IsFilter f.calls
  pub asks : Asks s p
  pub came : List HttpTask
  pub are_came : ArePieces asks.framing (drop asks.len (asked s p)) came
  -- the request has ended for the peer
  pub ended : Bool
  pub pieces : List HttpTask
  pub chains : InChains (requests_in f.calls) (f.stopped ≡ None)
  pub passed : PassesRequest f.at_first ended (pieces_in f.calls) (f.stopped ≡ None) came pieces
  pub ends_last : EndsLast pieces
  pub taken : List HttpTask
  pub first_taken : IsFrontOf taken pieces
  pub sent : IsFrontOf p.sent (sent_wire (sent_as s.sent taken))
  pub read : List HttpTask
  pub are_said : AreSaid s.sent.method s.asked closed p.got read
  pub batched : List HttpTask
  pub first_batched : IsFrontOf batched read
  pub queued : List HttpTask
  pub makes : MakesOf (is_head_request s.head.method) f.stood f.calls
      (TakesOn f.stopped f.refused) batched queued
  pub closing : List HttpTask
  pub passes : first_refusal (request_of s.head) place.NoHead (queued ++ closing) ≡ refused
  pub closes_late : (closing ≡ [])
      ⊎ ((list_any is_end queued ≡ true)
      ⊎ (is_over (wire (request_of s.head) place.NoHead queued).place ≡ true))
  pub written : IsFrontOf p.written
      (wire (request_of s.head) place.NoHead (queued ++ closing)).text

-- what was sent and written is in order, and none of what the filters made is refused
abbrev pub IsInOrder : Filtering → Origin → Passed → Bool → Type 0
IsInOrder f s p closed = IsInOrderWith None f s p closed

-- what the tasks that were queued for the client are sent as
abbrev pub text_of : {refused : Option Error} {f : Filtering} {s : Origin} {p : Passed}
    {closed : Bool} → IsInOrderWith refused f s p closed → Sent
text_of {s = s} order = wire (request_of s.head) place.NoHead (order.queued ++ order.closing)

-- ---- ends

-- what was left of a piece takes it away
abbrev pub is_taken : Bool → Item → Bool
is_taken given (item.Piece left end) = takes_away given left
is_taken given other = false

-- the calls of a piece took it away
abbrev pub takes : LogEntry → Bool
takes e = is_none e.error && is_taken (has_piece e.input) e.output

-- an end of what the filters of requests left has its cause: the client's body has ended, or the
-- calls of a piece took it away
abbrev pub EndsByCause : Type 0
EndsByCause = (refused : Option Error) (f : Filtering) (s : Origin) (p : Passed) (closed : Bool)
    → (order : IsInOrderWith refused f s p closed) → list_any is_end order.pieces ≡ true
    → (list_any is_end order.came ≡ true) ⊎ (list_any takes (pieces_in f.calls) ≡ true)

-- the past of the client's side, behind the filters
abbrev pub down_past : {f : Filtering} {s : Origin} {p : Passed} {closed : Bool}
    → IsInOrder f s p closed → DownPast
down_past {p = p} order = record {
  came = p.came;
  written = p.written;
  put = order.came;
  batched = order.queued;
  closing = order.closing;
}

-- the past of the peer's side
abbrev pub up_past : {f : Filtering} {s : Origin} {p : Passed} {closed : Bool}
    → IsInOrder f s p closed → Bool → UpPast
up_past {p = p} order lost = record {
  got = p.got;
  sent = p.sent;
  read = order.read;
  taken = order.taken;
  lost = lost;
}

-- why an exchange failed with that error: the client's side answers for it, or the peer's side
-- does; the last call is one of a filter of requests, which answered it; a batch of what the peer
-- gave, behind what was queued, was stopped by its last calls, for what the last of them answered
-- or left; or the client's writer refuses with it what the filters made: of a whole batch, behind
-- what was queued, the first task that is refused; or the last task that was queued, which ends
-- short, and whose end alone was not; or the end that was asked for behind an end among these,
-- where one of them is refused so, or none of them is a final head
pub data FailsFor
    (f : Filtering) (s : Origin) (p : Passed) (client link : LinkState) (start : LinkStart)
    (e : Error) : Type 0 where
  by_client : (order : IsInOrder f s p link.ended)
      → ClientBlames s (down_past order) client e → FailsFor f s p client link start e
  by_peer : (order : IsInOrder f s p link.ended) (lost : Bool)
      → PeerBlames start link s.sent s.asked (up_past order lost) e
      → FailsFor f s p client link start e
  by_piece : (order : IsInOrder f s p link.ended) → f.stopped ≡ Some (fail.Error e)
      → (front : List LogEntry) (last : LogEntry) → f.calls ≡ front ++ last ∷ []
      → PieceCall last → last.error ≡ Some e → FailsFor f s p client link start e
  by_batch : (order : IsInOrder f s p link.ended) → f.stopped ≡ Some (fail.Error e)
      → order.closing ≡ [] → (stand : Bool) (batch : List HttpTask) (before own : List LogEntry)
      → f.calls ≡ before ++ own → IsFrontOf (order.batched ++ batch) order.read
      → BatchStops (is_head_request s.head.method) stand batch own
      → Refuses (is_head_request s.head.method) e own → FailsFor f s p client link start e
  by_writer : (order : IsInOrder f s p link.ended) (stand : Bool) (batch made : List HttpTask)
      → order.closing ≡ [] → IsFrontOf (order.batched ++ batch) order.read
      → WasMade (is_head_request s.head.method) stand f.calls batch made
      → first_refusal (request_of s.head) place.NoHead (order.queued ++ made) ≡ Some e
      → FailsFor f s p client link start e
  by_cut : (order : IsInOrderWith (Some e) f s p link.ended) (front : List HttpTask)
      (at : HttpTask) → order.closing ≡ [] → order.queued ≡ front ++ at ∷ []
      → first_refusal (request_of s.head) place.NoHead front ≡ None
      → FailsFor f s p client link start e
  by_end : (refused : Option Error) (order : IsInOrderWith refused f s p link.ended)
      → list_any is_end order.queued ≡ true
      → (refused ≡ Some e)
      ⊎ (has_head (wire (request_of s.head) place.NoHead order.queued).place ≡ false)
      → refusal (request_of s.head) (text_of order).place task.Done ≡ Some e
      → FailsFor f s p client link start e

-- the error with which the client's writer refuses what was queued, by why the exchange failed
abbrev pub refused_of : {f : Filtering} {s : Origin} {p : Passed} {client link : LinkState}
    {start : LinkStart} {e : Error} → FailsFor f s p client link start e → Option Error
refused_of (FailsFor.by_client order blames) = None
refused_of (FailsFor.by_peer order lost blames) = None
refused_of (FailsFor.by_piece order stopped front last are call answered) = None
refused_of (FailsFor.by_batch order stopped unasked stand batch before own are read stops refuses) =
    None
refused_of (FailsFor.by_writer order stand batch made unasked read made_so refused) = None
refused_of {e = e} (FailsFor.by_cut order front at unasked is passes) = Some e
refused_of (FailsFor.by_end refused order ends why cannot) = refused

-- the order of what passed, by why the exchange failed
abbrev pub order_of : {f : Filtering} {s : Origin} {p : Passed} {client link : LinkState}
    {start : LinkStart} {e : Error} (why : FailsFor f s p client link start e)
    → IsInOrderWith (refused_of why) f s p link.ended
order_of (FailsFor.by_client order blames) = order
order_of (FailsFor.by_peer order lost blames) = order
order_of (FailsFor.by_piece order stopped front last are call answered) = order
order_of (FailsFor.by_batch order stopped unasked stand batch before own are read stops refuses) =
    order
order_of (FailsFor.by_writer order stand batch made unasked read made_so refused) = order
order_of (FailsFor.by_cut order front at unasked is passes) = order
order_of (FailsFor.by_end refused order ends why cannot) = order

-- why it failed, and the session that this leaves: it answers the request, with the tasks that were
-- queued, of whose text so much was written; it has read so far; and where it keeps the fault of a
-- write, the client's link has answered that since the request began
pub record FailsWith
    (f : Filtering) (s : Origin) (p : Passed) (client_link link : LinkState) (start : LinkStart)
    (ahead : List ℕ) (session : HttpSession) (e : Error) : Type 0 where
  pub why : FailsFor f s p client_link link start e
  pub answers : session.writing.request ≡ request_of s.head
  pub holds : Holds session.writing ((order_of why).queued ++ (order_of why).closing) p.written
  pub broken : (fault : Fault) → session.writing.output ≡ outgoing.Broken fault
      → FailsWrite s client_link fault
  -- of the client's side itself
  pub down : DownPast
  pub client : IsClient s down client_link ahead session
  pub came : down.came ≡ p.came

-- ---- what finishes

-- the whole request was sent, as the filters left it, with its end as the head that is sent frames
-- it
pub record SendsWhole
    (f : Filtering) (s : Origin) (p : Passed) (closed : Bool) (order : IsInOrder f s p closed)
    : Type 0 where
  pub ended : order.ended ≡ true
  pub taken : order.taken ≡ order.pieces
  pub sent : p.sent ≡ sent_wire (sent_as s.sent order.pieces)

-- the request ends short: the first of the pieces that were taken, with the end among them, have
-- fewer bytes than the head that is sent says
pub record SendsShort (s : Origin) (taken : List HttpTask) : Type 0 where
  pub front : List HttpTask
  pub pieces : List (List ℕ)
  pub first : IsFrontOf front taken
  pub ended : list_any is_end front ≡ true
  pub joined : concat pieces ≡ body_of front
  pub short : is_short (after_pieces (body_framing s.sent) pieces) ≡ true

-- the response has come whole, all of it passed the filters, and the text of what they made of it
-- was written whole; where a final head is among that it is over. No read of the peer's link
-- failed, where it tells the faults of its reads. And the request was sent whole as the filter left
-- it, no call of that link having failed; or one write of it failed, and no other call, and the
-- peer's side answers for that error; or the request ends short
pub record IsRelayed
    (f : Filtering) (s : Origin) (p : Passed) (link : LinkState) (start : LinkStart)
    : Type 0 where
  pub order : IsInOrder f s p link.ended
  pub n : ℕ
  pub whole : Tasks s.sent.method s.asked p.got link.ended (says (told_of order.read) (ended n))
  pub ended : list_any is_end order.read ≡ true
  pub batched : order.batched ≡ order.read
  pub over : has_head (wire (request_of s.head) place.NoHead order.queued).place ≡ true
      → is_over (text_of order).place ≡ true
  pub written : p.written ≡ (text_of order).text
  pub request : (SendsWhole f s p link.ended order × (link.faults ≡ start.faults))
      ⊎ (((e : Error) × (lost : Bool) × PeerBlames start link s.sent s.asked (up_past order lost) e
      × IsOnlyFault start link e)
      ⊎ SendsShort s order.taken)
  pub reads : Since [] start.read_faults link.read_faults []

-- the response is over towards the client before its end was given to the filters. What they made
-- so far was written whole; and the request was sent whole as the filter left it, or one write of
-- the peer's link failed, with which it was not, or the request ends short
pub record EndsEarly
    (f : Filtering) (s : Origin) (p : Passed) (link : LinkState) (start : LinkStart)
    : Type 0 where
  pub order : IsInOrder f s p link.ended
  pub open_still : list_any is_end order.batched ≡ false
  pub over : is_over (text_of order).place ≡ true
  pub written : p.written ≡ (text_of order).text
  pub request : SendsWhole f s p link.ended order
      ⊎ (((e : Error) × (read_failed : Bool) × IsWriteError start link read_failed e)
      ⊎ SendsShort s order.taken)
  pub reads : list_any is_end order.read ≡ true
      → Since [] start.read_faults link.read_faults []

-- the peer's link may serve another request: the request was sent whole, in these pieces; its head
-- and the response's let the link be kept; and no byte behind the response was read (RFC 9112,
-- section 9.3)
pub record MayServe (s : Origin) (p : Passed) (closed : Bool) (read : List HttpTask)
    : Type 0 where
  pub pieces : List (List ℕ)
  pub request : p.sent ≡ request_text s.sent ++ body_text (body_framing s.sent) pieces
  pub complete : is_short (after_pieces (body_framing s.sent) pieces) ≡ false
  pub asks : closes s.sent.fields ≡ false
  pub response : IsReadWhole s.sent.method s.asked closed p.got (told_of read)

-- what a finished exchange leaves: a session that says whether the client's own request has ended,
-- and whether the response that was written closes the connection; the bytes of the client behind
-- the request; and whether the peer's link may be kept, whose response was read to its end then, and
-- of which no call failed
pub record Leaves
    (f : Filtering) (s : Origin) (p : Passed) (link : LinkState) (start : LinkStart)
    (order : IsInOrder f s p link.ended) (ahead : List ℕ) (session : HttpSession) (keeps : Bool)
    : Type 0 where
  pub ended : IsTrue (is_body_done session.reading) ↔ (list_any is_end order.came ≡ true)
  pub behind : is_body_done session.reading ≡ true
      → IsWhole (asked s p) (body_of order.came) ahead
  pub closes : session.writing.closes ≡ (text_of order).closes
  pub serves : keeps ≡ true → MayServe s p link.ended order.read
  pub read_whole : keeps ≡ true → list_any is_end order.read ≡ true
  pub faultless : keeps ≡ true → link.faults ≡ start.faults

-- a link that may serve another request is kept, where no call of it failed and the request did not
-- end short
abbrev pub Keeps : {f : Filtering} {s : Origin} {p : Passed} (link : LinkState) → LinkStart
    → IsInOrder f s p link.ended → Bool → Type 0
Keeps {s = s} {p = p} link start order keeps =
    MayServe s p link.ended order.read → ¬ (Rose start.faults link.faults)
    → ¬ (SendsShort s order.taken) → keeps ≡ true
