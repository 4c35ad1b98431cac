-- What was sent to the peer and what was written to the client, in terms of the bytes that passed
-- (RFC 9110, section 15.2; RFC 9112, sections 3 to 8).
use Rattle.std.specs.Prelude.{◌≡◌, ◌↔◌, IsTrue, ℕ, All, Bool, true, false, ◌⊎◌, ◌≤◌, List, [], ◌∷◌, ◌++◌, drop, map, Option, Some, None}
use Rattle.std.specs.List.{list_any, concat}
use Rattle.relay_tasks.specs.declared.error.Error.{Error}
use Rattle.relay_tasks.specs.declared.fault.Fault.{Fault}
use Rattle.relay_tasks.specs.declared.task.HttpTask.{HttpTask}
use Rattle.relay_tasks.specs.Head.{ResponseHead}
use Rattle.relay_tasks.specs.Task.{is_end}
use Rattle.relay_links.specs.Link.{LinkState, LinkStart}
use Rattle.relay_links.specs.Told.{Since, more}
use Rattle.relay_h1.specs.declared.framing.Framing.{Framing}
use Rattle.relay_h1.specs.Body.{BodyText, ended_text, Body}
use Rattle.relay_h1.specs.BodyWire.{after_pieces, body_text, is_short}
use Rattle.relay_h1.specs.Tasks.{HasFinal, Tasks, ResponseText, ended}
use Rattle.relay_h1.specs.Verdict.{HasRequest}
use Rattle.relay_h1.specs.Wire.{request_text}
use Rattle.relay_peer.specs.RequestWriting.{body_framing, sent_wire}
use Rattle.relay_h1.specs.Options.{closes}
use Rattle.relay_peer.specs.ResponseReading.{untold, says, IsReadWhole}
use Rattle.relay_session.specs.Asked.{request_of}
use Rattle.relay_session.specs.Front.{ends_with_head}
use Rattle.relay_session.specs.Reading.{IsWhole}
use Rattle.relay_session.specs.TaskWire.{Sent, first_refusal, wire}
use Rattle.relay_session.specs.Response.{is_over}
use Rattle.relay_session.specs.declared.task_text.Place.TheVariants as place
use Rattle.relay_core.specs.Moves.{EndsLast}
use Rattle.relay_core.specs.Past.{Origin, DownPast, UpPast}
use Rattle.relay_peer.specs.Body.{IsFrontOf, body_of, sent_as}
use Rattle.relay_sides.specs.Client.{ClientBlames}
use Rattle.relay_sides.specs.Filtered.{handed, is_switch, HasRoom, RefusesHead, asks_to_close}
use Rattle.relay_peer.specs.Peer.{told_of, EndFramed, Follow, PeerBlames, IsOnlyFault, IsWriteError}
use Rattle.relay_attempt.specs.Agrees.{AsksAlike}
use Rattle.relay_attempt.specs.Passed.{Passed, asked}

-- the client's bytes begin with the head of the request
pub record Asks (s : Origin) (p : Passed) : Type 0 where
  pub framing : Framing
  pub len : ℕ
  pub has : HasRequest (asked s p) s.head framing len

-- ---- the request

-- the pieces are the front of the body that the bytes say: joined they are its first bytes, and an
-- end among them is the last of them, and the body's. Where the head ends the body its end is among
-- them from the first on
pub record ArePieces (framing : Framing) (bytes : List ℕ) (pieces : List HttpTask) : Type 0 where
  pub text : BodyText
  pub says : Body framing bytes text
  pub front : IsFrontOf (body_of pieces) text.bytes
  pub ends_last : EndsLast pieces
  pub whole : list_any is_end pieces ≡ true
      → (n : ℕ) × (text ≡ ended_text (body_of pieces) n)
  pub headed : ends_with_head framing ≡ true → list_any is_end pieces ≡ true

-- ---- the response

-- these tasks are handed on of the response that the bytes say: its heads in order, and the first
-- bytes of its body; an end among them is the last of them, and the response's, and comes with a
-- piece where the body has a length, and alone where it has none
pub record AreOf
    (method : List ℕ) (upgrade closed : Bool) (got : List ℕ) (tasks : List HttpTask) : Type 0 where
  pub given : List HttpTask
  pub are : tasks ≡ map (handed method) given
  pub follow : Follow untold given
  -- none of the heads switches protocols, and one that is chunked has room for that
  pub stays : list_any is_switch given ≡ false
  pub have_room : All (HasRoom method) given
  pub informed : (text : ResponseText) → Tasks method upgrade got closed text
      → IsFrontOf (told_of given).informed text.informed
  pub final : (head : ResponseHead) → (told_of given).final ≡ Some head
      → (framing : Framing) × (len : ℕ)
      × HasFinal method upgrade got (told_of given).informed head framing len
  pub body : (text : ResponseText) → Tasks method upgrade got closed text
      → IsFrontOf (told_of given).body text.body
  pub ends_last : EndsLast given
  pub whole : list_any is_end given ≡ true
      → (n : ℕ) × Tasks method upgrade got closed (says (told_of given) (ended n))
  pub framed : (head : ResponseHead) → (told_of given).final ≡ Some head
      → EndFramed method upgrade got (told_of given).informed head given

-- ---- both

-- tasks, and behind them one that was cut: it is refused, since it ends short, and its text without
-- its end was queued
abbrev pub and_cut : List HttpTask → Option HttpTask → List HttpTask
and_cut tasks None = tasks
and_cut tasks (Some at) = tasks ++ at ∷ []

-- what was sent is the front of the text of the head that is sent and of pieces of the client's
-- body, from the first on, with the end only where the body has ended. What was written is the
-- front of the text of the first of the tasks that the peer's bytes are, none of which is refused;
-- an end is asked for behind them only where one is among them, or where the response is over
-- behind them. One more may have been cut
pub record IsInOrderWith (cut : Option HttpTask) (s : Origin) (p : Passed) (closed : Bool)
    : Type 0 where
  pub asks : Asks s p
  pub pieces : List HttpTask
  pub are_pieces : ArePieces asks.framing (drop asks.len (asked s p)) pieces
  pub taken : List HttpTask
  pub first_taken : IsFrontOf taken pieces
  pub sent : IsFrontOf p.sent (sent_wire (sent_as s.sent taken))
  pub read : List HttpTask
  pub are_of : AreOf s.sent.method s.asked closed p.got read
  pub batched : List HttpTask
  pub first_batched : IsFrontOf batched read
  pub closing : List HttpTask
  pub passes : first_refusal (request_of s.head) place.NoHead (batched ++ closing) ≡ None
  pub closes_late : (closing ≡ [])
      ⊎ ((list_any is_end batched ≡ true)
      ⊎ (is_over (wire (request_of s.head) place.NoHead batched).place ≡ true))
  pub written : IsFrontOf p.written
      (wire (request_of s.head) place.NoHead (and_cut (batched ++ closing) cut)).text

-- what was sent and written is in order, and nothing was cut
abbrev pub IsInOrder : Origin → Passed → Bool → Type 0
IsInOrder s p closed = IsInOrderWith None s p closed

-- the tasks that were queued for the client, the one that was cut last
abbrev pub queued_in : {cut : Option HttpTask} {s : Origin} {p : Passed} {closed : Bool}
    → IsInOrderWith cut s p closed → List HttpTask
queued_in {cut = cut} order = and_cut (order.batched ++ order.closing) cut

-- what they are sent as
abbrev pub text_of : {cut : Option HttpTask} {s : Origin} {p : Passed} {closed : Bool}
    → IsInOrderWith cut s p closed → Sent
text_of {s = s} order = wire (request_of s.head) place.NoHead (queued_in order)

-- ---- ends

-- the past of the client's side
abbrev pub down_past : {s : Origin} {p : Passed} {closed : Bool} → IsInOrder s p closed → DownPast
down_past {p = p} order = record {
  came = p.came;
  written = p.written;
  put = order.pieces;
  batched = order.batched;
  closing = order.closing;
}

-- the past of the peer's side
abbrev pub up_past : {s : Origin} {p : Passed} {closed : Bool} → IsInOrder s p closed → Bool
    → UpPast
up_past {p = p} order lost = record {
  got = p.got;
  sent = p.sent;
  read = order.read;
  taken = order.taken;
  lost = lost;
}

-- why an exchange failed with that error: the client's side answers for it, the peer's side does,
-- or a head of the response is refused; or tasks that the peer's side gave are refused by the
-- client's writer, for the first of them that is: a whole batch behind those that were queued, or a
-- task that ends short, whose end alone was not queued. The response can always end where its end
-- is asked for
pub data FailsFor
    (s : Origin) (p : Passed) (client link : LinkState) (start : LinkStart) (e : Error)
    : Type 0 where
  by_client : (order : IsInOrder s p link.ended)
      → ClientBlames s (down_past order) client e → FailsFor s p client link start e
  by_peer : (order : IsInOrder s p link.ended) (lost : Bool)
      → PeerBlames start link s.sent s.asked (up_past order lost) e
      → FailsFor s p client link start e
  by_refusal : (order : IsInOrder s p link.ended) → RefusesHead s.sent.method s.asked p.got e
      → FailsFor s p client link start e
  by_writer : (order : IsInOrder s p link.ended) (batch : List HttpTask) → order.closing ≡ []
      → IsFrontOf (order.batched ++ batch) order.read
      → first_refusal (request_of s.head) place.NoHead (order.batched ++ batch) ≡ Some e
      → FailsFor s p client link start e
  by_cut : (at : HttpTask) (order : IsInOrderWith (Some at) s p link.ended) → order.closing ≡ []
      → IsFrontOf (order.batched ++ at ∷ []) order.read
      → first_refusal (request_of s.head) place.NoHead (order.batched ++ at ∷ []) ≡ Some e
      → FailsFor s p client link start e

-- the task that was cut, by why the exchange failed
abbrev pub cut_of : {s : Origin} {p : Passed} {client link : LinkState} {start : LinkStart}
    {e : Error} → FailsFor s p client link start e → Option HttpTask
cut_of (FailsFor.by_client order blames) = None
cut_of (FailsFor.by_peer order lost blames) = None
cut_of (FailsFor.by_refusal order refuses) = None
cut_of (FailsFor.by_writer order batch unasked read refused) = None
cut_of (FailsFor.by_cut at order unasked read refused) = Some at

-- the order of what passed, by why the exchange failed
abbrev pub order_of : {s : Origin} {p : Passed} {client link : LinkState} {start : LinkStart}
    {e : Error} (why : FailsFor s p client link start e)
    → IsInOrderWith (cut_of why) s p link.ended
order_of (FailsFor.by_client order blames) = order
order_of (FailsFor.by_peer order lost blames) = order
order_of (FailsFor.by_refusal order refuses) = order
order_of (FailsFor.by_writer order batch unasked read refused) = order
order_of (FailsFor.by_cut at order unasked read refused) = order

-- nothing but writes came between two states of a client's link: its reads told no more, and its
-- writes these faults
pub record WrittenTo (before after : LinkState) : Type 0 where
  pub ended : after.ended ≡ before.ended
  pub read : after.read_faults ≡ before.read_faults
  pub failed : List Fault
  pub told : after.write_faults ≡ more before.write_faults failed
  pub faults : before.faults ≤ after.faults

-- the request has ended: an end is among its pieces, as it is from the first on where its head says
-- that it has no body
abbrev pub HasEnded : {s : Origin} {p : Passed} {closed : Bool} → IsInOrder s p closed → Type 0
HasEnded order = list_any is_end order.pieces ≡ true

-- the whole request was sent, with its end as the head that is sent frames it
pub record SendsWhole (s : Origin) (p : Passed) (closed : Bool) (order : IsInOrder s p closed)
    : Type 0 where
  pub n : ℕ
  pub body : Body order.asks.framing (drop order.asks.len (asked s p))
      (ended_text (body_of order.pieces) n)
  pub ended : HasEnded order
  pub sent : p.sent ≡ sent_wire (sent_as s.sent order.pieces)

-- the request ends short: its first pieces, with the end among them, have fewer bytes than the head
-- that is sent says
pub record SendsShort (s : Origin) (p : Passed) (closed : Bool) (order : IsInOrder s p closed)
    : Type 0 where
  pub front : List HttpTask
  pub pieces : List (List ℕ)
  pub first : IsFrontOf front order.taken
  pub ended : list_any is_end front ≡ true
  pub joined : concat pieces ≡ body_of front
  pub short : is_short (after_pieces (body_framing s.sent) pieces) ≡ true

-- the response has come whole, and its text was written whole, no read of the peer's link having
-- failed, where it tells the faults of its reads. And the request was sent whole, no call of that
-- link having failed; or one write of it failed, with which it was not, and no other call, and the
-- peer's side answers for that error; or the request ends short
pub record IsRelayed (s : Origin) (p : Passed) (link : LinkState) (start : LinkStart) : Type 0 where
  pub order : IsInOrder s p link.ended
  pub n : ℕ
  pub whole : Tasks s.sent.method s.asked p.got link.ended
      (says (told_of order.are_of.given) (ended n))
  pub ended : list_any is_end order.read ≡ true
  pub over : is_over (text_of order).place ≡ true
  pub written : p.written ≡ (text_of order).text
  pub request : (SendsWhole s p link.ended order × (link.faults ≡ start.faults))
      ⊎ (((e : Error) × (lost : Bool) × PeerBlames start link s.sent s.asked (up_past order lost) e
      × IsOnlyFault start link e)
      ⊎ SendsShort s p link.ended order)
  pub reads : Since [] start.read_faults link.read_faults []

-- the response is over towards the client before its end was read: of the client's head and the
-- head that is sent one alone is a HEAD. Its text was written whole; and the request was sent
-- whole, or one write of the peer's link failed, with which it was not, or the request ends short
pub record EndsEarly (s : Origin) (p : Passed) (link : LinkState) (start : LinkStart)
    : Type 0 where
  pub order : IsInOrder s p link.ended
  pub open_still : list_any is_end order.read ≡ false
  pub differs : ¬ (AsksAlike s.head s.sent)
  pub over : is_over (text_of order).place ≡ true
  pub written : p.written ≡ (text_of order).text
  pub request : SendsWhole s p link.ended order
      ⊎ (((e : Error) × (read_failed : Bool) × IsWriteError start link read_failed e)
      ⊎ SendsShort s p link.ended order)

-- the peer's link may serve another request: the request was sent whole, in these pieces; its head
-- and the response's let the link be kept; and no byte behind the response was read (RFC 9112,
-- section 9.3)
pub record MayServe (s : Origin) (p : Passed) (closed : Bool) (order : IsInOrder s p closed)
    : Type 0 where
  pub pieces : List (List ℕ)
  pub request : p.sent ≡ request_text s.sent ++ body_text (body_framing s.sent) pieces
  pub complete : is_short (after_pieces (body_framing s.sent) pieces) ≡ false
  pub asks : closes s.sent.fields ≡ false
  pub response : IsReadWhole s.sent.method s.asked closed p.got (told_of order.are_of.given)

-- what a finished exchange leaves: whether its request has ended, the bytes of the client behind
-- it, whether the response that was handed on asks to close, and whether the peer's link may be
-- kept
pub record Leaves (s : Origin) (p : Passed) (closed : Bool) (order : IsInOrder s p closed)
    (ahead : List ℕ) (done asks_close keeps : Bool) : Type 0 where
  pub ended : IsTrue done ↔ HasEnded order
  pub behind : done ≡ true → IsWhole (asked s p) (body_of order.pieces) ahead
  pub closes : asks_close ≡ list_any asks_to_close order.read
  pub serves : keeps ≡ true → MayServe s p closed order
