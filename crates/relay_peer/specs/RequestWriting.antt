-- How a request is written: what of it was queued, and how each call goes on (RFC 9112, sections 3,
-- 6 and 7).
use Rattle.std.specs.Prelude.{◌≡◌, ℕ, ◌==◌, Bool, true, false, not, ◌&&◌, List, [], ◌∷◌, ◌++◌, ◌⊎◌, length, Option, Some, None, unwrap_or, codes}
use Rattle.relay_tasks.specs.Head.{RequestHead}
use Rattle.relay_tasks.specs.declared.error.Error.{Error}
use Rattle.relay_tasks.specs.declared.error.ErrorSource.TheVariants.{Upstream}
use Rattle.relay_h1.specs.declared.framing.Framing.{Framing}
use Rattle.relay_h1.specs.declared.framing.Framing.TheVariants as framing
use Rattle.relay_h1.specs.BodyWire.{HasWritten, after_pieces, body_text, is_full, is_short, pieces_text, short_body}
use Rattle.relay_h1.specs.Framing.{request_framing}
use Rattle.relay_h1.specs.Options.{closes}
use Rattle.relay_h1.specs.Wire.{request_text}
use Rattle.relay_peer.specs.declared.request_writing.RequestPlace.{RequestPlace}
use Rattle.relay_peer.specs.declared.request_writing.RequestPlace.TheVariants as request
use Rattle.relay_peer.specs.declared.request_writing.RequestWriting.{RequestWriting}

-- ---- what a request is sent as

-- what of a request was given to be sent: nothing, its head and these pieces of its body, or all of
-- it
pub data Sent : Type 0 where
  nothing : Sent
  begun : RequestHead → List (List ℕ) → Sent
  whole : RequestHead → List (List ℕ) → Sent

-- the framing of a request's body; a head that has none is not sent
unfoldable pub body_framing : RequestHead → Framing
body_framing head = unwrap_or (request_framing head) framing.Empty

-- the text that a request is sent as: its head, its pieces in the framing of its head, and the end
abbrev pub sent_wire : Sent → List ℕ
sent_wire nothing = []
sent_wire (begun head pieces) = request_text head ++ pieces_text (body_framing head) pieces
sent_wire (whole head pieces) = request_text head ++ body_text (body_framing head) pieces

-- with a head; a head behind one gives nothing
abbrev pub with_head : Sent → RequestHead → Sent
with_head nothing head = begun head []
with_head (begun first pieces) head = begun first pieces
with_head (whole first pieces) head = whole first pieces

-- with one piece more; what comes before the head or behind the end gives nothing
abbrev pub with_piece : Sent → List ℕ → Sent
with_piece nothing piece = nothing
with_piece (begun head pieces) piece = begun head (pieces ++ piece ∷ [])
with_piece (whole head pieces) piece = whole head pieces

-- with the end
abbrev pub with_end : Sent → Sent
with_end nothing = nothing
with_end (begun head pieces) = whole head pieces
with_end (whole head pieces) = whole head pieces

-- ---- where the writing is

-- how what is left of the body is framed
abbrev pub rest_of : RequestPlace → Framing
rest_of request.NoHead = framing.Empty
rest_of (request.Sending sending) = sending.body

-- the method of the request; a response that comes before any request is read as one to GET
abbrev pub method_of : RequestPlace → List ℕ
method_of request.NoHead = codes "GET"
method_of (request.Sending sending) = sending.head.method

-- the head of the request, once one was queued
abbrev pub head_in : RequestPlace → Option RequestHead
head_in request.NoHead = None
head_in (request.Sending sending) = Some sending.head

-- a head was queued
abbrev pub has_head : RequestPlace → Bool
has_head request.NoHead = false
has_head (request.Sending sending) = true

-- the head was queued, and so was all of the body
abbrev pub is_whole : RequestPlace → Bool
is_whole request.NoHead = false
is_whole (request.Sending sending) = is_full sending.body

-- the head has no option `close`
abbrev pub lets_keep_request : RequestPlace → Bool
lets_keep_request request.NoHead = false
lets_keep_request (request.Sending sending) = not (closes sending.head.fields)

-- the request was queued and taken whole, and its head lets the link be kept
abbrev pub may_keep_writing : RequestWriting → Bool
may_keep_writing writing =
    is_whole writing.request && (lets_keep_request writing.request && (length writing.unsent == 0))

-- the writing stands where that was queued
abbrev pub Stands : Sent → RequestPlace → Type 0
Stands nothing request.NoHead = Unit {0}
Stands nothing (request.Sending sending) = ⊥
Stands (begun head pieces) request.NoHead = ⊥
Stands (begun head pieces) (request.Sending sending) =
    (sending.head ≡ head)
    × HasWritten (body_framing head) pieces (pieces_text (body_framing head) pieces) sending.body
Stands (whole head pieces) request.NoHead = ⊥
Stands (whole head pieces) (request.Sending sending) =
    (sending.head ≡ head) × (sending.body ≡ framing.Empty)
    × (is_short (after_pieces (body_framing head) pieces) ≡ false)

-- that was queued since the client began, and the link took these bytes of it: they and what is
-- still queued are the text
pub record SentSoFar (sent : Sent) (taken : List ℕ) (writing : RequestWriting) : Type 0 where
  pub stands : Stands sent writing.request
  pub text : taken ++ writing.unsent ≡ sent_wire sent

-- the link took all of the request: its head, which lets the link be kept, and its body, of which
-- no byte is missing
pub record IsSentWhole (sent : Sent) (taken : List ℕ) : Type 0 where
  pub head : RequestHead
  pub pieces : List (List ℕ)
  pub is : (sent ≡ begun head pieces) ⊎ (sent ≡ whole head pieces)
  pub text : taken ≡ request_text head ++ body_text (body_framing head) pieces
  pub complete : is_short (after_pieces (body_framing head) pieces) ≡ false
  pub keeps : closes head.fields ≡ false

-- the error of a body that ends short of its length, as one of the peer's side
abbrev pub short_request : Error
short_request = record short_body { esource = Upstream }
