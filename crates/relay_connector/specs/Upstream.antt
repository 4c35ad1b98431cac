-- A link to an upstream peer, as a link of bytes.
use Rattle.std.specs.Prelude.{◌≡◌, Bool, true, false, [], Some, None}
use Rattle.relay_links.specs.Link.{LinkState, LinkStart, IsHandedOut}
use Rattle.relay_links.specs.declared.link.UpKind.{UpKind}
use Rattle.relay_links.specs.declared.link.UpKind.TheVariants as kind
use Rattle.relay_messages.specs.MessageLink as messages
use Rattle.relay_messages.specs.MessageLink.{MessageState, MessageStart}
use Rattle.relay_connector.specs.declared.upstream.Upstream.{Upstream}
use Rattle.relay_connector.specs.declared.upstream.Upstream.TheVariants.{H1, H2, Custom}

-- a link of messages gave no bytes and took none, and does neither; its uses and faults count
abbrev pub message_state : MessageState → LinkState
message_state link = record {
  given = Some [];
  taken = Some [];
  read_faults = Some [];
  write_faults = Some [];
  waits = 0;
  used = link.used;
  faults = link.faults;
  ended = false;
  silent_on_read = true;
  silent_on_write = true;
}

-- and so it was handed out
abbrev pub message_start : UpKind → MessageStart → LinkStart
message_start kind start = record {
  kind = kind;
  items = None;
  given = 0;
  taken = 0;
  read_faults = 0;
  write_faults = 0;
  waits = 0;
  used = start.used;
  faults = start.faults;
  reused = start.reused;
}

-- the link's state, by that of each kind of links
abbrev pub upstream_state : {L M C : Type 0} → (L → LinkState) → (M → MessageState)
    → (C → MessageState) → Upstream L M C → LinkState
upstream_state bytes messages custom (H1 link) = bytes link
upstream_state bytes messages custom (H2 link) = message_state (messages link)
upstream_state bytes messages custom (Custom link) = message_state (custom link)

-- the link as it was handed out, by what each kind of links was then
abbrev pub upstream_start : {L M C : Type 0} → (L → LinkStart) → (M → MessageStart)
    → (C → MessageStart) → Upstream L M C → LinkStart
upstream_start bytes messages custom (H1 link) = bytes link
upstream_start bytes messages custom (H2 link) = message_start kind.H2 (messages link)
upstream_start bytes messages custom (Custom link) = message_start kind.Custom (custom link)

-- the link is one of bytes
abbrev pub is_of_bytes : {L M C : Type 0} → Upstream L M C → Bool
is_of_bytes (H1 link) = true
is_of_bytes (H2 link) = false
is_of_bytes (Custom link) = false

-- a link that carries bytes says so
abbrev pub SpeaksBytes : LinkStart → Type 0
SpeaksBytes start = start.kind ≡ kind.H1

-- the link is as the connector hands it out, whatever it carries; one of bytes says so
abbrev pub IsHandedOver : {L M C : Type 0} → (L → LinkState) → (L → LinkStart)
    → (M → MessageState) → (M → MessageStart) → (C → MessageState) → (C → MessageStart)
    → Upstream L M C → Bool → Type 0
IsHandedOver state start m_state m_start c_state c_start (H1 link) reused =
    IsHandedOut (state link) (start link) reused × SpeaksBytes (start link)
IsHandedOver state start m_state m_start c_state c_start (H2 link) reused =
    messages.IsHandedOut (m_state link) (m_start link) reused
IsHandedOver state start m_state m_start c_state c_start (Custom link) reused =
    messages.IsHandedOut (c_state link) (c_start link) reused
