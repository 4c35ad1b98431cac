-- The head of a response as its client gets it, and how the body behind it is framed
-- (RFC 9112, sections 6.1 and 6.3; RFC 9110, section 15.2).
use Rattle.std.specs.Prelude.{ℕ, Bool, not, ◌&&◌, List, nat_le, nat_lt, ◌==◌, if◌then◌else◌, codes, Option, option_map, unwrap_or, is_none}
use Rattle.http.specs.declared.Version.{Version}
use Rattle.http.specs.declared.version.TheConstants.Version.{HTTP_11}
use Rattle.http_header.specs.FieldValue.{plain_value}
use Rattle.http_header.specs.HeaderMap.{get, insert, remove}
use Rattle.relay_tasks.specs.Head.{ResponseHead}
use Rattle.relay_h1.specs.declared.framing.Framing.{Framing}
use Rattle.relay_h1.specs.declared.framing.Framing.TheVariants as framing
use Rattle.relay_h1.specs.Framing.{is_http_10, has_no_body, response_framing}
use Rattle.relay_h1.specs.Verdict.{settled}

-- 1xx but 101: a informational head
abbrev pub is_informational : ℕ → Bool
is_informational status = nat_le 100 status && nat_lt status 200 && not (status == 101)

-- HTTP/1.0 has no informational heads, so its client gets none
abbrev pub is_sent_to : Version → ℕ → Bool
is_sent_to version status = not (is_http_10 version && is_informational status)

-- the framing for a client that may be of HTTP/1.0: such a client reads no chunks, and takes the
-- bytes up to the close
abbrev pub framing_for : Bool → Framing → Framing
framing_for old framing.Empty = framing.Empty
framing_for old (framing.Length n) = framing.Length n
framing_for old framing.Chunked = if old then framing.UntilClose else framing.Chunked
framing_for old framing.UntilClose = framing.UntilClose
framing_for old framing.Tunnel = framing.Tunnel

-- the framing towards a client that asked with that method in that version, or none where the head
-- is refused; `asked` is whether it asked for an upgrade
unfoldable pub client_framing : List ℕ → Version → Bool → ResponseHead → Option Framing
client_framing method version asked head =
    option_map (framing_for (is_http_10 version)) (response_framing method asked head)

-- the head without Transfer-Encoding
abbrev pub uncoded : ResponseHead → ResponseHead
uncoded head = record head { fields = remove head.fields (codes "transfer-encoding") }

-- a head that is framed so, as that client gets it: no Content-Length beside chunked, and in
-- HTTP/1.0 no Transfer-Encoding
abbrev pub head_for : Bool → Framing → ResponseHead → ResponseHead
head_for old framing head = if old then uncoded (settled framing head) else settled framing head

-- the head as that client gets it; a head that is refused stays
unfoldable pub client_head : List ℕ → Version → Bool → ResponseHead → ResponseHead
client_head method version asked head =
    unwrap_or (option_map (λ framing. head_for (is_http_10 version) framing head)
    (response_framing method asked head)) head

-- HTTP/1 sends in chunks what has no end of its own: a final head that may have a body, does not
-- end its stream and has neither framing field
unfoldable pub lacks_framing : List ℕ → Bool → ResponseHead → Bool
lacks_framing method ends head =
    not ends && not (has_no_body method head.status)
    && is_none (get head.fields (codes "content-length"))
    && is_none (get head.fields (codes "transfer-encoding"))

-- the head with chunked added to it, which is of HTTP/1.1 at least
abbrev pub chunked_head : ResponseHead → ResponseHead
chunked_head head =
    record head {
      version = HTTP_11;
      fields = insert head.fields (codes "transfer-encoding") (plain_value (codes "chunked"));
    }
