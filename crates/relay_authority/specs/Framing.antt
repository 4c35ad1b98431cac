-- Framing and upgrade of a request that is sent over HTTP/1 (RFC 9112, section 6; RFC 9110, section
-- 7.8).
use Rattle.std.specs.Prelude.{◌≡◌, ◌⊎◌, ℕ, Bool, List, codes, IsTrue}
use Rattle.http.specs.declared.version.TheConstants.Version.{HTTP_11}
use Rattle.http_header.specs.FieldValue.{plain_value}
use Rattle.http_header.specs.HeaderMap.{ContainsKey}
use Rattle.relay_tasks.specs.Head.{RequestHead}
use Rattle.relay_authority.specs.Sent.{PutsField}
use Rattle.relay_authority.specs.Table.{Line, Outcome, Leaves}

-- the name of the field Content-Length
abbrev pub content_length : List ℕ
content_length = codes "content-length"

-- the name of the field Transfer-Encoding
abbrev pub transfer_encoding : List ℕ
transfer_encoding = codes "transfer-encoding"

-- the head says how its body is framed
abbrev pub IsFramed : RequestHead → Type 0
IsFramed head = ContainsKey head.fields content_length ⊎ ContainsKey head.fields transfer_encoding

-- a body without framing is sent in chunks
abbrev pub Frames : RequestHead → Bool → Outcome → Type 0
Frames head has_body outcome =
    Line (IsTrue has_body × ¬ (IsFramed head))
    (PutsField head transfer_encoding (plain_value (codes "chunked")) outcome)
    (Leaves head outcome)

-- the request asks to leave HTTP
abbrev pub IsUpgrade : RequestHead → Type 0
IsUpgrade head = (head.version ≡ HTTP_11) × ContainsKey head.fields (codes "upgrade")
