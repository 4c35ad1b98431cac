-- What a head keeps when it is sent over HTTP/1 (RFC 9110, section 7.6; RFC 9112, sections 3.2 and
-- 6).
use Rattle.std.specs.Prelude.{◌≡◌, ◌≢◌, ◌⊎◌, List, ℕ, []}
use Rattle.http_header.specs.HeaderMap.{get_all}
use Rattle.relay_tasks.specs.Head.{RequestHead}
use Rattle.relay_authority.specs.Framing.{content_length, transfer_encoding}
use Rattle.relay_authority.specs.Heads.{host_name}

-- method, version and fields stay, but for the values of Host
pub record KeepsFields (head sent : RequestHead) : Type 0 where
  pub method : sent.method ≡ head.method
  pub version : sent.version ≡ head.version
  pub fields : (name : List ℕ) → host_name ≢ name
      → get_all sent.fields name ≡ get_all head.fields name

-- the head has a value under a name that frames its body
abbrev pub SaysFraming : RequestHead → Type 0
SaysFraming head =
    (get_all head.fields content_length ≢ []) ⊎ (get_all head.fields transfer_encoding ≢ [])
