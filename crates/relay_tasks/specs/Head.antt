-- What a contract sees of a message head (RFC 9112, sections 2 to 5; RFC 9110, section 6.2).
use Rattle.std.specs.Prelude.{◌≡◌, ℕ, ◌<◌, ◌≤◌, ◌&&◌, Bool, true, not, List, [], length, nat_le, ◌==◌, IsTrue, All, Option, None}
use Rattle.http.specs.declared.Version.{Version}
use Rattle.http.specs.declared.version.TheConstants.Version.{HTTP_11}
use Rattle.http_header.specs.FieldValue.{FieldValue}
use Rattle.http_header.specs.HeaderMap.{Entries}
use Rattle.http_uri.specs.Grammar.{path_and_query_text}
use Rattle.http_uri.specs.Uri.{uri_data}
use Rattle.http_uri.specs.declared.Uri.{Uri}

-- the field names in order, each with its values
abbrev pub Fields : Type 0
Fields = Entries FieldValue

-- a request's head: `uri` is the URI that was set last, and none once a raw target was set;
-- `ends` is whether an HTTP/2 stream ends with its body
pub record RequestHead : Type 0 where
  pub method : List ℕ
  pub version : Version
  pub target : List ℕ
  pub uri : Option Uri
  pub fields : Fields
  pub ends : Bool

-- a response's head
pub record ResponseHead : Type 0 where
  pub status : ℕ
  pub version : Version
  pub fields : Fields

-- a byte that may stand in a raw target: no blank, no control byte
abbrev pub is_target_byte : ℕ → Bool
is_target_byte b = nat_le 33 b && not (b == 127)

-- a text that can stand in a request line as its target
pub record IsSendable (target : List ℕ) : Type 0 where
  pub filled : 0 < length target
  pub visible : All (λ b. IsTrue (is_target_byte b)) target

-- a raw target that can be sent, at a length that `http_uri` takes
pub record IsRawTarget (target : List ℕ) : Type 0 where
  pub filled : 0 < length target
  pub fits : length target ≤ 65534
  pub visible : All (λ b. IsTrue (is_target_byte b)) target

-- a new request's head: HTTP/1.1, no fields
abbrev pub new_request : List ℕ → List ℕ → RequestHead
new_request method target =
    record { method = method; version = HTTP_11; target = target; uri = None; fields = []; ends = true }

-- the target that a URI is sent as: its path and query, with a `/` in front where that has none
-- (RFC 9112, section 3.2.1)
abbrev pub target_of : Uri → List ℕ
target_of uri = path_and_query_text (uri_data uri)

-- a status code: three digits
pub record IsStatus (status : ℕ) : Type 0 where
  pub from_100 : 100 ≤ status
  pub below_1000 : status < 1000

-- a new response's head: HTTP/1.1, no fields
abbrev pub new_response : ℕ → ResponseHead
new_response status = record { status = status; version = HTTP_11; fields = [] }

-- an informational status: 1xx, but for 101, which ends the response's head section for good
pub record IsInformational (status : ℕ) : Type 0 where
  pub from_100 : 100 ≤ status
  pub below_200 : status < 200
  pub no_switch : ¬ (status ≡ 101)
