-- The text that a head is sent as (RFC 9112, sections 2 to 5).
use Rattle.std.specs.Prelude.{◌≡◌, ℕ, List, [], ◌∷◌, ◌++◌, take, length, codes, unwrap_or, flat_map}
use Rattle.http.specs.StatusCode.{code_digits, reason_phrase}
use Rattle.http_header.specs.FieldValue.{FieldValue}
use Rattle.http_header.specs.HeaderMap.{pairs}
use Rattle.relay_tasks.specs.Head.{RequestHead, ResponseHead}

-- CR LF
abbrev pub crlf : List ℕ
crlf = 13 ∷ 10 ∷ []

-- a field line: the name, which is in lower case, a colon, a space, the value
abbrev pub field_line : List ℕ × FieldValue → List ℕ
field_line field = field.0 ++ codes ": " ++ field.1.bytes ++ crlf

-- the field lines in the map's order
abbrev pub field_lines : List (List ℕ × FieldValue) → List ℕ
field_lines fields = flat_map field_line fields

-- the request line, which names HTTP/1.1 whatever the head's version is
abbrev pub request_line : RequestHead → List ℕ
request_line head = head.method ++ (codes " " ++ (head.target ++ (codes " HTTP/1.1" ++ crlf)))

-- the phrase of a status, and nothing where it has none
unfoldable pub reason : ℕ → List ℕ
reason status = unwrap_or (reason_phrase status) []

-- the status line; its second space stands also where no phrase follows
abbrev pub status_line : ℕ → List ℕ
status_line status =
    codes "HTTP/1.1 " ++ code_digits status ++ codes " " ++ reason status ++ crlf

-- a request's head on the wire
abbrev pub request_text : RequestHead → List ℕ
request_text head = request_line head ++ field_lines (pairs head.fields) ++ crlf

-- a response's head on the wire
abbrev pub response_text : ResponseHead → List ℕ
response_text head = status_line head.status ++ field_lines (pairs head.fields) ++ crlf

-- the fields of an answer that the relay makes itself
abbrev pub generated_fields : List ℕ
generated_fields =
    codes "server: Pingora" ++ crlf ++ codes "content-length: 0" ++ crlf
    ++ codes "cache-control: private, no-store" ++ crlf

-- an answer without a body that the relay makes itself
abbrev pub generated : ℕ → List ℕ
generated status = status_line status ++ (generated_fields ++ crlf)

-- what stood in the old bytes stands at the front of the new ones
pub record KeepsFront (old new : List ℕ) : Type 0 where
  pub front : take (length old) new ≡ old
