-- Where the body of a message ends, told by its head alone (RFC 9112, section 6.3).
use Rattle.std.specs.Prelude.{◌≡◌, ℕ, ◌^◌, Bool, true, false, ◌&&◌, ◌||◌, List, [], ◌∷◌, length, nat_lt, nat_le, ◌==◌, if◌then◌else◌, codes, bytes_eq, Option, Some, None, Result, Ok, Err}
use Rattle.std.specs.List.{list_all}
use Rattle.std.specs.Char.{is_ascii_digit}
use Rattle.std.specs.Str.Parse.{digits_value}
use Rattle.http.specs.declared.Version.{Version}
use Rattle.http.specs.declared.version.Http.{Http}
use Rattle.http.specs.declared.version.Http.TheVariants.{Http09, Http10, Http11, H2, H3}
use Rattle.http_header.specs.FieldValue.{FieldValue}
use Rattle.http_header.specs.HeaderMap.{get_all}
use Rattle.http_header.specs.Token.{lowercase}
use Rattle.relay_tasks.specs.declared.error.Error.{Error}
use Rattle.relay_tasks.specs.declared.context.Context.TheVariants.{BadFraming}
use Rattle.relay_tasks.specs.Error.{refused}
use Rattle.relay_tasks.specs.Head.{RequestHead, ResponseHead}
use Rattle.relay_h1.specs.declared.framing.Framing.{Framing}
use Rattle.relay_h1.specs.declared.framing.Framing.TheVariants as framing
use Rattle.relay_h1.specs.declared.framing.LengthField.{LengthField}
use Rattle.relay_h1.specs.declared.framing.LengthField.TheVariants as length_field
use Rattle.relay_h1.specs.declared.framing.CodingField.{CodingField}
use Rattle.relay_h1.specs.declared.framing.CodingField.TheVariants as coding_field

-- one or more digits that write a number below 2^64
abbrev pub is_length : List ℕ → Bool
is_length digits =
    nat_lt 0 (length digits)
    && (list_all is_ascii_digit digits && nat_lt (digits_value 10 digits) (2 ^ 64))

-- the one coding that is known, in any case
abbrev pub is_chunked : List ℕ → Bool
is_chunked value = bytes_eq (lowercase value) (codes "chunked")

-- what the Content-Length fields say
abbrev pub length_said : List FieldValue → LengthField
length_said [] = length_field.Absent
length_said (value ∷ []) =
    if is_length value.bytes then length_field.Value (digits_value 10 value.bytes)
    else length_field.Malformed
length_said (value ∷ other ∷ others) = length_field.Malformed

-- what the Transfer-Encoding fields say
abbrev pub coding_said : List FieldValue → CodingField
coding_said [] = coding_field.Absent
coding_said (value ∷ []) =
    if is_chunked value.bytes then coding_field.Chunked else coding_field.Other
coding_said (value ∷ other ∷ others) = coding_field.Other

-- HTTP/1.0
abbrev pub is_version_10 : Http → Bool
is_version_10 Http09 = false
is_version_10 Http10 = true
is_version_10 Http11 = false
is_version_10 H2 = false
is_version_10 H3 = false

abbrev pub is_http_10 : Version → Bool
is_http_10 version = is_version_10 version.0

-- a request's table: at most one of the two fields, and in HTTP/1.0 no Transfer-Encoding
abbrev pub request_table : Bool → LengthField → CodingField → Option Framing
request_table old length_field.Absent coding_field.Absent = Some framing.Empty
request_table old length_field.Absent coding_field.Chunked =
    if old then None else Some framing.Chunked
request_table old length_field.Absent coding_field.Other = None
request_table old (length_field.Value n) coding_field.Absent = Some (framing.Length n)
request_table old (length_field.Value n) coding_field.Chunked = None
request_table old (length_field.Value n) coding_field.Other = None
request_table old length_field.Malformed coding_field.Absent = None
request_table old length_field.Malformed coding_field.Chunked = None
request_table old length_field.Malformed coding_field.Other = None

-- a response's table, where its body may have bytes: with no field it lasts until the close
abbrev pub response_table : LengthField → CodingField → Option Framing
response_table length_field.Absent coding_field.Absent = Some framing.UntilClose
response_table length_field.Absent coding_field.Chunked = Some framing.Chunked
response_table length_field.Absent coding_field.Other = None
response_table (length_field.Value n) coding_field.Absent = Some (framing.Length n)
response_table (length_field.Value n) coding_field.Chunked = Some framing.Chunked
response_table (length_field.Value n) coding_field.Other = None
response_table length_field.Malformed coding_field.Absent = None
response_table length_field.Malformed coding_field.Chunked = None
response_table length_field.Malformed coding_field.Other = None

-- the framing of a request, or none where it is refused
unfoldable pub request_framing : RequestHead → Option Framing
request_framing head =
    request_table (is_http_10 head.version)
    (length_said (get_all head.fields (codes "content-length")))
    (coding_said (get_all head.fields (codes "transfer-encoding")))

-- 1xx, 204 and 304 end with their head
abbrev pub is_bodiless : ℕ → Bool
is_bodiless status = (nat_le 100 status && nat_lt status 200) || (status == 204 || status == 304)

-- a response that ends with its head, whatever its fields say
abbrev pub has_no_body : List ℕ → ℕ → Bool
has_no_body method status = bytes_eq method (codes "HEAD") || is_bodiless status

-- an upgrade that was asked for is accepted, whatever the method
abbrev pub opens_tunnel : Bool → ℕ → Bool
opens_tunnel asked status = asked && status == 101

-- the framing of a response to that method, or none where it is refused; `asked` is whether the
-- request asked for an upgrade
unfoldable pub response_framing : List ℕ → Bool → ResponseHead → Option Framing
response_framing method asked head =
    if opens_tunnel asked head.status then Some framing.Tunnel
    else (
    if has_no_body method head.status then Some framing.Empty
    else response_table (length_said (get_all head.fields (codes "content-length")))
    (coding_said (get_all head.fields (codes "transfer-encoding"))))

-- a body that is framed so, or the refusal of its head, exactly where the table has no framing
abbrev pub IsFramedBy : Result Framing Error → Option Framing → Type 0
IsFramedBy result (Some framing) = result ≡ Ok framing
IsFramedBy result None = result ≡ Err (refused BadFraming)
