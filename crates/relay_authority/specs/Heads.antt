-- What a request head says of its authority (RFC 9110, section 7.2; RFC 9112, section 3.2).
use Rattle.std.specs.Prelude.{ℕ, ◌==◌, List, map, codes, slice_get, IsTrue, Option, Some, None, option_map, option_and_then}
use Rattle.std.specs.List.{list_any}
use Rattle.http_header.specs.HeaderMap.{get_all}
use Rattle.http_uri.specs.Uri.{uri_authority}
use Rattle.relay_tasks.specs.Head.{RequestHead, Fields}
use Rattle.relay_authority.specs.Target.{absolute_parts}

-- the name of the field
abbrev pub host_name : List ℕ
host_name = codes "host"

-- the values of all Host fields, in order
abbrev pub hosts : Fields → List (List ℕ)
hosts fields = map (λ value. value.bytes) (get_all fields host_name)

-- the value of the first Host field
abbrev pub first_host : RequestHead → Option (List ℕ)
first_host head = slice_get (hosts head.fields) 0

-- the authority of the head's URI
abbrev pub uri_authority_of : RequestHead → Option (List ℕ)
uri_authority_of head = option_and_then uri_authority head.uri

-- the first of two, if it is there
abbrev pub or_else : Option (List ℕ) → Option (List ℕ) → Option (List ℕ)
or_else (Some first) second = Some first
or_else None second = second

-- the head's authority: that of its URI, else that of an absolute raw target
abbrev pub head_authority : RequestHead → Option (List ℕ)
head_authority head =
    or_else (uri_authority_of head)
    (option_map (λ parts. parts.authority) (absolute_parts head.target))

-- there is an `@` in it, so it has userinfo
abbrev pub HasUserinfo : List ℕ → Type 0
HasUserinfo authority = IsTrue (list_any (λ b. b == 64) authority)
