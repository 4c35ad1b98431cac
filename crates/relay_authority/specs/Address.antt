-- Path and authority that a filtered head is sent with over HTTP/2 (RFC 9113, section 8.3.1).
use Rattle.std.specs.Prelude.{◌≡◌, ◌⊎◌, ℕ, Bool, List, [], Option, Some, None, MatchOption, Ok, Err, option_map, if◌then◌else◌}
use Rattle.http_header.specs.HeaderMap.{remove}
use Rattle.relay_tasks.specs.Head.{RequestHead}
use Rattle.relay_tasks.specs.declared.Context.{Context}
use Rattle.relay_tasks.specs.declared.Context.TheVariants as about
use Rattle.relay_tasks.specs.declared.ErrorSource.TheVariants as side
use Rattle.relay_authority.specs.Heads.{host_name, hosts, first_host, uri_authority_of, or_else}
use Rattle.relay_authority.specs.Http2.{PathFor, SetsAuthority}
use Rattle.relay_authority.specs.Stage.{Stage, OnSide, blamed}
use Rattle.relay_authority.specs.Table.{Line}
use Rattle.relay_authority.specs.Target.{absolute_parts}

-- the authority of an absolute raw target, which says nothing of a custom client's head
abbrev pub target_authority : Bool → RequestHead → Option (List ℕ)
target_authority custom head =
    if custom then None else option_map (λ parts. parts.authority) (absolute_parts head.target)

-- nothing in the head says whom it is for: no Host, no URI with an authority, no such target
abbrev pub LacksAuthority : Bool → RequestHead → Type 0
LacksAuthority custom head =
    (hosts head.fields ≡ []) × (uri_authority_of head ≡ None)
    × (target_authority custom head ≡ None)

-- the head without its Host
abbrev pub without_host : RequestHead → RequestHead
without_host head = record head { fields = remove head.fields host_name }

-- the raw host: the first Host, else the authority of the target
abbrev pub raw_host : Bool → RequestHead → Option (List ℕ)
raw_host custom head = or_else (first_host head) (target_authority custom head)

-- where there is a raw host the URI is made of it and the path; a refusal is on no side
abbrev pub NamesHost : Bool → List ℕ → Option (List ℕ) → Stage
NamesHost tls path host head answer =
    MatchOption host (answer ≡ Ok head)
    (λ text. OnSide side.Unset (λ old. SetsAuthority old text tls path) head answer)

-- the target gives no path
abbrev pub LacksPath : Stage
LacksPath head answer = (why : Context) × PathFor head.target (Some why) []
    × (answer ≡ Err (blamed side.Internal why))

-- the raw host moves from Host into the URI, beside the path of the target
abbrev pub MovesHost : Bool → Bool → Stage
MovesHost custom tls head answer =
    (path : List ℕ) × PathFor head.target None path
    × NamesHost tls path (raw_host custom head) (without_host head) answer

-- whom the head is for stands in its URI, and in no Host
abbrev pub Addresses : Bool → Bool → Stage
Addresses custom tls head answer =
    Line (LacksAuthority custom head) (answer ≡ Err (blamed side.Internal about.NoAuthorityH2))
    (LacksPath head answer ⊎ MovesHost custom tls head answer)
