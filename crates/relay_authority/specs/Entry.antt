-- Which request heads are refused for their authority (RFC 9112, section 3.2; RFC 9110, section
-- 4.2.4).
use Rattle.std.specs.Prelude.{◌≡◌, ℕ, ◌<◌, List, [], length, IsTrue, IsSomeAnd, Option, Some, None}
use Rattle.http.specs.declared.version.TheConstants.Version.{HTTP_11}
use Rattle.http_uri.specs.Grammar.{IsAuthority}
use Rattle.relay_tasks.specs.Head.{RequestHead}
use Rattle.relay_tasks.specs.declared.Context.{Context}
use Rattle.relay_tasks.specs.declared.Context.TheVariants as about
use Rattle.relay_authority.specs.Heads.{hosts, first_host, head_authority, HasUserinfo}
use Rattle.relay_authority.specs.Table.{Line}
use Rattle.relay_authority.specs.Target.{is_ambiguous, lower}

-- there is more than one Host field
abbrev pub HasManyHosts : RequestHead → Type 0
HasManyHosts head = 1 < length (hosts head.fields)

-- Host has userinfo
abbrev pub HostHasUserinfo : RequestHead → Type 0
HostHasUserinfo head = IsSomeAnd (first_host head) HasUserinfo

-- Host is not empty, and no authority
abbrev pub HostIsNoAuthority : RequestHead → Type 0
HostIsNoAuthority head =
    IsSomeAnd (first_host head) (λ host. (0 < length host) × ¬ (IsAuthority host))

-- the head's authority has userinfo
abbrev pub AuthorityHasUserinfo : RequestHead → Type 0
AuthorityHasUserinfo head = IsSomeAnd (head_authority head) HasUserinfo

-- there is a Host that is not that authority, whatever their case
abbrev pub HostDisagreesWith : RequestHead → List ℕ → Type 0
HostDisagreesWith head authority =
    IsSomeAnd (first_host head) (λ host. ¬ (lower authority ≡ lower host))

-- the head's authority and Host are both there, and are not equal, whatever their case
abbrev pub HostDisagrees : RequestHead → Type 0
HostDisagrees head = IsSomeAnd (head_authority head) (HostDisagreesWith head)

-- the head is refused for its target with that context, or accepted
abbrev pub ValidatedTarget : RequestHead → Option Context → Type 0
ValidatedTarget head answer =
    Line (IsTrue (is_ambiguous head.target)) (answer ≡ Some about.Ambiguous)
    (Line (AuthorityHasUserinfo head) (answer ≡ Some about.Userinfo)
    (Line (HostDisagrees head) (answer ≡ Some about.HostMismatch)
    (answer ≡ None)))

-- the head is refused with that context, first for its Host, or accepted
abbrev pub Validated : RequestHead → Option Context → Type 0
Validated head answer =
    Line (HasManyHosts head) (answer ≡ Some about.HostCount)
    (Line (HostHasUserinfo head) (answer ≡ Some about.UserinfoHost)
    (Line (HostIsNoAuthority head) (answer ≡ Some about.HostInvalid)
    (ValidatedTarget head answer)))

-- a head of HTTP/1.1 that has no Host
abbrev pub LacksHost : RequestHead → Type 0
LacksHost head = (head.version ≡ HTTP_11) × (hosts head.fields ≡ [])

-- what an HTTP/1 client's head is held to when it comes in
abbrev pub Entered : RequestHead → Option Context → Type 0
Entered head answer = Line (LacksHost head) (answer ≡ Some about.HostCount) (Validated head answer)
