-- Host and target of a head that is sent to an upstream (RFC 9112, section 3.2; RFC 9110, section
-- 7.2).
use Rattle.std.specs.Prelude.{◌≡◌, ℕ, ◌<◌, List, [], ◌∷◌, ◌++◌, length, codes, IsUtf8, Some, None, MatchOption}
use Rattle.http_header.specs.FieldValue.{FieldValue, IsFieldValue, plain_value}
use Rattle.http_header.specs.HeaderMap.{RefusesInsert, insert}
use Rattle.http_uri.specs.Grammar.{IsAuthority}
use Rattle.http_uri.specs.Uri.{HasParts, uri_scheme, uri_data}
use Rattle.http_uri.specs.declared.Uri.{Uri}
use Rattle.relay_tasks.specs.Head.{RequestHead, target_of}
use Rattle.relay_tasks.specs.declared.Context.TheVariants as about
use Rattle.relay_authority.specs.Heads.{host_name, hosts, first_host, uri_authority_of, head_authority, HasUserinfo}
use Rattle.relay_authority.specs.Table.{Line, Outcome, Refuses, Leaves}
use Rattle.relay_authority.specs.Target.{Parts, absolute_parts}

-- the head with that field in place of all of the name
abbrev pub with_field : RequestHead → List ℕ → FieldValue → RequestHead
with_field head name value = record head { fields = insert head.fields name value }

-- the field is put, or refused where the list is full
abbrev pub PutsField : RequestHead → List ℕ → FieldValue → Outcome → Type 0
PutsField head name value outcome =
    Line (RefusesInsert head.fields name) (Refuses head about.HeadTooLong outcome)
    (Leaves (with_field head name value) outcome)

-- Host becomes the authority, and nothing else
abbrev pub TakesHost : RequestHead → List ℕ → Outcome → Type 0
TakesHost head authority outcome =
    Line (HasUserinfo authority) (Refuses head about.Userinfo outcome)
    (Line (¬ (IsFieldValue authority)) (Refuses head about.HostInvalid outcome)
    (Line (hosts head.fields ≡ authority ∷ []) (Leaves head outcome)
    (PutsField head host_name (plain_value authority) outcome)))

-- a Host is left, and without one the empty Host is put
abbrev pub KeepsHost : RequestHead → Outcome → Type 0
KeepsHost head outcome =
    MatchOption (first_host head) (PutsField head host_name (plain_value []) outcome)
    (λ _. Leaves head outcome)

-- Host is made to say the head's authority
abbrev pub SetsHost : RequestHead → Outcome → Type 0
SetsHost head outcome =
    MatchOption (head_authority head) (KeepsHost head outcome)
    (λ authority. TakesHost head authority outcome)

-- Host is put, where it can say the authority
abbrev pub AddsValue : RequestHead → List ℕ → Outcome → Type 0
AddsValue head authority outcome =
    Line (¬ (IsFieldValue authority)) (Refuses head about.HostInvalid outcome)
    (PutsField head host_name (plain_value authority) outcome)

-- the URI's authority is put, or the empty value
abbrev pub AddsUriHost : RequestHead → Outcome → Type 0
AddsUriHost head outcome =
    MatchOption (uri_authority_of head) (PutsField head host_name (plain_value []) outcome)
    (λ authority.
    AddsValue head authority outcome)

-- without a Host, the URI's authority is put
abbrev pub AddsHost : RequestHead → Outcome → Type 0
AddsHost head outcome =
    MatchOption (first_host head) (AddsUriHost head outcome) (λ _. Leaves head outcome)

-- the URI gets another authority; scheme and path stay
abbrev pub IsMoved : RequestHead → List ℕ → Uri → Type 0
IsMoved head host moved = (uri : Uri) × (head.uri ≡ Some uri)
    × HasParts moved (uri_scheme uri) (Some host) (uri_data uri)

-- the head takes that URI, which is sent as text
abbrev pub MovesUri : RequestHead → List ℕ → Outcome → Type 0
MovesUri head host outcome =
    (moved : Uri) × IsMoved head host moved × IsUtf8 (target_of moved)
    × Leaves (record head { target = target_of moved; uri = Some moved }) outcome

-- a URI with an authority follows Host
abbrev pub ReconcilesUri : RequestHead → List ℕ → Outcome → Type 0
ReconcilesUri head host outcome =
    Line (¬ (IsUtf8 head.target)) (Refuses head about.NonUtf8Reconcile outcome)
    (Line (uri_authority_of head ≡ Some host) (Leaves head outcome)
    (Line (¬ (IsAuthority host)) (Refuses head about.HostInvalid outcome)
    (MovesUri head host outcome)))

-- the absolute target at another authority
abbrev pub moved_target : Parts → List ℕ → List ℕ
moved_target parts host = parts.scheme ++ (codes "://" ++ (host ++ parts.rest))

-- an absolute target follows Host
abbrev pub ReconcilesTarget : RequestHead → Parts → List ℕ → Outcome → Type 0
ReconcilesTarget head parts host outcome =
    Line (host ≡ parts.authority) (Leaves head outcome)
    (Line (¬ (IsAuthority host)) (Refuses head about.HostInvalid outcome)
    (Line (65534 < length (moved_target parts host)) (Refuses head about.HeadGrammar outcome)
    (Leaves (record head { target = moved_target parts host; uri = None }) outcome)))

-- a head whose URI has no authority: its absolute target follows Host, and another stays
abbrev pub ReconcilesRaw : RequestHead → List ℕ → Outcome → Type 0
ReconcilesRaw head host outcome =
    MatchOption (absolute_parts head.target) (Leaves head outcome)
    (λ parts. ReconcilesTarget head parts host outcome)

-- the URI follows Host where it has an authority, else the target
abbrev pub ReconcilesWith : RequestHead → List ℕ → Outcome → Type 0
ReconcilesWith head host outcome =
    MatchOption (uri_authority_of head) (ReconcilesRaw head host outcome)
    (λ _. ReconcilesUri head host outcome)

-- a Host with userinfo is followed by nothing
abbrev pub FollowsHost : RequestHead → List ℕ → Outcome → Type 0
FollowsHost head host outcome =
    Line (HasUserinfo host) (Refuses head about.UserinfoHost outcome)
    (ReconcilesWith head host outcome)

-- URI and target are made to say what Host says
abbrev pub Reconciles : RequestHead → Outcome → Type 0
Reconciles head outcome =
    MatchOption (first_host head) (Leaves head outcome) (λ host. FollowsHost head host outcome)
