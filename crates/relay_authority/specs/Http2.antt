-- Path and authority of a request that is sent over HTTP/2 (RFC 9113, section 8.3.1).
use Rattle.std.specs.Prelude.{◌≡◌, ℕ, Bool, ◌==◌, ◌||◌, List, ◌∷◌, [], length, slice_index, codes, bytes_eq, IsTrue, IsUtf8, Option, Some, None, MatchOption, Result, MatchResult, if◌then◌else◌}
use Rattle.http_uri.specs.Grammar.{IsAuthority, IsPathInput, without_fragment}
use Rattle.http_uri.specs.Uri.{HasParts}
use Rattle.http_uri.specs.declared.Uri.{Uri}
use Rattle.relay_tasks.specs.Error.{refused}
use Rattle.relay_tasks.specs.Head.{RequestHead, target_of}
use Rattle.relay_tasks.specs.declared.Context.{Context}
use Rattle.relay_tasks.specs.declared.Context.TheVariants as about
use Rattle.relay_tasks.specs.declared.Fail.{Fail}
use Rattle.relay_tasks.specs.declared.Fail.TheVariants as fail
use Rattle.relay_authority.specs.Heads.{HasUserinfo}
use Rattle.relay_authority.specs.Table.{Line, Outcome, Refuses, Leaves}
use Rattle.relay_authority.specs.Target.{absolute_parts, is_ambiguous}

-- the origin form, or `*`
abbrev pub is_origin : List ℕ → Bool
is_origin target = (slice_index target 0 == 47) || bytes_eq target (codes "*")

-- the path and query behind an authority, with a `/` in front where it has none
abbrev pub path_of_rest : List ℕ → List ℕ
path_of_rest rest =
    if length rest == 0 then codes "/" else (if slice_index rest 0 == 63 then 47 ∷ rest else rest)

-- the path as `http_uri` takes it, without a fragment
abbrev pub TakenAs : List ℕ → Option Context → List ℕ → Type 0
TakenAs text refusal path =
    Line (¬ (IsPathInput text)) (refusal ≡ Some about.PathInvalid)
    ((refusal ≡ None) × (path ≡ without_fragment text))

-- the path and query of a target that is sent over HTTP/2
abbrev pub PathFor : List ℕ → Option Context → List ℕ → Type 0
PathFor target refusal path =
    Line (¬ (IsUtf8 target)) (refusal ≡ Some about.NonUtf8H2)
    (Line (IsTrue (is_origin target)) (TakenAs target refusal path)
    (Line (IsTrue (is_ambiguous target)) (refusal ≡ Some about.Ambiguous)
    (MatchOption (absolute_parts target) (TakenAs (codes "/") refusal path) (λ parts.
    TakenAs (path_of_rest parts.rest) refusal path))))

-- a failure to give a path: its refusal, or out of memory
abbrev pub FailsTo : (Option Context → List ℕ → Type 0) → Fail → Type 0
FailsTo table fail.OutOfMemory = Unit {0}
FailsTo table (fail.Error error) = (why : Context) × (error ≡ refused why) × table (Some why) []

-- the path, or the refusal, is what the table says
abbrev pub Answers : (Option Context → List ℕ → Type 0) → Result (List ℕ) Fail → Type 0
Answers table result = MatchResult result (table None) (FailsTo table)

-- the scheme by whether the peer speaks TLS
abbrev pub scheme_by : Bool → List ℕ
scheme_by tls = if tls then codes "https" else codes "http"

-- the URI is made of a scheme, the raw host and the path
abbrev pub SetsAuthority : RequestHead → List ℕ → Bool → List ℕ → Outcome → Type 0
SetsAuthority head host tls path outcome =
    Line (¬ (IsAuthority host)) (Refuses head about.HostInvalid outcome)
    (Line (HasUserinfo host) (Refuses head about.UserinfoHost outcome)
    ((uri : Uri) × HasParts uri (Some (scheme_by tls)) (Some host) path
    × Leaves (record head { target = target_of uri; uri = Some uri }) outcome))
