-- The head that an attempt sends: which edits, in which order (RFC 9112, section 3.2; RFC 9110,
-- section 7.6).
use Rattle.std.specs.Prelude.{◌≡◌, ◌⊎◌, Bool, codes, IsTrue, IsSome, IsUtf8, Some, None, Result, MatchResult}
use Rattle.http.specs.declared.Version.{Version}
use Rattle.http.specs.declared.version.TheConstants.Version.{HTTP_11, HTTP_2, HTTP_3}
use Rattle.http_header.specs.HeaderMap.{remove}
use Rattle.relay_tasks.specs.Error.{refused}
use Rattle.relay_tasks.specs.Head.{Fields, RequestHead}
use Rattle.relay_tasks.specs.declared.Context.{Context}
use Rattle.relay_tasks.specs.declared.Context.TheVariants as about
use Rattle.relay_tasks.specs.declared.Fail.{Fail}
use Rattle.relay_tasks.specs.declared.Fail.TheVariants as fail
use Rattle.relay_authority.specs.Entry.{Validated}
use Rattle.relay_authority.specs.Heads.{head_authority}
use Rattle.relay_authority.specs.Sent.{AddsHost, Reconciles, SetsHost}
use Rattle.relay_authority.specs.Stage.{Step}
use Rattle.relay_authority.specs.Table.{Leaves, Line, Outcome, Refuses}

-- one step and then another: the first refusal ends both
abbrev pub Then : Step → Step → Step
Then first second head outcome =
    (IsSome outcome.refusal × first head outcome)
    ⊎ ((middle : RequestHead) × first head (record { refusal = None; head = middle })
    × second middle outcome)

-- a step that only judges leaves the head
abbrev pub Validates : Step
Validates head outcome = Validated head outcome.refusal × (outcome.head ≡ head)

-- Host is made to say the authority, where the client had a Host or there is an authority
abbrev pub SetsHostWhere : Bool → Step
SetsHostWhere had_host head outcome =
    Line (IsTrue had_host ⊎ IsSome (head_authority head)) (SetsHost head outcome)
    (Leaves head outcome)

-- the head speaks HTTP/1.1; one of a custom client that spoke HTTP/2 gets a Host
abbrev pub ReadiesH1 : Bool → Step
ReadiesH1 custom head outcome =
    Line (IsTrue custom × (head.version ≡ HTTP_2))
    (AddsHost (record head { version = HTTP_11 }) outcome)
    (Leaves (record head { version = HTTP_11 }) outcome)

-- Host, URI and target are made to say one authority
abbrev pub SettlesH1 : Bool → Step
SettlesH1 had_host = Then Reconciles (Then (SetsHostWhere had_host) Validates)

-- the fields that concern one connection of HTTP/1, taken out
abbrev pub without_connection : Fields → Fields
without_connection fields =
    remove (remove (remove (remove (remove fields
    (codes "transfer-encoding")) (codes "connection")) (codes "upgrade")) (codes "keep-alive"))
    (codes "proxy-connection")

-- a version below HTTP/2
abbrev pub IsBelowH2 : Version → Type 0
IsBelowH2 version = ¬ (version ≡ HTTP_2) × ¬ (version ≡ HTTP_3)

-- those fields are gone where the head is below HTTP/2, or of a custom client
abbrev pub StripsWhere : Bool → RequestHead → RequestHead → Type 0
StripsWhere custom head stripped =
    Line (IsTrue custom ⊎ IsBelowH2 head.version)
    (stripped ≡ record head { fields = without_connection head.fields }) (stripped ≡ head)

-- the head speaks HTTP/2, and nothing in it concerns a connection of HTTP/1
abbrev pub ReadiesH2 : Bool → Step
ReadiesH2 custom head outcome =
    Line (¬ (IsUtf8 head.target)) (Refuses head about.NonUtf8H2 outcome)
    ((stripped : RequestHead) × StripsWhere custom head stripped
    × Leaves (record stripped { version = HTTP_2 }) outcome)

-- URI or target follow Host, and all say one authority
abbrev pub SettlesH2 : Step
SettlesH2 = Then Reconciles Validates

-- a step that was not done: a refusal as it says, or out of memory
abbrev pub FailsToFinish : (Outcome → Type 0) → RequestHead → Fail → Type 0
FailsToFinish table new fail.OutOfMemory = Unit {0}
FailsToFinish table new (fail.Error error) =
    (why : Context) × (error ≡ refused why) × table (record { refusal = Some why; head = new })

-- a step over a head that is edited in place: the head is spoilt where memory is wanting
abbrev pub Finishes : (Outcome → Type 0) → RequestHead → Result (Unit {0}) Fail → Type 0
Finishes table new result =
    MatchResult result (λ _. table (record { refusal = None; head = new }))
    (FailsToFinish table new)
