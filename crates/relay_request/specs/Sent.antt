-- The head that an attempt sends of the client's (RFC 9110, section 7.6; RFC 9112, sections 3.2 and
-- 6).
use Rattle.std.specs.Prelude.{◌≡◌, ◌⊎◌, Bool, true, false, not, ◌&&◌, ◌||◌, List, [], ◌∷◌, ◌++◌, Option, Some, None, Result, Ok, Err}
use Rattle.std.specs.List.{list_any}
use Rattle.relay_tasks.specs.Head.{RequestHead}
use Rattle.relay_tasks.specs.Error.{new_error}
use Rattle.relay_tasks.specs.declared.Context.TheVariants.{BadFraming}
use Rattle.relay_tasks.specs.declared.Error.{Error}
use Rattle.relay_tasks.specs.declared.ErrorSource.{ErrorSource}
use Rattle.relay_tasks.specs.declared.ErrorSource.TheVariants.{Internal, Upstream}
use Rattle.relay_tasks.specs.declared.ErrorType.TheVariants as kind
use Rattle.relay_tasks.specs.Hooks.{same_hook}
use Rattle.relay_tasks.specs.declared.hook.Hook.{Hook}
use Rattle.relay_tasks.specs.declared.hook.Hook.TheVariants as hook
use Rattle.relay_tasks.specs.declared.log.Item.TheVariants as item
use Rattle.relay_tasks.specs.declared.log.LogEntry.{LogEntry}
use Rattle.relay_links.specs.Link.{LinkStart}
use Rattle.relay_connector.specs.Upstream.{SpeaksBytes}
use Rattle.relay_authority.specs.Upstream.{ReadyHead, SentHead}
use Rattle.relay_authority.specs.declared.upstream.Client.{Client}
use Rattle.relay_authority.specs.declared.upstream.Upstream.TheVariants as over
use Rattle.relay_h1.specs.Framing.{request_framing}
use Rattle.relay_h1.specs.Verdict.{refused_from}
use Rattle.relay_h1.specs.declared.framing.Framing.{Framing}
use Rattle.relay_opening.specs.Told.{head_behind}
use Rattle.relay_session.specs.Front.{ends_with_head}
use Rattle.relay_session.specs.Reading.{is_body_empty}
use Rattle.relay_session.specs.declared.session.HttpSession.{HttpSession}

-- a body of that framing is not empty: its head did not end it
abbrev pub has_body : Option Framing → Bool
has_body None = false
has_body (Some framing) = not (ends_with_head framing)

-- the client of a session over HTTP/1
abbrev pub client_in : HttpSession → Client
client_in session = record { custom = false; has_body = not (is_body_empty session.reading) }

-- the client that sent that head over HTTP/1
abbrev pub client_of : RequestHead → Client
client_of head = record { custom = false; has_body = has_body (request_framing head) }

-- the error of a head whose body has no framing
abbrev pub unframed : Error
unframed = refused_from Internal BadFraming

-- what the filter left is made as it is sent, and its body has no framing; `asked` is the client's
-- own head
pub record SettlesUnframed (client : Client) (asked filtered : RequestHead) : Type 0 where
  pub sent : RequestHead
  pub settles : SentHead over.H1 client asked filtered (Ok sent)
  pub no_framing : request_framing sent ≡ None

-- what the filter left is made as it is sent, where its body is to have a framing: one without is
-- refused
abbrev pub SettlesFramed : Client → RequestHead → RequestHead → Result RequestHead Error → Type 0
SettlesFramed client asked filtered (Ok sent) =
    SentHead over.H1 client asked filtered (Ok sent)
    × ((framing : Framing) × (request_framing sent ≡ Some framing))
SettlesFramed client asked filtered (Err e) =
    SentHead over.H1 client asked filtered (Err e)
    ⊎ (SettlesUnframed client asked filtered × (e ≡ unframed))

-- ---- by the calls of hooks

-- the entry is one of that hook
abbrev pub is_of : Hook → LogEntry → Bool
is_of which e = same_hook which e.hook

-- the last of these calls is one of that hook
abbrev pub ends_at : Hook → List LogEntry → Bool
ends_at which [] = false
ends_at which (e ∷ []) = is_of which e
ends_at which (e ∷ f ∷ es) = ends_at which (f ∷ es)

-- these are calls alone in which the error of an attempt was treated
abbrev pub only_treats : List LogEntry → Bool
only_treats [] = true
only_treats (e ∷ es) = is_of hook.ErrorWhileProxy e && only_treats es

-- whether the error of an attempt was treated, behind which no other attempt has followed: such a
-- call leaves one, and where another attempt follows it is asked for its warning
abbrev pub leaves_treated : Bool → LogEntry → Bool
leaves_treated left e =
    is_of hook.ErrorWhileProxy e || (left && not (is_of hook.SuppressProxyWarnLog e))

abbrev pub treated_from : Bool → List LogEntry → Bool
treated_from left [] = left
treated_from left (e ∷ es) = treated_from (leaves_treated left e) es

-- these calls leave none
abbrev pub IsUntreated : List LogEntry → Type 0
IsUntreated called = treated_from false called ≡ false

-- the last of these calls in which the error of an attempt was treated was told the one error, and
-- answered the other
pub record IsTreated (called : List LogEntry) (raised treated : Error) : Type 0 where
  pub before : List LogEntry
  pub e : LogEntry
  pub after : List LogEntry
  pub called_are : called ≡ before ++ e ∷ after
  pub is_last : list_any (is_of hook.ErrorWhileProxy) after ≡ false
  pub is_treatment : e.hook ≡ hook.ErrorWhileProxy
  pub told : e.input ≡ item.Failure raised
  pub answered : e.output ≡ item.Failure treated

-- the first of these calls of the end of a request is one in which that error was answered
pub record IsAnswered (closed : List LogEntry) (e : Error) : Type 0 where
  pub first : LogEntry
  pub rest : List LogEntry
  pub closed_are : closed ≡ first ∷ rest
  pub is_answer : first.hook ≡ hook.FailToProxy
  pub told : first.input ≡ item.Failure e

-- the last of these calls of the filter of the head that is sent was given the client's head, made
-- ready as hooks had left it before that call, and it left this one
pub record Filters (called : List LogEntry) (head filtered : RequestHead) : Type 0 where
  pub before : List LogEntry
  pub e : LogEntry
  pub after : List LogEntry
  pub called_are : called ≡ before ++ e ∷ after
  pub is_last : list_any (is_of hook.UpstreamRequestFilter) after ≡ false
  pub is_filter : e.hook ≡ hook.UpstreamRequestFilter
  pub ready : RequestHead
  pub readies : ReadyHead over.H1 false (head_behind head before) (Ok ready)
  pub given : e.input ≡ item.Request ready
  pub left : e.output ≡ item.Request filtered
  pub passes : e.error ≡ None

-- the client's own head, as hooks left it up to that call
abbrev pub asked_in : {called : List LogEntry} {head filtered : RequestHead}
    → Filters called head filtered → RequestHead
asked_in {head = head} f = head_behind head (f.before ++ f.e ∷ [])

-- the head that is sent upstream of a client's: filtered, and then made as it is sent
pub record Sends (called : List LogEntry) (head sent : RequestHead) : Type 0 where
  pub filtered : RequestHead
  pub filters : Filters called head filtered
  pub settles : SettlesFramed (client_of head) (asked_in filters) filtered (Ok sent)

-- the last of these calls, but for the treatment of its error, is one of that hook, and failed with
-- that error
pub record FailsAt (which : Hook) (called : List LogEntry) (e : Error) : Type 0 where
  pub before : List LogEntry
  pub last : LogEntry
  pub after : List LogEntry
  pub called_are : called ≡ before ++ last ∷ after
  pub treats : only_treats after ≡ true
  pub is_of_it : last.hook ≡ which
  pub error : last.error ≡ Some e

-- the error of a request that is not relayed
abbrev pub unrelayed : ErrorSource → Error
unrelayed side = new_error (kind.Custom 1) side

-- why an attempt that has a link sends no head, and whether that link is kept: the application
-- failed as it was told of the link; the link carries messages, over which nothing is relayed yet;
-- the filter failed; what it left is refused; or what was kept of the body did not pass one of its
-- filters, the application's or the modules'
pub data RefusesToSend (called : List LogEntry) (start : LinkStart) (head : RequestHead)
    (keep : Bool) (e : Error) : Type 0 where
  untold : FailsAt hook.ConnectedToUpstream called e → keep ≡ false
      → RefusesToSend called start head keep e
  unspoken : ¬ (SpeaksBytes start) → e ≡ unrelayed Upstream → keep ≡ false
      → RefusesToSend called start head keep e
  unfiltered : SpeaksBytes start → FailsAt hook.UpstreamRequestFilter called e → keep ≡ true
      → RefusesToSend called start head keep e
  unsettled : SpeaksBytes start → (filtered : RequestHead) → (filters : Filters called head filtered)
      → SettlesFramed (client_of head) (asked_in filters) filtered (Err e) → keep ≡ true
      → RefusesToSend called start head keep e
  unpassed : SpeaksBytes start
      → FailsAt hook.RequestBodyFilter called e ⊎ FailsAt hook.ModuleRequestBody called e
      → keep ≡ true → RefusesToSend called start head keep e
