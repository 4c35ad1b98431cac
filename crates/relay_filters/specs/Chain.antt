-- The filters that a task of a response passes, read off the log: which calls are made for it, each
-- with what the one before it left, and what goes on (RFC 9110, section 15.2.2; RFC 9112, section
-- 6).
use Rattle.std.specs.Prelude.{◌≡◌, ◌⊎◌, ℕ, Bool, true, false, ◌==◌, if◌then◌else◌, List, [], ◌∷◌, ◌++◌, Option, Some, None, codes}
use Rattle.http_header.specs.HeaderMap.{RefusesInsert}
use Rattle.relay_tasks.specs.Head.{ResponseHead, Fields}
use Rattle.relay_tasks.specs.declared.context.Context.TheVariants.{Mismatch101, HeadTooLong}
use Rattle.relay_tasks.specs.declared.error.Error.{Error}
use Rattle.relay_tasks.specs.declared.error.ErrorSource.TheVariants.{Upstream, Internal}
use Rattle.relay_tasks.specs.declared.hook.Hook.{Hook}
use Rattle.relay_tasks.specs.declared.hook.Hook.TheVariants as hook
use Rattle.relay_tasks.specs.declared.log.Item.{Item}
use Rattle.relay_tasks.specs.declared.log.Item.TheVariants as item
use Rattle.relay_tasks.specs.declared.log.LogEntry.{LogEntry}
use Rattle.relay_tasks.specs.declared.task.HttpTask.{HttpTask}
use Rattle.relay_tasks.specs.declared.task.HttpTask.TheVariants as task
use Rattle.relay_h1.specs.ClientHead.{lacks_framing, chunked_head}
use Rattle.relay_h1.specs.Verdict.{refused_from}
use Rattle.relay_modules.specs.Module.{piece_or}
use Rattle.relay_modules.specs.Filtering.{ended_by}

-- ---- one call

-- that hook was called with that
pub record Gave (which : Hook) (input : Item) (e : LogEntry) : Type 0 where
  pub is_hook : e.hook ≡ which
  pub was : e.input ≡ input

-- that hook was called with that, left this, and answered no error
pub record Called (which : Hook) (input output : Item) (e : LogEntry) : Type 0 where
  pub is_hook : e.hook ≡ which
  pub was : e.input ≡ input
  pub left : e.output ≡ output
  pub ok : e.error ≡ None

-- ---- a list

-- each of the list passes a chain of calls of its own, one behind the other, and its outcome goes
-- on
abbrev pub AllPass : {X Y : Type 0} → (X → List LogEntry → Y → Type 0) → List LogEntry → List X
    → List Y → Type 0
AllPass chain es [] [] = es ≡ []
AllPass chain es [] (y ∷ ys) = ⊥
AllPass chain es (x ∷ xs) [] = ⊥
AllPass chain es (x ∷ xs) (y ∷ ys) =
    (own : List LogEntry) × (rest : List LogEntry) × (es ≡ own ++ rest)
    × chain x own y × AllPass chain rest xs ys

-- a list of which not all passed: its front did, and behind that these calls were made for the
-- next, or none is left
pub record FrontPasses {X Y : Type 0} (chain : X → List LogEntry → Y → Type 0)
    (feeds : X → List LogEntry → Type 0) (xs : List X) (es : List LogEntry) : Type 0 where
  pub front : List X
  pub at : X
  pub behind : List X
  pub are : xs ≡ front ++ at ∷ behind
  pub made : List Y
  pub calls : List LogEntry
  pub last : List LogEntry
  pub parts : es ≡ calls ++ last
  pub pass : AllPass chain calls front made
  pub fed : feeds at last

-- ---- heads

-- the method of a request that is a HEAD, and of one that is none: all else of it is one here
abbrev pub method_of : Bool → List ℕ
method_of true = codes "HEAD"
method_of false = codes "GET"

-- a head as the filter of responses is given it: where nothing says where its body ends, it is
-- chunked
abbrev pub framed : Bool → Bool → ResponseHead → ResponseHead
framed of_head end head =
    if lacks_framing (method_of of_head) end head then chunked_head head else head

-- the head switches protocols
abbrev pub is_switch : ResponseHead → Bool
is_switch head = head.status == 101

-- ---- the filters of the application

-- a head passes the filter of the upstream, the check and the framing
pub record UpstreamHead (of_head : Bool) (head : ResponseHead) (end : Bool) (es : List LogEntry)
    (left : ResponseHead) : Type 0 where
  pub first : ResponseHead
  pub u : LogEntry
  pub calls : es ≡ u ∷ []
  pub upstream : Called hook.UpstreamResponseFilter (item.Response head end)
      (item.Response first end) u
  pub first_passes : is_switch first ≡ false
  pub is_framed : left ≡ framed of_head end first

-- a head passes: the filter of the upstream, the check, the framing, the filter of the response,
-- the check
pub record HeadChain (of_head : Bool) (head : ResponseHead) (end : Bool) (es : List LogEntry)
    (last : ResponseHead) : Type 0 where
  pub first : ResponseHead
  pub u : LogEntry
  pub r : LogEntry
  pub calls : es ≡ u ∷ r ∷ []
  pub upstream : Called hook.UpstreamResponseFilter (item.Response head end)
      (item.Response first end) u
  pub first_passes : is_switch first ≡ false
  pub response : Called hook.ResponseFilter (item.Response (framed of_head end first) end)
      (item.Response last end) r
  pub last_passes : is_switch last ≡ false

-- the calls so far for a head
abbrev pub HeadFeeds : Bool → ResponseHead → Bool → List LogEntry → Type 0
HeadFeeds of_head head end [] = Unit {0}
HeadFeeds of_head head end (u ∷ []) =
    Gave hook.UpstreamResponseFilter (item.Response head end) u
HeadFeeds of_head head end (u ∷ r ∷ []) =
    (first : ResponseHead) × Called hook.UpstreamResponseFilter (item.Response head end)
    (item.Response first end) u × (is_switch first ≡ false)
    × Gave hook.ResponseFilter (item.Response (framed of_head end first) end) r
HeadFeeds of_head head end (u ∷ r ∷ e ∷ es) = ⊥

-- a piece passes: the filter of the upstream, the filter of the response
pub record BodyChain (bytes : Option (List ℕ)) (end : Bool) (es : List LogEntry)
    (last : Option (List ℕ)) : Type 0 where
  pub mid : Option (List ℕ)
  pub u : LogEntry
  pub r : LogEntry
  pub calls : es ≡ u ∷ r ∷ []
  pub upstream : Called hook.UpstreamResponseBodyFilter (item.Piece bytes end)
      (item.Piece mid end) u
  pub response : Called hook.ResponseBodyFilter (item.Piece mid end) (item.Piece last end) r

-- the calls so far for a piece
abbrev pub BodyFeeds : Option (List ℕ) → Bool → List LogEntry → Type 0
BodyFeeds bytes end [] = Unit {0}
BodyFeeds bytes end (u ∷ []) = Gave hook.UpstreamResponseBodyFilter (item.Piece bytes end) u
BodyFeeds bytes end (u ∷ r ∷ []) =
    (mid : Option (List ℕ)) × Called hook.UpstreamResponseBodyFilter (item.Piece bytes end)
    (item.Piece mid end) u × Gave hook.ResponseBodyFilter (item.Piece mid end) r
BodyFeeds bytes end (u ∷ r ∷ e ∷ es) = ⊥

-- one call passes trailer fields
pub record TrailerChain (fields : Fields) (es : List LogEntry) (last : Fields) : Type 0 where
  pub u : LogEntry
  pub calls : es ≡ u ∷ []
  pub upstream : Called hook.UpstreamResponseTrailerFilter (item.Trailers (Some fields))
      (item.Trailers (Some last)) u

-- the calls so far for trailer fields
abbrev pub TrailerFeeds : Fields → List LogEntry → Type 0
TrailerFeeds fields [] = Unit {0}
TrailerFeeds fields (u ∷ []) =
    Gave hook.UpstreamResponseTrailerFilter (item.Trailers (Some fields)) u
TrailerFeeds fields (u ∷ e ∷ es) = ⊥

-- a task passes the filters of the application by these calls, as that task: the end of a response
-- and a failure pass none
abbrev pub TaskChain : Bool → HttpTask → List LogEntry → HttpTask → Type 0
TaskChain of_head (task.Header head end) es out =
    (last : ResponseHead) × HeadChain of_head head end es last × (out ≡ task.Header last end)
TaskChain of_head (task.Body bytes end) es out =
    (last : Option (List ℕ)) × BodyChain bytes end es last × (out ≡ task.Body last end)
TaskChain of_head (task.UpgradedBody bytes end) es out =
    (last : Option (List ℕ)) × BodyChain bytes end es last × (out ≡ task.UpgradedBody last end)
TaskChain of_head (task.Trailer None) es out = (es ≡ []) × (out ≡ task.Trailer None)
TaskChain of_head (task.Trailer (Some fields)) es out =
    (last : Fields) × TrailerChain fields es last × (out ≡ task.Trailer (Some last))
TaskChain of_head task.Done es out = (es ≡ []) × (out ≡ task.Done)
TaskChain of_head (task.Failed error) es out = (es ≡ []) × (out ≡ task.Failed error)

-- the calls so far for a task
abbrev pub TaskFeeds : Bool → HttpTask → List LogEntry → Type 0
TaskFeeds of_head (task.Header head end) es = HeadFeeds of_head head end es
TaskFeeds of_head (task.Body bytes end) es = BodyFeeds bytes end es
TaskFeeds of_head (task.UpgradedBody bytes end) es = BodyFeeds bytes end es
TaskFeeds of_head (task.Trailer None) es = es ≡ []
TaskFeeds of_head (task.Trailer (Some fields)) es = TrailerFeeds fields es
TaskFeeds of_head task.Done es = es ≡ []
TaskFeeds of_head (task.Failed error) es = es ≡ []

-- ---- the filters of the modules

-- one call passes what it is given
pub record OneCall (which : Hook) (input output : Item) (es : List LogEntry) : Type 0 where
  pub m : LogEntry
  pub calls : es ≡ m ∷ []
  pub called : Called which input output m

-- that call was made, or none yet
abbrev pub OneFeeds : Hook → Item → List LogEntry → Type 0
OneFeeds which input [] = Unit {0}
OneFeeds which input (m ∷ []) = Gave which input m
OneFeeds which input (m ∷ e ∷ es) = ⊥

-- a task passes the filters of the modules by that call, as that task: bytes that the filter of
-- trailers or of the end answers are the last piece; a failure passes none
abbrev pub ModuleChain : HttpTask → List LogEntry → HttpTask → Type 0
ModuleChain (task.Header head end) es out =
    (last : ResponseHead) × OneCall hook.ModuleResponseHeader (item.Response head end)
    (item.Response last end) es × (is_switch last ≡ false) × (out ≡ task.Header last end)
ModuleChain (task.Body bytes end) es out =
    (last : Option (List ℕ)) × OneCall hook.ModuleResponseBody (item.Piece bytes end)
    (item.Piece last end) es × (out ≡ task.Body last end)
ModuleChain (task.UpgradedBody bytes end) es out =
    (last : Option (List ℕ)) × OneCall hook.ModuleResponseBody (item.Piece bytes end)
    (item.Piece last end) es × (out ≡ task.UpgradedBody last end)
ModuleChain (task.Trailer fields) es out =
    (last : Option Fields) × (answer : Option (List ℕ))
    × OneCall hook.ModuleResponseTrailer (item.Trailers fields)
    (piece_or answer (item.Trailers last)) es × (out ≡ ended_by answer (task.Trailer last))
ModuleChain task.Done es out =
    (answer : Option (List ℕ)) × OneCall hook.ModuleResponseDone item.Nothing
    (piece_or answer item.Nothing) es × (out ≡ ended_by answer task.Done)
ModuleChain (task.Failed error) es out = (es ≡ []) × (out ≡ task.Failed error)

-- the calls so far for a task
abbrev pub ModuleFeeds : HttpTask → List LogEntry → Type 0
ModuleFeeds (task.Header head end) es =
    OneFeeds hook.ModuleResponseHeader (item.Response head end) es
ModuleFeeds (task.Body bytes end) es = OneFeeds hook.ModuleResponseBody (item.Piece bytes end) es
ModuleFeeds (task.UpgradedBody bytes end) es =
    OneFeeds hook.ModuleResponseBody (item.Piece bytes end) es
ModuleFeeds (task.Trailer fields) es =
    OneFeeds hook.ModuleResponseTrailer (item.Trailers fields) es
ModuleFeeds task.Done es = OneFeeds hook.ModuleResponseDone item.Nothing es
ModuleFeeds (task.Failed error) es = es ≡ []

-- a task goes on as it is, by no call
abbrev pub PassesBy : HttpTask → List LogEntry → HttpTask → Type 0
PassesBy task es out = (es ≡ []) × (out ≡ task)

-- a task passes the filters of the modules where modules stand, and else goes on as it is
abbrev pub PassesModules : Bool → HttpTask → List LogEntry → HttpTask → Type 0
PassesModules true = ModuleChain
PassesModules false = PassesBy

-- a task of one of several batches passed the modules, where they stood for each of these; else it
-- passed them, or went on as it is
abbrev pub PassedModules : Bool → HttpTask → List LogEntry → HttpTask → Type 0
PassedModules true = ModuleChain
PassedModules false = λ task es out. ModuleChain task es out ⊎ PassesBy task es out

-- ---- a refusal

-- the source of the refusal of a head that a filter left as one that switches protocols: each head
-- filter is checked, and no upgrade is asked for
abbrev pub checked : Hook → Item → Option Error
checked hook.UpstreamResponseFilter (item.Response head end) =
    if is_switch head then Some (refused_from Upstream Mismatch101) else None
checked hook.ResponseFilter (item.Response head end) =
    if is_switch head then Some (refused_from Internal Mismatch101) else None
checked hook.ModuleResponseHeader (item.Response head end) =
    if is_switch head then Some (refused_from Internal Mismatch101) else None
checked other left = None

-- why a response does not go on behind these calls: the last answered that error; or it left a head
-- that is refused for switching protocols; or the filter of the upstream left one that is to be
-- chunked, and has no room for the field that says so
pub data Refuses (of_head : Bool) (e : Error) (es : List LogEntry) : Type 0 where
  by_hook : (front : List LogEntry) (last : LogEntry) → es ≡ front ++ last ∷ []
      → last.error ≡ Some e → Refuses of_head e es
  by_check : (front : List LogEntry) (last : LogEntry) → es ≡ front ++ last ∷ []
      → last.error ≡ None → checked last.hook last.output ≡ Some e → Refuses of_head e es
  by_room : (front : List LogEntry) (last : LogEntry) (head : ResponseHead) (end : Bool)
      → es ≡ front ++ last ∷ []
      → Called hook.UpstreamResponseFilter last.input (item.Response head end) last
      → lacks_framing (method_of of_head) end head ≡ true
      → RefusesInsert head.fields (codes "transfer-encoding")
      → e ≡ refused_from Internal HeadTooLong → Refuses of_head e es
