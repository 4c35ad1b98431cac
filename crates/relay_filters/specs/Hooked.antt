-- What passed through a side behind filters: what its inner side put and was given, and by the log
-- what the filters let pass and made of it.
use Rattle.std.specs.Prelude.{◌≡◌, ℕ, All, Bool, true, false, ◌||◌, if◌then◌else◌, ◌⊎◌, List, [], ◌∷◌, ◌++◌, drop, length, Option, Some, None, is_some, option_map, unwrap_or, IsSome, Result, Ok, Err}
use Rattle.relay_tasks.specs.declared.error.Error.{Error}
use Rattle.relay_tasks.specs.declared.error.Fail.{Fail}
use Rattle.relay_tasks.specs.declared.error.Fail.TheVariants as fail
use Rattle.relay_tasks.specs.declared.log.LogEntry.{LogEntry}
use Rattle.relay_tasks.specs.declared.task.HttpTask.{HttpTask}
use Rattle.relay_tasks.specs.declared.task.HttpTask.TheVariants as task
use Rattle.relay_tasks.specs.Head.{RequestHead, new_request}
use Rattle.relay_links.specs.Link.{LinkState}
use Rattle.relay_session.specs.Reading.{head_of}
use Rattle.relay_session.specs.declared.session.HttpSession.{HttpSession}
use Rattle.relay_core.specs.Down.{DownState}
use Rattle.relay_core.specs.Past.{DownPast, Origin}
use Rattle.relay_core.specs.Piece.{put_of}
use Rattle.relay_core.specs.declared.piece.Piece.{Piece}
use Rattle.relay_core.specs.declared.told.Told.{Told}
use Rattle.relay_modules.specs.declared.seen.Seen.{Seen}
use Rattle.relay_hooks.specs.Standing.{Standing, standing}
use Rattle.relay_hooks.specs.Session.{moment}
use Rattle.relay_calls.specs.Log.{Walk, requests_in}
use Rattle.relay_sides.specs.Client.{IsSide, state_of}
use Rattle.relay_sides.specs.Filtered.{is_head_request, stops_for_error}
use Rattle.relay_sides.specs.declared.client_side.ClientSide.{ClientSide}
use Rattle.relay_filters.specs.Chain.{Refuses}
use Rattle.relay_filters.specs.Request.{InChains, OfPiece, PassesRequest, PieceCall, pieces_in}
use Rattle.relay_filters.specs.Response.{BatchStops, IsFilterCall, MakesOf, WasMade}
use Rattle.relay_filters.specs.Segments.{InSegments}
use Rattle.relay_filters.specs.declared.rested.Rested.{Rested}
use Rattle.relay_filters.specs.declared.rested.Shown.{Shown}

-- ---- the state

-- the state of a client's side
abbrev pub state_of_side : ClientSide → DownState
state_of_side side = state_of side.session side.told side.done side.finished side.broken

-- memory was wanted in a call of a hook. It may have left anything in the client's session, which
-- is neither read nor written from then on
abbrev pub is_lost : Option Fail → Bool
is_lost None = false
is_lost (Some fail.OutOfMemory) = true
is_lost (Some (fail.Error error)) = false

-- whether the client's body has ended: once the side has stopped, whether it had then, since its
-- last piece may not have passed
abbrev pub shown_done : Option Fail → Bool → Bool → Bool
shown_done stopped was now = if is_some stopped then was else now

-- whether output is pending: where the client's session is lost, whether it was
abbrev pub shown_pending : Option Fail → Bool → Bool → Bool
shown_pending stopped was now = if is_lost stopped then was else now

-- the state of the side over that of its inner one: the request ends where the filters let it end,
-- a body whose last piece did not pass has not ended, the side tells of its own answers, and the
-- calls of hooks that its reads have made are those of the request in the log, those of each piece
-- as one. `was` is what the side showed when it stopped
abbrev pub state_over : DownState → Bool → Option Fail → Shown → Told → List LogEntry → DownState
state_over inner ended stopped was told log = record inner {
  request_ended = ended;
  body_done = shown_done stopped was.body_done inner.body_done;
  pending = shown_pending stopped was.pending inner.pending;
  told = told;
  calls = length (pieces_in log);
}

-- the error of a failure in front
abbrev pub failure_in_front : List HttpTask → Option Error
failure_in_front [] = None
failure_in_front (task.Header head end ∷ tasks) = None
failure_in_front (task.Body piece end ∷ tasks) = None
failure_in_front (task.UpgradedBody piece end ∷ tasks) = None
failure_in_front (task.Trailer fields ∷ tasks) = None
failure_in_front (task.Done ∷ tasks) = None
failure_in_front (task.Failed error ∷ tasks) = Some error

-- why a batch is refused before any filter is called: the side has stopped, or its inner one
-- refused one before, or its session has no head. A failure in front is answered with its error
abbrev pub refused_at_once : Option Fail → Bool → Bool → List HttpTask → Option Fail
refused_at_once (Some why) refused has_head tasks =
    Some (unwrap_or (option_map fail.Error (failure_in_front tasks)) why)
refused_at_once None true has_head tasks =
    Some (unwrap_or (option_map fail.Error (failure_in_front tasks)) fail.OutOfMemory)
refused_at_once None false true tasks = None
refused_at_once None false false tasks = Some fail.OutOfMemory

-- ---- what passed

-- the session that hooks are shown: the client's own stands in it
abbrev pub seen_by : Seen → HttpSession → Seen
seen_by seen client = record seen { downstream = client }

-- whether a head of the request stands, as a head that stays where hooks change the one that was
-- read; the client's session that is lost had one
abbrev pub stood_head : Bool → HttpSession → Option RequestHead
stood_head lost client =
    if lost || is_some (head_of client.reading) then Some (new_request [] []) else None

-- what no call of the side changes: its application, whether its request had ended before its
-- first call, and is a HEAD, and whether there is a head
pub record Stays (A : Type 0) : Type 0 where
  pub app : A
  pub at_first : Bool
  pub of_head : Bool
  pub head : Option RequestHead

-- what no call of a side for that application changes
abbrev pub stays_of : {A : Type 0} → A → Rested → Stays A
stays_of app side = record {
  app = app;
  at_first = side.at_first;
  of_head = side.of_head;
  head = stood_head (is_lost side.stopped) side.inner.session;
}

-- calls were entered behind what stood in the log, each of them allowed and a filter's that queued
-- nothing, and lead from the session and the context's mark as they were to both as they are
pub record WalksTo (allows : Standing → LogEntry → Type 0) (old : Seen) (mark : ℕ) (new : Seen)
    (mark' : ℕ) : Type 0 where
  pub es : List LogEntry
  pub log : new.log ≡ old.log ++ es
  pub walk : Walk allows (standing None false (moment old mark)) es
      (standing None false (moment new mark'))
  pub plain : All IsFilterCall es

-- the same, where memory was wanted in a call that was not entered: it may have left more
pub record WalksOut (allows : Standing → LogEntry → Type 0) (old : Seen) (mark : ℕ) (new : Seen)
    : Type 0 where
  pub es : List LogEntry
  pub to : Standing
  pub log : new.log ≡ old.log ++ es
  pub walk : Walk allows (standing None false (moment old mark)) es to
  pub plain : All IsFilterCall es

-- how the log goes on, by whether memory was wanted in a call before, and is now: where it was, no
-- call is entered any more
abbrev pub Walks : (Standing → LogEntry → Type 0) → Bool → Bool → Seen → ℕ → Seen → ℕ → Type 0
Walks allows false false old mark new mark' = WalksTo allows old mark new mark'
Walks allows false true old mark new mark' = WalksOut allows old mark new
Walks allows true false old mark new mark' = ⊥
Walks allows true true old mark new mark' = new.log ≡ old.log

-- what a call of the side leaves as it was, and how the log goes on
pub record Lasts {A : Type 0} (allows : Standing → LogEntry → Type 0)
    (old_stays new_stays : Stays A) (was_lost lost : Bool) (old : Seen) (mark : ℕ)
    (new : Seen) (mark' : ℕ) : Type 0 where
  pub stays : new_stays ≡ old_stays
  pub walks : Walks allows was_lost lost old mark new mark'

-- one call of the side entered these calls of the request: those of the piece that it read, the
-- modules' first where modules stood, or none
pub record LedTo (stand : Bool) (old new : Seen) : Type 0 where
  pub es : List LogEntry
  pub log : new.log ≡ old.log ++ es
  pub piece : OfPiece stand (requests_in es)

-- a side still holds the session, the context and the rest of it that it was made over: each is
-- behind the same reference, by its name
pub record SameNames {N : Type 0} (old_session new_session old_ctx new_ctx old_side new_side : N)
    : Type 0 where
  pub session : new_session ≡ old_session
  pub ctx : new_ctx ≡ old_ctx
  pub side : new_side ≡ old_side

-- the past of the inner side over the client's session; where that is lost, over the one before
abbrev pub PastOf : Bool → (HttpSession → DownPast → Type 0) → HttpSession → DownPast → Type 0
PastOf false past client p = past client p
PastOf true past client p = (before : HttpSession) × past before p

-- what passed through a client's side, over that session in the place of its own
abbrev pub PastBy : Origin → LinkState → List ℕ → ClientSide → HttpSession → DownPast → Type 0
PastBy s link ahead side client p =
    IsSide s p link ahead client side.told side.done side.finished side.broken

-- what passed through the inner side, by what stopped the side over it
abbrev pub InnerPast : Option Fail → Origin → LinkState → List ℕ → ClientSide → DownPast → Type 0
InnerPast stopped s link ahead side =
    PastOf (is_lost stopped) (PastBy s link ahead side) side.session

-- the past of the inner side: it put this, and was given that
abbrev pub inside : DownPast → List HttpTask → List HttpTask → DownPast
inside p came queued = record p { put = came; batched = queued }

-- the side takes on: it has not stopped, and its inner one has refused nothing
abbrev pub TakesOn : Option Fail → Bool → Type 0
TakesOn stopped refused = (stopped ≡ None) × (refused ≡ false)

-- what passed through a side whose calls stand in the log behind those: what the inner side put
-- passed the filters of requests by these calls, those of each piece as one, what it was given is
-- what the filters of responses made, and all else passed as it did inside. `stood` says that
-- modules stood for each batch. Of the request of a client that was upgraded nothing is said but
-- which calls each piece led to
pub record IsHooked (inner : DownPast → Type 0) (method : List ℕ) (client : HttpSession)
    (called log : List LogEntry) (of_head at_first ended upgraded refused stood : Bool)
    (stopped : Option Fail) (p : DownPast) : Type 0 where
  pub came : List HttpTask
  pub queued : List HttpTask
  pub holds : inner (inside p came queued)
  pub own : List LogEntry
  pub parts : log ≡ called ++ own
  pub chains : InChains (requests_in own) (stopped ≡ None)
  pub request : upgraded ≡ false
      → PassesRequest at_first ended (pieces_in own) (stopped ≡ None) came p.put
  pub is_of_head : of_head ≡ is_head_request method
  pub response : MakesOf of_head stood own (TakesOn stopped refused) p.batched queued
  pub head : stopped ≡ None → IsSome (head_of client.reading)
  -- the side stopped for what its last call answered or left
  pub told : (e : Error) → stopped ≡ Some (fail.Error e) → Refuses of_head e own

-- what the errors that the side told say of those of its inner one: where it told none, the inner
-- one told none, and no filter stopped the side for one; where it told one alone, the inner one
-- told none, or that one alone, and no filter stopped the side for one
pub record IsQuiet (stopped : Option Fail) (told inner_told : Told) : Type 0 where
  pub none : told.errors ≡ 0
      → (inner_told.errors ≡ 0) × (stops_for_error stopped ≡ false)
  pub one : told.errors ≡ 1 → (inner_told.errors ≡ 0)
      ⊎ ((inner_told.errors ≡ 1) × (inner_told.last ≡ told.last)
      × (stops_for_error stopped ≡ false))

-- the past of a side: what passed, what its errors say of those of its inner one, and its calls,
-- which stand in the log behind those, in order
pub record HookedPast (inner : DownPast → Type 0) (method : List ℕ) (client : HttpSession)
    (called log : List LogEntry) (of_head at_first ended upgraded refused stood : Bool)
    (stopped : Option Fail) (told inner_told : Told) (p : DownPast) : Type 0 where
  pub passed : IsHooked inner method client called log of_head at_first ended upgraded refused stood
      stopped p
  pub quiet : IsQuiet stopped told inner_told
  pub calls : InSegments of_head stopped (drop (length called) log)

-- what is put of a piece that was put again, by what came of it: what passed, or nothing
abbrev pub put_by : Result Piece Fail → List HttpTask
put_by (Ok made) = put_of false made
put_by (Err why) = []

-- the last of these calls is one of a filter of requests, the modules' or the application's, which
-- answered that error
pub record RefusesPiece (e : Error) (es : List LogEntry) : Type 0 where
  pub before : List LogEntry
  pub call : LogEntry
  pub are : es ≡ before ++ call ∷ []
  pub is_piece : PieceCall call
  pub answers : call.error ≡ Some e

-- the side had stopped for that error before, and has told of it more than once
abbrev pub HadStopped : Option Fail → Told → Error → Type 0
HadStopped stopped told e = (stopped ≡ Some (fail.Error e)) × (told.errors ≡ 1 → ⊥)

-- the side stopped for that error: a filter of requests answered it, by the last of the side's own
-- calls; or it had stopped before
abbrev pub StoppedFor : Option Fail → Told → List LogEntry → Error → Type 0
StoppedFor stopped told own e =
    ((stopped ≡ Some (fail.Error e)) × RefusesPiece e own) ⊎ HadStopped stopped told e

-- the inner side answers for an error
abbrev pub BlamesInside : (DownPast → Type 0) → (DownPast → Error → Type 0) → DownPast → Error
    → Type 0
BlamesInside inner blames p e =
    (came : List HttpTask) × (queued : List HttpTask) × inner (inside p came queued)
    × blames (inside p came queued) e

-- the side answers for an error: its inner one does, or it stopped for it. `own` are its own calls
abbrev pub BlamesOver : (DownPast → Type 0) → (DownPast → Error → Type 0) → Option Fail → Told
    → List LogEntry → DownPast → Error → Type 0
BlamesOver inner blames stopped told own p e =
    BlamesInside inner blames p e ⊎ StoppedFor stopped told own e

-- why the side refuses tasks: a filter, or the check behind one, stopped them, for what the last
-- call of the side answered or left; its inner one refuses what the filters made of them by the last
-- calls of the log, behind what they made, by the calls of the side, of those before; or the side
-- had stopped for that error before. `stand` says that modules stand
pub data RefusesOver (inner : DownPast → Type 0)
    (refuses : DownPast → List HttpTask → Error → Type 0) (of_head stood stand refused : Bool)
    (stopped : Option Fail) (told : Told) (called log : List LogEntry) (p : DownPast)
    (left : List HttpTask) (e : Error) : Type 0 where
  by_filter : (before own : List LogEntry) → log ≡ called ++ (before ++ own)
      → BatchStops of_head stand left own → Refuses of_head e own
      → stopped ≡ Some (fail.Error e)
      → RefusesOver inner refuses of_head stood stand refused stopped told called log p left e
  by_inner : (came queued made : List HttpTask) → inner (inside p came queued)
      → (own : List LogEntry) → log ≡ called ++ own
      → MakesOf of_head stood own (TakesOn stopped refused) p.batched queued
      → WasMade of_head stand own left made → refuses (inside p came queued) made e
      → RefusesOver inner refuses of_head stood stand refused stopped told called log p left e
  had_stopped : HadStopped stopped told e
      → RefusesOver inner refuses of_head stood stand refused stopped told called log p left e
