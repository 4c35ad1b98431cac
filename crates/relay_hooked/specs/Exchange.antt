-- An exchange so far behind an application's filters, over an HTTP/1 link to the peer, and what a
-- turn makes of it.
use Rattle.std.specs.Prelude.{◌≡◌, ◌⊎◌, ℕ, Bool, true, false, List, Option, None, Some}
use Rattle.std.specs.List.{list_any}
use Rattle.relay_tasks.specs.declared.error.Error.{Error}
use Rattle.relay_tasks.specs.declared.error.Fail.TheVariants as fail
use Rattle.relay_tasks.specs.declared.log.LogEntry.{LogEntry}
use Rattle.relay_tasks.specs.declared.task.HttpTask.{HttpTask}
use Rattle.relay_tasks.specs.Task.{is_end}
use Rattle.relay_links.specs.Link.{LinkState, LinkStart}
use Rattle.relay_links.specs.declared.branch.Branch.{Branch}
use Rattle.relay_session.specs.Asked.{request_of}
use Rattle.relay_core.specs.Past.{Origin, DownPast, UpPast}
use Rattle.relay_core.specs.Table.{State}
use Rattle.relay_core.specs.Uses as uses
use Rattle.relay_core.specs.declared.step.Step.{Step}
use Rattle.relay_core.specs.declared.step.Step.TheVariants as step
use Rattle.relay_exchange.specs.Exchange.{IsSilentLink}
use Rattle.relay_exchange.specs.Exchange as over
use Rattle.relay_sides.specs.Client.{CannotEnd, ClientBlames, ClientRefuses}
use Rattle.relay_filters.specs.Hooked.{BlamesOver, HookedPast, InnerPast, RefusesOver, is_lost}
use Rattle.relay_filters.specs.Segments.{InSegments}
use Rattle.relay_filters.specs.declared.rested.Rested.{Rested}
use Rattle.relay_attempt.specs.Exchange.{AreTold}
use Rattle.relay_attempt.specs.Passed.{Passed}
use Rattle.relay_hooked.specs.Calls.{calls_behind}
use Rattle.relay_hooked.specs.Head.{core_in, filtering_of, link_of, may_keep}
use Rattle.relay_hooked.specs.Order.{EndsEarly, FailsWith, IsInOrder, IsInOrderWith, IsRelayed, Keeps, Leaves}
use Rattle.relay_hooked.specs.Sides.{PeerHolds, PeerSideBlames}
use Rattle.relay_hooked.specs.declared.exchange.HookedExchange.{HookedExchange}

-- the past of the client's side behind filters holds, by the log: over the client's session, or
-- over the one before where memory was wanted in a hook
abbrev pub SideHolds : LinkState → List ℕ → List LogEntry → Origin → Rested → DownPast → Type 0
SideHolds link ahead log s u p =
    HookedPast (InnerPast u.stopped s link ahead u.inner) s.head.method u.inner.session s.called log
    u.of_head u.at_first u.ended false u.refused u.stood u.stopped u.told u.inner.told p

-- it answers for an error, by the log
abbrev pub SideBlames : LinkState → List ℕ → List LogEntry → Origin → Rested → DownPast → Error
    → Type 0
SideBlames link ahead log s u p e =
    BlamesOver (InnerPast u.stopped s link ahead u.inner) (λ i. ClientBlames s i link) u.stopped
    u.told (calls_behind s.called log) p e

-- it refuses tasks with an error; whether modules stand
abbrev pub SideRefuses : LinkState → List ℕ → List LogEntry → Bool → Origin → Rested → DownPast
    → List HttpTask → Error → Type 0
SideRefuses link ahead log stand s u p left e =
    RefusesOver (InnerPast u.stopped s link ahead u.inner)
    (λ i. ClientRefuses s i link u.inner.told) u.of_head u.stood stand u.refused u.stopped u.told
    s.called log p left e

-- it cannot end the response, with the error
abbrev pub SideCannotEnd : LinkState → List ℕ → List LogEntry → Origin → Rested → DownPast → Error
    → Type 0
SideCannotEnd link ahead log s u p e =
    BlamesOver (InnerPast u.stopped s link ahead u.inner)
    (λ i why. ClientBlames s i link why ⊎ CannotEnd s i u.inner.told why) u.stopped u.told
    (calls_behind s.called log) p e

-- by the links
module _ {L : Type 0} (state : L → LinkState) (start_at : L → LinkStart) where
  -- it is under way between both sides, by the log
  abbrev pub IsBetween : Origin → LinkState → List ℕ → List LogEntry → HookedExchange L → DownPast
      → UpPast → Type 0
  IsBetween s link ahead log x p q =
      over.IsUnderWay (SideHolds link ahead log s x.down) (PeerHolds state start_at s x.exchange.up)
      (PeerSideBlames state start_at s x.exchange.up) (core_in log x) p q

  -- a turn between both sides went on to this, from these pasts and that core, by the log; whether
  -- modules stand
  abbrev pub TurnsBetween : Origin → LinkState → List ℕ → List LogEntry → Bool → HookedExchange L
      → DownPast → UpPast → State → Step → Type 0
  TurnsBetween s link ahead log stand x before up_before was answer =
      over.Turns (SideHolds link ahead log s x.down) (SideBlames link ahead log s x.down)
      (SideRefuses link ahead log stand s x.down) (SideCannotEnd link ahead log s x.down)
      (PeerHolds state start_at s x.exchange.up) (PeerSideBlames state start_at s x.exchange.up)
      before up_before was (core_in log x) answer

  -- the exchange so far, over all that passed, by the log: what was sent and written is in order,
  -- and it is under way between both sides. No hook wanted memory, and the client's side told no
  -- error
  pub record IsUnderWay (s : Origin) (p : Passed) (link : LinkState) (ahead : List ℕ)
      (log : List LogEntry) (x : HookedExchange L) : Type 0 where
    pub order : IsInOrder (filtering_of s log x.down) s p (state (link_of x)).ended
    pub alive : is_lost x.down.stopped ≡ false
    pub untold : x.down.told.errors ≡ 0
    pub down : DownPast
    pub up : UpPast
    pub came : down.came ≡ p.came
    pub written : down.written ≡ p.written
    pub got : up.got ≡ p.got
    pub sent : up.sent ≡ p.sent
    pub holds : IsBetween s link ahead log x down up

  -- both directions were relayed, which leaves both links so, and a session that answers the
  -- request; no filter stopped the client's side
  pub record IsFinished (s : Origin) (p : Passed) (ahead : List ℕ) (log : List LogEntry)
      (x : HookedExchange L) : Type 0 where
    pub relayed : IsRelayed (filtering_of s log x.down) s p (state (link_of x))
        (start_at (link_of x))
    pub answers : x.down.inner.session.writing.request ≡ request_of s.head
    pub goes_on : x.down.stopped ≡ None
    pub leaves : Leaves (filtering_of s log x.down) s p (state (link_of x))
        (start_at (link_of x)) relayed.order ahead x.down.inner.session (may_keep x)
    -- where the request had not ended before its first piece
    pub keeps : x.down.at_first ≡ false
        → Keeps (state (link_of x)) (start_at (link_of x)) relayed.order (may_keep x)

  -- the response was over towards the client before its end was given to the filters, which leaves
  -- both links so, and a session that answers the request; no filter stopped the client's side
  pub record IsOverEarly (s : Origin) (p : Passed) (ahead : List ℕ) (log : List LogEntry)
      (x : HookedExchange L) : Type 0 where
    pub early : EndsEarly (filtering_of s log x.down) s p (state (link_of x)) (start_at (link_of x))
    pub answers : x.down.inner.session.writing.request ≡ request_of s.head
    pub goes_on : x.down.stopped ≡ None
    pub leaves : Leaves (filtering_of s log x.down) s p (state (link_of x))
        (start_at (link_of x)) early.order ahead x.down.inner.session (may_keep x)
    -- where the request had not ended before its first piece, and the response was read to its end
    pub keeps : x.down.at_first ≡ false → list_any is_end early.order.read ≡ true
        → Keeps (state (link_of x)) (start_at (link_of x)) early.order (may_keep x)

  -- what a turn made of it, by its answer: it goes on; both directions were relayed, or the
  -- response was over early; or it failed, for a cause. Out of memory is none, but what was sent
  -- and written then is in order; where the side told an error, up to the task that is refused so
  abbrev pub ComesTo : Origin → Passed → LinkState → List ℕ → List LogEntry → HookedExchange L
      → Step → Type 0
  ComesTo s p link ahead log x step.Moved = IsUnderWay s p link ahead log x
  ComesTo s p link ahead log x (step.Waited pause) = IsUnderWay s p link ahead log x
  ComesTo s p link ahead log x step.Finished =
      IsFinished s p ahead log x ⊎ IsOverEarly s p ahead log x
  ComesTo s p link ahead log x (step.Failed (fail.Error e)) =
      FailsWith (filtering_of s log x.down) s p link (state (link_of x))
      (start_at (link_of x)) ahead x.down.inner.session e
  ComesTo s p link ahead log x (step.Failed fail.OutOfMemory) =
      IsInOrder (filtering_of s log x.down) s p (state (link_of x)).ended
      ⊎ ((e : Error) × (x.down.told.errors ≡ 1) × (x.down.told.last ≡ Some e)
      × IsInOrderWith (Some e) (filtering_of s log x.down) s p (state (link_of x)).ended)

  -- a turn went on to this
  pub record Turns (s : Origin) (link : LinkState) (ahead : List ℕ) (log : List LogEntry)
      (x : HookedExchange L) (result : Step) : Type 0 where
    pub passed : Passed
    pub told : AreTold state start_at s passed link (state (link_of x)) (start_at (link_of x))
    pub comes_to : ComesTo s passed link ahead log x result
    -- whatever it came to, the calls since the exchange began stand in order
    pub calls : InSegments x.down.of_head x.down.stopped (calls_behind s.called log)
    -- and where memory was wanted in a hook it says so
    pub lost : is_lost x.down.stopped ≡ true → result ≡ step.Failed fail.OutOfMemory

-- by the links alone
module _ {L : Type 0} (state : L → LinkState) where
  -- a link of the exchange is silent
  abbrev pub IsSilent : LinkState → HookedExchange L → Type 0
  IsSilent link x = IsSilentLink link ⊎ IsSilentLink (state (link_of x))

  -- a turn met silence: all that can be done asks a link that is silent on it, the write of the
  -- head, or each branch that can be taken; and neither link changed
  pub record MeetsSilence (before after : LinkState) (log : List LogEntry)
      (old new : HookedExchange L) : Type 0 where
    pub silent : over.SilentIn new.exchange.stage (core_in log new) after (state (link_of new))
    pub client_same : after ≡ before
    pub peer_same : state (link_of new) ≡ state (link_of old)

  -- how a turn asked both links, by its answer: one of them once, or none
  abbrev pub Asks : Step → LinkState → LinkState → HookedExchange L → HookedExchange L
      → Type 0
  Asks result before after old new =
      uses.Asks result before after (state (link_of old)) (state (link_of new))

  -- what a turn moved, by its branch: a link was asked once, or none was and it moved a task,
  -- brought an end, or passed a piece through the filters of requests
  abbrev pub HasMoved : Option Branch → LinkState → LinkState → List LogEntry → List LogEntry
      → HookedExchange L → HookedExchange L → Type 0
  HasMoved branch before after log log' old new =
      over.HasMoved branch (core_in log old) (core_in log' new) before after
      (state (link_of old)) (state (link_of new))
