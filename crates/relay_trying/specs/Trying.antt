-- The hooks of an attempt, each called once as one turn: what it was told, what it answered, and
-- where that leads (RFC 9110, sections 3.7 and 9.2.2).
use Rattle.std.specs.Prelude.{◌≡◌, ℕ, Bool, true, false, ◌&&◌, not, List, Option, Some, None, is_some, Result, Ok, Err}
use Rattle.relay_tasks.specs.Error.{may_retry}
use Rattle.relay_tasks.specs.Head.{RequestHead}
use Rattle.relay_tasks.specs.declared.error.Error.{Error}
use Rattle.relay_tasks.specs.declared.error.Fail.{Fail}
use Rattle.relay_tasks.specs.declared.error.Fail.TheVariants as fail
use Rattle.relay_tasks.specs.declared.hook.Hook.{Hook}
use Rattle.relay_tasks.specs.declared.hook.Hook.TheVariants as hook
use Rattle.relay_tasks.specs.declared.log.Item.{Item}
use Rattle.relay_tasks.specs.declared.log.Item.TheVariants as item
use Rattle.relay_tasks.specs.declared.log.LogEntry.{LogEntry}
use Rattle.relay_tasks.specs.declared.peer.Peer.{Peer}
use Rattle.relay_session.specs.Reading.{head_of}
use Rattle.relay_modules.specs.Seen.{view_of}
use Rattle.relay_modules.specs.declared.seen.Seen.{Seen}
use Rattle.relay_hooks.specs.Call.{Left, failed, only}
use Rattle.relay_hooks.specs.Session.{moment, request_head}
use Rattle.relay_hooks.specs.Standing.{Standing, standing}
use Rattle.relay_calls.specs.Entry.{cleared}
use Rattle.relay_phases.specs.Order.{Station, may_try_again}
use Rattle.relay_phases.specs.Order.{Station as station}
use Rattle.relay_phases.specs.Turns.{QueuesNothing, Turns}

-- ---- where an attempt may fail, and where that leads

-- an attempt that has its link may fail there: no task is between two filters
abbrev pub may_break : Station → Bool
may_break station.linked = true
may_break station.sent = true
may_break station.relaying = true
may_break station.at_head = true
may_break station.at_trailers = true
may_break station.broken = true
may_break other = false

-- another attempt may follow where an error was treated so, as far as the log tells: it is marked
-- so, no final head was queued, and all that was read of the request's body is kept
abbrev pub may_follow : Error → Seen → Bool
may_follow treated seen =
    may_retry treated.retry && (not (view_of seen).final_head && not (view_of seen).truncated)

-- where it leads: another attempt may follow, or the error is final
abbrev pub treated_at : Bool → Station
treated_at true = station.repeatable
treated_at false = station.failing

-- where the answer leads whether an error is not to be written as a warning
abbrev pub warned_at : Bool → Station
warned_at true = station.trying
warned_at false = station.warning

-- a hook may be called behind each answer but out of memory: the head was read
abbrev pub may_go_on : {T : Type 0} → Result T Fail → Seen → Bool
may_go_on (Ok answer) seen = is_some (head_of seen.downstream.reading)
may_go_on (Err (fail.Error error)) seen = is_some (head_of seen.downstream.reading)
may_go_on (Err fail.OutOfMemory) seen = true

module _ (allows : Standing → LogEntry → Type 0) where
  -- ---- one call

  -- a hook was called once, as one turn from the one station to the other. It is told of that peer,
  -- and whether the link to it had been used before; or of none
  pub record CallsHook (which : Hook) (peer : Option Peer) (reused : Bool) (from to : Station)
      (told : Item) (left : Left) (old : Seen) (before : ℕ) (new : Seen) (behind : ℕ)
      : Type 0 where
    -- its entry alone is new, it may come there, and nothing was queued
    pub turn : Turns allows which from to QueuesNothing old before new behind
    -- it is allowed where the session and the mark stood, with that peer
    pub allowed : allows (standing peer reused (moment old before)) turn.e
    -- what the hook was told
    pub input : turn.e.input ≡ told
    -- what it answered, or left of what it was told
    pub output : turn.e.output ≡ left.output
    -- its error, or none
    pub error : turn.e.error ≡ left.error
    -- what the session showed before it
    pub view : turn.e.view ≡ view_of old

  -- the same of a hook that is told of no peer
  abbrev pub CallsPlain : Hook → Station → Station → Item → Left → Seen → ℕ → Seen → ℕ → Type 0
  CallsPlain which from to told left old before new behind =
      CallsHook which None false from to told left old before new behind

  -- a hook that only looks was called so: but for its entry the session is as it was
  pub record LooksOnce (which : Hook) (from to : Station) (told : Item) (left : Left) (old : Seen)
      (mark : ℕ) (new : Seen) : Type 0 where
    pub call : CallsPlain which from to told left old mark new mark
    pub stays : new ≡ record (cleared old) { log = new.log }

  -- ---- on the way to the peer

  -- the peer of the attempt was asked for: it is named, or the error is final
  abbrev pub NamesPeer : Seen → ℕ → Seen → ℕ → Result Peer Fail → Type 0
  NamesPeer old before new behind (Ok peer) =
      CallsPlain hook.UpstreamPeer station.trying station.named (item.Request (request_head old))
      (only (item.Addressed peer false)) old before new behind
  NamesPeer old before new behind (Err (fail.Error error)) =
      CallsPlain hook.UpstreamPeer station.trying station.failing
      (item.Request (request_head old)) (failed item.Nothing error) old before new behind
  NamesPeer old before new behind (Err fail.OutOfMemory) = new.log ≡ old.log

  -- the application was told of the link to the peer: the head comes next, or the attempt is broken
  abbrev pub TellsConnected : Peer → Bool → Seen → ℕ → Seen → ℕ → Result Unit Fail → Type 0
  TellsConnected peer reused old before new behind (Ok done) =
      CallsHook hook.ConnectedToUpstream (Some peer) reused station.named station.linked
      (item.Addressed peer reused) (only item.Nothing) old before new behind
  TellsConnected peer reused old before new behind (Err (fail.Error error)) =
      CallsHook hook.ConnectedToUpstream (Some peer) reused station.named station.broken
      (item.Addressed peer reused) (failed item.Nothing error) old before new behind
  TellsConnected peer reused old before new behind (Err fail.OutOfMemory) = new.log ≡ old.log

  -- the filter of the head failed with that error
  pub record BreaksHead (head : RequestHead) (error : Error) (old : Seen) (before : ℕ) (new : Seen)
      (behind : ℕ) : Type 0 where
    -- what it left of the head, which its entry tells alone
    pub left : RequestHead
    pub call : CallsPlain hook.UpstreamRequestFilter station.linked station.broken
        (item.Request head) (failed (item.Request left) error) old before new behind

  -- the head that is sent was filtered: it goes out, or the attempt is broken
  abbrev pub FiltersHead : RequestHead → Seen → ℕ → Seen → ℕ → Result RequestHead Fail → Type 0
  FiltersHead head old before new behind (Ok filtered) =
      CallsPlain hook.UpstreamRequestFilter station.linked station.sent (item.Request head)
      (only (item.Request filtered)) old before new behind
  FiltersHead head old before new behind (Err (fail.Error error)) =
      BreaksHead head error old before new behind
  FiltersHead head old before new behind (Err fail.OutOfMemory) = new.log ≡ old.log

  -- ---- behind an error

  -- the error of an attempt was treated
  pub record Treats (which : Hook) (peer : Peer) (reused : Bool) (from : Station) (error : Error)
      (old : Seen) (before : ℕ) (new : Seen) (behind : ℕ) (treated : Error) : Type 0 where
    -- another attempt may follow, or the error is final
    pub call : CallsHook which (Some peer) reused from (treated_at (may_follow treated old))
        (item.Failure error) (only (item.Failure treated)) old before new behind
    -- as the entry of the call tells
    pub marked : may_try_again call.turn.e ≡ may_follow treated old

  -- it was asked whether a warning of the error is not to be written
  abbrev pub Warns : Error → Seen → ℕ → Seen → Bool → Type 0
  Warns error old mark new say =
      LooksOnce hook.SuppressProxyWarnLog station.repeatable (warned_at say) (item.Failure error)
      (only (item.Answer say)) old mark new

  -- the request was asked for in one line, for the warning
  abbrev pub Summarizes : Seen → ℕ → Seen → List ℕ → Type 0
  Summarizes old mark new summary =
      LooksOnce hook.RequestSummary station.warning station.trying
      (item.Request (request_head old)) (only (item.Text summary)) old mark new
