-- How a turn uses the links, and what it moved in an exchange, by the branch that it took.
use Rattle.std.specs.Global.{Box}
use Rattle.std.specs.Prelude.{◌≡◌, ◌⊎◌, ◌↔◌, ℕ, zero, suc, ◌+◌, ◌≤◌, Bool, IsTrue, min, if◌then◌else◌, List, [], ◌∷◌, Option, None, Some}
use Rattle.relay_tasks.specs.declared.log.LogEntry.{LogEntry}
use Rattle.relay_links.specs.Count.{last_count, up, Rose}
use Rattle.relay_links.specs.Link.{LinkState, LinkStart}
use Rattle.relay_links.specs.Told.{more}
use Rattle.relay_connector.specs.declared.Returned.{Returned}
use Rattle.relay_links.specs.declared.branch.Branch.{Branch}
use Rattle.relay_links.specs.declared.branch.Branch.TheVariants as branch
use Rattle.relay_core.specs.Past.{Origin}
use Rattle.relay_core.specs.Uses.{AsksEither, AsksNone, IsUsed}
use Rattle.relay_attempt.specs.Passed.{Passed}
use Rattle.relay_hooked.specs.Exchange.{IsUnderWay, HasMoved}
use Rattle.relay_hooked.specs.Head.{link_of}
use Rattle.relay_hooked.specs.declared.exchange.HookedExchange.{HookedExchange}
use Rattle.relay_request.specs.Passed.{World}
use Rattle.relay_request.specs.Work.{added_work}
use Rattle.relay_request.specs.declared.machine.Attempt.{Attempt}
use Rattle.relay_request.specs.declared.machine.Phase.{Phase}
use Rattle.relay_request.specs.declared.machine.Phase.TheVariants.{ReadHead, Connect, Unlinked, Prepare, Relay, Broken, Again, Fail, Close, Answer, Ended}
use Rattle.relay_request.specs.declared.owed.Owed.TheVariants.{Refused, Ahead, Served}
use Rattle.relay_request.specs.declared.work.Work.{Work}

-- ---- how often the links were asked

-- the client's link was asked so many times: once, or not at all
abbrev pub ClientUses : ℕ → LinkState → LinkState → Type 0
ClientUses n before after =
    ((n ≡ 1) × IsUsed before after) ⊎ ((n ≡ 0) × (after ≡ before))

-- both links were asked so many times: one of them once, or neither
abbrev pub BothUse : ℕ → LinkState → LinkState → LinkState → LinkState → Type 0
BothUse n client client' upstream upstream' =
    ((n ≡ 1) × AsksEither client client' upstream upstream')
    ⊎ ((n ≡ 0) × AsksNone client client' upstream upstream')

-- the link that a turn began with, as it stands behind it: it is held still, or it was handed back
abbrev pub StandsBehind : {L : Type 0} → (L → LinkState) → Option (List (Returned L))
    → Option (List (Returned L)) → Option LinkState → LinkState → Type 0
StandsBehind {L} state before after held link =
    (held ≡ Some link)
    ⊎ ((r : Returned L) × (after ≡ more before (r ∷ [])) × (state r.link ≡ link))

-- a turn asked the client's link and the one that it began with so many times; the second stands so
-- behind it
abbrev pub TurnUses : ℕ → LinkState → LinkState → Option LinkState → (LinkState → Type 0) → Type 0
TurnUses n client client' None stands = ClientUses n client client'
TurnUses n client client' (Some link) stands =
    (link' : LinkState) × stands link' × BothUse n client client' link link'

-- what was counted of uses rose by those of a turn
abbrev pub CountsUses : ℕ → ℕ → LinkState → LinkState → Option LinkState → (LinkState → Type 0)
    → Type 0
CountsUses before after client client' held stands =
    (n : ℕ) × (after ≡ min (before + n) last_count) × TurnUses n client client' held stands

-- whether a count of both links rose, as they tell it
pub record Measured (client client' upstream upstream' : LinkState) (asked : Bool) : Type 0 where
  pub rose : IsTrue asked ↔ (Rose client.used client'.used ⊎ Rose upstream.used upstream'.used)
  pub client_fits : client.used ≤ last_count
  pub upstream_fits : upstream.used ≤ last_count

-- ---- the uses of a request

-- the count that went up so many times; it stands still at its last value
abbrev pub ups : ℕ → ℕ → ℕ
ups zero count = count
ups (suc n) count = up (ups n count)

module _ {L : Type 0} (state : L → LinkState) (start_at : L → LinkStart) where
  -- a link was asked so many times since it was handed out
  abbrev pub LinkUses : ℕ → L → Type 0
  LinkUses n link = (state link).used ≡ ups n (start_at link).used

  -- the link that a request handed back was asked so many times since; it has one at most
  abbrev pub OwnUses : ℕ → List (Returned L) → Type 0
  OwnUses n [] = n ≡ 0
  OwnUses n (r ∷ []) = LinkUses n r.link
  OwnUses n (r ∷ q ∷ own) = ⊥

  -- all uses of a request were counted: those of the client's link, those of its own, and so many
  -- of links that it had before
  pub record CountsAll (first last : LinkState) (earlier : ℕ) (own : List (Returned L))
      (counted : ℕ) : Type 0 where
    pub client : ℕ
    pub upstream : ℕ
    pub client_rose : last.used ≡ ups client first.used
    pub upstream_rose : OwnUses upstream own
    pub all : counted ≡ min (client + (earlier + upstream)) last_count

module _ {L C : Type 0} (state : L → LinkState) (start_at : L → LinkStart) where
  -- the link of a request was asked so many times up to that phase
  abbrev pub PhaseUses : ℕ → List (Returned L) → Phase L C → Type 0
  PhaseUses n own ReadHead = OwnUses state start_at n own
  PhaseUses n own (Connect context session tries) = OwnUses state start_at n own
  PhaseUses n own (Unlinked context session attempts error) = OwnUses state start_at n own
  PhaseUses n own (Prepare context session link lease) = LinkUses state start_at n link
  PhaseUses n own (Relay a) = LinkUses state start_at n (link_of a.value.exchange)
  PhaseUses n own (Broken context session link lease keep error) = LinkUses state start_at n link
  PhaseUses n own (Again context session link lease keep error) = LinkUses state start_at n link
  PhaseUses n own (Fail link lease keep session error) = LinkUses state start_at n link
  PhaseUses n own (Close link lease keep outcome) = LinkUses state start_at n link
  PhaseUses n own (Answer session owed attempts) = OwnUses state start_at n own
  PhaseUses n own (Ended outcome attempts) = OwnUses state start_at n own

  -- a turn asked the client's link so many times, and the request's own, which had been asked n
  -- times before
  pub record TurnCounts (n : ℕ) (client client' : LinkState) (used : ℕ)
      (own : List (Returned L)) (next : Phase L C) : Type 0 where
    pub of_client : ℕ
    pub of_own : ℕ
    pub client_rose : client'.used ≡ ups of_client client.used
    pub own_rose : PhaseUses (of_own + n) own next
    pub all : used ≡ of_client + of_own

  -- the same of a step, by what was counted before it and after
  pub record StepCounts (n : ℕ) (client client' : LinkState) (before after : ℕ)
      (own : List (Returned L)) (next : Phase L C) : Type 0 where
    pub used : ℕ
    pub turn : TurnCounts n client client' used own next
    pub adds : after ≡ min (before + used) last_count

module _ {L : Type 0} (state : L → LinkState) (start_at : L → LinkStart) where
  -- the same of a step that handed this link back, which had been asked n times before
  pub record LinkCounts (n : ℕ) (client client' : LinkState) (before after : ℕ) (link : L)
      : Type 0 where
    pub of_client : ℕ
    pub of_own : ℕ
    pub client_rose : client'.used ≡ ups of_client client.used
    pub own_rose : LinkUses state start_at (of_own + n) link
    pub adds : after ≡ min (before + (of_client + of_own)) last_count

-- ---- what moved in an exchange

-- hooks or an attempt ended the request, and its client is owed an answer, or what was queued for
-- it
abbrev pub OwesAnswer : {L C : Type 0} → Phase L C → Type 0
OwesAnswer ReadHead = ⊥
OwesAnswer (Connect context session tries) = ⊥
OwesAnswer (Unlinked context session attempts error) = Unit {0}
OwesAnswer (Prepare context session link lease) = ⊥
OwesAnswer (Relay a) = ⊥
OwesAnswer (Broken context session link lease keep error) = Unit {0}
OwesAnswer (Again context session link lease keep error) = ⊥
OwesAnswer (Fail link lease keep session error) = Unit {0}
OwesAnswer (Close link lease keep outcome) = ⊥
OwesAnswer (Answer session (Refused error) attempts) = ⊥
OwesAnswer (Answer session (Ahead why) attempts) = Unit {0}
OwesAnswer (Answer session (Served e) attempts) = Unit {0}
OwesAnswer (Ended outcome attempts) = ⊥

-- a use of a link
abbrev pub one_use : Work
one_use = record { used = 1; moved = 0; ended = 0; called = 0 }

-- a task that moved
abbrev pub one_task : Work
one_task = record { used = 0; moved = 1; ended = 0; called = 0 }

-- an end
abbrev pub one_end : Work
one_end = record { used = 0; moved = 0; ended = 1; called = 0 }

-- the work of a turn of an exchange that moved, by its branch: a use of a link, a task that moved
-- or an end. A read is a use where it asked its link, and else the task that it put; a turn without
-- a branch writes the request's head
abbrev pub work_by : Option Branch → Bool → Work
work_by None asked = one_use
work_by (Some branch.UpWrite) asked = one_use
work_by (Some branch.DownWrite) asked = one_use
work_by (Some branch.UpTake) asked = one_task
work_by (Some branch.DownTake) asked = one_task
work_by (Some branch.DownDrop) asked = one_task
work_by (Some branch.DownEnd) asked = one_end
work_by (Some branch.DownClosed) asked = one_end
work_by (Some branch.UpRead) asked = if asked then one_use else one_task
work_by (Some branch.DownRead) asked = if asked then one_use else one_task
work_by (Some branch.UpFinish) asked = one_end
work_by (Some branch.DownFinish) asked = one_end
work_by (Some branch.MessageUp) asked = one_task
work_by (Some branch.MessageDown) asked = one_task

module _ {L C : Type 0} (state : L → LinkState) (start_at : L → LinkStart) where
  -- an exchange went on by that branch: one that is under way by that log asked a link once, or it
  -- moved a task or brought an end. (That hooks were called is told by their log alone)
  pub record ExchangeMoved (branch : Option Branch) (log : List LogEntry) (w x : World)
      (a : HookedExchange L) (next : Phase L C) : Type 0 where
    pub held : Box (Attempt L C)
    pub goes_on : next ≡ Relay held
    pub moved : (s : Origin) (p : Passed)
        → IsUnderWay state start_at s p w.client w.ahead log a
        → HasMoved state branch w.client x.client [] [] a held.value.exchange

  -- an exchange went on, and the work of the turn is that of the branch which it took
  pub record MovedBy (log : List LogEntry) (w x : World) (work : Work) (a : HookedExchange L)
      (next : Phase L C) : Type 0 where
    pub branch : Option Branch
    pub moved : ExchangeMoved branch log w x a next
    pub asked : Bool
    pub counted : work ≡ work_by branch asked

  -- the same of a step, with what was counted before it
  pub record MovesOn (log : List LogEntry) (w x : World) (before after : Work)
      (a : HookedExchange L) (next : Phase L C) : Type 0 where
    pub work : Work
    pub moves : MovedBy log w x work a next
    pub adds : after ≡ added_work before work
