-- What each exchange behind filters keeps, whatever passed: laws over the pasts of both sides.
use Rattle.std.specs.Prelude.{◌≡◌, ℕ, true, false, List, ◌⊎◌}
use Rattle.std.specs.List.{list_any}
use Rattle.relay_tasks.specs.declared.error.Error.{Error}
use Rattle.relay_tasks.specs.Task.{is_end}
use Rattle.relay_links.specs.Link.{LinkState, LinkStart}
use Rattle.relay_peer.specs.declared.peer_side.PeerSide.{PeerSide}
use Rattle.relay_core.specs.Moves.{Finishes, HasReason, SoFar}
use Rattle.relay_core.specs.Past.{Origin, DownPast, UpPast}
use Rattle.relay_core.specs.declared.duplex.Duplex.{Duplex}
use Rattle.relay_attempt.specs.Attempt.{IsAttempt}
use Rattle.relay_attempt.specs.Exchange.{AreTold}
use Rattle.relay_attempt.specs.Passed.{Passed}
use Rattle.relay_hooked.specs.Attempt.{HookedHalf, PeerHalf}
use Rattle.relay_hooked.specs.Order.{EndsEarly, FailsWith, IsInOrder, IsRelayed, Keeps, Leaves}
use Rattle.relay_hooked.specs.Sides.{Behind, HookedBlames, HookedCannotEnd, HookedHolds, HookedRefuses, PeerHolds, PeerSideBlames, TellsAlone, filtering, hooked_core, hooked_state, keeps_link}

-- what passed, by the pasts of both sides
abbrev pub passed_by : DownPast → UpPast → Passed
passed_by p q = record { came = p.came; written = p.written; got = q.got; sent = q.sent }

module _ {L : Type 0} (state : L → LinkState) (start_at : L → LinkStart) where
  -- an exchange so far, between a client behind filters and a peer
  abbrev pub GoesSoFar : LinkState → List ℕ → Origin → Behind → PeerSide L → Duplex → DownPast
      → UpPast → Type 0
  GoesSoFar link ahead s b up duplex p q =
      SoFar (HookedHolds link ahead s b) (PeerHolds state start_at s up)
      (PeerSideBlames state start_at s up) (hooked_core duplex b up) p q

  -- what passed is an attempt between both halves
  abbrev pub IsAttemptSoFar : Type 0
  IsAttemptSoFar = (link : LinkState) (ahead : List ℕ) (s : Origin) (b : Behind)
      (up : PeerSide L) (duplex : Duplex) (p : DownPast) (q : UpPast)
      → GoesSoFar link ahead s b up duplex p q
      → IsAttempt (HookedHalf (filtering s b) s link b.ended b.side.done)
      (PeerHalf s (start_at up.client.link) (state up.client.link)) (hooked_state b)

  -- what passed is told by both links
  abbrev pub IsToldSoFar : Type 0
  IsToldSoFar = (link : LinkState) (ahead : List ℕ) (s : Origin) (b : Behind) (up : PeerSide L)
      (duplex : Duplex) (p : DownPast) (q : UpPast) → GoesSoFar link ahead s b up duplex p q
      → AreTold state start_at s (passed_by p q) link (state up.client.link)
      (start_at up.client.link)

  -- what passed is in order, where the side behind filters told no error
  abbrev pub IsInOrderSoFar : Type 0
  IsInOrderSoFar = (link : LinkState) (ahead : List ℕ) (s : Origin) (b : Behind)
      (up : PeerSide L) (duplex : Duplex) (p : DownPast) (q : UpPast)
      → GoesSoFar link ahead s b up duplex p q → b.told.errors ≡ 0
      → IsInOrder (filtering s b) s (passed_by p q) (state up.client.link).ended

  -- what failed with an error has its cause in what passed, where the side behind
  -- filters told no other
  abbrev pub IsCaused : Type 0
  IsCaused = (link : LinkState) (ahead : List ℕ) (s : Origin) (b : Behind) (up : PeerSide L)
      (duplex : Duplex) (p : DownPast) (q : UpPast) (e : Error)
      → GoesSoFar link ahead s b up duplex p q → TellsAlone b e
      → HasReason (HookedBlames link ahead s b) (HookedRefuses link ahead s b)
      (HookedCannotEnd link ahead s b) (PeerSideBlames state start_at s up) (hooked_state b) p q e
      → FailsWith (filtering s b) s (passed_by p q) link (state up.client.link)
      (start_at up.client.link) ahead b.side.session e

  -- what finished was relayed, or over towards the client early, where the side behind filters told
  -- no error; and what that leaves. Where the request had not ended before its first piece, a link
  -- of the peer that may serve another is kept, once the response was read to its end
  abbrev pub IsFinishing : Type 0
  IsFinishing = (link : LinkState) (ahead : List ℕ) (s : Origin) (b : Behind) (up : PeerSide L)
      (duplex : Duplex) (p : DownPast) (q : UpPast)
      → GoesSoFar link ahead s b up duplex p q → b.told.errors ≡ 0
      → Finishes (hooked_core duplex b up) p q
      → ((r : IsRelayed (filtering s b) s (passed_by p q) (state up.client.link)
      (start_at up.client.link))
      × Leaves (filtering s b) s (passed_by p q) (state up.client.link) (start_at up.client.link)
      r.order ahead b.side.session (keeps_link duplex up)
      × (b.at_first ≡ false
      → Keeps (state up.client.link) (start_at up.client.link) r.order (keeps_link duplex up)))
      ⊎ ((r : EndsEarly (filtering s b) s (passed_by p q) (state up.client.link)
      (start_at up.client.link))
      × Leaves (filtering s b) s (passed_by p q) (state up.client.link) (start_at up.client.link)
      r.order ahead b.side.session (keeps_link duplex up)
      × (b.at_first ≡ false → list_any is_end r.order.read ≡ true
      → Keeps (state up.client.link) (start_at up.client.link) r.order (keeps_link duplex up)))
