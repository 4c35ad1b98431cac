-- Both sides of an exchange behind filters, by what a struct of it would hold.
use Rattle.std.specs.Prelude.{◌≡◌, ◌⊎◌, ◌&&◌, ℕ, Bool, false, List, length, Option, Some}
use Rattle.relay_tasks.specs.declared.error.Error.{Error}
use Rattle.relay_tasks.specs.declared.error.Fail.{Fail}
use Rattle.relay_tasks.specs.declared.log.LogEntry.{LogEntry}
use Rattle.relay_tasks.specs.declared.task.HttpTask.{HttpTask}
use Rattle.relay_tasks.specs.Head.{RequestHead}
use Rattle.relay_links.specs.Link.{LinkState, LinkStart}
use Rattle.relay_core.specs.Down.{DownState}
use Rattle.relay_core.specs.Past.{Origin, DownPast, UpPast}
use Rattle.relay_core.specs.Table.{State, core, may_keep}
use Rattle.relay_core.specs.declared.duplex.Duplex.{Duplex}
use Rattle.relay_core.specs.declared.told.Told.{Told}
use Rattle.relay_peer.specs.RequestWriting.{head_in}
use Rattle.relay_peer.specs.H1Client.{may_keep_client}
use Rattle.relay_peer.specs.Peer.{IsPeerSide, PeerBlames}
use Rattle.relay_peer.specs.Peer as peer
use Rattle.relay_peer.specs.declared.peer_side.PeerSide.{PeerSide}
use Rattle.relay_sides.specs.Client.{CannotEnd, ClientBlames, ClientRefuses}
use Rattle.relay_sides.specs.declared.client_side.ClientSide.{ClientSide}
use Rattle.relay_filters.specs.Hooked.{BlamesOver, HookedPast, RefusesOver, shown_done}
use Rattle.relay_filters.specs.Request.{pieces_in}
use Rattle.relay_attempt.specs.Exchange.{DownHolds, down_state}
use Rattle.relay_hooked.specs.Calls.{Filtering, calls_behind}

-- the client's side behind filters: the side over the client's session; the log; and its flags, of
-- which `stand` says that modules stand, and `was_done` whether the client's body had ended when the
-- side stopped. No hook wanted memory, so the client's session is not lost
pub record Behind : Type 0 where
  pub side : ClientSide
  pub log : List LogEntry
  pub of_head : Bool
  pub at_first : Bool
  pub ended : Bool
  pub refused : Bool
  pub stood : Bool
  pub stand : Bool
  pub was_done : Bool
  pub stopped : Option Fail
  pub told : Told

-- its calls since its exchange began, and what it tells of them
abbrev pub filtering : Origin → Behind → Filtering
filtering s b = record {
  calls = calls_behind s.called b.log;
  at_first = b.at_first;
  stood = b.stood;
  stopped = b.stopped;
  refused = b.refused;
}

-- its state, as of a side whose client's session is not lost
abbrev pub hooked_state : Behind → DownState
hooked_state b = record (down_state b.side) {
  request_ended = b.ended;
  body_done = shown_done b.stopped b.was_done (down_state b.side).body_done;
  told = b.told;
  calls = length (pieces_in b.log);
}

module _ (link : LinkState) (ahead : List ℕ) (s : Origin) (b : Behind) where
  -- its past holds: that of the side over the session, what the filters made of it, and what its
  -- errors say of those that the side over the session told
  abbrev pub HookedHolds : DownPast → Type 0
  HookedHolds p =
      HookedPast (DownHolds link ahead b.side s) s.head.method b.side.session s.called b.log
      b.of_head b.at_first b.ended false b.refused b.stood b.stopped b.told b.side.told p

  -- it answers for the error
  abbrev pub HookedBlames : DownPast → Error → Type 0
  HookedBlames p e =
      BlamesOver (DownHolds link ahead b.side s) (λ r why. ClientBlames s r link why) b.stopped
      b.told (calls_behind s.called b.log) p e

  -- it refuses these tasks with the error
  abbrev pub HookedRefuses : DownPast → List HttpTask → Error → Type 0
  HookedRefuses p left e =
      RefusesOver (DownHolds link ahead b.side s)
      (λ r tasks why. ClientRefuses s r link b.side.told tasks why) b.of_head b.stood b.stand
      b.refused b.stopped b.told s.called b.log p left e

  -- it cannot end the response, with the error
  abbrev pub HookedCannotEnd : DownPast → Error → Type 0
  HookedCannotEnd p e =
      BlamesOver (DownHolds link ahead b.side s)
      (λ r why. ClientBlames s r link why ⊎ CannotEnd s r b.side.told why) b.stopped b.told
      (calls_behind s.called b.log) p e

-- it told no error, or this one alone
abbrev pub TellsAlone : Behind → Error → Type 0
TellsAlone b e = (b.told.errors ≡ 0) ⊎ ((b.told.errors ≡ 1) × (b.told.last ≡ Some e))

module _ {L : Type 0} (state : L → LinkState) (start_at : L → LinkStart) (s : Origin)
    (up : PeerSide L) where
  -- the past of the peer's side holds
  abbrev pub PeerHolds : UpPast → Type 0
  PeerHolds q = IsPeerSide s (start_at up.client.link) (state up.client.link) up q

  -- the peer's side answers for the error
  abbrev pub PeerSideBlames : UpPast → Error → Type 0
  PeerSideBlames q e =
      (head : RequestHead) × (head_in up.client.request.request ≡ Some head)
      × PeerBlames (start_at up.client.link) (state up.client.link) head s.asked q e

-- the peer's link may be kept: both the duplex and the client of the peer say so
abbrev pub keeps_link : {L : Type 0} → Duplex → PeerSide L → Bool
keeps_link duplex up = may_keep duplex.kind duplex && may_keep_client up.client

-- the core of an exchange behind filters
abbrev pub hooked_core : {L : Type 0} → Duplex → Behind → PeerSide L → State
hooked_core duplex b up = core duplex (hooked_state b) (peer.state_of up)
