-- An exchange behind filters as a struct holds it: both sides, its link, and whether that may be
-- kept.
use Rattle.std.specs.Prelude.{Bool, false, ◌&&◌, List}
use Rattle.relay_tasks.specs.declared.log.LogEntry.{LogEntry}
use Rattle.relay_core.specs.Down.{DownState}
use Rattle.relay_core.specs.Past.{Origin}
use Rattle.relay_core.specs.Table.{State, core}
use Rattle.relay_core.specs.declared.duplex.Duplex.{Duplex}
use Rattle.relay_exchange.specs.Exchange.{may_keep_at}
use Rattle.relay_filters.specs.Hooked.{state_of_side, state_over}
use Rattle.relay_filters.specs.declared.rested.Rested.{Rested}
use Rattle.relay_peer.specs.H1Client.{may_keep_client}
use Rattle.relay_peer.specs.Peer as peer
use Rattle.relay_peer.specs.declared.peer_side.PeerSide.{PeerSide}
use Rattle.relay_hooked.specs.Calls.{Filtering}
use Rattle.relay_hooked.specs.Sides.{Behind, filtering}
use Rattle.relay_hooked.specs.declared.exchange.HookedExchange.{HookedExchange}

-- the link to the peer
abbrev pub link_of : {L : Type 0} → HookedExchange L → L
link_of x = x.exchange.up.client.link

-- the link may be kept: not while the head is being sent, and then where both the duplex and the
-- client of the peer say so
abbrev pub may_keep : {L : Type 0} → HookedExchange L → Bool
may_keep x =
    may_keep_at x.exchange.stage x.exchange.duplex && may_keep_client x.exchange.up.client

-- the client's side behind filters, as the laws speak of it, by the log, whether modules stand, and
-- what is held of it between turns
abbrev pub behind : List LogEntry → Bool → Rested → Behind
behind log stand u = record {
  side = u.inner;
  log = log;
  of_head = u.of_head;
  at_first = u.at_first;
  ended = u.ended;
  refused = u.refused;
  stood = u.stood;
  stand = stand;
  was_done = u.was.body_done;
  stopped = u.stopped;
  told = u.told;
}

-- its calls since its exchange began, and what it tells of them
abbrev pub filtering_of : Origin → List LogEntry → Rested → Filtering
filtering_of s log u = filtering s (behind log false u)

-- its state
abbrev pub side_state : List LogEntry → Rested → DownState
side_state log u = state_over (state_of_side u.inner) u.ended u.stopped u.was u.told log

-- the core of an exchange between these sides
abbrev pub core_of : {L : Type 0} → List LogEntry → Duplex → Rested → PeerSide L → State
core_of log duplex u up = core duplex (side_state log u) (peer.state_of up)

-- the core of an exchange, by the log
abbrev pub core_in : {L : Type 0} → List LogEntry → HookedExchange L → State
core_in log x = core_of log x.exchange.duplex x.down x.exchange.up
