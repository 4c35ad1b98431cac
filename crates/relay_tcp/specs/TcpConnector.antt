-- A connector to a fixed address: what it tells, and what it adds to the meaning of its answers.
use Rattle.std.specs.Prelude.{◌≡◌, ◌⊎◌, ℕ, Bool, true, false, [], cond, nat_le, List, replicate, Option, Some, None, Result, Ok, Err}
use Rattle.std.specs.declared.net.SocketAddr.{SocketAddr}
use Rattle.relay_tasks.specs.declared.error.RetryType.TheVariants.{Decided}
use Rattle.relay_tasks.specs.declared.fault.Fault.{Fault}
use Rattle.relay_tasks.specs.declared.peer.Peer.{Peer}
use Rattle.relay_links.specs.Count.{last_count, up}
use Rattle.relay_links.specs.Link.{LinkState, LinkStart}
use Rattle.relay_messages.specs.NoMessages.{no_state, no_start}
use Rattle.relay_messages.specs.declared.no_messages.NoMessages.{NoMessages}
use Rattle.relay_connector.specs.Connector.{connect_fault}
use Rattle.relay_connector.specs.Upstream.{upstream_state, upstream_start}
use Rattle.relay_connector.specs.declared.upstream.Upstream.{Upstream}
use Rattle.relay_connector.specs.declared.upstream.Upstream.TheVariants.{H1, H2, Custom}
use Rattle.relay_tcp.specs.declared.tcp_link.TcpLink.{TcpLink}
use Rattle.relay_tcp.specs.declared.idle.IdleLink.{IdleLink}
use Rattle.relay_tcp.specs.declared.tcp_connector.TcpConnector.{TcpConnector}
use Rattle.relay_tcp.specs.TcpLink.{tcp_state, tcp_start, IsUnused}
use Rattle.relay_tcp.specs.IdleLinks.{others_than, with_last, IsTaken}

-- a link as the connector hands it out
abbrev pub TcpUpstream : Type 0
TcpUpstream = Upstream TcpLink NoMessages NoMessages

-- its state
abbrev pub any_state : TcpUpstream → LinkState
any_state = upstream_state tcp_state no_state no_state

-- and as it was made
abbrev pub any_start : TcpUpstream → LinkStart
any_start = upstream_start tcp_start no_start no_start

-- the link is one of bytes, and it is so
abbrev pub OfBytes : TcpUpstream → (TcpLink → Type 0) → Type 0
OfBytes (H1 link) meets = meets link
OfBytes (H2 link) meets = ⊥
OfBytes (Custom link) meets = ⊥

-- how many links are out
abbrev pub links_out : {R : Type 0} → TcpConnector R → ℕ
links_out connector = connector.out

-- how many calls failed
abbrev pub gets_failed : {R : Type 0} → TcpConnector R → ℕ
gets_failed connector = connector.faults

-- the faults that the connector answered, which are all the same; not told once the count stands
-- still
abbrev pub faults_answered : {R : Type 0} → TcpConnector R → Option (List Fault)
faults_answered connector =
    cond (nat_le last_count connector.faults) None
    (Some (replicate connector.faults (connect_fault (Decided false))))

-- the links that came back and are kept, the one that has been idle for longest first
abbrev pub links_kept : {R : Type 0} → TcpConnector R → List IdleLink
links_kept connector = connector.idle.links.items

-- how often it was told to prefer HTTP/1
abbrev pub times_preferred : {R : Type 0} → TcpConnector R → ℕ
times_preferred connector = connector.preferred

-- how many links were let go of because bytes had come on them while they were kept
abbrev pub links_unasked : {R : Type 0} → TcpConnector R → ℕ
links_unasked connector = connector.idle.unasked

-- no link is out or kept, no call failed, all counts are 0, and links go to that address
pub record IsNew {R : Type 0} (connector : TcpConnector R) (address : SocketAddr) : Type 0 where
  pub out : links_out connector ≡ 0
  pub kept : links_kept connector ≡ []
  pub faults : gets_failed connector ≡ 0
  pub preferred : times_preferred connector ≡ 0
  pub unasked : links_unasked connector ≡ 0
  pub aim : connector.address ≡ address

-- what a get of a socket is beside that of any connector: a link is one of bytes and unused, and a
-- fault is counted once and not to be retried; the counts are those of faults
abbrev pub OpensSocket : ℕ → ℕ → Result (TcpUpstream × Bool) Fault → Type 0
OpensSocket before after (Ok got) = OfBytes got.0 (λ link. IsUnused link got.1)
OpensSocket before after (Err fault) =
    (fault ≡ connect_fault (Decided false)) × (after ≡ up before)

-- a link that is handed out as reused is the last one to the peer that was kept and still stands.
-- Where one is handed out as new, none to the peer stood, and none is kept
abbrev pub Reuses : Bool → Peer → List IdleLink → TcpLink → List IdleLink → Type 0
Reuses true peer before link after = IsTaken peer before link after
Reuses false peer before link after = after ≡ others_than peer before

-- which of the links that were kept is handed out, and which stay
abbrev pub HandsOut : Peer → List IdleLink → Result (TcpUpstream × Bool) Fault → List IdleLink
    → Type 0
HandsOut peer before (Ok got) after = OfBytes got.0 (λ link. Reuses got.1 peer before link after)
HandsOut peer before (Err fault) after = (after ≡ before) ⊎ (after ≡ others_than peer before)

-- how many of the links that were kept are handed out: the one that is marked as reused
abbrev pub reused_of : Result (TcpUpstream × Bool) Fault → ℕ
reused_of (Ok got) = cond got.1 1 0
reused_of (Err fault) = 0

-- the links that are kept once this one came back: where it is of bytes and to be kept, it is the
-- last of them
abbrev pub kept_after : List IdleLink → Peer → TcpUpstream → Bool → List IdleLink
kept_after links peer (H1 link) true = with_last links (record { peer = peer; link = link })
kept_after links peer (H1 link) false = links
kept_after links peer (H2 link) keep = links
kept_after links peer (Custom link) keep = links
