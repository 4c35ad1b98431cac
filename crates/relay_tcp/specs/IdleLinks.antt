-- The links that are kept, the one that has been idle for longest first.
use Rattle.std.specs.Prelude.{◌≡◌, ℕ, ◌+◌, ◌-◌, ◌≤◌, Bool, true, false, not, ◌&&◌, List, [], ◌∷◌, ◌++◌, length, drop, filter, bytes_eq, Option, Some, None}
use Rattle.std.specs.Bool.{beq}
use Rattle.relay_tasks.specs.declared.peer.Peer.{Peer}
use Rattle.relay_tcp.specs.declared.tcp_link.TcpLink.{TcpLink}
use Rattle.relay_tcp.specs.declared.idle.IdleLink.{IdleLink}
use Rattle.relay_tcp.specs.declared.idle.TheConstants.{MOST}
use Rattle.relay_tcp.specs.TcpLink.{IsUnused, IsSameConnection}

-- the link is one to the address of the peer, with TLS as there
abbrev pub is_for : Peer → IdleLink → Bool
is_for peer idle = beq idle.peer.tls peer.tls && bytes_eq idle.peer.address peer.address

-- the links to other peers
abbrev pub others_than : Peer → List IdleLink → List IdleLink
others_than peer links = filter (λ idle. not (is_for peer idle)) links

-- the links with one more as the last; past the bound the first ones give way
abbrev pub with_last : List IdleLink → IdleLink → List IdleLink
with_last links idle = drop (length links + 1 - MOST) (links ++ idle ∷ [])

-- a link is one of those that were kept, to the same address with TLS as there, and neither ended
-- nor failed before; it counts anew, as one that was used. Those to the peer behind it are gone,
-- and all others stay
pub record IsTaken (peer : Peer) (before : List IdleLink) (link : TcpLink)
    (after : List IdleLink) : Type 0 where
  pub older : List IdleLink
  pub idle : IdleLink
  pub newer : List IdleLink
  pub was_kept : before ≡ older ++ idle ∷ newer
  pub address : idle.peer.address ≡ peer.address
  pub tls : idle.peer.tls ≡ peer.tls
  pub connection : IsSameConnection idle.link link
  pub was_open : idle.link.ended ≡ false
  pub faultless : idle.link.faults ≡ 0
  pub unused : IsUnused link true
  pub stay : after ≡ older ++ others_than peer newer

-- the link that is taken; where none is, none to the peer is left
abbrev pub TakesLast : Peer → List IdleLink → Option TcpLink → List IdleLink → Type 0
TakesLast peer before (Some link) after = IsTaken peer before link after
TakesLast peer before None after = after ≡ others_than peer before

-- how many links were taken
abbrev pub taken_of : Option TcpLink → ℕ
taken_of (Some link) = 1
taken_of None = 0

-- so many of the links were taken, and others were let go of: the count of those on which bytes had
-- come did not fall, and rose by no more than the number of those that were let go of
pub record CountsUnasked (count : ℕ) (before : List IdleLink) (taken now : ℕ)
    (after : List IdleLink) : Type 0 where
  pub grows : count ≤ now
  pub bounded : now + length after + taken ≤ count + length before
