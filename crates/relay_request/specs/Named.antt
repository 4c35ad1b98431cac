-- Which peer an attempt is to reach: the one that the application named last (RFC 9110, section
-- 3.7).
use Rattle.std.specs.Prelude.{◌≡◌, List, [], ◌∷◌, Option, Some, None, if◌then◌else◌}
use Rattle.relay_tasks.specs.Hooks.{same_hook}
use Rattle.relay_tasks.specs.declared.Peer.{Peer}
use Rattle.relay_tasks.specs.declared.hook.Hook.TheVariants as hook
use Rattle.relay_tasks.specs.declared.log.Item.{Item}
use Rattle.relay_tasks.specs.declared.log.Item.TheVariants as item
use Rattle.relay_tasks.specs.declared.log.LogEntry.{LogEntry}

-- the peer of an item, where it is one
abbrev pub addressed : Item → Option Peer
addressed (item.Addressed peer reused) = Some peer
addressed other = None

-- the peer that a call named: `upstream_peer` alone names one
abbrev pub peer_of : LogEntry → Option Peer
peer_of e = if same_hook hook.UpstreamPeer e.hook then addressed e.output else None

-- the first where there is one, else the second
abbrev pub or_before : {A : Type 0} → Option A → Option A → Option A
or_before (Some a) other = Some a
or_before None other = other

-- the peer that the calls of a log named last
abbrev pub peer_in : List LogEntry → Option Peer
peer_in [] = None
peer_in (e ∷ es) = or_before (peer_in es) (peer_of e)

-- it is that one
abbrev pub IsNamed : List LogEntry → Peer → Type 0
IsNamed called peer = peer_in called ≡ Some peer
