-- Why the client's request and the upstream's response became done.
use Rattle.std.specs.Prelude.{◌≡◌, Bool, true, ◌||◌, ◌⊎◌}
use Rattle.relay_links.specs.declared.branch.Branch.TheVariants as branch
use Rattle.relay_core.specs.Sound.{ends_with}
use Rattle.relay_core.specs.Table.{State, enabled}

-- a tunnel ended: its client's request and response are done
pub record ClientTunnelEnds (new : State) : Type 0 where
  pub tunnel : new.down.upgraded ≡ true
  pub done : new.duplex.client_response.upstream_done ≡ true

-- a tunnel ended: its upstream's request and response are done
pub record UpstreamTunnelEnds (old new : State) : Type 0 where
  pub tunnel : old.down.upgraded ≡ true
  pub done : new.duplex.upstream_request_done ≡ true

-- why the client's request became done: its end was put, the request pipe was closed, or a tunnel
-- ended
abbrev pub EndsRequest : State → State → Type 0
EndsRequest old new =
    (new.down.request_ended ≡ true)
    ⊎ ((old.duplex.requests.closed ≡ true) ⊎ ClientTunnelEnds new)

-- why the upstream's response became done: the last task put ends it, or a tunnel ended
abbrev pub EndsResponse : State → State → Type 0
EndsResponse old new =
    (ends_with new.duplex.responses.tasks ≡ true) ⊎ UpstreamTunnelEnds old new

-- the client's half can write, take what the response pipe holds, or drop it
abbrev pub can_pass_on : State → Bool
can_pass_on s =
    enabled s branch.DownWrite || (enabled s branch.DownTake || enabled s branch.DownDrop)

-- the upstream half can write, take what the request pipe holds, or finish
abbrev pub can_send_on : State → Bool
can_send_on s =
    enabled s branch.UpWrite || (enabled s branch.UpTake || enabled s branch.UpFinish)
