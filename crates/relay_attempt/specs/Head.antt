-- How an exchange begins over HTTP/1 links, its link, and whether that may be kept.
use Rattle.std.specs.Prelude.{◌≡◌, Bool, ◌&&◌, Result, Err}
use Rattle.relay_tasks.specs.declared.error.Fail.{Fail}
use Rattle.relay_peer.specs.H1Client.{may_keep_client}
use Rattle.relay_exchange.specs.Exchange.{may_keep_at}
use Rattle.relay_attempt.specs.declared.h1_exchange.H1Exchange.{H1Exchange}
use Rattle.relay_attempt.specs.declared.h1_exchange.Unbegun.{Unbegun}

-- the link to the peer
abbrev pub link_of : {L : Type 0} → H1Exchange L → L
link_of x = x.exchange.up.inner.client.link

-- the exchange was not begun, for that reason
abbrev pub IsRefusedFor : {L : Type 0} → Result (H1Exchange L) (Unbegun L) → Fail → Type 0
IsRefusedFor {L} result why = (unbegun : Unbegun L) × (result ≡ Err unbegun) × (unbegun.why ≡ why)

-- the link may be kept: not while the head is being sent, and then where both the duplex and the
-- client of the peer say so
abbrev pub may_keep : {L : Type 0} → H1Exchange L → Bool
may_keep x =
    may_keep_at x.exchange.stage x.exchange.duplex && may_keep_client x.exchange.up.inner.client
