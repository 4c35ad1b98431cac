-- The peer's side of one request on an HTTP/1 link: whether its link may be kept.
use Rattle.std.specs.Prelude.{Bool, true, false, not, ◌&&◌}
use Rattle.relay_links.specs.declared.link.Put.{Put}
use Rattle.relay_links.specs.declared.link.Put.TheVariants as put
use Rattle.relay_peer.specs.declared.h1_client.H1Client.{H1Client}
use Rattle.relay_peer.specs.RequestWriting.{may_keep_writing}
use Rattle.relay_peer.specs.ResponseReading.{may_keep_reading}

-- the write failed
abbrev pub is_fault : Put → Bool
is_fault (put.Took n) = false
is_fault put.NotReady = false
is_fault put.Silent = false
is_fault (put.Failed fault) = true
is_fault put.OutOfMemory = false

-- request and response have both ended, all was taken, no byte past the response was read, both
-- heads and the framing let the link be kept, and no call failed (RFC 9112, section 9.3)
abbrev pub may_keep_client : {L : Type 0} → H1Client L → Bool
may_keep_client client =
    may_keep_writing client.request && (may_keep_reading client.response && not client.failed)
