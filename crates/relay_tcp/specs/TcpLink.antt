-- A link over a TCP connection: what it tells, and what it adds to the meaning of its answers.
use Rattle.std.specs.Prelude.{◌≡◌, Bool, false, None, ⊤}
use Rattle.std.specs.Borrow.{Lends, MutBor, Fml}
use Rattle.mio.specs.declared.net.stream.TcpStream.{TcpStream}
use Rattle.mio.specs.contracts.net.stream.TcpStream.{the_row as stream_row}
use Rattle.relay_tasks.specs.declared.error.RetryType.TheVariants.{ReusedOnly}
use Rattle.relay_tasks.specs.declared.fault.Fault.{Fault}
use Rattle.relay_links.specs.declared.link.Got.{Got}
use Rattle.relay_links.specs.declared.link.Got.TheVariants as got
use Rattle.relay_links.specs.declared.link.Put.{Put}
use Rattle.relay_links.specs.declared.link.Put.TheVariants as put
use Rattle.relay_links.specs.declared.link.UpKind.TheVariants as kind
use Rattle.relay_links.specs.Count.{up}
use Rattle.relay_links.specs.Link.{LinkState, LinkStart}
use Rattle.relay_tcp.specs.declared.tcp_link.TcpLink.{TcpLink}
use Rattle.relay_tcp.specs.contracts.tcp_link.TcpLink.{the_row as link_row}

-- the link's state: no content, and never silent
abbrev pub tcp_state : TcpLink → LinkState
tcp_state link = record {
  given = None;
  taken = None;
  read_faults = None;
  write_faults = None;
  waits = link.waits;
  used = link.used;
  faults = link.faults;
  ended = link.ended;
  silent_on_read = false;
  silent_on_write = false;
}

-- the link as it was made: it carries bytes
abbrev pub tcp_start : TcpLink → LinkStart
tcp_start link = record {
  kind = kind.H1;
  items = None;
  given = 0;
  taken = 0;
  read_faults = 0;
  write_faults = 0;
  waits = 0;
  used = 0;
  faults = 0;
  reused = link.reused;
}

-- the link has answered nothing, and is marked so
pub record IsUnused (link : TcpLink) (reused : Bool) : Type 0 where
  pub waits : link.waits ≡ 0
  pub used : link.used ≡ 0
  pub faults : link.faults ≡ 0
  pub ended : link.ended ≡ false
  pub marked : link.reused ≡ reused

-- both links are over one connection
pub record IsSameConnection (link other : TcpLink) : Type 0 where
  pub stream : other.stream ≡ link.stream
  pub seat : other.seat ≡ link.seat

-- once the borrow r ends, the link is as it was, over the stream that r shows last
abbrev pub LendsStream : MutBor TcpLink → MutBor TcpStream → Fml
LendsStream link r = Lends link_row stream_row link r (λ w. record link.now { stream = w })

-- the fault is counted once, and another attempt may help where the connection was used before
pub record CountsFault (before : LinkState) (fault : Fault) (after : LinkState) : Type 0 where
  pub once : after.faults ≡ up before.faults
  pub mark : fault.retry ≡ ReusedOnly

-- what a read of a socket is beside that of any link: never silent, and a fault is counted once
abbrev pub ReadsSocket : LinkState → LinkState → Got → Type 0
ReadsSocket before after (got.Bytes n) = ⊤
ReadsSocket before after got.NotReady = ⊤
ReadsSocket before after got.Silent = ⊥
ReadsSocket before after got.End = ⊤
ReadsSocket before after (got.Failed fault) = CountsFault before fault after

-- what a write of a socket is beside that of any link: never silent, takes no memory, and a fault
-- is counted once
abbrev pub WritesSocket : LinkState → LinkState → Put → Type 0
WritesSocket before after (put.Took n) = ⊤
WritesSocket before after put.NotReady = ⊤
WritesSocket before after put.Silent = ⊥
WritesSocket before after put.OutOfMemory = ⊥
WritesSocket before after (put.Failed fault) = CountsFault before fault after
