-- An exchange so far over HTTP/1 links, and what a turn makes of it.
use Rattle.std.specs.List.{list_any}
use Rattle.std.specs.Prelude.{◌≡◌, ◌↔◌, IsTrue, ℕ, true, false, ◌⊎◌, ◌≤◌, List, [], Option, Some}
use Rattle.relay_tasks.specs.declared.error.Error.{Error}
use Rattle.relay_tasks.specs.declared.error.Fail.TheVariants as fail
use Rattle.relay_tasks.specs.declared.fault.Fault.{Fault}
use Rattle.relay_tasks.specs.Head.{RequestHead}
use Rattle.relay_links.specs.Count.{Rose}
use Rattle.relay_links.specs.Link.{LinkState, LinkStart}
use Rattle.relay_links.specs.Told.{Since}
use Rattle.relay_links.specs.declared.branch.Branch.{Branch}
use Rattle.relay_peer.specs.RequestWriting.{head_in}
use Rattle.relay_session.specs.Asked.{request_of}
use Rattle.relay_session.specs.Reading.{is_body_done, IsWhole}
use Rattle.relay_session.specs.Response.{Holds}
use Rattle.relay_session.specs.declared.writing.Outgoing.TheVariants as outgoing
use Rattle.relay_core.specs.Down.{DownState}
use Rattle.relay_core.specs.Past.{Origin, DownPast, UpPast}
use Rattle.relay_core.specs.Table.{State, core}
use Rattle.relay_core.specs.Uses as uses
use Rattle.relay_core.specs.declared.duplex.Duplex.{Duplex}
use Rattle.relay_core.specs.declared.step.Step.{Step}
use Rattle.relay_core.specs.declared.step.Step.TheVariants as step
use Rattle.relay_sides.specs.Client.{IsClient, IsSide, FailsWrite}
use Rattle.relay_sides.specs.Client as client
use Rattle.relay_peer.specs.Body.{body_of}
use Rattle.relay_peer.specs.Faults.{TellsSince}
use Rattle.relay_peer.specs.Peer.{IsPeerSide, PeerBlames}
use Rattle.relay_peer.specs.Peer as peer
use Rattle.relay_sides.specs.declared.client_side.ClientSide.{ClientSide}
use Rattle.relay_sides.specs.Filtered.{BlamesOver, IsFiltered, asks_to_close, state_over}
use Rattle.relay_sides.specs.declared.filtered.Filtered.{Filtered}
use Rattle.relay_peer.specs.declared.peer_side.PeerSide.{PeerSide}
use Rattle.relay_exchange.specs.Exchange.{IsSilentLink}
use Rattle.relay_exchange.specs.Exchange as over
use Rattle.relay_attempt.specs.declared.h1_exchange.H1Exchange.{H1Exchange}
use Rattle.relay_attempt.specs.Head.{link_of, may_keep}
use Rattle.relay_attempt.specs.Order.{IsInOrder, FailsFor, order_of, queued_in, IsRelayed, EndsEarly, HasEnded, Leaves, MayServe}
use Rattle.relay_attempt.specs.Passed.{Passed, asked}

-- the past of the client's side holds
abbrev pub DownHolds : LinkState → List ℕ → ClientSide → Origin → DownPast → Type 0
DownHolds link ahead side s p =
    IsSide s p link ahead side.session side.told side.done side.finished side.broken

-- the state of the client's side
abbrev pub down_state : ClientSide → DownState
down_state side = client.state_of side.session side.told side.done side.finished side.broken

module _ {L : Type 0} (state : L → LinkState) (start_at : L → LinkStart) where
  -- the past of the peer's side holds: that of the side over its link, and what was handed on
  abbrev pub UpHolds : Filtered (PeerSide L) → Origin → UpPast → Type 0
  UpHolds side s q =
      IsFiltered
      (λ r. IsPeerSide s (start_at side.inner.client.link) (state side.inner.client.link)
      side.inner r) s.sent.method side.of_head side.closes side.stopped side.told side.inner.told q

  -- the side over the link answers for the error
  abbrev pub BlamesInside : PeerSide L → Origin → UpPast → Error → Type 0
  BlamesInside side s q e =
      (head : RequestHead) × (head_in side.client.request.request ≡ Some head)
      × PeerBlames (start_at side.client.link) (state side.client.link) head s.asked q e

  -- the peer's side answers for the error
  abbrev pub Blames : Filtered (PeerSide L) → Origin → UpPast → Error → Type 0
  Blames side s q e = BlamesOver (λ r why. BlamesInside side.inner s r why) side.stopped q e

  -- the core of an exchange that moves bodies
  abbrev pub core_of : Duplex → ClientSide → Filtered (PeerSide L) → State
  core_of duplex down up =
      core duplex (down_state down)
      (state_over (peer.state_of up.inner) up.upgraded up.stopped up.told)

  -- the exchange so far, over all that passed: what was sent and written is in order, and it is
  -- under way between both sides, of which the client's told no error
  pub record IsUnderWay (s : Origin) (p : Passed) (link : LinkState) (ahead : List ℕ)
      (x : H1Exchange L) : Type 0 where
    pub order : IsInOrder s p (state (link_of x)).ended
    pub untold : x.down.told.errors ≡ 0
    pub down : DownPast
    pub up : UpPast
    pub came : down.came ≡ p.came
    pub written : down.written ≡ p.written
    pub got : up.got ≡ p.got
    pub sent : up.sent ≡ p.sent
    pub holds : over.IsUnderWay (DownHolds link ahead x.down s) (UpHolds x.exchange.up s)
        (Blames x.exchange.up s) (core_of x.exchange.duplex x.down x.exchange.up) down up

  -- what passed is told by both links, and the client's link tells its faults
  pub record AreTold (s : Origin) (p : Passed) (link peer_link : LinkState) (start : LinkStart)
      : Type 0 where
    pub came : Since [] s.given link.given p.came
    pub written : Since [] s.taken link.taken p.written
    pub faults : s.faults ≤ link.faults
    pub got : Since [] start.given peer_link.given p.got
    pub sent : Since [] start.taken peer_link.taken p.sent
    pub peer_faults : start.faults ≤ peer_link.faults
    pub reused : start.reused ≡ s.reused
    pub client_tells : TellsSince s.read_faults s.write_faults link

  -- both directions were relayed, which leaves both links so, and a session that answers the
  -- request
  pub record IsFinished (s : Origin) (p : Passed) (ahead : List ℕ) (x : H1Exchange L) : Type 0 where
    pub relayed : IsRelayed s p (state (link_of x)) (start_at (link_of x))
    pub answers : x.down.session.writing.request ≡ request_of s.head
    pub leaves : Leaves s p (state (link_of x)).ended relayed.order ahead
        (is_body_done x.down.session.reading) x.exchange.up.closes (may_keep x)
    -- a link of which a call failed is not kept
    pub faultless : may_keep x ≡ true
        → (state (link_of x)).faults ≡ (start_at (link_of x)).faults
    -- and one that may serve another request is, where none failed
    pub keeps : MayServe s p (state (link_of x)).ended relayed.order
        → ¬ (Rose (start_at (link_of x)).faults (state (link_of x)).faults)
        → may_keep x ≡ true

  -- the response was over towards the client before its end was read, which leaves both links so,
  -- and a session that answers the request. The peer's link is not kept
  pub record IsOverEarly (s : Origin) (p : Passed) (ahead : List ℕ) (x : H1Exchange L)
      : Type 0 where
    pub early : EndsEarly s p (state (link_of x)) (start_at (link_of x))
    pub answers : x.down.session.writing.request ≡ request_of s.head
    pub ended : IsTrue (is_body_done x.down.session.reading) ↔ HasEnded early.order
    pub behind : is_body_done x.down.session.reading ≡ true
        → IsWhole (asked s p) (body_of early.order.pieces) ahead
    pub closes : x.exchange.up.closes ≡ list_any asks_to_close early.order.read
    pub unkept : may_keep x ≡ false

  -- why it failed with that error, and the session that this leaves: it answers the request, with
  -- the tasks that were queued, of whose text so much was written; it has read so far; and where it
  -- keeps the fault of a write, the client's link has answered that since the request began
  pub record FailsWith (s : Origin) (p : Passed) (link : LinkState) (ahead : List ℕ)
      (x : H1Exchange L) (e : Error) : Type 0 where
    pub why : FailsFor s p link (state (link_of x)) (start_at (link_of x)) e
    pub answers : x.down.session.writing.request ≡ request_of s.head
    pub holds : Holds x.down.session.writing (queued_in (order_of why)) p.written
    pub broken : (fault : Fault)
        → x.down.session.writing.output ≡ outgoing.Broken fault
        → FailsWrite s link fault
    pub down : DownPast
    pub client : IsClient s down link ahead x.down.session
    pub came : down.came ≡ p.came

  -- what a turn made of it, by its answer: it goes on; both directions were relayed, or the
  -- response was over early; or it failed, for a cause
  abbrev pub ComesTo : Origin → Passed → LinkState → List ℕ → H1Exchange L → Step → Type 0
  ComesTo s p link ahead x step.Moved = IsUnderWay s p link ahead x
  ComesTo s p link ahead x (step.Waited pause) = IsUnderWay s p link ahead x
  ComesTo s p link ahead x step.Finished = IsFinished s p ahead x ⊎ IsOverEarly s p ahead x
  ComesTo s p link ahead x (step.Failed (fail.Error e)) =
      FailsWith s p link ahead x e
  ComesTo s p link ahead x (step.Failed fail.OutOfMemory) =
      IsInOrder s p (state (link_of x)).ended

  -- a turn went on to this
  pub record Turns (s : Origin) (link : LinkState) (ahead : List ℕ) (x : H1Exchange L)
      (result : Step) : Type 0 where
    pub passed : Passed
    pub told : AreTold s passed link (state (link_of x)) (start_at (link_of x))
    pub comes_to : ComesTo s passed link ahead x result

  -- all that can be done asks a link that is silent on it: the write of the head, or each branch
  -- that can be taken
  abbrev pub SilentIn : LinkState → H1Exchange L → Type 0
  SilentIn link x =
      over.SilentIn x.exchange.stage (core_of x.exchange.duplex x.down x.exchange.up) link
      (state (link_of x))

  -- a link of the exchange is silent
  abbrev pub IsSilent : LinkState → H1Exchange L → Type 0
  IsSilent link x = IsSilentLink link ⊎ IsSilentLink (state (link_of x))

  -- a turn met silence, and neither link changed
  pub record MeetsSilence (before after : LinkState) (old new : H1Exchange L) : Type 0 where
    pub silent : SilentIn after new
    pub client_same : after ≡ before
    pub peer_same : state (link_of new) ≡ state (link_of old)

  -- how a turn asked both links, by its answer: one of them once, or none
  abbrev pub Asks : Step → LinkState → LinkState → H1Exchange L → H1Exchange L → Type 0
  Asks result before after old new =
      uses.Asks result before after (state (link_of old)) (state (link_of new))

  -- what a turn moved, by its branch: a link was asked once, or none was and it moved a task or
  -- brought an end
  abbrev pub HasMoved : Option Branch → LinkState → LinkState → H1Exchange L → H1Exchange L
      → Type 0
  HasMoved branch before after old new =
      over.HasMoved branch
      (core_of old.exchange.duplex old.down old.exchange.up)
      (core_of new.exchange.duplex new.down new.exchange.up)
      before after (state (link_of old)) (state (link_of new))
