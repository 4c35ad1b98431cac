-- The halves of an attempt behind filters: one over the client, whose pieces and tasks pass the
-- filters of an application, and one over the upstream's own side.
use Rattle.std.specs.Prelude.{◌≡◌, All, ℕ, Bool, true, false, ◌≤◌, List, [], ◌++◌, drop, Some, None}
use Rattle.std.specs.List.{list_any}
use Rattle.relay_tasks.specs.declared.task.HttpTask.{HttpTask}
use Rattle.relay_tasks.specs.Head.{ResponseHead}
use Rattle.relay_tasks.specs.Task.{is_end}
use Rattle.relay_links.specs.Link.{LinkState, LinkStart}
use Rattle.relay_links.specs.Told.{Since}
use Rattle.relay_h1.specs.declared.framing.Framing.{Framing}
use Rattle.relay_h1.specs.Verdict.{HasRequest}
use Rattle.relay_peer.specs.RequestWriting.{sent_wire}
use Rattle.relay_peer.specs.Body.{IsFrontOf, sent_as}
use Rattle.relay_peer.specs.Faults.{TellsSince}
use Rattle.relay_peer.specs.Peer.{told_of}
use Rattle.relay_session.specs.Asked.{request_of}
use Rattle.relay_session.specs.Response.{is_over}
use Rattle.relay_session.specs.TaskWire.{wire}
use Rattle.relay_session.specs.declared.task_text.Place.TheVariants as place
use Rattle.relay_core.specs.Past.{Origin, DownPast, UpPast}
use Rattle.relay_core.specs.Pipe.{is_failure}
use Rattle.relay_calls.specs.Log.{requests_in}
use Rattle.relay_sides.specs.Client.{HaveSome}
use Rattle.relay_sides.specs.Filtered.{is_head_request}
use Rattle.relay_filters.specs.Hooked.{TakesOn}
use Rattle.relay_filters.specs.Request.{InChains, PassesRequest, pieces_in}
use Rattle.relay_filters.specs.Response.{MakesOf}
use Rattle.relay_attempt.specs.Order.{ArePieces}
use Rattle.relay_hooked.specs.Calls.{Filtering, IsFilter}
use Rattle.relay_hooked.specs.Order.{AreSaid}

-- the client's half, over a link with sessions of HTTP/1: its bytes begin with the head of the
-- request, and its pieces, as they came, are the front of the body behind it, each with some of it
-- or its end. What was put is what the filters of requests left of them by these calls, those of
-- each piece as one, and what was queued is what the filters of responses made of the tasks that
-- were given; what was written is the front of the text of what was queued and of the ends that
-- were asked for, no failure among them. A response that is done is over. Each of the calls is a
-- filter's
pub record HookedHalf
    (f : Filtering) (o : Origin) (client : LinkState) (ended done : Bool) (p : DownPast)
    : Type 0 where
  pub are_filters : All IsFilter f.calls
  pub came : Since [] o.given client.given p.came
  pub written : Since [] o.taken client.taken p.written
  pub faults : o.faults ≤ client.faults
  pub tells : TellsSince o.read_faults o.write_faults client
  pub framing : Framing
  pub len : ℕ
  pub asks : HasRequest (o.ahead ++ p.came) o.head framing len
  pub pieces : List HttpTask
  pub are_pieces : ArePieces framing (drop len (o.ahead ++ p.came)) pieces
  pub some : HaveSome pieces
  pub chains : InChains (requests_in f.calls) (f.stopped ≡ None)
  pub passed : PassesRequest f.at_first ended (pieces_in f.calls) (f.stopped ≡ None) pieces p.put
  pub queued : List HttpTask
  pub makes : MakesOf (is_head_request o.head.method) f.stood f.calls
      (TakesOn f.stopped f.refused) p.batched queued
  pub plain : list_any is_failure queued ≡ false
  pub plain_end : list_any is_failure p.closing ≡ false
  pub over : done ≡ true → is_over (wire (request_of o.head) place.NoHead queued).place ≡ true
  pub is_written : IsFrontOf p.written
      (wire (request_of o.head) place.NoHead (queued ++ p.closing)).text

-- the upstream's half, over a link of HTTP/1: the tasks that it gave are those of the response that
-- its bytes say, as the peer gave them, which ends behind a final head; what was sent is the front
-- of the text of the head that is sent and of the pieces that it was given
pub record PeerHalf (o : Origin) (start : LinkStart) (link : LinkState) (q : UpPast) : Type 0 where
  pub got : Since [] start.given link.given q.got
  pub sent : Since [] start.taken link.taken q.sent
  pub faults : start.faults ≤ link.faults
  pub reused : start.reused ≡ o.reused
  pub are_said : AreSaid o.sent.method o.asked link.ended q.got q.read
  pub headed : list_any is_end q.read ≡ true
      → (head : ResponseHead) × ((told_of q.read).final ≡ Some head)
  pub is_sent : IsFrontOf q.sent (sent_wire (sent_as o.sent q.taken))
