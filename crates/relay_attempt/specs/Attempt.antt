-- An attempt at a request: a half over the client, and a half over the upstream, each of which took
-- the front of what the other put.
use Rattle.std.specs.Prelude.{◌≡◌, ℕ, Bool, true, false, ◌⊎◌, ◌≤◌, List, [], ◌++◌, drop, Option, Some}
use Rattle.std.specs.List.{list_any}
use Rattle.relay_tasks.specs.declared.error.Error.{Error}
use Rattle.relay_tasks.specs.declared.task.HttpTask.{HttpTask}
use Rattle.relay_tasks.specs.Head.{ResponseHead}
use Rattle.relay_tasks.specs.Task.{is_end}
use Rattle.relay_links.specs.Link.{LinkState, LinkStart}
use Rattle.relay_links.specs.Told.{Since}
use Rattle.relay_h1.specs.declared.framing.Framing.{Framing}
use Rattle.relay_h1.specs.Verdict.{HasRequest}
use Rattle.relay_peer.specs.RequestWriting.{sent_wire}
use Rattle.relay_session.specs.Asked.{request_of}
use Rattle.relay_session.specs.Response.{is_over}
use Rattle.relay_session.specs.TaskWire.{wire}
use Rattle.relay_session.specs.declared.task_text.Place.TheVariants as place
use Rattle.relay_core.specs.Down.{DownState}
use Rattle.relay_core.specs.Moves.{EndsLast, failure_task}
use Rattle.relay_core.specs.Past.{Origin, DownPast, UpPast}
use Rattle.relay_core.specs.Pipe.{is_failure}
use Rattle.relay_peer.specs.Body.{IsFrontOf, sent_as}
use Rattle.relay_sides.specs.Client.{queued}
use Rattle.relay_peer.specs.Faults.{TellsSince}
use Rattle.relay_peer.specs.Peer.{told_of}
use Rattle.relay_attempt.specs.Order.{ArePieces, AreOf}

-- what passed through both sides, whatever they are: the upstream was given the front of the pieces
-- that the client's side put, and the client the front of the tasks that the upstream gave, behind
-- which a failure may have been refused. Without a tunnel nothing is put behind the end of the
-- request, and an end of the response is asked for only behind one among its tasks, or where the
-- client's side said that the response is done
pub record IsAttempt
    (down : DownPast → Type 0) (up : UpPast → Type 0) (side : DownState) : Type 0 where
  pub p : DownPast
  pub q : UpPast
  pub is_down : down p
  pub is_up : up q
  pub requests : IsFrontOf q.taken p.put
  pub given : List HttpTask
  pub refused : Option Error
  pub batched : p.batched ≡ given ++ failure_task refused
  pub responses : IsFrontOf given q.read
  pub ends_last : side.upgraded ≡ false → EndsLast p.put
  pub asked : side.upgraded ≡ false
      → (p.closing ≡ [])
      ⊎ ((list_any is_end p.batched ≡ true) ⊎ (side.response_done ≡ true))

-- the client's half, over a link with sessions of HTTP/1: its bytes begin with the head of the
-- request, and the pieces that were put are the front of the body behind it. What was written is
-- the front of the text of what was queued, no failure among it; a response that is done is over
pub record DownHalf (o : Origin) (client : LinkState) (done : Bool) (p : DownPast) : Type 0 where
  pub came : Since [] o.given client.given p.came
  pub written : Since [] o.taken client.taken p.written
  pub faults : o.faults ≤ client.faults
  pub tells : TellsSince o.read_faults o.write_faults client
  pub framing : Framing
  pub len : ℕ
  pub asks : HasRequest (o.ahead ++ p.came) o.head framing len
  pub are_pieces : EndsLast p.put → ArePieces framing (drop len (o.ahead ++ p.came)) p.put
  pub plain : list_any is_failure p.batched ≡ false
  pub plain_end : list_any is_failure p.closing ≡ false
  pub over : done ≡ true → is_over (wire (request_of o.head) place.NoHead p.batched).place ≡ true
  pub is_written : IsFrontOf p.written (wire (request_of o.head) place.NoHead (queued p)).text

-- the upstream's half, over a link of HTTP/1: the tasks that it gave are those of the response that
-- its bytes say, which ends behind a final head; what was sent is the front of the text of the head
-- that is sent and of the pieces that it was given
pub record UpHalf (o : Origin) (start : LinkStart) (link : LinkState) (q : UpPast) : Type 0 where
  pub got : Since [] start.given link.given q.got
  pub sent : Since [] start.taken link.taken q.sent
  pub faults : start.faults ≤ link.faults
  pub reused : start.reused ≡ o.reused
  pub are_of : AreOf o.sent.method o.asked link.ended q.got q.read
  pub headed : list_any is_end are_of.given ≡ true
      → (head : ResponseHead) × ((told_of are_of.given).final ≡ Some head)
  pub is_sent : IsFrontOf q.sent (sent_wire (sent_as o.sent q.taken))
