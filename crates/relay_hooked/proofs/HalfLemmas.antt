-- What both sides of an exchange behind filters hold is a half of an attempt.
--
--   hooked_half   from IsHooked over the client's side: the client's half
--   peer_half     from IsPeerSide: the upstream's half
--   own_blames    the peer's side answers for an error by the head that is sent
use Rattle.std.proofs.Common.{◌≡◌, ℕ, Bool, true, List, [], ◌∷◌, ◌++◌, length, drop, refl, sym, ap, subst, ◌∙◌, append-nil, Some, None}
use Rattle.std.specs.List.{list_any}
use Rattle.std.proofs.Math.Seq.{drop-append_seam}
use Rattle.relay_tasks.specs.declared.error.Error.{Error}
use Rattle.relay_tasks.specs.declared.log.LogEntry.{LogEntry}
use Rattle.relay_tasks.specs.declared.task.HttpTask.{HttpTask}
use Rattle.relay_tasks.specs.declared.task.HttpTask.TheVariants as task
use Rattle.relay_tasks.specs.Head.{RequestHead, ResponseHead}
use Rattle.relay_tasks.specs.Task.{is_end}
use Rattle.relay_links.specs.Link.{LinkState, LinkStart}
use Rattle.relay_peer.specs.RequestWriting.{sent_wire}
use Rattle.relay_peer.specs.Body.{IsFrontOf, sent_as}
use Rattle.relay_peer.specs.Body as body
use Rattle.relay_peer.specs.Peer.{AreTasks, IsPeerSide, PeerBlames, told_of}
use Rattle.relay_peer.specs.declared.peer_side.PeerSide.{PeerSide}
use Rattle.relay_peer.proofs.FrontLemmas.{front_then}
use Rattle.relay_peer.proofs.TaskLemmas.{ended_whole}
use Rattle.relay_session.specs.Response.{is_over}
use Rattle.relay_session.specs.TaskWire.{wire}
use Rattle.relay_session.specs.declared.task_text.Place.TheVariants as place
use Rattle.relay_session.specs.declared.task_text.Request.{Request}
use Rattle.relay_core.specs.Past.{Origin, DownPast, UpPast}
use Rattle.relay_calls.specs.Log.{requests_in}
use Rattle.relay_sides.specs.Filtered.{is_head_request}
use Rattle.relay_filters.specs.Hooked.{TakesOn, inside}
use Rattle.relay_filters.specs.Request as request
use Rattle.relay_filters.specs.Request.{InChains, PassesRequest, pieces_in}
use Rattle.relay_filters.specs.Response.{MakesOf}
use Rattle.relay_attempt.specs.Exchange.{DownHolds}
use Rattle.relay_attempt.proofs.OrderLemmas.{answers_own, front_own, own_request, pieces_said}
use Rattle.relay_attempt.proofs.ToldLemmas.{given_body, given_final, given_informed}
use Rattle.relay_hooked.specs.Attempt.{HookedHalf, PeerHalf}
use Rattle.relay_hooked.specs.Calls.{calls_behind}
use Rattle.relay_hooked.specs.Order.{AreSaid}
use Rattle.relay_hooked.specs.Sides.{Behind, HookedHolds, PeerHolds, PeerSideBlames, filtering}
use Rattle.relay_hooked.proofs.KindLemmas.{calls_filters}

-- ---- the body that came

-- the bytes of a task are the same for the filters
bytes_same : (t : HttpTask) → request.bytes_of t ≡ body.bytes_of t
bytes_same (task.Header head end) = refl
bytes_same (task.Body bytes end) = refl
bytes_same (task.UpgradedBody bytes end) = refl
bytes_same (task.Trailer fields) = refl
bytes_same task.Done = refl
bytes_same (task.Failed error) = refl

-- and so are those of tasks
pub body_same : (tasks : List HttpTask) → request.body_of tasks ≡ body.body_of tasks
body_same [] = refl
body_same (t ∷ tasks) = rw (bytes_same t, body_same tasks) refl

-- ---- the calls

-- the calls behind those before
pub own_calls : (called own log : List LogEntry) → log ≡ called ++ own
    → own ≡ calls_behind called log
own_calls called own log parts =
    sym (drop-append_seam called own)
    ∙ ap (λ (l : List LogEntry). drop (length called) l) (sym parts)

-- ---- the client's half

-- what the side behind filters holds, of which these tasks were queued that the filters made by its
-- calls, is the client's half
module _
    (link : LinkState) (ahead : List ℕ) (s : Origin) (b : Behind) (p : DownPast)
    (h : HookedHolds link ahead s b p)
  where
    -- the half, by tasks with which the client's side holds too
    abbrev pub half_with : (came queued : List HttpTask)
        → DownHolds link ahead b.side s (inside p came queued) → (own : List LogEntry)
        → b.log ≡ s.called ++ own
        → MakesOf b.of_head b.stood own (TakesOn b.stopped b.refused) p.batched queued
        → HookedHalf (filtering s b) s link b.ended b.side.done p
    half_with came queued holds own parts makes =
        let inner = inside p came queued in
        let session = b.side.session in
        let c = h.passed.holds.passed.client in
        let d = holds.passed.client in
        record {
          are_filters =
              calls_filters b.of_head b.stopped (calls_behind s.called b.log) h.calls;
          came = c.came;
          written = c.written;
          faults = c.faults;
          tells = c.tells;
          framing = c.framing;
          len = c.len;
          asks = own_request s (inside p h.passed.came h.passed.queued) link ahead session c;
          pieces = h.passed.came;
          are_pieces =
              pieces_said s (inside p h.passed.came h.passed.queued) link ahead session c
              (h.passed.request refl).ends_last;
          some = c.some;
          chains =
              subst (λ (es : List LogEntry). InChains (requests_in es) (b.stopped ≡ None))
              (own_calls s.called h.passed.own b.log h.passed.parts) h.passed.chains;
          passed =
              subst (λ (es : List LogEntry).
              PassesRequest b.at_first b.ended (pieces_in es) (b.stopped ≡ None) h.passed.came
              p.put)
              (own_calls s.called h.passed.own b.log h.passed.parts) (h.passed.request refl);
          queued = queued;
          makes =
              subst (λ (es : List LogEntry).
              MakesOf (is_head_request s.head.method) b.stood es (TakesOn b.stopped b.refused)
              p.batched queued) (own_calls s.called own b.log parts)
              (subst (λ (of_head : Bool).
              MakesOf of_head b.stood own (TakesOn b.stopped b.refused) p.batched queued)
              h.passed.is_of_head makes);
          plain = holds.passed.plain;
          plain_end = holds.passed.plain_end;
          over = λ is.
              subst (λ (r : Request). is_over (wire r place.NoHead queued).place ≡ true)
              (answers_own s inner link ahead session d) (holds.passed.over is);
          is_written = front_own s inner link ahead session d;
        }

    -- the half, by the tasks that it names
    abbrev pub hooked_half : HookedHalf (filtering s b) s link b.ended b.side.done p
    hooked_half =
        half_with h.passed.came h.passed.queued h.passed.holds h.passed.own h.passed.parts
        h.passed.response

-- ---- the upstream's half

-- what the peer's side holds is its half
module _
    {L : Type 0} (s : Origin) (start : LinkStart) (link : LinkState) (side : PeerSide L)
    (q : UpPast) (h : IsPeerSide s start link side q)
  where
    -- what was sent is the front of what the pieces are sent as
    pub sent_front : IsFrontOf q.sent (sent_wire (sent_as s.sent q.taken))
    sent_front =
        let u = h.peer in
        subst (λ (a : RequestHead). IsFrontOf q.sent (sent_wire (sent_as a q.taken))) u.own
        (front_then q.sent (sent_wire u.sending) (sent_wire (sent_as u.head q.taken))
        (record { rest = side.client.request.unsent; joined = u.so_far.text }) u.queued.front)

    -- the tasks that came, for the method that was sent
    pub tasks_came : AreTasks s.sent.method s.asked link.ended q.got q.read side.client.response
    tasks_came =
        subst (λ (a : RequestHead).
        AreTasks a.method s.asked link.ended q.got q.read side.client.response) h.peer.own
        h.peer.tasks

    -- the same, with none withheld
    none_back : AreTasks s.sent.method s.asked link.ended q.got (q.read ++ []) side.client.response
    none_back =
        subst (λ (l : List HttpTask).
        AreTasks s.sent.method s.asked link.ended q.got l side.client.response)
        (sym (append-nil q.read)) tasks_came

    -- they are those of the response
    pub said : AreSaid s.sent.method s.asked link.ended q.got q.read
    said =
        let method = s.sent.method in
        let client = side.client.response in
        record {
          follow = tasks_came.follow;
          informed = given_informed method s.asked link.ended q.got q.read [] client none_back;
          final = λ head is.
              let there = given_final method s.asked link.ended q.got q.read [] client none_back
              head is in
              (there.framing, there.len, there.has);
          body = given_body method s.asked link.ended q.got q.read [] client none_back;
          ends_last = tasks_came.ends_last;
          whole = λ ends.
              let all = ended_whole method s.asked q.got link.ended q.read client tasks_came ends in
              (all.place, all.whole);
          framed = tasks_came.framed;
          reading = client;
          are_tasks = tasks_came;
        }

    -- an end among them stands behind a final head
    pub headed : list_any is_end q.read ≡ true
        → (head : ResponseHead) × ((told_of q.read).final ≡ Some head)
    headed ends =
        let all = ended_whole s.sent.method s.asked q.got link.ended q.read side.client.response
        tasks_came ends in
        (all.head, all.final)

    -- so this is the upstream's half
    abbrev pub peer_half : PeerHalf s start link q
    peer_half = record {
      got = h.peer.got;
      sent = h.peer.sent;
      faults = h.peer.faults;
      reused = h.reused;
      are_said = said;
      headed = headed;
      is_sent = sent_front;
    }

-- ---- the peer's side

-- one head
same_head : (a b : RequestHead) → Some a ≡ Some b → a ≡ b
same_head a b same = cc

-- the peer's side answers for the error, by the head that is sent
pub own_blames : {L : Type 0} (state : L → LinkState) (start_at : L → LinkStart) (s : Origin)
    (up : PeerSide L) (q : UpPast) → PeerHolds state start_at s up q → (e : Error)
    → PeerSideBlames state start_at s up q e
    → PeerBlames (start_at up.client.link) (state up.client.link) s.sent s.asked q e
own_blames state start_at s up q h e blames =
    let u = h.peer in
    subst (λ (a : RequestHead).
    PeerBlames (start_at up.client.link) (state up.client.link) a s.asked q e)
    (same_head blames.0 u.head (sym blames.1 ∙ u.is_head) ∙ u.own) blames.2
