-- What both sides hold is in order: the order of an exchange from an attempt between its halves.
--
--   down_half        from HasPassed: the client's half
--   up_half          from IsPeer: the upstream's half
--   order_of         from an attempt between both halves: IsInOrder, whose pieces, taken, read,
--                    batched and closing are those of the pasts, by computing
--   told_of_attempt  the same for AreTold
--   attempt_so_far   from SoFar: that attempt
--   order_so_far     so its order
use Rattle.std.proofs.Common.{◌≡◌, ℕ, ◌-◌, Bool, true, false, ◌⊎◌, List, [], ◌∷◌, ◌++◌, length, drop, map, refl, sym, ap, subst, ◌∙◌, append-nil, inl, inr, Option, Some, None}
use Rattle.std.specs.Prelude.{IsSome}
use Rattle.std.specs.List.{list_any}
use Rattle.relay_tasks.specs.declared.error.Error.{Error}
use Rattle.relay_tasks.specs.declared.error.Fail.TheVariants as fail
use Rattle.relay_tasks.specs.declared.fault.Fault.{Fault}
use Rattle.relay_tasks.specs.declared.task.HttpTask.{HttpTask}
use Rattle.relay_tasks.specs.declared.task.HttpTask.TheVariants as task
use Rattle.relay_tasks.specs.Head.{RequestHead, ResponseHead}
use Rattle.relay_tasks.specs.Task.{is_end}
use Rattle.relay_links.specs.Link.{LinkState, LinkStart}
use Rattle.relay_h1.specs.declared.framing.Framing.{Framing}
use Rattle.relay_h1.specs.Body.{BodyText, Body, behind, ended_text}
use Rattle.relay_h1.specs.Body as body
use Rattle.relay_h1.specs.BodyReader.{Reads}
use Rattle.relay_h1.specs.declared.body_reader.State.{State}
use Rattle.relay_h1.specs.declared.body_reader.State.TheVariants as state
use Rattle.relay_h1.specs.Verdict.{HasRequest}
use Rattle.relay_h1.proofs.BodyLemmas.{Body-unique, Chunked-total}
use Rattle.relay_h1.proofs.BodyReaderLemmas.{SoFar-reads}
use Rattle.relay_h1.proofs.VerdictLemmas.{HasRequest-unique}
use Rattle.relay_peer.specs.RequestWriting.{sent_wire}
use Rattle.relay_peer.specs.ResponseReading.{says}
use Rattle.relay_session.specs.Asked.{request_of}
use Rattle.relay_session.specs.Reading.{head_of, RequestSoFar, IsWhole}
use Rattle.relay_session.specs.Response.{is_over}
use Rattle.relay_session.specs.TaskWire.{first_refusal, wire}
use Rattle.relay_session.specs.declared.reading.Reading.{Reading}
use Rattle.relay_session.specs.declared.reading.Reading.TheVariants as reading
use Rattle.relay_session.specs.declared.session.HttpSession.{HttpSession}
use Rattle.relay_session.specs.declared.task_text.Place.TheVariants as place
use Rattle.relay_session.specs.declared.task_text.Request.{Request}
use Rattle.relay_core.specs.Moves.{EndsLast, ResponseHeld, SoFar}
use Rattle.relay_core.specs.Down.{DownState}
use Rattle.relay_core.specs.Past.{Origin, DownPast, UpPast}
use Rattle.relay_core.specs.Pipe.{is_failure}
use Rattle.relay_core.specs.declared.duplex.Duplex.{Duplex}
use Rattle.relay_peer.specs.Body.{IsFrontOf, body_of, sent_as}
use Rattle.relay_sides.specs.Client.{AllPass, HasPassed, IsClient, given_to, queued}
use Rattle.relay_sides.specs.Filtered.{AreHeads, IsFiltered, RefusesHead, handed}
use Rattle.relay_peer.specs.Peer.{IsPeer, IsPeerSide, AreTasks, told_of}
use Rattle.relay_sides.specs.declared.client_side.ClientSide.{ClientSide}
use Rattle.relay_sides.specs.declared.filtered.Filtered.{Filtered}
use Rattle.relay_peer.specs.declared.peer_side.PeerSide.{PeerSide}
use Rattle.relay_peer.proofs.FrontLemmas.{front_then}
use Rattle.relay_sides.proofs.FilterLemmas.{inside_of}
use Rattle.relay_sides.proofs.RefusalLemmas.{stopped_for, withheld_heads}
use Rattle.relay_peer.proofs.TaskLemmas.{ended_whole}
use Rattle.relay_attempt.specs.Attempt.{DownHalf, IsAttempt, UpHalf}
use Rattle.relay_attempt.specs.Exchange.{DownHolds, UpHolds, Blames, down_state, core_of, AreTold}
use Rattle.relay_attempt.specs.Order.{ArePieces, AreOf, IsInOrder, IsInOrderWith, and_cut}
use Rattle.relay_attempt.specs.Passed.{Passed}
use Rattle.relay_attempt.proofs.AttemptLemmas.{attempt_of, batches, with_halves}
use Rattle.relay_attempt.proofs.SentLemmas.{IsWritten, ends_over, written_of}
use Rattle.relay_session.proofs.WireSteps.{first_refusal-append}
use Rattle.relay_sides.proofs.ClientTasks.{or_none}
use Rattle.relay_attempt.proofs.ToldLemmas.{given_follow, given_informed, given_final, given_framed, given_body, given_ends_last, given_all}

-- what passed, by the pasts of both sides
abbrev pub passed_by : DownPast → UpPast → Passed
passed_by p q =
    record { came = p.came; written = p.written; got = q.got; sent = q.sent }

-- ---- the request

-- any bytes say something of a body
pub some_text : (at : State) (bytes : List ℕ) → (text : BodyText) × Reads at bytes text
some_text state.ChunkLine bytes = Chunked-total body.ChunkedPlace.at_line bytes
some_text (state.Chunk left) bytes = Chunked-total (body.ChunkedPlace.in_chunk left) bytes
some_text state.ChunkEnd bytes = Chunked-total body.ChunkedPlace.behind_chunk bytes
some_text state.Trailer bytes = Chunked-total body.ChunkedPlace.in_trailer bytes
some_text (state.Length left) bytes = (_, refl)
some_text state.UntilClose bytes = (_, refl)
some_text state.Tunnel bytes = (_, refl)
some_text state.Done bytes = (_, refl)

-- a text of the body, by any head that the bytes begin with
same_body : (given : List ℕ) (a b : RequestHead) (f g : Framing) (n m : ℕ) (text : BodyText)
    → HasRequest given a f n → HasRequest given b g m → Body f (drop n given) text
    → Body g (drop m given) text
same_body given a b f g n m text x y says =
    let same = HasRequest-unique given a b f g n m x y in
    subst (λ (k : ℕ). Body g (drop k given) text) same.2
    (subst (λ (h : Framing). Body h (drop n given) text) same.1 says)

-- the bytes say a text of the body, of which those that were given out are the front
pub record SaysFront (framing : Framing) (bytes given_out : List ℕ) : Type 0 where
  pub text : BodyText
  pub says : Body framing bytes text
  pub front : IsFrontOf given_out text.bytes

-- what was given out of a body is the front of what the bytes say
front_said : (given given_out ahead : List ℕ) (now : Reading) (head : RequestHead)
    (framing : Framing) (len : ℕ) → IsSome (head_of now)
    → RequestSoFar given given_out ahead now → HasRequest given head framing len
    → SaysFront framing (drop len given) given_out
front_said given given_out ahead reading.Head head framing len some so_far has = absurd (cc)
front_said given given_out ahead (reading.Body request) head framing len some so_far has =
    let rest = some_text request.body ahead in
    let bytes = drop so_far.len given in
    record {
      text = behind (length bytes - length ahead) given_out rest.0;
      says = same_body given so_far.head head request.framing framing so_far.len len _ so_far.has
          has
          (SoFar-reads request.framing bytes given_out ahead request.body rest.0 so_far.so_far
          rest.1);
      front = record { rest = rest.0.bytes; joined = refl };
    }

-- a request whose body has ended says it
pub ended_said : (given given_out ahead : List ℕ) (head : RequestHead) (framing : Framing)
    (len : ℕ) → IsWhole given given_out ahead → HasRequest given head framing len
    → (n : ℕ) × Body framing (drop len given) (ended_text given_out n)
ended_said given given_out ahead head framing len whole has = (
  whole.n,
  same_body given whole.head head whole.framing framing whole.len len
      (ended_text given_out whole.n) whole.has has whole.says,
)

module _
    (s : Origin) (p : DownPast) (link : LinkState) (ahead : List ℕ) (session : HttpSession)
    (c : IsClient s p link ahead session)
  where
    -- the bytes of the client say its body
    said : SaysFront c.framing (drop c.len (given_to s p)) c.body
    said = front_said (given_to s p) c.body ahead session.reading c.head c.framing c.len
        c.has_head c.request c.has

    -- the pieces are those of the client's body
    pub pieces_said : EndsLast p.put → ArePieces c.framing (drop c.len (given_to s p)) p.put
    pieces_said last = record {
      text = said.text;
      says = said.says;
      front = subst (λ (l : List ℕ). IsFrontOf l said.text.bytes) (sym c.joined) said.front;
      ends_last = last;
      whole = λ ends.
          let all = ended_said (given_to s p) c.body ahead c.head c.framing c.len
          (c.told_whole (c.ended ends)) c.has in (
            all.0,
            Body-unique c.framing (drop c.len (given_to s p)) said.text
                (ended_text (body_of p.put) all.0) said.says
                (subst (λ (l : List ℕ).
                Body c.framing (drop c.len (given_to s p)) (ended_text l all.0)) (sym c.joined)
                all.1),
          );
      headed = λ none. c.whole (c.headed none);
    }

    -- the request with its own head
    pub own_request : HasRequest (given_to s p) s.head c.framing c.len
    own_request =
        subst (λ (h : RequestHead). HasRequest (given_to s p) h c.framing c.len) c.own c.has

    -- what was written of the response
    pub text_written : IsWritten session.writing (queued p) p.written
    text_written = written_of session.writing (queued p) p.written c.response

    -- it answers the request with its own head
    pub answers_own : session.writing.request ≡ request_of s.head
    answers_own = c.answers ∙ ap request_of c.own

    -- so the text is that of what was queued, to that request
    pub front_own : IsFrontOf p.written
        (wire (request_of s.head) place.NoHead (p.batched ++ p.closing)).text
    front_own =
        subst (λ (r : Request). IsFrontOf p.written (wire r place.NoHead (queued p)).text)
        answers_own text_written.front

-- ---- the response

module _
    {L : Type 0} (s : Origin) (start : LinkStart) (link : LinkState) (side : Filtered (PeerSide L))
    (q : UpPast)
    (h : IsFiltered (λ r. IsPeerSide s start link side.inner r) s.sent.method side.of_head
    side.closes side.stopped side.told side.inner.told q)
  where
    -- the past of the side over the link: what it gave was handed on, or withheld
    abbrev pub peer_inside : IsPeer s start link side.inner.client side.inner.lost
        (inside_of q (h.given ++ h.withheld))
    peer_inside = h.holds.peer

    -- what was sent is the front of what the pieces are sent as
    pub sent_front : IsFrontOf q.sent (sent_wire (sent_as s.sent q.taken))
    sent_front =
        let u = peer_inside in
        subst (λ (h : RequestHead). IsFrontOf q.sent (sent_wire (sent_as h q.taken))) u.own
        (front_then q.sent (sent_wire u.sending) (sent_wire (sent_as u.head q.taken))
        (record { rest = side.inner.client.request.unsent; joined = u.so_far.text })
        u.queued.front)

    -- the tasks that came, handed on and withheld, for the method that was sent
    pub tasks_own : AreTasks s.sent.method s.asked link.ended q.got (h.given ++ h.withheld)
        side.inner.client.response
    tasks_own =
        subst (λ (a : RequestHead).
        AreTasks a.method s.asked link.ended q.got (h.given ++ h.withheld)
        side.inner.client.response) peer_inside.own peer_inside.tasks

    -- what is withheld are heads
    pub heads_withheld : AreHeads h.withheld
    heads_withheld =
        withheld_heads s.sent.method s.asked link.ended q.got h.given h.withheld
        side.inner.client.response side.stopped tasks_own h.is_withheld

    -- the error for which the side stopped is that of a head that is refused
    pub refused_for : (e : Error) → side.stopped ≡ Some (fail.Error e)
        → RefusesHead s.sent.method s.asked q.got e
    refused_for e is =
        stopped_for s.sent.method s.asked link.ended q.got h.given h.withheld
        side.inner.client.response side.stopped e tasks_own h.is_withheld is

    -- the tasks are those of the response
    abbrev pub tasks_of : AreOf s.sent.method s.asked link.ended q.got q.read
    tasks_of =
        let method = s.sent.method in
        let client = side.inner.client in
        record {
          given = h.given;
          are = h.is_read;
          follow = given_follow method s.asked link.ended q.got h.given h.withheld client.response
              tasks_own;
          stays = h.none_switches;
          have_room = h.have_room;
          informed = given_informed method s.asked link.ended q.got h.given h.withheld
              client.response tasks_own;
          final = λ head is.
              let there = given_final method s.asked link.ended q.got h.given h.withheld
              client.response tasks_own head is in
              (there.framing, there.len, there.has);
          body = given_body method s.asked link.ended q.got h.given h.withheld client.response
              tasks_own;
          ends_last = given_ends_last method s.asked link.ended q.got h.given h.withheld
              client.response tasks_own;
          whole = λ ends.
              let all = ended_whole method s.asked q.got link.ended h.given client.response
              (given_all method s.asked link.ended q.got h.given h.withheld client.response
              tasks_own ends) ends in
              (all.place, all.whole);
          framed = given_framed method s.asked link.ended q.got h.given h.withheld client.response
              tasks_own;
        }

    -- an end among them stands behind a final head
    pub headed : list_any is_end h.given ≡ true
        → (head : ResponseHead) × ((told_of h.given).final ≡ Some head)
    headed ends =
        let method = s.sent.method in
        let client = side.inner.client in
        let said = ended_whole method s.asked q.got link.ended h.given client.response
        (given_all method s.asked link.ended q.got h.given h.withheld client.response tasks_own
        ends) ends in
        (said.head, said.final)

-- ---- the order

-- a task ends its response as it is handed on where it did before
handed_ends : (method : List ℕ) (one : HttpTask) → is_end (handed method one) ≡ is_end one
handed_ends method (task.Header head end) = refl
handed_ends method (task.Body piece end) = refl
handed_ends method (task.UpgradedBody piece end) = refl
handed_ends method (task.Trailer fields) = refl
handed_ends method task.Done = refl
handed_ends method (task.Failed error) = refl

-- and so do tasks
pub handed_any : (method : List ℕ) (tasks : List HttpTask)
    → list_any is_end (map (handed method) tasks) ≡ list_any is_end tasks
handed_any method [] = refl
handed_any method (one ∷ tasks) = rw (handed_ends method one, handed_any method tasks) refl

-- the front, with an end, of tasks that are handed on is handed on of a front of them, with an end
pub record IsHanded (method : List ℕ) (tasks front : List HttpTask) : Type 0 where
  pub before : List HttpTask
  pub behind : List HttpTask
  pub are : tasks ≡ before ++ behind
  pub is : front ≡ map (handed method) before
  pub ends : list_any is_end before ≡ list_any is_end front

-- the front of tasks that are handed on
handed_front : (method : List ℕ) (tasks front rest : List HttpTask)
    → front ++ rest ≡ map (handed method) tasks → IsHanded method tasks front
handed_front method tasks [] rest same =
    record { before = []; behind = tasks; are = refl; is = refl; ends = refl }
handed_front method [] (one ∷ front) rest same = absurd (cc)
handed_front method (first ∷ tasks) (one ∷ front) rest same =
    let here : one ≡ handed method first = cc in
    let more = handed_front method tasks front rest (cc) in
    record {
      before = first ∷ more.before;
      behind = more.behind;
      are = ap (λ (l : List HttpTask). first ∷ l) more.are;
      is = ap (λ (l : List HttpTask). one ∷ l) more.is
          ∙ ap (λ (t : HttpTask). t ∷ map (handed method) more.before) here;
      ends = rw (← more.ends, here, handed_ends method first) refl;
    }

-- an end among the batched tasks is one among all that were handed on, and none is left
pub record IsEndGiven (method : List ℕ) (given batched : List HttpTask) : Type 0 where
  pub found : list_any is_end given ≡ true
  pub all : batched ≡ map (handed method) given

-- where an end was batched, all that was given was handed on
pub end_given : (method : List ℕ) (given batched rest : List HttpTask)
    → batched ++ rest ≡ map (handed method) given → EndsLast given
    → list_any is_end batched ≡ true → IsEndGiven method given batched
end_given method given batched rest joined last ends =
    let h = handed_front method given batched rest joined in
    let ended = h.ends ∙ ends in
    let none = last h.before h.behind h.are ended in
    let whole : h.before ≡ given =
    sym (append-nil h.before) ∙ ap (λ (l : List HttpTask). h.before ++ l) (sym none) ∙ sym h.are in
    record {
      found = subst (λ (l : List HttpTask). list_any is_end l ≡ true) whole ended;
      all = h.is ∙ ap (λ (l : List HttpTask). map (handed method) l) whole;
    }

module _
    (s : Origin) (closed : Bool) (got : List ℕ) (read : List HttpTask)
    (are_of : AreOf s.sent.method s.asked closed got read)
    (headed : list_any is_end are_of.given ≡ true
    → (head : ResponseHead) × ((told_of are_of.given).final ≡ Some head))
    (batched : List HttpTask) (front : IsFrontOf batched read)
    (passes : first_refusal (request_of s.head) place.NoHead batched ≡ None)
  where
    -- with an end among the tasks the response is over
    pub over_by_end : list_any is_end batched ≡ true
        → is_over (wire (request_of s.head) place.NoHead batched).place ≡ true
    over_by_end ends =
        let method = s.sent.method in
        let end = end_given method are_of.given batched front.rest (front.joined ∙ are_of.are)
        are_of.ends_last ends in
        let final = headed end.found in
        subst
        (λ (l : List HttpTask). is_over (wire (request_of s.head) place.NoHead l).place ≡ true)
        (sym end.all)
        (ends_over (request_of s.head) method are_of.given final.0 are_of.ends_last end.found
        final.1 (subst
        (λ (l : List HttpTask). first_refusal (request_of s.head) place.NoHead l ≡ None)
        end.all passes))

-- tasks in front of which none is refused
pub front_pass : (request : Request) (front behind : List HttpTask)
    → first_refusal request place.NoHead (front ++ behind) ≡ None
    → first_refusal request place.NoHead front ≡ None
front_pass request front behind passes =
    (or_none (first_refusal request place.NoHead front)
    (first_refusal request (wire request place.NoHead front).place behind)
    (sym (first_refusal-append request place.NoHead front behind) ∙ passes)).0

-- the tasks that were queued are a front of what was read
pub batched_front : (p : DownPast) (read held : List HttpTask) (failed over ended : Bool)
    → list_any is_failure p.batched ≡ false
    → ResponseHeld read p.batched held failed over ended → IsFrontOf p.batched read
batched_front p read held failed over ended plain h =
    batches p.batched h.given read h.refused h.is_batched
    (record { rest = h.rest; joined = sym h.front }) plain

-- ---- the halves

-- what the client's side holds is its half of an attempt
abbrev pub down_half : (s : Origin) (p : DownPast) (link : LinkState) (ahead : List ℕ)
    (session : HttpSession) (done finished : Bool) (broken : Option Fault)
    → HasPassed s p link ahead session done finished broken → DownHalf s link done p
down_half s p link ahead session done finished broken h = record {
  came = h.client.came;
  written = h.client.written;
  faults = h.client.faults;
  tells = h.client.tells;
  framing = h.client.framing;
  len = h.client.len;
  asks = own_request s p link ahead session h.client;
  are_pieces = pieces_said s p link ahead session h.client;
  plain = h.plain;
  plain_end = h.plain_end;
  over = λ is.
      subst (λ (r : Request). is_over (wire r place.NoHead p.batched).place ≡ true)
      (answers_own s p link ahead session h.client) (h.over is);
  is_written = front_own s p link ahead session h.client;
}

-- what the peer's side holds is its half
abbrev pub up_half : {L : Type 0} (s : Origin) (start : LinkStart) (link : LinkState)
    (side : Filtered (PeerSide L)) (q : UpPast)
    → IsFiltered (λ r. IsPeerSide s start link side.inner r) s.sent.method side.of_head side.closes
    side.stopped side.told side.inner.told q → UpHalf s start link q
up_half s start link side q h = record {
  got = h.holds.peer.got;
  sent = h.holds.peer.sent;
  faults = h.holds.peer.faults;
  reused = h.holds.reused;
  are_of = tasks_of s start link side q h;
  headed = headed s start link side q h;
  is_sent = sent_front s start link side q h;
}

-- ---- the order

-- the halves of an attempt, each of which took the front of what the other put, are in order, where
-- none of the tasks that were queued is refused
module _
    (s : Origin) (client link : LinkState) (start : LinkStart)
    (side : DownState) (plain : side.upgraded ≡ false)
    (a : IsAttempt (DownHalf s client side.response_done) (UpHalf s start link) side)
  where
    -- the tasks that were queued are a front of those that were read
    pub first_batched : IsFrontOf a.p.batched a.q.read
    first_batched =
        batches a.p.batched a.given a.q.read a.refused a.batched a.responses a.is_down.plain

    -- where an end was asked for, the response had ended or was over behind its batches
    pub late : (a.p.closing ≡ []) ⊎ ((list_any is_end a.p.batched ≡ true)
        ⊎ (is_over (wire (request_of s.head) place.NoHead a.p.batched).place ≡ true))
    late = elim (a.asked plain) [
      | inl none ↦ inl none
      | inr (inl ends) ↦ inr (inl ends)
      | inr (inr done) ↦ inr (inr (a.is_down.over done))
    ]

    -- so what passed is in order
    abbrev pub order_of : AllPass s (queued a.p) → IsInOrder s (passed_by a.p a.q) link.ended
    order_of passes = record {
      asks = record {
        framing = a.is_down.framing;
        len = a.is_down.len;
        has = a.is_down.asks;
      };
      pieces = a.p.put;
      are_pieces = a.is_down.are_pieces (a.ends_last plain);
      taken = a.q.taken;
      first_taken = a.requests;
      sent = a.is_up.is_sent;
      read = a.q.read;
      are_of = a.is_up.are_of;
      batched = a.p.batched;
      first_batched = first_batched;
      closing = a.p.closing;
      passes = passes;
      closes_late = late;
      written = a.is_down.is_written;
    }

    -- the task that was cut is the last of them, and none of those before it is refused
    pub record IsCut (front : List HttpTask) (at : HttpTask) : Type 0 where
      pub batched : a.p.batched ≡ front ++ at ∷ []
      pub unasked : a.p.closing ≡ []
      pub passes : AllPass s front

    -- what was queued, with that task last
    pub cut_queued : (front : List HttpTask) (at : HttpTask) → IsCut front at
        → queued a.p ≡ and_cut (front ++ []) (Some at)
    cut_queued front at cut =
        ap (λ (l : List HttpTask). a.p.batched ++ l) cut.unasked
        ∙ append-nil a.p.batched ∙ cut.batched
        ∙ ap (λ (l : List HttpTask). l ++ at ∷ []) (sym (append-nil front))

    -- what passed is in order then too
    abbrev pub order_cut : (front : List HttpTask) (at : HttpTask) → IsCut front at
        → IsInOrderWith (Some at) s (passed_by a.p a.q) link.ended
    order_cut front at cut = record {
      asks = record {
        framing = a.is_down.framing;
        len = a.is_down.len;
        has = a.is_down.asks;
      };
      pieces = a.p.put;
      are_pieces = a.is_down.are_pieces (a.ends_last plain);
      taken = a.q.taken;
      first_taken = a.requests;
      sent = a.is_up.is_sent;
      read = a.q.read;
      are_of = a.is_up.are_of;
      batched = front;
      first_batched = front_then front a.p.batched a.q.read
          (record { rest = at ∷ []; joined = sym cut.batched }) first_batched;
      closing = [];
      passes = subst (λ (l : List HttpTask). AllPass s l) (sym (append-nil front)) cut.passes;
      closes_late = inl refl;
      written = subst
          (λ (l : List HttpTask).
          IsFrontOf a.p.written (wire (request_of s.head) place.NoHead l).text)
          (cut_queued front at cut) a.is_down.is_written;
    }

module _ {L : Type 0} (state : L → LinkState) (start_at : L → LinkStart) where
  -- what passed is told by both links
  pub told_of_attempt : (s : Origin) (client link : LinkState) (start : LinkStart)
      (side : DownState)
      (a : IsAttempt (DownHalf s client side.response_done) (UpHalf s start link) side)
      → AreTold state start_at s (passed_by a.p a.q) client link start
  told_of_attempt s client link start side a = record {
    came = a.is_down.came;
    written = a.is_down.written;
    faults = a.is_down.faults;
    got = a.is_up.got;
    sent = a.is_up.sent;
    peer_faults = a.is_up.faults;
    reused = a.is_up.reused;
    client_tells = a.is_down.tells;
  }

module _ {L : Type 0} (state : L → LinkState) (start_at : L → LinkStart)
    (s : Origin) (p : DownPast) (q : UpPast) (link : LinkState) (ahead : List ℕ)
    (down : ClientSide) (up : Filtered (PeerSide L)) (duplex : Duplex)
    (so_far : SoFar (DownHolds link ahead down s) (UpHolds state start_at up s)
    (Blames state start_at up s) (core_of state start_at duplex down up) p q)
  where
    -- what passed between a client and a peer is an attempt
    abbrev pub attempt_so_far : IsAttempt (DownHalf s link down.done)
        (UpHalf s (start_at up.inner.client.link) (state up.inner.client.link)) (down_state down)
    attempt_so_far =
        with_halves (DownHolds link ahead down s) (DownHalf s link down.done)
        (UpHolds state start_at up s)
        (UpHalf s (start_at up.inner.client.link) (state up.inner.client.link)) (down_state down)
        (λ r h.
        down_half s r link ahead down.session down.done down.finished down.broken h.passed)
        (λ r u. up_half s (start_at up.inner.client.link) (state up.inner.client.link) up r u)
        (attempt_of (DownHolds link ahead down s) (UpHolds state start_at up s)
        (Blames state start_at up s) (core_of state start_at duplex down up) p q so_far)

    -- so it is in order, where none of the tasks that were queued is refused
    abbrev pub order_so_far : AllPass s (queued p)
        → IsInOrder s (passed_by p q) (state up.inner.client.link).ended
    order_so_far passes =
        order_of s link (state up.inner.client.link) (start_at up.inner.client.link)
        (down_state down) refl attempt_so_far passes
