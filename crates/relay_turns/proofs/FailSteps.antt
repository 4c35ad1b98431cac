-- What a failed attempt leaves: its error is treated, its link goes back, and its client is given
-- what it is owed.
--
--   queued_by                  what waits in its session, once the answer was queued
--   leaves_part, broken_part   what passed is a part of one exchange, or nothing
--   left_memory, left_broken   the phase behind the exchange
--   treated_on, answered_on    the phase behind the treatment, and behind the answer
--   unasked                    memory was wanted for the call behind which another attempt follows
--   repeats_called             another attempt follows
--   treated_lost               the phase where memory was wanted
use Rattle.std.specs.Global.{Box}
use Rattle.std.proofs.Common.{◌≡◌, ◌≢◌, ℕ, ◌+◌, ◌<◌, Bool, true, false, not, List, [], ◌∷◌, ◌++◌, length, Some, refl, sym, ap, subst, ◌∙◌, inl, inr, arith, append-nil, length-append, true≢false}
use Rattle.std.specs.Prelude.{◌==◌, ◌⊎◌}
use Rattle.relay_tasks.specs.Head.{RequestHead}
use Rattle.relay_tasks.specs.declared.Error.{Error}
use Rattle.relay_tasks.specs.declared.Fault.{Fault}
use Rattle.relay_tasks.specs.declared.hook.Hook.TheVariants as hook
use Rattle.relay_tasks.specs.declared.log.LogEntry.{LogEntry}
use Rattle.relay_tasks.specs.declared.task.HttpTask.{HttpTask}
use Rattle.relay_links.specs.Link.{LinkState, LinkStart, IsHandedOut}
use Rattle.relay_session.specs.Asked.{request_of}
use Rattle.relay_session.specs.Reading.{head_of}
use Rattle.relay_session.specs.Response.{Holds, HoldsOn, IsOpen, has_head, pending}
use Rattle.relay_session.specs.Session.{may_begin_again}
use Rattle.relay_session.specs.TaskWire.{Sent, wire}
use Rattle.relay_session.specs.declared.session.HttpSession.{HttpSession}
use Rattle.relay_session.specs.declared.task_text.Place.{Place}
use Rattle.relay_session.specs.declared.task_text.Place.TheVariants as place
use Rattle.relay_session.specs.declared.task_text.Request.{Request}
use Rattle.relay_session.specs.declared.writing.Outgoing.{Outgoing}
use Rattle.relay_session.specs.declared.writing.Outgoing.TheVariants as outgoing
use Rattle.relay_session.specs.declared.writing.Writing.{Writing}
use Rattle.relay_hooks.specs.Standing.{Standing}
use Rattle.relay_phases.specs.Order.{Station}
use Rattle.relay_phases.specs.Order.{Station as station}
use Rattle.relay_phases.specs.Turns.{QueuesNothing, ReadsNothing, Turns, wrote_in}
use Rattle.relay_opening.specs.Told.{head_behind}
use Rattle.relay_opening.specs.declared.place.End.TheVariants as end
use Rattle.relay_opening.specs.declared.place.Place.TheVariants as stage
use Rattle.relay_trying.specs.Trying.{Treats, may_follow, treated_at}
use Rattle.relay_closing.specs.Queued.{QueuesOnce}
use Rattle.relay_core.specs.Past.{Origin}
use Rattle.relay_sides.specs.Client.{BeginsBehind}
use Rattle.relay_peer.specs.Body.{IsFrontOf}
use Rattle.relay_attempt.specs.Passed.{Passed}
use Rattle.relay_hooked.specs.Order.{order_of, refused_of, text_of}
use Rattle.relay_request.specs.Answer.{answer_to, owed_text, WaitsOf}
use Rattle.relay_request.specs.Calls.{CallsNext, GoesOn, IsTreatedBefore, IsUnended, TakesNext, leads_at, log_of, seen_with}
use Rattle.relay_request.specs.Closing.{IsHalfInformed}
use Rattle.relay_request.specs.Endings.{IsInOrder, IsGiven, FailsToWrite, IsPartRelayed, Misses}
use Rattle.relay_request.specs.Leaving.{Answers}
use Rattle.relay_request.specs.Legs.{FailsAgain, RepeatsOn}
use Rattle.relay_request.specs.Passed.{World, Start, based, called_to, closed_to, opened_to, origin_at, origin_of, IsUnsent, IsUntouched, TellsClient}
use Rattle.relay_request.specs.Phases.{IsBroken, IsCalm, IsGoing, IsLeased, LeavesAhead, LeavesSession, PhaseHolds, RunSoFar, waits_to_begin, written_out}
use Rattle.relay_request.specs.Relayable.{IsAccepted}
use Rattle.relay_request.specs.Sent.{IsAnswered, IsTreated}
use Rattle.relay_request.specs.Tries.{MayTry, made_before, tries_in}
use Rattle.relay_request.specs.Turn.{Advances}
use Rattle.relay_request.specs.declared.calls.At.{At}
use Rattle.relay_request.specs.declared.calls.At.TheVariants as at
use Rattle.relay_request.specs.declared.calls.Calls.{Calls}
use Rattle.relay_request.specs.declared.calls.Opened.TheVariants as led
use Rattle.relay_request.specs.declared.machine.Lease.{Lease}
use Rattle.relay_request.specs.declared.machine.Phase.{Phase}
use Rattle.relay_request.specs.declared.machine.Phase.TheVariants.{Again, Broken, Fail, Close}
use Rattle.relay_request.specs.declared.outcome.Outcome.TheVariants as outcome
use Rattle.relay_turns.proofs.AgainLemmas.{IsUnqueued, as_begun_before, as_begun_parts, based_begins, begins_accepted, begins_any, out_same, reads_out, shown_out, unqueued_parts}
use Rattle.relay_turns.proofs.AnswerSteps.{ends_missed}
use Rattle.relay_turns.proofs.CutLemmas.{at_written, queued_in}
use Rattle.relay_request.proofs.NamedLemmas.{TellsSame, tells_same}
use Rattle.relay_turns.proofs.OpenHead.{exchange_open}
use Rattle.relay_turns.proofs.OpenSteps.{begins_on, called_accepted, called_tells, closed_accepted, closed_tells, left_on, once_goes_on, once_open, once_request, stands_first, stays_connecting, wrote_on}
use Rattle.relay_turns.proofs.OverLemmas.{begins_anew, made_as, over_as}
use Rattle.relay_turns.proofs.PrepareSteps.{leased_on}
use Rattle.relay_turns.proofs.StandsLemmas.{stands_more}
use Rattle.relay_request.proofs.TreatLemmas.{refuses_on, sends_on, still_open, unended_more}

-- ---- what waits

-- what waits once the answer to the error was queued: the rest of what the client is owed, or
-- nothing, a write having failed behind a front of it
data Queued (s : Start) (written text : List ℕ) (client : LinkState) (output : Outgoing)
    : Type 0 where
  opened : (left : List ℕ) → output ≡ outgoing.Open left → written ++ left ≡ text
      → Queued s written text client output
  lost : (fault : Fault) → output ≡ outgoing.Broken fault → FailsToWrite s client
      → IsFrontOf written text → Queued s written text client output

-- an answer was queued behind tasks of which so much was written
queued_of : (s : Start) (head : RequestHead) (written : List ℕ) (client : LinkState) (new : Writing)
    (tasks : List HttpTask) (output : Outgoing) → new.output ≡ output
    → new.request ≡ request_of head → HoldsOn new output tasks written
    → ((fault : Fault) → output ≡ outgoing.Broken fault → FailsToWrite s client)
    → Queued s written (wire (request_of head) place.NoHead tasks).text client output
queued_of s head written client new tasks (outgoing.Open queue) is own held broken =
    Queued.opened queue refl
    (sym (ap (λ (k : Sent). k.text) held.wire.is)
    ∙ ap (λ (r : Request). (wire r place.NoHead tasks).text) own)
queued_of s head written client new tasks (outgoing.Broken fault) is own held broken =
    Queued.lost fault refl (broken fault refl) (record {
      rest = held.0;
      joined = sym (ap (λ (k : Sent). k.text) held.1.wire.is)
          ∙ ap (λ (r : Request). (wire r place.NoHead tasks).text) own;
    })

-- a response whose writes failed had failed before an answer was queued
was_broken : (s : Start) (client : LinkState) (old new : Writing) (wrote : List HttpTask)
    → QueuesOnce old new wrote
    → ((fault : Fault) → old.output ≡ outgoing.Broken fault → FailsToWrite s client)
    → (output : Outgoing) → old.output ≡ output → (fault : Fault)
    → new.output ≡ outgoing.Broken fault → FailsToWrite s client
was_broken s client old new wrote queues broken (outgoing.Open queue) is fault now =
    let opened : IsOpen new.output = once_open old new wrote queues (queue, is) in
    absurd (let clash : outgoing.Open opened.0 ≡ outgoing.Broken fault = sym opened.1 ∙ now in cc)
was_broken s client old new wrote queues broken (outgoing.Broken before) is fault now =
    broken before is

-- what waits once the answer to the error was queued, by what was queued before
queued_by : (s : Start) (p : Passed) (client : LinkState) (ahead : List ℕ) (link : LinkState)
    (start : LinkStart) (session : HttpSession) (new : Writing) (raised : Error)
    (wrote : List HttpTask) (l : LeavesSession s p client ahead link start session raised)
    → QueuesOnce session.writing new wrote
    → Queued s p.written (owed_text (order_of l.why) wrote) client new.output
queued_by s p client ahead link start session new raised wrote l queues =
    queued_of s l.head p.written client new (queued_in (order_of l.why) ++ wrote) new.output refl
    (once_request session.writing new wrote queues ∙ l.answers)
    (once_goes_on session.writing new wrote queues (queued_in (order_of l.why)) p.written l.holds)
    (was_broken s client session.writing new wrote queues l.broken session.writing.output refl)

-- what was written is the front of the text of what was queued
front_of : (request : Request) (response : Writing) (tasks : List HttpTask) (taken : List ℕ)
    (output : Outgoing) → response.request ≡ request → HoldsOn response output tasks taken
    → IsFrontOf taken (wire request place.NoHead tasks).text
front_of request response tasks taken (outgoing.Open queue) own held = record {
  rest = queue;
  joined = sym (ap (λ (k : Sent). k.text) held.wire.is)
      ∙ ap (λ (r : Request). (wire r place.NoHead tasks).text) own;
}
front_of request response tasks taken (outgoing.Broken fault) own held = record {
  rest = held.0;
  joined = sym (ap (λ (k : Sent). k.text) held.1.wire.is)
      ∙ ap (λ (r : Request). (wire r place.NoHead tasks).text) own;
}

-- so it is of a session that a failed exchange left
left_front : (s : Start) (p : Passed) (client : LinkState) (ahead : List ℕ) (link : LinkState)
    (start : LinkStart) (session : HttpSession) (e : Error)
    (l : LeavesSession s p client ahead link start session e)
    → IsFrontOf p.written (text_of (order_of l.why)).text
left_front s p client ahead link start session e l =
    front_of (request_of l.head) session.writing (queued_in (order_of l.why)) p.written
    session.writing.output l.answers l.holds

-- and not all of it, where something waits
left_waits : (s : Start) (p : Passed) (client : LinkState) (ahead : List ℕ) (link : LinkState)
    (start : LinkStart) (session : HttpSession) (e : Error)
    (l : LeavesSession s p client ahead link start session e)
    → 0 < length (pending session.writing.output)
    → p.written ≢ (text_of (order_of l.why)).text
left_waits s p client ahead link start session e l some whole =
    by session.writing.output l.holds some
  where
    text : List ℕ
    text = (wire (request_of l.head) place.NoHead (queued_in (order_of l.why))).text

    by : (output : Outgoing)
        → HoldsOn session.writing output (queued_in (order_of l.why)) p.written
        → 0 < length (pending output) → ⊥
    by (outgoing.Open queue) held some =
        let joined : text ≡ p.written ++ queue =
        ap (λ (r : Request). (wire r place.NoHead (queued_in (order_of l.why))).text)
        (sym l.answers)
        ∙ ap (λ (k : Sent). k.text) held.wire.is in
        absurd (omega (
          arith,
          some,
          length-append p.written queue,
          ap (λ (xs : List ℕ). length xs) joined,
          ap (λ (xs : List ℕ). length xs) whole,
        ))
    by (outgoing.Broken fault) held some = absurd (omega (arith, some))

-- an attempt that failed, and of whose response something waits for the client
pub half_informed : {L : Type 0} (state : L → LinkState) (start_at : L → LinkStart) (s : Start)
    (p : Passed) (w : World) (link : L) (session : HttpSession) (lease : Lease) (keep : Bool)
    (e : Error) → IsBroken s p w (state link) (start_at link) session lease keep e
    → 0 < length (pending session.writing.output) → IsHalfInformed state start_at s p w link
half_informed state start_at s p w link session lease keep e (IsBroken.in_exchange l kept) some =
    record {
      head = l.head;
      sent = l.sent;
      relayable = l.relayable;
      sends = l.sends;
      before = l.before;
      raised = e;
      f = l.f;
      began = l.began;
      stands = l.stands;
      why = l.why;
      part = left_front s p w.client w.ahead (state link) (start_at link) session e l;
      left = left_waits s p w.client w.ahead (state link) (start_at link) session e l some;
    }
half_informed state start_at s p w link session lease keep e (IsBroken.ahead_of_it l) some =
    absurd (omega (
      arith,
      some,
      ap length (ap pending (l.connecting.begins l.connecting.head false).output),
    ))

-- what passed is a part of one exchange
pub leaves_part : (s : Start) (p : Passed) (client : LinkState) (ahead : List ℕ) (link : LinkState)
    (start : LinkStart) (session : HttpSession) (e : Error)
    → LeavesSession s p client ahead link start session e → IsPartRelayed s p link start
leaves_part s p client ahead link start session e l =
    let o = origin_at s l.head l.sent start.reused l.began in
    let front = left_front s p client ahead link start session e l in
    record {
      head = l.head;
      sent = l.sent;
      relayable = l.relayable;
      sends = l.sends;
      f = l.f;
      began = l.began;
      stands = l.stands;
      refused = refused_of l.why;
      order = at_written _ l.f o p l.before link.ended (order_of l.why) front;
      speaks = l.speaks;
    }

-- what passed in an attempt that failed is that, or nothing did
pub broken_part : (s : Start) (p : Passed) (w : World) (link : LinkState) (start : LinkStart)
    (session : HttpSession) (lease : Lease) (keep : Bool) (e : Error)
    → IsBroken s p w link start session lease keep e
    → IsPartRelayed s p link start ⊎ ((p.written ≡ []) × IsUnsent p)
broken_part s p w link start session lease keep e (IsBroken.in_exchange l kept) =
    inl (leaves_part s p w.client w.ahead link start session e l)
broken_part s p w link start session lease keep e (IsBroken.ahead_of_it l) =
    inr (l.connecting.written, l.connecting.unsent)

-- where nothing waits the client was given all of it, or a write failed
given_all : (s : Start) (p : Passed) (w : World) (text : List ℕ) (output : Outgoing)
    → Queued s p.written text w.client output → pending output ≡ [] → IsGiven s p w text
given_all s p w text output (Queued.opened left is joined) none =
    let empty : left ≡ [] = sym (ap pending is) ∙ none in
    inl (sym (append-nil p.written) ∙ ap (λ (xs : List ℕ). p.written ++ xs) (sym empty) ∙ joined)
given_all s p w text output (Queued.lost fault is fails front) none = inr (fails, front)

-- where something waits it is the rest
waits_of : (s : Start) (p : Passed) (client : LinkState) (text : List ℕ) (output : Outgoing)
    → Queued s p.written text client output → 0 < length (pending output)
    → WaitsOf output p.written text
waits_of s p client text output (Queued.opened left is joined) some = record {
  left = left;
  is_open = is;
  some = subst (λ (xs : List ℕ). 0 < length xs) (ap pending is) some;
  joined = joined;
}
waits_of s p client text output (Queued.lost fault is fails front) some =
    absurd (omega (arith, some, ap length (ap pending is)))

-- nothing waits where the session says so
pub none_waits : (waits : Bool) (xs : List ℕ) → waits ≡ not (length xs == 0) → waits ≡ false
    → xs ≡ []
none_waits waits [] is none = refl
none_waits waits (x ∷ xs) is none = grind (arith, is, none)

-- and something where it says that
pub some_waits : (waits : Bool) (xs : List ℕ) → waits ≡ not (length xs == 0) → waits ≡ true
    → 0 < length xs
some_waits waits [] is some = grind (arith, is, some)
some_waits waits (x ∷ xs) is some = omega arith

-- ---- the phase that follows

-- what passed is in order
pub part_order : (s : Start) (p : Passed) (link : LinkState) (start : LinkStart)
    → IsPartRelayed s p link start → IsInOrder s p
part_order s p link start part =
    IsInOrder.is_exchange part.refused part.f part.began part.head part.sent _ _ part.relayable
    part.sends part.stands part.order

-- and the client's head is open no more
pub part_closed : (s : Start) (p : Passed) (w : World) (link : LinkState) (start : LinkStart)
    → IsPartRelayed s p link start → IsUntouched s p w
part_closed s p w link start part = λ open_head.
    absurd (exchange_open part.refused part.f s p part.head part.sent _ part.began _ part.order
    open_head)

module _ {L C : Type 0} (state : L → LinkState) (start_at : L → LinkStart)
    (s : Start) (p : Passed) (w : World) (link : L) (lease : Lease)
    (tells : TellsClient s p w) (leased : IsLeased s p (state link) (start_at link) lease)
  where
    -- memory was wanted
    pub left_memory : IsPartRelayed s p (state link) (start_at link)
        → Advances {C = C} state start_at s w (Close link lease false outcome.OutOfMemory)
    left_memory part = record {
      passed = p;
      run = record {
        tells = tells;
        order = part_order s p (state link) (start_at link) part;
        untouched = part_closed s p w (state link) (start_at link) part;
        going = λ limit. cc;
        calm = tt;
        holds = (leased, (inl part, refl));
      };
    }

    -- the error is to be treated
    pub left_broken : (context : C) (session : HttpSession) (box : Box HttpSession) (e : Error)
        → LeavesSession s p w.client w.ahead (state link) (start_at link) session e
        → box.value ≡ session
        → Advances {C = C} state start_at s w (Broken context box link lease false e)
    left_broken context session box e l is =
        let part = leaves_part s p w.client w.ahead (state link) (start_at link) session e l in
        record {
          passed = p;
          run = record {
            tells = tells;
            order = part_order s p (state link) (start_at link) part;
            untouched = part_closed s p w (state link) (start_at link) part;
            going = tt;
            calm = tt;
            holds = (
              leased,
              IsBroken.in_exchange
                  (subst (λ (h : HttpSession). LeavesSession s p w.client w.ahead (state link)
                  (start_at link) h e) (sym is) l) refl,
            );
          };
        }

-- ---- the error is treated and answered

-- what the client is owed of an attempt whose error was treated, over this link, and what waits of
-- it
record Owing (s : Start) (p : Passed) (w : World) (link : LinkState) (start : LinkStart)
    (keep : Bool) (e : Error) (output : Outgoing) : Type 0 where
  text : List ℕ
  misses : Misses s p w.client link start keep e text
  queued : Queued s p.written text w.client output

-- a write that failed did so, whatever was called
writes_on : (s : Start) (these those : List LogEntry) (client : LinkState)
    → FailsToWrite (opened_to s these) client → FailsToWrite (opened_to s those) client
writes_on s these those client fails = record {
  fault = fails.fault;
  kind = fails.kind;
  rose = fails.rose;
  among = fails.among;
}

-- what was told of an attempt that failed, where that was its session, and nothing of it was queued
-- since
session_on : (s : Start) (these those : List LogEntry) (e : LogEntry) → those ≡ these ++ e ∷ []
    → e.hook ≡ hook.ErrorWhileProxy → (p : Passed) (client : LinkState) (ahead : List ℕ)
    (link : LinkState) (start : LinkStart) (session left : HttpSession) (raised : Error)
    → left.writing ≡ session.writing
    → ((head : RequestHead) → head_of session.reading ≡ Some (head_behind head these)
    → head_of left.reading ≡ Some (head_behind head those))
    → (wrote_in these ≡ [] → wrote_in those ≡ [])
    → (may_begin_again (written_out left) ≡ true → may_begin_again (written_out session) ≡ true)
    → ((o : Origin) → BeginsBehind o p.came client ahead (written_out session)
    → BeginsBehind o p.came client ahead (written_out left))
    → LeavesSession (opened_to s these) p client ahead link start session raised
    → LeavesSession (opened_to s those) p client ahead link start left raised
session_on s these those e more is p client ahead link start session left raised same left_so quiet
    as_before begins l =
    record {
      head = l.head;
      sent = l.sent;
      relayable = l.relayable;
      sends = sends_on these those e more is l.sends;
      before = l.before;
      f = l.f;
      began = l.began;
      stands = stands_more these those e l.began l.f.calls more is l.stands;
      why = l.why;
      speaks = l.speaks;
      answers = ap (λ (w : Writing). w.request) same ∙ l.answers;
      holds = subst (λ (w : Writing). Holds w (queued_in (order_of l.why)) p.written) (sym same)
          l.holds;
      broken = λ fault broken. writes_on s these those client
          (l.broken fault (sym (ap (λ (w : Writing). w.output) same) ∙ broken));
      is_left = left_so l.head l.is_left;
      quiet = quiet l.quiet;
      again = λ queue open_to begun.
          begins (origin_of (based s client) l.head l.sent start.reused)
          (l.again queue (sym (ap (λ (w : Writing). w.output) same) ∙ open_to) (as_before begun));
    }

-- ---- it is treated

module _ {L C M K : Type 0} (state : L → LinkState) (start_at : L → LinkStart)
    (allows : Standing → LogEntry → Type 0) (c d : Calls M K C) (mark behind : ℕ) (s : Start)
    (p : Passed) (w : World) (context context' : C) (session left : Box HttpSession)
    (link : L) (lease : Lease) (keep : Bool) (raised treated : Error) (from : Station)
    (run : RunSoFar {C = C} state start_at (opened_to s (log_of c)) p w []
    (Broken context session link lease keep raised))
    (t : Treats allows hook.ErrorWhileProxy lease.peer lease.reused from raised
    (seen_with c session.value) mark (seen_with d left.value) behind treated)
  where
    -- the log has one entry more, of that hook
    more : log_of d ≡ log_of c ++ t.call.turn.e ∷ []
    more = t.call.turn.calls.log

    -- the same peer is named, and the attempts are the same
    peers : TellsSame (log_of c) (log_of d)
    peers =
        subst (λ (l : List LogEntry). TellsSame (log_of c) l) (sym more)
        (tells_same (log_of c) t.call.turn.e hook.ErrorWhileProxy t.call.turn.hook refl refl)

    leased_still : IsLeased (opened_to s (log_of d)) p (state link) (start_at link) lease
    leased_still = leased_on s (log_of c) (log_of d) p (state link) (start_at link) lease peers
        run.holds.0

    -- of the session, once it is written out, nothing was read or queued either
    reads_nothing : ReadsNothing (shown_out (seen_with c session.value))
        (shown_out (seen_with d left.value))
    reads_nothing = reads_out (seen_with c session.value) (seen_with d left.value)
        t.call.turn.calls.reads

    same_out : (written_out left.value).writing ≡ (written_out session.value).writing
    same_out = ap (λ (response : Writing). record response { output = outgoing.Open [] })
        t.call.turn.queued.same

    -- the attempt failed as before
    broken_still : IsBroken (opened_to s (log_of c)) p w (state link) (start_at link)
        session.value lease keep raised
        → IsBroken (opened_to s (log_of d)) p w (state link) (start_at link) left.value lease keep
        raised
    broken_still (IsBroken.in_exchange l kept) =
        IsBroken.in_exchange
        (session_on s (log_of c) (log_of d) t.call.turn.e more t.call.turn.hook p w.client w.ahead
        (state link) (start_at link) session.value left.value raised t.call.turn.queued.same
        (left_on allows c d session.value left.value mark behind hook.ErrorWhileProxy from
        (treated_at (may_follow treated (seen_with c session.value))) QueuesNothing t.call.turn)
        (λ quiet. wrote_on allows c d session.value left.value mark behind hook.ErrorWhileProxy from
        (treated_at (may_follow treated (seen_with c session.value))) QueuesNothing t.call.turn
        quiet ∙ t.call.turn.queued.wrote_none)
        (as_begun_before (shown_out (seen_with c session.value))
        (shown_out (seen_with d left.value))
        reads_nothing same_out)
        (λ o begins. begins_on o p.came w.client w.ahead (shown_out (seen_with c session.value))
        (shown_out (seen_with d left.value)) reads_nothing same_out begins) l) kept
    broken_still (IsBroken.ahead_of_it l) = IsBroken.ahead_of_it (record {
      connecting = stays_connecting allows c d session.value left.value mark behind
          hook.ErrorWhileProxy from (treated_at (may_follow treated (seen_with c session.value)))
          t.call.turn s p w (tries_in lease) refl l.connecting;
      leased = leased_still;
      fresh = l.fresh;
      why = refuses_on (log_of c) (log_of d) t.call.turn.e more t.call.turn.hook l.why;
    })

    -- and what passed is in order still
    order_still : IsBroken (opened_to s (log_of d)) p w (state link) (start_at link) left.value
        lease keep raised → IsInOrder (opened_to s (log_of d)) p
    order_still (IsBroken.in_exchange l kept) =
        part_order (opened_to s (log_of d)) p (state link) (start_at link)
        (leaves_part (opened_to s (log_of d)) p w.client w.ahead (state link) (start_at link)
        left.value raised l)
    order_still (IsBroken.ahead_of_it l) =
        IsInOrder.is_nothing l.connecting.written l.connecting.unsent.sent

    -- the error is to be answered
    pub treated_on : Advances {C = C} state start_at (opened_to s (log_of d)) w
        (Broken context' left link lease keep raised)
    treated_on =
        let broken = broken_still run.holds.1 in
        record {
          passed = p;
          run = record {
            tells = called_tells s (log_of c) (log_of d) p w run.tells;
            order = order_still broken;
            untouched = run.untouched;
            going = tt;
            calm = tt;
            holds = (leased_still, broken);
          };
        }

-- ---- it is answered

-- the link of an attempt is leased, whatever the calls of the end
closed_leased : (s : Start) (log closed : List LogEntry) (p : Passed)
    (link : LinkState) (start : LinkStart) (lease : Lease)
    → IsLeased (opened_to s log) p link start lease
    → IsLeased (closed_to s log closed) p link start lease
closed_leased s log closed p link start lease leased = record {
  tells = leased.tells;
  peer = leased.peer;
  recorded = leased.recorded;
  reused = leased.reused;
  tries = record {
    fits = leased.tries.fits;
    told = leased.tries.told;
    each = leased.tries.each;
    allowed = leased.tries.allowed;
  };
}

-- an exchange that failed left that session, whatever they are
closed_session : (s : Start) (log closed : List LogEntry) (p : Passed)
    (client : LinkState) (ahead : List ℕ) (link : LinkState) (start : LinkStart)
    (session : HttpSession) (raised : Error)
    → LeavesSession (opened_to s log) p client ahead link start session raised
    → LeavesSession (closed_to s log closed) p client ahead link start session raised
closed_session s log closed p client ahead link start session raised l = record {
  head = l.head;
  sent = l.sent;
  relayable = l.relayable;
  sends = l.sends;
  before = l.before;
  f = l.f;
  began = l.began;
  stands = l.stands;
  why = l.why;
  speaks = l.speaks;
  answers = l.answers;
  holds = l.holds;
  broken = λ fault is.
      let fails : FailsToWrite (opened_to s log) client = l.broken fault is in
      record {
        fault = fails.fault;
        kind = fails.kind;
        rose = fails.rose;
        among = fails.among;
      };
  is_left = l.is_left;
  quiet = l.quiet;
  again = l.again;
}

module _ {L C : Type 0} (state : L → LinkState) (start_at : L → LinkStart) (s : Start)
    (log closed : List LogEntry) (p : Passed) (w : World) (context : C)
    (session : Box HttpSession) (left : Writing) (link : L) (lease : Lease) (keep : Bool)
    (raised treated : Error) (v : IsTreatedBefore log raised treated session.value)
    (stops : MayTry s.most (1 + length (tries_in lease)) treated
    → (may_begin_again session.value ≡ false) × (waits_to_begin session.value ≡ false))
    (told : IsAnswered closed treated)
    (queues : QueuesOnce session.value.writing left (wrote_in closed))
    (run : RunSoFar {C = C} state start_at (opened_to s log) p w []
    (Broken context session link lease keep raised))
  where
    -- so many attempts came before it
    made : length (tries_in lease) ≡ made_before (closed_to s log closed)
    made = made_as (closed_to s log closed) (tries_in lease)
        (closed_leased s log closed p (state link) (start_at link) lease run.holds.0).tries

    -- what is owed behind the exchange
    owing_in : LeavesSession (opened_to s log) p w.client w.ahead (state link) (start_at link)
        session.value raised → keep ≡ false
        → Owing (closed_to s log closed) p w (state link) (start_at link) keep treated left.output
    owing_in before kept =
        let l = closed_session s log closed p w.client w.ahead (state link) (start_at link)
        session.value raised before in
        record {
          text = owed_text (order_of l.why) (wrote_in closed);
          misses = Misses.in_exchange (record {
            head = l.head;
            sent = l.sent;
            relayable = l.relayable;
            sends = l.sends;
            before = l.before;
            raised = raised;
            treated = v.was;
            told = told;
            f = l.f;
            began = l.began;
            stands = l.stands;
            why = l.why;
            speaks = l.speaks;
            over = over_as (closed_to s log closed) w.client raised treated log session.value v
                l.broken (rw l.is_left refl) (length (tries_in lease)) made stops;
          }) refl kept;
          queued = queued_by (closed_to s log closed) p w.client w.ahead (state link)
              (start_at link) session.value left raised (wrote_in closed) l queues;
        }

    -- and ahead of it
    owing_ahead : LeavesAhead (opened_to s log) p w (state link) (start_at link) session.value lease
        keep raised
        → Owing (closed_to s log closed) p w (state link) (start_at link) keep treated left.output
    owing_ahead l =
        let begins = l.connecting.begins l.connecting.head false in
        record {
          text = answer_to l.connecting.head (wrote_in closed);
          misses = Misses.ahead_of_it (record {
            head = l.connecting.head;
            accepted = closed_accepted s log closed p l.connecting.head l.connecting.accepted;
            raised = raised;
            refused = l.why;
            treated = v.was;
            told = told;
            over = λ may. true≢false (
                sym (begins_anew session.value begins.kept
                (stands_first session.value.writing begins.response begins.output) begins.output)
                ∙ (stops (subst (λ (n : ℕ). MayTry s.most (1 + n) treated) (sym made) may)).0
                );
            fresh = subst (λ (b : Bool). IsHandedOut (state link) (start_at link) b)
                (sym l.fresh.marked) l.fresh;
            unsent = l.connecting.unsent;
          }) refl;
          queued = queued_of (closed_to s log closed) l.connecting.head p.written w.client left
              (wrote_in closed) left.output refl
              (once_request session.value.writing left (wrote_in closed) queues
              ∙ begins.answers ∙ ap (λ (h : RequestHead). request_of h) begins.own)
              (subst (λ (xs : List ℕ). Holds left (wrote_in closed) xs) (sym l.connecting.written)
              (once_goes_on session.value.writing left (wrote_in closed) queues [] []
              begins.response))
              (was_broken (closed_to s log closed) w.client session.value.writing left
              (wrote_in closed) queues
              (λ fault is. absurd (let clash : outgoing.Open [] ≡ outgoing.Broken fault =
              sym begins.output ∙ is in cc)) session.value.writing.output refl);
        }

    -- the same by how the attempt failed
    owing : IsBroken (opened_to s log) p w (state link) (start_at link) session.value lease keep
        raised
        → Owing (closed_to s log closed) p w (state link) (start_at link) keep treated left.output
    owing (IsBroken.in_exchange l kept) = owing_in l kept
    owing (IsBroken.ahead_of_it l) = owing_ahead l

    -- what passed is in order still
    order_so : IsBroken (opened_to s log) p w (state link) (start_at link) session.value lease keep
        raised → IsInOrder (closed_to s log closed) p
    order_so (IsBroken.in_exchange l kept) =
        part_order (closed_to s log closed) p (state link) (start_at link)
        (leaves_part (closed_to s log closed) p w.client w.ahead (state link) (start_at link)
        session.value raised (closed_session s log closed p w.client w.ahead (state link)
        (start_at link) session.value raised l))
    order_so (IsBroken.ahead_of_it l) =
        IsInOrder.is_nothing l.connecting.written l.connecting.unsent.sent

    -- the phase that follows
    goes_to : (next : Phase L C) → IsGoing state start_at next
        → IsCalm state start_at (closed_to s log closed) w next
        → PhaseHolds state start_at (closed_to s log closed) p w [] next
        → Advances state start_at (closed_to s log closed) w next
    goes_to next going calm holds = record {
      passed = p;
      run = record {
        tells = closed_tells s log closed p w run.tells;
        order = order_so run.holds.1;
        untouched = run.untouched;
        going = going;
        calm = calm;
        holds = holds;
      };
    }

    leased_so : IsLeased (closed_to s log closed) p (state link) (start_at link) lease
    leased_so = closed_leased s log closed p (state link) (start_at link) lease run.holds.0

    -- what the attempt comes to
    pub answered_on : (next : Phase L C) → Answers left link lease keep treated next
        → Advances {C = C} state start_at (closed_to s log closed) w next
    answered_on next (Answers.waits new same some is) =
        let o = owing run.holds.1 in
        subst (λ (k : Phase L C). Advances state start_at (closed_to s log closed) w k) (sym is)
        (goes_to (Fail link lease keep new treated) tt tt (
          leased_so,
          record {
            text = o.text;
            misses = o.misses;
            waits = subst (λ (x : Writing). WaitsOf x.output p.written o.text) (sym same)
                (waits_of (closed_to s log closed) p w.client o.text left.output o.queued some);
          },
        ))
    answered_on next (Answers.is_over none is) =
        let o = owing run.holds.1 in
        subst (λ (k : Phase L C). Advances state start_at (closed_to s log closed) w k) (sym is)
        (goes_to (Close link lease keep (outcome.Served (Some treated) false)) (λ limit. cc) tt (
          leased_so,
          ends_missed (closed_to s log closed) p w (state link) (start_at link) keep treated o.text
              o.misses (given_all (closed_to s log closed) p w o.text left.output o.queued none),
        ))

-- ---- another attempt follows

-- a response of which nothing is queued was given all of its text, and no final head is in it
record GivenAhead (request : Request) (tasks : List HttpTask) (taken : List ℕ) : Type 0 where
  pub at : has_head (wire request place.NoHead tasks).place ≡ false
  pub text : taken ≡ (wire request place.NoHead tasks).text

given_ahead : (response : Writing) (request : Request) (tasks : List HttpTask) (taken : List ℕ)
    → response.request ≡ request → Holds response tasks taken → IsUnqueued response
    → GivenAhead request tasks taken
given_ahead response request tasks taken own holds unqueued =
    let held : HoldsOn response (outgoing.Open []) tasks taken =
    subst (λ (o : Outgoing). HoldsOn response o tasks taken) unqueued.output holds in
    let sent : wire request place.NoHead tasks
    ≡ record {
      text = taken ++ [];
      counted = held.counted;
      closes = response.closes;
      place = response.place;
    } =
    ap (λ (r : Request). wire r place.NoHead tasks) (sym own) ∙ held.wire.is in
    record {
      at = ap (λ (k : Sent). has_head k.place) sent
          ∙ ap (λ (k : Place). has_head k) unqueued.at;
      text = sym (append-nil taken) ∙ ap (λ (k : Sent). k.text) (sym sent);
    }

-- where the request goes on a call did not lead out of memory
goes_leads : {K X : Type 0} (a : At K X) → GoesOn a → leads_at a ≡ led.GoesOn
goes_leads (at.Kept kept) goes = absurd goes
goes_leads (at.Opening (stage.Behind last)) goes = refl
goes_leads (at.Opening (stage.Ended end.Attempts)) goes = refl
goes_leads (at.Opening (stage.Ended end.Answered)) goes = absurd goes
goes_leads (at.Opening (stage.Ended end.Purge)) goes = refl
goes_leads (at.Opening (stage.Ended end.Declined)) goes = absurd goes
goes_leads (at.Opening (stage.Ended (end.Unwritten why))) goes = absurd goes
goes_leads (at.Opening (stage.Ended (end.Failed error))) goes = refl
goes_leads (at.Opening stage.Lost) goes = absurd goes
goes_leads (at.Purging action) goes = refl
goes_leads (at.Named peer) goes = refl
goes_leads (at.Repeatable error) goes = refl
goes_leads at.Warning goes = refl
goes_leads at.Linked goes = refl
goes_leads (at.Treated error) goes = absurd goes
goes_leads (at.Closing held there) goes = absurd goes

-- memory was wanted for the call that asks for the warning of an error, and the log is as it was
pub unasked : {C M K : Type 0} (allows : Standing → LogEntry → Type 0) (c d : Calls M K C)
    (client left : HttpSession) (mark behind : ℕ) (error : Error)
    → CallsNext allows (record c { at = at.Repeatable error }) client mark d left behind
    → (leads_at d.at ≡ led.GoesOn → ⊥) → log_of d ≡ log_of c
unasked allows c d client left mark behind error (TakesNext.leads before which comes there to turn)
    stops = absurd (true≢false (sym before))
unasked allows c d client left mark behind error (TakesNext.asks t) stops =
    let clash : at.Repeatable error ≡ at.Opening (stage.Ended end.Purge) = t.is_here in cc
unasked allows c d client left mark behind error (TakesNext.tried t) stops =
    absurd (stops (goes_leads d.at t.goes))
unasked allows c d client left mark behind error (TakesNext.lost to same) stops = same

module _ {L C M K : Type 0} (state : L → LinkState) (start_at : L → LinkStart)
    (allows : Standing → LogEntry → Type 0) (c d : Calls M K C) (mark behind : ℕ) (s : Start)
    (p : Passed) (w : World) (context context' : C) (session left : Box HttpSession)
    (link : L) (lease : Lease) (keep : Bool) (raised treated : Error)
    (run : RunSoFar {C = C} state start_at (opened_to s (log_of c)) p w []
    (Broken context session link lease keep raised))
    (is_treated : IsTreated (log_of c) raised treated)
    (begun : may_begin_again session.value ≡ true)
    (may : MayTry s.most (1 + length (tries_in lease)) treated)
    (to : Station)
    (turn : Turns allows hook.SuppressProxyWarnLog station.repeatable to QueuesNothing
    (seen_with c session.value) mark (seen_with d left.value) behind)
  where
    -- the head that the log tells is the session's
    asked_left : (head : RequestHead)
        → head_of session.value.reading ≡ Some (head_behind head (log_of c))
        → head_of left.value.reading ≡ Some (head_behind head (log_of d))
    asked_left = left_on allows c d session.value left.value mark behind hook.SuppressProxyWarnLog
        station.repeatable to QueuesNothing turn

    -- nothing was queued
    asked_quiet : wrote_in (log_of c) ≡ [] → wrote_in (log_of d) ≡ []
    asked_quiet quiet =
        wrote_on allows c d session.value left.value mark behind hook.SuppressProxyWarnLog
        station.repeatable to QueuesNothing turn quiet
        ∙ turn.queued.wrote_none

    -- and a session begins as before
    asked_begins : (o : Origin) → BeginsBehind o p.came w.client w.ahead session.value
        → BeginsBehind o p.came w.client w.ahead left.value
    asked_begins o begins =
        begins_on o p.came w.client w.ahead (seen_with c session.value) (seen_with d left.value)
        turn.calls.reads turn.queued.same begins

    -- why the attempt failed
    fails_again : IsBroken (opened_to s (log_of c)) p w (state link) (start_at link) session.value
        lease keep raised
        → FailsAgain (opened_to s (log_of c)) p w.client (state link) (start_at link) keep treated
    fails_again (IsBroken.in_exchange l kept) =
        let given = given_ahead session.value.writing (request_of l.head)
        (queued_in (order_of l.why)) p.written l.answers l.holds
        (unqueued_parts session.value.writing (as_begun_parts session.value begun).1) in
        FailsAgain.in_exchange l.head l.sent raised l.relayable l.sends is_treated l.before l.f
        l.began l.stands l.why given.at given.text l.speaks kept
    fails_again (IsBroken.ahead_of_it l) =
        FailsAgain.ahead_of_it l.connecting.head raised l.connecting.accepted l.why is_treated
        (subst (λ (b : Bool). IsHandedOut (state link) (start_at link) b) (sym l.fresh.marked)
        l.fresh) l.connecting.unsent l.connecting.written

    -- the session begins behind that head, where the client's link stands
    record BeginsNext : Type 0 where
      head : RequestHead
      accepted : IsAccepted (opened_to s (log_of d)) p head
      is_left : head_of left.value.reading ≡ Some (head_behind head (log_of d))
      quiet : wrote_in (log_of d) ≡ []
      begins : (sent : RequestHead) (reused : Bool)
          → BeginsBehind (origin_of (based s w.client) head sent reused) p.came w.client w.ahead
          left.value

    -- nothing waits, so it begins as it would once written out
    begins_now : (l : LeavesSession (opened_to s (log_of c)) p w.client w.ahead (state link)
        (start_at link) session.value raised)
        → BeginsBehind (origin_of (based s w.client) l.head l.sent (start_at link).reused) p.came
        w.client w.ahead session.value
    begins_now l =
        let empty : session.value.writing.output ≡ outgoing.Open [] =
        (unqueued_parts session.value.writing (as_begun_parts session.value begun).1).output in
        let out = out_same session.value empty in
        subst (λ (h : HttpSession). BeginsBehind
        (origin_of (based s w.client) l.head l.sent (start_at link).reused) p.came w.client w.ahead
        h) out
        (l.again [] empty (ap may_begin_again out ∙ begun))

    begins_next : IsBroken (opened_to s (log_of c)) p w (state link) (start_at link) session.value
        lease keep raised → BeginsNext
    begins_next (IsBroken.in_exchange l kept) =
        let o = origin_of (based s w.client) l.head l.sent (start_at link).reused in
        let again = begins_now l in
        record {
          head = l.head;
          accepted = begins_accepted (opened_to s (log_of d)) p o w.client w.ahead session.value
              refl l.relayable again;
          is_left = asked_left l.head l.is_left;
          quiet = asked_quiet l.quiet;
          begins = λ sent reused.
              asked_begins (origin_of (based s w.client) l.head sent reused)
              (begins_any o p.came w.client w.ahead session.value sent reused o.called again);
        }
    begins_next (IsBroken.ahead_of_it l) =
        let head = l.connecting.head in
        record {
          head = head;
          accepted = called_accepted s (log_of c) (log_of d) p head l.connecting.accepted;
          is_left = asked_left head l.connecting.is_left;
          quiet = asked_quiet l.connecting.quiet;
          begins = λ sent reused.
              asked_begins (origin_of (based s w.client) head sent reused)
              (based_begins (origin_of s head sent reused) p.came w.client w.ahead session.value
              (l.connecting.begins sent reused));
        }

    -- another attempt follows
    repeats_on : RepeatsOn {C = C} state start_at (opened_to s (log_of d)) w
        (Again context' left link lease keep treated)
    repeats_on =
        let next = begins_next run.holds.1 in
        record {
          context = context';
          session = left;
          link = link;
          lease = lease;
          keep = keep;
          error = treated;
          is = refl;
          passed = p;
          before = log_of c;
          asked = turn.e;
          called = turn.calls.log;
          asks = turn.hook;
          unclosed = refl;
          tells = called_tells s (log_of c) (log_of d) p w run.tells;
          untouched = run.untouched;
          leased = run.holds.0;
          fails = fails_again run.holds.1;
          may = may;
          head = next.head;
          accepted = next.accepted;
          is_left = next.is_left;
          quiet = next.quiet;
          begins = next.begins;
        }

    -- so it does by all calls that were made
    pub repeats_called : IsUnended (log_of c) → RepeatsOn {C = C} state start_at
        (called_to s (log_of d)) w (Again context' left link lease keep treated)
    repeats_called none =
        subst (λ (t : Start). RepeatsOn {C = C} state start_at t w
        (Again context' left link lease keep treated))
        (sym (still_open s (log_of d) (unended_more (log_of c) (log_of d) turn.e
        hook.SuppressProxyWarnLog turn.calls.log turn.hook refl none))) repeats_on

-- memory was wanted for one of both
pub treated_lost : {L C : Type 0} (state : L → LinkState) (start_at : L → LinkStart)
    (these those : List LogEntry) (s : Start) (p : Passed) (w : World) (context : C)
    (session : Box HttpSession) (link : L) (lease : Lease) (keep : Bool) (e : Error)
    → those ≡ these
    → RunSoFar {C = C} state start_at (opened_to s these) p w []
    (Broken context session link lease keep e)
    → Advances {C = C} state start_at (opened_to s those) w
    (Close link lease false outcome.OutOfMemory)
treated_lost {C = C} state start_at these those s p w context session link lease keep e same run =
    subst (λ (l : List LogEntry). Advances {C = C} state start_at (opened_to s l) w
    (Close link lease false outcome.OutOfMemory)) (sym same) (record {
      passed = p;
      run = record {
        tells = run.tells;
        order = run.order;
        untouched = run.untouched;
        going = λ limit. cc;
        calm = tt;
        holds = (
          run.holds.0,
          (
            broken_part (opened_to s these) p w (state link) (start_at link) session.value lease
                keep e run.holds.1,
            refl,
          ),
        );
      };
    })
