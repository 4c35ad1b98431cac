-- Turns that call a hook before the attempts: the request goes on, is answered, or is stopped.
--
--   called_tells, called_reads     what passed, by the calls that were made since
--   begins_on                      a session whose head a hook may have changed begins as before
--   left_on                        the head that the log tells is the session's
--   none_tried                     no attempt was made
--   stays_connecting               a call behind which the request goes on
--   hooks_answer, purge_answers    calls that end it
use Rattle.std.specs.Global.{Box}
use Rattle.std.proofs.Common.{◌≡◌, ℕ, ◌+◌, ◌<◌, ◌≤◌, Bool, true, false, List, [], ◌∷◌, ◌++◌, length, drop, map, Option, Some, None, refl, sym, ap, subst, ◌∙◌, inl, inr, true≢false, arith, append-nil, unwrap_or, is_some}
use Rattle.std.specs.List.{All}
use Rattle.std.specs.Prelude.{IsSome}
use Rattle.relay_tasks.specs.Head.{RequestHead, new_request}
use Rattle.relay_tasks.specs.declared.Error.{Error}
use Rattle.relay_tasks.specs.Hooks.{same_hook}
use Rattle.relay_tasks.specs.declared.hook.Hook.{Hook}
use Rattle.relay_tasks.specs.declared.hook.Hook.TheVariants as hook
use Rattle.relay_tasks.specs.declared.log.LogEntry.{LogEntry}
use Rattle.relay_tasks.specs.declared.peer.PurgeAction.{PurgeAction}
use Rattle.relay_tasks.specs.declared.task.HttpTask.{HttpTask}
use Rattle.relay_links.specs.Link.{LinkState, LinkStart}
use Rattle.relay_links.specs.Purger.{PurgerState}
use Rattle.relay_session.specs.Reading.{head_of}
use Rattle.relay_session.specs.Response.{AreQueued, GoesOnWith, Holds, HoldsOn, IsOpen, has_head, pending}
use Rattle.relay_session.specs.TaskWire.{Sent, wire}
use Rattle.relay_session.specs.declared.session.HttpSession.{HttpSession}
use Rattle.relay_session.specs.Asked.{request_of}
use Rattle.relay_session.specs.declared.task_text.Place.{Place}
use Rattle.relay_session.specs.declared.task_text.Place.TheVariants as stands
use Rattle.relay_session.specs.declared.task_text.Request.{Request}
use Rattle.relay_session.specs.declared.writing.Outgoing.{Outgoing}
use Rattle.relay_session.specs.declared.writing.Outgoing.TheVariants as outgoing
use Rattle.relay_session.specs.declared.writing.Writing.{Writing}
use Rattle.relay_modules.specs.declared.seen.Seen.{Seen}
use Rattle.relay_hooks.specs.Session.{moment}
use Rattle.relay_hooks.specs.Standing.{Standing, standing}
use Rattle.relay_phases.specs.Order.{Accepts, Station}
use Rattle.relay_phases.specs.Order.{Station as station}
use Rattle.relay_phases.specs.Turns.{HasCalled, QueuesNothing, ReadsNothing, Turns, wrote_in}
use Rattle.relay_phases.proofs.TurnLemmas.{wrote_in-append}
use Rattle.relay_opening.specs.Told.{TellsHead, head_behind}
use Rattle.relay_opening.proofs.ToldLemmas.{called_head, reads_done, reads_kept, reads_so_far, walk_head}
use Rattle.relay_opening.specs.Queued.{Completes, QueuesAnswer, QueuesAtEnd}
use Rattle.relay_opening.specs.Place.{end_station}
use Rattle.relay_opening.specs.declared.place.End.{End}
use Rattle.relay_opening.specs.declared.place.End.TheVariants as end
use Rattle.relay_hooks.specs.DefaultLaw.{lone_answer}
use Rattle.relay_core.specs.Past.{Origin}
use Rattle.relay_sides.specs.Client.{BeginsBehind}
use Rattle.relay_attempt.specs.Passed.{Passed}
use Rattle.relay_h1.specs.Verdict.{HasRequest}
use Rattle.relay_h1.specs.declared.framing.Framing.{Framing}
use Rattle.relay_h1.proofs.VerdictLemmas.{HasRequest-IsOpen}
use Rattle.relay_peer.proofs.FaultLemmas.{grew_same}
use Rattle.relay_request.specs.Calls.{log_of, seen_with}
use Rattle.relay_closing.specs.Queued.{QueuesOnce}
use Rattle.relay_purging.specs.Purging.{PurgesOnce}
use Rattle.relay_purging.specs.Queued.{lone_head}
use Rattle.relay_purging.specs.declared.turn.End.TheVariants as purging
use Rattle.relay_request.specs.Ahead.{IsAnswerOf, IsOwedAhead, IsStoppedFor, ends_purge}
use Rattle.relay_request.specs.Owed.{IsAnsweredCalmly, TellsAgain}
use Rattle.relay_request.specs.Endings.{IsReusableAhead, IsInOrder, AttemptsFailed, AttemptsUnlinked, EndsAhead, EndsUnlinked, MadeAhead, MadeNone}
use Rattle.relay_request.specs.Passed.{World, Start, asked, closed_to, opened_to, origin_of, IsUnsent, TellsClient}
use Rattle.relay_request.specs.Phases.{IsConnecting, RunSoFar}
use Rattle.relay_request.specs.Relayable.{IsAccepted, IsRelayable}
use Rattle.relay_request.specs.Sent.{IsAnswered, IsUntreated}
use Rattle.relay_request.specs.Tries.{AreTries, IsTry, Refusal, record_of, refusals_in}
use Rattle.relay_request.specs.Turn.{Advances}
use Rattle.relay_request.specs.declared.calls.Calls.{Calls}
use Rattle.relay_request.specs.declared.machine.Phase.{Phase}
use Rattle.relay_request.specs.declared.machine.Phase.TheVariants.{ReadHead, Connect, Answer, Ended}
use Rattle.relay_request.specs.declared.outcome.Outcome.TheVariants as outcome
use Rattle.relay_request.specs.declared.owed.Owed.TheVariants as owed
use Rattle.relay_request.specs.declared.record.AttemptRecord.{AttemptRecord}
use Rattle.relay_turns.proofs.AnswerSteps.{answer_on}
use Rattle.relay_turns.proofs.HeadSteps.{StandsBehind, begins_behind, done_at_first}
use Rattle.relay_turns.proofs.Tells.{client_still}
use Rattle.relay_request.proofs.NamedLemmas.{refusals_still}
use Rattle.relay_turns.proofs.TryLemmas.{no_tries}

-- ---- the same start, once more calls were made

-- what the client's link tells does not depend on the calls
pub called_tells : (s : Start) (these those : List LogEntry) (p : Passed) (w : World)
    → TellsClient (opened_to s these) p w → TellsClient (opened_to s those) p w
called_tells s these those p w tells = record {
  came = tells.came;
  written = tells.written;
  faults = tells.faults;
  connect_faults = tells.connect_faults;
  fault_lists = tells.fault_lists;
}

-- nor does the head that was accepted
abbrev pub called_accepted : (s : Start) (these those : List LogEntry) (p : Passed)
    (head : RequestHead)
    → IsAccepted (opened_to s these) p head → IsAccepted (opened_to s those) p head
called_accepted s these those p head accepted = record {
  framing = accepted.framing;
  len = accepted.len;
  has = accepted.has;
  relayable = accepted.relayable;
}

-- nor, where they tell the same of them, the attempts that were made
pub called_tries : (s : Start) (these those : List LogEntry) (tries : List AttemptRecord)
    → refusals_in those ≡ refusals_in these
    → AreTries (opened_to s these) tries → AreTries (opened_to s those) tries
called_tries s these those tries same are = record {
  fits = subst (λ (rs : List Refusal). s.refused ≤ length rs) (sym same) are.fits;
  told = are.told
      ∙ ap (λ (rs : List Refusal).
      s.tried ++ map (λ (r : Refusal). record_of r) (drop s.refused rs)) (sym same);
  each = subst (λ (rs : List Refusal). All IsTry rs) (sym same) are.each;
  allowed = are.allowed;
}

-- and none of them depends on the calls of the end
pub closed_tells : (s : Start) (log closed : List LogEntry) (p : Passed) (w : World)
    → TellsClient (opened_to s log) p w → TellsClient (closed_to s log closed) p w
closed_tells s log closed p w tells = record {
  came = tells.came;
  written = tells.written;
  faults = tells.faults;
  connect_faults = tells.connect_faults;
  fault_lists = tells.fault_lists;
}

pub closed_accepted : (s : Start) (log closed : List LogEntry) (p : Passed) (head : RequestHead)
    → IsAccepted (opened_to s log) p head → IsAccepted (closed_to s log closed) p head
closed_accepted s log closed p head accepted = record {
  framing = accepted.framing;
  len = accepted.len;
  has = accepted.has;
  relayable = accepted.relayable;
}

-- nor the attempts that were made
pub closed_tries : (s : Start) (log closed : List LogEntry) (tries : List AttemptRecord)
    → AreTries (opened_to s log) tries → AreTries (closed_to s log closed) tries
closed_tries s log closed tries are =
    record { fits = are.fits; told = are.told; each = are.each; allowed = are.allowed }

-- where there is no attempt there was none before
pub none_tried : (s : Start) (tries : List AttemptRecord) → AreTries s tries → tries ≡ []
    → MadeNone s tries
none_tried s tries are none = (none, none_before s.tried _ (sym are.told ∙ none))
  where
    none_before : (xs ys : List AttemptRecord) → xs ++ ys ≡ [] → xs ≡ []
    none_before [] ys is = refl
    none_before (x ∷ xs) ys is = cc

-- a log of one call tells of none
lone_untold : (es : List LogEntry) → length es ≡ 1 → refusals_in es ≡ []
lone_untold [] one = refl
lone_untold (e ∷ []) one = refl
lone_untold (e ∷ x ∷ es) one = absurd (omega (arith, one))

-- ---- the session

-- a session of which nothing was read or queued begins as before, whatever its head
pub begins_on : (o : Origin) (came : List ℕ) (link : LinkState) (ahead : List ℕ)
    (first now : Seen) → ReadsNothing first now
    → now.downstream.writing ≡ first.downstream.writing
    → BeginsBehind o came link ahead first.downstream
    → BeginsBehind o came link ahead now.downstream
begins_on o came link ahead first now reads same begins = record {
  gave = begins.gave;
  written = begins.written;
  faults = begins.faults;
  head = begins.head;
  framing = begins.framing;
  len = begins.len;
  has = begins.has;
  has_head = reads.head begins.has_head;
  own = begins.own;
  answers = ap (λ (w : Writing). w.request) same ∙ begins.answers;
  body = begins.body;
  request = reads_so_far (o.ahead ++ came) begins.body ahead first now reads begins.request;
  kept = reads_kept first now reads ∙ begins.kept;
  headed = λ none. reads_done first now reads ∙ begins.headed none;
  whole = λ done. begins.whole (sym (reads_done first now reads) ∙ done);
  response = subst (λ (w : Writing). Holds w [] []) (sym same) begins.response;
  output = ap (λ (w : Writing). w.output) same ∙ begins.output;
  tells = begins.tells;
}

-- what is some is what it unwraps to
some_or : {A : Type 0} (o : Option A) (other : A) → IsSome o → o ≡ Some (unwrap_or o other)
some_or None other none = absurd (true≢false (sym none))
some_or (Some a) other some = refl

-- a log with one entry more tells the head behind it
head_behind_append : (head : RequestHead) (es : List LogEntry) (e : LogEntry)
    → head_behind head (es ++ e ∷ []) ≡ unwrap_or e.head (head_behind head es)
head_behind_append head [] e = refl
head_behind_append head (x ∷ es) e = head_behind_append (unwrap_or x.head head) es e

module _ {M K X : Type 0} (allows : Standing → LogEntry → Type 0) (c d : Calls M K X)
    (client left : HttpSession) (mark behind : ℕ) (which : Hook) (from to : Station)
    (queues : Writing → Writing → List HttpTask → Type 0)
    (t : Turns allows which from to queues (seen_with c client) mark (seen_with d left) behind)
  where
    -- the log has one entry more
    pub log_on : log_of d ≡ log_of c ++ t.e ∷ []
    log_on = t.calls.log

    -- the head that it tells is the session's
    pub left_on : (head : RequestHead)
        → head_of client.reading ≡ Some (head_behind head (log_of c))
        → head_of left.reading ≡ Some (head_behind head (log_of d))
    left_on head is =
        let other = new_request [] [] in
        let walked : unwrap_or (head_of left.reading) other
        ≡ unwrap_or t.e.head (unwrap_or (head_of client.reading) other) =
        walk_head allows (t.e ∷ []) (standing None false (moment (seen_with c client) mark))
        (standing None false (moment (seen_with d left) behind)) t.calls.walk in
        some_or (head_of left.reading) other (t.calls.reads.head (ap is_some is))
        ∙ ap (λ (h : RequestHead). Some h)
        (walked
        ∙ ap (λ (h : Option RequestHead). unwrap_or t.e.head (unwrap_or h other)) is
        ∙ sym (head_behind_append head (log_of c) t.e)
        ∙ ap (λ (l : List LogEntry). head_behind head l) (sym log_on))

    -- what its calls queued is what was queued before, and then that of this call
    pub wrote_on : wrote_in (log_of c) ≡ [] → wrote_in (log_of d) ≡ t.e.wrote
    wrote_on none =
        ap (λ (l : List LogEntry). wrote_in l) log_on
        ∙ wrote_in-append (log_of c) (t.e ∷ [])
        ∙ ap (λ (l : List HttpTask). l ++ (t.e.wrote ++ [])) none
        ∙ append-nil t.e.wrote

-- a call that queued nothing leaves a request that wants a link as it stood, with the attempts that
-- the log tells then
abbrev pub stays_with : {M K X : Type 0} (allows : Standing → LogEntry → Type 0) (c d : Calls M K X)
    (client left : HttpSession) (mark behind : ℕ) (which : Hook) (from to : Station)
    → Turns allows which from to QueuesNothing (seen_with c client) mark (seen_with d left) behind
    → (s : Start) (p : Passed) (w : World) (tries attempts : List AttemptRecord)
    → AreTries (opened_to s (log_of d)) attempts
    → IsConnecting (opened_to s (log_of c)) p w client tries
    → IsConnecting (opened_to s (log_of d)) p w left attempts
stays_with allows c d client left mark behind which from to t s p w tries attempts are k = record {
  head = k.head;
  accepted = called_accepted s (log_of c) (log_of d) p k.head k.accepted;
  is_left = left_on allows c d client left mark behind which from to QueuesNothing t k.head
      k.is_left;
  quiet = wrote_on allows c d client left mark behind which from to QueuesNothing t k.quiet
      ∙ t.queued.wrote_none;
  begins = λ sent reused. begins_on (origin_of s k.head sent reused) p.came w.client w.ahead
      (seen_with c client) (seen_with d left) t.calls.reads t.queued.same (k.begins sent reused);
  unread = λ none. reads_done (seen_with c client) (seen_with d left) t.calls.reads ∙ k.unread none;
  written = k.written;
  unsent = k.unsent;
  are_tries = are;
}

-- and with the same ones, but for a call that tells of an attempt without a link
abbrev pub stays_connecting : {M K X : Type 0} (allows : Standing → LogEntry → Type 0)
    (c d : Calls M K X)
    (client left : HttpSession) (mark behind : ℕ) (which : Hook) (from to : Station)
    → Turns allows which from to QueuesNothing (seen_with c client) mark (seen_with d left) behind
    → (s : Start) (p : Passed) (w : World) (tries : List AttemptRecord)
    → same_hook hook.FailToConnect which ≡ false
    → IsConnecting (opened_to s (log_of c)) p w client tries
    → IsConnecting (opened_to s (log_of d)) p w left tries
stays_connecting allows c d client left mark behind which from to t s p w tries other k =
    stays_with allows c d client left mark behind which from to t s p w tries tries
    (called_tries s (log_of c) (log_of d) tries
    (ap (λ (l : List LogEntry). refusals_in l)
    (log_on allows c d client left mark behind which from to QueuesNothing t)
    ∙ refusals_still (log_of c) t.e which t.hook other) k.are_tries) k

-- ---- what waits

-- a response of which nothing was queued stands before its head
pub stands_first : (writing : Writing) → Holds writing [] []
    → writing.output ≡ outgoing.Open [] → writing.place ≡ stands.NoHead
stands_first writing holds is_open =
    let held : HoldsOn writing (outgoing.Open []) [] [] =
    subst (λ (o : Outgoing). HoldsOn writing o [] []) is_open holds in
    sym (ap (λ (k : Sent). k.place) held.wire.is)

-- what waits behind tasks of which none was taken is their text
pub waits_of : (writing : Writing) (tasks : List HttpTask) (waiting : List ℕ)
    → Holds writing tasks [] → writing.output ≡ outgoing.Open waiting
    → waiting ≡ (wire writing.request stands.NoHead tasks).text
waits_of writing tasks waiting holds is_open =
    let held : HoldsOn writing (outgoing.Open waiting) tasks [] =
    subst (λ (o : Outgoing). HoldsOn writing o tasks []) is_open holds in
    sym (ap (λ (k : Sent). k.text) held.wire.is)

-- and they lead to the place where the response stands
held_place : (writing : Writing) (output : Outgoing) (tasks : List HttpTask)
    → HoldsOn writing output tasks []
    → (wire writing.request stands.NoHead tasks).place ≡ writing.place
held_place writing (outgoing.Open queue) tasks held = ap (λ (k : Sent). k.place) held.wire.is
held_place writing (outgoing.Broken fault) tasks (lost, held) =
    ap (λ (k : Sent). k.place) held.wire.is

pub leads_to : (writing : Writing) (tasks : List HttpTask) → Holds writing tasks []
    → (wire writing.request stands.NoHead tasks).place ≡ writing.place
leads_to writing tasks holds = held_place writing writing.output tasks holds

-- ---- an answer that was queued once, if any

-- the response goes on with it
pub once_goes_on : (old new : Writing) (wrote : List HttpTask) → QueuesOnce old new wrote
    → GoesOnWith old new wrote
once_goes_on old new wrote (inl none) = λ tasks taken holds.
    subst (λ (w : Writing). Holds w (tasks ++ wrote) taken) (sym none.same)
    (subst (λ (l : List HttpTask). Holds old l taken)
    (sym (ap (λ (l : List HttpTask). tasks ++ l) none.wrote_none ∙ append-nil tasks)) holds)
once_goes_on old new wrote (inr answer) = answer.queued

-- answers the same request
pub once_request : (old new : Writing) (wrote : List HttpTask) → QueuesOnce old new wrote
    → new.request ≡ old.request
once_request old new wrote (inl none) = ap (λ (w : Writing). w.request) none.same
once_request old new wrote (inr answer) = answer.answers_to

-- and is open where it was
pub once_open : (old new : Writing) (wrote : List HttpTask) → QueuesOnce old new wrote
    → IsOpen old.output → IsOpen new.output
once_open old new wrote (inl none) = λ is_open.
    subst (λ (w : Writing). IsOpen w.output) (sym none.same) is_open
once_open old new wrote (inr answer) = answer.stays_open

-- ---- a request that hooks answered

-- the text of tasks that answer that request waits, and the response stands behind them
record Waits (request : Request) (tasks : List HttpTask) (waiting : List ℕ) (new : Writing)
    : Type 0 where
  own : new.request ≡ request
  text : waiting ≡ (wire request stands.NoHead tasks).text
  place : new.place ≡ (wire request stands.NoHead tasks).place
  closes : new.closes ≡ (wire request stands.NoHead tasks).closes

waits_for : (request : Request) (new : Writing) (tasks : List HttpTask) (waiting : List ℕ)
    → new.request ≡ request → Holds new tasks [] → new.output ≡ outgoing.Open waiting
    → Waits request tasks waiting new
waits_for request new tasks waiting own holds is_open =
    let held : HoldsOn new (outgoing.Open waiting) tasks [] =
    subst (λ (o : Outgoing). HoldsOn new o tasks []) is_open holds in
    let sent : wire request stands.NoHead tasks
    ≡ record {
      text = waiting;
      counted = held.counted;
      closes = new.closes;
      place = new.place;
    } =
    ap (λ (r : Request). wire r stands.NoHead tasks) (sym own) ∙ held.wire.is in
    record {
      own = own;
      text = sym (ap (λ (k : Sent). k.text) sent);
      place = sym (ap (λ (k : Sent). k.place) sent);
      closes = sym (ap (λ (k : Sent). k.closes) sent);
    }

-- the tasks that these calls queued are an answer of that request, and their text waits
record IsAnswerWaiting (called : List LogEntry) (request : Request) (waiting : List ℕ)
    (new : Writing) : Type 0 where
  tasks : List HttpTask
  is_answer : IsAnswerOf called request tasks
  waits : Waits request tasks waiting new

-- with one call more it is that one which may have filtered the answer of a purge
ends_purge_append : (log : List LogEntry) (e : LogEntry)
    → ends_purge (log ++ e ∷ []) ≡ same_hook hook.PurgeResponseFilter e.hook
ends_purge_append [] e = refl
ends_purge_append (x ∷ []) e = refl
ends_purge_append (x ∷ y ∷ log) e = ends_purge_append (y ∷ log) e

-- what a hook queued that answered the request is an answer of it
answer_queued : (called : List LogEntry) (old new : Writing) (waiting : List ℕ)
    → ends_purge called ≡ false → Holds old [] [] → QueuesAnswer old new (wrote_in called)
    → new.output ≡ outgoing.Open waiting → IsAnswerWaiting called old.request waiting new
answer_queued called old new waiting plain holds queues is_open =
    record {
      tasks = wrote_in called;
      is_answer = IsAnswerOf.as_queued plain (inl queues.whole);
      waits = waits_for old.request new (wrote_in called) waiting queues.answers_to
          (queues.queued [] [] holds) is_open;
    }

-- and so is what a hook queued that declined it, with the 502 behind it where there was no head
declined_queued : (has : Bool) (called : List LogEntry) (left new : Writing) (waiting : List ℕ)
    → has_head left.place ≡ has → ends_purge called ≡ false → Holds left (wrote_in called) []
    → Completes has left new → new.output ≡ outgoing.Open waiting
    → IsAnswerWaiting called left.request waiting new
declined_queued true called left new waiting has plain holds same is_open =
    record {
      tasks = wrote_in called;
      is_answer = IsAnswerOf.as_queued plain
          (inr (ap (λ (p : Place). has_head p) (leads_to left (wrote_in called) holds) ∙ has));
      waits = waits_for left.request new (wrote_in called) waiting
          (ap (λ (w : Writing). w.request) same)
          (subst (λ (w : Writing). Holds w (wrote_in called) []) (sym same) holds) is_open;
    }
declined_queued false called left new waiting has plain holds queued is_open =
    record {
      tasks = wrote_in called ++ lone_answer 502;
      is_answer = IsAnswerOf.with_502 plain
          (ap (λ (p : Place). has_head p) (leads_to left (wrote_in called) holds) ∙ has);
      waits = waits_for left.request new (wrote_in called ++ lone_answer 502) waiting
          (ap (λ (w : Writing). w.request) queued.grows.grown)
          (queued.goes_on (wrote_in called) [] holds) is_open;
    }

-- hooks that ended so answered the request
abbrev pub AnswersAs : End → Type 0
AnswersAs end.Attempts = ⊥
AnswersAs end.Answered = Unit {0}
AnswersAs end.Purge = ⊥
AnswersAs end.Declined = Unit {0}
AnswersAs (end.Unwritten why) = ⊥
AnswersAs (end.Failed error) = ⊥

-- what they queued is an answer of it
hooks_queued : (how : End) (called : List LogEntry) (old new : Writing) (waiting : List ℕ)
    → AnswersAs how → ends_purge called ≡ false → Holds old [] []
    → QueuesAtEnd how old new (wrote_in called) → new.output ≡ outgoing.Open waiting
    → IsAnswerWaiting called old.request waiting new
hooks_queued end.Attempts called old new waiting ends plain holds queues is_open = absurd ends
hooks_queued end.Answered called old new waiting ends plain holds queues is_open =
    answer_queued called old new waiting plain holds queues is_open
hooks_queued end.Purge called old new waiting ends plain holds queues is_open = absurd ends
hooks_queued end.Declined called old new waiting ends plain holds queues is_open =
    subst (λ (r : Request). IsAnswerWaiting called r waiting new) queues.answers_to
    (declined_queued (has_head queues.left.place) called queues.left new waiting refl plain
    (queues.queued [] [] holds) queues.completed is_open)
hooks_queued (end.Unwritten why) called old new waiting ends plain holds queues is_open =
    absurd ends
hooks_queued (end.Failed error) called old new waiting ends plain holds queues is_open =
    absurd ends

-- the client is owed what waits, and the session tells whether it may ask for more behind that
pub record HooksAnswer (s : Start) (p : Passed) (left : HttpSession) (waiting : List ℕ)
    : Type 0 where
  pub owed : IsOwedAhead s p None waiting
  pub tells : s.tried ≡ [] → TellsAgain owed left

-- the hooks before the attempts answered the request, and what waits is what it is owed
pub hooks_answer : {M K X : Type 0} (allows : Standing → LogEntry → Type 0) (c d : Calls M K X)
    (client left : HttpSession) (mark behind : ℕ) (which : Hook) (from : Station) (how : End)
    (s : Start) (p : Passed) (w : World) (tries : List AttemptRecord) (waiting : List ℕ)
    → Turns allows which from (end_station how) (QueuesAtEnd how) (seen_with c client) mark
    (seen_with d left) behind
    → AnswersAs how → same_hook hook.PurgeResponseFilter which ≡ false
    → end_station how ≡ station.answered → Accepts station.accepted (log_of d) (end_station how)
    → left.writing.output ≡ outgoing.Open waiting
    → IsConnecting (opened_to s (log_of c)) p w client tries
    → HooksAnswer (opened_to s (log_of d)) p left waiting
hooks_answer allows c d client left mark behind which from how s p w tries waiting t ends other at
    order is_open k =
    let begins = k.begins k.head false in
    let plain : ends_purge (log_of d) ≡ false =
    ap (λ (l : List LogEntry). ends_purge l) t.calls.log
    ∙ ends_purge_append (log_of c) t.e
    ∙ ap (λ (h : Hook). same_hook hook.PurgeResponseFilter h) t.hook ∙ other in
    let answer = hooks_queued how (log_of d) client.writing left.writing waiting ends plain
    begins.response
    (subst (λ (l : List HttpTask). QueuesAtEnd how client.writing left.writing l)
    (sym (wrote_on allows c d client left mark behind which from (end_station how)
    (QueuesAtEnd how) t k.quiet)) t.queued) is_open in
    let request : client.writing.request ≡ request_of k.head =
    begins.answers ∙ ap (λ (h : RequestHead). request_of h) begins.own in
    let waits : Waits (request_of k.head) answer.tasks waiting left.writing =
    subst (λ (r : Request). Waits r answer.tasks waiting left.writing) request answer.waits in
    record {
      owed = IsOwedAhead.by_answer k.head answer.tasks waiting
          (called_accepted s (log_of c) (log_of d) p k.head k.accepted)
          (subst (λ (at : Station). Accepts station.accepted (log_of d) at) at order)
          (subst (λ (r : Request). IsAnswerOf (log_of d) r answer.tasks) request answer.is_answer)
          waits.text;
      tells = λ none. record {
        request = waits.own;
        done = reads_done (seen_with c client) (seen_with d left) t.calls.reads ∙ k.unread none;
        place = waits.place;
        closes = waits.closes;
      };
    }

-- the purger was asked, and its answer is what waits: its client is owed that
pub purge_answers : {M K X : Type 0} (allows : Standing → LogEntry → Type 0) (c d : Calls M K X)
    (client left : HttpSession) (mark behind : ℕ) (action : PurgeAction)
    (asked told : PurgerState) (s : Start) (p : Passed) (w : World) (tries : List AttemptRecord)
    (waiting : List ℕ)
    → PurgesOnce allows action asked told (seen_with c client) mark (seen_with d left) behind
    purging.Answered
    → Accepts station.accepted (log_of d) station.answered
    → left.writing.output ≡ outgoing.Open waiting
    → IsConnecting (opened_to s (log_of c)) p w client tries
    → HooksAnswer (opened_to s (log_of d)) p left waiting
purge_answers allows c d client left mark behind action asked told s p w tries waiting once order
    is_open k =
    let begins = k.begins k.head false in
    let queued : AreQueued client.writing (lone_head once.head) left.writing =
    once.turn.queued.queued in
    let waits : Waits (request_of k.head) (lone_head once.head) waiting left.writing =
    waits_for (request_of k.head) left.writing (lone_head once.head) waiting
    (ap (λ (x : Writing). x.request) queued.grows.grown ∙ begins.answers
    ∙ ap (λ (h : RequestHead). request_of h) begins.own)
    (queued.goes_on [] [] begins.response) is_open in
    record {
      owed = IsOwedAhead.by_answer k.head (lone_head once.head) waiting
          (called_accepted s (log_of c) (log_of d) p k.head k.accepted) order
          (IsAnswerOf.of_purge once.head (record {
            before = log_of c;
            last = once.turn.e;
            is_last = once.turn.calls.log;
            is_filter = once.turn.hook;
            told = once.told;
          }) once.bodiless) waits.text;
      tells = λ none. record {
        request = waits.own;
        done = reads_done (seen_with c client) (seen_with d left) once.turn.calls.reads
            ∙ k.unread none;
        place = waits.place;
        closes = waits.closes;
      };
    }

-- a hook stopped the request with that error, the application answered it, and what waits is what
-- it queued
pub record IsStopped (s : Start) (p : Passed) (left : HttpSession) (e : Error) : Type 0 where
  pub text : List ℕ
  pub is_open : left.writing.output ≡ outgoing.Open text
  pub owed : IsOwedAhead s p (Some e) text

pub error_answered : (s : Start) (log closed : List LogEntry) (p : Passed) (w : World)
    (client left : HttpSession) (tries : List AttemptRecord) (e : Error) → IsStoppedFor log e
    → IsAnswered closed e → QueuesOnce client.writing left.writing (wrote_in closed)
    → IsConnecting (opened_to s log) p w client tries
    → IsStopped (closed_to s log closed) p left e
error_answered s log closed p w client left tries e stops told queues k =
    let wrote : List HttpTask = wrote_in closed in
    let begins = k.begins k.head false in
    let request : left.writing.request ≡ request_of k.head =
    once_request client.writing left.writing wrote queues
    ∙ begins.answers ∙ ap (λ (h : RequestHead). request_of h) begins.own in
    let waits : IsOpen left.writing.output =
    once_open client.writing left.writing wrote queues ([], begins.output) in
    record {
      text = waits.0;
      is_open = waits.1;
      owed = IsOwedAhead.by_error k.head e waits.0
          (closed_accepted s log closed p k.head k.accepted) stops told
          (waits_of left.writing wrote waits.0
          (once_goes_on client.writing left.writing wrote queues [] [] begins.response) waits.1
          ∙ ap (λ (r : Request). (wire r stands.NoHead wrote).text) request);
    }

-- where nothing is owed the client does not go back
nothing_again : (s : Start) (p : Passed) (why : Option Error) (text : List ℕ)
    (owes : IsOwedAhead s p why text) (ahead : List ℕ) → text ≡ [] → IsReusableAhead owes ahead → ⊥
nothing_again s p why text (IsOwedAhead.by_answer head tasks t accepted order is_answer is) ahead
    none may =
    may.some (sym is ∙ none)
nothing_again s p why text (IsOwedAhead.by_error head e t accepted stopped told is) ahead none may =
    may

-- how one ends that is owed nothing
owed_nothing : (s : Start) (p : Passed) (w : World) (why : Option Error)
    (tries : List AttemptRecord) → IsOwedAhead s p why [] → IsUntreated s.called
    → p.written ≡ [] → IsUnsent p → MadeAhead s why tries → w.client.faults ≡ s.faults
    → EndsUnlinked s p w (outcome.Served why false)
    × AttemptsUnlinked s p w tries (outcome.Served why false)
owed_nothing s p w None tries owes untreated written unsent made calm = (
  record {
    ends = record {
      why = None;
      text = [];
      owed = owes;
      given = inl (refl, written);
      unsent = unsent;
      untreated = untreated;
    };
    calm = calm;
    goes_back = (
      λ never. absurd (true≢false (sym never)),
      λ may. absurd (nothing_again s p None [] owes w.ahead refl may),
    );
  },
  made,
)
owed_nothing s p w (Some e) tries owes untreated written unsent made calm =
    let ends : EndsAhead s p w (Some e) = record {
      why = Some e;
      text = [];
      owed = owes;
      given = (refl, inl written);
      unsent = unsent;
      untreated = untreated;
    } in
    ((inr ends, refl), AttemptsFailed.ahead ends made)

module _ {L C : Type 0} (state : L → LinkState) (start_at : L → LinkStart) where
  -- a request that goes on behind a call
  pub opened_on : (these those : List LogEntry) (s : Start) (p : Passed) (w : World)
      (context context' : C) (client left : Box HttpSession) (tries : List AttemptRecord)
      → IsConnecting (opened_to s those) p w left.value tries
      → RunSoFar {C = C} state start_at (opened_to s these) p w [] (Connect context client tries)
      → Advances {C = C} state start_at (opened_to s those) w (Connect context' left tries)
  opened_on these those s p w context context' client left tries k run = record {
    passed = p;
    run = record {
      tells = called_tells s these those p w run.tells;
      order = IsInOrder.is_nothing k.written k.unsent.sent;
      untouched = run.untouched;
      going = tt;
      calm = run.calm;
      holds = k;
    };
  }

  -- one that is owed that text by hooks
  pub hooks_owe : (these those : List LogEntry) (xs : List LogEntry) (s : Start) (p : Passed)
      (w : World) (context : C)
      (client left : Box HttpSession) (tries : List AttemptRecord) (why : Option Error)
      (text : List ℕ) → left.value.writing.output ≡ outgoing.Open text → 0 < length text
      → (owes : IsOwedAhead (closed_to s those xs) p why text) → IsUntreated those
      → MadeAhead (closed_to s those xs) why tries
      → IsAnsweredCalmly {p = p} w why owes left.value
      → RunSoFar {C = C} state start_at (opened_to s these) p w [] (Connect context client tries)
      → Advances {C = C} state start_at (closed_to s those xs) w
      (Answer left (owed.Ahead why) tries)
  hooks_owe these those xs s p w context client left tries why text waits some owes untreated made
      tells run =
      answer_on state start_at (closed_to s those xs) p w [] left (owed.Ahead why) tries
      (closed_tells s those xs p w (called_tells s these those p w run.tells)) (record {
        text = text;
        owes = (
          owes,
          record { got = run.holds.unsent.got; sent = run.holds.unsent.sent },
          untreated,
        );
        tells = tells;
        waits = record {
          left = text;
          is_open = waits;
          some = some;
          joined = ap (λ (xs : List ℕ). xs ++ text) run.holds.written;
        };
        made = made;
      })

  -- one that is owed nothing has ended
  pub hooks_end : (these those : List LogEntry) (xs : List LogEntry) (s : Start) (p : Passed)
      (w : World) (context : C)
      (client : Box HttpSession) (tries : List AttemptRecord) (why : Option Error)
      → IsOwedAhead (closed_to s those xs) p why [] → IsUntreated those
      → MadeAhead (closed_to s those xs) why tries
      → RunSoFar {C = C} state start_at (opened_to s these) p w [] (Connect context client tries)
      → Advances {C = C} state start_at (closed_to s those xs) w
      (Ended (outcome.Served why false) tries)
  hooks_end these those xs s p w context client tries why owes untreated made run = record {
    passed = p;
    run = record {
      tells = closed_tells s those xs p w (called_tells s these those p w run.tells);
      order = IsInOrder.is_nothing run.holds.written run.holds.unsent.sent;
      untouched = run.untouched;
      going = λ limit. cc;
      calm = tt;
      holds = owed_nothing (closed_to s those xs) p w why tries owes untreated run.holds.written
          (record { got = run.holds.unsent.got; sent = run.holds.unsent.sent }) made run.calm;
    };
  }

  -- what waits for the client is what it is owed
  pub hooks_leave : (these those : List LogEntry) (xs : List LogEntry) (s : Start) (p : Passed)
      (w : World)
      (context : C) (client left : Box HttpSession) (tries : List AttemptRecord)
      (why : Option Error) (text : List ℕ) (next : Phase L C)
      → left.value.writing.output ≡ outgoing.Open text
      → (0 < length (pending left.value.writing.output) → next ≡ Answer left (owed.Ahead why) tries)
      → (pending left.value.writing.output ≡ [] → next ≡ Ended (outcome.Served why false) tries)
      → (owes : IsOwedAhead (closed_to s those xs) p why text) → IsUntreated those
      → MadeAhead (closed_to s those xs) why tries
      → IsAnsweredCalmly {p = p} w why owes left.value
      → RunSoFar {C = C} state start_at (opened_to s these) p w [] (Connect context client tries)
      → Advances {C = C} state start_at (closed_to s those xs) w next
  hooks_leave these those xs s p w context client left tries why [] next is more none owes
      untreated made tells run =
      subst (λ (k : Phase L C). Advances {C = C} state start_at (closed_to s those xs) w k)
      (sym (none (ap pending is)))
      (hooks_end these those xs s p w context client tries why owes untreated made run)
  hooks_leave these those xs s p w context client left tries why (b ∷ bs) next is more none owes
      untreated made tells run =
      let long : 0 < length (pending left.value.writing.output) =
      omega (arith, ap (λ (o : Outgoing). length (pending o)) is) in
      subst (λ (k : Phase L C). Advances {C = C} state start_at (closed_to s those xs) w k)
      (sym (more long))
      (hooks_owe these those xs s p w context client left tries why (b ∷ bs) is (omega arith) owes
      untreated made tells run)

  -- one that was out of memory
  pub hooks_lost : (these those : List LogEntry) (s : Start) (p : Passed) (w : World) (context : C)
      (client : Box HttpSession) (tries : List AttemptRecord) → AreTries (opened_to s those) tries
      → RunSoFar {C = C} state start_at (opened_to s these) p w [] (Connect context client tries)
      → Advances {C = C} state start_at (opened_to s those) w (Ended outcome.OutOfMemory tries)
  hooks_lost these those s p w context client tries are run = record {
    passed = p;
    run = record {
      tells = called_tells s these those p w run.tells;
      order = IsInOrder.is_nothing run.holds.written run.holds.unsent.sent;
      untouched = run.untouched;
      going = λ limit. cc;
      calm = tt;
      holds = (
        record { got = run.holds.unsent.got; sent = run.holds.unsent.sent },
        inl (inr (inl (are, run.holds.written))),
      );
    };
  }

  -- the head was accepted and taken from what is ahead, and a session begins behind it, for which a
  -- context was made
  pub head_accepted : {M K X : Type 0} (allows : Standing → LogEntry → Type 0) (c d : Calls M K X)
      (s : Start) (p : Passed) (w x : World) (head : RequestHead) (framing : Framing) (len : ℕ)
      (context : C) (client : HttpSession) (left : Box HttpSession) (tries : List AttemptRecord)
      (mark : ℕ) → x.client ≡ w.client → x.ahead ≡ drop len w.ahead
      → x.connect_faults ≡ w.connect_faults → tries ≡ [] → log_of c ≡ []
      → length (log_of d) ≡ length (log_of c) + 1
      → HasRequest w.ahead head framing len → IsRelayable head → StandsBehind head framing client
      → HasCalled allows (seen_with c client) mark station.accepted station.made QueuesNothing
      (seen_with d left.value) mark
      → RunSoFar {C = C} state start_at (opened_to s (log_of c)) p w [] ReadHead
      → Advances {C = C} state start_at (opened_to s (log_of d)) x (Connect context left tries)
  head_accepted allows c d s p w x head framing len context client left tries mark same_client
      ahead same none no_log one has relayable behind called run =
      record {
        passed = p;
        run = record {
          tells = called_tells s (log_of c) (log_of d) p x tells;
          order = IsInOrder.is_nothing run.holds.written run.holds.unsent.sent;
          untouched = λ open_head.
              absurd (HasRequest-IsOpen (asked s p) head framing len asks open_head);
          going = tt;
          calm = ap (λ (l : LinkState). l.faults) same_client ∙ run.calm;
          holds = record {
            head = head;
            accepted = record { framing = framing; len = len; has = asks; relayable = relayable };
            is_left = told.read head behind.is_head
                ∙ ap (λ (l : List LogEntry). Some (head_behind head l)) (sym log);
            quiet = ap (λ (l : List LogEntry). wrote_in l) log ∙ called.queued.wrote_none;
            begins = λ sent reused. begins_on (origin_of s head sent reused) p.came x.client x.ahead
                (seen_with c client) (seen_with d left.value) called.reads called.queued.same
                (begins_behind (opened_to s (log_of c)) p x head framing len client sent reused
                tells
                run.holds.written asks
                (ahead ∙ ap (λ (xs : List ℕ). drop len xs) run.holds.whole) behind);
            unread = λ none. reads_done (seen_with c client) (seen_with d left.value) called.reads
                ∙ behind.done ∙ done_at_first framing;
            written = run.holds.written;
            unsent = run.holds.unsent;
            are_tries = no_tries (opened_to s (log_of d)) tries run.holds.untried.0
                run.holds.untried.1 none
                (lone_untold (log_of d)
                (one ∙ ap (λ (l : List LogEntry). length l + 1) no_log));
          };
        };
      }
    where
      tells : TellsClient (opened_to s (log_of c)) p x
      tells = client_still (opened_to s (log_of c)) p w x (omega (arith, same))
          (ap (λ (l : LinkState). l.given) same_client)
          (ap (λ (l : LinkState). l.taken) same_client)
          (omega (arith, ap (λ (l : LinkState). l.faults) same_client))
          (grew_same w.client x.client same_client) run.tells

      asks : HasRequest (asked s p) head framing len
      asks = subst (λ (xs : List ℕ). HasRequest xs head framing len) run.holds.whole has

      told : TellsHead (seen_with c client) (seen_with d left.value) called.entries
      told = called_head allows (seen_with c client) mark station.accepted station.made
          QueuesNothing (seen_with d left.value) mark called

      log : log_of d ≡ called.entries
      log = called.log ∙ ap (λ (l : List LogEntry). l ++ called.entries) no_log
