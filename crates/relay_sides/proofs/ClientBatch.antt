-- A batch of tasks: it is queued, or refused behind its front.
use Rattle.std.proofs.Common.{◌≡◌, ℕ, Bool, true, false, List, [], ◌∷◌, ◌++◌, Option, Some, None, refl, sym, ◌∙◌, ap, subst, append-nil, append_assoc, inl, inr}
use Rattle.std.specs.Prelude.{◌||◌, ◌&&◌, ◌⊎◌, not}
use Rattle.std.specs.List.{list_any}
use Rattle.std.proofs.lemmas.Bool.{or_parts}
use Rattle.relay_tasks.specs.declared.error.Error.{Error}
use Rattle.relay_tasks.specs.declared.error.Fail.{Fail}
use Rattle.relay_tasks.specs.declared.error.Fail.TheVariants as fail
use Rattle.relay_tasks.specs.declared.fault.Fault.{Fault}
use Rattle.relay_tasks.specs.declared.task.HttpTask.{HttpTask}
use Rattle.relay_tasks.specs.declared.task.HttpTask.TheVariants as task
use Rattle.relay_links.specs.Link.{LinkState}
use Rattle.relay_session.specs.Response.{Holds, GoesOnWith, given_of, StopsOn, StopsAt, StopsBatch, FailsBatch, error_of, is_over}
use Rattle.relay_session.specs.TaskWire.{Sent, ends_short, task_sent, refusal, wire, batch_refusal, first_refusal, or_later}
use Rattle.relay_session.specs.Asked.{request_of}
use Rattle.relay_session.specs.declared.reading.Reading.{Reading}
use Rattle.relay_session.specs.declared.session.HttpSession.{HttpSession}
use Rattle.relay_session.specs.declared.task_text.Place.{Place}
use Rattle.relay_session.specs.declared.task_text.Place.TheVariants as place
use Rattle.relay_session.specs.declared.task_text.Request.{Request}
use Rattle.relay_session.specs.declared.writing.Outgoing.{Outgoing}
use Rattle.relay_session.specs.declared.writing.Outgoing.TheVariants as outgoing
use Rattle.relay_session.specs.declared.writing.Writing.{Writing}
use Rattle.relay_session.proofs.WireSteps.{wire-append}
use Rattle.relay_core.specs.declared.told.Told.{Told}
use Rattle.relay_core.specs.Down.{QueuesBatch, RefusesBatch}
use Rattle.relay_core.specs.Past.{Origin, DownPast, DownGoes, BatchRefused}
use Rattle.relay_core.specs.Pipe.{is_failure}
use Rattle.relay_core.specs.Told.{failed}
use Rattle.relay_sides.specs.Client.{AllPass, HasPassed, IsSide, IsTold, ClientBlames, ClientRefuses, QueuesAll, QueuesFront, failure_in_front, state_of}
use Rattle.relay_sides.specs.Client as client
use Rattle.relay_sides.proofs.ClientPast.{open_is_whole}
use Rattle.relay_sides.proofs.ClientTold.{refused_here, told_failed, told_first, told_follow, told_more, told_refused, unfit_first}
use Rattle.relay_sides.proofs.ClientTasks.{tasks_plain, given_plain, plain-append, task_over, grows_to, queued_over, holds_sent, past_queued, requeued, follow}

-- one flag of two stands
either_stands : (a b : Bool) → a ≡ true → a || b ≡ true
either_stands true b is = refl
either_stands false b is = absurd (cc)

-- one of two holds where the second does
either_right : (a b : Bool) → b ≡ true → a || b ≡ true
either_right true b is = refl
either_right false b is = is

-- whether the response is done behind a batch that was refused
abbrev pub left_done : Bool → Bool → Place → Bool
left_done done finished at = done || (not finished && is_over at)

-- it is then over
left_over : (done finished : Bool) (old new : Place) → (done ≡ true → is_over old ≡ true)
    → (is_over old ≡ true → is_over new ≡ true) → left_done done finished new ≡ true
    → is_over new ≡ true
left_over true finished old new was stays is = stays (was refl)
left_over false true old new was stays is = absurd (cc)
left_over false false old new was stays is = is

-- and where it is over, it is done
left_said : (done finished over : Bool) → finished ≡ false → over ≡ true
    → done || (not finished && over) ≡ true
left_said true finished over unasked is = refl
left_said false true over unasked is = absurd (cc)
left_said false false over unasked is = is

-- where nothing was queued it is as it was
left_same : (done finished over : Bool) → (over ≡ true → (done ≡ true) ⊎ (finished ≡ true))
    → done || (not finished && over) ≡ done
left_same true finished over said = refl
left_same false true over said = refl
left_same false false false said = refl
left_same false false true said = elim (said refl) [
  | inl done ↦ absurd (cc)
  | inr asked ↦ absurd (cc)
]

-- all tasks were queued: the state
pub queues_state : (old new : HttpSession) (tasks : List HttpTask) (told : Told)
    (done finished : Bool) (broken : Option Fault) (over : Bool)
    → QueuesAll old new tasks finished over
    → QueuesBatch (state_of old told done finished broken) tasks
    (state_of new told (done || over) finished broken) (done || over)
queues_state old new tasks told done finished broken over q = record {
  exact = rw q.reading refl;
  upgraded_stays = λ is. absurd (cc);
  done_stays = λ is. either_stands done over is;
  finished_stays = λ is. is;
  no_failure = tasks_plain old.writing.request old.writing.place tasks q.queued.passes;
}

-- a failure alone is the one in front
front_error : (tasks : List HttpTask) (error found : Error) → tasks ≡ task.Failed error ∷ []
    → failure_in_front tasks ≡ Some found → found ≡ error
front_error tasks error found alone is =
    let there : Some error ≡ Some found = rw alone at is in cc

-- a failure that is given alone stands in front
no_front_error : (tasks : List HttpTask) (error : Error) → tasks ≡ task.Failed error ∷ []
    → ¬ (failure_in_front tasks ≡ None)
no_front_error tasks error alone is =
    let there : Some error ≡ None = rw alone at is in cc

-- not all were: the state
pub refuses_state : (old new : HttpSession) (tasks : List HttpTask) (told : Told)
    (done finished now : Bool) (broken : Option Fault) (why : Fail)
    → QueuesFront old new tasks finished why
    → RefusesBatch (state_of old told done finished broken) tasks
    (state_of new (failed why told) now finished broken) why
refuses_state old new tasks told done finished now broken why
    (client.QueuesFront.fails found front is same) =
    record {
      exact = rw same refl;
      upgraded_stays = λ was. absurd (cc);
      by_failure = λ error alone. rw is (front_error tasks error found alone front);
    }
refuses_state old new tasks told done finished now broken why
    (client.QueuesFront.is_late none late is same) =
    record {
      exact = rw same refl;
      upgraded_stays = λ was. absurd (cc);
      by_failure = λ error alone. absurd (no_front_error tasks error alone none);
    }
refuses_state old new tasks told done finished now broken why
    (client.QueuesFront.stops none unasked same fails) =
    record {
      exact = rw same refl;
      upgraded_stays = λ was. absurd (cc);
      by_failure = λ error alone. absurd (no_front_error tasks error alone none);
    }

-- a response that is over by either flag
over_by : (done over : Bool) (old new : Place) → (done ≡ true → is_over old ≡ true)
    → (is_over old ≡ true → is_over new ≡ true) → over ≡ is_over new → done || over ≡ true
    → is_over new ≡ true
over_by true over old new was stays is either = stays (was refl)
over_by false over old new was stays is either = sym is ∙ either

-- the batched tasks, behind which no end was asked for, left the response over where it stands so
over_batched : (now : Writing) (batched closing : List HttpTask) (taken : List ℕ) → closing ≡ []
    → Holds now (batched ++ closing) taken → is_over now.place ≡ true
    → is_over (wire now.request place.NoHead batched).place ≡ true
over_batched now batched closing taken none holds over =
    ap (λ (l : List HttpTask). is_over (wire now.request place.NoHead l).place)
    (sym (append-nil batched) ∙ ap (λ (l : List HttpTask). batched ++ l) (sym none))
    ∙ ap is_over (holds_sent now now.output (batched ++ closing) taken holds) ∙ over

-- all tasks were queued: what passed
pub queues_on : (s : Origin) (p : DownPast) (link : LinkState) (ahead : List ℕ)
    (old new : HttpSession) (tasks : List HttpTask) (done finished : Bool) (broken : Option Fault)
    (over : Bool)
    → HasPassed s p link ahead old done finished broken → QueuesAll old new tasks finished over
    → DownGoes (λ q. HasPassed s q link ahead new (done || over) finished broken)
    (λ q e. ClientBlames s q link e) p.put (p.batched ++ tasks) p.closing None
queues_on s p link ahead old new tasks done finished broken over h q =
    let grown = q.queued.grows.grown in
    record {
      past = past_queued p (p.batched ++ tasks) p.closing;
      stands = record {
        client = requeued s p link ahead old new (p.batched ++ tasks) p.closing h.client q.reading
            (ap (λ (w : Writing). w.request) grown)
            (follow new.writing p.batched p.closing tasks p.written (h.unasked q.unasked)
            (q.queued.goes_on (client.queued p) p.written h.client.response))
            (λ fault is. absurd (open_is_whole new.writing.output _ fault
            (ap (λ (w : Writing). w.output) grown) is));
        over = λ is.
            over_batched new.writing (p.batched ++ tasks) p.closing p.written (h.unasked q.unasked)
            (follow new.writing p.batched p.closing tasks p.written (h.unasked q.unasked)
            (q.queued.goes_on (client.queued p) p.written h.client.response))
            (over_by done over old.writing.place new.writing.place h.place_over
            (queued_over old.writing new.writing tasks q.queued) q.is_over is);
        plain = plain-append p.batched tasks h.plain
            (tasks_plain old.writing.request old.writing.place tasks q.queued.passes);
        plain_end = h.plain_end;
        place_over = over_by done over old.writing.place new.writing.place h.place_over
            (queued_over old.writing new.writing tasks q.queued) q.is_over;
        said = λ is. inl (either_right done over (q.is_over ∙ is));
        unasked = h.unasked;
        asked = h.asked;
        closed = λ is. let wrong = sym q.unasked ∙ is in absurd (cc);
        unbroken = λ none. (_, ap (λ (w : Writing). w.output) grown);
        fault = h.fault;
      };
      is_put = refl;
      is_batched = refl;
      is_closing = refl;
      blamed = λ e is. absurd (cc);
    }

-- tasks with a failure in front hold one
front_fails : (tasks : List HttpTask) (found : Error) → failure_in_front tasks ≡ Some found
    → ¬ (list_any is_failure tasks ≡ false)
front_fails [] found front none = cc
front_fails (task.Header head ends ∷ tasks) found front none = cc
front_fails (task.Body piece ends ∷ tasks) found front none = cc
front_fails (task.UpgradedBody piece ends ∷ tasks) found front none = cc
front_fails (task.Trailer fields ∷ tasks) found front none = cc
front_fails (task.Done ∷ tasks) found front none = cc
front_fails (task.Failed error ∷ tasks) found front none = cc

-- one failure is one error
pub fail_is : (why : Fail) (a e : Error) → why ≡ fail.Error a → why ≡ fail.Error e → e ≡ a
fail_is why a e first next = let both = sym next ∙ first in cc

-- what a batch that was refused leaves
abbrev Refuses : Origin → DownPast → LinkState → List ℕ → HttpSession → Told → Bool → Bool
    → Option Fault → List HttpTask → Fail → Type 0
Refuses s p link ahead new told done finished broken tasks why =
    BatchRefused
    (λ q. IsSide s q link ahead new (failed why told)
    (left_done done finished new.writing.place) finished broken)
    (λ q left e. ClientRefuses s q link (failed why told) left e) p tasks why

-- nothing of the tasks was queued
none_queued : (s : Origin) (p : DownPast) (link : LinkState) (ahead : List ℕ)
    (old new : HttpSession) (tasks : List HttpTask) (told : Told) (done finished : Bool)
    (broken : Option Fault) (why : Fail)
    → IsSide s p link ahead old told done finished broken → new ≡ old
    → ((e : Error) → list_any is_failure tasks ≡ false → why ≡ fail.Error e
    → ClientRefuses s p link (failed why told) tasks e)
    → Refuses s p link ahead new told done finished broken tasks why
none_queued s p link ahead old new tasks told done finished broken why side same refused = record {
  filtered = [];
  left = tasks;
  parts = refl;
  past = p;
  stands = record {
    passed = rw same
        (subst (λ (d : Bool). HasPassed s p link ahead old d finished broken)
        (sym (left_same done finished (is_over old.writing.place) side.passed.said)) side.passed);
    tasks = told_failed s (client.queued p) told side.tasks why;
  };
  is_put = refl;
  is_batched = sym (append-nil p.batched);
  is_closing = refl;
  refused = refused;
}

-- of a list whose task counts as given or not, what is left
left_of : HttpTask → List HttpTask → List HttpTask
left_of (task.Header head ends) behind = behind
left_of (task.Body piece ends) behind = behind
left_of (task.UpgradedBody piece ends) behind = behind
left_of (task.Trailer fields) behind = behind
left_of task.Done behind = behind
left_of (task.Failed error) behind = task.Failed error ∷ behind

-- what is given and what is left is all
given_left : (one : HttpTask) (behind : List HttpTask)
    → given_of one ++ left_of one behind ≡ one ∷ behind
unfolding left_of
given_left (task.Header head ends) behind = refl
given_left (task.Body piece ends) behind = refl
given_left (task.UpgradedBody piece ends) behind = refl
given_left (task.Trailer fields) behind = refl
given_left task.Done behind = refl
given_left (task.Failed error) behind = refl

-- a task that is no failure counts as given where it is refused
plain_given : (one : HttpTask) → is_failure one ≡ false → given_of one ≡ one ∷ []
plain_given (task.Header head ends) plain = refl
plain_given (task.Body piece ends) plain = refl
plain_given (task.UpgradedBody piece ends) plain = refl
plain_given (task.Trailer fields) plain = refl
plain_given task.Done plain = refl
plain_given (task.Failed error) plain = absurd (cc)

-- as given it is refused as it was, or nothing was given of it
given_refused : (request : Request) (at : Place) (one : HttpTask) (error : Error)
    → refusal request at one ≡ Some error
    → (first_refusal request at (given_of one) ≡ None)
    ⊎ (first_refusal request at (given_of one) ≡ Some error)
given_refused request at (task.Header head ends) error is =
    inr (ap (λ (o : Option Error). or_later o None) is)
given_refused request at (task.Body piece ends) error is =
    inr (ap (λ (o : Option Error). or_later o None) is)
given_refused request at (task.UpgradedBody piece ends) error is =
    inr (ap (λ (o : Option Error). or_later o None) is)
given_refused request at (task.Trailer fields) error is =
    inr (ap (λ (o : Option Error). or_later o None) is)
given_refused request at task.Done error is = inr (ap (λ (o : Option Error). or_later o None) is)
given_refused request at (task.Failed e) error is = inl refl

-- of tasks without a failure the one in the middle is none
middle_plain : (front behind : List HttpTask) (one : HttpTask)
    → list_any is_failure (front ++ one ∷ behind) ≡ false → is_failure one ≡ false
middle_plain [] behind one none =
    (or_parts (is_failure one) (list_any is_failure behind) none).0
middle_plain (first ∷ front) behind one none =
    middle_plain front behind one
    (or_parts (is_failure first) (list_any is_failure (front ++ one ∷ behind)) none).1

-- all tasks were queued: what the errors say of them
pub queues_told : (s : Origin) (p : DownPast) (link : LinkState) (ahead : List ℕ)
    (old new : HttpSession) (tasks : List HttpTask) (told : Told) (done finished : Bool)
    (broken : Option Fault) (over : Bool)
    → IsSide s p link ahead old told done finished broken
    → QueuesAll old new tasks finished over → IsTold s ((p.batched ++ tasks) ++ p.closing) told
queues_told s p link ahead old new tasks told done finished broken over side q =
    told_follow s p.batched p.closing tasks told (side.passed.unasked q.unasked)
    (told_more s (client.queued p) told side.tasks tasks
    (refused_here s p link ahead old side.passed.client tasks None q.queued.passes))

-- a call that stopped on a session whose write failed, at the check, or at a task
module _
    (s : Origin) (p : DownPast) (link : LinkState) (ahead : List ℕ) (old new : HttpSession)
    (tasks : List HttpTask) (told : Told) (done finished : Bool) (broken : Option Fault)
    (why : Fail) (side : IsSide s p link ahead old told done finished broken)
    (unasked : finished ≡ false) (reading : new.reading ≡ old.reading) where
  -- what passed before
  abbrev h : HasPassed s p link ahead old done finished broken
  h = side.passed

  -- only batches were queued
  only_batches : client.queued p ≡ p.batched
  only_batches =
      ap (λ (l : List HttpTask). p.batched ++ l) (h.unasked unasked) ∙ append-nil p.batched

  -- the session went on with a front of the tasks, and one of them is refused where an error comes
  stopped : (front left : List HttpTask) → front ++ left ≡ tasks
      → new.writing.request ≡ old.writing.request → (queue : List ℕ)
      → new.writing.output ≡ outgoing.Open queue
      → GoesOnWith old.writing new.writing front
      → (is_over old.writing.place ≡ true → is_over new.writing.place ≡ true)
      → list_any is_failure front ≡ false
      → IsTold s (client.queued p ++ front) (failed why told)
      → ((e : Error) → list_any is_failure tasks ≡ false → why ≡ fail.Error e
      → ClientRefuses s (past_queued p (p.batched ++ front) p.closing) link (failed why told) left
      e)
      → Refuses s p link ahead new told done finished broken tasks why
  stopped front left parts request queue is_open goes stays plain told_front refused =
      let holds = follow new.writing p.batched p.closing front p.written (h.unasked unasked)
      (goes (client.queued p) p.written h.client.response) in
      record {
        filtered = front;
        left = left;
        parts = parts;
        past = past_queued p (p.batched ++ front) p.closing;
        stands = record {
          passed = record {
            client = requeued s p link ahead old new (p.batched ++ front) p.closing h.client
                reading request holds
                (λ fault is. absurd (open_is_whole new.writing.output queue fault is_open is));
            over = λ is.
                over_batched new.writing (p.batched ++ front) p.closing p.written
                (h.unasked unasked) holds
                (left_over done finished old.writing.place new.writing.place h.place_over stays
                is);
            plain = plain-append p.batched front h.plain plain;
            plain_end = h.plain_end;
            place_over =
                left_over done finished old.writing.place new.writing.place h.place_over stays;
            said = λ is.
                inl (left_said done finished (is_over new.writing.place) unasked is);
            unasked = h.unasked;
            asked = h.asked;
            closed = λ is. let wrong = sym unasked ∙ is in absurd (cc);
            unbroken = λ none. (queue, is_open);
            fault = h.fault;
          };
          tasks = told_follow s p.batched p.closing front (failed why told) (h.unasked unasked)
              told_front;
        };
        is_put = refl;
        is_batched = refl;
        is_closing = refl;
        refused = refused;
      }

  -- the tasks that were queued before one, behind which it is refused
  abbrev Stands : StopsAt old.writing tasks new.writing why → List HttpTask
  Stands stops = client.queued p ++ stops.before

  -- what the errors say of them
  told_before : (stops : StopsAt old.writing tasks new.writing why) → IsTold s (Stands stops) told
  told_before stops =
      told_more s (client.queued p) told side.tasks stops.before
      (refused_here s p link ahead old h.client stops.before None stops.queued.passes)

  -- a task that is refused behind them is so by its own head
  refused_there : (stops : StopsAt old.writing tasks new.writing why) (e : Error)
      → refusal stops.mid.request stops.mid.place stops.at ≡ Some e
      → refusal (request_of s.head) (wire (request_of s.head) place.NoHead (Stands stops)).place
      stops.at ≡ Some e
  refused_there stops e is =
      let request = old.writing.request in
      let sent = holds_sent old.writing old.writing.output (client.queued p) p.written
      h.client.response in
      let leads : (wire request place.NoHead (Stands stops)).place
      ≡ (wire request old.writing.place stops.before).place =
      ap (λ (t : Sent). t.place) (wire-append request place.NoHead (client.queued p) stops.before)
      ∙ ap (λ (q : Place). (wire request q stops.before).place) sent in
      let there : refusal request (wire request old.writing.place stops.before).place stops.at
      ≡ Some e =
      subst (λ (w : Writing). refusal w.request w.place stops.at ≡ Some e)
      stops.queued.grows.grown is in
      subst (λ (r : Request).
      refusal r (wire r place.NoHead (Stands stops)).place stops.at ≡ Some e)
      (h.client.answers ∙ ap request_of h.client.own)
      (ap (λ (q : Place). refusal request q stops.at) leads ∙ there)

  -- the session stopped at a task, when out of memory or since it is refused
  stops_on : (stops : StopsAt old.writing tasks new.writing why) (given : Fail) → why ≡ given
      → StopsOn stops.mid stops.at new.writing given
      → Refuses s p link ahead new told done finished broken tasks why
  stops_on stops fail.OutOfMemory is same =
      let grown = stops.queued.grows.grown in
      stopped stops.before (stops.at ∷ stops.behind) (sym stops.are_tasks)
      (ap (λ (w : Writing). w.request) (same ∙ grown)) _
      (ap (λ (w : Writing). w.output) (same ∙ grown))
      (subst (λ (w : Writing). GoesOnWith old.writing w stops.before) (sym same)
      stops.queued.goes_on)
      (λ over. ap (λ (w : Writing). is_over w.place) same
      ∙ queued_over old.writing stops.mid stops.before stops.queued over)
      (tasks_plain old.writing.request old.writing.place stops.before stops.queued.passes)
      (subst (λ (f : Fail). IsTold s (Stands stops) (failed f told)) (sym is) (told_before stops))
      (λ e plain wrong. let both = sym is ∙ wrong in absurd (cc))
  stops_on stops (fail.Error error) is refused =
      let grown = stops.queued.grows.grown in
      let more = refused.grows.grown in
      let front = stops.before ++ given_of stops.at in
      let left = left_of stops.at stops.behind in
      stopped front left
      (append_assoc stops.before (given_of stops.at) left
      ∙ ap (λ (l : List HttpTask). stops.before ++ l) (given_left stops.at stops.behind)
      ∙ sym stops.are_tasks)
      (ap (λ (w : Writing). w.request) more ∙ ap (λ (w : Writing). w.request) grown) _
      (ap (λ (w : Writing). w.output) more)
      (λ l taken holds.
      subst (λ (m : List HttpTask). Holds new.writing m taken)
      (append_assoc l stops.before (given_of stops.at))
      (refused.goes_on (l ++ stops.before) taken (stops.queued.goes_on l taken holds)))
      (λ over. grows_to stops.mid new.writing (task_sent stops.mid.request stops.mid.place stops.at)
      refused.grows
      (task_over stops.mid.request stops.mid.place stops.at
      (queued_over old.writing stops.mid stops.before stops.queued over)))
      (plain-append stops.before (given_of stops.at)
      (tasks_plain old.writing.request old.writing.place stops.before stops.queued.passes)
      (given_plain stops.at))
      (subst (λ (f : Fail). IsTold s (client.queued p ++ front) (failed f told)) (sym is)
      (subst (λ (l : List HttpTask). IsTold s l (failed (fail.Error error) told))
      (append_assoc (client.queued p) stops.before (given_of stops.at))
      (told_refused s (Stands stops) told (told_before stops) (given_of stops.at) error
      (given_refused (request_of s.head)
      (wire (request_of s.head) place.NoHead (Stands stops)).place stops.at error
      (refused_there stops error refused.refused)))))
      (λ e plain of. cut e plain (fail_is why error e is of))
    where
      -- what stands behind batches alone
      over_batches : Stands stops ≡ p.batched ++ stops.before
      over_batches = ap (λ (l : List HttpTask). l ++ stops.before) only_batches

      cut : (e : Error) → list_any is_failure tasks ≡ false → e ≡ error
          → ClientRefuses s
          (past_queued p (p.batched ++ (stops.before ++ given_of stops.at)) p.closing) link
          (failed why told) (left_of stops.at stops.behind) e
      cut e plain same =
          client.ClientRefuses.is_cut (p.batched ++ stops.before) stops.at (h.unasked unasked)
          (sym (append_assoc p.batched stops.before (given_of stops.at))
          ∙ ap (λ (l : List HttpTask). (p.batched ++ stops.before) ++ l)
          (plain_given stops.at (middle_plain stops.before stops.behind stops.at
          (subst (λ (l : List HttpTask). list_any is_failure l ≡ false) stops.are_tasks plain))))
          (subst (λ (l : List HttpTask).
          refusal (request_of s.head) (wire (request_of s.head) place.NoHead l).place stops.at
          ≡ Some e) over_batches
          (refused_there stops e
          (refused.refused ∙ ap (λ (x : Error). Some x) (sym same))))
          (λ one. subst (λ (l : List HttpTask). AllPass s l) over_batches
          (told_first s (Stands stops) told (told_before stops) error
          (subst (λ (f : Fail). (failed f told).errors ≡ 1) is one)))

  -- the check refused the batch, or the session stopped at a task
  stops_batch : (checked : Option Error)
      → batch_refusal old.writing.request old.writing.place tasks ≡ checked
      → StopsBatch checked old.writing tasks new.writing why
      → (new.writing ≡ old.writing → new ≡ old)
      → Refuses s p link ahead new told done finished broken tasks why
  stops_batch None is stops same = stops_on stops why refl stops.stops
  stops_batch (Some error) is stops same =
      none_queued s p link ahead old new tasks told done finished broken why side (same stops.1)
      (λ e plain of.
      client.ClientRefuses.is_unfit (h.unasked unasked)
      (subst (λ (l : List HttpTask).
      first_refusal (request_of s.head) (wire (request_of s.head) place.NoHead l).place tasks
      ≡ Some e) only_batches
      (refused_here s p link ahead old h.client tasks (Some e)
      (unfit_first old.writing.request old.writing.place tasks error is
      ∙ ap (λ (x : Error). Some x) (sym (fail_is why error e stops.0 of)))))
      (λ one. subst (λ (l : List HttpTask). AllPass s l) only_batches
      (told_first s (client.queued p) told side.tasks error
      (subst (λ (f : Fail). (failed f told).errors ≡ 1) stops.0 one))))

  -- by the state of the output
  stops_by : (output : Outgoing) → old.writing.output ≡ output
      → FailsBatch output old.writing tasks new.writing why
      → (new.writing ≡ old.writing → new ≡ old)
      → Refuses s p link ahead new told done finished broken tasks why
  stops_by (outgoing.Open queue) is fails same =
      stops_batch (batch_refusal old.writing.request old.writing.place tasks) refl fails same
  stops_by (outgoing.Broken fault) is fails same =
      none_queued s p link ahead old new tasks told done finished broken why side (same fails.1)
      (λ e plain of.
      client.ClientRefuses.link_failed fault (fail_is why (error_of fault) e fails.0 of)
      (h.client.broken fault is))

-- two sessions with the same sides are one
same_session : (old new : HttpSession) → new.reading ≡ old.reading → new.writing ≡ old.writing
    → new ≡ old
same_session old new reading writing =
    ap (λ (r : Reading). record new { reading = r }) reading
    ∙ ap (λ (w : Writing). record old { writing = w }) writing

-- not all tasks were queued: what passed
pub refuses_on : (s : Origin) (p : DownPast) (link : LinkState) (ahead : List ℕ)
    (old new : HttpSession) (tasks : List HttpTask) (told : Told) (done finished : Bool)
    (broken : Option Fault) (why : Fail)
    → IsSide s p link ahead old told done finished broken
    → QueuesFront old new tasks finished why
    → Refuses s p link ahead new told done finished broken tasks why
refuses_on s p link ahead old new tasks told done finished broken why side
    (client.QueuesFront.fails found front is same) =
    none_queued s p link ahead old new tasks told done finished broken why side same
    (λ e plain of. absurd (front_fails tasks found front plain))
refuses_on s p link ahead old new tasks told done finished broken why side
    (client.QueuesFront.is_late none late is same) =
    none_queued s p link ahead old new tasks told done finished broken why side same
    (λ e plain of.
    client.ClientRefuses.behind_the_end (side.passed.asked late) (fail_is why ends_short e is of))
refuses_on s p link ahead old new tasks told done finished broken why side
    (client.QueuesFront.stops none unasked same fails) =
    stops_by s p link ahead old new tasks told done finished broken why side unasked same
    old.writing.output refl fails (same_session old new same)
