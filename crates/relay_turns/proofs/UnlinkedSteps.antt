-- Turns of a request whose last attempt was given no link: the application answers the error.
--
--   closed_unconnected, closed_ending
--                    why no link was given, and the attempts, once the error was answered
--   left_answered    what waits for the client is what it is owed
--   unlinked_leave   the client is owed that, or nothing and the request has ended
--   unlinked_lost    memory was wanted
use Rattle.std.specs.Global.{Box}
use Rattle.std.proofs.Common.{◌≡◌, ℕ, ◌<◌, false, List, [], ◌∷◌, ◌++◌, length, Some, refl, sym, ap, subst, ◌∙◌, inl, inr, arith}
use Rattle.relay_tasks.specs.Head.{RequestHead}
use Rattle.relay_tasks.specs.declared.Error.{Error}
use Rattle.relay_tasks.specs.declared.log.LogEntry.{LogEntry}
use Rattle.relay_tasks.specs.declared.task.HttpTask.{HttpTask}
use Rattle.relay_links.specs.Link.{LinkState, LinkStart}
use Rattle.relay_session.specs.Asked.{request_of}
use Rattle.relay_session.specs.Response.{IsOpen, pending}
use Rattle.relay_session.specs.TaskWire.{wire}
use Rattle.relay_session.specs.declared.session.HttpSession.{HttpSession}
use Rattle.relay_session.specs.declared.task_text.Place.TheVariants as stands
use Rattle.relay_session.specs.declared.task_text.Request.{Request}
use Rattle.relay_session.specs.declared.writing.Outgoing.{Outgoing}
use Rattle.relay_session.specs.declared.writing.Outgoing.TheVariants as outgoing
use Rattle.relay_phases.specs.Turns.{wrote_in}
use Rattle.relay_closing.specs.Queued.{QueuesOnce}
use Rattle.relay_attempt.specs.Passed.{Passed}
use Rattle.relay_request.specs.Endings.{AttemptsFailed, IsInOrder, IsOwedUnlinked, IsUnconnected}
use Rattle.relay_request.specs.Passed.{World, Start, closed_to, opened_to}
use Rattle.relay_request.specs.Phases.{LacksLink, RunSoFar}
use Rattle.relay_request.specs.Sent.{IsAnswered}
use Rattle.relay_request.specs.Tries.{EndsTrying}
use Rattle.relay_request.specs.Turn.{Advances}
use Rattle.relay_request.specs.declared.machine.Phase.{Phase}
use Rattle.relay_request.specs.declared.machine.Phase.TheVariants.{Unlinked, Answer, Ended}
use Rattle.relay_request.specs.declared.outcome.Outcome.TheVariants as outcome
use Rattle.relay_request.specs.declared.owed.Owed.TheVariants as owed
use Rattle.relay_request.specs.declared.record.AttemptRecord.{AttemptRecord}
use Rattle.relay_turns.proofs.AnswerSteps.{answer_on}
use Rattle.relay_turns.proofs.OpenSteps.{called_tells, closed_accepted, closed_tells, once_goes_on, once_open, once_request, waits_of}

-- ---- the same start, once the error was answered

-- why the last attempt was given no link does not depend on the calls of the end
abbrev pub closed_unconnected : (s : Start) (log closed : List LogEntry) (p : Passed) (w : World)
    (e : Error) → IsUnconnected (opened_to s log) p w e
    → IsUnconnected (closed_to s log closed) p w e
closed_unconnected s log closed p w e u = record {
  refused = u.refused;
  rose = u.rose;
  head = u.head;
  accepted = closed_accepted s log closed p u.head u.accepted;
  unsent = record { got = u.unsent.got; sent = u.unsent.sent };
}

-- nor do the attempts
pub closed_ending : (s : Start) (log closed : List LogEntry) (attempts : List AttemptRecord)
    (e : Error) → EndsTrying (opened_to s log) attempts e
    → EndsTrying (closed_to s log closed) attempts e
closed_ending s log closed attempts e made = record {
  refused = made.refused;
  fits = made.fits;
  told = made.told;
  each = made.each;
  allowed = made.allowed;
  over = made.over;
}

-- ---- the answer

-- the application answered the error, and what waits is what it queued
pub record IsLeftAnswered (s : Start) (p : Passed) (w : World) (left : HttpSession) (e : Error)
    : Type 0 where
  pub text : List ℕ
  pub is_open : left.writing.output ≡ outgoing.Open text
  pub owed : IsOwedUnlinked s p w e text

pub left_answered : (s : Start) (log closed : List LogEntry) (p : Passed) (w : World)
    (client left : HttpSession) (attempts : List AttemptRecord) (e : Error)
    → IsAnswered closed e → QueuesOnce client.writing left.writing (wrote_in closed)
    → LacksLink (opened_to s log) p w client attempts e
    → IsLeftAnswered (closed_to s log closed) p w left e
left_answered s log closed p w client left attempts e told queues k =
    let wrote : List HttpTask = wrote_in closed in
    let begins = k.begins in
    let request : left.writing.request ≡ request_of k.unconnected.head =
    once_request client.writing left.writing wrote queues
    ∙ begins.answers ∙ ap (λ (h : RequestHead). request_of h) begins.own in
    let waits : IsOpen left.writing.output =
    once_open client.writing left.writing wrote queues ([], begins.output) in
    record {
      text = waits.0;
      is_open = waits.1;
      owed = record {
        unconnected = closed_unconnected s log closed p w e k.unconnected;
        told = told;
        text_is = waits_of left.writing wrote waits.0
            (once_goes_on client.writing left.writing wrote queues [] [] begins.response) waits.1
            ∙ ap (λ (r : Request). (wire r stands.NoHead wrote).text) request;
      };
    }

module _ {L C : Type 0} (state : L → LinkState) (start_at : L → LinkStart) where
  -- what waits for the client is what it is owed
  unlinked_owe : (log xs : List LogEntry) (s : Start) (p : Passed) (w : World) (context : C)
      (client left : Box HttpSession) (attempts : List AttemptRecord) (e : Error) (text : List ℕ)
      → left.value.writing.output ≡ outgoing.Open text → 0 < length text
      → IsOwedUnlinked (closed_to s log xs) p w e text
      → RunSoFar {C = C} state start_at (opened_to s log) p w []
      (Unlinked context client attempts e)
      → Advances {C = C} state start_at (closed_to s log xs) w
      (Answer left (owed.Served e) attempts)
  unlinked_owe log xs s p w context client left attempts e text waits some owes run =
      answer_on state start_at (closed_to s log xs) p w [] left (owed.Served e) attempts
      (closed_tells s log xs p w (called_tells s log log p w run.tells)) (record {
        text = text;
        owes = owes;
        tells = tt;
        waits = record {
          left = text;
          is_open = waits;
          some = some;
          joined = ap (λ (bs : List ℕ). bs ++ text) run.holds.written;
        };
        made = closed_ending s log xs attempts e run.holds.made;
      })

  -- one that is owed nothing has ended
  unlinked_end : (log xs : List LogEntry) (s : Start) (p : Passed) (w : World) (context : C)
      (client : Box HttpSession) (attempts : List AttemptRecord) (e : Error)
      → IsOwedUnlinked (closed_to s log xs) p w e []
      → RunSoFar {C = C} state start_at (opened_to s log) p w []
      (Unlinked context client attempts e)
      → Advances {C = C} state start_at (closed_to s log xs) w
      (Ended (outcome.Served (Some e) false) attempts)
  unlinked_end log xs s p w context client attempts e owes run = record {
    passed = p;
    run = record {
      tells = closed_tells s log xs p w (called_tells s log log p w run.tells);
      order = IsInOrder.is_nothing run.holds.written run.holds.unconnected.unsent.sent;
      untouched = run.untouched;
      going = λ limit. cc;
      calm = tt;
      holds = (
        (inl (record { text = []; owed = owes; given = inl run.holds.written }), refl),
        AttemptsFailed.unlinked (closed_ending s log xs attempts e run.holds.made),
      );
    };
  }

  pub unlinked_leave : (log xs : List LogEntry) (s : Start) (p : Passed) (w : World) (context : C)
      (client left : Box HttpSession) (attempts : List AttemptRecord) (e : Error) (text : List ℕ)
      (next : Phase L C) → left.value.writing.output ≡ outgoing.Open text
      → (0 < length (pending left.value.writing.output) → next ≡ Answer left (owed.Served e)
      attempts)
      → (pending left.value.writing.output ≡ []
      → next ≡ Ended (outcome.Served (Some e) false) attempts)
      → IsOwedUnlinked (closed_to s log xs) p w e text
      → RunSoFar {C = C} state start_at (opened_to s log) p w []
      (Unlinked context client attempts e)
      → Advances {C = C} state start_at (closed_to s log xs) w next
  unlinked_leave log xs s p w context client left attempts e [] next is more none owes run =
      subst (λ (k : Phase L C). Advances {C = C} state start_at (closed_to s log xs) w k)
      (sym (none (ap pending is)))
      (unlinked_end log xs s p w context client attempts e owes run)
  unlinked_leave log xs s p w context client left attempts e (b ∷ bs) next is more none owes run =
      let long : 0 < length (pending left.value.writing.output) =
      omega (arith, ap (λ (o : Outgoing). length (pending o)) is) in
      subst (λ (k : Phase L C). Advances {C = C} state start_at (closed_to s log xs) w k)
      (sym (more long))
      (unlinked_owe log xs s p w context client left attempts e (b ∷ bs) is (omega arith) owes run)

  -- memory was wanted for it
  pub unlinked_lost : (log : List LogEntry) (s : Start) (p : Passed) (w : World) (context : C)
      (client : Box HttpSession) (attempts : List AttemptRecord) (e : Error)
      → RunSoFar {C = C} state start_at (opened_to s log) p w []
      (Unlinked context client attempts e)
      → Advances {C = C} state start_at (opened_to s log) w (Ended outcome.OutOfMemory attempts)
  unlinked_lost log s p w context client attempts e run = record {
    passed = p;
    run = record {
      tells = run.tells;
      order = IsInOrder.is_nothing run.holds.written run.holds.unconnected.unsent.sent;
      untouched = run.untouched;
      going = λ limit. cc;
      calm = tt;
      holds = (
        record { got = run.holds.unconnected.unsent.got; sent = run.holds.unconnected.unsent.sent },
        inl (inr (inr (inr (record {
          e = e;
          unconnected = run.holds.unconnected;
          made = run.holds.made;
          part = inl run.holds.written;
        })))),
      );
    };
  }
