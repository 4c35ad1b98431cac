-- Turns that write a generated answer, and what was queued before it.
--
--   owes_on                     what the client is owed, after a write of its link
--   owes_order, owes_open       what passed is in order, and the head is open no more
--   ends_served, ends_part      how a request ends that owes an answer, or owed one
--   answer_took .. answer_memory    what each answer of a write makes of the run so far
use Rattle.std.specs.Global.{Box}
use Rattle.std.proofs.Common.{◌≡◌, ◌≢◌, ◌⊎◌, ℕ, ◌<◌, Bool, false, List, [], ◌∷◌, ◌++◌, length, take, Option, None, Some, refl, sym, ap, subst, ◌∙◌, inl, inr, arith, append-nil, length-append}
use Rattle.relay_tasks.specs.Head.{RequestHead}
use Rattle.relay_tasks.specs.declared.Error.{Error}
use Rattle.relay_tasks.specs.declared.ErrorSource.TheVariants.{Downstream}
use Rattle.relay_tasks.specs.declared.Fault.{Fault}
use Rattle.relay_tasks.specs.declared.log.LogEntry.{LogEntry}
use Rattle.relay_tasks.specs.declared.task.HttpTask.{HttpTask}
use Rattle.relay_links.specs.Link.{LinkState, LinkStart, FailsWrite}
use Rattle.relay_connector.specs.declared.Returned.{Returned}
use Rattle.relay_links.specs.declared.link.Put.{Put}
use Rattle.relay_links.specs.declared.link.Put.TheVariants as put
use Rattle.relay_h1.specs.Verdict.{IsOpen}
use Rattle.relay_h1.proofs.VerdictLemmas.{HasRequest-IsOpen}
use Rattle.relay_session.specs.Reading.{is_body_done}
use Rattle.relay_session.specs.Response.{pending, WritesPending, WritesQueue}
use Rattle.relay_session.specs.declared.session.HttpSession.{HttpSession}
use Rattle.relay_session.specs.declared.writing.Outgoing.{Outgoing}
use Rattle.relay_session.specs.declared.writing.Outgoing.TheVariants as outgoing
use Rattle.relay_core.specs.Past.{Origin}
use Rattle.relay_peer.specs.Body.{IsFrontOf}
use Rattle.relay_peer.proofs.FaultLemmas.{added_last, grew_none, grew_same, more_none}
use Rattle.relay_attempt.specs.Order.{WrittenTo}
use Rattle.relay_attempt.specs.Passed.{Passed}
use Rattle.relay_attempt.proofs.FailLemmas.{blames_still, written_to}
use Rattle.relay_valid.specs.Valid.{IsValid}
use Rattle.relay_hooked.specs.Calls.{Filtering}
use Rattle.relay_hooked.specs.Neutral.{AreNeutral}
use Rattle.relay_hooked.specs.Order.{FailsFor, order_of}
use Rattle.relay_still.proofs.FailLemmas.{never_fails}
use Rattle.relay_request.specs.Ahead.{IsOwedAhead}
use Rattle.relay_request.specs.Answer.{past_at, WaitsOf, answer_to}
use Rattle.relay_request.specs.Endings.{IsInOrder, IsGiven, IsGivenAhead, AttemptsFailed, EndsAhead, IsPartAhead, IsPartRefused, FailsToWrite, IsFailedAttempt, IsUnsentAttempt, IsHalfRefused, IsPart, HasFailed, Misses, owed_by, EndsWith, FailsToGive}
use Rattle.relay_request.specs.Owed.{Owes, HasAttempts, IsAnswering, IsAnsweredCalmly, TellsAgain, TellsOwed, outcome_written, outcome_failed}
use Rattle.relay_request.specs.Reuse.{goes_back_with}
use Rattle.relay_request.specs.Passed.{answered, World, Start, origin_at, asked, TellsClient}
use Rattle.relay_request.specs.Phases.{PhaseHolds, RunSoFar}
use Rattle.relay_request.specs.Relayable.{IsAccepted}
use Rattle.relay_request.specs.Tries.{fault_error}
use Rattle.relay_request.specs.Turn.{AdvancesOn, HasTaken, HasMoved, HasCause}
use Rattle.relay_request.specs.declared.machine.Phase.{Phase}
use Rattle.relay_request.specs.declared.machine.Phase.TheVariants.{Answer, Ended}
use Rattle.relay_request.specs.declared.machine.RunStep.{RunStep}
use Rattle.relay_request.specs.declared.machine.RunStep.TheVariants as step
use Rattle.relay_request.specs.declared.outcome.Outcome.{Outcome}
use Rattle.relay_request.specs.declared.outcome.Outcome.TheVariants as outcome
use Rattle.relay_request.specs.declared.owed.Owed.{Owed}
use Rattle.relay_request.specs.declared.owed.Owed.TheVariants.{Refused, Ahead, Served}
use Rattle.relay_request.specs.declared.record.AttemptRecord.{AttemptRecord}
use Rattle.relay_turns.proofs.OverLemmas.{over_on}
use Rattle.relay_turns.proofs.OpenHead.{turns_down_open, exchange_open}
use Rattle.relay_turns.proofs.Tells.{Rose-le, client_took, client_still, take_whole, take_rest}
use Rattle.relay_turns.proofs.ReuseLemmas.{may_exactly}

-- the client took some
pub taken_of : (output : Outgoing) (before after : LinkState) (n : ℕ) (left : Outgoing)
    → 0 < length (pending output) → WritesPending output before after (put.Took n) left
    → HasTaken before after
taken_of (outgoing.Open queue) before after n left some writes =
    (queue, n, writes.writes.writes)
taken_of (outgoing.Broken fault) before after n left some writes = absurd (omega (arith, some))

-- a turn that moved or ended has its cause where it moved
pub moved_or_ended : {L C : Type 0} (state : L → LinkState) (start_at : L → LinkStart)
    (log : List LogEntry) (w x : World) (phase next : Phase L C) (did : RunStep)
    → (did ≡ step.Moved) ⊎ (did ≡ step.Ended)
    → (did ≡ step.Moved → HasMoved state start_at log w x phase next)
    → HasCause state start_at log w x phase next did
moved_or_ended state start_at log w x phase next did (inl is) moved =
    subst (λ (d : RunStep). HasCause state start_at log w x phase next d) (sym is) (moved is)
moved_or_ended {L} {C} state start_at log w x phase next did (inr is) moved =
    subst (λ (d : RunStep). HasCause state start_at log w x phase next d) (sym is) tt

-- a session of which some was written is another by its output alone
abbrev pub WrittenOf : HttpSession → HttpSession → Type 0
WrittenOf old new = new ≡ record old {
  writing = record old.writing { output = new.writing.output };
}

-- ---- a write that failed

-- the client's link tells what passed
pub client_failed : (s : Start) (p : Passed) (w x : World) (fault : Fault)
    → x.connect_faults ≡ w.connect_faults → FailsWrite w.client fault x.client
    → TellsClient s p w → TellsClient s p x
client_failed s p w x fault same fails tells =
    client_still s p w x (omega (arith, same)) fails.given fails.taken
    (Rose-le w.client.faults x.client.faults fails.sound_before.faults_fit fails.faults)
    (record {
      reads = [];
      read = fails.read_faults ∙ more_none w.client.read_faults;
      writes = fault ∷ [];
      written = fails.write_faults;
    }) tells

-- its fault is the last of those that the link tells
pub write_failed : (s : Start) (p : Passed) (w x : World) (fault : Fault)
    → FailsWrite w.client fault x.client → TellsClient s p w → FailsToGive s x fault
write_failed s p w x fault fails tells = record {
  kind = fails.kind;
  rose = λ below. omega (arith, tells.faults, fails.faults below);
  told = added_last s.write_faults w.client.write_faults x.client.write_faults
      tells.fault_lists.writes fault fails.write_faults tells.fault_lists.written;
}

-- and so it is among them
pub fails_to_write : (s : Start) (x : World) (fault : Fault) → FailsToGive s x fault
    → FailsToWrite s x.client
fails_to_write s x fault gives = record {
  fault = fault;
  kind = gives.kind;
  rose = gives.rose;
  among = (gives.told.0, [], gives.told.1);
}

-- ---- a failed exchange

-- what failed an exchange still did, and the same was queued in it
pub record Still {f : Filtering} {o : Origin} {p : Passed} {before link : LinkState}
    {start : LinkStart} {e : Error} (why : FailsFor f o p before link start e) (after : LinkState)
    : Type 0 where
  pub again : FailsFor f o p after link start e
  pub same : (order_of again).queued ++ (order_of again).closing
      ≡ (order_of why).queued ++ (order_of why).closing

pub still : (f : Filtering) (o : Origin) (p : Passed) (before after link : LinkState)
    (start : LinkStart) (e : Error) → WrittenTo before after
    → (why : FailsFor f o p before link start e) → Still why after
still f o p before after link start e to (FailsFor.by_client order blames) = record {
  again = FailsFor.by_client order (blames_still o _ before after to e blames);
  same = refl;
}
still f o p before after link start e to (FailsFor.by_peer order lost blames) =
    record { again = FailsFor.by_peer order lost blames; same = refl }
still f o p before after link start e to
    (FailsFor.by_piece order stopped front last are call answered) =
    record { again = FailsFor.by_piece order stopped front last are call answered; same = refl }
still f o p before after link start e to
    (FailsFor.by_batch order stopped unasked stand batch front own are read stops refuses) =
    record {
      again = FailsFor.by_batch order stopped unasked stand batch front own are read stops refuses;
      same = refl;
    }
still f o p before after link start e to
    (FailsFor.by_writer order stand batch made unasked read made_so refused) =
    record {
      again = FailsFor.by_writer order stand batch made unasked read made_so refused;
      same = refl;
    }
still f o p before after link start e to (FailsFor.by_cut order front at unasked is passes) =
    record { again = FailsFor.by_cut order front at unasked is passes; same = refl }
still f o p before after link start e to (FailsFor.by_end refused order ends why cannot) =
    record { again = FailsFor.by_end refused order ends why cannot; same = refl }

-- an exchange that failed still did, and as much is owed
record FailedOn {s : Start} {p : Passed} {before link : LinkState} {start : LinkStart} {e : Error}
    (failed : HasFailed s p before link start e) (written : List ℕ) (after : LinkState)
    : Type 0 where
  again : HasFailed s (past_at p written) after link start e
  same : owed_by again ≡ owed_by failed

failed_on : (s : Start) (p : Passed) (written : List ℕ) (before after link : LinkState)
    (start : LinkStart) (e : Error) (failed : HasFailed s p before link start e)
    → WrittenTo before after → FailedOn failed written after
failed_on s p written before after link start e failed to =
    let on = still failed.f (origin_at s failed.head failed.sent start.reused failed.began)
    (past_at p failed.before) before after link start failed.raised to failed.why in
    record {
      again = record {
        head = failed.head;
        sent = failed.sent;
        relayable = failed.relayable;
        sends = failed.sends;
        before = failed.before;
        raised = failed.raised;
        treated = failed.treated;
        told = failed.told;
        f = failed.f;
        began = failed.began;
        stands = failed.stands;
        why = on.again;
        speaks = failed.speaks;
        over = over_on s before after failed.treated.e e to failed.over;
      };
      same = ap (λ (tasks : List HttpTask). answer_to failed.head (tasks ++ answered s)) on.same;
    }

-- an attempt that failed still did, and as much is owed
misses_on : (s : Start) (p : Passed) (written : List ℕ) (before after link : LinkState)
    (start : LinkStart) (keep : Bool) (e : Error) (text : List ℕ) → WrittenTo before after
    → Misses s p before link start keep e text
    → Misses s (past_at p written) after link start keep e text
misses_on s p written before after link start keep e text to (Misses.in_exchange failed is kept) =
    let on = failed_on s p written before after link start e failed to in
    Misses.in_exchange on.again (is ∙ sym on.same) kept
misses_on s p written before after link start keep e text to (Misses.ahead_of_it r is) =
    Misses.ahead_of_it (record {
      head = r.head;
      accepted = record {
        framing = r.accepted.framing;
        len = r.accepted.len;
        has = r.accepted.has;
        relayable = r.accepted.relayable;
      };
      raised = r.raised;
      refused = r.refused;
      treated = r.treated;
      told = r.told;
      over = r.over;
      fresh = r.fresh;
      unsent = record { got = r.unsent.got; sent = r.unsent.sent };
    }) is

-- no valid exchange fails whose filters changed nothing
pub failed_invalid : (s : Start) (p : Passed) (client link : LinkState) (start : LinkStart)
    (e : Error) (failed : HasFailed s p client link start e) → AreNeutral failed.f.calls
    → IsValid (origin_at s failed.head failed.sent start.reused failed.began) p client link start
    → ⊥
failed_invalid s p client link start e failed neutral valid =
    never_fails failed.f (origin_at s failed.head failed.sent start.reused failed.began)
    (past_at p failed.before) client link start neutral (record {
      asks = record {
        request = valid.asks.request;
        gives = valid.asks.gives;
        is_request = valid.asks.is_request;
        stays = valid.asks.stays;
      };
      answers = record {
        response = valid.answers.response;
        gives = valid.answers.gives;
        is_response = valid.answers.is_response;
        ends = valid.answers.ends;
      };
      agrees = valid.agrees;
      client_faultless = valid.client_faultless;
      link_faultless = valid.link_faultless;
    }) failed.raised failed.why

-- how an attempt ends that failed, and whose client was given what it is owed
pub ends_missed : (s : Start) (p : Passed) (w : World) (link : LinkState) (start : LinkStart)
    (keep : Bool) (e : Error) (text : List ℕ) → Misses s p w.client link start keep e text
    → IsGiven s p w text
    → IsFailedAttempt s p w link start keep false e ⊎ IsUnsentAttempt s p w link start keep false e
ends_missed s p w link start keep e text (Misses.in_exchange failed is kept) given =
    inl (record {
      failed = failed;
      invalid = failed_invalid s p w.client link start e failed;
      answered = subst (λ (t : List ℕ). IsGiven s p w t) is given;
      not_kept = kept;
      stays = refl;
    })
ends_missed s p w link start keep e text (Misses.ahead_of_it refused is) given =
    inr (record {
      refused = refused;
      answered = subst (λ (t : List ℕ). IsGiven s p w t) is given;
      stays = refl;
    })

-- an answer is no end by its turns
written_going : (owed : Owed) (again : Bool) → outcome_written owed again ≢ outcome.TurnLimit
written_going (Refused error) again limit = cc
written_going (Ahead None) again limit = cc
written_going (Ahead (Some e)) again limit = cc
written_going (Served e) again limit = cc

pub failed_going : (owed : Owed) (fault : Fault) → outcome_failed owed fault ≢ outcome.TurnLimit
failed_going (Refused error) fault limit = cc
failed_going (Ahead None) fault limit = cc
failed_going (Ahead (Some e)) fault limit = cc
failed_going (Served e) fault limit = cc

-- ---- what hooks owe

-- the head of a request that hooks ended
pub owed_head : {s : Start} {p : Passed} (why : Option Error) (text : List ℕ)
    → IsOwedAhead s p why text → (head : RequestHead) × IsAccepted s p head
owed_head why text (IsOwedAhead.by_answer head tasks t has order is_answer is) =
    (head, has)
owed_head why text (IsOwedAhead.by_error head e t has stopped told is) = (head, has)

-- what hooks owe does not depend on what was written
abbrev ahead_on : (s : Start) (p : Passed) (written : List ℕ) (why : Option Error) (text : List ℕ)
    → IsOwedAhead s p why text → IsOwedAhead s (past_at p written) why text
ahead_on s p written why text
    (IsOwedAhead.by_answer head tasks t has order is_answer is) =
    IsOwedAhead.by_answer head tasks t
    (record {
      framing = has.framing;
      len = has.len;
      has = has.has;
      relayable = has.relayable;
    }) order is_answer is
ahead_on s p written why text (IsOwedAhead.by_error head e t has stopped told is) =
    IsOwedAhead.by_error head e t
    (record {
      framing = has.framing;
      len = has.len;
      has = has.has;
      relayable = has.relayable;
    }) stopped told is

-- ---- whether the client may ask for more

-- the session that a write leaves tells the same
tells_as : {s : Start} {p : Passed} (written : List ℕ) (why : Option Error) (text : List ℕ)
    (owes : IsOwedAhead s p why text) (session session' : HttpSession) → WrittenOf session session'
    → TellsAgain owes session → TellsAgain (ahead_on s p written why text owes) session'
tells_as written why text (IsOwedAhead.by_answer head tasks t has order is_answer is) session
    session' same tells = record {
      request = ap (λ (h : HttpSession). h.writing.request) same ∙ tells.request;
      done = ap (λ (h : HttpSession). is_body_done h.reading) same ∙ tells.done;
      place = ap (λ (h : HttpSession). h.writing.place) same ∙ tells.place;
      closes = ap (λ (h : HttpSession). h.writing.closes) same ∙ tells.closes;
    }
tells_as written why text (IsOwedAhead.by_error head e t has stopped told is) session session' same
    tells =
    tt

calmly_on : {s : Start} {p : Passed} (written : List ℕ) (w x : World) (why : Option Error)
    (text : List ℕ) (owes : IsOwedAhead s p why text) (session session' : HttpSession)
    → WrittenOf session session' → x.client.faults ≡ w.client.faults
    → IsAnsweredCalmly w why owes session
    → IsAnsweredCalmly x why (ahead_on s p written why text owes) session'
calmly_on written w x None text owes session session' same calm (tells, still) =
    (tells_as written None text owes session session' same tells, calm ∙ still)
calmly_on written w x (Some e) text owes session session' same calm tells = tt

-- ---- what is owed

-- where some waits, the client was not given all of it
pub waits_left : (output : Outgoing) (written text : List ℕ) → WaitsOf output written text
    → written ≢ text
waits_left output written text waits whole = absurd (omega (
  arith,
  waits.some,
  length-append written waits.left,
  ap length waits.joined,
  ap length whole,
))

-- and there is some of it
waits_some : (output : Outgoing) (written text : List ℕ) → WaitsOf output written text
    → text ≢ []
waits_some output written text waits none = absurd (omega (
  arith,
  waits.some,
  length-append written waits.left,
  ap length waits.joined,
  ap length none,
))

-- and it was given the front
pub waits_front : (output : Outgoing) (written text : List ℕ) → WaitsOf output written text
    → IsFrontOf written text
waits_front output written text waits = record { rest = waits.left; joined = waits.joined }

module _ {L : Type 0} (state : L → LinkState) (start_at : L → LinkStart) where
  -- what the client is owed is so still after a write of its link
  abbrev owes_on : (s : Start) (p : Passed) (written : List ℕ) (w x : World)
      (own : List (Returned L))
      (owed : Owed) (text : List ℕ) → WrittenTo w.client x.client
      → x.connect_faults ≡ w.connect_faults → Owes state start_at s p w own owed text
      → Owes state start_at s (past_at p written) x own owed text
  owes_on s p written w x [] (Refused error) text to same owes =
      (owes.0, record { got = owes.1.got; sent = owes.1.sent })
  owes_on s p written w x [] (Ahead why) text to same owes = (
    ahead_on s p written why text owes.0,
    record { got = owes.1.got; sent = owes.1.sent },
    owes.2,
  )
  owes_on s p written w x [] (Served e) text to same owes = record {
    unconnected = record {
      refused = owes.unconnected.refused;
      rose = rw same owes.unconnected.rose;
      head = owes.unconnected.head;
      accepted = record {
        framing = owes.unconnected.accepted.framing;
        len = owes.unconnected.accepted.len;
        has = owes.unconnected.accepted.has;
        relayable = owes.unconnected.accepted.relayable;
      };
      unsent = record {
        got = owes.unconnected.unsent.got;
        sent = owes.unconnected.unsent.sent;
      };
    };
    told = owes.told;
    text_is = owes.text_is;
  }
  owes_on s p written w x (r ∷ own) (Refused error) text to same owes = absurd owes
  owes_on s p written w x (r ∷ own) (Ahead why) text to same owes = absurd owes
  owes_on s p written w x (r ∷ own) (Served e) text to same owes =
      misses_on s p written w.client x.client (state r.link) (start_at r.link) r.keep e text to owes

  -- and its session tells the same of its client
  told_on : (s : Start) (p : Passed) (written : List ℕ) (w x : World) (own : List (Returned L))
      (owed : Owed) (text : List ℕ) (to : WrittenTo w.client x.client)
      (same : x.connect_faults ≡ w.connect_faults) (owes : Owes state start_at s p w own owed text)
      (session session' : HttpSession) → WrittenOf session session'
      → x.client.faults ≡ w.client.faults
      → TellsOwed state start_at s p w own owed text owes session
      → TellsOwed state start_at s (past_at p written) x own owed text
      (owes_on s p written w x own owed text to same owes) session'
  told_on s p written w x [] (Refused error) text to same owes session session' shows calm tells =
      tt
  told_on s p written w x [] (Ahead why) text to same owes session session' shows calm tells =
      calmly_on written w x why text owes.0 session session' shows calm tells
  told_on s p written w x [] (Served e) text to same owes session session' shows calm tells = tt
  told_on s p written w x (r ∷ own) owed text to same owes session session' shows calm tells = tt

  -- the attempts are those that they were
  attempts_on : (s : Start) (p : Passed) (written : List ℕ) (own : List (Returned L)) (owed : Owed)
      (attempts : List AttemptRecord) → HasAttempts state start_at s p own owed attempts
      → HasAttempts state start_at s (past_at p written) own owed attempts
  attempts_on s p written [] (Refused error) attempts made = made
  attempts_on s p written [] (Ahead why) attempts made = made
  attempts_on s p written [] (Served e) attempts made = made
  attempts_on s p written (r ∷ []) (Refused error) attempts made = absurd made
  attempts_on s p written (r ∷ []) (Ahead why) attempts made = absurd made
  attempts_on s p written (r ∷ []) (Served e) attempts made = record {
    tells = record { got = made.tells.got; sent = made.tells.sent; faults = made.tells.faults };
    peer = made.peer;
    tries = made.tries;
    attempt = made.attempt;
    attempts_are = made.attempts_are;
    are_tries = made.are_tries;
    is_record = made.is_record;
    error = made.error;
  }
  attempts_on s p written (r ∷ q ∷ own) owed attempts made = absurd made

  -- what was written of it is in order
  pub owes_order : (s : Start) (p : Passed) (w : World) (own : List (Returned L)) (owed : Owed)
      (text : List ℕ) → Owes state start_at s p w own owed text → IsFrontOf p.written text
      → IsInOrder s p
  owes_order s p w [] (Refused error) text owes front =
      IsInOrder.is_refusal text error owes.0 front owes.1.sent
  owes_order s p w [] (Ahead why) text owes front =
      IsInOrder.is_ahead why text owes.0 front owes.1.sent
  owes_order s p w [] (Served e) text owes front =
      IsInOrder.is_unlinked owes.unconnected.head e owes.unconnected.accepted
      owes.unconnected.refused owes.told
      (subst (λ (t : List ℕ). IsFrontOf p.written t) owes.text_is front)
      owes.unconnected.unsent.sent
  owes_order s p w (r ∷ own) (Refused error) text owes front = absurd owes
  owes_order s p w (r ∷ own) (Ahead why) text owes front = absurd owes
  owes_order s p w (r ∷ own) (Served e) text (Misses.in_exchange f is kept) front =
      IsInOrder.is_failure _ f.f f.began f.head f.sent _ _ f.before f.raised e f.relayable f.sends
      f.stands (order_of f.why) f.treated f.told
      (subst (λ (t : List ℕ). IsFrontOf p.written t) is front)
  owes_order s p w (r ∷ own) (Served e) text (Misses.ahead_of_it f is) front =
      IsInOrder.is_unsent f.head _ r.keep f.raised e f.accepted f.refused f.treated f.told
      (subst (λ (t : List ℕ). IsFrontOf p.written t) is front) f.unsent.sent

  -- the client's head is open no more
  pub owes_open : (s : Start) (p : Passed) (w : World) (own : List (Returned L)) (owed : Owed)
      (text : List ℕ) → Owes state start_at s p w own owed text → IsOpen (asked s p) → ⊥
  owes_open s p w [] (Refused error) text owes open_head = turns_down_open owes.0 open_head
  owes_open s p w [] (Ahead why) text owes open_head =
      let one = owed_head why text owes.0 in
      HasRequest-IsOpen (asked s p) one.0 one.1.framing one.1.len one.1.has open_head
  owes_open s p w [] (Served e) text owes open_head =
      HasRequest-IsOpen (asked s p) owes.unconnected.head owes.unconnected.accepted.framing
      owes.unconnected.accepted.len owes.unconnected.accepted.has open_head
  owes_open s p w (r ∷ own) (Refused error) text owes open_head = absurd owes
  owes_open s p w (r ∷ own) (Ahead why) text owes open_head = absurd owes
  owes_open s p w (r ∷ own) (Served e) text (Misses.in_exchange f is kept) open_head =
      exchange_open _ f.f s (past_at p f.before) f.head f.sent _ f.began _ (order_of f.why)
      open_head
  owes_open s p w (r ∷ own) (Served e) text (Misses.ahead_of_it f is) open_head =
      HasRequest-IsOpen (asked s p) f.head f.accepted.framing f.accepted.len f.accepted.has
      open_head

  -- ---- how it ends

  -- an attempt failed, and its client was given what it is owed, or a write failed
  pub ends_served : (s : Start) (p : Passed) (w : World) (own : List (Returned L)) (e : Error)
      (text : List ℕ) (attempts : List AttemptRecord)
      → Owes state start_at s p w own (Served e) text → IsGiven s p w text
      → HasAttempts state start_at s p own (Served e) attempts
      → EndsWith state start_at s p w own attempts (outcome.Served (Some e) false)
  ends_served s p w [] e text attempts owes given made = (
    (inl (record { text = text; owed = owes; given = given }), refl),
    AttemptsFailed.unlinked
        made,
  )
  ends_served s p w (r ∷ []) e text attempts owes given made = record {
    tells = made.tells;
    peer = made.peer;
    tries = made.tries;
    attempt = made.attempt;
    attempts_are = made.attempts_are;
    are_tries = made.are_tries;
    is_record = made.is_record;
    error = made.error;
    ends = ends_missed s p w (state r.link) (start_at r.link) r.keep e text owes given;
  }
  ends_served s p w (r ∷ q ∷ own) e text attempts owes given made = absurd made

  -- what hooks answered, as its end is told
  ended_ahead : (s : Start) (p : Passed) (w : World) (why told : Option Error) (text : List ℕ)
      → Owes state start_at s p w [] (Ahead why) text → IsGivenAhead s p w why text told
      → EndsAhead s p w told
  ended_ahead s p w why told text owes given = record {
    why = why;
    text = text;
    owed = owes.0;
    given = given;
    unsent = owes.1;
    untreated = owes.2;
  }

  -- hooks ended the request, for an error or for none, and its client was given what it is owed, or
  -- a write failed; it ends with that error
  pub ends_ahead : (s : Start) (p : Passed) (w : World) (own : List (Returned L))
      (why : Option Error) (e : Error) (text : List ℕ) (attempts : List AttemptRecord)
      → Owes state start_at s p w own (Ahead why) text → IsGivenAhead s p w why text (Some e)
      → HasAttempts state start_at s p own (Ahead why) attempts
      → EndsWith state start_at s p w own attempts (outcome.Served (Some e) false)
  unfolding ended_ahead
  ends_ahead s p w [] why e text attempts owes given made =
      let ends = ended_ahead s p w why (Some e) text owes given in
      ((inr ends, refl), AttemptsFailed.ahead ends made)
  ends_ahead s p w (r ∷ own) why e text attempts owes given made = absurd owes

  -- hooks answered it, and its client was given all of that
  ends_answered : (s : Start) (p : Passed) (w : World) (own : List (Returned L)) (text : List ℕ)
      (attempts : List AttemptRecord) (session : HttpSession)
      (owes : Owes state start_at s p w own (Ahead None) text) → p.written ≡ text → text ≢ []
      → TellsOwed state start_at s p w own (Ahead None) text owes session
      → HasAttempts state start_at s p own (Ahead None) attempts
      → EndsWith state start_at s p w own attempts
      (outcome.Served None (goes_back_with session w.ahead))
  ends_answered s p w [] text attempts session owes whole some tells made = (
    record {
      ends = record {
        why = None;
        text = text;
        owed = owes.0;
        given = inl (refl, whole);
        unsent = owes.1;
        untreated = owes.2;
      };
      calm = tells.1;
      goes_back = may_exactly None text owes.0 session w.ahead refl some tells.0;
    },
    made,
  )
  ends_answered s p w (r ∷ own) text attempts session owes whole some tells made = absurd owes

  -- the request was not brought to an end, and a part was written
  pub ends_part : (s : Start) (p : Passed) (w : World) (own : List (Returned L)) (owed : Owed)
      (text : List ℕ) (attempts : List AttemptRecord)
      → Owes state start_at s p w own owed text → IsFrontOf p.written text
      → HasAttempts state start_at s p own owed attempts
      → EndsWith state start_at s p w own attempts outcome.TurnLimit
      × EndsWith state start_at s p w own attempts outcome.OutOfMemory
  ends_part s p w [] (Refused error) text attempts owes part made =
      let some : IsPartRefused s p = inr (text, error, owes.0, part) in
      ((owes.1, inl (made, some)), (owes.1, inl (inl (made, some))))
  ends_part s p w [] (Ahead why) text attempts owes part made =
      let some : IsPartAhead s p attempts =
      record { why = why; text = text; owed = owes.0; part = part; made = made } in
      ((owes.1, inr (inr (inl some))), (owes.1, inl (inr (inr (inl some)))))
  ends_part s p w [] (Served e) text attempts owes part made =
      let half : IsHalfRefused s p w attempts = record {
        e = e;
        unconnected = owes.unconnected;
        made = made;
        part = inr (owes.told, subst (λ (t : List ℕ). IsFrontOf p.written t) owes.text_is part);
      } in (
        (owes.unconnected.unsent, inr (inr (inr half))),
        (owes.unconnected.unsent, inl (inr (inr (inr half)))),
      )
  ends_part s p w (r ∷ []) (Refused error) text attempts owes part made = absurd made
  ends_part s p w (r ∷ []) (Ahead why) text attempts owes part made = absurd made
  ends_part s p w (r ∷ []) (Served e) text attempts owes part made = (
    record {
      tells = made.tells;
      peer = made.peer;
      tries = made.tries;
      attempt = made.attempt;
      attempts_are = made.attempts_are;
      are_tries = made.are_tries;
      is_record = made.is_record;
      error = tt;
      ends = subst
          (λ (t : Option Error). IsPart s p w (state r.link) (start_at r.link) r.keep t)
          (sym made.error) (record { text = text; misses = owes; part = part });
    },
    record {
      tells = made.tells;
      peer = made.peer;
      tries = made.tries;
      attempt = made.attempt;
      attempts_are = made.attempts_are;
      are_tries = made.are_tries;
      is_record = made.is_record;
      error = tt;
      ends = subst
          (λ (t : Option Error). IsPart s p w (state r.link) (start_at r.link) r.keep t)
          (sym made.error) (record { text = text; misses = owes; part = part });
    },
  )
  ends_part s p w (r ∷ q ∷ own) owed text attempts owes part made = absurd made

  -- the answer was written whole
  ends_whole : (s : Start) (p : Passed) (w : World) (own : List (Returned L)) (owed : Owed)
      (text : List ℕ) (attempts : List AttemptRecord) (session : HttpSession)
      (owes : Owes state start_at s p w own owed text) → p.written ≡ text → text ≢ []
      → TellsOwed state start_at s p w own owed text owes session
      → HasAttempts state start_at s p own owed attempts
      → EndsWith state start_at s p w own attempts
      (outcome_written owed (goes_back_with session w.ahead))
  ends_whole s p w [] (Refused error) text attempts session owes whole some tells made = (
    inl (record { answer = text; turned_down = owes.0; whole = whole; unsent = owes.1 }),
    made,
  )
  ends_whole s p w (r ∷ own) (Refused error) text attempts session owes whole some tells made =
      absurd owes
  ends_whole s p w own (Ahead None) text attempts session owes whole some tells made =
      ends_answered s p w own text attempts session owes whole some tells made
  ends_whole s p w own (Ahead (Some e)) text attempts session owes whole some tells made =
      ends_ahead s p w own (Some e) e text attempts owes (refl, inl whole) made
  ends_whole s p w own (Served e) text attempts session owes whole some tells made =
      ends_served s p w own e text attempts owes (inl whole) made

module _ {L C : Type 0} (state : L → LinkState) (start_at : L → LinkStart) where
  -- what a phase that answers holds
  pub answering_of : (s : Start) (p : Passed) (w : World) (own : List (Returned L))
      (session : Box HttpSession) (owed : Owed) (attempts : List AttemptRecord)
      → RunSoFar {C = C} state start_at s p w own (Answer session owed attempts)
      → IsAnswering state start_at s p w own session.value owed attempts
  answering_of s p w [] session owed attempts run = run.holds
  answering_of s p w (r ∷ own) session owed attempts run = run.holds

  -- more is to be written
  pub answer_on : (s : Start) (p : Passed) (w : World) (own : List (Returned L))
      (session : Box HttpSession) (owed : Owed) (attempts : List AttemptRecord)
      → TellsClient s p w
      → IsAnswering state start_at s p w own session.value owed attempts
      → AdvancesOn {C = C} state start_at s w own (Answer session owed attempts)
  answer_on s p w own session owed attempts tells holds = record {
    passed = p;
    run = record {
      tells = tells;
      order = owes_order state start_at s p w own owed holds.text holds.owes
          (waits_front _ _ _ holds.waits);
      untouched = λ open_head.
          absurd (owes_open state start_at s p w own owed holds.text holds.owes open_head);
      going = tt;
      calm = tt;
      holds = by own holds;
    };
  }
    where
      by : (l : List (Returned L))
          → IsAnswering state start_at s p w l session.value owed attempts
          → PhaseHolds {C = C} state start_at s p w l (Answer session owed attempts)
      by [] held = held
      by (r ∷ l) held = held

  -- the request has ended
  answer_over : (s : Start) (p : Passed) (w : World) (own : List (Returned L)) (owed : Owed)
      (text : List ℕ) (attempts : List AttemptRecord) (end : Outcome) → TellsClient s p w
      → Owes state start_at s p w own owed text → IsFrontOf p.written text
      → end ≢ outcome.TurnLimit → EndsWith state start_at s p w own attempts end
      → AdvancesOn {C = C} state start_at s w own (Ended end attempts)
  answer_over s p w own owed text attempts end tells owes front going ends = record {
    passed = p;
    run = record {
      tells = tells;
      order = owes_order state start_at s p w own owed text owes front;
      untouched = λ open_head. absurd (owes_open state start_at s p w own owed text owes open_head);
      going = going;
      calm = tt;
      holds = by own ends;
    };
  }
    where
      by : (l : List (Returned L)) → EndsWith state start_at s p w l attempts end
          → PhaseHolds {C = C} state start_at s p w l (Ended end attempts)
      by [] held = held
      by (r ∷ l) held = held

-- the past, with what was written of it
pub past_same : (s : Start) (p : Passed) (w : World) → TellsClient s p w
    → TellsClient s (past_at p p.written) w
past_same s p w tells = record {
  came = tells.came;
  written = tells.written;
  faults = tells.faults;
  connect_faults = tells.connect_faults;
  fault_lists = tells.fault_lists;
}

module _ {L C : Type 0} (state : L → LinkState) (start_at : L → LinkStart)
    (s : Start) (p : Passed) (w x : World) (own : List (Returned L)) (session : Box HttpSession)
    (owed : Owed) (attempts : List AttemptRecord) (same : x.connect_faults ≡ w.connect_faults)
    (output left : Outgoing) (is : output ≡ session.value.writing.output)
    (run : RunSoFar {C = C} state start_at s p w own (Answer session owed attempts))
  where
    -- what the phase holds
    holds : IsAnswering state start_at s p w own session.value owed attempts
    holds = answering_of state start_at s p w own session owed attempts run

    -- the write is one of what waits
    written : (answer : Put) → WritesPending output w.client x.client answer left
        → WritesQueue w.client x.client holds.waits.left answer left
    written answer writes =
        let so : WritesPending (outgoing.Open holds.waits.left) w.client x.client answer left =
        subst (λ (o : Outgoing). WritesPending o w.client x.client answer left)
        (is ∙ holds.waits.is_open) writes in
        so

    -- nothing but that write came
    wrote : (answer : Put) → WritesPending output w.client x.client answer left
        → WrittenTo w.client x.client
    wrote answer writes = written_to output w.client x.client answer left writes

    -- what is owed then
    owes : (answer : Put) → WritesPending output w.client x.client answer left → (text : List ℕ)
        → Owes state start_at s (past_at p text) x own owed holds.text
    owes answer writes text =
        owes_on state start_at s p text w x own owed holds.text (wrote answer writes) same
        holds.owes

    -- and its session tells the same
    tells_on : (answer : Put) (writes : WritesPending output w.client x.client answer left)
        (text : List ℕ) (session' : Box HttpSession) → WrittenOf session.value session'.value
        → x.client.faults ≡ w.client.faults
        → TellsOwed state start_at s (past_at p text) x own owed holds.text
        (owes answer writes text) session'.value
    unfolding owes
    tells_on answer writes text session' shows calm =
        told_on state start_at s p text w x own owed holds.text (wrote answer writes) same
        holds.owes session.value session'.value shows calm holds.tells

    -- the attempts
    made : (text : List ℕ) → HasAttempts state start_at s (past_at p text) own owed attempts
    made text = attempts_on state start_at s p text own owed attempts holds.made

    -- the client took some, and more is left or the answer was written whole
    pub answer_took : (n : ℕ) (session' : Box HttpSession) (next : Phase L C)
        → left ≡ session'.value.writing.output → WrittenOf session.value session'.value
        → WritesPending output w.client x.client (put.Took n) left
        → (0 < length (pending left) → next ≡ Answer session' owed attempts)
        → (pending left ≡ []
        → next ≡ Ended (outcome_written owed (goes_back_with session'.value x.ahead)) attempts)
        → AdvancesOn {C = C} state start_at s x own next
    answer_took n session' next stands shows writes more whole =
        by wr.rest refl
      where
        wr : WritesQueue w.client x.client holds.waits.left (put.Took n) left
        wr = written (put.Took n) writes

        text : List ℕ
        text = p.written ++ take n holds.waits.left

        tells : TellsClient s (past_at p (p.written ++ take n holds.waits.left)) x
        tells = client_took s p w x holds.waits.left n same wr.writes.writes run.tells

        by : (rest : List ℕ) → wr.rest ≡ rest → AdvancesOn {C = C} state start_at s x own next
        by [] none =
            let all : p.written ++ take n holds.waits.left ≡ holds.text =
            ap (λ (xs : List ℕ). p.written ++ xs)
            (take_whole holds.waits.left n (sym none ∙ wr.writes.left)) ∙ holds.waits.joined in
            subst (λ (k : Phase L C). AdvancesOn state start_at s x own k)
            (sym (whole (ap pending wr.leaves ∙ none)))
            (answer_over state start_at s
            (past_at p (p.written ++ take n holds.waits.left)) x own owed holds.text attempts
            (outcome_written owed (goes_back_with session'.value x.ahead)) tells
            (owes (put.Took n) writes (p.written ++ take n holds.waits.left))
            (record { rest = []; joined = append-nil _ ∙ all })
            (written_going owed (goes_back_with session'.value x.ahead))
            (ends_whole state start_at s
            (past_at p (p.written ++ take n holds.waits.left)) x own owed holds.text attempts
            session'.value (owes (put.Took n) writes (p.written ++ take n holds.waits.left)) all
            (waits_some _ _ _ holds.waits)
            (tells_on (put.Took n) writes (p.written ++ take n holds.waits.left) session' shows
            wr.writes.writes.faults)
            (made (p.written ++ take n holds.waits.left))))
        by (b ∷ bs) some =
            let waits : pending left ≡ b ∷ bs = ap pending wr.leaves ∙ some in
            let long : 0 < length (pending left) = omega (arith, ap length waits) in
            subst (λ (k : Phase L C). AdvancesOn state start_at s x own k) (sym (more long))
            (answer_on state start_at s
            (past_at p (p.written ++ take n holds.waits.left)) x own session' owed attempts tells
            (record {
              text = holds.text;
              owes = owes (put.Took n) writes (p.written ++ take n holds.waits.left);
              tells = tells_on (put.Took n) writes (p.written ++ take n holds.waits.left) session'
                  shows wr.writes.writes.faults;
              waits = record {
                left = wr.rest;
                is_open = sym stands ∙ wr.leaves;
                some = omega (arith, ap length some);
                joined = take_rest p.written holds.waits.left wr.rest n wr.writes.left
                    ∙ holds.waits.joined;
              };
              made = made (p.written ++ take n holds.waits.left);
            }))

    -- the client takes nothing now, and what waited waits
    still_on : (answer : Put) (session' : Box HttpSession)
        → WritesPending output w.client x.client answer left
        → session'.value.writing.output ≡ outgoing.Open holds.waits.left
        → WrittenOf session.value session'.value → x.client.faults ≡ w.client.faults
        → TellsClient s p x
        → AdvancesOn {C = C} state start_at s x own (Answer session' owed attempts)
    still_on answer session' writes stands shows calm tells =
        answer_on state start_at s (past_at p p.written) x own session' owed attempts
        (past_same s p x tells) (record {
          text = holds.text;
          owes = owes answer writes p.written;
          tells = tells_on answer writes p.written session' shows calm;
          waits = record {
            left = holds.waits.left;
            is_open = stands;
            some = holds.waits.some;
            joined = holds.waits.joined;
          };
          made = made p.written;
        })

    -- it has to be waited for
    pub answer_waits : (session' : Box HttpSession) → left ≡ session'.value.writing.output
        → WrittenOf session.value session'.value
        → WritesPending output w.client x.client put.NotReady left
        → AdvancesOn {C = C} state start_at s x own (Answer session' owed attempts)
    answer_waits session' stands shows writes =
        let wr = written put.NotReady writes in
        let waits = wr.writes.writes in
        still_on put.NotReady session' writes
        (sym stands ∙ wr.leaves ∙ ap outgoing.Open wr.writes.left) shows waits.faults
        (client_still s p w x (omega (arith, same)) waits.given waits.taken
        (omega (arith, waits.faults))
        (grew_none w.client x.client waits.read_faults waits.write_faults) run.tells)

    -- it is silent
    pub answer_silent : (session' : Box HttpSession) → left ≡ session'.value.writing.output
        → WrittenOf session.value session'.value
        → WritesPending output w.client x.client put.Silent left
        → AdvancesOn {C = C} state start_at s x own (Answer session' owed attempts)
    answer_silent session' stands shows writes =
        let wr = written put.Silent writes in
        let silent = wr.writes.writes in
        still_on put.Silent session' writes
        (sym stands ∙ wr.leaves ∙ ap outgoing.Open wr.writes.left) shows
        (ap (λ (l : LinkState). l.faults) silent.same)
        (client_still s p w x (omega (arith, same)) (ap (λ (l : LinkState). l.given) silent.same)
        (ap (λ (l : LinkState). l.taken) silent.same)
        (omega (arith, ap (λ (l : LinkState). l.faults) silent.same))
        (grew_same w.client x.client silent.same) run.tells)

    -- the write failed
    pub answer_fails : (fault : Fault)
        → WritesPending output w.client x.client (put.Failed fault) left
        → AdvancesOn {C = C} state start_at s x own (Ended (outcome_failed owed fault) attempts)
    answer_fails fault writes =
        answer_over state start_at s (past_at p p.written) x own owed holds.text attempts
        (outcome_failed owed fault) (past_same s p x tells)
        (owes (put.Failed fault) writes p.written) front (failed_going owed fault)
        (by own owed (owes (put.Failed fault) writes p.written) (made p.written))
      where
        fails : FailsWrite w.client fault x.client
        fails = (written (put.Failed fault) writes).writes.writes

        tells : TellsClient s p x
        tells = client_failed s p w x fault same fails run.tells

        front : IsFrontOf p.written holds.text
        front = waits_front _ _ _ holds.waits

        gives : FailsToGive s x fault
        gives = write_failed s p w x fault fails run.tells

        failed : FailsToWrite s x.client
        failed = fails_to_write s x fault gives

        by : (l : List (Returned L)) (o : Owed)
            → Owes state start_at s (past_at p p.written) x l o holds.text
            → HasAttempts state start_at s (past_at p p.written) l o attempts
            → EndsWith state start_at s (past_at p p.written) x l attempts (outcome_failed o fault)
        by [] (Refused error) owes made = (
          inr (inr (record {
            fault = fault;
            is = refl;
            rose = gives.rose;
            place = inr (record {
              kind = fails.kind;
              told = gives.told;
              unfinished = record {
                answer = holds.text;
                error = error;
                turned_down = owes.0;
                part = front;
                left = waits_left _ _ _ holds.waits;
              };
            });
            unsent = owes.1;
          })),
          made,
        )
        by (r ∷ l) (Refused error) owes made = absurd owes
        by l (Ahead None) owes made =
            ends_ahead state start_at s (past_at p p.written) x l None
            (fault_error Downstream fault) holds.text attempts owes
            (inr (
              fault,
              gives,
              refl,
              front,
            )) made
        by l (Ahead (Some e)) owes made =
            ends_ahead state start_at s (past_at p p.written) x l (Some e) e holds.text
            attempts owes (refl, inr (failed, front)) made
        by l (Served e) owes made =
            ends_served state start_at s (past_at p p.written) x l e holds.text attempts owes
            (inr (failed, front)) made

    -- the client's link found no memory
    pub answer_memory : WritesPending output w.client x.client put.OutOfMemory left
        → AdvancesOn {C = C} state start_at s x own (Ended outcome.OutOfMemory attempts)
    answer_memory writes =
        let wants = (written put.OutOfMemory writes).writes.writes in
        let tells : TellsClient s p x =
        client_still s p w x (omega (arith, same)) (ap (λ (l : LinkState). l.given) wants.same)
        (ap (λ (l : LinkState). l.taken) wants.same)
        (omega (arith, ap (λ (l : LinkState). l.faults) wants.same))
        (grew_none w.client x.client (ap (λ (l : LinkState). l.read_faults) wants.same)
        (ap (λ (l : LinkState). l.write_faults) wants.same)) run.tells in
        let front : IsFrontOf p.written holds.text = waits_front _ _ _ holds.waits in
        answer_over state start_at s (past_at p p.written) x own owed holds.text attempts
        outcome.OutOfMemory (past_same s p x tells) (owes put.OutOfMemory writes p.written) front
        (λ limit. cc)
        (ends_part state start_at s (past_at p p.written) x own owed holds.text attempts
        (owes put.OutOfMemory writes p.written) front (made p.written)).1
