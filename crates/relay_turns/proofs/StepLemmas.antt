-- A step takes the run so far on, and the end adds up what it says.
use Rattle.std.specs.Global.{Box}
use Rattle.std.proofs.Common.{◌≡◌, ◌≢◌, ℕ, ◌+◌, ◌≤◌, Bool, true, false, List, [], ◌∷◌, ◌++◌, Option, None, Some, Ok, Err, map, true≢false, ◌⊎◌, refl, sym, ap, subst, ◌∙◌, inl, inr, append_assoc, append-nil, length, min, arith}
use Rattle.relay_connector.specs.Connector.{Handed, Offer, Takes, handed}
use Rattle.relay_links.specs.Count.{last_count}
use Rattle.relay_links.specs.Link.{LinkState, LinkStart}
use Rattle.relay_links.specs.Told.{more, Gains}
use Rattle.relay_connector.specs.declared.Returned.{Returned}
use Rattle.relay_session.specs.declared.session.HttpSession.{HttpSession}
use Rattle.relay_tasks.specs.declared.Error.{Error}
use Rattle.relay_tasks.specs.declared.Fault.{Fault}
use Rattle.relay_tasks.specs.declared.log.LogEntry.{LogEntry}
use Rattle.relay_tasks.specs.declared.Peer.{Peer}
use Rattle.relay_h1.specs.Verdict.{IsOpen}
use Rattle.relay_attempt.specs.Passed.{Passed}
use Rattle.relay_hooked.specs.Exchange.{IsUnderWay}
use Rattle.relay_hooked.specs.Head.{filtering_of, link_of}
use Rattle.relay_request.specs.Bound.{IsWithin, LinkGave, OwnGave, PhaseCounts, TurnedCounts, most_sides, sides_before}
use Rattle.relay_request.specs.Passed.{World, Start, origin_at, IsUnsent}
use Rattle.relay_request.specs.Endings.{error_of, IsErrorOf, EndsLinked, EndsUnlinked, AttemptsUnfinished, AttemptsUnlinked, IsHalfRefused, EndsReturned, EndsWith}
use Rattle.relay_request.specs.Owed.{IsGivenBack, IsAnswering, IsHalfGiven}
use Rattle.relay_request.specs.Taken.{offers_for, offers_before, offers_of_turn}
use Rattle.relay_request.specs.Legs.{RepeatsOn, rebased}
use Rattle.relay_request.specs.Phases.{IsLeased, IsFailing, IsGoing, IsRelaying, RunSoFar}
use Rattle.relay_request.specs.Refusals.{faults_for, faults_told, attempts_in, faults_before, faults_of_turn}
use Rattle.relay_request.specs.Tries.{tries_in}
use Rattle.relay_request.specs.Relaying.{is_closing, is_relaying}
use Rattle.relay_request.specs.Request.{BeginsAgain, GoesOn, StepsOn}
use Rattle.relay_request.specs.Stock.{items_back, items_held}
use Rattle.relay_request.specs.Turn.{Advances, HasMoved, HasCause, HandsOn, IsAgain, IsStalled, is_linked, is_over, is_end, is_reading_head}
use Rattle.relay_request.specs.Uses.{LinkUses, OwesAnswer, OwnUses, PhaseUses, TurnCounts}
use Rattle.relay_request.specs.Work.{added_work}
use Rattle.relay_request.specs.Closing.{Hands, HandsBack, Settles, GivesUp, GivesFailedUp, AnswersOn, Finishes, IsHalfInformed, IsQuietExchange, IsQuiet, Rests, TurnOf, Ends}
use Rattle.relay_turns.proofs.FailSteps.{broken_part, half_informed}
use Rattle.relay_turns.proofs.TakenLemmas.{offers_are}
use Rattle.relay_turns.proofs.TryLemmas.{tries_before}
use Rattle.relay_turns.proofs.BoundLemmas.{open_counts, within_link}
use Rattle.relay_turns.proofs.ConnectSteps.{part_relayed, relaying_stands}
use Rattle.relay_turns.proofs.LegLemmas.{anew, begins_of, is_leg_of, leg_of, length_behind, run_again, unfaulted_same}
use Rattle.relay_turns.proofs.AnswerSteps.{answering_of, ends_part, waits_front, waits_left}
use Rattle.relay_turns.proofs.TurnLemmas.{unlinked_open, unlinked_items, answer_offers}
use Rattle.relay_turns.proofs.UseLemmas.{owes_settled}
use Rattle.relay_request.specs.declared.outcome.Ending.{Ending}
use Rattle.relay_request.specs.declared.machine.Attempt.{Attempt}
use Rattle.relay_request.specs.declared.machine.Lease.{Lease}
use Rattle.relay_request.specs.declared.machine.Phase.{Phase}
use Rattle.relay_request.specs.declared.machine.Phase.TheVariants.{ReadHead, Connect, Unlinked, Prepare, Relay, Broken, Again, Fail, Close, Answer, Ended}
use Rattle.relay_request.specs.declared.machine.RunStep.{RunStep}
use Rattle.relay_request.specs.declared.machine.RunStep.TheVariants as step
use Rattle.relay_request.specs.declared.outcome.Outcome.{Outcome}
use Rattle.relay_request.specs.declared.outcome.Outcome.TheVariants.{NoRequest, Refused, Served, TurnLimit, OutOfMemory}
use Rattle.relay_request.specs.declared.owed.Owed.{Owed}
use Rattle.relay_request.specs.declared.owed.Owed.TheVariants as owed
use Rattle.relay_request.specs.declared.record.AttemptRecord.{AttemptRecord}
use Rattle.relay_request.specs.declared.work.Work.{Work}

-- a list that gained nothing
pub more-nil : {X : Type 0} (told : Option (List X)) → told ≡ more told []
more-nil None = refl
more-nil (Some xs) = ap Some (sym (append-nil xs))

-- a list that gained twice
pub more-more : {X : Type 0} (told : Option (List X)) (xs ys : List X)
    → more (more told xs) ys ≡ more told (xs ++ ys)
more-more None xs ys = refl
more-more (Some ts) xs ys = ap Some (append_assoc ts xs ys)

-- the error of a record is that of its outcome
own_error : (end : Outcome) (told : Option Error) → told ≡ error_of end → IsErrorOf told end
own_error NoRequest told is = is
own_error (Refused error) told is = is
own_error (Served error reuse) told is = is
own_error TurnLimit told is = tt
own_error OutOfMemory told is = tt

module _ {L : Type 0} (state : L → LinkState) (start_at : L → LinkStart) where
  -- an attempt whose link went back ends as it did while the link was held
  returned_ends : (s : Start) (p : Passed) (w : World) (link : L) (lease : Lease) (keep : Bool)
      (outcome : Outcome) (r : Returned L) (attempts : List AttemptRecord)
      → IsLeased s p (state link) (start_at link) lease → Hands link lease keep outcome r attempts
      → EndsLinked s p w (state link) (start_at link) keep (error_of outcome) outcome
      → EndsReturned state start_at s p w r attempts outcome
  returned_ends s p w link lease keep outcome r attempts leased hands ends = record {
    tells = rw hands.is_link leased.tells;
    peer = leased.peer ∙ ap (λ (x : Peer). Some x) (sym hands.peer);
    tries = tries_in lease;
    attempt = hands.attempt;
    attempts_are = hands.attempts_are;
    are_tries = leased.tries;
    is_record = record {
      peer = leased.recorded ∙ ap (λ (x : Peer). Some x) (sym hands.recorded);
      reused = rw hands.is_link (hands.reused ∙ sym leased.reused);
      kept = hands.record_kept ∙ sym hands.kept;
      unfaulted = hands.unfaulted;
    };
    error = own_error outcome hands.attempt.error hands.error;
    ends = rw (hands.is_link, hands.kept, hands.error) ends;
  }

  -- the link of an attempt that failed went back, and its client is owed an answer
  given_back : (s : Start) (p : Passed) (link : L) (lease : Lease) (keep : Bool) (e : Error)
      (r : Returned L) (attempts : List AttemptRecord)
      → IsLeased s p (state link) (start_at link) lease
      → Hands link lease keep (Served (Some e) false) r attempts
      → IsGivenBack state start_at s p r attempts e
  given_back s p link lease keep e r attempts leased hands = record {
    tells = rw hands.is_link leased.tells;
    peer = leased.peer ∙ ap (λ (x : Peer). Some x) (sym hands.peer);
    tries = tries_in lease;
    attempt = hands.attempt;
    attempts_are = hands.attempts_are;
    are_tries = leased.tries;
    is_record = record {
      peer = leased.recorded ∙ ap (λ (x : Peer). Some x) (sym hands.recorded);
      reused = rw hands.is_link (hands.reused ∙ sym leased.reused);
      kept = hands.record_kept ∙ sym hands.kept;
      unfaulted = hands.unfaulted;
    };
    error = hands.error;
  }

  -- what it owes is that of the link that went back
  owes_back : (s : Start) (p : Passed) (w : World) (link : L) (lease : Lease) (keep : Bool)
      (e : Error) (r : Returned L) (attempts : List AttemptRecord) (session : HttpSession)
      → IsLeased s p (state link) (start_at link) lease
      → Hands link lease keep (Served (Some e) false) r attempts
      → IsFailing state start_at s p w link keep session e
      → IsAnswering state start_at s p w (r ∷ []) session (owed.Served e) attempts
  owes_back s p w link lease keep e r attempts session leased hands failing =
      let back : IsFailing state start_at s p w r.link r.keep session e =
      subst (λ (b : Bool). IsFailing state start_at s p w r.link b session e) (sym hands.kept)
      (subst (λ (l : L). IsFailing state start_at s p w l keep session e) (sym hands.is_link)
      failing) in
      record {
        text = back.text;
        owes = back.misses;
        tells = tt;
        waits = back.waits;
        made = given_back s p link lease keep e r attempts leased hands;
      }

  -- where the client takes no more of what it is owed
  quiet_answer : (s : Start) (p : Passed) (w : World) (own : List (Returned L))
      → IsHalfGiven state start_at s p w own → w.client.silent_on_write ≡ true
      → IsQuiet state start_at s p w own
  quiet_answer s p w [] half silent = inr (half, silent)
  quiet_answer s p w (r ∷ own) half silent = inr (inl (half, silent))

-- more ends may come
more_room : (tasks ends made : ℕ) (s : Start) (client : LinkState) (gave : List ℕ → Type 0)
    → IsWithin tasks ends (sides_before made) s client gave
    → IsWithin tasks ends (most_sides made) s client gave
more_room tasks ends made s client gave w = record {
  came = w.came;
  got = w.got;
  client_gave = w.client_gave;
  own_gave = w.own_gave;
  tasks_within = w.tasks_within;
  ends_within = omega (arith, w.ends_within);
}

module _ {L : Type 0} (state : L → LinkState) (start_at : L → LinkStart) where
  -- what is bounded by the bytes of a link is, once that was handed back
  of_link : (tasks ends most : ℕ) (s : Start) (client : LinkState) (link : L) (r : Returned L)
      → r.link ≡ link → IsWithin tasks ends most s client (LinkGave state start_at link)
      → IsWithin tasks ends most s client (OwnGave state start_at (r ∷ []))
  of_link tasks ends most s client link r is w = record {
    came = w.came;
    got = w.got;
    client_gave = w.client_gave;
    own_gave = subst (λ (l : L). LinkGave state start_at l w.got) (sym is) w.own_gave;
    tasks_within = w.tasks_within;
    ends_within = w.ends_within;
  }

  -- and by the attempts, the last of which had it
  of_attempt : (tasks ends : ℕ) (most : ℕ → ℕ) (s : Start) (client : LinkState) (link : L)
      (lease : Lease) (r : Returned L) (attempts : List AttemptRecord) (a : AttemptRecord)
      → r.link ≡ link → attempts ≡ tries_in lease ++ a ∷ []
      → IsWithin tasks ends (most (1 + length (tries_in lease))) s client
      (LinkGave state start_at link)
      → IsWithin tasks ends (most (length attempts)) s client (OwnGave state start_at (r ∷ []))
  of_attempt tasks ends most s client link lease r attempts a is are w =
      subst (λ (n : ℕ). IsWithin tasks ends (most n) s client (OwnGave state start_at (r ∷ [])))
      (sym (length_behind (tries_in lease) attempts a are))
      (of_link tasks ends (most (1 + length (tries_in lease))) s client link r is w)

module _ {L : Type 0} (start_at : L → LinkStart) where
  -- what was taken is the same, once the link was handed back
  offered_back : (link : L) (lease : Lease) (r : Returned L) (attempts : List AttemptRecord)
      (a : AttemptRecord) → r.link ≡ link → attempts ≡ tries_in lease ++ a ∷ []
      → map Err (faults_told (tries_in lease)) ++ Ok (handed (start_at link)) ∷ []
      ≡ offers_for start_at (r ∷ []) attempts
  offered_back link lease r attempts a is are =
      ap (λ (l : L). map Err (faults_told (tries_in lease)) ++ Ok (handed (start_at l)) ∷ [])
      (sym is)
      ∙ ap (λ (xs : List AttemptRecord).
      map Err (faults_told xs) ++ Ok (handed (start_at r.link)) ∷ [])
      (sym (tries_before (tries_in lease) attempts a are))

module _ {L C : Type 0} (state : L → LinkState) (start_at : L → LinkStart) where
  -- what a turn counted is what its step counts, where the link of both phases was asked as often
  settled_counts : (n : ℕ) (client client' : LinkState) (used : ℕ) (own now : List (Returned L))
      (next settled : Phase L C)
      → ((k : ℕ) → PhaseUses state start_at k own next → PhaseUses state start_at k now settled)
      → TurnCounts state start_at n client client' used own next
      → TurnCounts state start_at n client client' used now settled
  settled_counts n client client' used own now next settled asks turn = record {
    of_client = turn.of_client;
    of_own = turn.of_own;
    client_rose = turn.client_rose;
    own_rose = asks (turn.of_own + n) turn.own_rose;
    all = turn.all;
  }

  -- what settling leaves
  record Settled (s : Start) (p : Passed) (w : World) (next settled : Phase L C)
      (before after : Option (List (Returned L))) : Type 0 where
    handed : List (Returned L)
    gained : after ≡ more before handed
    run : RunSoFar state start_at s p w handed settled
    refused : faults_before [] next ≡ faults_before handed settled
    offered : offers_before start_at [] next ≡ offers_before start_at handed settled
    uses : (n : ℕ) → PhaseUses state start_at n [] next → PhaseUses state start_at n handed settled
    bounded : (tasks ends : ℕ) (client : LinkState) (ahead : List ℕ)
        → TurnedCounts state start_at tasks ends s client ahead [] next
        → PhaseCounts state start_at tasks ends s client ahead handed settled

  -- a phase that stays
  stays : (s : Start) (p : Passed) (w : World) (next settled : Phase L C)
      (before after : Option (List (Returned L))) → settled ≡ next → after ≡ before
      → is_closing next ≡ false → RunSoFar state start_at s p w [] next
      → Settled s p w next settled before after
  stays s p w next settled before after same kept shut run = record {
    handed = [];
    gained = kept ∙ more-nil before;
    run = subst (λ (n : Phase L C). RunSoFar state start_at s p w [] n) (sym same) run;
    refused = ap (λ (n : Phase L C). faults_before [] n) (sym same);
    offered = ap (λ (n : Phase L C). offers_before start_at [] n) (sym same);
    uses = λ n uses. subst (λ (k : Phase L C). PhaseUses state start_at n [] k) (sym same) uses;
    bounded = λ tasks ends client ahead counts.
        subst (λ (k : Phase L C). PhaseCounts state start_at tasks ends s client ahead [] k)
        (sym same) (open_counts state start_at tasks ends s client ahead [] next shut counts);
  }

  -- settling keeps the run so far
  settle_run : (s : Start) (p : Passed) (w : World) (next settled : Phase L C)
      (before after : Option (List (Returned L))) → Settles next before after settled
      → RunSoFar state start_at s p w [] next → Settled s p w next settled before after
  settle_run s p w ReadHead settled before after does run =
      stays s p w ReadHead settled before after does.0 does.1 refl run
  settle_run s p w (Answer session owed attempts) settled before after does run =
      stays s p w (Answer session owed attempts) settled before after does.0 does.1 refl run
  settle_run s p w (Broken context session link lease keep e) settled before after does run =
      stays s p w (Broken context session link lease keep e) settled before after does.0 does.1 refl
      run
  settle_run s p w (Again context session link lease keep e) settled before after does run =
      absurd run.holds
  settle_run s p w (Fail link lease keep session e) settled before after does run = record {
    handed = does.2.entry ∷ [];
    gained = does.2.gained;
    run = subst (λ (n : Phase L C). RunSoFar state start_at s p w (does.2.entry ∷ []) n)
        (sym does.1) (record {
          tells = run.tells;
          order = run.order;
          untouched = run.untouched;
          going = tt;
          calm = tt;
          holds = owes_back state start_at s p w link lease keep e does.2.entry does.0 session.value
              run.holds.0 does.2.hands run.holds.1;
        });
    refused = ap (λ (xs : List AttemptRecord). faults_told xs)
        (sym (tries_before (tries_in lease) does.0 does.2.hands.attempt
        does.2.hands.attempts_are))
        ∙ ap (λ (n : Phase L C). faults_before (does.2.entry ∷ []) n) (sym does.1);
    offered = offered_back start_at link lease does.2.entry does.0 does.2.hands.attempt
        does.2.hands.is_link does.2.hands.attempts_are
        ∙ ap (λ (n : Phase L C). offers_before start_at (does.2.entry ∷ []) n) (sym does.1);
    uses = λ n uses. subst
        (λ (k : Phase L C). PhaseUses state start_at n (does.2.entry ∷ []) k) (sym does.1)
        (subst (λ (l : L). LinkUses state start_at n l) (sym does.2.hands.is_link) uses);
    bounded = λ tasks ends client ahead counts. subst
        (λ (k : Phase L C).
        PhaseCounts state start_at tasks ends s client ahead (does.2.entry ∷ []) k) (sym does.1)
        (of_attempt state start_at tasks ends sides_before s client link lease does.2.entry does.0
        does.2.hands.attempt does.2.hands.is_link does.2.hands.attempts_are counts);
  }
  settle_run s p w (Connect context session tries) settled before after does run =
      stays s p w (Connect context session tries) settled before after does.0 does.1 refl run
  settle_run s p w (Unlinked context session attempts error) settled before after does run =
      stays s p w (Unlinked context session attempts error) settled before after does.0 does.1 refl
      run
  settle_run s p w (Prepare context session link lease) settled before after does run =
      stays s p w (Prepare context session link lease) settled before after does.0 does.1 refl run
  settle_run s p w (Relay a) settled before after does run =
      stays s p w (Relay a) settled before after does.0 does.1 refl run
  settle_run s p w (Close link lease keep outcome) settled before after does run = record {
    handed = does.2.entry ∷ [];
    gained = does.2.gained;
    run = subst (λ (n : Phase L C). RunSoFar state start_at s p w (does.2.entry ∷ []) n)
        (sym does.1) (record {
          tells = run.tells;
          order = run.order;
          untouched = run.untouched;
          going = run.going;
          calm = tt;
          holds = returned_ends state start_at s p w link lease keep outcome does.2.entry does.0
              run.holds.0 does.2.hands run.holds.1;
        });
    refused = ap (λ (xs : List AttemptRecord). faults_told xs)
        (sym (tries_before (tries_in lease) does.0 does.2.hands.attempt
        does.2.hands.attempts_are))
        ∙ ap (λ (n : Phase L C). faults_before (does.2.entry ∷ []) n) (sym does.1);
    offered = offered_back start_at link lease does.2.entry does.0 does.2.hands.attempt
        does.2.hands.is_link does.2.hands.attempts_are
        ∙ ap (λ (n : Phase L C). offers_before start_at (does.2.entry ∷ []) n) (sym does.1);
    uses = λ n uses. subst
        (λ (k : Phase L C). PhaseUses state start_at n (does.2.entry ∷ []) k) (sym does.1)
        (subst (λ (l : L). LinkUses state start_at n l) (sym does.2.hands.is_link) uses);
    bounded = λ tasks ends client ahead counts. subst
        (λ (k : Phase L C).
        PhaseCounts state start_at tasks ends s client ahead (does.2.entry ∷ []) k) (sym does.1)
        (of_attempt state start_at tasks ends most_sides s client link lease does.2.entry does.0
        does.2.hands.attempt does.2.hands.is_link does.2.hands.attempts_are counts);
  }
  settle_run s p w (Ended outcome attempts) settled before after does run =
      stays s p w (Ended outcome attempts) settled before after does.0 does.1 refl run

  -- a phase from which no link goes back stays
  settles_same : (next settled : Phase L C) (before after : Option (List (Returned L)))
      → Settles next before after settled → is_closing next ≡ false
      → (settled ≡ next) × (after ≡ before)
  settles_same ReadHead settled before after does shut = does
  settles_same (Connect context session tries) settled before after does shut = does
  settles_same (Unlinked context session attempts error) settled before after does shut = does
  settles_same (Prepare context session link lease) settled before after does shut = does
  settles_same (Relay a) settled before after does shut = does
  settles_same (Broken context session link lease keep e) settled before after does shut = does
  settles_same (Again context session link lease keep e) settled before after does shut =
      absurd (true≢false shut)
  settles_same (Fail link lease keep session e) settled before after does shut =
      absurd (true≢false shut)
  settles_same (Close link lease keep outcome) settled before after does shut =
      absurd (true≢false shut)
  settles_same (Answer session owed attempts) settled before after does shut = does
  settles_same (Ended outcome attempts) settled before after does shut = does

  -- another attempt follows, whose link was to be handed back
  record GoesAgain (next settled : Phase L C) : Type 0 where
    context : C
    session : Box HttpSession
    link : L
    lease : Lease
    keep : Bool
    e : Error
    is : next ≡ Again context session link lease keep e
    attempts : List AttemptRecord
    settles : settled ≡ Connect context session attempts
    attempt : AttemptRecord
    are : attempts ≡ tries_in lease ++ attempt ∷ []

  -- one that has not ended stays so, or its client is owed an answer then, or another attempt
  -- follows
  settles_live : (next settled : Phase L C) (before after : Option (List (Returned L)))
      → Settles next before after settled → is_over next ≡ false
      → (settled ≡ next) ⊎ ((OwesAnswer next × OwesAnswer settled) ⊎ GoesAgain next settled)
  settles_live ReadHead settled before after does going = inl does.0
  settles_live (Connect context session tries) settled before after does going = inl does.0
  settles_live (Unlinked context session attempts error) settled before after does going =
      inl does.0
  settles_live (Prepare context session link lease) settled before after does going = inl does.0
  settles_live (Relay a) settled before after does going = inl does.0
  settles_live (Broken context session link lease keep e) settled before after does going =
      inl does.0
  settles_live (Again context session link lease keep e) settled before after does going =
      inr (inr (record {
        context = context;
        session = session;
        link = link;
        lease = lease;
        keep = keep;
        e = e;
        is = refl;
        attempts = does.0;
        settles = does.1;
        attempt = does.2.hands.attempt;
        are = does.2.hands.attempts_are;
      }))
  settles_live (Fail link lease keep session e) settled before after does going =
      inr (inl (
        tt,
        owes_settled state start_at (Fail link lease keep session e) settled before after
            does tt,
      ))
  settles_live (Close link lease keep outcome) settled before after does going =
      absurd (true≢false going)
  settles_live (Answer session owed attempts) settled before after does going = inl does.0
  settles_live (Ended outcome attempts) settled before after does going =
      absurd (true≢false going)

  -- a phase from which no link goes back is no other one
  again_else : (k : Phase L C) → is_closing k ≡ false → (context : C) (session : Box HttpSession)
      (link : L) (lease : Lease) (keep : Bool) (e : Error)
      → k ≡ Again context session link lease keep e → ⊥
  again_else k shut context session link lease keep e is =
      true≢false (sym (ap (λ (n : Phase L C). is_closing n) is) ∙ shut)

  -- a turn that moved and owes the client an answer moved whatever it owes it by
  owes_moved : (log : List LogEntry) (w x : World) (phase next settled : Phase L C)
      → OwesAnswer next → OwesAnswer settled → HasMoved state start_at log w x phase next
      → HasMoved state start_at log w x phase settled
  owes_moved log w x ReadHead next settled owes owes' moved = inr (owing settled owes')
    where
      owing : (k : Phase L C) → OwesAnswer k → is_reading_head k ≡ false
      owing ReadHead o = absurd o
      owing (Connect context session tries) o = refl
      owing (Unlinked context session attempts error) o = refl
      owing (Prepare context session link lease) o = refl
      owing (Relay a) o = refl
      owing (Broken context session link lease keep e) o = refl
      owing (Again context session link lease keep e) o = absurd o
      owing (Fail link lease keep session e) o = refl
      owing (Close link lease keep outcome) o = refl
      owing (Answer session owed attempts) o = refl
      owing (Ended outcome attempts) o = refl
  owes_moved log w x (Connect context session tries) next settled owes owes' moved =
      inr (inr (inr owes'))
  owes_moved log w x (Unlinked context session attempts error) next settled owes owes' moved = owes'
  owes_moved log w x (Prepare context session link lease) next settled owes owes' moved = inr owes'
  owes_moved log w x (Relay a) next settled owes owes' moved = inr owes'
  owes_moved log w x (Broken context session link lease keep e) next settled owes owes' moved =
      inl owes'
  owes_moved log w x (Again context session link lease keep e) next settled owes owes' moved =
      absurd (none next owes moved)
    where
      none : (k : Phase L C) → OwesAnswer k → IsAgain state start_at (tries_in lease) k → ⊥
      none ReadHead o i = i
      none (Connect context session tries) o i = o
      none (Unlinked context session attempts error) o i = i
      none (Prepare context session link lease) o i = i
      none (Relay a) o i = i
      none (Broken context session link lease keep e) o i = i
      none (Again context session link lease keep e) o i = o
      none (Fail link lease keep session e) o i = i
      none (Close link lease keep outcome) o i = i
      none (Answer session owed attempts) o i = i
      none (Ended outcome attempts) o i = i
  owes_moved log w x (Fail link lease keep session e) next settled owes owes' moved = owes'
  owes_moved log w x (Close link lease keep outcome) next settled owes owes' moved = absurd moved
  owes_moved log w x (Answer session owed attempts) next settled owes owes' moved = moved
  owes_moved log w x (Ended outcome attempts) next settled owes owes' moved = absurd moved

  -- what is again behind those attempts is still, once its link was handed back
  again_settled : (tries : List AttemptRecord) (next settled : Phase L C) → GoesAgain next settled
      → IsAgain state start_at tries next → IsAgain state start_at tries settled
  again_settled tries next settled g again =
      let same : tries_in g.lease ≡ tries =
      subst (λ (k : Phase L C). IsAgain state start_at tries k) g.is again in
      subst (λ (k : Phase L C). IsAgain state start_at tries k) (sym g.settles) (
        g.attempt,
        g.are ∙ ap (λ (xs : List AttemptRecord). xs ++ g.attempt ∷ []) same,
      )

  -- a turn that moved so that another attempt follows moved whatever its link is
  again_moved : (log : List LogEntry) (w x : World) (phase next settled : Phase L C)
      → GoesAgain next settled → HasMoved state start_at log w x phase next
      → HasMoved state start_at log w x phase settled
  again_moved log w x ReadHead next settled g moved =
      inr (ap (λ (k : Phase L C). is_reading_head k) g.settles)
  again_moved log w x (Connect context session tries) next settled g (inl linked) =
      absurd (true≢false (sym linked ∙ ap (λ (k : Phase L C). is_linked k) g.is))
  again_moved log w x (Connect context session tries) next settled g (inr (inl on)) =
      absurd (again_else (Connect on.context on.session (tries ++ on.attempt ∷ [])) refl g.context
      g.session g.link g.lease g.keep g.e (sym on.again ∙ g.is))
  again_moved log w x (Connect context session tries) next settled g (inr (inr (inl on))) =
      absurd (again_else (Connect on.context on.session tries) refl g.context g.session g.link
      g.lease g.keep g.e (sym on.goes_on ∙ g.is))
  again_moved log w x (Connect context session tries) next settled g (inr (inr (inr owes))) =
      absurd (subst (λ (k : Phase L C). OwesAnswer k) g.is owes)
  again_moved log w x (Unlinked context session attempts error) next settled g moved =
      absurd (subst (λ (k : Phase L C). OwesAnswer k) g.is moved)
  again_moved log w x (Prepare context session link lease) next settled g (inl relays) =
      absurd (true≢false (sym relays ∙ ap (λ (k : Phase L C). is_relaying k) g.is))
  again_moved log w x (Prepare context session link lease) next settled g (inr owes) =
      absurd (subst (λ (k : Phase L C). OwesAnswer k) g.is owes)
  again_moved log w x (Relay a) next settled g (inl moved) =
      absurd (again_else (Relay moved.1.held) refl g.context g.session g.link g.lease g.keep g.e
      (sym moved.1.goes_on ∙ g.is))
  again_moved log w x (Relay a) next settled g (inr owes) =
      absurd (subst (λ (k : Phase L C). OwesAnswer k) g.is owes)
  again_moved log w x (Broken context session link lease keep e) next settled g (inl owes) =
      absurd (subst (λ (k : Phase L C). OwesAnswer k) g.is owes)
  again_moved log w x (Broken context session link lease keep e) next settled g (inr again) =
      inr (again_settled (tries_in lease) next settled g again)
  again_moved log w x (Again context session link lease keep e) next settled g again =
      again_settled (tries_in lease) next settled g again
  again_moved log w x (Fail link lease keep session e) next settled g moved =
      absurd (subst (λ (k : Phase L C). OwesAnswer k) g.is moved)
  again_moved log w x (Close link lease keep outcome) next settled g moved = absurd moved
  again_moved log w x (Answer session owed attempts) next settled g moved = moved
  again_moved log w x (Ended outcome attempts) next settled g moved = absurd moved

  -- the cause of a turn is that of the step
  pub settled_cause : (log : List LogEntry) (w x : World) (phase next settled : Phase L C)
      (did : RunStep) (before after : Option (List (Returned L)))
      → Settles next before after settled → is_over next ≡ is_end did → HandsOn next did
      → HasCause state start_at log w x phase next did
      → HasCause state start_at log w x phase settled did
  settled_cause log w x phase next settled step.Moved before after does over waits cause =
      elim (settles_live next settled before after does over) [
        | inl same ↦ subst (λ (n : Phase L C). HasCause state start_at log w x phase n step.Moved)
            (sym same) cause
        | inr (inl owes) ↦ owes_moved log w x phase next settled owes.0 owes.1 cause
        | inr (inr again) ↦ again_moved log w x phase next settled again cause
      ]
  settled_cause log w x phase next settled (step.Waited pause) before after does over waits cause =
      subst (λ (n : Phase L C). HasCause state start_at log w x phase n (step.Waited pause))
      (sym (settles_same next settled before after does (unclosed (is_closing next) refl)).0) cause
    where
      unclosed : (b : Bool) → is_closing next ≡ b → is_closing next ≡ false
      unclosed false is = is
      unclosed true is = elim (waits is) [ inl m ↦ absurd (cc) | inr m ↦ absurd (cc) ]
  settled_cause log w x phase next settled step.Ended before after does over waits cause = tt

  -- a turn of a request that has not ended, settled, is a step
  live_on : (s s' : Start) (p : Passed) (x : World) (phase next settled : Phase L C)
      (before mid after : Option (List (Returned L))) (told_before told_after : Option (List Fault))
      (had has : Option (List Offer)) → is_over phase ≡ false
      → Advances state start_at s' x next → mid ≡ before → Settles next mid after settled
      → Gains told_before (faults_of_turn phase next) told_after
      → Takes had (offers_of_turn start_at phase next) has
      → offers_before start_at [] phase ++ offers_of_turn start_at phase next
      ≡ offers_before start_at [] next
      → faults_before [] phase ++ faults_of_turn phase next ≡ faults_before [] next
      → (client : LinkState) (ahead : List ℕ) (was now extra : Work) → now ≡ added_work was extra
      → ((n : ℕ) → PhaseUses state start_at n [] phase
      → TurnCounts state start_at n client x.client extra.used [] next)
      → ((tasks ends : ℕ)
      → PhaseCounts {C = C} state start_at tasks ends s client ahead [] phase
      → TurnedCounts {C = C} state start_at (extra.moved + tasks) (extra.ended + ends) s' x.client
      x.ahead [] next)
      → GoesOn state start_at s s' p x [] before after told_before told_after had has client ahead
      was now phase settled
  live_on s s' p x phase next settled before mid after told_before told_after had has live turn kept
      does told takes carries tells client ahead was now extra adds uses bounds =
      let done = settle_run s' turn.passed x next settled mid after does turn.run in
      record {
        passed = turn.passed;
        handed = done.handed;
        gained = done.gained ∙ ap (λ (t : Option (List (Returned L))). more t done.handed) kept;
        run = done.run;
        refused = record {
          faults = faults_of_turn phase next;
          gained = told;
          are = tells ∙ done.refused;
        };
        offered = record {
          taken = offers_of_turn start_at phase next;
          takes = takes;
          are = carries ∙ done.offered;
        };
        uses = λ n had. record {
          used = extra.used;
          turn = settled_counts n client x.client extra.used [] done.handed next settled
              (λ k. done.uses k) (uses n had);
          adds = ap (λ (w : Work). w.used) adds;
        };
        work = extra;
        adds = adds;
        bounded = λ tasks ends counted. done.bounded (extra.moved + tasks) (extra.ended + ends)
            x.client x.ahead (bounds tasks ends counted);
        rested = λ over. absurd (true≢false (sym over ∙ live));
      }

  -- a request that has ended stays as it is
  ended_on : (s : Start) (p : Passed) (own : List (Returned L)) (w x : World) (outcome : Outcome)
      (attempts : List AttemptRecord) (next settled : Phase L C) (did : RunStep)
      (before mid after : Option (List (Returned L))) (told_before told_after : Option (List Fault))
      (had has : Option (List Offer))
      → Rests {L = L} {C = C} w x (Ended outcome attempts) next did → mid ≡ before
      → Settles next mid after settled → Gains told_before [] told_after → Takes had [] has
      → RunSoFar {C = C} state start_at s p w own (Ended outcome attempts)
      → (client : LinkState) (ahead : List ℕ) (was now extra : Work) → now ≡ added_work was extra
      → ((n : ℕ) → PhaseUses {C = C} state start_at n own (Ended outcome attempts)
      → TurnCounts state start_at n client x.client extra.used own next)
      → ((tasks ends : ℕ)
      → PhaseCounts {C = C} state start_at tasks ends s client ahead own (Ended outcome attempts)
      → TurnedCounts {C = C} state start_at (extra.moved + tasks) (extra.ended + ends) s x.client
      x.ahead own next)
      → GoesOn {C = C} state start_at s s p x own before after told_before told_after had has client
      ahead was now (Ended outcome attempts) settled
  ended_on s p own w x outcome attempts next settled did before mid after told_before told_after
      had has rests kept does told takes run client ahead was now extra adds uses bounds =
      let stayed = subst (λ (k : Phase L C). Settles k mid after settled) rests.0 does in
      record {
        passed = p;
        handed = [];
        gained = stayed.1 ∙ kept ∙ more-nil before;
        run = subst (λ (y : World). RunSoFar state start_at s p y (own ++ []) settled)
            (sym rests.2)
            (subst (λ (rs : List (Returned L)). RunSoFar state start_at s p w rs settled)
            (sym (append-nil own))
            (subst (λ (k : Phase L C). RunSoFar state start_at s p w own k) (sym stayed.0) run));
        refused = record {
          faults = [];
          gained = told;
          are = append-nil (faults_for own attempts)
              ∙ ap (λ (rs : List (Returned L)). faults_for rs attempts) (sym (append-nil own))
              ∙ ap (λ (k : Phase L C). faults_before (own ++ []) k) (sym stayed.0);
        };
        offered = record {
          taken = [];
          takes = takes;
          are = append-nil (offers_before {C = C} start_at own (Ended outcome attempts))
              ∙ ap (λ (rs : List (Returned L)).
              offers_before {C = C} start_at rs (Ended outcome attempts)) (sym (append-nil own))
              ∙ ap (λ (k : Phase L C). offers_before start_at (own ++ []) k) (sym stayed.0);
        };
        uses = λ n had. record {
          used = extra.used;
          turn = settled_counts n client x.client extra.used own (own ++ []) next settled
              (λ k asked. subst (λ (rs : List (Returned L)). PhaseUses state start_at k rs settled)
              (sym (append-nil own))
              (subst (λ (q : Phase L C). PhaseUses state start_at k own q)
              (rests.0 ∙ sym stayed.0) asked)) (uses n had);
          adds = ap (λ (w : Work). w.used) adds;
        };
        work = extra;
        adds = adds;
        bounded = λ tasks ends counted. subst
            (λ (rs : List (Returned L)). PhaseCounts state start_at (extra.moved + tasks)
            (extra.ended + ends) s x.client x.ahead rs settled) (sym (append-nil own))
            (subst (λ (k : Phase L C). PhaseCounts state start_at (extra.moved + tasks)
            (extra.ended + ends) s x.client x.ahead own k) (sym stayed.0)
            (subst (λ (k : Phase L C). TurnedCounts state start_at (extra.moved + tasks)
            (extra.ended + ends) s x.client x.ahead own k) rests.0 (bounds tasks ends counted)));
        rested = λ over. refl;
      }

  -- a request that is to be closed is ended
  closed_on : (s : Start) (p : Passed) (w x : World) (link : L) (lease : Lease) (keep : Bool)
      (outcome : Outcome) (next settled : Phase L C) (did : RunStep)
      (before mid after : Option (List (Returned L))) (told_before told_after : Option (List Fault))
      (had has : Option (List Offer))
      → Rests w x (Close link lease keep outcome) next did → mid ≡ before
      → Settles next mid after settled → Gains told_before [] told_after → Takes had [] has
      → RunSoFar {C = C} state start_at s p w [] (Close link lease keep outcome)
      → (client : LinkState) (ahead : List ℕ) (was now extra : Work) → now ≡ added_work was extra
      → ((n : ℕ) → PhaseUses {C = C} state start_at n [] (Close link lease keep outcome)
      → TurnCounts state start_at n client x.client extra.used [] next)
      → GoesOn state start_at s s p x [] before after told_before told_after had has client ahead
      was now (Close link lease keep outcome) settled
  closed_on s p w x link lease keep outcome next settled did before mid after told_before told_after
      had has rests kept does told takes run client ahead was now extra adds uses =
      let done = settle_run s p w (Close link lease keep outcome) settled mid after
      (subst (λ (k : Phase L C). Settles k mid after settled) rests.0 does) run in
      record {
        passed = p;
        handed = done.handed;
        gained = done.gained ∙ ap (λ (t : Option (List (Returned L))). more t done.handed) kept;
        run = subst (λ (y : World). RunSoFar state start_at s p y done.handed settled)
            (sym rests.2) done.run;
        refused = record {
          faults = [];
          gained = told;
          are = append-nil (faults_told (tries_in lease)) ∙ done.refused;
        };
        offered = record {
          taken = [];
          takes = takes;
          are = append-nil
              (offers_before {C = C} start_at [] (Close link lease keep outcome)) ∙ done.offered;
        };
        uses = λ n had. record {
          used = extra.used;
          turn = settled_counts n client x.client extra.used [] done.handed next settled
              (λ k asked. done.uses k
              (subst (λ (q : Phase L C). PhaseUses state start_at k [] q) rests.0 asked))
              (uses n had);
          adds = ap (λ (w : Work). w.used) adds;
        };
        work = extra;
        adds = adds;
        bounded = λ tasks ends counted. absurd counted;
        rested = λ over. refl;
      }

  -- a turn of a phase that answers, settled, is a step
  answer_step : (s s' : Start) (p : Passed) (own : List (Returned L)) (x : World)
      (session : Box HttpSession) (owes : Owed) (attempts : List AttemptRecord)
      (next settled : Phase L C) (before mid after : Option (List (Returned L)))
      (told_before told_after : Option (List Fault)) (had has : Option (List Offer))
      → AnswersOn state start_at s' x own attempts next → mid ≡ before
      → Settles next mid after settled → Gains told_before [] told_after → Takes had [] has
      → (client : LinkState) (ahead : List ℕ) (was now extra : Work) → now ≡ added_work was extra
      → ((n : ℕ) → PhaseUses {C = C} state start_at n own (Answer session owes attempts)
      → TurnCounts state start_at n client x.client extra.used own next)
      → ((tasks ends : ℕ)
      → PhaseCounts {C = C} state start_at tasks ends s client ahead own
      (Answer session owes attempts)
      → TurnedCounts {C = C} state start_at (extra.moved + tasks) (extra.ended + ends) s' x.client
      x.ahead own next)
      → GoesOn state start_at s s' p x own before after told_before told_after had has client ahead
      was now (Answer session owes attempts) settled
  answer_step s s' p own x session owes attempts next settled before mid after told_before
      told_after had has turn kept does told takes client ahead was now extra adds uses bounds =
      let stayed = settles_same next settled mid after does
      (unlinked_open state start_at next turn.unlinked) in
      let none = unlinked_items state start_at next turn.unlinked in
      record {
        passed = turn.advances.passed;
        handed = [];
        gained = stayed.1 ∙ kept ∙ more-nil before;
        run = subst
            (λ (rs : List (Returned L)).
            RunSoFar state start_at s' turn.advances.passed x rs settled)
            (sym (append-nil own))
            (subst (λ (k : Phase L C). RunSoFar state start_at s' turn.advances.passed x own k)
            (sym stayed.0) turn.advances.run);
        refused = record {
          faults = [];
          gained = told;
          are = append-nil (faults_for own attempts)
              ∙ ap (λ (rs : List (Returned L)). faults_for rs attempts) (sym (append-nil own))
              ∙ ap (λ (l : List AttemptRecord). faults_for (own ++ []) l)
              (sym (ap (λ (k : Phase L C). attempts_in k) stayed.0 ∙ turn.same));
        };
        offered = record {
          taken = [];
          takes = takes;
          are = append-nil (offers_before {C = C} start_at own (Answer session owes attempts))
              ∙ answer_offers start_at own session owes attempts next none turn.same
              ∙ ap (λ (k : Phase L C). offers_before start_at own k) (sym stayed.0)
              ∙ ap (λ (rs : List (Returned L)). offers_before start_at rs settled)
              (sym (append-nil own));
        };
        uses = λ n had. record {
          used = extra.used;
          turn = settled_counts n client x.client extra.used own (own ++ []) next settled
              (λ k asked. subst (λ (rs : List (Returned L)). PhaseUses state start_at k rs settled)
              (sym (append-nil own))
              (subst (λ (q : Phase L C). PhaseUses state start_at k own q) (sym stayed.0) asked))
              (uses n had);
          adds = ap (λ (w : Work). w.used) adds;
        };
        work = extra;
        adds = adds;
        bounded = λ tasks ends counted. subst
            (λ (rs : List (Returned L)). PhaseCounts state start_at (extra.moved + tasks)
            (extra.ended + ends) s' x.client x.ahead rs settled) (sym (append-nil own))
            (subst (λ (k : Phase L C). PhaseCounts state start_at (extra.moved + tasks)
            (extra.ended + ends) s' x.client x.ahead own k) (sym stayed.0)
            (open_counts state start_at (extra.moved + tasks) (extra.ended + ends) s' x.client
            x.ahead
            own next (unlinked_open state start_at next turn.unlinked)
            (bounds tasks ends counted)));
        rested = λ over. absurd (true≢false (sym over));
      }

  -- a turn behind which another attempt follows, settled, is a step
  again_on : (s s' : Start) (x : World) (phase next settled : Phase L C)
      (before mid after : Option (List (Returned L))) (told_before told_after : Option (List Fault))
      (had has : Option (List Offer)) → is_over phase ≡ false
      → RepeatsOn state start_at s' x next → mid ≡ before → Settles next mid after settled
      → Gains told_before (faults_of_turn phase next) told_after
      → Takes had (offers_of_turn start_at phase next) has
      → offers_before start_at [] phase ++ offers_of_turn start_at phase next
      ≡ offers_before start_at [] next
      → faults_before [] phase ++ faults_of_turn phase next ≡ faults_before [] next
      → (client : LinkState) (ahead : List ℕ) (was now extra : Work) → now ≡ added_work was extra
      → ((n : ℕ) → PhaseUses state start_at n [] phase
      → TurnCounts state start_at n client x.client extra.used [] next)
      → ((tasks ends : ℕ)
      → PhaseCounts {C = C} state start_at tasks ends s client ahead [] phase
      → TurnedCounts {C = C} state start_at (extra.moved + tasks) (extra.ended + ends) s' x.client
      x.ahead [] next)
      → BeginsAgain state start_at s s' x [] before after told_before told_after had has client
      ahead was now phase settled
  again_on s s' x phase next settled before mid after told_before told_after had has live r kept
      does told takes carries tells client ahead was now extra adds uses bounds =
      let back = (subst (λ (k : Phase L C). Settles k mid after settled) r.is does).2 in
      let attempts = (subst (λ (k : Phase L C). Settles k mid after settled) r.is does).0 in
      let is : settled ≡ Connect r.context r.session attempts =
      (subst (λ (k : Phase L C). Settles k mid after settled) r.is does).1 in
      let leg = leg_of state start_at s' x next r back.entry attempts back.hands in
      let long : length attempts ≡ 1 + length (tries_in r.lease) =
      length_behind (tries_in r.lease) attempts back.hands.attempt back.hands.attempts_are in
      record {
        going = live;
        none = refl;
        leg = leg;
        is_leg = is_leg_of state start_at s' x next r back.entry attempts back.hands;
        begins = begins_of state start_at s' x next r back.entry attempts back.hands;
        stands = refl;
        gained = back.gained
            ∙ ap (λ (t : Option (List (Returned L))). more t (back.entry ∷ [])) kept;
        context = r.context;
        session = r.session;
        connects = is ∙ ap (λ (xs : List AttemptRecord). Connect r.context r.session xs)
            back.hands.attempts_are;
        passed = anew state start_at s' x next r back.entry attempts back.hands;
        run = subst (λ (k : Phase L C). RunSoFar state start_at (rebased s' leg)
            (anew state start_at s' x next r back.entry attempts back.hands) x [] k) (sym is)
            (run_again state start_at s' x next r back.entry attempts back.hands);
        refused = record {
          faults = faults_of_turn phase next;
          gained = told;
          are = tells ∙ ap (λ (k : Phase L C). faults_before [] k) r.is
              ∙ sym (unfaulted_same (tries_in r.lease) attempts back.hands.attempt
              back.hands.attempts_are back.hands.unfaulted)
              ∙ ap (λ (k : Phase L C). faults_before [] k) (sym is);
        };
        taken = offers_of_turn start_at phase next;
        takes = takes;
        offered = carries ∙ ap (λ (k : Phase L C). offers_before start_at [] k) r.is
            ∙ ap
            (λ (l : L). map Err (faults_told (tries_in r.lease)) ++ Ok (handed (start_at l)) ∷ [])
            (sym back.hands.is_link);
        uses = λ n had.
            let turn = subst (λ (k : Phase L C). TurnCounts state start_at n client x.client
            extra.used [] k) r.is (uses n had) in
            record {
              of_client = turn.of_client;
              of_own = turn.of_own;
              client_rose = turn.client_rose;
              own_rose = subst (λ (l : L). LinkUses state start_at (turn.of_own + n) l)
                  (sym back.hands.is_link) turn.own_rose;
              adds = ap (λ (k : Work). k.used) adds
                  ∙ ap (λ (k : ℕ). min (was.used + k) last_count) turn.all;
            };
        unused = subst (λ (k : Phase L C). PhaseUses state start_at 0 [] k) (sym is) refl;
        work = extra;
        adds = adds;
        bounded = λ tasks ends counted. subst (λ (l : L).
            IsWithin (extra.moved + tasks) (extra.ended + ends)
            (sides_before (1 + length (tries_in r.lease))) s' x.client (LinkGave state start_at l))
            (sym back.hands.is_link)
            (subst (λ (k : Phase L C). TurnedCounts state start_at (extra.moved + tasks)
            (extra.ended + ends) s' x.client x.ahead [] k) r.is (bounds tasks ends counted));
        counts = subst (λ (k : Phase L C). PhaseCounts state start_at 0
            (2 + length (tries_in r.lease)) (rebased s' leg) x.client x.ahead [] k) (sym is) (
              refl,
              omega (arith, long),
            );
      }

  -- a step takes the run so far on
  pub step_on : (s s' : Start) (p : Passed) (own : List (Returned L)) (w x : World)
      (phase next settled : Phase L C) (did : RunStep)
      (before mid after : Option (List (Returned L))) (told_before told_after : Option (List Fault))
      (had has : Option (List Offer))
      → (RunSoFar state start_at s p w own phase → TurnOf state start_at s' x own phase next)
      → (is_over phase ≡ true → s' ≡ s)
      → Rests w x phase next did → mid ≡ before → Settles next mid after settled
      → Gains told_before (faults_of_turn phase next) told_after
      → Takes had (offers_of_turn start_at phase next) has
      → (is_over phase ≡ false
      → offers_before start_at [] phase ++ offers_of_turn start_at phase next
      ≡ offers_before start_at [] next)
      → (is_over phase ≡ false
      → faults_before [] phase ++ faults_of_turn phase next ≡ faults_before [] next)
      → RunSoFar state start_at s p w own phase
      → (client : LinkState) (ahead : List ℕ) (was now extra : Work) → now ≡ added_work was extra
      → ((n : ℕ) → PhaseUses state start_at n own phase
      → TurnCounts state start_at n client x.client extra.used own next)
      → ((tasks ends : ℕ)
      → PhaseCounts {C = C} state start_at tasks ends s client ahead own phase
      → TurnedCounts {C = C} state start_at (extra.moved + tasks) (extra.ended + ends) s' x.client
      x.ahead own next)
      → StepsOn state start_at s s' p x own before after told_before told_after had has client ahead
      was now phase settled
  step_on s s' p [] w x ReadHead next settled did before mid after t u h k
      turn same rests kept does told takes carries tells run c i j o m adds uses bounds =
      StepsOn.goes (live_on s s' p x ReadHead next settled before mid after t u h k refl
      (turn run) kept does told takes (carries refl) (tells refl) c i j o m adds uses bounds)
  step_on s s' p [] w x (Connect context session tries) next settled did before mid after t u h k
      turn same rests kept does told takes carries tells run c i j o m adds uses bounds =
      StepsOn.goes (live_on s s' p x (Connect context session tries) next settled before mid after t
      u h k refl (turn run) kept does told takes (carries refl) (tells refl) c i j o m adds uses
      bounds)
  step_on s s' p [] w x (Unlinked context session attempts error) next settled did before mid after
      t u h k turn same rests kept does told takes carries tells run c i j o m adds uses bounds =
      StepsOn.goes (live_on s s' p x (Unlinked context session attempts error) next settled before
      mid after t u h k refl (turn run) kept does told takes (carries refl) (tells refl) c i j o m
      adds uses bounds)
  step_on s s' p [] w x (Prepare context session link lease) next settled did before mid after t u h
      k turn same rests kept does told takes carries tells run c i j o m adds uses bounds =
      StepsOn.goes (live_on s s' p x (Prepare context session link lease) next settled before mid
      after t u h k refl (turn run) kept does told takes (carries refl) (tells refl) c i j o m adds
      uses bounds)
  step_on s s' p [] w x (Relay a) next settled did before mid after t u h k
      turn same rests kept does told takes carries tells run c i j o m adds uses bounds =
      StepsOn.goes (live_on s s' p x (Relay a) next settled before mid after t u h k refl
      (turn run) kept does told takes (carries refl) (tells refl) c i j o m adds uses bounds)
  step_on s s' p [] w x (Broken context session link lease keep e) next settled did before mid after
      t u h k turn same rests kept does told takes carries tells run c i j o m adds uses bounds =
      elim (turn run) [
        | inl goes ↦ StepsOn.goes (live_on s s' p x (Broken context session link lease keep e) next
            settled before mid after t u h k refl goes kept does told takes (carries refl)
            (tells refl) c i j o m adds uses bounds)
        | inr repeats ↦ StepsOn.again (again_on s s' x
            (Broken context session link lease keep e) next settled before mid after t u h k refl
            repeats kept does told takes (carries refl) (tells refl) c i j o m adds uses bounds)
      ]
  step_on s s' p [] w x (Again context session link lease keep e) next settled did before mid after
      t u h k turn same rests kept does told takes carries tells run c i j o m adds uses bounds =
      absurd run.holds
  step_on s s' p [] w x (Fail link lease keep session e) next settled did before mid after t u h k
      turn same rests kept does told takes carries tells run c i j o m adds uses bounds =
      StepsOn.goes (live_on s s' p x (Fail link lease keep session e) next settled before mid after
      t u h k refl (turn run) kept does told takes (carries refl) (tells refl) c i j o m adds uses
      bounds)
  step_on s s' p [] w x (Close link lease keep outcome) next settled did before mid after t u h k
      turn same rests kept does told takes carries tells run c i j o m adds uses bounds =
      subst (λ (r : Start). StepsOn {C = C} state start_at s r p x [] before after t u h k c i j o
      (Close link lease keep outcome) settled) (sym (same refl))
      (StepsOn.goes (closed_on s p w x link lease keep outcome next settled did before mid after t u
      h k rests kept does told takes run c i j o m adds uses))
  step_on s s' p (r ∷ own) w x ReadHead next settled did before mid after t u
      h k turn same rests kept does told takes carries tells run c i j o m adds uses bounds =
      absurd run.holds
  step_on s s' p (r ∷ own) w x (Connect context session tries) next settled did before mid after t u
      h k turn same rests kept does told takes carries tells run c i j o m adds uses bounds =
      absurd run.holds
  step_on s s' p (r ∷ own) w x (Unlinked context session attempts error) next settled did before mid
      after t u h k turn same rests kept does told takes carries tells run c i j o m adds uses
      bounds =
      absurd run.holds
  step_on s s' p (r ∷ own) w x (Prepare context session link lease) next settled did before mid
      after t u h k turn same rests kept does told takes carries tells run c i j o m adds uses
      bounds =
      absurd run.holds
  step_on s s' p (r ∷ own) w x (Relay a) next settled did before mid after t u
      h k turn same rests kept does told takes carries tells run c i j o m adds uses bounds =
      absurd run.holds
  step_on s s' p (r ∷ own) w x (Broken context session link lease keep e) next settled did before
      mid after t u h k turn same rests kept does told takes carries tells run c i j o m adds uses
      bounds =
      absurd run.holds
  step_on s s' p (r ∷ own) w x (Again context session link lease keep e) next settled did before mid
      after t u h k turn same rests kept does told takes carries tells run c i j o m adds uses
      bounds =
      absurd run.holds
  step_on s s' p (r ∷ own) w x (Fail link lease keep session e) next settled did before mid after t
      u h k turn same rests kept does told takes carries tells run c i j o m adds uses bounds =
      absurd run.holds
  step_on s s' p (r ∷ own) w x (Close link lease keep outcome) next settled did before mid after t u
      h k turn same rests kept does told takes carries tells run c i j o m adds uses bounds =
      absurd run.holds
  step_on s s' p own w x (Answer session owes attempts) next settled did before mid after t u h k
      turn same rests kept does told takes carries tells run c i j o m adds uses bounds =
      StepsOn.goes (answer_step s s' p own x session owes attempts next settled before mid after t u
      h k (turn run) kept does told takes c i j o m adds uses bounds)
  step_on s s' p own w x (Ended outcome attempts) next settled did before mid after t u h k
      turn same rests kept does told takes carries tells run c i j o m adds uses bounds =
      let back : (r : Start) → r ≡ s → ((tasks ends : ℕ)
      → PhaseCounts {C = C} state start_at tasks ends s c i own (Ended outcome attempts)
      → TurnedCounts {C = C} state start_at (m.moved + tasks) (m.ended + ends) r x.client x.ahead
      own next)
      → StepsOn {C = C} state start_at s r p x own before after t u h k c i j o
      (Ended outcome attempts) settled =
      λ r is counts. subst (λ (q : Start). StepsOn {C = C} state start_at s q p x own before after t
      u h k c i j o (Ended outcome attempts) settled) (sym is)
      (StepsOn.goes (ended_on s p own w x outcome attempts next settled did before mid after t u h k
      rests kept does told takes run c i j o m adds uses
      (λ tasks ends had. subst (λ (q : Start). TurnedCounts {C = C} state start_at (m.moved + tasks)
      (m.ended + ends) q x.client x.ahead own next) is (counts tasks ends had)))) in
      back s' (same refl) bounds

  -- an attempt in which all that can be done asks a silent link
  quiet_over : (s : Start) (p : Passed) (w : World) (a : Box (Attempt L C))
      → IsRelaying state start_at s p w a.value → IsStalled {C = C} state start_at w (Relay a)
      → IsQuietExchange state start_at s p w (link_of a.value.exchange)
  quiet_over s p w a holds stalled = record {
    exchange = a.value.exchange;
    is_link = refl;
    head = holds.head;
    sent = holds.sent;
    relayable = holds.relayable;
    sends = holds.sends;
    began = holds.began;
    under_way = subst (λ (r : Bool). IsUnderWay state start_at
        (origin_at s holds.head holds.sent r holds.began) p w.client w.ahead s.called
        a.value.exchange)
        (sym holds.leased.reused) holds.under_way;
    silent = stalled;
  }

  -- a request that gave its link up, or handed it back
  linked_end : (s : Start) (p : Passed) (w : World) (phase : Phase L C) (link : L) (lease : Lease)
      (keep : Bool) (before after : Option (List (Returned L))) (ending : Ending)
      (outcome : Outcome) → ending.outcome ≡ outcome
      → HandsBack link lease keep outcome before after ending.attempts
      → RunSoFar state start_at s p w [] phase → IsLeased s p (state link) (start_at link) lease
      → EndsLinked s p w (state link) (start_at link) keep (error_of outcome) outcome
      → ((r : Returned L) → r.link ≡ link → IsStalled state start_at w phase
      → IsQuiet state start_at s p w (r ∷ []))
      → attempts_in phase ≡ tries_in lease → items_held start_at phase ≡ handed (start_at link) ∷ []
      → ((n : ℕ) → PhaseUses state start_at n [] phase → LinkUses state start_at n link)
      → ((tasks ends : ℕ) → PhaseCounts state start_at tasks ends s w.client w.ahead [] phase
      → IsWithin tasks ends (most_sides (1 + length (tries_in lease))) s w.client
      (LinkGave state start_at link))
      → Ends state start_at s p w [] before after phase ending
  linked_end s p w phase link lease keep before after ending outcome is back run leased ends
      stalled none holds linked within = record {
        handed = back.entry ∷ [];
        gained = back.gained;
        ended = record {
          tells = run.tells;
          order = run.order;
          untouched = run.untouched;
          ends = subst
              (λ (o : Outcome). EndsReturned state start_at s p w back.entry ending.attempts o)
              (sym is)
              (returned_ends state start_at s p w link lease keep outcome back.entry ending.attempts
              leased back.hands ends);
        };
        refused = ap (λ (xs : List AttemptRecord). faults_told xs)
            (tries_before (tries_in lease) ending.attempts back.hands.attempt
            back.hands.attempts_are ∙ sym none);
        offered = sym (offered_back start_at link lease back.entry ending.attempts
            back.hands.attempt back.hands.is_link back.hands.attempts_are)
            ∙ sym (offers_are start_at phase (faults_told (tries_in lease))
            (handed (start_at link) ∷ [])
            (ap (λ (xs : List AttemptRecord). faults_told xs) none) holds);
        uses = λ n asked. subst (λ (l : L). LinkUses state start_at n l)
            (sym back.hands.is_link) (linked n asked);
        bounded = λ tasks ends counted. of_attempt state start_at tasks ends most_sides s w.client
            link lease back.entry ending.attempts back.hands.attempt back.hands.is_link
            back.hands.attempts_are (within tasks ends counted);
        quiet = λ limit still. stalled back.entry back.hands.is_link still;
      }

  -- a request that had no link gave up, behind those attempts
  unlinked_end : (s : Start) (p : Passed) (w : World) (phase : Phase L C)
      (attempts : List AttemptRecord) (before after : Option (List (Returned L))) (ending : Ending)
      → GivesUp attempts before after ending
      → RunSoFar state start_at s p w [] phase → IsUnsent p → AttemptsUnfinished s p w attempts
      → (IsStalled state start_at w phase → IsQuiet state start_at s p w [])
      → attempts_in phase ≡ attempts → items_held start_at phase ≡ []
      → ((n : ℕ) → PhaseUses state start_at n [] phase → OwnUses state start_at n [])
      → ((tasks ends : ℕ) → PhaseCounts state start_at tasks ends s w.client w.ahead [] phase
      → (tasks ≡ 0) × (ends ≤ 1 + length attempts))
      → Ends state start_at s p w [] before after phase ending
  unlinked_end s p w phase attempts before after ending gives run unsent so_far stalled made bare
      asked few =
      record {
        handed = [];
        gained = gives.same ∙ more-nil before;
        ended = record {
          tells = run.tells;
          order = run.order;
          untouched = run.untouched;
          ends = subst
              (λ (o : Outcome). EndsUnlinked s p w o × AttemptsUnlinked s p w ending.attempts o)
              (sym gives.limit) (
                unsent,
                subst (λ (l : List AttemptRecord). AttemptsUnfinished s p w l) (sym gives.made)
                    so_far,
              );
        };
        refused = ap (λ (l : List AttemptRecord). faults_told l) (gives.made ∙ sym made);
        offered = ap (λ (l : List AttemptRecord). offers_for start_at [] l) gives.made
            ∙ sym (offers_are start_at phase (faults_told attempts) []
            (ap (λ (xs : List AttemptRecord). faults_told xs) made) bare);
        uses = asked;
        bounded = λ tasks ends counted.
            let little = few tasks ends counted in
            record {
              came = p.came;
              got = [];
              client_gave = run.tells.came;
              own_gave = refl;
              tasks_within = omega (arith, little.0);
              ends_within = omega (
                arith,
                little.1,
                ap (λ (l : List AttemptRecord). length l) gives.made,
              );
            };
        quiet = λ limit still. stalled still;
      }

  -- a request that has ended
  ended_end : (s : Start) (p : Passed) (w : World) (own : List (Returned L)) (outcome : Outcome)
      (attempts : List AttemptRecord) (before after : Option (List (Returned L))) (ending : Ending)
      → EndsWith state start_at s p w own attempts outcome
      → ending.outcome ≡ outcome → ending.attempts ≡ attempts → after ≡ before
      → RunSoFar {C = C} state start_at s p w own (Ended outcome attempts)
      → Ends {C = C} state start_at s p w own before after (Ended outcome attempts) ending
  ended_end s p w own outcome attempts before after ending ends is same kept run = record {
    handed = [];
    gained = kept ∙ more-nil before;
    ended = record {
      tells = run.tells;
      order = run.order;
      untouched = run.untouched;
      ends = subst (λ (o : Outcome). EndsWith state start_at s p w (own ++ []) ending.attempts o)
          (sym is)
          (subst (λ (l : List AttemptRecord). EndsWith state start_at s p w (own ++ []) l outcome)
          (sym same)
          (subst (λ (rs : List (Returned L)). EndsWith state start_at s p w rs attempts outcome)
          (sym (append-nil own)) ends));
    };
    refused = ap (λ (l : List AttemptRecord). faults_for (own ++ []) l) same
        ∙ ap (λ (rs : List (Returned L)). faults_for rs attempts) (append-nil own);
    offered = ap (λ (l : List AttemptRecord). offers_for start_at (own ++ []) l) same
        ∙ ap (λ (rs : List (Returned L)). offers_for start_at rs attempts) (append-nil own)
        ∙ ap (λ (xs : List Handed). map Err (faults_for own attempts) ++ map Ok xs)
        (sym (append-nil (items_back start_at own)));
    uses = λ n asked. subst (λ (rs : List (Returned L)). OwnUses state start_at n rs)
        (sym (append-nil own)) asked;
    bounded = λ tasks ends counted. subst (λ (rs : List (Returned L)).
        IsWithin tasks ends (most_sides (length ending.attempts)) s w.client
        (OwnGave state start_at rs)) (sym (append-nil own))
        (subst (λ (l : List AttemptRecord).
        IsWithin tasks ends (most_sides (length l)) s w.client (OwnGave state start_at own))
        (sym same) counted);
    quiet = λ limit never. absurd never;
  }

  -- a request whose exchange failed gave up before its link went back
  failed_end : (s : Start) (p : Passed) (w : World) (link : L) (lease : Lease) (keep : Bool)
      (session : Box HttpSession) (e : Error) (before after : Option (List (Returned L)))
      (ending : Ending) → GivesFailedUp link lease keep e before after ending
      → RunSoFar {C = C} state start_at s p w [] (Fail link lease keep session e)
      → Ends {C = C} state start_at s p w [] before after (Fail link lease keep session e) ending
  failed_end s p w link lease keep session e before after ending gives run =
      let back = owes_back state start_at s p w link lease keep e gives.back.entry ending.attempts
      session.value run.holds.0 gives.back.hands run.holds.1 in
      record {
        handed = gives.back.entry ∷ [];
        gained = gives.back.gained;
        ended = record {
          tells = run.tells;
          order = run.order;
          untouched = run.untouched;
          ends = subst
              (λ (o : Outcome).
              EndsReturned state start_at s p w gives.back.entry ending.attempts o)
              (sym gives.limit)
              (ends_part state start_at s p w (gives.back.entry ∷ []) (owed.Served e) back.text
              ending.attempts back.owes (waits_front _ _ _ back.waits) back.made).0;
        };
        refused = ap (λ (xs : List AttemptRecord). faults_told xs)
            (tries_before (tries_in lease) ending.attempts gives.back.hands.attempt
            gives.back.hands.attempts_are);
        offered = sym (offered_back start_at link lease gives.back.entry ending.attempts
            gives.back.hands.attempt gives.back.hands.is_link gives.back.hands.attempts_are);
        uses = λ n asked. subst (λ (l : L). LinkUses state start_at n l)
            (sym gives.back.hands.is_link) asked;
        bounded = λ tasks ends counted. absurd counted;
        quiet = λ limit never. absurd never;
      }

  -- a request that owes its client an answer gave up
  answered_end : (s : Start) (p : Passed) (w : World) (own : List (Returned L))
      (session : Box HttpSession) (owes : Owed) (attempts : List AttemptRecord)
      (before after : Option (List (Returned L))) (ending : Ending)
      → GivesUp attempts before after ending
      → RunSoFar {C = C} state start_at s p w own (Answer session owes attempts)
      → Ends {C = C} state start_at s p w own before after (Answer session owes attempts) ending
  answered_end s p w own session owes attempts before after ending gives run =
      let holds = answering_of state start_at s p w own session owes attempts run in
      let front = waits_front _ _ _ holds.waits in
      let ends = (ends_part state start_at s p w own owes holds.text attempts holds.owes front
      holds.made).0 in
      record {
        handed = [];
        gained = gives.same ∙ more-nil before;
        ended = record {
          tells = run.tells;
          order = run.order;
          untouched = run.untouched;
          ends = subst
              (λ (o : Outcome). EndsWith state start_at s p w (own ++ []) ending.attempts o)
              (sym gives.limit)
              (subst
              (λ (l : List AttemptRecord). EndsWith state start_at s p w (own ++ []) l TurnLimit)
              (sym gives.made)
              (subst
              (λ (rs : List (Returned L)). EndsWith state start_at s p w rs attempts TurnLimit)
              (sym (append-nil own)) ends));
        };
        refused = ap (λ (l : List AttemptRecord). faults_for (own ++ []) l) gives.made
            ∙ ap (λ (rs : List (Returned L)). faults_for rs attempts) (append-nil own);
        offered = ap (λ (l : List AttemptRecord). offers_for start_at (own ++ []) l) gives.made
            ∙ ap (λ (rs : List (Returned L)). offers_for start_at rs attempts) (append-nil own)
            ∙ ap (λ (xs : List Handed). map Err (faults_for own attempts) ++ map Ok xs)
            (sym (append-nil (items_back start_at own)));
        uses = λ n asked. subst (λ (rs : List (Returned L)). OwnUses state start_at n rs)
            (sym (append-nil own)) asked;
        bounded = λ tasks ends counted. subst (λ (rs : List (Returned L)).
            IsWithin tasks ends (most_sides (length ending.attempts)) s w.client
            (OwnGave state start_at rs))
            (sym (append-nil own)) (subst (λ (l : List AttemptRecord).
            IsWithin tasks ends (most_sides (length l)) s w.client (OwnGave state start_at own))
            (sym gives.made) (more_room tasks ends (length attempts) s w.client
            (OwnGave state start_at own) counted));
        quiet = λ limit silent. subst (λ (rs : List (Returned L)). IsQuiet state start_at s p w rs)
            (sym (append-nil own))
            (quiet_answer state start_at s p w own (record {
              owed = owes;
              text = holds.text;
              owes = holds.owes;
              part = front;
              left = waits_left _ _ _ holds.waits;
            }) silent);
      }

  -- the end of a request, wherever it stands
  pub end_of : (s : Start) (p : Passed) (own : List (Returned L)) (w : World) (phase : Phase L C)
      (before after : Option (List (Returned L))) (ending : Ending)
      → Finishes phase before after ending → RunSoFar state start_at s p w own phase
      → Ends state start_at s p w own before after phase ending
  end_of s p [] w ReadHead before after ending does run =
      unlinked_end s p w ReadHead [] before after ending does run run.holds.unsent
      (inl ((refl, run.holds.untried.0), inl run.holds.written))
      (λ h. inl (subst (λ (xs : List ℕ). IsOpen xs) run.holds.whole h.0, h.1)) refl refl
      (λ n asked. asked) (λ tasks ends counted. (counted.0, omega (arith, counted.1)))
  end_of s p [] w (Connect context session tries) before after ending does run =
      unlinked_end s p w (Connect context session tries) tries before after ending does run
      run.holds.unsent (inr (inl (run.holds.are_tries, run.holds.written))) (λ h. absurd h) refl
      refl (λ n asked. asked) (λ tasks ends counted. (counted.0, omega (arith, counted.1)))
  end_of s p [] w (Unlinked context session attempts error) before after ending does run =
      let half : IsHalfRefused s p w attempts = record {
        e = error;
        unconnected = run.holds.unconnected;
        made = run.holds.made;
        part = inl run.holds.written;
      } in
      unlinked_end s p w (Unlinked context session attempts error) attempts before after ending does
      run run.holds.unconnected.unsent (inr (inr (inr half))) (λ h. absurd h) refl refl
      (λ n asked. asked) (λ tasks ends counted. (counted.0, omega (arith, counted.1)))
  end_of s p [] w (Prepare context session link lease) before after ending does run =
      linked_end s p w (Prepare context session link lease) link lease false before after ending
      TurnLimit does.limit does.back run run.holds.0
      (inr (run.holds.1.connecting.written, run.holds.1.connecting.unsent), refl)
      (λ r is h. absurd h) refl refl (λ n asked. asked)
      (λ tasks ends counted. record {
        came = p.came;
        got = p.got;
        client_gave = run.tells.came;
        own_gave = run.holds.0.tells.got;
        tasks_within = omega (arith, counted.0);
        ends_within = omega (arith, counted.1);
      })
  end_of s p [] w (Relay a) before after ending does run =
      linked_end s p w (Relay a) (link_of a.value.exchange) a.value.lease false before after
      ending TurnLimit does.limit does.back run run.holds.leased (
        inl (part_relayed s p run.holds.head run.holds.sent a.value.lease.reused _ _ None
            (filtering_of (origin_at s run.holds.head run.holds.sent a.value.lease.reused
            run.holds.began) s.called a.value.exchange.down) run.holds.began
            run.holds.relayable run.holds.sends run.holds.speaks run.holds.leased.reused
            (relaying_stands state start_at (origin_at s run.holds.head run.holds.sent
            a.value.lease.reused run.holds.began) p w.client w.ahead s.called a.value.exchange
            run.holds.at_sent run.holds.under_way)
            run.holds.under_way.order),
        refl,
      )
      (λ r is h. inl (subst (λ (l : L). IsQuietExchange state start_at s p w l) (sym is)
      (quiet_over s p w a run.holds h))) refl refl (λ n asked. asked)
      (λ tasks ends counted.
      let within = within_link state start_at tasks ends s w.client w.ahead a.value counted in
      record {
        came = within.came;
        got = within.got;
        client_gave = within.client_gave;
        own_gave = within.own_gave;
        tasks_within = within.tasks_within;
        ends_within = omega (arith, within.ends_within);
      })
  end_of s p [] w (Close link lease keep outcome) before after ending does run =
      linked_end s p w (Close link lease keep outcome) link lease keep before after ending outcome
      does.0 does.1 run run.holds.0 run.holds.1 (λ r is h. absurd h) refl refl (λ n asked. asked)
      (λ tasks ends counted. absurd counted)
  end_of s p [] w (Broken context session link lease keep e) before after ending does run =
      linked_end s p w (Broken context session link lease keep e) link lease false before after
      ending TurnLimit does.limit does.back run run.holds.0
      (broken_part s p w (state link) (start_at link) session.value lease keep e run.holds.1, refl)
      (λ r is h. inr (inr (
        subst (λ (l : L). IsHalfInformed state start_at s p w l) (sym is)
            (half_informed state start_at s p w link session.value lease keep e run.holds.1 h.0),
        h.1,
      ))) refl refl
      (λ n asked. asked)
      (λ tasks ends counted. more_room tasks ends (1 + length (tries_in lease)) s w.client
      (LinkGave state start_at link) counted)
  end_of s p [] w (Again context session link lease keep e) before after ending does run =
      absurd run.holds
  end_of s p [] w (Fail link lease keep session e) before after ending does run =
      failed_end s p w link lease keep session e before after ending does run
  end_of s p [] w (Ended outcome attempts) before after ending does run =
      ended_end s p w [] outcome attempts before after ending run.holds does.0 does.1 does.2 run
  end_of s p own w (Answer session owes attempts) before after ending does run =
      answered_end s p w own session owes attempts before after ending does run
  end_of s p (r ∷ own) w ReadHead before after ending does run = absurd run.holds
  end_of s p (r ∷ own) w (Broken context session link lease keep e) before after ending does run =
      absurd run.holds
  end_of s p (r ∷ own) w (Again context session link lease keep e) before after ending does run =
      absurd run.holds
  end_of s p (r ∷ own) w (Fail link lease keep session e) before after ending does run =
      absurd run.holds
  end_of s p (r ∷ own) w (Connect context session tries) before after ending does run =
      absurd run.holds
  end_of s p (r ∷ own) w (Unlinked context session attempts error) before after ending does run =
      absurd run.holds
  end_of s p (r ∷ own) w (Prepare context session link lease) before after ending does run =
      absurd run.holds
  end_of s p (r ∷ own) w (Relay a) before after ending does run = absurd run.holds
  end_of s p (r ∷ own) w (Close link lease keep outcome) before after ending does run =
      absurd run.holds
  end_of s p (r ∷ own) w (Ended outcome attempts) before after ending does run =
      ended_end s p w (r ∷ own) outcome attempts before after ending run.holds does.0 does.1 does.2
      run

  -- a request that has ended gives its own outcome
  pub over_end : (phase : Phase L C) (before after : Option (List (Returned L))) (ending : Ending)
      → IsGoing state start_at phase → Finishes phase before after ending → is_over phase ≡ true
      → ending.outcome ≢ TurnLimit
  over_end ReadHead before after ending going does over = absurd (true≢false (sym over))
  over_end (Broken context session link lease keep e) before after ending going does over =
      absurd (true≢false (sym over))
  over_end (Again context session link lease keep e) before after ending going does over =
      absurd (true≢false (sym over))
  over_end (Fail link lease keep session e) before after ending going does over =
      absurd (true≢false (sym over))
  over_end (Answer session owes attempts) before after ending going does over =
      absurd (true≢false (sym over))
  over_end (Connect context session tries) before after ending going does over =
      absurd (true≢false (sym over))
  over_end (Unlinked context session attempts error) before after ending going does over =
      absurd (true≢false (sym over))
  over_end (Prepare context session link lease) before after ending going does over =
      absurd (true≢false (sym over))
  over_end (Relay a) before after ending going does over = absurd (true≢false (sym over))
  over_end (Close link lease keep outcome) before after ending going does over =
      λ limit. going (sym does.0 ∙ limit)
  over_end (Ended outcome attempts) before after ending going does over =
      λ limit. going (sym does.0 ∙ limit)
