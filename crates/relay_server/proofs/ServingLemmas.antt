-- Requests under way, and what one turn, one end and one new client make of them.
use Rattle.std.proofs.Common.{◌≡◌, ◌⊎◌, ℕ, Bool, zero, suc, ◌+◌, ◌≤◌, true, false, true≢false, List, [], ◌∷◌, ◌++◌, length, map, Option, Some, None, refl, sym, ap, subst, ◌∙◌, inl, inr, arith}
use Rattle.std.specs.List.{insert}
use Rattle.std.specs.List.Sorted.{IsPermutation}
use Rattle.std.proofs.lemmas.List.{append-nil, append_assoc, map-append}
use Rattle.std.proofs.lemmas.List.Edits.{insert_end}
use Rattle.std.proofs.lemmas.List.Sorted.{IsPermutation-refl, IsPermutation-sym, IsPermutation-trans, IsPermutation-append_comm, IsPermutation-append_left, IsPermutation-append_right}
use Rattle.relay_tasks.specs.declared.Error.{Error}
use Rattle.relay_tasks.specs.declared.Fault.{Fault}
use Rattle.relay_tasks.specs.declared.log.LogEntry.{LogEntry}
use Rattle.relay_connector.specs.Connector.{Offer}
use Rattle.relay_links.specs.Link.{LinkState, LinkStart}
use Rattle.relay_links.specs.Told.{more}
use Rattle.relay_connector.specs.declared.Returned.{Returned}
use Rattle.relay_modules.specs.Module.{ModuleCall}
use Rattle.relay_hooks.specs.Standing.{Standing}
use Rattle.relay_core.specs.Past.{Origin}
use Rattle.relay_attempt.specs.Passed.{Passed}
use Rattle.relay_hooked.specs.Calls.{Filtering}
use Rattle.relay_hooked.specs.Order.{IsInOrder}
use Rattle.relay_peer.specs.Body.{IsFrontOf}
use Rattle.relay_session.specs.declared.session.HttpSession.{HttpSession}
use Rattle.relay_session.specs.declared.writing.Outgoing.{Outgoing}
use Rattle.relay_request.specs.Calls.{CallsSoFar, allowed_by, log_of}
use Rattle.relay_request.specs.Endings.{AttemptsFailed, AttemptsUnlinked, EndsAhead, EndsLinked, EndsUnlinked, EndsWith, FailsToConnect, IsClientReusable, IsGivenAhead, IsOwedUnlinked, IsUnconnected}
use Rattle.relay_request.specs.Legs.{AreLegs, BeginsAt, Leg, behind}
use Rattle.relay_request.specs.Owed.{Owes, IsAnswering, TellsOwed}
use Rattle.relay_request.specs.Passed.{World, Start, called_to}
use Rattle.relay_request.specs.Phases.{RunSoFar, IsBroken, IsCalm, IsConnecting, LacksLink, PhaseHolds, IsAt}
use Rattle.relay_request.specs.Request.{StepsOn, ComesToEnd, ended_after, is_done}
use Rattle.relay_request.specs.Tries.{tries_in}
use Rattle.relay_request.specs.Turn.{world_with, world_of, is_over, links_held}
use Rattle.relay_request.specs.declared.calls.At.{At}
use Rattle.relay_request.specs.declared.machine.Lease.{Lease}
use Rattle.relay_request.specs.declared.machine.Phase.{Phase}
use Rattle.relay_request.specs.declared.machine.Phase.TheVariants.{ReadHead, Connect, Unlinked, Prepare, Relay, Broken, Again, Fail, Close, Answer, Ended}
use Rattle.relay_request.specs.declared.outcome.Outcome.{Outcome}
use Rattle.relay_request.specs.declared.work.Work.{Work}
use Rattle.relay_request.specs.declared.outcome.Outcome.TheVariants.{NoRequest, Refused, Served, TurnLimit, OutOfMemory}
use Rattle.relay_request.specs.declared.outcome.Processed.{Processed}
use Rattle.relay_request.specs.declared.owed.Owed.{Owed}
use Rattle.relay_request.specs.declared.owed.Owed.TheVariants as due
use Rattle.relay_proxy.specs.declared.proxy.HttpProxy.{HttpProxy}
use Rattle.relay_request.specs.declared.record.AttemptRecord.{AttemptRecord}
use Rattle.relay_turns.proofs.EndSteps.{gives_by}
use Rattle.relay_turns.proofs.LegLemmas.{behind_called, behind_more, behind_first, behind_most, legs_later, legs_more}
use Rattle.relay_turns.proofs.LastCalls.{calls_logged}
use Rattle.relay_server.specs.Serving.{Books, books, CountRises, Visit, HaveEnded, EndedRequest, all_held, AreUnderWay, IsUnderWay, Serves, EndsOne, ServesOn}
use Rattle.relay_server.specs.Serving.AreEnded.{none, one_more}

-- a request that has not ended has no hook of its end to call
pub goes_undone : {L C K : Type 0} (phase : Phase L C) (here : At K C) → is_over phase ≡ false
    → is_done phase here ≡ false
goes_undone phase here going = rw going refl

-- one more request that ended lets the count rise
pub count_rises : (count : ℕ) (outcome : Outcome) → CountRises count (ended_after count outcome)
count_rises count NoRequest fits = (omega arith, fits)
count_rises count (Refused error) fits = (omega (arith, fits), omega arith)
count_rises count (Served error reuse) fits = (omega (arith, fits), omega arith)
count_rises count TurnLimit fits = (omega arith, fits)
count_rises count OutOfMemory fits = (omega arith, fits)

-- a list that gained nothing
pub more-nil : {X : Type 0} (told : Option (List X)) → more told [] ≡ told
more-nil None = refl
more-nil (Some xs) = ap Some (append-nil xs)

-- a list that gained twice
pub more-more : {X : Type 0} (told : Option (List X)) (xs ys : List X)
    → more (more told xs) ys ≡ more told (xs ++ ys)
more-more None xs ys = refl
more-more (Some ts) xs ys = ap Some (append_assoc ts xs ys)

-- what stands first and second may stand the other way round
pub swap_fronts : {X : Type 0} (xs ys zs : List X)
    → IsPermutation (xs ++ (ys ++ zs)) (ys ++ (xs ++ zs))
swap_fronts xs ys zs = subst (λ (l : List _). IsPermutation l (ys ++ (xs ++ zs)))
    (append_assoc xs ys zs) (subst (λ (l : List _). IsPermutation ((xs ++ ys) ++ zs) l)
    (append_assoc ys xs zs)
    (IsPermutation-append_left zs (xs ++ ys) (ys ++ xs) (IsPermutation-append_comm xs ys)))

-- what is added in the middle may be added at the end
pub add_last : {X : Type 0} (xs ys zs : List X)
    → IsPermutation ((xs ++ zs) ++ ys) ((xs ++ ys) ++ zs)
add_last xs ys zs = subst (λ (l : List _). IsPermutation l ((xs ++ ys) ++ zs))
    (sym (append_assoc xs zs ys)) (subst (λ (l : List _). IsPermutation (xs ++ (zs ++ ys)) l)
    (sym (append_assoc xs ys zs))
    (IsPermutation-append_right xs (zs ++ ys) (ys ++ zs) (IsPermutation-append_comm zs ys)))

-- what one gained is gained by all
pub joins : {X : Type 0} (own rest all more : List X) → IsPermutation (own ++ rest) all
    → IsPermutation ((own ++ more) ++ rest) (all ++ more)
joins own rest all more joined =
    IsPermutation-trans ((own ++ more) ++ rest) ((own ++ rest) ++ more) (all ++ more)
    (IsPermutation-sym ((own ++ rest) ++ more) ((own ++ more) ++ rest) (add_last own more rest))
    (IsPermutation-append_left more (own ++ rest) all joined)

-- a link is wanted at a higher count of the connector's faults too
connecting_later : (s : Start) (p : Passed) (link : LinkState) (ahead : List ℕ) (f g : ℕ)
    (session : HttpSession) (tries : List AttemptRecord)
    → IsConnecting s p (world_with link ahead f) session tries
    → IsConnecting s p (world_with link ahead g) session tries
connecting_later s p link ahead f g session tries at = record {
  head = at.head;
  accepted = at.accepted;
  is_left = at.is_left;
  quiet = at.quiet;
  begins = at.begins;
  unread = at.unread;
  written = at.written;
  unsent = at.unsent;
  are_tries = at.are_tries;
}

-- an attempt failed at a higher count too
broken_later : (s : Start) (p : Passed) (client : LinkState) (ahead : List ℕ) (f g : ℕ)
    (link : LinkState) (start : LinkStart) (session : HttpSession) (lease : Lease) (keep : Bool)
    (e : Error) → IsBroken s p (world_with client ahead f) link start session lease keep e
    → IsBroken s p (world_with client ahead g) link start session lease keep e
unfolding connecting_later
broken_later s p client ahead f g link start session lease keep e
    (IsBroken.in_exchange leaves unkept) = IsBroken.in_exchange leaves unkept
broken_later s p client ahead f g link start session lease keep e (IsBroken.ahead_of_it leaves) =
    IsBroken.ahead_of_it (record {
      connecting = connecting_later s p client ahead f g session (tries_in lease)
          leaves.connecting;
      leased = leaves.leased;
      fresh = leaves.fresh;
      why = leaves.why;
    })

-- the connector gave no link, at a higher count too
unconnected_later : (s : Start) (p : Passed) (link : LinkState) (ahead : List ℕ) (f g : ℕ)
    (e : Error) → f ≤ g → IsUnconnected s p (world_with link ahead f) e
    → IsUnconnected s p (world_with link ahead g) e
unconnected_later s p link ahead f g e more_faults missing = record {
  refused = missing.refused;
  rose = λ last. omega (arith, missing.rose (omega (arith, last, more_faults)), more_faults);
  head = missing.head;
  accepted = missing.accepted;
  unsent = missing.unsent;
}

-- and so it is with what the client is owed for that
owed_later : (s : Start) (p : Passed) (link : LinkState) (ahead : List ℕ) (f g : ℕ) (e : Error)
    (text : List ℕ) → f ≤ g → IsOwedUnlinked s p (world_with link ahead f) e text
    → IsOwedUnlinked s p (world_with link ahead g) e text
unfolding unconnected_later
owed_later s p link ahead f g e text more_faults owes = record {
  unconnected = unconnected_later s p link ahead f g e more_faults owes.unconnected;
  told = owes.told;
  text_is = owes.text_is;
}

-- and with a request that is to be answered for it
lacking_later : (s : Start) (p : Passed) (link : LinkState) (ahead : List ℕ) (f g : ℕ)
    (session : HttpSession) (attempts : List AttemptRecord) (e : Error) → f ≤ g
    → LacksLink s p (world_with link ahead f) session attempts e
    → LacksLink s p (world_with link ahead g) session attempts e
unfolding unconnected_later
lacking_later s p link ahead f g session attempts e more_faults lacks = record {
  unconnected = unconnected_later s p link ahead f g e more_faults lacks.unconnected;
  made = lacks.made;
  begins = lacks.begins;
  written = lacks.written;
}

-- what a client was given of the answer of hooks does not hang on it
given_later : (s : Start) (p : Passed) (link : LinkState) (ahead : List ℕ) (f g : ℕ)
    (why : Option Error) (text : List ℕ) (told : Option Error)
    → IsGivenAhead s p (world_with link ahead f) why text told
    → IsGivenAhead s p (world_with link ahead g) why text told
given_later s p link ahead f g None text told (inl whole) = inl whole
given_later s p link ahead f g None text told (inr fails) = inr (
  fails.0,
  record { kind = fails.1.kind; rose = fails.1.rose; told = fails.1.told },
  fails.2,
  fails.3,
)
given_later s p link ahead f g (Some e) text told given = given

-- nor does what such hooks made of the request
abbrev ahead_later : (s : Start) (p : Passed) (link : LinkState) (ahead : List ℕ) (f g : ℕ)
    (told : Option Error) → EndsAhead s p (world_with link ahead f) told
    → EndsAhead s p (world_with link ahead g) told
ahead_later s p link ahead f g told ends = record {
  why = ends.why;
  text = ends.text;
  owed = ends.owed;
  given = given_later s p link ahead f g ends.why ends.text told ends.given;
  unsent = ends.unsent;
  untreated = ends.untreated;
}

-- a request that was served without a link stands at a higher count too
unlinked_later : (s : Start) (p : Passed) (link : LinkState) (ahead : List ℕ) (f g : ℕ)
    (error : Option Error) (reuse : Bool) → f ≤ g
    → EndsUnlinked s p (world_with link ahead f) (Served error reuse)
    → EndsUnlinked s p (world_with link ahead g) (Served error reuse)
unlinked_later s p link ahead f g None reuse more_faults ends = record {
  ends = ahead_later s p link ahead f g None ends.ends;
  calm = ends.calm;
  goes_back = ends.goes_back;
}
unlinked_later s p link ahead f g (Some e) reuse more_faults ends = (by ends.0, ends.1)
  where
    by : FailsToConnect s p (world_with link ahead f) e
        ⊎ EndsAhead s p (world_with link ahead f) (Some e)
        → FailsToConnect s p (world_with link ahead g) e
        ⊎ EndsAhead s p (world_with link ahead g) (Some e)
    by (inl fails) = inl (record {
      text = fails.text;
      owed = owed_later s p link ahead f g e fails.text more_faults fails.owed;
      given = fails.given;
    })
    by (inr ends) = inr (ahead_later s p link ahead f g (Some e) ends)

-- and so do its attempts
attempts_later : (s : Start) (p : Passed) (link : LinkState) (ahead : List ℕ) (f g : ℕ)
    (attempts : List AttemptRecord) (error : Option Error) (reuse : Bool)
    → AttemptsUnlinked s p (world_with link ahead f) attempts (Served error reuse)
    → AttemptsUnlinked s p (world_with link ahead g) attempts (Served error reuse)
unfolding ahead_later
attempts_later s p link ahead f g attempts None reuse made = made
attempts_later s p link ahead f g attempts (Some e) reuse (AttemptsFailed.unlinked made) =
    AttemptsFailed.unlinked made
attempts_later s p link ahead f g attempts (Some e) reuse (AttemptsFailed.ahead ends made) =
    AttemptsFailed.ahead (ahead_later s p link ahead f g (Some e) ends) made

-- nor does which client may ask for more
reusable_later : {f : Filtering} {o : Origin} {p : Passed} {closed : Bool}
    {order : IsInOrder f o p closed} {first : ℕ} (client : LinkState) (ahead : List ℕ) (i j : ℕ)
    → IsClientReusable o p closed order first (world_with client ahead i)
    → IsClientReusable o p closed order first (world_with client ahead j)
reusable_later client ahead i j may = record {
  version = may.version;
  asks = may.asks;
  answers = may.answers;
  ended = may.ended;
  nothing_ahead = may.nothing_ahead;
  unfailed = may.unfailed;
}

-- one that was served over that link does
linked_later : (s : Start) (p : Passed) (client : LinkState) (ahead : List ℕ) (f g : ℕ)
    (link : LinkState) (start : LinkStart) (keep : Bool) (told error : Option Error) (reuse : Bool)
    → EndsLinked s p (world_with client ahead f) link start keep told (Served error reuse)
    → EndsLinked s p (world_with client ahead g) link start keep told (Served error reuse)
linked_later s p client ahead f g link start keep told None reuse (inl whole) = inl (record {
  head = whole.head;
  sent = whole.sent;
  relayable = whole.relayable;
  sends = whole.sends;
  f = whole.f;
  began = whole.began;
  stands = whole.stands;
  relayed = whole.relayed;
  speaks = whole.speaks;
  unshort = whole.unshort;
  calm = whole.calm;
  kept = whole.kept;
  faultless = whole.faultless;
  keeps = whole.keeps;
  goes_back = (
    λ back. reusable_later client ahead f g (whole.goes_back.0 back),
    λ may. whole.goes_back.1 (reusable_later client ahead g f may),
  );
  behind = whole.behind;
})
linked_later s p client ahead f g link start keep told None reuse (inr early) = inr (record {
  head = early.head;
  sent = early.sent;
  relayable = early.relayable;
  sends = early.sends;
  f = early.f;
  began = early.began;
  stands = early.stands;
  early = early.early;
  speaks = early.speaks;
  calm = early.calm;
  kept = early.kept;
  read_whole = early.read_whole;
  faultless = early.faultless;
  keeps = early.keeps;
  goes_back = (
    λ back. reusable_later client ahead f g (early.goes_back.0 back),
    λ may. early.goes_back.1 (reusable_later client ahead g f may),
  );
  behind = early.behind;
})
linked_later s p client ahead f g link start keep told (Some e) reuse (inl failed) = inl (record {
  failed = failed.failed;
  invalid = failed.invalid;
  answered = failed.answered;
  not_kept = failed.not_kept;
  stays = failed.stays;
})
linked_later s p client ahead f g link start keep told (Some e) reuse (inr unsent) = inr (record {
  refused = unsent.refused;
  answered = unsent.answered;
  stays = unsent.stays;
})

module _ {L : Type 0} (state : L → LinkState) (start_at : L → LinkStart) where
  -- a request that was served stands at a higher count, by the links that it handed back
  served_later : (s : Start) (p : Passed) (link : LinkState) (ahead : List ℕ) (f g : ℕ)
      (own : List (Returned L)) (attempts : List AttemptRecord) (error : Option Error)
      (reuse : Bool) → f ≤ g
      → EndsWith state start_at s p (world_with link ahead f) own attempts (Served error reuse)
      → EndsWith state start_at s p (world_with link ahead g) own attempts (Served error reuse)
  served_later s p link ahead f g [] attempts error reuse more_faults ends = (
    unlinked_later s p link ahead f g error reuse more_faults ends.0,
    attempts_later s p link ahead f g attempts error reuse ends.1,
  )
  served_later s p link ahead f g (r ∷ []) attempts error reuse more_faults ends = record {
    tells = ends.tells;
    peer = ends.peer;
    tries = ends.tries;
    attempt = ends.attempt;
    attempts_are = ends.attempts_are;
    are_tries = ends.are_tries;
    is_record = ends.is_record;
    error = ends.error;
    ends = linked_later s p link ahead f g (state r.link) (start_at r.link) r.keep
        ends.attempt.error error reuse ends.ends;
  }
  served_later s p link ahead f g (r ∷ q ∷ rest) attempts error reuse more_faults ends =
      absurd ends

  -- a client is owed an answer at a higher count too
  owes_later : (s : Start) (p : Passed) (link : LinkState) (ahead : List ℕ) (f g : ℕ)
      (own : List (Returned L)) (owed : Owed) (text : List ℕ) → f ≤ g
      → Owes state start_at s p (world_with link ahead f) own owed text
      → Owes state start_at s p (world_with link ahead g) own owed text
  owes_later s p link ahead f g [] (due.Refused error) text more_faults owes = owes
  owes_later s p link ahead f g [] (due.Ahead why) text more_faults owes = owes
  owes_later s p link ahead f g [] (due.Served e) text more_faults owes =
      owed_later s p link ahead f g e text more_faults owes
  owes_later s p link ahead f g (r ∷ own) (due.Refused error) text more_faults owes = owes
  owes_later s p link ahead f g (r ∷ own) (due.Ahead why) text more_faults owes = owes
  owes_later s p link ahead f g (r ∷ own) (due.Served e) text more_faults owes = owes

  -- and its session tells the same
  told_later : (s : Start) (p : Passed) (link : LinkState) (ahead : List ℕ) (f g : ℕ)
      (own : List (Returned L)) (owed : Owed) (text : List ℕ) (more_faults : f ≤ g)
      (owes : Owes state start_at s p (world_with link ahead f) own owed text)
      (session : HttpSession)
      → TellsOwed state start_at s p (world_with link ahead f) own owed text owes session
      → TellsOwed state start_at s p (world_with link ahead g) own owed text
      (owes_later s p link ahead f g own owed text more_faults owes) session
  unfolding owes_later
  told_later s p link ahead f g [] (due.Refused error) text more_faults owes session tells = tt
  told_later s p link ahead f g [] (due.Ahead None) text more_faults owes session tells = tells
  told_later s p link ahead f g [] (due.Ahead (Some e)) text more_faults owes session tells = tt
  told_later s p link ahead f g [] (due.Served e) text more_faults owes session tells = tt
  told_later s p link ahead f g (r ∷ own) owed text more_faults owes session tells = tt

  -- it is given the answer at a higher count too
  answers_later : (s : Start) (p : Passed) (link : LinkState) (ahead : List ℕ) (f g : ℕ)
      (own : List (Returned L)) (session : HttpSession) (owed : Owed)
      (attempts : List AttemptRecord) → f ≤ g
      → IsAnswering state start_at s p (world_with link ahead f) own session owed attempts
      → IsAnswering state start_at s p (world_with link ahead g) own session owed attempts
  answers_later s p link ahead f g own session owed attempts more_faults answers = record {
    text = answers.text;
    owes = owes_later s p link ahead f g own owed answers.text more_faults answers.owes;
    tells = told_later s p link ahead f g own owed answers.text more_faults answers.owes session
        answers.tells;
    waits = answers.waits;
    made = answers.made;
  }

module _ {L C : Type 0} (state : L → LinkState) (start_at : L → LinkStart) where
  -- what has passed in a phase that goes on stands at a higher count of the connector's faults
  at_later : {K : Type 0} (s : Start) (p : Passed) (link : LinkState) (ahead : List ℕ) (f g : ℕ)
      (phase : Phase L C) (here : At K C) → is_done phase here ≡ false → f ≤ g
      → IsAt state start_at s p (world_with link ahead f) phase
      → IsAt state start_at s p (world_with link ahead g) phase
  at_later s p link ahead f g ReadHead here going more_faults at = at
  at_later s p link ahead f g (Connect context session tries) here going more_faults at =
      connecting_later s p link ahead f g session.value tries at
  at_later s p link ahead f g (Unlinked context session attempts e) here going more_faults at =
      lacking_later s p link ahead f g session.value attempts e more_faults at
  at_later s p link ahead f g (Prepare context session l lease) here going more_faults at = (
    at.0,
    record {
      connecting = connecting_later s p link ahead f g session.value (tries_in lease)
          at.1.connecting;
      fresh = at.1.fresh;
      speaks = at.1.speaks;
    },
  )
  at_later s p link ahead f g (Relay a) here going more_faults at = record {
    leased = at.leased;
    head = at.head;
    sent = at.sent;
    relayable = at.relayable;
    sends = at.sends;
    speaks = at.speaks;
    began = at.began;
    at_sent = at.at_sent;
    under_way = at.under_way;
    at_first = at.at_first;
    is_left = at.is_left;
    quiet = at.quiet;
  }
  at_later s p link ahead f g (Broken context session l lease keep error) here going more_faults
      at = (
        at.0,
        broken_later s p link ahead f g (state l) (start_at l) session.value lease keep error at.1,
      )
  at_later s p link ahead f g (Again context session l lease keep error) here going more_faults
      at = absurd at
  at_later s p link ahead f g (Fail l lease keep session error) here going more_faults at = (
    at.0,
    record { text = at.1.text; misses = at.1.misses; waits = at.1.waits },
  )
  at_later s p link ahead f g (Close l lease keep outcome) here going more_faults at =
      absurd (true≢false going)
  at_later s p link ahead f g (Answer session owed attempts) here going more_faults at =
      answers_later state start_at s p link ahead f g [] session.value owed
      attempts more_faults at
  at_later s p link ahead f g (Ended NoRequest attempts) here going more_faults at =
      absurd (true≢false going)
  at_later s p link ahead f g (Ended (Refused error) attempts) here going more_faults at =
      absurd (true≢false going)
  at_later s p link ahead f g (Ended (Served error reuse) attempts) here going more_faults at =
      served_later state start_at s p link ahead f g [] attempts error reuse more_faults at
  at_later s p link ahead f g (Ended TurnLimit attempts) here going more_faults at =
      absurd (true≢false going)
  at_later s p link ahead f g (Ended OutOfMemory attempts) here going more_faults at =
      absurd (true≢false going)

  -- nor do the faults of the client's link hang on it
  calm_later : (s : Start) (link : LinkState) (ahead : List ℕ) (f g : ℕ) (phase : Phase L C)
      → IsCalm state start_at s (world_with link ahead f) phase
      → IsCalm state start_at s (world_with link ahead g) phase
  calm_later s link ahead f g ReadHead calm = calm
  calm_later s link ahead f g (Connect context session tries) calm = calm
  calm_later s link ahead f g (Unlinked context session attempts e) calm = calm
  calm_later s link ahead f g (Prepare context session l lease) calm = calm
  calm_later s link ahead f g (Relay a) calm = calm
  calm_later s link ahead f g (Broken context session l lease keep error) calm = calm
  calm_later s link ahead f g (Again context session l lease keep error) calm = calm
  calm_later s link ahead f g (Fail l lease keep session error) calm = calm
  calm_later s link ahead f g (Close l lease keep outcome) calm = calm
  calm_later s link ahead f g (Answer session owed attempts) calm = calm
  calm_later s link ahead f g (Ended outcome attempts) calm = calm

  -- what has passed, by the links that were handed back
  holds_later : {K : Type 0} (s : Start) (p : Passed) (link : LinkState) (ahead : List ℕ)
      (f g : ℕ) (own : List (Returned L)) (phase : Phase L C) (here : At K C)
      → is_done phase here ≡ false → f ≤ g
      → PhaseHolds state start_at s p (world_with link ahead f) own phase
      → PhaseHolds state start_at s p (world_with link ahead g) own phase
  holds_later s p link ahead f g [] phase here going more_faults holds =
      at_later s p link ahead f g phase here going more_faults holds
  holds_later s p link ahead f g (r ∷ own) ReadHead here going more_faults holds = absurd holds
  holds_later s p link ahead f g (r ∷ own) (Connect context session tries) here going more_faults
      holds = absurd holds
  holds_later s p link ahead f g (r ∷ own) (Unlinked context session attempts e) here going
      more_faults holds = absurd holds
  holds_later s p link ahead f g (r ∷ own) (Prepare context session l lease) here going more_faults
      holds = absurd holds
  holds_later s p link ahead f g (r ∷ own) (Relay a) here going more_faults holds = absurd holds
  holds_later s p link ahead f g (r ∷ own) (Broken context session l lease keep error) here going
      more_faults holds = absurd holds
  holds_later s p link ahead f g (r ∷ own) (Again context session l lease keep error) here going
      more_faults holds = absurd holds
  holds_later s p link ahead f g (r ∷ own) (Fail l lease keep session error) here going more_faults
      holds = absurd holds
  holds_later s p link ahead f g (r ∷ own) (Close l lease keep outcome) here going more_faults
      holds = absurd holds
  holds_later s p link ahead f g (r ∷ own) (Answer session owed attempts) here going more_faults
      holds =
      answers_later state start_at s p link ahead f g (r ∷ own) session.value owed
      attempts more_faults holds
  holds_later s p link ahead f g (r ∷ own) (Ended NoRequest attempts) here going more_faults
      holds = absurd (true≢false going)
  holds_later s p link ahead f g (r ∷ own) (Ended (Refused error) attempts) here going more_faults
      holds = absurd (true≢false going)
  holds_later s p link ahead f g (r ∷ own) (Ended (Served error reuse) attempts) here going
      more_faults holds =
      served_later state start_at s p link ahead f g (r ∷ own) attempts error reuse more_faults
      holds
  holds_later s p link ahead f g (r ∷ own) (Ended TurnLimit attempts) here going more_faults
      holds = absurd (true≢false going)
  holds_later s p link ahead f g (r ∷ own) (Ended OutOfMemory attempts) here going more_faults
      holds = absurd (true≢false going)

  -- a request goes on while calls of the connector fail for others
  pub run_later : {K : Type 0} (s : Start) (p : Passed) (link : LinkState) (ahead : List ℕ)
      (f g : ℕ) (own : List (Returned L)) (phase : Phase L C) (here : At K C)
      → is_done phase here ≡ false → f ≤ g
      → RunSoFar state start_at s p (world_with link ahead f) own phase
      → RunSoFar state start_at s p (world_with link ahead g) own phase
  run_later s p link ahead f g own phase here going more_faults run = record {
    tells = record {
      came = run.tells.came;
      written = run.tells.written;
      faults = run.tells.faults;
      connect_faults = omega (arith, run.tells.connect_faults, more_faults);
      fault_lists = run.tells.fault_lists;
    };
    order = run.order;
    untouched = run.untouched;
    going = run.going;
    calm = calm_later s link ahead f g phase run.calm;
    holds = holds_later s p link ahead f g own phase here going more_faults run.holds;
  }

module _ {L : Type 0} (state : L → LinkState) (start_at : L → LinkStart)
    (allows : Standing → LogEntry → Type 0) where
  -- no request has ended
  pub none_ended : (before : Books L)
      → HaveEnded state start_at allows before before.requests_ended before.returned []
  none_ended before = record {
    links = [];
    gained = [];
    ended = none;
    joined = IsPermutation-refl [];
    told = sym (more-nil before.returned);
  }

  -- requests that are under way hand links back
  pub ended_gains : (before : Books L) (count : ℕ) (old now : Option (List (Returned L)))
      (others handed : List (Returned L))
      → HaveEnded state start_at allows before count old others → now ≡ more old handed
      → HaveEnded state start_at allows before count now (others ++ handed)
  ended_gains before count old now others handed ended gained = record {
    links = ended.links;
    gained = ended.gained ++ handed;
    ended = ended.ended;
    joined = subst (λ (l : List (Returned L)). IsPermutation l (ended.gained ++ handed))
        (append_assoc ended.links others handed)
        (IsPermutation-append_left handed (ended.links ++ others) ended.gained ended.joined);
    told = gained ∙ ap (λ (t : Option (List (Returned L))). more t handed) ended.told
        ∙ more-more before.returned ended.gained handed;
  }

  -- the order of the others says nothing
  pub ended_in_order : (before : Books L) (count : ℕ) (returned : Option (List (Returned L)))
      (others same : List (Returned L)) → IsPermutation others same
      → HaveEnded state start_at allows before count returned others
      → HaveEnded state start_at allows before count returned same
  ended_in_order before count returned others same moved ended = record {
    links = ended.links;
    gained = ended.gained;
    ended = ended.ended;
    joined = IsPermutation-trans (ended.links ++ same) (ended.links ++ others) ended.gained
        (IsPermutation-append_right ended.links same others
        (IsPermutation-sym others same moved)) ended.joined;
    told = ended.told;
  }

  -- one more request has ended
  pub one_ended : (before : Books L) (count : ℕ) (returned : Option (List (Returned L)))
      (own others : List (Returned L)) (outcome : Outcome)
      → EndedRequest state start_at allows before.most own outcome
      → HaveEnded state start_at allows before count returned (own ++ others)
      → HaveEnded state start_at allows before (ended_after count outcome) returned others
  one_ended before count returned own others outcome request ended = record {
    links = ended.links ++ own;
    gained = ended.gained;
    ended = one_more count ended.links ended.ended own outcome request;
    joined = subst (λ (l : List (Returned L)). IsPermutation l ended.gained)
        (sym (append_assoc ended.links own others)) ended.joined;
    told = ended.told;
  }

-- the links that are held by the requests of two lists
pub all_held-append : {L C D U M : Type 0} (state : L → LinkState) (start_at : L → LinkStart)
    (here there : List (Visit D U L C M)) → all_held state start_at (here ++ there)
    ≡ all_held state start_at here + all_held state start_at there
all_held-append state start_at [] there = omega arith
all_held-append state start_at (visit ∷ here) there =
    omega (arith, all_held-append state start_at here there)

-- the links that are held where one more request is put at a place
pub all_held-insert : {L C D U M : Type 0} (state : L → LinkState) (start_at : L → LinkStart)
    (place : ℕ) (visit : Visit D U L C M) (rest : List (Visit D U L C M))
    → all_held state start_at (insert rest place visit)
    ≡ all_held state start_at (visit ∷ rest)
all_held-insert state start_at zero visit rest = refl
all_held-insert state start_at (suc place) visit [] = refl
all_held-insert state start_at (suc place) visit (next ∷ rest) =
    omega (arith, all_held-insert state start_at place visit rest)

-- the links of one are among those of all
pub held_by_one : {L C D U M : Type 0} (state : L → LinkState) (start_at : L → LinkStart)
    (place : ℕ) (visit : Visit D U L C M) (rest visits : List (Visit D U L C M)) (out : ℕ)
    → visits ≡ insert rest place visit → all_held state start_at visits ≤ out
    → links_held state start_at visit.phase ≤ out
held_by_one state start_at place visit rest visits out taken held =
    let all : all_held state start_at (insert rest place visit) ≤ out = rw taken at held in
    omega (arith, all, all_held-insert state start_at place visit rest)

module _ {L C D U M : Type 0}
    (state : L → LinkState) (start_at : L → LinkStart) (client_state : D → LinkState)
    (allows : Standing → LogEntry → Type 0) (mark_of : C → ℕ) where
  -- requests that are under way go on while calls of the connector fail for others
  pub all_later : (most f g : ℕ) → f ≤ g → (visits : List (Visit D U L C M))
      (links : List (Returned L)) → AreUnderWay state start_at client_state allows mark_of most f
      visits links
      → AreUnderWay state start_at client_state allows mark_of most g visits links
  all_later most f g more_faults [] links under_way = under_way
  all_later most f g more_faults (visit ∷ rest) links under_way = record {
    own = under_way.own;
    rest = under_way.rest;
    of_one = record {
      start = under_way.of_one.start;
      limit = under_way.of_one.limit;
      first = under_way.of_one.first;
      calls = under_way.of_one.calls;
      legs = under_way.of_one.legs;
      are_legs = under_way.of_one.are_legs;
      passed = under_way.of_one.passed;
      last = under_way.of_one.last;
      own_are = under_way.of_one.own_are;
      run = run_later state start_at
          (called_to (behind under_way.of_one.start under_way.of_one.legs) (log_of visit.calls))
          under_way.of_one.passed (client_state visit.client.link) visit.client.ahead f g
          under_way.of_one.last visit.phase visit.calls.at under_way.of_one.going more_faults
          under_way.of_one.run;
      going = under_way.of_one.going;
    };
    of_others = all_later most f g more_faults rest under_way.rest under_way.of_others;
    joined = under_way.joined;
  }

  -- one of the requests is taken out
  pub take_out : (most f place : ℕ) (visit : Visit D U L C M) (rest : List (Visit D U L C M))
      (links : List (Returned L))
      → AreUnderWay state start_at client_state allows mark_of most f (insert rest place visit)
      links
      → AreUnderWay state start_at client_state allows mark_of most f (visit ∷ rest) links
  take_out most f zero visit rest links under_way = under_way
  take_out most f (suc place) visit [] links under_way = under_way
  take_out most f (suc place) visit (next ∷ rest) links under_way =
      let inner = take_out most f place visit rest under_way.rest under_way.of_others in
      let one = under_way.own in
      let others = inner.rest in
      record {
        own = inner.own;
        rest = one ++ others;
        of_one = inner.of_one;
        of_others = record {
          own = one;
          rest = others;
          of_one = under_way.of_one;
          of_others = inner.of_others;
          joined = IsPermutation-refl (one ++ others);
        };
        joined = IsPermutation-trans (inner.own ++ (one ++ others)) (one ++ under_way.rest) links
            (IsPermutation-trans (inner.own ++ (one ++ others)) (one ++ (inner.own ++ others))
            (one ++ under_way.rest) (swap_fronts inner.own one others)
            (IsPermutation-append_right one (inner.own ++ others) under_way.rest inner.joined))
            under_way.joined;
      }

  -- one more request is put at a place
  pub put_in : (most f place : ℕ) (visit : Visit D U L C M) (rest : List (Visit D U L C M))
      (links : List (Returned L))
      → AreUnderWay state start_at client_state allows mark_of most f (visit ∷ rest) links
      → AreUnderWay state start_at client_state allows mark_of most f (insert rest place visit)
      links
  put_in most f zero visit rest links under_way = under_way
  put_in most f (suc place) visit [] links under_way = under_way
  put_in most f (suc place) visit (next ∷ rest) links under_way =
      let own = under_way.own in
      let one = under_way.of_others.own in
      let others = under_way.of_others.rest in
      record {
        own = one;
        rest = own ++ others;
        of_one = under_way.of_others.of_one;
        of_others = put_in most f place visit rest (own ++ others) (record {
          own = own;
          rest = others;
          of_one = under_way.of_one;
          of_others = under_way.of_others.of_others;
          joined = IsPermutation-refl (own ++ others);
        });
        joined = IsPermutation-trans (one ++ (own ++ others)) (own ++ under_way.rest) links
            (IsPermutation-trans (one ++ (own ++ others)) (own ++ (one ++ others))
            (own ++ under_way.rest) (swap_fronts one own others)
            (IsPermutation-append_right own (one ++ others) under_way.rest
            under_way.of_others.joined)) under_way.joined;
      }

  -- those that are under way beside a turn of another go on
  others_later : (old now : Books L) (rest : List (Visit D U L C M)) (links : List (Returned L))
      → now.most ≡ old.most → old.faults ≤ now.faults
      → AreUnderWay state start_at client_state allows mark_of old.most old.faults rest links
      → AreUnderWay state start_at client_state allows mark_of now.most now.faults rest links
  others_later old now rest links same more_faults under_way =
      subst (λ (n : ℕ). AreUnderWay state start_at client_state allows mark_of n now.faults rest
      links) (sym same)
      (all_later old.most old.faults now.faults more_faults rest links under_way)

  -- a turn of the first request: none is counted, and what passed goes on
  pub record TakesTurn (old now : Books L) (visit next : Visit D U L C M)
      (t u : Option (List Fault))
      (h k : Option (List Offer)) (i j : Work) : Type 0 where
    pub counted : now.requests_ended ≡ old.requests_ended
    pub faults : old.faults ≤ now.faults
    pub most : now.most ≡ old.most
    pub first : next.first ≡ visit.first
    pub calls : (s : Start) (p : Passed) (own : List (Returned L)) → s.most ≡ old.most
        → s.first ≡ visit.first → CallsSoFar allows mark_of visit.calls visit.phase
        → RunSoFar state start_at (called_to s (log_of visit.calls)) p
        (world_of client_state visit.client old.faults) own visit.phase
        → CallsSoFar allows mark_of next.calls next.phase
    pub front : IsFrontOf (log_of visit.calls) (log_of next.calls)
    pub steps : (s : Start) (p : Passed) (own : List (Returned L)) → s.most ≡ old.most
        → s.first ≡ visit.first → CallsSoFar allows mark_of visit.calls visit.phase
        → RunSoFar state start_at (called_to s (log_of visit.calls)) p
        (world_of client_state visit.client old.faults) own visit.phase
        → StepsOn state start_at (called_to s (log_of visit.calls))
        (called_to s (log_of next.calls)) p (world_of client_state next.client now.faults) own
        old.returned now.returned t u h k (client_state visit.client.link) visit.client.ahead i j
        visit.phase next.phase

  -- what a turn made of the run of a request: the attempts that were tried again before, or one
  -- more; what passed in the last one, the links that were handed back in it, or in the turn, and
  -- the calls so far
  pub record GoesFurther (old now : Books L) (visit next : Visit D U L C M) (s : Start)
      (own : List (Returned L)) : Type 0 where
    pub legs : List (Leg L)
    pub are_legs : AreLegs state start_at (called_to s (log_of next.calls)) legs
    pub passed : Passed
    pub last : List (Returned L)
    pub handed : List (Returned L)
    pub gained : now.returned ≡ more old.returned handed
    pub own_are : own ++ handed ≡ map (λ leg. leg.back) legs ++ last
    pub run : RunSoFar state start_at (called_to (behind s legs) (log_of next.calls)) passed
        (world_of client_state next.client now.faults) last next.phase
    pub calls : CallsSoFar allows mark_of next.calls next.phase

  -- the turn of a request that is under way
  turn_on : (old now : Books L) (visit next : Visit D U L C M)
      (t u : Option (List Fault)) (h k : Option (List Offer)) (i j : Work)
      → TakesTurn old now visit next t u h k i j → (own : List (Returned L))
      → (under : IsUnderWay state start_at client_state allows mark_of old.most old.faults visit
      own)
      → GoesFurther old now visit next under.start own
  turn_on old now visit next t u h k i j turn own under =
      by (turn.steps base under.passed under.last (behind_most s under.legs ∙ under.limit)
      (behind_first s under.legs ∙ under.first) under.calls under.run)
    where
      s : Start
      s = under.start

      base : Start
      base = behind s under.legs

      -- the calls so far go on with those of the turn
      now_calls : CallsSoFar allows mark_of next.calls next.phase
      now_calls = turn.calls base under.passed under.last (behind_most s under.legs ∙ under.limit)
          (behind_first s under.legs ∙ under.first) under.calls under.run

      -- the attempts before were tried again still
      later : AreLegs state start_at (called_to s (log_of next.calls)) under.legs
      later = legs_later state start_at s (log_of visit.calls) (log_of next.calls) under.legs
          turn.front under.are_legs

      by : StepsOn state start_at (called_to base (log_of visit.calls))
          (called_to base (log_of next.calls)) under.passed
          (world_of client_state next.client now.faults) under.last old.returned now.returned t u h
          k (client_state visit.client.link) visit.client.ahead i j visit.phase next.phase
          → GoesFurther old now visit next s own
      by (StepsOn.goes taken) = record {
        legs = under.legs;
        are_legs = later;
        passed = taken.passed;
        last = under.last ++ taken.handed;
        handed = taken.handed;
        gained = taken.gained;
        own_are = ap (λ (l : List (Returned L)). l ++ taken.handed) under.own_are
            ∙ append_assoc (map (λ (leg : Leg L). leg.back) under.legs) under.last taken.handed;
        run = taken.run;
        calls = now_calls;
      }
      by (StepsOn.again taken) = record {
        legs = under.legs ++ taken.leg ∷ [];
        are_legs = legs_more state start_at (called_to s (log_of next.calls)) under.legs taken.leg
            later taken.is_leg
            (subst (λ (b : Start). BeginsAt b taken.leg)
            (sym (behind_called s (log_of next.calls) under.legs)) taken.begins);
        passed = taken.passed;
        last = [];
        handed = taken.leg.back ∷ [];
        gained = taken.gained;
        own_are = ap (λ (l : List (Returned L)). l ++ taken.leg.back ∷ [])
            (under.own_are
            ∙ ap (λ (l : List (Returned L)). map (λ (leg : Leg L). leg.back) under.legs ++ l)
            taken.none
            ∙ append-nil (map (λ (leg : Leg L). leg.back) under.legs))
            ∙ sym (map-append (λ (leg : Leg L). leg.back) under.legs (taken.leg ∷ []))
            ∙ sym (append-nil (map (λ (leg : Leg L). leg.back) (under.legs ++ taken.leg ∷ [])));
        run = subst (λ (b : Start). RunSoFar state start_at (called_to b (log_of next.calls))
            taken.passed (world_of client_state next.client now.faults) [] next.phase)
            (sym (behind_more s under.legs taken.leg)) taken.run;
        calls = now_calls;
      }

  -- a turn behind which the request goes on
  pub goes_on : (before old now : Books L) (visit next : Visit D U L C M)
      (rest : List (Visit D U L C M)) (t u : Option (List Fault)) (h k : Option (List Offer))
      (i j : Work)
      → Serves state start_at client_state allows mark_of before old (visit ∷ rest)
      → TakesTurn old now visit next t u h k i j
      → is_done next.phase next.calls.at ≡ false
      → Serves state start_at client_state allows mark_of before now (next ∷ rest)
  goes_on before old now visit next rest t u h k i j serves turn going =
      let all = serves.under_way in
      let under = all.of_one in
      let taken = turn_on old now visit next t u h k i j turn all.own under in
      record {
        links = serves.links ++ taken.handed;
        ended = subst (λ (n : ℕ). HaveEnded state start_at allows before n now.returned
            (serves.links ++ taken.handed)) (sym turn.counted)
            (ended_gains state start_at allows before old.requests_ended old.returned now.returned
            serves.links taken.handed serves.ended taken.gained);
        under_way = record {
          own = all.own ++ taken.handed;
          rest = all.rest;
          of_one = record {
            start = under.start;
            limit = under.limit ∙ sym turn.most;
            first = under.first ∙ sym turn.first;
            calls = taken.calls;
            legs = taken.legs;
            are_legs = taken.are_legs;
            passed = taken.passed;
            last = taken.last;
            own_are = taken.own_are;
            run = taken.run;
            going = going;
          };
          of_others = others_later old now rest all.rest turn.most turn.faults all.of_others;
          joined = joins all.own all.rest serves.links taken.handed all.joined;
        };
        same_most = turn.most ∙ serves.same_most;
      }

  -- a turn behind which the request has ended
  pub ends_now : (before old now : Books L) (visit next : Visit D U L C M)
      (rest : List (Visit D U L C M)) (t u : Option (List Fault)) (h k : Option (List Offer))
      (i j : Work)
      → Serves state start_at client_state allows mark_of before old (visit ∷ rest)
      → TakesTurn old now visit next t u h k i j
      → is_done next.phase next.calls.at ≡ true
      → EndsOne state start_at client_state allows mark_of before now next rest
  ends_now before old now visit next rest t u h k i j serves turn over =
      let all = serves.under_way in
      let under = all.of_one in
      let taken = turn_on old now visit next t u h k i j turn all.own under in
      record {
        own = all.own ++ taken.handed;
        links = all.rest;
        ended = subst (λ (n : ℕ). HaveEnded state start_at allows before n now.returned
            ((all.own ++ taken.handed) ++ all.rest)) (sym turn.counted)
            (ended_in_order state start_at allows before old.requests_ended now.returned
            (serves.links ++ taken.handed) ((all.own ++ taken.handed) ++ all.rest)
            (IsPermutation-sym ((all.own ++ taken.handed) ++ all.rest)
            (serves.links ++ taken.handed)
            (joins all.own all.rest serves.links taken.handed all.joined))
            (ended_gains state start_at allows before old.requests_ended old.returned now.returned
            serves.links taken.handed serves.ended taken.gained));
        start = under.start;
        calls = taken.calls;
        legs = taken.legs;
        are_legs = taken.are_legs;
        passed = taken.passed;
        last = taken.last;
        own_are = taken.own_are;
        run = taken.run;
        limit = under.limit ∙ serves.same_most;
        over = over;
        under_way = others_later old now rest all.rest turn.most turn.faults all.of_others;
        same_most = turn.most ∙ serves.same_most;
      }

  -- one more request came to its end
  pub comes_to_end : (before old now : Books L) (visit : Visit D U L C M)
      (own links : List (Returned L)) (s : Start) (legs : List (Leg L)) (last : List (Returned L))
      (p : Passed) (x : World) (processed : Processed)
      → s.most ≡ before.most → CallsSoFar allows mark_of visit.calls visit.phase
      → AreLegs state start_at (called_to s (log_of visit.calls)) legs
      → own ≡ map (λ leg. leg.back) legs ++ last
      → HaveEnded state start_at allows before old.requests_ended old.returned (own ++ links)
      → ComesToEnd state start_at (called_to (behind s legs) (log_of visit.calls)) p x last
      old.returned now.returned visit.phase visit.calls.at processed
      → now.requests_ended ≡ ended_after old.requests_ended processed.outcome
      → HaveEnded state start_at allows before now.requests_ended now.returned links
  comes_to_end before old now visit own links s legs last p x processed limit calls are_legs own_are
      ended comes counted =
      let all = own ++ comes.handed in
      let logged = calls_logged allows mark_of visit.calls visit.phase calls in
      subst (λ (n : ℕ). HaveEnded state start_at allows before n now.returned links) (sym counted)
      (one_ended state start_at allows before old.requests_ended now.returned all links
      processed.outcome
      (record {
        start = s;
        limit = limit;
        log = log_of visit.calls;
        station = logged.0;
        logged = logged.1;
        legs = legs;
        are_legs = are_legs;
        passed = p;
        world = x;
        last = last ++ comes.handed;
        own_are = ap (λ (l : List (Returned L)). l ++ comes.handed) own_are
            ∙ append_assoc (map (λ (leg : Leg L). leg.back) legs) last comes.handed;
        attempts = processed.history.attempts;
        came = comes.came;
        ended = comes.ended;
        given = gives_by allows mark_of visit.calls visit.phase comes.came processed.outcome
            comes.comes comes.given calls;
      })
      (ended_in_order state start_at allows before old.requests_ended now.returned
      ((own ++ links) ++ comes.handed) (all ++ links) (add_last own comes.handed links)
      (ended_gains state start_at allows before old.requests_ended old.returned now.returned
      (own ++ links) comes.handed ended comes.gained)))

  -- a server that begins with nobody
  pub first_serves : (before : Books L) (visits : List (Visit D U L C M)) → visits ≡ []
      → Serves state start_at client_state allows mark_of before before visits
  first_serves before visits nobody = record {
    links = [];
    ended = none_ended state start_at allows before;
    under_way = subst (λ (all : List (Visit D U L C M)).
        AreUnderWay state start_at client_state allows mark_of before.most before.faults all [])
        (sym nobody) refl;
    same_most = refl;
  }

  -- a server at which nobody is left
  pub last_serves : (before now : Books L) (visits : List (Visit D U L C M)) → visits ≡ []
      → Serves state start_at client_state allows mark_of before now visits
      → HaveEnded state start_at allows before now.requests_ended now.returned []
  last_serves before now visits nobody serves =
      let none_left : serves.links ≡ [] = subst (λ (all : List (Visit D U L C M)).
      AreUnderWay state start_at client_state allows mark_of now.most now.faults all serves.links)
      nobody
      serves.under_way in
      subst (λ (l : List (Returned L)). HaveEnded state start_at allows before now.requests_ended
      now.returned l) none_left serves.ended

  -- those that are under way beside one that ends stay
  others_same : (old now : Books L) (rest : List (Visit D U L C M)) (links : List (Returned L))
      → now.most ≡ old.most → now.faults ≡ old.faults
      → AreUnderWay state start_at client_state allows mark_of old.most old.faults rest links
      → AreUnderWay state start_at client_state allows mark_of now.most now.faults rest links
  others_same old now rest links limit same under_way =
      subst (λ (n : ℕ). AreUnderWay state start_at client_state allows mark_of n now.faults rest
      links) (sym limit)
      (subst (λ (f : ℕ). AreUnderWay state start_at client_state allows mark_of old.most f rest
      links) (sym same)
      under_way)

  -- the request that has ended is ended
  pub ends_one : (before old now : Books L) (visit : Visit D U L C M)
      (rest : List (Visit D U L C M))
      (x : World) (processed : Processed)
      → EndsOne state start_at client_state allows mark_of before old visit rest
      → ((s : Start) (p : Passed) (own : List (Returned L))
      → RunSoFar state start_at s p (world_of client_state visit.client old.faults) own visit.phase
      → ComesToEnd state start_at s p x own old.returned now.returned visit.phase visit.calls.at
      processed)
      → now.requests_ended ≡ ended_after old.requests_ended processed.outcome
      → now.faults ≡ old.faults → now.most ≡ old.most
      → Serves state start_at client_state allows mark_of before now rest
  ends_one before old now visit rest x processed one comes counted same limit = record {
    links = one.links;
    ended = comes_to_end before old now visit one.own one.links one.start one.legs one.last
        one.passed x processed one.limit one.calls one.are_legs one.own_are one.ended
        (comes (called_to (behind one.start one.legs) (log_of visit.calls)) one.passed one.last
        one.run) counted;
    under_way = others_same old now rest one.links limit same one.under_way;
    same_most = limit ∙ one.same_most;
  }

  -- a request under way is given up
  pub gives_up : (before old now : Books L) (visit : Visit D U L C M)
      (rest : List (Visit D U L C M))
      (x : World) (processed : Processed)
      → Serves state start_at client_state allows mark_of before old (visit ∷ rest)
      → ((s : Start) (p : Passed) (own : List (Returned L))
      → RunSoFar state start_at s p (world_of client_state visit.client old.faults) own visit.phase
      → ComesToEnd state start_at s p x own old.returned now.returned visit.phase visit.calls.at
      processed)
      → now.requests_ended ≡ ended_after old.requests_ended processed.outcome
      → now.faults ≡ old.faults → now.most ≡ old.most
      → Serves state start_at client_state allows mark_of before now rest
  gives_up before old now visit rest x processed serves comes counted same limit =
      let all = serves.under_way in
      let under = all.of_one in
      record {
        links = all.rest;
        ended = comes_to_end before old now visit all.own all.rest under.start under.legs
            under.last under.passed x processed (under.limit ∙ serves.same_most) under.calls
            under.are_legs under.own_are
            (ended_in_order state start_at allows before old.requests_ended old.returned
            serves.links
            (all.own ++ all.rest)
            (IsPermutation-sym (all.own ++ all.rest) serves.links all.joined) serves.ended)
            (comes (called_to (behind under.start under.legs) (log_of visit.calls)) under.passed
            under.last under.run)
            counted;
        under_way = others_same old now rest all.rest limit same all.of_others;
        same_most = limit ∙ serves.same_most;
      }

  -- a request begins
  pub begins : (before now : Books L) (visit : Visit D U L C M) (rest : List (Visit D U L C M))
      (s : Start) (p : Passed) → s.most ≡ now.most → s.first ≡ visit.first
      → called_to s (log_of visit.calls) ≡ s
      → CallsSoFar allows mark_of visit.calls visit.phase
      → RunSoFar state start_at s p (world_of client_state visit.client now.faults) [] visit.phase
      → is_over visit.phase ≡ false → Serves state start_at client_state allows mark_of before now
      rest
      → Serves state start_at client_state allows mark_of before now (visit ∷ rest)
  begins before now visit rest s p limit first called calls run going serves = record {
    links = serves.links;
    ended = serves.ended;
    under_way = record {
      own = [];
      rest = serves.links;
      of_one = record {
        start = s;
        limit = limit;
        first = first;
        calls = calls;
        legs = [];
        are_legs = tt;
        passed = p;
        last = [];
        own_are = refl;
        run = subst (λ (t : Start). RunSoFar state start_at t p
            (world_of client_state visit.client now.faults) [] visit.phase) (sym called) run;
        going = goes_undone visit.phase visit.calls.at going;
      };
      of_others = serves.under_way;
      joined = IsPermutation-refl serves.links;
    };
    same_most = serves.same_most;
  }

module _ {SV K P L C D U M : Type 0}
    (state : L → LinkState) (start_at : L → LinkStart) (client_state : D → LinkState)
    (allows : SV → Standing → LogEntry → Type 0) (modules : M → ModuleCall → Type 0)
    (mark_of : SV → C → ℕ)
    (returned : K → Option (List (Returned L))) (out faults : K → ℕ) where
  -- a server that did nothing
  pub on_same : (p : HttpProxy SV K P) (visits : List (Visit D U L C M))
      → ServesOn state start_at client_state allows modules mark_of returned out faults p p visits
      visits
  on_same p visits = record {
    serves = λ before serves. serves;
    held = refl;
    counted = λ fits. (omega arith, fits);
    same = refl;
  }

  -- a server that went on, and on
  pub on_then : (p q r : HttpProxy SV K P) (here there last : List (Visit D U L C M))
      → ServesOn state start_at client_state allows modules mark_of returned out faults p q here
      there
      → ServesOn state start_at client_state allows modules mark_of returned out faults q r there
      last
      → ServesOn state start_at client_state allows modules mark_of returned out faults p r here
      last
  on_then p q r here there last first second = record {
    serves = λ before serves. second.serves before (first.serves before serves);
    held = omega (arith, first.held, second.held);
    counted = λ fits.
        let one = first.counted fits in
        let two = second.counted one.1 in
        (omega (arith, one.0, two.0), two.1);
    same = second.same ∙ ap (λ (k : HttpProxy SV K P). record k {
      connector = r.connector;
      purger = r.purger;
      requests_ended = r.requests_ended;
    }) first.same;
  }

  -- a server that took one of its requests out
  pub on_taken : (p : HttpProxy SV K P) (place : ℕ) (visit : Visit D U L C M)
      (rest : List (Visit D U L C M))
      → ServesOn state start_at client_state allows modules mark_of returned out faults p p
      (insert rest place visit)
      (visit ∷ rest)
  on_taken p place visit rest = record {
    serves = λ before serves. record {
      links = serves.links;
      ended = serves.ended;
      under_way = take_out state start_at client_state (allowed_by (allows p.inner) modules)
          (mark_of p.inner) p.conf.max_retries (faults p.connector) place
          visit rest serves.links serves.under_way;
      same_most = serves.same_most;
    };
    held = omega (arith, all_held-insert state start_at place visit rest);
    counted = λ fits. (omega arith, fits);
    same = refl;
  }

  -- a server that put its first request at a place
  pub on_put : (p : HttpProxy SV K P) (place : ℕ) (visit : Visit D U L C M)
      (rest : List (Visit D U L C M))
      → ServesOn state start_at client_state allows modules mark_of returned out faults p p
      (visit ∷ rest)
      (insert rest place visit)
  on_put p place visit rest = record {
    serves = λ before serves. record {
      links = serves.links;
      ended = serves.ended;
      under_way = put_in state start_at client_state (allowed_by (allows p.inner) modules)
          (mark_of p.inner) p.conf.max_retries (faults p.connector) place
          visit rest serves.links serves.under_way;
      same_most = serves.same_most;
    };
    held = omega (arith, all_held-insert state start_at place visit rest);
    counted = λ fits. (omega arith, fits);
    same = refl;
  }

  -- a server that put its first request last
  pub on_put_last : (p : HttpProxy SV K P) (visit : Visit D U L C M) (rest : List (Visit D U L C M))
      → ServesOn state start_at client_state allows modules mark_of returned out faults p p
      (visit ∷ rest)
      (rest ++ visit ∷ [])
  on_put_last p visit rest = subst (λ (all : List (Visit D U L C M)).
      ServesOn state start_at client_state allows modules mark_of returned out faults p p
      (visit ∷ rest) all)
      (insert_end rest visit) (on_put p (length rest) visit rest)

  -- a server one of whose requests took a turn and goes on
  pub on_turned : (p q : HttpProxy SV K P) (visit next : Visit D U L C M)
      (rest : List (Visit D U L C M))
      → ((before : Books L)
      → Serves state start_at client_state (allowed_by (allows p.inner) modules)
      (mark_of p.inner) before (books returned faults p) (visit ∷ rest)
      → Serves state start_at client_state (allowed_by (allows q.inner) modules)
      (mark_of q.inner) before (books returned faults q) (next ∷ rest))
      → out q.connector + links_held state start_at visit.phase
      ≡ out p.connector + links_held state start_at next.phase
      → q ≡ record p { connector = q.connector; purger = q.purger }
      → ServesOn state start_at client_state allows modules mark_of returned out faults p q
      (visit ∷ rest) (next ∷ rest)
  on_turned p q visit next rest serves held same = record {
    serves = serves;
    held = omega (arith, held);
    counted = λ fits.
        let stays : q.requests_ended ≡ p.requests_ended =
        ap (λ (k : HttpProxy SV K P). k.requests_ended) same in
        (omega (arith, stays), omega (arith, stays, fits));
    same = same ∙ ap (λ (n : ℕ).
        record p { connector = q.connector; purger = q.purger; requests_ended = n })
        (sym (ap (λ (k : HttpProxy SV K P). k.requests_ended) same));
  }

  -- a server one of whose requests took a turn and was ended
  pub on_ended : (p q r : HttpProxy SV K P) (visit next : Visit D U L C M)
      (rest last : List (Visit D U L C M))
      → ((before : Books L)
      → Serves state start_at client_state (allowed_by (allows p.inner) modules)
      (mark_of p.inner) before (books returned faults p) (visit ∷ rest)
      → EndsOne state start_at client_state (allowed_by (allows q.inner) modules)
      (mark_of q.inner) before (books returned faults q) next rest)
      → out q.connector + links_held state start_at visit.phase
      ≡ out p.connector + links_held state start_at next.phase
      → q ≡ record p { connector = q.connector; purger = q.purger }
      → ((before : Books L)
      → EndsOne state start_at client_state (allowed_by (allows q.inner) modules)
      (mark_of q.inner) before (books returned faults q) next rest
      → Serves state start_at client_state (allowed_by (allows r.inner) modules)
      (mark_of r.inner) before (books returned faults r) last)
      → out r.connector + all_held state start_at (next ∷ rest)
      ≡ out q.connector + all_held state start_at last
      → CountRises q.requests_ended r.requests_ended
      → r ≡ record q {
        connector = r.connector;
        purger = r.purger;
        requests_ended = r.requests_ended;
      }
      → ServesOn state start_at client_state allows modules mark_of returned out faults p r
      (visit ∷ rest) last
  on_ended p q r visit next rest last ends held same serves held_on rises same_on = record {
    serves = λ before now. serves before (ends before now);
    held = omega (arith, held, held_on);
    counted = subst (λ (n : ℕ). CountRises n r.requests_ended)
        (ap (λ (k : HttpProxy SV K P). k.requests_ended) same) rises;
    same = same_on ∙ ap (λ (k : HttpProxy SV K P). record k {
      connector = r.connector;
      purger = r.purger;
      requests_ended = r.requests_ended;
    }) same;
  }

  -- a server that gave a request up
  pub on_given_up : (p q : HttpProxy SV K P) (visit : Visit D U L C M)
      (rest : List (Visit D U L C M))
      → ((before : Books L)
      → Serves state start_at client_state (allowed_by (allows p.inner) modules)
      (mark_of p.inner) before (books returned faults p) (visit ∷ rest)
      → Serves state start_at client_state (allowed_by (allows q.inner) modules)
      (mark_of q.inner) before (books returned faults q) rest)
      → out q.connector + links_held state start_at visit.phase ≡ out p.connector
      → CountRises p.requests_ended q.requests_ended
      → q ≡ record p { connector = q.connector; requests_ended = q.requests_ended }
      → ServesOn state start_at client_state allows modules mark_of returned out faults p q
      (visit ∷ rest) rest
  on_given_up p q visit rest serves held rises same = record {
    serves = serves;
    held = omega (arith, held);
    counted = rises;
    same = same ∙ ap (λ (u : P). record p {
      connector = q.connector;
      purger = u;
      requests_ended = q.requests_ended;
    }) (sym (ap (λ (k : HttpProxy SV K P). k.purger) same));
  }

  -- a server at which a request began
  pub on_begun : (p : HttpProxy SV K P) (visit : Visit D U L C M) (rest : List (Visit D U L C M))
      → ((before : Books L)
      → Serves state start_at client_state (allowed_by (allows p.inner) modules)
      (mark_of p.inner) before (books returned faults p) rest
      → Serves state start_at client_state (allowed_by (allows p.inner) modules)
      (mark_of p.inner) before (books returned faults p) (visit ∷ rest))
      → links_held state start_at visit.phase ≡ 0
      → ServesOn state start_at client_state allows modules mark_of returned out faults p p rest
      (visit ∷ rest)
  on_begun p visit rest serves no_link = record {
    serves = serves;
    held = omega (arith, no_link);
    counted = λ fits. (omega arith, fits);
    same = refl;
  }

  -- a server one of whose requests took a turn, and stays at its place
  pub on_waits : (p q : HttpProxy SV K P) (place : ℕ) (visit next : Visit D U L C M)
      (rest : List (Visit D U L C M))
      → ServesOn state start_at client_state allows modules mark_of returned out faults p q
      (visit ∷ rest) (next ∷ rest)
      → ServesOn state start_at client_state allows modules mark_of returned out faults p q
      (insert rest place visit)
      (insert rest place next)
  on_waits p q place visit next rest turned =
      on_then p p q (insert rest place visit) (visit ∷ rest) (insert rest place next)
      (on_taken p place visit rest)
      (on_then p q q (visit ∷ rest) (next ∷ rest) (insert rest place next) turned
      (on_put q place next rest))

  -- a server one of whose requests took a turn, and is last
  pub on_moves : (p q : HttpProxy SV K P) (place : ℕ) (visit next : Visit D U L C M)
      (rest : List (Visit D U L C M))
      → ServesOn state start_at client_state allows modules mark_of returned out faults p q
      (visit ∷ rest) (next ∷ rest)
      → ServesOn state start_at client_state allows modules mark_of returned out faults p q
      (insert rest place visit)
      (rest ++ next ∷ [])
  on_moves p q place visit next rest turned =
      on_then p p q (insert rest place visit) (visit ∷ rest) (rest ++ next ∷ [])
      (on_taken p place visit rest)
      (on_then p q q (visit ∷ rest) (next ∷ rest) (rest ++ next ∷ []) turned
      (on_put_last q next rest))

  -- a server one of whose requests was taken out, whatever followed
  pub on_leaves : (p q : HttpProxy SV K P) (place : ℕ) (visit : Visit D U L C M)
      (rest last : List (Visit D U L C M))
      → ServesOn state start_at client_state allows modules mark_of returned out faults p q
      (visit ∷ rest) last
      → ServesOn state start_at client_state allows modules mark_of returned out faults p q
      (insert rest place visit) last
  on_leaves p q place visit rest last left =
      on_then p p q (insert rest place visit) (visit ∷ rest) last
      (on_taken p place visit rest) left
