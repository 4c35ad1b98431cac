-- A request between two steps of one call.
use Rattle.std.proofs.Common.{◌≡◌, ◌≢◌, ℕ, ◌+◌, min, ◌≤◌, true, false, List, [], ◌∷◌, ◌++◌, Option, Err, true≢false, ◌⊎◌, refl, sym, ap, subst, ◌∙◌, inl, inr, arith, length, length-append, map, drop, append_assoc, append-nil}
use Rattle.std.proofs.lemmas.List.{drop-append-le}
use Rattle.relay_links.specs.Count.{last_count, up}
use Rattle.relay_connector.specs.Connector.{GetResult, Offer, Takes}
use Rattle.relay_links.specs.Link.{LinkState, LinkStart}
use Rattle.relay_links.specs.Told.{more, Gains}
use Rattle.relay_links.proofs.GainsLemmas.{Gains-nothing, Gains-twice}
use Rattle.relay_connector.specs.declared.Returned.{Returned}
use Rattle.relay_tasks.specs.declared.Fault.{Fault}
use Rattle.relay_tasks.specs.declared.log.LogEntry.{LogEntry}
use Rattle.relay_tasks.specs.declared.took.Pause.TheVariants.{NotReady, Silent}
use Rattle.relay_peer.specs.Body.{IsFrontOf}
use Rattle.relay_attempt.specs.Passed.{Passed}
use Rattle.relay_request.specs.Bound.{IsBounded, IsWithin, LinkGave, OwnGave, PhaseCounts, most_sides, sides_before}
use Rattle.relay_request.specs.Closing.{IsQuiet}
use Rattle.relay_request.specs.ClosingHooks.{Gives}
use Rattle.relay_request.specs.Endings.{IsEnded}
use Rattle.relay_request.specs.Exact.{IsExact}
use Rattle.relay_request.specs.Legs.{AreLegs, BeginsAt, Leg, LegsUse, LegsWithin, behind, rebased, taken_by, taken_in, taken_to}
use Rattle.relay_request.specs.Passed.{World, Start, called_to, opened_to, start_of, nothing}
use Rattle.relay_request.specs.Taken.{offers_before, offers_for}
use Rattle.relay_request.specs.Phases.{RunSoFar}
use Rattle.relay_request.specs.Refusals.{attempts_in, faults_for, faults_before, faults_told}
use Rattle.relay_request.specs.Stock.{items_held}
use Rattle.relay_request.specs.Request.{is_done, is_stop, BeginsAgain, CameTo, Counts, GoesOn, StepsOn, ComesToEnd, Processes}
use Rattle.relay_request.specs.Turn.{IsStalled, HasCause, links_held, is_end}
use Rattle.relay_request.specs.Uses.{PhaseUses, OwnUses, LinkCounts, StepCounts, CountsAll, ups}
use Rattle.relay_request.specs.declared.machine.Machine.{Machine}
use Rattle.relay_request.specs.declared.calls.At.{At}
use Rattle.relay_request.specs.declared.machine.Phase.{Phase}
use Rattle.relay_request.specs.declared.machine.Phase.TheVariants.{ReadHead, Connect, Unlinked, Prepare, Relay, Broken, Again, Fail, Close, Answer, Ended}
use Rattle.relay_request.specs.declared.outcome.Outcome.{Outcome}
use Rattle.relay_request.specs.declared.machine.RunStep.{RunStep}
use Rattle.relay_request.specs.declared.machine.RunStep.TheVariants as step
use Rattle.relay_request.specs.declared.outcome.Outcome.TheVariants.{TurnLimit}
use Rattle.relay_request.specs.declared.outcome.Processed.{Processed}
use Rattle.relay_request.specs.declared.record.AttemptRecord.{AttemptRecord}
use Rattle.relay_request.specs.declared.work.Work.{Work}
use Rattle.relay_request.specs.Work.{total_work}
use Rattle.relay_turns.proofs.LegLemmas.{backs_more, behind_called, behind_more, behind_most, legs_later, legs_more, taken_more, use_more, within_more}
use Rattle.relay_turns.proofs.TryLemmas.{at_most}
use Rattle.relay_turns.proofs.StepLemmas.{more-nil, more-more}
use Rattle.relay_turns.proofs.CountLemmas.{ups_twice, min_twice}
use Rattle.relay_turns.proofs.ExactLemmas.{exact_of}
use Rattle.relay_turns.proofs.TurnLemmas.{unlinked_asked, unlinked_items}
use Rattle.relay_turns.proofs.TakenLemmas.{takes_nothing, takes_twice}

-- a step after which the call goes on is counted
pub one_more : (before after : ℕ) (did : RunStep) → Counts before after did
    → is_stop did ≡ false → after ≡ up before
one_more before after step.Moved counts goes = counts
one_more before after (step.Waited NotReady) counts goes = counts
one_more before after (step.Waited Silent) counts goes = absurd (true≢false goes)
one_more before after step.Ended counts goes = absurd (true≢false goes)

-- a step after which the call goes on did not end the request
pub no_end : (did : RunStep) → is_stop did ≡ false → is_end did ≡ false
no_end step.Moved goes = refl
no_end (step.Waited NotReady) goes = refl
no_end (step.Waited Silent) goes = absurd (true≢false goes)
no_end step.Ended goes = absurd (true≢false goes)

module _ {L : Type 0} (state : L → LinkState) (start_at : L → LinkStart) where
  -- what is recorded is no more than what was counted
  bounded_by : (s : Start) (client : LinkState) (own : List (Returned L)) (processed : Processed)
      (turns : ℕ) (work : Work) (earlier_tasks earlier_ends tasks ends : ℕ)
      → processed.history.turns_taken ≡ turns
      → processed.history.items_used ≡ work.used → processed.history.tasks_moved ≡ work.moved
      → processed.history.sides_ended ≡ work.ended → turns ≤ total_work work
      → work.called ≤ length processed.history.log → work.moved ≤ earlier_tasks + tasks
      → work.ended ≤ earlier_ends + ends
      → IsWithin tasks ends (most_sides (length processed.history.attempts)) s client
      (OwnGave state start_at own)
      → IsBounded state start_at s client earlier_tasks earlier_ends own processed.history
  bounded_by s client own processed turns work earlier_tasks earlier_ends tasks ends taken used
      moved sides worked logged tasks_fit ends_fit within = record {
        worked = omega (arith, taken, used, moved, sides, worked, logged);
        tasks = tasks;
        ends = ends;
        moved = omega (arith, moved, tasks_fit);
        ended = omega (arith, sides, ends_fit);
        within = within;
      }

-- what a request took that was refused a link with these, and holds none
abbrev refused_with : List Fault → List GetResult
refused_with faults = map Err faults ++ []

-- behind them that is nothing
none_behind : (faults : List Fault) → drop (length faults) (refused_with faults) ≡ []
none_behind [] = refl
none_behind (fault ∷ faults) = none_behind faults

-- it is as many
as_long : (faults : List Fault) → length faults ≤ length (refused_with faults)
as_long [] = omega arith
as_long (fault ∷ faults) = let rest = as_long faults in omega (arith, rest)

-- what was taken behind so many goes on by what is taken
taken_on : (earlier : List GetResult) (n : ℕ) (had more_taken : List GetResult) → n ≤ length had
    → earlier ++ drop n (had ++ more_taken) ≡ (earlier ++ drop n had) ++ more_taken
taken_on earlier n had more_taken fits =
    ap (λ (os : List GetResult). earlier ++ os) (drop-append-le n had more_taken fits)
    ∙ sym (append_assoc earlier (drop n had) more_taken)

module _ {L C : Type 0} (state : L → LinkState) (start_at : L → LinkStart) where
  -- all uses so far were counted: those of the client's link, those of the request's own, and so
  -- many of links that it had before
  pub record UsesSoFar (first last : LinkState) (earlier : ℕ) (own : List (Returned L))
      (phase : Phase L C) (counted : ℕ) : Type 0 where
    pub client : ℕ
    pub upstream : ℕ
    pub client_rose : last.used ≡ ups client first.used
    pub upstream_rose : PhaseUses state start_at upstream own phase
    pub all : counted ≡ min (client + (earlier + upstream)) last_count

  -- those of one more step
  used_on : (first before last : LinkState) (earlier : ℕ) (own now : List (Returned L))
      (phase next : Phase L C) (counted counts : ℕ)
      (so_far : UsesSoFar first before earlier own phase counted)
      → StepCounts state start_at so_far.upstream before last counted counts now next
      → UsesSoFar first last earlier now next counts
  used_on first before last earlier own now phase next counted counts so_far step = record {
    client = step.turn.of_client + so_far.client;
    upstream = step.turn.of_own + so_far.upstream;
    client_rose = step.turn.client_rose
        ∙ ap (λ (k : ℕ). ups step.turn.of_client k) so_far.client_rose
        ∙ ups_twice step.turn.of_client so_far.client first.used;
    upstream_rose = step.turn.own_rose;
    all = min_twice so_far.client earlier so_far.upstream step.turn.of_client step.turn.of_own
        counted step.used counts so_far.all step.turn.all step.adds;
  }

  -- those of one behind which another attempt follows, which has no link yet
  used_again : (first before last : LinkState) (earlier : ℕ) (own : List (Returned L))
      (phase next : Phase L C) (counted counts : ℕ) (link : L)
      (so_far : UsesSoFar first before earlier own phase counted)
      (step : LinkCounts state start_at so_far.upstream before last counted counts link)
      → PhaseUses state start_at 0 [] next
      → UsesSoFar first last (earlier + (step.of_own + so_far.upstream)) [] next counts
  used_again first before last earlier own phase next counted counts link so_far step unused =
      record {
        client = step.of_client + so_far.client;
        upstream = 0;
        client_rose = step.client_rose
            ∙ ap (λ (k : ℕ). ups step.of_client k) so_far.client_rose
            ∙ ups_twice step.of_client so_far.client first.used;
        upstream_rose = unused;
        all = omega (arith, so_far.all, step.adds);
      }

  -- those of a request that came to its end
  all_used : (first last : LinkState) (earlier : ℕ) (own now : List (Returned L))
      (phase : Phase L C) (counted items : ℕ)
      (so_far : UsesSoFar first last earlier own phase counted)
      → ((n : ℕ) → PhaseUses state start_at n own phase → OwnUses state start_at n now)
      → items ≡ counted → CountsAll state start_at first last earlier now items
  all_used first last earlier own now phase counted items so_far ends is = record {
    client = so_far.client;
    upstream = so_far.upstream;
    client_rose = so_far.client_rose;
    upstream_rose = ends so_far.upstream so_far.upstream_rose;
    all = is ∙ so_far.all;
  }

  -- the run so far since the call began, with the calls of that log: the attempts that were tried
  -- again, and the last one behind them; and the turns that were taken
  pub record IsUnderWay
      (s : Start) (log : List LogEntry) (w : World) (before now : Option (List (Returned L)))
      (told_before told_now : Option (List Fault)) (had has : Option (List Offer))
      (first : LinkState) (m : Machine L C) (turns : ℕ) : Type 0 where
    pub legs : List (Leg L)
    pub are_legs : AreLegs state start_at (called_to s log) legs
    pub passed : Passed
    pub own : List (Returned L)
    pub gained : now ≡ more before (map (λ (leg : Leg L). leg.back) legs ++ own)
    pub run : RunSoFar state start_at (called_to (behind s legs) log) passed w own m.phase
    pub refused : Gains told_before (faults_before own m.phase) told_now
    pub tells : length (faults_told (behind s legs).tried)
        ≤ length (offers_before start_at own m.phase)
    pub offered : Takes had (taken_by start_at legs
        ++ drop (length (faults_told (behind s legs).tried))
        (offers_before start_at own m.phase)) has
    pub used : ℕ
    pub legs_used : LegsUse state start_at used legs
    pub uses : UsesSoFar first w.client used own m.phase m.work.used
    -- so many tasks were moved, and so many ends came; the counts stand still at their last value
    pub earlier_tasks : ℕ
    pub earlier_ends : ℕ
    pub legs_within : LegsWithin state start_at earlier_tasks earlier_ends legs
    pub tasks : ℕ
    pub ends : ℕ
    pub bounded : PhaseCounts state start_at tasks ends (called_to (behind s legs) log) w.client
        w.ahead own m.phase
    pub tasks_fit : m.work.moved ≤ earlier_tasks + tasks
    pub ends_fit : m.work.ended ≤ earlier_ends + ends
    pub counted : m.turns ≡ turns

  -- what was counted stands where the client does
  still_counts : (tasks ends : ℕ) (s : Start) (w x : World) (own : List (Returned L))
      (phase : Phase L C) → x.client ≡ w.client → x.ahead ≡ w.ahead
      → PhaseCounts state start_at tasks ends s w.client w.ahead own phase
      → PhaseCounts state start_at tasks ends s x.client x.ahead own phase
  still_counts tasks ends s w x own phase same kept counts =
      subst (λ (xs : List ℕ). PhaseCounts state start_at tasks ends s x.client xs own phase)
      (sym kept)
      (subst (λ (c : LinkState). PhaseCounts state start_at tasks ends s c w.ahead own phase)
      (sym same) counts)

  -- a request without an attempt, that holds no link, took nothing
  none_taken : (phase : Phase L C) → attempts_in phase ≡ [] → items_held start_at phase ≡ []
      → offers_before start_at [] phase ≡ []
  none_taken phase none bare = rw (none, bare) refl

  -- a request that was just begun
  pub begun : (most : ℕ) (w x : World) (before now : Option (List (Returned L)))
      (told_before told_now : Option (List Fault)) (had has : Option (List Offer))
      (first : LinkState) (m : Machine L C) → now ≡ before
      → told_now ≡ told_before → has ≡ had
      → RunSoFar state start_at (start_of most w) nothing x [] m.phase
      → attempts_in m.phase ≡ [] → links_held state start_at m.phase ≡ 0 → m.turns ≡ 0
      → x.client ≡ first → m.work.used ≡ 0 → m.work.moved ≡ 0 → m.work.ended ≡ 0
      → PhaseCounts state start_at 0 0 (start_of most w) x.client x.ahead [] m.phase
      → IsUnderWay (start_of most w) [] x before now told_before told_now had has first m 0
  begun most w x before now told_before told_now had has first m same told kept run unmade
      unlinked none is unused unmoved unended first_bound =
      record {
        legs = [];
        are_legs = tt;
        passed = nothing;
        own = [];
        gained = same ∙ more-nil before;
        run = run;
        refused = subst (λ (fs : List Fault). Gains told_before fs told_now)
            (sym (ap (λ (l : List AttemptRecord). faults_for {L = L} [] l) unmade))
            (Gains-nothing told_before told_now told);
        tells = omega arith;
        offered = takes_nothing (offers_before start_at [] m.phase) had has
            (none_taken m.phase unmade (unlinked_items state start_at m.phase unlinked)) kept;
        used = 0;
        legs_used = refl;
        uses = record {
          client = 0;
          upstream = 0;
          client_rose = ap (λ (l : LinkState). l.used) is;
          upstream_rose = unlinked_asked state start_at 0 [] m.phase unlinked refl;
          all = unused;
        };
        earlier_tasks = 0;
        earlier_ends = 0;
        legs_within = (refl, refl);
        tasks = 0;
        ends = 0;
        bounded = first_bound;
        tasks_fit = omega (arith, unmoved);
        ends_fit = omega (arith, unended);
        counted = none;
      }

  -- one more step of the same attempt
  goes_under : (s : Start) (old new : List LogEntry) (w x : World)
      (before now after : Option (List (Returned L)))
      (t u v : Option (List Fault)) (h k l : Option (List Offer)) (first : LinkState)
      (m n : Machine L C) (turns taken : ℕ)
      (under : IsUnderWay s old w before now t u h k first m turns) → IsFrontOf old new
      → GoesOn state start_at (called_to (behind s under.legs) old)
      (called_to (behind s under.legs) new) under.passed x under.own now after u v k l w.client
      w.ahead m.work n.work m.phase n.phase
      → n.turns ≡ taken → IsUnderWay s new x before after t v h l first n taken
  goes_under s old new w x before now after t u v h k l first m n turns taken under front steps
      is =
      let tried : ℕ = length (faults_told (behind s under.legs).tried) in
      let backs : List (Returned L) = map (λ (leg : Leg L). leg.back) under.legs in
      let had : List GetResult = offers_before start_at under.own m.phase in
      record {
        legs = under.legs;
        are_legs = legs_later state start_at s old new under.legs front under.are_legs;
        passed = steps.passed;
        own = under.own ++ steps.handed;
        gained = steps.gained
            ∙ ap (λ (t : Option (List (Returned L))). more t steps.handed) under.gained
            ∙ more-more before (backs ++ under.own) steps.handed
            ∙ ap (λ (rs : List (Returned L)). more before rs)
            (append_assoc backs under.own steps.handed);
        run = steps.run;
        refused = subst (λ (fs : List Fault). Gains t fs v) steps.refused.are
            (Gains-twice t u v (faults_before under.own m.phase) steps.refused.faults under.refused
            steps.refused.gained);
        tells = omega (
          arith,
          under.tells,
          length-append had steps.offered.taken,
          ap (λ (os : List GetResult). length os) steps.offered.are,
        );
        offered = subst (λ (os : List GetResult). Takes h (taken_by start_at under.legs
            ++ drop tried os) l) steps.offered.are
            (subst (λ (os : List GetResult). Takes h os l)
            (sym (taken_on (taken_by start_at under.legs) tried had steps.offered.taken
            under.tells)) (takes_twice h k l (taken_by start_at under.legs ++ drop tried had)
            steps.offered.taken
            under.offered steps.offered.takes));
        used = under.used;
        legs_used = under.legs_used;
        uses = used_on first w.client x.client under.used under.own (under.own ++ steps.handed)
            m.phase n.phase m.work.used n.work.used under.uses
            (steps.uses under.uses.upstream under.uses.upstream_rose);
        earlier_tasks = under.earlier_tasks;
        earlier_ends = under.earlier_ends;
        legs_within = under.legs_within;
        tasks = steps.work.moved + under.tasks;
        ends = steps.work.ended + under.ends;
        bounded = steps.bounded under.tasks under.ends under.bounded;
        tasks_fit = omega (arith, ap (λ (k : Work). k.moved) steps.adds, under.tasks_fit);
        ends_fit = omega (arith, ap (λ (k : Work). k.ended) steps.adds, under.ends_fit);
        counted = is;
      }

  -- one behind which another attempt follows
  again_under : (s : Start) (old new : List LogEntry) (w x : World)
      (before now after : Option (List (Returned L)))
      (t u v : Option (List Fault)) (h k l : Option (List Offer)) (first : LinkState)
      (m n : Machine L C) (turns taken : ℕ)
      (under : IsUnderWay s old w before now t u h k first m turns) → IsFrontOf old new
      → BeginsAgain state start_at (called_to (behind s under.legs) old)
      (called_to (behind s under.legs) new) x under.own now after u v k l w.client w.ahead m.work
      n.work m.phase n.phase
      → n.turns ≡ taken → IsUnderWay s new x before after t v h l first n taken
  again_under s old new w x before now after t u v h k l first m n turns taken under front steps
      is =
      let leg : Leg L = steps.leg in
      let legs : List (Leg L) = under.legs in
      let at : Start = called_to (behind s legs) new in
      let tried : ℕ = length (faults_told (behind s legs).tried) in
      let backs : List (Returned L) = map (λ (k : Leg L). k.back) legs in
      let had : List GetResult = offers_before start_at [] m.phase in
      let attempts : List AttemptRecord = leg.tries ++ leg.attempt ∷ [] in
      let uses_had : PhaseUses state start_at under.uses.upstream [] m.phase =
      subst (λ (rs : List (Returned L)). PhaseUses state start_at under.uses.upstream rs m.phase)
      steps.none under.uses.upstream_rose in
      let counts = steps.uses under.uses.upstream uses_had in
      let within = steps.bounded under.tasks under.ends
      (subst (λ (rs : List (Returned L)). PhaseCounts state start_at under.tasks under.ends
      (called_to (behind s legs) old) w.client w.ahead rs m.phase) steps.none under.bounded) in
      let took : had ++ steps.taken ≡ taken_to start_at leg = steps.offered in
      let fits : tried ≤ length had =
      subst (λ (rs : List (Returned L)). tried ≤ length (offers_before start_at rs m.phase))
      steps.none under.tells in
      let start_tried : leg.start.tried ≡ (behind s legs).tried =
      ap (λ (q : Start). q.tried) steps.begins.is_start in
      let taken_now : taken_in start_at leg ≡ drop tried had ++ steps.taken =
      ap (λ (xs : List AttemptRecord). drop (length (faults_told xs)) (taken_to start_at leg))
      start_tried
      ∙ ap (λ (os : List GetResult). drop tried os) (sym took)
      ∙ drop-append-le tried had steps.taken fits in
      let nothing_left : drop (length (faults_told attempts)) (offers_before start_at [] n.phase)
      ≡ [] =
      ap (λ (p : Phase L C). drop (length (faults_told attempts)) (offers_before start_at [] p))
      steps.connects
      ∙ none_behind (faults_told attempts) in
      let all_taken : taken_by start_at (legs ++ leg ∷ [])
      ++ drop (length (faults_told attempts)) (offers_before start_at [] n.phase)
      ≡ (taken_by start_at legs ++ drop tried had) ++ steps.taken =
      ap (λ (os : List GetResult). taken_by start_at (legs ++ leg ∷ []) ++ os) nothing_left
      ∙ append-nil (taken_by start_at (legs ++ leg ∷ []))
      ∙ taken_more start_at legs leg
      ∙ ap (λ (os : List GetResult). taken_by start_at legs ++ os) taken_now
      ∙ sym (append_assoc (taken_by start_at legs) (drop tried had) steps.taken) in
      let more_legs : behind s (legs ++ leg ∷ []) ≡ rebased (behind s legs) leg =
      behind_more s legs leg in
      let more_tried : (behind s (legs ++ leg ∷ [])).tried ≡ attempts =
      ap (λ (q : Start). q.tried) more_legs in
      record {
        legs = legs ++ leg ∷ [];
        are_legs = legs_more state start_at (called_to s new) legs leg
            (legs_later state start_at s old new legs front under.are_legs) steps.is_leg
            (subst (λ (q : Start). BeginsAt q leg) (sym (behind_called s new legs)) steps.begins);
        passed = steps.passed;
        own = [];
        gained = steps.gained
            ∙ ap (λ (t : Option (List (Returned L))). more t (leg.back ∷ [])) under.gained
            ∙ ap (λ (rs : List (Returned L)). more (more before (backs ++ rs)) (leg.back ∷ []))
            steps.none
            ∙ ap (λ (rs : List (Returned L)). more (more before rs) (leg.back ∷ []))
            (append-nil backs)
            ∙ more-more before backs (leg.back ∷ [])
            ∙ ap (λ (rs : List (Returned L)). more before rs)
            (sym (backs_more legs leg) ∙ sym (append-nil _));
        run = subst (λ (q : Start). RunSoFar state start_at (called_to q new) steps.passed x []
            n.phase) (sym more_legs) steps.run;
        refused = subst (λ (fs : List Fault). Gains t fs v) steps.refused.are
            (Gains-twice t u v (faults_before [] m.phase) steps.refused.faults
            (subst (λ (rs : List (Returned L)). Gains t (faults_before rs m.phase) u) steps.none
            under.refused) steps.refused.gained);
        tells = subst (λ (xs : List AttemptRecord). length (faults_told xs)
            ≤ length (offers_before start_at [] n.phase)) (sym more_tried)
            (subst (λ (p : Phase L C). length (faults_told attempts)
            ≤ length (offers_before start_at [] p)) (sym steps.connects)
            (as_long (faults_told attempts)));
        offered = subst (λ (xs : List AttemptRecord). Takes h (taken_by start_at (legs ++ leg ∷ [])
            ++ drop (length (faults_told xs)) (offers_before start_at [] n.phase)) l)
            (sym more_tried)
            (subst (λ (os : List GetResult). Takes h os l) (sym all_taken)
            (takes_twice h k l (taken_by start_at legs ++ drop tried had) steps.taken
            (subst (λ (rs : List (Returned L)). Takes h (taken_by start_at legs
            ++ drop tried (offers_before start_at rs m.phase)) k) steps.none under.offered)
            steps.takes));
        used = under.used + (counts.of_own + under.uses.upstream);
        legs_used =
            use_more state start_at under.used (counts.of_own + under.uses.upstream) legs leg
            under.legs_used counts.own_rose;
        uses = used_again first w.client x.client under.used under.own m.phase n.phase m.work.used
            n.work.used leg.back.link under.uses counts steps.unused;
        earlier_tasks = under.earlier_tasks + (steps.work.moved + under.tasks);
        earlier_ends = under.earlier_ends + (steps.work.ended + under.ends);
        legs_within = within_more state start_at under.earlier_tasks under.earlier_ends
            (steps.work.moved + under.tasks) (steps.work.ended + under.ends) legs leg
            under.legs_within
            (subst (λ (q : Start). IsWithin (steps.work.moved + under.tasks)
            (steps.work.ended + under.ends) (sides_before (1 + length leg.tries)) q leg.client
            (LinkGave state start_at leg.back.link)) (sym steps.begins.is_start)
            (subst (λ (c : LinkState). IsWithin (steps.work.moved + under.tasks)
            (steps.work.ended + under.ends) (sides_before (1 + length leg.tries))
            (opened_to at leg.start.called) c (LinkGave state start_at leg.back.link))
            (sym steps.stands) (record {
              came = within.came;
              got = within.got;
              client_gave = within.client_gave;
              own_gave = within.own_gave;
              tasks_within = within.tasks_within;
              ends_within = within.ends_within;
            })));
        tasks = 0;
        ends = 2 + length leg.tries;
        bounded = subst (λ (q : Start). PhaseCounts state start_at 0 (2 + length leg.tries)
            (called_to q new) x.client x.ahead [] n.phase) (sym more_legs) steps.counts;
        tasks_fit = omega (arith, ap (λ (k : Work). k.moved) steps.adds, under.tasks_fit);
        ends_fit = omega (arith, ap (λ (k : Work). k.ended) steps.adds, under.ends_fit);
        counted = is;
      }

  -- one more step
  pub steps_under : (s : Start) (old new : List LogEntry) (w x : World)
      (before now after : Option (List (Returned L)))
      (t u v : Option (List Fault)) (h k l : Option (List Offer)) (first : LinkState)
      (m n : Machine L C) (turns taken : ℕ)
      (under : IsUnderWay s old w before now t u h k first m turns) → IsFrontOf old new
      → StepsOn state start_at (called_to (behind s under.legs) old)
      (called_to (behind s under.legs) new) under.passed x under.own now after u v k l w.client
      w.ahead m.work n.work m.phase n.phase
      → n.turns ≡ taken → IsUnderWay s new x before after t v h l first n taken
  steps_under s old new w x before now after t u v h k l first m n turns taken under front
      (StepsOn.goes goes) is =
      goes_under s old new w x before now after t u v h k l first m n turns taken under front goes
      is
  steps_under s old new w x before now after t u v h k l first m n turns taken under front
      (StepsOn.again again) is =
      again_under s old new w x before now after t u v h k l first m n turns taken under front again
      is

  -- one more step that is counted
  pub goes_on : (s : Start) (old new : List LogEntry) (w x : World)
      (before now after : Option (List (Returned L)))
      (t u v : Option (List Fault)) (h k l : Option (List Offer)) (first : LinkState)
      (m n : Machine L C) (turns : ℕ)
      (under : IsUnderWay s old w before now t u h k first m turns) → IsFrontOf old new
      → StepsOn state start_at (called_to (behind s under.legs) old)
      (called_to (behind s under.legs) new) under.passed x under.own now after u v k l w.client
      w.ahead m.work n.work m.phase n.phase
      → n.turns ≡ up m.turns → turns + 1 ≤ last_count
      → IsUnderWay s new x before after t v h l first n (turns + 1)
  goes_on s old new w x before now after t u v h k l first m n turns under front steps one few =
      steps_under s old new w x before now after t u v h k l first m n turns (turns + 1) under front
      steps (omega (arith, one, few, under.counted))

  -- a request of which all is silent has not ended
  stalled_limit : (w : World) (phase : Phase L C) (came : Outcome) → CameTo phase came
      → IsStalled state start_at w phase → came ≡ TurnLimit
  stalled_limit w ReadHead came is stalled = is
  stalled_limit w (Connect context session tries) came is stalled = absurd stalled
  stalled_limit w (Unlinked context session attempts error) came is stalled = absurd stalled
  stalled_limit w (Prepare context session link lease) came is stalled = absurd stalled
  stalled_limit w (Relay a) came is stalled = is
  stalled_limit w (Broken context session link lease keep e) came is stalled = is
  stalled_limit w (Again context session link lease keep e) came is stalled = absurd stalled
  stalled_limit w (Fail link lease keep session e) came is stalled = absurd stalled
  stalled_limit w (Close link lease keep outcome) came is stalled = absurd stalled
  stalled_limit w (Answer session owed attempts) came is stalled = is
  stalled_limit w (Ended outcome attempts) came is stalled = absurd stalled

  -- the end of a request
  all_ends : (s : Start) (log : List LogEntry) (w x : World)
      (before now after : Option (List (Returned L)))
      (t u v : Option (List Fault)) (h k l : Option (List Offer)) (first : LinkState)
      (m : Machine L C) {K : Type 0} (here : At K C) (turns most : ℕ) (processed : Processed)
      (under : IsUnderWay s log w before now t u h k first m turns)
      (ends : ComesToEnd state start_at (called_to (behind s under.legs) log) under.passed x
      under.own now after m.phase here processed)
      → Gives processed.history.log ends.came processed.outcome
      → v ≡ u → l ≡ k → processed.history.turns_taken ≡ m.turns → x.client ≡ w.client
      → x.ahead ≡ w.ahead
      → processed.history.items_used ≡ m.work.used
      → processed.history.tasks_moved ≡ m.work.moved
      → processed.history.sides_ended ≡ m.work.ended → m.turns ≤ total_work m.work
      → m.work.called ≤ length processed.history.log
      → (processed.outcome ≡ TurnLimit → (processed.history.turns_taken ≡ most)
      ⊎ IsQuiet state start_at (called_to (behind s under.legs) log) under.passed x
      (under.own ++ ends.handed))
      → Processes state start_at (called_to s log) x before after t v h l first most processed
  all_ends s log w x before now after t u v h k l first m here turns most processed under ends gives
      told kept taken same kept_ahead items tasks sides worked logged limit =
      let at : Start = called_to (behind s under.legs) log in
      let is : behind (called_to s log) under.legs ≡ at = behind_called s log under.legs in
      let backs : List (Returned L) = map (λ (leg : Leg L). leg.back) under.legs in
      let own : List (Returned L) = under.own ++ ends.handed in
      let attempts : List AttemptRecord = processed.history.attempts in
      record {
        legs = under.legs;
        are_legs = under.are_legs;
        passed = under.passed;
        own = own;
        gained = ends.gained
            ∙ ap (λ (t : Option (List (Returned L))). more t ends.handed) under.gained
            ∙ more-more before (backs ++ under.own) ends.handed
            ∙ ap (λ (rs : List (Returned L)). more before rs)
            (append_assoc backs under.own ends.handed);
        came = ends.came;
        ended =
            subst (λ (q : Start). IsEnded state start_at q under.passed x own attempts ends.came)
            (sym is) ends.ended;
        given = gives;
        refused = subst (λ (fs : List Fault). Gains t fs v) (sym ends.refused)
            (subst (λ (o : Option (List Fault)). Gains t (faults_before under.own m.phase) o)
            (sym told) under.refused);
        offered = subst (λ (q : Start). Takes h (taken_by start_at under.legs
            ++ drop (length (faults_told q.tried)) (offers_for start_at own attempts)) l) (sym is)
            (subst (λ (os : List GetResult). Takes h (taken_by start_at under.legs
            ++ drop (length (faults_told (behind s under.legs).tried)) os) l) (sym ends.offered)
            (subst (λ (o : Option (List Offer)). Takes h (taken_by start_at under.legs
            ++ drop (length (faults_told (behind s under.legs).tried))
            (offers_before start_at under.own m.phase)) o) (sym kept) under.offered));
        used = under.used;
        legs_used = under.legs_used;
        uses = all_used first x.client under.used under.own own m.phase m.work.used
            processed.history.items_used
            (subst (λ (c : LinkState).
            UsesSoFar first c under.used under.own m.phase m.work.used) (sym same) under.uses)
            ends.uses items;
        tasks = under.earlier_tasks;
        ends = under.earlier_ends;
        legs_within = under.legs_within;
        bounded = subst (λ (q : Start). IsBounded state start_at q x.client under.earlier_tasks
            under.earlier_ends own processed.history) (sym is)
            (bounded_by state start_at at x.client own processed m.turns m.work under.earlier_tasks
            under.earlier_ends under.tasks under.ends taken items tasks sides worked logged
            under.tasks_fit under.ends_fit (ends.bounded under.tasks under.ends
            (still_counts under.tasks under.ends at w x under.own m.phase same kept_ahead
            under.bounded)));
        attempts = λ some. subst (λ (n : ℕ). length attempts ≤ n) (behind_most s under.legs)
            (at_most state start_at at under.passed x own attempts ends.came ends.ended.ends
            (subst (λ (n : ℕ). 1 ≤ n) (sym (behind_most s under.legs)) some));
        exact =
            subst (λ (q : Start). IsExact state start_at q under.passed x own ends.came) (sym is)
            (exact_of state start_at at under.passed x own attempts ends.came ends.ended);
        limit = λ ran. subst (λ (q : Start). (processed.history.turns_taken ≡ most)
            ⊎ IsQuiet state start_at q under.passed x own) (sym is) (limit ran);
      }

  -- the end of a request whose turns were all taken
  pub all_taken : (s : Start) (log : List LogEntry) (w x : World)
      (before now after : Option (List (Returned L)))
      (t u v : Option (List Fault)) (h k l : Option (List Offer)) (first : LinkState)
      (m : Machine L C) {K : Type 0} (here : At K C) (turns most : ℕ) (processed : Processed)
      (under : IsUnderWay s log w before now t u h k first m turns) → most ≡ turns
      → (ends : ComesToEnd state start_at (called_to (behind s under.legs) log) under.passed x
      under.own now after m.phase here processed)
      → Gives processed.history.log ends.came processed.outcome
      → v ≡ u → l ≡ k → processed.history.turns_taken ≡ m.turns → x.client ≡ w.client
      → x.ahead ≡ w.ahead
      → processed.history.items_used ≡ m.work.used
      → processed.history.tasks_moved ≡ m.work.moved
      → processed.history.sides_ended ≡ m.work.ended → m.turns ≤ total_work m.work
      → m.work.called ≤ length processed.history.log
      → Processes state start_at (called_to s log) x before after t v h l first most processed
  all_taken s log w x before now after t u v h k l first m here turns most processed under all ends
      gives told kept taken same kept_ahead items tasks sides worked logged =
      all_ends s log w x before now after t u v h k l first m here turns most processed under ends
      gives told kept taken same kept_ahead items tasks sides worked logged
      (λ is. inl (taken ∙ under.counted ∙ sym all))

  -- the end of a request after a step that ended it, or that met silence
  pub stopped : (s : Start) (log : List LogEntry) (w x : World)
      (before now after : Option (List (Returned L)))
      (t u v : Option (List Fault)) (h k l : Option (List Offer)) (first : LinkState)
      (m : Machine L C) {K : Type 0} (here : At K C) (turns most : ℕ) (processed : Processed)
      (under : IsUnderWay s log w before now t u h k first m turns)
      (ends : ComesToEnd state start_at (called_to (behind s under.legs) log) under.passed x
      under.own now after m.phase here processed)
      → Gives processed.history.log ends.came processed.outcome
      → v ≡ u → l ≡ k → (processed.outcome ≡ TurnLimit → IsStalled state start_at x m.phase)
      → processed.history.turns_taken ≡ m.turns → x.client ≡ w.client → x.ahead ≡ w.ahead
      → processed.history.items_used ≡ m.work.used
      → processed.history.tasks_moved ≡ m.work.moved
      → processed.history.sides_ended ≡ m.work.ended → m.turns ≤ total_work m.work
      → m.work.called ≤ length processed.history.log
      → Processes state start_at (called_to s log) x before after t v h l first most processed
  stopped s log w x before now after t u v h k l first m here turns most processed under ends gives
      told kept stalled taken same kept_ahead items tasks sides worked logged =
      all_ends s log w x before now after t u v h k l first m here turns most processed under ends
      gives told kept taken same kept_ahead items tasks sides worked logged
      (λ is. inr (ends.quiet
      (stalled_limit x m.phase ends.came ends.comes (stalled is)) (stalled is)))

  -- where the call stops and the request has not ended, all that it asks is silent
  pub stops_at : (log : List LogEntry) (w x y : World) (phase next : Phase L C) {K : Type 0}
      (here : At K C) (did : RunStep) (outcome : Outcome) (T U : Type 0) → is_stop did ≡ true
      → HasCause state start_at log w x phase next did
      ⊎ (((did ≡ step.Moved) × T) ⊎ (U × (did ≡ step.Moved)))
      → is_done next here ≡ is_end did → y ≡ x
      → (is_done next here ≡ true → outcome ≢ TurnLimit)
      → outcome ≡ TurnLimit → IsStalled state start_at y next
  stops_at log w x y phase next here step.Moved outcome T U stops cause ends same over limit =
      absurd (true≢false (sym stops))
  stops_at log w x y phase next here (step.Waited NotReady) outcome T U stops cause ends same over
      limit =
      absurd (true≢false (sym stops))
  stops_at log w x y phase next here (step.Waited Silent) outcome T U stops (inl cause) ends same
      over limit =
      subst (λ (z : World). IsStalled state start_at z next) (sym same) cause.stalled
  stops_at log w x y phase next here (step.Waited Silent) outcome T U stops (inr (inl moved)) ends
      same over limit =
      let other : step.Waited Silent ≡ step.Moved = moved.0 in absurd (cc)
  stops_at log w x y phase next here (step.Waited Silent) outcome T U stops (inr (inr moved)) ends
      same over limit =
      let other : step.Waited Silent ≡ step.Moved = moved.1 in absurd (cc)
  stops_at log w x y phase next here step.Ended outcome T U stops cause ends same over limit =
      absurd (over ends limit)
