-- One request over one proxy: what a step and the end make of its run so far, and what the whole
-- call promises.
use Rattle.std.specs.Global.{Box}
use Rattle.std.specs.Prelude.{◌≡◌, ◌≢◌, ℕ, ◌+◌, ◌≤◌, ◌⊎◌, Bool, true, false, ◌&&◌, not, List, [], ◌∷◌, ◌++◌, drop, length, map, Option, None}
use Rattle.relay_connector.specs.Connector.{GetResult, Offer, Takes}
use Rattle.relay_links.specs.Count.{up}
use Rattle.relay_links.specs.Link.{LinkState, LinkStart}
use Rattle.relay_links.specs.Told.{more, Gains}
use Rattle.relay_tasks.specs.declared.Fault.{Fault}
use Rattle.relay_tasks.specs.declared.took.Pause.TheVariants.{NotReady, Silent}
use Rattle.relay_connector.specs.declared.Returned.{Returned}
use Rattle.relay_session.specs.declared.session.HttpSession.{HttpSession}
use Rattle.relay_attempt.specs.Passed.{Passed}
use Rattle.relay_request.specs.Passed.{World, Start}
use Rattle.relay_request.specs.Bound.{IsBounded, IsWithin, LinkGave, OwnGave, PhaseCounts, most_sides, sides_before}
use Rattle.relay_request.specs.Endings.{IsEnded}
use Rattle.relay_request.specs.Exact.{IsExact}
use Rattle.relay_request.specs.Legs.{AreLegs, BeginsAt, IsLeg, Leg, LegsUse, LegsWithin, behind, rebased, taken_by, taken_to}
use Rattle.relay_request.specs.Taken.{TakesOn, offers_for, offers_before}
use Rattle.relay_request.specs.Phases.{RunSoFar}
use Rattle.relay_request.specs.Refusals.{faults_for, faults_before, faults_told, AnswersFaults}
use Rattle.relay_request.specs.Turn.{IsStalled, is_over}
use Rattle.relay_request.specs.Uses.{PhaseUses, OwnUses, LinkCounts, StepCounts, CountsAll}
use Rattle.relay_request.specs.Calls.{given_at, is_ending}
use Rattle.relay_request.specs.Closing.{IsQuiet}
use Rattle.relay_request.specs.ClosingHooks.{Gives}
use Rattle.relay_request.specs.declared.calls.At.{At}
use Rattle.relay_request.specs.Work.{added_work}
use Rattle.relay_request.specs.declared.machine.Phase.{Phase}
use Rattle.relay_request.specs.declared.machine.Phase.TheVariants.{ReadHead, Connect, Unlinked, Prepare, Relay, Broken, Again, Fail, Close, Answer, Ended}
use Rattle.relay_request.specs.declared.machine.RunStep.{RunStep}
use Rattle.relay_request.specs.declared.machine.RunStep.TheVariants as did
use Rattle.relay_request.specs.declared.outcome.Outcome.{Outcome}
use Rattle.relay_request.specs.declared.outcome.Outcome.TheVariants.{NoRequest, Refused, Served, TurnLimit, OutOfMemory}
use Rattle.relay_request.specs.declared.outcome.Processed.{Processed}
use Rattle.relay_request.specs.declared.work.Work.{Work}

-- a step that moved or met a link that is not ready counts as a turn; one that met silence does not
abbrev pub Counts : ℕ → ℕ → RunStep → Type 0
Counts before after did.Moved = after ≡ up before
Counts before after (did.Waited NotReady) = after ≡ up before
Counts before after (did.Waited Silent) = after ≡ before
Counts before after did.Ended = (after ≡ up before) ⊎ (after ≡ before)

-- after this answer the call takes no more steps
abbrev pub is_stop : RunStep → Bool
is_stop did.Moved = false
is_stop (did.Waited NotReady) = false
is_stop (did.Waited Silent) = true
is_stop did.Ended = true

-- the requests that ended so far, and one more, where its client was served or refused
abbrev pub ended_after : ℕ → Outcome → ℕ
ended_after ended NoRequest = ended
ended_after ended (Refused error) = up ended
ended_after ended (Served error reuse) = up ended
ended_after ended TurnLimit = ended
ended_after ended OutOfMemory = ended

-- the value that is kept for the next request of a connection: none but of one that was served
abbrev pub kept_of : {K : Type 0} → Outcome → Option K → Option K
kept_of NoRequest kept = None
kept_of (Refused error) kept = None
kept_of (Served error reuse) kept = kept
kept_of TurnLimit kept = None
kept_of OutOfMemory kept = None

-- a request has ended, and no hook is to be called for that
abbrev pub is_done : {L C K X : Type 0} → Phase L C → At K X → Bool
is_done phase here = is_over phase && not (is_ending phase here)

-- what is answered behind a turn: it moved, where hooks of the end are to be called
abbrev pub answer_of : Bool → RunStep → RunStep
answer_of true said = did.Moved
answer_of false said = said

-- a request that stands in that phase comes to that outcome: its own, or `TurnLimit`
abbrev pub CameTo : {L C : Type 0} → Phase L C → Outcome → Type 0
CameTo ReadHead came = came ≡ TurnLimit
CameTo (Connect context session tries) came = came ≡ TurnLimit
CameTo (Unlinked context session attempts error) came = came ≡ TurnLimit
CameTo (Prepare context session link lease) came = came ≡ TurnLimit
CameTo (Relay a) came = came ≡ TurnLimit
CameTo (Broken context session link lease keep error) came = came ≡ TurnLimit
CameTo (Again context session link lease keep error) came = came ≡ TurnLimit
CameTo (Fail link lease keep session error) came = came ≡ TurnLimit
CameTo (Close link lease keep outcome) came = came ≡ outcome
CameTo (Answer session owed attempts) came = came ≡ TurnLimit
CameTo (Ended outcome attempts) came = came ≡ outcome

module _ {L C : Type 0} (state : L → LinkState) (start_at : L → LinkStart) where
  -- a step took the run so far on from one phase to the next, from the one start to the other,
  -- which differ in the calls that were made, and handed these links back; it took no more of the
  -- connector's offers than the request's link, or the fault with which the request ended; and the
  -- connector answered no fault but that one
  pub record GoesOn
      (s t : Start) (p : Passed) (w : World) (own : List (Returned L))
      (before after : Option (List (Returned L))) (told_before told_after : Option (List Fault))
      (had has : Option (List Offer)) (client : LinkState) (ahead : List ℕ) (was now : Work)
      (phase next : Phase L C) : Type 0 where
    pub passed : Passed
    pub handed : List (Returned L)
    pub gained : after ≡ more before handed
    pub run : RunSoFar state start_at t passed w (own ++ handed) next
    pub refused : AnswersFaults told_before told_after own phase (own ++ handed) next
    pub offered : TakesOn start_at had has own phase (own ++ handed) next
    -- so often were both links asked
    pub uses : (n : ℕ) → PhaseUses state start_at n own phase
        → StepCounts state start_at n client w.client was.used now.used (own ++ handed) next
    -- and so much it counted of tasks and ends
    pub work : Work
    pub adds : now ≡ added_work was work
    pub bounded : (tasks ends : ℕ) → PhaseCounts state start_at tasks ends s client ahead own phase
        → PhaseCounts state start_at (work.moved + tasks) (work.ended + ends) t w.client w.ahead
        (own ++ handed) next
    -- a request that has ended passes nothing more
    pub rested : is_over phase ≡ true → passed ≡ p

  -- a step handed the link of an attempt back that failed, and another attempt follows, which
  -- begins anew behind it
  pub record BeginsAgain
      (s t : Start) (w : World) (own : List (Returned L))
      (before after : Option (List (Returned L))) (told_before told_after : Option (List Fault))
      (had has : Option (List Offer)) (client : LinkState) (ahead : List ℕ) (was now : Work)
      (phase next : Phase L C) : Type 0 where
    pub going : is_over phase ≡ false
    pub none : own ≡ []
    pub leg : Leg L
    pub is_leg : IsLeg state start_at leg
    pub begins : BeginsAt t leg
    pub stands : leg.client ≡ w.client
    pub gained : after ≡ more before (leg.back ∷ [])
    pub context : C
    pub session : Box HttpSession
    pub connects : next ≡ Connect context session (leg.tries ++ leg.attempt ∷ [])
    pub passed : Passed
    pub run : RunSoFar state start_at (rebased t leg) passed w [] next
    pub refused : AnswersFaults told_before told_after [] phase [] next
    pub taken : List GetResult
    pub takes : Takes had taken has
    pub offered : offers_before start_at [] phase ++ taken ≡ taken_to start_at leg
    -- so often were both links asked
    pub uses : (n : ℕ) → PhaseUses state start_at n [] phase
        → LinkCounts state start_at n client w.client was.used now.used leg.back.link
    pub unused : PhaseUses state start_at 0 [] next
    -- and so much it counted of tasks and ends
    pub work : Work
    pub adds : now ≡ added_work was work
    pub bounded : (tasks ends : ℕ) → PhaseCounts state start_at tasks ends s client ahead [] phase
        → IsWithin (work.moved + tasks) (work.ended + ends) (sides_before (1 + length leg.tries)) t
        w.client (LinkGave state start_at leg.back.link)
    pub counts : PhaseCounts state start_at 0 (2 + length leg.tries) (rebased t leg) w.client
        w.ahead [] next

  -- what a step makes of a run so far
  pub data StepsOn
      (s t : Start) (p : Passed) (w : World) (own : List (Returned L))
      (before after : Option (List (Returned L))) (told_before told_after : Option (List Fault))
      (had has : Option (List Offer)) (client : LinkState) (ahead : List ℕ) (was now : Work)
      (phase next : Phase L C) : Type 0 where
    goes : GoesOn s t p w own before after told_before told_after had has client ahead was now phase
        next
        → StepsOn s t p w own before after told_before told_after had has client ahead was now
        phase next
    again : BeginsAgain s t w own before after told_before told_after had has client ahead was now
        phase next
        → StepsOn s t p w own before after told_before told_after had has client ahead was now
        phase next

  -- a request came to its end, the hooks of which stand there
  pub record ComesToEnd {K : Type 0}
      (s : Start) (p : Passed) (w : World) (own : List (Returned L))
      (before after : Option (List (Returned L))) (phase : Phase L C) (here : At K C)
      (processed : Processed) : Type 0 where
    pub handed : List (Returned L)
    pub gained : after ≡ more before handed
    -- what it came to, as far as its links go
    pub came : Outcome
    pub ended : IsEnded state start_at s p w (own ++ handed) processed.history.attempts came
    pub given : processed.outcome ≡ given_at here came
    pub comes : CameTo phase came
    -- it is the request for which the connector answered its faults
    pub refused : faults_for (own ++ handed) processed.history.attempts ≡ faults_before own phase
    -- and the one that took what was taken of the offers
    pub offered : offers_for start_at (own ++ handed) processed.history.attempts
        ≡ offers_before start_at own phase
    -- no link was asked any more
    pub uses : (n : ℕ) → PhaseUses state start_at n own phase
        → OwnUses state start_at n (own ++ handed)
    -- no more was counted
    pub bounded : (tasks ends : ℕ)
        → PhaseCounts state start_at tasks ends s w.client w.ahead own phase
        → IsWithin tasks ends (most_sides (length processed.history.attempts)) s w.client
        (OwnGave state start_at (own ++ handed))
    -- a request that has ended gives no `TurnLimit`, but for the hooks of its end
    pub over : is_over phase ≡ true → came ≢ TurnLimit
    pub quiet : came ≡ TurnLimit → IsStalled state start_at w phase
        → IsQuiet state start_at s p w (own ++ handed)

-- a whole request: the attempts that failed over their links and were tried again, and then what
-- passed in the last one is told by the links, in order; the connector's lists gained the links
-- that were handed back, and the faults with which it refused one; and the outcome has its cause
pub record Processes {L : Type 0} (state : L → LinkState) (start_at : L → LinkStart)
    (s : Start) (w : World) (before after : Option (List (Returned L)))
    (told_before told_after : Option (List Fault)) (had has : Option (List Offer))
    (client : LinkState) (turns : ℕ) (processed : Processed) : Type 0 where
  pub legs : List (Leg L)
  pub are_legs : AreLegs state start_at s legs
  pub passed : Passed
  pub own : List (Returned L)
  pub gained : after ≡ more before (map (λ leg. leg.back) legs ++ own)
  -- what it came to, as far as its links go; the outcome is that, `logging` having been told of its
  -- error, or turns or memory ran out in the hooks of its end
  pub came : Outcome
  pub ended : IsEnded state start_at (behind s legs) passed w own processed.history.attempts came
  pub given : Gives processed.history.log came processed.outcome
  -- the connector refused a link exactly where an attempt had none, and its record tells of the
  -- fault
  pub refused : Gains told_before (faults_for own processed.history.attempts) told_after
  -- of what the connector had it took the first: those faults and the links, in order
  pub offered : Takes had (taken_by start_at legs
      ++ drop (length (faults_told (behind s legs).tried))
      (offers_for start_at own processed.history.attempts)) has
  -- a request makes no more attempts than it may
  pub attempts : 1 ≤ s.most → length processed.history.attempts ≤ s.most
  -- what is recorded of uses are those of the client's link, and of the links that were handed back
  pub used : ℕ
  pub legs_used : LegsUse state start_at used legs
  pub uses : CountsAll state start_at client w.client used own processed.history.items_used
  -- what is recorded of turns, of tasks and of ends is bounded by the bytes that the links gave
  pub tasks : ℕ
  pub ends : ℕ
  pub legs_within : LegsWithin state start_at tasks ends legs
  pub bounded : IsBounded state start_at (behind s legs) w.client tasks ends own processed.history
  -- the other way round: where a cause stands, the outcome is its own
  pub exact : IsExact state start_at (behind s legs) passed w own came
  -- a request that has not ended took all its turns, or all that it asks is silent
  pub limit : processed.outcome ≡ TurnLimit
      → (processed.history.turns_taken ≡ turns)
      ⊎ IsQuiet state start_at (behind s legs) passed w own
