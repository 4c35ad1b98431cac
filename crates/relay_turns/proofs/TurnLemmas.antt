-- What a turn of a phase that relays is, of the phase as it stands.
use Rattle.std.proofs.Common.{◌≡◌, ◌⊎◌, ℕ, ◌+◌, ◌∷◌, subst, arith, Bool, true, false, List, [], ◌++◌, map, Ok, Err, Option, true≢false, refl, sym, ap, ◌∙◌, append-nil}
use Rattle.std.specs.Global.{Box}
use Rattle.relay_tasks.specs.declared.Error.{Error}
use Rattle.relay_tasks.specs.declared.Fault.{Fault}
use Rattle.relay_tasks.specs.declared.log.LogEntry.{LogEntry}
use Rattle.relay_connector.specs.Connector.{GetResult, Handed, handed}
use Rattle.relay_links.specs.Link.{LinkState, LinkStart}
use Rattle.relay_connector.specs.declared.Returned.{Returned}
use Rattle.relay_request.specs.Closing.{Rests, Settles}
use Rattle.relay_attempt.specs.Passed.{Passed}
use Rattle.relay_session.specs.declared.session.HttpSession.{HttpSession}
use Rattle.relay_request.specs.Bound.{CountsCall, PhaseCounts, TurnedCounts}
use Rattle.relay_request.specs.Calls.{IsUnended}
use Rattle.relay_request.specs.Legs.{RepeatsOn}
use Rattle.relay_request.specs.Passed.{World, Start, called_to, opened_to}
use Rattle.relay_request.specs.Phases.{RunSoFar}
use Rattle.relay_request.specs.Uses.{ClientUses, LinkUses, OwnUses, PhaseUses, TurnCounts}
use Rattle.relay_request.specs.Refusals.{attempts_in, faults_before, faults_for, faults_of_turn}
use Rattle.relay_request.specs.Relaying.{is_relaying, is_closing}
use Rattle.relay_request.specs.Stock.{items_held}
use Rattle.relay_request.specs.Taken.{offers_before, offers_of_turn}
use Rattle.relay_request.specs.Tries.{tries_in}
use Rattle.relay_request.specs.Turn.{Advances, AdvancesOn, DoesWork, WorksIn, links_held}
use Rattle.relay_turns.proofs.BoundLemmas.{call_bounds}
use Rattle.relay_turns.proofs.CountLemmas.{client_counts}
use Rattle.relay_request.proofs.TreatLemmas.{still_open}
use Rattle.relay_request.specs.declared.machine.Attempt.{Attempt}
use Rattle.relay_request.specs.declared.machine.Lease.{Lease}
use Rattle.relay_request.specs.declared.machine.Phase.{Phase}
use Rattle.relay_request.specs.declared.machine.Phase.TheVariants.{ReadHead, Connect, Unlinked, Prepare, Relay, Broken, Again, Fail, Close, Answer, Ended}
use Rattle.relay_request.specs.declared.machine.RunStep.{RunStep}
use Rattle.relay_request.specs.declared.owed.Owed.{Owed}
use Rattle.relay_request.specs.declared.record.AttemptRecord.{AttemptRecord}
use Rattle.relay_request.specs.declared.work.Work.{Work}

-- a log without calls has none of the end
pub none_unended : (log : List LogEntry) → log ≡ [] → IsUnended log
none_unended log none = subst (λ (l : List LogEntry). IsUnended l) (sym none) refl

module _ {L C : Type 0} (state : L → LinkState) (start_at : L → LinkStart) where
  -- a turn that reads the head is one of a request that handed nothing back
  pub head_turn : (s s' : Start) (p : Passed) (w x : World) (own : List (Returned L))
      (next : Phase L C) → RunSoFar {C = C} state start_at s p w own ReadHead
      → (RunSoFar {C = C} state start_at s p w [] ReadHead → Advances state start_at s' x next)
      → AdvancesOn state start_at s' x own next
  head_turn s s' p w x [] next run turn = turn run
  head_turn s s' p w x (r ∷ own) next run turn = absurd run.holds

  -- and so is one that calls a hook or asks the connector
  pub connect_turn : (s s' : Start) (p : Passed) (w x : World) (own : List (Returned L))
      (context : C) (session : Box HttpSession) (tries : List AttemptRecord) (next : Phase L C)
      → RunSoFar state start_at s p w own (Connect context session tries)
      → (RunSoFar state start_at s p w [] (Connect context session tries)
      → Advances state start_at s' x next)
      → AdvancesOn state start_at s' x own next
  connect_turn s s' p w x [] context session tries next run turn = turn run
  connect_turn s s' p w x (r ∷ own) context session tries next run turn = absurd run.holds

  -- and one that has the error of a request without a link answered
  pub unlinked_turn : (s s' : Start) (p : Passed) (w x : World) (own : List (Returned L))
      (context : C) (session : Box HttpSession) (attempts : List AttemptRecord) (e : Error)
      (next : Phase L C) → RunSoFar state start_at s p w own (Unlinked context session attempts e)
      → (RunSoFar state start_at s p w [] (Unlinked context session attempts e)
      → Advances state start_at s' x next)
      → AdvancesOn state start_at s' x own next
  unlinked_turn s s' p w x [] context session attempts e next run turn = turn run
  unlinked_turn s s' p w x (r ∷ own) context session attempts e next run turn = absurd run.holds

  -- and one that makes the head of an attempt
  pub prepare_turn : (s s' : Start) (p : Passed) (w x : World) (own : List (Returned L))
      (context : C) (session : Box HttpSession) (link : L) (lease : Lease) (next : Phase L C)
      → RunSoFar state start_at s p w own (Prepare context session link lease)
      → (RunSoFar state start_at s p w [] (Prepare context session link lease)
      → Advances state start_at s' x next)
      → AdvancesOn state start_at s' x own next
  prepare_turn s s' p w x [] context session link lease next run turn = turn run
  prepare_turn s s' p w x (r ∷ own) context session link lease next run turn = absurd run.holds

  -- and one that has the error of an attempt treated, behind which another one may follow
  pub broken_turn : (s s' : Start) (p : Passed) (w x : World) (own : List (Returned L))
      (context : C) (session : Box HttpSession) (link : L) (lease : Lease) (keep : Bool) (e : Error)
      (next : Phase L C)
      → RunSoFar state start_at s p w own (Broken context session link lease keep e)
      → (RunSoFar state start_at s p w [] (Broken context session link lease keep e)
      → Advances state start_at s' x next ⊎ RepeatsOn state start_at s' x next)
      → AdvancesOn state start_at s' x own next ⊎ RepeatsOn state start_at s' x next
  broken_turn s s' p w x [] context session link lease keep e next run turn = turn run
  broken_turn s s' p w x (r ∷ own) context session link lease keep e next run turn =
      absurd run.holds

  -- one behind which the end has not begun
  pub open_step : (s : Start) (these those : List LogEntry) (p : Passed) (w x : World)
      (phase next : Phase L C) → IsUnended these → IsUnended those
      → (RunSoFar state start_at (opened_to s these) p w [] phase
      → Advances state start_at (opened_to s those) x next)
      → RunSoFar state start_at (called_to s these) p w [] phase
      → Advances state start_at (called_to s those) x next
  open_step s these those p w x phase next before behind turn run =
      subst (λ (t : Start). Advances state start_at t x next) (sym (still_open s those behind))
      (turn (subst (λ (t : Start). RunSoFar state start_at t p w [] phase)
      (still_open s these before) run))

  -- it had not ended before
  pub relaying_rests : (w x : World) (phase next : Phase L C) (did : RunStep)
      → is_relaying phase ≡ true → Rests {L = L} {C = C} w x phase next did
  relaying_rests w x ReadHead next did is = absurd (true≢false (sym is))
  relaying_rests w x (Broken context session link lease keep error) next did is =
      absurd (true≢false (sym is))
  relaying_rests w x (Again context session link lease keep error) next did is =
      absurd (true≢false (sym is))
  relaying_rests w x (Fail link lease keep session error) next did is = absurd (true≢false (sym is))
  relaying_rests w x (Answer session owed attempts) next did is = absurd (true≢false (sym is))
  relaying_rests w x (Connect context session tries) next did is = absurd (true≢false (sym is))
  relaying_rests w x (Unlinked context session attempts error) next did is =
      absurd (true≢false (sym is))
  relaying_rests w x (Prepare context session link lease) next did is = absurd (true≢false (sym is))
  relaying_rests w x (Relay a) next did is = tt
  relaying_rests w x (Close link lease keep outcome) next did is = absurd (true≢false (sym is))
  relaying_rests w x (Ended outcome attempts) next did is = absurd (true≢false (sym is))

  -- the connector refused it no link
  pub relaying_unrefused : (phase next : Phase L C) → is_relaying phase ≡ true
      → faults_of_turn phase next ≡ []
  relaying_unrefused ReadHead next is = absurd (true≢false (sym is))
  relaying_unrefused (Broken context session link lease keep error) next is =
      absurd (true≢false (sym is))
  relaying_unrefused (Again context session link lease keep error) next is =
      absurd (true≢false (sym is))
  relaying_unrefused (Fail link lease keep session error) next is = absurd (true≢false (sym is))
  relaying_unrefused (Answer session owed attempts) next is = absurd (true≢false (sym is))
  relaying_unrefused (Connect context session tries) next is = absurd (true≢false (sym is))
  relaying_unrefused (Unlinked context session attempts error) next is =
      absurd (true≢false (sym is))
  relaying_unrefused (Prepare context session link lease) next is = absurd (true≢false (sym is))
  relaying_unrefused (Relay a) next is = refl
  relaying_unrefused (Close link lease keep outcome) next is = absurd (true≢false (sym is))
  relaying_unrefused (Ended outcome attempts) next is = absurd (true≢false (sym is))

  -- so it tells of those of the attempts before
  pub relaying_tells : (phase next : Phase L C) → is_relaying phase ≡ true
      → attempts_in next ≡ attempts_in phase
      → faults_before [] phase ++ faults_of_turn phase next ≡ faults_before [] next
  relaying_tells phase next is same =
      ap (λ (fs : List Fault). faults_before [] phase ++ fs) (relaying_unrefused phase next is)
      ∙ append-nil (faults_before [] phase)
      ∙ ap (λ (xs : List AttemptRecord). faults_for {L = L} [] xs) (sym same)

  -- it takes none of the connector's offers
  pub relaying_takes : (phase next : Phase L C) → is_relaying phase ≡ true
      → offers_of_turn start_at phase next ≡ []
  relaying_takes ReadHead next is = absurd (true≢false (sym is))
  relaying_takes (Broken context session link lease keep error) next is =
      absurd (true≢false (sym is))
  relaying_takes (Again context session link lease keep error) next is =
      absurd (true≢false (sym is))
  relaying_takes (Fail link lease keep session error) next is = absurd (true≢false (sym is))
  relaying_takes (Answer session owed attempts) next is = absurd (true≢false (sym is))
  relaying_takes (Connect context session tries) next is = absurd (true≢false (sym is))
  relaying_takes (Unlinked context session attempts error) next is = absurd (true≢false (sym is))
  relaying_takes (Prepare context session link lease) next is = absurd (true≢false (sym is))
  relaying_takes (Relay a) next is = refl
  relaying_takes (Close link lease keep outcome) next is = absurd (true≢false (sym is))
  relaying_takes (Ended outcome attempts) next is = absurd (true≢false (sym is))

  -- and its next phase holds the same link
  pub relaying_carries : (phase next : Phase L C) → is_relaying phase ≡ true
      → attempts_in next ≡ attempts_in phase
      → items_held start_at next ≡ items_held start_at phase
      → offers_before start_at [] phase ++ offers_of_turn start_at phase next
      ≡ offers_before start_at [] next
  relaying_carries phase next is same items =
      ap (λ (os : List GetResult). offers_before start_at [] phase ++ os)
      (relaying_takes phase next is)
      ∙ append-nil (offers_before start_at [] phase)
      ∙ ap (λ (xs : List AttemptRecord). map Err (faults_for {L = L} [] xs)
      ++ map Ok (items_held start_at phase)) (sym same)
      ∙ ap (λ (xs : List Handed). map Err (faults_before [] next) ++ map Ok xs)
      (sym items)

  -- a phase that holds no link was asked as often as what was handed back
  pub unlinked_asked : (n : ℕ) (own : List (Returned L)) (next : Phase L C)
      → links_held state start_at next ≡ 0 → OwnUses state start_at n own
      → PhaseUses state start_at n own next
  unlinked_asked n own ReadHead none had = had
  unlinked_asked n own (Broken context session link lease keep error) none had = cc
  unlinked_asked n own (Again context session link lease keep error) none had = cc
  unlinked_asked n own (Fail link lease keep session error) none had = cc
  unlinked_asked n own (Answer session owed attempts) none had = had
  unlinked_asked n own (Connect context session tries) none had = had
  unlinked_asked n own (Unlinked context session attempts error) none had = had
  unlinked_asked n own (Prepare context session link lease) none had = cc
  unlinked_asked n own (Relay a) none had = cc
  unlinked_asked n own (Close link lease keep outcome) none had = cc
  unlinked_asked n own (Ended outcome attempts) none had = had

  -- a turn that asked the client's link alone
  pub head_counts : (n used : ℕ) (client client' : LinkState) (own : List (Returned L))
      (next : Phase L C) → ClientUses used client client' → links_held state start_at next ≡ 0
      → OwnUses state start_at n own → TurnCounts state start_at n client client' used own next
  head_counts n used client client' own next uses none had =
      let same : n ≡ 0 + n = omega (arith) in
      let all : used ≡ used + 0 = omega (arith) in
      record {
        of_client = used;
        of_own = 0;
        client_rose = client_counts used client client' uses;
        own_rose = subst (λ (k : ℕ). PhaseUses state start_at k own next) same
            (unlinked_asked n own next none had);
        all = all;
      }

  -- a turn that asked no link
  pub still_counts : (n used : ℕ) (client : LinkState) (own : List (Returned L))
      (next : Phase L C) → used ≡ 0 → PhaseUses state start_at n own next
      → TurnCounts state start_at n client client used own next
  still_counts n used client own next none had =
      let same : n ≡ 0 + n = omega (arith) in
      let all : used ≡ 0 + 0 = omega (arith, none) in
      record {
        of_client = 0;
        of_own = 0;
        client_rose = refl;
        own_rose = subst (λ (k : ℕ). PhaseUses state start_at k own next) same had;
        all = all;
      }

  -- the turn that asks the connector
  pub connect_counts : (s : Start) (p : Passed) (own : List (Returned L)) (w : World) (context : C)
      (session : Box HttpSession) (tries : List AttemptRecord) (n used : ℕ) (client : LinkState)
      (next : Phase L C) → RunSoFar state start_at s p w own (Connect context session tries)
      → OwnUses state start_at n own → used ≡ 0 → PhaseUses state start_at 0 [] next
      → TurnCounts state start_at n client client used own next
  connect_counts s p [] w context session tries n used client next run had none fresh =
      still_counts n used client [] next none
      (subst (λ (k : ℕ). PhaseUses state start_at k [] next) (sym had) fresh)
  connect_counts s p (r ∷ own) w context session tries n used client next run had none fresh =
      absurd run.holds

  -- the turn that makes the head of an attempt
  pub prepare_counts : (s : Start) (p : Passed) (own : List (Returned L)) (w : World) (context : C)
      (session : Box HttpSession) (link : L) (lease : Lease) (n used : ℕ) (client : LinkState)
      (next : Phase L C) → RunSoFar state start_at s p w own (Prepare context session link lease)
      → LinkUses state start_at n link → used ≡ 0
      → ((k : ℕ) → LinkUses state start_at k link → PhaseUses state start_at k [] next)
      → TurnCounts state start_at n client client used own next
  prepare_counts s p [] w context session link lease n used client next run had none asked =
      still_counts n used client [] next none (asked n had)
  prepare_counts s p (r ∷ own) w context session link lease n used client next run had none asked =
      absurd run.holds

  -- the turn that has the error of an attempt treated, or writes what waits for its client
  pub broken_counts : (s : Start) (p : Passed) (own : List (Returned L)) (w : World) (context : C)
      (session : Box HttpSession) (link : L) (lease : Lease) (keep : Bool) (e : Error) (n used : ℕ)
      (client client' : LinkState) (next : Phase L C)
      → RunSoFar state start_at s p w own (Broken context session link lease keep e)
      → LinkUses state start_at n link → ClientUses used client client'
      → ((k : ℕ) → LinkUses state start_at k link → PhaseUses state start_at k [] next)
      → TurnCounts state start_at n client client' used own next
  broken_counts s p [] w context session link lease keep e n used client client' next run had uses
      asked =
      let same : n ≡ 0 + n = omega (arith) in
      let all : used ≡ used + 0 = omega (arith) in
      record {
        of_client = used;
        of_own = 0;
        client_rose = client_counts used client client' uses;
        own_rose = subst (λ (k : ℕ). PhaseUses state start_at k [] next) same (asked n had);
        all = all;
      }
  broken_counts s p (r ∷ own) w context session link lease keep e n used client client' next run had
      uses asked = absurd run.holds

  -- the turn that has the error of a request without a link answered counts one end at most
  pub unlinked_turn_bounds : (s s' : Start) (p : Passed) (w x : World) (own : List (Returned L))
      (context : C) (session : Box HttpSession) (attempts : List AttemptRecord) (e : Error)
      (next : Phase L C) (work : Work) (tasks ends : ℕ)
      → RunSoFar state start_at s p w own (Unlinked context session attempts e)
      → (RunSoFar state start_at s p w [] (Unlinked context session attempts e)
      → Advances state start_at s' x next)
      → CountsCall attempts next work
      → PhaseCounts state start_at tasks ends s w.client w.ahead own
      (Unlinked context session attempts e)
      → TurnedCounts state start_at (work.moved + tasks) (work.ended + ends) s' x.client x.ahead own
      next
  unlinked_turn_bounds s s' p w x [] context session attempts e next work tasks ends run turn counts
      had =
      let on = turn run in
      call_bounds state start_at s' on.passed x next work attempts tasks ends on.run counts had
  unlinked_turn_bounds s s' p w x (r ∷ own) context session attempts e next work tasks ends run turn
      counts had = absurd run.holds

  -- what was taken before it was, before the next phase
  pub prepare_offers : (context : C) (session : Box HttpSession) (link : L) (lease : Lease)
      (next : Phase L C) → attempts_in next ≡ tries_in lease
      → items_held start_at next ≡ handed (start_at link) ∷ []
      → offers_before {C = C} start_at [] (Prepare context session link lease)
      ≡ offers_before start_at [] next
  prepare_offers context session link lease next same items = rw (items, same) refl

  pub broken_offers : (context : C) (session : Box HttpSession) (link : L) (lease : Lease)
      (keep : Bool) (e : Error) (next : Phase L C) → attempts_in next ≡ tries_in lease
      → items_held start_at next ≡ handed (start_at link) ∷ []
      → offers_before {C = C} start_at [] (Broken context session link lease keep e)
      ≡ offers_before start_at [] next
  broken_offers context session link lease keep e next same items = rw (items, same) refl

  pub broken_faults : (context : C) (session : Box HttpSession) (link : L) (lease : Lease)
      (keep : Bool) (e : Error) (next : Phase L C) → attempts_in next ≡ tries_in lease
      → faults_before {L = L} {C = C} [] (Broken context session link lease keep e)
      ≡ faults_before [] next
  broken_faults context session link lease keep e next same = rw same refl

  pub prepare_faults : (context : C) (session : Box HttpSession) (link : L) (lease : Lease)
      (next : Phase L C) → attempts_in next ≡ tries_in lease
      → faults_before {L = L} {C = C} [] (Prepare context session link lease)
      ≡ faults_before [] next
  prepare_faults context session link lease next same = rw same refl

-- a phase that does not relay holds no attempt
pub not_relaying : {L C : Type 0} (phase : Phase L C) (a : Box (Attempt L C))
    → is_relaying phase ≡ false → phase ≡ Relay a → ⊥
not_relaying {L = L} {C = C} phase a not_so is =
    true≢false (sym (ap (λ (k : Phase L C). is_relaying k) is) ∙ not_so)

-- its turn did its work
pub relaying_works : {L C : Type 0} (phase : Phase L C) (did : RunStep) (work : Work)
    → is_relaying phase ≡ true → DoesWork did work → WorksIn phase did work
relaying_works ReadHead did work is does = absurd (true≢false (sym is))
relaying_works (Broken context session link lease keep error) did work is does =
    absurd (true≢false (sym is))
relaying_works (Again context session link lease keep error) did work is does =
    absurd (true≢false (sym is))
relaying_works (Fail link lease keep session error) did work is does = absurd (true≢false (sym is))
relaying_works (Answer session owed attempts) did work is does = absurd (true≢false (sym is))
relaying_works (Connect context session tries) did work is does = absurd (true≢false (sym is))
relaying_works (Unlinked context session attempts error) did work is does =
    absurd (true≢false (sym is))
relaying_works (Prepare context session link lease) did work is does = absurd (true≢false (sym is))
relaying_works (Relay a) did work is does = does
relaying_works (Close link lease keep outcome) did work is does = absurd (true≢false (sym is))
relaying_works (Ended outcome attempts) did work is does = absurd (true≢false (sym is))

-- a phase that is not to be closed stays as it is
pub open_settles : {L C : Type 0} (phase : Phase L C) (told : Option (List (Returned L)))
    → is_closing phase ≡ false → Settles phase told told phase
open_settles ReadHead told is = (refl, refl)
open_settles (Broken context session link lease keep error) told is = (refl, refl)
open_settles (Again context session link lease keep error) told is = absurd (true≢false is)
open_settles (Fail link lease keep session error) told is = absurd (true≢false is)
open_settles (Answer session owed attempts) told is = (refl, refl)
open_settles (Connect context session tries) told is = (refl, refl)
open_settles (Unlinked context session attempts error) told is = (refl, refl)
open_settles (Prepare context session link lease) told is = (refl, refl)
open_settles (Relay a) told is = (refl, refl)
open_settles (Close link lease keep outcome) told is = absurd (true≢false is)
open_settles (Ended outcome attempts) told is = (refl, refl)

-- a phase that holds no link has none to hand back
pub unlinked_open : {L C : Type 0} (state : L → LinkState) (start_at : L → LinkStart)
    (phase : Phase L C) → links_held state start_at phase ≡ 0 → is_closing phase ≡ false
unlinked_open state start_at ReadHead none = refl
unlinked_open state start_at (Connect context session tries) none = refl
unlinked_open state start_at (Unlinked context session attempts error) none = refl
unlinked_open state start_at (Prepare context session link lease) none = refl
unlinked_open state start_at (Relay a) none = refl
unlinked_open state start_at (Broken context session link lease keep error) none = refl
unlinked_open state start_at (Again context session link lease keep error) none = cc
unlinked_open state start_at (Fail link lease keep session error) none = cc
unlinked_open state start_at (Close link lease keep outcome) none = cc
unlinked_open state start_at (Answer session owed attempts) none = refl
unlinked_open state start_at (Ended outcome attempts) none = refl

-- nor has one that relays
pub relaying_open : {L C : Type 0} (phase : Phase L C) → is_relaying phase ≡ true
    → is_closing phase ≡ false
relaying_open ReadHead is = refl
relaying_open (Connect context session tries) is = refl
relaying_open (Unlinked context session attempts error) is = refl
relaying_open (Prepare context session link lease) is = refl
relaying_open (Relay a) is = refl
relaying_open (Broken context session link lease keep error) is = refl
relaying_open (Again context session link lease keep error) is = absurd (true≢false (sym is))
relaying_open (Fail link lease keep session error) is = absurd (true≢false (sym is))
relaying_open (Close link lease keep outcome) is = absurd (true≢false (sym is))
relaying_open (Answer session owed attempts) is = refl
relaying_open (Ended outcome attempts) is = refl

-- a phase that holds no link has the items of none
pub unlinked_items : {L C : Type 0} (state : L → LinkState) (start_at : L → LinkStart)
    (phase : Phase L C) → links_held state start_at phase ≡ 0 → items_held start_at phase ≡ []
unlinked_items state start_at ReadHead none = refl
unlinked_items state start_at (Connect context session tries) none = refl
unlinked_items state start_at (Unlinked context session attempts error) none = refl
unlinked_items state start_at (Prepare context session link lease) none = cc
unlinked_items state start_at (Relay a) none = cc
unlinked_items state start_at (Broken context session link lease keep error) none = cc
unlinked_items state start_at (Again context session link lease keep error) none = cc
unlinked_items state start_at (Fail link lease keep session error) none = cc
unlinked_items state start_at (Close link lease keep outcome) none = cc
unlinked_items state start_at (Answer session owed attempts) none = refl
unlinked_items state start_at (Ended outcome attempts) none = refl

-- what was taken before the error was answered was, before the next phase
pub unlinked_offers : {L C : Type 0} (start_at : L → LinkStart) (context : C)
    (session : Box HttpSession) (attempts : List AttemptRecord) (e : Error) (next : Phase L C)
    → items_held start_at next ≡ [] → attempts_in next ≡ attempts
    → offers_before {C = C} start_at [] (Unlinked context session attempts e)
    ≡ offers_before start_at [] next
unlinked_offers start_at context session attempts e next none same = rw (none, sym same) refl

-- what was taken before an answer was, before the next phase
pub answer_offers : {L C : Type 0} (start_at : L → LinkStart) (own : List (Returned L))
    (session : Box HttpSession) (owed : Owed) (attempts : List AttemptRecord) (next : Phase L C)
    → items_held start_at next ≡ [] → attempts_in next ≡ attempts
    → offers_before {C = C} start_at own (Answer session owed attempts)
    ≡ offers_before start_at own next
answer_offers start_at own session owed attempts next none same = rw (none, sym same) refl
