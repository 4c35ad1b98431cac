-- Attempts that were tried again, one behind the other.
--
--   behind_called   the start behind them does not depend on the calls, nor the calls on it
--   behind_most     how many attempts are allowed is the same behind them
--   behind_first    and how many calls of the client's link had failed as the request began
--   behind_more     the start behind one more
--   front_called    a log that grew has the calls before the end that it had first
--   legs_later      they were tried again still, once the log has grown
--   legs_more       one more was tried again behind them
--   use_more, within_more, taken_more, backs_more
--                   what was counted of them, what they took, and their links, with one more
--   unfaulted_same  the faults of attempts, and of one more that had a link
--   leg_of .. run_again    the turn behind which another attempt follows, once its link went back
use Rattle.std.proofs.Common.{◌≡◌, ℕ, ◌+◌, Bool, true, false, List, [], ◌∷◌, ◌++◌, drop, length, map, Option, None, Some, refl, sym, ap, subst, ◌∙◌, append-nil, append_assoc, length-append, le_refl, drop_of_length-le, arith}
use Rattle.std.specs.List.{All}
use Rattle.std.specs.Prelude.{if◌then◌else◌}
use Rattle.relay_tasks.specs.declared.Fault.{Fault}
use Rattle.relay_tasks.specs.declared.Peer.{Peer}
use Rattle.relay_tasks.specs.declared.hook.Hook.TheVariants as hook
use Rattle.relay_tasks.specs.declared.log.LogEntry.{LogEntry}
use Rattle.relay_connector.specs.Connector.{GetResult}
use Rattle.relay_links.specs.Link.{LinkState, LinkStart}
use Rattle.relay_connector.specs.declared.Returned.{Returned}
use Rattle.relay_links.proofs.SinceLemmas.{Since-start}
use Rattle.relay_peer.proofs.FrontLemmas.{front_then}
use Rattle.relay_peer.specs.Body.{IsFrontOf}
use Rattle.relay_attempt.specs.Passed.{Passed}
use Rattle.relay_request.specs.Closing.{Hands}
use Rattle.relay_request.specs.Endings.{IsInOrder}
use Rattle.relay_request.specs.Bound.{IsWithin, LinkGave, sides_before}
use Rattle.relay_request.specs.Legs.{AreLegs, BeginsAt, FailsAgain, IsLeg, Leg, LegsUse, LegsWithin, RepeatsOn, behind, rebased, taken_by, taken_in}
use Rattle.relay_request.specs.Passed.{Start, TellsLink, World, before_end, begins_end, called_to, opened_to}
use Rattle.relay_request.specs.Phases.{IsConnecting, RunSoFar}
use Rattle.relay_request.specs.Refusals.{fault_told, faults_told}
use Rattle.relay_request.specs.Tries.{AreTries, IsTry, Refusal, record_of, refusals_in, tries_in}
use Rattle.relay_request.specs.Uses.{LinkUses}
use Rattle.relay_request.specs.declared.machine.Phase.{Phase}
use Rattle.relay_request.specs.declared.machine.Phase.TheVariants.{Connect}
use Rattle.relay_request.specs.declared.outcome.Outcome.TheVariants.{Served}
use Rattle.relay_request.specs.declared.record.AttemptRecord.{AttemptRecord}
use Rattle.relay_request.proofs.NamedLemmas.{refusals_still}
use Rattle.relay_turns.proofs.RefusalLemmas.{told_append}

-- the start behind them does not depend on the calls, nor the calls on it
pub behind_called : {L : Type 0} (s : Start) (log : List LogEntry) (legs : List (Leg L))
    → behind (called_to s log) legs ≡ called_to (behind s legs) log
behind_called s log [] = refl
behind_called s log (leg ∷ legs) = behind_called (rebased s leg) log legs

-- how many attempts are allowed is the same behind them
pub behind_most : {L : Type 0} (s : Start) (legs : List (Leg L)) → (behind s legs).most ≡ s.most
behind_most s [] = refl
behind_most s (leg ∷ legs) = behind_most (rebased s leg) legs

-- and how many calls of the client's link had failed as the request began
pub behind_first : {L : Type 0} (s : Start) (legs : List (Leg L)) → (behind s legs).first ≡ s.first
behind_first s [] = refl
behind_first s (leg ∷ legs) = behind_first (rebased s leg) legs

-- the start behind one more
pub behind_more : {L : Type 0} (s : Start) (legs : List (Leg L)) (leg : Leg L)
    → behind s (legs ++ leg ∷ []) ≡ rebased (behind s legs) leg
behind_more s [] leg = refl
behind_more s (first ∷ legs) leg = behind_more (rebased s first) legs leg

-- a log that grew has the calls before the end that it had first
pub front_called : (old new : List LogEntry) → IsFrontOf old new
    → IsFrontOf (before_end old) (before_end new)
front_called old new front =
    subst (λ (l : List LogEntry). IsFrontOf (before_end old) (before_end l)) front.joined
    (longer old front.rest)
  where
    cons : (e : LogEntry) (es fs : List LogEntry) (b : Bool) → IsFrontOf es fs
        → IsFrontOf (if b then [] else e ∷ es) (if b then [] else e ∷ fs)
    cons e es fs true front = record { rest = []; joined = refl }
    cons e es fs false front =
        record { rest = front.rest; joined = ap (λ (l : List LogEntry). e ∷ l) front.joined }

    longer : (es more : List LogEntry) → IsFrontOf (before_end es) (before_end (es ++ more))
    longer [] more = record { rest = before_end more; joined = refl }
    longer (e ∷ es) more =
        cons e (before_end es) (before_end (es ++ more)) (begins_end e.hook) (longer es more)

-- one begins where the log was shorter, so it does where it has grown
begins_later : {L : Type 0} (s : Start) (old new : List LogEntry) (leg : Leg L) → IsFrontOf old new
    → BeginsAt (called_to s old) leg → BeginsAt (called_to s new) leg
begins_later s old new leg front begins = record {
  is_start = begins.is_start;
  first = front_then leg.start.called (before_end old) (before_end new) begins.first
      (front_called old new front);
}

-- a list that got one more has some
some_made : (xs : List AttemptRecord) (x : AttemptRecord) → xs ++ x ∷ [] ≡ [] → ⊥
some_made [] x none = cc
some_made (y ∷ ys) x none = cc

module _ {L : Type 0} (state : L → LinkState) (start_at : L → LinkStart) where
  -- they were tried again still, once the log has grown
  pub legs_later : (s : Start) (old new : List LogEntry) (legs : List (Leg L)) → IsFrontOf old new
      → AreLegs state start_at (called_to s old) legs
      → AreLegs state start_at (called_to s new) legs
  legs_later s old new [] front are = are
  legs_later s old new (leg ∷ legs) front are = (
    are.0,
    begins_later s old new leg front are.1,
    legs_later (rebased s leg) old new legs front are.2,
  )

  -- one more was tried again behind them
  pub legs_more : (s : Start) (legs : List (Leg L)) (leg : Leg L) → AreLegs state start_at s legs
      → IsLeg state start_at leg → BeginsAt (behind s legs) leg
      → AreLegs state start_at s (legs ++ leg ∷ [])
  legs_more s [] leg are is begins = (is, begins, tt)
  legs_more s (first ∷ legs) leg are is begins =
      (are.0, are.1, legs_more (rebased s first) legs leg are.2 is begins)

-- ---- what was counted of them, and what they took

module _ {L : Type 0} (state : L → LinkState) (start_at : L → LinkStart) where
  -- the uses of their links, with those of one more
  pub use_more : (n m : ℕ) (legs : List (Leg L)) (leg : Leg L) → LegsUse state start_at n legs
      → LinkUses state start_at m leg.back.link
      → LegsUse state start_at (n + m) (legs ++ leg ∷ [])
  use_more n m [] leg used uses = (m, 0, omega (arith, used), uses, refl)
  use_more n m (first ∷ legs) leg used uses = (
    used.0,
    used.1 + m,
    omega (arith, used.2),
    used.3,
    use_more used.1 m legs leg used.4 uses,
  )

  -- their tasks and ends, with those of one more
  pub within_more : (tasks ends more_tasks more_ends : ℕ) (legs : List (Leg L)) (leg : Leg L)
      → LegsWithin state start_at tasks ends legs
      → IsWithin more_tasks more_ends (sides_before (1 + length leg.tries)) leg.start leg.client
      (LinkGave state start_at leg.back.link)
      → LegsWithin state start_at (tasks + more_tasks) (ends + more_ends) (legs ++ leg ∷ [])
  within_more tasks ends more_tasks more_ends [] leg had within = (
    more_tasks,
    more_ends,
    0,
    0,
    omega (arith, had.0),
    omega (arith, had.1),
    within,
    (refl, refl),
  )
  within_more tasks ends more_tasks more_ends (first ∷ legs) leg had within = (
    had.0,
    had.1,
    had.2 + more_tasks,
    had.3 + more_ends,
    omega (arith, had.4),
    omega (arith, had.5),
    had.6,
    within_more had.2 had.3 more_tasks more_ends legs leg had.7 within,
  )

-- what was taken in them, and in one more
pub taken_more : {L : Type 0} (start_at : L → LinkStart) (legs : List (Leg L)) (leg : Leg L)
    → taken_by start_at (legs ++ leg ∷ []) ≡ taken_by start_at legs ++ taken_in start_at leg
taken_more start_at [] leg = append-nil (taken_in start_at leg)
taken_more start_at (first ∷ legs) leg =
    ap (λ (os : List GetResult). taken_in start_at first ++ os) (taken_more start_at legs leg)
    ∙ sym (append_assoc (taken_in start_at first) (taken_by start_at legs) (taken_in start_at leg))

-- the links that they handed back, and that of one more
pub backs_more : {L : Type 0} (legs : List (Leg L)) (leg : Leg L)
    → map (λ (k : Leg L). k.back) (legs ++ leg ∷ [])
    ≡ map (λ (k : Leg L). k.back) legs ++ leg.back ∷ []
backs_more [] leg = refl
backs_more {L = L} (first ∷ legs) leg =
    ap (λ (rs : List (Returned L)). first.back ∷ rs) (backs_more legs leg)

-- ---- one more

-- one attempt more is one more
pub length_behind : (tries attempts : List AttemptRecord) (a : AttemptRecord)
    → attempts ≡ tries ++ a ∷ [] → length attempts ≡ 1 + length tries
length_behind tries attempts a are =
    omega (arith, ap (λ (xs : List AttemptRecord). length xs) are, length-append tries (a ∷ []))

-- the faults of attempts are those of one more whose record tells none
pub unfaulted_same : (tries attempts : List AttemptRecord) (a : AttemptRecord)
    → attempts ≡ tries ++ a ∷ [] → a.fault ≡ None → faults_told attempts ≡ faults_told tries
unfaulted_same tries attempts a are none =
    ap (λ (xs : List AttemptRecord). faults_told xs) are ∙ told_append tries (a ∷ [])
    ∙ ap (λ (o : Option Fault). faults_told tries ++ (fault_told o ++ [])) none
    ∙ append-nil (faults_told tries)

module _ {L C : Type 0} (state : L → LinkState) (start_at : L → LinkStart) (s : Start) (w : World)
    (next : Phase L C) (r : RepeatsOn state start_at s w next) (entry : Returned L)
    (attempts : List AttemptRecord)
    (hands : Hands r.link r.lease r.keep (Served (Some r.error) false) entry attempts)
  where
    -- the attempt that failed, behind which another one follows
    abbrev pub leg_of : Leg L
    leg_of = record {
      start = opened_to s r.before;
      passed = r.passed;
      client = w.client;
      back = entry;
      tries = tries_in r.lease;
      attempt = hands.attempt;
      error = r.error;
    }

    -- it is one that is tried again
    pub is_leg_of : IsLeg state start_at leg_of
    is_leg_of = record {
      came = r.tells.came;
      written = r.tells.written;
      tells = subst (λ (l : L). TellsLink r.passed (state l) (start_at l)) (sym hands.is_link)
          r.leased.tells;
      peer = r.leased.peer ∙ ap (λ (x : Peer). Some x) (sym hands.peer);
      are_tries = r.leased.tries;
      is_record = record {
        peer = r.leased.recorded ∙ ap (λ (x : Peer). Some x) (sym hands.recorded);
        reused = hands.reused ∙ sym r.leased.reused
            ∙ ap (λ (l : L). (start_at l).reused) (sym hands.is_link);
        kept = hands.record_kept ∙ sym hands.kept;
        unfaulted = hands.unfaulted;
      };
      error = hands.error;
      fails = subst (λ (k : Bool). FailsAgain (opened_to s r.before) r.passed w.client
          (state entry.link) (start_at entry.link) k r.error) (sym hands.kept)
          (subst (λ (l : L). FailsAgain (opened_to s r.before) r.passed w.client (state l)
          (start_at l) r.keep r.error) (sym hands.is_link) r.fails);
      may = r.may;
    }

    -- the log has one call more behind it
    pub begins_of : BeginsAt s leg_of
    begins_of = record {
      is_start = refl;
      first = record { rest = r.asked ∷ []; joined = sym r.called };
    }

    -- which tells of no other refusal
    same_refusals : refusals_in s.called ≡ refusals_in r.before
    same_refusals =
        ap (λ (l : List LogEntry). refusals_in l) r.called
        ∙ refusals_still r.before r.asked hook.SuppressProxyWarnLog r.asks refl

    none_since : drop (length (refusals_in r.before)) (refusals_in s.called) ≡ []
    none_since =
        ap (λ (rs : List Refusal). drop (length (refusals_in r.before)) rs) same_refusals
        ∙ drop_of_length-le (refusals_in r.before) (le_refl (length (refusals_in r.before)))

    -- the attempts before the next one are those before it, and it
    tries_again : AreTries (rebased s leg_of) attempts
    tries_again = record {
      fits = omega (arith, ap (λ (rs : List Refusal). length rs) same_refusals);
      told = hands.attempts_are ∙ sym (append-nil (tries_in r.lease ++ hands.attempt ∷ []))
          ∙ ap (λ (rs : List Refusal). (tries_in r.lease ++ hands.attempt ∷ [])
          ++ map (λ (x : Refusal). record_of x) rs) (sym none_since);
      each = subst (λ (rs : List Refusal). All IsTry rs) (sym same_refusals) r.leased.tries.each;
      allowed = λ some. omega (
        arith,
        r.may.1,
        length_behind (tries_in r.lease) attempts hands.attempt hands.attempts_are,
      );
    }

    -- nothing passed since then but the client's bytes, which came before
    abbrev pub anew : Passed
    anew = record { came = r.passed.came; written = []; got = []; sent = [] }

    -- the next attempt wants a link, as the first one did
    connects_again : IsConnecting (rebased s leg_of) anew w r.session.value attempts
    connects_again = record {
      head = r.head;
      accepted = record {
        framing = r.accepted.framing;
        len = r.accepted.len;
        has = r.accepted.has;
        relayable = r.accepted.relayable;
      };
      is_left = r.is_left;
      quiet = r.quiet;
      begins = r.begins;
      unread = λ none. absurd (some_made (tries_in r.lease) hands.attempt none);
      written = refl;
      unsent = record { got = refl; sent = refl };
      are_tries = tries_again;
    }

    -- and the run so far begins anew there
    pub run_again : RunSoFar {C = C} state start_at (rebased s leg_of) anew w []
        (Connect r.context r.session attempts)
    run_again = record {
      tells = record {
        came = r.tells.came;
        written = Since-start [] w.client.taken;
        faults = le_refl w.client.faults;
        connect_faults = r.tells.connect_faults;
        fault_lists = r.tells.fault_lists;
      };
      order = IsInOrder.is_nothing refl refl;
      untouched = r.untouched;
      going = tt;
      calm = refl;
      holds = connects_again;
    }
