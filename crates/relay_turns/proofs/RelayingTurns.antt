-- A turn of a phase that relays: the request has handed no link back, and its exchange is under way
-- by the log of its calls.
--
--   relaying_run        what is said of a request that handed none back
--   relaying_under      and of its exchange
--   relays_turn         its turn
--   relaying_attempt, relaying_going, relaying_exchanges    such a phase
use Rattle.std.specs.Global.{Box}
use Rattle.std.proofs.Common.{◌≡◌, ℕ, true, false, List, [], ◌∷◌, true≢false, refl, sym, ap, subst}
use Rattle.relay_tasks.specs.declared.log.LogEntry.{LogEntry}
use Rattle.relay_links.specs.Link.{LinkState, LinkStart}
use Rattle.relay_connector.specs.declared.Returned.{Returned}
use Rattle.relay_core.specs.Past.{Origin}
use Rattle.relay_hooks.specs.Standing.{Standing}
use Rattle.relay_attempt.specs.Passed.{Passed}
use Rattle.relay_hooked.specs.Exchange.{IsUnderWay}
use Rattle.relay_request.specs.Calls.{CallsSoFar, is_exchanging, log_of}
use Rattle.relay_request.specs.Closing.{TurnOf}
use Rattle.relay_request.specs.Passed.{Start, World, called_to, origin_at}
use Rattle.relay_request.specs.Phases.{RunSoFar}
use Rattle.relay_request.specs.Relaying.{is_relaying}
use Rattle.relay_request.specs.Turn.{Advances, is_over}
use Rattle.relay_request.specs.declared.calls.Calls.{Calls}
use Rattle.relay_request.specs.declared.machine.Attempt.{Attempt}
use Rattle.relay_request.specs.declared.machine.Phase.{Phase}
use Rattle.relay_request.specs.declared.machine.Phase.TheVariants.{ReadHead, Connect, Unlinked, Prepare, Relay, Broken, Again, Fail, Close, Answer, Ended}
use Rattle.relay_request.proofs.TreatLemmas.{still_open}

module _ {L C : Type 0} where
  -- a phase that relays has its attempt
  pub relaying_attempt : (phase : Phase L C) → is_relaying phase ≡ true
      → (a : Box (Attempt L C)) × (phase ≡ Relay a)
  relaying_attempt ReadHead is = absurd (true≢false (sym is))
  relaying_attempt (Connect context session tries) is = absurd (true≢false (sym is))
  relaying_attempt (Unlinked context session attempts error) is = absurd (true≢false (sym is))
  relaying_attempt (Prepare context session link lease) is = absurd (true≢false (sym is))
  relaying_attempt (Relay a) is = (a, refl)
  relaying_attempt (Broken context session link lease keep error) is = absurd (true≢false (sym is))
  relaying_attempt (Again context session link lease keep error) is = absurd (true≢false (sym is))
  relaying_attempt (Fail link lease keep session error) is = absurd (true≢false (sym is))
  relaying_attempt (Close link lease keep outcome) is = absurd (true≢false (sym is))
  relaying_attempt (Answer session owed attempts) is = absurd (true≢false (sym is))
  relaying_attempt (Ended outcome attempts) is = absurd (true≢false (sym is))

  -- it has not ended
  pub relaying_going : (phase : Phase L C) → is_relaying phase ≡ true → is_over phase ≡ false
  relaying_going phase is =
      ap (λ (k : Phase L C). is_over k) (relaying_attempt phase is).1

  -- and its turn may enter several calls
  pub relaying_exchanges : (phase : Phase L C) → is_relaying phase ≡ true
      → is_exchanging phase ≡ true
  relaying_exchanges phase is =
      ap (λ (k : Phase L C). is_exchanging k) (relaying_attempt phase is).1

module _ {L C : Type 0} (state : L → LinkState) (start_at : L → LinkStart) where
  -- a request that is relayed handed nothing back, so that is said of it which is said where it did
  -- not
  pub relaying_run : (s : Start) (p : Passed) (w : World) (own : List (Returned L))
      (phase : Phase L C) (T : List (Returned L) → Type 0) → is_relaying phase ≡ true
      → RunSoFar state start_at s p w own phase
      → (RunSoFar state start_at s p w [] phase → T []) → T own
  relaying_run s p w [] phase T is run says = says run
  relaying_run s p w (r ∷ own) phase T is run says =
      let a = relaying_attempt phase is in
      let other : RunSoFar state start_at s p w (r ∷ own) (Relay a.0) =
      subst (λ (k : Phase L C). RunSoFar state start_at s p w (r ∷ own) k) a.1 run in
      absurd other.holds

  -- its turn is one of a request that has not ended
  pub relays_turn : (s : Start) (x : World) (phase next : Phase L C) → is_relaying phase ≡ true
      → Advances {C = C} state start_at s x next → TurnOf state start_at s x [] phase next
  relays_turn s x phase next is advances =
      let a = relaying_attempt phase is in
      subst (λ (k : Phase L C). TurnOf state start_at s x [] k next) (sym a.1) advances

  module _ {M K : Type 0} (allows : Standing → LogEntry → Type 0) (mark_of : C → ℕ) where
    -- its exchange is under way by the log of its calls
    pub relaying_under : (s : Start) (p : Passed) (w : World) (calls : Calls M K C)
        (own : List (Returned L)) (phase : Phase L C) (T : List (Returned L) → Type 0)
        → is_relaying phase ≡ true → CallsSoFar allows mark_of calls phase
        → RunSoFar state start_at (called_to s (log_of calls)) p w own phase
        → ((o : Origin) (q : Passed) (a : Box (Attempt L C)) → phase ≡ Relay a
        → IsUnderWay state start_at o q w.client w.ahead (log_of calls) a.value.exchange → T [])
        → T own
    relaying_under s p w calls own phase T is so_far run says =
        relaying_run (called_to s (log_of calls)) p w own phase T is run (λ none.
        let a = relaying_attempt phase is in
        let so_far : CallsSoFar allows mark_of calls (Relay a.0) =
        subst (λ (k : Phase L C). CallsSoFar allows mark_of calls k) a.1 so_far in
        let run : RunSoFar state start_at (called_to s (log_of calls)) p w [] (Relay a.0) =
        subst (λ (k : Phase L C). RunSoFar state start_at (called_to s (log_of calls)) p w [] k)
        a.1 none in
        let h = run.holds in
        says (origin_at (called_to s (log_of calls)) h.head h.sent a.0.value.lease.reused h.began) p
        a.0 a.1
        (subst (λ (l : List LogEntry). IsUnderWay state start_at
        (origin_at (called_to s (log_of calls)) h.head h.sent a.0.value.lease.reused h.began) p
        w.client w.ahead l a.0.value.exchange)
        (ap (λ (x : Start). x.called) (still_open s (log_of calls) so_far.unended)) h.under_way))
