-- The tasks that an exchange moved and the ends that came, by its turns.
--
--   first_counted    an exchange that is under way, of which nothing was counted
--   counted_turn     one more turn
--   counted_within   what was counted of one that is under way, by the bytes that both links gave
use Rattle.std.proofs.Common.{◌≡◌, ℕ, ◌+◌, ◌≤◌, ◌<◌, Bool, true, false, ◌&&◌, not, List, ◌++◌, length, length-append, Option, Some, None, refl, ap, ◌∙◌, ◌⊎◌, arith}
use Rattle.std.proofs.lemmas.List.{length-map}
use Rattle.relay_tasks.specs.declared.error.Error.{Error}
use Rattle.relay_tasks.specs.declared.task.HttpTask.{HttpTask}
use Rattle.relay_links.specs.Link.{LinkState, LinkStart}
use Rattle.relay_core.specs.Counts.{one_if, Carries, CountsAs, ends_left}
use Rattle.relay_core.specs.Moves.{SoFar, ResponseHeld, failure_task}
use Rattle.relay_core.specs.Past.{Origin, DownPast, UpPast}
use Rattle.relay_core.specs.State.{is_reading, is_response_done}
use Rattle.relay_core.specs.Table.{State, is_finished}
use Rattle.relay_core.specs.declared.step.Step.{Step}
use Rattle.relay_core.specs.declared.step.Step.TheVariants as step
use Rattle.relay_core.proofs.TallyLemmas.{carries_on, ends_on}
use Rattle.relay_sides.specs.Client.{ClientBlames, ClientRefuses, CannotEnd}
use Rattle.relay_sides.specs.Filtered.{handed}
use Rattle.relay_exchange.specs.Exchange as over
use Rattle.relay_attempt.specs.Bound.{IsWithin, HasCounted, CountsOn, core_in, most_tasks, most_ends}
use Rattle.relay_attempt.specs.Exchange.{DownHolds, UpHolds, Blames, IsUnderWay, down_state}
use Rattle.relay_attempt.specs.Head.{link_of}
use Rattle.relay_attempt.specs.declared.h1_exchange.H1Exchange.{H1Exchange}
use Rattle.relay_attempt.proofs.OrderLemmas.{passed_by, told_of_attempt, attempt_so_far, pieces_said}
use Rattle.relay_attempt.proofs.TurnLemmas.{under_way}
use Rattle.relay_attempt.proofs.WithinLemmas.{pieces_within, tasks_within}

-- ---- the beginning

-- a failure was put only where the response has ended
failure_counts : (failure : Option Error) (ended : Bool) → (ended ≡ false → failure ≡ None)
    → length (failure_task failure) ≤ one_if ended
failure_counts None ended none = omega arith
failure_counts (Some error) true none = omega arith
failure_counts (Some error) false none = let wrong = none refl in absurd (cc)

-- what is held of the response was read, or is the failure with which it ended
pub held_counts : (read batched held : List HttpTask) (failed over ended : Bool)
    → ResponseHeld read batched held failed over ended → length held ≤ length read + one_if ended
held_counts read batched held failed over ended h =
    let len = λ (xs : List HttpTask). length xs in
    let front : length read ≡ length h.given + length h.rest =
    ap len h.front ∙ length-append h.given h.rest in
    let all : length (h.rest ++ failure_task h.failure)
    ≡ length (failure_task h.refused ++ (h.dropped ++ held)) = ap len h.same in
    omega (
      arith,
      front,
      all,
      failure_counts h.failure ended h.none_failed,
      length-append h.rest (failure_task h.failure),
      length-append (failure_task h.refused) (h.dropped ++ held),
      length-append h.dropped held,
    )

-- a test counts one at most
pub one_at_most : (b : Bool) → one_if b ≤ 1
one_at_most true = omega arith
one_at_most false = omega arith

-- no more ends are left than there are
pub left_at_most : (s : State) → ends_left s ≤ most_ends
left_at_most s =
    omega (
      arith,
      one_at_most (is_reading s.duplex.client_request),
      one_at_most (not (is_response_done s.duplex.client_response)),
      one_at_most (not s.duplex.upstream_finished),
      one_at_most (not s.duplex.client_finished),
      one_at_most (not s.down.body_finished),
    )

-- where not both halves have finished an end is left
pub one_left : (s : State) → is_finished s.duplex ≡ false → 1 ≤ ends_left s
one_left s unfinished = by s.duplex.upstream_finished s.duplex.client_finished refl refl unfinished
  where
    by : (up client : Bool) → s.duplex.upstream_finished ≡ up → s.duplex.client_finished ≡ client
        → (up && client) ≡ false → 1 ≤ ends_left s
    by true true is is' wrong = absurd (cc)
    by true false is is' un = omega (arith, ap (λ (b : Bool). one_if (not b)) is')
    by false client is is' un = omega (arith, ap (λ (b : Bool). one_if (not b)) is)

module _ {L : Type 0} (state : L → LinkState) (start_at : L → LinkStart) where
  -- an exchange that is under way, of which nothing was counted
  pub first_counted : (s : Origin) (p : _) (link : LinkState) (ahead : List ℕ) (x : H1Exchange L)
      → IsUnderWay state start_at s p link ahead x → HasCounted state start_at 0 0 s link ahead x
  first_counted s p link ahead x u =
      let at = core_in state start_at x in
      let held = held_counts u.up.read u.down.batched at.duplex.responses.tasks _ _
      at.duplex.upstream_response_done u.holds.so_far.responses in
      record {
        passed = p;
        under_way = u;
        carries = record { within = omega (arith, held) };
        left = omega (arith, left_at_most at);
      }

  -- ---- what was counted, by the bytes that both links gave

  module _ (s : Origin) (p : DownPast) (q : UpPast) (link : LinkState) (ahead : List ℕ)
      (x : H1Exchange L)
      (so_far : SoFar (DownHolds link ahead x.down s)
      (UpHolds state start_at x.exchange.up s)
      (Blames state start_at x.exchange.up s) (core_in state start_at x) p q)
    where
      -- the pieces that were put
      put_within : length p.put + 3 ≤ length s.ahead + length p.came
      put_within =
          let c = so_far.down.passed.client in
          let session = x.down.session in
          let within = pieces_within (s.ahead ++ p.came) c.head c.framing c.len p.put c.has
          (pieces_said s p link ahead session c (so_far.steady refl).ends_last) c.some in
          omega (arith, within, length-append s.ahead p.came)

      -- the tasks that were read
      read_within : length q.read ≤ length q.got + 1
      read_within =
          let f = so_far.up in
          let tasks = tasks_within _ _ _ _ (f.given ++ f.withheld) _ f.holds.peer.tasks in
          let read : length q.read ≡ length f.given =
          ap (λ (xs : List HttpTask). length xs) f.is_read
          ∙ length-map f.given (handed s.sent.method) in
          omega (arith, tasks, read, length-append f.given f.withheld)

      -- the tasks that were moved
      pub tasks_moved : (moved : ℕ) → Carries moved (core_in state start_at x) p q
          → moved < most_tasks (length s.ahead + length p.came) (length q.got)
      tasks_moved moved carries =
          let taken : length p.put ≡ length q.taken + length x.exchange.duplex.requests.tasks =
          ap (λ (xs : List HttpTask). length xs) so_far.requests
          ∙ length-append q.taken x.exchange.duplex.requests.tasks in
          omega (
            arith,
            carries.within,
            taken,
            put_within,
            read_within,
            one_at_most x.exchange.duplex.upstream_response_done,
          )

      -- what was counted, as both links tell it
      pub within_of : (tasks ends : ℕ) → Carries tasks (core_in state start_at x) p q
          → ends < most_ends
          → IsWithin tasks ends s link (state (link_of x)) (start_at (link_of x))
      within_of tasks ends carries some =
          let told = told_of_attempt state start_at s link (state (link_of x))
          (start_at (link_of x)) (down_state x.down)
          (attempt_so_far state start_at s p q link ahead x.down x.exchange.up
          x.exchange.duplex so_far) in
          record {
            came = p.came;
            got = q.got;
            client_gave = told.came;
            peer_gave = told.got;
            tasks_within = tasks_moved tasks carries;
            ends_within = some;
          }

  -- what was counted of an exchange that is under way
  pub counted_within : (tasks ends : ℕ) (s : Origin) (link : LinkState) (ahead : List ℕ)
      (x : H1Exchange L) → HasCounted state start_at tasks ends s link ahead x
      → IsWithin tasks ends s link (state (link_of x)) (start_at (link_of x))
  counted_within tasks ends s link ahead x h =
      let some = one_left (core_in state start_at x) h.under_way.holds.goes_on.unfinished in
      within_of s h.under_way.down h.under_way.up link ahead x h.under_way.holds.so_far tasks ends
      h.carries (omega (arith, h.left, some))

  -- ---- one more turn

  module _ (tasks ends : ℕ) (s : Origin) (link link' : LinkState) (ahead ahead' : List ℕ)
      (old new : H1Exchange L) (h : HasCounted state start_at tasks ends s link ahead old)
      (result : Step)
      (went : over.Turns (DownHolds link' ahead' new.down s)
      (λ p e. ClientBlames s p link' e)
      (λ p left e. ClientRefuses s p link' new.down.told left e)
      (λ p e. ClientBlames s p link' e ⊎ CannotEnd s p new.down.told e)
      (UpHolds state start_at new.exchange.up s)
      (Blames state start_at new.exchange.up s) h.under_way.down h.under_way.up
      (core_in state start_at old) (core_in state start_at new) result)
      (tells : over.TellsOn old.down.told new.down.told result)
    where
      -- the tasks of a turn that counts so
      carried : (more_tasks more_ends : ℕ)
          → CountsAs (core_in state start_at old) (core_in state start_at new) more_tasks more_ends
          → Carries (more_tasks + tasks) (core_in state start_at new) went.p went.q
      carried more_tasks more_ends counts =
          carries_on (core_in state start_at old) (core_in state start_at new) h.under_way.down
          went.p h.under_way.up went.q tasks h.under_way.holds.so_far.requests
          went.so_far.requests went.extends went.adds refl h.carries more_tasks more_ends counts

      -- a turn behind which the exchange goes on
      on : over.GoesOn new.exchange.duplex
          → new.down.told.errors ≡ old.down.told.errors
          → (more_tasks more_ends : ℕ)
          → CountsAs (core_in state start_at old) (core_in state start_at new) more_tasks more_ends
          → HasCounted state start_at (more_tasks + tasks) (more_ends + ends) s link' ahead' new
      on goes_on same more_tasks more_ends counts =
          let left = ends_on (core_in state start_at old) (core_in state start_at new)
          (went.adds.stay goes_on.unfailed refl) more_tasks more_ends counts in
          record {
            passed = passed_by went.p went.q;
            under_way = under_way state start_at s went.p went.q link' ahead' new
                (record { so_far = went.so_far; goes_on = goes_on })
                (same ∙ h.under_way.untold);
            carries = carried more_tasks more_ends counts;
            left = omega (arith, left, h.left);
          }

      -- one that ends the exchange
      over_it : IsWithin tasks ends s link' (state (link_of new)) (start_at (link_of new))
      over_it =
          let some = one_left (core_in state start_at old)
          h.under_way.holds.goes_on.unfinished in
          let carries = carried 0 0 CountsAs.as_none in
          within_of s went.p went.q link' ahead' new went.so_far tasks ends
          (record { within = omega (arith, carries.within) }) (omega (arith, h.left, some))

      -- what a turn counted, by its answer
      pub counted_turn : CountsOn state start_at tasks ends s link' ahead' old new result
      counted_turn = by result went.comes_to tells
        where
          by : (r : Step)
              → over.ComesTo (λ p e. ClientBlames s p link' e)
              (λ p left e. ClientRefuses s p link' new.down.told left e)
              (λ p e. ClientBlames s p link' e ⊎ CannotEnd s p new.down.told e)
              (Blames state start_at new.exchange.up s) (core_in state start_at new) went.p went.q r
              → over.TellsOn old.down.told new.down.told r
              → CountsOn state start_at tasks ends s link' ahead' old new r
          by step.Moved goes_on same = on goes_on same
          by (step.Waited pause) goes_on same =
              let counted = on goes_on same 0 0 CountsAs.as_none in
              record {
                passed = counted.passed;
                under_way = counted.under_way;
                carries = record { within = omega (arith, counted.carries.within) };
                left = omega (arith, counted.left);
              }
          by step.Finished finishes same = over_it
          by (step.Failed why) reason told = over_it
