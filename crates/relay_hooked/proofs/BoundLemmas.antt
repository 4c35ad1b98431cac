-- What an exchange behind filters moved and the ends that came, by its turns.
--
--   passed_more      calls that are made later let no more tasks pass than there are
--   first_counted    an exchange that is under way, of which nothing was counted
--   counted_turn     one more turn
--   counted_within   what was counted of one that is under way, by the bytes that both links gave
use Rattle.std.proofs.Common.{◌≡◌, ℕ, ◌+◌, ◌≤◌, ◌<◌, Bool, true, false, List, [], ◌∷◌, ◌++◌, length, length-append, drop, append_assoc, refl, sym, ap, ◌∙◌, inl, inr, arith, subst}
use Rattle.std.specs.Prelude.{◌||◌}
use Rattle.std.proofs.Math.Seq.{drop-append_seam}
use Rattle.relay_tasks.specs.declared.error.Error.{Error}
use Rattle.relay_tasks.specs.declared.error.Fail.TheVariants as fail
use Rattle.relay_tasks.specs.declared.log.LogEntry.{LogEntry}
use Rattle.relay_tasks.specs.declared.task.HttpTask.{HttpTask}
use Rattle.relay_links.specs.Link.{LinkState, LinkStart}
use Rattle.relay_links.specs.declared.branch.Branch.{Branch}
use Rattle.relay_links.specs.declared.branch.Branch.TheVariants as branch
use Rattle.relay_core.specs.Counts.{Adds, CountsAs, moves_task, read_count}
use Rattle.relay_core.specs.Moves.{Extends, SoFar}
use Rattle.relay_core.specs.Past.{Origin, DownPast, UpPast}
use Rattle.relay_core.specs.Table.{State}
use Rattle.relay_core.specs.Uses.{HasCalled, MovesInside}
use Rattle.relay_core.specs.declared.step.Step.{Step}
use Rattle.relay_core.specs.declared.step.Step.TheVariants as step
use Rattle.relay_core.proofs.BoolLemmas.{clash, decide}
use Rattle.relay_core.proofs.TallyLemmas.{ends_on}
use Rattle.relay_calls.specs.Log.{requests_in}
use Rattle.relay_calls.proofs.LogLemmas.{requests_in-append}
use Rattle.relay_exchange.specs.Exchange as over
use Rattle.relay_filters.specs.Hooked.{is_lost}
use Rattle.relay_filters.specs.Request.{by_pieces, is_end_by, passed, passes, pieces_in}
use Rattle.relay_filters.proofs.PassedLemmas.{passed_few}
use Rattle.relay_filters.proofs.PieceLemmas.{pieces_append, pieces_go}
use Rattle.relay_attempt.specs.Bound.{IsWithin, most_ends, most_tasks}
use Rattle.relay_attempt.proofs.BoundLemmas.{held_counts, left_at_most, one_at_most, one_left}
use Rattle.relay_attempt.proofs.WithinLemmas.{pieces_within, tasks_within}
use Rattle.relay_hooked.specs.Attempt.{HookedHalf}
use Rattle.relay_hooked.specs.Bound.{Carries, CountsOn, HasCounted}
use Rattle.relay_hooked.specs.Calls.{calls_behind}
use Rattle.relay_hooked.specs.Exchange.{IsUnderWay, SideHolds}
use Rattle.relay_hooked.specs.Head.{core_in, filtering_of, link_of}
use Rattle.relay_hooked.specs.Laws.{passed_by}
use Rattle.relay_hooked.specs.Sides.{PeerHolds, PeerSideBlames}
use Rattle.relay_hooked.specs.declared.exchange.HookedExchange.{HookedExchange}
use Rattle.relay_hooked.proofs.SideLemmas.{half_of, told_at}
use Rattle.relay_hooked.proofs.TurnLemmas.{under_way}

-- ---- what the calls let pass

-- the calls that are made later let no more tasks pass than there are
pub passed_more : (a : Bool) (es more : List LogEntry)
    → length (passed a (es ++ more)) ≤ length (passed a es) + length more
passed_more a [] more = omega (arith, passed_few a more)
passed_more a (e ∷ es) more =
    omega (
      arith,
      passed_more (a || is_end_by e) es more,
      length-append (passes a e) (passed (a || is_end_by e) es),
      length-append (passes a e) (passed (a || is_end_by e) (es ++ more)),
    )

-- ---- the calls

-- the calls of an exchange go on with those that are made later
behind_more : (called own log more log' : List LogEntry) → log ≡ called ++ own
    → log' ≡ log ++ more → calls_behind called log' ≡ calls_behind called log ++ more
behind_more called own log more log' parts goes =
    ap (λ (l : List LogEntry). drop (length called) l)
    (goes ∙ ap (λ (l : List LogEntry). l ++ more) parts ∙ append_assoc called own more)
    ∙ drop-append_seam called (own ++ more)
    ∙ ap (λ (l : List LogEntry). l ++ more)
    (sym (ap (λ (l : List LogEntry). drop (length called) l) parts
    ∙ drop-append_seam called own))

-- ---- a step

-- a step by which so many calls more were made, of which each put one task at most
module _ (old new : State) (p p' : DownPast) (q q' : UpPast) (moved calls more : ℕ)
    (was : p.put ≡ q.taken ++ old.duplex.requests.tasks)
    (is : p'.put ≡ q'.taken ++ new.duplex.requests.tasks)
    (extends : Extends p q p' q') (adds : Adds old new q q')
    (few : length p'.put ≤ length p.put + more)
    (called : HasCalled old.down new.down → 1 ≤ more)
    (within : moved + length old.duplex.responses.tasks
    ≤ calls + length q.taken + (read_count old q + read_count old q))
  where
    -- so much is carried then
    abbrev IsCarried : ℕ → Type 0
    IsCarried n = n + length new.duplex.responses.tasks
        ≤ calls + more + length q'.taken + (read_count new q' + read_count new q')

    -- what was put, in numbers
    put_was : length p.put ≡ length q.taken + length old.duplex.requests.tasks
    put_was = ap (λ (l : List HttpTask). length l) was
        ∙ length-append q.taken old.duplex.requests.tasks

    put_is : length p'.put ≡ length q'.taken + length new.duplex.requests.tasks
    put_is = ap (λ (l : List HttpTask). length l) is
        ∙ length-append q'.taken new.duplex.requests.tasks

    -- and what was not taken back
    put_grew : length p'.put ≡ length p.put + length extends.put
    put_grew = ap (λ (l : List HttpTask). length l) extends.is_put
        ∙ length-append p.put extends.put

    taken_grew : length q'.taken ≡ length q.taken + length extends.taken
    taken_grew = ap (λ (l : List HttpTask). length l) extends.is_taken
        ∙ length-append q.taken extends.taken

    -- a step that moved nothing
    carries_none : IsCarried (0 + moved)
    carries_none = omega (arith, within, taken_grew, adds.held, adds.read)

    -- a step that moved a task, or made a call
    carries_task : (b : Branch) → moves_task b ≡ true → MovesInside b old new
        → IsCarried (1 + moved)
    carries_task branch.UpWrite task moves = absurd moves
    carries_task branch.DownWrite task moves = absurd moves
    carries_task branch.UpTake task moves =
        let fewer = ap (λ (l : List HttpTask). length l) moves.parts
        ∙ length-append (moves.first ∷ moves.more) new.duplex.requests.tasks in
        omega (
          arith,
          within,
          put_was,
          put_is,
          put_grew,
          fewer,
          length-append (moves.first ∷ []) moves.more,
          adds.held,
          adds.read,
        )
    carries_task branch.DownTake task moves =
        let fewer = ap (λ (l : List HttpTask). length l) moves.parts
        ∙ length-append (moves.first ∷ moves.more) new.duplex.responses.tasks in
        omega (
          arith,
          within,
          taken_grew,
          fewer,
          length-append (moves.first ∷ []) moves.more,
          adds.read,
        )
    carries_task branch.DownDrop task moves =
        let fewer = ap (λ (l : List HttpTask). length l) moves.parts
        ∙ length-append (moves.first ∷ moves.more) new.duplex.responses.tasks in
        omega (
          arith,
          within,
          taken_grew,
          fewer,
          length-append (moves.first ∷ []) moves.more,
          adds.read,
        )
    carries_task branch.DownEnd task moves = clash false task refl
    carries_task branch.DownClosed task moves = clash false task refl
    carries_task branch.UpRead task moves =
        let longer = ap (λ (l : List HttpTask). length l) moves.1
        ∙ length-append old.duplex.responses.tasks (moves.0 ∷ []) in
        omega (arith, within, taken_grew, longer, adds.held)
    carries_task branch.DownRead task moves = elim moves [
      | inl gains ↦ (
          let longer = ap (λ (l : List HttpTask). length l) gains.1
          ∙ length-append old.duplex.requests.tasks (gains.0 ∷ []) in
          omega (
            arith,
            within,
            few,
            put_was,
            put_is,
            taken_grew,
            longer,
            adds.held,
            adds.read,
          ))
      | inr made ↦ omega (arith, within, called made, taken_grew, adds.held, adds.read)
    ]
    carries_task branch.UpFinish task moves = clash false task refl
    carries_task branch.DownFinish task moves = clash false task refl
    carries_task branch.MessageUp task moves = absurd moves
    carries_task branch.MessageDown task moves = absurd moves

    -- one more step
    carries_on : (tasks ends : ℕ) → CountsAs old new tasks ends → IsCarried (tasks + moved)
    carries_on tasks ends CountsAs.as_none = carries_none
    carries_on tasks ends (CountsAs.as_task b task moves) = carries_task b task moves
    carries_on tasks ends (CountsAs.as_end b end moves) = carries_none

module _ {L : Type 0} (state : L → LinkState) (start_at : L → LinkStart) where
  -- an exchange that is under way, of which nothing was counted
  pub first_counted : (s : Origin) (p : _) (link : LinkState) (ahead : List ℕ)
      (log : List LogEntry) (x : HookedExchange L)
      → IsUnderWay state start_at s p link ahead log x
      → HasCounted state start_at 0 0 s link ahead log x
  first_counted s p link ahead log x u =
      let at = core_in log x in
      let held = held_counts u.up.read u.down.batched at.duplex.responses.tasks _ _
      at.duplex.upstream_response_done u.holds.so_far.responses in
      record {
        passed = p;
        under_way = u;
        carries = record { within = omega (arith, held) };
        left = omega (arith, left_at_most at);
      }

  -- ---- what was counted, by the bytes that both links gave

  module _ (s : Origin) (p : DownPast) (q : UpPast) (link : LinkState) (ahead : List ℕ)
      (log : List LogEntry) (x : HookedExchange L)
      (so_far : SoFar (SideHolds link ahead log s x.down)
      (PeerHolds state start_at s x.exchange.up) (PeerSideBlames state start_at s x.exchange.up)
      (core_in log x) p q)
    where
      -- the client's half
      abbrev half : HookedHalf (filtering_of s log x.down) s link x.down.ended
          x.down.inner.done p
      half = half_of state start_at s link ahead log x.down p so_far.down

      -- the calls, of which each was given a piece that came
      calls_within : length (pieces_in (calls_behind s.called log)) + 3
          ≤ length s.ahead + length p.came
      calls_within =
          let h = half in
          let within = pieces_within (s.ahead ++ p.came) s.head h.framing h.len h.pieces h.asks
          h.are_pieces h.some in
          let few : length (pieces_in (calls_behind s.called log)) ≤ length h.pieces =
          h.passed.few in
          omega (arith, within, few, length-append s.ahead p.came)

      -- the tasks that they put
      put_few : length p.put ≤ length (pieces_in (calls_behind s.called log))
      put_few =
          let first = x.down.at_first in
          let own = pieces_in (calls_behind s.called log) in
          let put : length p.put ≡ length (passed first own) =
          ap (λ (l : List HttpTask). length l) half.passed.left in
          omega (arith, put, passed_few first own)

      -- the tasks that were read
      read_within : length q.read ≤ length q.got + 1
      read_within = tasks_within _ _ _ _ q.read _ so_far.up.peer.tasks

      -- what was moved
      tasks_moved : (moved : ℕ) → Carries moved (calls_behind s.called log) (core_in log x) q
          → moved < most_tasks (length s.ahead + length p.came) (length q.got)
      tasks_moved moved carries =
          let taken : length p.put ≡ length q.taken + length x.exchange.duplex.requests.tasks =
          ap (λ (l : List HttpTask). length l) so_far.requests
          ∙ length-append q.taken x.exchange.duplex.requests.tasks in
          omega (
            arith,
            carries.within,
            taken,
            put_few,
            calls_within,
            read_within,
            one_at_most x.exchange.duplex.upstream_response_done,
          )

      -- what was counted, as both links tell it
      within_of : (tasks ends : ℕ)
          → Carries tasks (calls_behind s.called log) (core_in log x) q → ends < most_ends
          → IsWithin tasks ends s link (state (link_of x)) (start_at (link_of x))
      within_of tasks ends carries some =
          let told = told_at state start_at s link ahead log x.down x.exchange.up
          x.exchange.duplex p q so_far in
          record {
            came = p.came;
            got = q.got;
            client_gave = told.came;
            peer_gave = told.got;
            tasks_within = tasks_moved tasks carries;
            ends_within = some;
          }

  -- what was counted of an exchange that is under way
  pub counted_within : (tasks ends : ℕ) (s : Origin) (link : LinkState) (ahead : List ℕ)
      (log : List LogEntry) (x : HookedExchange L)
      → HasCounted state start_at tasks ends s link ahead log x
      → IsWithin tasks ends s link (state (link_of x)) (start_at (link_of x))
  counted_within tasks ends s link ahead log x h =
      let some = one_left (core_in log x) h.under_way.holds.goes_on.unfinished in
      within_of s h.under_way.down h.under_way.up link ahead log x h.under_way.holds.so_far tasks
      ends h.carries (omega (arith, h.left, some))

  -- ---- one more turn

  -- a turn that entered these calls behind those that stood in the log, whatever it fails for
  module _ (tasks ends : ℕ) (s : Origin) (link link' : LinkState) (ahead ahead' : List ℕ)
      (log more log' : List LogEntry) (old new : HookedExchange L)
      (h : HasCounted state start_at tasks ends s link ahead log old) (answer : Step)
      (blames : DownPast → Error → Type 0) (refuses : DownPast → List HttpTask → Error → Type 0)
      (cannot_end : DownPast → Error → Type 0)
      (went : over.Turns (SideHolds link' ahead' log' s new.down) blames refuses cannot_end
      (PeerHolds state start_at s new.exchange.up) (PeerSideBlames state start_at s new.exchange.up)
      h.under_way.down h.under_way.up (core_in log old) (core_in log' new) answer)
      (tells : over.TellsOn old.down.told new.down.told answer)
      (goes : log' ≡ log ++ more)
      (same_first : new.down.at_first ≡ old.down.at_first)
    where
      -- the calls of the exchange
      own_goes : calls_behind s.called log' ≡ calls_behind s.called log ++ more
      own_goes =
          let was = h.under_way.holds.so_far.down.passed in
          behind_more s.called was.own log more log' was.parts goes

      -- those of its pieces, in numbers
      own_grew : length (pieces_in (calls_behind s.called log'))
          ≡ length (pieces_in (calls_behind s.called log)) + length (pieces_in more)
      own_grew = ap (λ (l : List LogEntry). length (pieces_in l)) own_goes
          ∙ pieces_append (calls_behind s.called log) more

      -- those before stay
      own_stays : (x : List LogEntry)
          × (pieces_in (calls_behind s.called log') ≡ pieces_in (calls_behind s.called log) ++ x)
      own_stays =
          let on = pieces_go (requests_in (calls_behind s.called log)) (requests_in more) in (
            on.0,
            ap pieces_in own_goes
                ∙ ap by_pieces (requests_in-append (calls_behind s.called log) more) ∙ on.1,
          )

      -- each of those that were made puts one task at most
      put_grew_by : length went.p.put ≤ length h.under_way.down.put + length (pieces_in more)
      put_grew_by =
          let first = old.down.at_first in
          let own = pieces_in (calls_behind s.called log) in
          let was : length h.under_way.down.put ≡ length (passed first own) =
          ap (λ (l : List HttpTask). length l)
          (half s h.under_way.down h.under_way.up link ahead log old
          h.under_way.holds.so_far).passed.left in
          let x = own_stays.0 in
          let is : length went.p.put ≡ length (passed first (own ++ x)) =
          ap (λ (l : List HttpTask). length l)
          ((half s went.p went.q link' ahead' log' new went.so_far).passed.left
          ∙ ap (λ (a : Bool). passed a (pieces_in (calls_behind s.called log'))) same_first
          ∙ ap (λ (es : List LogEntry). passed first es) own_stays.1) in
          let count : length (pieces_in (calls_behind s.called log')) ≡ length own + length x =
          ap (λ (l : List LogEntry). length l) own_stays.1 ∙ length-append own x in
          omega (arith, was, is, passed_more first own x, count, own_grew)

      -- a turn that passed a piece through its filters made one more at least
      called_more : HasCalled (core_in log old).down (core_in log' new).down
          → 1 ≤ length (pieces_in more)
      called_more called =
          let all : length (pieces_in log') ≡ length (pieces_in log) + length (pieces_in more) =
          ap (λ (l : List LogEntry). length (pieces_in l)) goes ∙ pieces_append log more in
          omega (arith, called, all)

      -- what a turn that counts so moved
      carried : (more_tasks more_ends : ℕ)
          → CountsAs (core_in log old) (core_in log' new) more_tasks more_ends
          → Carries (more_tasks + tasks) (calls_behind s.called log') (core_in log' new) went.q
      carried more_tasks more_ends counts =
          let now = carries_on (core_in log old) (core_in log' new) h.under_way.down went.p
          h.under_way.up went.q tasks (length (pieces_in (calls_behind s.called log)))
          (length (pieces_in more)) h.under_way.holds.so_far.requests went.so_far.requests
          went.extends went.adds put_grew_by called_more h.carries.within more_tasks more_ends
          counts in
          record { within = omega (arith, now, own_grew) }

      -- a turn behind which the exchange goes on
      on : over.GoesOn new.exchange.duplex
          → new.down.told.errors ≡ old.down.told.errors
          → is_lost new.down.stopped ≡ false → (more_tasks more_ends : ℕ)
          → CountsAs (core_in log old) (core_in log' new) more_tasks more_ends
          → HasCounted state start_at (more_tasks + tasks) (more_ends + ends) s link' ahead' log'
          new
      on goes_on same alive more_tasks more_ends counts =
          let left = ends_on (core_in log old) (core_in log' new)
          (went.adds.stay goes_on.unfailed refl) more_tasks more_ends counts in
          record {
            passed = passed_by went.p went.q;
            under_way = under_way state start_at s link' ahead' log' false new went.p went.q
                (record { so_far = went.so_far; goes_on = goes_on }) alive
                (same ∙ h.under_way.untold);
            carries = carried more_tasks more_ends counts;
            left = omega (arith, left, h.left);
          }

      -- one that ends the exchange
      over_it : IsWithin tasks ends s link' (state (link_of new)) (start_at (link_of new))
      over_it =
          let some = one_left (core_in log old) h.under_way.holds.goes_on.unfinished in
          let carries = carried 0 0 CountsAs.as_none in
          within_of s went.p went.q link' ahead' log' new went.so_far tasks ends
          (record { within = omega (arith, carries.within) }) (omega (arith, h.left, some))

      -- what a turn counted, by its answer, where no hook wanted memory
      counts_alive : is_lost new.down.stopped ≡ false
          → CountsOn state start_at tasks ends s link' ahead' log log' old new answer
      counts_alive alive = by answer went.comes_to tells
        where
          by : (r : Step)
              → over.ComesTo blames refuses cannot_end
              (PeerSideBlames state start_at s new.exchange.up) (core_in log' new) went.p went.q r
              → over.TellsOn old.down.told new.down.told r
              → CountsOn state start_at tasks ends s link' ahead' log log' old new r
          by step.Moved goes_on same = on goes_on same alive
          by (step.Waited pause) goes_on same =
              let counted = on goes_on same alive 0 0 CountsAs.as_none in
              record {
                passed = counted.passed;
                under_way = counted.under_way;
                carries = record { within = omega (arith, counted.carries.within) };
                left = omega (arith, counted.left);
              }
          by step.Finished finishes same = over_it
          by (step.Failed why) reason told = over_it

      -- what it counted: one in which a hook wanted memory ends the exchange
      pub counted_turn : (result : Step)
          → (is_lost new.down.stopped ≡ true → result ≡ step.Failed fail.OutOfMemory)
          → (is_lost new.down.stopped ≡ false → result ≡ answer)
          → CountsOn state start_at tasks ends s link' ahead' log log' old new result
      counted_turn result lost alive = elim (decide (is_lost new.down.stopped)) [
        | inl gone ↦ subst
            (λ (r : Step). CountsOn state start_at tasks ends s link' ahead' log log' old new r)
            (sym (lost gone)) over_it
        | inr kept ↦ subst
            (λ (r : Step). CountsOn state start_at tasks ends s link' ahead' log log' old new r)
            (sym (alive kept)) (counts_alive kept)
      ]
