-- The tasks that were moved and the ends that came, counted through the steps of an exchange.
--
--   carries_on    one more step: the tasks that were moved are those put and taken
--   ends_on       one more step: an end that came is left no more
use Rattle.std.proofs.Common.{◌≡◌, ℕ, ◌+◌, ◌≤◌, Bool, true, false, not, List, [], ◌∷◌, ◌++◌, length, length-append, refl, ap, ◌∙◌, inl, inr, arith}
use Rattle.relay_tasks.specs.declared.task.HttpTask.{HttpTask}
use Rattle.relay_links.specs.declared.branch.Branch.{Branch}
use Rattle.relay_links.specs.declared.branch.Branch.TheVariants as branch
use Rattle.relay_core.specs.Counts.{one_if, Carries, ends_left, EndsStay, Adds, CountsAs, moves_task, brings_end}
use Rattle.relay_core.specs.Moves.{Extends}
use Rattle.relay_core.specs.Past.{DownPast, UpPast}
use Rattle.relay_core.specs.State.{is_reading, is_response_done}
use Rattle.relay_core.specs.Table.{State}
use Rattle.relay_core.specs.Uses.{GainsTask, LosesTasks, MovesInside}
use Rattle.relay_core.proofs.BoolLemmas.{clash}

-- ---- lists

-- equal lists are as long
same_length : (xs ys : List HttpTask) → xs ≡ ys → length xs ≡ length ys
same_length xs ys is = ap (λ (l : List HttpTask). length l) is

-- a list that gained a task is longer
gains_longer : (before after : List HttpTask) → GainsTask before after
    → length after ≡ length before + 1
gains_longer before after gains =
    same_length after (before ++ gains.0 ∷ []) gains.1 ∙ length-append before (gains.0 ∷ [])

-- one that lost some is shorter
loses_shorter : (before after : List HttpTask) → LosesTasks before after
    → length after + 1 ≤ length before
loses_shorter before after loses =
    let parts : length before ≡ length (loses.first ∷ loses.more) + length after =
    same_length before ((loses.first ∷ loses.more) ++ after) loses.parts
    ∙ length-append (loses.first ∷ loses.more) after in
    omega (arith, parts)

-- what was put is as long as what was taken and what is held
put_length : (put taken held : List HttpTask) → put ≡ taken ++ held
    → length put ≡ length taken + length held
put_length put taken held is = same_length put (taken ++ held) is ∙ length-append taken held

-- a list that goes on from another is no shorter
longer : (before more after : List HttpTask) → after ≡ before ++ more
    → length before ≤ length after
longer before more after is =
    let parts : length after ≡ length before + length more =
    same_length after (before ++ more) is ∙ length-append before more in
    omega (arith, parts)

-- ---- tasks

module _ (old new : State) (p p' : DownPast) (q q' : UpPast) (moved : ℕ)
    (was : p.put ≡ q.taken ++ old.duplex.requests.tasks)
    (is : p'.put ≡ q'.taken ++ new.duplex.requests.tasks)
    (extends : Extends p q p' q') (adds : Adds old new q q')
    (calls : new.down.calls ≡ old.down.calls) (carries : Carries moved old p q)
  where
    -- what was put, in numbers
    put_was : length p.put ≡ length q.taken + length old.duplex.requests.tasks
    put_was = put_length p.put q.taken old.duplex.requests.tasks was

    put_is : length p'.put ≡ length q'.taken + length new.duplex.requests.tasks
    put_is = put_length p'.put q'.taken new.duplex.requests.tasks is

    -- and what was not taken back
    put_grew : length p.put ≤ length p'.put
    put_grew = longer p.put extends.put p'.put extends.is_put

    taken_grew : length q.taken ≤ length q'.taken
    taken_grew = longer q.taken extends.taken q'.taken extends.is_taken

    -- a step that moved nothing
    carries_none : Carries (0 + moved) new p' q'
    carries_none = record {
      within = omega (arith, carries.within, put_grew, taken_grew, adds.held, adds.read);
    }

    -- a step that moved a task
    carries_task : (b : Branch) → moves_task b ≡ true → MovesInside b old new
        → Carries (1 + moved) new p' q'
    carries_task branch.UpWrite task moves = absurd moves
    carries_task branch.DownWrite task moves = absurd moves
    carries_task branch.UpTake task moves =
        let fewer = loses_shorter old.duplex.requests.tasks new.duplex.requests.tasks moves in
        record {
          within = omega (
            arith,
            carries.within,
            put_was,
            put_is,
            put_grew,
            fewer,
            adds.held,
            adds.read,
          );
        }
    carries_task branch.DownTake task moves =
        let fewer = loses_shorter old.duplex.responses.tasks new.duplex.responses.tasks moves in
        record {
          within = omega (arith, carries.within, put_grew, taken_grew, fewer, adds.read);
        }
    carries_task branch.DownDrop task moves =
        let fewer = loses_shorter old.duplex.responses.tasks new.duplex.responses.tasks moves in
        record {
          within = omega (arith, carries.within, put_grew, taken_grew, fewer, adds.read);
        }
    carries_task branch.DownEnd task moves = clash false task refl
    carries_task branch.DownClosed task moves = clash false task refl
    carries_task branch.UpRead task moves =
        let more = gains_longer old.duplex.responses.tasks new.duplex.responses.tasks moves in
        record {
          within = omega (arith, carries.within, put_grew, taken_grew, more, adds.held);
        }
    carries_task branch.DownRead task moves = elim moves [
      | inl gains ↦ (
          let more = gains_longer old.duplex.requests.tasks new.duplex.requests.tasks gains in
          record {
            within = omega (
              arith,
              carries.within,
              put_was,
              put_is,
              taken_grew,
              more,
              adds.held,
              adds.read,
            );
          })
      | inr called ↦ absurd (omega (arith, called, calls))
    ]
    carries_task branch.UpFinish task moves = clash false task refl
    carries_task branch.DownFinish task moves = clash false task refl
    carries_task branch.MessageUp task moves = absurd moves
    carries_task branch.MessageDown task moves = absurd moves

    -- one more step
    pub carries_on : (tasks ends : ℕ) → CountsAs old new tasks ends
        → Carries (tasks + moved) new p' q'
    carries_on tasks ends CountsAs.as_none = carries_none
    carries_on tasks ends (CountsAs.as_task b task moves) = carries_task b task moves
    carries_on tasks ends (CountsAs.as_end b end moves) = carries_none

-- ---- ends

-- a test that stays once it fails counts no more
fewer_left : (a b : Bool) → (a ≡ false → b ≡ false) → one_if b ≤ one_if a
fewer_left true true stays = omega arith
fewer_left true false stays = omega arith
fewer_left false b stays = omega (arith, ap one_if (stays refl))

-- the opposite of a test that stays once it holds
fewer_not : (a b : Bool) → (a ≡ true → b ≡ true) → one_if (not b) ≤ one_if (not a)
fewer_not true b stays = omega (arith, ap (λ (x : Bool). one_if (not x)) (stays refl))
fewer_not false true stays = omega arith
fewer_not false false stays = omega arith

module _ (old new : State) (stay : EndsStay old new) where
  request_left : one_if (is_reading new.duplex.client_request)
      ≤ one_if (is_reading old.duplex.client_request)
  request_left = fewer_left _ _ stay.request

  response_left : one_if (not (is_response_done new.duplex.client_response))
      ≤ one_if (not (is_response_done old.duplex.client_response))
  response_left = fewer_not _ _ stay.response

  up_left : one_if (not new.duplex.upstream_finished) ≤ one_if (not old.duplex.upstream_finished)
  up_left = fewer_not _ _ stay.up_finished

  client_left : one_if (not new.duplex.client_finished) ≤ one_if (not old.duplex.client_finished)
  client_left = fewer_not _ _ stay.client_finished

  body_left : one_if (not new.down.body_finished) ≤ one_if (not old.down.body_finished)
  body_left = fewer_not _ _ stay.body_finished

  -- a step that brought an end
  ends_one : (b : Branch) → brings_end b ≡ true → MovesInside b old new
      → 1 + ends_left new ≤ ends_left old
  ends_one branch.UpWrite end moves = absurd moves
  ends_one branch.DownWrite end moves = absurd moves
  ends_one branch.UpTake end moves = clash false end refl
  ends_one branch.DownTake end moves = clash false end refl
  ends_one branch.DownDrop end moves = clash false end refl
  ends_one branch.DownEnd end moves =
      let before = ap (λ (x : Bool). one_if (not x)) moves.0 in
      let after = ap (λ (x : Bool). one_if (not x)) moves.1 in
      omega (arith, before, after, request_left, up_left, client_left, body_left)
  ends_one branch.DownClosed end moves =
      let before = ap one_if moves.0 in
      let after = ap one_if moves.1 in
      omega (arith, before, after, response_left, up_left, client_left, body_left)
  ends_one branch.UpRead end moves = clash false end refl
  ends_one branch.DownRead end moves = clash false end refl
  ends_one branch.UpFinish end moves =
      let before = ap (λ (x : Bool). one_if (not x)) moves.0 in
      let after = ap (λ (x : Bool). one_if (not x)) moves.1 in
      omega (arith, before, after, request_left, response_left, client_left, body_left)
  ends_one branch.DownFinish end moves = elim moves [
    | inl body ↦ (
        let before = ap (λ (x : Bool). one_if (not x)) body.2 in
        let after = ap (λ (x : Bool). one_if (not x)) body.3 in
        omega (arith, before, after, request_left, response_left, up_left, client_left))
    | inr half ↦ (
        let before = ap (λ (x : Bool). one_if (not x)) half.0 in
        let after = ap (λ (x : Bool). one_if (not x)) half.1 in
        omega (arith, before, after, request_left, response_left, up_left, body_left))
  ]
  ends_one branch.MessageUp end moves = absurd moves
  ends_one branch.MessageDown end moves = absurd moves

  -- no more ends are left
  ends_none : 0 + ends_left new ≤ ends_left old
  ends_none = omega (arith, request_left, response_left, up_left, client_left, body_left)

  -- one more step
  pub ends_on : (tasks ends : ℕ) → CountsAs old new tasks ends
      → ends + ends_left new ≤ ends_left old
  ends_on tasks ends CountsAs.as_none = ends_none
  ends_on tasks ends (CountsAs.as_task b task moves) = ends_none
  ends_on tasks ends (CountsAs.as_end b end moves) = ends_one b end moves
