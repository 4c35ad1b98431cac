-- Lists that are gone through, and batches.
use Rattle.std.proofs.Common.{◌≡◌, ℕ, suc, ◌+◌, ◌<◌, Bool, true, false, List, [], ◌∷◌, ◌++◌, length, drop, slice_get, Some, None, refl, sym, ap, ◌∙◌, arith, add-one, append_assoc, subst, Result, Ok, Err, OnErr}
use Rattle.std.proofs.Math.Seq.{drop-cons}
use Rattle.std.proofs.lemmas.Option.{slice_get_within, get_or_from_slice_get, slice_get-get_or}
use Rattle.std.specs.List.{list_any}
use Rattle.relay_tasks.specs.declared.task.HttpTask.{HttpTask}
use Rattle.relay_core.specs.Batch.{plain_front, behind_plain, Loses}
use Rattle.relay_core.specs.Pipe.{Held, is_failure, begins_plain}
use Rattle.relay_core.proofs.BoolLemmas.{not_true}

-- a list that has an element at a place is that element and what is behind, from there on
drop_at : {A : Type 0} (xs : List A) (n : ℕ) (x : A) → slice_get xs n ≡ Some x
    → drop n xs ≡ x ∷ drop (n + 1) xs
drop_at xs n x is =
    rw add-one (drop-cons xs n x (slice_get_within xs n x is)
    ∙ ap (λ y. y ∷ drop (suc n) xs) (get_or_from_slice_get xs n x x is))

-- an element that passes is among those from its place on
pub any_found : {A : Type 0} (p : A → Bool) (xs : List A) (n : ℕ) (x : A) → Some x ≡ slice_get xs n
    → p x ≡ true → list_any p (drop n xs) ≡ true
any_found p xs n x is passes = rw (drop_at xs n x (sym is), passes)

-- an element that does not pass can be left out
pub any_passed : {A : Type 0} (p : A → Bool) (xs : List A) (n : ℕ) (x : A)
    → Some x ≡ slice_get xs n → p x ≡ false
    → list_any p (drop (n + 1) xs) ≡ list_any p (drop n xs)
any_passed p xs n x is fails = sym (rw (drop_at xs n x (sym is), fails))

-- there is an element at a place within the list
pub none_within : {A : Type 0} (xs : List A) (n : ℕ) → None ≡ slice_get xs n → n < length xs → ⊥
none_within [] n none within = omega arith
none_within (x ∷ xs) n none within = cc (slice_get-get_or (x ∷ xs) n x within)

-- a first task that is no failure belongs to the front
front_step : (task : HttpTask) (tasks : List HttpTask) → begins_plain (task ∷ tasks) ≡ true
    → (plain_front (task ∷ tasks) ≡ task ∷ plain_front tasks)
    × (behind_plain (task ∷ tasks) ≡ behind_plain tasks)
front_step task tasks plain = let is = not_true (is_failure task) plain in (rw is refl, rw is refl)

-- what was moved out of a pipe and what is still to be moved is its front; its rest stays
pub record Moving (start : Held) (begun : List HttpTask) (pipe : Held)
    (tasks : List HttpTask) : Type 0 where
  pub front : tasks ++ plain_front pipe.tasks ≡ begun ++ plain_front start.tasks
  pub behind : behind_plain pipe.tasks ≡ behind_plain start.tasks
  pub moved : List HttpTask
  pub parts : start ≡ record pipe { tasks = moved ++ pipe.tasks }

-- one more task is moved
moving_task : (start : Held) (begun : List HttpTask) (next : Held) (tasks : List HttpTask)
    (task : HttpTask) → begins_plain (task ∷ next.tasks) ≡ true
    → Moving start begun (record next { tasks = task ∷ next.tasks }) tasks
    → Moving start begun next (tasks ++ task ∷ [])
moving_task start begun next tasks task plain moving =
    let step = front_step task next.tasks plain in
    record {
      front = append_assoc tasks (task ∷ []) (plain_front next.tasks)
          ∙ ap (λ (xs : List HttpTask). tasks ++ xs) (sym step.0) ∙ moving.front;
      behind = sym step.1 ∙ moving.behind;
      moved = moving.moved ++ task ∷ [];
      parts = moving.parts ∙ ap
          (λ (xs : List HttpTask). let held : Held = record next { tasks = xs } in held)
          (sym (append_assoc moving.moved (task ∷ []) next.tasks));
    }

-- a task was taken from the pipe, and stands behind those that moved
pub moving_on : (start : Held) (begun : List HttpTask) (pipe next : Held) (tasks : List HttpTask)
    (task : HttpTask) → pipe ≡ record next { tasks = task ∷ next.tasks }
    → begins_plain pipe.tasks ≡ true → Moving start begun pipe tasks
    → Moving start begun next (tasks ++ task ∷ [])
moving_on start begun pipe next tasks task taken plain moving =
    let P : Held → Type 0 = λ held. begins_plain held.tasks ≡ true in
    let M : Held → Type 0 = λ held. Moving start begun held tasks in
    moving_task start begun next tasks task (subst P taken plain) (subst M taken moving)

-- a task that was taken is lost with those behind it
pub loses_more : (old mid new : Held) (task : HttpTask)
    → old ≡ record mid { tasks = task ∷ mid.tasks } → Loses mid new → Loses old new
loses_more old mid new task taken loses =
    record {
      lost = task ∷ loses.lost;
      parts = taken ∙ ap (λ (held : Held). let more : Held = record held {
        tasks = task ∷ held.tasks;
      } in more) loses.parts;
    }

-- a fact that holds whatever the answer is
pub on_err : {A E : Type 0} (r : Result A E) (P : Type 0) → P → OnErr r P
on_err (Ok a) P p = tt
on_err (Err e) P p = p

-- tasks that were moved and one that was taken are lost
pub loses_after : (start pipe next : Held) (task : HttpTask) (moved : List HttpTask)
    → start ≡ record pipe { tasks = moved ++ pipe.tasks }
    → pipe ≡ record next { tasks = task ∷ next.tasks } → Loses start next
loses_after start pipe next task moved parts taken =
    record {
      lost = moved ++ task ∷ [];
      parts = parts
          ∙ ap (λ (held : Held). let more : Held = record held {
            tasks = moved ++ held.tasks;
          } in more) taken
          ∙ ap (λ (xs : List HttpTask). let more : Held = record next { tasks = xs } in more)
          (sym (append_assoc moved (task ∷ []) next.tasks));
    }
