-- Lists of tasks: where their end and their failures stand.
use Rattle.std.proofs.Common.{◌≡◌, Bool, true, false, List, [], ◌∷◌, ◌++◌, Option, Some, None, option_to_list, refl, sym, ap, ◌∙◌, subst, inl, inr, ◌⊎◌, append-nil}
use Rattle.std.proofs.lemmas.List.Folds.{list_any-append}
use Rattle.std.specs.List.{list_any}
use Rattle.relay_tasks.specs.declared.error.Error.{Error}
use Rattle.relay_tasks.specs.declared.task.HttpTask.{HttpTask}
use Rattle.relay_tasks.specs.declared.task.HttpTask.TheVariants as task
use Rattle.relay_tasks.specs.Task.{is_end}
use Rattle.relay_core.specs.Batch.{plain_front, batch_of}
use Rattle.relay_core.specs.Moves.{EndsLast, failure_task}
use Rattle.relay_core.specs.Pipe.{is_failure}
use Rattle.relay_core.proofs.BoolLemmas.{decide, clash, or_cases, or_inl, or_inr, or_left, or_right}

-- an element of the first list passes
pub any_left : {A : Type 0} (p : A → Bool) (xs ys : List A) → list_any p xs ≡ true
    → list_any p (xs ++ ys) ≡ true
any_left p xs ys h = list_any-append p xs ys ∙ or_inl (list_any p xs) (list_any p ys) h

-- an element of the second list passes
pub any_right : {A : Type 0} (p : A → Bool) (xs ys : List A) → list_any p ys ≡ true
    → list_any p (xs ++ ys) ≡ true
any_right p xs ys h = list_any-append p xs ys ∙ or_inr (list_any p xs) (list_any p ys) h

-- an element that passes is of the first list or of the second
pub any_cases : {A : Type 0} (p : A → Bool) (xs ys : List A) → list_any p (xs ++ ys) ≡ true
    → (list_any p xs ≡ true) ⊎ (list_any p ys ≡ true)
any_cases p xs ys h =
    or_cases (list_any p xs) (list_any p ys) (sym (list_any-append p xs ys) ∙ h)

-- no element of the first list passes where none of both does
pub none_left : {A : Type 0} (p : A → Bool) (xs ys : List A) → list_any p (xs ++ ys) ≡ false
    → list_any p xs ≡ false
none_left p xs ys h =
    or_left (list_any p xs) (list_any p ys) (sym (list_any-append p xs ys) ∙ h)

-- a list with an element is not empty
no_element : {A B : Type 0} (front : List A) (x : A) (behind : List A) → [] ≡ front ++ x ∷ behind
    → B
no_element [] x behind h = cc
no_element (y ∷ front) x behind h = cc

-- what is behind the first elements of equal lists
tails : {A : Type 0} (x y : A) (xs ys : List A) → x ∷ xs ≡ y ∷ ys → (x ≡ y) × (xs ≡ ys)
tails x y xs ys h = (cc, cc)

-- an element behind which others stand was put before the last
pub record Before {A : Type 0} (xs front : List A) (y : A) : Type 0 where
  pub more : List A
  pub is : xs ≡ front ++ y ∷ more

-- an element of a list is its last, or it was put before
pub last_or_before : {A : Type 0} (xs : List A) (x y : A) (front behind : List A)
    → xs ++ x ∷ [] ≡ front ++ y ∷ behind → (x ≡ y) ⊎ Before xs front y
last_or_before [] x y [] behind h = inl (tails x y [] behind h).0
last_or_before [] x y (f ∷ front) behind h =
    no_element front y behind (tails x f [] (front ++ y ∷ behind) h).1
last_or_before (z ∷ zs) x y [] behind h =
    let same = tails z y (zs ++ x ∷ []) behind h in
    inr (record { more = zs; is = ap (λ u. u ∷ zs) same.0 })
last_or_before (z ∷ zs) x y (f ∷ front) behind h =
    let same = tails z f (zs ++ x ∷ []) (front ++ y ∷ behind) h in
    elim (last_or_before zs x y front behind same.1) [
      | inl last ↦ inl last
      | inr before ↦ inr (record {
        more = before.more;
        is = ap (λ u. u ∷ zs) same.0 ∙ ap (λ us. f ∷ us) before.is;
      })
    ]

-- what passes in front of the last element passes among those before
front_within : {A : Type 0} (p : A → Bool) (xs : List A) (x : A) (front : List A) (y : A)
    (behind : List A) → xs ++ x ∷ [] ≡ front ++ y ∷ behind → list_any p front ≡ true
    → list_any p xs ≡ true
front_within p xs x [] y behind h any = clash false any refl
front_within p [] x (f ∷ front) y behind h any =
    no_element front y behind (tails x f [] (front ++ y ∷ behind) h).1
front_within p (z ∷ zs) x (f ∷ front) y behind h any =
    let same = tails z f (zs ++ x ∷ []) (front ++ y ∷ behind) h in
    elim (or_cases (p f) (list_any p front) any) [
      | inl here ↦ or_inl (p z) (list_any p zs) (ap p same.0 ∙ here)
      | inr later ↦ or_inr (p z) (list_any p zs)
          (front_within p zs x front y behind same.1 later)
    ]

-- a task may be put behind tasks that do not end the list
ends_put : (xs : List HttpTask) (x : HttpTask) → list_any is_end xs ≡ false
    → EndsLast (xs ++ x ∷ [])
ends_put xs x open_yet front [] h any = refl
ends_put xs x open_yet front (y ∷ behind) h any =
    clash (list_any is_end xs) (front_within is_end xs x front y behind h any) open_yet

-- behind the end nothing may be put
pub ends_more : (xs : List HttpTask) (x : Option HttpTask) → EndsLast xs
    → (list_any is_end xs ≡ true → option_to_list x ≡ []) → EndsLast (xs ++ option_to_list x)
ends_more xs None ends stops =
    let P : List HttpTask → Type 0 = λ ys. EndsLast ys in subst P (sym (append-nil xs)) ends
ends_more xs (Some x) ends stops =
    elim (decide (list_any is_end xs)) [
      | inl over ↦ no_element [] x [] (sym (stops over))
      | inr open_yet ↦ ends_put xs x open_yet
    ]

-- the tasks up to the first failure are none
plain_fronts : (tasks : List HttpTask) → list_any is_failure (plain_front tasks) ≡ false
plain_fronts [] = refl
plain_fronts (task.Header head end ∷ tasks) = plain_fronts tasks
plain_fronts (task.Body bytes end ∷ tasks) = plain_fronts tasks
plain_fronts (task.UpgradedBody bytes end ∷ tasks) = plain_fronts tasks
plain_fronts (task.Trailer fields ∷ tasks) = plain_fronts tasks
plain_fronts (task.Done ∷ tasks) = plain_fronts tasks
plain_fronts (task.Failed error ∷ tasks) = refl

-- a failure goes alone, and else no failure is in the batch
pub alone_or_plain : (tasks : List HttpTask)
    → ((e : Error) × (batch_of tasks ≡ task.Failed e ∷ []))
    ⊎ (list_any is_failure (batch_of tasks) ≡ false)
alone_or_plain [] = inr refl
alone_or_plain (task.Header head end ∷ tasks) = inr (plain_fronts tasks)
alone_or_plain (task.Body bytes end ∷ tasks) = inr (plain_fronts tasks)
alone_or_plain (task.UpgradedBody bytes end ∷ tasks) = inr (plain_fronts tasks)
alone_or_plain (task.Trailer fields ∷ tasks) = inr (plain_fronts tasks)
alone_or_plain (task.Done ∷ tasks) = inr (plain_fronts tasks)
alone_or_plain (task.Failed error ∷ tasks) = inl (error, refl)

-- tasks that are no failure stand in front of the failure
pub record Parted (xs ys zs : List HttpTask) (failure : Option Error) : Type 0 where
  pub behind : List HttpTask
  pub front : xs ≡ ys ++ behind
  pub rest : behind ++ failure_task failure ≡ zs

-- tasks without a failure are the front of those that passed
pub plain_part : (xs ys zs : List HttpTask) (failure : Option Error)
    → xs ++ failure_task failure ≡ ys ++ zs → list_any is_failure ys ≡ false
    → Parted xs ys zs failure
plain_part xs [] zs failure h plain = record { behind = xs; front = refl; rest = h }
plain_part [] (y ∷ ys) zs None h plain = no_element [] y (ys ++ zs) h
plain_part [] (y ∷ ys) zs (Some e) h plain =
    let same = tails (task.Failed e) y [] (ys ++ zs) h in
    clash (is_failure y) (ap is_failure (sym same.0))
    (or_left (is_failure y) (list_any is_failure ys) plain)
plain_part (x ∷ xs) (y ∷ ys) zs failure h plain =
    let same = tails x y (xs ++ failure_task failure) (ys ++ zs) h in
    let part = plain_part xs ys zs failure same.1
    (or_right (is_failure y) (list_any is_failure ys) plain) in
    record {
      behind = part.behind;
      front = ap (λ u. u ∷ xs) same.0 ∙ ap (λ us. y ∷ us) part.front;
      rest = part.rest;
    }

-- of a failure alone, the front is it or nothing
pub alone_part : (filtered left : List HttpTask) (e : Error)
    → filtered ++ left ≡ task.Failed e ∷ []
    → (refused : Option Error) × (filtered ≡ failure_task refused)
alone_part [] left e h = (None, refl)
alone_part (x ∷ []) left e h =
    let same = tails x (task.Failed e) left [] h in (Some e, ap (λ u. u ∷ []) same.0)
alone_part (x ∷ (y ∷ ys)) left e h =
    let same = tails x (task.Failed e) (y ∷ (ys ++ left)) [] h in
    no_element [] y (ys ++ left) (sym same.1)
