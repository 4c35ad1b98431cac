-- The check of a batch: the task that it refuses, and how it is found.
use Rattle.std.proofs.Common.{◌≡◌, ℕ, suc, ◌+◌, Bool, true, false, not, List, [], ◌∷◌, ◌++◌, drop, refl, sym, ◌∙◌, ap, add-one, Option, Some, None, Err, drop-cons, inl, inr}
use Rattle.std.specs.List.{slice_get}
use Rattle.std.proofs.lemmas.Bool.{cases_Bool}
use Rattle.std.proofs.lemmas.Option.{slice_get_within, get_or_from_slice_get}
use Rattle.relay_tasks.specs.declared.error.Error.{Error}
use Rattle.relay_tasks.specs.declared.task.HttpTask.{HttpTask}
use Rattle.relay_tasks.specs.declared.task.HttpTask.TheVariants as task
use Rattle.relay_h1.specs.declared.framing.Framing.{Framing}
use Rattle.relay_h1.specs.ClientHead.{is_informational}
use Rattle.relay_session.specs.declared.task_text.Request.{Request}
use Rattle.relay_session.specs.declared.task_text.Place.{Place}
use Rattle.relay_session.specs.declared.task_text.Place.TheVariants as place
use Rattle.relay_session.specs.TaskWire.{IsFramedInside, framing_of, framed_head_refusal, task_sent, refusal, wire, settles, unframed, unframed_head, unframed_in, batch_refusal}

-- the refusal of a framing
pub unframed_err : (found : Option Framing) (error : Error) → IsFramedInside (Err error) found
    → Some error ≡ unframed found
unframed_err None error is = cc
unframed_err (Some framing) error is = absurd (cc)

-- a list from one of its tasks on
from_task : (tasks : List HttpTask) (at : ℕ) (one : HttpTask) → slice_get tasks at ≡ Some one
    → drop at tasks ≡ one ∷ drop (suc at) tasks
from_task tasks at one is =
    let within = slice_get_within tasks at one is in
    drop-cons tasks at one within
    ∙ ap (λ (t : HttpTask). t ∷ drop (suc at) tasks) (get_or_from_slice_get tasks at one one is)

-- the task at which the check has come decides
pub settled : (request : Request) (tasks : List HttpTask) (at : ℕ) (one : HttpTask)
    → slice_get tasks at ≡ Some one
    → unframed_in request tasks ≡ unframed_in request (drop at tasks) → settles one ≡ true
    → unframed_head request one ≡ unframed_in request tasks
settled request tasks at one is so_far decides =
    let there : unframed_in request (drop at tasks) ≡ unframed_head request one =
    ap (unframed_in request) (from_task tasks at one is) ∙ rw decides refl in
    sym (so_far ∙ there)

-- or the check goes on behind it
pub unsettled : (request : Request) (tasks : List HttpTask) (at : ℕ) (one : HttpTask)
    → slice_get tasks at ≡ Some one
    → unframed_in request tasks ≡ unframed_in request (drop at tasks) → settles one ≡ false
    → unframed_in request tasks ≡ unframed_in request (drop (at + 1) tasks)
unsettled request tasks at one is so_far open_still =
    let there : unframed_in request (drop at tasks) ≡ unframed_in request (drop (suc at) tasks) =
    ap (unframed_in request) (from_task tasks at one is) ∙ rw open_still refl in
    so_far ∙ rw add-one there

-- ---- the task that the check refuses

-- a task among these is refused with that error behind those before it
pub record RefusedIn (request : Request) (stands : Place) (tasks : List HttpTask) (error : Error)
    : Type 0 where
  pub before : List HttpTask
  pub at : HttpTask
  pub behind : List HttpTask
  pub are : tasks ≡ before ++ at ∷ behind
  pub refused : refusal request (wire request stands before).place at ≡ Some error

-- a final head whose framing is refused
final_refused : (ends : Bool) (found : Option Framing) (error : Error)
    → unframed found ≡ Some error → framed_head_refusal ends found ≡ Some error
final_refused ends None error is = is
final_refused ends (Some framing) error is = absurd (cc)

not_true : (b : Bool) → not b ≡ true → b ≡ false
not_true true is = cc
not_true false is = refl

not_false : (b : Bool) → not b ≡ false → b ≡ true
not_false true is = refl
not_false false is = cc

-- a task that decides is refused where no final head was sent
decides_refused : (request : Request) (one : HttpTask) (error : Error) → settles one ≡ true
    → unframed_head request one ≡ Some error → refusal request place.NoHead one ≡ Some error
decides_refused request (task.Header head ends) error decides is =
    rw (not_true (is_informational head.status) decides)
    (final_refused ends (framing_of request head) error is)
decides_refused request (task.Body piece ends) error decides is = absurd (cc)
decides_refused request (task.UpgradedBody piece ends) error decides is = absurd (cc)
decides_refused request (task.Trailer fields) error decides is = absurd (cc)
decides_refused request task.Done error decides is = absurd (cc)
decides_refused request (task.Failed e) error decides is = absurd (cc)

-- one that does not leaves the response before its final head
stays_before : (request : Request) (one : HttpTask) → settles one ≡ false
    → (task_sent request place.NoHead one).place ≡ place.NoHead
stays_before request (task.Header head ends) open_still =
    rw (not_false (is_informational head.status) open_still) refl
stays_before request (task.Body piece ends) open_still = refl
stays_before request (task.UpgradedBody piece ends) open_still = refl
stays_before request (task.Trailer fields) open_still = refl
stays_before request task.Done open_still = refl
stays_before request (task.Failed e) open_still = refl

unframed_refused : (request : Request) (tasks : List HttpTask) (error : Error)
    → unframed_in request tasks ≡ Some error → RefusedIn request place.NoHead tasks error
unframed_refused request [] error is = absurd (cc)
unframed_refused request (one ∷ tasks) error is =
    elim (cases_Bool (settles one)) [
      | inl decides ↦
          record {
            before = [];
            at = one;
            behind = tasks;
            are = refl;
            refused = decides_refused request one error decides (rw decides at is);
          }
      | inr open_still ↦
          let later = unframed_refused request tasks error (rw open_still at is) in
          record {
            before = one ∷ later.before;
            at = later.at;
            behind = later.behind;
            are = ap (λ (l : List HttpTask). one ∷ l) later.are;
            refused =
                ap (λ (p : Place). refusal request (wire request p later.before).place later.at)
                (stays_before request one open_still)
                ∙ later.refused;
          }
    ]

-- a batch that the check refuses holds a task that is refused with that error
pub refused_in : (request : Request) (stands : Place) (tasks : List HttpTask) (error : Error)
    → batch_refusal request stands tasks ≡ Some error → RefusedIn request stands tasks error
refused_in request place.NoHead tasks error is = unframed_refused request tasks error is
refused_in request (place.Body rest) tasks error is = absurd (cc)
refused_in request place.Done tasks error is = absurd (cc)
