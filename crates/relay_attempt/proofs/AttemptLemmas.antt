-- What passed through a duplex is an attempt, over any two sides.
--
--   attempt_of   from SoFar: IsAttempt
--   with_halves  an attempt between sides that hold more is one between their halves
--   batches      from IsAttempt: the tasks that were queued are a front of those that were read
use Rattle.std.proofs.Common.{◌≡◌, Bool, true, false, ◌||◌, List, [], ◌∷◌, ◌++◌, Option, Some, None, sym, subst, ◌∙◌, append-nil}
use Rattle.std.specs.List.{list_any}
use Rattle.std.proofs.lemmas.List.Folds.{list_any-append}
use Rattle.relay_tasks.specs.declared.error.Error.{Error}
use Rattle.relay_tasks.specs.declared.task.HttpTask.{HttpTask}
use Rattle.relay_tasks.specs.declared.task.HttpTask.TheVariants as task
use Rattle.relay_core.specs.Down.{DownState}
use Rattle.relay_core.specs.Moves.{SoFar, failure_task}
use Rattle.relay_core.specs.Past.{DownPast, UpPast}
use Rattle.relay_core.specs.Pipe.{is_failure}
use Rattle.relay_core.specs.Table.{State}
use Rattle.relay_peer.specs.Body.{IsFrontOf}
use Rattle.relay_attempt.specs.Attempt.{IsAttempt}

-- what passed through any two sides is an attempt
abbrev pub attempt_of : (down : DownPast → Type 0) (up : UpPast → Type 0)
    (blames : UpPast → Error → Type 0) (s : State) (p : DownPast) (q : UpPast)
    → SoFar down up blames s p q → IsAttempt down up s.down
attempt_of down up blames s p q f = record {
  p = p;
  q = q;
  is_down = f.down;
  is_up = f.up;
  requests = record { rest = s.duplex.requests.tasks; joined = sym f.requests };
  given = f.responses.given;
  refused = f.responses.refused;
  batched = f.responses.is_batched;
  responses = record { rest = f.responses.rest; joined = sym f.responses.front };
  ends_last = λ plain. (f.steady plain).ends_last;
  asked = λ plain. (f.steady plain).closed;
}

-- what holds of both sides holds of their halves
abbrev pub with_halves : (down half : DownPast → Type 0) (up up_half : UpPast → Type 0)
    (side : DownState) → ((p : DownPast) → down p → half p) → ((q : UpPast) → up q → up_half q)
    → IsAttempt down up side → IsAttempt half up_half side
with_halves down half up up_half side of_down of_up a = record {
  p = a.p;
  q = a.q;
  is_down = of_down a.p a.is_down;
  is_up = of_up a.q a.is_up;
  requests = a.requests;
  given = a.given;
  refused = a.refused;
  batched = a.batched;
  responses = a.responses;
  ends_last = a.ends_last;
  asked = a.asked;
}

-- tasks with a failure behind them have one
never_plain : (given : List HttpTask) (error : Error)
    → list_any is_failure (given ++ task.Failed error ∷ []) ≡ false → ⊥
never_plain given error none =
    found (list_any is_failure given)
    (sym (list_any-append is_failure given (task.Failed error ∷ [])) ∙ none)
  where
    found : (b : Bool) → (b || true) ≡ false → ⊥
    found true wrong = absurd (cc)
    found false wrong = absurd (cc)

-- what was queued is a front of what was read: no failure is queued
pub batches : (batched given read : List HttpTask) (refused : Option Error)
    → batched ≡ given ++ failure_task refused → IsFrontOf given read
    → list_any is_failure batched ≡ false → IsFrontOf batched read
batches batched given read None is front plain =
    subst (λ (l : List HttpTask). IsFrontOf l read) (sym (is ∙ append-nil given)) front
batches batched given read (Some error) is front plain =
    absurd (never_plain given error
    (subst (λ (l : List HttpTask). list_any is_failure l ≡ false) is plain))
