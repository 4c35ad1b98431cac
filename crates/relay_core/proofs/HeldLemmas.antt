-- What went through the response pipe: what the upstream gave is what the client was given, what
-- was dropped and what is held.
use Rattle.std.proofs.Common.{◌≡◌, Bool, true, false, List, [], ◌∷◌, ◌++◌, Option, Some, None, refl, sym, ap, ◌∙◌, append-nil, append_assoc}
use Rattle.std.specs.List.{list_any}
use Rattle.relay_tasks.specs.declared.error.Error.{Error}
use Rattle.relay_tasks.specs.declared.task.HttpTask.{HttpTask}
use Rattle.relay_tasks.specs.declared.task.HttpTask.TheVariants as task
use Rattle.relay_core.specs.Moves.{ResponseHeld, failure_task}
use Rattle.relay_core.specs.Pipe.{is_failure}
use Rattle.relay_core.proofs.BoolLemmas.{clash}
use Rattle.relay_core.proofs.TaskLemmas.{plain_part}

-- no half failed: no failure was refused
pub record Plain (read batched held : List HttpTask) (over ended : Bool) : Type 0 where
  pub rest : List HttpTask
  pub failure : Option Error
  pub dropped : List HttpTask
  pub front : read ≡ batched ++ rest
  pub same : rest ++ failure_task failure ≡ dropped ++ held
  pub none_dropped : over ≡ false → dropped ≡ []
  pub none_failed : ended ≡ false → failure ≡ None

-- where no half failed, no failure was refused
pub plainly : (read batched held : List HttpTask) (over ended : Bool)
    → ResponseHeld read batched held false over ended → Plain read batched held over ended
plainly read batched held over ended r =
    let none = r.none_refused refl in
    let given : r.given ≡ batched =
    sym (r.is_batched ∙ ap (λ (e : Option Error). r.given ++ failure_task e) none
    ∙ append-nil r.given) in
    record {
      rest = r.rest;
      failure = r.failure;
      dropped = r.dropped;
      front = r.front ∙ ap (λ (xs : List HttpTask). xs ++ r.rest) given;
      same = r.same ∙ ap (λ (e : Option Error). failure_task e ++ (r.dropped ++ held)) none;
      none_dropped = r.none_dropped;
      none_failed = r.none_failed;
    }

-- where nothing was refused, it does not matter whether a half failed
pub at_last : (read batched held : List HttpTask) (failed over ended : Bool)
    → Plain read batched held over ended → ResponseHeld read batched held failed over ended
at_last read batched held failed over ended r = record {
  given = batched;
  refused = None;
  rest = r.rest;
  failure = r.failure;
  dropped = r.dropped;
  is_batched = sym (append-nil batched);
  front = r.front;
  same = r.same;
  none_refused = λ h. refl;
  none_dropped = r.none_dropped;
  none_failed = r.none_failed;
}

-- no task passed
pub passed_none : (read read' batched batched' held held' : List HttpTask)
    (over over' ended ended' : Bool) → read' ≡ read → batched' ≡ batched → held' ≡ held
    → (over' ≡ false → over ≡ false) → (ended' ≡ false → ended ≡ false)
    → Plain read batched held over ended → Plain read' batched' held' over' ended'
passed_none read read' batched batched' held held' over over' ended ended' r b h o e m =
    record {
      rest = m.rest;
      failure = m.failure;
      dropped = m.dropped;
      front = r ∙ m.front ∙ ap (λ (xs : List HttpTask). xs ++ m.rest) (sym b);
      same = m.same ∙ ap (λ (xs : List HttpTask). m.dropped ++ xs) (sym h);
      none_dropped = λ is. m.none_dropped (o is);
      none_failed = λ is. m.none_failed (e is);
    }

-- where nothing was dropped, what is left is what is held
left_held : (read batched held : List HttpTask) (ended : Bool)
    (m : Plain read batched held false ended) → m.rest ++ failure_task m.failure ≡ held
left_held read batched held ended m =
    m.same ∙ ap (λ (xs : List HttpTask). xs ++ held) (m.none_dropped refl)

-- the client was given tasks that are no failure
pub passed_batch : (read batched batch rest held : List HttpTask) (over ended : Bool)
    → batch ++ rest ≡ held → list_any is_failure batch ≡ false
    → Plain read batched held false ended → Plain read (batched ++ batch) rest over ended
passed_batch read batched batch rest held over ended parts plain m =
    let part = plain_part m.rest batch rest m.failure
    (left_held read batched held ended m ∙ sym parts) plain in
    record {
      rest = part.behind;
      failure = m.failure;
      dropped = [];
      front = m.front ∙ ap (λ (xs : List HttpTask). batched ++ xs) part.front
          ∙ sym (append_assoc batched batch part.behind);
      same = part.rest;
      none_dropped = λ h. refl;
      none_failed = m.none_failed;
    }

-- of tasks that are no failure the client was given the front, and the others were lost
pub passed_front : (read batched filtered left rest held : List HttpTask) (over ended : Bool)
    → (filtered ++ left) ++ rest ≡ held → list_any is_failure filtered ≡ false → over ≡ true
    → Plain read batched held false ended → Plain read (batched ++ filtered) rest over ended
passed_front read batched filtered left rest held over ended parts plain is m =
    let part = plain_part m.rest filtered (left ++ rest) m.failure
    (left_held read batched held ended m ∙ sym parts
    ∙ append_assoc filtered left rest) plain in
    record {
      rest = part.behind;
      failure = m.failure;
      dropped = left;
      front = m.front ∙ ap (λ (xs : List HttpTask). batched ++ xs) part.front
          ∙ sym (append_assoc batched filtered part.behind);
      same = part.rest;
      none_dropped = λ h. clash over is h;
      none_failed = m.none_failed;
    }

-- a failure was refused
pub passed_failure : (read batched left rest held : List HttpTask) (refused : Option Error)
    (failed over ended : Bool) → (failure_task refused ++ left) ++ rest ≡ held → failed ≡ true
    → over ≡ true → Plain read batched held false ended
    → ResponseHeld read (batched ++ failure_task refused) rest failed over ended
passed_failure read batched left rest held refused failed over ended parts fails is m = record {
  given = batched;
  refused = refused;
  rest = m.rest;
  failure = m.failure;
  dropped = left;
  is_batched = refl;
  front = m.front;
  same = left_held read batched held ended m ∙ sym parts
      ∙ append_assoc (failure_task refused) left rest;
  none_refused = λ h. clash failed fails h;
  none_dropped = λ h. clash over is h;
  none_failed = m.none_failed;
}

-- tasks were dropped
pub passed_drop : (read batched dropped rest held : List HttpTask) (over over' ended : Bool)
    → dropped ++ rest ≡ held → over' ≡ true → Plain read batched held over ended
    → Plain read batched rest over' ended
passed_drop read batched dropped rest held over over' ended parts is m = record {
  rest = m.rest;
  failure = m.failure;
  dropped = m.dropped ++ dropped;
  front = m.front;
  same = m.same ∙ ap (λ (xs : List HttpTask). m.dropped ++ xs) (sym parts)
      ∙ sym (append_assoc m.dropped dropped rest);
  none_dropped = λ h. clash over' is h;
  none_failed = m.none_failed;
}

-- the upstream gave a task
pub passed_task : (read batched held : List HttpTask) (new : HttpTask) (over ended' : Bool)
    → Plain read batched held over false
    → Plain (read ++ new ∷ []) batched (held ++ new ∷ []) over ended'
passed_task read batched held new over ended' m =
    let none = m.none_failed refl in
    let same : m.rest ≡ m.dropped ++ held =
    sym (append-nil m.rest)
    ∙ ap (λ (e : Option Error). m.rest ++ failure_task e) (sym none) ∙ m.same in
    record {
      rest = m.rest ++ new ∷ [];
      failure = None;
      dropped = m.dropped;
      front = ap (λ (xs : List HttpTask). xs ++ new ∷ []) m.front
          ∙ append_assoc batched m.rest (new ∷ []);
      same = append-nil (m.rest ++ new ∷ [])
          ∙ ap (λ (xs : List HttpTask). xs ++ new ∷ []) same
          ∙ append_assoc m.dropped held (new ∷ []);
      none_dropped = m.none_dropped;
      none_failed = λ h. refl;
    }

-- the upstream failed to be read
pub passed_error : (read batched held : List HttpTask) (error : Error) (over ended' : Bool)
    → ended' ≡ true → Plain read batched held over false
    → Plain (read ++ []) batched (held ++ task.Failed error ∷ []) over ended'
passed_error read batched held error over ended' is m =
    let none = m.none_failed refl in
    let same : m.rest ≡ m.dropped ++ held =
    sym (append-nil m.rest)
    ∙ ap (λ (e : Option Error). m.rest ++ failure_task e) (sym none) ∙ m.same in
    record {
      rest = m.rest;
      failure = Some error;
      dropped = m.dropped;
      front = append-nil read ∙ m.front;
      same = ap (λ (xs : List HttpTask). xs ++ task.Failed error ∷ []) same
          ∙ append_assoc m.dropped held (task.Failed error ∷ []);
      none_dropped = m.none_dropped;
      none_failed = λ h. clash ended' is h;
    }

-- what was refused stands behind what the client was given
pub passed_refused : (read batched filtered left rest held : List HttpTask) (ended : Bool)
    → (filtered ++ left) ++ rest ≡ held → list_any is_failure (filtered ++ left) ≡ false
    → Plain read batched held false ended
    → (more : List HttpTask) × (read ≡ (batched ++ filtered) ++ (left ++ more))
passed_refused read batched filtered left rest held ended parts plain m =
    let part = plain_part m.rest (filtered ++ left) rest m.failure
    (left_held read batched held ended m ∙ sym parts) plain in (
      part.behind,
      m.front ∙ ap (λ (xs : List HttpTask). batched ++ xs)
          (part.front ∙ append_assoc filtered left part.behind)
          ∙ sym (append_assoc batched filtered (left ++ part.behind)),
    )
