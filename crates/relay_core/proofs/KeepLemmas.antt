-- The exchange so far goes on by each branch.
use Rattle.std.proofs.Common.{◌≡◌, ℕ, Bool, true, false, ◌&&◌, ◌||◌, not, List, [], ◌∷◌, ◌++◌, ◌==◌, length, Option, Some, None, is_some, is_none, Result, Ok, Err, refl, sym, ap, ◌∙◌, subst, inl, inr, append-nil, append_assoc, arith}
use Rattle.std.specs.List.{list_any}
use Rattle.std.proofs.lemmas.List.Folds.{list_any-append}
use Rattle.relay_tasks.specs.declared.error.Error.{Error}
use Rattle.relay_tasks.specs.declared.error.ErrorSource.TheVariants.{Upstream, Downstream}
use Rattle.relay_tasks.specs.declared.error.Fail.{Fail}
use Rattle.relay_tasks.specs.declared.error.Fail.TheVariants as fail
use Rattle.relay_tasks.specs.declared.task.HttpTask.{HttpTask}
use Rattle.relay_tasks.specs.declared.task.HttpTask.TheVariants as task
use Rattle.relay_tasks.specs.declared.took.Took.{Took}
use Rattle.relay_tasks.specs.declared.took.Took.TheVariants as took
use Rattle.relay_tasks.specs.Task.{is_end}
use Rattle.relay_links.specs.declared.branch.Branch.{Branch}
use Rattle.relay_links.specs.declared.branch.Branch.TheVariants as branch
use Rattle.relay_links.specs.declared.link.Put.{Put}
use Rattle.relay_links.specs.declared.link.Put.TheVariants as put
use Rattle.relay_core.specs.declared.duplex.Duplex.{Duplex}
use Rattle.relay_core.specs.declared.piece.Piece.{Piece}
use Rattle.relay_core.specs.declared.step.Step.{Step}
use Rattle.relay_core.specs.declared.step.Step.TheVariants as step
use Rattle.relay_links.specs.declared.link.UpKind.{UpKind}
use Rattle.relay_links.specs.declared.link.UpKind.TheVariants as kind
use Rattle.relay_core.specs.Causes.{says_failed, says_finished}
use Rattle.relay_core.specs.Counts.{Adds}
use Rattle.relay_core.specs.Down.{DownState, ReadsPiece}
use Rattle.relay_core.specs.Ends.{can_send_on}
use Rattle.relay_core.specs.Moves.{Extends, SoFar, Marks, Steady, Ordinary, Finishes, HasReason, Goes, ResponseHeld, is_over}
use Rattle.relay_core.specs.Past.{DownPast, UpPast, put_in, task_in, error_of_fail, error_of_took, error_of_put, error_of_result}
use Rattle.relay_core.specs.Pipe.{places, is_failure, is_empty}
use Rattle.relay_core.specs.Sound.{Runs, ends_with}
use Rattle.relay_core.specs.State.{is_response_done}
use Rattle.relay_core.specs.Steps.{StepsTo}
use Rattle.relay_core.specs.Table.{State, core, enabled, down_runs, up_runs, is_failed, is_finished, failed, after_up_write, step_of_up_write, step_of_down_write, after_piece, step_of_up_take, after_up_read, step_of_up_read, told_error, after_down_read, step_of_down_read, custom_error, step_of_up_finish, step_of_half, step_of_down_finish}
use Rattle.relay_core.specs.Up.{UpState, ReadsTask}
use Rattle.relay_core.proofs.CountLemmas.{adds_then}
use Rattle.relay_core.proofs.BoolLemmas.{decide, clash, and_left, and_right, or_right, or_cases, or_false, or-true, not_true}
use Rattle.relay_core.proofs.EndLemmas.{step_tells}
use Rattle.relay_core.proofs.HeldLemmas.{Plain, plainly, at_last, passed_none, passed_task, passed_error}
use Rattle.relay_core.proofs.MoveLemmas.{Leaves, over_done}
use Rattle.relay_core.proofs.SoundLemmas.{step_sound, enabled_sound}
use Rattle.relay_core.proofs.StuckLemmas.{empty_ends}
use Rattle.relay_core.proofs.TaskLemmas.{last_or_before}

-- ---- what is asked of the old state

-- a half that runs has not finished
pub up_open : (d : Duplex) → up_runs d ≡ true → d.upstream_finished ≡ false
up_open d runs = not_true d.upstream_finished (and_left (not d.upstream_finished) _ runs)

-- a client's half that goes on has not finished
pub down_open : (d : Duplex) → down_runs d ≡ true → d.client_finished ≡ false
down_open d runs = not_true d.client_finished (and_left (not d.client_finished) _ runs)

-- a read of the upstream is taken only before its response ends
pub unread : (s : State) → enabled s branch.UpRead ≡ true
    → s.duplex.upstream_response_done ≡ false
unread s on =
    not_true s.duplex.upstream_response_done
    (and_left (not s.duplex.upstream_response_done) _ (and_right (up_runs s.duplex) _ on))

-- where no half failed, no failure was refused
pub held_so_far : (dp : DownPast → Type 0) (up : UpPast → Type 0) (ub : UpPast → Error → Type 0)
    (s : State) (p : DownPast) (q : UpPast) → SoFar dp up ub s p q
    → is_failed s.duplex.word ≡ false
    → Plain q.read p.batched s.duplex.responses.tasks (is_over s.duplex)
    s.duplex.upstream_response_done
held_so_far dp up ub s p q f alive =
    let P : Bool → Type 0 = λ failed. ResponseHeld q.read p.batched s.duplex.responses.tasks failed
    (is_over s.duplex) s.duplex.upstream_response_done in
    plainly q.read p.batched s.duplex.responses.tasks (is_over s.duplex)
    s.duplex.upstream_response_done (subst P alive f.responses)

-- the client takes more of the response
pub open_held : (read batched held : List HttpTask) (over ended : Bool) → over ≡ false
    → Plain read batched held over ended → Plain read batched held false ended
open_held read batched held over ended is m =
    let P : Bool → Type 0 = λ b. Plain read batched held b ended in subst P is m

-- the upstream's response goes on
pub unended_held : (read batched held : List HttpTask) (over ended : Bool) → ended ≡ false
    → Plain read batched held over ended → Plain read batched held over false
unended_held read batched held over ended is m =
    let P : Bool → Type 0 = λ b. Plain read batched held over b in subst P is m

-- what holds after the effect of a branch holds of the new state
pub ordinary_then : (wanted : Duplex) (new : State) (side : DownState) (u : UpState) (p : DownPast)
    (q : UpPast) → new.duplex ≡ wanted → new.down ≡ side → new.up ≡ u
    → Ordinary (core wanted side u) p q → Ordinary new p q
ordinary_then wanted new side u p q is same same' o =
    let P : Duplex → Type 0 = λ x. Ordinary (core x new.down new.up) p q in
    let Q : DownState → Type 0 = λ x. Ordinary (core wanted x new.up) p q in
    let R : UpState → Type 0 = λ x. Ordinary (core wanted side x) p q in
    subst P (sym is) (subst Q (sym same) (subst R (sym same') o))

-- the word of the new state is that of the effect
pub alive_then : (new wanted : Duplex) → new ≡ wanted → is_failed new.word ≡ false
    → is_failed wanted.word ≡ false
alive_then new wanted is alive = sym (ap (λ (d : Duplex). is_failed d.word) is) ∙ alive

-- ---- the errors of a step

-- the error of a step
abbrev pub step_error : Step → Option Error
step_error step.Moved = None
step_error (step.Waited pause) = None
step_error step.Finished = None
step_error (step.Failed why) = error_of_fail why

-- a write to the upstream fails with no error
pub up_write_error : (answer : Put) → step_error (step_of_up_write answer) ≡ None
up_write_error (put.Took n) = refl
up_write_error put.NotReady = refl
up_write_error put.Silent = refl
up_write_error (put.Failed fault) = refl
up_write_error put.OutOfMemory = refl

-- a write to the client fails with the error of its fault
pub down_write_error : (answer : Put)
    → step_error (step_of_down_write answer) ≡ error_of_put Downstream answer
down_write_error (put.Took n) = refl
down_write_error put.NotReady = refl
down_write_error put.Silent = refl
down_write_error (put.Failed fault) = refl
down_write_error put.OutOfMemory = refl

-- a piece for the upstream fails with no error
pub up_take_error : (answer : Result Unit Fail) → step_error (step_of_up_take answer) ≡ None
up_take_error (Ok done) = refl
up_take_error (Err (fail.Error error)) = refl
up_take_error (Err fail.OutOfMemory) = refl

-- so does a read of the upstream
pub up_read_error : (answer : Took HttpTask) → step_error (step_of_up_read answer) ≡ None
up_read_error (took.Item new) = refl
up_read_error took.More = refl
up_read_error (took.Waited why) = refl
up_read_error took.End = refl
up_read_error (took.Failed (fail.Error error)) = refl
up_read_error (took.Failed fail.OutOfMemory) = refl

-- a read of the client fails with the error that it answers
pub down_read_error : (answer : Took Piece)
    → step_error (step_of_down_read answer) ≡ error_of_took answer
down_read_error (took.Item piece) = refl
down_read_error took.More = refl
down_read_error (took.Waited why) = refl
down_read_error took.End = refl
down_read_error (took.Failed why) = refl

-- a half that finishes fails with no error
pub half_error : (other : Bool) → step_error (step_of_half other) ≡ None
half_error true = refl
half_error false = refl

-- the end of the response's body fails with the error that it is answered with
pub down_finish_error : (d : Duplex) (pending : Bool) (answer : Result Unit Fail)
    → step_error (step_of_down_finish d pending answer) ≡ error_of_result answer
down_finish_error d true (Ok done) = refl
down_finish_error d false (Ok done) = half_error d.upstream_finished
down_finish_error d true (Err why) = refl
down_finish_error d false (Err why) = refl

-- the upstream half fails with the send error that was kept
pub up_finish_error : (d : Duplex) (why : UpKind) (kept : Option Error) (e : Error)
    → step_error (step_of_up_finish d (custom_error why kept)) ≡ Some e → kept ≡ Some e
up_finish_error d kind.H1 kept e h =
    let none : None ≡ Some e = sym (half_error d.client_finished) ∙ h in cc
up_finish_error d kind.H2 kept e h =
    let none : None ≡ Some e = sym (half_error d.client_finished) ∙ h in cc
up_finish_error d kind.Custom None e h =
    let none : None ≡ Some e = sym (half_error d.client_finished) ∙ h in cc
up_finish_error d kind.Custom (Some error) e h = h

-- a step that tells no error did not fail with one
pub no_error : {A : Type 0} (result is : Step) (e : Error) → result ≡ is → step_error is ≡ None
    → result ≡ step.Failed (fail.Error e) → A
no_error result is e same none h =
    let never : None ≡ Some e = sym none ∙ ap step_error (sym same ∙ h) in cc

-- the error of a step is that of the answer
pub error_is : (result is : Step) (error : Option Error) (e : Error) → result ≡ is
    → step_error is ≡ error → result ≡ step.Failed (fail.Error e) → error ≡ Some e
error_is result is error e same tells h = sym tells ∙ ap step_error (sym same ∙ h)

-- ---- the errors that the upstream's side answers for

module _ (B : Error → Type 0) where
  -- those that are kept from a write
  pub kept_write : (d : Duplex) (answer : Put) → ((e : Error) → d.send_error ≡ Some e → B e)
      → ((e : Error) → error_of_put Upstream answer ≡ Some e → B e) → (e : Error)
      → (after_up_write d answer).send_error ≡ Some e → B e
  kept_write d (put.Took n) kept blamed e h = kept e h
  kept_write d put.NotReady kept blamed e h = kept e h
  kept_write d put.Silent kept blamed e h = kept e h
  kept_write d (put.Failed fault) kept blamed e h = blamed e h
  kept_write d put.OutOfMemory kept blamed e h = kept e h

  -- those that are kept from a piece
  pub kept_piece : (d : Duplex) (answer : Result Unit Fail)
      → ((e : Error) → d.send_error ≡ Some e → B e)
      → ((e : Error) → error_of_result answer ≡ Some e → B e) → (e : Error)
      → (after_piece d answer).send_error ≡ Some e → B e
  kept_piece d (Ok done) kept blamed e h = kept e h
  kept_piece d (Err (fail.Error error)) kept blamed e h = blamed e h
  kept_piece d (Err fail.OutOfMemory) kept blamed e h = kept e h

  -- the error that a read error is put with
  pub told_blamed : (kept : Option Error) (error e : Error) → ((e : Error) → kept ≡ Some e → B e)
      → B error → told_error kept error ≡ e → B e
  told_blamed None error e kept blamed is = subst B is blamed
  told_blamed (Some sent) error e kept blamed is = kept e (ap Some is)

  -- those of the failures that are held after a read
  pub held_read : (d : Duplex) (tunnel : Bool) (side side' : UpState) (answer : Took HttpTask)
      → ReadsTask side side' answer
      → ((front behind : List HttpTask) (e : Error)
      → d.responses.tasks ≡ front ++ task.Failed e ∷ behind → B e)
      → ((e : Error) → d.send_error ≡ Some e → B e)
      → ((e : Error) → error_of_took answer ≡ Some e → B e)
      → (front behind : List HttpTask) (e : Error)
      → (after_up_read d tunnel answer).responses.tasks ≡ front ++ task.Failed e ∷ behind → B e
  held_read d tunnel side side' (took.Item new) reads held kept blamed front behind e h =
      elim (last_or_before d.responses.tasks new (task.Failed e) front behind h) [
        | inl last ↦ clash (is_failure new) (ap is_failure last) reads.no_failure
        | inr before ↦ held front before.more e before.is
      ]
  held_read d tunnel side side' took.More reads held kept blamed front behind e h =
      held front behind e h
  held_read d tunnel side side' (took.Waited why) reads held kept blamed front behind e h =
      held front behind e h
  held_read d tunnel side side' took.End reads held kept blamed front behind e h =
      held front behind e h
  held_read d tunnel side side' (took.Failed (fail.Error error)) reads held kept blamed front behind
      e h =
      elim (last_or_before d.responses.tasks (task.Failed (told_error d.send_error error))
      (task.Failed e) front behind h) [
        | inl last ↦ (let same : told_error d.send_error error ≡ e = cc in
            told_blamed d.send_error error e kept (blamed error refl) same)
        | inr before ↦ held front before.more e before.is
      ]
  held_read d tunnel side side' (took.Failed fail.OutOfMemory) reads held kept blamed front behind e
      h = held front behind e h

  -- those of the failures that are still held
  pub held_behind : (held taken rest : List HttpTask) → taken ++ rest ≡ held
      → ((front behind : List HttpTask) (e : Error) → held ≡ front ++ task.Failed e ∷ behind → B e)
      → (front behind : List HttpTask) (e : Error) → rest ≡ front ++ task.Failed e ∷ behind → B e
  held_behind held taken rest parts blamed front behind e h =
      blamed (taken ++ front) behind e
      (sym parts ∙ ap (λ (xs : List HttpTask). taken ++ xs) h
      ∙ sym (append_assoc taken front (task.Failed e ∷ behind)))

-- ---- what a read does to the pipes

-- the response pipe and what is kept stay as they were
pub record LeavesResponses (old new : Duplex) : Type 0 where
  pub responses : new.responses.tasks ≡ old.responses.tasks
  pub over : is_over new ≡ false → is_over old ≡ false
  pub ended : new.upstream_response_done ≡ false → old.upstream_response_done ≡ false

-- a read of the client leaves the response
pub leaves_read : (d : Duplex) (upgraded : Bool) (answer : Took Piece)
    → LeavesResponses d (after_down_read d upgraded answer)
leaves_read d upgraded (took.Item piece) = record {
  responses = refl;
  over = over_done d.client_response.upstream_done (piece.client_end && upgraded)
      d.client_response.cached_done (is_failed d.word);
  ended = λ h. h;
}
leaves_read d upgraded took.More = record { responses = refl; over = λ h. h; ended = λ h. h }
leaves_read d upgraded (took.Waited why) =
    record { responses = refl; over = λ h. h; ended = λ h. h }
leaves_read d upgraded took.End = record { responses = refl; over = λ h. h; ended = λ h. h }
leaves_read d upgraded (took.Failed why) = record {
  responses = refl;
  over = λ h. clash true refl (or_right (is_response_done d.client_response) true h);
  ended = λ h. h;
}

-- a read of the client puts its task
pub tasks_read : (d : Duplex) (upgraded : Bool) (answer : Took Piece)
    → (after_down_read d upgraded answer).requests.tasks
    ≡ d.requests.tasks ++ put_in upgraded answer
tasks_read d upgraded (took.Item piece) = refl
tasks_read d upgraded took.More = sym (append-nil d.requests.tasks)
tasks_read d upgraded (took.Waited why) = sym (append-nil d.requests.tasks)
tasks_read d upgraded took.End = sym (append-nil d.requests.tasks)
tasks_read d upgraded (took.Failed why) = sym (append-nil d.requests.tasks)

-- a client that was read was upgraded before
pub read_upgraded : (old new : DownState) (answer : Took Piece) → ReadsPiece old new answer
    → new.upgraded ≡ old.upgraded
read_upgraded old new (took.Item piece) reads = ap (λ (s : DownState). s.upgraded) reads.exact
read_upgraded old new took.More reads = ap (λ (s : DownState). s.upgraded) reads
read_upgraded old new (took.Waited why) reads = ap (λ (s : DownState). s.upgraded) reads
read_upgraded old new took.End reads = absurd reads
read_upgraded old new (took.Failed why) reads = ap (λ (s : DownState). s.upgraded) reads

-- a read of the upstream puts its task, or its failure
pub response_read : (d : Duplex) (tunnel : Bool) (answer : Took HttpTask)
    (read batched : List HttpTask)
    → Plain read batched d.responses.tasks (is_over d) false
    → Plain (read ++ task_in answer) batched (after_up_read d tunnel answer).responses.tasks
    (is_over (after_up_read d tunnel answer)) (after_up_read d tunnel answer).upstream_response_done
response_read d tunnel (took.Item new) read batched m =
    passed_task read batched d.responses.tasks new (is_over d) _ m
response_read d tunnel took.More read batched m =
    passed_none read (read ++ []) batched batched d.responses.tasks d.responses.tasks (is_over d)
    (is_over d) false d.upstream_response_done (append-nil read) refl refl (λ h. h) (λ h. refl) m
response_read d tunnel (took.Waited why) read batched m =
    passed_none read (read ++ []) batched batched d.responses.tasks d.responses.tasks (is_over d)
    (is_over d) false d.upstream_response_done (append-nil read) refl refl (λ h. h) (λ h. refl) m
response_read d tunnel took.End read batched m =
    passed_none read (read ++ []) batched batched d.responses.tasks d.responses.tasks (is_over d)
    (is_over d) false d.upstream_response_done (append-nil read) refl refl (λ h. h) (λ h. refl) m
response_read d tunnel (took.Failed (fail.Error error)) read batched m =
    passed_error read batched d.responses.tasks (told_error d.send_error error) (is_over d) _
    (or-true d.upstream_response_done) m
response_read d tunnel (took.Failed fail.OutOfMemory) read batched m =
    passed_none read (read ++ []) batched batched d.responses.tasks d.responses.tasks (is_over d)
    (is_over (failed d)) false d.upstream_response_done (append-nil read) refl refl
    (λ h. clash true refl (or_right (is_response_done d.client_response) true h)) (λ h. refl) m

-- a read that leaves the upstream's response open brought no end
pub unended_read : (d : Duplex) (tunnel : Bool) (answer : Took HttpTask) (read : List HttpTask)
    → list_any is_end read ≡ false
    → (after_up_read d tunnel answer).upstream_response_done ≡ false
    → list_any is_end (read ++ task_in answer) ≡ false
unended_read d tunnel (took.Item new) read none h =
    list_any-append is_end read (new ∷ [])
    ∙ or_false (list_any is_end read) _ none
    (or_false (is_end new) false (or_right d.upstream_response_done (is_end new) h) refl)
unended_read d tunnel took.More read none h = ap (list_any is_end) (append-nil read) ∙ none
unended_read d tunnel (took.Waited why) read none h = ap (list_any is_end) (append-nil read) ∙ none
unended_read d tunnel took.End read none h = ap (list_any is_end) (append-nil read) ∙ none
unended_read d tunnel (took.Failed why) read none h = ap (list_any is_end) (append-nil read) ∙ none

-- ---- a step that finished

-- both halves have finished, without a failure and without a tunnel: both directions were relayed
pub finishes : (dp : DownPast → Type 0) (up : UpPast → Type 0) (ub : UpPast → Error → Type 0)
    (s : State) (p : DownPast) (q : UpPast) → SoFar dp up ub s p q
    → is_failed s.duplex.word ≡ false → is_finished s.duplex ≡ true → s.down.upgraded ≡ false
    → Finishes s p q
finishes dp up ub s p q f alive both plain =
    let d = s.duplex in
    let o = f.ordinary alive plain in
    let up_done = and_left d.upstream_finished d.client_finished both in
    let done = o.client_done (and_right d.upstream_finished d.client_finished both) in
    record {
      ended = o.answered done.1;
      written = done.2;
      taken = λ h. sym (f.requests
          ∙ ap (λ (xs : List HttpTask). q.taken ++ xs) (o.sent h up_done).0
          ∙ append-nil q.taken);
      unlost = o.unlost;
      request_ended = λ h. (o.sent h up_done).1;
      sent = λ h. (o.sent h up_done).2;
      done = λ h. o.taken_end (o.sent h up_done).1 (o.sent h up_done).0;
      unfailed = alive;
    }

-- an upstream half whose request is not done and which holds a piece writes, or takes it
pub holds_sends : (runs pending done empty finishes : Bool) (kept : Option Error) → runs ≡ true
    → done ≡ false → empty ≡ false → kept ≡ None
    → ((runs && (pending && is_none kept))
    || ((runs && (not done && (not pending && not empty))) || finishes)) ≡ true
holds_sends false pending done empty finishes kept on p q none = clash false on refl
holds_sends true pending done empty finishes (Some error) on p q none = cc
holds_sends true pending true empty finishes None on p q none = clash true refl p
holds_sends true pending false true finishes None on p q none = clash true refl q
holds_sends true true false false finishes None on p q none = refl
holds_sends true false false false finishes None on p q none = refl

-- the request pipe is full, without a send error: the upstream's request is not done, since one
-- that is done holds nothing, so that the upstream half writes or takes
pub sends : (s : State) (p : DownPast) (q : UpPast) → Ordinary s p q → up_runs s.duplex ≡ true
    → length s.duplex.requests.tasks ≡ places → s.duplex.send_error ≡ None → can_send_on s ≡ true
sends s p q o runs full none =
    let d = s.duplex in
    holds_sends (up_runs d) s.up.pending d.upstream_request_done (is_empty d.requests)
    (enabled s branch.UpFinish) d.send_error runs
    (elim (decide d.upstream_request_done) [
      | inl done ↦ (let none_held : 4 ≡ 0 =
          sym full ∙ ap (λ (xs : List HttpTask). length xs) (o.whole none done).0 in
          absurd (omega arith))
      | inr open_yet ↦ open_yet
    ])
    (ap (λ (n : ℕ). n == 0) full) none

-- without a tunnel the response does not end for want of more: it ended for the upstream's half too
pub no_end : {A : Type 0} (s : State) (p : DownPast) (q : UpPast) → enabled s branch.DownEnd ≡ true
    → Runs s.duplex s.down.body_done s.down.upgraded → s.down.upgraded ≡ false → Ordinary s p q
    → A
no_end s p q on r plain o =
    let d = s.duplex in
    let runs = and_left (down_runs d) _ on in
    let rest = and_right (down_runs d) _ on in
    let closed = and_left d.responses.closed _ rest in
    let empty = and_left (is_empty d.responses) _ (and_right d.responses.closed _ rest) in
    let open_yet = not_true (is_response_done d.client_response)
    (and_right (is_empty d.responses) _ (and_right d.responses.closed _ rest)) in
    elim (or_cases d.upstream_finished d.client_finished (sym r.responses_closed ∙ closed)) [
      | inl up_done ↦ elim (o.through up_done) [
        | inl ended ↦
            elim (or_cases (is_response_done d.client_response) _ (r.ended ended)) [
              | inl done ↦ clash (is_response_done d.client_response) done open_yet
              | inr other ↦ elim (or_cases (ends_with d.responses.tasks) _ other) [
                | inl last ↦ clash (ends_with d.responses.tasks) last
                    (empty_ends d.responses.tasks empty)
                | inr tunnel ↦ clash s.down.upgraded
                    (and_left s.down.upgraded d.upstream_request_done tunnel) plain
              ]
            ]
        | inr done ↦ clash d.client_finished done (down_open d runs)
      ]
      | inr done ↦ clash d.client_finished done (down_open d runs)
    ]

-- a client that is not upgraded now was not before
pub not_before : (was is : Bool) → (was ≡ true → is ≡ true) → is ≡ false → was ≡ false
not_before true is stays plain = clash is (stays refl) plain
not_before false is stays plain = refl

-- an upstream half with no send error has nothing pending where it finishes
pub quiet_up : (pending : Bool) (kept : Option Error) → kept ≡ None
    → (not pending || is_some kept) ≡ true → pending ≡ false
quiet_up true None none h = clash false h refl
quiet_up true (Some error) none h = cc
quiet_up false kept none h = refl

-- a read of the upstream leaves the request pipe
pub requests_stay : (d : Duplex) (tunnel : Bool) (answer : Took HttpTask)
    → (after_up_read d tunnel answer).requests.tasks ≡ d.requests.tasks
requests_stay d tunnel (took.Item new) = refl
requests_stay d tunnel took.More = refl
requests_stay d tunnel (took.Waited why) = refl
requests_stay d tunnel took.End = refl
requests_stay d tunnel (took.Failed (fail.Error error)) = refl
requests_stay d tunnel (took.Failed fail.OutOfMemory) = refl

-- ---- what passed goes on

-- nothing was added to a list
pub more_none : (xs ys : List HttpTask) → xs ≡ ys → xs ≡ ys ++ []
more_none xs ys same = same ∙ sym (append-nil ys)

-- nothing passed
pub extends_same : (p : DownPast) (q : UpPast) → Extends p q p q
extends_same p q = record {
  put = [];
  is_put = more_none p.put p.put refl;
  batched = [];
  is_batched = more_none p.batched p.batched refl;
  closing = [];
  is_closing = more_none p.closing p.closing refl;
  read = [];
  is_read = more_none q.read q.read refl;
  taken = [];
  is_taken = more_none q.taken q.taken refl;
}

-- something passed through the client's side alone
pub extends_down : (p p' : DownPast) (q : UpPast) (put batched closing : List HttpTask)
    → p'.put ≡ p.put ++ put → p'.batched ≡ p.batched ++ batched → p'.closing ≡ p.closing ++ closing
    → Extends p q p' q
extends_down p p' q put batched closing is_put is_batched is_closing = record {
  put = put;
  is_put = is_put;
  batched = batched;
  is_batched = is_batched;
  closing = closing;
  is_closing = is_closing;
  read = [];
  is_read = more_none q.read q.read refl;
  taken = [];
  is_taken = more_none q.taken q.taken refl;
}

-- something passed through the upstream's side alone
pub extends_up : (p : DownPast) (q q' : UpPast) (read taken : List HttpTask)
    → q'.read ≡ q.read ++ read → q'.taken ≡ q.taken ++ taken → Extends p q p q'
extends_up p q q' read taken is_read is_taken = record {
  put = [];
  is_put = more_none p.put p.put refl;
  batched = [];
  is_batched = more_none p.batched p.batched refl;
  closing = [];
  is_closing = more_none p.closing p.closing refl;
  read = read;
  is_read = is_read;
  taken = taken;
  is_taken = is_taken;
}

-- what passed in two steps, one behind the other
pub extends_then : (p p' p'' : DownPast) (q q' q'' : UpPast) → Extends p q p' q'
    → Extends p' q' p'' q'' → Extends p q p'' q''
extends_then p p' p'' q q' q'' a b = record {
  put = a.put ++ b.put;
  is_put = joined p.put a.put b.put p'.put p''.put a.is_put b.is_put;
  batched = a.batched ++ b.batched;
  is_batched =
      joined p.batched a.batched b.batched p'.batched p''.batched a.is_batched b.is_batched;
  closing = a.closing ++ b.closing;
  is_closing =
      joined p.closing a.closing b.closing p'.closing p''.closing a.is_closing b.is_closing;
  read = a.read ++ b.read;
  is_read = joined q.read a.read b.read q'.read q''.read a.is_read b.is_read;
  taken = a.taken ++ b.taken;
  is_taken = joined q.taken a.taken b.taken q'.taken q''.taken a.is_taken b.is_taken;
}
  where
    joined : (xs more last ys zs : List HttpTask) → ys ≡ xs ++ more → zs ≡ ys ++ last
        → zs ≡ xs ++ (more ++ last)
    joined xs more last ys zs one two =
        two ∙ ap (λ (l : List HttpTask). l ++ last) one ∙ append_assoc xs more last

-- ---- the branches, over what both sides then mean

-- what can be taken can be taken by its name
pub taken : (s : State) (b named : Branch) → b ≡ named → enabled s b ≡ true
    → enabled s named ≡ true
taken s b named is on = let On : Branch → Type 0 = λ b. enabled s b ≡ true in subst On is on

module _
    (holds : DownPast → Type 0) (down_blames : DownPast → Error → Type 0)
    (refuses : DownPast → List HttpTask → Error → Type 0)
    (cannot_end : DownPast → Error → Type 0)
    (up_holds : UpPast → Type 0) (up_blames : UpPast → Error → Type 0) where
  -- the exchange so far after a step, and the cause of its error, are all that is to be shown
  pub goes_by : (b : Branch) (old new : State) (result : Step) → enabled old b ≡ true
      → StepsTo b old new result → (before : DownPast) (up_before : UpPast) (p : DownPast)
      (q : UpPast) → Extends before up_before p q → Adds old new up_before q
      → SoFar holds up_holds up_blames new p q
      → ((e : Error) → result ≡ step.Failed (fail.Error e)
      → HasReason down_blames refuses cannot_end up_blames new.down p q e)
      → Goes holds down_blames refuses cannot_end up_holds up_blames before up_before old new
      result
  goes_by b old new result on by before up_before p q extends adds so_far blamed =
      let tells = step_tells b old new result on by in
      record {
        p = p;
        q = q;
        extends = extends;
        adds = adds;
        so_far = so_far;
        blamed = blamed;
        finished = λ is plain. finishes holds up_holds up_blames new p q so_far
            (sym tells.failed ∙ ap says_failed is) (sym tells.finished ∙ ap says_finished is) plain;
        request_full = λ plain runs. sends new p q
            (so_far.ordinary (not_true (is_failed new.duplex.word)
            (and_right (not new.duplex.upstream_finished) _ runs)) plain) runs;
      }

  -- a step behind another: what it goes on from goes on from what was before both
  pub goes_then : (before p : DownPast) (up_before q : UpPast) (old mid s : State) (result : Step)
      → Extends before up_before p q → Adds old mid up_before q
      → Goes holds down_blames refuses cannot_end up_holds up_blames p q mid s result
      → Goes holds down_blames refuses cannot_end up_holds up_blames before up_before old s result
  goes_then before p up_before q old mid s result extends adds went = record {
    p = went.p;
    q = went.q;
    extends = extends_then before p went.p up_before q went.q extends went.extends;
    adds = adds_then old mid s up_before q went.q adds went.adds;
    so_far = went.so_far;
    blamed = went.blamed;
    finished = went.finished;
    request_full = went.request_full;
  }

  -- no task passed: both pipes and all lists are as they were
  pub quiet : (dp : DownPast → Type 0) (up : UpPast → Type 0) (ub : UpPast → Error → Type 0)
      (b : Branch) (old new : State) (result : Step) (p p' : DownPast) (q q' : UpPast)
      → enabled old b ≡ true → StepsTo b old new result → Leaves old.duplex new.duplex
      → p'.put ≡ p.put → p'.batched ≡ p.batched → q'.read ≡ q.read → q'.taken ≡ q.taken
      → holds p' → up_holds q' → ((e : Error) → ub q e → up_blames q' e)
      → ((e : Error) → new.duplex.send_error ≡ Some e → up_blames q' e)
      → (new.down.upgraded ≡ false → Steady new p')
      → (is_failed new.duplex.word ≡ false → new.down.upgraded ≡ false → Ordinary new p' q')
      → Marks new q' → SoFar dp up ub old p q → SoFar holds up_holds up_blames new p' q'
  quiet dp up ub b old new result p p' q q' on by leaves put batched read taken down_stands
      up_stands keeps kept steady ordinary marks f =
      record {
        down = down_stands;
        up = up_stands;
        sound = step_sound b old new result on by f.sound;
        requests = put ∙ f.requests
            ∙ ap (λ (xs : List HttpTask). xs ++ old.duplex.requests.tasks) (sym taken)
            ∙ ap (λ (xs : List HttpTask). q'.taken ++ xs) (sym leaves.requests);
        responses = at_last q'.read p'.batched new.duplex.responses.tasks
            (is_failed new.duplex.word) (is_over new.duplex) new.duplex.upstream_response_done
            (passed_none q.read q'.read p.batched p'.batched old.duplex.responses.tasks
            new.duplex.responses.tasks (is_over old.duplex) (is_over new.duplex)
            old.duplex.upstream_response_done new.duplex.upstream_response_done read batched
            leaves.responses leaves.over leaves.ended
            (held_so_far dp up ub old p q f (enabled_sound b old on)));
        unended = λ h. ap (list_any is_end) read ∙ f.unended (leaves.ended h);
        send_error = kept;
        failures = λ front behind e is. keeps e
            (f.failures front behind e (sym leaves.responses ∙ is));
        steady = steady;
        ordinary = ordinary;
        marks = marks;
      }
