-- Each pipe holds four tasks at most after each step.
use Rattle.std.proofs.Common.{◌≡◌, ◌≤◌, ◌<◌, Bool, ltb, option_to_list, true, ◌&&◌, not, List, [], ◌∷◌, ◌++◌, length, Option, Some, None, sym, ap, subst, inl, inr, arith, length-append}
use Rattle.std.proofs.lemmas.Bool.{ltb-true}
use Rattle.relay_tasks.specs.declared.error.Fail.TheVariants as fail
use Rattle.relay_tasks.specs.declared.task.HttpTask.{HttpTask}
use Rattle.relay_tasks.specs.declared.task.HttpTask.TheVariants as task
use Rattle.relay_tasks.specs.declared.took.Took.{Took}
use Rattle.relay_tasks.specs.declared.took.Took.TheVariants as took
use Rattle.relay_links.specs.declared.branch.Branch.{Branch}
use Rattle.relay_links.specs.declared.branch.Branch.TheVariants as branch
use Rattle.relay_core.specs.declared.duplex.Duplex.{Duplex}
use Rattle.relay_core.specs.declared.piece.Piece.{Piece}
use Rattle.relay_core.specs.declared.step.Step.{Step}
use Rattle.relay_core.specs.Batch.{batch_of, rest_of}
use Rattle.relay_core.specs.Piece.{put_of, task_put_of}
use Rattle.relay_core.specs.Pipe.{has_room, places}
use Rattle.relay_core.specs.Steps.{StepsTo, with_requests, with_responses}
use Rattle.relay_core.specs.Table.{State, enabled, down_runs, up_runs, with_piece_sent, after_up_read, told_error, after_down_read}
use Rattle.relay_core.proofs.BoolLemmas.{and_left, and_right}
use Rattle.relay_core.proofs.MoveLemmas.{batch-rest, Leaves, leaves_at, leaves_next, leaves_failed, leaves_response_done, leaves_request_done, leaves_up_write, leaves_down_write, leaves_piece, leaves_sent, leaves_batch, leaves_up_finish, leaves_down_finish}
use Rattle.relay_core.proofs.RunsLemmas.{down_sound}

-- each pipe holds what has places
pub record Fits (d : Duplex) : Type 0 where
  pub requests : length d.requests.tasks ≤ places
  pub responses : length d.responses.tasks ≤ places

-- pipes that hold no more than before fit
fits_left : (old new : Duplex) → Leaves old new → Fits old → Fits new
fits_left old new leaves f = record {
  requests = rw (leaves.requests) f.requests;
  responses = rw (leaves.responses) f.responses;
}

-- the lists of the pipes are these
fits_at : (old new : Duplex) → new ≡ old → Fits old → Fits new
fits_at old new is f = let P : Duplex → Type 0 = λ d. Fits d in subst P (sym is) f

-- what is behind the first tasks is no longer
behind_fits : (xs ys zs : List HttpTask) → xs ++ ys ≡ zs → length zs ≤ places
    → length ys ≤ places
behind_fits xs ys zs is fits = omega (arith, length-append xs ys, ap length is)

-- a pipe with room has a place for one more
room_fits : (d : Bool) (held more : List HttpTask) → (not d && ltb (length held) 4) ≡ true
    → length more ≤ 1 → length (held ++ more) ≤ places
room_fits d held more room few =
    let below : length held < 4 = ltb-true (length held) 4 (and_right (not d) _ room) in
    omega (arith, length-append held more)

-- a piece puts one task at most
few_put : (task : Option HttpTask) → length (option_to_list task) ≤ 1
few_put None = omega arith
few_put (Some task) = omega arith

-- a read of the upstream puts a task where there is room
fits_up_read : (d : Duplex) (tunnel : Bool) (answer : Took HttpTask)
    → has_room d.responses ≡ true → Fits d → Fits (after_up_read d tunnel answer)
fits_up_read d tunnel (took.Item task) room f = record {
  requests = f.requests;
  responses = room_fits d.responses.closed d.responses.tasks (task ∷ []) room (omega arith);
}
fits_up_read d tunnel took.More room f = f
fits_up_read d tunnel (took.Waited why) room f = f
fits_up_read d tunnel took.End room f = f
fits_up_read d tunnel (took.Failed (fail.Error error)) room f = record {
  requests = f.requests;
  responses = room_fits d.responses.closed d.responses.tasks
      (task.Failed (told_error d.send_error error) ∷ []) room (omega arith);
}
fits_up_read d tunnel (took.Failed fail.OutOfMemory) room f =
    record { requests = f.requests; responses = f.responses }

-- a read of the client puts one where there is room
fits_down_read : (d : Duplex) (upgraded : Bool) (answer : Took Piece)
    → has_room d.requests ≡ true → Fits d → Fits (after_down_read d upgraded answer)
fits_down_read d upgraded (took.Item piece) room f = record {
  requests = room_fits d.requests.closed d.requests.tasks (put_of upgraded piece) room
      (few_put (task_put_of upgraded piece));
  responses = f.responses;
}
fits_down_read d upgraded took.More room f = f
fits_down_read d upgraded (took.Waited why) room f = f
fits_down_read d upgraded took.End room f = f
fits_down_read d upgraded (took.Failed why) room f =
    record { requests = f.requests; responses = f.responses }

-- a request pipe of four tasks at most fits
fits_requests : (d : Duplex) (tasks : List HttpTask) → length tasks ≤ places → Fits d
    → Fits (with_requests d tasks)
fits_requests d tasks few f = record { requests = few; responses = f.responses }

-- so does such a response pipe
fits_responses : (d : Duplex) (tasks : List HttpTask) → length tasks ≤ places → Fits d
    → Fits (with_responses d tasks)
fits_responses d tasks few f = record { requests = f.requests; responses = few }

-- each pipe holds what has places after each step
pub step_fits : (b : Branch) (old new : State) (result : Step) → enabled old b ≡ true
    → StepsTo b old new result → Fits old.duplex → Fits new.duplex
step_fits branch.UpWrite old new result on by f =
    fits_left old.duplex new.duplex
    (leaves_at _ _ _ by.does.duplex (leaves_up_write old.duplex by.does.answer)) f
step_fits branch.DownWrite old new result on by f =
    fits_left old.duplex new.duplex
    (leaves_at _ _ _ by.does.duplex (leaves_down_write old.duplex by.does.answer)) f
step_fits branch.UpTake old new result on by f =
    let mid = with_requests old.duplex by.does.rest in
    fits_left mid new.duplex
    (leaves_at _ _ _ by.does.duplex (leaves_next mid _ _
    (leaves_sent mid old.down.upgraded by.does.piece)
    (leaves_piece (with_piece_sent mid old.down.upgraded by.does.piece) by.does.answer)))
    (fits_requests old.duplex by.does.rest
    (behind_fits (by.does.piece ∷ []) by.does.rest old.duplex.requests.tasks
    (sym by.does.held) f.requests) f)
step_fits branch.DownTake old new result on by f =
    let held = old.duplex.responses.tasks in
    elim by.does [
      | inl gives ↦ fits_left (with_responses old.duplex (rest_of held)) new.duplex
          (leaves_at _ _ _ gives.duplex (leaves_batch (with_responses old.duplex (rest_of held))
          old.down (batch_of held) new.down gives.answer))
          (fits_responses old.duplex (rest_of held)
          (behind_fits (batch_of held) (rest_of held) held (batch-rest held) f.responses) f)
      | inr loses ↦ fits_left (with_responses old.duplex loses.left) new.duplex
          (leaves_at _ _ _ loses.duplex (leaves_failed (with_responses old.duplex loses.left)))
          (fits_responses old.duplex loses.left
          (behind_fits loses.lost loses.left held (sym loses.parts) f.responses) f)
    ]
step_fits branch.DownDrop old new result on by f =
    fits_at _ new.duplex by.does.duplex
    (fits_responses old.duplex by.does.rest
    (behind_fits (by.does.task ∷ []) by.does.rest old.duplex.responses.tasks
    (sym by.does.held) f.responses) f)
step_fits branch.DownEnd old new result on by f =
    fits_left old.duplex new.duplex
    (leaves_at _ _ _ by.does.duplex (leaves_response_done old.duplex true)) f
step_fits branch.DownClosed old new result on by f =
    fits_left old.duplex new.duplex
    (leaves_at _ _ _ by.does.duplex (leaves_request_done old.duplex true)) f
step_fits branch.UpRead old new result on by f =
    fits_at _ new.duplex by.does.duplex
    (fits_up_read old.duplex old.down.upgraded by.does.answer
    (and_right (not old.duplex.upstream_response_done) _ (and_right (up_runs old.duplex) _ on))
    f)
step_fits branch.DownRead old new result on by f =
    fits_at _ new.duplex by.does.duplex
    (fits_down_read old.duplex old.down.upgraded by.does.answer
    (and_left (has_room old.duplex.requests) _ (and_right (down_runs old.duplex) _ on)) f)
step_fits branch.UpFinish old new result on by f =
    fits_left old.duplex new.duplex
    (leaves_at _ _ _ by.does.duplex (leaves_up_finish old.duplex _)) f
step_fits branch.DownFinish old new result on by f =
    fits_left old.duplex new.duplex
    (leaves_at _ _ _ by.does.duplex
    (leaves_down_finish old.duplex new.down.pending by.does.answer
    (down_sound old.duplex (and_left (down_runs old.duplex) _ on)))) f
step_fits branch.MessageUp old new result on by f = absurd by
step_fits branch.MessageDown old new result on by f = absurd by
