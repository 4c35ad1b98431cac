-- What a step leaves of both pipes: a batch and its rest are all that was held, and where no task
-- passes both pipes hold what they held.
use Rattle.std.proofs.Common.{◌≡◌, Bool, true, false, ◌&&◌, ◌||◌, if◌then◌else◌, List, [], ◌∷◌, ◌++◌, Option, Some, None, Result, Ok, Err, refl, sym, ap, ◌∙◌, subst}
use Rattle.relay_tasks.specs.declared.error.Error.{Error}
use Rattle.relay_tasks.specs.declared.error.Fail.{Fail}
use Rattle.relay_tasks.specs.declared.error.Fail.TheVariants as fail
use Rattle.relay_tasks.specs.declared.task.HttpTask.{HttpTask}
use Rattle.relay_links.specs.declared.link.Put.{Put}
use Rattle.relay_links.specs.declared.link.Put.TheVariants as put
use Rattle.relay_core.specs.declared.duplex.Duplex.{Duplex}
use Rattle.relay_core.specs.Batch.{plain_front, behind_plain, batch_of, rest_of}
use Rattle.relay_core.specs.Down.{DownState}
use Rattle.relay_core.specs.Down as down
use Rattle.relay_core.specs.Moves.{is_over}
use Rattle.relay_core.specs.Pipe.{is_failure}
use Rattle.relay_core.specs.State.{is_response_done}
use Rattle.relay_core.specs.Table.{is_failed, failed, with_send_error, after_up_write, after_down_write, after_piece, with_piece_sent, ends_tunnel, with_upgrade, with_response_done, with_request_done, after_batch, after_up_finish, after_down_finish}
use Rattle.relay_core.proofs.BoolLemmas.{clash, or_left, or_right, or_false}

-- the front and what stays behind are all that was held
front_by : (x : HttpTask) (xs front behind : List HttpTask) → front ++ behind ≡ xs → (b : Bool)
    → (if b then [] else x ∷ front) ++ (if b then x ∷ xs else behind) ≡ x ∷ xs
front_by x xs front behind is true = refl
front_by x xs front behind is false = ap (λ (ys : List HttpTask). x ∷ ys) is

-- the plain tasks in front and those behind them are all
front-behind : (tasks : List HttpTask) → plain_front tasks ++ behind_plain tasks ≡ tasks
front-behind [] = refl
front-behind (x ∷ xs) =
    front_by x xs (plain_front xs) (behind_plain xs) (front-behind xs) (is_failure x)

-- the batch and the rest are all that was held
batch_by : (x : HttpTask) (xs front behind : List HttpTask) → front ++ behind ≡ xs → (b : Bool)
    → (if b then x ∷ [] else x ∷ front) ++ (if b then xs else behind) ≡ x ∷ xs
batch_by x xs front behind is true = refl
batch_by x xs front behind is false = ap (λ (ys : List HttpTask). x ∷ ys) is

-- a batch and the rest are all that was held
pub batch-rest : (tasks : List HttpTask) → batch_of tasks ++ rest_of tasks ≡ tasks
batch-rest [] = refl
batch-rest (x ∷ xs) =
    batch_by x xs (plain_front xs) (behind_plain xs) (front-behind xs) (is_failure x)

-- both pipes hold what they held, and neither response is opened again
pub record Leaves (old new : Duplex) : Type 0 where
  pub requests : new.requests.tasks ≡ old.requests.tasks
  pub responses : new.responses.tasks ≡ old.responses.tasks
  pub over : is_over new ≡ false → is_over old ≡ false
  pub ended : new.upstream_response_done ≡ false → old.upstream_response_done ≡ false

-- a duplex leaves itself
pub leaves_same : (d : Duplex) → Leaves d d
leaves_same d = record { requests = refl; responses = refl; over = λ h. h; ended = λ h. h }

-- a half that fails leaves what is held
pub leaves_failed : (d : Duplex) → Leaves d (failed d)
leaves_failed d = record {
  requests = refl;
  responses = refl;
  over = λ h. clash true refl (or_right (is_response_done d.client_response) true h);
  ended = λ h. h;
}

-- a duplex that became one which leaves it
pub leaves_at : (old wanted new : Duplex) → new ≡ wanted → Leaves old wanted → Leaves old new
leaves_at old wanted new is leaves =
    let P : Duplex → Type 0 = λ d. Leaves old d in subst P (sym is) leaves

-- one step behind another leaves what both leave
pub leaves_next : (old mid new : Duplex) → Leaves old mid → Leaves mid new → Leaves old new
leaves_next old mid new a b = record {
  requests = b.requests ∙ a.requests;
  responses = b.responses ∙ a.responses;
  over = λ h. a.over (b.over h);
  ended = λ h. a.ended (b.ended h);
}

-- a response that is over stays so
pub over_done : (u v c f : Bool) → (((u || v) && c) || f) ≡ false → ((u && c) || f) ≡ false
over_done true v c f h = h
over_done false v c f h = or_right (v && c) f h

-- a response that is done leaves what is held
pub leaves_response_done : (d : Duplex) (done : Bool) → Leaves d (with_response_done d done)
leaves_response_done d done = record {
  requests = refl;
  responses = refl;
  over = over_done d.client_response.upstream_done done d.client_response.cached_done
      (is_failed d.word);
  ended = λ h. h;
}

-- so does a request that is done
pub leaves_request_done : (d : Duplex) (done : Bool) → Leaves d (with_request_done d done)
leaves_request_done d done =
    record { requests = refl; responses = refl; over = λ h. h; ended = λ h. h }

-- and an accepted 101
leaves_upgrade : (d : Duplex) (accepted : Bool) → Leaves d (with_upgrade d accepted)
leaves_upgrade d true = record { requests = refl; responses = refl; over = λ h. h; ended = λ h. h }
leaves_upgrade d false = leaves_same d

-- and a send error
leaves_send_error : (d : Duplex) (error : Error) → Leaves d (with_send_error d error)
leaves_send_error d error =
    record { requests = refl; responses = refl; over = λ h. h; ended = λ h. h }

-- and a write to the upstream
pub leaves_up_write : (d : Duplex) (answer : Put) → Leaves d (after_up_write d answer)
leaves_up_write d (put.Took n) = leaves_same d
leaves_up_write d put.NotReady = leaves_same d
leaves_up_write d put.Silent = leaves_same d
leaves_up_write d (put.Failed fault) = leaves_send_error d _
leaves_up_write d put.OutOfMemory = leaves_failed d

-- and a write to the client
pub leaves_down_write : (d : Duplex) (answer : Put) → Leaves d (after_down_write d answer)
leaves_down_write d (put.Took n) = leaves_same d
leaves_down_write d put.NotReady = leaves_same d
leaves_down_write d put.Silent = leaves_same d
leaves_down_write d (put.Failed fault) = leaves_failed d
leaves_down_write d put.OutOfMemory = leaves_failed d

-- and the answer on a piece
pub leaves_piece : (d : Duplex) (answer : Result Unit Fail) → Leaves d (after_piece d answer)
leaves_piece d (Ok done) = leaves_same d
leaves_piece d (Err (fail.Error error)) = leaves_send_error d error
leaves_piece d (Err fail.OutOfMemory) = leaves_failed d

-- and a piece that went to the upstream
pub leaves_sent : (d : Duplex) (tunnel : Bool) (piece : HttpTask)
    → Leaves d (with_piece_sent d tunnel piece)
leaves_sent d tunnel piece = record {
  requests = refl;
  responses = refl;
  over = λ h. h;
  ended = or_left d.upstream_response_done (ends_tunnel tunnel piece);
}

-- and a batch
pub leaves_batch : (d : Duplex) (side : DownState) (tasks : List HttpTask) (side' : DownState)
    (answer : Result Bool Fail) → Leaves d (after_batch d side tasks side' answer)
leaves_batch d side tasks side' (Ok done) =
    leaves_next _ _ _
    (leaves_next _ _ _ (leaves_upgrade d (down.accepts side side'))
    (leaves_response_done (with_upgrade d (down.accepts side side')) _))
    (leaves_request_done _ _)
leaves_batch d side tasks side' (Err why) = leaves_failed d

-- and the end of the upstream half
pub leaves_up_finish : (d : Duplex) (why : Option Error) → Leaves d (after_up_finish d why)
leaves_up_finish d None =
    record { requests = refl; responses = refl; over = λ h. h; ended = λ h. h }
leaves_up_finish d (Some error) = leaves_failed d

-- and the end of the response's body
pub leaves_down_finish : (d : Duplex) (pending : Bool) (answer : Result Unit Fail)
    → is_failed d.word ≡ false → Leaves d (after_down_finish d pending answer)
leaves_down_finish d true (Ok done) runs = leaves_same d
leaves_down_finish d false (Ok done) runs = record {
  requests = refl;
  responses = refl;
  over = λ h. or_false (is_response_done d.client_response) (is_failed d.word)
      (or_left (is_response_done d.client_response) false h) runs;
  ended = λ h. h;
}
leaves_down_finish d true (Err why) runs = leaves_failed d
leaves_down_finish d false (Err why) runs = leaves_failed d
