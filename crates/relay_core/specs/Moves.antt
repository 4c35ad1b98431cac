-- What moved through the pipes since an exchange began: what was put is what was taken and what is
-- held, and what is done is done for its cause.
use Rattle.std.specs.Prelude.{◌≡◌, Bool, true, false, ◌||◌, List, [], ◌∷◌, ◌++◌, ◌⊎◌, length, Option, Some, None}
use Rattle.std.specs.List.{list_any}
use Rattle.relay_tasks.specs.declared.error.Error.{Error}
use Rattle.relay_tasks.specs.declared.error.Fail.TheVariants as fail
use Rattle.relay_tasks.specs.declared.task.HttpTask.{HttpTask}
use Rattle.relay_tasks.specs.declared.task.HttpTask.TheVariants as task
use Rattle.relay_tasks.specs.Task.{is_end}
use Rattle.relay_core.specs.declared.duplex.Duplex.{Duplex}
use Rattle.relay_core.specs.declared.step.Step.{Step}
use Rattle.relay_core.specs.declared.step.Step.TheVariants as step
use Rattle.relay_core.specs.Counts.{Adds}
use Rattle.relay_core.specs.Ends.{can_send_on}
use Rattle.relay_core.specs.Down.{DownState}
use Rattle.relay_core.specs.Past.{DownPast, UpPast}
use Rattle.relay_core.specs.Pipe.{places}
use Rattle.relay_core.specs.Sound.{IsSound}
use Rattle.relay_core.specs.State.{is_reading, is_response_done}
use Rattle.relay_core.specs.Table.{State, is_failed, up_runs}

-- the client takes no more of the response
abbrev pub is_over : Duplex → Bool
is_over d = is_response_done d.client_response || is_failed d.word

-- no task stands behind one that ends the list
abbrev pub EndsLast : List HttpTask → Type 0
EndsLast tasks = (front behind : List HttpTask) → tasks ≡ front ++ behind
    → list_any is_end front ≡ true → behind ≡ []

-- the task that a read error is put as
abbrev pub failure_task : Option Error → List HttpTask
failure_task None = []
failure_task (Some error) = task.Failed error ∷ []

-- through the response pipe: the client was given the front of what the upstream gave; what is left
-- of it, and the failure of a read, was dropped or is held. The failure is refused by the client,
-- and a half failed by that. Nothing is dropped before the response is done or a half failed, and
-- no failure is put before the upstream's response ends
pub record ResponseHeld (read batched held : List HttpTask) (failed over ended : Bool)
    : Type 0 where
  pub given : List HttpTask
  pub refused : Option Error
  pub rest : List HttpTask
  pub failure : Option Error
  pub dropped : List HttpTask
  pub is_batched : batched ≡ given ++ failure_task refused
  pub front : read ≡ given ++ rest
  pub same : rest ++ failure_task failure ≡ failure_task refused ++ (dropped ++ held)
  pub none_refused : failed ≡ false → refused ≡ None
  pub none_dropped : over ≡ false → dropped ≡ []
  pub none_failed : ended ≡ false → failure ≡ None

-- the client was not upgraded: whether a half failed or not, each end stands for its cause
pub record Steady (s : State) (p : DownPast) : Type 0 where
  -- the end of the request is its last task, and tells that it has ended
  pub ends_last : EndsLast p.put
  pub ended : list_any is_end p.put ≡ true → s.down.request_ended ≡ true
  -- an end of the response is asked for only behind an end among its tasks, or where the client's
  -- side said that the response is done
  pub closed : (p.closing ≡ [])
      ⊎ ((list_any is_end p.batched ≡ true) ⊎ (s.down.response_done ≡ true))

-- no half failed, and the client was not upgraded: what is done is done for its cause
pub record Ordinary (s : State) (p : DownPast) (q : UpPast) : Type 0 where
  -- the end of the request is its last task, and tells that it has ended
  pub ends_last : EndsLast p.put
  pub ended : list_any is_end p.put ≡ true → s.down.request_ended ≡ true
  -- the client's request is done where it ended, or where no more of it is wanted
  pub request_done : is_reading s.duplex.client_request ≡ false
      → (s.down.request_ended ≡ true) ⊎ (s.duplex.requests.closed ≡ true)
  -- without a send error no piece was lost, and the upstream's request is done where it has ended
  -- and all of it was taken
  pub unlost : s.duplex.send_error ≡ None → q.lost ≡ false
  pub whole : s.duplex.send_error ≡ None → s.duplex.upstream_request_done ≡ true
      → (s.duplex.requests.tasks ≡ []) × (s.down.request_ended ≡ true)
  -- and where it has ended and all of it was taken it is done: its end was put, or it had none to
  -- put
  pub put_end : s.down.request_ended ≡ true
      → (list_any is_end p.put ≡ true) ⊎ (s.duplex.upstream_request_done ≡ true)
  pub taken_end : s.down.request_ended ≡ true → s.duplex.requests.tasks ≡ []
      → s.duplex.upstream_request_done ≡ true
  -- the upstream half finished with nothing pending, the request having been taken whole
  pub sent : s.duplex.send_error ≡ None → s.duplex.upstream_finished ≡ true
      → (s.duplex.requests.tasks ≡ []) × (s.down.request_ended ≡ true) × (s.up.pending ≡ false)
  pub through : s.duplex.upstream_finished ≡ true
      → (s.duplex.upstream_response_done ≡ true) ⊎ (s.duplex.client_finished ≡ true)
  -- the client's response is done where an end was among its tasks, or its side said so
  pub answered : is_response_done s.duplex.client_response ≡ true
      → (list_any is_end p.batched ≡ true) ⊎ (s.down.response_done ≡ true)
  -- the client's half finished with nothing pending, its request and its response being done
  pub client_done : s.duplex.client_finished ≡ true
      → (is_reading s.duplex.client_request ≡ false)
      × (is_response_done s.duplex.client_response ≡ true) × (s.down.pending ≡ false)
  -- an end is asked for only once the response is done
  pub closed : (p.closing ≡ []) ⊎ (is_response_done s.duplex.client_response ≡ true)

-- what the upstream's side tells of errors is what the duplex made of them: the send error is the
-- last with which nothing could be sent; and a read that answers an error ends the upstream's
-- response, so that none did before that, nor where an end is among the tasks that were read
pub record Marks (s : State) (q : UpPast) : Type 0 where
  pub kind : s.duplex.kind ≡ s.up.kind
  pub sends : s.duplex.send_error ≡ s.up.send_failed
  pub reads :
      (s.duplex.upstream_response_done ≡ false) ⊎ (list_any is_end q.read ≡ true)
      → s.up.read_failed ≡ false

-- the exchange so far, over the pasts of both sides
pub record SoFar
    (down_past : DownPast → Type 0) (up_past : UpPast → Type 0)
    (up_blames : UpPast → Error → Type 0) (s : State) (p : DownPast) (q : UpPast) : Type 0 where
  pub down : down_past p
  pub up : up_past q
  pub sound : IsSound s
  -- what was put is what was taken and what is held
  pub requests : p.put ≡ q.taken ++ s.duplex.requests.tasks
  pub responses : ResponseHeld q.read p.batched s.duplex.responses.tasks
      (is_failed s.duplex.word) (is_over s.duplex) s.duplex.upstream_response_done
  -- an end among the tasks that the upstream gave makes its response done
  pub unended : s.duplex.upstream_response_done ≡ false → list_any is_end q.read ≡ false
  -- the upstream answers for the errors that are kept and held
  pub send_error : (e : Error) → s.duplex.send_error ≡ Some e → up_blames q e
  pub failures : (front behind : List HttpTask) (e : Error)
      → s.duplex.responses.tasks ≡ front ++ task.Failed e ∷ behind → up_blames q e
  pub steady : s.down.upgraded ≡ false → Steady s p
  pub ordinary : is_failed s.duplex.word ≡ false → s.down.upgraded ≡ false → Ordinary s p q
  pub marks : Marks s q

-- both halves have finished, and none failed: the response was given to the client, and nothing
-- waits for it; and where no send error is kept, the request was taken whole, and is done
pub record Finishes (s : State) (p : DownPast) (q : UpPast) : Type 0 where
  pub ended : (list_any is_end p.batched ≡ true) ⊎ (s.down.response_done ≡ true)
  pub written : s.down.pending ≡ false
  pub taken : s.duplex.send_error ≡ None → q.taken ≡ p.put
  pub unlost : s.duplex.send_error ≡ None → q.lost ≡ false
  pub request_ended : s.duplex.send_error ≡ None → s.down.request_ended ≡ true
  pub sent : s.duplex.send_error ≡ None → s.up.pending ≡ false
  pub done : s.duplex.send_error ≡ None → s.duplex.upstream_request_done ≡ true
  pub unfailed : is_failed s.duplex.word ≡ false

-- the client's side refuses tasks that the upstream gave behind those that the client was given;
-- without a tunnel no end of the response was asked for before
pub record Refused (refuses : DownPast → List HttpTask → Error → Type 0) (upgraded : Bool)
    (p : DownPast) (q : UpPast) (e : Error) : Type 0 where
  pub left : List HttpTask
  pub rest : List HttpTask
  pub came : q.read ≡ p.batched ++ (left ++ rest)
  pub refused : refuses p left e
  pub unasked : upgraded ≡ false → p.closing ≡ []

-- the response cannot end where its end was asked for. Without a tunnel that is behind an end among
-- its tasks, or where the client's side said that the response is done
pub record Unended (cannot_end : DownPast → Error → Type 0) (side : DownState) (p : DownPast)
    (e : Error) : Type 0 where
  pub why : cannot_end p e
  pub asked : side.upgraded ≡ false
      → (list_any is_end p.batched ≡ true) ⊎ (side.response_done ≡ true)

-- why a step failed with that error: a side answers for it, tasks of the response are refused with
-- it, or the response cannot end
abbrev pub HasReason : (DownPast → Error → Type 0) → (DownPast → List HttpTask → Error → Type 0)
    → (DownPast → Error → Type 0) → (UpPast → Error → Type 0) → DownState → DownPast → UpPast
    → Error → Type 0
HasReason down_blames refuses cannot_end up_blames side p q e =
    down_blames p e
    ⊎ (up_blames q e
    ⊎ (Refused refuses side.upgraded p q e ⊎ Unended cannot_end side p e))

-- pasts that go on from others: what passed before is the front of what has passed
pub record Extends (before : DownPast) (up_before : UpPast) (p : DownPast) (q : UpPast)
    : Type 0 where
  pub put : List HttpTask
  pub is_put : p.put ≡ before.put ++ put
  pub batched : List HttpTask
  pub is_batched : p.batched ≡ before.batched ++ batched
  pub closing : List HttpTask
  pub is_closing : p.closing ≡ before.closing ++ closing
  pub read : List HttpTask
  pub is_read : q.read ≡ up_before.read ++ read
  pub taken : List HttpTask
  pub is_taken : q.taken ≡ up_before.taken ++ taken

-- a step went on with the exchange from these pasts, and its error has its reason. What it holds
-- more it read. Without a tunnel, where it finished both directions were relayed, and where the
-- request pipe is then full and no send error is kept, the upstream half that runs can go on
pub record Goes
    (down_past : DownPast → Type 0) (down_blames : DownPast → Error → Type 0)
    (down_refuses : DownPast → List HttpTask → Error → Type 0)
    (down_cannot_end : DownPast → Error → Type 0)
    (up_past : UpPast → Type 0) (up_blames : UpPast → Error → Type 0) (before : DownPast)
    (up_before : UpPast) (old s : State) (result : Step) : Type 0 where
  pub p : DownPast
  pub q : UpPast
  pub extends : Extends before up_before p q
  pub adds : Adds old s up_before q
  pub so_far : SoFar down_past up_past up_blames s p q
  pub blamed : (e : Error) → result ≡ step.Failed (fail.Error e)
      → HasReason down_blames down_refuses down_cannot_end up_blames s.down p q e
  pub finished : result ≡ step.Finished → s.down.upgraded ≡ false → Finishes s p q
  pub request_full : s.down.upgraded ≡ false → up_runs s.duplex ≡ true
      → length s.duplex.requests.tasks ≡ places → s.duplex.send_error ≡ None
      → can_send_on s ≡ true
