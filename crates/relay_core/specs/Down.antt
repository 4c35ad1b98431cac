-- The client's side of a duplex: its meaning, and what each of its answers does.
use Rattle.std.specs.Prelude.{◌≡◌, ◌≤◌, ℕ, Bool, true, false, ◌&&◌, ◌||◌, not, if◌then◌else◌, List, [], ◌∷◌, Result, Ok, Err, IsTrue}
use Rattle.std.specs.List.{list_any}
use Rattle.relay_tasks.specs.declared.error.Error.{Error}
use Rattle.relay_tasks.specs.declared.error.ErrorSource.TheVariants.{Downstream}
use Rattle.relay_tasks.specs.declared.error.Fail.{Fail}
use Rattle.relay_tasks.specs.declared.task.HttpTask.{HttpTask}
use Rattle.relay_tasks.specs.declared.task.HttpTask.TheVariants as task
use Rattle.relay_tasks.specs.declared.took.Took.{Took}
use Rattle.relay_tasks.specs.declared.took.Took.TheVariants as took
use Rattle.relay_tasks.specs.Error.{IsMemoryOr}
use Rattle.relay_links.specs.declared.link.Put.{Put}
use Rattle.relay_links.specs.declared.link.Put.TheVariants as put
use Rattle.relay_core.specs.declared.piece.Piece.{Piece}
use Rattle.relay_core.specs.declared.told.Told.{Told}
use Rattle.relay_core.specs.Piece.{put_of}
use Rattle.relay_core.specs.Pipe.{is_failure}
use Rattle.relay_core.specs.Told.{paused, failed, written}

-- the client's side: whether the end of the request was among its pieces (or went with the head)
-- and no 101 was accepted since; whether its body has ended; whether it waits for the answer to an
-- upgrade, and whether it was upgraded; whether its response is done, and the response's body was
-- finished; whether output is pending; what it tells of its answers; and how many calls of hooks
-- its reads have made
pub record DownState : Type 0 where
  pub request_ended : Bool
  pub body_done : Bool
  pub awaits_upgrade : Bool
  pub upgraded : Bool
  pub response_done : Bool
  pub body_finished : Bool
  pub pending : Bool
  pub told : Told
  pub calls : ℕ

-- nothing more of the response comes: it is done, or its body was finished
abbrev pub is_answered : DownState → Bool
is_answered side = side.response_done || side.body_finished

-- the client may be read: where its request has ended, it does not wait for the answer to an
-- upgrade, nor has it its whole response
abbrev pub may_read : DownState → Bool
may_read side = not (side.body_done && (side.awaits_upgrade || is_answered side))

-- a piece came. The client's end ends the request, nothing is put behind the request's end, and no
-- call of a hook is taken back
pub record GivesPiece (before after : DownState) (piece : Piece) : Type 0 where
  pub exact : after ≡ record before {
    request_ended = before.request_ended || piece.upstream_end;
    body_done = before.body_done || piece.client_end;
    calls = after.calls;
  }
  pub ends : IsTrue piece.client_end → after.request_ended ≡ true
  pub nothing_behind : IsTrue before.request_ended → put_of before.upgraded piece ≡ []
  pub calls_stay : before.calls ≤ after.calls

-- what a read of a piece does, by its answer: hooks may be called with a piece, or refuse it
abbrev pub ReadsPiece : DownState → DownState → Took Piece → Type 0
ReadsPiece before after (took.Item piece) = GivesPiece before after piece
ReadsPiece before after took.More = after ≡ before
ReadsPiece before after (took.Waited pause) =
    after ≡ record before { told = paused pause before.told }
ReadsPiece before after took.End = ⊥
ReadsPiece before after (took.Failed fail) =
    after ≡ record before { told = failed fail before.told; calls = after.calls }

-- a 101 was accepted in between
abbrev pub accepts : DownState → DownState → Bool
accepts before after = not before.upgraded && after.upgraded

-- the tasks were filtered and queued; a 101 accepted among them opens the request again
pub record QueuesBatch (before : DownState) (tasks : List HttpTask) (after : DownState)
    (done : Bool) : Type 0 where
  pub exact : after ≡ record before {
    request_ended = if accepts before after then false else before.request_ended;
    body_done = if accepts before after then false else before.body_done;
    awaits_upgrade = after.awaits_upgrade;
    upgraded = after.upgraded;
    response_done = done;
    body_finished = after.body_finished;
    pending = after.pending;
  }
  pub upgraded_stays : IsTrue before.upgraded → after.upgraded ≡ true
  pub done_stays : IsTrue before.response_done → done ≡ true
  pub finished_stays : IsTrue before.body_finished → after.body_finished ≡ true
  pub no_failure : list_any is_failure tasks ≡ false

-- the tasks were refused, and an upgraded client stays so; a task `Failed` alone is refused by its
-- error
pub record RefusesBatch (before : DownState) (tasks : List HttpTask) (after : DownState)
    (why : Fail) : Type 0 where
  pub exact : after ≡ record before {
    awaits_upgrade = after.awaits_upgrade;
    upgraded = after.upgraded;
    response_done = after.response_done;
    body_finished = after.body_finished;
    pending = after.pending;
    told = failed why before.told;
  }
  pub upgraded_stays : IsTrue before.upgraded → after.upgraded ≡ true
  pub by_failure : (error : Error) → tasks ≡ task.Failed error ∷ [] → IsMemoryOr error why

-- what taking a batch does, by its answer
abbrev pub TakesBatch : DownState → List HttpTask → DownState → Result Bool Fail → Type 0
TakesBatch before tasks after (Ok done) = QueuesBatch before tasks after done
TakesBatch before tasks after (Err why) = RefusesBatch before tasks after why

-- what a write of pending output does, by its answer
abbrev pub Writes : DownState → DownState → Put → Type 0
Writes before after (put.Took n) = after ≡ record before { pending = after.pending }
Writes before after put.NotReady =
    after ≡ record before { told = written Downstream put.NotReady before.told }
Writes before after put.Silent =
    after ≡ record before { told = written Downstream put.Silent before.told }
Writes before after (put.Failed fault) = after ≡ record before {
  pending = after.pending;
  told = written Downstream (put.Failed fault) before.told;
}
Writes before after put.OutOfMemory = after ≡ before

-- the response's body was ended; where it was ended before, nothing was queued
pub record EndsBody (before after : DownState) : Type 0 where
  pub exact : after ≡ record before { body_finished = true; pending = after.pending }
  pub again : IsTrue before.body_finished → after.pending ≡ before.pending

-- what ending the response's body does, by its answer
abbrev pub Finishes : DownState → DownState → Result Unit Fail → Type 0
Finishes before after (Ok done) = EndsBody before after
Finishes before after (Err why) =
    after ≡ record before { pending = after.pending; told = failed why before.told }

-- ---- what lasts

-- a side came from another by calls, none or one behind the other, each of which leaves it so
pub data Lasting {D : Type 0} (lasts : D → D → Type 0) (old : D) : D → Type 0 where
  stays : Lasting lasts old old
  goes_on : (mid new : D) → Lasting lasts old mid → lasts mid new → Lasting lasts old new
