-- The table of a duplex: the state of the core, which branches are enabled in it, and what each
-- branch does.
use Rattle.std.specs.Prelude.{Bool, true, false, ◌&&◌, ◌||◌, not, if◌then◌else◌, List, [], ◌++◌, Option, Some, None, is_some, is_none, find, Result, Ok, Err}
use Rattle.std.specs.List.{list_any}
use Rattle.relay_tasks.specs.declared.error.Error.{Error}
use Rattle.relay_tasks.specs.declared.error.ErrorSource.TheVariants.{Upstream, Downstream}
use Rattle.relay_tasks.specs.declared.error.Fail.{Fail}
use Rattle.relay_tasks.specs.declared.error.Fail.TheVariants as fail
use Rattle.relay_tasks.specs.declared.task.HttpTask.{HttpTask}
use Rattle.relay_tasks.specs.declared.task.HttpTask.TheVariants as task
use Rattle.relay_tasks.specs.declared.took.Pause.TheVariants as pause
use Rattle.relay_tasks.specs.declared.took.Took.{Took}
use Rattle.relay_tasks.specs.declared.took.Took.TheVariants as took
use Rattle.relay_tasks.specs.Task.{is_end}
use Rattle.relay_links.specs.declared.branch.Branch.{Branch}
use Rattle.relay_links.specs.declared.branch.Branch.TheVariants as branch
use Rattle.relay_links.specs.declared.branch.TheConstants.{BRANCHES}
use Rattle.relay_links.specs.declared.link.Put.{Put}
use Rattle.relay_links.specs.declared.link.Put.TheVariants as put
use Rattle.relay_core.specs.declared.duplex.Duplex.{Duplex}
use Rattle.relay_core.specs.declared.piece.Piece.{Piece}
use Rattle.relay_core.specs.declared.pipe_state.PipeState.{PipeState}
use Rattle.relay_core.specs.declared.pipe_state.PipeState.TheVariants as word
use Rattle.relay_core.specs.declared.step.Step.{Step}
use Rattle.relay_core.specs.declared.step.Step.TheVariants as step
use Rattle.relay_links.specs.declared.link.UpKind.{UpKind}
use Rattle.relay_links.specs.declared.link.UpKind.TheVariants as kind
use Rattle.relay_core.specs.Down.{DownState, may_read, accepts}
use Rattle.relay_core.specs.Pipe.{with_task, is_empty, has_room}
use Rattle.relay_core.specs.Piece.{put_of}
use Rattle.relay_core.specs.State.{begun, is_reading, is_done, finished, reset_to_reading, is_response_done, is_complete}
use Rattle.relay_core.specs.Told.{fault_of}
use Rattle.relay_core.specs.Up.{UpState}

-- the core: what both halves hold, and the two sides
pub record State : Type 0 where
  pub duplex : Duplex
  pub down : DownState
  pub up : UpState

-- the core of a duplex and its two sides
abbrev pub core : Duplex → DownState → UpState → State
core duplex down up = record { duplex = duplex; down = down; up = up }

-- a half failed
abbrev pub is_failed : PipeState → Bool
is_failed word.Active = false
is_failed word.DownstreamComplete = false
is_failed word.Failed = true

-- the client's half goes on
abbrev pub down_runs : Duplex → Bool
down_runs d = not d.client_finished && not (is_failed d.word)

-- the upstream half goes on
abbrev pub up_runs : Duplex → Bool
up_runs d = not d.upstream_finished && not (is_failed d.word)

-- the upstream has nothing more to be sent: its exchange is done, or the client's half is
abbrev pub up_is_through : Duplex → Bool
up_is_through d =
    (d.upstream_request_done && d.upstream_response_done)
    || (is_complete d.word && (d.upstream_request_done || is_empty d.requests))

-- the branch can be taken
abbrev pub enabled : State → Branch → Bool
enabled s branch.UpWrite = up_runs s.duplex && (s.up.pending && is_none s.duplex.send_error)
enabled s branch.DownWrite = down_runs s.duplex && s.down.pending
enabled s branch.UpTake =
    up_runs s.duplex
    && (not s.duplex.upstream_request_done
    && (not s.up.pending && not (is_empty s.duplex.requests)))
enabled s branch.DownTake =
    down_runs s.duplex
    && (not s.down.pending
    && (not (is_response_done s.duplex.client_response) && not (is_empty s.duplex.responses)))
enabled s branch.DownDrop =
    down_runs s.duplex
    && (is_response_done s.duplex.client_response && not (is_empty s.duplex.responses))
enabled s branch.DownEnd =
    down_runs s.duplex
    && (s.duplex.responses.closed
    && (is_empty s.duplex.responses && not (is_response_done s.duplex.client_response)))
enabled s branch.DownClosed =
    down_runs s.duplex && (s.duplex.requests.closed && is_reading s.duplex.client_request)
enabled s branch.UpRead =
    up_runs s.duplex && (not s.duplex.upstream_response_done && has_room s.duplex.responses)
enabled s branch.DownRead =
    down_runs s.duplex
    && (has_room s.duplex.requests
    && (may_read s.down
    && not (is_done s.duplex.client_request && is_response_done s.duplex.client_response)))
enabled s branch.UpFinish =
    up_runs s.duplex
    && ((not s.up.pending || is_some s.duplex.send_error) && up_is_through s.duplex)
enabled s branch.DownFinish =
    down_runs s.duplex
    && (is_done s.duplex.client_request
    && (is_response_done s.duplex.client_response && not s.down.pending))
enabled s branch.MessageUp = false
enabled s branch.MessageDown = false

-- both halves have finished
abbrev pub is_finished : Duplex → Bool
is_finished d = d.upstream_finished && d.client_finished

-- the link may be kept, as far as the duplex knows: an HTTP/1 link where its request and response
-- have ended, no send error is kept and no half failed; a link of messages always
abbrev pub may_keep : UpKind → Duplex → Bool
may_keep kind.H1 d =
    not (is_failed d.word)
    && (is_none d.send_error && (d.upstream_request_done && d.upstream_response_done))
may_keep kind.H2 d = true
may_keep kind.Custom d = true

-- the first branch in the order that can be taken
abbrev pub first_enabled : State → Option Branch
first_enabled s = find (enabled s) BRANCHES

-- the branch to take, where the schedule named that one: it, where it can be taken, else the first
-- that can
abbrev pub chosen : State → Option Branch → Option Branch
chosen s None = first_enabled s
chosen s (Some named) = if enabled s named then Some named else first_enabled s

-- a duplex as it begins, the client's body having ended or not
abbrev pub begins : UpKind → Bool → Duplex → Duplex
begins kind body_done d = record d {
  kind = kind;
  client_request = begun body_done;
  client_response = record { upstream_done = false; cached_done = true };
  client_finished = false;
  upstream_request_done = body_done;
  upstream_response_done = false;
  send_error = None;
  upstream_finished = false;
  requests = record { tasks = []; closed = false; failed = false };
  responses = record { tasks = []; closed = false; failed = false };
  word = word.Active;
}

-- the duplex with the replay put, if it puts a task: the upstream's request is then not done
abbrev pub with_replay : Duplex → Option HttpTask → Duplex
with_replay d None = d
with_replay d (Some task) =
    record d { requests = with_task d.requests task; upstream_request_done = false }

-- a half failed: the word says so, and both pipes are marked
abbrev pub failed : Duplex → Duplex
failed d = record d {
  word = word.Failed;
  requests = record d.requests { failed = true };
  responses = record d.responses { failed = true };
}

-- the upstream can be sent nothing more: the error is kept, and the request is done
abbrev pub with_send_error : Duplex → Error → Duplex
with_send_error d error = record d { send_error = Some error; upstream_request_done = true }

-- the duplex after a write to the upstream
abbrev pub after_up_write : Duplex → Put → Duplex
after_up_write d (put.Took n) = d
after_up_write d put.NotReady = d
after_up_write d put.Silent = d
after_up_write d (put.Failed fault) = with_send_error d (fault_of Upstream fault)
after_up_write d put.OutOfMemory = failed d

-- what a write to the upstream is answered with
abbrev pub step_of_up_write : Put → Step
step_of_up_write (put.Took n) = step.Moved
step_of_up_write put.NotReady = step.Waited pause.NotReady
step_of_up_write put.Silent = step.Waited pause.Silent
step_of_up_write (put.Failed fault) = step.Moved
step_of_up_write put.OutOfMemory = step.Failed fail.OutOfMemory

-- the duplex after a write to the client
abbrev pub after_down_write : Duplex → Put → Duplex
after_down_write d (put.Took n) = d
after_down_write d put.NotReady = d
after_down_write d put.Silent = d
after_down_write d (put.Failed fault) = failed d
after_down_write d put.OutOfMemory = failed d

-- what a write to the client is answered with
abbrev pub step_of_down_write : Put → Step
step_of_down_write (put.Took n) = step.Moved
step_of_down_write put.NotReady = step.Waited pause.NotReady
step_of_down_write put.Silent = step.Waited pause.Silent
step_of_down_write (put.Failed fault) = step.Failed (fail.Error (fault_of Downstream fault))
step_of_down_write put.OutOfMemory = step.Failed fail.OutOfMemory

-- a piece with which the upstream's request ends: an end that was put before an accepted 101 and
-- is taken after it does not count
abbrev pub ends_request : Bool → HttpTask → Bool
ends_request tunnel (task.Header head end) = end
ends_request tunnel (task.Body bytes end) = end && not tunnel
ends_request tunnel (task.UpgradedBody bytes end) = end
ends_request tunnel (task.Trailer fields) = true
ends_request tunnel task.Done = true
ends_request tunnel (task.Failed error) = true

-- a piece with which a tunnel ends
abbrev pub ends_tunnel : Bool → HttpTask → Bool
ends_tunnel tunnel (task.Header head end) = false
ends_tunnel tunnel (task.Body bytes end) = false
ends_tunnel tunnel (task.UpgradedBody bytes end) = end && tunnel
ends_tunnel tunnel (task.Trailer fields) = false
ends_tunnel tunnel task.Done = false
ends_tunnel tunnel (task.Failed error) = false

-- the duplex after a piece went to the upstream
abbrev pub with_piece_sent : Duplex → Bool → HttpTask → Duplex
with_piece_sent d tunnel piece = record d {
  upstream_request_done = d.upstream_request_done || ends_request tunnel piece;
  upstream_response_done = d.upstream_response_done || ends_tunnel tunnel piece;
}

-- the duplex after the upstream answered to a piece
abbrev pub after_piece : Duplex → Result Unit Fail → Duplex
after_piece d (Ok done) = d
after_piece d (Err (fail.Error error)) = with_send_error d error
after_piece d (Err fail.OutOfMemory) = failed d

-- the duplex after the upstream was given that piece, by its answer
abbrev pub after_up_take : Duplex → Bool → HttpTask → Result Unit Fail → Duplex
after_up_take d tunnel piece answer = after_piece (with_piece_sent d tunnel piece) answer

-- what taking a piece is answered with
abbrev pub step_of_up_take : Result Unit Fail → Step
step_of_up_take (Ok done) = step.Moved
step_of_up_take (Err (fail.Error error)) = step.Moved
step_of_up_take (Err fail.OutOfMemory) = step.Failed fail.OutOfMemory

-- the duplex with the client's response done, where that is so
abbrev pub with_response_done : Duplex → Bool → Duplex
with_response_done d done =
    record d {
      client_response = record d.client_response {
        upstream_done = d.client_response.upstream_done || done;
      };
    }

-- the duplex with the client's request ended, where that is so
abbrev pub with_request_done : Duplex → Bool → Duplex
with_request_done d done = record d { client_request = finished d.client_request done }

-- the duplex after a 101 was accepted, where it was: the client's request is read again, and so is
-- the upstream's, where no send error is kept
abbrev pub with_upgrade : Duplex → Bool → Duplex
with_upgrade d false = d
with_upgrade d true = record d {
  client_request = reset_to_reading d.client_request;
  upstream_request_done = d.upstream_request_done && is_some d.send_error;
}

-- the duplex after the client was given that batch: an end among it makes the response done, in a
-- tunnel the request too
abbrev pub after_batch : Duplex → DownState → List HttpTask → DownState → Result Bool Fail → Duplex
after_batch d before tasks after (Ok done) =
    with_request_done (with_response_done (with_upgrade d (accepts before after))
    (list_any is_end tasks || done)) (list_any is_end tasks && after.upgraded)
after_batch d before tasks after (Err why) = failed d

-- what taking a batch is answered with
abbrev pub step_of_batch : Result Bool Fail → Step
step_of_batch (Ok done) = step.Moved
step_of_batch (Err why) = step.Failed why

-- the duplex with a task of the response put: an end makes the response done, in a tunnel the
-- request too
abbrev pub with_task_read : Duplex → Bool → HttpTask → Duplex
with_task_read d tunnel task = record d {
  responses = with_task d.responses task;
  upstream_response_done = d.upstream_response_done || is_end task;
  upstream_request_done = d.upstream_request_done || (is_end task && tunnel);
}

-- the error that a read error is put with: the send error where one is kept
abbrev pub told_error : Option Error → Error → Error
told_error None error = error
told_error (Some kept) error = kept

-- the duplex after a read of the upstream
abbrev pub after_up_read : Duplex → Bool → Took HttpTask → Duplex
after_up_read d tunnel (took.Item task) = with_task_read d tunnel task
after_up_read d tunnel took.More = d
after_up_read d tunnel (took.Waited pause) = d
after_up_read d tunnel took.End = d
after_up_read d tunnel (took.Failed (fail.Error error)) =
    with_task_read d tunnel (task.Failed (told_error d.send_error error))
after_up_read d tunnel (took.Failed fail.OutOfMemory) = failed d

-- what a read of the upstream is answered with
abbrev pub step_of_up_read : Took HttpTask → Step
step_of_up_read (took.Item task) = step.Moved
step_of_up_read took.More = step.Moved
step_of_up_read (took.Waited pause) = step.Waited pause
step_of_up_read took.End = step.Moved
step_of_up_read (took.Failed (fail.Error error)) = step.Moved
step_of_up_read (took.Failed fail.OutOfMemory) = step.Failed fail.OutOfMemory

-- the duplex with a piece of the request put, unless it is empty and not the end: the client's end
-- makes the request done, in a tunnel the response too
abbrev pub with_piece_read : Duplex → Bool → Piece → Duplex
with_piece_read d upgraded piece =
    with_response_done (with_request_done
    (record d {
      requests = record d.requests {
        tasks = d.requests.tasks ++ put_of upgraded piece;
      };
    }) piece.client_end) (piece.client_end && upgraded)

-- the duplex after a read of the client
abbrev pub after_down_read : Duplex → Bool → Took Piece → Duplex
after_down_read d upgraded (took.Item piece) = with_piece_read d upgraded piece
after_down_read d upgraded took.More = d
after_down_read d upgraded (took.Waited pause) = d
after_down_read d upgraded took.End = d
after_down_read d upgraded (took.Failed why) = failed d

-- what a read of the client is answered with
abbrev pub step_of_down_read : Took Piece → Step
step_of_down_read (took.Item piece) = step.Moved
step_of_down_read took.More = step.Moved
step_of_down_read (took.Waited pause) = step.Waited pause
step_of_down_read took.End = step.Moved
step_of_down_read (took.Failed why) = step.Failed why

-- a custom upstream that was not sent its request whole fails at its end
abbrev pub custom_error : UpKind → Option Error → Option Error
custom_error kind.H1 send_error = None
custom_error kind.H2 send_error = None
custom_error kind.Custom send_error = send_error

-- the duplex after the upstream half finished: both pipes are closed
abbrev pub with_upstream_finished : Duplex → Duplex
with_upstream_finished d = record d {
  upstream_finished = true;
  requests = record d.requests { closed = true };
  responses = record d.responses { closed = true };
}

-- what a half that finishes is answered with, the other having finished or not
abbrev pub step_of_half : Bool → Step
step_of_half true = step.Finished
step_of_half false = step.Moved

-- the duplex after the upstream half came to its end
abbrev pub after_up_finish : Duplex → Option Error → Duplex
after_up_finish d None = with_upstream_finished d
after_up_finish d (Some error) = failed d

-- what the end of the upstream half is answered with
abbrev pub step_of_up_finish : Duplex → Option Error → Step
step_of_up_finish d None = step_of_half d.client_finished
step_of_up_finish d (Some error) = step.Failed (fail.Error error)

-- the duplex after the client's half finished: the word says so, and the response pipe is closed
abbrev pub with_client_finished : Duplex → Duplex
with_client_finished d = record d {
  client_finished = true;
  word = word.DownstreamComplete;
  responses = record d.responses { closed = true };
}

-- the duplex after the response's body was ended, output being pending then or not
abbrev pub after_down_finish : Duplex → Bool → Result Unit Fail → Duplex
after_down_finish d true (Ok done) = d
after_down_finish d false (Ok done) = with_client_finished d
after_down_finish d pending (Err why) = failed d

-- what ending the response's body is answered with
abbrev pub step_of_down_finish : Duplex → Bool → Result Unit Fail → Step
step_of_down_finish d true (Ok done) = step.Moved
step_of_down_finish d false (Ok done) = step_of_half d.upstream_finished
step_of_down_finish d pending (Err why) = step.Failed why
