-- What holds in every state of a duplex that can be reached.
use Rattle.std.specs.Prelude.{◌≡◌, ◌≤◌, Bool, true, false, ◌&&◌, ◌||◌, List, [], ◌∷◌, length, is_some}
use Rattle.relay_tasks.specs.declared.task.HttpTask.{HttpTask}
use Rattle.relay_tasks.specs.Task.{is_end}
use Rattle.relay_core.specs.declared.duplex.Duplex.{Duplex}
use Rattle.relay_core.specs.Pipe.{places}
use Rattle.relay_core.specs.State.{is_reading, is_response_done, is_complete}
use Rattle.relay_core.specs.Table.{State, is_failed}

-- the last of the tasks ends the response; so far it does or not
abbrev pub ends_from : Bool → List HttpTask → Bool
ends_from so_far [] = so_far
ends_from so_far (task ∷ tasks) = ends_from (is_end task) tasks

-- the last of the tasks ends the response
abbrev pub ends_with : List HttpTask → Bool
ends_with tasks = ends_from false tasks

-- the end of the upstream's response was passed on: the client's response is done, or the last
-- task that is held is its end, or it ended with the request of a tunnel
abbrev pub has_end : Duplex → Bool → Bool
has_end d upgraded =
    is_response_done d.client_response
    || (ends_with d.responses.tasks || (upgraded && d.upstream_request_done))

-- no half failed: a request that is read has an open body; nothing more is sent after a send
-- error; the end of the upstream's response is passed on; the request pipe is closed exactly where
-- the upstream half finished, the response pipe exactly where either half did; and the word is
-- complete exactly where the client's half finished
pub record Runs (d : Duplex) (body_done upgraded : Bool) : Type 0 where
  pub uncached : d.client_response.cached_done ≡ true
  pub reading : is_reading d.client_request ≡ true → body_done ≡ false
  pub unsent : is_some d.send_error ≡ true → d.upstream_request_done ≡ true
  pub ended : d.upstream_response_done ≡ true → has_end d upgraded ≡ true
  pub requests_closed : d.requests.closed ≡ d.upstream_finished
  pub responses_closed : d.responses.closed ≡ (d.upstream_finished || d.client_finished)
  pub complete : is_complete d.word ≡ d.client_finished

-- a state that can be reached: each pipe holds what has places, and where no half failed the
-- halves agree
pub record IsSound (s : State) : Type 0 where
  pub requests_fit : length s.duplex.requests.tasks ≤ places
  pub responses_fit : length s.duplex.responses.tasks ≤ places
  pub runs : is_failed s.duplex.word ≡ false
      → Runs s.duplex s.down.body_done s.down.upgraded
