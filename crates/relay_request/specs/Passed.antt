-- What passed between the outside and one request since it began.
use Rattle.std.specs.Prelude.{◌≡◌, ℕ, Bool, true, false, ◌||◌, ◌≤◌, List, [], ◌∷◌, ◌++◌, if◌then◌else◌}
use Rattle.relay_tasks.specs.Head.{RequestHead}
use Rattle.relay_tasks.specs.Hooks.{same_hook}
use Rattle.relay_tasks.specs.declared.hook.Hook.{Hook}
use Rattle.relay_tasks.specs.declared.hook.Hook.TheVariants as hook
use Rattle.relay_tasks.specs.declared.log.LogEntry.{LogEntry}
use Rattle.relay_tasks.specs.declared.task.HttpTask.{HttpTask}
use Rattle.relay_links.specs.Link.{LinkState, LinkStart}
use Rattle.relay_links.specs.Told.{Since, told_length}
use Rattle.relay_h1.specs.Verdict.{IsOpen}
use Rattle.relay_phases.specs.Order.{Accepts, accepted, sent as filtered}
use Rattle.relay_phases.specs.Turns.{wrote_in}
use Rattle.relay_core.specs.Past.{Origin}
use Rattle.relay_peer.specs.Faults.{TellsSince}
use Rattle.relay_attempt.specs.Passed.{Passed}
use Rattle.relay_request.specs.Sent.{ends_at, only_treats}
use Rattle.relay_request.specs.declared.record.AttemptRecord.{AttemptRecord}

-- the outside as one request sees it: the client's link, the bytes that were read ahead from it,
-- and how many of the connector's calls failed
pub record World : Type 0 where
  pub client : LinkState
  pub ahead : List ℕ
  pub connect_faults : ℕ

-- the places and counts at which a request began, or at which one of its attempts left it for
-- another; how many calls of the client's link had failed when the request began, whatever attempts
-- it made since; how many attempts it may make; the calls of hooks that were made for it before its
-- end, and the one in which an error was answered, if any; the attempts up to the last one that had
-- a link and was tried again, and how many were refused a link up to there
pub record Start : Type 0 where
  pub ahead : List ℕ
  pub given : ℕ
  pub taken : ℕ
  pub first : ℕ
  pub faults : ℕ
  pub connect_faults : ℕ
  pub read_faults : ℕ
  pub write_faults : ℕ
  pub most : ℕ
  pub called : List LogEntry
  pub closed : List LogEntry
  pub tried : List AttemptRecord
  pub refused : ℕ

-- where a request begins that may make so many attempts, as the world stands
abbrev pub start_of : ℕ → World → Start
start_of most w = record {
  ahead = w.ahead;
  given = told_length w.client.given;
  taken = told_length w.client.taken;
  first = w.client.faults;
  faults = w.client.faults;
  connect_faults = w.connect_faults;
  read_faults = told_length w.client.read_faults;
  write_faults = told_length w.client.write_faults;
  most = most;
  called = [];
  closed = [];
  tried = [];
  refused = 0;
}

-- the same start, with the client's link where it stands: what was written to it and how many of
-- its calls failed count from there; how many had failed when the request began stays
abbrev pub based : Start → LinkState → Start
based s client = record s { taken = told_length client.taken; faults = client.faults }

-- with that hook the end of a request begins
abbrev pub begins_end : Hook → Bool
begins_end which = same_hook hook.FailToProxy which || same_hook hook.Logging which

-- the calls before the end of a request
abbrev pub before_end : List LogEntry → List LogEntry
before_end [] = []
before_end (e ∷ es) = if begins_end e.hook then [] else e ∷ before_end es

-- the call in which an error was answered, where the end begins with it
abbrev pub answer_in : List LogEntry → List LogEntry
answer_in [] = []
answer_in (e ∷ es) =
    if begins_end e.hook then (if same_hook hook.FailToProxy e.hook then e ∷ [] else [])
    else answer_in es

-- the same start, once these calls were made before the end, and those answered an error
abbrev pub closed_to : Start → List LogEntry → List LogEntry → Start
closed_to s called closed = record s { called = called; closed = closed }

-- once these calls were made, and the end has not begun
abbrev pub opened_to : Start → List LogEntry → Start
opened_to s called = closed_to s called []

-- once these calls were made, some of them of the end
abbrev pub called_to : Start → List LogEntry → Start
called_to s log = closed_to s (before_end log) (answer_in log)

-- what an error was answered with: what the call queued that answered it
abbrev pub answered : Start → List HttpTask
answered s = wrote_in s.closed

-- where the exchange of a request began that has that head, and of which that head is sent, over a
-- link that had been used before or not; a request that asks for an upgrade is not relayed
abbrev pub origin_of : Start → RequestHead → RequestHead → Bool → Origin
origin_of s head sent reused = record {
  head = head;
  sent = sent;
  asked = false;
  ahead = s.ahead;
  given = s.given;
  taken = s.taken;
  faults = s.faults;
  reused = reused;
  read_faults = s.read_faults;
  write_faults = s.write_faults;
  called = [];
}

-- the same of an exchange that began behind those calls
abbrev pub origin_at : Start → RequestHead → RequestHead → Bool → List LogEntry → Origin
origin_at s head sent reused began = record (origin_of s head sent reused) { called = began }

-- the head that is sent was filtered: these calls are in order, and the last is one of its filter
pub record HasFiltered (called : List LogEntry) : Type 0 where
  pub order : Accepts accepted called filtered
  pub last : ends_at hook.UpstreamRequestFilter called ≡ true

-- the calls of an exchange stand in the log of its request: right behind the filter of the head that
-- is sent, and before none but those in which the exchange's error was treated
pub record StandsIn (called began calls : List LogEntry) : Type 0 where
  pub at_sent : HasFiltered began
  pub after : List LogEntry
  pub called_are : called ≡ began ++ (calls ++ after)
  pub treats : only_treats after ≡ true

-- nothing passed yet
abbrev pub nothing : Passed
nothing = record { came = []; written = []; got = []; sent = [] }

-- the client's bytes, from those that were read ahead on
abbrev pub asked : Start → Passed → List ℕ
asked s p = s.ahead ++ p.came

-- the client's link tells what passed, where it tells its bytes, and the faults that it answered
pub record TellsClient (s : Start) (p : Passed) (w : World) : Type 0 where
  pub came : Since [] s.given w.client.given p.came
  pub written : Since [] s.taken w.client.taken p.written
  pub faults : s.faults ≤ w.client.faults
  pub connect_faults : s.connect_faults ≤ w.connect_faults
  pub fault_lists : TellsSince s.read_faults s.write_faults w.client

-- the attempt's link tells what passed, where it tells its bytes
pub record TellsLink (p : Passed) (link : LinkState) (start : LinkStart) : Type 0 where
  pub got : Since [] start.given link.given p.got
  pub sent : Since [] start.taken link.taken p.sent
  pub faults : start.faults ≤ link.faults

-- no link of an attempt passed anything
pub record IsUnsent (p : Passed) : Type 0 where
  pub got : p.got ≡ []
  pub sent : p.sent ≡ []

-- nothing was taken from the client's bytes while its head is open: all that was asked is ahead
abbrev pub IsUntouched : Start → Passed → World → Type 0
IsUntouched s p w = IsOpen (asked s p) → w.ahead ≡ asked s p
