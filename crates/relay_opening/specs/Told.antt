-- What a log tells of its request: the head that its calls left, and the text of what they queued
-- (RFC 9110, section 6).
use Rattle.std.specs.Prelude.{◌≡◌, ℕ, ◌<◌, Bool, true, false, List, [], ◌∷◌, ◌++◌, length, Some, unwrap_or}
use Rattle.relay_tasks.specs.Head.{RequestHead}
use Rattle.relay_tasks.specs.declared.log.LogEntry.{LogEntry}
use Rattle.relay_tasks.specs.declared.task.HttpTask.{HttpTask}
use Rattle.relay_session.specs.Reading.{head_of}
use Rattle.relay_session.specs.Response.{has_head}
use Rattle.relay_session.specs.TaskWire.{wire}
use Rattle.relay_session.specs.declared.writing.Writing.{Writing}
use Rattle.relay_modules.specs.declared.seen.Seen.{Seen}
use Rattle.relay_hooks.specs.DefaultLaw.{lone_answer}
use Rattle.relay_hooks.specs.Session.{request_head}
use Rattle.relay_opening.specs.declared.place.End.{End}
use Rattle.relay_opening.specs.declared.place.End.TheVariants as end
use Rattle.relay_opening.specs.declared.place.Place.{Place}
use Rattle.relay_opening.specs.declared.place.Place.TheVariants as place

-- ---- the head

-- the head behind the calls of a log, the first of them first: that of the last entry that has one,
-- or else the head before them
abbrev pub head_behind : RequestHead → List LogEntry → RequestHead
head_behind head [] = head
head_behind head (e ∷ es) = head_behind (unwrap_or e.head head) es

-- the log has grown by these entries, and the request's head is the one that they tell
pub record TellsHead (first now : Seen) (entries : List LogEntry) : Type 0 where
  pub log : now.log ≡ first.log ++ entries
  pub told : request_head now ≡ head_behind (request_head first) entries
  pub read : (head : RequestHead) → head_of first.downstream.reading ≡ Some head
      → head_of now.downstream.reading ≡ Some (head_behind head entries)

-- ---- what was queued

-- the opening ended out of memory
abbrev pub is_lost : {K : Type 0} → Place K → Bool
is_lost (place.Behind last) = false
is_lost (place.Ended how) = false
is_lost place.Lost = true

-- nothing was queued by such an end
abbrev pub ends_quietly : End → Bool
ends_quietly end.Attempts = true
ends_quietly end.Answered = false
ends_quietly end.Purge = true
ends_quietly end.Declined = false
ends_quietly (end.Unwritten why) = false
ends_quietly (end.Failed error) = true

-- nothing was queued so far
abbrev pub is_quiet : {K : Type 0} → Place K → Bool
is_quiet (place.Behind last) = true
is_quiet (place.Ended how) = ends_quietly how
is_quiet place.Lost = false

-- what the relay queues behind a hook that declined, by whether a final head was queued
abbrev pub completion : Bool → List HttpTask
completion true = []
completion false = lone_answer 502

-- these bytes wait behind those that waited: the text of the tasks, which lead to the place where
-- the response stands then; they are some where a final head is new
pub record Waits (old new : Writing) (more : List HttpTask) (queue waiting : List ℕ)
    : Type 0 where
  pub text : waiting ≡ queue ++ (wire old.request old.place more).text
  pub place : new.place ≡ (wire old.request old.place more).place
  pub some : has_head old.place ≡ false → has_head new.place ≡ true → 0 < length waiting
