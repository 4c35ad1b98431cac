-- The session that a hook is given: when it may be given, and what the hook may do to it.
use Rattle.std.specs.Prelude.{◌≡◌, ℕ, Bool, false, [], IsSome, unwrap_or}
use Rattle.relay_tasks.specs.Head.{RequestHead, new_request}
use Rattle.relay_session.specs.Reading.{head_of, with_head}
use Rattle.relay_session.specs.Response.{GoesOnWith, IsOpen, has_head}
use Rattle.relay_modules.specs.Seen.{view_of}
use Rattle.relay_modules.specs.declared.seen.Seen.{Seen}
use Rattle.relay_hooks.specs.Standing.{Moment}

-- ---- what it shows

-- the request's head; a session whose head was not read is given to no hook
abbrev pub request_head : Seen → RequestHead
request_head seen = unwrap_or (head_of seen.downstream.reading) (new_request [] [])

-- the session, and a context at that mark, as a call finds or leaves them
abbrev pub moment : Seen → ℕ → Moment
moment seen mark = record {
  mark = mark;
  head = request_head seen;
  touched = seen.touched;
  keepalive = seen.keepalive;
  view = view_of seen;
  wrote = seen.wrote;
}

-- a final head of the response was queued
abbrev pub is_answered : Seen → Bool
is_answered seen = has_head seen.downstream.writing.place

-- a session that a hook may be given: its head was read, and nothing of an earlier call is noted
pub record IsReady (seen : Seen) : Type 0 where
  pub head : IsSome (head_of seen.downstream.reading)
  pub untouched : seen.touched ≡ false
  pub fresh : seen.wrote ≡ []

-- a session that a hook may answer: no final head was queued
pub record MayAnswer (seen : Seen) : Type 0 where
  pub ready : IsReady seen
  pub open_to : is_answered seen ≡ false

-- ---- what a hook leaves

-- the request was read as far as before, and but for its head it is the same
pub record SameRequest (old new : Seen) : Type 0 where
  pub head : IsSome (head_of old.downstream.reading) → IsSome (head_of new.downstream.reading)
  pub but_head : (head : RequestHead)
      → with_head new.downstream.reading head ≡ with_head old.downstream.reading head
  pub untouched : new.touched ≡ false → new.downstream.reading ≡ old.downstream.reading

-- the hook queued nothing and read nothing. It left all of the session but the request's head, the
-- keepalive flag, the modules, and the flags of the task API and of changed upstream headers
pub record Leaves (old new : Seen) : Type 0 where
  pub request : SameRequest old new
  pub rest : new ≡ record old {
    downstream = record old.downstream { reading = new.downstream.reading };
    touched = new.touched;
    keepalive = new.keepalive;
    tasks_enabled = new.tasks_enabled;
    headers_mutated = new.headers_mutated;
  }

-- the hook queued the tasks that are noted, behind what was queued before; of the rest it left what
-- every hook leaves
pub record Queues (old new : Seen) : Type 0 where
  pub request : SameRequest old new
  pub goes_on : GoesOnWith old.downstream.writing new.downstream.writing new.wrote
  -- the response still answers the request that it answered
  pub answers_to : new.downstream.writing.request ≡ old.downstream.writing.request
  -- where no write had failed, none has
  pub stays_open : IsOpen old.downstream.writing.output → IsOpen new.downstream.writing.output
  pub rest : new ≡ record old {
    downstream = new.downstream;
    touched = new.touched;
    wrote = new.wrote;
    keepalive = new.keepalive;
    tasks_enabled = new.tasks_enabled;
    headers_mutated = new.headers_mutated;
  }
