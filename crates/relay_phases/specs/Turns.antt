-- A request taken on one call a turn: what a turn leaves, and what several leave behind one
-- another.
use Rattle.std.specs.Prelude.{◌≡◌, ℕ, ◌++◌, false, List, [], ◌∷◌, None, Some, IsSome}
use Rattle.relay_tasks.specs.Head.{RequestHead}
use Rattle.relay_tasks.specs.declared.hook.Hook.{Hook}
use Rattle.relay_tasks.specs.declared.log.LogEntry.{LogEntry}
use Rattle.relay_tasks.specs.declared.task.HttpTask.{HttpTask}
use Rattle.relay_session.specs.Reading.{head_of, with_head}
use Rattle.relay_session.specs.declared.writing.Writing.{Writing}
use Rattle.relay_modules.specs.declared.seen.Seen.{Seen}
use Rattle.relay_hooks.specs.Session.{moment}
use Rattle.relay_hooks.specs.Standing.{Standing, standing}
use Rattle.relay_calls.specs.Log.{Walk}
use Rattle.relay_phases.specs.Order.{Station, Accepts, next}

-- ---- what a call leaves

-- nothing of the client's body was read, and but for its head the request is as it was
pub record ReadsNothing (old new : Seen) : Type 0 where
  pub head : IsSome (head_of old.downstream.reading) → IsSome (head_of new.downstream.reading)
  pub but_head : (head : RequestHead)
      → with_head new.downstream.reading head ≡ with_head old.downstream.reading head

-- the session with what calls of hooks may change, as another has it: the request's head and what
-- was queued, the log and what is noted of a call, the keepalive flag, and the flags of the task
-- API and of changed upstream headers
abbrev pub with_calls : Seen → Seen → Seen
with_calls old new =
    record old {
      downstream = record old.downstream {
        reading = new.downstream.reading;
        writing = new.downstream.writing;
      };
      touched = new.touched;
      keepalive = new.keepalive;
      log = new.log;
      wrote = new.wrote;
      tasks_enabled = new.tasks_enabled;
      headers_mutated = new.headers_mutated;
    }

-- nothing else of the session has changed
abbrev pub KeepsRest : Seen → Seen → Type 0
KeepsRest old new = new ≡ with_calls old new

-- nothing was queued
pub record QueuesNothing (old new : Writing) (wrote : List HttpTask) : Type 0 where
  pub same : new ≡ old
  pub wrote_none : wrote ≡ []

-- what the calls of a log queued, in order, as their entries tell
abbrev pub wrote_in : List LogEntry → List HttpTask
wrote_in [] = []
wrote_in (e ∷ es) = e.wrote ++ wrote_in es

-- ---- a turn

-- nothing was called: the session and the mark stay, and it stands there
pub record Rests {P : Type 0} (old : Seen) (before : ℕ) (new : Seen) (behind : ℕ) (there to : P)
    : Type 0 where
  pub seen : new ≡ old
  pub mark : behind ≡ before
  pub place : to ≡ there

module _ (allows : Standing → LogEntry → Type 0) where
  -- one call was made: the log gained its entry and no other, and walks on past it, allowed
  pub record CallsOnce (old : Seen) (before : ℕ) (new : Seen) (behind : ℕ) (e : LogEntry)
      : Type 0 where
    pub log : new.log ≡ old.log ++ e ∷ []
    pub walk : Walk allows (standing None false (moment old before)) (e ∷ [])
        (standing None false (moment new behind))
    pub reads : ReadsNothing old new
    pub rest : KeepsRest old new

  -- behind a station that hook was called, which may come there, and leads to the other; what it
  -- queued is what its entry tells
  pub record Turns (which : Hook) (from to : Station)
      (queues : Writing → Writing → List HttpTask → Type 0)
      (old : Seen) (before : ℕ) (new : Seen) (behind : ℕ) : Type 0 where
    pub e : LogEntry
    pub calls : CallsOnce old before new behind e
    pub hook : e.hook ≡ which
    pub order : next from e ≡ Some to
    pub queued : queues old.downstream.writing new.downstream.writing e.wrote

  -- ---- turns, so far

  -- calls were made of a session that was first at that mark: the log behind the one it had then
  -- walks from there, in order from the one station to the other, each call allowed where it stood;
  -- what was queued is what the entries tell
  pub record HasCalled (first : Seen) (mark : ℕ) (from to : Station)
      (queues : Writing → Writing → List HttpTask → Type 0) (now : Seen) (behind : ℕ)
      : Type 0 where
    pub entries : List LogEntry
    pub log : now.log ≡ first.log ++ entries
    pub walks : Walk allows (standing None false (moment first mark)) entries
        (standing None false (moment now behind))
    pub order : Accepts from entries to
    pub queued : queues first.downstream.writing now.downstream.writing (wrote_in entries)
    pub reads : ReadsNothing first now
    pub rest : KeepsRest first now
