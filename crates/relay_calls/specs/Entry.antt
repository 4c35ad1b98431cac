-- A call on its way into the log.
use Rattle.std.specs.Prelude.{◌++◌, ◌∷◌, [], false}
use Rattle.relay_tasks.specs.declared.log.LogEntry.{LogEntry}
use Rattle.relay_modules.specs.declared.seen.Seen.{Seen}
use Rattle.relay_hooks.specs.Standing.{Moment}
use Rattle.relay_hooks.specs.Call.{told_head}
use Rattle.relay_calls.specs.declared.entry.Begun.{Begun}
use Rattle.relay_calls.specs.declared.entry.Outcome.{Outcome}

-- the session as a call begins: the head counts as untouched, and nothing as queued
abbrev pub cleared : Seen → Seen
cleared seen = record seen { touched = false; wrote = [] }

-- the session with that entry at the end of its log, and no task noted
abbrev pub with_entry : Seen → LogEntry → Seen
with_entry seen e = record seen { log = seen.log ++ e ∷ []; wrote = [] }

-- the entry of the call that was begun so, came to this, and was over at that moment
abbrev pub told : Begun → Outcome → Moment → LogEntry
told begun outcome after = record {
  hook = begun.hook;
  mark_before = begun.mark;
  mark_after = after.mark;
  input = begun.input;
  output = outcome.output;
  wrote = after.wrote;
  error = outcome.error;
  head = told_head after.touched after.head;
  keepalive = after.keepalive;
  delay = outcome.delay;
  view = begun.view;
}
