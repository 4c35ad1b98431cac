-- A filter of the modules was called once, and its call stands in the log.
use Rattle.std.specs.Prelude.{◌≡◌, ◌++◌, ◌∷◌, [], List, ℕ, Option, Some, None, Result, Ok, Err}
use Rattle.relay_tasks.specs.declared.error.Error.{Error}
use Rattle.relay_tasks.specs.declared.error.Fail.{Fail}
use Rattle.relay_tasks.specs.declared.error.Fail.TheVariants as fail
use Rattle.relay_tasks.specs.declared.log.LogEntry.{LogEntry}
use Rattle.relay_modules.specs.Module.{ModuleCall, hook_of, input_of, output_of, error_of}
use Rattle.relay_modules.specs.declared.seen.Seen.{Seen}
use Rattle.relay_hooks.specs.Standing.{Moment}
use Rattle.relay_hooks.specs.Call.{Left, entry}
use Rattle.relay_hooks.specs.Session.{moment}
use Rattle.relay_calls.specs.Entry.{cleared}

-- the call of which an answer tells; none where it was out of memory
abbrev pub called : (Option Error → ModuleCall) → Result Unit Fail → Option ModuleCall
called call (Ok done) = Some (call None)
called call (Err (fail.Error error)) = Some (call (Some error))
called call (Err fail.OutOfMemory) = None

-- the same of a filter that may answer bytes
abbrev pub replied : (Option (List ℕ) → Option Error → ModuleCall) → Result (Option (List ℕ)) Fail
    → Option ModuleCall
replied call (Ok answer) = Some (call answer None)
replied call (Err (fail.Error error)) = Some (call None (Some error))
replied call (Err fail.OutOfMemory) = None

-- what the call left
abbrev pub left_by : ModuleCall → Left
left_by call = record { output = output_of call; error = error_of call; delay = None }

-- the entry of the call at that moment, which it leaves as it is
abbrev pub module_entry : ModuleCall → Moment → LogEntry
module_entry call at = entry (hook_of call) (input_of call) at (left_by call) at

-- the modules were called once: the log gained the entry of a call that they allow, and no other.
-- Of the session nothing else has changed, but that the call was begun
pub record CallsModule (allows : ModuleCall → Type 0) (old : Seen) (mark : ℕ) (new : Seen)
    (call : ModuleCall) : Type 0 where
  pub allowed : allows call
  pub log : new.log ≡ old.log ++ module_entry call (moment (cleared old) mark) ∷ []
  pub rest : new ≡ record (cleared old) { log = new.log }
