-- The calls of a module's filters, and which of them a module allows.
use Rattle.std.specs.Prelude.{◌≡◌, ℕ, Bool, true, List, Option, Some, None, Result, Ok, Err}
use Rattle.relay_tasks.specs.Head.{RequestHead, ResponseHead, Fields}
use Rattle.relay_tasks.specs.declared.error.Error.{Error}
use Rattle.relay_tasks.specs.declared.error.Fail.{Fail}
use Rattle.relay_tasks.specs.declared.error.Fail.TheVariants as fail
use Rattle.relay_tasks.specs.declared.hook.Hook.{Hook}
use Rattle.relay_tasks.specs.declared.hook.Hook.TheVariants as hook
use Rattle.relay_tasks.specs.declared.log.Item.{Item}
use Rattle.relay_tasks.specs.declared.log.Item.TheVariants as item
use Rattle.relay_tasks.specs.declared.log.LogEntry.{LogEntry}

-- a call of a filter: what it was given, what it left, what it answered, and its error
pub data ModuleCall : Type 0 where
  request_header : (before after : RequestHead) (error : Option Error) → ModuleCall
  request_body : (before after : Option (List ℕ)) (end : Bool) (error : Option Error) → ModuleCall
  response_header : (before after : ResponseHead) (end : Bool) (error : Option Error) → ModuleCall
  response_body : (before after : Option (List ℕ)) (end : Bool) (error : Option Error)
      → ModuleCall
  response_trailer : (before after : Option Fields) (answer : Option (List ℕ))
      (error : Option Error) → ModuleCall
  response_done : (answer : Option (List ℕ)) (error : Option Error) → ModuleCall

-- ---- what a module allows

-- a call with that outcome is allowed; out of memory always is
abbrev pub AllowsOutcome : (ModuleCall → Type 0) → (Option Error → ModuleCall) → Result Unit Fail
    → Type 0
AllowsOutcome allows call (Ok done) = allows (call None)
AllowsOutcome allows call (Err (fail.Error error)) = allows (call (Some error))
AllowsOutcome allows call (Err fail.OutOfMemory) = Unit {0}

-- a call with that answer is allowed; out of memory always is
abbrev pub AllowsAnswer : (ModuleCall → Type 0)
    → (Option (List ℕ) → Option Error → ModuleCall) → Result (Option (List ℕ)) Fail → Type 0
AllowsAnswer allows call (Ok answer) = allows (call answer None)
AllowsAnswer allows call (Err (fail.Error error)) = allows (call None (Some error))
AllowsAnswer allows call (Err fail.OutOfMemory) = Unit {0}

-- the call left what it was given, and answered nothing
abbrev pub LeavesInput : ModuleCall → Type 0
LeavesInput (request_header before after error) = (after ≡ before) × (error ≡ None)
LeavesInput (request_body before after end error) = (after ≡ before) × (error ≡ None)
LeavesInput (response_header before after end error) = (after ≡ before) × (error ≡ None)
LeavesInput (response_body before after end error) = (after ≡ before) × (error ≡ None)
LeavesInput (response_trailer before after answer error) =
    (after ≡ before) × (answer ≡ None) × (error ≡ None)
LeavesInput (response_done answer error) = (answer ≡ None) × (error ≡ None)

-- modules that were made allow what they allow; before that each filter leaves what it is given
abbrev pub AllowsMade : {M : Type 0} → (M → ModuleCall → Type 0) → Option M → ModuleCall → Type 0
AllowsMade allows None call = LeavesInput call
AllowsMade allows (Some modules) call = allows modules call

-- ---- a call in a log

-- which filter was called
abbrev pub hook_of : ModuleCall → Hook
hook_of (request_header before after error) = hook.ModuleRequestHeader
hook_of (request_body before after end error) = hook.ModuleRequestBody
hook_of (response_header before after end error) = hook.ModuleResponseHeader
hook_of (response_body before after end error) = hook.ModuleResponseBody
hook_of (response_trailer before after answer error) = hook.ModuleResponseTrailer
hook_of (response_done answer error) = hook.ModuleResponseDone

-- what it was given
abbrev pub input_of : ModuleCall → Item
input_of (request_header before after error) = item.Request before
input_of (request_body before after end error) = item.Piece before end
input_of (response_header before after end error) = item.Response before end
input_of (response_body before after end error) = item.Piece before end
input_of (response_trailer before after answer error) = item.Trailers before
input_of (response_done answer error) = item.Nothing

-- the last piece that an answer makes, or else what stands in its place
abbrev pub piece_or : Option (List ℕ) → Item → Item
piece_or None other = other
piece_or (Some bytes) other = item.Piece (Some bytes) true

-- what it left, or the piece that it answered in its place
abbrev pub output_of : ModuleCall → Item
output_of (request_header before after error) = item.Request after
output_of (request_body before after end error) = item.Piece after end
output_of (response_header before after end error) = item.Response after end
output_of (response_body before after end error) = item.Piece after end
output_of (response_trailer before after answer error) = piece_or answer (item.Trailers after)
output_of (response_done answer error) = piece_or answer item.Nothing

-- its error
abbrev pub error_of : ModuleCall → Option Error
error_of (request_header before after error) = error
error_of (request_body before after end error) = error
error_of (response_header before after end error) = error
error_of (response_body before after end error) = error
error_of (response_trailer before after answer error) = error
error_of (response_done answer error) = error

-- the entry tells of that call
pub record Tells (entry : LogEntry) (call : ModuleCall) : Type 0 where
  pub hook : entry.hook ≡ hook_of call
  pub input : entry.input ≡ input_of call
  pub output : entry.output ≡ output_of call
  pub error : entry.error ≡ error_of call
