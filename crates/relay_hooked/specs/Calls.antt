-- The calls of filters in an attempt, and what the side that made them tells of them.
use Rattle.std.specs.Prelude.{◌≡◌, ◌||◌, Bool, true, List, Option, drop, length}
use Rattle.relay_tasks.specs.declared.error.Fail.{Fail}
use Rattle.relay_tasks.specs.declared.log.LogEntry.{LogEntry}
use Rattle.relay_calls.specs.Log.{filters_request, filters_response, is_module_response}

-- the calls of an attempt in order; whether its request had ended before the first of them; whether
-- modules stood for each batch of its response; why the side stopped, if it did; and whether the
-- client's side refused a batch that the filters made
pub record Filtering : Type 0 where
  pub calls : List LogEntry
  pub at_first : Bool
  pub stood : Bool
  pub stopped : Option Fail
  pub refused : Bool

-- the calls of an attempt that began behind those of the log
abbrev pub calls_behind : List LogEntry → List LogEntry → List LogEntry
calls_behind called log = drop (length called) log

-- a call is one of a filter of the request's body or of the response
abbrev pub IsFilter : LogEntry → Type 0
IsFilter e =
    (filters_request e.hook || (filters_response e.hook || is_module_response e.hook)) ≡ true
