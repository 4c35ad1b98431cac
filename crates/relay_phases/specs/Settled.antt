-- The answer of a hook, out of memory aside, and what it left.
use Rattle.std.specs.Prelude.{Result, Ok, Err}
use Rattle.relay_tasks.specs.declared.error.Error.{Error}
use Rattle.relay_tasks.specs.declared.error.Fail.{Fail}
use Rattle.relay_tasks.specs.declared.error.Fail.TheVariants as fail
use Rattle.relay_hooks.specs.Call.{Left}
use Rattle.relay_calls.specs.declared.entry.Outcome.{Outcome}
use Rattle.relay_phases.specs.declared.settled.Settled.{Settled}

-- an answer or an error, as a hook gives it
abbrev pub given : {T : Type 0} → Result T Error → Result T Fail
given (Ok answer) = Ok answer
given (Err error) = Err (fail.Error error)

-- the hook's own answer
abbrev pub handed : {T : Type 0} → Settled T → Result T Fail
handed settled = given settled.answer

-- what the entry is to tell of a call
abbrev pub left_of : Outcome → Left
left_of outcome =
    record { output = outcome.output; error = outcome.error; delay = outcome.delay }
