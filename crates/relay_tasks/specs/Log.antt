-- The log of a request as it is kept: a line for each call of a hook, and the delays that calls asked
-- for.
use Rattle.std.specs.Prelude.{ℕ, List, [], ◌∷◌, ◌++◌, map, take, Option, Some, None}
use Rattle.relay_tasks.specs.declared.error.Error.{Error}
use Rattle.relay_tasks.specs.declared.log.Item.{Item}
use Rattle.relay_tasks.specs.declared.log.Item.TheVariants as item
use Rattle.relay_tasks.specs.declared.log.LogEntry.{LogEntry}
use Rattle.relay_tasks.specs.declared.log_line.HookAnswer.{HookAnswer}
use Rattle.relay_tasks.specs.declared.log_line.HookAnswer.TheVariants.{Failed, Said, Done}
use Rattle.relay_tasks.specs.declared.log_line.LogLine.{LogLine}

-- what a call answered that ended with that error, or with that output: the type of the error, yes
-- or no, or anything else
abbrev pub answer_of : Option Error → Item → HookAnswer
answer_of (Some error) output = Failed error.etype
answer_of None (item.Answer said) = Said said
answer_of None _ = Done

-- the line of a call
abbrev pub line_of : LogEntry → LogLine
line_of e = record { hook = e.hook; answer = answer_of e.error e.output }

-- how many lines a log keeps
abbrev pub most_lines : ℕ
most_lines = 65536

-- the lines of a log: those of its first calls
abbrev pub lines_of : List LogEntry → List LogLine
lines_of log = take most_lines (map line_of log)

-- the delay of a call that asked for one
abbrev pub list_of : Option ℕ → List ℕ
list_of (Some delay) = delay ∷ []
list_of None = []

-- the delays that calls asked for, in milliseconds, in order
abbrev pub delays_of : List LogEntry → List ℕ
delays_of [] = []
delays_of (e ∷ es) = list_of e.delay ++ delays_of es
