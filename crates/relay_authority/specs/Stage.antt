-- How the sent head is made in steps, and on which side each of them refuses a head.
use Rattle.std.specs.Prelude.{◌≡◌, ◌⊎◌, Bool, IsTrue, Some, None, Result, Ok, Err, MatchResult}
use Rattle.relay_tasks.specs.Error.{refused}
use Rattle.relay_tasks.specs.Head.{RequestHead}
use Rattle.relay_tasks.specs.declared.Context.{Context}
use Rattle.relay_tasks.specs.declared.Error.{Error}
use Rattle.relay_tasks.specs.declared.ErrorSource.{ErrorSource}
use Rattle.relay_tasks.specs.declared.Fail.{Fail}
use Rattle.relay_tasks.specs.declared.Fail.TheVariants as fail
use Rattle.relay_authority.specs.Table.{Line, Outcome}

-- a step: what it makes of a head
abbrev pub Step : Type 1
Step = RequestHead → Outcome → Type 0

-- a stage: the head that it makes of a head, or the error by which it refuses it
abbrev pub Stage : Type 1
Stage = RequestHead → Result RequestHead Error → Type 0

-- a refusal for that reason, on that side
abbrev pub blamed : ErrorSource → Context → Error
blamed side why = record (refused why) { esource = side }

-- a failure, on that side
abbrev pub sided : ErrorSource → Fail → Fail
sided side fail.OutOfMemory = fail.OutOfMemory
sided side (fail.Error error) = fail.Error (record error { esource = side })

-- a step that refuses a head, with its error on that side
abbrev pub RefusesOn : ErrorSource → Step → RequestHead → Error → Type 0
RefusesOn side step head error =
    (why : Context) × (left : RequestHead) × (error ≡ blamed side why)
    × step head (record { refusal = Some why; head = left })

-- a step whose refusals are all on that side
abbrev pub OnSide : ErrorSource → Step → Stage
OnSide side step head answer =
    MatchResult answer (λ made. step head (record { refusal = None; head = made }))
    (RefusesOn side step head)

-- one stage and then another: the first refusal ends both
abbrev pub AndThen : Stage → Stage → Stage
AndThen first second head answer =
    ((error : Error) × first head (Err error) × (answer ≡ Err error))
    ⊎ ((middle : RequestHead) × first head (Ok middle) × second middle answer)

-- the head passes as it is
abbrev pub Passes : Stage
Passes head answer = answer ≡ Ok head

-- the stage is skipped where that holds
abbrev pub Unless : Bool → Stage → Stage
Unless skipped stage head answer = Line (IsTrue skipped) (Passes head answer) (stage head answer)

-- a failure to make a head: a refusal as the stage says, or out of memory
abbrev pub FailsToMake : (Result RequestHead Error → Type 0) → Fail → Type 0
FailsToMake stage fail.OutOfMemory = Unit {0}
FailsToMake stage (fail.Error error) = stage (Err error)

-- the head that is made, or the refusal, is what the stage says
abbrev pub Makes : (Result RequestHead Error → Type 0) → Result RequestHead Fail → Type 0
Makes stage result = MatchResult result (λ made. stage (Ok made)) (FailsToMake stage)

-- the head that is given, or the refusal on that side, is what the step says
abbrev pub Gives : ErrorSource → Step → RequestHead → Result RequestHead Fail → Type 0
Gives side step head result = Makes (OnSide side step head) result
