-- Tables whose first line that applies decides, and what an edit of a head comes to.
use Rattle.std.specs.Prelude.{◌≡◌, ◌⊎◌, Option, Some, None, Result, Ok, Err, MatchResult}
use Rattle.relay_tasks.specs.Error.{refused}
use Rattle.relay_tasks.specs.Head.{RequestHead}
use Rattle.relay_tasks.specs.declared.Context.{Context}
use Rattle.relay_tasks.specs.declared.Error.{Error}
use Rattle.relay_tasks.specs.declared.Fail.{Fail}
use Rattle.relay_tasks.specs.declared.Fail.TheVariants as fail

-- a line: where it applies it decides, else the lines below it do
abbrev pub Line : Type 0 → Type 0 → Type 0 → Type 0
Line applies here below = (applies × here) ⊎ (¬ applies × below)

-- what a call that only judges answers: the refusal, if there is one
abbrev pub judged : Option Context → Result (Unit {0}) Error
judged None = Ok tt
judged (Some why) = Err (refused why)

-- the answer of a call that only judges is what its table says: no context where it accepts
abbrev pub Judges : (Option Context → Type 0) → Result (Unit {0}) Error → Type 0
Judges table result =
    MatchResult result (λ _. table None)
    (λ error. (why : Context) × (error ≡ refused why) × table (Some why))

-- what an edit of a head comes to: the context of its refusal, if it is refused, and the head
pub record Outcome : Type 0 where
  pub refusal : Option Context
  pub head : RequestHead

-- the edit is refused, and the head stays as it was
abbrev pub Refuses : RequestHead → Context → Outcome → Type 0
Refuses head why outcome = outcome ≡ record { refusal = Some why; head = head }

-- the edit is done, and leaves that head
abbrev pub Leaves : RequestHead → Outcome → Type 0
Leaves head outcome = outcome ≡ record { refusal = None; head = head }

-- a failed edit is refused as its table says; without memory the head stays as it was
abbrev pub FailsAs : (Outcome → Type 0) → RequestHead → RequestHead → Fail → Type 0
FailsAs table old new fail.OutOfMemory = new ≡ old
FailsAs table old new (fail.Error error) =
    (why : Context) × (error ≡ refused why) × table (record { refusal = Some why; head = new })

-- the answer of an edit and the head that it leaves are what its table says
abbrev pub Settles : (Outcome → Type 0) → RequestHead → RequestHead → Result (Unit {0}) Fail
    → Type 0
Settles table old new result =
    MatchResult result (λ _. table (record { refusal = None; head = new })) (FailsAs table old new)
