-- How the stages of a sent head follow one another.
use Rattle.std.proofs.Common.{◌≡◌, inl, inr, ap}
use Rattle.std.specs.Prelude.{Bool, Result, Ok, Err}
use Rattle.relay_tasks.specs.Head.{RequestHead}
use Rattle.relay_tasks.specs.declared.Error.{Error}
use Rattle.relay_tasks.specs.declared.ErrorSource.TheVariants as side
use Rattle.relay_tasks.specs.declared.Fail.{Fail}
use Rattle.relay_tasks.specs.declared.Fail.TheVariants as fail
use Rattle.relay_authority.specs.Address.{Addresses, LacksAuthority}
use Rattle.relay_authority.specs.Http2.{FailsTo, PathFor}
use Rattle.relay_authority.specs.Stage.{FailsToMake, Makes, OnSide, Step, sided}
use Rattle.relay_authority.specs.Table.{FailsAs}

-- what is made by one stage is made by each that follows from it
pub makes_wider : {T U : Result RequestHead Error → Type 0} (result : Result RequestHead Fail)
    → ((answer : Result RequestHead Error) → T answer → U answer) → Makes T result → Makes U result
makes_wider (Ok made) wider h = wider _ h
makes_wider (Err fail.OutOfMemory) wider h = h
makes_wider (Err (fail.Error error)) wider h = wider _ h

-- a failed edit is a refusal on no side
pub fails_on_no_side : (step : Step) (old new : RequestHead) (failure : Fail)
    → FailsAs (step old) old new failure
    → FailsToMake (OnSide side.Unset step old) failure
fails_on_no_side step old new fail.OutOfMemory h = tt
fails_on_no_side step old new (fail.Error error) h = (h.0, new, h.1, h.2)

-- a path that is lacking is a refusal on the relay's own side
pub path_fails : (custom tls : Bool) (head : RequestHead) (failure given : Fail)
    → ¬ (LacksAuthority custom head)
    → FailsTo (PathFor head.target) failure → given ≡ sided side.Internal failure
    → FailsToMake (Addresses custom tls head) given
path_fails custom tls head fail.OutOfMemory given there h is = rw is tt
path_fails custom tls head (fail.Error error) given there h is =
    rw is (inr (
      there,
      inl
          (h.0, h.2, ap (λ (e : Error). Err (record e { esource = side.Internal })) h.1),
    ))
