-- How the steps of an attempt follow one another.
use Rattle.std.proofs.Common.{◌≡◌, inl, inr, refl, ap}
use Rattle.std.specs.Prelude.{Some, None, Result, Ok, Err, Bool, IsTrue}
use Rattle.relay_tasks.specs.Head.{RequestHead}
use Rattle.relay_tasks.specs.declared.Error.{Error}
use Rattle.relay_tasks.specs.declared.ErrorSource.{ErrorSource}
use Rattle.relay_tasks.specs.declared.ErrorSource.TheVariants as side
use Rattle.relay_tasks.specs.declared.Fail.{Fail}
use Rattle.relay_tasks.specs.declared.Fail.TheVariants as fail
use Rattle.relay_authority.specs.Attempt.{Then, Finishes, FailsToFinish, ReadiesH1}
use Rattle.relay_authority.specs.Stage.{Step, FailsToMake, OnSide, sided}
use Rattle.http.specs.declared.version.TheConstants.Version.{HTTP_11, HTTP_2}
use Rattle.relay_authority.specs.Sent.{AddsHost}
use Rattle.relay_authority.specs.Table.{Outcome, Settles, FailsAs}

-- the first step failed
pub then_fails : (first second : Step) (old new : RequestHead) (failure : Fail)
    → FailsAs (first old) old new failure
    → FailsToFinish (Then first second old) new failure
then_fails first second old new fail.OutOfMemory h = tt
then_fails first second old new (fail.Error error) h = (h.0, h.1, inl (refl, h.2))

-- the first step was done, and the second says the rest
pub then_goes_on : (first second : Step) (old middle new : RequestHead)
    (result : Result (Unit {0}) Fail)
    → first old (record { refusal = None; head = middle }) → Finishes (second middle) new result
    → Finishes (Then first second old) new result
then_goes_on first second old middle new (Ok ended) h k = inr (middle, h, k)
then_goes_on first second old middle new (Err fail.OutOfMemory) h k = tt
then_goes_on first second old middle new (Err (fail.Error error)) h k =
    (k.0, k.1, inr (middle, h, k.2))

-- an edit that settles its table finishes it
pub settled_finishes : (T : Outcome → Type 0) (old new : RequestHead)
    (result : Result (Unit {0}) Fail) → Settles T old new result
    → Finishes T new result
settled_finishes T old new (Ok ended) h = h
settled_finishes T old new (Err fail.OutOfMemory) h = tt
settled_finishes T old new (Err (fail.Error error)) h = h

-- a step that failed gives no head, and the failure is put on a side
pub fails_to_give : (blame : ErrorSource) (step : Step) (old new : RequestHead)
    (failure given : Fail)
    → FailsToFinish (step old) new failure → given ≡ sided blame failure
    → FailsToMake (OnSide blame step old) given
fails_to_give blame step old new fail.OutOfMemory given h is = rw is tt
fails_to_give blame step old new (fail.Error error) given h is =
    rw is (h.0, new, ap (λ (e : Error). record e { esource = blame }) h.1, h.2)

-- a Host that could not be put is no head
pub readies_nothing : (custom : Bool) (head ready new : RequestHead) (failure given : Fail)
    → IsTrue custom × (head.version ≡ HTTP_2)
    → ready ≡ record head { version = HTTP_11 } → FailsAs (AddsHost ready) ready new failure
    → given ≡ sided side.Downstream failure
    → FailsToMake (OnSide side.Downstream (ReadiesH1 custom) head) given
readies_nothing custom head ready new fail.OutOfMemory given was same h is = rw is tt
readies_nothing custom head ready new (fail.Error error) given was same h is =
    let put : AddsHost (record head { version = HTTP_11 })
    (record { refusal = Some h.0; head = new }) = rw same at h.2 in
    rw is (h.0, new, ap (λ (e : Error). record e { esource = side.Downstream }) h.1, inl (was, put))
