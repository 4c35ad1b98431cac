-- A step of the duplex that does not fail takes no call of a hook back: only a read of the client
-- makes any.
--
--   calls_still  a side that stands made none
--   calls_on     from StepsTo: they are no fewer
use Rattle.std.proofs.Common.{◌≡◌, ◌≤◌, List, Bool, true, false, Result, Ok, Err, arith, sym, ap, ◌∙◌, inl, inr}
use Rattle.relay_tasks.specs.declared.error.Fail.{Fail}
use Rattle.relay_tasks.specs.declared.task.HttpTask.{HttpTask}
use Rattle.relay_tasks.specs.declared.took.Took.{Took}
use Rattle.relay_tasks.specs.declared.took.Took.TheVariants as took
use Rattle.relay_links.specs.declared.branch.Branch.{Branch}
use Rattle.relay_links.specs.declared.branch.Branch.TheVariants as branch
use Rattle.relay_links.specs.declared.link.Put.{Put}
use Rattle.relay_links.specs.declared.link.Put.TheVariants as put
use Rattle.relay_core.specs.Causes.{says_failed}
use Rattle.relay_core.specs.Down.{DownState, ReadsPiece, TakesBatch}
use Rattle.relay_core.specs.Down as down
use Rattle.relay_core.specs.Steps.{DownTakes, StepsTo}
use Rattle.relay_core.specs.Table.{State, step_of_down_read}
use Rattle.relay_core.specs.declared.duplex.Duplex.{Duplex}
use Rattle.relay_core.specs.declared.piece.Piece.{Piece}
use Rattle.relay_core.specs.declared.step.Step.{Step}

-- a side with as many calls has no fewer
calls_same : (side side' : DownState) → side'.calls ≡ side.calls → side.calls ≤ side'.calls
calls_same side side' same = omega arith

-- a side that stands made none
pub calls_still : (old new : State) → new.down ≡ old.down → old.down.calls ≤ new.down.calls
calls_still old new same =
    calls_same old.down new.down (ap (λ (s : DownState). s.calls) same)

-- a write to the client makes none
calls_write : (side side' : DownState) (answer : Put) → down.Writes side side' answer
    → side'.calls ≡ side.calls
calls_write side side' (put.Took n) w = ap (λ (s : DownState). s.calls) w
calls_write side side' put.NotReady w = ap (λ (s : DownState). s.calls) w
calls_write side side' put.Silent w = ap (λ (s : DownState). s.calls) w
calls_write side side' (put.Failed fault) w = ap (λ (s : DownState). s.calls) w
calls_write side side' put.OutOfMemory w = ap (λ (s : DownState). s.calls) w

-- nor does a batch that the client was given
calls_batch : (side side' : DownState) (tasks : List HttpTask) (answer : Result Bool Fail)
    → TakesBatch side tasks side' answer → side'.calls ≡ side.calls
calls_batch side side' tasks (Ok done) t = ap (λ (s : DownState). s.calls) t.exact
calls_batch side side' tasks (Err why) t = ap (λ (s : DownState). s.calls) t.exact

-- or one for which there was no memory
calls_take : (before after : Duplex) (side side' : DownState) (result : Step)
    → DownTakes before side after side' result → side'.calls ≡ side.calls
calls_take before after side side' result (inl gives) =
    calls_batch side side' _ gives.answer gives.takes
calls_take before after side side' result (inr loses) = ap (λ (s : DownState). s.calls) loses.same

-- nor does the end of the response's body
calls_finish : (side side' : DownState) (answer : Result Unit Fail)
    → down.Finishes side side' answer → side'.calls ≡ side.calls
calls_finish side side' (Ok done) f = ap (λ (s : DownState). s.calls) f.exact
calls_finish side side' (Err why) f = ap (λ (s : DownState). s.calls) f

-- a read of the client that does not fail takes none back
calls_read : (side side' : DownState) (answer : Took Piece) (result : Step)
    → ReadsPiece side side' answer → result ≡ step_of_down_read answer
    → says_failed result ≡ false → side.calls ≤ side'.calls
calls_read side side' (took.Item piece) result r is unfailed = r.calls_stay
calls_read side side' took.More result r is unfailed =
    calls_same side side' (ap (λ (s : DownState). s.calls) r)
calls_read side side' (took.Waited p) result r is unfailed =
    calls_same side side' (ap (λ (s : DownState). s.calls) r)
calls_read side side' took.End result r is unfailed = absurd r
calls_read side side' (took.Failed why) result r is unfailed =
    let wrong : true ≡ false = sym (ap says_failed is) ∙ unfailed in absurd (cc)

-- nor does any other step of the duplex
pub calls_on : (b : Branch) (old new : State) (result : Step) → StepsTo b old new result
    → says_failed result ≡ false → old.down.calls ≤ new.down.calls
calls_on branch.UpWrite old new result s unfailed = calls_still old new s.down
calls_on branch.DownWrite old new result s unfailed =
    calls_same old.down new.down (calls_write old.down new.down s.does.answer s.does.writes)
calls_on branch.UpTake old new result s unfailed = calls_still old new s.down
calls_on branch.DownTake old new result s unfailed =
    calls_same old.down new.down
    (calls_take old.duplex new.duplex old.down new.down result s.does)
calls_on branch.DownDrop old new result s unfailed = calls_still old new s.down
calls_on branch.DownEnd old new result s unfailed = calls_still old new s.down
calls_on branch.DownClosed old new result s unfailed = calls_still old new s.down
calls_on branch.UpRead old new result s unfailed = calls_still old new s.down
calls_on branch.DownRead old new result s unfailed =
    calls_read old.down new.down s.does.answer result s.does.reads s.does.step unfailed
calls_on branch.UpFinish old new result s unfailed = calls_still old new s.down
calls_on branch.DownFinish old new result s unfailed =
    calls_same old.down new.down (calls_finish old.down new.down s.does.answer s.does.ends)
calls_on branch.MessageUp old new result s unfailed = absurd s
calls_on branch.MessageDown old new result s unfailed = absurd s
