-- What the client's side tells of errors behind a step of the duplex.
--
--   told_on    a step tells no error but the one that it fails with
--   told_from  so does one behind others that told none
use Rattle.std.proofs.Common.{◌≡◌, List, Bool, true, false, Result, Ok, Err, refl, sym, ap, subst, ◌∙◌, inl, inr}
use Rattle.relay_tasks.specs.declared.error.Fail.{Fail}
use Rattle.relay_tasks.specs.declared.error.Fail.TheVariants as fail
use Rattle.relay_tasks.specs.declared.error.ErrorSource.TheVariants.{Downstream}
use Rattle.relay_tasks.specs.declared.task.HttpTask.{HttpTask}
use Rattle.relay_tasks.specs.declared.took.Pause.{Pause}
use Rattle.relay_tasks.specs.declared.took.Pause.TheVariants as pause
use Rattle.relay_tasks.specs.declared.took.Took.{Took}
use Rattle.relay_tasks.specs.declared.took.Took.TheVariants as took
use Rattle.relay_links.specs.Count.{up}
use Rattle.relay_links.specs.declared.branch.Branch.{Branch}
use Rattle.relay_links.specs.declared.branch.Branch.TheVariants as branch
use Rattle.relay_links.specs.declared.link.Put.{Put}
use Rattle.relay_links.specs.declared.link.Put.TheVariants as put
use Rattle.relay_core.specs.Down.{DownState, ReadsPiece, TakesBatch}
use Rattle.relay_core.specs.Down as down
use Rattle.relay_core.specs.Steps.{DownTakes, StepsTo}
use Rattle.relay_core.specs.Table.{State, step_of_batch, step_of_down_finish, step_of_down_read, step_of_down_write}
use Rattle.relay_core.specs.Told.{failed, fault_of, paused}
use Rattle.relay_core.specs.declared.duplex.Duplex.{Duplex}
use Rattle.relay_core.specs.declared.piece.Piece.{Piece}
use Rattle.relay_core.specs.declared.step.Step.{Step}
use Rattle.relay_core.specs.declared.step.Step.TheVariants as step
use Rattle.relay_core.specs.declared.told.Told.{Told}
use Rattle.relay_exchange.specs.Exchange.{TellsOn}

-- where no error was told, whatever the answer
pub told_none : (before after : Told) (result : Step) → after.errors ≡ before.errors
    → TellsOn before after result
told_none before after step.Moved same = same
told_none before after (step.Waited p) same = same
told_none before after step.Finished same = same
told_none before after (step.Failed (fail.Error e)) same = inl same
told_none before after (step.Failed fail.OutOfMemory) same = same

-- a step that fails so, and told that
told_failed : (before after : Told) (why : Fail) → after ≡ failed why before
    → TellsOn before after (step.Failed why)
told_failed before after (fail.Error e) is =
    inr (ap (λ (t : Told). t.errors) is, ap (λ (t : Told). t.last) is)
told_failed before after fail.OutOfMemory is = ap (λ (t : Told). t.errors) is

-- a side that had to wait told no error
told_paused : (before : Told) (p : Pause) → (paused p before).errors ≡ before.errors
told_paused before pause.NotReady = refl
told_paused before pause.Silent = refl

-- the state of a side tells so
told_in : (side side' : DownState) (told : Told) (result : Step) → side'.told ≡ told
    → told.errors ≡ side.told.errors → TellsOn side.told side'.told result
told_in side side' told result is same =
    told_none side.told side'.told result (ap (λ (t : Told). t.errors) is ∙ same)

-- a write to the client
told_write : (side side' : DownState) (answer : Put) (result : Step)
    → down.Writes side side' answer → result ≡ step_of_down_write answer
    → TellsOn side.told side'.told result
told_write side side' (put.Took n) result w is =
    told_in side side' side.told result (ap (λ (s : DownState). s.told) w) refl
told_write side side' put.NotReady result w is =
    told_in side side' _ result (ap (λ (s : DownState). s.told) w) refl
told_write side side' put.Silent result w is =
    told_in side side' _ result (ap (λ (s : DownState). s.told) w) refl
told_write side side' (put.Failed fault) result w is =
    subst (λ (r : Step). TellsOn side.told side'.told r) (sym is)
    (told_failed side.told side'.told (fail.Error (fault_of Downstream fault))
    (ap (λ (s : DownState). s.told) w))
told_write side side' put.OutOfMemory result w is =
    told_in side side' side.told result (ap (λ (s : DownState). s.told) w) refl

-- a batch that the client was given
told_batch : (side side' : DownState) (tasks : List HttpTask) (answer : Result Bool Fail)
    (result : Step) → TakesBatch side tasks side' answer → result ≡ step_of_batch answer
    → TellsOn side.told side'.told result
told_batch side side' tasks (Ok done) result t is =
    told_in side side' side.told result (ap (λ (s : DownState). s.told) t.exact) refl
told_batch side side' tasks (Err why) result t is =
    subst (λ (r : Step). TellsOn side.told side'.told r) (sym is)
    (told_failed side.told side'.told why (ap (λ (s : DownState). s.told) t.exact))

-- tasks of the response pipe that went to the client, or for which there was no memory
told_take : (before after : Duplex) (side side' : DownState) (result : Step)
    → DownTakes before side after side' result → TellsOn side.told side'.told result
told_take before after side side' result (inl gives) =
    told_batch side side' _ gives.answer result gives.takes gives.step
told_take before after side side' result (inr loses) =
    told_in side side' side.told result (ap (λ (s : DownState). s.told) loses.same) refl

-- a read of the client
told_read : (side side' : DownState) (answer : Took Piece) (result : Step)
    → ReadsPiece side side' answer → result ≡ step_of_down_read answer
    → TellsOn side.told side'.told result
told_read side side' (took.Item piece) result r is =
    told_in side side' side.told result (ap (λ (s : DownState). s.told) r.exact) refl
told_read side side' took.More result r is =
    told_in side side' side.told result (ap (λ (s : DownState). s.told) r) refl
told_read side side' (took.Waited p) result r is =
    told_in side side' (paused p side.told) result (ap (λ (s : DownState). s.told) r)
    (told_paused side.told p)
told_read side side' took.End result r is = absurd r
told_read side side' (took.Failed why) result r is =
    subst (λ (r : Step). TellsOn side.told side'.told r) (sym is)
    (told_failed side.told side'.told why (ap (λ (s : DownState). s.told) r))

-- the end of the response's body
told_finish : (d : Duplex) (pending : Bool) (side side' : DownState) (answer : Result Unit Fail)
    (result : Step) → down.Finishes side side' answer
    → result ≡ step_of_down_finish d pending answer → TellsOn side.told side'.told result
told_finish d pending side side' (Ok done) result f is =
    told_in side side' side.told result (ap (λ (s : DownState). s.told) f.exact) refl
told_finish d true side side' (Err why) result f is =
    subst (λ (r : Step). TellsOn side.told side'.told r) (sym is)
    (told_failed side.told side'.told why (ap (λ (s : DownState). s.told) f))
told_finish d false side side' (Err why) result f is =
    subst (λ (r : Step). TellsOn side.told side'.told r) (sym is)
    (told_failed side.told side'.told why (ap (λ (s : DownState). s.told) f))

-- a branch that leaves the client's side
pub told_still : (old new : State) (result : Step) → new.down ≡ old.down
    → TellsOn old.down.told new.down.told result
told_still old new result same =
    told_in old.down new.down old.down.told result (ap (λ (s : DownState). s.told) same) refl

-- a step of the duplex tells no error but the one that it fails with
pub told_on : (b : Branch) (old new : State) (result : Step) → StepsTo b old new result
    → TellsOn old.down.told new.down.told result
told_on branch.UpWrite old new result s = told_still old new result s.down
told_on branch.DownWrite old new result s =
    told_write old.down new.down s.does.answer result s.does.writes s.does.step
told_on branch.UpTake old new result s = told_still old new result s.down
told_on branch.DownTake old new result s =
    told_take old.duplex new.duplex old.down new.down result s.does
told_on branch.DownDrop old new result s = told_still old new result s.down
told_on branch.DownEnd old new result s = told_still old new result s.down
told_on branch.DownClosed old new result s = told_still old new result s.down
told_on branch.UpRead old new result s = told_still old new result s.down
told_on branch.DownRead old new result s =
    told_read old.down new.down s.does.answer result s.does.reads s.does.step
told_on branch.UpFinish old new result s = told_still old new result s.down
told_on branch.DownFinish old new result s =
    told_finish old.duplex new.down.pending old.down new.down s.does.answer result s.does.ends
    s.does.step
told_on branch.MessageUp old new result s = absurd s
told_on branch.MessageDown old new result s = absurd s

-- a step behind others that told no error
pub told_from : (before mid after : Told) (result : Step) → mid.errors ≡ before.errors
    → TellsOn mid after result → TellsOn before after result
told_from before mid after step.Moved same on = on ∙ same
told_from before mid after (step.Waited p) same on = on ∙ same
told_from before mid after step.Finished same on = on ∙ same
told_from before mid after (step.Failed (fail.Error e)) same on = elim on [
  | inl still ↦ inl (still ∙ same)
  | inr more ↦ inr (more.0 ∙ ap up same, more.1)
]
told_from before mid after (step.Failed fail.OutOfMemory) same on = on ∙ same
