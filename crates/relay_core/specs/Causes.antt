-- Why a step was answered so: what the side of its branch tells, and what the duplex has become.
use Rattle.std.specs.Prelude.{◌≡◌, Bool, true, false, ◌⊎◌, Option, Some}
use Rattle.relay_tasks.specs.declared.error.Error.{Error}
use Rattle.relay_tasks.specs.declared.error.Fail.TheVariants as fail
use Rattle.relay_tasks.specs.declared.took.Pause.{Pause}
use Rattle.relay_tasks.specs.declared.took.Pause.TheVariants as pause
use Rattle.relay_links.specs.Count.{Rose}
use Rattle.relay_links.specs.declared.branch.Branch.{Branch}
use Rattle.relay_links.specs.declared.branch.Branch.TheVariants as branch
use Rattle.relay_core.specs.declared.duplex.Duplex.{Duplex}
use Rattle.relay_core.specs.declared.step.Step.{Step}
use Rattle.relay_core.specs.declared.step.Step.TheVariants as step
use Rattle.relay_core.specs.declared.told.Told.{Told}
use Rattle.relay_core.specs.Table.{State, is_finished, is_failed}

-- the count of that kind of pause rose
abbrev pub PauseRose : Pause → Told → Told → Type 0
PauseRose pause.NotReady before after = Rose before.waits after.waits
PauseRose pause.Silent before after = Rose before.silences after.silences

-- the count of errors rose, and this is the last
pub record ErrorRose (before after : Told) (error : Error) : Type 0 where
  pub rose : Rose before.errors after.errors
  pub last : after.last ≡ Some error

-- what the side of the branch tells
abbrev pub told_of : Branch → State → Told
told_of branch.UpWrite s = s.up.told
told_of branch.DownWrite s = s.down.told
told_of branch.UpTake s = s.up.told
told_of branch.DownTake s = s.down.told
told_of branch.DownDrop s = s.down.told
told_of branch.DownEnd s = s.down.told
told_of branch.DownClosed s = s.down.told
told_of branch.UpRead s = s.up.told
told_of branch.DownRead s = s.down.told
told_of branch.UpFinish s = s.up.told
told_of branch.DownFinish s = s.down.told
told_of branch.MessageUp s = s.down.told
told_of branch.MessageDown s = s.down.told

-- why an answer came: the side had to wait; or its error is the last of a side whose errors rose,
-- or the send error that was kept. Out of memory is free
abbrev pub HasCause : Told → Told → Option Error → Step → Type 0
HasCause before after kept step.Moved = Unit {0}
HasCause before after kept (step.Waited pause) = PauseRose pause before after
HasCause before after kept step.Finished = Unit {0}
HasCause before after kept (step.Failed (fail.Error error)) =
    ErrorRose before after error ⊎ (kept ≡ Some error)
HasCause before after kept (step.Failed fail.OutOfMemory) = Unit {0}

-- the answer says that a half failed
abbrev pub says_failed : Step → Bool
says_failed step.Moved = false
says_failed (step.Waited pause) = false
says_failed step.Finished = false
says_failed (step.Failed why) = true

-- the answer says that both halves have finished
abbrev pub says_finished : Step → Bool
says_finished step.Moved = false
says_finished (step.Waited pause) = false
says_finished step.Finished = true
says_finished (step.Failed why) = false

-- the answer tells exactly whether a half failed, and whether both have finished
pub record Tells (result : Step) (after : Duplex) : Type 0 where
  pub failed : says_failed result ≡ is_failed after.word
  pub finished : says_finished result ≡ is_finished after

-- the send error stays, or it is the last of the upstream's side, whose errors rose
abbrev pub KeepsSendError : Told → Told → Option Error → Option Error → Type 0
KeepsSendError before after old new =
    (new ≡ old) ⊎ ((error : Error) × (new ≡ Some error) × ErrorRose before after error)
