-- The upstream's side of a duplex: its meaning, and what each of its answers does.
use Rattle.std.specs.Prelude.{◌≡◌, Bool, true, false, ◌||◌, Option, Some, Result, Ok, Err, IsTrue}
use Rattle.relay_tasks.specs.declared.error.Error.{Error}
use Rattle.relay_tasks.specs.declared.error.ErrorSource.TheVariants.{Upstream}
use Rattle.relay_tasks.specs.declared.error.Fail.{Fail}
use Rattle.relay_tasks.specs.declared.error.Fail.TheVariants as fail
use Rattle.relay_tasks.specs.declared.task.HttpTask.{HttpTask}
use Rattle.relay_tasks.specs.declared.took.Took.{Took}
use Rattle.relay_tasks.specs.declared.took.Took.TheVariants as took
use Rattle.relay_links.specs.declared.link.Put.{Put}
use Rattle.relay_links.specs.declared.link.Put.TheVariants as put
use Rattle.relay_links.specs.declared.link.UpKind.{UpKind}
use Rattle.relay_core.specs.declared.told.Told.{Told}
use Rattle.relay_core.specs.Pipe.{is_failure}
use Rattle.relay_core.specs.Told.{paused, failed, fault_of, written}

-- the upstream's side: its kind; whether its response began a tunnel; whether output is pending;
-- what it tells of its answers; whether a read answered an error, and the last error with which
-- nothing could be sent
pub record UpState : Type 0 where
  pub kind : UpKind
  pub upgraded : Bool
  pub pending : Bool
  pub told : Told
  pub read_failed : Bool
  pub send_failed : Option Error

-- the failure is an error; out of memory is none
abbrev pub is_error : Fail → Bool
is_error fail.OutOfMemory = false
is_error (fail.Error error) = true

-- the error of a failure; out of memory leaves the one before
abbrev pub error_or : Fail → Option Error → Option Error
error_or fail.OutOfMemory before = before
error_or (fail.Error error) before = Some error

-- a task of the response came
pub record GivesTask (before after : UpState) (task : HttpTask) : Type 0 where
  pub exact : after ≡ record before { upgraded = after.upgraded }
  pub upgraded_stays : IsTrue before.upgraded → after.upgraded ≡ true
  pub no_failure : is_failure task ≡ false

-- what a read of a task does, by its answer
abbrev pub ReadsTask : UpState → UpState → Took HttpTask → Type 0
ReadsTask before after (took.Item task) = GivesTask before after task
ReadsTask before after took.More = after ≡ before
ReadsTask before after (took.Waited pause) =
    after ≡ record before { told = paused pause before.told }
ReadsTask before after took.End = ⊥
ReadsTask before after (took.Failed fail) = after ≡ record before {
  told = failed fail before.told;
  read_failed = before.read_failed || is_error fail;
}

-- what taking a piece does, by its answer
abbrev pub TakesPiece : UpState → UpState → Result Unit Fail → Type 0
TakesPiece before after (Ok done) = after ≡ record before { pending = after.pending }
TakesPiece before after (Err why) = after ≡ record before {
  pending = after.pending;
  told = failed why before.told;
  send_failed = error_or why before.send_failed;
}

-- what a write of pending output does, by its answer
abbrev pub Writes : UpState → UpState → Put → Type 0
Writes before after (put.Took n) = after ≡ record before { pending = after.pending }
Writes before after put.NotReady =
    after ≡ record before { told = written Upstream put.NotReady before.told }
Writes before after put.Silent =
    after ≡ record before { told = written Upstream put.Silent before.told }
Writes before after (put.Failed fault) = after ≡ record before {
  pending = after.pending;
  told = written Upstream (put.Failed fault) before.told;
  send_failed = Some (fault_of Upstream fault);
}
Writes before after put.OutOfMemory = after ≡ before
