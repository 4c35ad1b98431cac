-- The modules of a request were made, or filtered its head, and the call stands in the log.
use Rattle.std.specs.Prelude.{◌≡◌, ◌++◌, ◌∷◌, [], ℕ, Bool, Option, Some, None, Result, Ok, Err}
use Rattle.relay_tasks.specs.Head.{RequestHead}
use Rattle.relay_tasks.specs.declared.error.Error.{Error}
use Rattle.relay_tasks.specs.declared.error.Fail.{Fail}
use Rattle.relay_tasks.specs.declared.error.Fail.TheVariants as fail
use Rattle.relay_tasks.specs.declared.hook.Hook.TheVariants as hook
use Rattle.relay_tasks.specs.declared.log.Item.TheVariants as item
use Rattle.relay_modules.specs.Lent.{with_touched}
use Rattle.relay_modules.specs.Module.{ModuleCall, request_header}
use Rattle.relay_modules.specs.declared.seen.Seen.{Seen}
use Rattle.relay_hooks.specs.Call.{Left, only, failed, entry}
use Rattle.relay_hooks.specs.Session.{request_head, moment}
use Rattle.relay_calls.specs.Entry.{cleared}
use Rattle.relay_calls.specs.Modules.{left_by}

-- it was asked whether subrequests may be spawned, and modules were made behind it; an error of
-- that stands in the entry of the question. Where it was out of memory no entry is new
abbrev pub MakesModules : (Left → Type 0) → Result Bool Fail → Seen → Seen → Type 0
MakesModules called (Ok say) old new = called (only (item.Answer say))
MakesModules called (Err (fail.Error error)) old new =
    (say : Bool) × called (failed (item.Answer say) error)
MakesModules called (Err fail.OutOfMemory) old new = new.log ≡ old.log

-- the modules filtered the head of the request once: the log gained the entry of a call that they
-- allow, and no other. The head that they left stands in the session, and in the entry
pub record CallsOnHead (allows : ModuleCall → Type 0) (old : Seen) (mark : ℕ) (new : Seen)
    (error : Option Error) : Type 0 where
  pub head : RequestHead
  pub allowed : allows (request_header (request_head old) head error)
  pub log : new.log
      ≡ old.log
      ++ entry hook.ModuleRequestHeader (item.Request (request_head old))
      (moment (cleared old) mark) (left_by (request_header (request_head old) head error))
      (moment (with_touched (cleared old) head) mark) ∷ []
  pub rest : new ≡ record (with_touched (cleared old) head) { log = new.log }

-- the error of an answer, or none where it was out of memory
abbrev pub told_error : Result Unit Fail → Option (Option Error)
told_error (Ok done) = Some None
told_error (Err (fail.Error error)) = Some (Some error)
told_error (Err fail.OutOfMemory) = None
