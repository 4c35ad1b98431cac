-- A hook was called once, and its call stands in the log.
use Rattle.std.specs.Prelude.{◌≡◌, ◌++◌, ◌∷◌, [], List, ℕ, Bool, false, Option, Some, None, Result, Ok, Err}
use Rattle.relay_tasks.specs.declared.error.Error.{Error}
use Rattle.relay_tasks.specs.declared.error.Fail.{Fail}
use Rattle.relay_tasks.specs.declared.error.Fail.TheVariants as fail
use Rattle.relay_tasks.specs.declared.hook.Hook.{Hook}
use Rattle.relay_tasks.specs.declared.log.Item.{Item}
use Rattle.relay_tasks.specs.declared.log.LogEntry.{LogEntry}
use Rattle.relay_tasks.specs.declared.peer.Peer.{Peer}
use Rattle.relay_modules.specs.declared.seen.Seen.{Seen}
use Rattle.relay_hooks.specs.Standing.{Standing, standing}
use Rattle.relay_hooks.specs.Call.{Left, entry}
use Rattle.relay_hooks.specs.Session.{Leaves, moment}
use Rattle.relay_calls.specs.declared.answer.Reply.{Reply}
use Rattle.relay_calls.specs.Entry.{cleared}

-- the error of an answer, or out of memory
abbrev pub outcome_of : {T : Type 0} → Result T Fail → Result (Option Error) Fail
outcome_of (Ok answer) = Ok None
outcome_of (Err (fail.Error error)) = Ok (Some error)
outcome_of (Err fail.OutOfMemory) = Err fail.OutOfMemory

-- the delay of an answer, or none
abbrev pub delay_of : Result (Option ℕ) Fail → Option ℕ
delay_of (Ok delay) = delay
delay_of (Err why) = None

-- the bytes and the error of an answer, or out of memory
abbrev pub reply_of : Result (Option (List ℕ)) Fail → Result Reply Fail
reply_of (Ok bytes) = Ok (record { bytes = bytes; error = None })
reply_of (Err (fail.Error error)) = Ok (record { bytes = None; error = Some error })
reply_of (Err fail.OutOfMemory) = Err fail.OutOfMemory

-- a hook that is told of this peer was called once: the log gained its entry and no other, the
-- application allows that entry where the session and the mark stood, and the hook kept its law
pub record CallsOf (peer : Option Peer) (reused : Bool) (law : Seen → Seen → Type 0)
    (allows : Standing → LogEntry → Type 0) (which : Hook) (input : Item) (old : Seen) (before : ℕ)
    (new : Seen) (after : ℕ) (left : Left) : Type 0 where
  pub returned : Seen  -- the session as the hook left it
  pub lawful : law (cleared old) returned
  pub allowed : allows (standing peer reused (moment (cleared old) before))
      (entry which input (moment (cleared old) before) left (moment returned after))
  pub log : new.log
      ≡ old.log ++ entry which input (moment (cleared old) before) left (moment returned after) ∷ []
  pub rest : new ≡ record returned { log = new.log; wrote = [] }

-- the same of a hook that is told of no peer and queues nothing
abbrev pub Calls : (Standing → LogEntry → Type 0) → Hook → Item → Seen → ℕ → Seen → ℕ → Left
    → Type 0
Calls allows which input old before new after left =
    CallsOf None false Leaves allows which input old before new after left

-- what a call came to stands in the log; where it was out of memory no entry is new
abbrev pub Enters : {T : Type 0} → Option T → (T → Type 0) → Seen → Seen → Type 0
Enters (Some left) called old new = called left
Enters None called old new = new.log ≡ old.log
