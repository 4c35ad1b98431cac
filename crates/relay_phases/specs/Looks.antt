-- A hook that only looks was called once, and its call stands in the log.
use Rattle.std.specs.Prelude.{◌≡◌, ℕ, false, None, Result, Ok, Err}
use Rattle.relay_tasks.specs.declared.error.Fail.{Fail}
use Rattle.relay_tasks.specs.declared.hook.Hook.{Hook}
use Rattle.relay_tasks.specs.declared.log.Item.{Item}
use Rattle.relay_tasks.specs.declared.log.Item.TheVariants as item
use Rattle.relay_tasks.specs.declared.log.LogEntry.{LogEntry}
use Rattle.relay_modules.specs.declared.seen.Seen.{Seen}
use Rattle.relay_hooks.specs.Standing.{Standing}
use Rattle.relay_hooks.specs.Call.{Left, only}
use Rattle.relay_calls.specs.Calls.{CallsOf}

-- the hook left its session as it was
abbrev pub Stays : Seen → Seen → Type 0
Stays old new = new ≡ old

-- a hook that only looks at its session and its context was called once
abbrev pub Looks : (Standing → LogEntry → Type 0) → Hook → Item → ℕ → Seen → Seen → Left → Type 0
Looks allows which input mark old new left =
    CallsOf None false Stays allows which input old mark new mark left

-- a context was made, and that call stands in the log at the context's mark
abbrev pub MakesContext : {C : Type 0} → (ℕ → Left → Type 0) → (C → ℕ) → Result C Fail → Seen → Seen
    → Type 0
MakesContext called mark (Ok ctx) old new = called (mark ctx) (only item.Nothing)
MakesContext called mark (Err why) old new = new.log ≡ old.log
