-- What a purger means, and what one call of it does.
use Rattle.std.specs.Prelude.{◌≡◌, ℕ, ◌≤◌, List, [], ◌∷◌, Option}
use Rattle.relay_tasks.specs.declared.peer.PurgeAction.{PurgeAction}
use Rattle.relay_tasks.specs.declared.peer.Purged.{Purged}
use Rattle.relay_tasks.specs.declared.peer.Purged.TheVariants.{NoCache, Found, NotFound, Failed, OutOfMemory}
use Rattle.relay_links.specs.declared.purger.PurgeCall.{PurgeCall}
use Rattle.relay_links.specs.Count.{last_count, Rose}
use Rattle.relay_links.specs.Told.{more}

-- a purger: its calls in order, where it tells them, and how many failed
pub record PurgerState : Type 0 where
  pub told : Option (List PurgeCall)
  pub faults : ℕ

-- the call was answered, and the purger tells it
pub record Answers (before : PurgerState) (call : PurgeCall) (after : PurgerState) : Type 0 where
  pub told : after.told ≡ more before.told (call ∷ [])
  pub faults : after.faults ≡ before.faults
  pub fits : before.faults ≤ last_count

-- the call failed: the purger tells it, and the count of faults rose
pub record FailsPurge (before : PurgerState) (call : PurgeCall) (after : PurgerState) : Type 0 where
  pub told : after.told ≡ more before.told (call ∷ [])
  pub faults : Rose before.faults after.faults
  pub fits_before : before.faults ≤ last_count
  pub fits : after.faults ≤ last_count

-- what a call does, by its answer; when out of memory nothing changed
abbrev pub Purges : PurgerState → PurgeAction → List ℕ → List ℕ → PurgerState → Purged → Type 0
Purges before action host target after NoCache =
    Answers before
    (record { action = action; host = host; target = target; answer = NoCache }) after
Purges before action host target after Found =
    Answers before (record { action = action; host = host; target = target; answer = Found }) after
Purges before action host target after NotFound =
    Answers before
    (record { action = action; host = host; target = target; answer = NotFound }) after
Purges before action host target after (Failed fault) =
    FailsPurge before
    (record { action = action; host = host; target = target; answer = Failed fault }) after
Purges before action host target after OutOfMemory = after ≡ before
