-- What a link means, and what one call of it does.
use Rattle.std.specs.Prelude.{◌≡◌, ℕ, ◌≤◌, Bool, true, false, List, [], ◌∷◌, ◌⊎◌, length, take, Option, IsTrue}
use Rattle.relay_tasks.specs.declared.fault.Fault.{Fault}
use Rattle.relay_tasks.specs.declared.fault.FaultKind.TheVariants as kind
use Rattle.relay_links.specs.declared.read_script.ReadItem.{ReadItem}
use Rattle.relay_links.specs.declared.write_script.WriteItem.{WriteItem}
use Rattle.relay_links.specs.declared.link.Got.{Got}
use Rattle.relay_links.specs.declared.link.Got.TheVariants as got
use Rattle.relay_links.specs.declared.link.Put.{Put}
use Rattle.relay_links.specs.declared.link.Put.TheVariants as put
use Rattle.relay_links.specs.declared.link.UpKind.{UpKind}
use Rattle.relay_links.specs.Count.{last_count, up, Rose}
use Rattle.relay_links.specs.Told.{more, told_length}

-- a link: what it gave, what it took and the faults that it answered, in order, where it tells
-- them; its answers NotReady, its answers other than Silent, and its faults, as counts; whether it
-- has answered End; whether a read gives nothing until it takes a byte, and a write takes nothing
-- until it gives one
pub record LinkState : Type 0 where
  pub given : Option (List ℕ)
  pub taken : Option (List ℕ)
  pub read_faults : Option (List Fault)
  pub write_faults : Option (List Fault)
  pub waits : ℕ
  pub used : ℕ
  pub faults : ℕ
  pub ended : Bool
  pub silent_on_read : Bool
  pub silent_on_write : Bool

-- the items by which a link answers, all of them, in order
pub record LinkItems : Type 0 where
  pub read : List ReadItem
  pub write : List WriteItem

-- a link as its connector handed it out: what it carries, the items by which it answers, where it
-- has such, the lengths of its lists (0 where not told), its counts, and whether it had been used
-- before
pub record LinkStart : Type 0 where
  pub kind : UpKind
  pub items : Option LinkItems
  pub given : ℕ
  pub taken : ℕ
  pub read_faults : ℕ
  pub write_faults : ℕ
  pub waits : ℕ
  pub used : ℕ
  pub faults : ℕ
  pub reused : Bool

-- the counts are u64s, and an ended link is not silent, since each read answers End
pub record IsSound (link : LinkState) : Type 0 where
  pub waits_fit : link.waits ≤ last_count
  pub used_fits : link.used ≤ last_count
  pub faults_fit : link.faults ≤ last_count
  pub ended_speaks : IsTrue link.ended → link.silent_on_read ≡ false

-- the link is as the connector hands it out
pub record IsHandedOut (link : LinkState) (start : LinkStart) (reused : Bool) : Type 0 where
  pub sound : IsSound link
  pub given : start.given ≡ told_length link.given
  pub taken : start.taken ≡ told_length link.taken
  pub read_faults : start.read_faults ≡ told_length link.read_faults
  pub write_faults : start.write_faults ≡ told_length link.write_faults
  pub waits : start.waits ≡ link.waits
  pub used : start.used ≡ link.used
  pub faults : start.faults ≡ link.faults
  pub marked : start.reused ≡ reused

-- a fault of a read
abbrev pub IsReadFault : Fault → Type 0
IsReadFault fault = (fault.kind ≡ kind.Read) ⊎ (fault.kind ≡ kind.ReadTimedout)

-- a fault of a write
abbrev pub IsWriteFault : Fault → Type 0
IsWriteFault fault = (fault.kind ≡ kind.Write) ⊎ (fault.kind ≡ kind.WriteTimedout)

-- a read gave the first n bytes of the room; from then on each silence is as the link chooses
pub record GivesBytes (before : LinkState) (room : List ℕ) (n : ℕ)
    (after : LinkState) : Type 0 where
  pub some : 1 ≤ n
  pub fits : n ≤ length room
  pub was_open : before.ended ≡ false
  pub spoke : before.silent_on_read ≡ false
  pub given : after.given ≡ more before.given (take n room)
  pub taken : after.taken ≡ before.taken
  pub read_faults : after.read_faults ≡ before.read_faults
  pub write_faults : after.write_faults ≡ before.write_faults
  pub waits : after.waits ≡ before.waits
  pub used : after.used ≡ up before.used
  pub faults : after.faults ≡ before.faults
  pub ended : after.ended ≡ false
  pub sound_before : IsSound before
  pub sound : IsSound after

-- a read gave nothing, and a later one may
pub record WaitsOnRead (before after : LinkState) : Type 0 where
  pub was_open : before.ended ≡ false
  pub spoke : before.silent_on_read ≡ false
  pub given : after.given ≡ before.given
  pub taken : after.taken ≡ before.taken
  pub read_faults : after.read_faults ≡ before.read_faults
  pub write_faults : after.write_faults ≡ before.write_faults
  pub waits : after.waits ≡ up before.waits
  pub used : after.used ≡ up before.used
  pub faults : after.faults ≡ before.faults
  pub ended : after.ended ≡ false
  pub silence_stands : IsTrue before.silent_on_write → after.silent_on_write ≡ true
  pub sound_before : IsSound before
  pub sound : IsSound after

-- no read gives anything until the link takes a byte, and nothing changed
pub record IsSilentOnRead (before after : LinkState) : Type 0 where
  pub was_open : before.ended ≡ false
  pub silent : before.silent_on_read ≡ true
  pub same : after ≡ before
  pub sound : IsSound before

-- the link has given all that it will give
pub record EndsRead (before after : LinkState) : Type 0 where
  pub spoke : before.silent_on_read ≡ false
  pub given : after.given ≡ before.given
  pub taken : after.taken ≡ before.taken
  pub read_faults : after.read_faults ≡ before.read_faults
  pub write_faults : after.write_faults ≡ before.write_faults
  pub waits : after.waits ≡ before.waits
  pub used : after.used ≡ up before.used
  pub faults : after.faults ≡ before.faults
  pub ended : after.ended ≡ true
  pub silent_on_read : after.silent_on_read ≡ false
  pub silence_stands : IsTrue before.silent_on_write → after.silent_on_write ≡ true
  pub sound_before : IsSound before
  pub sound : IsSound after

-- a read failed: the count of faults rose
pub record FailsRead (before : LinkState) (fault : Fault) (after : LinkState) : Type 0 where
  pub kind : IsReadFault fault
  pub was_open : before.ended ≡ false
  pub spoke : before.silent_on_read ≡ false
  pub given : after.given ≡ before.given
  pub taken : after.taken ≡ before.taken
  pub read_faults : after.read_faults ≡ more before.read_faults (fault ∷ [])
  pub write_faults : after.write_faults ≡ before.write_faults
  pub waits : after.waits ≡ before.waits
  pub used : after.used ≡ up before.used
  pub faults : Rose before.faults after.faults
  pub ended : after.ended ≡ false
  pub silence_stands : IsTrue before.silent_on_write → after.silent_on_write ≡ true
  pub sound_before : IsSound before
  pub sound : IsSound after

-- what a read does, by its answer: `room` is the room as the call left it
abbrev pub Reads : LinkState → List ℕ → LinkState → Got → Type 0
Reads before room after (got.Bytes n) = GivesBytes before room n after
Reads before room after got.NotReady = WaitsOnRead before after
Reads before room after got.Silent = IsSilentOnRead before after
Reads before room after got.End = EndsRead before after
Reads before room after (got.Failed fault) = FailsRead before fault after

-- a write took the first n bytes of the part; from then on each silence is as the link chooses
pub record TakesBytes (before : LinkState) (part : List ℕ) (n : ℕ)
    (after : LinkState) : Type 0 where
  pub some : 1 ≤ n
  pub fits : n ≤ length part
  pub spoke : before.silent_on_write ≡ false
  pub given : after.given ≡ before.given
  pub taken : after.taken ≡ more before.taken (take n part)
  pub read_faults : after.read_faults ≡ before.read_faults
  pub write_faults : after.write_faults ≡ before.write_faults
  pub waits : after.waits ≡ before.waits
  pub used : after.used ≡ up before.used
  pub faults : after.faults ≡ before.faults
  pub ended : after.ended ≡ before.ended
  pub sound_before : IsSound before
  pub sound : IsSound after

-- a write took nothing, and a later one may
pub record WaitsOnWrite (before after : LinkState) : Type 0 where
  pub spoke : before.silent_on_write ≡ false
  pub given : after.given ≡ before.given
  pub taken : after.taken ≡ before.taken
  pub read_faults : after.read_faults ≡ before.read_faults
  pub write_faults : after.write_faults ≡ before.write_faults
  pub waits : after.waits ≡ up before.waits
  pub used : after.used ≡ up before.used
  pub faults : after.faults ≡ before.faults
  pub ended : after.ended ≡ before.ended
  pub silence_stands : IsTrue before.silent_on_read → after.silent_on_read ≡ true
  pub sound_before : IsSound before
  pub sound : IsSound after

-- no write takes anything until the link gives a byte, and nothing changed
pub record IsSilentOnWrite (before after : LinkState) : Type 0 where
  pub silent : before.silent_on_write ≡ true
  pub same : after ≡ before
  pub sound : IsSound before

-- a write failed: the count of faults rose
pub record FailsWrite (before : LinkState) (fault : Fault) (after : LinkState) : Type 0 where
  pub kind : IsWriteFault fault
  pub spoke : before.silent_on_write ≡ false
  pub given : after.given ≡ before.given
  pub taken : after.taken ≡ before.taken
  pub read_faults : after.read_faults ≡ before.read_faults
  pub write_faults : after.write_faults ≡ more before.write_faults (fault ∷ [])
  pub waits : after.waits ≡ before.waits
  pub used : after.used ≡ up before.used
  pub faults : Rose before.faults after.faults
  pub ended : after.ended ≡ before.ended
  pub silence_stands : IsTrue before.silent_on_read → after.silent_on_read ≡ true
  pub sound_before : IsSound before
  pub sound : IsSound after

-- a write found no memory: nothing changed but the count of uses
pub record WantsMemory (before after : LinkState) : Type 0 where
  pub spoke : before.silent_on_write ≡ false
  pub same : after ≡ record before { used = up before.used }
  pub sound_before : IsSound before
  pub sound : IsSound after

-- what a write does, by its answer: `part` is what it was offered
abbrev pub Writes : LinkState → List ℕ → LinkState → Put → Type 0
Writes before part after (put.Took n) = TakesBytes before part n after
Writes before part after put.NotReady = WaitsOnWrite before after
Writes before part after put.Silent = IsSilentOnWrite before after
Writes before part after (put.Failed fault) = FailsWrite before fault after
Writes before part after put.OutOfMemory = WantsMemory before after
