-- What a script of reads gave, what it has left, and which item answers the next read.
use Rattle.std.specs.Prelude.{◌≡◌, ℕ, zero, suc, ◌-◌, min, Bool, true, false, cond, nat_le, List, [], ◌∷◌, ◌++◌, length, take, drop, flat_map, slice_get, Some, IfSome, ◌≤◌, ◌&&◌, not}
use Rattle.relay_tasks.specs.declared.fault.Fault.{Fault}
use Rattle.relay_links.specs.Fault.{as_read_fault}
use Rattle.relay_links.specs.Link.{IsReadFault}
use Rattle.relay_links.specs.declared.link.Got.{Got}
use Rattle.relay_links.specs.declared.link.Got.TheVariants as got
use Rattle.relay_links.specs.declared.read_script.ReadItem.{ReadItem}
use Rattle.relay_links.specs.declared.read_script.ReadItem.TheVariants as item
use Rattle.relay_links.specs.declared.read_script.ReadScript.{ReadScript}

-- the bytes of an item
abbrev pub bytes_of : ReadItem → List ℕ
bytes_of (item.Bytes bytes) = bytes
bytes_of (item.Wait n) = []
bytes_of (item.After n) = []
bytes_of (item.Fault fault) = []
bytes_of item.End = []

-- the fault of an item
abbrev pub fault_of : ReadItem → List Fault
fault_of (item.Bytes bytes) = []
fault_of (item.Wait n) = []
fault_of (item.After n) = []
fault_of (item.Fault fault) = as_read_fault fault ∷ []
fault_of item.End = []

-- the bytes of all items
abbrev pub all_bytes : List ReadItem → List ℕ
all_bytes items = flat_map bytes_of items

-- the bytes of the items in front of a place, and so many bytes of the item there
abbrev pub given_of : List ReadItem → ℕ → ℕ → List ℕ
given_of [] at done = []
given_of (item ∷ items) zero done = take done (bytes_of item)
given_of (item ∷ items) (suc at) done = bytes_of item ++ given_of items at done

-- the faults of the items in front of a place
abbrev pub faults_before : List ReadItem → ℕ → List Fault
faults_before [] at = []
faults_before (item ∷ items) zero = []
faults_before (item ∷ items) (suc at) = fault_of item ++ faults_before items at

-- the item has answered all that it answers: `done` bytes or waits of it are done, and the link
-- took `taken` bytes in all
abbrev pub is_passed : ReadItem → ℕ → ℕ → Bool
is_passed (item.Bytes bytes) done taken = nat_le (length bytes) done
is_passed (item.Wait n) done taken = nat_le n done
is_passed (item.After n) done taken = nat_le n taken
is_passed (item.Fault fault) done taken = false
is_passed item.End done taken = false

-- what is left of an item
abbrev pub rest_of : ReadItem → ℕ → ReadItem
rest_of (item.Bytes bytes) done = item.Bytes (drop done bytes)
rest_of (item.Wait n) done = item.Wait (n - done)
rest_of (item.After n) done = item.After n
rest_of (item.Fault fault) done = item.Fault fault
rest_of item.End done = item.End

-- the items that are left: what is left of the item at a place, and those behind it
abbrev pub left_items : List ReadItem → ℕ → ℕ → List ReadItem
left_items [] at done = []
left_items (item ∷ items) zero done = rest_of item done ∷ items
left_items (item ∷ items) (suc at) done = left_items items at done

-- the items from the first that has not answered all
abbrev pub unpassed : List ReadItem → ℕ → List ReadItem
unpassed [] taken = []
unpassed (item ∷ items) taken = cond (is_passed item 0 taken) (unpassed items taken) (item ∷ items)

-- no read gives anything before the link takes a byte: the item in front waits for that, or the
-- items are used up
abbrev pub is_silent : List ReadItem → Bool
is_silent [] = true
is_silent (item.Bytes bytes ∷ items) = false
is_silent (item.Wait n ∷ items) = false
is_silent (item.After n ∷ items) = true
is_silent (item.Fault fault ∷ items) = false
is_silent (item.End ∷ items) = false

-- the answer of the item in front to a room of that length
abbrev pub answer_of : List ReadItem → ℕ → Got
answer_of [] room = got.Silent
answer_of (item.Bytes bytes ∷ items) room = got.Bytes (min (length bytes) room)
answer_of (item.Wait n ∷ items) room = got.NotReady
answer_of (item.After n ∷ items) room = got.Silent
answer_of (item.Fault fault ∷ items) room = got.Failed (as_read_fault fault)
answer_of (item.End ∷ items) room = got.End

-- the items that are left after that answer
abbrev pub after_answer : List ReadItem → ℕ → List ReadItem
after_answer [] room = []
after_answer (item.Bytes bytes ∷ items) room =
    item.Bytes (drop (min (length bytes) room) bytes) ∷ items
after_answer (item.Wait n ∷ items) room = item.Wait (n - 1) ∷ items
after_answer (item.After n ∷ items) room = item.After n ∷ items
after_answer (item.Fault fault ∷ items) room = items
after_answer (item.End ∷ items) room = item.End ∷ items

-- the end comes first of these items
abbrev pub IsAtEnd : List ReadItem → Type 0
IsAtEnd items = slice_get items 0 ≡ Some item.End

-- what a script gave
abbrev pub script_given : ReadScript → List ℕ
script_given script = given_of script.items.items script.at script.done

-- the items that it has left
abbrev pub script_left : ReadScript → List ReadItem
script_left script = left_items script.items.items script.at script.done

-- the faults that it answered
abbrev pub script_faults : ReadScript → List Fault
script_faults script = faults_before script.items.items script.at

-- the items from the one that answers next, where the link took that many bytes
abbrev pub script_front : ReadScript → ℕ → List ReadItem
script_front script taken = unpassed (script_left script) taken

-- the script is silent where the link took that many bytes
abbrev pub script_silent : ReadScript → ℕ → Bool
script_silent script taken = not script.ended && is_silent (script_front script taken)

-- its answer to a room of that length
abbrev pub script_answer : ReadScript → ℕ → ℕ → Got
script_answer script taken room =
    cond script.ended got.End (answer_of (script_front script taken) room)

-- the items that it has left after that answer
abbrev pub script_after : ReadScript → ℕ → ℕ → List ReadItem
script_after script taken room =
    cond script.ended (script_left script) (after_answer (script_front script taken) room)

-- the item at the script's place answers next: it has not answered all
pub record IsSettled (script : ReadScript) (taken : ℕ) : Type 0 where
  pub front : script_front script taken ≡ script_left script
  pub stays : IfSome (slice_get script.items.items script.at)
      (λ item. is_passed item script.done taken ≡ false)

-- the script has passed items that have answered all, and nothing else changed
pub record Passes (before after : ReadScript) (taken : ℕ) : Type 0 where
  pub items : after.items ≡ before.items
  pub ended : after.ended ≡ before.ended
  pub given : script_given after ≡ script_given before
  pub faults : script_faults after ≡ script_faults before
  pub front : script_front after taken ≡ script_front before taken

-- the item in front answers a room of that length, and the items that are left are as it leaves
-- them; the script's items stay
pub record ReadStep (before : ReadScript) (taken room : ℕ) (answer : Got)
    (after : ReadScript) : Type 0 where
  pub exact : answer ≡ script_answer before taken room
  pub left : script_left after ≡ script_after before taken room
  pub items : after.items ≡ before.items

-- a read gave the first n bytes of the room
pub record ScriptGives (before : ReadScript) (taken : ℕ) (room : List ℕ) (n : ℕ)
    (after : ReadScript) : Type 0 where
  pub some : 1 ≤ n
  pub fits : n ≤ length room
  pub was_open : before.ended ≡ false
  pub spoke : script_silent before taken ≡ false
  pub given : script_given after ≡ script_given before ++ take n room
  pub faults : script_faults after ≡ script_faults before
  pub ended : after.ended ≡ false
  pub step : ReadStep before taken (length room) (got.Bytes n) after

-- a read gave nothing, and a later one may
pub record ScriptWaits (before : ReadScript) (taken room : ℕ) (after : ReadScript) : Type 0 where
  pub was_open : before.ended ≡ false
  pub spoke : script_silent before taken ≡ false
  pub given : script_given after ≡ script_given before
  pub faults : script_faults after ≡ script_faults before
  pub ended : after.ended ≡ false
  pub step : ReadStep before taken room got.NotReady after

-- no read gives anything before the link takes a byte
pub record ScriptIsSilent (before : ReadScript) (taken room : ℕ) (after : ReadScript) : Type 0 where
  pub was_open : before.ended ≡ false
  pub silent : script_silent before taken ≡ true
  pub stays_silent : script_silent after taken ≡ true
  pub given : script_given after ≡ script_given before
  pub faults : script_faults after ≡ script_faults before
  pub ended : after.ended ≡ false
  pub step : ReadStep before taken room got.Silent after

-- the script has come to its end
pub record ScriptEnds (before : ReadScript) (taken room : ℕ) (after : ReadScript) : Type 0 where
  pub spoke : script_silent before taken ≡ false
  pub given : script_given after ≡ script_given before
  pub faults : script_faults after ≡ script_faults before
  pub ended : after.ended ≡ true
  pub step : ReadStep before taken room got.End after

-- a read failed
pub record ScriptFails (before : ReadScript) (taken room : ℕ) (fault : Fault)
    (after : ReadScript) : Type 0 where
  pub kind : IsReadFault fault
  pub was_open : before.ended ≡ false
  pub spoke : script_silent before taken ≡ false
  pub given : script_given after ≡ script_given before
  pub faults : script_faults after ≡ script_faults before ++ fault ∷ []
  pub ended : after.ended ≡ false
  pub step : ReadStep before taken room (got.Failed fault) after

-- what a read does to the script, by its answer: `room` is the room as the call left it
abbrev pub ReadsScript : ReadScript → ℕ → List ℕ → ReadScript → Got → Type 0
ReadsScript before taken room after (got.Bytes n) = ScriptGives before taken room n after
ReadsScript before taken room after got.NotReady = ScriptWaits before taken (length room) after
ReadsScript before taken room after got.Silent = ScriptIsSilent before taken (length room) after
ReadsScript before taken room after got.End = ScriptEnds before taken (length room) after
ReadsScript before taken room after (got.Failed fault) =
    ScriptFails before taken (length room) fault after
