-- What a script of writes answered, and which item answers the next write.
use Rattle.std.specs.Prelude.{◌≡◌, ℕ, zero, suc, ◌-◌, Bool, false, cond, nat_le, List, [], ◌∷◌, ◌++◌, slice_get, IfSome, ◌≤◌}
use Rattle.relay_tasks.specs.declared.fault.Fault.{Fault}
use Rattle.relay_links.specs.Fault.{as_write_fault}
use Rattle.relay_links.specs.declared.write_script.WriteItem.{WriteItem}
use Rattle.relay_links.specs.declared.write_script.WriteItem.TheVariants as item
use Rattle.relay_links.specs.declared.write_script.WriteScript.{WriteScript}
use Rattle.relay_links.specs.declared.write_script.WriteTurn.{WriteTurn}
use Rattle.relay_links.specs.declared.write_script.WriteTurn.TheVariants.{Takes, TakesAll, Waits, Fails}
use Rattle.relay_links.specs.Link.{IsWriteFault}

-- the fault of an item
abbrev pub fault_of : WriteItem → List Fault
fault_of (item.Take n) = []
fault_of (item.Wait n) = []
fault_of (item.Fault fault) = as_write_fault fault ∷ []

-- the faults of the items in front of a place
abbrev pub faults_before : List WriteItem → ℕ → List Fault
faults_before [] at = []
faults_before (item ∷ items) zero = []
faults_before (item ∷ items) (suc at) = fault_of item ++ faults_before items at

-- the item has answered all that it answers, where `done` waits of it are done
abbrev pub is_passed : WriteItem → ℕ → Bool
is_passed (item.Take n) done = nat_le n 0
is_passed (item.Wait n) done = nat_le n done
is_passed (item.Fault fault) done = false

-- what is left of an item
abbrev pub rest_of : WriteItem → ℕ → WriteItem
rest_of (item.Take n) done = item.Take n
rest_of (item.Wait n) done = item.Wait (n - done)
rest_of (item.Fault fault) done = item.Fault fault

-- the items that are left: what is left of the item at a place, and those behind it
abbrev pub left_items : List WriteItem → ℕ → ℕ → List WriteItem
left_items [] at done = []
left_items (item ∷ items) zero done = rest_of item done ∷ items
left_items (item ∷ items) (suc at) done = left_items items at done

-- the items from the first that has not answered all
abbrev pub unpassed : List WriteItem → List WriteItem
unpassed [] = []
unpassed (item ∷ items) = cond (is_passed item 0) (unpassed items) (item ∷ items)

-- what the item in front does with a write; past the last item all is taken
abbrev pub turn_of : List WriteItem → WriteTurn
turn_of [] = TakesAll
turn_of (item.Take n ∷ items) = Takes n
turn_of (item.Wait n ∷ items) = Waits
turn_of (item.Fault fault ∷ items) = Fails (as_write_fault fault)

-- the items that are left after that
abbrev pub after_turn : List WriteItem → List WriteItem
after_turn [] = []
after_turn (item.Take n ∷ items) = items
after_turn (item.Wait n ∷ items) = item.Wait (n - 1) ∷ items
after_turn (item.Fault fault ∷ items) = items

-- the faults that a script answered
abbrev pub script_faults : WriteScript → List Fault
script_faults script = faults_before script.items.items script.at

-- the items that it has left
abbrev pub script_left : WriteScript → List WriteItem
script_left script = left_items script.items.items script.at script.done

-- the items from the one that answers next
abbrev pub script_front : WriteScript → List WriteItem
script_front script = unpassed (script_left script)

-- the item at the script's place answers next: it has not answered all
pub record IsSettled (script : WriteScript) : Type 0 where
  pub front : script_front script ≡ script_left script
  pub stays : IfSome (slice_get script.items.items script.at)
      (λ item. is_passed item script.done ≡ false)

-- the script has passed items that have answered all, and nothing else changed
pub record Passes (before after : WriteScript) : Type 0 where
  pub items : after.items ≡ before.items
  pub faults : script_faults after ≡ script_faults before
  pub front : script_front after ≡ script_front before

-- the faults that a turn answers
abbrev pub turn_faults : WriteTurn → List Fault
turn_faults (Takes n) = []
turn_faults TakesAll = []
turn_faults Waits = []
turn_faults (Fails fault) = fault ∷ []

-- a turn that fails does so by a fault of a write
abbrev pub IsWriteTurn : WriteTurn → Type 0
IsWriteTurn (Takes n) = 1 ≤ n
IsWriteTurn TakesAll = Unit {0}
IsWriteTurn Waits = Unit {0}
IsWriteTurn (Fails fault) = IsWriteFault fault

-- the item in front takes its turn with a write: what becomes of the write, the items that are
-- left,
-- and the faults; the script's items stay
pub record TakesTurn (before : WriteScript) (after : WriteScript) (turn : WriteTurn) : Type 0 where
  pub exact : turn ≡ turn_of (script_front before)
  pub left : script_left after ≡ after_turn (script_front before)
  pub faults : script_faults after ≡ script_faults before ++ turn_faults turn
  pub kind : IsWriteTurn turn
  pub items : after.items ≡ before.items
