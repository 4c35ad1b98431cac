-- The place of a link among the items of its script of sends, and what the item in front answers.
use Rattle.std.specs.Prelude.{◌≡◌, ℕ, ◌-◌, Bool, true, List, [], ◌∷◌, drop}
use Rattle.relay_links.specs.declared.write_script.WriteItem.{WriteItem}
use Rattle.relay_links.specs.declared.write_script.WriteItem.TheVariants as item
use Rattle.relay_links.specs.WriteScript as writes
use Rattle.relay_messages.specs.declared.message_link.Sent.{Sent}
use Rattle.relay_messages.specs.declared.message_link.Sent.TheVariants as sent
use Rattle.relay_messages.specs.declared.send_place.SendPlace.{SendPlace}
use Rattle.relay_messages.specs.Front.{begun, unpassed}
use Rattle.relay_messages.specs.MessageFault.{as_send_fault}
use Rattle.relay_messages.specs.MessageLink.{IsSendFault}

-- the item is passed over: a number of bytes says nothing of whole messages, and each other one is
-- passed over as in a script of writes
abbrev pub is_passed : WriteItem → ℕ → Bool
is_passed (item.Take n) done = true
is_passed item done = writes.is_passed item done

-- the items that are left at a place
abbrev pub sends_left : List WriteItem → SendPlace → List WriteItem
sends_left items place = begun writes.rest_of (drop place.at items) place.done

-- the items from the one that answers next
abbrev pub sends_front : List WriteItem → SendPlace → List WriteItem
sends_front items place = unpassed (λ item. is_passed item 0) (sends_left items place)

-- what the item in front makes of a send; past the last item it is done
abbrev pub turn_of : List WriteItem → Sent
turn_of [] = sent.Done
turn_of (item.Take n ∷ items) = sent.Done
turn_of (item.Wait n ∷ items) = sent.NotReady
turn_of (item.Fault fault ∷ items) = sent.Failed (as_send_fault fault)

-- the items that are left after that
abbrev pub after_turn : List WriteItem → List WriteItem
after_turn [] = []
after_turn (item.Take n ∷ items) = item.Take n ∷ items
after_turn (item.Wait n ∷ items) = item.Wait (n - 1) ∷ items
after_turn (item.Fault fault ∷ items) = items

-- a send that is not silent, nor wants memory, and that fails by a fault of a send
abbrev pub IsTurn : Sent → Type 0
IsTurn sent.Done = Unit {0}
IsTurn sent.NotReady = Unit {0}
IsTurn sent.Silent = ⊥
IsTurn (sent.Failed fault) = IsSendFault fault
IsTurn sent.OutOfMemory = ⊥

-- the item in front takes its turn with a send: what becomes of it, and the items that are left
pub record TakesTurn (items : List WriteItem) (before : SendPlace) (answer : Sent)
    (after : SendPlace) : Type 0 where
  pub exact : turn_of (sends_front items before) ≡ answer
  pub left : sends_left items after ≡ after_turn (sends_front items before)
  pub kind : IsTurn answer
