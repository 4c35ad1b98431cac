-- The items of a script of a message link, and what each answers.
use Rattle.std.specs.Prelude.{◌≡◌, ℕ, ◌-◌, ◌==◌, Bool, true, false, cond, ◌&&◌, not, nat_le, IsTrue}
use Rattle.relay_messages.specs.declared.item.Stream.{Stream}
use Rattle.relay_messages.specs.declared.item.Stream.TheVariants.{Main, Messages}
use Rattle.relay_messages.specs.declared.item.ItemKind.{ItemKind}
use Rattle.relay_messages.specs.declared.item.ItemKind.TheVariants as kind
use Rattle.relay_messages.specs.declared.item.MessageItem.{MessageItem}
use Rattle.relay_messages.specs.declared.item.MessageItem.TheVariants as item
use Rattle.relay_messages.specs.declared.item.GivenItem.{GivenItem}
use Rattle.relay_messages.specs.declared.item.GivenItem.TheVariants as given_item
use Rattle.relay_messages.specs.declared.message_link.Came.{Came}
use Rattle.relay_messages.specs.declared.message_link.Came.TheVariants as came
use Rattle.relay_messages.specs.MessageFault.{as_receive_fault}

-- the kind of an item that was given
abbrev pub kind_of : GivenItem → ItemKind
kind_of (given_item.Head head end) = kind.Head
kind_of (given_item.Body piece end) = kind.Body
kind_of (given_item.Trailers fields) = kind.Trailers
kind_of (given_item.Message message) = kind.Message

-- the response ends with the item
abbrev pub is_last : GivenItem → Bool
is_last (given_item.Head head end) = end
is_last (given_item.Body piece end) = end
is_last (given_item.Trailers fields) = true
is_last (given_item.Message message) = false

-- the kinds by number
abbrev pub number_of : ItemKind → ℕ
number_of kind.Head = 0
number_of kind.Body = 1
number_of kind.Trailers = 2
number_of kind.Message = 3

-- they are one kind
abbrev pub is_same_kind : ItemKind → ItemKind → Bool
is_same_kind a b = number_of a == number_of b

-- how many calls of a stream the item lets wait
abbrev pub waits_of : MessageItem → ℕ
waits_of (item.Head head end) = 0
waits_of (item.Body piece end) = 0
waits_of (item.Trailers fields) = 0
waits_of (item.Message message) = 0
waits_of (item.Wait n) = n
waits_of (item.After n) = 0
waits_of (item.Fault fault) = 0
waits_of item.End = 0

-- what is left of an item of which so many waits are done
abbrev pub rest_of : MessageItem → ℕ → MessageItem
rest_of (item.Head head end) done = item.Head head end
rest_of (item.Body piece end) done = item.Body piece end
rest_of (item.Trailers fields) done = item.Trailers fields
rest_of (item.Message message) done = item.Message message
rest_of (item.Wait n) done = item.Wait (n - done)
rest_of (item.After n) done = item.After n
rest_of (item.Fault fault) done = item.Fault fault
rest_of item.End done = item.End

-- the stream of heads, bodies and trailers
abbrev pub is_main : Stream → Bool
is_main Main = true
is_main Messages = false

-- the stream passes over the item: it is of the other stream, or all that it answers was answered.
-- The response has ended in front of it where `over`, and the link took `taken` items
abbrev pub is_passed : Stream → Bool → ℕ → MessageItem → ℕ → Bool
is_passed stream over taken (item.Head head end) done = not (is_main stream)
is_passed stream over taken (item.Body piece end) done = not (is_main stream)
is_passed stream over taken (item.Trailers fields) done = not (is_main stream)
is_passed stream over taken (item.Message message) done = is_main stream
is_passed stream over taken (item.Wait n) done = nat_le n done
is_passed stream over taken (item.After n) done = nat_le n taken
is_passed stream over taken (item.Fault fault) done = false
is_passed stream over taken item.End done = is_main stream && over

-- an item is given to a call that wants its kind, and lets any other call wait
abbrev pub offered : ItemKind → GivenItem → Came GivenItem
offered wants item = cond (is_same_kind wants (kind_of item)) (came.Item item) came.NotReady

-- what an item answers to a call that wants that kind
abbrev pub answer_of : ItemKind → MessageItem → Came GivenItem
answer_of wants (item.Head head end) = offered wants (given_item.Head head end)
answer_of wants (item.Body piece end) = offered wants (given_item.Body piece end)
answer_of wants (item.Trailers fields) = offered wants (given_item.Trailers fields)
answer_of wants (item.Message message) = offered wants (given_item.Message message)
answer_of wants (item.Wait n) = came.NotReady
answer_of wants (item.After n) = came.Silent
answer_of wants (item.Fault fault) = came.Failed (as_receive_fault fault)
answer_of wants item.End = came.End

-- the answer takes memory: an item, or a fault, is to be kept
abbrev pub is_kept : Came GivenItem → Bool
is_kept (came.Item item) = true
is_kept came.NotReady = false
is_kept came.Silent = false
is_kept came.End = false
is_kept (came.Failed fault) = true
is_kept came.OutOfMemory = false

-- the answer is the one that is due; where that takes memory, memory may be wanted
abbrev pub IsAnswer : Came GivenItem → Came GivenItem → Type 0
IsAnswer due (came.Item item) = due ≡ came.Item item
IsAnswer due came.NotReady = due ≡ came.NotReady
IsAnswer due came.Silent = due ≡ came.Silent
IsAnswer due came.End = due ≡ came.End
IsAnswer due (came.Failed fault) = due ≡ came.Failed fault
IsAnswer due came.OutOfMemory = IsTrue (is_kept due)

-- an item that is the answer is of that kind
abbrev pub IsWanted : ItemKind → Came GivenItem → Type 0
IsWanted wants (came.Item item) = is_same_kind wants (kind_of item) ≡ true
IsWanted wants came.NotReady = Unit {0}
IsWanted wants came.Silent = Unit {0}
IsWanted wants came.End = Unit {0}
IsWanted wants (came.Failed fault) = Unit {0}
IsWanted wants came.OutOfMemory = Unit {0}
