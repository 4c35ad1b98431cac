-- The place of a stream among the items of a script, and what the item in front answers.
use Rattle.std.specs.Prelude.{◌≡◌, ℕ, Bool, true, false, cond, ◌&&◌, ◌||◌, not, IsTrue, List, [], ◌∷◌, drop}
use Rattle.relay_messages.specs.declared.item.Stream.{Stream}
use Rattle.relay_messages.specs.declared.item.Stream.TheVariants.{Main, Messages}
use Rattle.relay_messages.specs.declared.item.ItemKind.{ItemKind}
use Rattle.relay_messages.specs.declared.item.MessageItem.{MessageItem}
use Rattle.relay_messages.specs.declared.item.MessageItem.TheVariants as item
use Rattle.relay_messages.specs.declared.item.GivenItem.{GivenItem}
use Rattle.relay_messages.specs.declared.message_link.Came.{Came}
use Rattle.relay_messages.specs.declared.message_link.Came.TheVariants as came
use Rattle.relay_messages.specs.declared.item_place.ItemPlace.{ItemPlace}
use Rattle.relay_messages.specs.declared.item_place.StreamPlaces.{StreamPlaces}
use Rattle.relay_messages.specs.Front.{begun, unpassed, behind}
use Rattle.relay_messages.specs.Item.{kind_of, is_same_kind, is_last, rest_of, is_passed, answer_of, is_kept}
use Rattle.relay_messages.specs.MessageLink.{IsReceiveFault}

-- the place of a stream
abbrev pub place_of : Stream → StreamPlaces → ItemPlace
place_of Main places = places.main
place_of Messages places = places.messages

-- the place in front of all items
abbrev pub first_place : ItemPlace
first_place = record { at = 0; done = 0; over = false; ended = false }

-- the items that are left at a place
abbrev pub left_of : List MessageItem → ItemPlace → List MessageItem
left_of items place = begun rest_of (drop place.at items) place.done

-- the items from the one that answers the stream's next call, where the link took that many
abbrev pub front_of : Stream → ℕ → List MessageItem → ItemPlace → List MessageItem
front_of stream taken items place =
    unpassed (λ item. is_passed stream place.over taken item 0) (left_of items place)

-- the item keeps the stream silent until the link takes something
abbrev pub is_after : MessageItem → Bool
is_after (item.Head head end) = false
is_after (item.Body piece end) = false
is_after (item.Trailers fields) = false
is_after (item.Message message) = false
is_after (item.Wait n) = false
is_after (item.After n) = true
is_after (item.Fault fault) = false
is_after item.End = false

-- the items in front keep silent, or there are none
abbrev pub is_silent : List MessageItem → Bool
is_silent [] = true
is_silent (item ∷ items) = is_after item

-- the stream is silent at that place
abbrev pub place_silent : Stream → ℕ → List MessageItem → ItemPlace → Bool
place_silent stream taken items place =
    not place.ended && is_silent (front_of stream taken items place)

-- what the items in front answer to a call that wants that kind
abbrev pub front_answer : ItemKind → List MessageItem → Came GivenItem
front_answer wants [] = came.Silent
front_answer wants (item ∷ items) = answer_of wants item

-- the answer that is due at a place; an ended stream answers End
abbrev pub due : Stream → ItemKind → ℕ → List MessageItem → ItemPlace → Came GivenItem
due stream wants taken items place =
    cond place.ended came.End (front_answer wants (front_of stream taken items place))

-- the items that an answer leaves: those behind an item that was given and behind a fault, and one
-- wait less where the call waits
abbrev pub after_answer : Came GivenItem → List MessageItem → List MessageItem
after_answer (came.Item item) front = behind front
after_answer came.NotReady front = begun rest_of front 1
after_answer came.Silent front = front
after_answer came.End front = front
after_answer (came.Failed fault) front = behind front
after_answer came.OutOfMemory front = front

-- the response ends with the answer
abbrev pub ends_with : Came GivenItem → Bool
ends_with (came.Item item) = is_last item
ends_with came.NotReady = false
ends_with came.Silent = false
ends_with came.End = false
ends_with (came.Failed fault) = false
ends_with came.OutOfMemory = false

-- the item in front answered, and the items that are left are as it leaves them
pub record FollowsItems (stream : Stream) (wants : ItemKind) (taken : ℕ) (items : List MessageItem)
    (before : ItemPlace) (answer : Came GivenItem) (after : ItemPlace) : Type 0 where
  pub was_open : before.ended ≡ false
  pub spoke : place_silent stream taken items before ≡ false
  pub exact : due stream wants taken items before ≡ answer
  pub left : left_of items after
      ≡ after_answer answer (front_of stream taken items before)
  pub over : after.over ≡ (before.over || ends_with answer)
  pub ended : after.ended ≡ false

-- no item answers before the link takes something
pub record IsSilentAt (stream : Stream) (wants : ItemKind) (taken : ℕ) (items : List MessageItem)
    (before : ItemPlace) : Type 0 where
  pub was_open : before.ended ≡ false
  pub silent : place_silent stream taken items before ≡ true
  pub exact : due stream wants taken items before ≡ came.Silent

-- the stream has come to its end
pub record EndsAt (stream : Stream) (wants : ItemKind) (taken : ℕ) (items : List MessageItem)
    (before after : ItemPlace) : Type 0 where
  pub spoke : place_silent stream taken items before ≡ false
  pub exact : due stream wants taken items before ≡ came.End
  pub over : after.over ≡ before.over
  pub ended : after.ended ≡ true

-- an answer was due that takes memory, and there was none for it
pub record WantsRoomAt (stream : Stream) (wants : ItemKind) (taken : ℕ) (items : List MessageItem)
    (before : ItemPlace) : Type 0 where
  pub was_open : before.ended ≡ false
  pub spoke : place_silent stream taken items before ≡ false
  pub kept : IsTrue (is_kept (due stream wants taken items before))

-- what a call that wants that kind does to the place of its stream, by its answer; after Silent and
-- out of memory the place is not kept
abbrev pub Steps : Stream → ItemKind → ℕ → List MessageItem → ItemPlace → Came GivenItem → ItemPlace
    → Type 0
Steps stream wants taken items before (came.Item item) after =
    FollowsItems stream wants taken items before (came.Item item) after
    × (is_same_kind wants (kind_of item) ≡ true)
Steps stream wants taken items before came.NotReady after =
    FollowsItems stream wants taken items before came.NotReady after
Steps stream wants taken items before came.Silent after = IsSilentAt stream wants taken items before
Steps stream wants taken items before came.End after = EndsAt stream wants taken items before after
Steps stream wants taken items before (came.Failed fault) after =
    FollowsItems stream wants taken items before (came.Failed fault) after × IsReceiveFault fault
Steps stream wants taken items before came.OutOfMemory after =
    WantsRoomAt stream wants taken items before
