-- What a message link that runs by scripts means, and what each of its answers follows from.
use Rattle.std.specs.Prelude.{◌≡◌, ℕ, ◌==◌, ◌&&◌, Bool, false, List, [], Some, vec_len}
use Rattle.relay_links.specs.declared.write_script.WriteItem.{WriteItem}
use Rattle.relay_messages.specs.declared.item.Stream.{Stream}
use Rattle.relay_messages.specs.declared.item.ItemKind.{ItemKind}
use Rattle.relay_messages.specs.declared.item.MessageItem.{MessageItem}
use Rattle.relay_messages.specs.declared.item.GivenItem.{GivenItem}
use Rattle.relay_messages.specs.declared.item_place.ItemPlace.{ItemPlace}
use Rattle.relay_messages.specs.declared.message_link.Came.{Came}
use Rattle.relay_messages.specs.declared.message_link.Came.TheVariants as came
use Rattle.relay_messages.specs.declared.message_link.Sent.{Sent}
use Rattle.relay_messages.specs.declared.message_link.Sent.TheVariants as sent
use Rattle.relay_messages.specs.declared.message_script.MessageScript.{MessageScript}
use Rattle.relay_messages.specs.ItemPlace.{first_place, place_of, place_silent, Steps}
use Rattle.relay_messages.specs.MessageLink.{MessageState, MessageStart, IsHandedOut, other}
use Rattle.relay_messages.specs.SendPlace.{TakesTurn}

-- a message link that is no custom link
abbrev pub ScriptMessages : Type 0
ScriptMessages = MessageScript 0

-- a custom link
abbrev pub ScriptCustom : Type 0
ScriptCustom = MessageScript 1

-- the link's state; it is never silent on a send
abbrev pub script_state : {custom : ℕ} → MessageScript custom → MessageState
script_state link = record {
  given = Some link.given.items;
  taken = Some link.taken.items;
  read_faults = Some link.read_faults.items;
  write_faults = Some link.write_faults.items;
  waits = link.waits;
  used = link.used;
  faults = link.faults;
  resets = link.resets;
  shutdowns = link.shutdowns;
  ended = λ stream. (place_of stream link.places).ended;
  silent_on_read = λ stream.
      place_silent stream (vec_len link.taken) link.read.items (place_of stream link.places);
  silent_on_write = false;
}

-- the link as it was handed out; only a custom link has a reader and a writer of messages
abbrev pub script_start : {custom : ℕ} → MessageScript custom → MessageStart
script_start {custom} link = record {
  items = Some (record { read = link.read.items; write = link.write.items });
  given = link.started.given;
  taken = link.started.taken;
  read_faults = link.started.read_faults;
  write_faults = link.started.write_faults;
  waits = link.started.waits;
  used = link.started.used;
  faults = link.started.faults;
  resets = link.started.resets;
  shutdowns = link.started.shutdowns;
  reused = link.started.reused;
  reader = (custom == 1) && link.reader;
  writer = (custom == 1) && link.writer;
}

-- the links answer by the same items, with the same reader and writer
pub record KeepsItems {custom : ℕ} (before after : MessageScript custom) : Type 0 where
  pub read : after.read ≡ before.read
  pub write : after.write ≡ before.write
  pub reader : after.reader ≡ before.reader
  pub writer : after.writer ≡ before.writer

-- the links answer by the same items, and stand at the same places
pub record KeepsScripts {custom : ℕ} (before after : MessageScript custom) : Type 0 where
  pub items : KeepsItems before after
  pub places : after.places ≡ before.places
  pub sends : after.sends ≡ before.sends

-- the link answers by these items, has answered nothing, and stands as it is handed out first
pub record IsFresh {custom : ℕ} (link : MessageScript custom) (read : List MessageItem)
    (write : List WriteItem) (reader writer : Bool) : Type 0 where
  pub reads : link.read.items ≡ read
  pub writes : link.write.items ≡ write
  pub has_reader : link.reader ≡ reader
  pub has_writer : link.writer ≡ writer
  pub places : link.places ≡ record { main = first_place; messages = first_place }
  pub sends : link.sends ≡ record { at = 0; done = 0 }
  pub given : link.given.items ≡ []
  pub taken : link.taken.items ≡ []
  pub read_faults : link.read_faults.items ≡ []
  pub write_faults : link.write_faults.items ≡ []
  pub counts : (link.waits ≡ 0) × (link.used ≡ 0) × (link.faults ≡ 0) × (link.resets ≡ 0)
      × (link.shutdowns ≡ 0)
  pub start : IsHandedOut (script_state link) (script_start link) false

-- an item as it is
abbrev pub same_item : GivenItem → GivenItem
same_item item = item

-- the answer with the item under that name
abbrev pub came_as : {T : Type 0} → (T → GivenItem) → Came T → Came GivenItem
came_as as_item (came.Item item) = came.Item (as_item item)
came_as as_item came.NotReady = came.NotReady
came_as as_item came.Silent = came.Silent
came_as as_item came.End = came.End
came_as as_item (came.Failed fault) = came.Failed fault
came_as as_item came.OutOfMemory = came.OutOfMemory

-- where a call was silent or found no memory, the stream stays at its place
abbrev pub StaysAt : Came GivenItem → ItemPlace → ItemPlace → Type 0
StaysAt (came.Item item) before after = Unit {0}
StaysAt came.NotReady before after = Unit {0}
StaysAt came.Silent before after = after ≡ before
StaysAt came.End before after = Unit {0}
StaysAt (came.Failed fault) before after = Unit {0}
StaysAt came.OutOfMemory before after = after ≡ before

-- a receiving call follows the script: the item in front of its stream answered, and the items that
-- are left for that stream are as it leaves them; the other stream stays at its place
pub record FollowsReads {custom : ℕ} {T : Type 0} (stream : Stream) (wants : ItemKind)
    (as_item : T → GivenItem) (before after : MessageScript custom) (answer : Came T) : Type 0 where
  pub steps : Steps stream wants (vec_len before.taken) before.read.items
      (place_of stream before.places) (came_as as_item answer) (place_of stream after.places)
  pub stays : StaysAt (came_as as_item answer) (place_of stream before.places)
      (place_of stream after.places)
  pub other : place_of (other stream) after.places ≡ place_of (other stream) before.places
  pub items : KeepsItems before after
  pub sends : after.sends ≡ before.sends

-- the item in front of the script of sends took its turn
pub record AnswersSend {custom : ℕ} (before : MessageScript custom) (answer : Sent)
    (after : MessageScript custom) : Type 0 where
  pub turn : TakesTurn before.write.items before.sends answer after.sends
  pub places : after.places ≡ before.places
  pub items : KeepsItems before after

-- a sending call follows the script of sends; when out of memory no item answers
abbrev pub FollowsWrites : {custom : ℕ} → MessageScript custom → MessageScript custom → Sent
    → Type 0
FollowsWrites before after sent.Done = AnswersSend before sent.Done after
FollowsWrites before after sent.NotReady = AnswersSend before sent.NotReady after
FollowsWrites before after sent.Silent = AnswersSend before sent.Silent after
FollowsWrites before after (sent.Failed fault) = AnswersSend before (sent.Failed fault) after
FollowsWrites before after sent.OutOfMemory = KeepsScripts before after
