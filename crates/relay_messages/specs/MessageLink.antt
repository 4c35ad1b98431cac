-- What a message link means, and what one call of it does.
use Rattle.std.specs.Prelude.{◌≡◌, ℕ, ◌≤◌, ◌⊎◌, Bool, true, false, List, [], ◌∷◌, Option, IsTrue}
use Rattle.relay_tasks.specs.Head.{Fields, ResponseHead}
use Rattle.relay_tasks.specs.declared.fault.Fault.{Fault}
use Rattle.relay_tasks.specs.declared.fault.FaultKind.TheVariants as kind
use Rattle.relay_links.specs.declared.write_script.WriteItem.{WriteItem}
use Rattle.relay_links.specs.Count.{last_count, up, Rose}
use Rattle.relay_links.specs.Link.{IsReadFault, IsWriteFault}
use Rattle.relay_links.specs.Told.{more, told_length}
use Rattle.relay_messages.specs.declared.item.Stream.{Stream}
use Rattle.relay_messages.specs.declared.item.Stream.TheVariants.{Main, Messages}
use Rattle.relay_messages.specs.declared.item.MessageItem.{MessageItem}
use Rattle.relay_messages.specs.declared.item.GivenItem.{GivenItem}
use Rattle.relay_messages.specs.declared.item.GivenItem.TheVariants as given_item
use Rattle.relay_messages.specs.declared.item.TakenItem.{TakenItem}
use Rattle.relay_messages.specs.declared.message_link.Came.{Came}
use Rattle.relay_messages.specs.declared.message_link.Came.TheVariants as came
use Rattle.relay_messages.specs.declared.message_link.Sent.{Sent}
use Rattle.relay_messages.specs.declared.message_link.Sent.TheVariants as sent

-- a message link: what it gave, what it took and the faults that it answered, in order, where it
-- tells them; its answers NotReady, its answers other than Silent, its faults, its resets and its
-- marks for shutdown, as counts; of each stream whether it has ended, and whether it gives nothing
-- until the link takes something; whether the link takes nothing until it gives something
pub record MessageState : Type 0 where
  pub given : Option (List GivenItem)
  pub taken : Option (List TakenItem)
  pub read_faults : Option (List Fault)
  pub write_faults : Option (List Fault)
  pub waits : ℕ
  pub used : ℕ
  pub faults : ℕ
  pub resets : ℕ
  pub shutdowns : ℕ
  pub ended : Stream → Bool
  pub silent_on_read : Stream → Bool
  pub silent_on_write : Bool

-- the items by which a message link answers, all of them, in order
pub record MessageItems : Type 0 where
  pub read : List MessageItem
  pub write : List WriteItem

-- a message link as its connector handed it out: the items by which it answers, where it has such,
-- the lengths of its lists (0 where not told), its counts, whether it had been used before, and
-- whether it has a reader and a writer of messages
pub record MessageStart : Type 0 where
  pub items : Option MessageItems
  pub given : ℕ
  pub taken : ℕ
  pub read_faults : ℕ
  pub write_faults : ℕ
  pub waits : ℕ
  pub used : ℕ
  pub faults : ℕ
  pub resets : ℕ
  pub shutdowns : ℕ
  pub reused : Bool
  pub reader : Bool
  pub writer : Bool

-- the other stream
abbrev pub other : Stream → Stream
other Main = Messages
other Messages = Main

-- the counts are u64s, and a stream that has ended is not silent, since each call answers End
pub record IsSound (link : MessageState) : Type 0 where
  pub waits_fit : link.waits ≤ last_count
  pub used_fits : link.used ≤ last_count
  pub faults_fit : link.faults ≤ last_count
  pub ended_speaks : (stream : Stream) → IsTrue (link.ended stream)
      → link.silent_on_read stream ≡ false

-- the link is as the connector hands it out
pub record IsHandedOut (link : MessageState) (start : MessageStart) (reused : Bool) : Type 0 where
  pub sound : IsSound link
  pub given : start.given ≡ told_length link.given
  pub taken : start.taken ≡ told_length link.taken
  pub read_faults : start.read_faults ≡ told_length link.read_faults
  pub write_faults : start.write_faults ≡ told_length link.write_faults
  pub waits : start.waits ≡ link.waits
  pub used : start.used ≡ link.used
  pub faults : start.faults ≡ link.faults
  pub resets : start.resets ≡ link.resets
  pub shutdowns : start.shutdowns ≡ link.shutdowns
  pub marked : start.reused ≡ reused

-- the link after one more reset
abbrev pub reset_once : MessageState → MessageState
reset_once link = record link { resets = up link.resets }

-- the link after one more mark for shutdown
abbrev pub marked_once : MessageState → MessageState
marked_once link = record link { shutdowns = up link.shutdowns }

-- a head that came is given as this item
abbrev pub given_head : ResponseHead × Bool → GivenItem
given_head came = given_item.Head came.0 came.1

-- a piece that came is given as this item
abbrev pub given_body : List ℕ × Bool → GivenItem
given_body came = given_item.Body came.0 came.1

-- trailers that came are given as this item
abbrev pub given_trailers : Fields → GivenItem
given_trailers came = given_item.Trailers came

-- a message that came is given as this item
abbrev pub given_message : List ℕ → GivenItem
given_message came = given_item.Message came

-- a fault of a receiving call
abbrev pub IsReceiveFault : Fault → Type 0
IsReceiveFault fault = IsReadFault fault ⊎ (fault.kind ≡ kind.H2Error)
    ⊎ (fault.kind ≡ kind.H2Downgrade) ⊎ (fault.kind ≡ kind.InvalidH2)

-- a fault of a sending call
abbrev pub IsSendFault : Fault → Type 0
IsSendFault fault = IsWriteFault fault ⊎ (fault.kind ≡ kind.H2Error)

-- what no receiving call on a stream changes: what the link took, the faults of its sends, its
-- resets and marks, and the end of the other stream, whose silence stands
pub record LeavesOther (stream : Stream) (before after : MessageState) : Type 0 where
  pub taken : after.taken ≡ before.taken
  pub write_faults : after.write_faults ≡ before.write_faults
  pub resets : after.resets ≡ before.resets
  pub shutdowns : after.shutdowns ≡ before.shutdowns
  pub ended : after.ended (other stream) ≡ before.ended (other stream)
  pub silence_stands : IsTrue (before.silent_on_read (other stream))
      → after.silent_on_read (other stream) ≡ true
  pub sound_before : IsSound before
  pub sound : IsSound after

-- the item was given; from then on the stream's silence, and that on sends, are as the link chooses
pub record GivesItem (stream : Stream) (before : MessageState) (item : GivenItem)
    (after : MessageState) : Type 0 where
  pub was_open : before.ended stream ≡ false
  pub spoke : before.silent_on_read stream ≡ false
  pub given : after.given ≡ more before.given (item ∷ [])
  pub read_faults : after.read_faults ≡ before.read_faults
  pub waits : after.waits ≡ before.waits
  pub used : after.used ≡ up before.used
  pub faults : after.faults ≡ before.faults
  pub ended : after.ended stream ≡ false
  pub rest : LeavesOther stream before after

-- nothing was given, and a later call may be given something
pub record WaitsOnReceive (stream : Stream) (before after : MessageState) : Type 0 where
  pub was_open : before.ended stream ≡ false
  pub spoke : before.silent_on_read stream ≡ false
  pub given : after.given ≡ before.given
  pub read_faults : after.read_faults ≡ before.read_faults
  pub waits : after.waits ≡ up before.waits
  pub used : after.used ≡ up before.used
  pub faults : after.faults ≡ before.faults
  pub ended : after.ended stream ≡ false
  pub silence_stands : IsTrue before.silent_on_write → after.silent_on_write ≡ true
  pub rest : LeavesOther stream before after

-- the stream gives nothing until the link takes something, and nothing changed
pub record IsSilentOnReceive (stream : Stream) (before after : MessageState) : Type 0 where
  pub was_open : before.ended stream ≡ false
  pub silent : before.silent_on_read stream ≡ true
  pub same : after ≡ before
  pub sound : IsSound before

-- the stream has given all that it will give
pub record EndsStream (stream : Stream) (before after : MessageState) : Type 0 where
  pub spoke : before.silent_on_read stream ≡ false
  pub given : after.given ≡ before.given
  pub read_faults : after.read_faults ≡ before.read_faults
  pub waits : after.waits ≡ before.waits
  pub used : after.used ≡ up before.used
  pub faults : after.faults ≡ before.faults
  pub ended : after.ended stream ≡ true
  pub silence_stands : IsTrue before.silent_on_write → after.silent_on_write ≡ true
  pub rest : LeavesOther stream before after

-- a receiving call failed: the count of faults rose
pub record FailsReceive (stream : Stream) (before : MessageState) (fault : Fault)
    (after : MessageState) : Type 0 where
  pub kind : IsReceiveFault fault
  pub was_open : before.ended stream ≡ false
  pub spoke : before.silent_on_read stream ≡ false
  pub given : after.given ≡ before.given
  pub read_faults : after.read_faults ≡ more before.read_faults (fault ∷ [])
  pub waits : after.waits ≡ before.waits
  pub used : after.used ≡ up before.used
  pub faults : Rose before.faults after.faults
  pub ended : after.ended stream ≡ false
  pub silence_stands : IsTrue before.silent_on_write → after.silent_on_write ≡ true
  pub rest : LeavesOther stream before after

-- a call found no memory: nothing changed but the count of uses
pub record WantsMemory (before after : MessageState) : Type 0 where
  pub same : after ≡ record before { used = up before.used }
  pub sound_before : IsSound before
  pub sound : IsSound after

-- a receiving call on a stream that had not ended and was not silent found no memory
pub record WantsRoom (stream : Stream) (before after : MessageState) : Type 0 where
  pub was_open : before.ended stream ≡ false
  pub spoke : before.silent_on_read stream ≡ false
  pub memory : WantsMemory before after

-- what a receiving call does, by its answer: what came is given as the item of that name
abbrev pub Receives : {T : Type 0} → Stream → (T → GivenItem) → MessageState → MessageState
    → Came T → Type 0
Receives stream as_item before after (came.Item item) =
    GivesItem stream before (as_item item) after
Receives stream as_item before after came.NotReady = WaitsOnReceive stream before after
Receives stream as_item before after came.Silent = IsSilentOnReceive stream before after
Receives stream as_item before after came.End = EndsStream stream before after
Receives stream as_item before after (came.Failed fault) = FailsReceive stream before fault after
Receives stream as_item before after came.OutOfMemory = WantsRoom stream before after

-- what no sending call changes: what the link gave, the faults of its receives, its resets and
-- marks, and the ends of its streams
pub record LeavesStreams (before after : MessageState) : Type 0 where
  pub given : after.given ≡ before.given
  pub read_faults : after.read_faults ≡ before.read_faults
  pub resets : after.resets ≡ before.resets
  pub shutdowns : after.shutdowns ≡ before.shutdowns
  pub ended : after.ended ≡ before.ended
  pub sound_before : IsSound before
  pub sound : IsSound after

-- the item was taken; from then on each silence is as the link chooses
pub record TakesItem (before : MessageState) (item : TakenItem)
    (after : MessageState) : Type 0 where
  pub spoke : before.silent_on_write ≡ false
  pub taken : after.taken ≡ more before.taken (item ∷ [])
  pub write_faults : after.write_faults ≡ before.write_faults
  pub waits : after.waits ≡ before.waits
  pub used : after.used ≡ up before.used
  pub faults : after.faults ≡ before.faults
  pub rest : LeavesStreams before after

-- nothing was taken, and a later call may take something
pub record WaitsOnSend (before after : MessageState) : Type 0 where
  pub spoke : before.silent_on_write ≡ false
  pub taken : after.taken ≡ before.taken
  pub write_faults : after.write_faults ≡ before.write_faults
  pub waits : after.waits ≡ up before.waits
  pub used : after.used ≡ up before.used
  pub faults : after.faults ≡ before.faults
  pub silence_stands : (stream : Stream) → IsTrue (before.silent_on_read stream)
      → after.silent_on_read stream ≡ true
  pub rest : LeavesStreams before after

-- nothing is taken until the link gives something, and nothing changed
pub record IsSilentOnSend (before after : MessageState) : Type 0 where
  pub silent : before.silent_on_write ≡ true
  pub same : after ≡ before
  pub sound : IsSound before

-- a sending call failed: the count of faults rose
pub record FailsSend (before : MessageState) (fault : Fault) (after : MessageState) : Type 0 where
  pub kind : IsSendFault fault
  pub spoke : before.silent_on_write ≡ false
  pub taken : after.taken ≡ before.taken
  pub write_faults : after.write_faults ≡ more before.write_faults (fault ∷ [])
  pub waits : after.waits ≡ before.waits
  pub used : after.used ≡ up before.used
  pub faults : Rose before.faults after.faults
  pub silence_stands : (stream : Stream) → IsTrue (before.silent_on_read stream)
      → after.silent_on_read stream ≡ true
  pub rest : LeavesStreams before after

-- what a sending call does, by its answer: `item` is what it was offered
abbrev pub Sends : MessageState → TakenItem → MessageState → Sent → Type 0
Sends before item after sent.Done = TakesItem before item after
Sends before item after sent.NotReady = WaitsOnSend before after
Sends before item after sent.Silent = IsSilentOnSend before after
Sends before item after (sent.Failed fault) = FailsSend before fault after
Sends before item after sent.OutOfMemory =
    (before.silent_on_write ≡ false) × WantsMemory before after
