-- What a call of a hook came to, the entry of the log that tells it, and the promise of the
-- application: each call that it answers is one that it allows.
use Rattle.std.specs.Prelude.{◌≡◌, ℕ, Bool, true, false, List, [], Option, Some, None, Result, Ok, Err}
use Rattle.relay_tasks.specs.Head.{RequestHead}
use Rattle.relay_tasks.specs.declared.error.Error.{Error}
use Rattle.relay_tasks.specs.declared.error.Fail.{Fail}
use Rattle.relay_tasks.specs.declared.error.Fail.TheVariants as fail
use Rattle.relay_tasks.specs.declared.hook.Hook.{Hook}
use Rattle.relay_tasks.specs.declared.hook.Hook.TheVariants as hook
use Rattle.relay_tasks.specs.declared.log.Item.{Item}
use Rattle.relay_tasks.specs.declared.log.Item.TheVariants as item
use Rattle.relay_tasks.specs.declared.log.LogEntry.{LogEntry}
use Rattle.relay_tasks.specs.declared.peer.Peer.{Peer}
use Rattle.http_header.specs.FieldValue.{FieldValue}
use Rattle.http_header.specs.HeaderMap.{Entries}
use Rattle.relay_hooks.specs.Standing.{Standing, Moment, standing}

-- ---- what a call came to

-- what a hook left: its output, its error, and the delay that it asked for
pub record Left : Type 0 where
  pub output : Item
  pub error : Option Error
  pub delay : Option ℕ

-- this output, no error, no delay
abbrev pub only : Item → Left
only output = record { output = output; error = None; delay = None }

-- this output, and that error
abbrev pub failed : Item → Error → Left
failed output error = record { output = output; error = Some error; delay = None }

-- a hook that changes an argument in place left this of it; nothing is said where memory was wanted
abbrev pub changed : {T : Type 0} → Item → Result T Fail → Option Left
changed output (Ok answer) = Some (only output)
changed output (Err (fail.Error error)) = Some (failed output error)
changed output (Err fail.OutOfMemory) = None

-- a filter of a piece left this of it, and answered a delay
abbrev pub delayed : Item → Result (Option ℕ) Fail → Option Left
delayed output (Ok delay) = Some (record { output = output; error = None; delay = delay })
delayed output (Err (fail.Error error)) = Some (failed output error)
delayed output (Err fail.OutOfMemory) = None

-- a hook answered a value, which is its output
abbrev pub answered : {T : Type 0} → (T → Item) → Result T Fail → Option Left
answered says (Ok answer) = Some (only (says answer))
answered says (Err (fail.Error error)) = Some (failed item.Nothing error)
answered says (Err fail.OutOfMemory) = None

-- what a filter of trailers makes of them: the bytes that it answers stand in their place and end
-- the body
abbrev pub trailed : Entries FieldValue → Option (List ℕ) → Item
trailed fields None = item.Trailers (Some fields)
trailed fields (Some bytes) = item.Piece (Some bytes) true

-- a filter of trailers left these, and answered bytes or none
abbrev pub ended_by : Entries FieldValue → Result (Option (List ℕ)) Fail → Option Left
ended_by fields (Ok bytes) = Some (only (trailed fields bytes))
ended_by fields (Err (fail.Error error)) = Some (failed (item.Trailers (Some fields)) error)
ended_by fields (Err fail.OutOfMemory) = None

-- an error as an item, or nothing for none
abbrev pub failure : Option Error → Item
failure None = item.Nothing
failure (Some error) = item.Failure error

-- ---- the entry

-- the head that an entry tells: that of a session which was lent its head
abbrev pub told_head : Bool → RequestHead → Option RequestHead
told_head true head = Some head
told_head false head = None

-- the entry of a call, from the moment before it to the moment after it
abbrev pub entry : Hook → Item → Moment → Left → Moment → LogEntry
entry which input before left after = record {
  hook = which;
  mark_before = before.mark;
  mark_after = after.mark;
  input = input;
  output = left.output;
  wrote = after.wrote;
  error = left.error;
  head = told_head after.touched after.head;
  keepalive = after.keepalive;
  delay = left.delay;
  view = before.view;
}

-- ---- the promise

-- the application allows the call of a hook that is told of this peer, out of memory aside
abbrev pub AskedOf : Option Peer → Bool → (Standing → LogEntry → Type 0) → Hook → Item → Moment
    → Option Left → Moment → Type 0
AskedOf peer reused allows which input before None after = Unit {0}
AskedOf peer reused allows which input before (Some left) after =
    allows (standing peer reused before) (entry which input before left after)

-- the application allows the call, out of memory aside
abbrev pub Asked : (Standing → LogEntry → Type 0) → Hook → Item → Moment → Option Left → Moment
    → Type 0
Asked allows which input before left after =
    AskedOf None false allows which input before left after

-- the entry of the call that makes a context
abbrev pub new_entry : Standing → LogEntry
new_entry st = record {
  hook = hook.NewCtx;
  mark_before = st.mark;
  mark_after = st.mark;
  input = item.Nothing;
  output = item.Nothing;
  wrote = [];
  error = None;
  head = None;
  keepalive = st.keepalive;
  delay = None;
  view = st.view;
}

-- a context was made: whatever the session shows, the application allows that at the context's mark
abbrev pub MadeContext : (Standing → LogEntry → Type 0) → ℕ → Type 0
MadeContext allows mark = (st : Standing) → st.mark ≡ mark → allows st (new_entry st)

-- an error of the call that makes modules stands in the entry of the call before it, which asked
-- whether subrequests may be spawned: that entry is allowed with the error too
abbrev pub MadeModules : {M : Type 0} → (Standing → LogEntry → Type 0) → Result M Fail → Type 0
MadeModules allows (Ok modules) = Unit {0}
MadeModules allows (Err fail.OutOfMemory) = Unit {0}
MadeModules allows (Err (fail.Error error)) =
    (st : Standing) (e : LogEntry) → e.hook ≡ hook.AllowSpawningSubrequest → e.error ≡ None
    → allows st e → allows st (record e { error = Some error })
