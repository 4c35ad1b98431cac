-- What tasks told is the front of what the bytes of the link say.
use Rattle.std.proofs.Common.{◌≡◌, ℕ, ◌+◌, ◌-◌, Bool, List, [], length, drop, refl, sym, ap, subst, Some}
use Rattle.relay_tasks.specs.declared.task.HttpTask.{HttpTask}
use Rattle.relay_h1.specs.Body.{BodyText, behind}
use Rattle.relay_h1.specs.Body as body
use Rattle.relay_h1.specs.BodyReader.{Reads}
use Rattle.relay_h1.specs.declared.body_reader.State.{State}
use Rattle.relay_h1.specs.declared.body_reader.State.TheVariants as state
use Rattle.relay_h1.specs.Tasks.{Tasks, ResponseText, ended, mark_of}
use Rattle.relay_h1.specs.Tasks as tasks
use Rattle.relay_h1.proofs.BodyLemmas.{Chunked-total}
use Rattle.relay_h1.proofs.BodyReaderLemmas.{SoFar-reads}
use Rattle.relay_peer.specs.declared.response_reading.ResponsePlace.{ResponsePlace}
use Rattle.relay_peer.specs.declared.response_reading.ResponsePlace.TheVariants as place
use Rattle.relay_peer.specs.declared.response_reading.ResponseReading.{ResponseReading}
use Rattle.relay_peer.specs.ResponseReading.{ToldResponse, ReadAt, says}
use Rattle.relay_peer.proofs.ExactLemmas.{Tasks-unique}
use Rattle.relay_peer.specs.Body.{IsFrontOf}
use Rattle.relay_peer.specs.Peer.{AreTasks, told_of}
use Rattle.relay_peer.proofs.FrontLemmas.{own_front}

-- any bytes say something of a body
some_text : (at : State) (bytes : List ℕ) → (text : BodyText) × Reads at bytes text
some_text state.ChunkLine bytes = Chunked-total body.ChunkedPlace.at_line bytes
some_text (state.Chunk left) bytes = Chunked-total (body.ChunkedPlace.in_chunk left) bytes
some_text state.ChunkEnd bytes = Chunked-total body.ChunkedPlace.behind_chunk bytes
some_text state.Trailer bytes = Chunked-total body.ChunkedPlace.in_trailer bytes
some_text (state.Length left) bytes = (_, refl)
some_text state.UntilClose bytes = (_, refl)
some_text state.Tunnel bytes = (_, refl)
some_text state.Done bytes = (_, refl)

-- nothing is a front of all
no_body : (told all : List ℕ) → told ≡ [] → IsFrontOf told all
no_body told all none =
    subst (λ (xs : List ℕ). IsFrontOf xs all) (sym none) (record { rest = all; joined = refl })

-- what was told of the body is the front of what the bytes say of it
body_at : (method : List ℕ) (upgrade closed : Bool) (got : List ℕ) (told : ToldResponse)
    (at : ResponsePlace)
    (ahead : List ℕ) (text : ResponseText) → ReadAt method upgrade closed got told at ahead
    → Tasks method upgrade got closed text → IsFrontOf told.body text.body
body_at method upgrade closed got told place.NoHead ahead text read said =
    no_body told.body text.body read.0.no_body
body_at method upgrade closed got told place.Informed ahead text read said =
    no_body told.body text.body read.0.no_body
body_at method upgrade closed got told (place.InBody at) ahead text read said =
    let rest = some_text at.reader ahead in
    let begins = read.n + read.len in
    let whole = behind (length (drop begins got) - length ahead) told.body rest.0 in
    record {
      rest = rest.0.bytes;
      joined = ap (λ (t : ResponseText). t.body)
          (Tasks-unique method upgrade got closed
          (record {
            informed = told.informed;
            final = Some read.head;
            body = whole.bytes;
            mark = mark_of read.framing begins (length got) closed whole.mark;
          })
          text
          (tasks.Tasks.has_final told.informed read.n read.head read.framing read.len whole
          read.informs read.has read.is_final
          (SoFar-reads read.framing (drop begins got) told.body ahead at.reader rest.0 read.so_far
          rest.1))
          said);
    }
body_at method upgrade closed got told (place.Ended keeps) ahead text read said =
    subst (λ (xs : List ℕ). IsFrontOf told.body xs)
    (ap (λ (t : ResponseText). t.body)
    (Tasks-unique method upgrade got closed (says told (ended read.place)) text read.whole said))
    (own_front told.body)

-- the bytes of the body that tasks brought are the front of those that the link says
pub told_front : (method : List ℕ) (upgrade closed : Bool) (got : List ℕ) (tasks : List HttpTask)
    (client : ResponseReading) (text : ResponseText)
    → AreTasks method upgrade closed got tasks client
    → Tasks method upgrade got closed text → IsFrontOf (told_of tasks).body text.body
told_front method upgrade closed got tasks client text are said =
    body_at method upgrade closed got (told_of tasks) client.place client.ahead text are.so_far.at
    said
