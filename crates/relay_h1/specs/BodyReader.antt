-- How a body is read: what is told from where the reader is, and how each call goes on.
use Rattle.std.specs.Prelude.{◌≡◌, ◌↔◌, ℕ, ◌+◌, ◌-◌, ◌<◌, Bool, true, false, List, [], ◌++◌, length, take, drop, ◌==◌, if◌then◌else◌, Result, Ok, Err, ⊤}
use Rattle.relay_tasks.specs.declared.context.Context.TheVariants.{BadFraming}
use Rattle.relay_tasks.specs.declared.error.Error.{Error}
use Rattle.relay_tasks.specs.declared.error.ErrorSource.TheVariants.{Unset}
use Rattle.relay_tasks.specs.declared.error.ErrorType.TheVariants.{ConnectionClosed}
use Rattle.relay_tasks.specs.declared.error.Fail.TheVariants as fail
use Rattle.relay_tasks.specs.Error.{new_error, refused}
use Rattle.relay_h1.specs.declared.framing.Framing.{Framing}
use Rattle.relay_h1.specs.declared.framing.Framing.TheVariants as framing
use Rattle.relay_h1.specs.declared.body_reader.Cut.{Cut}
use Rattle.relay_h1.specs.declared.body_reader.Cut.TheVariants as cut
use Rattle.relay_h1.specs.declared.body_reader.BodyFront.{BodyFront}
use Rattle.relay_h1.specs.declared.body_reader.BodyFront.TheVariants as front
use Rattle.relay_h1.specs.declared.body_reader.Line.{Line}
use Rattle.relay_h1.specs.declared.body_reader.Line.TheVariants as line
use Rattle.relay_h1.specs.declared.body_reader.Passed.{Passed}
use Rattle.relay_h1.specs.declared.body_reader.State.{State}
use Rattle.relay_h1.specs.declared.body_reader.State.TheVariants as state
use Rattle.relay_h1.specs.Body.{BodyText, open_text, ended_text, broken_text, broken, behind, at_line, in_chunk, behind_chunk, in_trailer, Chunked, of_length, Body, IsLineOpen, IsLineBroken, StartsWithLine}

-- what the bytes say of a body from where its reader is
abbrev pub Reads : State → List ℕ → BodyText → Type 0
Reads state.ChunkLine bytes text = Chunked at_line bytes text
Reads (state.Chunk left) bytes text = Chunked (in_chunk left) bytes text
Reads state.ChunkEnd bytes text = Chunked behind_chunk bytes text
Reads state.Trailer bytes text = Chunked in_trailer bytes text
Reads (state.Length left) bytes text = text ≡ of_length left bytes
Reads state.UntilClose bytes text = text ≡ open_text bytes
Reads state.Tunnel bytes text = text ≡ open_text bytes
Reads state.Done bytes text = text ≡ ended_text [] 0

-- where the reader of a body is at first
abbrev pub first_state : Framing → State
first_state framing.Empty = state.Done
first_state (framing.Length n) = state.Length n
first_state framing.Chunked = state.ChunkLine
first_state framing.UntilClose = state.UntilClose
first_state framing.Tunnel = state.Tunnel

-- the body has ended
abbrev pub is_done : State → Bool
is_done state.ChunkLine = false
is_done (state.Chunk left) = false
is_done state.ChunkEnd = false
is_done state.Trailer = false
is_done (state.Length left) = left == 0
is_done state.UntilClose = false
is_done state.Tunnel = false
is_done state.Done = true

-- the body comes in chunks
abbrev pub is_in_chunks : Framing → Bool
is_in_chunks framing.Empty = false
is_in_chunks (framing.Length n) = false
is_in_chunks framing.Chunked = true
is_in_chunks framing.UntilClose = false
is_in_chunks framing.Tunnel = false

-- the body has a length
abbrev pub has_length : Framing → Bool
has_length framing.Empty = false
has_length (framing.Length n) = true
has_length framing.Chunked = false
has_length framing.UntilClose = false
has_length framing.Tunnel = false

-- the body ends with the stream
abbrev pub is_until_close : Framing → Bool
is_until_close framing.Empty = false
is_until_close (framing.Length n) = false
is_until_close framing.Chunked = false
is_until_close framing.UntilClose = true
is_until_close framing.Tunnel = false

-- there is no message any more
abbrev pub is_tunnel : Framing → Bool
is_tunnel framing.Empty = false
is_tunnel (framing.Length n) = false
is_tunnel framing.Chunked = false
is_tunnel framing.UntilClose = false
is_tunnel framing.Tunnel = true

-- a place in a body with that framing
abbrev pub is_of : Framing → State → Bool
is_of framing state.ChunkLine = is_in_chunks framing
is_of framing (state.Chunk left) = is_in_chunks framing
is_of framing state.ChunkEnd = is_in_chunks framing
is_of framing state.Trailer = is_in_chunks framing
is_of framing (state.Length left) = has_length framing
is_of framing state.UntilClose = is_until_close framing
is_of framing state.Tunnel = is_tunnel framing
is_of framing state.Done = true

-- the bytes say that piece of the body: whatever follows them, the text is the piece and then what
-- the rest says from the new place on
pub record GoesOver (old : State) (bytes piece : List ℕ) (new : State) : Type 0 where
  pub says : (later : List ℕ) (text : BodyText) → Reads new later text
      → Reads old (bytes ++ later) (behind (length bytes) piece text)
  pub of_framing : (framing : Framing) → is_of framing old ≡ true → is_of framing new ≡ true

-- the reader went over the first of the bytes ahead, which say that piece, and left the rest
pub record Takes (old : State) (ahead piece : List ℕ) (new : State) (rest : List ℕ) : Type 0 where
  pub taken : List ℕ
  pub split : ahead ≡ taken ++ rest
  pub over : GoesOver old taken piece new

-- the run of body bytes at the front, of one chunk at most
abbrev pub run : State → List ℕ → List ℕ
run state.ChunkLine bytes = []
run (state.Chunk left) bytes = take left bytes
run state.ChunkEnd bytes = []
run state.Trailer bytes = []
run (state.Length left) bytes = take left bytes
run state.UntilClose bytes = bytes
run state.Tunnel bytes = bytes
run state.Done bytes = []

-- the reader is inside a run
abbrev pub IsInRun : State → Type 0
IsInRun state.ChunkLine = ⊥
IsInRun (state.Chunk left) = 0 < left
IsInRun state.ChunkEnd = ⊥
IsInRun state.Trailer = ⊥
IsInRun (state.Length left) = 0 < left
IsInRun state.UntilClose = Unit {0}
IsInRun state.Tunnel = Unit {0}
IsInRun state.Done = ⊥

-- what stands at the front inside a run
abbrev pub run_front : List ℕ → BodyFront
run_front bytes = if length bytes == 0 then front.More else front.Run

-- where the reader is behind so many bytes of the run
abbrev pub after_run : State → ℕ → State
after_run state.ChunkLine n = state.ChunkLine
after_run (state.Chunk left) n = state.Chunk (left - n)
after_run state.ChunkEnd n = state.ChunkEnd
after_run state.Trailer n = state.Trailer
after_run (state.Length left) n = state.Length (left - n)
after_run state.UntilClose n = state.UntilClose
after_run state.Tunnel n = state.Tunnel
after_run state.Done n = state.Done

-- what the line at the front is
abbrev pub IsLine : List ℕ → Line → Type 0
IsLine bytes line.Open = IsLineOpen bytes
IsLine bytes line.Broken = IsLineBroken bytes
IsLine bytes (line.Chunk len size) = StartsWithLine bytes len size

-- what stands at the front where the reader is
abbrev pub Stands : BodyFront → State → List ℕ → Type 0
Stands front.Run at bytes = 0 < length (run at bytes)
Stands front.End at bytes = is_done at ≡ true
Stands front.More at bytes = Reads at bytes (open_text [])
Stands front.Broken at bytes = Reads at bytes broken_text

-- the answer on a run: all of it, or nothing where memory is wanted
abbrev pub TakesRun : State → List ℕ → State → List ℕ → Cut → Type 0
TakesRun old ahead new rest (cut.Piece piece end) =
    (piece ≡ run old ahead) × (new ≡ after_run old (length (run old ahead)))
    × (rest ≡ drop (length (run old ahead)) ahead) × (end ≡ is_done new)
TakesRun old ahead new rest cut.End = ⊥
TakesRun old ahead new rest cut.More = ⊥
TakesRun old ahead new rest (cut.Failed fail.OutOfMemory) = (new ≡ old) × (rest ≡ ahead)
TakesRun old ahead new rest (cut.Failed (fail.Error error)) = ⊥

-- the framing before the next byte of the body was passed, and this stands behind it
pub record Passes (old : State) (ahead : List ℕ) (new : Passed) (rest : List ℕ) : Type 0 where
  pub takes : Takes old ahead [] new.state rest
  pub stands : Stands new.front new.state rest

-- the piece is the run at the front, all of it, and the reader stands right behind it
pub record IsWholeRun (at : State) (bytes piece : List ℕ) (new : State) : Type 0 where
  pub run_is : piece ≡ run at bytes
  pub stands : new ≡ after_run at (length piece)

-- the longest run of body bytes behind the framing at the front, which are some. Since the reader
-- stands right behind them, the body ends with them exactly where they complete its length
pub record TakesPiece
    (old : State) (ahead piece : List ℕ) (end : Bool) (new : State) (rest : List ℕ) : Type 0 where
  pub at : State
  pub behind_framing : List ℕ
  pub framing : Takes old ahead [] at behind_framing
  pub longest : IsWholeRun at behind_framing piece new
  pub some : 0 < length piece
  pub moved : behind_framing ≡ piece ++ rest
  pub is_end : end ≡ is_done new

-- the bytes of the body that a call took
abbrev pub piece_of : Cut → List ℕ
piece_of (cut.Piece piece end) = piece
piece_of cut.End = []
piece_of cut.More = []
piece_of (cut.Failed fail) = []

-- the answer of a call, by what the bytes ahead say; where memory is wanted, bytes of the body
-- stand at the front, and the framing before them was passed
abbrev pub Answers : State → List ℕ → State → List ℕ → Cut → Type 0
Answers old ahead new rest (cut.Piece piece end) = TakesPiece old ahead piece end new rest
Answers old ahead new rest cut.End = (n : ℕ) × Reads old ahead (ended_text [] n)
    × (n + length rest ≡ length ahead) × (is_done new ≡ true)
Answers old ahead new rest cut.More = Reads old ahead (open_text [])
Answers old ahead new rest (cut.Failed fail.OutOfMemory) = 0 < length (run new rest)
Answers old ahead new rest (cut.Failed (fail.Error error)) =
    (error ≡ refused BadFraming) × Reads old ahead broken_text

-- each answer but a piece and out of memory comes exactly where the bytes ahead say so
pub record IsExact (old : State) (ahead : List ℕ) (answer : Cut) : Type 0 where
  pub more : (answer ≡ cut.More) ↔ Reads old ahead (open_text [])
  pub end : (answer ≡ cut.End) ↔ ((n : ℕ) × Reads old ahead (ended_text [] n))
  pub broken_there :
      (answer ≡ cut.Failed (fail.Error (refused BadFraming))) ↔ Reads old ahead broken_text

-- of the bytes that were given so far, those before the ones ahead said these bytes of the body:
-- whatever follows, the body is these bytes and then what is read from where the reader is
pub record SoFar
    (framing : Framing) (given body : List ℕ) (at : State) (ahead : List ℕ) : Type 0 where
  pub consumed : List ℕ
  pub split : given ≡ consumed ++ ahead
  pub of_framing : is_of framing at ≡ true
  pub says : (later : List ℕ) (text : BodyText) → Reads at later text
      → Body framing (consumed ++ later) (behind (length consumed) body text)

-- what the answer of a call says of the body, where these bytes were given so far, those of the
-- body before the call and in it are `body`, and so many bytes are left ahead
abbrev pub Tells : Framing → List ℕ → List ℕ → ℕ → Cut → Type 0
Tells framing given body left (cut.Piece piece end) =
    end ≡ true → Body framing given (ended_text body (length given - left))
Tells framing given body left cut.End = Body framing given (ended_text body (length given - left))
Tells framing given body left cut.More = Body framing given (open_text body)
Tells framing given body left (cut.Failed fail.OutOfMemory) = Unit {0}
Tells framing given body left (cut.Failed (fail.Error error)) =
    Body framing given (record { bytes = body; mark = broken })

-- the error of a stream that ends inside a body
abbrev pub closed : Error
closed = new_error ConnectionClosed Unset

-- a body with that framing may end where the stream does
abbrev pub may_end : Framing → Bool
may_end framing.Empty = true
may_end (framing.Length n) = false
may_end framing.Chunked = false
may_end framing.UntilClose = true
may_end framing.Tunnel = true

-- the answer at the end of the stream, by whether the body may end there
abbrev pub EndsThere : Bool → Result ⊤ Error → Type 0
EndsThere may (Ok done) = may ≡ true
EndsThere may (Err error) = (error ≡ closed) × (may ≡ false)
