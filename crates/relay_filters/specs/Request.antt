-- The request as its filters let it pass, read off the log: which calls each piece led to, what they
-- were given, and what went on of it.
use Rattle.std.specs.Prelude.{◌≡◌, ℕ, ◌≤◌, ◌⊎◌, All, Bool, true, false, ◌&&◌, ◌||◌, if◌then◌else◌, List, [], ◌∷◌, ◌++◌, length, Option, Some, None, is_some, is_none, IsSome, unwrap_or, Result, Ok, Err}
use Rattle.std.specs.List.{list_any}
use Rattle.relay_tasks.specs.Task.{is_end}
use Rattle.relay_tasks.specs.declared.error.Error.{Error}
use Rattle.relay_tasks.specs.declared.error.Fail.{Fail}
use Rattle.relay_tasks.specs.declared.error.Fail.TheVariants as fail
use Rattle.relay_tasks.specs.declared.hook.Hook.TheVariants as hook
use Rattle.relay_tasks.specs.declared.log.Item.{Item}
use Rattle.relay_tasks.specs.declared.log.Item.TheVariants as item
use Rattle.relay_tasks.specs.declared.log.LogEntry.{LogEntry}
use Rattle.relay_tasks.specs.declared.task.HttpTask.{HttpTask}
use Rattle.relay_tasks.specs.declared.task.HttpTask.TheVariants as task
use Rattle.relay_core.specs.Moves.{EndsLast}
use Rattle.relay_core.specs.Piece.{put_of}
use Rattle.relay_core.specs.declared.piece.Piece.{Piece}
use Rattle.relay_modules.specs.declared.seen.Seen.{Seen}
use Rattle.relay_hooks.specs.Standing.{Standing}
use Rattle.relay_calls.specs.Log.{filters_request, is_module, requests_in}
use Rattle.relay_filters.specs.Response.{Adds, AddsSome}

-- ---- a piece

-- the request ends with a piece: so says the inner side, or the client's own request ends
abbrev pub is_last : Piece → Bool
is_last piece = piece.upstream_end || piece.client_end

-- the filters took the piece away: they were given one, and left none
abbrev pub takes_away : Bool → Option (List ℕ) → Bool
takes_away given left = given && is_none left

-- the piece that passes, of what the filters left, where they were given one or none: nothing once
-- the request has ended. Where they took the piece away the request ends
abbrev pub piece_of : Bool → Bool → Bool → Bool → Option (List ℕ) → Piece
piece_of ended end client_end given left =
    if ended then record { bytes = None; upstream_end = false; client_end = client_end }
    else record {
      bytes = left;
      upstream_end = end || takes_away given left;
      client_end = client_end;
    }

-- ---- the calls

-- the bytes of a piece
abbrev pub bytes_in : Item → List ℕ
bytes_in (item.Piece bytes end) = unwrap_or bytes []
bytes_in other = []

-- a call was given a piece
abbrev pub has_piece : Item → Bool
has_piece (item.Piece bytes end) = is_some bytes
has_piece other = false

-- what was left ends the request: it was the end, or the piece was taken away
abbrev pub is_end_in : Bool → Item → Bool
is_end_in given (item.Piece left end) = end || takes_away given left
is_end_in given other = false

-- the tasks that what was left puts
abbrev pub put_in_item : Bool → Item → List HttpTask
put_in_item given (item.Piece left end) = put_of false (piece_of false end end given left)
put_in_item given other = []

-- the end of the request
abbrev pub end_in : Item → Bool
end_in (item.Piece bytes end) = end
end_in other = false

-- a call was told the end of the request
abbrev pub is_told_end : LogEntry → Bool
is_told_end e = end_in e.input

-- a call that was told the end of the request is the last one
abbrev pub ToldLast : List LogEntry → Type 0
ToldLast [] = Unit {0}
ToldLast (e ∷ es) = (is_told_end e ≡ true → es ≡ []) × ToldLast es

-- a filter of requests was called with a piece, and left this of it; it is told the end of what it
-- leaves as of what it is given, and asks for no delay
pub record PieceCall (e : LogEntry) : Type 0 where
  pub given : Option (List ℕ)
  pub left : Option (List ℕ)
  pub end : Bool
  pub is_hook : filters_request e.hook ≡ true
  pub was : e.input ≡ item.Piece given end
  pub became : e.output ≡ item.Piece left end
  pub undelayed : e.delay ≡ None

-- ---- the calls of a piece

-- the one call is the modules' filter, which let a piece go on
pub record LetsOn (es : List LogEntry) : Type 0 where
  pub call : LogEntry
  pub are : es ≡ call ∷ []
  pub is_hook : call.hook ≡ hook.ModuleRequestBody
  pub ok : call.error ≡ None
  pub is_piece : PieceCall call

-- the calls that a piece led to, and what they came to as one call: it was given the piece, left
-- what the last of them left, and answered what that did. Where modules stand their filter is
-- called first, and where that fails the application's is not called; else the application's is
-- given what the modules' left
pub data PieceChain (stand : Bool) (es : List LogEntry) (call : LogEntry) : Type 0 where
  by_app : stand ≡ false → es ≡ call ∷ [] → call.hook ≡ hook.RequestBodyFilter → PieceCall call
      → PieceChain stand es call
  by_both : stand ≡ true → (first : List LogEntry) (m : LetsOn first) (e : LogEntry)
      → es ≡ first ++ e ∷ [] → e.hook ≡ hook.RequestBodyFilter → e.input ≡ m.call.output
      → PieceCall e → call ≡ record e { input = m.call.input } → PieceChain stand es call
  by_modules : stand ≡ true → es ≡ call ∷ [] → call.hook ≡ hook.ModuleRequestBody
      → IsSome call.error → PieceCall call → PieceChain stand es call

-- the calls that one piece at most led to, where in the last of them memory may have been wanted,
-- which has no entry
pub data OfPiece (stand : Bool) (es : List LogEntry) : Type 0 where
  none : es ≡ [] → OfPiece stand es
  whole : (call : LogEntry) → PieceChain stand es call → OfPiece stand es
  lost : stand ≡ true → LetsOn es → OfPiece stand es

-- ---- the calls of pieces

-- the modules' filter let the piece go on: the next call is the application's, with what that left
abbrev pub lets_on : LogEntry → Bool
lets_on e = is_module e.hook && is_none e.error

-- the first of these calls as one that was given that
abbrev pub given_first : Item → List LogEntry → List LogEntry
given_first input [] = []
given_first input (e ∷ es) = record e { input = input } ∷ es

-- the calls of each piece as one; those of one whose last call wanted memory are none
abbrev pub by_pieces : List LogEntry → List LogEntry
by_pieces [] = []
by_pieces (e ∷ es) = if lets_on e then given_first e.input (by_pieces es) else e ∷ by_pieces es

-- the calls of the request in a log, those of each piece as one
abbrev pub pieces_in : List LogEntry → List LogEntry
pieces_in log = by_pieces (requests_in log)

-- the calls are those of pieces, one behind the other, and came to these
abbrev pub AreChains : List LogEntry → List LogEntry → Type 0
AreChains es [] = es ≡ []
AreChains es (call ∷ calls) =
    (stand : Bool) × (own : List LogEntry) × (rest : List LogEntry) × (es ≡ own ++ rest)
    × PieceChain stand own call × AreChains rest calls

-- the calls of a request are those of its pieces. Behind them stands that of the modules for a
-- piece in whose next call memory was wanted, if there is one; not while the side goes on
pub record InChains (es : List LogEntry) (goes_on : Type 0) : Type 0 where
  pub done : List LogEntry
  pub lost : List LogEntry
  pub are : es ≡ done ++ lost
  pub chains : AreChains done (by_pieces es)
  pub are_lost : (lost ≡ []) ⊎ LetsOn lost
  pub all : goes_on → lost ≡ []

-- ---- what they let pass

-- the bytes that the calls were given, joined
abbrev pub given_to : List LogEntry → List ℕ
given_to [] = []
given_to (e ∷ es) = bytes_in e.input ++ given_to es

-- the call ended the request
abbrev pub is_end_by : LogEntry → Bool
is_end_by e = is_none e.error && is_end_in (has_piece e.input) e.output

-- the request has ended behind these calls
abbrev pub ended_by : Bool → List LogEntry → Bool
ended_by ended [] = ended
ended_by ended (e ∷ es) = ended_by (ended || is_end_by e) es

-- what one call lets pass: nothing where the request had ended, or where it failed
abbrev pub passes : Bool → LogEntry → List HttpTask
passes ended e = if ended || is_some e.error then [] else put_in_item (has_piece e.input) e.output

-- the tasks that pass: what the calls left, up to the first that ends the request
abbrev pub passed : Bool → List LogEntry → List HttpTask
passed ended [] = []
passed ended (e ∷ es) = passes ended e ++ passed (ended || is_end_by e) es

-- the bytes of the body that a task brings
abbrev pub bytes_of : HttpTask → List ℕ
bytes_of (task.Header head end) = []
bytes_of (task.Body bytes end) = unwrap_or bytes []
bytes_of (task.UpgradedBody bytes end) = unwrap_or bytes []
bytes_of (task.Trailer fields) = []
bytes_of task.Done = []
bytes_of (task.Failed error) = []

-- the bytes of the body that tasks bring
abbrev pub body_of : List HttpTask → List ℕ
body_of [] = []
body_of (task ∷ tasks) = bytes_of task ++ body_of tasks

-- the request as it came and as it passed by these calls, each with a piece that came: they were
-- given what came, from its first byte, and all of it while the side goes on, and are told the end
-- only where an end came, which is the last of it, by the last of them, and with all that is left;
-- what is put is what they left, up to the first end
pub record PassesRequest (at_first ended : Bool) (es : List LogEntry) (goes_on : Type 0)
    (came put : List HttpTask) : Type 0 where
  pub each : All PieceCall es
  pub few : length es ≤ length came
  pub ends_last : EndsLast came
  pub rest : List ℕ
  pub read : body_of came ≡ given_to es ++ rest
  pub all : goes_on → rest ≡ []
  pub told : list_any is_told_end es ≡ true → list_any is_end came ≡ true
  pub told_last : ToldLast es
  pub told_whole : list_any is_told_end es ≡ true → rest ≡ []
  pub left : put ≡ passed at_first es
  pub is_ended : ended ≡ ended_by at_first es

-- ---- one piece

-- the filters were called with a piece, and their calls entered: they left this of it, and the last
-- of them answered that error or none
pub record Came (allows : Standing → LogEntry → Type 0) (stand : Bool)
    (bytes left : Option (List ℕ)) (end : Bool) (error : Option Error) (old : Seen) (mark : ℕ)
    (new : Seen) (mark' : ℕ) : Type 0 where
  pub es : List LogEntry
  pub adds : Adds allows old mark new mark' es
  pub call : LogEntry
  pub chain : PieceChain stand es call
  pub was : call.input ≡ item.Piece bytes end
  pub became : call.output ≡ item.Piece left end
  pub says : call.error ≡ error

-- memory was wanted in a call, which has no entry: the modules' may stand before it
pub record IsLost (allows : Standing → LogEntry → Type 0) (stand : Bool)
    (bytes : Option (List ℕ)) (end : Bool) (old : Seen) (mark : ℕ) (new : Seen) : Type 0 where
  pub es : List LogEntry
  pub adds : AddsSome allows old mark new es
  pub are : (es ≡ [])
      ⊎ ((stand ≡ true) × (m : LetsOn es) × (m.call.input ≡ item.Piece bytes end))

-- what the filters came to with these bytes, of which they left those
abbrev pub CallsFor : (Standing → LogEntry → Type 0) → Bool → Option (List ℕ) → Option (List ℕ)
    → Bool → Result Unit Fail → Seen → ℕ → Seen → ℕ → Type 0
CallsFor allows stand bytes left end (Ok done) old mark new mark' =
    Came allows stand bytes left end None old mark new mark'
CallsFor allows stand bytes left end (Err (fail.Error e)) old mark new mark' =
    Came allows stand bytes left end (Some e) old mark new mark'
CallsFor allows stand bytes left end (Err fail.OutOfMemory) old mark new mark' =
    IsLost allows stand bytes end old mark new

-- a piece passed its filters, and this goes on of it
pub record Filtered (allows : Standing → LogEntry → Type 0) (stand ended : Bool)
    (piece made : Piece) (old : Seen) (mark : ℕ) (new : Seen) (mark' : ℕ) : Type 0 where
  pub left : Option (List ℕ)
  pub came : Came allows stand piece.bytes left (is_last piece) None old mark new mark'
  pub is_made : made ≡ piece_of ended (is_last piece) piece.client_end (is_some piece.bytes) left

-- one of them refused it
pub record Refused (allows : Standing → LogEntry → Type 0) (stand : Bool) (e : Error)
    (piece : Piece) (old : Seen) (mark : ℕ) (new : Seen) (mark' : ℕ) : Type 0 where
  pub left : Option (List ℕ)
  pub came : Came allows stand piece.bytes left (is_last piece) (Some e) old mark new mark'

-- what becomes of a piece; `stand` says that modules stand
abbrev pub Filters : (Standing → LogEntry → Type 0) → Bool → Bool → Piece → Result Piece Fail
    → Seen → ℕ → Seen → ℕ → Type 0
Filters allows stand ended piece (Ok made) old mark new mark' =
    Filtered allows stand ended piece made old mark new mark'
Filters allows stand ended piece (Err (fail.Error e)) old mark new mark' =
    Refused allows stand e piece old mark new mark'
Filters allows stand ended piece (Err fail.OutOfMemory) old mark new mark' =
    IsLost allows stand piece.bytes (is_last piece) old mark new
