-- How the text of a response grows with its tasks, and what its body says when it is read back
-- (RFC 9112, sections 6 and 7).
use Rattle.std.specs.Prelude.{◌≡◌, ℕ, Bool, true, false, ◌||◌, List, [], ◌∷◌, ◌++◌, Option, Some, if◌then◌else◌}
use Rattle.relay_tasks.specs.declared.error.Error.{Error}
use Rattle.relay_tasks.specs.declared.task.HttpTask.{HttpTask}
use Rattle.relay_tasks.specs.declared.task.HttpTask.TheVariants as task
use Rattle.relay_tasks.specs.Head.{ResponseHead}
use Rattle.relay_h1.specs.declared.framing.Framing.{Framing}
use Rattle.relay_h1.specs.BodyWire.{HasWritten, ReadsBackWhole, piece_text, after_piece, end_text}
use Rattle.relay_h1.specs.ClientHead.{is_informational}
use Rattle.relay_h1.specs.Wire.{response_text}
use Rattle.relay_session.specs.declared.task_text.Request.{Request}
use Rattle.relay_session.specs.declared.task_text.Place.{Place}
use Rattle.relay_session.specs.declared.task_text.Place.TheVariants as place
use Rattle.relay_session.specs.declared.task_text.Pushed.{Pushed}
use Rattle.relay_session.specs.TaskWire.{Sent, bytes_of, ends_with, framing_of, shown, wire}

-- ---- the body that tasks bring

-- the bytes of the body that a task brings
abbrev pub piece_of : HttpTask → List ℕ
piece_of (task.Header head ends) = []
piece_of (task.Body piece ends) = bytes_of piece
piece_of (task.UpgradedBody piece ends) = bytes_of piece
piece_of (task.Trailer fields) = []
piece_of task.Done = []
piece_of (task.Failed error) = []

-- the task ends a body whose rest is framed so: a failure does not, nor does an end that comes short
abbrev pub ends_body : Framing → HttpTask → Bool
ends_body rest (task.Header head ends) = ends_with rest [] ends
ends_body rest (task.Body piece ends) = ends_with rest (bytes_of piece) ends
ends_body rest (task.UpgradedBody piece ends) = ends_with rest (bytes_of piece) ends
ends_body rest (task.Trailer fields) = ends_with rest [] true
ends_body rest task.Done = ends_with rest [] true
ends_body rest (task.Failed error) = false

-- the pieces that tasks bring of a body whose rest is framed so, up to the first that ends it
abbrev pub pieces_of : Framing → List HttpTask → List (List ℕ)
pieces_of rest [] = []
pieces_of rest (task ∷ tasks) =
    piece_of task
    ∷ (if ends_body rest task then [] else pieces_of (after_piece rest (piece_of task)) tasks)

-- a task among them ends the body
abbrev pub has_end : Framing → List HttpTask → Bool
has_end rest [] = false
has_end rest (task ∷ tasks) =
    ends_body rest task || has_end (after_piece rest (piece_of task)) tasks

-- tasks that came to a final head, and their text: that of the heads before it, its own as its
-- client gets it, and that of the body behind it
pub record Parts (request : Request) (tasks : List HttpTask) (text : List ℕ) : Type 0 where
  pub before : List HttpTask
  pub head : ResponseHead
  pub ends : Bool
  pub behind : List HttpTask
  pub framing : Framing
  pub body : List ℕ
  pub are_tasks : tasks ≡ before ++ task.Header head ends ∷ behind
  pub no_head : (wire request place.NoHead before).place ≡ place.NoHead
  pub is_final : is_informational head.status ≡ false
  pub framed : framing_of request head ≡ Some framing
  pub is_text : text
      ≡ ((wire request place.NoHead before).text ++ response_text (shown request head)) ++ body

-- the tasks from the final head on
abbrev pub from_head : {request : Request} {tasks : List HttpTask} {text : List ℕ}
    → Parts request tasks text → List HttpTask
from_head parts = task.Header parts.head parts.ends ∷ parts.behind

-- the tasks are inside the body: what they brought of it was written, and the rest is framed so
pub record InBody
    (request : Request) (tasks : List HttpTask) (text : List ℕ) (rest : Framing) : Type 0 where
  pub parts : Parts request tasks text
  pub goes_on : has_end parts.framing (from_head parts) ≡ false
  pub written : HasWritten parts.framing (pieces_of parts.framing (from_head parts)) parts.body rest

-- the tasks ended the response: read back, the text of the body is what they brought of it
pub record WholeBody (request : Request) (tasks : List HttpTask) (text : List ℕ) : Type 0 where
  pub parts : Parts request tasks text
  pub ended : has_end parts.framing (from_head parts) ≡ true
  pub reads_back : ReadsBackWhole parts.framing (pieces_of parts.framing (from_head parts))
      parts.body

-- what the text of these tasks says of the body, by where it leaves the response
abbrev pub SaysBody : Request → List HttpTask → List ℕ → Place → Type 0
SaysBody request tasks text place.NoHead = Unit {0}
SaysBody request tasks text (place.Body rest) = InBody request tasks text rest
SaysBody request tasks text place.Done = WholeBody request tasks text

-- the tasks of a session since it began are sent so, and the body is read back from their text
pub record IsWire (request : Request) (tasks : List HttpTask) (sent : Sent) : Type 0 where
  pub is : wire request place.NoHead tasks ≡ sent
  pub body : SaysBody request tasks sent.text sent.place

-- ---- one task more

-- what was written of a body goes on with the piece, inside the body or to its end
abbrev pub GoesOnBy : Framing → List ℕ → Bool → Type 0
GoesOnBy rest piece false =
    (framing : Framing) (pieces : List (List ℕ)) (text : List ℕ)
    → HasWritten framing pieces text rest
    → HasWritten framing (pieces ++ piece ∷ []) (text ++ piece_text rest piece)
    (after_piece rest piece)
GoesOnBy rest piece true =
    (framing : Framing) (pieces : List (List ℕ)) (text : List ℕ)
    → HasWritten framing pieces text rest
    → ReadsBackWhole framing (pieces ++ piece ∷ [])
    ((text ++ piece_text rest piece) ++ end_text (after_piece rest piece))

-- the same, where an end may be asked for
abbrev pub GoesOn : Framing → List ℕ → Bool → Type 0
GoesOn rest piece ends = GoesOnBy rest piece (ends_with rest piece ends)

-- a body begins with the head
abbrev pub HeadGoesOn : Request → ResponseHead → Bool → Type 0
HeadGoesOn request head ends =
    (framing : Framing) → is_informational head.status ≡ false
    → framing_of request head ≡ Some framing
    → GoesOn framing [] ends

-- what a head does to the body, by where the response stands
abbrev pub HeadGoesOnAt : Request → Place → ResponseHead → Bool → Type 0
HeadGoesOnAt request place.NoHead head ends = HeadGoesOn request head ends
HeadGoesOnAt request (place.Body rest) head ends = GoesOn rest [] ends
HeadGoesOnAt request place.Done head ends = Unit {0}

-- what a piece does to the body, by where the response stands
abbrev pub PieceGoesOnAt : Place → List ℕ → Bool → Type 0
PieceGoesOnAt place.NoHead piece ends = Unit {0}
PieceGoesOnAt (place.Body rest) piece ends = GoesOn rest piece ends
PieceGoesOnAt place.Done piece ends = Unit {0}

-- what was appended is what is to be sent, whatever the refusal
pub record HasPushed
    (sent : Sent) (why : Option Error) (old new : List ℕ) (pushed : Pushed) : Type 0 where
  pub grown : new ≡ old ++ sent.text
  pub counted : pushed.counted ≡ sent.counted
  pub closes : pushed.closes ≡ sent.closes
  pub place : pushed.place ≡ sent.place
  pub refused : pushed.refused ≡ why
