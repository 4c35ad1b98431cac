-- What the tasks of a response are sent as to a client of HTTP/1, in the order in which they come
-- (RFC 9110, section 15.2; RFC 9112, sections 4, 6 and 7).
use Rattle.std.specs.Prelude.{◌≡◌, ℕ, ◌+◌, Bool, true, false, not, ◌||◌, List, [], ◌∷◌, ◌++◌, length, Option, Some, None, Result, Ok, Err, if◌then◌else◌, unwrap_or}
use Rattle.relay_tasks.specs.declared.context.Context.TheVariants.{BadFraming}
use Rattle.relay_tasks.specs.declared.error.Error.{Error}
use Rattle.relay_tasks.specs.declared.error.ErrorSource.TheVariants.{Internal, Downstream}
use Rattle.relay_tasks.specs.declared.error.Fail.{Fail}
use Rattle.relay_tasks.specs.declared.error.Fail.TheVariants as fail
use Rattle.relay_tasks.specs.declared.task.HttpTask.{HttpTask}
use Rattle.relay_tasks.specs.declared.task.HttpTask.TheVariants as task
use Rattle.relay_tasks.specs.Head.{ResponseHead}
use Rattle.relay_h1.specs.declared.framing.Framing.{Framing}
use Rattle.relay_h1.specs.BodyReader.{is_tunnel, is_until_close}
use Rattle.relay_h1.specs.BodyWire.{piece_text, body_part, after_piece, end_text, is_short, short_body}
use Rattle.relay_h1.specs.ClientHead.{is_informational, is_sent_to, client_framing, client_head}
use Rattle.relay_h1.specs.Options.{closes}
use Rattle.relay_h1.specs.Verdict.{refused_from}
use Rattle.relay_h1.specs.Wire.{response_text}
use Rattle.relay_session.specs.Asked.{method_of}
use Rattle.relay_session.specs.declared.task_text.Request.{Request}
use Rattle.relay_session.specs.declared.task_text.Place.{Place}
use Rattle.relay_session.specs.declared.task_text.Place.TheVariants as place

-- what the client is sent: the text, how many bytes of the body stand in it, whether it closes the
-- connection, which then serves no further request, and where it leaves the response
pub record Sent : Type 0 where
  pub text : List ℕ
  pub counted : ℕ
  pub closes : Bool
  pub place : Place

-- nothing is sent, and the response stays there
abbrev pub nothing_at : Place → Sent
nothing_at stays = record { text = []; counted = 0; closes = false; place = stays }

-- one after the other
abbrev pub joined : Sent → Sent → Sent
joined first next =
    record {
      text = first.text ++ next.text;
      counted = first.counted + next.counted;
      closes = first.closes || next.closes;
      place = next.place;
    }

-- a final head whose framing towards its client is refused
abbrev pub bad_framing : Error
bad_framing = refused_from Internal BadFraming

-- the body ends before its length
abbrev pub ends_short : Error
ends_short = record short_body { esource = Downstream }

-- the failure on the client's side
abbrev pub of_client : Fail → Fail
of_client fail.OutOfMemory = fail.OutOfMemory
of_client (fail.Error error) = fail.Error (record error { esource = Downstream })

-- the framing of a final head, or its refusal on the relay's own side
abbrev pub IsFramedInside : Result Framing Error → Option Framing → Type 0
IsFramedInside result (Some framing) = result ≡ Ok framing
IsFramedInside result None = result ≡ Err bad_framing

-- a piece of a body whose rest is framed so
abbrev pub only_piece : Framing → List ℕ → Sent
only_piece rest piece =
    record {
      text = piece_text rest piece;
      counted = length (body_part rest piece);
      closes = false;
      place = place.Body (after_piece rest piece);
    }

-- the end of a body: nothing is left of it
abbrev pub only_end : Framing → Sent
only_end rest = record { text = end_text rest; counted = 0; closes = false; place = place.Done }

-- the body ends with the piece: the end is asked for, and does not come short
abbrev pub ends_with : Framing → List ℕ → Bool → Bool
ends_with rest piece false = false
ends_with rest piece true = not (is_short (after_piece rest piece))

-- a piece of a body whose rest is framed so, and the end of the body where it ends with the piece;
-- an end that comes short gives nothing, and the body stays open
abbrev pub piece_sent : Framing → List ℕ → Bool → Sent
piece_sent rest piece ends =
    if ends_with rest piece ends
    then joined (only_piece rest piece) (only_end (after_piece rest piece))
    else only_piece rest piece

-- it is refused where the end comes short
abbrev pub piece_refusal : Framing → List ℕ → Bool → Option Error
piece_refusal rest piece false = None
piece_refusal rest piece true =
    if is_short (after_piece rest piece) then Some ends_short else None

-- a informational head: its text, and nothing for a client of HTTP/1.0
abbrev pub informed : Request → ResponseHead → Sent
informed request head =
    record {
      text = if is_sent_to request.version head.status then response_text head else [];
      counted = 0;
      closes = false;
      place = place.NoHead;
    }

-- a final head that is framed so closes its connection: it has the connection option `close`, or its
-- body lasts until the connection ends (RFC 9112, sections 6.3 and 9.6)
abbrev pub ends_connection : ResponseHead → Framing → Bool
ends_connection head framing = is_until_close framing || is_tunnel framing || closes head.fields

-- a final head that is framed so, in front of what is sent of its body
abbrev pub behind_head : ResponseHead → Framing → Sent → Sent
behind_head head framing sent =
    record sent {
      text = response_text head ++ sent.text;
      closes = ends_connection head framing;
    }

-- a final head that is framed so: its text, and the end of the body where it ends with the head;
-- nothing where its framing is refused
abbrev pub framed_head_sent : ResponseHead → Bool → Option Framing → Sent
framed_head_sent head ends None = nothing_at place.NoHead
framed_head_sent head ends (Some framing) =
    behind_head head framing (piece_sent framing [] ends)

-- it is refused where its framing is, and where its end comes short
abbrev pub framed_head_refusal : Bool → Option Framing → Option Error
framed_head_refusal ends None = Some bad_framing
framed_head_refusal ends (Some framing) = piece_refusal framing [] ends

-- the framing of a final head towards its client
abbrev pub framing_of : Request → ResponseHead → Option Framing
framing_of request head =
    client_framing (method_of request.method) request.version request.asked head

-- a final head as its client gets it
abbrev pub shown : Request → ResponseHead → ResponseHead
shown request head = client_head (method_of request.method) request.version request.asked head

-- a head where no final head was sent
abbrev pub head_sent : Request → ResponseHead → Bool → Sent
head_sent request head ends =
    if is_informational head.status then informed request head
    else framed_head_sent (shown request head) ends (framing_of request head)

abbrev pub head_refusal : Request → ResponseHead → Bool → Option Error
head_refusal request head ends =
    if is_informational head.status then None
    else framed_head_refusal ends (framing_of request head)

-- a head, by where the response stands: a later head gives nothing, but it may end the body
abbrev pub head_at : Request → Place → ResponseHead → Bool → Sent
head_at request place.NoHead head ends = head_sent request head ends
head_at request (place.Body rest) head ends = piece_sent rest [] ends
head_at request place.Done head ends = nothing_at place.Done

abbrev pub head_refusal_at : Request → Place → ResponseHead → Bool → Option Error
head_refusal_at request place.NoHead head ends = head_refusal request head ends
head_refusal_at request (place.Body rest) head ends = piece_refusal rest [] ends
head_refusal_at request place.Done head ends = None

-- a piece of the body, by where the response stands: it gives nothing before the final head and
-- behind the end
abbrev pub piece_at : Place → List ℕ → Bool → Sent
piece_at place.NoHead piece ends = nothing_at place.NoHead
piece_at (place.Body rest) piece ends = piece_sent rest piece ends
piece_at place.Done piece ends = nothing_at place.Done

abbrev pub piece_refusal_at : Place → List ℕ → Bool → Option Error
piece_refusal_at place.NoHead piece ends = None
piece_refusal_at (place.Body rest) piece ends = piece_refusal rest piece ends
piece_refusal_at place.Done piece ends = None

-- the bytes of a piece, which may be none
abbrev pub bytes_of : Option (List ℕ) → List ℕ
bytes_of piece = unwrap_or piece []

-- what a task is sent as, refused or not; trailer fields give nothing, and end the body
abbrev pub task_sent : Request → Place → HttpTask → Sent
task_sent request at (task.Header head ends) = head_at request at head ends
task_sent request at (task.Body piece ends) = piece_at at (bytes_of piece) ends
task_sent request at (task.UpgradedBody piece ends) = piece_at at (bytes_of piece) ends
task_sent request at (task.Trailer fields) = piece_at at [] true
task_sent request at task.Done = piece_at at [] true
task_sent request at (task.Failed error) = nothing_at at

-- the error that a task is refused with
abbrev pub refusal : Request → Place → HttpTask → Option Error
refusal request at (task.Header head ends) = head_refusal_at request at head ends
refusal request at (task.Body piece ends) = piece_refusal_at at (bytes_of piece) ends
refusal request at (task.UpgradedBody piece ends) = piece_refusal_at at (bytes_of piece) ends
refusal request at (task.Trailer fields) = piece_refusal_at at [] true
refusal request at task.Done = piece_refusal_at at [] true
refusal request at (task.Failed error) = Some error

-- what tasks in order are sent as, each from the place that those before it lead to
abbrev pub wire : Request → Place → List HttpTask → Sent
wire request at [] = nothing_at at
wire request at (task ∷ tasks) =
    joined (task_sent request at task) (wire request (task_sent request at task).place tasks)

-- the first of two refusals
abbrev pub or_later : Option Error → Option Error → Option Error
or_later None later = later
or_later (Some error) later = Some error

-- the error that the first refused one of these tasks is refused with
abbrev pub first_refusal : Request → Place → List HttpTask → Option Error
first_refusal request at [] = None
first_refusal request at (task ∷ tasks) =
    or_later (refusal request at task)
    (first_refusal request (task_sent request at task).place tasks)

-- ---- the check of a batch

-- the task decides whether a batch is refused before any of it is queued: a final head, by its
-- framing; a failure lets what stands before it pass
abbrev pub settles : HttpTask → Bool
settles (task.Header head ends) = not (is_informational head.status)
settles (task.Body piece ends) = false
settles (task.UpgradedBody piece ends) = false
settles (task.Trailer fields) = false
settles task.Done = false
settles (task.Failed error) = true

-- the refusal of a framing
abbrev pub unframed : Option Framing → Option Error
unframed None = Some bad_framing
unframed (Some framing) = None

-- the refusal of the framing of a final head
abbrev pub unframed_head : Request → HttpTask → Option Error
unframed_head request (task.Header head ends) = unframed (framing_of request head)
unframed_head request (task.Body piece ends) = None
unframed_head request (task.UpgradedBody piece ends) = None
unframed_head request (task.Trailer fields) = None
unframed_head request task.Done = None
unframed_head request (task.Failed error) = None

-- the refusal of a batch where no final head was sent: that of its first final head
abbrev pub unframed_in : Request → List HttpTask → Option Error
unframed_in request [] = None
unframed_in request (task ∷ tasks) =
    if settles task then unframed_head request task else unframed_in request tasks

-- the refusal of a batch before any of its tasks is queued, by where the response stands
abbrev pub batch_refusal : Request → Place → List HttpTask → Option Error
batch_refusal request place.NoHead tasks = unframed_in request tasks
batch_refusal request (place.Body rest) tasks = None
batch_refusal request place.Done tasks = None
