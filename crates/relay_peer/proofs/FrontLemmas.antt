-- Fronts of lists, and what a request is sent as with one task more.
use Rattle.std.proofs.Common.{◌≡◌, ℕ, Bool, true, false, List, [], ◌∷◌, ◌++◌, refl, sym, ap, ◌∙◌, append-nil, append_assoc, Option, Some, None, if◌then◌else◌}
use Rattle.std.specs.List.{concat}
use Rattle.std.proofs.lemmas.List.Folds.{concat-append}
use Rattle.relay_tasks.specs.Head.{RequestHead}
use Rattle.relay_tasks.specs.declared.task.HttpTask.{HttpTask}
use Rattle.relay_tasks.specs.Task.{is_end}
use Rattle.relay_h1.specs.declared.framing.Framing.{Framing}
use Rattle.relay_h1.specs.BodyWire.{piece_text, pieces_text, after_piece, after_pieces, end_text}
use Rattle.relay_h1.specs.Wire.{request_text}
use Rattle.relay_peer.specs.declared.request_writing.RequestPlace.{RequestPlace}
use Rattle.relay_peer.specs.declared.request_writing.RequestPlace.TheVariants as request
use Rattle.relay_peer.specs.RequestWriting.{Sent, Stands, sent_wire, with_piece, with_end, head_in, body_framing}
use Rattle.relay_peer.specs.RequestWriting as writing
use Rattle.relay_peer.specs.Body.{IsFrontOf, bytes_of, body_of, sent_with, sent_behind}

-- ---- fronts

-- a list is its own front
pub own_front : {X : Type 0} (xs : List X) → IsFrontOf xs xs
own_front xs = record { rest = []; joined = append-nil xs }

-- lists that are the same are fronts of one another
pub same_front : {X : Type 0} (xs ys : List X) → xs ≡ ys → IsFrontOf xs ys
same_front xs ys same = record { rest = []; joined = append-nil xs ∙ same }

-- a list is the front of itself with more
pub front_more : {X : Type 0} (xs more : List X) → IsFrontOf xs (xs ++ more)
front_more xs more = record { rest = more; joined = refl }

-- the front of a front
pub front_then : {X : Type 0} (xs ys zs : List X) → IsFrontOf xs ys → IsFrontOf ys zs
    → IsFrontOf xs zs
front_then {X} xs ys zs a b = record {
  rest = a.rest ++ b.rest;
  joined = sym (append_assoc xs a.rest b.rest) ∙ ap (λ (l : List X). l ++ b.rest) a.joined
      ∙ b.joined;
}

-- ---- the wire

-- the text of one piece more stands behind that of the others
pieces_push : (given : Framing) (pieces : List (List ℕ)) (piece : List ℕ)
    → pieces_text given (pieces ++ piece ∷ [])
    ≡ pieces_text given pieces ++ piece_text (after_pieces given pieces) piece
pieces_push given [] piece = append-nil (piece_text given piece)
pieces_push given (first ∷ pieces) piece =
    ap (λ (l : List ℕ). piece_text given first ++ l)
    (pieces_push (after_piece given first) pieces piece)
    ∙ sym (append_assoc (piece_text given first) (pieces_text (after_piece given first) pieces)
    (piece_text (after_pieces (after_piece given first) pieces) piece))

-- a piece more adds to the wire
pub piece_front : (sent : Sent) (piece : List ℕ)
    → IsFrontOf (sent_wire sent) (sent_wire (with_piece sent piece))
piece_front writing.Sent.nothing piece = own_front []
piece_front (writing.Sent.begun head pieces) piece = record {
  rest = piece_text (after_pieces (body_framing head) pieces) piece;
  joined = append_assoc (request_text head) (pieces_text (body_framing head) pieces)
      (piece_text (after_pieces (body_framing head) pieces) piece)
      ∙ ap (λ (l : List ℕ). request_text head ++ l)
      (sym (pieces_push (body_framing head) pieces piece));
}
piece_front (writing.Sent.whole head pieces) piece =
    own_front (sent_wire (writing.Sent.whole head pieces))

-- and so does the end
pub end_front : (sent : Sent) → IsFrontOf (sent_wire sent) (sent_wire (with_end sent))
end_front writing.Sent.nothing = own_front []
end_front (writing.Sent.begun head pieces) = record {
  rest = end_text (after_pieces (body_framing head) pieces);
  joined = append_assoc (request_text head) (pieces_text (body_framing head) pieces)
      (end_text (after_pieces (body_framing head) pieces));
}
end_front (writing.Sent.whole head pieces) =
    own_front (sent_wire (writing.Sent.whole head pieces))

-- the bytes of a task are the front of what is sent with it
pub bytes_front : (sent : Sent) (task : HttpTask)
    → IsFrontOf (sent_wire (with_piece sent (bytes_of task))) (sent_wire (sent_with sent task))
bytes_front sent task = on (is_end task)
  where
    on : (ends : Bool) → IsFrontOf (sent_wire (with_piece sent (bytes_of task)))
        (sent_wire (if ends then with_end (with_piece sent (bytes_of task))
        else with_piece sent (bytes_of task)))
    on true = end_front (with_piece sent (bytes_of task))
    on false = own_front (sent_wire (with_piece sent (bytes_of task)))

-- a task more adds to the wire
pub task_front : (sent : Sent) (task : HttpTask)
    → IsFrontOf (sent_wire sent) (sent_wire (sent_with sent task))
task_front sent task =
    front_then (sent_wire sent) (sent_wire (with_piece sent (bytes_of task)))
    (sent_wire (sent_with sent task)) (piece_front sent (bytes_of task)) (bytes_front sent task)

-- one task more, behind those in order
pub sent_behind-push : (sent : Sent) (tasks : List HttpTask) (task : HttpTask)
    → sent_behind sent (tasks ++ task ∷ []) ≡ sent_with (sent_behind sent tasks) task
sent_behind-push sent [] task = refl
sent_behind-push sent (first ∷ tasks) task = sent_behind-push (sent_with sent first) tasks task

-- ---- heads

-- the head that was given to be sent
abbrev pub head_of : Sent → Option RequestHead
head_of writing.Sent.nothing = None
head_of (writing.Sent.begun head pieces) = Some head
head_of (writing.Sent.whole head pieces) = Some head

-- is the one that was queued
pub stands_head : (sent : Sent) (at : RequestPlace) → Stands sent at → head_in at ≡ head_of sent
stands_head writing.Sent.nothing request.NoHead stands = refl
stands_head writing.Sent.nothing (request.Sending sending) stands = absurd stands
stands_head (writing.Sent.begun head pieces) request.NoHead stands = absurd stands
stands_head (writing.Sent.begun head pieces) (request.Sending sending) stands = ap Some stands.0
stands_head (writing.Sent.whole head pieces) request.NoHead stands = absurd stands
stands_head (writing.Sent.whole head pieces) (request.Sending sending) stands = ap Some stands.0

-- a piece leaves the head of what was sent
pub piece_head : (sent : Sent) (piece : List ℕ) → head_of (with_piece sent piece) ≡ head_of sent
piece_head writing.Sent.nothing piece = refl
piece_head (writing.Sent.begun head pieces) piece = refl
piece_head (writing.Sent.whole head pieces) piece = refl

-- so does the end
end_head : (sent : Sent) → head_of (with_end sent) ≡ head_of sent
end_head writing.Sent.nothing = refl
end_head (writing.Sent.begun head pieces) = refl
end_head (writing.Sent.whole head pieces) = refl

-- a task leaves it
pub task_head : (sent : Sent) (task : HttpTask) → head_of (sent_with sent task) ≡ head_of sent
task_head sent task = on (is_end task)
  where
    on : (ends : Bool) → head_of (if ends then with_end (with_piece sent (bytes_of task))
        else with_piece sent (bytes_of task)) ≡ head_of sent
    on true = end_head (with_piece sent (bytes_of task)) ∙ piece_head sent (bytes_of task)
    on false = piece_head sent (bytes_of task)

-- ---- the pieces of what was sent

-- what is whole stays whole
whole_with : (head : RequestHead) (pieces : List (List ℕ)) (task : HttpTask)
    → sent_with (writing.Sent.whole head pieces) task ≡ writing.Sent.whole head pieces
whole_with head pieces task = on (is_end task)
  where
    on : (ends : Bool)
        → (if ends then writing.Sent.whole head pieces else writing.Sent.whole head pieces)
        ≡ writing.Sent.whole head pieces
    on true = refl
    on false = refl

-- a request that was sent whole is none that goes on
whole_behind : (head first : RequestHead) (pieces more : List (List ℕ)) (tasks : List HttpTask)
    → sent_behind (writing.Sent.whole first pieces) tasks ≡ writing.Sent.begun head more → ⊥
whole_behind head first pieces more [] same = cc
whole_behind head first pieces more (task ∷ tasks) same =
    whole_behind head first pieces more tasks
    (ap (λ (s : Sent). sent_behind s tasks) (sym (whole_with first pieces task)) ∙ same)

-- a request that goes on has one list of pieces
begun_pieces : (head first : RequestHead) (pieces more : List (List ℕ))
    → writing.Sent.begun first pieces ≡ writing.Sent.begun head more → pieces ≡ more
begun_pieces head first pieces more same = cc

-- the pieces of a body that has not ended are the bytes that its tasks bring
pub begun_body : (head first : RequestHead) (pieces more : List (List ℕ)) (tasks : List HttpTask)
    → sent_behind (writing.Sent.begun first pieces) tasks ≡ writing.Sent.begun head more
    → concat more ≡ concat pieces ++ body_of tasks
begun_body head first pieces more [] same =
    ap concat (sym (begun_pieces head first pieces more same)) ∙ sym (append-nil (concat pieces))
begun_body head first pieces more (task ∷ tasks) same =
    on (is_end task) (begun_body head first (pieces ++ bytes_of task ∷ []) more tasks) same
  where
    one : concat (pieces ++ bytes_of task ∷ []) ≡ concat pieces ++ bytes_of task
    one = concat-append pieces (bytes_of task ∷ [])
        ∙ ap (λ (l : List ℕ). concat pieces ++ l) (append-nil (bytes_of task))

    on : (ends : Bool)
        → (sent_behind (writing.Sent.begun first (pieces ++ bytes_of task ∷ [])) tasks
        ≡ writing.Sent.begun head more
        → concat more ≡ concat (pieces ++ bytes_of task ∷ []) ++ body_of tasks)
        → sent_behind (if ends then writing.Sent.whole first (pieces ++ bytes_of task ∷ [])
        else writing.Sent.begun first (pieces ++ bytes_of task ∷ [])) tasks
        ≡ writing.Sent.begun head more
        → concat more ≡ concat pieces ++ (bytes_of task ++ body_of tasks)
    on true behind is =
        absurd (whole_behind head first (pieces ++ bytes_of task ∷ []) more tasks is)
    on false behind is =
        behind is ∙ ap (λ (l : List ℕ). l ++ body_of tasks) one
        ∙ append_assoc (concat pieces) (bytes_of task) (body_of tasks)

-- the bytes that one task more brings stand behind the others
pub body_push : (tasks : List HttpTask) (task : HttpTask)
    → body_of (tasks ++ task ∷ []) ≡ body_of tasks ++ bytes_of task
body_push [] task = append-nil (bytes_of task)
body_push (first ∷ tasks) task =
    ap (λ (l : List ℕ). bytes_of first ++ l) (body_push tasks task)
    ∙ sym (append_assoc (bytes_of first) (body_of tasks) (bytes_of task))
