-- How the text of tasks grows by one task more.
use Rattle.std.proofs.Common.{◌≡◌, ℕ, ◌+◌, ◌^◌, ◌<◌, Bool, true, false, List, [], ◌∷◌, ◌++◌, length, refl, sym, ◌∙◌, ap, subst, arith, append-nil, append_assoc, Option, Some, None, Result, Ok, Err, IfOk, if◌then◌else◌, inl, inr}
use Rattle.std.specs.Prelude.{IsErrOf, IsTrue, ◌↔◌}
use Rattle.std.proofs.Math.Seq.{take-nil}
use Rattle.std.proofs.lemmas.List.Elements.{All-nil}
use Rattle.std.proofs.Math.Bool.{or-false, or_assoc}
use Rattle.std.proofs.lemmas.Bool.{or_parts, cases_Bool}
use Rattle.relay_tasks.specs.declared.error.Error.{Error}
use Rattle.relay_tasks.specs.declared.error.Fail.{Fail}
use Rattle.relay_tasks.specs.declared.error.Fail.TheVariants as fail
use Rattle.relay_tasks.specs.declared.task.HttpTask.{HttpTask}
use Rattle.relay_tasks.specs.declared.task.HttpTask.TheVariants as task
use Rattle.relay_tasks.specs.Head.{ResponseHead}
use Rattle.relay_h1.specs.declared.framing.Framing.{Framing}
use Rattle.relay_h1.specs.declared.framing.Framing.TheVariants as framing
use Rattle.relay_h1.specs.BodyWire.{HasWritten, ReadsBackWhole, piece_text, after_piece, after_pieces, end_text, is_short, short_body}
use Rattle.relay_h1.specs.ClientHead.{is_informational}
use Rattle.relay_h1.specs.Wire.{response_text}
use Rattle.relay_session.specs.declared.task_text.Request.{Request}
use Rattle.relay_session.specs.declared.task_text.Place.{Place}
use Rattle.relay_session.specs.declared.task_text.Pushed.{Pushed}
use Rattle.relay_session.specs.declared.task_text.Place.TheVariants as place
use Rattle.relay_session.specs.TaskWire.{Sent, IsFramedInside, behind_head, ends_connection, piece_sent, piece_refusal, framed_head_refusal, bytes_of, nothing_at, joined, only_piece, only_end, ends_with, framing_of, shown, framed_head_sent, head_sent, head_at, piece_at, task_sent, refusal, wire, or_later, first_refusal}
use Rattle.relay_session.specs.TaskSteps.{HasPushed, piece_of, pieces_of, ends_body, has_end, Parts, from_head, InBody, WholeBody, SaysBody, IsWire, GoesOnBy, GoesOn, HeadGoesOn, HeadGoesOnAt, PieceGoesOnAt}

-- ---- a piece

-- the end of a body that was refused was short
pub short_of : {X : Type 0} (result : Result X Fail) (short : Bool) (error : Error)
    → (IsErrOf result (fail.Error short_body) ↔ IsTrue short)
    → result ≡ Err (fail.Error error) → error ≡ short_body → short ≡ true
short_of result short error exact is same =
    exact.0 (is ∙ ap (λ (e : Error). Err (fail.Error e)) same)

-- behind an end that comes short the body goes on
pub short_goes : (rest : Framing) (piece : List ℕ) (ends : Bool) → ends ≡ true
    → is_short (after_piece rest piece) ≡ true → GoesOnBy rest piece false
    → GoesOn rest piece ends
short_goes rest piece ends asked short goes = rw (asked, short) goes

-- ---- what was pushed

-- what was pushed behind a final head, with that head
pub pushed_behind : (pushed : Pushed) (head : ResponseHead) (framing : Framing) (closes : Bool)
    (sent : Sent) (why : Option Error) (old mid new : List ℕ)
    → closes ≡ ends_connection head framing → mid ≡ old ++ response_text head
    → HasPushed sent why mid new pushed
    → HasPushed (behind_head head framing sent) why old new (record pushed { closes = closes })
pushed_behind pushed head framing closes sent why old mid new ends is p =
    record {
      grown =
          p.grown ∙ ap (λ (l : List ℕ). l ++ sent.text) is
          ∙ append_assoc old (response_text head) sent.text;
      counted = p.counted;
      closes = ends;
      place = p.place;
      refused = p.refused;
    }

-- what was pushed of a final head that is framed so
pub pushed_final : (result : Result Pushed Fail) (found : Option Framing) (framing : Framing)
    (given told : ResponseHead) (ends : Bool) (old new : List ℕ)
    → IsFramedInside (Ok framing) found → told ≡ given
    → IfOk result (HasPushed (behind_head told framing (piece_sent framing [] ends))
    (piece_refusal framing [] ends) old new)
    → IfOk result (HasPushed (framed_head_sent given ends found) (framed_head_refusal ends found)
    old new)
pushed_final result None framing given told ends old new is same pushed = absurd (cc)
pushed_final result (Some f) framing given told ends old new is same pushed =
    let one : framing ≡ f = cc in
    subst
    (λ (g : Framing). IfOk result (HasPushed
    (behind_head given g (piece_sent g [] ends)) (piece_refusal g [] ends) old new)) one
    (subst
    (λ (h : ResponseHead). IfOk result (HasPushed
    (behind_head h framing (piece_sent framing [] ends)) (piece_refusal framing [] ends)
    old new)) same pushed)

-- ---- what is sent, joined

-- nothing behind
pub joined_nothing : (sent : Sent) → joined sent (nothing_at sent.place) ≡ sent
joined_nothing sent =
    let counts : sent.counted + 0 ≡ sent.counted = omega arith in
    rw (append-nil sent.text, counts, or-false sent.closes) refl

-- nothing in front
nothing_joined : (at : Place) (sent : Sent) → joined (nothing_at at) sent ≡ sent
nothing_joined at sent = let counts : 0 + sent.counted ≡ sent.counted = omega arith in rw counts refl

-- three in order
joined_assoc : (a b c : Sent) → joined a (joined b c) ≡ joined (joined a b) c
joined_assoc a b c =
    let counts : a.counted + (b.counted + c.counted) ≡ a.counted + b.counted + c.counted =
    omega arith in
    rw (append_assoc a.text b.text c.text, counts, or_assoc a.closes b.closes c.closes) refl

-- ---- tasks, joined

-- the text of tasks that follow others
pub wire-append : (request : Request) (at : Place) (tasks more : List HttpTask)
    → wire request at (tasks ++ more)
    ≡ joined (wire request at tasks) (wire request (wire request at tasks).place more)
wire-append request at [] more = sym (nothing_joined at (wire request at more))
wire-append request at (task ∷ tasks) more =
    let first = task_sent request at task in
    let rest = wire request first.place tasks in
    ap (joined first) (wire-append request first.place tasks more)
    ∙ joined_assoc first rest (wire request rest.place more)

-- one task alone
pub wire-one : (request : Request) (at : Place) (task : HttpTask)
    → wire request at (task ∷ []) ≡ task_sent request at task
wire-one request at task = joined_nothing (task_sent request at task)

-- tasks, and one more
pub wire-push : (request : Request) (at : Place) (tasks : List HttpTask) (task : HttpTask)
    → wire request at (tasks ++ task ∷ [])
    ≡ joined (wire request at tasks) (task_sent request (wire request at tasks).place task)
wire-push request at tasks task =
    wire-append request at tasks (task ∷ [])
    ∙ ap (joined (wire request at tasks))
    (wire-one request (wire request at tasks).place task)

or_later_assoc : (a b c : Option Error) → or_later a (or_later b c) ≡ or_later (or_later a b) c
or_later_assoc None b c = refl
or_later_assoc (Some error) b c = refl

-- the refusal of tasks that follow others
pub first_refusal-append : (request : Request) (at : Place) (tasks more : List HttpTask)
    → first_refusal request at (tasks ++ more)
    ≡ or_later (first_refusal request at tasks)
    (first_refusal request (wire request at tasks).place more)
first_refusal-append request at [] more = refl
first_refusal-append request at (task ∷ tasks) more =
    let next = (task_sent request at task).place in
    ap (or_later (refusal request at task)) (first_refusal-append request next tasks more)
    ∙ or_later_assoc (refusal request at task) (first_refusal request next tasks)
    (first_refusal request (wire request next tasks).place more)

-- where none is refused, one more that is not leaves none
pub first_refusal-push : (request : Request) (at : Place) (tasks : List HttpTask)
    (task : HttpTask) → first_refusal request at tasks ≡ None
    → refusal request (wire request at tasks).place task ≡ None
    → first_refusal request at (tasks ++ task ∷ []) ≡ None
first_refusal-push request at tasks task none passes =
    first_refusal-append request at tasks (task ∷ []) ∙ rw (none, passes) refl

-- ---- the pieces that tasks bring

nothing_either : (b : Bool) → (if b then [] else []) ≡ let none : List (List ℕ) = [] in none
nothing_either true = refl
nothing_either false = refl

-- where none has ended the body, one task more brings its piece
pieces_of-push : (rest : Framing) (tasks : List HttpTask) (task : HttpTask)
    → has_end rest tasks ≡ false
    → pieces_of rest (tasks ++ task ∷ []) ≡ pieces_of rest tasks ++ piece_of task ∷ []
pieces_of-push rest [] task none =
    ap (λ l. piece_of task ∷ l) (nothing_either (ends_body rest task))
pieces_of-push rest (first ∷ tasks) task none =
    let left = after_piece rest (piece_of first) in
    let parts = or_parts (ends_body rest first) (has_end left tasks) none in
    rw (parts.0) (ap (λ l. piece_of first ∷ l) (pieces_of-push left tasks task parts.1))

-- where one has ended the body, one task more brings nothing
pieces_of-ended : (rest : Framing) (tasks : List HttpTask) (task : HttpTask)
    → has_end rest tasks ≡ true → pieces_of rest (tasks ++ task ∷ []) ≡ pieces_of rest tasks
pieces_of-ended rest [] task some = cc
pieces_of-ended rest (first ∷ tasks) task some =
    elim (cases_Bool (ends_body rest first)) [
      | inl ends ↦ rw ends refl
      | inr goes_on ↦
          let left = after_piece rest (piece_of first) in
          let later : has_end left tasks ≡ true = rw goes_on at some in
          rw goes_on (ap (λ l. piece_of first ∷ l) (pieces_of-ended left tasks task later))
    ]

-- what is left of the body behind the pieces of tasks, and one more ends it
has_end-push : (rest : Framing) (tasks : List HttpTask) (task : HttpTask)
    → has_end rest tasks ≡ false
    → has_end rest (tasks ++ task ∷ [])
    ≡ ends_body (after_pieces rest (pieces_of rest tasks)) task
has_end-push rest [] task none = or-false (ends_body rest task)
has_end-push rest (first ∷ tasks) task none =
    let left = after_piece rest (piece_of first) in
    let parts = or_parts (ends_body rest first) (has_end left tasks) none in
    rw (parts.0) (has_end-push left tasks task parts.1)

-- an end stays one
has_end-ended : (rest : Framing) (tasks : List HttpTask) (task : HttpTask)
    → has_end rest tasks ≡ true → has_end rest (tasks ++ task ∷ []) ≡ true
has_end-ended rest [] task some = cc
has_end-ended rest (first ∷ tasks) task some =
    elim (cases_Bool (ends_body rest first)) [
      | inl ends ↦ rw ends refl
      | inr goes_on ↦
          let left = after_piece rest (piece_of first) in
          let later : has_end left tasks ≡ true = rw goes_on at some in
          rw goes_on (has_end-ended left tasks task later)
    ]

-- ---- the body, with one task more

-- the parts of a text, with one task more behind them
abbrev parts_more : (request : Request) (tasks : List HttpTask) (text : List ℕ)
    → Parts request tasks text → (added : HttpTask) (more : List ℕ)
    → Parts request (tasks ++ added ∷ []) (text ++ more)
parts_more request tasks text p added more =
    record {
      before = p.before;
      head = p.head;
      ends = p.ends;
      behind = p.behind ++ added ∷ [];
      framing = p.framing;
      body = p.body ++ more;
      are_tasks =
          ap (λ (l : List HttpTask). l ++ added ∷ []) p.are_tasks
          ∙ append_assoc p.before (task.Header p.head p.ends ∷ p.behind) (added ∷ []);
      no_head = p.no_head;
      is_final = p.is_final;
      framed = p.framed;
      is_text = ap (λ (l : List ℕ). l ++ more) p.is_text ∙ append_assoc _ p.body more;
    }

-- a task inside the body
body_goes_on : (request : Request) (tasks : List HttpTask) (text : List ℕ) (rest : Framing)
    (added : HttpTask)
    → InBody request tasks text rest → ends_body rest added ≡ false
    → GoesOnBy rest (piece_of added) false
    → InBody request (tasks ++ added ∷ []) (text ++ piece_text rest (piece_of added))
    (after_piece rest (piece_of added))
body_goes_on request tasks text rest added b stays goes =
    let f = b.parts.framing in
    let behind = from_head b.parts in
    record {
      parts = parts_more request tasks text b.parts added (piece_text rest (piece_of added));
      goes_on = has_end-push f behind added b.goes_on ∙ rw (← b.written.is_rest) stays;
      written =
          rw (pieces_of-push f behind added b.goes_on)
          (goes f (pieces_of f behind) b.parts.body b.written);
    }

-- the task that ends the body
body_ends : (request : Request) (tasks : List HttpTask) (text : List ℕ) (rest : Framing)
    (added : HttpTask)
    → InBody request tasks text rest → ends_body rest added ≡ true
    → GoesOnBy rest (piece_of added) true
    → WholeBody request (tasks ++ added ∷ [])
    (text ++ (piece_text rest (piece_of added) ++ end_text (after_piece rest (piece_of added))))
body_ends request tasks text rest added b ends goes =
    let f = b.parts.framing in
    let behind = from_head b.parts in
    let more = piece_text rest (piece_of added) in
    let end = end_text (after_piece rest (piece_of added)) in
    record {
      parts = parts_more request tasks text b.parts added (more ++ end);
      ended = has_end-push f behind added b.goes_on ∙ rw (← b.written.is_rest) ends;
      reads_back =
          subst (λ (ps : List (List ℕ)). ReadsBackWhole f ps (b.parts.body ++ (more ++ end)))
          (sym (pieces_of-push f behind added b.goes_on))
          (subst
          (λ (l : List ℕ). ReadsBackWhole f (pieces_of f behind ++ piece_of added ∷ []) l)
          (append_assoc b.parts.body more end)
          (goes f (pieces_of f behind) b.parts.body b.written));
    }

-- behind the end nothing is added
body_ended : (request : Request) (tasks : List HttpTask) (text : List ℕ) (added : HttpTask)
    → WholeBody request tasks text → WholeBody request (tasks ++ added ∷ []) (text ++ [])
body_ended request tasks text added w =
    let f = w.parts.framing in
    let behind = from_head w.parts in
    record {
      parts = parts_more request tasks text w.parts added [];
      ended = has_end-ended f behind added w.ended;
      reads_back =
          subst (λ (ps : List (List ℕ)). ReadsBackWhole f ps (w.parts.body ++ []))
          (sym (pieces_of-ended f behind added w.ended))
          (subst (λ (l : List ℕ). ReadsBackWhole f (pieces_of f behind) l)
          (sym (append-nil w.parts.body)) w.reads_back);
    }

-- what a piece is sent as, by whether it ends the body
abbrev sent_by : Framing → List ℕ → Bool → Sent
sent_by rest piece ends =
    if ends then joined (only_piece rest piece) (only_end (after_piece rest piece))
    else only_piece rest piece

-- a task, by whether it ends the body
body_by : (request : Request) (tasks : List HttpTask) (text : List ℕ) (rest : Framing)
    (added : HttpTask) (ends : Bool)
    → InBody request tasks text rest → ends_body rest added ≡ ends
    → GoesOnBy rest (piece_of added) ends
    → SaysBody request (tasks ++ added ∷ [])
    (text ++ (sent_by rest (piece_of added) ends).text) (sent_by rest (piece_of added) ends).place
body_by request tasks text rest added false b stays goes =
    body_goes_on request tasks text rest added b stays goes
body_by request tasks text rest added true b ends goes =
    body_ends request tasks text rest added b ends goes

-- ---- the final head

-- the parts of a text that a final head has just come to
abbrev parts_begun : (request : Request) (tasks : List HttpTask)
    (head : ResponseHead) (ends : Bool) (framing : Framing) (body : List ℕ)
    → (wire request place.NoHead tasks).place ≡ place.NoHead
    → is_informational head.status ≡ false → framing_of request head ≡ Some framing
    → Parts request (tasks ++ task.Header head ends ∷ [])
    ((wire request place.NoHead tasks).text ++ (response_text (shown request head) ++ body))
parts_begun request tasks head ends framing body at final framed =
    record {
      before = tasks;
      head = head;
      ends = ends;
      behind = [];
      framing = framing;
      body = body;
      are_tasks = refl;
      no_head = at;
      is_final = final;
      framed = framed;
      is_text = sym (append_assoc (wire request place.NoHead tasks).text _ body);
    }

-- no piece was written yet
begun : (framing : Framing) → HasWritten framing [] [] framing
begun framing =
    record { fit = All-nil (λ piece. length piece < 2 ^ 64); is_text = refl; is_rest = refl }

-- a final head, by whether it ends the body
head_begins : (request : Request) (tasks : List HttpTask) (head : ResponseHead) (asks : Bool)
    (ends : Bool) (framing : Framing)
    → (wire request place.NoHead tasks).place ≡ place.NoHead
    → is_informational head.status ≡ false
    → framing_of request head ≡ Some framing
    → ends_with framing [] asks ≡ ends → GoesOnBy framing [] ends
    → SaysBody request (tasks ++ task.Header head asks ∷ [])
    ((wire request place.NoHead tasks).text
    ++ (response_text (shown request head) ++ (sent_by framing [] ends).text))
    (sent_by framing [] ends).place
head_begins request tasks head asks false framing at final framed stays goes =
    record {
      parts = parts_begun request tasks head asks framing (piece_text framing []) at final framed;
      goes_on = rw stays refl;
      written = rw stays (goes framing [] [] (begun framing));
    }
head_begins request tasks head asks true framing at final framed ends goes =
    record {
      parts =
          parts_begun request tasks head asks framing
          (piece_text framing [] ++ end_text (after_piece framing [])) at final framed;
      ended = rw ends refl;
      reads_back = rw ends (goes framing [] [] (begun framing));
    }

-- ---- one task more

-- what the tasks so far say of the body, with one more that is sent so
abbrev SaysMore : Request → List HttpTask → HttpTask → Sent → Type 0
SaysMore request tasks added more =
    SaysBody request (tasks ++ added ∷ [])
    ((wire request place.NoHead tasks).text ++ more.text) more.place

-- a final head, by its framing
final_added : (request : Request) (tasks : List HttpTask) (head : ResponseHead) (asks : Bool)
    (framing : Option Framing)
    → (wire request place.NoHead tasks).place ≡ place.NoHead
    → is_informational head.status ≡ false → framing_of request head ≡ framing
    → HeadGoesOn request head asks
    → SaysMore request tasks (task.Header head asks)
    (framed_head_sent (shown request head) asks framing)
final_added request tasks head asks None at final framed goes = tt
final_added request tasks head asks (Some framing) at final framed goes =
    head_begins request tasks head asks (ends_with framing [] asks) framing at final framed refl
    (goes framing final framed)

-- a head where no final head stands
head_added : (request : Request) (tasks : List HttpTask) (head : ResponseHead) (asks : Bool)
    → (wire request place.NoHead tasks).place ≡ place.NoHead
    → HeadGoesOn request head asks
    → SaysMore request tasks (task.Header head asks) (head_sent request head asks)
head_added request tasks head asks at goes =
    elim (cases_Bool (is_informational head.status)) [
      | inl informs ↦ rw informs tt
      | inr final ↦
          rw final
          (final_added request tasks head asks (framing_of request head) at final refl goes)
    ]

-- what a task does to the body, by where the response stands; a failure is no part of it
abbrev pub GoesOnAt : Request → Place → HttpTask → Type 0
GoesOnAt request at (task.Header head ends) = HeadGoesOnAt request at head ends
GoesOnAt request at (task.Body piece ends) = PieceGoesOnAt at (bytes_of piece) ends
GoesOnAt request at (task.UpgradedBody piece ends) = PieceGoesOnAt at (bytes_of piece) ends
GoesOnAt request at (task.Trailer fields) = PieceGoesOnAt at [] true
GoesOnAt request at task.Done = PieceGoesOnAt at [] true
GoesOnAt request at (task.Failed error) = ⊥

-- an empty piece leaves the rest of a body
pub after_nothing : (rest : Framing) → after_piece rest [] ≡ rest
after_nothing framing.Empty = refl
after_nothing (framing.Length left) = ap framing.Length (omega arith)
after_nothing framing.Chunked = refl
after_nothing framing.UntilClose = refl
after_nothing framing.Tunnel = refl

-- and gives no text
pub text_nothing : (rest : Framing) → piece_text rest [] ≡ []
text_nothing framing.Empty = refl
text_nothing (framing.Length left) = take-nil left
text_nothing framing.Chunked = refl
text_nothing framing.UntilClose = refl
text_nothing framing.Tunnel = refl

-- a task that is a piece, by where the response stands
piece_added : (request : Request) (tasks : List HttpTask) (text : List ℕ) (at : Place)
    (added : HttpTask) (asks : Bool)
    → SaysBody request tasks text at
    → ((rest : Framing) → ends_body rest added ≡ ends_with rest (piece_of added) asks)
    → PieceGoesOnAt at (piece_of added) asks
    → SaysBody request (tasks ++ added ∷ []) (text ++ (piece_at at (piece_of added) asks).text)
    (piece_at at (piece_of added) asks).place
piece_added request tasks text place.NoHead added asks b kind goes = tt
piece_added request tasks text (place.Body rest) added asks b kind goes =
    body_by request tasks text rest added (ends_with rest (piece_of added) asks) b (kind rest) goes
piece_added request tasks text place.Done added asks b kind goes =
    body_ended request tasks text added b

-- a head, by where the response stands
any_head_added : (request : Request) (tasks : List HttpTask) (at : Place) (head : ResponseHead)
    (asks : Bool)
    → (wire request place.NoHead tasks).place ≡ at
    → SaysBody request tasks (wire request place.NoHead tasks).text at
    → HeadGoesOnAt request at head asks
    → SaysMore request tasks (task.Header head asks) (head_at request at head asks)
any_head_added request tasks place.NoHead head asks at b goes =
    head_added request tasks head asks at goes
any_head_added request tasks (place.Body rest) head asks at b goes =
    body_by request tasks (wire request place.NoHead tasks).text rest (task.Header head asks)
    (ends_with rest [] asks) b refl goes
any_head_added request tasks place.Done head asks at b goes =
    body_ended request tasks (wire request place.NoHead tasks).text (task.Header head asks) b

-- any task
body_added : (request : Request) (tasks : List HttpTask) (added : HttpTask)
    → SaysBody request tasks (wire request place.NoHead tasks).text
    (wire request place.NoHead tasks).place
    → GoesOnAt request (wire request place.NoHead tasks).place added
    → SaysMore request tasks added
    (task_sent request (wire request place.NoHead tasks).place added)
body_added request tasks (task.Header head asks) b goes =
    any_head_added request tasks (wire request place.NoHead tasks).place head asks refl b goes
body_added request tasks (task.Body piece asks) b goes =
    let so_far = wire request place.NoHead tasks in
    piece_added request tasks so_far.text so_far.place (task.Body piece asks) asks b
    (λ rest. refl) goes
body_added request tasks (task.UpgradedBody piece asks) b goes =
    let so_far = wire request place.NoHead tasks in
    piece_added request tasks so_far.text so_far.place (task.UpgradedBody piece asks) asks b
    (λ rest. refl) goes
body_added request tasks (task.Trailer fields) b goes =
    let so_far = wire request place.NoHead tasks in
    piece_added request tasks so_far.text so_far.place (task.Trailer fields) true b
    (λ rest. refl) goes
body_added request tasks task.Done b goes =
    let so_far = wire request place.NoHead tasks in
    piece_added request tasks so_far.text so_far.place task.Done true b (λ rest. refl) goes
body_added request tasks (task.Failed error) b goes = absurd goes

-- the wire of tasks, and of one more
pub IsWire-push : (request : Request) (tasks : List HttpTask) (sent : Sent) (added : HttpTask)
    → IsWire request tasks sent → GoesOnAt request sent.place added
    → IsWire request (tasks ++ added ∷ []) (joined sent (task_sent request sent.place added))
IsWire-push request tasks sent added w goes =
    let body = subst (λ (s : Sent). SaysBody request tasks s.text s.place) (sym w.is) w.body in
    let does = subst (λ (s : Sent). GoesOnAt request s.place added) (sym w.is) goes in
    record {
      is =
          wire-push request place.NoHead tasks added
          ∙ ap (λ (s : Sent). joined s (task_sent request s.place added)) w.is;
      body =
          subst (λ (s : Sent). SaysBody request (tasks ++ added ∷ [])
          (s.text ++ (task_sent request s.place added).text)
          (task_sent request s.place added).place) w.is
          (body_added request tasks added body does);
    }
