-- A call of the peer's side, and a read that hands nothing on, go on with what passed.
use Rattle.std.proofs.Common.{◌≡◌, ◌||◌, ℕ, Bool, true, false, List, [], ◌++◌, refl, sym, ap, subst, ◌∙◌, append-nil, Option, Some}
use Rattle.std.specs.List.{list_any}
use Rattle.relay_tasks.specs.Head.{RequestHead}
use Rattle.relay_tasks.specs.declared.error.Error.{Error}
use Rattle.relay_tasks.specs.declared.error.Fail.{Fail}
use Rattle.relay_tasks.specs.declared.error.Fail.TheVariants as fail
use Rattle.relay_tasks.specs.Task.{is_end}
use Rattle.relay_tasks.specs.declared.task.HttpTask.{HttpTask}
use Rattle.relay_tasks.specs.declared.took.Took.{Took}
use Rattle.relay_tasks.specs.declared.took.Took.TheVariants as took
use Rattle.relay_links.specs.Link.{LinkState, LinkStart}
use Rattle.relay_links.specs.declared.link.Got.{Got}
use Rattle.relay_links.specs.declared.link.Got.TheVariants as got
use Rattle.relay_tasks.specs.declared.fault.Fault.{Fault}
use Rattle.relay_core.specs.Told.{failed}
use Rattle.relay_links.proofs.SinceLemmas.{Since-kept}
use Rattle.relay_h1.specs.Move.{taken}
use Rattle.relay_peer.specs.declared.h1_client.H1Client.{H1Client}
use Rattle.relay_peer.specs.declared.request_writing.RequestPlace.{RequestPlace}
use Rattle.relay_peer.specs.declared.request_writing.RequestPlace.TheVariants as request
use Rattle.relay_peer.specs.declared.request_writing.RequestWriting.{RequestWriting}
use Rattle.relay_peer.specs.declared.response_reading.ResponsePlace.{ResponsePlace}
use Rattle.relay_peer.specs.declared.response_reading.ResponseReading.{ResponseReading}
use Rattle.relay_peer.specs.RequestWriting.{SentSoFar, head_in, method_of}
use Rattle.relay_peer.specs.ResponseReading.{ToldResponse, ReadSoFar, ReadsTask, Answers, Asks, Refuses, is_over, is_item, is_error, fault_error}
use Rattle.relay_peer.specs.ResponseReading as reading
use Rattle.relay_core.specs.Past.{Origin, UpPast, GaveBytes, UpGoes, error_of_fail, error_of_took}
use Rattle.relay_peer.specs.Peer.{IsPeer, PeerBlames, AreTasks, told_of}
use Rattle.relay_peer.specs.Peer as peer
use Rattle.relay_peer.proofs.FaultLemmas.{tells_on}
use Rattle.relay_peer.proofs.FrontLemmas.{own_front}
use Rattle.relay_peer.proofs.TaskLemmas.{tasks_kept}
use Rattle.relay_peer.proofs.MoveLemmas.{GoesOn, blames_keep, ReadMoves, read_moves, some_error}

-- ---- a call

-- what a side answers for, by the head of its request
abbrev pub Blamed : {L : Type 0} → Bool → LinkStart → LinkState → H1Client L → UpPast → Error → Type
    0
Blamed upgrade start link client q e =
    (head : RequestHead) × (head_in client.request.request ≡ Some head)
    × PeerBlames start link head upgrade q e

-- one head was queued
same_head : (a b : RequestHead) → Some a ≡ Some b → a ≡ b
same_head a b same = cc

-- a call that went on to that past
pub goes : {L : Type 0} (o : Origin) (start started : LinkStart) (before after : LinkState)
    (old new : H1Client L) (lost : Option Fail) (q p : UpPast) (head : RequestHead)
    (read taken : List HttpTask) (gone : Bool) (error : Option Error)
    → started ≡ start → head_in old.request.request ≡ Some head
    → head_in new.request.request ≡ Some head → GoesOn start before after q p
    → IsPeer o start after new lost p → p.read ≡ read → p.taken ≡ taken → p.lost ≡ gone
    → ((e : Error) → error ≡ Some e → PeerBlames start after head o.asked p e)
    → UpGoes (λ r. IsPeer o started after new lost r)
    (λ r e. Blamed o.asked start before old r e)
    (λ r e. Blamed o.asked started after new r e) q read taken gone error
goes {L} o start started before after old new lost q p head read taken gone error same was
    is on stands reads takes loses blamed =
    subst (λ (s : LinkStart).
    UpGoes (λ r. IsPeer o s after new lost r) (λ r e. Blamed o.asked start before old r e)
    (λ r e. Blamed o.asked s after new r e) q read taken gone error) (sym same)
    (record {
      past = p;
      stands = stands;
      is_read = reads;
      is_taken = takes;
      is_lost = loses;
      keeps = λ e blame. (
        head,
        is,
        blames_keep start before after head o.asked q p e on
            (subst (λ (h : RequestHead). PeerBlames start before h o.asked q e)
            (same_head blame.0 head (sym blame.1 ∙ was)) blame.2),
      );
      blamed = λ e told. (head, is, blamed e told);
    })

-- the method of a request whose head was queued
pub method_is : (at : RequestPlace) (head : RequestHead) → head_in at ≡ Some head
    → method_of at ≡ head.method
method_is request.NoHead head is = absurd (cc)
method_is (request.Sending sending) head is =
    ap (λ (h : RequestHead). h.method) (same_head sending.head head is)

-- a read, as one of the response to the request that was sent, by what both sides asked
pub at_origin : {L : Type 0} (o : Origin) (start : LinkStart) (before after : LinkState)
    (old : H1Client L) (lost : Option Fail) (q : UpPast) (new : ResponseReading)
    (answer : Took HttpTask) (stands : IsPeer o start before old lost q)
    → ReadsTask (method_of old.request.request) old.asked before after old.response new answer
    → ReadsTask stands.head.method o.asked before after old.response new answer
at_origin {L} o start before after old lost q new answer stands reads =
    subst (λ (b : Bool). ReadsTask stands.head.method b before after old.response new answer)
    stands.asks
    (subst (λ (m : List ℕ). ReadsTask m old.asked before after old.response new answer)
    (method_is old.request.request stands.head stands.is_head) reads)

-- a failure with that error is that error
pub fail_is : (why : Fail) (e : Error) → error_of_fail why ≡ Some e → why ≡ fail.Error e
fail_is fail.OutOfMemory e told = cc
fail_is (fail.Error error) e told = ap fail.Error (some_error error e told)

-- one failure is kept
pub some_fail : (a b : Fail) → Some a ≡ Some b → a ≡ b
some_fail a b same = cc

-- ---- reads

-- the past with the bytes that came and the tasks that were handed on
abbrev pub after_read : UpPast → List ℕ → List HttpTask → UpPast
after_read q came read = record q { got = q.got ++ came; read = read }

-- a read goes on from what passed before
pub read_on : (start : LinkStart) (before after : LinkState) (q : UpPast) (came : List ℕ)
    (read : List HttpTask) (asked : Option Got) → ReadMoves start before after q.got came asked
    → GoesOn start before after q (after_read q came read)
read_on start before after q came read asked moves = record {
  more = came;
  got = refl;
  still = moves.still;
  taken = own_front q.taken;
  rises = moves.rises;
  grew = moves.grew;
}

-- no error was answered, and none before
pub neither_failed : (was now : Bool) → was || now ≡ false → (was ≡ false) × (now ≡ false)
neither_failed true now none = absurd (cc)
neither_failed false now none = (refl, none)

-- where no error was answered by a read, no fault came in it
pub calm_read : (start : LinkStart) (before after : LinkState) (had came : List ℕ)
    (asked : Option Got) (was now : Bool) (answer : Took HttpTask)
    → ReadMoves start before after had came asked
    → ((fault : Fault) → asked ≡ Some (got.Failed fault)
    → answer ≡ took.Failed (fail.Error (fault_error fault)))
    → now ≡ (was || is_error answer) → (was ≡ false → before.faults ≡ start.faults)
    → now ≡ false → after.faults ≡ start.faults
calm_read start before after had came asked was now answer moves fails is calm none =
    let both = neither_failed was (is_error answer) (sym is ∙ none) in
    moves.calm (λ fault of. apart (sym (ap is_error (fails fault of)) ∙ both.1)) ∙ calm both.0
  where
    apart : true ≡ false → ⊥
    apart same = cc

-- a side that read on: these tasks were read
pub peer_read : {L : Type 0} (o : Origin) (start : LinkStart) (before after : LinkState)
    (old new : H1Client L) (lost : Option Fail) (q : UpPast) (came : List ℕ)
    (read : List HttpTask) (asked : Option Got) (stands : IsPeer o start before old lost q)
    → new.request ≡ old.request → new.asked ≡ old.asked
    → ReadMoves start before after q.got came asked
    → AreTasks stands.head.method o.asked after.ended (q.got ++ came) read new.response
    → (new.failed ≡ false → after.faults ≡ start.faults)
    → IsPeer o start after new lost (after_read q came read)
peer_read {L} o start before after old new lost q came read asked stands same unasked moves tasks
    calm = record {
      got = moves.given;
      sent = Since-kept [] start.taken before.taken after.taken q.sent moves.taken stands.sent;
      faults = moves.faults;
      tells = tells_on start before after moves.grew stands.tells;
      calm = calm;
      sound = moves.sound;
      head = stands.head;
      own = stands.own;
      asks = unasked ∙ stands.asks;
      is_head = ap (λ (w : RequestWriting). head_in w.request) same ∙ stands.is_head;
      sending = stands.sending;
      so_far = subst (λ (w : RequestWriting). SentSoFar stands.sending q.sent w) (sym same)
          stands.so_far;
      queued = stands.queued;
      tasks = tasks;
      takes = stands.takes;
      why_lost = λ e is.
          blames_keep start before after stands.head o.asked q (after_read q came read) e
          (read_on start before after q came read asked moves) (stands.why_lost e is);
    }

-- an answer without a task leaves what was told
told_stays : (method : List ℕ) (upgrade closed : Bool) (had : List ℕ) (told : ToldResponse)
    (asked : Option Got)
    (old : ResponsePlace) (new : ResponseReading) (answer : Took HttpTask) → is_item answer ≡ false
    → Answers method upgrade closed had told asked old new answer → ReadSoFar method upgrade closed
    had told new
told_stays method upgrade closed had told asked old new (took.Item item) none answers = absurd (cc)
told_stays method upgrade closed had told asked old new took.More none answers = answers.2
told_stays method upgrade closed had told asked old new (took.Waited pause) none answers = answers.2
told_stays method upgrade closed had told asked old new took.End none answers = answers.2
told_stays method upgrade closed had told asked old new (took.Failed fail.OutOfMemory) none answers
    =
    answers
told_stays method upgrade closed had told asked old new (took.Failed (fail.Error error)) none
    answers =
    answers.1

-- the error of a refusal is blamed
refusal_blamed : (start : LinkStart) (before after : LinkState) (head : RequestHead)
    (upgrade : Bool)
    (q : UpPast) (came : List ℕ) (read : List HttpTask) (told : ToldResponse) (asked : Option Got)
    (error : Error) → ReadMoves start before after q.got came asked
    → Refuses head.method upgrade after.ended (q.got ++ came) told asked error
    → PeerBlames start after head upgrade (after_read q came read) error
refusal_blamed start before after head upgrade q came read told asked error moves
    (reading.Refuses.is_broken why is said breaks) =
    peer.PeerBlames.is_broken why after.ended (q.got ++ came) told is (own_front (q.got ++ came))
    said breaks
refusal_blamed start before after head upgrade q came read told asked error moves
    (reading.Refuses.has_failed fault was is said) =
    peer.PeerBlames.link_failed fault is (moves.failed fault was).0 (moves.failed fault was).1
refusal_blamed start before after head upgrade q came read told asked error moves
    (reading.Refuses.is_cut_off was is said) =
    peer.PeerBlames.is_cut_off told (moves.over was) is said

-- the side answers for the error of a read
answer_blamed : (start : LinkStart) (before after : LinkState) (head : RequestHead)
    (upgrade : Bool)
    (q : UpPast) (came : List ℕ) (read : List HttpTask) (told : ToldResponse) (asked : Option Got)
    (old : ResponsePlace) (new : ResponseReading) (answer : Took HttpTask)
    → ReadMoves start before after q.got came asked
    → Answers head.method upgrade after.ended (q.got ++ came) told asked old new answer →
    (e : Error)
    → error_of_took answer ≡ Some e → PeerBlames start after head upgrade (after_read q came read) e
answer_blamed start before after head upgrade q came read told asked old new (took.Item item) moves
    answers e is = absurd (cc)
answer_blamed start before after head upgrade q came read told asked old new took.More moves answers
    e is =
    absurd (cc)
answer_blamed start before after head upgrade q came read told asked old new (took.Waited pause)
    moves
    answers e is = absurd (cc)
answer_blamed start before after head upgrade q came read told asked old new took.End moves answers
    e is =
    absurd (cc)
answer_blamed start before after head upgrade q came read told asked old new
    (took.Failed fail.OutOfMemory) moves answers e is = absurd (cc)
answer_blamed start before after head upgrade q came read told asked old new
    (took.Failed (fail.Error error)) moves answers e is =
    subst (λ (x : Error). PeerBlames start after head upgrade (after_read q came read) x)
    (some_error error e is)
    (refusal_blamed start before after head upgrade q came read told asked error moves answers.0)

-- a read that gave no task
pub read_none : {L : Type 0} (o : Origin) (start started : LinkStart) (before after : LinkState)
    (old new : H1Client L) (lost : Option Fail) (q : UpPast) (answer : Took HttpTask)
    → started ≡ start → new.request ≡ old.request → new.asked ≡ old.asked
    → ReadsTask (method_of old.request.request) old.asked before after old.response new.response
    answer
    → is_item answer ≡ false → is_over new.response.place ≡ is_over old.response.place
    → new.failed ≡ old.failed || is_error answer
    → IsPeer o start before old lost q
    → UpGoes (λ r. IsPeer o started after new lost r)
    (λ r e. Blamed o.asked start before old r e)
    (λ r e. Blamed o.asked started after new r e) q (q.read ++ []) q.taken q.lost
    (error_of_took answer)
read_none {L} o start started before after old new lost q answer same kept unasked reads
    none over failed stands =
    let at = at_origin o start before after old lost q new.response answer stands reads in
    let moves = read_moves start before after q.got at.came at.asked at.asks stands.got
    stands.faults stands.tells stands.sound in
    let answers = at.answers q.got (told_of q.read) stands.tasks.so_far in
    goes o start started before after old new lost q (after_read q at.came q.read)
    stands.head (q.read ++ []) q.taken q.lost (error_of_took answer) same stands.is_head
    (ap (λ (w : RequestWriting). head_in w.request) kept ∙ stands.is_head)
    (read_on start before after q at.came q.read at.asked moves)
    (peer_read o start before after old new lost q at.came q.read at.asked stands kept unasked moves
    (tasks_kept stands.head.method o.asked before after q.got at.came q.read old.response
    new.response stands.tasks over
    (told_stays stands.head.method o.asked after.ended (q.got ++ at.came) (told_of q.read) at.asked
    old.response.place new.response answer none answers))
    (calm_read start before after q.got at.came at.asked old.failed new.failed answer moves at.fails
    failed stands.calm))
    (sym (append-nil q.read)) refl refl
    (answer_blamed start before after stands.head o.asked q at.came q.read (told_of q.read) at.asked
    old.response.place new.response answer moves answers)

-- where the side has to be asked again the link gave bytes
pub more_gave : {L : Type 0} (o : Origin) (start : LinkStart) (before after : LinkState)
    (old new : H1Client L) (lost : Option Fail) (q : UpPast)
    → ReadsTask (method_of old.request.request) old.asked before after old.response new.response
    took.More
    → IsPeer o start before old lost q → GaveBytes before after
more_gave {L} o start before after old new lost q reads stands =
    let at = at_origin o start before after old lost q new.response took.More stands reads
    in
    let gave = (at.answers q.got (told_of q.read) stands.tasks.so_far).0 in
    let grew = subst (λ (asked : Option Got). Asks before after at.came asked) gave.1 at.asks in
    record { room = grew.room; n = gave.0; gives = grew.gives }

-- where the response had ended, its end was read
pub end_read : {L : Type 0} (o : Origin) (start : LinkStart) (before after : LinkState)
    (old new : H1Client L) (lost : Option Fail) (q : UpPast)
    → ReadsTask (method_of old.request.request) old.asked before after old.response new.response
    took.End
    → IsPeer o start before old lost q → list_any is_end q.read ≡ true
end_read {L} o start before after old new lost q reads stands =
    let at = at_origin o start before after old lost q new.response took.End stands reads in
    let over = (at.answers q.got (told_of q.read) stands.tasks.so_far).1 in
    stands.tasks.ended ∙ over
