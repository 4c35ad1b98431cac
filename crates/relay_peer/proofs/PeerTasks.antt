-- A task of the response that was read.
use Rattle.std.proofs.Common.{◌≡◌, ◌||◌, Bool, true, false, [], ◌∷◌, ◌++◌, refl, ap, ◌∙◌, Option, None}
use Rattle.relay_tasks.specs.declared.error.Fail.{Fail}
use Rattle.relay_tasks.specs.declared.task.HttpTask.{HttpTask}
use Rattle.relay_tasks.specs.declared.took.Took.TheVariants as took
use Rattle.relay_links.specs.Link.{LinkState, LinkStart}
use Rattle.relay_peer.specs.declared.h1_client.H1Client.{H1Client}
use Rattle.relay_peer.specs.declared.request_writing.RequestWriting.{RequestWriting}
use Rattle.relay_peer.specs.RequestWriting.{head_in, method_of}
use Rattle.relay_peer.specs.ResponseReading.{ReadsTask, is_over, is_error}
use Rattle.relay_core.specs.Past.{Origin, UpPast, UpGoes}
use Rattle.relay_peer.specs.Peer.{IsPeer, told_of}
use Rattle.relay_peer.proofs.TaskLemmas.{tasks_push}
use Rattle.relay_peer.proofs.MoveLemmas.{read_moves}
use Rattle.relay_peer.proofs.PeerLemmas.{Blamed, at_origin, goes, after_read, read_on, calm_read, peer_read}

-- a response that has ended gives no task
never_item : (over : Bool) (item : HttpTask) → (over ≡ true → took.Item item ≡ took.End)
    → over ≡ false
never_item true item rests = absurd (apart (rests refl))
  where
    apart : took.Item item ≡ took.End → ⊥
    apart same = cc
never_item false item rests = refl

-- a read that gave a task
pub read_gives : {L : Type 0} (o : Origin) (start started : LinkStart) (before after : LinkState)
    (old new : H1Client L) (lost : Option Fail) (q : UpPast) (item : HttpTask)
    → started ≡ start → new.request ≡ old.request → new.asked ≡ old.asked
    → ReadsTask (method_of old.request.request) old.asked before after old.response new.response
    (took.Item item)
    → new.failed ≡ old.failed || is_error (took.Item item)
    → IsPeer o start before old lost q
    → UpGoes (λ r. IsPeer o started after new lost r)
    (λ r e. Blamed o.asked start before old r e)
    (λ r e. Blamed o.asked started after new r e) q (q.read ++ item ∷ []) q.taken q.lost None
read_gives {L} o start started before after old new lost q item same kept unasked reads failed
    stands =
    let at = at_origin o start before after old lost q new.response (took.Item item) stands reads in
    let answers = at.answers q.got (told_of q.read) stands.tasks.so_far in
    let moves = read_moves start before after q.got at.came at.asked at.asks stands.got
    stands.faults stands.tells stands.sound in
    let read = q.read ++ item ∷ [] in
    goes o start started before after old new lost q (after_read q at.came read) stands.head read
    q.taken q.lost None same stands.is_head
    (ap (λ (w : RequestWriting). head_in w.request) kept ∙ stands.is_head)
    (read_on start before after q at.came read at.asked moves)
    (peer_read o start before after old new lost q at.came read at.asked stands kept unasked moves
    (tasks_push stands.head.method o.asked before after q.got at.came q.read item old.response
    new.response stands.tasks
    (never_item (is_over old.response.place) item (λ over. (at.rests over).is_end)) answers.0
    answers.1 answers.2 at.cuts)
    (calm_read start before after q.got at.came at.asked old.failed new.failed (took.Item item)
    moves at.fails failed stands.calm))
    refl refl refl (λ e none. absurd (cc))
