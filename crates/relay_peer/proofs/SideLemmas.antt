-- Each call of the peer's side goes on with what it keeps of the response and of faults.
use Rattle.std.proofs.Common.{◌≡◌, ◌||◌, ℕ, Bool, true, false, List, [], ◌++◌, refl, sym, ap, subst, ◌∙◌, Option, arith}
use Rattle.relay_tasks.specs.declared.error.Error.{Error}
use Rattle.relay_tasks.specs.declared.error.Fail.{Fail}
use Rattle.relay_tasks.specs.declared.error.Fail.TheVariants as fail
use Rattle.relay_tasks.specs.declared.task.HttpTask.{HttpTask}
use Rattle.relay_tasks.specs.declared.took.Took.{Took}
use Rattle.relay_tasks.specs.declared.took.Took.TheVariants as took
use Rattle.relay_links.specs.Link.{LinkState, LinkStart}
use Rattle.relay_links.specs.declared.link.Put.{Put}
use Rattle.relay_links.specs.declared.link.Put.TheVariants as put
use Rattle.relay_links.specs.Count.{last_count}
use Rattle.relay_tasks.specs.declared.error.ErrorSource.TheVariants.{Upstream}
use Rattle.relay_core.specs.declared.told.Told.{Told}
use Rattle.relay_core.specs.Told.{failed, paused, written}
use Rattle.relay_tasks.specs.declared.took.Pause.{Pause}
use Rattle.relay_tasks.specs.declared.took.Pause.TheVariants.{NotReady, Silent}
use Rattle.relay_peer.specs.H1Client.{is_fault}
use Rattle.std.specs.Prelude.{min, ◌+◌}
use Rattle.relay_h1.specs.Move.{taken}
use Rattle.relay_peer.specs.declared.h1_client.H1Client.{H1Client}
use Rattle.relay_peer.specs.RequestWriting.{method_of}
use Rattle.relay_peer.specs.ResponseReading.{ReadsTask, is_over, is_item, is_error}
use Rattle.relay_core.specs.Past.{Origin, UpPast, UpGoes, error_of_took}
use Rattle.relay_peer.specs.declared.peer_side.PeerSide.{PeerSide}
use Rattle.relay_peer.specs.Peer.{IsPeer, IsPeerSide, AreMarked}
use Rattle.relay_peer.proofs.MarkLemmas.{marked_task}
use Rattle.relay_peer.proofs.PeerLemmas.{Blamed, read_none}

-- a call goes on with the side too, which keeps whether its link was used before
pub side_goes : {L : Type 0} (o : Origin) (start started : LinkStart) (before after : LinkState)
    (old : H1Client L) (new : PeerSide L) (q : UpPast) (read taken : List HttpTask) (gone : Bool)
    (error : Option Error) → started ≡ start → start.reused ≡ o.reused
    → (new.told.errors ≡ 0 → new.client.failed ≡ false)
    → AreMarked start after new.client.failed new.read_failed new.send_failed new.lost
    → UpGoes (λ r. IsPeer o started after new.client new.lost r)
    (λ r e. Blamed o.asked start before old r e) (λ r e. Blamed o.asked started after new.client r
    e) q read taken
    gone error
    → UpGoes (λ r. IsPeerSide o started after new r) (λ r e. Blamed o.asked start before old r e)
    (λ r e. Blamed o.asked started after new.client r e) q read taken gone error
side_goes {L} o start started before after old new q read taken gone error same reused calm
    marked went =
    record {
      past = went.past;
      stands = record {
        peer = went.stands;
        reused = ap (λ (s : LinkStart). s.reused) same ∙ reused;
        calm = calm;
        marked = subst (λ (s : LinkStart).
            AreMarked s after new.client.failed new.read_failed new.send_failed new.lost)
            (sym same) marked;
      };
      is_read = went.is_read;
      is_taken = went.is_taken;
      is_lost = went.is_lost;
      keeps = went.keeps;
      blamed = went.blamed;
    }

-- the same, by what the side told before
pub side_on : {L : Type 0} (o : Origin) (start started : LinkStart) (before after : LinkState)
    (old new : PeerSide L) (q : UpPast) (read taken : List HttpTask) (gone : Bool)
    (error : Option Error) → started ≡ start
    → ((old.told.errors ≡ 0 → old.client.failed ≡ false)
    → new.told.errors ≡ 0 → new.client.failed ≡ false)
    → AreMarked start after new.client.failed new.read_failed new.send_failed new.lost
    → IsPeerSide o start before old q
    → UpGoes (λ r. IsPeer o started after new.client new.lost r)
    (λ r e. Blamed o.asked start before old.client r e)
    (λ r e. Blamed o.asked started after new.client r e) q read taken gone error
    → UpGoes (λ r. IsPeerSide o started after new r)
    (λ r e. Blamed o.asked start before old.client r e)
    (λ r e. Blamed o.asked started after new.client r e) q read taken gone error
side_on {L} o start started before after old new q read taken gone error same calm marked stands =
    side_goes o start started before after old.client new q read taken gone error same stands.reused
    (calm stands.calm) marked

-- a read that gave no task
pub side_reads : {L : Type 0} (o : Origin) (start started : LinkStart) (before after : LinkState)
    (old : PeerSide L) (client : H1Client L) (told : Told) (failed : Bool) (q : UpPast)
    (answer : Took HttpTask) → started ≡ start → client.request ≡ old.client.request
    → client.asked ≡ old.client.asked
    → ReadsTask (method_of old.client.request.request) old.client.asked before after
    old.client.response
    client.response answer
    → is_item answer ≡ false
    → is_over client.response.place ≡ is_over old.client.response.place
    → client.failed ≡ old.client.failed || is_error answer
    → failed ≡ old.read_failed || is_error answer
    → ((old.told.errors ≡ 0 → old.client.failed ≡ false)
    → told.errors ≡ 0 → client.failed ≡ false)
    → IsPeerSide o start before old q
    → UpGoes
    (λ r. IsPeerSide o started after
    (record old { client = client; told = told; read_failed = failed }) r)
    (λ r e. Blamed o.asked start before old.client r e) (λ r e. Blamed o.asked started after client
    r e) q
    (q.read ++ []) q.taken q.lost (error_of_took answer)
side_reads {L} o start started before after old client told failed q answer same kept unasked reads
    none
    over fails marks calm stands =
    let new : PeerSide L = record old { client = client; told = told; read_failed = failed } in
    side_on o start started before after old new q (q.read ++ []) q.taken q.lost
    (error_of_took answer) same calm
    (marked_task (method_of old.client.request.request) old.client.asked start before after
    old.client.response
    client.response answer old.client.failed client.failed old.read_failed failed old.send_failed
    old.lost reads fails marks stands.peer.faults stands.marked)
    stands
    (read_none o start started before after old.client client old.lost q answer same
    kept unasked reads none over fails stands.peer)

-- a count that was raised is not 0
never_none : (n : ℕ) → min (n + 1) last_count ≡ 0 → ⊥
never_none n none = absurd (omega (arith, none))

-- no error was told before one more failure
told_before : (why : Fail) (told : Told) → (failed why told).errors ≡ 0 → told.errors ≡ 0
told_before fail.OutOfMemory told none = none
told_before (fail.Error e) told none = absurd (never_none told.errors none)

-- a test or one that fails is that test
pub or_none : (b : Bool) → (b || false) ≡ b
or_none true = refl
or_none false = refl

-- no fault came before, where no error is told after one more answer without an error
pub calm_same : (old now : Told) (was is : Bool) (answer : Took HttpTask)
    → is ≡ was || is_error answer → is_error answer ≡ false → now ≡ old
    → (old.errors ≡ 0 → was ≡ false) → now.errors ≡ 0 → is ≡ false
calm_same old now was is answer fails none same calm still =
    fails ∙ ap (λ (b : Bool). was || b) none ∙ or_none was
    ∙ calm (sym (ap (λ (t : Told). t.errors) same) ∙ still)

-- nor after a pause
pub calm_paused : (old : Told) (was is : Bool) (pause : Pause)
    → is ≡ was || is_error (took.Waited pause) → (old.errors ≡ 0 → was ≡ false)
    → (paused pause old).errors ≡ 0 → is ≡ false
calm_paused old was is NotReady fails calm still =
    calm_same old old was is took.More fails refl refl calm still
calm_paused old was is Silent fails calm still =
    calm_same old old was is took.More fails refl refl calm still

-- nor after one that failed
pub calm_failed : (old : Told) (was is : Bool) (why : Fail)
    → is ≡ was || is_error (took.Failed why) → (old.errors ≡ 0 → was ≡ false)
    → (failed why old).errors ≡ 0 → is ≡ false
calm_failed old was is fail.OutOfMemory fails calm still =
    calm_same old old was is (took.Failed fail.OutOfMemory) fails refl refl calm still
calm_failed old was is (fail.Error e) fails calm still = absurd (never_none old.errors still)

-- nor after a failure of the side's own
pub calm_withheld : (old : Told) (was is : Bool) (why : Fail) → is ≡ was
    → (old.errors ≡ 0 → was ≡ false) → (failed why old).errors ≡ 0 → is ≡ false
calm_withheld old was is why same calm still = same ∙ calm (told_before why old still)

-- nor after a write
pub calm_put : (old : Told) (was is : Bool) (answer : Put) → is ≡ was || is_fault answer
    → (old.errors ≡ 0 → was ≡ false) → (written Upstream answer old).errors ≡ 0 → is ≡ false
calm_put old was is (put.Took n) fails calm still =
    calm_same old old was is took.More fails refl refl calm still
calm_put old was is put.NotReady fails calm still =
    calm_same old old was is took.More fails refl refl calm still
calm_put old was is put.Silent fails calm still =
    calm_same old old was is took.More fails refl refl calm still
calm_put old was is (put.Failed fault) fails calm still = absurd (never_none old.errors still)
calm_put old was is put.OutOfMemory fails calm still =
    calm_same old old was is took.More fails refl refl calm still
