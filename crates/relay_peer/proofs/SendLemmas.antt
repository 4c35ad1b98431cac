-- How a piece that is taken, a write and the head of the request go on with what passed.
use Rattle.std.proofs.Common.{◌≡◌, ℕ, Bool, true, false, ◌||◌, List, [], ◌∷◌, ◌++◌, take, refl, sym, ap, subst, ◌∙◌, append-nil, arith, Option, Some, None, Result, Ok, Err, OnOk, OnErr, IfErr, IsErrOf, IsTrue, ◌↔◌, if◌then◌else◌}
use Rattle.std.specs.List.{list_any, concat}
use Rattle.std.proofs.lemmas.List.Folds.{list_any-append, concat-append}
use Rattle.relay_tasks.specs.Error.{IsMemoryOr}
use Rattle.relay_tasks.specs.Head.{RequestHead}
use Rattle.relay_tasks.specs.Task.{is_end}
use Rattle.relay_tasks.specs.declared.error.Error.{Error}
use Rattle.relay_tasks.specs.declared.error.ErrorSource.TheVariants.{Upstream}
use Rattle.relay_tasks.specs.declared.error.Fail.{Fail}
use Rattle.relay_tasks.specs.declared.error.Fail.TheVariants as fail
use Rattle.relay_tasks.specs.declared.task.HttpTask.{HttpTask}
use Rattle.relay_links.specs.Link.{LinkState, LinkStart, IsHandedOut}
use Rattle.relay_links.specs.Told.{Since}
use Rattle.relay_links.specs.declared.link.Put.{Put}
use Rattle.relay_links.proofs.SinceLemmas.{Since-start, Since-kept}
use Rattle.relay_h1.specs.declared.framing.Framing.{Framing}
use Rattle.relay_h1.specs.declared.framing.Framing.TheVariants as framing
use Rattle.relay_h1.specs.BodyWire.{after_pieces, is_short}
use Rattle.relay_h1.specs.Move.{WritesOut, taken}
use Rattle.relay_peer.specs.H1Client.{is_fault}
use Rattle.relay_peer.specs.declared.h1_client.H1Client.{H1Client}
use Rattle.relay_peer.specs.declared.request_writing.RequestPlace.{RequestPlace}
use Rattle.relay_peer.specs.declared.request_writing.RequestPlace.TheVariants as request
use Rattle.relay_peer.specs.declared.request_writing.RequestWriting.{RequestWriting}
use Rattle.relay_peer.specs.declared.response_reading.ResponseReading.{ResponseReading}
use Rattle.relay_peer.specs.RequestWriting.{Sent, SentSoFar, Stands, head_in, rest_of, with_piece, with_end, sent_wire, body_framing, short_request}
use Rattle.relay_peer.specs.RequestWriting as writing
use Rattle.relay_core.specs.Past.{Origin, UpPast, UpGoes, error_of_fail, error_of_put}
use Rattle.relay_peer.specs.Body.{IsFrontOf, bytes_of, body_of, sent_with, sent_as}
use Rattle.relay_peer.specs.declared.peer_side.PeerSide.{PeerSide}
use Rattle.relay_peer.specs.Peer.{IsPeer, IsPeerSide, AreMarked, IsQueued, PeerBlames, AreTasks, Queues, Loses, IsNew, none_passed}
use Rattle.relay_peer.specs.Peer as peer
use Rattle.relay_peer.proofs.FaultLemmas.{grew_same, tells_on, tells_none}
use Rattle.relay_peer.proofs.FrontLemmas.{own_front, same_front, front_more, front_then, bytes_front, task_front, sent_behind-push, head_of, stands_head, piece_head, task_head, begun_body, body_push}
use Rattle.relay_peer.proofs.MarkLemmas.{marked_same, marked_new}
use Rattle.relay_peer.proofs.TaskLemmas.{no_tasks}
use Rattle.relay_peer.proofs.MoveLemmas.{GoesOn, blames_keep, write_moves}
use Rattle.relay_peer.proofs.PeerLemmas.{Blamed, goes, fail_is, some_fail, neither_failed}

-- ---- pieces

-- the past with one piece more, lost or not
abbrev pub after_take : UpPast → HttpTask → Bool → UpPast
after_take q piece gone = record q { taken = q.taken ++ piece ∷ []; lost = gone }

-- a piece goes on from what passed before
take_on : (start : LinkStart) (link : LinkState) (q : UpPast) (piece : HttpTask) (gone : Bool)
    → GoesOn start link link q (after_take q piece gone)
take_on start link q piece gone = record {
  more = [];
  got = sym (append-nil q.got);
  still = λ over. (over, refl);
  taken = front_more q.taken (piece ∷ []);
  rises = λ rose. rose;
  grew = grew_same link link refl;
}

-- the wire of a request with one piece more
wire_push : (head : RequestHead) (tasks : List HttpTask) (piece : HttpTask) (xs : List ℕ)
    → IsFrontOf xs (sent_wire (sent_with (sent_as head tasks) piece))
    → IsFrontOf xs (sent_wire (sent_as head (tasks ++ piece ∷ [])))
wire_push head tasks piece xs front =
    subst (λ (s : Sent). IsFrontOf xs (sent_wire s))
    (sym (sent_behind-push (writing.Sent.begun head []) tasks piece)) front

-- a side that took a piece, with what is queued then
peer_take : {L : Type 0} (o : Origin) (start : LinkStart) (link : LinkState) (old new : H1Client L)
    (lost_before lost : Option Fail) (q : UpPast) (piece : HttpTask) (gone : Bool)
    (sending : Sent) (stands : IsPeer o start link old lost_before q)
    → new.response ≡ old.response → new.asked ≡ old.asked → new.failed ≡ old.failed → head_of
    sending ≡ Some stands.head
    → SentSoFar sending q.sent new.request
    → IsQueued stands.head (q.taken ++ piece ∷ []) gone sending → (lost ≡ None → gone ≡ false)
    → ((e : Error) → lost ≡ Some (fail.Error e)
    → PeerBlames start link stands.head o.asked (after_take q piece gone) e)
    → IsPeer o start link new lost (after_take q piece gone)
peer_take {L} o start link old new lost_before lost q piece gone sending stands same unasked
    calm headed so_far queued takes why = record {
      got = stands.got;
      sent = stands.sent;
      faults = stands.faults;
      tells = stands.tells;
      calm = λ none. stands.calm (sym calm ∙ none);
      sound = stands.sound;
      head = stands.head;
      own = stands.own;
      asks = unasked ∙ stands.asks;
      is_head = stands_head sending new.request.request so_far.stands ∙ headed;
      sending = sending;
      so_far = so_far;
      queued = queued;
      tasks = subst (λ (r : ResponseReading).
          AreTasks stands.head.method o.asked link.ended q.got q.read r)
          (sym same) stands.tasks;
      takes = takes;
      why_lost = why;
    }

-- the head that was queued is the one that was given to be sent
sending_head : {L : Type 0} (o : Origin) (start : LinkStart) (link : LinkState) (old : H1Client L)
    (lost : Option Fail) (q : UpPast) (stands : IsPeer o start link old lost q)
    → head_of stands.sending ≡ Some stands.head
sending_head {L} o start link old lost q stands =
    sym (stands_head stands.sending old.request.request stands.so_far.stands) ∙ stands.is_head

-- a side at a link that did not change
still_there : {L : Type 0} (o : Origin) (start started : LinkStart) (before after : LinkState)
    (old new : H1Client L) (lost : Option Fail) (q : UpPast) (read taken : List HttpTask)
    (gone : Bool) (error : Option Error) → after ≡ before
    → UpGoes (λ r. IsPeer o started before new lost r)
    (λ r e. Blamed o.asked start before old r e)
    (λ r e. Blamed o.asked started before new r e) q read taken gone error
    → UpGoes (λ r. IsPeer o started after new lost r)
    (λ r e. Blamed o.asked start before old r e)
    (λ r e. Blamed o.asked started after new r e) q read taken gone error
still_there {L} o start started before after old new lost q read taken gone error same
    goes_on =
    subst (λ (l : LinkState). UpGoes (λ r. IsPeer o started l new lost r)
    (λ r e. Blamed o.asked start before old r e) (λ r e. Blamed o.asked started l new r e) q read
    taken gone error)
    (sym same) goes_on

-- a piece that was queued
pub take_queues : {L : Type 0} (o : Origin) (start started : LinkStart) (before after : LinkState)
    (old new : H1Client L) (lost : Option Fail) (q : UpPast) (piece : HttpTask)
    → lost ≡ None → started ≡ start → after ≡ before → new.response ≡ old.response
    → new.asked ≡ old.asked → new.failed ≡ old.failed
    → ((sent : Sent) (had : List ℕ) → SentSoFar sent had old.request
    → SentSoFar (sent_with sent piece) had new.request)
    → IsPeer o start before old lost q
    → UpGoes (λ r. IsPeer o started after new lost r)
    (λ r e. Blamed o.asked start before old r e)
    (λ r e. Blamed o.asked started after new r e) q q.read (q.taken ++ piece ∷ []) (q.lost || false)
    None
take_queues {L} o start started before after old new lost q piece open_yet same unmoved kept
    unasked calm queues stands =
    let so_far = queues stands.sending q.sent stands.so_far in
    let headed = task_head stands.sending piece
    ∙ sending_head o start before old lost q stands in
    let is_sent = ap (λ (s : Sent). sent_with s piece)
    (stands.queued.unlost (stands.takes open_yet))
    ∙ sym (sent_behind-push (writing.Sent.begun stands.head []) q.taken piece) in
    let gone = q.lost || false in
    still_there o start started before after old new lost q q.read (q.taken ++ piece ∷ [])
    gone None unmoved
    (goes o start started before before old new lost q (after_take q piece gone) stands.head
    q.read (q.taken ++ piece ∷ []) gone None same stands.is_head
    (stands_head (sent_with stands.sending piece) new.request.request so_far.stands ∙ headed)
    (take_on start before q piece gone)
    (peer_take o start before old new lost lost q piece gone
    (sent_with stands.sending piece) stands kept unasked calm headed so_far
    (record {
      unlost = λ none. is_sent;
      front = same_front (sent_wire (sent_with stands.sending piece))
          (sent_wire (sent_as stands.head (q.taken ++ piece ∷ [])))
          (ap (λ (s : Sent). sent_wire s) is_sent);
    })
    (λ none. ap (λ (b : Bool). b || false) (stands.takes none))
    (λ e is. absurd (apart e (sym is ∙ open_yet))))
    refl refl refl (λ e none. absurd (cc)))
  where
    apart : (e : Error) → Some (fail.Error e) ≡ None → ⊥
    apart e same = cc

-- what was queued of a piece that was lost
record Left {L : Type 0} (o : Origin) (start : LinkStart) (link : LinkState) (old new : H1Client L)
    (lost : Option Fail) (q : UpPast) (piece : HttpTask) (why : Fail)
    (stands : IsPeer o start link old lost q) : Type 0 where
  pub sending : Sent
  pub so_far : SentSoFar sending q.sent new.request
  pub headed : head_of sending ≡ Some stands.head
  pub front : IsFrontOf (sent_wire sending)
      (sent_wire (sent_as stands.head (q.taken ++ piece ∷ [])))
  pub blamed : (e : Error) → why ≡ fail.Error e
      → PeerBlames start link stands.head o.asked (after_take q piece true) e

-- bytes that were missing at the end of what was taken
record ShortHere (head : RequestHead) (tasks : List HttpTask) (piece : HttpTask) : Type 0 where
  pub pieces : List (List ℕ)
  pub joined : concat pieces ≡ body_of (tasks ++ piece ∷ [])
  pub short : is_short (after_pieces (body_framing head) pieces) ≡ true

-- a request that ends short does so by its head and its pieces
short_here : (head : RequestHead) (tasks : List HttpTask) (piece : HttpTask) (sent : Sent)
    (had : List ℕ) (at : RequestWriting) → sent ≡ sent_as head tasks → head_of sent ≡ Some head
    → SentSoFar (with_piece sent (bytes_of piece)) had at → is_short (rest_of at.request) ≡ true
    → ShortHere head tasks piece
short_here head tasks piece writing.Sent.nothing had at is headed so_far short = absurd (cc)
short_here head tasks piece (writing.Sent.begun first pieces) had at is headed so_far short =
    on at.request so_far.stands short
  where
    same_head : Some first ≡ Some head → first ≡ head
    same_head same = cc

    on : (r : RequestPlace)
        → Stands (writing.Sent.begun first (pieces ++ bytes_of piece ∷ [])) r
        → is_short (rest_of r) ≡ true → ShortHere head tasks piece
    on request.NoHead stands few = absurd stands
    on (request.Sending sending) stands few = record {
      pieces = pieces ++ bytes_of piece ∷ [];
      joined = concat-append pieces (bytes_of piece ∷ [])
          ∙ ap (λ (l : List ℕ). concat pieces ++ l) (append-nil (bytes_of piece))
          ∙ ap (λ (l : List ℕ). l ++ bytes_of piece)
          (begun_body first head [] pieces tasks (sym is)) ∙ sym (body_push tasks piece);
      short = subst (λ (h : RequestHead).
          is_short (after_pieces (body_framing h) (pieces ++ bytes_of piece ∷ [])) ≡ true)
          (same_head headed) (ap is_short (sym stands.1.is_rest) ∙ few);
    }
short_here head tasks piece (writing.Sent.whole first pieces) had at is headed so_far short =
    on at.request so_far.stands short
  where
    on : (r : RequestPlace) → Stands (writing.Sent.whole first pieces) r
        → is_short (rest_of r) ≡ true → ShortHere head tasks piece
    on request.NoHead stands few = absurd stands
    on (request.Sending sending) stands few =
        absurd (full sending.body stands.1 few)
      where
        full : (f : Framing) → f ≡ framing.Empty → is_short f ≡ true → ⊥
        full f same some = cc

-- what a piece that was lost leaves
left_of : {L : Type 0} (o : Origin) (start : LinkStart) (link : LinkState) (old new : H1Client L)
    (lost : Option Fail) (q : UpPast) (piece : HttpTask) (why : Fail)
    (stands : IsPeer o start link old lost q) → lost ≡ None
    → Loses stands.sending q.sent piece new.request why
    → Left o start link old new lost q piece why stands
left_of {L} o start link old new lost q piece why stands open_yet loses = on why loses
  where
    is_sent : stands.sending ≡ sent_as stands.head q.taken
    is_sent = stands.queued.unlost (stands.takes open_yet)

    headed : head_of stands.sending ≡ Some stands.head
    headed = sending_head o start link old lost q stands

    from_sent : (xs : List ℕ) → IsFrontOf xs (sent_wire (sent_with stands.sending piece))
        → IsFrontOf xs (sent_wire (sent_as stands.head (q.taken ++ piece ∷ [])))
    from_sent xs front =
        wire_push stands.head q.taken piece xs
        (subst (λ (s : Sent). IsFrontOf xs (sent_wire (sent_with s piece))) is_sent front)

    on : (why : Fail) → Loses stands.sending q.sent piece new.request why
        → Left o start link old new lost q piece why stands
    on _ (peer.Loses.unwritten so_far) = record {
      sending = stands.sending;
      so_far = so_far;
      headed = headed;
      front = from_sent (sent_wire stands.sending) (task_front stands.sending piece);
      blamed = λ e is. absurd (cc);
    }
    on _ (peer.Loses.unended ends so_far) = record {
      sending = with_piece stands.sending (bytes_of piece);
      so_far = so_far;
      headed = piece_head stands.sending (bytes_of piece) ∙ headed;
      front = from_sent (sent_wire (with_piece stands.sending (bytes_of piece)))
          (bytes_front stands.sending piece);
      blamed = λ e is. absurd (cc);
    }
    on _ (peer.Loses.is_short ends so_far short) =
        let here = short_here stands.head q.taken piece stands.sending q.sent new.request is_sent
        headed so_far short in
        record {
          sending = with_piece stands.sending (bytes_of piece);
          so_far = so_far;
          headed = piece_head stands.sending (bytes_of piece) ∙ headed;
          front = from_sent (sent_wire (with_piece stands.sending (bytes_of piece)))
              (bytes_front stands.sending piece);
          blamed = λ e is.
              peer.PeerBlames.is_short_request (q.taken ++ piece ∷ []) here.pieces
              (own_front (q.taken ++ piece ∷ []))
              (list_any-append is_end q.taken (piece ∷ [])
              ∙ ap (λ (b : Bool). list_any is_end q.taken || (b || false)) ends
              ∙ or_true (list_any is_end q.taken))
              here.joined here.short (same_error e is);
        }
      where
        or_true : (b : Bool) → (b || true) ≡ true
        or_true true = refl
        or_true false = refl

        same_error : (e : Error) → fail.Error short_request ≡ fail.Error e → e ≡ short_request
        same_error e same = cc

-- a test or one that holds, holds
or_gone : (b : Bool) → (b || true) ≡ true
or_gone true = refl
or_gone false = refl

-- a piece that was lost
pub take_loses : {L : Type 0} (o : Origin) (start started : LinkStart) (before after : LinkState)
    (old new : H1Client L) (lost : Option Fail) (q : UpPast) (piece : HttpTask) (why : Fail)
    → lost ≡ None → started ≡ start → after ≡ before → new.response ≡ old.response
    → new.asked ≡ old.asked → new.failed ≡ old.failed
    → ((sent : Sent) (had : List ℕ) → SentSoFar sent had old.request
    → Loses sent had piece new.request why)
    → IsPeer o start before old lost q
    → UpGoes (λ r. IsPeer o started after new (Some why) r)
    (λ r e. Blamed o.asked start before old r e) (λ r e. Blamed o.asked started after new r e) q
    q.read
    (q.taken ++ piece ∷ []) (q.lost || true) (error_of_fail why)
take_loses {L} o start started before after old new lost q piece why open_yet same unmoved
    kept unasked calm queues stands =
    let left = left_of o start before old new lost q piece why stands open_yet
    (queues stands.sending q.sent stands.so_far) in
    still_there o start started before after old new (Some why) q q.read
    (q.taken ++ piece ∷ []) (q.lost || true) (error_of_fail why) unmoved
    (goes o start started before before old new (Some why) q (after_take q piece true)
    stands.head q.read (q.taken ++ piece ∷ []) (q.lost || true) (error_of_fail why) same
    stands.is_head
    (stands_head left.sending new.request.request left.so_far.stands ∙ left.headed)
    (take_on start before q piece true)
    (peer_take o start before old new lost (Some why) q piece true left.sending stands kept
    unasked calm left.headed left.so_far (record {
      unlost = λ none. absurd (cc);
      front = left.front;
    })
    (λ none. absurd (cc)) (λ e is. left.blamed e (some_fail why (fail.Error e) is)))
    refl refl (sym (or_gone q.lost)) (λ e told. left.blamed e (fail_is why e told)))

-- a piece behind one that was lost
pub take_still : {L : Type 0} (o : Origin) (start : LinkStart) (link : LinkState)
    (client : H1Client L) (lost : Option Fail) (why : Fail) (q : UpPast)
    (piece : HttpTask) → lost ≡ Some why
    → IsPeer o start link client lost q
    → UpGoes (λ r. IsPeer o start link client lost r)
    (λ r e. Blamed o.asked start link client r e)
    (λ r e. Blamed o.asked start link client r e) q q.read (q.taken ++ piece ∷ []) (q.lost || true)
    (error_of_fail why)
take_still {L} o start link client lost why q piece is stands =
    let keeps = λ (e : Error) (told : lost ≡ Some (fail.Error e)).
    blames_keep start link link stands.head o.asked q (after_take q piece true) e
    (take_on start link q piece true) (stands.why_lost e told) in
    goes o start start link link client client lost q (after_take q piece true) stands.head
    q.read (q.taken ++ piece ∷ []) (q.lost || true) (error_of_fail why) refl stands.is_head
    stands.is_head (take_on start link q piece true)
    (peer_take o start link client client lost lost q piece true stands.sending stands refl
    refl refl (sending_head o start link client lost q stands) stands.so_far
    (record {
      unlost = λ none. absurd (cc);
      front = front_then (sent_wire stands.sending) (sent_wire (sent_as stands.head q.taken))
          (sent_wire (sent_as stands.head (q.taken ++ piece ∷ []))) stands.queued.front
          (wire_push stands.head q.taken piece (sent_wire (sent_as stands.head q.taken))
          (task_front (sent_as stands.head q.taken) piece));
    })
    (λ none. absurd (apart (sym is ∙ none))) keeps)
    refl refl (sym (or_gone q.lost)) (λ e told. keeps e (is ∙ ap Some (fail_is why e told)))
  where
    apart : Some why ≡ None → ⊥
    apart same = cc

-- ---- writes

-- a write of what is queued
pub write_goes : {L : Type 0} (o : Origin) (start started : LinkStart) (before after : LinkState)
    (old new : H1Client L) (lost : Option Fail) (q : UpPast) (answer : Put)
    → started ≡ start → new.response ≡ old.response → new.asked ≡ old.asked → new.failed ≡
    old.failed || is_fault answer
    → WritesOut before after old.request.unsent new.request.unsent answer
    → ((sent : Sent) (gone : List ℕ) → SentSoFar sent gone old.request
    → SentSoFar sent (gone ++ take (taken answer) old.request.unsent) new.request)
    → IsPeer o start before old lost q
    → UpGoes (λ r. IsPeer o started after new lost r)
    (λ r e. Blamed o.asked start before old r e)
    (λ r e. Blamed o.asked started after new r e) q q.read q.taken q.lost
    (error_of_put Upstream answer)
write_goes {L} o start started before after old new lost q answer same kept unasked failed
    writes
    keeps stands =
    let moves = write_moves start before after q.sent old.request.unsent answer writes.writes
    stands.sent stands.faults stands.tells stands.sound in
    let out = take (taken answer) old.request.unsent in
    let p : UpPast = record q { sent = q.sent ++ out } in
    let so_far = keeps stands.sending q.sent stands.so_far in
    let on : GoesOn start before after q p = record {
      more = [];
      got = sym (append-nil q.got);
      still = λ over. (moves.ended ∙ over, refl);
      taken = own_front q.taken;
      rises = moves.rises;
      grew = moves.grew;
    } in
    let is_head = stands_head stands.sending new.request.request so_far.stands
    ∙ sending_head o start before old lost q stands in
    goes o start started before after old new lost q p stands.head q.read q.taken q.lost
    (error_of_put Upstream answer) same stands.is_head is_head on
    (record {
      got = Since-kept [] start.given before.given after.given q.got moves.given stands.got;
      sent = moves.sent;
      faults = moves.faults;
      tells = tells_on start before after moves.grew stands.tells;
      calm = λ none.
          let both = neither_failed old.failed (is_fault answer) (sym failed ∙ none) in
          moves.calm both.1 ∙ stands.calm both.0;
      sound = moves.sound;
      head = stands.head;
      own = stands.own;
      asks = unasked ∙ stands.asks;
      is_head = is_head;
      sending = stands.sending;
      so_far = so_far;
      queued = stands.queued;
      tasks = subst (λ (b : Bool).
          AreTasks stands.head.method o.asked b q.got q.read
          new.response)
          (sym moves.ended)
          (subst (λ (r : ResponseReading).
          AreTasks stands.head.method o.asked before.ended q.got q.read
          r)
          (sym kept) stands.tasks);
      takes = stands.takes;
      why_lost = λ e is. blames_keep start before after stands.head o.asked q p e on
          (stands.why_lost e is);
    })
    refl refl refl
    (λ e is.
    let f = moves.failed e is in peer.PeerBlames.link_failed f.0 f.1 f.2 f.3)

-- ---- the head of the request

-- a side whose request began on a link that was handed out
begins : {L : Type 0} (o : Origin) (start : LinkStart) (link : LinkState) (reused : Bool)
    (old : PeerSide L) (new : H1Client L) (head : RequestHead) → head ≡ o.sent
    → new.asked ≡ o.asked → IsNew old
    → IsHandedOut link start reused → new.response ≡ old.client.response
    → SentSoFar (writing.Sent.begun head []) [] new.request
    → IsPeer o start link new old.lost none_passed
begins {L} o start link reused old new head own unasked fresh out same so_far = record {
  got = subst (λ (n : ℕ). Since [] n link.given []) (sym out.given) (Since-start [] link.given);
  sent = subst (λ (n : ℕ). Since [] n link.taken []) (sym out.taken) (Since-start [] link.taken);
  faults = omega (arith, out.faults);
  tells = tells_none start link reused out;
  calm = λ none. sym out.faults;
  sound = out.sound;
  head = head;
  own = own;
  asks = unasked;
  is_head = stands_head (writing.Sent.begun head []) new.request.request so_far.stands;
  sending = writing.Sent.begun head [];
  so_far = so_far;
  queued = record {
    unlost = λ none. refl;
    front = own_front (sent_wire (writing.Sent.begun head []));
  };
  tasks = subst (λ (r : ResponseReading). AreTasks head.method o.asked link.ended [] [] r)
      (sym same)
      (no_tasks head.method o.asked link.ended old.client.response
      (fresh.read head.method o.asked link.ended));
  takes = λ none. refl;
  why_lost = λ e is. absurd (apart e (sym is ∙ fresh.takes));
}
  where
    apart : (e : Error) → Some (fail.Error e) ≡ None → ⊥
    apart e same = cc

-- the same, where the call gave its facts
begins_peer : {L : Type 0} (o : Origin) (start started : LinkStart) (before after : LinkState)
    (reused : Bool) (old : PeerSide L) (new : H1Client L) (head : RequestHead) → head ≡ o.sent
    → new.asked ≡ o.asked → started ≡ start → after ≡ before → new.response ≡ old.client.response
    → ((sent : Sent) (had : List ℕ) → SentSoFar sent had old.client.request
    → SentSoFar (writing.with_head sent head) had new.request)
    → IsNew old → IsHandedOut before start reused
    → IsPeer o started after new old.lost none_passed
begins_peer {L} o start started before after reused old new head own unasked same unmoved kept keeps
    fresh
    out =
    subst (λ (s : LinkStart). IsPeer o s after new old.lost none_passed) (sym same)
    (subst (λ (l : LinkState). IsPeer o start l new old.lost none_passed) (sym unmoved)
    (begins o start before reused old new head own unasked fresh out kept
    (keeps writing.Sent.nothing [] fresh.sent)))

-- and the side with it
pub begins_side : {L : Type 0} (o : Origin) (start started : LinkStart) (before after : LinkState)
    (reused : Bool) (old : PeerSide L) (new : H1Client L) (head : RequestHead) → head ≡ o.sent
    → new.asked ≡ o.asked → started ≡ start → after ≡ before → new.response ≡ old.client.response
    → ((sent : Sent) (had : List ℕ) → SentSoFar sent had old.client.request
    → SentSoFar (writing.with_head sent head) had new.request)
    → new.failed ≡ old.client.failed → IsNew old → IsHandedOut before start reused
    → o.reused ≡ reused → IsPeerSide o started after (record old { client = new }) none_passed
begins_side {L} o start started before after reused old new head own unasked same unmoved kept
    keeps calm fresh out used =
    record {
      peer = begins_peer o start started before after reused old new head own unasked same unmoved
          kept keeps fresh out;
      reused = ap (λ (s : LinkStart). s.reused) same ∙ out.marked ∙ sym used;
      calm = λ none. calm ∙ fresh.calm;
      marked = subst (λ (s : LinkStart).
          AreMarked s after new.failed old.read_failed old.send_failed old.lost) (sym same)
          (marked_same start before after old.client.failed new.failed old.read_failed
          old.send_failed old.lost unmoved calm
          (marked_new start before reused old.client.failed old.read_failed old.send_failed old.lost
          out fresh.calm fresh.unsent fresh.takes));
    }

-- and its head is the one that was queued
pub begins_head : {L : Type 0} (old : PeerSide L) (new : H1Client L) (head : RequestHead)
    → ((sent : Sent) (had : List ℕ) → SentSoFar sent had old.client.request
    → SentSoFar (writing.with_head sent head) had new.request)
    → IsNew old → head_in new.request.request ≡ Some head
begins_head {L} old new head keeps fresh =
    stands_head (writing.Sent.begun head []) new.request.request
    (keeps writing.Sent.nothing [] fresh.sent).stands

-- what an Ok answer ensures, led further
pub on_ok : {A E : Type 0} (P Q : Type 0) (result : Result A E) → OnOk result P → (P → Q)
    → OnOk result Q
on_ok P Q (Ok a) ensures further = further ensures
on_ok P Q (Err e) ensures further = tt

-- ---- one piece

-- a piece of which nothing was queued, when out of memory
pub nothing_queued : {L : Type 0} (old new : H1Client L) (piece : HttpTask) (why : Fail)
    → why ≡ fail.OutOfMemory → new ≡ old → (sent : Sent) (had : List ℕ)
    → SentSoFar sent had old.request → Loses sent had piece new.request why
nothing_queued {L} old new piece why is same sent had so_far =
    subst (λ (f : Fail). Loses sent had piece new.request f) (sym is)
    (peer.Loses.unwritten
    (subst (λ (c : H1Client L). SentSoFar sent had c.request) (sym same) so_far))

-- a piece without an end
pub piece_queued : (sent : Sent) (had : List ℕ) (piece : HttpTask) (bytes : List ℕ)
    (at : RequestWriting) → is_end piece ≡ false → bytes ≡ bytes_of piece
    → SentSoFar (with_piece sent bytes) had at → SentSoFar (sent_with sent piece) had at
piece_queued sent had piece bytes at goes_on are so_far =
    subst (λ (b : Bool). SentSoFar
    (if b then with_end (with_piece sent (bytes_of piece)) else with_piece sent (bytes_of piece))
    had at) (sym goes_on)
    (subst (λ (xs : List ℕ). SentSoFar (with_piece sent xs) had at) are so_far)

-- a piece with the end, once its bytes are queued
end_queued : {L : Type 0} (sent : Sent) (had : List ℕ) (piece : HttpTask) (mid new : H1Client L)
    (result : Result Unit Fail) → is_end piece ≡ true
    → SentSoFar (with_piece sent (bytes_of piece)) had mid.request
    → OnOk result ((s : Sent) (h : List ℕ) → SentSoFar s h mid.request
    → SentSoFar (with_end s) h new.request)
    → (IsErrOf result (fail.Error short_request) ↔ IsTrue (is_short (rest_of mid.request.request)))
    → IfErr result (IsMemoryOr short_request) → OnErr result (new ≡ mid)
    → Queues sent had piece new.request result
end_queued {L} sent had piece mid new (Ok done) ends so_far keeps short causes err =
    subst (λ (b : Bool). SentSoFar
    (if b then with_end (with_piece sent (bytes_of piece)) else with_piece sent (bytes_of piece))
    had new.request) (sym ends) (keeps (with_piece sent (bytes_of piece)) had so_far)
end_queued {L} sent had piece mid new (Err fail.OutOfMemory) ends so_far keeps short causes err =
    peer.Loses.unended ends
    (subst (λ (c : H1Client L). SentSoFar (with_piece sent (bytes_of piece)) had c.request)
    (sym err) so_far)
end_queued {L} sent had piece mid new (Err (fail.Error error)) ends so_far keeps short causes
    err =
    subst (λ (e : Error). Loses sent had piece new.request (fail.Error e)) (sym causes)
    (peer.Loses.is_short ends
    (subst (λ (c : H1Client L). SentSoFar (with_piece sent (bytes_of piece)) had c.request)
    (sym err) so_far)
    (subst (λ (c : H1Client L). is_short (rest_of c.request.request) ≡ true) (sym err)
    (short.0 (ap (λ (e : Error). Err (fail.Error e)) causes))))

-- the same, where the call gave its facts
pub ended_piece : {L : Type 0} (sent : Sent) (had : List ℕ) (piece : HttpTask)
    (bytes : List ℕ) (mid new : H1Client L) (result : Result Unit Fail) → is_end piece ≡ true
    → bytes ≡ bytes_of piece → SentSoFar (with_piece sent bytes) had mid.request
    → OnOk result ((s : Sent) (h : List ℕ) → SentSoFar s h mid.request
    → SentSoFar (with_end s) h new.request)
    → (IsErrOf result (fail.Error short_request) ↔ IsTrue (is_short (rest_of mid.request.request)))
    → IfErr result (IsMemoryOr short_request) → OnErr result (new ≡ mid)
    → Queues sent had piece new.request result
ended_piece {L} sent had piece bytes mid new result ends are so_far keeps short causes err =
    end_queued sent had piece mid new result ends
    (subst (λ (xs : List ℕ). SentSoFar (with_piece sent xs) had mid.request) are so_far) keeps
    short causes err
