-- A link that may serve another request may be kept: the converses of what it means that it may.
--
--   sends_short    a peer's side that answers for a request that ends short tells of it
--   kept_writing   a request that was sent whole, and whose head lets its link be kept
--   kept_reading   a response that was read whole, and whose head and framing let its link be kept
--   all_keep       a duplex of HTTP/1 in which both have ended and nothing failed
use Rattle.std.proofs.Common.{◌≡◌, ℕ, ◌+◌, Bool, true, false, not, ◌&&◌, ◌==◌, inl, inr, List, [], ◌∷◌, length, drop, refl, sym, ap, subst, ◌∙◌, Some, if◌then◌else◌}
use Rattle.std.specs.List.{list_any}
use Rattle.relay_tasks.specs.declared.error.Error.{Error}
use Rattle.relay_tasks.specs.declared.task.HttpTask.{HttpTask}
use Rattle.relay_tasks.specs.Head.{RequestHead, ResponseHead}
use Rattle.relay_tasks.specs.Task.{is_end}
use Rattle.relay_links.specs.Link.{LinkState, LinkStart}
use Rattle.relay_h1.specs.declared.framing.Framing.{Framing}
use Rattle.relay_h1.specs.BodyWire.{is_full}
use Rattle.relay_h1.specs.ClientHead.{is_informational}
use Rattle.relay_h1.specs.Options.{closes}
use Rattle.relay_h1.specs.Tasks.{HasFinal, Tasks, ResponseText, ResponseMark, ended}
use Rattle.relay_h1.specs.Tasks as tasks
use Rattle.relay_h1.proofs.TasksLemmas.{HasFinal-unique}
use Rattle.relay_core.proofs.BoolLemmas.{and_both, not_false, or_cases}
use Rattle.relay_peer.specs.RequestWriting as writing
use Rattle.relay_peer.specs.RequestWriting.{Sent, Stands, head_in, is_whole, may_keep_writing, with_piece, with_end, short_request}
use Rattle.relay_peer.specs.ResponseReading.{ToldResponse, ReadAt, IsReadWhole, is_over, keeps_at, lets_keep, says}
use Rattle.relay_peer.specs.declared.request_writing.RequestPlace.{RequestPlace}
use Rattle.relay_peer.specs.declared.request_writing.RequestPlace.TheVariants as request
use Rattle.relay_peer.specs.declared.request_writing.RequestWriting.{RequestWriting}
use Rattle.relay_peer.specs.declared.response_reading.ResponsePlace.{ResponsePlace}
use Rattle.relay_peer.specs.declared.response_reading.ResponsePlace.TheVariants as place
use Rattle.relay_peer.proofs.ExactLemmas.{Tasks-unique}
use Rattle.relay_core.specs.Past.{Origin}
use Rattle.relay_peer.specs.Body.{bytes_of, sent_as, sent_behind, sent_with}
use Rattle.relay_sides.specs.Filtered.{RefusesHead}
use Rattle.relay_sides.specs.Filtered as filtered
use Rattle.relay_peer.specs.Peer.{PeerBlames}
use Rattle.relay_peer.specs.Peer as peer
use Rattle.relay_attempt.specs.Order.{IsInOrder, SendsShort, up_past}
use Rattle.relay_attempt.specs.Passed.{Passed}

-- ---- a request that ends short

-- a side that answers with the error of a request that ends short tells of one
pub sends_short : (s : Origin) (p : Passed) (closed : Bool) (link : LinkState) (start : LinkStart)
    (order : IsInOrder s p closed) (lost : Bool) (e : Error)
    → PeerBlames start link s.sent s.asked (up_past order lost) e → e ≡ short_request
    → SendsShort s p closed order
sends_short s p closed link start order lost e
    (peer.PeerBlames.link_failed fault is rose answered) same =
    let wrong = ap (λ (x : Error). x.context) (sym is ∙ same) in absurd (cc)
sends_short s p closed link start order lost e
    (peer.PeerBlames.is_cut_off told gone is reads) same =
    let wrong = ap (λ (x : Error). x.etype) (sym is ∙ same) in absurd (cc)
sends_short s p closed link start order lost e
    (peer.PeerBlames.is_broken why closed_then came told is front reads for) same =
    let wrong = ap (λ (x : Error). x.etype) (sym is ∙ same) in absurd (cc)
sends_short s p closed link start order lost e
    (peer.PeerBlames.is_short_request front pieces first found joined short is) same = record {
      front = front;
      pieces = pieces;
      first = first;
      ended = found;
      joined = joined;
      short = short;
    }

-- a head is refused for another error
pub never_refused_short : (method : List ℕ) (upgrade : Bool) (got : List ℕ) (e : Error)
    → RefusesHead method upgrade got e → e ≡ short_request → ⊥
never_refused_short method upgrade got e
    (filtered.RefusesHead.switches informed final given len has status is) same =
    let wrong = ap (λ (x : Error). x.etype) (sym is ∙ same) in cc
never_refused_short method upgrade got e
    (filtered.RefusesHead.is_full informed final given len has lacks full is) same =
    let wrong = ap (λ (x : Error). x.etype) (sym is ∙ same) in cc

-- ---- the request

-- something was queued
abbrev has_begun : Sent → Bool
has_begun writing.Sent.nothing = false
has_begun (writing.Sent.begun head pieces) = true
has_begun (writing.Sent.whole head pieces) = true

-- it is whole
abbrev is_sent_whole : Sent → Bool
is_sent_whole writing.Sent.nothing = false
is_sent_whole (writing.Sent.begun head pieces) = false
is_sent_whole (writing.Sent.whole head pieces) = true

-- a task more leaves it begun
more_begun : (sent : Sent) (piece : List ℕ) (ends : Bool) → has_begun sent ≡ true
    → has_begun (if ends then with_end (with_piece sent piece) else with_piece sent piece) ≡ true
more_begun writing.Sent.nothing piece ends begun = absurd (cc)
more_begun (writing.Sent.begun head pieces) piece true begun = refl
more_begun (writing.Sent.begun head pieces) piece false begun = refl
more_begun (writing.Sent.whole head pieces) piece true begun = refl
more_begun (writing.Sent.whole head pieces) piece false begun = refl

-- a task more leaves it whole
more_whole : (sent : Sent) (piece : List ℕ) (ends : Bool) → is_sent_whole sent ≡ true
    → is_sent_whole (if ends then with_end (with_piece sent piece) else with_piece sent piece)
    ≡ true
more_whole writing.Sent.nothing piece ends whole = absurd (cc)
more_whole (writing.Sent.begun head pieces) piece ends whole = absurd (cc)
more_whole (writing.Sent.whole head pieces) piece true whole = refl
more_whole (writing.Sent.whole head pieces) piece false whole = refl

-- an end makes it whole
end_whole : (sent : Sent) (piece : List ℕ) (ends : Bool) → has_begun sent ≡ true → ends ≡ true
    → is_sent_whole (if ends then with_end (with_piece sent piece) else with_piece sent piece)
    ≡ true
end_whole sent piece false begun is = absurd (cc)
end_whole writing.Sent.nothing piece true begun is = absurd (cc)
end_whole (writing.Sent.begun head pieces) piece true begun is = refl
end_whole (writing.Sent.whole head pieces) piece true begun is = refl

-- what is whole stays so with tasks behind it
stays_whole : (sent : Sent) (items : List HttpTask) → is_sent_whole sent ≡ true
    → is_sent_whole (sent_behind sent items) ≡ true
stays_whole sent [] whole = whole
stays_whole sent (one ∷ items) whole =
    stays_whole (sent_with sent one) items (more_whole sent (bytes_of one) (is_end one) whole)

-- and tasks with an end among them make it so
ends_whole : (sent : Sent) (items : List HttpTask) → has_begun sent ≡ true
    → list_any is_end items ≡ true → is_sent_whole (sent_behind sent items) ≡ true
ends_whole sent [] begun found = absurd (cc)
ends_whole sent (one ∷ items) begun found =
    elim (or_cases (is_end one) (list_any is_end items) found) [
      | inl here ↦ stays_whole (sent_with sent one) items
          (end_whole sent (bytes_of one) (is_end one) begun here)
      | inr later ↦ ends_whole (sent_with sent one) items
          (more_begun sent (bytes_of one) (is_end one) begun) later
    ]

-- the writing stands at the end of what is whole
whole_stands : (sent : Sent) (now : RequestPlace) → is_sent_whole sent ≡ true → Stands sent now
    → is_whole now ≡ true
whole_stands writing.Sent.nothing now whole stands = absurd (cc)
whole_stands (writing.Sent.begun head pieces) now whole stands = absurd (cc)
whole_stands (writing.Sent.whole head pieces) request.NoHead whole stands = absurd stands
whole_stands (writing.Sent.whole head pieces) (request.Sending sending) whole stands =
    ap is_full stands.1

-- a request stands at its end where one is among its pieces
pub ended_stands : (head : RequestHead) (items : List HttpTask) (now : RequestPlace)
    → Stands (sent_as head items) now → list_any is_end items ≡ true → is_whole now ≡ true
ended_stands head items now stands found =
    whole_stands (sent_as head items) now
    (ends_whole (writing.Sent.begun head []) items refl found) stands

-- an option holds no more than one head
some_head : (a b : RequestHead) → Some a ≡ Some b → a ≡ b
some_head a b same = cc

-- a request that was queued and taken whole lets its link be kept, where its head does
pub kept_writing : (head : RequestHead) (now : RequestWriting)
    → head_in now.request ≡ Some head → closes head.fields ≡ false → is_whole now.request ≡ true
    → now.unsent ≡ [] → may_keep_writing now ≡ true
kept_writing head now is asks whole none =
    and_both _ _ whole
    (and_both _ _ (lets now.request is) (ap (λ (xs : List ℕ). length xs == 0) none))
  where
    lets : (at : RequestPlace) → head_in at ≡ Some head
        → writing.lets_keep_request at ≡ true
    lets request.NoHead is = absurd (cc)
    lets (request.Sending sending) is =
        not_false (closes sending.head.fields)
        (ap (λ (h : RequestHead). closes h.fields) (some_head sending.head head is) ∙ asks)

-- ---- the response

-- marks of an end that are the same carry the same number
same_mark : (a b : ℕ) → ended a ≡ ended b → a ≡ b
same_mark a b same = cc

-- what was told is what the text says
same_told : (a b : ToldResponse) (m k : ResponseMark) → says a m ≡ says b k → a ≡ b
same_told a b m k same =
    ap (λ (t : ResponseText).
    record { informed = t.informed; final = t.final; body = t.body }) same

-- a final head that the bytes say is no informational one
said_final : (method : List ℕ) (upgrade : Bool) (bytes : List ℕ) (closed : Bool)
    (text : ResponseText) (head : ResponseHead)
    → Tasks method upgrade bytes closed text → text.final ≡ Some head
    → is_informational head.status ≡ false
said_final method upgrade bytes closed _ head (tasks.Tasks.head_open heads n informs still) is =
    absurd (cc)
said_final method upgrade bytes closed _ head (tasks.Tasks.head_refused heads n why informs refused)
    is =
    absurd (cc)
said_final method upgrade bytes closed _ head
    (tasks.Tasks.has_final heads n other given len text informs has final reads) is =
    subst (λ (h : ResponseHead). is_informational h.status ≡ false) (some other head is) final
  where
    some : (a b : ResponseHead) → Some a ≡ Some b → a ≡ b
    some a b same = cc

-- a framing that lets a link be kept says where the body ends
keeps_end : (version end stays : Bool) → (version && (end && stays)) ≡ true → end ≡ true
keeps_end true true stays is = refl
keeps_end true false stays is = absurd (cc)
keeps_end false end stays is = absurd (cc)

-- a response that was read to its end, and of which the bytes are all that came, lets its link be
-- kept, where its head and framing do
pub kept_reading : (method : List ℕ) (upgrade closed : Bool) (got : List ℕ)
    (told all : ToldResponse)
    (at : ResponsePlace) (ahead : List ℕ) → ReadAt method upgrade closed got all at ahead
    → is_over at ≡ true → IsReadWhole method upgrade closed got told
    → (keeps_at at && (length ahead == 0)) ≡ true
kept_reading method upgrade closed got told all place.NoHead ahead reads over whole = absurd (cc)
kept_reading method upgrade closed got told all place.Informed ahead reads over whole = absurd (cc)
kept_reading method upgrade closed got told all (place.InBody body) ahead reads over whole = absurd
    (cc)
kept_reading method upgrade closed got told all (place.Ended keeps) ahead reads over whole =
    let one = Tasks-unique method upgrade got closed (says all (ended reads.place))
    (says told (ended whole.place)) reads.whole whole.whole in
    let final : HasFinal method upgrade got all.informed reads.head reads.framing
    (reads.n + reads.len) = record {
      place = reads.n;
      own = reads.len;
      informs = reads.informs;
      has = reads.has;
      final = said_final method upgrade got closed (says all (ended reads.place)) reads.head
          reads.whole
          reads.final;
      ends = refl;
    } in
    let other : HasFinal method upgrade got told.informed whole.head whole.framing
    (whole.n + whole.len) = record {
      place = whole.n;
      own = whole.len;
      informs = whole.informs;
      has = whole.has;
      final = said_final method upgrade got closed (says told (ended whole.place)) whole.head
          whole.whole
          whole.final;
      ends = refl;
    } in
    let same = HasFinal-unique method upgrade got all.informed told.informed reads.head whole.head
    reads.framing whole.framing (reads.n + reads.len) (whole.n + whole.len) final other in
    let lets : lets_keep reads.head reads.framing ≡ true =
    ap (λ (h : ResponseHead). lets_keep h reads.framing) same.head
    ∙ ap (λ (f : Framing). lets_keep whole.head f) same.framing ∙ whole.keeps in
    let none : ahead ≡ [] =
    reads.rest (keeps_end _ _ _ lets)
    ∙ ap (λ (k : ℕ). drop k got)
    (same_mark reads.place whole.place (ap (λ (t : ResponseText). t.mark) one))
    ∙ whole.none_past in
    and_both keeps _ (reads.keeps ∙ lets) (ap (λ (xs : List ℕ). length xs == 0) none)

-- ---- the duplex

-- nothing failed, and both have ended
pub all_keep : (failed none request response : Bool) → failed ≡ false → none ≡ true
    → request ≡ true → response ≡ true
    → (not failed && (none && (request && response))) ≡ true
all_keep failed none request response alive unsent sent read =
    rw (alive, unsent, sent, read) refl
