-- What it means that the peer's link may be kept, and that a response may end.
--
--   kept_parts    from may_keep_client: its parts
--   sent_whole    from SentSoFar: the request was sent whole
--   read_whole    from ReadSoFar: the response was read whole
--   over_ends     a response that is over is not refused its end
use Rattle.std.proofs.Common.{◌≡◌, ℕ, ◌-◌, ◌==◌, Bool, true, false, not, ◌&&◌, List, [], ◌∷◌, ◌++◌, length, Some, refl, sym, ap, subst, ◌∙◌, append-nil, arith, eqb-true}
use Rattle.std.proofs.lemmas.Bool.Decides.{nat_tests}
use Rattle.relay_tasks.specs.declared.error.Error.{Error}
use Rattle.relay_tasks.specs.declared.task.HttpTask.TheVariants as task
use Rattle.relay_tasks.specs.Head.{RequestHead}
use Rattle.relay_h1.specs.BodyWire.{after_pieces, body_text, end_text, is_full, is_short, pieces_text}
use Rattle.relay_h1.specs.Options.{closes}
use Rattle.relay_h1.specs.Tasks.{Tasks, ResponseText, ResponseMark, ended}
use Rattle.relay_h1.specs.Wire.{request_text}
use Rattle.relay_h1.specs.declared.framing.Framing.{Framing}
use Rattle.relay_h1.specs.declared.framing.Framing.TheVariants as framing
use Rattle.relay_core.proofs.BoolLemmas.{clash, and_left, and_right, not_true}
use Rattle.relay_peer.specs.H1Client.{may_keep_client}
use Rattle.relay_peer.specs.RequestWriting as writing
use Rattle.relay_peer.specs.RequestWriting.{Sent, SentSoFar, Stands, body_framing, head_in, is_whole, lets_keep_request, may_keep_writing, sent_wire}
use Rattle.relay_peer.specs.ResponseReading.{ToldResponse, ReadSoFar, ReadAt, IsReadWhole, keeps_at, may_keep_reading, says}
use Rattle.relay_peer.specs.declared.h1_client.H1Client.{H1Client}
use Rattle.relay_peer.specs.declared.request_writing.RequestPlace.{RequestPlace}
use Rattle.relay_peer.specs.declared.request_writing.RequestPlace.TheVariants as request
use Rattle.relay_peer.specs.declared.request_writing.RequestWriting.{RequestWriting}
use Rattle.relay_peer.specs.declared.response_reading.ResponsePlace.{ResponsePlace}
use Rattle.relay_peer.specs.declared.response_reading.ResponsePlace.TheVariants as place
use Rattle.relay_peer.specs.declared.response_reading.ResponseReading.{ResponseReading}
use Rattle.relay_peer.proofs.ExactLemmas.{Tasks-unique}
use Rattle.relay_session.specs.TaskWire.{refusal}
use Rattle.relay_session.specs.Response.{is_over}
use Rattle.relay_session.specs.declared.task_text.Request as answered
use Rattle.relay_session.specs.declared.task_text.Place as response
use Rattle.relay_session.specs.declared.task_text.Place.TheVariants as at

-- an empty list
none_left : (bytes : List ℕ) → (length bytes == 0) ≡ true → bytes ≡ []
none_left [] none = refl
none_left (b ∷ bytes) none =
    let some : (length (b ∷ bytes) == 0) ≡ false = grind (arith, nat_tests) in
    clash (length (b ∷ bytes) == 0) none some

-- the link of a client may be kept: its request and its response let it
pub kept_parts : {L : Type 0} (client : H1Client L) → may_keep_client client ≡ true
    → (may_keep_writing client.request ≡ true) × (may_keep_reading client.response ≡ true)
kept_parts client kept = (
  and_left (may_keep_writing client.request) _ kept,
  and_left (may_keep_reading client.response) _
      (and_right (may_keep_writing client.request) _ kept),
)

-- and no call of it answered an error
pub kept_unfailed : {L : Type 0} (client : H1Client L) → may_keep_client client ≡ true
    → client.failed ≡ false
kept_unfailed client kept =
    on client.failed
    (and_right (may_keep_reading client.response) _
    (and_right (may_keep_writing client.request) _ kept))
  where
    on : (b : Bool) → not b ≡ true → b ≡ false
    on true is = cc
    on false is = refl

-- ---- the request

-- a body that takes no more bytes is not short, and its end has no text
full_ends : (rest : Framing) → is_full rest ≡ true → (is_short rest ≡ false) × (end_text rest ≡ [])
full_ends framing.Empty full = (refl, refl)
full_ends (framing.Length left) full = (ap not full, refl)
full_ends framing.Chunked full = absurd (cc)
full_ends framing.UntilClose full = absurd (cc)
full_ends framing.Tunnel full = absurd (cc)

-- the request was sent whole, in these pieces, and its head lets the link be kept
pub record IsSent (head : RequestHead) (taken : List ℕ) : Type 0 where
  pub pieces : List (List ℕ)
  pub request : taken ≡ request_text head ++ body_text (body_framing head) pieces
  pub complete : is_short (after_pieces (body_framing head) pieces) ≡ false
  pub asks : closes head.fields ≡ false

-- a head in a request is its own
same_head : (a b : RequestHead) → Some a ≡ Some b → a ≡ b
same_head a b same = cc

-- all of it was taken, by what was queued
sent_at : (sent : Sent) (now : RequestPlace) (taken : List ℕ) (head : RequestHead)
    → head_in now ≡ Some head → Stands sent now → taken ≡ sent_wire sent
    → is_whole now ≡ true → lets_keep_request now ≡ true → IsSent head taken
sent_at sent request.NoHead taken head is stands text whole lets = absurd (cc)
sent_at writing.Sent.nothing (request.Sending sending) taken head is stands text whole lets =
    absurd stands
sent_at (writing.Sent.begun first pieces) (request.Sending sending) taken head is stands text whole
    lets =
    let own : first ≡ head = sym stands.0 ∙ same_head sending.head head is in
    let full = full_ends (after_pieces (body_framing first) pieces)
    (subst (λ (f : Framing). is_full f ≡ true) stands.1.is_rest whole) in
    subst (λ (h : RequestHead). IsSent h taken) own
    (record {
      pieces = pieces;
      request = text
          ∙ ap (λ (l : List ℕ). request_text first ++ l)
          (sym (append-nil (pieces_text (body_framing first) pieces))
          ∙ ap (λ (l : List ℕ). pieces_text (body_framing first) pieces ++ l) (sym full.1));
      complete = full.0;
      asks = ap (λ (h : RequestHead). closes h.fields) (sym stands.0)
          ∙ not_true (closes sending.head.fields) lets;
    })
sent_at (writing.Sent.whole first pieces) (request.Sending sending) taken head is stands text whole
    lets =
    let own : first ≡ head = sym stands.0 ∙ same_head sending.head head is in
    subst (λ (h : RequestHead). IsSent h taken) own
    (record {
      pieces = pieces;
      request = text;
      complete = stands.2;
      asks = ap (λ (h : RequestHead). closes h.fields) (sym stands.0)
          ∙ not_true (closes sending.head.fields) lets;
    })

-- a writing that may keep its link has sent its head and its body whole
pub sent_whole : (sent : Sent) (taken : List ℕ) (now : RequestWriting) (head : RequestHead)
    → head_in now.request ≡ Some head → SentSoFar sent taken now → may_keep_writing now ≡ true
    → IsSent head taken
sent_whole sent taken now head is so_far kept =
    let rest = and_right (is_whole now.request) _ kept in
    let none = none_left now.unsent (and_right (lets_keep_request now.request) _ rest) in
    sent_at sent now.request taken head is so_far.stands
    (sym (append-nil taken) ∙ ap (λ (l : List ℕ). taken ++ l) (sym none) ∙ so_far.text)
    (and_left (is_whole now.request) _ kept) (and_left (lets_keep_request now.request) _ rest)

-- ---- the response

-- what was told is what the text says
same_told : (a b : ToldResponse) (m k : ResponseMark) → says a m ≡ says b k
    → a ≡ b
same_told a b m k same =
    ap (λ (t : ResponseText).
    record { informed = t.informed; final = t.final; body = t.body }) same

-- a framing that lets a link be kept says where the body ends
keeps_end : (version end stays : Bool) → (version && (end && stays)) ≡ true → end ≡ true
keeps_end true true stays is = refl
keeps_end true false stays is = absurd (cc)
keeps_end false end stays is = absurd (cc)

-- a place that lets the link be kept, with nothing ahead, has read the response whole
read_at : (method : List ℕ) (upgrade closed : Bool) (given : List ℕ) (told : ToldResponse)
    (now : ResponsePlace)
    (ahead : List ℕ) → ReadAt method upgrade closed given told now ahead → keeps_at now ≡ true
    → ahead ≡ [] → IsReadWhole method upgrade closed given told
read_at method upgrade closed given told place.NoHead ahead at keeps none = absurd (cc)
read_at method upgrade closed given told place.Informed ahead at keeps none = absurd (cc)
read_at method upgrade closed given told (place.InBody body) ahead at keeps none = absurd (cc)
read_at method upgrade closed given told (place.Ended kept) ahead at keeps none =
    let lets = sym at.keeps ∙ keeps in
    record {
      n = at.n;
      head = at.head;
      framing = at.framing;
      len = at.len;
      place = at.place;
      informs = at.informs;
      has = at.has;
      final = at.final;
      whole = at.whole;
      none_past = sym (at.rest (keeps_end _ _ _ lets)) ∙ none;
      keeps = lets;
    }

-- the response that was told was read whole, and what it told is what these tell
pub read_whole : (method : List ℕ) (upgrade closed : Bool) (given : List ℕ)
    (told all : ToldResponse)
    (now : ResponseReading) (n : ℕ) → ReadSoFar method upgrade closed given all now
    → may_keep_reading now ≡ true → Tasks method upgrade given closed (says told (ended n))
    → IsReadWhole method upgrade closed given told
read_whole method upgrade closed given told all now n so_far kept whole =
    let read = read_at method upgrade closed given all now.place now.ahead so_far.at
    (and_left (keeps_at now.place) _ kept)
    (none_left now.ahead (and_right (keeps_at now.place) _ kept)) in
    subst (λ (t : ToldResponse). IsReadWhole method upgrade closed given t)
    (same_told all told _ _ (Tasks-unique method upgrade given closed _ _ read.whole whole)) read

-- ---- the end of a response

-- nothing is left of a length that is full
none_left_of : (left : ℕ) → (left == 0) ≡ true → not (left - 0 == 0) ≡ false
none_left_of left none =
    let zero : left ≡ 0 = omega (arith, eqb-true left 0 none) in
    rw zero refl

-- a response that is over is not refused its end
pub over_ends : (to : answered.Request) (stands : response.Place) (e : Error)
    → is_over stands ≡ true → refusal to stands task.Done ≡ Some e → ⊥
over_ends to at.NoHead e over fails = cc
over_ends to (at.Body framing.Empty) e over fails = cc
over_ends to (at.Body (framing.Length left)) e over fails =
    let long = none_left_of left over in
    let wrong = rw long at fails in
    cc
over_ends to (at.Body framing.Chunked) e over fails = cc
over_ends to (at.Body framing.UntilClose) e over fails = cc
over_ends to (at.Body framing.Tunnel) e over fails = cc
over_ends to at.Done e over fails = cc
