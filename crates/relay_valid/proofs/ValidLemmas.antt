-- In a valid exchange neither side answers for an error, so none fails.
--
--   client_blameless  the client's side: its request is whole, the client is still, and no call of
--                     its link failed
--   peer_blameless    the peer's side: its response is whole and is relayed, and no call of its
--                     link failed; and no request ends short
--   tasks_unrefused   the client's writer refuses no task of a response to a head that asks alike
--   never_fails       from FailsFor and IsValid: nothing
use Rattle.std.proofs.Common.{◌≡◌, ℕ, ◌+◌, ◌<◌, Bool, true, false, if◌then◌else◌, List, [], ◌∷◌, ◌++◌, length, drop, refl, sym, ap, subst, ◌∙◌, arith, Option, Some, None}
use Rattle.std.proofs.lemmas.List.{length-append, length-drop, drop-append-le}
use Rattle.relay_tasks.specs.declared.error.Error.{Error}
use Rattle.relay_tasks.specs.declared.task.HttpTask.{HttpTask}
use Rattle.relay_tasks.specs.Head.{RequestHead, ResponseHead}
use Rattle.relay_links.specs.Link.{LinkState, LinkStart}
use Rattle.relay_h1.specs.declared.framing.Framing.{Framing}
use Rattle.relay_h1.specs.Body.{BodyText, BodyMark, Body, ended_text}
use Rattle.relay_h1.specs.Body as body
use Rattle.relay_h1.specs.BodyReader.{may_end}
use Rattle.relay_h1.specs.Tasks.{HasFinal, Tasks, ResponseText, mark_of, open_mark, still_open, ended, broken, cut_off}
use Rattle.relay_h1.specs.Tasks as tasks
use Rattle.relay_h1.specs.Verdict.{HasRequest}
use Rattle.relay_h1.proofs.BodyLemmas.{Body-unique}
use Rattle.relay_h1.proofs.BodyStays.{Body-ended-append, Body-broken-append}
use Rattle.relay_h1.proofs.HeadEndLemmas.{head_end-within}
use Rattle.relay_h1.proofs.TasksLemmas.{HasFinal-within, HasFinal-append, HasFinal-unique, HasFinal-IsOpenBehind, HasFinal-IsRefusedBehind, IsRefusedBehind-append}
use Rattle.relay_h1.proofs.VerdictLemmas.{HasRequest-unique, HasRequest-append}
use Rattle.relay_peer.specs.ResponseReading.{ToldResponse, says}
use Rattle.relay_peer.proofs.ExactLemmas.{Tasks-unique}
use Rattle.relay_session.specs.Asked.{request_of}
use Rattle.relay_session.specs.Reading.{SaysBody, IsWhole}
use Rattle.relay_session.specs.TaskWire.{first_refusal}
use Rattle.relay_session.specs.declared.task_text.Place.TheVariants as place
use Rattle.relay_core.specs.Past.{Origin, DownPast}
use Rattle.relay_peer.specs.Body.{IsFrontOf}
use Rattle.relay_sides.specs.Client.{ClientBlames, given_to}
use Rattle.relay_sides.specs.Client as client_side
use Rattle.relay_sides.specs.Filtered.{RefusesHead}
use Rattle.relay_sides.specs.Filtered as filtered
use Rattle.relay_peer.specs.Peer.{PeerBlames}
use Rattle.relay_peer.specs.Peer as peer_side
use Rattle.relay_peer.proofs.FrontLemmas.{front_then}
use Rattle.relay_attempt.specs.Agrees.{AsksAlike}
use Rattle.relay_attempt.specs.Order as order
use Rattle.relay_attempt.specs.Order.{AreOf, IsInOrder, FailsFor, up_past}
use Rattle.relay_attempt.specs.Passed.{Passed}
use Rattle.relay_attempt.proofs.FitLemmas.{front_passes}
use Rattle.relay_valid.proofs.UnshortLemmas.{request_unshort}
use Rattle.relay_valid.specs.Valid.{IsRequest, IsRelayedHead, IsResponse, IsValid}

-- a flag is not both
never_both : {flag : Bool} → flag ≡ true → flag ≡ false → ⊥
never_both on off = apart (sym on ∙ off)
  where
    apart : true ≡ false → ⊥
    apart same = cc

-- ---- the client's side

-- what the front of a request says of its body is said of the request: it is the body's text
request_says : (head other : RequestHead) (given rest : List ℕ) (given_framing : Framing) (len : ℕ)
    (text : BodyText) (request : IsRequest head (given ++ rest))
    → HasRequest given other given_framing len → Body given_framing (drop len given ++ rest) text
    → (len ≡ request.len) × (text ≡ ended_text request.body request.n)
request_says head other given rest given_framing len text request has reads =
    let all = given ++ rest in
    let same = HasRequest-unique all other head given_framing request.framing len request.len
    (HasRequest-append given rest other given_framing len has) request.has in
    let inside = (head_end-within given len has.starts.ends).1 in (
      same.2,
      Body-unique request.framing (drop request.len all) text (ended_text request.body request.n)
          (subst (λ (k : ℕ). Body request.framing (drop k all) text) same.2
          (subst (λ (f : Framing). Body f (drop len all) text) same.1
          (subst (λ (xs : List ℕ). Body given_framing xs text)
          (sym (drop-append-le len given rest inside)) reads)))
          request.says,
    )

-- the body of a request is not broken
body_unbroken : (head : RequestHead) (given rest bytes : List ℕ) → IsRequest head (given ++ rest)
    → SaysBody given (record { bytes = bytes; mark = body.BodyMark.broken }) → ⊥
body_unbroken head given rest bytes request said =
    apart (ap (λ (t : BodyText). t.mark)
    (request_says head said.head given rest said.framing said.len
    (record { bytes = bytes; mark = body.BodyMark.broken }) request said.has
    (Body-broken-append said.framing (drop said.len given) rest bytes said.says)).1)
  where
    apart : body.BodyMark.broken ≡ body.BodyMark.ended request.n → ⊥
    apart same = cc

-- one place where a body ended
one_end : (n m : ℕ) → body.BodyMark.ended n ≡ body.BodyMark.ended m → n ≡ m
one_end n m same = cc

-- nothing stands behind a request
nothing_more : (head : RequestHead) (given rest bytes behind : List ℕ)
    → IsRequest head (given ++ rest) → IsWhole given bytes behind → 0 < length behind → ⊥
nothing_more head given rest bytes behind request whole some =
    let said = request_says head whole.head given rest whole.framing whole.len
    (ended_text bytes whole.n) request whole.has
    (Body-ended-append whole.framing (drop whole.len given) rest bytes whole.n whole.says) in
    let places = one_end whole.n request.n (ap (λ (t : BodyText). t.mark) said.1) in
    let none : length (drop request.n (drop request.len (given ++ rest))) ≡ 0 =
    ap (λ (xs : List ℕ). length xs) request.nothing_behind in
    omega (
      arith,
      some,
      none,
      places,
      said.0,
      ap (λ (xs : List ℕ). length xs) whole.behind_it,
      length-drop whole.n (drop whole.len given),
      length-drop whole.len given,
      length-drop request.n (drop request.len (given ++ rest)),
      length-drop request.len (given ++ rest),
      length-append given rest,
    )

-- the client's bytes are the front of a request
request_given : (s : Origin) (p : Passed) (client link : LinkState) (start : LinkStart)
    (valid : IsValid s p client link start) (past : DownPast) → past.came ≡ p.came
    → IsRequest s.head (given_to s past ++ valid.asks.gives.rest)
request_given s p client link start valid past came =
    subst (λ (xs : List ℕ). IsRequest s.head xs)
    (sym (ap (λ (xs : List ℕ). (s.ahead ++ xs) ++ valid.asks.gives.rest) came
    ∙ valid.asks.gives.joined)) valid.asks.is_request

-- the client's side answers for no error
pub client_blameless : (s : Origin) (p : Passed) (client link : LinkState) (start : LinkStart)
    → IsValid s p client link start → (past : DownPast) → past.came ≡ p.came
    → (e : Error) → ClientBlames s past client e → ⊥
client_blameless s p client link start valid past came e
    (client_side.ClientBlames.link_failed fault is rose counts) = valid.client_faultless rose
client_blameless s p client link start valid past came e
    (client_side.ClientBlames.body_is_broken bytes said is) =
    body_unbroken s.head (given_to s past) valid.asks.gives.rest bytes
    (request_given s p client link start valid past came) said
client_blameless s p client link start valid past came e
    (client_side.ClientBlames.ends_inside bytes said gone is) = never_both gone valid.asks.stays
client_blameless s p client link start valid past came e
    (client_side.ClientBlames.ends_behind bytes whole gone unanswered is) =
    never_both gone valid.asks.stays
client_blameless s p client link start valid past came e
    (client_side.ClientBlames.sent_more bytes behind whole some unanswered is) =
    nothing_more s.head (given_to s past) valid.asks.gives.rest bytes behind
    (request_given s p client link start valid past came) whole some

-- ---- the peer's side: its response

-- a response is not broken where its mark is open
open_unbroken : (closed : Bool) → open_mark closed ≡ broken → ⊥
open_unbroken true same = cc
open_unbroken false same = cc

-- a response is broken behind its head where its body is
broken_body : (given : Framing) (begins all : ℕ) (closed : Bool) (mark : BodyMark)
    → mark_of given begins all closed mark ≡ broken → mark ≡ body.BodyMark.broken
broken_body given begins all closed body.BodyMark.still_open is =
    absurd (on (may_end given) closed is)
  where
    on : (may closed : Bool)
        → (if may then (if closed then ended all else still_open) else open_mark closed) ≡ broken
        → ⊥
    on true true same = cc
    on true false same = cc
    on false closed same = open_unbroken closed same
broken_body given begins all closed (body.BodyMark.ended n) is = absurd (cc)
broken_body given begins all closed body.BodyMark.broken is = refl

-- the bytes say a broken response
record SaysBroken (method : List ℕ) (upgrade : Bool) (bytes : List ℕ) (closed : Bool) : Type 0 where
  pub text : ResponseText
  pub mark : text.mark ≡ broken
  pub reads : Tasks method upgrade bytes closed text

-- a response that is broken stays broken, whatever comes and whether or not its link ends then
broken_stays : (method : List ℕ) (upgrade : Bool) (bytes more : List ℕ) (closed later : Bool)
    (text : ResponseText)
    → text.mark ≡ broken → Tasks method upgrade bytes closed text
    → SaysBroken method upgrade (bytes ++ more) later
broken_stays method upgrade bytes more closed later _ is (tasks.Tasks.head_open heads n informs
    still) =
    absurd (open_unbroken closed is)
broken_stays method upgrade bytes more closed later _ is
    (tasks.Tasks.head_refused heads n why informs refused) =
    let there = IsRefusedBehind-append method upgrade bytes more heads why
    (record { place = n; informs = informs; refused = refused }) in
    record {
      text = record { informed = heads; final = None; body = []; mark = broken };
      mark = refl;
      reads = tasks.Tasks.head_refused heads there.place why there.informs there.refused;
    }
broken_stays method upgrade bytes more closed later _ is
    (tasks.Tasks.has_final heads n head given len text informs has final reads) =
    let own : HasFinal method upgrade bytes heads head given (n + len) =
    record { place = n; own = len; informs = informs; has = has; final = final; ends = refl } in
    let there = HasFinal-append method upgrade bytes more heads head given (n + len) own in
    let inside = (HasFinal-within method upgrade bytes heads head given (n + len) own).1 in
    let said : BodyText = record { bytes = text.bytes; mark = body.BodyMark.broken } in
    let stays = Body-broken-append given (drop (n + len) bytes) more text.bytes
    (subst (λ (m : BodyMark). Body given (drop (n + len) bytes)
    (record { bytes = text.bytes; mark = m }))
    (broken_body given (n + len) (length bytes) closed text.mark is) reads) in
    record {
      text = record {
        informed = heads;
        final = Some head;
        body = text.bytes;
        mark = mark_of given (there.place + there.own) (length (bytes ++ more)) later
            body.BodyMark.broken;
      };
      mark = refl;
      reads = tasks.Tasks.has_final heads there.place head given there.own said there.informs
          there.has there.final
          (subst (λ (k : ℕ). Body given (drop k (bytes ++ more)) said) there.ends
          (subst (λ (xs : List ℕ). Body given xs said)
          (sym (drop-append-le (n + len) bytes more inside)) stays));
    }

-- no front of a response is broken
response_unbroken : (method : List ℕ) (upgrade : Bool) (came response : List ℕ) (closed : Bool)
    (told : ToldResponse)
    → IsResponse method upgrade response → IsFrontOf came response
    → Tasks method upgrade came closed (says told broken) → ⊥
response_unbroken method upgrade came response closed told is front reads =
    let there = broken_stays method upgrade came front.rest closed true (says told broken) refl
    reads in
    let same = Tasks-unique method upgrade response true there.text is.said
    (subst (λ (xs : List ℕ). Tasks method upgrade xs true there.text) front.joined there.reads)
    is.says in
    apart (sym there.mark ∙ ap (λ (t : ResponseText). t.mark) same ∙ is.whole)
  where
    apart : broken ≡ ended is.n → ⊥
    apart same = cc

-- a whole response is not cut off
response_uncut : (method : List ℕ) (upgrade : Bool) (response : List ℕ) (told : ToldResponse)
    → IsResponse method upgrade response
    → Tasks method upgrade response true (says told cut_off) → ⊥
response_uncut method upgrade response told is reads =
    apart (ap (λ (t : ResponseText). t.mark)
    (Tasks-unique method upgrade response true (says told cut_off) is.said reads is.says) ∙
    is.whole)
  where
    apart : cut_off ≡ ended is.n → ⊥
    apart same = cc

-- a final head is that of what the bytes say
final_said : (method : List ℕ) (upgrade : Bool) (bytes : List ℕ) (closed : Bool)
    (text : ResponseText)
    (informed : List ResponseHead) (final : ResponseHead) (given : Framing) (len : ℕ)
    → Tasks method upgrade bytes closed text
    → HasFinal method upgrade bytes informed final given len
    → text.final ≡ Some final
final_said method upgrade bytes closed _ informed final given len
    (tasks.Tasks.head_open heads n informs still) has =
    absurd (HasFinal-IsOpenBehind method upgrade bytes informed heads final given len has
    (record { place = n; informs = informs; is_open = still }))
final_said method upgrade bytes closed _ informed final given len
    (tasks.Tasks.head_refused heads n why informs refused) has =
    absurd (HasFinal-IsRefusedBehind method upgrade bytes informed heads final given len why has
    (record { place = n; informs = informs; refused = refused }))
final_said method upgrade bytes closed _ informed final given len
    (tasks.Tasks.has_final heads n head own_framing own text informs own_head is_final reads) has =
    ap (λ (h : ResponseHead). Some h)
    (HasFinal-unique method upgrade bytes heads informed head final own_framing given (n + own) len
    (record {
      place = n;
      own = own;
      informs = informs;
      has = own_head;
      final = is_final;
      ends = refl;
    }) has).head

-- a final head in the front of a response is relayed
head_relayed : (method : List ℕ) (upgrade : Bool) (got response : List ℕ)
    (informed : List ResponseHead) (final : ResponseHead)
    (given : Framing) (len : ℕ) → IsResponse method upgrade response → IsFrontOf got response
    → HasFinal method upgrade got informed final given len → IsRelayedHead method final
head_relayed method upgrade got response informed final given len is front has =
    is.relayed final
    (final_said method upgrade response true is.said informed final given len is.says
    (subst (λ (xs : List ℕ). HasFinal method upgrade xs informed final given len) front.joined
    (HasFinal-append method upgrade got front.rest informed final given len has)))

-- the peer's side answers for no error
pub peer_blameless : (s : Origin) (p : Passed) (client link : LinkState) (start : LinkStart)
    → IsValid s p client link start → (order : IsInOrder s p link.ended) (lost : Bool) → (e : Error)
    → PeerBlames start link s.sent s.asked (up_past order lost) e → ⊥
peer_blameless s p client link start valid order lost e
    (peer_side.PeerBlames.link_failed fault is rose answered) = valid.link_faultless rose
peer_blameless s p client link start valid order lost e
    (peer_side.PeerBlames.is_cut_off told gone is reads) =
    response_uncut s.sent.method s.asked valid.answers.response told valid.answers.is_response
    (subst (λ (xs : List ℕ). Tasks s.sent.method s.asked xs true (says told cut_off))
    (valid.answers.ends gone) reads)
peer_blameless s p client link start valid order lost e
    (peer_side.PeerBlames.is_broken why closed came told is front reads breaks) =
    response_unbroken s.sent.method s.asked came valid.answers.response closed told
    valid.answers.is_response
    (front_then came p.got valid.answers.response front valid.answers.gives) reads
peer_blameless s p client link start valid order lost e
    (peer_side.PeerBlames.is_short_request front pieces first found joined short is) =
    never_both short (request_unshort s valid.agrees p link.ended order front pieces first found
    joined)

-- no head of its response is refused
pub head_blameless : (s : Origin) (p : Passed) (client link : LinkState) (start : LinkStart)
    → IsValid s p client link start → (e : Error) → RefusesHead s.sent.method s.asked p.got e → ⊥
head_blameless s p client link start valid e
    (filtered.RefusesHead.switches informed final given len has is_switch is) =
    (head_relayed s.sent.method s.asked p.got valid.answers.response informed final given len
    valid.answers.is_response valid.answers.gives has).stays is_switch
head_blameless s p client link start valid e
    (filtered.RefusesHead.is_full informed final given len has lacks refuses is) =
    (head_relayed s.sent.method s.asked p.got valid.answers.response informed final given len
    valid.answers.is_response valid.answers.gives has).room lacks refuses

-- no refusal stands where there is none
unrefused : (why : Option Error) (e : Error) → why ≡ None → why ≡ Some e → ⊥
unrefused why e none some = let both = sym none ∙ some in cc

-- no task of a response is refused by the client's writer, where both heads ask alike
pub tasks_unrefused : (s : Origin) (p : Passed) (closed : Bool) → AsksAlike s.head s.sent
    → (read front : List HttpTask) (e : Error) → AreOf s.sent.method s.asked closed p.got read
    → IsFrontOf front read
    → first_refusal (request_of s.head) place.NoHead front ≡ Some e → ⊥
tasks_unrefused s p closed alike read front e are_of within refused =
    unrefused (first_refusal (request_of s.head) place.NoHead front) e
    (front_passes s.head s.sent.method alike s.asked closed p.got read are_of front within.rest
    (sym within.joined)) refused

-- no valid exchange fails
pub never_fails : (s : Origin) (p : Passed) (client link : LinkState) (start : LinkStart)
    (e : Error) → FailsFor s p client link start e → IsValid s p client link start → ⊥
never_fails s p client link start e (order.FailsFor.by_client o blames) valid =
    client_blameless s p client link start valid (order.down_past o) refl e blames
never_fails s p client link start e (order.FailsFor.by_peer o lost blames) valid =
    peer_blameless s p client link start valid o lost e blames
never_fails s p client link start e (order.FailsFor.by_refusal o refused) valid =
    head_blameless s p client link start valid e refused
never_fails s p client link start e (order.FailsFor.by_writer o batch unasked read refused) valid =
    tasks_unrefused s p link.ended valid.agrees.method o.read (o.batched ++ batch) e o.are_of read
    refused
never_fails s p client link start e (order.FailsFor.by_cut at o unasked read refused) valid =
    tasks_unrefused s p link.ended valid.agrees.method o.read (o.batched ++ at ∷ []) e o.are_of read
    refused
