-- How many tasks the bytes of a link can be at most.
--
--   pieces_within     the pieces of a request: three less than the bytes of the client at most
--   tasks_within      the tasks of a response: one more than the bytes of the peer at most
use Rattle.std.proofs.Common.{◌≡◌, ℕ, ◌+◌, ◌≤◌, Bool, true, false, ◌||◌, List, [], ◌∷◌, ◌++◌, length, drop, take, length-append, Option, Some, None, if◌then◌else◌, refl, sym, ap, ◌∙◌, inl, inr, arith}
use Rattle.std.specs.List.{list_any}
use Rattle.std.proofs.lemmas.List.{length-take, length-drop}
use Rattle.relay_tasks.specs.declared.task.HttpTask.{HttpTask}
use Rattle.relay_tasks.specs.declared.task.HttpTask.TheVariants as task
use Rattle.relay_tasks.specs.Head.{RequestHead, ResponseHead}
use Rattle.relay_tasks.specs.Task.{is_end}
use Rattle.relay_h1.specs.declared.framing.Framing.{Framing}
use Rattle.relay_h1.specs.declared.framing.Framing.TheVariants as framing
use Rattle.relay_h1.specs.Body.{BodyText, Body, Chunked, behind}
use Rattle.relay_h1.specs.Body as body
use Rattle.relay_h1.specs.ClientHead.{is_informational}
use Rattle.relay_h1.specs.Tasks.{Informs}
use Rattle.relay_h1.specs.Tasks as tasks
use Rattle.relay_h1.specs.Verdict.{HasRequest, HasResponse}
use Rattle.relay_h1.proofs.BodyReaderLemmas.{SoFar-reads}
use Rattle.relay_h1.proofs.HeadEndLemmas.{head_end-within}
use Rattle.relay_core.specs.Moves.{EndsLast}
use Rattle.relay_peer.specs.Body.{body_of, bytes_of}
use Rattle.relay_peer.specs.Peer.{AreTasks, Follow, told_behind}
use Rattle.relay_peer.specs.ResponseReading.{ToldResponse, ReadAt, says, untold, with_task}
use Rattle.relay_peer.specs.declared.response_reading.ResponsePlace.{ResponsePlace}
use Rattle.relay_peer.specs.declared.response_reading.ResponsePlace.TheVariants as place
use Rattle.relay_peer.specs.declared.response_reading.ResponseReading.{ResponseReading}
use Rattle.relay_sides.specs.Client.{HaveSome}
use Rattle.relay_attempt.specs.Order.{ArePieces}
use Rattle.relay_attempt.proofs.OrderLemmas.{some_text}

-- ---- bodies

-- a body in chunks says no more bytes than its text has
chunked_within : (at : body.ChunkedPlace) (bytes : List ℕ) (text : BodyText) → Chunked at bytes text
    → length text.bytes ≤ length bytes
chunked_within _ _ _ (body.Chunked.line_open bytes open_yet) = omega arith
chunked_within _ _ _ (body.Chunked.line_broken bytes broken) = omega arith
chunked_within _ _ _ (body.Chunked.chunk bytes len size text' line some inner) =
    let within = chunked_within _ (drop len bytes) text' inner in
    omega (arith, within, length-drop len bytes)
chunked_within _ _ _ (body.Chunked.last_chunk bytes len text' line inner) =
    let within = chunked_within _ (drop len bytes) text' inner in
    omega (arith, within, length-drop len bytes)
chunked_within _ _ _ (body.Chunked.chunk_open bytes left few) = omega arith
chunked_within _ _ _ (body.Chunked.chunk_whole bytes left text' enough inner) =
    let within = chunked_within _ (drop left bytes) text' inner in
    omega (
      arith,
      within,
      enough,
      length-drop left bytes,
      length-take left bytes,
      length-append (take left bytes) text'.bytes,
    )
chunked_within _ _ _ (body.Chunked.crlf_open bytes few) = omega arith
chunked_within _ _ _ (body.Chunked.crlf_broken bytes enough wrong) = omega arith
chunked_within _ _ _ (body.Chunked.crlf_whole bytes text' is inner) =
    let within = chunked_within _ (drop 2 bytes) text' inner in
    omega (arith, within, length-drop 2 bytes)
chunked_within _ _ _ (body.Chunked.trailer_open bytes open_yet) = omega arith
chunked_within _ _ _ (body.Chunked.trailer_broken bytes broken) = omega arith
chunked_within _ _ _ (body.Chunked.trailer_ended bytes len ends) = omega arith

-- nor does any other body
pub body_within : (f : Framing) (bytes : List ℕ) (text : BodyText) → Body f bytes text
    → length text.bytes ≤ length bytes
body_within framing.Empty bytes text is =
    omega (arith, ap (λ (t : BodyText). length t.bytes) is)
body_within (framing.Length n) bytes text is =
    omega (arith, ap (λ (t : BodyText). length t.bytes) is, length-take n bytes)
body_within framing.Chunked bytes text is = chunked_within body.ChunkedPlace.at_line bytes text is
body_within framing.UntilClose bytes text is =
    omega (arith, ap (λ (t : BodyText). length t.bytes) is)
body_within framing.Tunnel bytes text is = omega (arith, ap (λ (t : BodyText). length t.bytes) is)

-- ---- the pieces of a request

-- nothing stands behind the end of pieces, nor behind that of those behind the first
ends_behind : (first : HttpTask) (pieces : List HttpTask) → EndsLast (first ∷ pieces)
    → EndsLast pieces
ends_behind first pieces ends = λ front behind is found.
    ends (first ∷ front) behind (ap (λ (xs : List HttpTask). first ∷ xs) is)
    (or_behind (is_end first) (list_any is_end front) found)
  where
    or_behind : (a b : Bool) → b ≡ true → (a || b) ≡ true
    or_behind true b is = refl
    or_behind false b is = is

-- nothing stands behind a first piece that is the end
end_alone : (first : HttpTask) (pieces : List HttpTask) → EndsLast (first ∷ pieces)
    → is_end first ≡ true → pieces ≡ []
end_alone first pieces ends is =
    ends (first ∷ []) pieces refl (or_first (is_end first) is)
  where
    or_first : (a : Bool) → a ≡ true → (a || false) ≡ true
    or_first true is = refl
    or_first false is = is

-- pieces that have a byte each, but for the end, are one more than their bytes at most
pub pieces_bytes : (pieces : List HttpTask) → HaveSome pieces → EndsLast pieces
    → length pieces ≤ length (body_of pieces) + 1
pieces_bytes [] have ends = omega arith
pieces_bytes (first ∷ pieces) have ends = elim have.0 [
  | inl some ↦ (
      let behind = pieces_bytes pieces have.1 (ends_behind first pieces ends) in
      omega (
        arith,
        behind,
        some,
        length-append (bytes_of first) (body_of pieces),
        length-append (first ∷ []) pieces,
      ))
  | inr end ↦ (
      let alone = ap (λ (xs : List HttpTask). length xs) (end_alone first pieces ends end) in
      omega (arith, alone, length-append (first ∷ []) pieces))
]

-- the head of a request has four bytes at least
request_head : (bytes : List ℕ) (head : RequestHead) (f : Framing) (len : ℕ)
    → HasRequest bytes head f len
    → (4 ≤ len) × (len ≤ length bytes)
request_head bytes head f len has = head_end-within bytes len has.starts.ends

-- the pieces of a request are three less than its bytes at most, since its head has four
pub pieces_within : (bytes : List ℕ) (head : RequestHead) (f : Framing) (len : ℕ)
    (pieces : List HttpTask)
    → HasRequest bytes head f len → ArePieces f (drop len bytes) pieces → HaveSome pieces
    → length pieces + 3 ≤ length bytes
pieces_within bytes head f len pieces has are have =
    let at = request_head bytes head f len has in
    let said = body_within f (drop len bytes) are.text are.says in
    let front : length are.text.bytes ≡ length (body_of pieces) + length are.front.rest =
    ap (λ (xs : List ℕ). length xs) (sym are.front.joined)
    ∙ length-append (body_of pieces) are.front.rest in
    omega (
      arith,
      at.0,
      at.1,
      said,
      front,
      pieces_bytes pieces have are.ends_last,
      length-drop len bytes,
    )

-- ---- the tasks of a response

-- 1 where a final head was told
abbrev one_final : Option ResponseHead → ℕ
one_final None = 0
one_final (Some head) = 1

-- how much was told: heads, and bytes of the body
abbrev told_size : ToldResponse → ℕ
told_size told = length told.informed + one_final told.final + length told.body

-- the same of a text
abbrev text_size : tasks.ResponseText → ℕ
text_size text = length text.informed + one_final text.final + length text.body

-- how many of the tasks are an end alone
abbrev ends_alone : List HttpTask → ℕ
ends_alone [] = 0
ends_alone (task.Header head end ∷ tasks) = ends_alone tasks
ends_alone (task.Body piece end ∷ tasks) = ends_alone tasks
ends_alone (task.UpgradedBody piece end ∷ tasks) = ends_alone tasks
ends_alone (task.Trailer fields ∷ tasks) = ends_alone tasks
ends_alone (task.Done ∷ tasks) = 1 + ends_alone tasks
ends_alone (task.Failed error ∷ tasks) = ends_alone tasks

-- one at most, since it is the last
end_once : (tasks : List HttpTask) → EndsLast tasks → ends_alone tasks ≤ 1
end_once [] ends = omega arith
end_once (task.Header head end ∷ tasks) ends = end_once tasks (ends_behind _ tasks ends)
end_once (task.Body piece end ∷ tasks) ends = end_once tasks (ends_behind _ tasks ends)
end_once (task.UpgradedBody piece end ∷ tasks) ends = end_once tasks (ends_behind _ tasks ends)
end_once (task.Trailer fields ∷ tasks) ends = end_once tasks (ends_behind _ tasks ends)
end_once (task.Done ∷ tasks) ends =
    omega (arith, ap ends_alone (end_alone task.Done tasks ends refl))
end_once (task.Failed error ∷ tasks) ends = end_once tasks (ends_behind _ tasks ends)

-- a head more tells one more
head_tells : (told : ToldResponse) (head : ResponseHead) (end : Bool) → told.final ≡ None
    → told_size (with_task told (task.Header head end)) ≡ told_size told + 1
head_tells told head end none = by (is_informational head.status)
  where
    by : (b : Bool)
        → told_size (if b then record told { informed = told.informed ++ head ∷ [] }
        else record told { final = Some head })
        ≡ told_size told + 1
    by true = omega (arith, length-append told.informed (head ∷ []))
    by false = omega (arith, ap one_final none)

-- the tasks are as many as what they tell, and their end
tasks_size : (told : ToldResponse) (all : List HttpTask) → Follow told all
    → length all + told_size told ≤ told_size (told_behind told all) + ends_alone all
tasks_size told [] follow = omega arith
tasks_size told (task.Header head end ∷ all) follow =
    let behind = tasks_size (with_task told (task.Header head end)) all follow.2 in
    omega (
      arith,
      behind,
      head_tells told head end follow.0,
      length-append (task.Header head end ∷ []) all,
    )
tasks_size told (task.Body None end ∷ all) follow = absurd follow.0
tasks_size told (task.Body (Some piece) end ∷ all) follow =
    let behind = tasks_size (with_task told (task.Body (Some piece) end)) all follow.2 in
    omega (
      arith,
      behind,
      follow.0,
      length-append told.body piece,
      length-append (task.Body (Some piece) end ∷ []) all,
    )
tasks_size told (task.UpgradedBody piece end ∷ all) follow = absurd follow.0
tasks_size told (task.Trailer fields ∷ all) follow = absurd follow.0
tasks_size told (task.Done ∷ all) follow =
    let behind = tasks_size told all follow.2 in
    omega (arith, behind, length-append (task.Done ∷ []) all)
tasks_size told (task.Failed error ∷ all) follow = absurd follow.0

-- the head of a response has four bytes at least
response_head : (method : List ℕ) (upgrade : Bool) (bytes : List ℕ) (head : ResponseHead)
    (f : Framing) (len : ℕ) → HasResponse method upgrade bytes head f len
    → (4 ≤ len) × (len ≤ length bytes)
response_head method upgrade bytes head f len has = head_end-within bytes len has.starts.ends

-- heads that inform are no more than their bytes
informs_within : (method : List ℕ) (upgrade : Bool) (bytes : List ℕ) (heads : List ResponseHead)
    (n : ℕ) → Informs method upgrade bytes heads n → (length heads ≤ n) × (n ≤ length bytes)
informs_within method upgrade bytes heads n (tasks.Informs.none_came _) =
    (omega arith, omega arith)
informs_within method upgrade bytes heads n
    (tasks.Informs.one_came _ head f len more k has informs behind) =
    let at = response_head method upgrade bytes head f len has in
    let rest = informs_within method upgrade (drop len bytes) more k behind in (
      omega (arith, at.0, rest.0, length-append (head ∷ []) more),
      omega (arith, at.1, rest.1, length-drop len bytes),
    )

-- a text that ends with a final head tells as much as it says
whole_said : (method : List ℕ) (upgrade closed : Bool) (given : List ℕ) (told : ToldResponse)
    (text : tasks.ResponseText) → told_size told ≡ text_size text
    → tasks.Tasks method upgrade given closed text → told_size told ≤ length given
whole_said method upgrade closed given told text is
    (tasks.Tasks.head_open heads n informs open_yet) =
    let within = informs_within method upgrade given heads n informs in
    omega (arith, is, within.0, within.1)
whole_said method upgrade closed given told text is
    (tasks.Tasks.head_refused heads n why informs refused) =
    let within = informs_within method upgrade given heads n informs in
    omega (arith, is, within.0, within.1)
whole_said method upgrade closed given told text is
    (tasks.Tasks.has_final heads n head f len said informs has final says) =
    let within = informs_within method upgrade given heads n informs in
    let at = response_head method upgrade (drop n given) head f len has in
    let inner = body_within f (drop (n + len) given) said says in
    omega (
      arith,
      is,
      within.0,
      within.1,
      at.0,
      at.1,
      inner,
      length-drop n given,
      length-drop (n + len) given,
    )

-- what was told is no more than the bytes that came
told_within : (method : List ℕ) (upgrade closed : Bool) (given : List ℕ) (told : ToldResponse)
    (at : ResponsePlace) (ahead : List ℕ) → ReadAt method upgrade closed given told at ahead
    → told_size told ≤ length given
told_within method upgrade closed given told place.NoHead ahead read =
    let within = informs_within method upgrade given told.informed read.0.n read.0.informs in
    omega (
      arith,
      within.0,
      within.1,
      ap one_final read.0.no_final,
      ap (λ (xs : List ℕ). length xs) read.0.no_body,
    )
told_within method upgrade closed given told place.Informed ahead read =
    let within = informs_within method upgrade given told.informed read.0.n read.0.informs in
    omega (
      arith,
      within.0,
      within.1,
      ap one_final read.0.no_final,
      ap (λ (xs : List ℕ). length xs) read.0.no_body,
    )
told_within method upgrade closed given told (place.InBody now) ahead read =
    let within = informs_within method upgrade given told.informed read.n read.informs in
    let at = response_head method upgrade (drop read.n given) read.head read.framing read.len
    read.has in
    let rest = some_text now.reader ahead in
    let said = body_within read.framing (drop (read.n + read.len) given) _
    (SoFar-reads read.framing (drop (read.n + read.len) given) told.body ahead now.reader rest.0
    read.so_far rest.1) in
    omega (
      arith,
      within.0,
      within.1,
      at.0,
      at.1,
      said,
      ap one_final read.final,
      length-append told.body rest.0.bytes,
      length-drop read.n given,
      length-drop (read.n + read.len) given,
    )
told_within method upgrade closed given told (place.Ended keeps) ahead read =
    whole_said method upgrade closed given told (says told (tasks.ResponseMark.ended read.place))
    refl
    read.whole

-- the tasks of a response are one more than its bytes at most
pub tasks_within : (method : List ℕ) (upgrade closed : Bool) (got : List ℕ)
    (all : List HttpTask) (client : ResponseReading)
    → AreTasks method upgrade closed got all client → length all ≤ length got + 1
tasks_within method upgrade closed got all client are =
    let size = tasks_size untold all are.follow in
    let told = told_within method upgrade closed got (told_behind untold all) client.place
    client.ahead are.so_far.at in
    omega (arith, size, told, end_once all are.ends_last)
