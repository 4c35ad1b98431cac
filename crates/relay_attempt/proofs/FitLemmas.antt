-- What a client is sent of a response fits, where the head that was sent asks as the client's does:
-- the tasks, as the peer's side hands them on, are never refused by the client's writer, and where
-- their text is over the end of the response was handed on.
--
--   front_passes   no task of a front of them is refused
--   over_has_end   a front that is sent as a text that is over has the end of the response
use Rattle.std.proofs.Common.{◌≡◌, ℕ, ◌-◌, ◌≤◌, ◌==◌, nat_le, Bool, true, false, ◌||◌, ◌⊎◌, List, [], ◌∷◌, ◌++◌, length, take, drop, map, codes, refl, sym, ap, subst, ◌∙◌, append-nil, length-append, length-take, arith, inl, inr, Option, Some, None, is_some, option_map, MatchOption, if◌then◌else◌, eqb-true, leb-true}
use Rattle.std.specs.List.{list_any}
use Rattle.std.proofs.lemmas.Bool.{cases_Bool}
use Rattle.http_header.specs.FieldValue.{FieldValue}
use Rattle.http_header.specs.HeaderMap.{append, append_all, index_of, update, remove, remove_at, entry_at, IsUnique}
use Rattle.http_header.specs.Places.{IsAt, IsAbsent}
use Rattle.http_header.proofs.BucketsLemmas.{IsUnique-push, IsUnique-with_values, IsUnique-swap_remove}
use Rattle.http_header.proofs.PlacesLemmas.{index_of_cases}
use Rattle.relay_tasks.specs.declared.error.Error.{Error}
use Rattle.relay_tasks.specs.declared.task.HttpTask.{HttpTask}
use Rattle.relay_tasks.specs.declared.task.HttpTask.TheVariants as task
use Rattle.relay_tasks.specs.Head.{Fields, RequestHead, ResponseHead}
use Rattle.relay_tasks.specs.Task.{is_end}
use Rattle.relay_h1.specs.declared.framing.Framing.{Framing}
use Rattle.relay_h1.specs.declared.framing.Framing.TheVariants as framing
use Rattle.relay_h1.specs.Body.{BodyText, Body, of_length}
use Rattle.relay_h1.specs.BodyWire.{after_piece, is_full, is_short}
use Rattle.relay_h1.specs.ClientHead.{is_informational, client_framing, client_head, framing_for, lacks_framing, chunked_head}
use Rattle.relay_h1.specs.Framing.{is_http_10, response_framing}
use Rattle.relay_h1.specs.Head.{kept_field}
use Rattle.relay_h1.specs.Tasks.{HasFinal, Tasks, ResponseText, ResponseMark, ended, open_mark, mark_of}
use Rattle.relay_h1.specs.Tasks as texts
use Rattle.relay_h1.specs.Verdict.{HasResponse, settled}
use Rattle.relay_h1.proofs.ClientHeadLemmas.{finds_framing, added_is_chunked}
use Rattle.relay_peer.specs.ResponseReading.{ToldResponse, untold, with_task, with_head, with_piece, says}
use Rattle.relay_peer.proofs.ExactLemmas.{Tasks-unique}
use Rattle.relay_session.specs.Asked.{method_of, asks_of, request_of}
use Rattle.relay_session.specs.Response.{is_over}
use Rattle.relay_session.specs.TaskWire.{Sent, framing_of, shown, piece_sent, piece_refusal, framed_head_sent, framed_head_refusal, head_sent, head_refusal, task_sent, refusal, wire, or_later, first_refusal}
use Rattle.relay_session.specs.declared.task_text.Asks.{Asks}
use Rattle.relay_session.specs.declared.task_text.Place.{Place}
use Rattle.relay_session.specs.declared.task_text.Place.TheVariants as place
use Rattle.relay_session.specs.declared.task_text.Request.{Request}
use Rattle.relay_session.proofs.AskedLemmas.{same_framing}
use Rattle.relay_core.specs.Moves.{EndsLast}
use Rattle.relay_peer.specs.declared.response_reading.ResponseReading.{ResponseReading}
use Rattle.relay_sides.specs.Filtered.{AreHeads, handed, is_switch}
use Rattle.relay_peer.specs.Peer.{told_behind, told_of}
use Rattle.relay_peer.specs.Peer.{Follow, AreTasks}
use Rattle.relay_attempt.specs.Order.{AreOf}
use Rattle.relay_attempt.proofs.WholeLemmas.{IsFull, full_has_end}

-- ---- the fields of a head that came

-- a name with other values stands once still
updated_unique : (m : Fields) (name : List ℕ) (f : List FieldValue → List FieldValue)
    → IsUnique m → IsUnique (update m name f)
updated_unique m name f unique = on (index_of m name) (index_of_cases m name)
  where
    on : (o : Option ℕ) → MatchOption o (IsAbsent m name) (IsAt m name)
        → IsUnique (update m name f)
    on None x =
        subst IsUnique (sym (x.updates f)) (IsUnique-push m (name, f []) x.absent unique)
    on (Some i) x =
        subst IsUnique (sym (x.updates f))
        (IsUnique-with_values m i (f (entry_at m i).1) x.within unique)

-- so does a name that is left
removed_unique : (m : Fields) (name : List ℕ) → IsUnique m → IsUnique (remove m name)
removed_unique m name unique = on (index_of m name) (index_of_cases m name)
  where
    on : (o : Option ℕ) → MatchOption o (IsAbsent m name) (IsAt m name)
        → IsUnique (remove_at m o)
    on None x = unique
    on (Some i) x = IsUnique-swap_remove m i x.within unique

-- no name of fields that came one after the other stands twice
appended_unique : (m : Fields) (items : List (List ℕ × FieldValue)) → IsUnique m
    → IsUnique (append_all m items)
appended_unique m [] unique = unique
appended_unique m (item ∷ items) unique =
    appended_unique (append m item.0 item.1) items
    (updated_unique m item.0 (λ values. values ++ item.1 ∷ []) unique)

-- a field less, where the head is settled
settled_unique : (f : Framing) (head : ResponseHead) → IsUnique head.fields
    → IsUnique (settled f head).fields
settled_unique framing.Empty head unique = unique
settled_unique (framing.Length n) head unique = unique
settled_unique framing.Chunked head unique =
    removed_unique head.fields (codes "content-length") unique
settled_unique framing.UntilClose head unique = unique
settled_unique framing.Tunnel head unique = unique

-- a client of HTTP/1.1 gets any framing as it is
same_for : (f : Framing) → framing_for false f ≡ f
same_for framing.Empty = refl
same_for (framing.Length n) = refl
same_for framing.Chunked = refl
same_for framing.UntilClose = refl
same_for framing.Tunnel = refl

-- a head that switches no protocols is framed as one to which no upgrade was asked for
framed_plain : (method : List ℕ) (upgrade : Bool) (head : ResponseHead) (f : Framing)
    → (head.status == 101) ≡ false → response_framing method upgrade head ≡ Some f
    → response_framing method false head ≡ Some f
unfolding response_framing
framed_plain method true head f stays is = rw stays at is
framed_plain method false head f stays is = is

-- a head that came is framed as it is read
came_framed : (method : List ℕ) (upgrade : Bool) (bytes : List ℕ) (head : ResponseHead)
    (f : Framing) (len : ℕ) → HasResponse method upgrade bytes head f len
    → response_framing method upgrade head ≡ Some f
came_framed method upgrade bytes head f len has =
    let none : IsUnique {X = FieldValue} [] = λ i j within other same. omega arith in
    let unique = subst (λ (h : ResponseHead). IsUnique h.fields) (sym has.starts.reads.is)
    (appended_unique [] (map kept_field has.starts.reads.form.fields) none) in
    subst (λ (h : ResponseHead). response_framing method upgrade h ≡ Some f) (sym has.is)
    (finds_framing method upgrade false has.given f has.framed unique
    (settled_unique f has.given unique)
    ∙ ap Some (same_for f))

-- ---- the framing towards the client

-- a head as it is handed on
abbrev handed_head : List ℕ → Bool → ResponseHead → ResponseHead
handed_head method ends head =
    if lacks_framing method ends head then chunked_head head else head

-- a head that is handed on is framed as it came, or chunked
abbrev IsHandedAs : Framing → Framing → Type 0
IsHandedAs f g = (g ≡ f) ⊎ (g ≡ framing.Chunked)

-- how a head is framed that is handed on
record HandsOver (method : List ℕ) (ends : Bool) (head : ResponseHead) (f : Framing)
    : Type 0 where
  pub g : Framing
  pub framed : response_framing method false (handed_head method ends head) ≡ Some g
  pub comes : IsHandedAs f g

-- a framed head is handed on framed
hands_over : (method : List ℕ) (ends : Bool) (head : ResponseHead) (f : Framing)
    → response_framing method false head ≡ Some f → HandsOver method ends head f
hands_over method ends head f is =
    elim (cases_Bool (lacks_framing method ends head)) [
      | inl lacks ↦
          record {
            g = framing.Chunked;
            framed = rw lacks (added_is_chunked method false ends head lacks);
            comes = inr refl;
          }
      | inr has ↦ record { g = f; framed = rw has is; comes = inl refl }
    ]

-- the status stays
handed_status : (method : List ℕ) (ends : Bool) (head : ResponseHead)
    → (handed_head method ends head).status ≡ head.status
handed_status method ends head = on (lacks_framing method ends head)
  where
    on : (chunked : Bool) → (if chunked then chunked_head head else head).status ≡ head.status
    on true = refl
    on false = refl

-- the client's framing is that of the head, as its version takes it, where the method that was sent
-- asks as the client's does
client_framed : (head : RequestHead) (method : List ℕ) → asks_of method ≡ asks_of head.method
    → (response : ResponseHead) (g : Framing) → response_framing method false response ≡ Some g
    → client_framing (method_of (asks_of head.method)) head.version false response
    ≡ Some (framing_for (is_http_10 head.version) g)
unfolding client_framing
client_framed head method alike response g is =
    ap (λ (a : Asks). client_framing (method_of a) head.version false response) (sym alike)
    ∙ same_framing method head.version false response
    ∙ ap (λ (f : Option Framing). option_map (framing_for (is_http_10 head.version)) f) is

-- ---- what is left of a body

-- no bytes leave it as it is
after_none : (rest : Framing) → after_piece rest [] ≡ rest
after_none framing.Empty = refl
after_none (framing.Length n) = ap framing.Length (less_none n)
  where
    less_none : (k : ℕ) → k - 0 ≡ k
    less_none k = omega arith
after_none framing.Chunked = refl
after_none framing.UntilClose = refl
after_none framing.Tunnel = refl

-- two pieces are as one
after_two : (rest : Framing) (a b : List ℕ)
    → after_piece (after_piece rest a) b ≡ after_piece rest (a ++ b)
after_two framing.Empty a b = refl
after_two (framing.Length n) a b = ap framing.Length (less_two n)
  where
    less_two : (k : ℕ) → k - length a - length b ≡ k - length (a ++ b)
    less_two k = omega (arith, length-append a b)
after_two framing.Chunked a b = refl
after_two framing.UntilClose a b = refl
after_two framing.Tunnel a b = refl

-- what is sent in chunks, or up to the close, is never short
chunked_fits : (old : Bool) (body : List ℕ)
    → is_short (after_piece (framing_for old framing.Chunked) body) ≡ false
chunked_fits true body = refl
chunked_fits false body = refl

-- nor full
chunked_open : (old : Bool) (body : List ℕ)
    → is_full (after_piece (framing_for old framing.Chunked) body) ≡ false
chunked_open true body = refl
chunked_open false body = refl

-- a whole body is not short
whole_fits : (old : Bool) (f : Framing) (body : List ℕ)
    → ((k : ℕ) → f ≡ framing.Length k → length body ≡ k)
    → is_short (after_piece (framing_for old f) body) ≡ false
whole_fits old framing.Empty body whole = refl
whole_fits old (framing.Length k) body whole =
    let none : k - length body ≡ 0 = omega (arith, whole k refl) in rw none refl
whole_fits old framing.Chunked body whole = chunked_fits old body
whole_fits old framing.UntilClose body whole = refl
whole_fits old framing.Tunnel body whole = refl

-- nor is it towards the client
handed_fits : (old : Bool) (f g : Framing) (body : List ℕ) → IsHandedAs f g
    → ((k : ℕ) → f ≡ framing.Length k → length body ≡ k)
    → is_short (after_piece (framing_for old g) body) ≡ false
handed_fits old f g body (inl same) whole =
    subst (λ (x : Framing). is_short (after_piece (framing_for old x) body) ≡ false) (sym same)
    (whole_fits old f body whole)
handed_fits old f g body (inr chunked) whole =
    subst (λ (x : Framing). is_short (after_piece (framing_for old x) body) ≡ false)
    (sym chunked) (chunked_fits old body)

-- ---- what is sent

-- it is not refused, and the response stands there behind it
record Goes (sent : Sent) (why : Option Error) (at : Place) : Type 0 where
  pub passes : why ≡ None
  pub leads : sent.place ≡ at

-- where a response stands behind a piece that leaves so much
abbrev behind_piece : Bool → Framing → Place
behind_piece ends rest = if ends then place.Done else place.Body rest

-- a piece is sent, unless the body ends short with it
piece_goes : (rest : Framing) (piece : List ℕ) (ends : Bool)
    → (ends ≡ true → is_short (after_piece rest piece) ≡ false)
    → Goes (piece_sent rest piece ends) (piece_refusal rest piece ends)
    (behind_piece ends (after_piece rest piece))
piece_goes rest piece false fits = record { passes = refl; leads = refl }
piece_goes rest piece true fits =
    record { passes = rw (fits refl) refl; leads = rw (fits refl) refl }

-- a head that is framed is sent, unless the body ends short with it
framed_goes : (head : ResponseHead) (ends : Bool) (g : Framing) (found : Option Framing)
    → found ≡ Some g → (ends ≡ true → is_short (after_piece g []) ≡ false)
    → Goes (framed_head_sent head ends found) (framed_head_refusal ends found)
    (behind_piece ends (after_piece g []))
framed_goes head ends g found is fits =
    let goes = piece_goes g [] ends fits in
    subst
    (λ (o : Option Framing). Goes (framed_head_sent head ends o) (framed_head_refusal ends o)
    (behind_piece ends (after_piece g [])))
    (sym is) (record { passes = goes.passes; leads = goes.leads })

-- an informational head is sent as such
informing_goes : (request : Request) (head : ResponseHead) (ends : Bool)
    → is_informational head.status ≡ true
    → Goes (head_sent request head ends) (head_refusal request head ends) place.NoHead
informing_goes request head ends is = rw is (record { passes = refl; leads = refl })

-- and any other as a final one
final_goes : (request : Request) (head : ResponseHead) (ends : Bool) (at : Place)
    → is_informational head.status ≡ false
    → Goes (framed_head_sent (shown request head) ends (framing_of request head))
    (framed_head_refusal ends (framing_of request head)) at
    → Goes (head_sent request head ends) (head_refusal request head ends) at
final_goes request head ends at is goes = rw is goes

-- ---- what is told

-- an informational head tells no final one
told_informs : (told : ToldResponse) (head : ResponseHead) → is_informational head.status ≡ true
    → with_head told head ≡ record told { informed = told.informed ++ head ∷ [] }
told_informs told head is = rw is refl

-- and any other does
told_final : (told : ToldResponse) (head : ResponseHead) → is_informational head.status ≡ false
    → with_head told head ≡ record told { final = Some head }
told_final told head is = rw is refl

-- a head tells no byte of the body
head_body : (told : ToldResponse) (head : ResponseHead) → (with_head told head).body ≡ told.body
head_body told head = on (is_informational head.status)
  where
    on : (informs : Bool) → (if informs then record told { informed = told.informed ++ head ∷ [] }
        else record told { final = Some head }).body ≡ told.body
    on true = refl
    on false = refl

-- no final head was told where one is to come
never_both : {A : Type 0} (told : Option ResponseHead) (head : ResponseHead) → told ≡ None
    → told ≡ Some head → A
never_both told head none some = let both = sym none ∙ some in absurd (cc)

-- a final head that was told stays
pub final_stays : (told : ToldResponse) (tasks : List HttpTask) (head : ResponseHead)
    → Follow told tasks
    → told.final ≡ Some head → (told_behind told tasks).final ≡ Some head
final_stays told [] head follow is = is
final_stays told (task.Header other end ∷ tasks) head follow is =
    never_both told.final head follow.0 is
final_stays told (task.Body None end ∷ tasks) head follow is = absurd follow.0
final_stays told (task.Body (Some piece) end ∷ tasks) head follow is =
    final_stays (with_piece told (Some piece)) tasks head follow.2 is
final_stays told (task.UpgradedBody piece end ∷ tasks) head follow is = absurd follow.0
final_stays told (task.Trailer fields ∷ tasks) head follow is = absurd follow.0
final_stays told (task.Done ∷ tasks) head follow is = final_stays told tasks head follow.2 is
final_stays told (task.Failed error ∷ tasks) head follow is = absurd follow.0

-- one task takes no byte back
one_grows : (told : ToldResponse) (one : HttpTask) → length told.body ≤ length
    (with_task told one).body
one_grows told (task.Header head end) =
    omega (arith, ap (λ (l : List ℕ). length l) (head_body told head))
one_grows told (task.Body None end) = omega arith
one_grows told (task.Body (Some piece) end) = omega (arith, length-append told.body piece)
one_grows told (task.UpgradedBody piece end) = omega arith
one_grows told (task.Trailer fields) = omega arith
one_grows told task.Done = omega arith
one_grows told (task.Failed error) = omega arith

-- nor do tasks in order
body_grows : (told : ToldResponse) (tasks : List HttpTask)
    → length told.body ≤ length (told_behind told tasks).body
body_grows told [] = omega arith
body_grows told (one ∷ tasks) =
    omega (arith, one_grows told one, body_grows (with_task told one) tasks)

-- ---- what the bytes say

-- a text of a response by its parts
abbrev text_of : List ResponseHead → Option ResponseHead → List ℕ → ResponseMark → ResponseText
text_of heads final body mark =
    record { informed = heads; final = final; body = body; mark = mark }

-- a response that is not whole has not ended
open_is_none : {A : Type 0} (closed : Bool) (n : ℕ) → ended n ≡ open_mark closed → A
open_is_none true n is = absurd (cc)
open_is_none false n is = absurd (cc)

-- a body of some length that has ended has that length
ended_length : (k n begins all : ℕ) (closed : Bool) (bytes body : List ℕ)
    → body ≡ take k bytes
    → ended n ≡ mark_of (framing.Length k) begins all closed (of_length k bytes).mark
    → length body ≡ k
ended_length k n begins all closed bytes body is mark =
    elim (cases_Bool (nat_le k (length bytes))) [
      | inl whole ↦
          omega (
            arith,
            ap (λ (l : List ℕ). length l) is,
            length-take k bytes,
            leb-true k (length bytes) whole,
          )
      | inr some ↦ open_is_none closed n (rw some at mark)
    ]

-- ---- parts of what was handed on

-- the tasks that were handed on as a front, and as what follows it
record Parts (method : List ℕ) (given front rest : List HttpTask) : Type 0 where
  pub first : List HttpTask
  pub next : List HttpTask
  pub joined : given ≡ first ++ next
  pub are_first : map (handed method) first ≡ front
  pub are_next : map (handed method) next ≡ rest

-- one task and those behind it
cons_parts : (x y : HttpTask) (xs ys : List HttpTask)
    → (let l : List HttpTask = x ∷ xs in l ≡ y ∷ ys) → (x ≡ y) × (xs ≡ ys)
cons_parts x y xs ys is = (cc, cc)

-- what was handed on comes from parts of what was given
parts_of : (method : List ℕ) (given front rest : List HttpTask)
    → map (handed method) given ≡ front ++ rest → Parts method given front rest
parts_of method given [] rest is =
    record { first = []; next = given; joined = refl; are_first = refl; are_next = is }
parts_of method [] (x ∷ front) rest is = absurd (cc)
parts_of method (one ∷ given) (x ∷ front) rest is =
    let both = cons_parts (handed method one) x (map (handed method) given) (front ++ rest) is in
    let later = parts_of method given front rest both.1 in
    record {
      first = one ∷ later.first;
      next = later.next;
      joined = ap (λ (l : List HttpTask). one ∷ l) later.joined;
      are_first = ap (λ (t : HttpTask). t ∷ map (handed method) later.first) both.0
          ∙ ap (λ (l : List HttpTask). x ∷ l) later.are_first;
      are_next = later.are_next;
    }

-- a test that passes on a list passes on a longer one
later_passes : (a b : Bool) → b ≡ true → (a || b) ≡ true
later_passes true b is = refl
later_passes false b is = is

-- where one of two tests passes not, neither does
neither : (a b : Bool) → (a || b) ≡ false → (a ≡ false) × (b ≡ false)
neither true b none = absurd (cc)
neither false b none = (refl, none)

-- ---- the response

module _
    (head : RequestHead) (method : List ℕ) (alike : asks_of method ≡ asks_of head.method)
    (upgrade closed : Bool) (got : List ℕ) (tasks : List HttpTask)
    (are : AreOf method upgrade closed got tasks)
  where
    -- whether the client is of HTTP/1.0
    abbrev old : Bool
    old = is_http_10 head.version

    -- what the whole of the tasks tells
    abbrev all : ToldResponse
    all = told_of are.given

    -- this final head is told, with the framing in which it came
    record IsFinal (final : ResponseHead) (f : Framing) : Type 0 where
      pub told : all.final ≡ Some final
      pub len : ℕ
      pub has : HasFinal method upgrade got all.informed final f len

    -- where the response stands behind what was told: no final head, or what it leaves of the body
    -- behind the bytes that were told, or the end, which is among the tasks
    data Stands (told : ToldResponse) (at : Place) : Type 0 where
      none_yet : told.final ≡ None → told.body ≡ [] → at ≡ place.NoHead → Stands told at
      in_body : (final : ResponseHead) (f g : Framing) → told.final ≡ Some final
          → IsFinal final f → IsHandedAs f g
          → at ≡ place.Body (after_piece (framing_for old g) told.body) → Stands told at
      is_done : (final : ResponseHead) → told.final ≡ Some final
          → list_any is_end are.given ≡ true → at ≡ place.Done → Stands told at

    -- the tasks that are left behind what was told
    record Left (told : ToldResponse) (rest : List HttpTask) : Type 0 where
      pub follow : Follow told rest
      pub tells : told_behind told rest ≡ all
      pub stays : list_any is_switch rest ≡ false
      pub ends_last : EndsLast rest
      pub ends : list_any is_end rest ≡ true → list_any is_end are.given ≡ true

    -- at first all are left
    all_left : Left untold are.given
    all_left = record {
      follow = are.follow;
      tells = refl;
      stays = are.stays;
      ends_last = are.ends_last;
      ends = λ is. is;
    }

    -- behind one of them
    one_less : (told : ToldResponse) (one : HttpTask) (rest : List HttpTask) → Left told
        (one ∷ rest)
        → Left (with_task told one) rest
    one_less told one rest left = record {
      follow = left.follow.2;
      tells = left.tells;
      stays = (neither (is_switch one) (list_any is_switch rest) left.stays).1;
      ends_last = λ front behind same found.
          left.ends_last (one ∷ front) behind (ap (λ (l : List HttpTask). one ∷ l) same)
          (later_passes (is_end one) (list_any is_end front) found);
      ends = λ is. left.ends (later_passes (is_end one) (list_any is_end rest) is);
    }

    -- an end is the last of them
    record EndsAll (told : ToldResponse) : Type 0 where
      pub among : list_any is_end are.given ≡ true
      pub tells : all ≡ told

    -- so what was told with it is all
    ends_all : (told : ToldResponse) (one : HttpTask) (rest : List HttpTask) → Left told
        (one ∷ rest)
        → is_end one ≡ true → EndsAll (with_task told one)
    ends_all told one rest left is =
        let none = left.ends_last (one ∷ []) rest refl (rw is refl) in
        record {
          among = left.ends (rw is refl);
          tells = sym left.tells
              ∙ ap (λ (l : List HttpTask). told_behind (with_task told one) l) none;
        }

    -- what the bytes say of the response, by its final head
    all_said : (final : ResponseHead) (f : Framing) (is : IsFinal final f) (text : BodyText)
        → Body f (drop is.len got) text
        → Tasks method upgrade got closed
        (text_of all.informed (Some final) text.bytes
        (mark_of f is.len (length got) closed text.mark))
    all_said final f is text said =
        subst
        (λ (k : ℕ). Tasks method upgrade got closed
        (text_of all.informed (Some final) text.bytes
        (mark_of f k (length got) closed text.mark)))
        (sym is.has.ends)
        (texts.Tasks.has_final all.informed is.has.place final f is.has.own text is.has.informs
        is.has.has is.has.final
        (subst (λ (k : ℕ). Body f (drop k got) text) is.has.ends said))

    -- a body of some length that has ended was told whole
    length_told : list_any is_end are.given ≡ true → (final : ResponseHead) (f : Framing)
        → IsFinal final f → (k : ℕ) → f ≡ framing.Length k → length all.body ≡ k
    length_told ends final f is k same =
        let there = subst (λ (x : Framing). IsFinal final x) same is in
        let text = of_length k (drop there.len got) in
        let whole = are.whole ends in
        let said = all_said final (framing.Length k) there text refl in
        let one = Tasks-unique method upgrade got closed (says all (ended whole.0))
        (text_of all.informed (Some final) text.bytes
        (mark_of (framing.Length k) there.len (length got) closed text.mark)) whole.1 said in
        ended_length k whole.0 there.len (length got) closed (drop there.len got) all.body
        (ap (λ (t : ResponseText). t.body) one) (ap (λ (t : ResponseText). t.mark) one)

    -- at an end the body is not short
    end_fits : (told : ToldResponse) (one : HttpTask) (rest : List HttpTask) → Left told
        (one ∷ rest)
        → (final : ResponseHead) (f g : Framing) → IsFinal final f → IsHandedAs f g
        → is_end one ≡ true
        → is_short (after_piece (framing_for old g) (with_task told one).body) ≡ false
    end_fits told one rest left final f g is comes ends =
        let here = ends_all told one rest left ends in
        handed_fits old f g (with_task told one).body comes
        (λ k same. subst (λ (t : ToldResponse). length t.body ≡ k) here.tells
        (length_told here.among final f is k same))

    -- ---- one task

    -- a task is not refused, and where the response stands behind it
    record Steps (told : ToldResponse) (at : Place) (one : HttpTask) : Type 0 where
      pub passes : refusal (request_of head) at (handed method one) ≡ None
      pub stands : Stands (with_task told one)
          (task_sent (request_of head) at (handed method one)).place

    -- where it stands behind a piece, which may be the last
    stands_behind : (told : ToldResponse) (at : Place) (ends : Bool) (rest : Framing)
        (final : ResponseHead) (f g : Framing) → told.final ≡ Some final → IsFinal final f
        → IsHandedAs f g → (ends ≡ true → list_any is_end are.given ≡ true)
        → rest ≡ after_piece (framing_for old g) told.body → at ≡ behind_piece ends rest
        → Stands told at
    stands_behind told at true rest final f g tells is comes among same leads =
        is_done final tells (among refl) leads
    stands_behind told at false rest final f g tells is comes among same leads =
        in_body final f g tells is comes (leads ∙ ap place.Body same)

    -- a final head
    final_steps : (told : ToldResponse) (given : ResponseHead) (ends : Bool) (rest : List HttpTask)
        → Left told (task.Header given ends ∷ rest) → told.body ≡ []
        → is_informational given.status ≡ false
        → Steps told place.NoHead (task.Header given ends)
    final_steps told given ends rest left none final =
        let one = task.Header given ends in
        let tells : (with_task told one).final ≡ Some given =
        ap (λ (t : ToldResponse). t.final) (told_final told given final) in
        let bare : (with_task told one).body ≡ [] = head_body told given ∙ none in
        let in_all : all.final ≡ Some given =
        ap (λ (t : ToldResponse). t.final) (sym left.tells)
        ∙ final_stays (with_task told one) rest given left.follow.2 tells in
        let found = are.final given in_all in
        let f = found.0 in
        let is : IsFinal given f = record { told = in_all; len = found.1; has = found.2 } in
        let over = hands_over method ends given f
        (framed_plain method upgrade given f
        (neither (given.status == 101) (list_any is_switch rest) left.stays).0
        (came_framed method upgrade (drop is.has.place got) given f is.has.own is.has.has)) in
        let g = over.g in
        let out = handed_head method ends given in
        let goes = final_goes (request_of head) out ends
        (behind_piece ends (after_piece (framing_for old g) []))
        (ap is_informational (handed_status method ends given) ∙ final)
        (framed_goes (client_head (method_of (asks_of head.method)) head.version false out) ends
        (framing_for old g)
        (client_framing (method_of (asks_of head.method)) head.version false out)
        (client_framed head method alike out g over.framed)
        (λ last. subst
        (λ (l : List ℕ). is_short (after_piece (framing_for old g) l) ≡ false) bare
        (end_fits told one rest left given f g is over.comes last))) in
        record {
          passes = goes.passes;
          stands = stands_behind (with_task told one) (head_sent (request_of head) out ends).place
              ends (after_piece (framing_for old g) []) given f g tells is over.comes
              (λ last. (ends_all told one rest left last).among)
              (ap (λ (l : List ℕ). after_piece (framing_for old g) l) (sym bare)) goes.leads;
        }

    -- an informational head
    informs_steps : (told : ToldResponse) (given : ResponseHead) (ends : Bool) → told.final ≡ None
        → told.body ≡ [] → is_informational given.status ≡ true
        → Steps told place.NoHead (task.Header given ends)
    informs_steps told given ends none bare informs =
        let out = handed_head method ends given in
        let goes = informing_goes (request_of head) out ends
        (ap is_informational (handed_status method ends given) ∙ informs) in
        record {
          passes = goes.passes;
          stands = subst (λ (t : ToldResponse).
              Stands t (head_sent (request_of head) out ends).place)
              (sym (told_informs told given informs)) (none_yet none bare goes.leads);
        }

    -- where no final head was sent
    from_none : (told : ToldResponse) (one : HttpTask) (rest : List HttpTask) → Left told
        (one ∷ rest)
        → told.final ≡ None → told.body ≡ [] → Steps told place.NoHead one
    from_none told (task.Header given ends) rest left none bare =
        elim (cases_Bool (is_informational given.status)) [
          | inl informs ↦ informs_steps told given ends none bare informs
          | inr final ↦ final_steps told given ends rest left bare final
        ]
    from_none told (task.Body piece ends) rest left none bare =
        let wrong : false ≡ true =
        subst (λ (o : Option ResponseHead). is_some o ≡ true) none left.follow.1 in absurd (cc)
    from_none told (task.UpgradedBody piece ends) rest left none bare = absurd left.follow.0
    from_none told (task.Trailer fields) rest left none bare = absurd left.follow.0
    from_none told task.Done rest left none bare =
        record { passes = refl; stands = none_yet none bare refl }
    from_none told (task.Failed error) rest left none bare = absurd left.follow.0

    -- a piece of the body
    piece_steps : (told : ToldResponse) (one : HttpTask) (rest : List HttpTask)
        → Left told (one ∷ rest) → (final : ResponseHead) (f g : Framing)
        → told.final ≡ Some final → IsFinal final f → IsHandedAs f g → (piece : List ℕ)
        → (with_task told one).final ≡ told.final
        → (with_task told one).body ≡ told.body ++ piece
        → (piece_refusal (after_piece (framing_for old g) told.body) piece (is_end one) ≡ None)
        × Stands (with_task told one)
        (piece_sent (after_piece (framing_for old g) told.body) piece (is_end one)).place
    piece_steps told one rest left final f g tells is comes piece same grows =
        let left_of : after_piece (after_piece (framing_for old g) told.body) piece
        ≡ after_piece (framing_for old g) (with_task told one).body =
        after_two (framing_for old g) told.body piece
        ∙ ap (λ (l : List ℕ). after_piece (framing_for old g) l) (sym grows) in
        let goes = piece_goes (after_piece (framing_for old g) told.body) piece (is_end one)
        (λ last. ap is_short left_of ∙ end_fits told one rest left final f g is comes last) in (
          goes.passes,
          stands_behind (with_task told one)
              (piece_sent (after_piece (framing_for old g) told.body) piece (is_end one)).place
              (is_end one)
              (after_piece (after_piece (framing_for old g) told.body) piece) final f g
              (same ∙ tells) is comes
              (λ last. (ends_all told one rest left last).among) left_of goes.leads,
        )

    -- inside the body
    from_body : (told : ToldResponse) (one : HttpTask) (rest : List HttpTask) → Left told
        (one ∷ rest)
        → (final : ResponseHead) (f g : Framing) → told.final ≡ Some final → IsFinal final f
        → IsHandedAs f g
        → Steps told (place.Body (after_piece (framing_for old g) told.body)) one
    from_body told (task.Header given ends) rest left final f g tells is comes =
        never_both told.final final left.follow.0 tells
    from_body told (task.Body None ends) rest left final f g tells is comes = absurd left.follow.0
    from_body told (task.Body (Some piece) ends) rest left final f g tells is comes =
        let goes = piece_steps told (task.Body (Some piece) ends) rest left final f g tells is comes
        piece refl refl in
        record { passes = goes.0; stands = goes.1 }
    from_body told (task.UpgradedBody piece ends) rest left final f g tells is comes =
        absurd left.follow.0
    from_body told (task.Trailer fields) rest left final f g tells is comes = absurd left.follow.0
    from_body told task.Done rest left final f g tells is comes =
        let goes = piece_steps told task.Done rest left final f g tells is comes [] refl
        (sym (append-nil told.body)) in
        record { passes = goes.0; stands = goes.1 }
    from_body told (task.Failed error) rest left final f g tells is comes = absurd left.follow.0

    -- behind the end
    from_done : (told : ToldResponse) (one : HttpTask) (rest : List HttpTask) → Left told
        (one ∷ rest)
        → (final : ResponseHead) → told.final ≡ Some final
        → list_any is_end are.given ≡ true → Steps told place.Done one
    from_done told (task.Header given ends) rest left final tells among =
        never_both told.final final left.follow.0 tells
    from_done told (task.Body None ends) rest left final tells among = absurd left.follow.0
    from_done told (task.Body (Some piece) ends) rest left final tells among =
        record { passes = refl; stands = is_done final tells among refl }
    from_done told (task.UpgradedBody piece ends) rest left final tells among =
        absurd left.follow.0
    from_done told (task.Trailer fields) rest left final tells among = absurd left.follow.0
    from_done told task.Done rest left final tells among =
        record { passes = refl; stands = is_done final tells among refl }
    from_done told (task.Failed error) rest left final tells among = absurd left.follow.0

    -- from wherever it stands
    steps : (told : ToldResponse) (at : Place) (one : HttpTask) (rest : List HttpTask)
        → Left told (one ∷ rest) → Stands told at → Steps told at one
    steps told at one rest left (none_yet none bare there) =
        subst (λ (p : Place). Steps told p one) (sym there)
        (from_none told one rest left none bare)
    steps told at one rest left (in_body final f g tells is comes there) =
        subst (λ (p : Place). Steps told p one) (sym there)
        (from_body told one rest left final f g tells is comes)
    steps told at one rest left (is_done final tells among there) =
        subst (λ (p : Place). Steps told p one) (sym there)
        (from_done told one rest left final tells among)

    -- ---- tasks in order

    -- none of a front of them is refused, and where the response stands behind it
    record Walks (told : ToldResponse) (at : Place) (front rest : List HttpTask) : Type 0 where
      pub passes : first_refusal (request_of head) at (map (handed method) front) ≡ None
      pub stands : Stands (told_behind told front)
          (wire (request_of head) at (map (handed method) front)).place
      pub left : Left (told_behind told front) rest

    -- every front is so, from wherever the response stands
    walks : (told : ToldResponse) (at : Place) (front rest : List HttpTask) → Left told
        (front ++ rest)
        → Stands told at → Walks told at front rest
    walks told at [] rest left stands = record { passes = refl; stands = stands; left = left }
    walks told at (one ∷ front) rest left stands =
        let first = steps told at one (front ++ rest) left stands in
        let next = (task_sent (request_of head) at (handed method one)).place in
        let later = walks (with_task told one) next front rest
        (one_less told one (front ++ rest) left) first.stands in
        record {
          passes = ap (λ (o : Option Error). or_later o
              (first_refusal (request_of head) next (map (handed method) front)))
              first.passes ∙ later.passes;
          stands = later.stands;
          left = later.left;
        }

    -- where the response stands behind a front, by the tasks that it was handed on from
    record SendsFront (front rest : List HttpTask) : Type 0 where
      pub told : ToldResponse
      pub next : List HttpTask
      pub are_next : map (handed method) next ≡ rest
      pub passes : first_refusal (request_of head) place.NoHead front ≡ None
      pub stands : Stands told (wire (request_of head) place.NoHead front).place
      pub left : Left told next

    -- from the first task on
    sends_front : (front rest : List HttpTask) → tasks ≡ front ++ rest → SendsFront front rest
    sends_front front rest same =
        let parts = parts_of method are.given front rest (sym are.are ∙ same) in
        let walk = walks untold place.NoHead parts.first parts.next
        (subst (λ (l : List HttpTask). Left untold l) parts.joined all_left)
        (none_yet refl refl refl) in
        record {
          told = told_of parts.first;
          next = parts.next;
          are_next = parts.are_next;
          passes = subst
              (λ (l : List HttpTask). first_refusal (request_of head) place.NoHead l ≡ None)
              parts.are_first walk.passes;
          stands = subst
              (λ (l : List HttpTask).
              Stands (told_of parts.first) (wire (request_of head) place.NoHead l).place)
              parts.are_first walk.stands;
          left = walk.left;
        }

    -- no task of the response is refused by the client's writer
    pub front_passes : (front rest : List HttpTask) → tasks ≡ front ++ rest
        → first_refusal (request_of head) place.NoHead front ≡ None
    front_passes front rest same = (sends_front front rest same).passes

    -- ---- the whole response

    -- where a front of the tasks is over, an end is among all of them, or the body takes no more
    -- bytes behind its final head
    record HasFull : Type 0 where
      pub final : ResponseHead
      pub form : Framing
      pub is : IsFinal final form
      pub full : IsFull form all.body

    -- what is left of a length behind the first bytes of a body is left behind no more
    full_all : (told : ToldResponse) (rest : List HttpTask) (f : Framing) → Left told rest
        → is_full (after_piece (framing_for old f) told.body) ≡ true → IsFull f all.body
    full_all told rest framing.Empty left full = inl refl
    full_all told rest (framing.Length k) left full =
        let none = eqb-true (k - length told.body) 0 full in
        let grows = body_grows told rest in
        let same = ap (λ (t : ToldResponse). length t.body) left.tells in
        inr (k, refl, omega arith)
    full_all told rest framing.Chunked left full =
        let wrong = sym full ∙ chunked_open old told.body in absurd (cc)
    full_all told rest framing.UntilClose left full = absurd (cc)
    full_all told rest framing.Tunnel left full = absurd (cc)

    -- a response that is over as it stands had its end, or its whole body
    over_by : (told : ToldResponse) (rest : List HttpTask) (at : Place) → Left told rest
        → Stands told at → is_over at ≡ true → (list_any is_end are.given ≡ true) ⊎ HasFull
    over_by told rest at left (none_yet none bare there) over =
        let wrong : false ≡ true = subst (λ (p : Place). is_over p ≡ true) there over in
        absurd (cc)
    over_by told rest at left (in_body final f g tells is (inl same) there) over =
        inr (record {
          final = final;
          form = f;
          is = is;
          full = full_all told rest f left
              (subst (λ (x : Framing). is_full (after_piece (framing_for old x) told.body) ≡ true)
              same (subst (λ (p : Place). is_over p ≡ true) there over));
        })
    over_by told rest at left (in_body final f g tells is (inr chunked) there) over =
        let full = subst
        (λ (x : Framing). is_full (after_piece (framing_for old x) told.body) ≡ true) chunked
        (subst (λ (p : Place). is_over p ≡ true) there over) in
        let wrong = sym full ∙ chunked_open old told.body in absurd (cc)
    over_by told rest at left (is_done final tells among there) over = inl among

    -- where the text of a front of the tasks is over, the end of the response was handed on
    pub over_has_end : (withheld : List HttpTask) (client : ResponseReading)
        → AreTasks method upgrade closed got (are.given ++ withheld) client → AreHeads withheld
        → (front rest : List HttpTask) → tasks ≡ front ++ rest
        → is_over (wire (request_of head) place.NoHead front).place ≡ true
        → list_any is_end are.given ≡ true
    over_has_end withheld client reads heads front rest same over =
        let there = sends_front front rest same in
        elim (over_by there.told there.next (wire (request_of head) place.NoHead front).place
        there.left there.stands over) [
          | inl ends ↦ ends
          | inr full ↦ full_has_end method upgrade closed got are.given withheld client
              full.final
              full.form full.is.len reads heads full.is.told full.is.has full.full
        ]
