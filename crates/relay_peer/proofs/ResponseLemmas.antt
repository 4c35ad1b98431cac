-- How the reading of a response goes on, and what it says of the bytes that the link gave.
use Rattle.std.proofs.Common.{◌≡◌, ℕ, zero, suc, ◌+◌, ◌-◌, ◌<◌, ◌≤◌, ◌==◌, Bool, true, false, ◌||◌, List, [], ◌∷◌, ◌++◌, length, drop, refl, sym, ap, subst, ◌∙◌, arith, inl, inr, length-append, length-drop, append-nil, if◌then◌else◌, Option, Some, Err, nat_le}
use Rattle.std.proofs.lemmas.Bool.{cases_Bool}
use Rattle.std.proofs.lemmas.Bool.Decides.{nat_tests}
use Rattle.std.proofs.lemmas.List.{drop-append-le, drop-drop, drop_all}
use Rattle.relay_tasks.specs.declared.context.Context.TheVariants.{BadFraming}
use Rattle.relay_tasks.specs.Head.{ResponseHead}
use Rattle.relay_tasks.specs.declared.error.Fail.{Fail}
use Rattle.relay_tasks.specs.declared.error.Fail.TheVariants as fail
use Rattle.relay_h1.specs.declared.framing.Framing.{Framing}
use Rattle.relay_h1.specs.declared.framing.Framing.TheVariants as framing
use Rattle.relay_h1.specs.Body.{BodyText, BodyMark, Body, open_text, ended_text, of_length}
use Rattle.relay_h1.specs.Body as body
use Rattle.relay_h1.specs.BodyReader.{SoFar, first_state, is_done, may_end, run}
use Rattle.relay_h1.specs.declared.body_reader.State.{State}
use Rattle.relay_h1.specs.declared.body_reader.State.TheVariants as state
use Rattle.relay_h1.specs.BodyWire.{says_end}
use Rattle.relay_h1.specs.ClientHead.{is_informational}
use Rattle.relay_h1.specs.Tasks.{Informs, Tasks, ResponseMark, still_open, ended, broken, cut_off, mark_of, open_mark}
use Rattle.relay_h1.specs.Tasks as tasks
use Rattle.relay_h1.specs.Verdict.{HasResponse, IsOpen, IsRefusedResponse, JudgesResponse}
use Rattle.relay_tasks.specs.declared.context.Context.{Context}
use Rattle.relay_h1.proofs.BodyLemmas.{Body-unique}
use Rattle.relay_h1.proofs.BodyReaderLemmas.{SoFar-first, SoFar-more, SoFar-reads, done_reads}
use Rattle.relay_h1.proofs.HeadEndLemmas.{head_end-within}
use Rattle.relay_h1.proofs.TasksLemmas.{Informs-within, Informs-append, Informs-more}
use Rattle.relay_h1.proofs.VerdictLemmas.{HasResponse-append}
use Rattle.relay_peer.specs.declared.response_reading.OpenBody.{OpenBody}
use Rattle.relay_peer.specs.declared.response_reading.ResponsePlace.{ResponsePlace}
use Rattle.relay_peer.specs.declared.response_reading.ResponseReading.{ResponseReading}
use Rattle.relay_peer.specs.declared.response_reading.ResponsePlace.TheVariants as place
use Rattle.relay_peer.specs.ResponseReading.{ToldResponse, untold, ReadSoFar, BreaksFor, says, with_head, cut_off_error, is_over, IsAwaitingHead, lets_keep, place_behind, place_behind_final, IsAwaiting, IsInBody, IsWhole, ReadAt, OpenAt, Finds, FindsAtEnd}
use Rattle.relay_peer.specs.ResponseReading as reading
use Rattle.relay_peer.specs.declared.response_reading.Found.TheVariants as found

-- ---- what the bytes say

-- the final head stands, and this is what its body says
pub tells_final : (method : List ℕ) (upgrade closed : Bool) (given : List ℕ) (told : ToldResponse)
    (n : ℕ)
    (head : ResponseHead) (framing : Framing) (len : ℕ) (text : BodyText)
    → Informs method upgrade given told.informed n
    → HasResponse method upgrade (drop n given) head framing len
    → is_informational head.status ≡ false → told.final ≡ Some head
    → Body framing (drop (n + len) given) text → text.bytes ≡ told.body
    → Tasks method upgrade given closed
    (says told (mark_of framing (n + len) (length given) closed text.mark))
tells_final method upgrade closed given told n head framing len text informs has is_final final
    reads
    bytes =
    let mark = mark_of framing (n + len) (length given) closed text.mark in
    let here =
    tasks.Tasks.has_final told.informed n head framing len text informs has is_final reads
    in
    subst (λ (xs : List ℕ). Tasks method upgrade given closed
    (record { informed = told.informed; final = told.final; body = xs; mark = mark })) bytes
    (subst (λ (f : Option ResponseHead). Tasks method upgrade given closed
    (record { informed = told.informed; final = f; body = text.bytes; mark = mark })) (sym final)
    here)

-- no final head stands yet, and one still may
tells_open : (method : List ℕ) (upgrade closed : Bool) (given : List ℕ) (told : ToldResponse)
    (ahead : List ℕ)
    → IsAwaiting method upgrade given told ahead → IsOpen ahead
    → Tasks method upgrade given closed (says told (open_mark closed))
tells_open method upgrade closed given told ahead a still =
    let here = tasks.Tasks.head_open told.informed a.n a.informs
    (subst (λ (xs : List ℕ). IsOpen xs) a.rest still) in
    subst (λ (xs : List ℕ). Tasks method upgrade given closed
    (record { informed = told.informed; final = told.final; body = xs; mark = open_mark closed }))
    (sym a.no_body)
    (subst (λ (f : Option ResponseHead). Tasks method upgrade given closed
    (record { informed = told.informed; final = f; body = []; mark = open_mark closed }))
    (sym a.no_final) here)

-- ---- heads

-- the reading that awaits its final head
pub awaiting : (method : List ℕ) (upgrade closed : Bool) (given : List ℕ) (told : ToldResponse)
    (at : ResponsePlace)
    (ahead : List ℕ) → IsAwaitingHead at → ReadAt method upgrade closed given told at ahead
    → IsAwaiting method upgrade given told ahead
awaiting method upgrade closed given told place.NoHead ahead is read = read.0
awaiting method upgrade closed given told place.Informed ahead is read = read.0
awaiting method upgrade closed given told (place.InBody body) ahead is read = absurd is
awaiting method upgrade closed given told (place.Ended keeps) ahead is read = absurd is

-- a body that has ended at once
ends_at_once : (framing : Framing) (bytes : List ℕ) → is_done (first_state framing) ≡ true
    → Body framing bytes (ended_text [] 0)
ends_at_once framing.Empty bytes done = refl
ends_at_once (framing.Length zero) bytes done =
    let here : nat_le 0 (length bytes) ≡ true = grind (arith, nat_tests) in
    let text : Bool → BodyText =
    λ w. record {
      bytes = [];
      mark = if w then body.BodyMark.ended 0 else body.BodyMark.still_open;
    } in
    ap text (sym here)
ends_at_once (framing.Length (suc n)) bytes done = absurd (grind (arith, nat_tests))
ends_at_once framing.Chunked bytes done = cc
ends_at_once framing.UntilClose bytes done = cc
ends_at_once framing.Tunnel bytes done = cc

-- behind the final head
behind_final : (method : List ℕ) (upgrade closed : Bool) (given : List ℕ) (told : ToldResponse)
    (ahead : List ℕ)
    (head : ResponseHead) (framing : Framing) (len : ℕ) (done : Bool)
    → is_done (first_state framing) ≡ done → is_informational head.status ≡ false
    → IsAwaiting method upgrade given told ahead → HasResponse method upgrade ahead head framing len
    → ReadAt method upgrade closed given (record told { final = Some head })
    (if done then place.Ended (lets_keep head framing)
    else place.InBody
    (record { reader = first_state framing; keeps = lets_keep head framing })) (drop len ahead)
behind_final method upgrade closed given told ahead head framing len true done final a has =
    let there = subst (λ (xs : List ℕ). HasResponse method upgrade xs head framing len) a.rest has
    in
    let now : ToldResponse = record told { final = Some head } in
    record {
      n = a.n;
      head = head;
      framing = framing;
      len = len;
      place = (a.n + len) + 0;
      informs = a.informs;
      has = there;
      final = refl;
      whole = tells_final method upgrade closed given now a.n head framing len (ended_text [] 0)
          a.informs
          there final refl (ends_at_once framing (drop (a.n + len) given) done) (sym a.no_body);
      rest = λ says. ap (drop len) a.rest ∙ drop-drop len a.n given
          ∙ ap (λ (k : ℕ). drop k given) (sym (plus_zero (a.n + len)));
      keeps = refl;
    }
  where
    plus_zero : (k : ℕ) → k + 0 ≡ k
    plus_zero k = omega arith
behind_final method upgrade closed given told ahead head framing len false done final a has =
    let there = subst (λ (xs : List ℕ). HasResponse method upgrade xs head framing len) a.rest has
    in
    let first = SoFar-first framing (drop (a.n + len) given) in
    let here = subst (λ (xs : List ℕ). SoFar framing (drop (a.n + len) given) []
    (first_state framing) xs) (sym (ap (drop len) a.rest ∙ drop-drop len a.n given)) first in
    record {
      n = a.n;
      head = head;
      framing = framing;
      len = len;
      informs = a.informs;
      has = there;
      is_final = final;
      final = refl;
      so_far = subst (λ (xs : List ℕ). SoFar framing (drop (a.n + len) given) xs
          (first_state framing) (drop len ahead)) (sym a.no_body) here;
      goes_on = done;
      keeps = refl;
    }

-- behind a head
behind_head : (method : List ℕ) (upgrade closed : Bool) (given : List ℕ) (told : ToldResponse)
    (ahead : List ℕ)
    (head : ResponseHead) (framing : Framing) (len : ℕ) (inform : Bool)
    → is_informational head.status ≡ inform → IsAwaiting method upgrade given told ahead
    → HasResponse method upgrade ahead head framing len
    → ReadAt method upgrade closed given
    (if inform then record told { informed = told.informed ++ head ∷ [] }
    else record told { final = Some head })
    (if inform then place.Informed else place_behind_final head framing) (drop len ahead)
behind_head method upgrade closed given told ahead head framing len true informs a has =
    let there = subst (λ (xs : List ℕ). HasResponse method upgrade xs head framing len) a.rest has
    in
    let ends = head_end-within (drop a.n given) len there.starts.ends in
    let size = length-drop a.n given in (
      record {
        n = a.n + len;
        informs = Informs-more method upgrade given told.informed a.n head framing len a.informs
            there informs;
        rest = ap (drop len) a.rest ∙ drop-drop len a.n given;
        no_final = a.no_final;
        no_body = a.no_body;
      },
      omega (arith, ends.0, ends.1, size),
    )
behind_head method upgrade closed given told ahead head framing len false informs a has =
    behind_final method upgrade closed given told ahead head framing len
    (is_done (first_state framing))
    refl
    informs a has

-- the head that stands ahead was told
pub head_told : (method : List ℕ) (upgrade closed : Bool) (given : List ℕ) (told : ToldResponse)
    (ahead : List ℕ)
    (head : ResponseHead) (framing : Framing) (len : ℕ) → IsAwaiting method upgrade given told ahead
    → HasResponse method upgrade ahead head framing len
    → ReadAt method upgrade closed given (with_head told head) (place_behind head framing)
    (drop len ahead)
head_told method upgrade closed given told ahead head framing len a has =
    behind_head method upgrade closed given told ahead head framing len
    (is_informational head.status)
    refl a
    has

-- ---- bodies

-- the bytes behind a final head hold those ahead at their end
rest_of_body : (given front rest : List ℕ) (begins : ℕ) → drop begins given ≡ front ++ rest
    → rest ≡ drop (begins + (length (drop begins given) - length rest)) given
rest_of_body given front rest begins split =
    let size = length-append front rest in
    let parts = ap (λ (xs : List ℕ). length xs) split in
    let here : length (drop begins given) - length rest ≡ length front = omega arith in
    let front_gone : drop (length front) (front ++ rest) ≡ rest =
    drop-append-le (length front) front rest (omega arith)
    ∙ ap (λ (xs : List ℕ). xs ++ rest) (drop_all (length front) front (omega arith)) in
    sym front_gone ∙ ap (drop (length front)) (sym split)
    ∙ drop-drop (length front) begins given
    ∙ ap (λ (k : ℕ). drop (begins + k) given) (sym here)

-- the body goes on
pub body_goes_on : (method : List ℕ) (upgrade : Bool) (given : List ℕ) (told : ToldResponse)
    (old new : OpenBody)
    (ahead rest : List ℕ)
    (bytes : List ℕ) (here : IsInBody method upgrade given told old ahead)
    → SoFar here.framing (drop (here.n + here.len) given) bytes new.reader rest
    → is_done new.reader ≡ false → new.keeps ≡ old.keeps
    → IsInBody method upgrade given (record told { body = bytes }) new rest
body_goes_on method upgrade given told old new ahead rest bytes here so_far goes_on kept = record {
  n = here.n;
  head = here.head;
  framing = here.framing;
  len = here.len;
  informs = here.informs;
  has = here.has;
  is_final = here.is_final;
  final = here.final;
  so_far = so_far;
  goes_on = goes_on;
  keeps = kept ∙ here.keeps;
}

-- the body ended with what was read of it
pub body_ended : (method : List ℕ) (upgrade closed : Bool) (given : List ℕ) (told : ToldResponse)
    (old : OpenBody)
    (ahead rest : List ℕ) (bytes : List ℕ) (new : OpenBody)
    (here : IsInBody method upgrade given told old ahead)
    → SoFar here.framing (drop (here.n + here.len) given) bytes new.reader rest
    → Body here.framing (drop (here.n + here.len) given)
    (ended_text bytes (length (drop (here.n + here.len) given) - length rest))
    → IsWhole method upgrade closed given (record told { body = bytes }) old.keeps rest
body_ended method upgrade closed given told old ahead rest bytes new here so_far ended_there =
    let begins = here.n + here.len in
    let now : ToldResponse = record told { body = bytes } in
    record {
      n = here.n;
      head = here.head;
      framing = here.framing;
      len = here.len;
      place = begins + (length (drop begins given) - length rest);
      informs = here.informs;
      has = here.has;
      final = here.final;
      whole = tells_final method upgrade closed given now here.n here.head here.framing here.len
          (ended_text bytes (length (drop begins given) - length rest)) here.informs here.has
          here.is_final here.final ended_there refl;
      rest = λ says. rest_of_body given so_far.consumed rest begins so_far.split;
      keeps = here.keeps;
    }

-- ---- more bytes

-- a final head ends within the bytes
final_within : (method : List ℕ) (upgrade : Bool) (given : List ℕ) (heads : List ResponseHead)
    (n : ℕ) (head : ResponseHead)
    (framing : Framing) (len : ℕ) → Informs method upgrade given heads n
    → HasResponse method upgrade (drop n given) head framing len
    → (4 ≤ len) × (n + len ≤ length given)
final_within method upgrade given heads n head framing len informs has =
    let ends = head_end-within (drop n given) len has.starts.ends in
    let inside = Informs-within method upgrade given heads n informs in
    let size = length-drop n given in
    (ends.0, omega (arith, ends.1, inside, size))

-- informational heads stay when more bytes come
awaits_more : (method : List ℕ) (upgrade : Bool) (given came : List ℕ) (told : ToldResponse)
    (ahead : List ℕ)
    → IsAwaiting method upgrade given told ahead
    → IsAwaiting method upgrade (given ++ came) told (ahead ++ came)
awaits_more method upgrade given came told ahead a = record {
  n = a.n;
  informs = Informs-append method upgrade given came told.informed a.n a.informs;
  rest = ap (λ (xs : List ℕ). xs ++ came) a.rest
      ∙ sym (drop-append-le a.n given came
      (Informs-within method upgrade given told.informed a.n a.informs));
  no_final = a.no_final;
  no_body = a.no_body;
}

-- so does a body
body_awaits_more : (method : List ℕ) (upgrade : Bool) (given came : List ℕ) (told : ToldResponse)
    (at : OpenBody)
    (ahead : List ℕ)
    → IsInBody method upgrade given told at ahead
    → IsInBody method upgrade (given ++ came) told at (ahead ++ came)
body_awaits_more method upgrade given came told at ahead here =
    let inside = Informs-within method upgrade given told.informed here.n here.informs in
    let within = final_within method upgrade given told.informed here.n here.head here.framing
    here.len
    here.informs here.has in
    let same : drop (here.n + here.len) (given ++ came) ≡ drop (here.n + here.len) given ++ came =
    drop-append-le (here.n + here.len) given came within.1 in
    record {
      n = here.n;
      head = here.head;
      framing = here.framing;
      len = here.len;
      informs = Informs-append method upgrade given came told.informed here.n here.informs;
      has = subst (λ (xs : List ℕ). HasResponse method upgrade xs here.head here.framing here.len)
          (sym (drop-append-le here.n given came inside))
          (HasResponse-append method upgrade (drop here.n given) came here.head here.framing
          here.len
          here.has);
      is_final = here.is_final;
      final = here.final;
      so_far = subst (λ (xs : List ℕ). SoFar here.framing xs told.body at.reader (ahead ++ came))
          (sym same)
          (SoFar-more here.framing (drop (here.n + here.len) given) told.body ahead came at.reader
          here.so_far);
      goes_on = here.goes_on;
      keeps = here.keeps;
    }

-- more bytes came behind those ahead, where nothing stood
pub came_more : (method : List ℕ) (upgrade closed : Bool) (given came : List ℕ)
    (told : ToldResponse)
    (at : ResponsePlace)
    (ahead : List ℕ) → OpenAt method upgrade given told at ahead
    → ReadAt method upgrade closed (given ++ came) told at (ahead ++ came)
came_more method upgrade closed given came told place.NoHead ahead still = (
  awaits_more method upgrade given came told ahead still.0,
  ap (λ (xs : List ℕ). xs ++ came)
      still.1,
)
came_more method upgrade closed given came told place.Informed ahead still = (
  awaits_more method upgrade given came told ahead still.0,
  omega (arith, still.1, length-append given came),
)
came_more method upgrade closed given came told (place.InBody at) ahead still =
    body_awaits_more method upgrade given came told at ahead still.0
came_more method upgrade closed given came told (place.Ended keeps) ahead still = absurd still

-- what stands open is read up to there
pub open_read : (method : List ℕ) (upgrade closed : Bool) (given : List ℕ) (told : ToldResponse)
    (at : ResponsePlace)
    (ahead : List ℕ) → OpenAt method upgrade given told at ahead
    → ReadAt method upgrade closed given told at ahead
open_read method upgrade closed given told place.NoHead ahead still = (still.0, still.1)
open_read method upgrade closed given told place.Informed ahead still = (still.0, still.1)
open_read method upgrade closed given told (place.InBody at) ahead still = still.0
open_read method upgrade closed given told (place.Ended keeps) ahead still = absurd still

-- and has not ended
pub open_not_over : (method : List ℕ) (upgrade : Bool) (given : List ℕ) (told : ToldResponse)
    (at : ResponsePlace)
    (ahead : List ℕ)
    → OpenAt method upgrade given told at ahead → is_over at ≡ false
open_not_over method upgrade given told place.NoHead ahead still = refl
open_not_over method upgrade given told place.Informed ahead still = refl
open_not_over method upgrade given told (place.InBody at) ahead still = refl
open_not_over method upgrade given told (place.Ended keeps) ahead still = absurd still

-- ---- where nothing stands

-- the mark of an open body, while the link has not ended
open_is_open : (framing : Framing) (begins all : ℕ)
    → mark_of framing begins all false body.BodyMark.still_open ≡ still_open
open_is_open framing.Empty begins all = refl
open_is_open (framing.Length n) begins all = refl
open_is_open framing.Chunked begins all = refl
open_is_open framing.UntilClose begins all = refl
open_is_open framing.Tunnel begins all = refl

-- the bytes so far leave the response open
pub open_tells : (method : List ℕ) (upgrade : Bool) (given : List ℕ) (told : ToldResponse)
    (at : ResponsePlace) (ahead : List ℕ)
    → OpenAt method upgrade given told at ahead
    → Tasks method upgrade given false (says told still_open)
open_tells method upgrade given told place.NoHead ahead still =
    tells_open method upgrade false given told ahead still.0 still.2
open_tells method upgrade given told place.Informed ahead still =
    tells_open method upgrade false given told ahead still.0 still.2
open_tells method upgrade given told (place.InBody at) ahead still =
    let here = still.0 in
    subst (λ (m : ResponseMark). Tasks method upgrade given false (says told m))
    (open_is_open here.framing (here.n + here.len) (length given))
    (tells_final method upgrade false given told here.n here.head here.framing here.len
    (open_text told.body) here.informs here.has here.is_final here.final still.1 refl)
open_tells method upgrade given told (place.Ended keeps) ahead still = absurd still

-- the mark of an open body where the link has ended
cut_mark : (framing : Framing) (begins all : ℕ) → may_end framing ≡ false
    → mark_of framing begins all true body.BodyMark.still_open ≡ cut_off
cut_mark framing.Empty begins all never = cc
cut_mark (framing.Length n) begins all never = refl
cut_mark framing.Chunked begins all never = refl
cut_mark framing.UntilClose begins all never = cc
cut_mark framing.Tunnel begins all never = cc

ended_mark : (framing : Framing) (begins all : ℕ) → may_end framing ≡ true
    → mark_of framing begins all true body.BodyMark.still_open ≡ ended all
ended_mark framing.Empty begins all may = refl
ended_mark (framing.Length n) begins all may = cc
ended_mark framing.Chunked begins all may = cc
ended_mark framing.UntilClose begins all may = refl
ended_mark framing.Tunnel begins all may = refl

-- a link that ended inside a body that says its end cut the response off
pub body_cut_off : (method : List ℕ) (upgrade : Bool) (given : List ℕ) (told : ToldResponse)
    (at : OpenBody) (ahead : List ℕ)
    (here : IsInBody method upgrade given told at ahead)
    → Body here.framing (drop (here.n + here.len) given) (open_text told.body)
    → may_end here.framing ≡ false → Tasks method upgrade given true (says told cut_off)
body_cut_off method upgrade given told at ahead here still never =
    subst (λ (m : ResponseMark). Tasks method upgrade given true (says told m))
    (cut_mark here.framing (here.n + here.len) (length given) never)
    (tells_final method upgrade true given told here.n here.head here.framing here.len
    (open_text told.body) here.informs here.has here.is_final here.final still refl)

-- a body that may end there but has not, does not say its end
no_end_said : (framing : Framing) (bytes got : List ℕ) → Body framing bytes (open_text got)
    → may_end framing ≡ true → says_end framing ≡ true → ⊥
no_end_said framing.Empty bytes got still may said =
    apart (ap (λ (t : BodyText). t.mark) still)
  where
    apart : body.BodyMark.still_open ≡ body.BodyMark.ended 0 → ⊥
    apart same = cc
no_end_said (framing.Length n) bytes got still may said = cc
no_end_said framing.Chunked bytes got still may said = cc
no_end_said framing.UntilClose bytes got still may said = cc
no_end_said framing.Tunnel bytes got still may said = cc

-- a body that lasts until the link ends has ended with it
pub body_ends_there : (method : List ℕ) (upgrade : Bool) (given : List ℕ) (told : ToldResponse)
    (at : OpenBody) (ahead : List ℕ)
    (here : IsInBody method upgrade given told at ahead)
    → Body here.framing (drop (here.n + here.len) given) (open_text told.body)
    → may_end here.framing ≡ true → IsWhole method upgrade true given told at.keeps ahead
body_ends_there method upgrade given told at ahead here still may = record {
  n = here.n;
  head = here.head;
  framing = here.framing;
  len = here.len;
  place = length given;
  informs = here.informs;
  has = here.has;
  final = here.final;
  whole = subst (λ (m : ResponseMark). Tasks method upgrade given true (says told m))
      (ended_mark here.framing (here.n + here.len) (length given) may)
      (tells_final method upgrade true given told here.n here.head here.framing here.len
      (open_text told.body) here.informs here.has here.is_final here.final still refl);
  rest = λ said.
      absurd (no_end_said here.framing (drop (here.n + here.len) given) told.body still may said);
  keeps = here.keeps;
}

-- some bytes came where a final head stands
pub body_has_come : (method : List ℕ) (upgrade : Bool) (given : List ℕ) (told : ToldResponse)
    (at : OpenBody) (ahead : List ℕ)
    → IsInBody method upgrade given told at ahead → 0 < length given
body_has_come method upgrade given told at ahead here =
    let within = final_within method upgrade given told.informed here.n here.head here.framing
    here.len
    here.informs here.has in
    omega (arith, within.0, within.1)

-- ---- what the reader of a body answers

-- a reader that is not behind its body
pub still_goes_on : (framing : Framing) (given said : List ℕ) (at : State) (ahead : List ℕ)
    (text : BodyText) → SoFar framing given said at ahead → Body framing given text
    → ((n : ℕ) → text.mark ≡ body.BodyMark.ended n → ⊥) → is_done at ≡ false
still_goes_on framing given said at ahead text so_far reads never =
    elim (cases_Bool (is_done at)) [
      | inl done ↦
          let there = SoFar-reads framing given said ahead at (ended_text [] 0) so_far
          (done_reads at ahead done) in
          absurd (never _
          (ap (λ (t : BodyText). t.mark) (Body-unique framing given text _ reads there)))
      | inr going ↦ going
    ]

-- an open text has not ended
pub open_never : (bytes : List ℕ) (n : ℕ) → (open_text bytes).mark ≡ body.BodyMark.ended n → ⊥
open_never bytes n same = cc

-- nor has a broken one
pub broken_never : (n : ℕ) → body.BodyMark.broken ≡ body.BodyMark.ended n → ⊥
broken_never n same = cc

-- a reader that stands in front of some bytes of a body is not behind it
pub run_goes_on : (at : State) (bytes : List ℕ) → 0 < length (run at bytes) → is_done at ≡ false
run_goes_on state.ChunkLine bytes some = refl
run_goes_on (state.Chunk left) bytes some = refl
run_goes_on state.ChunkEnd bytes some = refl
run_goes_on state.Trailer bytes some = refl
run_goes_on (state.Length zero) bytes some = absurd (omega arith)
run_goes_on (state.Length (suc left)) bytes some = grind (arith, nat_tests)
run_goes_on state.UntilClose bytes some = refl
run_goes_on state.Tunnel bytes some = refl
run_goes_on state.Done bytes some = absurd (omega arith)

-- the same of what was told, where an answer brought no byte
said_nothing : (told : ToldResponse) → told.body ++ [] ≡ told.body
said_nothing told = append-nil told.body

-- the body ended behind what was told
pub body_ended_here : (method : List ℕ) (upgrade closed : Bool) (given : List ℕ)
    (told : ToldResponse)
    (old : OpenBody) (ahead rest : List ℕ) (new : OpenBody)
    (here : IsInBody method upgrade given told old ahead)
    → SoFar here.framing (drop (here.n + here.len) given) (told.body ++ []) new.reader rest
    → Body here.framing (drop (here.n + here.len) given)
    (ended_text (told.body ++ []) (length (drop (here.n + here.len) given) - length rest))
    → IsWhole method upgrade closed given told old.keeps rest
body_ended_here method upgrade closed given told old ahead rest new here so_far ended_there =
    subst (λ (xs : List ℕ). IsWhole method upgrade closed given (record told { body = xs })
    old.keeps rest)
    (said_nothing told)
    (body_ended method upgrade closed given told old ahead rest (told.body ++ []) new here so_far
    ended_there)

-- the body goes on behind what was told
pub body_stays : (method : List ℕ) (upgrade : Bool) (given : List ℕ) (told : ToldResponse)
    (old new : OpenBody)
    (ahead rest : List ℕ)
    (here : IsInBody method upgrade given told old ahead)
    → SoFar here.framing (drop (here.n + here.len) given) (told.body ++ []) new.reader rest
    → is_done new.reader ≡ false → new.keeps ≡ old.keeps
    → IsInBody method upgrade given told new rest
body_stays method upgrade given told old new ahead rest here so_far going kept =
    body_goes_on method upgrade given told old new ahead rest told.body here
    (subst (λ (xs : List ℕ). SoFar here.framing (drop (here.n + here.len) given) xs new.reader rest)
    (said_nothing told) so_far) going kept

-- nothing stands ahead of a body
pub body_open : (method : List ℕ) (upgrade : Bool) (given : List ℕ) (told : ToldResponse)
    (old new : OpenBody)
    (ahead rest : List ℕ)
    (here : IsInBody method upgrade given told old ahead)
    → SoFar here.framing (drop (here.n + here.len) given) (told.body ++ []) new.reader rest
    → Body here.framing (drop (here.n + here.len) given) (open_text (told.body ++ []))
    → new.keeps ≡ old.keeps → OpenAt method upgrade given told (place.InBody new) rest
unfolding body_stays body_goes_on
body_open method upgrade given told old new ahead rest here so_far still kept = (
  body_stays method upgrade given told old new ahead rest here so_far
      (still_goes_on here.framing (drop (here.n + here.len) given) (told.body ++ []) new.reader rest
      (open_text (told.body ++ [])) so_far still (open_never (told.body ++ []))) kept,
  subst (λ (xs : List ℕ). Body here.framing (drop (here.n + here.len) given) (open_text xs))
      (said_nothing told) still,
)

-- a broken body
pub record IsBroken (method : List ℕ) (upgrade closed : Bool) (given : List ℕ) (told : ToldResponse)
    (new : OpenBody) (rest : List ℕ) : Type 0 where
  pub says_so : Tasks method upgrade given closed (says told broken)
  pub breaks : BreaksFor method upgrade given told BadFraming
  pub read : IsInBody method upgrade given told new rest

pub body_broken : (method : List ℕ) (upgrade closed : Bool) (given : List ℕ) (told : ToldResponse)
    (old new : OpenBody) (ahead rest : List ℕ) (here : IsInBody method upgrade given told old ahead)
    → SoFar here.framing (drop (here.n + here.len) given) (told.body ++ []) new.reader rest
    → Body here.framing (drop (here.n + here.len) given)
    (record { bytes = told.body ++ []; mark = body.BodyMark.broken })
    → new.keeps ≡ old.keeps → IsBroken method upgrade closed given told new rest
body_broken method upgrade closed given told old new ahead rest here so_far reads kept = record {
  says_so = tells_final method upgrade closed given told here.n here.head here.framing here.len
      (record { bytes = told.body ++ []; mark = body.BodyMark.broken }) here.informs here.has
      here.is_final here.final reads (said_nothing told);
  breaks = reading.BreaksFor.in_body here.head here.framing (here.n + here.len)
      (record {
        place = here.n;
        own = here.len;
        informs = here.informs;
        has = here.has;
        final = here.is_final;
        ends = refl;
      }) here.final
      (subst (λ (xs : List ℕ). Body here.framing (drop (here.n + here.len) given)
      (record { bytes = xs; mark = body.BodyMark.broken })) (said_nothing told) reads) refl;
  read = body_stays method upgrade given told old new ahead rest here so_far
      (still_goes_on here.framing (drop (here.n + here.len) given) (told.body ++ []) new.reader rest
      (record { bytes = told.body ++ []; mark = body.BodyMark.broken }) so_far reads broken_never)
      kept;
}

-- ---- the end of the link

-- a reader that is not behind its body may end there by its framing alone
may_end_there : (may done : Bool) → done ≡ false → (may || done) ≡ true → may ≡ true
may_end_there true done going may = refl
may_end_there false done going may = cc

may_not_end : (may done : Bool) → (may || done) ≡ false → may ≡ false
may_not_end true done never = cc
may_not_end false done never = refl

-- the body has ended with the link
pub ends_there : (method : List ℕ) (upgrade : Bool) (given : List ℕ) (told : ToldResponse)
    (at : OpenBody) (ahead : List ℕ)
    (still : OpenAt method upgrade given told (place.InBody at) ahead)
    → (may_end still.0.framing || is_done at.reader) ≡ true
    → IsWhole method upgrade true given told at.keeps ahead
ends_there method upgrade given told at ahead still may =
    body_ends_there method upgrade given told at ahead still.0 still.1
    (may_end_there (may_end still.0.framing) (is_done at.reader) still.0.goes_on may)

-- the link ended inside the body
pub cut_there : (method : List ℕ) (upgrade : Bool) (given : List ℕ) (told : ToldResponse)
    (old new : OpenBody) (ahead : List ℕ)
    (still : OpenAt method upgrade given told (place.InBody old) ahead)
    → (may_end still.0.framing || is_done old.reader) ≡ false → new.reader ≡ old.reader
    → FindsAtEnd method upgrade given told (place.InBody (record old { reader = new.reader })) ahead
    (found.Failed (fail.Error (cut_off_error given)))
cut_there method upgrade given told old new ahead still never same = (
  refl,
  body_cut_off method upgrade given told old ahead still.0 still.1
      (may_not_end (may_end still.0.framing) (is_done old.reader) never),
  subst (λ (r : State). IsInBody method upgrade given told (record old { reader = r }) ahead)
      (sym same)
      still.0,
)

-- the link ended before the final head
pub head_cut : (method : List ℕ) (upgrade : Bool) (given : List ℕ) (told : ToldResponse)
    (at : ResponsePlace) (ahead : List ℕ)
    → IsAwaitingHead at → OpenAt method upgrade given told at ahead
    → FindsAtEnd method upgrade given told at ahead (found.Failed
    (fail.Error (cut_off_error given)))
head_cut method upgrade given told place.NoHead ahead is still =
    (refl, tells_open method upgrade true given told ahead still.0 still.2, (still.0, still.1))
head_cut method upgrade given told place.Informed ahead is still =
    (refl, tells_open method upgrade true given told ahead still.0 still.2, (still.0, still.1))
head_cut method upgrade given told (place.InBody at) ahead is still = absurd is
head_cut method upgrade given told (place.Ended keeps) ahead is still = absurd is

-- some bytes came where a head stands
pub has_come : (given : List ℕ) → 0 < length given → false ≡ (length given == 0)
has_come given some = grind (arith, nat_tests)

-- ---- heads that are refused

-- what was refused in front of the final head
tells_refused : (method : List ℕ) (upgrade closed : Bool) (given : List ℕ) (told : ToldResponse)
    (ahead : List ℕ)
    (why : Context) → IsAwaiting method upgrade given told ahead
    → IsRefusedResponse method upgrade ahead why
    → Tasks method upgrade given closed (says told broken)
tells_refused method upgrade closed given told ahead why a refused =
    let here = tasks.Tasks.head_refused told.informed a.n why a.informs
    (subst (λ (xs : List ℕ). IsRefusedResponse method upgrade xs why) a.rest refused) in
    subst (λ (xs : List ℕ). Tasks method upgrade given closed
    (record { informed = told.informed; final = told.final; body = xs; mark = broken }))
    (sym a.no_body)
    (subst (λ (f : Option ResponseHead). Tasks method upgrade given closed
    (record { informed = told.informed; final = f; body = []; mark = broken })) (sym a.no_final)
    here)

-- the reason for which it was
breaks_refused : (method : List ℕ) (upgrade : Bool) (given : List ℕ) (told : ToldResponse)
    (ahead : List ℕ) (why : Context)
    → IsAwaiting method upgrade given told ahead → IsRefusedResponse method upgrade ahead why
    → BreaksFor method upgrade given told why
breaks_refused method upgrade given told ahead why a refused =
    reading.BreaksFor.in_head
    (record {
      place = a.n;
      informs = a.informs;
      refused = subst (λ (xs : List ℕ). IsRefusedResponse method upgrade xs why) a.rest refused;
    }) a.no_final a.no_body

-- a verdict that no head stands and none will
pub head_refused : (method : List ℕ) (upgrade closed : Bool) (given : List ℕ) (told : ToldResponse)
    (at : ResponsePlace)
    (ahead : List ℕ) (why : Fail) → IsAwaitingHead at
    → JudgesResponse method upgrade ahead (Err why)
    → ReadAt method upgrade closed given told at ahead
    → Finds method upgrade closed given told at at ahead (found.Failed why)
head_refused method upgrade closed given told at ahead fail.OutOfMemory is verdict read = read
head_refused method upgrade closed given told at ahead (fail.Error error) is verdict read = (
  verdict.0,
  verdict.1,
  tells_refused method upgrade closed given told ahead verdict.0
      (awaiting method upgrade closed given told at ahead is read) verdict.2,
  breaks_refused method upgrade given told ahead verdict.0
      (awaiting method upgrade closed given told at ahead is read) verdict.2,
  read,
)

-- a verdict that a head may still come
pub head_open : (method : List ℕ) (upgrade closed : Bool) (given : List ℕ) (told : ToldResponse)
    (at : ResponsePlace)
    (ahead : List ℕ) → IsAwaitingHead at → IsOpen ahead
    → ReadAt method upgrade closed given told at ahead → OpenAt method upgrade given told at ahead
head_open method upgrade closed given told place.NoHead ahead is still read =
    (read.0, read.1, still)
head_open method upgrade closed given told place.Informed ahead is still read =
    (read.0, read.1, still)
head_open method upgrade closed given told (place.InBody at) ahead is still read = absurd is
head_open method upgrade closed given told (place.Ended keeps) ahead is still read = absurd is

-- ---- at first

-- no byte came, and nothing was told
pub read_nothing : (method : List ℕ) (upgrade closed : Bool) (new : ResponseReading)
    → new.place ≡ place.NoHead → new.ahead ≡ [] → ReadSoFar method upgrade closed [] untold new
read_nothing method upgrade closed new at ahead = record {
  at = subst (λ (p : ResponsePlace). ReadAt method upgrade closed [] untold p new.ahead) (sym at)
      (subst (λ (xs : List ℕ). ReadAt method upgrade closed [] untold place.NoHead xs) (sym ahead) (
        record {
          n = 0;
          informs = tasks.Informs.none_came [];
          rest = refl;
          no_final = refl;
          no_body = refl;
        },
        refl,
      ));
}
