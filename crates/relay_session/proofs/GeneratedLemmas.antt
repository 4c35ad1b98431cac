-- The answers that the relay makes itself are never refused, and their text is known.
use Rattle.std.proofs.Common.{◌≡◌, ℕ, ◌-◌, ◌^◌, ◌<◌, Bool, true, false, List, [], ◌∷◌, length, refl, ◌∙◌, ap, arith, append-nil, append_assoc, Option, Some, None, if◌then◌else◌, codes, option_map, unwrap_or}
use Rattle.std.proofs.lemmas.Bool.{eq-eqb, le-leb, lt-ltb}
use Rattle.std.proofs.lemmas.Fmt.{decimal_is_IsNumeral, decimal_digit}
use Rattle.std.proofs.lemmas.Str.Parse.{digit_from_value}
use Rattle.std.specs.Char.{is_ascii_digit}
use Rattle.std.specs.Fmt.{decimal}
use Rattle.std.specs.List.{list_all}
use Rattle.std.specs.Str.Parse.{AllDigits}
use Rattle.relay_tasks.specs.declared.error.Error.{Error}
use Rattle.relay_h1.specs.declared.framing.Framing.{Framing}
use Rattle.relay_h1.specs.declared.framing.Framing.TheVariants as framing
use Rattle.relay_h1.specs.Framing.{is_length, is_http_10, opens_tunnel, has_no_body, response_framing}
use Rattle.relay_h1.specs.ClientHead.{is_informational, is_sent_to, client_framing, client_head, framing_for, head_for}
use Rattle.relay_h1.specs.BodyWire.{after_piece}
use Rattle.relay_h1.specs.Wire.{response_text, generated, status_line, crlf}
use Rattle.relay_session.specs.Asked.{method_of}
use Rattle.relay_session.specs.declared.task_text.Request.{Request}
use Rattle.relay_session.specs.Generated.{generated_head}
use Rattle.relay_session.specs.declared.task_text.Place.{Place}
use Rattle.relay_session.specs.declared.task_text.Place.TheVariants as place
use Rattle.relay_session.specs.TaskWire.{Sent, ends_short, informed, framing_of, shown, piece_sent, piece_refusal, piece_refusal_at, framed_head_sent, framed_head_refusal, head_sent, head_refusal}

-- ---- the length that a number writes

digits_are_ascii : (ds : List ℕ) → AllDigits 10 ds → list_all is_ascii_digit ds ≡ true
digits_are_ascii [] all = refl
digits_are_ascii (d ∷ ds) all =
    let within = digit_from_value d all.0 in
    rw (le-leb 48 d within.0, le-leb d 57 within.1) (digits_are_ascii ds all.1)

-- a number below 2^64 is written as a length
decimal_is_length : (n : ℕ) → n < 2 ^ 64 → is_length (decimal n) ≡ true
decimal_is_length n fits =
    let numeral = decimal_is_IsNumeral n fits in
    rw (
      lt-ltb 0 (length (decimal n)) numeral.0.0,
      digits_are_ascii (decimal n) numeral.0.1,
      numeral.1,
    ) (lt-ltb n (2 ^ 64) fits)

-- ---- the framing of an answer

-- the framings that an answer before so many bytes has
pub data IsAnswerFraming (size : ℕ) : Framing → Type 0 where
  of_tunnel : IsAnswerFraming size framing.Tunnel
  of_empty : IsAnswerFraming size framing.Empty
  of_length : IsAnswerFraming size (framing.Length size)

-- how an answer before so many bytes is framed, by its status
abbrev answer_framing : Bool → Bool → ℕ → Framing
answer_framing tunnel bodiless size =
    if tunnel then framing.Tunnel else (if bodiless then framing.Empty else framing.Length size)

answer_framed : (method : List ℕ) (asked : Bool) (code size : ℕ) → size < 2 ^ 64
    → response_framing method asked (generated_head code size)
    ≡ Some (answer_framing (opens_tunnel asked code) (has_no_body method code) size)
unfolding response_framing generated_head
answer_framed method asked code size fits =
    let sized = decimal_is_length size fits in
    let value = (decimal_is_IsNumeral size fits).1 in
    rw (sized, value) (by_case (opens_tunnel asked code) (has_no_body method code))
  where
    by_case : (tunnel bodiless : Bool)
        → (if tunnel then Some framing.Tunnel
        else (if bodiless then Some framing.Empty else Some (framing.Length size)))
        ≡ Some (answer_framing tunnel bodiless size)
    by_case true bodiless = refl
    by_case false true = refl
    by_case false false = refl

-- such a framing is one that an answer has, also towards a client of HTTP/1.0, and its head stays
is_answer_framing : (tunnel bodiless : Bool) (size : ℕ)
    → IsAnswerFraming size (answer_framing tunnel bodiless size)
is_answer_framing true bodiless size = IsAnswerFraming.of_tunnel
is_answer_framing false true size = IsAnswerFraming.of_empty
is_answer_framing false false size = IsAnswerFraming.of_length

-- an answer towards its client: its framing, and its head as it is
pub record IsFramedAnswer (request : Request) (code size : ℕ) : Type 0 where
  pub is_framed : Framing
  pub kind : IsAnswerFraming size is_framed
  pub framed : client_framing (method_of request.method) request.version request.asked
      (generated_head code size) ≡ Some is_framed
  pub head : client_head (method_of request.method) request.version request.asked
      (generated_head code size)
      ≡ generated_head code size

no_chunks : (size : ℕ) → IsAnswerFraming size framing.Chunked → ⊥
no_chunks size kind = elim kind [ ]

no_close : (size : ℕ) → IsAnswerFraming size framing.UntilClose → ⊥
no_close size kind = elim kind [ ]

-- the head for a client with any of these framings
answer_head : (old : Bool) (code size : ℕ) (given : Framing) → IsAnswerFraming size given
    → head_for old given (generated_head code size) ≡ generated_head code size
unfolding generated_head
answer_head true code size framing.Tunnel kind = refl
answer_head false code size framing.Tunnel kind = refl
answer_head true code size framing.Empty kind = refl
answer_head false code size framing.Empty kind = refl
answer_head true code size (framing.Length n) kind = refl
answer_head false code size (framing.Length n) kind = refl
answer_head old code size framing.Chunked kind = absurd (no_chunks size kind)
answer_head old code size framing.UntilClose kind = absurd (no_close size kind)

answer_for : (old : Bool) (size : ℕ) (given : Framing) → IsAnswerFraming size given
    → framing_for old given ≡ given
answer_for old size framing.Tunnel kind = refl
answer_for old size framing.Empty kind = refl
answer_for old size (framing.Length n) kind = refl
answer_for old size framing.Chunked kind = absurd (no_chunks size kind)
answer_for old size framing.UntilClose kind = absurd (no_close size kind)

pub is_framed_answer : (request : Request) (code size : ℕ) → size < 2 ^ 64
    → IsFramedAnswer request code size
unfolding client_framing client_head
is_framed_answer request code size fits =
    let tunnel = opens_tunnel request.asked code in
    let bodiless = has_no_body (method_of request.method) code in
    let given = answer_framing tunnel bodiless size in
    let kind = is_answer_framing tunnel bodiless size in
    let old = is_http_10 request.version in
    let is = answer_framed (method_of request.method) request.asked code size fits in
    record {
      is_framed = given;
      kind = kind;
      framed =
          ap (λ (f : Option Framing). option_map (framing_for old) f) is
          ∙ ap Some (answer_for old size given kind);
      head =
          ap
          (λ (f : Option Framing).
          unwrap_or (option_map (λ g. head_for old g (generated_head code size)) f)
          (generated_head code size)) is
          ∙ answer_head old code size given kind;
    }

-- ---- what an answer is sent as

-- the length of an answer is the one that it says
abbrev SaysLength : ℕ → Framing → Type 0
SaysLength size framing.Empty = Unit {0}
SaysLength size (framing.Length n) = n ≡ size
SaysLength size framing.Chunked = Unit {0}
SaysLength size framing.UntilClose = Unit {0}
SaysLength size framing.Tunnel = Unit {0}

says_length : (size : ℕ) (given : Framing) → IsAnswerFraming size given → SaysLength size given
says_length size _ IsAnswerFraming.of_tunnel = tt
says_length size _ IsAnswerFraming.of_empty = tt
says_length size _ IsAnswerFraming.of_length = refl

-- the text of the head of an answer without a body
generated_text : (code : ℕ) → response_text (generated_head code 0) ≡ generated code
unfolding generated_head
generated_text code =
    let digit : decimal 0 ≡ codes "0" = decimal_digit 0 (omega arith) in
    rw digit (append_assoc (status_line code) _ crlf)

-- an answer without a body: an empty piece ends it, and gives nothing
answer_ends : (given : Framing) → IsAnswerFraming 0 given
    → (piece_refusal given [] true ≡ None) × ((piece_sent given [] true).text ≡ [])
answer_ends framing.Tunnel kind = (refl, refl)
answer_ends framing.Empty kind = (refl, refl)
answer_ends (framing.Length n) kind =
    rw (says_length 0 (framing.Length n) kind) (refl, refl)
answer_ends framing.Chunked kind = absurd (no_chunks 0 kind)
answer_ends framing.UntilClose kind = absurd (no_close 0 kind)

-- the text of the head that was chosen, where its client is sent it
chosen_text : (informs told : Bool) (text want : List ℕ) (other : Sent) → told ≡ true
    → text ≡ want → other.text ≡ want
    → (if informs
    then (record { text = if told then text else []; counted = 0; closes = false; place = place.NoHead })
    else other).text ≡ want
chosen_text true true text want other holds is same = is
chosen_text true false text want other holds is same = cc
chosen_text false told text want other holds is same = same

-- an informational head is not refused, nor is a final one that is not
chosen_passes : (informs : Bool) (why : Option Error) → why ≡ None
    → (if informs then None else why) ≡ None
chosen_passes true why passes = refl
chosen_passes false why passes = passes

-- the answer without a body: it is not refused, and its text is known where the client is sent its
-- head
pub answer_sent : (request : Request) (code : ℕ)
    → (head_refusal request (generated_head code 0) true ≡ None)
    × (is_sent_to request.version code ≡ true
    → (head_sent request (generated_head code 0) true).text ≡ generated code)
unfolding generated_head
answer_sent request code =
    let head = generated_head code 0 in
    let a = is_framed_answer request code 0 (omega arith) in
    let end = answer_ends a.is_framed a.kind in
    let final = framed_head_sent (shown request head) true (framing_of request head) in
    let passes : framed_head_refusal true (framing_of request head) ≡ None =
    ap (framed_head_refusal true) a.framed ∙ end.0 in
    let text : final.text ≡ generated code =
    rw (a.framed, a.head, end.1, append-nil (response_text head)) (generated_text code) in (
      chosen_passes (is_informational code) (framed_head_refusal true (framing_of request head))
          passes,
      λ told.
          chosen_text (is_informational code) (is_sent_to request.version code)
          (response_text head) (generated code) final told (generated_text code) text,
    )

not_short : (short : Bool) (error : Error) → short ≡ false
    → (if short then Some error else None) ≡ None
not_short true error fits = cc
not_short false error fits = refl

-- the body of an answer has the length that its head says
answer_body_ends : (size : ℕ) (given : Framing) (body : List ℕ) → IsAnswerFraming size given
    → length body ≡ size → piece_refusal (after_piece given []) body true ≡ None
answer_body_ends size framing.Tunnel body kind sized = refl
answer_body_ends size framing.Empty body kind sized = refl
answer_body_ends size (framing.Length n) body kind sized =
    let said = says_length size (framing.Length n) kind in
    let none : n - 0 - length body ≡ 0 = omega arith in
    not_short _ ends_short (rw (eq-eqb (n - 0 - length body) 0 none) refl)
answer_body_ends size framing.Chunked body kind sized = absurd (no_chunks size kind)
answer_body_ends size framing.UntilClose body kind sized = absurd (no_close size kind)

-- the body, where the head only informs or is final
body_behind : (informs : Bool) (told final : Sent) (rest : Framing) (body : List ℕ)
    → told.place ≡ place.NoHead → final.place ≡ place.Body rest
    → piece_refusal rest body true ≡ None
    → piece_refusal_at (if informs then told else final).place body true ≡ None
body_behind true told final rest body at behind passes =
    ap (λ (p : Place). piece_refusal_at p body true) at
body_behind false told final rest body at behind passes =
    ap (λ (p : Place). piece_refusal_at p body true) behind ∙ passes

-- an answer with a body: its head is not refused, nor is its body behind it
pub body_answer_sent : (request : Request) (code : ℕ) (body : List ℕ) → length body < 2 ^ 64
    → (head_refusal request (generated_head code (length body)) false ≡ None)
    × (piece_refusal_at (head_sent request (generated_head code (length body)) false).place body
    true ≡ None)
body_answer_sent request code body fits =
    let head = generated_head code (length body) in
    let a = is_framed_answer request code (length body) fits in
    let final = framed_head_sent (shown request head) false (framing_of request head) in
    let behind : final.place ≡ place.Body (after_piece a.is_framed []) =
    ap (λ (f : Option Framing). (framed_head_sent (shown request head) false f).place) a.framed in
    let passes : framed_head_refusal false (framing_of request head) ≡ None =
    ap (framed_head_refusal false) a.framed in (
      chosen_passes (is_informational head.status)
          (framed_head_refusal false (framing_of request head)) passes,
      body_behind (is_informational head.status) (informed request head) final
          (after_piece a.is_framed []) body refl behind
          (answer_body_ends (length body) a.is_framed body a.kind refl),
    )
