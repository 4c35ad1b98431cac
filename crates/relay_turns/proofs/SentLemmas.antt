-- What a head that is sent keeps of the client's, and how it is made.
--
--   sends_agrees    from Sends, where the client's head is framed: both halves of an exchange agree
--   readies_as, settles_as    what the calls that make it answer
--   client_is       whether the client's body has bytes, by the framing of its head
use Rattle.std.proofs.Common.{◌≡◌, ◌≢◌, ◌⊎◌, Bool, true, false, not, List, [], ◌∷◌, Option, Some, None, refl, sym, ap, ◌∙◌, inl, inr, subst, arith}
use Rattle.std.proofs.lemmas.Bool.{cases_Bool}
use Rattle.std.specs.Prelude.{IfErr, IfOk, IsSome, Result, Ok, Err}
use Rattle.http.specs.declared.version.TheConstants.Version.{HTTP_11}
use Rattle.http_header.specs.FieldValue.{FieldValue}
use Rattle.http_header.specs.HeaderMap.{get_all}
use Rattle.relay_tasks.specs.Head.{RequestHead}
use Rattle.relay_tasks.specs.declared.Error.{Error}
use Rattle.relay_tasks.specs.declared.log.LogEntry.{LogEntry}
use Rattle.relay_authority.specs.Framing.{content_length, transfer_encoding}
use Rattle.relay_authority.specs.Kept.{KeepsFields, SaysFraming}
use Rattle.relay_tasks.specs.declared.Fail.{Fail}
use Rattle.relay_tasks.specs.declared.Fail.TheVariants as fail
use Rattle.relay_authority.specs.Stage.{FailsToMake, Makes}
use Rattle.relay_authority.specs.Table.{Outcome}
use Rattle.relay_authority.specs.declared.upstream.Client.{Client}
use Rattle.relay_authority.specs.Upstream.{ReadyHead, SentHead}
use Rattle.relay_authority.specs.declared.upstream.Upstream.TheVariants as over
use Rattle.relay_authority.proofs.KeptLemmas.{readied, sent_kept}
use Rattle.relay_h1.specs.Framing.{request_framing, request_table, length_said, coding_said, is_chunked, is_http_10, is_length}
use Rattle.relay_h1.specs.declared.framing.Framing.{Framing}
use Rattle.relay_session.specs.Asked.{asks_of}
use Rattle.relay_session.specs.Front.{ends_with_head}
use Rattle.relay_session.specs.Reading.{head_of}
use Rattle.relay_session.specs.declared.session.HttpSession.{HttpSession}
use Rattle.relay_attempt.specs.Agrees.{Agrees}
use Rattle.relay_opening.specs.Told.{head_behind}
use Rattle.relay_request.specs.Preparing.{Readies, Settles}
use Rattle.relay_request.specs.Sent.{Sends, SettlesFramed, asked_in, client_in, client_of, has_body, unframed}

-- ---- framing

-- a request that is framed in HTTP/1.0 is framed so in HTTP/1.1
table_still : (old : Bool) (ls cs : List FieldValue) (framing : Framing)
    → request_table old (length_said ls) (coding_said cs) ≡ Some framing
    → request_table false (length_said ls) (coding_said cs) ≡ Some framing
table_still false ls cs framing is = is
table_still true [] [] framing is = is
table_still true (l ∷ []) [] framing is =
    elim (cases_Bool (is_length l.bytes)) [
      | inl good ↦ rw good (let told = rw good at is in told)
      | inr bad ↦ absurd (let told : None ≡ Some framing = rw bad at is in cc)
    ]
table_still true (l ∷ m ∷ ls) [] framing is = absurd (let told : None ≡ Some framing = is in cc)
table_still true [] (c ∷ []) framing is =
    elim (cases_Bool (is_chunked c.bytes)) [
      | inl chunked ↦ absurd (let told : None ≡ Some framing = rw chunked at is in cc)
      | inr other ↦ absurd (let told : None ≡ Some framing = rw other at is in cc)
    ]
table_still true (l ∷ []) (c ∷ []) framing is =
    elim (cases_Bool (is_length l.bytes)) [
      | inl good ↦ elim (cases_Bool (is_chunked c.bytes)) [
        | inl chunked ↦ absurd (let told : None ≡ Some framing = rw (good, chunked) at is in cc)
        | inr other ↦ absurd (let told : None ≡ Some framing = rw (good, other) at is in cc)
      ]
      | inr bad ↦ elim (cases_Bool (is_chunked c.bytes)) [
        | inl chunked ↦ absurd (let told : None ≡ Some framing = rw (bad, chunked) at is in cc)
        | inr other ↦ absurd (let told : None ≡ Some framing = rw (bad, other) at is in cc)
      ]
    ]
table_still true (l ∷ m ∷ ls) (c ∷ []) framing is =
    elim (cases_Bool (is_chunked c.bytes)) [
      | inl chunked ↦ absurd (let told : None ≡ Some framing = rw chunked at is in cc)
      | inr other ↦ absurd (let told : None ≡ Some framing = rw other at is in cc)
    ]
table_still true [] (c ∷ d ∷ cs) framing is = absurd (let told : None ≡ Some framing = is in cc)
table_still true (l ∷ []) (c ∷ d ∷ cs) framing is =
    elim (cases_Bool (is_length l.bytes)) [
      | inl good ↦ absurd (let told : None ≡ Some framing = rw good at is in cc)
      | inr bad ↦ absurd (let told : None ≡ Some framing = rw bad at is in cc)
    ]
table_still true (l ∷ m ∷ ls) (c ∷ d ∷ cs) framing is =
    absurd (let told : None ≡ Some framing = is in cc)

-- a head of HTTP/1.1 with the same framing fields is framed alike
framing_still : (head sent : RequestHead) (framing : Framing)
    → sent.version ≡ HTTP_11
    → get_all sent.fields content_length ≡ get_all head.fields content_length
    → get_all sent.fields transfer_encoding ≡ get_all head.fields transfer_encoding
    → request_framing head ≡ Some framing → request_framing sent ≡ Some framing
unfolding request_framing
framing_still head sent framing version lengths codings is =
    rw (version, lengths, codings)
    (table_still (is_http_10 head.version) (get_all head.fields content_length)
    (get_all head.fields transfer_encoding) framing is)

-- a body that is not empty is framed by a field
body_framed : (lengths codings : List FieldValue) (old : Bool)
    → has_body (request_table old (length_said lengths) (coding_said codings)) ≡ true
    → (lengths ≢ []) ⊎ (codings ≢ [])
body_framed (l ∷ lengths) codings old some = inl (λ none. cc)
body_framed [] (c ∷ codings) old some = inr (λ none. cc)
body_framed [] [] old some = absurd (let clash : false ≡ true = some in cc)

-- so a head that frames such a body says its framing
says_framing : (head : RequestHead) → has_body (request_framing head) ≡ true → SaysFraming head
unfolding request_framing
says_framing head some =
    body_framed (get_all head.fields content_length) (get_all head.fields transfer_encoding)
    (is_http_10 head.version) some

-- ---- what is sent

-- a client of HTTP/1, whose body has bytes or none
abbrev client_with : Bool → Client
client_with b = record { custom = false; has_body = b }

-- a head that is made of the client's asks as it does, and frames its body alike
made_agrees : (head ready asked sent : RequestHead) (framing : Framing)
    → request_framing head ≡ Some framing → ReadyHead over.H1 false head (Ok ready)
    → SentHead over.H1 (client_of head) asked ready (Ok sent) → Agrees head sent
made_agrees head ready asked sent framing framed readies sends =
    let is : ready ≡ record head { version = HTTP_11 } = readied head ready readies in
    let keeps : KeepsFields (record head { version = HTTP_11 }) sent =
    subst (λ (h : RequestHead). KeepsFields h sent) is
    (sent_kept (client_of head) asked ready sent (λ some. rw is (says_framing head some)) sends) in
    record {
      method = ap asks_of keeps.method;
      framing = framing_still head sent framing keeps.version
          (keeps.fields content_length (λ other. cc))
          (keeps.fields transfer_encoding (λ other. cc)) framed
          ∙ sym framed;
    }

-- so the head that is sent of a client's agrees with it where hooks left both as they were: the
-- client's up to the filter, and the filter what it was given
pub sends_agrees : (called : List LogEntry) (head sent : RequestHead) (framing : Framing)
    → (sends : Sends called head sent) → head_behind head sends.filters.before ≡ head
    → sends.filtered ≡ sends.filters.ready → request_framing head ≡ Some framing
    → Agrees head sent
sends_agrees called head sent framing sends same filtered framed =
    made_agrees head sends.filters.ready (asked_in sends.filters) sent framing framed
    (subst (λ (h : RequestHead). ReadyHead over.H1 false h (Ok sends.filters.ready)) same
    sends.filters.readies)
    (subst (λ (h : RequestHead). SentHead over.H1 (client_of head) (asked_in sends.filters) h
    (Ok sent)) filtered sends.settles.0)

-- making a client's head ready refuses none
pub never_unready : (head : RequestHead) (error : Error)
    → ReadyHead over.H1 false head (Err error) → ⊥
never_unready head error (why, left, is, inl spoke) =
    absurd (let clash : false ≡ true = spoke.0.0 in cc)
never_unready head error (why, left, is, inr (other, leaves)) =
    absurd (let clash : Some why ≡ None = ap (λ (o : Outcome). o.refusal) leaves in cc)

-- ---- what a call makes

-- a session has one head
one_head : (given own : RequestHead) (session : HttpSession)
    → head_of session.reading ≡ Some given → head_of session.reading ≡ Some own → given ≡ own
one_head given own session is is_own = grind (arith, is, is_own)

-- a copy of the session's head that was made ready, or refused, is that of the session
pub readies_as : (session : HttpSession) (own copy : RequestHead)
    (answer : Result RequestHead Fail) → head_of session.reading ≡ Some own → copy ≡ own
    → Makes (ReadyHead over.H1 false copy) answer → Makes (Readies session) answer
readies_as session own copy (Ok ready) is same made = λ head heads.
    subst (λ (h : RequestHead). ReadyHead over.H1 false h (Ok ready))
    (same ∙ one_head own head session is heads) made
readies_as session own copy (Err fail.OutOfMemory) is same made = tt
readies_as session own copy (Err (fail.Error e)) is same made = λ head heads.
    subst (λ (h : RequestHead). ReadyHead over.H1 false h (Err e))
    (same ∙ one_head own head session is heads) made

-- what is made of the filtered head beside the session's own, by its framing
pub settles_as : (session : HttpSession) (own filtered sent : RequestHead)
    (answer : Result RequestHead Fail) → head_of session.reading ≡ Some own
    → SentHead over.H1 (client_in session) own filtered (Ok sent)
    → IfOk answer (λ head. (head ≡ sent) × IsSome (request_framing sent))
    → IfErr answer (λ why. (why ≡ fail.Error unframed) × (request_framing sent ≡ None))
    → Makes (Settles session filtered) answer
settles_as session own filtered sent (Ok head) is made ok err = λ asked asks.
    subst (λ (h : RequestHead). SettlesFramed (client_in session) asked filtered (Ok h))
    (sym ok.0) (
      subst (λ (h : RequestHead). SentHead over.H1 (client_in session) h filtered (Ok sent))
          (one_head own asked session is asks) made,
      some_framing (request_framing sent) ok.1,
    )
  where
    some_framing : (found : Option Framing) → IsSome found
        → (framing : Framing) × (found ≡ Some framing)
    some_framing None some = cc
    some_framing (Some framing) some = (framing, refl)
settles_as session own filtered sent (Err why) is made ok err =
    subst (λ (f : Fail). FailsToMake (Settles session filtered) f) (sym err.0)
    (λ asked asks. inr (
      record {
        sent = sent;
        settles = subst
            (λ (h : RequestHead). SentHead over.H1 (client_in session) h filtered (Ok sent))
            (one_head own asked session is asks) made;
        no_framing = err.1;
      },
      refl,
    ))

-- one that was not made as it is sent
pub unsettled_as : (session : HttpSession) (own filtered : RequestHead) (failure : Fail)
    → head_of session.reading ≡ Some own
    → FailsToMake (SentHead over.H1 (client_in session) own filtered) failure
    → FailsToMake (Settles session filtered) failure
unsettled_as session own filtered fail.OutOfMemory is made = tt
unsettled_as session own filtered (fail.Error e) is made = λ asked asks.
    inl (subst (λ (h : RequestHead). SentHead over.H1 (client_in session) h filtered (Err e))
    (one_head own asked session is asks) made)

-- ---- the client's body

-- whether a body has bytes is said by the framing of its head
pub client_is : (head : RequestHead) (framing : Framing) (empty : Bool)
    → request_framing head ≡ Some framing → empty ≡ ends_with_head framing
    → record { custom = false; has_body = not empty } ≡ client_of head
client_is head framing empty framed is =
    ap (λ (b : Bool). client_with (not b)) is
    ∙ sym (ap (λ (f : Option Framing). client_with (has_body f)) framed)
