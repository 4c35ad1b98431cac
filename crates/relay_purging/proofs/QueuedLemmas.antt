-- The answer of a purge is never refused: only a write that failed, or memory, keeps it back.
use Rattle.std.proofs.Common.{◌≡◌, ℕ, Bool, true, false, List, [], ◌∷◌, ◌++◌, Option, Some, None, refl, sym, ap, subst, ◌∙◌, if◌then◌else◌, not, map, option_map, codes}
use Rattle.std.specs.Fmt.{digits}
use Rattle.http_header.specs.FieldValue.{FieldValue}
use Rattle.http_header.specs.HeaderMap.{get_all}
use Rattle.relay_tasks.specs.Head.{ResponseHead}
use Rattle.relay_tasks.specs.declared.error.Error.{Error}
use Rattle.relay_tasks.specs.declared.error.Fail.{Fail}
use Rattle.relay_tasks.specs.declared.error.Fail.TheVariants as fail
use Rattle.relay_tasks.specs.declared.task.HttpTask.{HttpTask}
use Rattle.relay_tasks.specs.declared.task.HttpTask.TheVariants as task
use Rattle.relay_h1.specs.BodyWire.{after_piece, is_short}
use Rattle.relay_h1.specs.ClientHead.{client_framing, framing_for, is_informational}
use Rattle.relay_h1.specs.Framing.{coding_said, has_no_body, is_http_10, length_said, opens_tunnel, response_framing, response_table}
use Rattle.relay_h1.specs.declared.framing.Framing.{Framing}
use Rattle.relay_h1.specs.declared.framing.Framing.TheVariants as framing
use Rattle.relay_session.specs.Asked.{method_of}
use Rattle.relay_session.specs.Generated.{IsFaultOrMemory, generated_head}
use Rattle.relay_session.specs.Response.{AreQueued, FailsBatch, StopsAt, StopsBatch, StopsOn, error_of, has_head}
use Rattle.relay_session.specs.TaskWire.{batch_refusal, framed_head_refusal, framing_of, head_refusal, refusal, unframed}
use Rattle.relay_session.specs.declared.task_text.Place.{Place}
use Rattle.relay_session.specs.declared.task_text.Place.TheVariants as place
use Rattle.relay_session.specs.declared.task_text.Request.{Request}
use Rattle.relay_session.specs.declared.writing.Outgoing.{Outgoing}
use Rattle.relay_session.specs.declared.writing.Outgoing.TheVariants as outgoing
use Rattle.relay_session.specs.declared.writing.Writing.{Writing}
use Rattle.relay_session.proofs.AnswerLemmas.{place_before}
use Rattle.relay_modules.specs.Seen.{CannotQueue, OrMemory}
use Rattle.relay_modules.specs.declared.seen.Seen.{Seen}
use Rattle.relay_hooks.specs.Laws.{IsBodiless}
use Rattle.relay_hooks.specs.Session.{is_answered}
use Rattle.relay_phases.proofs.TurnLemmas.{goes_on_with_nothing}
use Rattle.relay_purging.specs.Queued.{CannotAnswer, QueuesBehind, lone_head}
use Rattle.relay_purging.specs.declared.turn.End.TheVariants as end

-- ---- how the head is framed

-- the fields say that the length is 0
table_is_0 : (values codings : List FieldValue)
    → map (λ value. value.bytes) values ≡ codes "0" ∷ [] → codings ≡ []
    → response_table (length_said values) (coding_said codings) ≡ Some (framing.Length 0)
table_is_0 [] codings is none = cc
table_is_0 (value ∷ []) codings is none =
    let zero : value.bytes ≡ codes "0" = cc in
    rw (zero, none) refl
table_is_0 (value ∷ other ∷ values) codings is none = cc

-- how a head is framed whose length is 0, by its status
abbrev lone_framing : Bool → Bool → Framing
lone_framing tunnel bodiless =
    if tunnel then framing.Tunnel else (if bodiless then framing.Empty else framing.Length 0)

lone_framed : (method : List ℕ) (asked : Bool) (head : ResponseHead) → IsBodiless head
    → response_framing method asked head
    ≡ Some (lone_framing (opens_tunnel asked head.status) (has_no_body method head.status))
unfolding response_framing
lone_framed method asked head bodiless =
    let table = table_is_0 (get_all head.fields (codes "content-length"))
    (get_all head.fields (codes "transfer-encoding")) bodiless.length_0 bodiless.uncoded in
    rw table (by_case (opens_tunnel asked head.status) (has_no_body method head.status))
  where
    by_case : (tunnel bodiless : Bool)
        → (if tunnel then Some framing.Tunnel
        else (if bodiless then Some framing.Empty else Some (framing.Length 0)))
        ≡ Some (lone_framing tunnel bodiless)
    by_case true bodiless = refl
    by_case false true = refl
    by_case false false = refl

-- a client of HTTP/1.0 gets it framed the same
lone_for : (old tunnel bodiless : Bool)
    → framing_for old (lone_framing tunnel bodiless) ≡ lone_framing tunnel bodiless
lone_for old true bodiless = refl
lone_for old false true = refl
lone_for old false false = refl

-- no byte of its body is missing
lone_whole : (tunnel bodiless : Bool)
    → is_short (after_piece (lone_framing tunnel bodiless) []) ≡ false
lone_whole true bodiless = refl
lone_whole false true = refl
lone_whole false false = refl

-- a head behind which no body comes, towards its client: its framing, of which nothing is missing
pub record IsWholeHead (request : Request) (head : ResponseHead) : Type 0 where
  pub is_framed : Framing
  pub framed : framing_of request head ≡ Some is_framed
  pub whole : is_short (after_piece is_framed []) ≡ false

pub is_whole_head : (request : Request) (head : ResponseHead) → IsBodiless head
    → IsWholeHead request head
unfolding client_framing
is_whole_head request head bodiless =
    let tunnel = opens_tunnel request.asked head.status in
    let empty = has_no_body (method_of request.method) head.status in
    let old = is_http_10 request.version in
    record {
      is_framed = lone_framing tunnel empty;
      framed =
          ap (λ (f : Option Framing). option_map (framing_for old) f)
          (lone_framed (method_of request.method) request.asked head bodiless)
          ∙ ap Some (lone_for old tunnel empty);
      whole = lone_whole tunnel empty;
    }

-- ---- it is not refused

-- where its framing is known and whole, the head is not
framed_passes : (given : Option Framing) (is : Framing) → given ≡ Some is
    → is_short (after_piece is []) ≡ false → framed_head_refusal true given ≡ None
framed_passes given is known whole = rw (known, whole) refl

head_passes : (request : Request) (head : ResponseHead) → IsBodiless head
    → head_refusal request head true ≡ None
head_passes request head bodiless =
    let whole = is_whole_head request head bodiless in
    rw bodiless.is_final
    (framed_passes (framing_of request head) whole.is_framed whole.framed whole.whole)

-- nor is the batch of it alone
batch_passes : (request : Request) (head : ResponseHead) → IsBodiless head
    → (if not (is_informational head.status) then unframed (framing_of request head) else None)
    ≡ None
batch_passes request head bodiless =
    let whole = is_whole_head request head bodiless in
    rw (bodiless.is_final, whole.framed) refl

-- ---- where it could not be queued

-- of one task, none is before the one at which a call stopped
none_before : (one at : HttpTask) (before behind : List HttpTask)
    → one ∷ [] ≡ before ++ at ∷ behind → before ≡ []
none_before one at [] behind is = refl
none_before one at (b ∷ []) behind is = cc
none_before one at (b ∷ c ∷ before) behind is = cc

is_one : (one at : HttpTask) (before behind : List HttpTask)
    → one ∷ [] ≡ before ++ at ∷ behind → at ≡ one
is_one one at [] behind is = cc
is_one one at (b ∷ []) behind is = cc
is_one one at (b ∷ c ∷ before) behind is = cc

module _ (head : ResponseHead) (old new : Writing) (bodiless : IsBodiless head)
    (open_to : old.place ≡ place.NoHead) where
  -- a call stopped before its only task: memory was wanted
  stops_at : (at : HttpTask) (mid : Writing) (given : Fail) → at ≡ task.Header head true
      → AreQueued old [] mid → StopsOn mid at new given → CannotAnswer given old new
  stops_at at mid fail.OutOfMemory is none same =
      subst (λ (w : Writing). CannotAnswer fail.OutOfMemory old w) (sym same)
      (record {
        goes_on = none.goes_on;
        answers_to = ap (λ (w : Writing). w.request) none.grows.grown;
        stays_open = λ was_open.
            (none.grows.queue ++ [], ap (λ (w : Writing). w.output) none.grows.grown);
        no_head =
            ap (λ (w : Writing). has_head w.place) none.grows.grown
            ∙ ap has_head open_to;
        fault = tt;
      })
  stops_at at mid (fail.Error error) is none refused =
      let stands : mid.place ≡ place.NoHead =
      ap (λ (w : Writing). w.place) none.grows.grown ∙ open_to in
      let passes : refusal mid.request mid.place at ≡ None =
      ap (λ (t : HttpTask). refusal mid.request mid.place t) is
      ∙ (ap (λ (p : Place). refusal mid.request p (task.Header head true)) stands
      ∙ head_passes mid.request head bodiless) in
      let both : None ≡ Some error = sym passes ∙ refused.refused in
      cc

  stops : (given : Fail) → StopsAt old (lone_head head) new given → CannotAnswer given old new
  stops given at =
      let one : HttpTask = task.Header head true in
      stops_at at.at at.mid given (is_one one at.at at.before at.behind at.are_tasks)
      (subst (λ (l : List HttpTask). AreQueued old l at.mid)
      (none_before one at.at at.before at.behind at.are_tasks) at.queued)
      at.stops

  -- by whether a write had failed
  fails_batch : (output : Outgoing) (given : Fail) → old.output ≡ output
      → FailsBatch output old (lone_head head) new given → CannotAnswer given old new
  fails_batch (outgoing.Open queue) given is fails =
      stops given
      (subst (λ (o : Option Error). StopsBatch o old (lone_head head) new given)
      (ap (λ (p : Place). batch_refusal old.request p (lone_head head)) open_to
      ∙ batch_passes old.request head bodiless) fails)
  fails_batch (outgoing.Broken fault) given is (kept, same) =
      subst (λ (w : Writing). CannotAnswer given old w) (sym same)
      (record {
        goes_on = goes_on_with_nothing old;
        answers_to = refl;
        stays_open = λ was_open. was_open;
        no_head = ap has_head open_to;
        fault =
            subst (λ (g : Fail). OrMemory (IsFaultOrMemory old.output) g) (sym kept)
            (subst (λ (o : Outgoing). IsFaultOrMemory o (fail.Error (error_of fault))) (sym is)
            refl);
      })

-- so a batch of that head alone that could not be queued left the session as it says
pub cannot_behind : (head : ResponseHead) (old new : Seen) (given : Fail) → IsBodiless head
    → is_answered old ≡ false → CannotQueue (lone_head head) old new given
    → QueuesBehind head old new (end.Unwritten given)
cannot_behind head old new given bodiless open_to cannot =
    record {
      queued =
          fails_batch head old.downstream.writing new.downstream.writing bodiless
          (place_before old.downstream.writing.place open_to) old.downstream.writing.output given
          refl cannot.fails;
      rest = cannot.rest;
    }

-- the head of the relay's own 500 has no body behind it
pub refusal_bodiless : IsBodiless (generated_head 500 0)
unfolding generated_head digits
refusal_bodiless = record { is_final = refl; length_0 = refl; uncoded = refl }
