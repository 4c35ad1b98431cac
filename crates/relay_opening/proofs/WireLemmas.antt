-- The text of what was queued, and where it leaves the response.
use Rattle.std.proofs.Common.{◌≡◌, ℕ, ◌<◌, Bool, true, false, List, [], ◌∷◌, ◌++◌, length, append-nil, append_assoc, Option, Some, None, inl, inr, refl, sym, ap, subst, ◌∙◌, true≢false, arith, is_some, not, ◌&&◌}
use Rattle.std.proofs.lemmas.Bool.{cases_Bool}
use Rattle.std.proofs.lemmas.List.{append_cancel_left}
use Rattle.relay_tasks.specs.Head.{ResponseHead}
use Rattle.relay_tasks.specs.declared.task.HttpTask.{HttpTask}
use Rattle.relay_tasks.specs.declared.task.HttpTask.TheVariants as task
use Rattle.relay_h1.specs.BodyWire.{after_piece, is_short}
use Rattle.relay_h1.specs.ClientHead.{is_informational}
use Rattle.relay_h1.specs.Framing.{is_http_10}
use Rattle.relay_h1.specs.Wire.{generated, response_text}
use Rattle.relay_h1.specs.declared.framing.Framing.{Framing}
use Rattle.relay_session.specs.Generated.{generated_head}
use Rattle.relay_session.specs.Response.{GoesOnWith, Holds, HoldsOn, IsText, has_head}
use Rattle.relay_session.specs.TaskWire.{Sent, framed_head_refusal, framed_head_sent, framing_of, head_sent, joined, piece_sent, shown, task_sent, wire}
use Rattle.relay_session.specs.declared.task_text.Place.{Place}
use Rattle.relay_session.specs.declared.task_text.Place.TheVariants as place
use Rattle.relay_session.specs.declared.task_text.Request.{Request}
use Rattle.relay_session.specs.declared.writing.Outgoing.{Outgoing}
use Rattle.relay_session.specs.declared.writing.Outgoing.TheVariants as outgoing
use Rattle.relay_session.specs.declared.writing.Writing.{Writing}
use Rattle.relay_session.proofs.GeneratedLemmas.{answer_sent}
use Rattle.relay_session.proofs.WireSteps.{wire-append}
use Rattle.relay_opening.specs.Told.{Waits}

-- ---- texts that are not empty

-- a list whose front is not empty is not, nor is one whose rest is not
some_front : (a b : List ℕ) → 0 < length a → 0 < length (a ++ b)
some_front [] b some = some_back_of_nothing some
  where
    some_back_of_nothing : {X : Type 0} → 0 < 0 → X
    some_back_of_nothing none = absurd (omega arith)
some_front (x ∷ a) b some = omega arith

some_back : (a b : List ℕ) → 0 < length b → 0 < length (a ++ b)
some_back [] b some = some
some_back (x ∷ a) b some = omega arith

-- a head has text
some_head : (head : ResponseHead) → 0 < length (response_text head)
some_head head = omega arith

-- a final head leaves the response before one, or has text
framed_text : (head : ResponseHead) (ends : Bool) (framing : Option Framing)
    → has_head (framed_head_sent head ends framing).place ≡ true
    → 0 < length (framed_head_sent head ends framing).text
framed_text head ends None has = absurd (true≢false (sym has))
framed_text head ends (Some framing) has =
    some_front (response_text head) (piece_sent framing [] ends).text (some_head head)

-- where no final head was sent, a task that leads behind one has text
task_text : (request : Request) (one : HttpTask)
    → has_head (task_sent request place.NoHead one).place ≡ true
    → 0 < length (task_sent request place.NoHead one).text
task_text request (task.Header head ends) has =
    elim (cases_Bool (is_informational head.status)) [
      | inl informs ↦ let wrong = rw informs at has in absurd (true≢false (sym wrong))
      | inr final ↦ rw final
          (framed_text (shown request head) ends (framing_of request head) (rw final at has))
    ]
task_text request (task.Body piece ends) has = absurd (true≢false (sym has))
task_text request (task.UpgradedBody piece ends) has = absurd (true≢false (sym has))
task_text request (task.Trailer fields) has = absurd (true≢false (sym has))
task_text request task.Done has = absurd (true≢false (sym has))
task_text request (task.Failed error) has = absurd (true≢false (sym has))

-- no final head stands
pub no_head_is : (at : Place) → has_head at ≡ false → at ≡ place.NoHead
no_head_is place.NoHead none = refl
no_head_is (place.Body rest) none = absurd (true≢false none)
no_head_is place.Done none = absurd (true≢false none)

-- tasks that lead behind a final head have text
pub some_text : (request : Request) (tasks : List HttpTask)
    → has_head (wire request place.NoHead tasks).place ≡ true
    → 0 < length (wire request place.NoHead tasks).text
some_text request [] has = absurd (true≢false (sym has))
some_text request (one ∷ tasks) has =
    let sent = task_sent request place.NoHead one in
    elim (cases_Bool (has_head sent.place)) [
      | inl ends ↦
          some_front sent.text (wire request sent.place tasks).text (task_text request one ends)
      | inr before ↦
          let at = no_head_is sent.place before in
          some_back sent.text (wire request sent.place tasks).text
          (subst (λ (p : Place). 0 < length (wire request p tasks).text) (sym at)
          (some_text request tasks
          (subst (λ (p : Place). has_head (wire request p tasks).place ≡ true) at has)))
    ]

-- ---- where an answer without a body leads

-- an end that is not refused is the end
pub framed_ends : (head : ResponseHead) (framing : Option Framing)
    → framed_head_refusal true framing ≡ None
    → (framed_head_sent head true framing).place ≡ place.Done
framed_ends head None passes = absurd (true≢false (ap is_some passes))
framed_ends head (Some framing) passes =
    elim (cases_Bool (is_short (after_piece framing []))) [
      | inl short ↦
          let wrong = rw short at passes in absurd (true≢false (ap is_some wrong))
      | inr fits ↦ rw fits refl
    ]

-- the relay's 502 ends the response
pub refusal_ends : (request : Request)
    → (wire request place.NoHead (task.Header (generated_head 502 0) true ∷ [])).place
    ≡ place.Done
unfolding generated_head
refusal_ends request =
    framed_ends (shown request (generated_head 502 0)) (framing_of request (generated_head 502 0))
    (answer_sent request 502).0

-- a final head is sent to each client
is_sent : (old : Bool) → not (old && false) ≡ true
is_sent true = refl
is_sent false = refl

-- and its text is the generated one
pub refusal_text : (request : Request)
    → (wire request place.NoHead (task.Header (generated_head 502 0) true ∷ [])).text
    ≡ generated 502
unfolding generated_head
refusal_text request =
    append-nil (head_sent request (generated_head 502 0) true).text
    ∙ (answer_sent request 502).1 (is_sent (is_http_10 request.version))

-- ---- the text behind what was queued before

-- where the response still answers that request, and no write has failed, what waits is the text of
-- the tasks, behind what waited
pub waits_behind : (old new : Writing) (more tasks : List HttpTask) (taken queue waiting : List ℕ)
    → Holds old tasks taken → GoesOnWith old new more → new.request ≡ old.request
    → old.output ≡ outgoing.Open queue → new.output ≡ outgoing.Open waiting
    → Waits old new more queue waiting
waits_behind old new more tasks taken queue waiting holds goes same was_open is_open =
    let before : IsText old tasks (taken ++ queue) =
    subst (λ (o : Outgoing). HoldsOn old o tasks taken) was_open holds in
    let behind : IsText new (tasks ++ more) (taken ++ waiting) =
    subst (λ (o : Outgoing). HoldsOn new o (tasks ++ more) taken) is_open
    (goes tasks taken holds) in
    let first = wire old.request place.NoHead tasks in
    let added = wire old.request first.place more in
    let stood : first.place ≡ old.place = ap (λ (s : Sent). s.place) before.wire.is in
    let all : wire new.request place.NoHead (tasks ++ more) ≡ joined first added =
    ap (λ (r : Request). wire r place.NoHead (tasks ++ more)) same
    ∙ wire-append old.request place.NoHead tasks more in
    let text : taken ++ waiting ≡ taken ++ (queue ++ added.text) =
    sym (ap (λ (s : Sent). s.text) behind.wire.is) ∙ (ap (λ (s : Sent). s.text) all
    ∙ (ap (λ (s : Sent). s.text ++ added.text) before.wire.is
    ∙ append_assoc taken queue added.text)) in
    let place_is : new.place ≡ added.place =
    sym (ap (λ (s : Sent). s.place) behind.wire.is) ∙ ap (λ (s : Sent). s.place) all in
    let waits : waiting ≡ queue ++ (wire old.request old.place more).text =
    append_cancel_left taken waiting (queue ++ added.text) text
    ∙ ap (λ (p : Place). queue ++ (wire old.request p more).text) stood in
    let leads : new.place ≡ (wire old.request old.place more).place =
    place_is ∙ ap (λ (p : Place). (wire old.request p more).place) stood in
    record {
      text = waits;
      place = leads;
      some = λ none has.
          let at = no_head_is old.place none in
          subst (λ (l : List ℕ). 0 < length l) (sym waits)
          (some_back queue (wire old.request old.place more).text
          (subst (λ (p : Place). 0 < length (wire old.request p more).text) (sym at)
          (some_text old.request more
          (subst (λ (p : Place). has_head (wire old.request p more).place ≡ true) at
          (subst (λ (p : Place). has_head p ≡ true) leads has)))));
    }
