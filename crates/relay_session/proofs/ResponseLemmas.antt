-- How the response of a session goes on with its calls.
use Rattle.std.proofs.Common.{◌≡◌, ℕ, ◌+◌, ◌≤◌, true, false, ◌||◌, List, [], ◌∷◌, ◌++◌, length, min, refl, sym, ◌∙◌, ap, subst, arith, append-nil, append_assoc, Option, Some, None, Result, Ok, Err, OnOk, IfErr, inl, inr}
use Rattle.std.proofs.lemmas.Bool.{cases_Bool}
use Rattle.std.proofs.Math.Bool.{or-false, or_assoc}
use Rattle.std.proofs.Math.Seq.{take-nil}
use Rattle.relay_tasks.specs.Head.{ResponseHead}
use Rattle.relay_tasks.specs.declared.error.Error.{Error}
use Rattle.relay_tasks.specs.declared.error.Fail.{Fail}
use Rattle.relay_tasks.specs.declared.error.Fail.TheVariants as fail
use Rattle.relay_tasks.specs.declared.task.HttpTask.{HttpTask}
use Rattle.relay_tasks.specs.declared.task.HttpTask.TheVariants as task
use Rattle.relay_links.specs.Count.{last_count}
use Rattle.relay_h1.specs.declared.framing.Framing.{Framing}
use Rattle.relay_h1.specs.declared.framing.Framing.TheVariants as framing
use Rattle.relay_h1.specs.BodyWire.{is_short, after_piece, body_part}
use Rattle.relay_h1.specs.ClientHead.{is_informational}
use Rattle.relay_session.specs.declared.task_text.Place.{Place}
use Rattle.relay_session.specs.declared.task_text.Place.TheVariants as place
use Rattle.relay_session.specs.declared.task_text.Request.{Request}
use Rattle.relay_session.specs.declared.writing.Outgoing.{Outgoing}
use Rattle.relay_session.specs.declared.writing.Outgoing.TheVariants as outgoing
use Rattle.relay_session.specs.declared.writing.Writing.{Writing}
use Rattle.relay_session.specs.TaskWire.{Sent, nothing_at, joined, framing_of, shown, framed_head_sent, framed_head_refusal, piece_at, piece_refusal_at, head_at, head_refusal_at, task_sent, refusal, wire}
use Rattle.relay_session.specs.TaskSteps.{IsWire}
use Rattle.relay_session.specs.Response.{IsText, Holds, HoldsOn, GoesOnWith, Grows, IsQueued, AreQueued, IsOpen, Takes, passed, IsFailure, given_of, StopsOn, FailsOn, StopsAt}
use Rattle.relay_session.proofs.WireSteps.{GoesOnAt, IsWire-push, wire-push, first_refusal-push, after_nothing, text_nothing}

-- a count that stands still at its last value, counted on
min-min : (a b last : ℕ) → min (min a last + b) last ≡ min (a + b) last
min-min a b last = omega arith

-- the text of the tasks so far, with one task more
text_more : (old : Writing) (queue : List ℕ) (added : HttpTask)
    (tasks : List HttpTask) (taken : List ℕ)
    → GoesOnAt old.request old.place added
    → IsText old tasks (taken ++ queue)
    → let more = task_sent old.request old.place added in
    IsText (record old {
      place = more.place;
      output = outgoing.Open (queue ++ more.text);
      body_bytes = min (old.body_bytes + more.counted) last_count;
      closes = old.closes || more.closes;
    }) (tasks ++ added ∷ []) (taken ++ (queue ++ more.text))
text_more old queue added tasks taken goes t =
    let more = task_sent old.request old.place added in
    let sent : Sent =
    record {
      text = taken ++ queue;
      counted = t.counted;
      closes = old.closes;
      place = old.place;
    } in
    record {
      counted = t.counted + more.counted;
      wire =
          subst
          (λ (l : List ℕ). IsWire old.request (tasks ++ added ∷ [])
          (record {
            text = l;
            counted = t.counted + more.counted;
            closes = old.closes || more.closes;
            place = more.place;
          }))
          (append_assoc taken queue more.text)
          (IsWire-push old.request tasks sent added t.wire goes);
      counts =
          ap (λ (n : ℕ). min (n + more.counted) last_count) t.counts
          ∙ min-min t.counted more.counted last_count;
    }

-- a call that queued what a task is sent as goes on with it
goes_on_with : (old new : Writing) (added : HttpTask)
    → Grows (task_sent old.request old.place added) old new
    → GoesOnAt old.request old.place added
    → GoesOnWith old new (added ∷ [])
goes_on_with old new added g goes tasks taken holds =
    let held : IsText old tasks (taken ++ g.queue) =
    subst (λ (o : Outgoing). HoldsOn old o tasks taken) g.was_open holds in
    subst (λ (n : Writing). Holds n (tasks ++ added ∷ []) taken) (sym g.grown)
    (text_more old g.queue added tasks taken goes held)

-- ---- one task, by the answer

-- a call that queued something, by its refusal
pub takes_in : (output : Outgoing) (queue : List ℕ) (sent : Sent) (why told : Option Error)
    (goes : Type 0) (old new : Writing)
    → output ≡ outgoing.Open queue → Grows sent old new → told ≡ why → goes
    → Takes output sent why goes old new (passed told)
takes_in output queue sent why told goes old new is_open grows is does =
    subst (λ (o : Outgoing). Takes o sent why goes old new (passed told)) (sym is_open)
    (by_told told is)
  where
    by_told : (t : Option Error) → t ≡ why
        → Takes (outgoing.Open queue) sent why goes old new (passed t)
    by_told None same = record { grows = grows; is_refused = sym same; goes_on = does }
    by_told (Some error) same = record { grows = grows; is_refused = sym same; goes_on = does }

-- the task was queued, where the call is Ok
pub takes_queued : (output : Outgoing) (old new : Writing) (added : HttpTask)
    (result : Result Unit Fail)
    → Takes output (task_sent old.request old.place added) (refusal old.request old.place added)
    (GoesOnAt old.request old.place added) old new result
    → OnOk result (IsQueued old added new)
takes_queued output old new added (Ok done) t =
    record {
      passes = t.is_refused;
      grows = t.grows;
      goes_on = goes_on_with old new added t.grows t.goes_on;
    }
takes_queued output old new added (Err why) t = tt

-- a task that goes on with the body is no failure
given_is : (old : Writing) (added : HttpTask) → GoesOnAt old.request old.place added
    → given_of added ≡ added ∷ []
given_is old (task.Header head ends) goes = refl
given_is old (task.Body piece ends) goes = refl
given_is old (task.UpgradedBody piece ends) goes = refl
given_is old (task.Trailer fields) goes = refl
given_is old task.Done goes = refl
given_is old (task.Failed error) goes = absurd goes

-- else it failed
pub takes_failed : (output : Outgoing) (old new : Writing) (added : HttpTask)
    (result : Result Unit Fail)
    → Takes output (task_sent old.request old.place added) (refusal old.request old.place added)
    (GoesOnAt old.request old.place added) old new result
    → IfErr result (FailsOn output old added new)
takes_failed output old new added (Ok done) t = tt
takes_failed (outgoing.Open queue) old new added (Err fail.OutOfMemory) t = t
takes_failed (outgoing.Open queue) old new added (Err (fail.Error error)) t =
    record {
      refused = t.is_refused;
      grows = t.grows;
      goes_on = rw (given_is old added t.goes_on) (goes_on_with old new added t.grows t.goes_on);
    }
takes_failed (outgoing.Broken fault) old new added (Err why) t = t

-- by the refusal alone
pub takes_failure : (output : Outgoing) (sent : Sent) (why : Option Error) (goes : Type 0)
    (old new : Writing) (result : Result Unit Fail)
    → Takes output sent why goes old new result → IfErr result (IsFailure output why)
takes_failure output sent why goes old new (Ok done) t = tt
takes_failure (outgoing.Open queue) sent why goes old new (Err fail.OutOfMemory) t = tt
takes_failure (outgoing.Open queue) sent why goes old new (Err (fail.Error error)) t =
    t.is_refused
takes_failure (outgoing.Broken fault) sent why goes old new (Err given) t = t.0

-- what gives nothing changes nothing
unchanged : (old new : Writing) → old.body_bytes ≤ last_count
    → Grows (nothing_at old.place) old new → new ≡ old
unchanged old new fits g =
    let bytes : min (old.body_bytes + 0) last_count ≡ old.body_bytes = omega arith in
    g.grown ∙ rw (append-nil g.queue, bytes, or-false old.closes, ← g.was_open) refl

-- a call that is refused only where it gives nothing changes nothing then
pub takes_kept : (output : Outgoing) (sent : Sent) (why : Option Error) (goes : Type 0)
    (old new : Writing) (result : Result Unit Fail) → old.body_bytes ≤ last_count
    → ((e : Error) → why ≡ Some e → sent ≡ nothing_at old.place)
    → Takes output sent why goes old new result → IfErr result (λ given. new ≡ old)
takes_kept output sent why goes old new (Ok done) fits bare t = tt
takes_kept (outgoing.Open queue) sent why goes old new (Err fail.OutOfMemory) fits bare t = t
takes_kept (outgoing.Open queue) sent why goes old new (Err (fail.Error error)) fits bare t =
    unchanged old new fits
    (subst (λ (s : Sent). Grows s old new) (bare error t.is_refused) t.grows)
takes_kept (outgoing.Broken fault) sent why goes old new (Err given) fits bare t = t.1

-- a final head that is refused and asks for no end gives nothing
bare_final : (head : ResponseHead) (framing : Option Framing) (e : Error)
    → framed_head_refusal false framing ≡ Some e
    → framed_head_sent head false framing ≡ nothing_at place.NoHead
bare_final head None e is = refl
bare_final head (Some framing) e is = absurd (cc)

-- a head that is refused and asks for no end gives nothing
pub bare_head : (request : Request) (at : Place) (head : ResponseHead) (e : Error)
    → head_refusal_at request at head false ≡ Some e
    → head_at request at head false ≡ nothing_at at
bare_head request place.NoHead head e is =
    elim (cases_Bool (is_informational head.status)) [
      | inl informs ↦ let wrong = rw informs at is in absurd (cc)
      | inr final ↦ rw final
          (bare_final (shown request head) (framing_of request head) e (rw final at is))
    ]
bare_head request (place.Body rest) head e is = absurd (cc)
bare_head request place.Done head e is = absurd (cc)

-- an empty piece counts nothing
part_nothing : (rest : Framing) → length (body_part rest []) ≡ 0
part_nothing framing.Empty = refl
part_nothing (framing.Length left) = ap (λ (l : List ℕ). length l) (take-nil left)
part_nothing framing.Chunked = refl
part_nothing framing.UntilClose = refl
part_nothing framing.Tunnel = refl

-- an end that is refused gives nothing
pub bare_end : (at : Place) (e : Error) → piece_refusal_at at [] true ≡ Some e
    → piece_at at [] true ≡ nothing_at at
bare_end place.NoHead e is = refl
bare_end (place.Body rest) e is =
    elim (cases_Bool (is_short (after_piece rest []))) [
      | inl short ↦ rw (short, text_nothing rest, part_nothing rest, after_nothing rest) refl
      | inr fits ↦ let wrong = rw fits at is in absurd (cc)
    ]
bare_end place.Done e is = refl

-- ---- a failed task

-- nothing sent, nothing changed
pub grows_nothing : (old : Writing) (queue : List ℕ) → old.output ≡ outgoing.Open queue
    → old.body_bytes ≤ last_count → Grows (nothing_at old.place) old old
grows_nothing old queue is_open fits =
    let bytes : min (old.body_bytes + 0) last_count ≡ old.body_bytes = omega arith in
    record {
      queue = queue;
      was_open = is_open;
      grown = rw (append-nil queue, bytes, or-false old.closes, ← is_open) refl;
    }

-- no task goes on
goes_on_with_nothing : (old : Writing) → GoesOnWith old old []
goes_on_with_nothing old tasks taken holds = rw (append-nil tasks) holds

-- a failed task is refused with its error
failed_open : (old : Writing) (queue : List ℕ) (error : Error) (given : Fail)
    → old.body_bytes ≤ last_count → old.output ≡ outgoing.Open queue
    → IsFailure (outgoing.Open queue) (Some error) given
    → StopsOn old (task.Failed error) old given
failed_open old queue error fail.OutOfMemory fits is_open failure = refl
failed_open old queue error (fail.Error e) fits is_open failure =
    record {
      refused = failure;
      grows = grows_nothing old queue is_open fits;
      goes_on = goes_on_with_nothing old;
    }

pub failed_task : (old : Writing) (output : Outgoing) (error : Error) (given : Fail)
    → old.body_bytes ≤ last_count → old.output ≡ output
    → IsFailure output (Some error) given → FailsOn output old (task.Failed error) old given
failed_task old (outgoing.Open queue) error given fits is_open failure =
    failed_open old queue error given fits is_open failure
failed_task old (outgoing.Broken fault) error given fits is failure = (failure, refl)

-- ---- several tasks

-- no task: nothing has changed
pub queued_none : (old : Writing) → IsOpen old.output → old.body_bytes ≤ last_count
    → AreQueued old [] old
queued_none old is_open fits =
    record {
      passes = refl;
      grows = grows_nothing old is_open.0 is_open.1 fits;
      goes_on = goes_on_with_nothing old;
    }

-- the queue that a task found is the one that the tasks before it left
found_queue : (queue more found : List ℕ)
    → outgoing.Open (queue ++ more) ≡ outgoing.Open found → queue ++ more ≡ found
found_queue queue more found same = cc

-- what grew by one thing and then by another
grows_more : (old middle new : Writing) (first next : Sent) → Grows first old middle
    → Grows next middle new → Grows (joined first next) old new
grows_more old middle new first next g h =
    let found =
    found_queue g.queue first.text h.queue
    (subst (λ (m : Writing). m.output ≡ outgoing.Open h.queue) g.grown h.was_open) in
    let bytes : min (min (old.body_bytes + first.counted) last_count + next.counted) last_count
    ≡ min (old.body_bytes + (first.counted + next.counted)) last_count = omega arith in
    let step : new ≡ record old {
      place = next.place;
      output = outgoing.Open (h.queue ++ next.text);
      body_bytes =
          min (min (old.body_bytes + first.counted) last_count + next.counted) last_count;
      closes = (old.closes || first.closes) || next.closes;
    } =
    h.grown
    ∙ ap
    (λ (m : Writing). record m {
      place = next.place;
      output = outgoing.Open (h.queue ++ next.text);
      body_bytes = min (m.body_bytes + next.counted) last_count;
      closes = m.closes || next.closes;
    }) g.grown in
    let text : h.queue ++ next.text ≡ g.queue ++ (first.text ++ next.text) =
    ap (λ (l : List ℕ). l ++ next.text) (sym found)
    ∙ append_assoc g.queue first.text next.text in
    record { queue = g.queue; was_open = g.was_open; grown = rw (← text, ← bytes, ← or_assoc old.closes first.closes next.closes) step }

-- one task more
pub queued_more : (old middle new : Writing) (before : List HttpTask) (added : HttpTask)
    → AreQueued old before middle → IsQueued middle added new
    → AreQueued old (before ++ added ∷ []) new
queued_more old middle new before added q one =
    let sent = wire old.request old.place before in
    let passes : refusal old.request sent.place added ≡ None =
    subst (λ (m : Writing). refusal m.request m.place added ≡ None) q.grows.grown one.passes in
    let more : task_sent middle.request middle.place added
    ≡ task_sent old.request sent.place added =
    ap (λ (m : Writing). task_sent m.request m.place added) q.grows.grown in
    record {
      passes = first_refusal-push old.request old.place before added q.passes passes;
      grows =
          subst (λ (s : Sent). Grows s old new)
          (sym (wire-push old.request old.place before added))
          (grows_more old middle new sent (task_sent old.request sent.place added) q.grows
          (subst (λ (s : Sent). Grows s middle new) more one.grows));
      goes_on = λ tasks taken holds.
          subst (λ (l : List HttpTask). Holds new l taken) (append_assoc tasks before (added ∷ []))
          (one.goes_on (tasks ++ before) taken (q.goes_on tasks taken holds));
    }

-- one task alone
pub queued_one : (old new : Writing) (added : HttpTask) → IsQueued old added new
    → old.body_bytes ≤ last_count → AreQueued old (added ∷ []) new
queued_one old new added one fits =
    queued_more old old new [] added (queued_none old (one.grows.queue, one.grows.was_open) fits) one

-- of these tasks some were queued, and the rest is left
pub record HasQueued (old new : Writing) (tasks rest : List HttpTask) : Type 0 where
  pub before : List HttpTask
  pub are : tasks ≡ before ++ rest
  pub queued : AreQueued old before new

-- none was queued
pub HasQueued-none : (old : Writing) (tasks : List HttpTask) → IsOpen old.output
    → old.body_bytes ≤ last_count → HasQueued old old tasks tasks
HasQueued-none old tasks is_open fits =
    record { before = []; are = refl; queued = queued_none old is_open fits }

-- one more was queued
pub HasQueued-more : (old middle new : Writing) (tasks rest : List HttpTask) (added : HttpTask)
    → HasQueued old middle tasks (added ∷ rest) → IsQueued middle added new
    → HasQueued old new tasks rest
HasQueued-more old middle new tasks rest added q one =
    record {
      before = q.before ++ added ∷ [];
      are = q.are ∙ sym (append_assoc q.before (added ∷ []) rest);
      queued = queued_more old middle new q.before added q.queued one;
    }

-- all were queued
pub HasQueued-all : (old new : Writing) (tasks : List HttpTask) → HasQueued old new tasks []
    → AreQueued old tasks new
HasQueued-all old new tasks q =
    let all : q.before ≡ tasks = sym (q.are ∙ append-nil q.before) in
    subst (λ (l : List HttpTask). AreQueued old l new) all q.queued

-- the next one failed
pub HasQueued-stops : (old mid new : Writing) (tasks rest : List HttpTask) (at : HttpTask)
    (given : Fail) → HasQueued old mid tasks (at ∷ rest)
    → FailsOn mid.output mid at new given → StopsAt old tasks new given
HasQueued-stops old mid new tasks rest at given q fails =
    let is_open : mid.output
    ≡ outgoing.Open (q.queued.grows.queue ++ (wire old.request old.place q.before).text) =
    ap (λ (w : Writing). w.output) q.queued.grows.grown in
    record {
      before = q.before;
      at = at;
      behind = rest;
      are_tasks = q.are;
      mid = mid;
      queued = q.queued;
      stops = subst (λ (o : Outgoing). FailsOn o mid at new given) is_open fails;
    }
