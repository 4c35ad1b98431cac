-- How the response of a session goes on with an answer that the relay makes itself.
use Rattle.std.proofs.Common.{◌≡◌, ℕ, ◌^◌, ◌<◌, ◌≤◌, true, false, List, [], ◌∷◌, ◌++◌, length, refl, sym, ◌∙◌, ap, subst, Result, Ok, Err, OnOk, IfErr, Option, Some, None}
use Rattle.relay_tasks.specs.Head.{ResponseHead}
use Rattle.relay_tasks.specs.declared.error.Error.{Error}
use Rattle.relay_tasks.specs.declared.error.Fail.{Fail}
use Rattle.relay_tasks.specs.declared.error.Fail.TheVariants as fail
use Rattle.relay_tasks.specs.declared.task.HttpTask.{HttpTask}
use Rattle.relay_tasks.specs.declared.task.HttpTask.TheVariants as task
use Rattle.relay_h1.specs.Wire.{generated}
use Rattle.relay_session.specs.declared.task_text.Place.{Place}
use Rattle.relay_session.specs.declared.task_text.Place.TheVariants as place
use Rattle.relay_session.specs.declared.writing.Outgoing.{Outgoing}
use Rattle.relay_session.specs.declared.writing.Outgoing.TheVariants as outgoing
use Rattle.relay_session.specs.declared.writing.Writing.{Writing}
use Rattle.relay_session.specs.TaskWire.{head_sent, head_refusal, head_at, head_refusal_at, piece_refusal_at, task_sent, refusal, wire}
use Rattle.relay_session.specs.Response.{Grows, IsQueued, AreQueued, Takes, IsFailure, IsOpen, StopsOn, StopsAt, FailsWithin, has_head}
use Rattle.relay_session.specs.Generated.{generated_head, answer_tasks, head_and_body, body_answer_tasks, AnswersText, IsFaultOrMemory}
use Rattle.relay_session.proofs.GeneratedLemmas.{answer_sent, body_answer_sent}
use Rattle.relay_session.proofs.ResponseLemmas.{queued_none, queued_one, takes_failure, takes_kept}
use Rattle.relay_links.specs.Count.{last_count}

-- no final head stands
pub place_before : (at : Place) → has_head at ≡ false → at ≡ place.NoHead
place_before place.NoHead none = refl
place_before (place.Body rest) none = cc
place_before place.Done none = cc

-- what is not refused fails by the fault that is kept, or when out of memory
only_memory : (output : Outgoing) (why : Option Error) (given : Fail)
    → why ≡ None → IsFailure output why given → IsFaultOrMemory output given
only_memory (outgoing.Open queue) why fail.OutOfMemory passes failure = refl
only_memory (outgoing.Open queue) why (fail.Error error) passes failure =
    let both : None ≡ Some error = sym passes ∙ failure in cc
only_memory (outgoing.Broken fault) why given passes failure = failure

-- the refusal of the head of an answer, where no final head stands: there is none
answer_passes : (old : Writing) (code : ℕ) (head : ResponseHead) → old.place ≡ place.NoHead
    → head ≡ generated_head code 0 → head_refusal_at old.request old.place head true ≡ None
answer_passes old code head at is =
    ap (λ (p : Place). head_refusal_at old.request p head true) at
    ∙ ap (λ (h : ResponseHead). head_refusal old.request h true) is
    ∙ (answer_sent old.request code).0

-- the answer was queued
pub answer_queued : {X E : Type 0} (result : Result X E) (old new : Writing) (code : ℕ)
    (head : ResponseHead) → old.body_bytes ≤ last_count
    → old.place ≡ place.NoHead → head ≡ generated_head code 0
    → OnOk result (IsQueued old (task.Header head true) new)
    → OnOk result (AreQueued old (answer_tasks old.place code) new)
answer_queued (Ok x) old new code head fits at is one =
    subst (λ (p : Place). AreQueued old (answer_tasks p code) new) (sym at)
    (subst (λ (h : ResponseHead). AreQueued old (task.Header h true ∷ []) new) is
    (queued_one old new (task.Header head true) one fits))
answer_queued (Err error) old new code head fits at is one = tt

-- it is never refused, and a failure changes nothing
pub answer_failure : (result : Result Unit Fail) (old new : Writing) (code : ℕ)
    (head : ResponseHead) (goes : Type 0) → old.place ≡ place.NoHead
    → head ≡ generated_head code 0
    → Takes old.output (head_at old.request old.place head true)
    (head_refusal_at old.request old.place head true) goes old new result
    → IfErr result (IsFaultOrMemory old.output)
answer_failure (Ok done) old new code head goes at is takes = tt
answer_failure (Err given) old new code head goes at is takes =
    only_memory old.output (head_refusal_at old.request old.place head true) given
    (answer_passes old code head at is)
    (takes_failure old.output (head_at old.request old.place head true)
    (head_refusal_at old.request old.place head true) goes old new (Err given) takes)

pub answer_kept : (result : Result Unit Fail) (old new : Writing) (code : ℕ)
    (head : ResponseHead) (goes : Type 0) → old.body_bytes ≤ last_count
    → old.place ≡ place.NoHead → head ≡ generated_head code 0
    → Takes old.output (head_at old.request old.place head true)
    (head_refusal_at old.request old.place head true) goes old new result
    → IfErr result (λ given. new ≡ old)
answer_kept result old new code head goes fits at is takes =
    takes_kept old.output (head_at old.request old.place head true)
    (head_refusal_at old.request old.place head true) goes old new result fits
    (λ e refused. let both = sym (answer_passes old code head at is) ∙ refused in absurd (cc))
    takes

-- what waits of a queue that is known
known_queue : (queue known : List ℕ) → outgoing.Open known ≡ outgoing.Open queue → queue ≡ known
known_queue queue known same = cc

-- the text of the answer
answers_text : (old new : Writing) (code : ℕ) (head : ResponseHead)
    → head ≡ generated_head code 0
    → Grows (head_at old.request old.place head true) old new → AnswersText code old new
answers_text old new code head is g queue is_open at told =
    let sent = head_at old.request old.place head true in
    let text : sent.text ≡ generated code =
    ap (λ (p : Place). (head_at old.request p head true).text) at
    ∙ ap (λ (h : ResponseHead). (head_sent old.request h true).text) is
    ∙ (answer_sent old.request code).1 told in
    let waits = known_queue g.queue queue (sym is_open ∙ g.was_open) in
    ap (λ (w : Writing). w.output) g.grown
    ∙ ap (λ (q : List ℕ). outgoing.Open (q ++ sent.text)) waits
    ∙ ap (λ (t : List ℕ). outgoing.Open (queue ++ t)) text

pub answer_text : {X E : Type 0} (result : Result X E) (old new : Writing) (code : ℕ)
    (head : ResponseHead) → head ≡ generated_head code 0
    → OnOk result (IsQueued old (task.Header head true) new)
    → OnOk result (AnswersText code old new)
answer_text (Ok x) old new code head is one = answers_text old new code head is one.grows
answer_text (Err error) old new code head is one = tt

-- ---- an answer with a body

-- a call on a session whose writes did not fail
stops_within : (old new : Writing) (tasks : List HttpTask) (given : Fail)
    → IsOpen old.output → StopsAt old tasks new given
    → FailsWithin old.output old tasks new given
stops_within old new tasks given is_open stops =
    subst (λ (o : Outgoing). FailsWithin o old tasks new given) (sym is_open.1) stops

-- memory was wanted before the first task
stops_first : (old : Writing) (code : ℕ) (body : List ℕ) → IsOpen old.output
    → old.body_bytes ≤ last_count
    → FailsWithin old.output old (head_and_body code body) old fail.OutOfMemory
stops_first old code body is_open fits =
    stops_within old old (head_and_body code body) fail.OutOfMemory is_open
    (record {
      before = [];
      at = task.Header (generated_head code (length body)) false;
      behind = task.Body (Some body) true ∷ [];
      are_tasks = refl;
      mid = old;
      queued = queued_none old is_open fits;
      stops = refl;
    })

-- and so where the answer is asked for before a final head
pub stops_before : {X : Type 0} (result : Result X Fail) (old : Writing) (code : ℕ)
    (body : List ℕ) → IsOpen old.output → old.body_bytes ≤ last_count
    → old.place ≡ place.NoHead → IfErr result (λ given. given ≡ fail.OutOfMemory)
    → IfErr result (FailsWithin old.output old (body_answer_tasks old.place code body) old)
stops_before (Ok x) old code body is_open fits at memory = tt
stops_before (Err given) old code body is_open fits at memory =
    subst (λ (p : Place). FailsWithin old.output old (body_answer_tasks p code body) old given)
    (sym at)
    (subst (λ (g : Fail). FailsWithin old.output old (head_and_body code body) old g) (sym memory)
    (stops_first old code body is_open fits))

-- a task that is not refused stops a call only where memory is wanted
only_wants_memory : (mid : Writing) (at : HttpTask) (new : Writing) (given : Fail)
    → refusal mid.request mid.place at ≡ None → StopsOn mid at new given
    → given ≡ fail.OutOfMemory
only_wants_memory mid at new fail.OutOfMemory passes stops = refl
only_wants_memory mid at new (fail.Error error) passes stops =
    let both : None ≡ Some error = sym passes ∙ stops.refused in cc

-- two tasks are no three
no_third : (before : List HttpTask) (at : HttpTask) (behind : List HttpTask)
    → (let none : List HttpTask = [] in none) ≡ before ++ at ∷ behind → ⊥
no_third [] at behind same = cc
no_third (b ∷ before) at behind same = cc

-- the first of two tasks, and the second
first_is : (a b at : HttpTask) (behind : List HttpTask) → a ∷ b ∷ [] ≡ at ∷ behind → a ≡ at
first_is a b at behind same = cc

second_is : (a b x at : HttpTask) (behind : List HttpTask) → a ∷ b ∷ [] ≡ x ∷ at ∷ behind
    → (a ≡ x) × (b ≡ at)
second_is a b x at behind same = (cc, cc)

past_second : (a b x y at : HttpTask) (before behind : List HttpTask)
    → a ∷ b ∷ [] ≡ x ∷ y ∷ (before ++ at ∷ behind) → [] ≡ before ++ at ∷ behind
past_second a b x y at before behind same = cc

-- an answer with a body is never refused
answer_wants_memory : (old mid new : Writing) (code : ℕ) (body : List ℕ) (given : Fail)
    (before : List HttpTask) (at : HttpTask) (behind : List HttpTask)
    → length body < 2 ^ 64 → old.place ≡ place.NoHead
    → head_and_body code body ≡ before ++ at ∷ behind
    → Grows (wire old.request old.place before) old mid
    → StopsOn mid at new given → given ≡ fail.OutOfMemory
answer_wants_memory old mid new code body given [] at behind fits first same g stops =
    let passes = body_answer_sent old.request code body fits in
    let head : HttpTask = task.Header (generated_head code (length body)) false in
    let is = first_is head (task.Body (Some body) true) at behind same in
    only_wants_memory mid at new given
    (ap (λ (t : HttpTask). refusal mid.request mid.place t) (sym is)
    ∙ ap (λ (w : Writing). refusal w.request w.place head) g.grown
    ∙ ap (λ (p : Place). refusal old.request p head) first
    ∙ passes.0) stops
answer_wants_memory old mid new code body given (x ∷ []) at behind fits first same g stops =
    let passes = body_answer_sent old.request code body fits in
    let head : HttpTask = task.Header (generated_head code (length body)) false in
    let is = second_is head (task.Body (Some body) true) x at behind same in
    only_wants_memory mid at new given
    (ap (λ (t : HttpTask). refusal mid.request mid.place t) (sym is.1)
    ∙ ap (λ (w : Writing). piece_refusal_at w.place body true) g.grown
    ∙ ap (λ (t : HttpTask). piece_refusal_at (task_sent old.request old.place t).place body true)
    (sym is.0)
    ∙ ap (λ (p : Place). piece_refusal_at (task_sent old.request p head).place body true) first
    ∙ passes.1) stops
answer_wants_memory old mid new code body given (x ∷ y ∷ before) at behind fits first same g
    stops =
    absurd
    (no_third before at behind
    (past_second (task.Header (generated_head code (length body)) false) (task.Body (Some body) true)
    x y at before behind same))

pub body_answer_failure : {X : Type 0} (result : Result X Fail) (old new : Writing) (code : ℕ)
    (body : List ℕ) (tasks : List HttpTask) → length body < 2 ^ 64 → old.place ≡ place.NoHead
    → IsOpen old.output → tasks ≡ head_and_body code body
    → IfErr result (StopsAt old tasks new)
    → IfErr result (IsFaultOrMemory old.output)
body_answer_failure (Ok x) old new code body tasks fits first is_open are stops = tt
body_answer_failure (Err given) old new code body tasks fits first is_open are stops =
    let wants =
    answer_wants_memory old stops.mid new code body given stops.before stops.at stops.behind
    fits first (sym are ∙ stops.are_tasks) stops.queued.grows stops.stops in
    subst (λ (o : Outgoing). IsFaultOrMemory o given) (sym is_open.1) wants
