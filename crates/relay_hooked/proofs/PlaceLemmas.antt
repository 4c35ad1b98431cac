-- Where tasks that the filters made leave the response: an end behind a final head ends it.
--
--   last_made   an end is the last of what was made where it is the last of what came
--   ends_over   tasks with an end that is the last of them, none of which is refused, leave the
--               response over where a final head is among them
use Rattle.std.proofs.Common.{◌≡◌, Bool, true, false, inl, inr, List, [], ◌∷◌, Option, Some, None, refl, sym, ap, ◌∙◌}
use Rattle.std.specs.Prelude.{◌||◌, ℕ}
use Rattle.std.specs.List.{list_any}
use Rattle.std.proofs.lemmas.Bool.{cases_Bool}
use Rattle.relay_tasks.specs.declared.log.LogEntry.{LogEntry}
use Rattle.relay_tasks.specs.declared.task.HttpTask.{HttpTask}
use Rattle.relay_tasks.specs.declared.task.HttpTask.TheVariants as task
use Rattle.relay_tasks.specs.Head.{ResponseHead}
use Rattle.relay_tasks.specs.Task.{is_end}
use Rattle.relay_h1.specs.declared.framing.Framing.{Framing}
use Rattle.relay_h1.specs.BodyWire.{after_piece, is_short}
use Rattle.relay_h1.specs.ClientHead.{is_informational}
use Rattle.relay_session.specs.Response.{has_head, is_over}
use Rattle.relay_session.specs.TaskWire.{first_refusal, framed_head_refusal, framed_head_sent, framing_of, head_at, head_refusal_at, piece_at, piece_refusal, piece_refusal_at, piece_sent, refusal, shown, task_sent, wire}
use Rattle.relay_session.specs.declared.task_text.Place.{Place}
use Rattle.relay_session.specs.declared.task_text.Place.TheVariants as place
use Rattle.relay_session.specs.declared.task_text.Request.{Request}
use Rattle.relay_core.specs.Moves.{EndsLast}
use Rattle.relay_sides.proofs.ClientTasks.{or_none}
use Rattle.relay_filters.specs.Chain.{AllPass, PassedModules, TaskChain}
use Rattle.relay_filters.specs.Response.{MakesOf}
use Rattle.relay_hooked.proofs.ChainLemmas.{module_end, passed_keeps, task_end}

-- ---- an end is the last

-- nothing stands behind a task that is the end
abbrev pub LastIn : List HttpTask → Type 0
LastIn [] = Unit {0}
LastIn (one ∷ tasks) = (is_end one ≡ true → tasks ≡ []) × LastIn tasks

-- so it is in tasks of which an end is the last
pub last_in : (tasks : List HttpTask) → EndsLast tasks → LastIn tasks
last_in [] last = tt
last_in (one ∷ tasks) last = (
  λ ends. last (one ∷ []) tasks refl (rw ends refl),
  last_in tasks (λ front behind same found.
      last (one ∷ front) behind (ap (λ l. one ∷ l) same)
      (either (is_end one) (list_any is_end front) found)),
)
  where
    either : (a b : Bool) → b ≡ true → (a || b) ≡ true
    either true b is = refl
    either false b is = is

-- a chain that keeps whether each is the end keeps that
last_kept : (chain : HttpTask → List LogEntry → HttpTask → Type 0)
    → ((x : HttpTask) (es : List LogEntry) (y : HttpTask) → chain x es y → is_end y ≡ is_end x)
    → (es : List LogEntry) (xs ys : List HttpTask) → AllPass chain es xs ys → LastIn xs → LastIn ys
last_kept chain keeps es [] [] none last = tt
last_kept chain keeps es [] (y ∷ ys) none last = absurd none
last_kept chain keeps es (x ∷ xs) [] none last = absurd none
last_kept chain keeps es (x ∷ xs) (y ∷ ys) (own, rest, is, c, pass) last = (
  λ ends. emptied rest xs ys pass (last.0 (sym (keeps x own y c) ∙ ends)),
  last_kept chain keeps rest xs ys pass last.1,
)
  where
    emptied : (es : List LogEntry) (xs ys : List HttpTask) → AllPass chain es xs ys → xs ≡ []
        → ys ≡ []
    emptied es [] [] none is = refl
    emptied es [] (y ∷ ys) none is = absurd none
    emptied es (x ∷ xs) ys pass is = absurd (cc)

-- so the filters do
pub last_made : (of_head stood : Bool) (es : List LogEntry) (on : Type 0)
    (came made : List HttpTask) → MakesOf of_head stood es on came made → LastIn came → LastIn made
last_made of_head stood es on came made m last =
    last_kept (PassedModules stood) (passed_keeps is_end module_end stood) m.by_modules.done m.mid
    made m.by_modules.pass
    (last_kept (TaskChain of_head) (task_end of_head) m.by_app.done came m.mid m.by_app.pass last)

-- ---- the place behind an end

-- behind a piece that is the end
piece_done : (rest : Framing) (piece : List ℕ) → piece_refusal rest piece true ≡ None
    → (piece_sent rest piece true).place ≡ place.Done
piece_done rest piece passes =
    elim (cases_Bool (is_short (after_piece rest piece))) [
      | inl short ↦ let refused = rw short at passes in absurd (cc)
      | inr fits ↦ rw fits refl
    ]

-- wherever the response stands
at_done : (at : Place) (piece : List ℕ) → piece_refusal_at at piece true ≡ None
    → has_head (piece_at at piece true).place ≡ true
    → (piece_at at piece true).place ≡ place.Done
at_done place.NoHead piece passes has = absurd (cc)
at_done (place.Body rest) piece passes has = piece_done rest piece passes
at_done place.Done piece passes has = refl

-- behind a final head that is the end
framed_done : (head : ResponseHead) (framing : Option Framing)
    → framed_head_refusal true framing ≡ None
    → (framed_head_sent head true framing).place ≡ place.Done
framed_done head None passes = absurd (cc)
framed_done head (Some framing) passes = piece_done framing [] passes

-- behind any head that is
head_done : (request : Request) (at : Place) (head : ResponseHead)
    → head_refusal_at request at head true ≡ None
    → has_head (head_at request at head true).place ≡ true
    → (head_at request at head true).place ≡ place.Done
head_done request place.NoHead head passes has =
    elim (cases_Bool (is_informational head.status)) [
      | inl informs ↦ let wrong : false ≡ true = rw informs at has in absurd (cc)
      | inr final ↦
          rw final
          (framed_done (shown request head) (framing_of request head) (rw final at passes))
    ]
head_done request (place.Body rest) head passes has = piece_done rest [] passes
head_done request place.Done head passes has = refl

-- behind a task that is the end
task_done : (request : Request) (at : Place) (one : HttpTask) → is_end one ≡ true
    → refusal request at one ≡ None → has_head (task_sent request at one).place ≡ true
    → (task_sent request at one).place ≡ place.Done
task_done request at (task.Header head true) ends passes has =
    head_done request at head passes has
task_done request at (task.Header head false) ends passes has = absurd (cc)
task_done request at (task.Body piece true) ends passes has = at_done at _ passes has
task_done request at (task.Body piece false) ends passes has = absurd (cc)
task_done request at (task.UpgradedBody piece true) ends passes has = at_done at _ passes has
task_done request at (task.UpgradedBody piece false) ends passes has = absurd (cc)
task_done request at (task.Trailer fields) ends passes has = at_done at [] passes has
task_done request at task.Done ends passes has = at_done at [] passes has
task_done request at (task.Failed error) ends passes has = absurd (cc)

-- tasks with an end that is the last of them
wire_done : (request : Request) (at : Place) (tasks : List HttpTask) → LastIn tasks
    → list_any is_end tasks ≡ true → first_refusal request at tasks ≡ None
    → has_head (wire request at tasks).place ≡ true
    → (wire request at tasks).place ≡ place.Done
wire_done request at [] last ends passes has = absurd (cc)
wire_done request at (one ∷ tasks) last ends passes has =
    let next = (task_sent request at one).place in
    let parts = or_none (refusal request at one) (first_refusal request next tasks) passes in
    elim (cases_Bool (is_end one)) [
      | inl here ↦
          let alone = last.0 here in
          let same = ap (λ (l : List HttpTask). (wire request next l).place) alone in
          same ∙ task_done request at one here parts.0
          (sym (ap has_head same) ∙ has)
      | inr goes ↦ wire_done request next tasks last.1 (rw goes at ends) parts.1 has
    ]

-- leave the response over, where a final head is among them
pub ends_over : (request : Request) (tasks : List HttpTask) → LastIn tasks
    → list_any is_end tasks ≡ true → first_refusal request place.NoHead tasks ≡ None
    → has_head (wire request place.NoHead tasks).place ≡ true
    → is_over (wire request place.NoHead tasks).place ≡ true
ends_over request tasks last ends passes has =
    ap is_over (wire_done request place.NoHead tasks last ends passes has)
