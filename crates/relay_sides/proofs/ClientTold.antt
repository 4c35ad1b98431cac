-- What the errors that a side told say of the tasks that were queued.
--
--   told_failed    one more error, nothing having been queued
--   told_reads     a read, and a write: told_writes
--   told_more      tasks behind them of which none is refused
--   told_refused   tasks of which the first that is refused is so with the error that is told
--   told_first     where the error is the first, none of the tasks before is refused
--   unfit_first    a batch that the check refuses has that refusal for its first
use Rattle.std.proofs.Common.{◌≡◌, ℕ, Bool, true, false, ◌⊎◌, List, [], ◌∷◌, ◌++◌, Option, Some, None, refl, sym, ap, subst, ◌∙◌, inl, inr, arith, append-nil}
use Rattle.std.specs.Prelude.{not}
use Rattle.std.proofs.lemmas.Bool.{cases_Bool}
use Rattle.relay_tasks.specs.declared.error.Error.{Error}
use Rattle.relay_tasks.specs.declared.error.ErrorSource.TheVariants.{Downstream}
use Rattle.relay_tasks.specs.declared.error.Fail.{Fail}
use Rattle.relay_tasks.specs.declared.error.Fail.TheVariants as fail
use Rattle.relay_tasks.specs.declared.fault.Fault.{Fault}
use Rattle.relay_tasks.specs.declared.task.HttpTask.{HttpTask}
use Rattle.relay_tasks.specs.declared.task.HttpTask.TheVariants as task
use Rattle.relay_tasks.specs.declared.took.Pause.{Pause}
use Rattle.relay_tasks.specs.declared.took.Pause.TheVariants as pause
use Rattle.relay_tasks.specs.declared.took.Took.{Took}
use Rattle.relay_tasks.specs.declared.took.Took.TheVariants as took
use Rattle.relay_links.specs.Count.{up}
use Rattle.relay_links.specs.Link.{LinkState}
use Rattle.relay_links.specs.declared.link.Put.{Put}
use Rattle.relay_links.specs.declared.link.Put.TheVariants as put
use Rattle.relay_h1.specs.declared.framing.Framing.{Framing}
use Rattle.relay_h1.specs.ClientHead.{is_informational}
use Rattle.relay_session.specs.Asked.{request_of}
use Rattle.relay_session.specs.TaskWire.{batch_refusal, first_refusal, framed_head_refusal, framing_of, or_later, refusal, settles, task_sent, unframed, unframed_head, unframed_in, wire}
use Rattle.relay_session.specs.declared.session.HttpSession.{HttpSession}
use Rattle.relay_session.specs.declared.task_text.Place.{Place}
use Rattle.relay_session.specs.declared.task_text.Place.TheVariants as place
use Rattle.relay_session.specs.declared.task_text.Request.{Request}
use Rattle.relay_session.proofs.WireSteps.{first_refusal-append}
use Rattle.relay_core.specs.Past.{Origin, DownPast, DownGoes}
use Rattle.relay_core.specs.Told.{failed, paused, written}
use Rattle.relay_core.specs.declared.piece.Piece.{Piece}
use Rattle.relay_core.specs.declared.told.Told.{Told}
use Rattle.relay_sides.specs.Client.{AllPass, HasPassed, IsClient, IsSide, IsTold, told_read}
use Rattle.relay_sides.specs.Client as client
use Rattle.relay_sides.proofs.ClientTasks.{holds_sent}

-- ---- counts of errors

-- a count that went up is not at its start
never_zero : (n : ℕ) → up n ≡ 0 → ⊥
never_zero n is = omega (arith, is)

-- and where it came to one it was there
was_zero : (n : ℕ) → up n ≡ 1 → n ≡ 0
was_zero n is = omega (arith, is)

-- ---- the tasks that were queued

module _ (s : Origin) (tasks : List HttpTask) (told : Told) (t : IsTold s tasks told) where
  -- where an error that is told is the first, none of the tasks is refused
  pub told_first : (error : Error) → (failed (fail.Error error) told).errors ≡ 1 → AllPass s tasks
  told_first error one = t.none (was_zero told.errors one)

  -- where nothing is told of errors, all stays
  told_same : (now : Told) → now.errors ≡ told.errors → now.last ≡ told.last → IsTold s tasks now
  told_same now errors last = record {
    none = λ is. t.none (sym errors ∙ is);
    one = λ is. elim (t.one (sym errors ∙ is)) [
      | inl pass ↦ inl pass
      | inr refused ↦ inr (refused.0, last ∙ refused.1, refused.2)
    ];
  }

  -- one more error, nothing having been queued
  pub told_failed : (why : Fail) → IsTold s tasks (failed why told)
  told_failed fail.OutOfMemory = t
  told_failed (fail.Error error) = record {
    none = λ is. absurd (never_zero told.errors is);
    one = λ is. inl (told_first error is);
  }

  -- a side that had to wait
  told_paused : (p : Pause) → IsTold s tasks (paused p told)
  told_paused pause.NotReady = told_same _ refl refl
  told_paused pause.Silent = told_same _ refl refl

  -- a read of the client
  pub told_reads : (piece : Took Piece) → IsTold s tasks (told_read piece told)
  told_reads (took.Item piece) = t
  told_reads took.More = t
  told_reads (took.Waited p) = told_paused p
  told_reads took.End = t
  told_reads (took.Failed why) = told_failed why

  -- a write to it
  pub told_writes : (answer : Put) → IsTold s tasks (written Downstream answer told)
  told_writes (put.Took n) = t
  told_writes put.NotReady = told_paused pause.NotReady
  told_writes put.Silent = told_paused pause.Silent
  told_writes (put.Failed fault) = told_failed (fail.Error _)
  told_writes put.OutOfMemory = t

  -- where the response stands behind the tasks
  abbrev stands : Place
  stands = (wire (request_of s.head) place.NoHead tasks).place

  -- tasks behind them of which none is refused
  pub told_more : (more : List HttpTask)
      → first_refusal (request_of s.head) stands more ≡ None → IsTold s (tasks ++ more) told
  told_more more passes = record {
    none = λ is. joined ∙ ap (λ (o : Option Error). or_later o later) (t.none is) ∙ passes;
    one = λ is. elim (t.one is) [
      | inl pass ↦ inl (joined ∙ ap (λ (o : Option Error). or_later o later) pass ∙ passes)
      | inr refused ↦ inr (
        refused.0,
        refused.1,
        joined ∙ ap (λ (o : Option Error). or_later o later) refused.2,
      )
    ];
  }
    where
      later : Option Error
      later = first_refusal (request_of s.head) stands more

      joined : first_refusal (request_of s.head) place.NoHead (tasks ++ more)
          ≡ or_later (first_refusal (request_of s.head) place.NoHead tasks) later
      joined = first_refusal-append (request_of s.head) place.NoHead tasks more

  -- tasks behind them of which the first that is refused, if any, is so with the error that is told
  pub told_refused : (more : List HttpTask) (error : Error)
      → (first_refusal (request_of s.head) stands more ≡ None)
      ⊎ (first_refusal (request_of s.head) stands more ≡ Some error)
      → IsTold s (tasks ++ more) (failed (fail.Error error) told)
  told_refused more error why = record {
    none = λ is. absurd (never_zero told.errors is);
    one = λ is.
        let joined = first_refusal-append (request_of s.head) place.NoHead tasks more
        ∙ ap (λ (o : Option Error).
        or_later o (first_refusal (request_of s.head) stands more)) (told_first error is) in
        elim why [
          | inl passes ↦ inl (joined ∙ passes)
          | inr refused ↦ inr (error, refl, joined ∙ refused)
        ];
  }

-- what is refused behind what the session holds is refused behind what was queued
pub refused_here : (s : Origin) (p : DownPast) (link : LinkState) (ahead : List ℕ)
    (session : HttpSession) → IsClient s p link ahead session → (tasks : List HttpTask)
    (o : Option Error)
    → first_refusal session.writing.request session.writing.place tasks ≡ o
    → first_refusal (request_of s.head)
    (wire (request_of s.head) place.NoHead (client.queued p)).place tasks ≡ o
refused_here s p link ahead session c tasks o is =
    let own = c.answers ∙ ap request_of c.own in
    let at = holds_sent session.writing session.writing.output (client.queued p) p.written
    c.response in
    subst (λ (r : Request).
    first_refusal r (wire r place.NoHead (client.queued p)).place tasks ≡ o) own
    (ap (λ (x : Place). first_refusal session.writing.request x tasks) at ∙ is)

-- tasks that follow those of a response whose end was not asked for
pub told_follow : (s : Origin) (batched closing tasks : List HttpTask) (told : Told)
    → closing ≡ [] → IsTold s ((batched ++ closing) ++ tasks) told
    → IsTold s ((batched ++ tasks) ++ closing) told
told_follow s batched closing tasks told none t =
    rw none (rw append-nil (rw (none, append-nil) at t))

-- a call that went on with what passed
pub with_told : (s : Origin) (link : LinkState) (ahead : List ℕ) (session : HttpSession)
    (told : Told) (done finished : Bool) (kept : Option Fault)
    (blames : DownPast → Error → Type 0) (put batched closing : List HttpTask)
    (error : Option Error)
    → DownGoes (λ q. HasPassed s q link ahead session done finished kept) blames put batched closing
    error
    → IsTold s (batched ++ closing) told
    → DownGoes (λ q. IsSide s q link ahead session told done finished kept) blames put batched
    closing error
with_told s link ahead session told done finished kept blames put batched closing error g t =
    record {
      past = g.past;
      stands = record {
        passed = g.stands;
        tasks = subst (λ (l : List HttpTask). IsTold s l told)
            (sym (ap (λ (l : List HttpTask). l ++ g.past.closing) g.is_batched
            ∙ ap (λ (l : List HttpTask). batched ++ l) g.is_closing)) t;
      };
      is_put = g.is_put;
      is_batched = g.is_batched;
      is_closing = g.is_closing;
      blamed = g.blamed;
    }

-- ---- a batch that the check refuses

-- a final head whose framing is refused
final_refused : (ends : Bool) (found : Option Framing) (error : Error)
    → unframed found ≡ Some error → framed_head_refusal ends found ≡ Some error
final_refused ends None error is = is
final_refused ends (Some framing) error is = absurd (cc)

-- a flag that is not set
unset : (b : Bool) → not b ≡ true → b ≡ false
unset true is = cc
unset false is = refl

-- one that is
is_set : (b : Bool) → not b ≡ false → b ≡ true
is_set true is = refl
is_set false is = cc

-- the first final head is refused, or tasks that decide nothing are passed
one_first : (request : Request) (one : HttpTask) (rest : List HttpTask) (error : Error)
    → settles one ≡ true → unframed_head request one ≡ Some error
    → first_refusal request place.NoHead (one ∷ rest) ≡ Some error
one_first request (task.Header head ends) rest error decides is =
    ap (λ (o : Option Error).
    or_later o (first_refusal request
    (task_sent request place.NoHead (task.Header head ends)).place rest)) refused
  where
    refused : refusal request place.NoHead (task.Header head ends) ≡ Some error
    refused =
        rw (unset (is_informational head.status) decides)
        (final_refused ends (framing_of request head) error is)
one_first request (task.Body piece ends) rest error decides is = absurd (cc)
one_first request (task.UpgradedBody piece ends) rest error decides is = absurd (cc)
one_first request (task.Trailer fields) rest error decides is = absurd (cc)
one_first request task.Done rest error decides is = absurd (cc)
one_first request (task.Failed e) rest error decides is = absurd (cc)

-- a task that decides nothing leaves the response before its final head, and is not refused
one_passed : (request : Request) (one : HttpTask) (rest : List HttpTask) → settles one ≡ false
    → first_refusal request place.NoHead (one ∷ rest) ≡ first_refusal request place.NoHead rest
one_passed request (task.Header head ends) rest open_still =
    rw (is_set (is_informational head.status) open_still) refl
one_passed request (task.Body piece ends) rest open_still = refl
one_passed request (task.UpgradedBody piece ends) rest open_still = refl
one_passed request (task.Trailer fields) rest open_still = refl
one_passed request task.Done rest open_still = refl
one_passed request (task.Failed e) rest open_still = absurd (cc)

-- where no final head was sent
unframed_first : (request : Request) (tasks : List HttpTask) (error : Error)
    → unframed_in request tasks ≡ Some error
    → first_refusal request place.NoHead tasks ≡ Some error
unframed_first request [] error is = absurd (cc)
unframed_first request (one ∷ tasks) error is =
    elim (cases_Bool (settles one)) [
      | inl decides ↦ one_first request one tasks error decides (rw decides at is)
      | inr open_still ↦ one_passed request one tasks open_still
          ∙ unframed_first request tasks error (rw open_still at is)
    ]

-- a batch that the check refuses has that refusal for its first
pub unfit_first : (request : Request) (stands : Place) (tasks : List HttpTask) (error : Error)
    → batch_refusal request stands tasks ≡ Some error
    → first_refusal request stands tasks ≡ Some error
unfit_first request place.NoHead tasks error is = unframed_first request tasks error is
unfit_first request (place.Body rest) tasks error is = absurd (cc)
unfit_first request place.Done tasks error is = absurd (cc)
