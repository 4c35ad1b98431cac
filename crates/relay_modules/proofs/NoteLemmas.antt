-- What a call that notes its tasks leaves, by its answers.
use Rattle.std.proofs.Common.{◌≡◌, Bool, true, List, ◌∷◌, ◌++◌, [], Result, Ok, Err, OnOk, OnErr, IfErr, IsOkUnless, refl, sym, ap, ◌∙◌, subst, inl, inr}
use Rattle.relay_tasks.specs.declared.error.Error.{Error}
use Rattle.relay_tasks.specs.declared.error.Fail.{Fail}
use Rattle.relay_tasks.specs.declared.error.Fail.TheVariants as fail
use Rattle.relay_tasks.specs.declared.task.HttpTask.{HttpTask}
use Rattle.relay_session.specs.declared.session.HttpSession.{HttpSession}
use Rattle.relay_session.specs.declared.writing.Writing.{Writing}
use Rattle.relay_session.specs.Generated.{IsFaultOrMemory}
use Rattle.relay_session.specs.Response.{AreQueued, FailsWithin}
use Rattle.relay_modules.specs.declared.seen.Seen.{Seen}
use Rattle.relay_modules.specs.Module.{ModuleCall}
use Rattle.relay_modules.specs.Filtering as filtering
use Rattle.relay_modules.specs.Filtering.{FiltersTask, FiltersTasks, FailsToKeep, FailsToWrite, WritesBatch, AllPass}
use Rattle.relay_modules.specs.Seen as seen
use Rattle.relay_modules.specs.Seen.{Queues, Notes, CannotQueue, FailsToNote, Responds, RespondsWith, OrMemory, with_noted, with_response}

-- ---- queued and noted

-- tasks that were queued are noted
pub Notes-queued : (tasks : List HttpTask) (old mid : Seen) (wrote : List HttpTask)
    → Queues tasks old mid → wrote ≡ old.wrote ++ tasks
    → Notes tasks old (record mid { wrote = wrote })
Notes-queued tasks old mid wrote q w =
    record {
      queued = q.queued;
      rest =
          ap (λ (m : Seen). record m { wrote = wrote }) q.rest
          ∙ ap (λ (l : List HttpTask).
          record (with_response old mid.downstream.writing) { wrote = l }) w;
    }

-- memory was wanted for the note
pub FailsToNote-memory : (tasks : List HttpTask) (old : Seen) (given : Fail)
    → given ≡ fail.OutOfMemory → FailsToNote tasks old old given
FailsToNote-memory tasks old given is =
    subst (λ (f : Fail). FailsToNote tasks old old f) (sym is) (seen.FailsToNote.wants_note refl)

-- ---- a batch

-- a batch failed at its filters
pub FailsToWrite-filter : (allows : ModuleCall → Type 0) (tasks : List HttpTask) (old : Seen)
    (given : Fail) → FiltersTasks allows tasks (Err given) → FailsToWrite allows tasks old old given
FailsToWrite-filter allows tasks old fail.OutOfMemory h =
    filtering.FailsToWrite.wants_memory refl
FailsToWrite-filter allows tasks old (fail.Error error) h =
    filtering.FailsToWrite.by_filter error h refl

-- a batch passed, and failed where it was to be queued
pub FailsToWrite-note : (allows : ModuleCall → Type 0) (tasks made : List HttpTask)
    (old new : Seen) (given : Fail) → AllPass allows tasks made → FailsToNote made old new given
    → FailsToWrite allows tasks old new given
FailsToWrite-note allows tasks made old new given h (seen.FailsToNote.cannot_queue same fails) =
    filtering.FailsToWrite.by_writer given made h fails
FailsToWrite-note allows tasks made old new given h (seen.FailsToNote.wants_note still) =
    filtering.FailsToWrite.wants_memory still

-- ---- an answer

-- memory was wanted for the note of an answer
pub Responds-memory : (tasks : List HttpTask) (old : Seen) (given : Fail)
    → given ≡ fail.OutOfMemory → Responds tasks (Err given) old old
Responds-memory tasks old given is =
    subst (λ (f : Fail). Responds tasks (Err f) old old) (sym is) refl

-- an answer was refused, and the client's session has not changed
pub Responds-fails : (tasks : List HttpTask) (old : Seen) (client : HttpSession) (given : Fail)
    → IsFaultOrMemory old.downstream.writing.output given → client ≡ old.downstream
    → Responds tasks (Err given) old (record old { downstream = client })
Responds-fails tasks old client fail.OutOfMemory h same =
    ap (λ (d : HttpSession). record old { downstream = d }) same
Responds-fails tasks old client (fail.Error error) h same =
    (h, ap (λ (d : HttpSession). record old { downstream = d }) same)

-- an answer was queued
pub Notes-answer : (tasks : List HttpTask) (old : Seen) (client : HttpSession)
    (wrote : List HttpTask) → AreQueued old.downstream.writing tasks client.writing
    → client ≡ record old.downstream { writing = client.writing } → wrote ≡ old.wrote ++ tasks
    → Notes tasks old (record old { downstream = client; wrote = wrote })
Notes-answer tasks old client wrote q rest w =
    record {
      queued = q;
      rest =
          ap (λ (d : HttpSession). record old { downstream = d; wrote = wrote }) rest
          ∙ ap (λ (l : List HttpTask).
          record (with_response old client.writing) { wrote = l }) w;
    }

-- memory was wanted for the note of an answer with a body
pub RespondsWith-memory : (tasks : List HttpTask) (old : Seen) (given : Fail)
    → given ≡ fail.OutOfMemory → RespondsWith tasks (Err given) old old
RespondsWith-memory tasks old given is =
    subst (λ (f : Fail). RespondsWith tasks (Err f) old old) (sym is) (tt, inl refl)

-- a failure that is so, or memory is wanted
OrMemory-of : (fact : Fail → Type 0) (given : Fail) → fact given → OrMemory fact given
OrMemory-of fact fail.OutOfMemory h = tt
OrMemory-of fact (fail.Error error) h = h

-- an answer with a body was not queued whole
pub RespondsWith-fails : (tasks : List HttpTask) (old : Seen) (client : HttpSession) (given : Fail)
    → IsFaultOrMemory old.downstream.writing.output given
    → FailsWithin old.downstream.writing.output old.downstream.writing tasks client.writing given
    → client ≡ record old.downstream { writing = client.writing }
    → RespondsWith tasks (Err given) old (record old { downstream = client })
RespondsWith-fails tasks old client given h fails rest = (
  OrMemory-of (IsFaultOrMemory old.downstream.writing.output) given h,
  inr (record {
    fails = fails;
    rest = ap (λ (d : HttpSession). record old { downstream = d }) rest;
  }),
)

-- ---- a task that is kept

-- a task failed at its filter
pub FailsToKeep-filter : (allows : ModuleCall → Type 0) (came : HttpTask) (old : Seen)
    (given : Fail) → old.tasks_enabled ≡ true → FiltersTask allows came (Err given)
    → FailsToKeep allows came old given
FailsToKeep-filter allows came old fail.OutOfMemory on h =
    filtering.FailsToKeep.wants_memory on
FailsToKeep-filter allows came old (fail.Error error) on h =
    filtering.FailsToKeep.by_filter error on h

-- memory was wanted to keep a task
pub FailsToKeep-memory : (allows : ModuleCall → Type 0) (came : HttpTask) (old : Seen)
    (answer : Result Unit Fail) → old.tasks_enabled ≡ true → IsOkUnless answer fail.OutOfMemory
    → IfErr answer (FailsToKeep allows came old)
FailsToKeep-memory allows came old (Ok done) on h = tt
FailsToKeep-memory allows came old (Err given) on h =
    subst (λ (f : Fail). FailsToKeep allows came old f) (sym h)
    (filtering.FailsToKeep.wants_memory on)

-- the same, by the answer of the call that queues
pub FailsToWrite-noted : (allows : ModuleCall → Type 0) (tasks made : List HttpTask)
    (old new : Seen) (answer : Result Bool Fail) → AllPass allows tasks made
    → IfErr answer (FailsToNote made old new) → IfErr answer (FailsToWrite allows tasks old new)
FailsToWrite-noted allows tasks made old new (Ok over) h fails = tt
FailsToWrite-noted allows tasks made old new (Err given) h fails =
    FailsToWrite-note allows tasks made old new given h fails

-- memory was wanted before a batch was filtered
pub FailsToWrite-memory : (allows : ModuleCall → Type 0) (tasks : List HttpTask) (old : Seen)
    (given : Fail) → given ≡ fail.OutOfMemory → FailsToWrite allows tasks old old given
FailsToWrite-memory allows tasks old given is =
    subst (λ (f : Fail). FailsToWrite allows tasks old old f) (sym is)
    (filtering.FailsToWrite.wants_memory refl)
