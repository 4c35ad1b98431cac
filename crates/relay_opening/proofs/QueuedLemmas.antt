-- What the hooks before the attempts queued, by the way they ended.
use Rattle.std.proofs.Common.{◌≡◌, ℕ, ◌<◌, Bool, true, false, List, ◌++◌, length, append-nil, append_assoc, refl, sym, ap, subst, ◌∙◌}
use Rattle.relay_tasks.specs.declared.error.Error.{Error}
use Rattle.relay_tasks.specs.declared.error.Fail.{Fail}
use Rattle.relay_tasks.specs.declared.error.Fail.TheVariants as fail
use Rattle.relay_tasks.specs.declared.task.HttpTask.{HttpTask}
use Rattle.relay_session.specs.Generated.{IsFaultOrMemory}
use Rattle.relay_session.specs.Response.{AreQueued, GoesOnWith, Holds, IsOpen, has_head}
use Rattle.relay_session.specs.TaskWire.{wire}
use Rattle.relay_session.specs.declared.task_text.Place.{Place}
use Rattle.relay_session.specs.declared.task_text.Place.TheVariants as stands
use Rattle.relay_session.specs.declared.writing.Outgoing.{Outgoing}
use Rattle.relay_session.specs.declared.writing.Outgoing.TheVariants as outgoing
use Rattle.relay_session.specs.declared.writing.Writing.{Writing}
use Rattle.relay_modules.specs.Seen.{OrMemory}
use Rattle.relay_hooks.specs.DefaultLaw.{lone_answer}
use Rattle.relay_opening.specs.Queued.{CannotRefuse, Completes, QueuesAnswer, QueuesAtEnd, QueuesRefusal}
use Rattle.relay_opening.specs.Told.{Waits, completion}
use Rattle.relay_opening.specs.declared.place.End.{End}
use Rattle.relay_opening.specs.declared.place.End.TheVariants as end
use Rattle.relay_opening.proofs.WireLemmas.{no_head_is, refusal_ends, waits_behind}

-- ---- a request that was answered

-- what waits behind the answer of `request_filter` is its text
pub answered_waits : (old new : Writing) (wrote tasks : List HttpTask)
    (taken queue waiting : List ℕ) → QueuesAnswer old new wrote → Holds old tasks taken
    → old.output ≡ outgoing.Open queue → new.output ≡ outgoing.Open waiting
    → Waits old new wrote queue waiting
answered_waits old new wrote tasks taken queue waiting queues holds was_open is_open =
    waits_behind old new wrote tasks taken queue waiting holds queues.queued queues.answers_to
    was_open is_open

-- ---- a request that was declined

-- the response goes on with what completes it
completed_goes : (has : Bool) (old left new : Writing) (wrote : List HttpTask)
    → GoesOnWith old left wrote → Completes has left new
    → GoesOnWith old new (wrote ++ completion has)
completed_goes true old left new wrote goes same tasks taken holds =
    subst (λ (w : Writing). Holds w (tasks ++ (wrote ++ completion true)) taken) (sym same)
    (subst (λ (l : List HttpTask). Holds left (tasks ++ l) taken) (sym (append-nil wrote))
    (goes tasks taken holds))
completed_goes false old left new wrote goes queued tasks taken holds =
    subst (λ (l : List HttpTask). Holds new l taken) (append_assoc tasks wrote (lone_answer 502))
    (queued.goes_on (tasks ++ wrote) taken (goes tasks taken holds))

-- the client is sent what the hook queued, and then the 502 where no final head was queued
pub refusal_goes_on : (old new : Writing) (wrote : List HttpTask)
    (queues : QueuesRefusal old new wrote)
    → GoesOnWith old new (wrote ++ completion (has_head queues.left.place))
refusal_goes_on old new wrote queues =
    completed_goes (has_head queues.left.place) old queues.left new wrote queues.queued
    queues.completed

-- where the 502 was queued it ends the response, and no write has failed
pub completed_ends : (left new : Writing) → has_head left.place ≡ false
    → AreQueued left (lone_answer 502) new
    → (new.place ≡ stands.Done) × IsOpen new.output
completed_ends left new none queued = (
  ap (λ (w : Writing). w.place) queued.grows.grown
      ∙ (ap (λ (p : Place). (wire left.request p (lone_answer 502)).place)
      (no_head_is left.place none)
      ∙ refusal_ends left.request),
  (_, ap (λ (w : Writing). w.output) queued.grows.grown),
)

completed_head : (has : Bool) (left new : Writing) → has_head left.place ≡ has
    → Completes has left new → has_head new.place ≡ true
completed_head true left new is same =
    ap (λ (w : Writing). has_head w.place) same ∙ is
completed_head false left new is queued =
    ap has_head (completed_ends left new is queued).0

-- a declined request has its final head, the hook's or the relay's
pub refusal_has_head : (old new : Writing) (wrote : List HttpTask)
    → QueuesRefusal old new wrote → has_head new.place ≡ true
refusal_has_head old new wrote queues =
    completed_head (has_head queues.left.place) queues.left new refl queues.completed

-- its response answers the request that it answered
completed_answers_to : (has : Bool) (left new : Writing) → Completes has left new
    → new.request ≡ left.request
completed_answers_to true left new same = ap (λ (w : Writing). w.request) same
completed_answers_to false left new queued = ap (λ (w : Writing). w.request) queued.grows.grown

pub refusal_answers_to : (old new : Writing) (wrote : List HttpTask)
    → QueuesRefusal old new wrote → new.request ≡ old.request
refusal_answers_to old new wrote queues =
    completed_answers_to (has_head queues.left.place) queues.left new queues.completed
    ∙ queues.answers_to

-- and is open, where it was
same_open : (old new : Writing) → new ≡ old → IsOpen old.output → IsOpen new.output
same_open old new same was_open = subst (λ (w : Writing). IsOpen w.output) (sym same) was_open

completed_open : (has : Bool) (left new : Writing) → Completes has left new → IsOpen left.output
    → IsOpen new.output
completed_open true left new same was_open = same_open left new same was_open
completed_open false left new queued was_open =
    (_, ap (λ (w : Writing). w.output) queued.grows.grown)

pub refusal_open : (old new : Writing) (wrote : List HttpTask) → QueuesRefusal old new wrote
    → IsOpen old.output → IsOpen new.output
refusal_open old new wrote queues was_open =
    completed_open (has_head queues.left.place) queues.left new queues.completed
    (queues.stays_open was_open)

-- what waits behind it is the text of both, and it is not empty
pub declined_waits : (old new : Writing) (wrote tasks : List HttpTask)
    (taken queue waiting : List ℕ) (queues : QueuesRefusal old new wrote) → Holds old tasks taken
    → old.output ≡ outgoing.Open queue → new.output ≡ outgoing.Open waiting
    → Waits old new (wrote ++ completion (has_head queues.left.place)) queue waiting
declined_waits old new wrote tasks taken queue waiting queues holds was_open is_open =
    waits_behind old new (wrote ++ completion (has_head queues.left.place)) tasks taken queue
    waiting holds (refusal_goes_on old new wrote queues)
    (refusal_answers_to old new wrote queues) was_open is_open

pub declined_some : (old new : Writing) (wrote tasks : List HttpTask)
    (taken queue waiting : List ℕ) → QueuesRefusal old new wrote → Holds old tasks taken
    → has_head old.place ≡ false → old.output ≡ outgoing.Open queue
    → new.output ≡ outgoing.Open waiting → 0 < length waiting
declined_some old new wrote tasks taken queue waiting queues holds none was_open is_open =
    let waits =
    declined_waits old new wrote tasks taken queue waiting queues holds was_open is_open in
    waits.some none (refusal_has_head old new wrote queues)

-- ---- a 502 that could not be queued

-- an error is not out of memory
no_memory : (error : Error) → ¬ (fail.Error error ≡ fail.OutOfMemory)
no_memory error is = cc

-- where no write has failed memory was wanted
pub unwritten_memory : (why : Fail) (old new : Writing) (wrote : List HttpTask)
    → CannotRefuse why old new wrote → IsOpen new.output → why ≡ fail.OutOfMemory
unwritten_memory fail.OutOfMemory old new wrote cannot is_open = refl
unwritten_memory (fail.Error error) old new wrote cannot (queue, is_open) =
    subst (λ (o : Outgoing). OrMemory (IsFaultOrMemory o) (fail.Error error)) is_open cannot.fault

-- so an error is answered only where one has
pub unwritten_broken : (error : Error) (old new : Writing) (wrote : List HttpTask)
    → CannotRefuse (fail.Error error) old new wrote → ¬ (IsOpen new.output)
unwritten_broken error old new wrote cannot is_open =
    no_memory error (unwritten_memory (fail.Error error) old new wrote cannot is_open)

-- and that is none that had not failed before: where the response was open, it is
pub unwritten_failed : (error : Error) (old new : Writing) (wrote : List HttpTask)
    → CannotRefuse (fail.Error error) old new wrote → ¬ (IsOpen old.output)
unwritten_failed error old new wrote cannot was_open =
    unwritten_broken error old new wrote cannot (cannot.stays_open was_open)

-- ---- at each end

-- however the hooks before the attempts ended, the response answers the request that it answered
pub end_answers_to : (how : End) (old new : Writing) (wrote : List HttpTask)
    → QueuesAtEnd how old new wrote → new.request ≡ old.request
end_answers_to end.Attempts old new wrote nothing = ap (λ (w : Writing). w.request) nothing.same
end_answers_to end.Answered old new wrote queues = queues.answers_to
end_answers_to end.Purge old new wrote nothing = ap (λ (w : Writing). w.request) nothing.same
end_answers_to end.Declined old new wrote queues = refusal_answers_to old new wrote queues
end_answers_to (end.Unwritten why) old new wrote cannot = cannot.answers_to
end_answers_to (end.Failed error) old new wrote nothing =
    ap (λ (w : Writing). w.request) nothing.same

-- and where no write had failed, none has
pub end_open : (how : End) (old new : Writing) (wrote : List HttpTask)
    → QueuesAtEnd how old new wrote → IsOpen old.output → IsOpen new.output
end_open end.Attempts old new wrote nothing was_open = same_open old new nothing.same was_open
end_open end.Answered old new wrote queues was_open = queues.stays_open was_open
end_open end.Purge old new wrote nothing was_open = same_open old new nothing.same was_open
end_open end.Declined old new wrote queues was_open = refusal_open old new wrote queues was_open
end_open (end.Unwritten why) old new wrote cannot was_open = cannot.stays_open was_open
end_open (end.Failed error) old new wrote nothing was_open =
    same_open old new nothing.same was_open
