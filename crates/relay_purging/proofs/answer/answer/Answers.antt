-- Where the head could not be queued a write had failed, or memory was wanted.
use Rattle.std.proofs.Common.{true, List, [], ◌∷◌, ◌++◌, ◌∙◌, ap, subst}
use Rattle.relay_tasks.specs.declared.task.HttpTask.{HttpTask}
use Rattle.relay_tasks.specs.declared.task.HttpTask.TheVariants as task
use Rattle.relay_modules.specs.Seen.{CannotQueue}
use Rattle.relay_purging.proofs.QueuedLemmas.{cannot_behind}
use Rattle.relay_purging.proofs.answer.answer.Goals as goal

pub returns-in-Err-queue_tasks : goal.returns-in-Err-queue_tasks
returns-in-Err-queue_tasks c =
    let old = c.args.seen.now in
    let new = c.queue_tasks.new.self in
    cannot_behind c.args.head old new c.in-Err-queue_tasks.why c.requires.bodiless
    c.requires.open_to
    (subst (λ (l : List HttpTask). CannotQueue l old new c.in-Err-queue_tasks.why)
    (c.in_default.ensures.ok
    ∙ ap (λ (l : List HttpTask). l ++ task.Header c.args.head true ∷ []) c.new-tasks.ensures)
    c.in-Err-queue_tasks.ensures.err)
