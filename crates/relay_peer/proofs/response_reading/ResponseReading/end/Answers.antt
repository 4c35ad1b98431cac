-- A task at the end of the link is one that its place gave.
use Rattle.std.proofs.Common.{subst, sym}
use Rattle.relay_tasks.specs.declared.task.HttpTask.{HttpTask}
use Rattle.relay_peer.specs.declared.response_reading.Found.{Found}
use Rattle.relay_peer.specs.ResponseReading.{Cuts, FoundCuts}
use Rattle.relay_peer.proofs.response_reading.ResponseReading.end.Goals as goal

pub returns-in-Task-clause-cuts : goal.returns-in-Task-clause-cuts
returns-in-Task-clause-cuts c = λ bytes rest.
    let cuts = rw c.replace-place.ensures.value at c.end_of_link-step.ensures.cuts bytes rest in
    let found =
    subst (λ (here : Found). FoundCuts c.args.self.now.place c.end_of_link-step.result.place bytes
    rest here) c.in-Task.is cuts in
    subst (λ (task : HttpTask). Cuts c.args.self.now.place bytes task rest) (sym c.in-Task.task-is)
    found
