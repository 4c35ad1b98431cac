-- How the task that a read gives is cut.
use Rattle.std.proofs.Common.{◌≡◌, ℕ, Bool, false, List, ◌++◌, refl}
use Rattle.relay_tasks.specs.declared.task.HttpTask.{HttpTask}
use Rattle.relay_tasks.specs.declared.task.HttpTask.TheVariants as task
use Rattle.relay_tasks.specs.declared.took.Took.{Took}
use Rattle.relay_tasks.specs.declared.took.Took.TheVariants as took
use Rattle.relay_links.specs.Link.{LinkState}
use Rattle.relay_peer.specs.declared.response_reading.ResponsePlace.{ResponsePlace}
use Rattle.relay_peer.specs.declared.response_reading.ResponsePlace.TheVariants as place
use Rattle.relay_peer.specs.declared.response_reading.ResponseReading.{ResponseReading}
use Rattle.relay_peer.specs.ResponseReading.{ReadsTask, Cuts, AnswerCuts, is_item}
use Rattle.relay_core.specs.Pipe.{is_failure}
use Rattle.relay_peer.specs.Peer.{CutsTask}

-- a task is cut as the client cut it
pub cuts_item : (method : List ℕ) (upgrade : Bool) (before after : LinkState)
    (old new : ResponseReading) (item : HttpTask)
    → ReadsTask method upgrade before after old new (took.Item item)
    → CutsTask before after old new (took.Item item)
cuts_item method upgrade before after old new item reads = record {
  came = reads.came;
  asked = reads.asked;
  asks = reads.asks;
  cuts = reads.cuts;
}

-- and it is no failure
pub cut_no_failure : (at : ResponsePlace) (bytes rest : List ℕ) (item : HttpTask)
    → Cuts at bytes item rest → is_failure item ≡ false
cut_no_failure at bytes rest (task.Header head end) cuts = refl
cut_no_failure at bytes rest (task.Body piece end) cuts = refl
cut_no_failure at bytes rest (task.UpgradedBody piece end) cuts = refl
cut_no_failure at bytes rest (task.Trailer fields) cuts = refl
cut_no_failure at bytes rest task.Done cuts = refl
cut_no_failure place.NoHead bytes rest (task.Failed error) cuts = absurd cuts
cut_no_failure place.Informed bytes rest (task.Failed error) cuts = absurd cuts
cut_no_failure (place.InBody body) bytes rest (task.Failed error) cuts = absurd cuts
cut_no_failure (place.Ended keeps) bytes rest (task.Failed error) cuts = absurd cuts

-- a read that gave no task
pub cuts_none : (method : List ℕ) (upgrade : Bool) (before after : LinkState)
    (old new : ResponseReading)
    (came given : Took HttpTask) → ReadsTask method upgrade before after old new came
    → is_item given ≡ false → CutsTask before after old new given
cuts_none method upgrade before after old new came given reads none = record {
  came = reads.came;
  asked = reads.asked;
  asks = reads.asks;
  cuts = no_task given none;
}
  where
    no_task : (answer : Took HttpTask) → is_item answer ≡ false
        → AnswerCuts old.place (old.ahead ++ reads.came) answer new.ahead
    no_task (took.Item item) none = absurd (cc)
    no_task took.More none = tt
    no_task (took.Waited pause) none = tt
    no_task took.End none = tt
    no_task (took.Failed fail) none = tt
