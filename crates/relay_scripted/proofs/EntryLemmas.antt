-- The entry of a call that answers the client.
use Rattle.std.proofs.Common.{◌≡◌, ℕ, Bool, List, refl, inl}
use Rattle.relay_tasks.specs.declared.log.Item.{Item}
use Rattle.relay_tasks.specs.declared.log.Item.TheVariants as item
use Rattle.relay_tasks.specs.declared.task.HttpTask.{HttpTask}
use Rattle.relay_hooks.specs.DefaultLaw.{lone_answer}
use Rattle.relay_script.specs.Fold.{Outcome, goes_on}
use Rattle.relay_scripted.specs.Scripted.{MayReply}
use Rattle.relay_scripted.specs.declared.decision.Reply.{Reply}
use Rattle.relay_scripted.specs.declared.decision.Reply.TheVariants as reply

-- a rule answers, and the answer was queued
pub replied : (given : Reply) (say : Bool) (other : Outcome Item) (code : ℕ) (wrote : List HttpTask)
    → given ≡ reply.Status code → wrote ≡ lone_answer code
    → MayReply given say other (goes_on (item.Answer say)) wrote
replied given say other code wrote is queued = rw is (inl (refl, queued))
