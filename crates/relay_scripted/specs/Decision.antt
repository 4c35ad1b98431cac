-- What the rules of a hook decide where the hook has nothing to change: whether it fails, what it
-- says, the answer that it gives the client, and the value that it keeps.
use Rattle.std.specs.Prelude.{ℕ, Bool, List, Option, None}
use Rattle.relay_tasks.specs.declared.error.Error.{Error}
use Rattle.relay_tasks.specs.declared.hook.Hook.{Hook}
use Rattle.relay_tasks.specs.declared.hook.Hook.TheVariants as hook
use Rattle.relay_script.specs.Actions.{on_failure, on_kept, on_said}
use Rattle.relay_script.specs.Fold.{apply_rules}
use Rattle.relay_script.specs.declared.rule.Action.{Action}
use Rattle.relay_script.specs.declared.rule.Action.TheVariants as action
use Rattle.relay_script.specs.declared.rule.Rule.{Rule}
use Rattle.relay_scripted.specs.declared.decision.Reply.{Reply}
use Rattle.relay_scripted.specs.declared.decision.Reply.TheVariants as reply

-- the error with which the hook fails: that of its first rule that fails
abbrev pub failure_of : List Rule → Hook → Option Error
failure_of rules on = apply_rules on_failure on rules None

-- what the hook says that says that by default: what its last rule says, if any
abbrev pub said_by : List Rule → Hook → Bool → Bool
said_by rules on by_default = apply_rules on_said on rules by_default

-- the value that is kept for the next request
abbrev pub kept_by : List Rule → Option ℕ
kept_by rules = apply_rules on_kept hook.PersistConnectionContext rules None

-- an answer to the client: `answer` gives its status
abbrev pub on_reply : Action → Reply → Reply
on_reply (action.Answer code say) given = reply.Status code
on_reply _ given = given

-- the answer that the hook gives the client
abbrev pub reply_of : List Rule → Hook → Reply
reply_of rules on = apply_rules on_reply on rules reply.Nothing
