-- What a log tells of a purge: what the purger was asked, and its answer (RFC 9110, sections 7.1 and
-- 7.2).
use Rattle.std.specs.Prelude.{List, [], ◌∷◌, ◌++◌, Option, None, Some, if◌then◌else◌}
use Rattle.relay_tasks.specs.Head.{RequestHead}
use Rattle.relay_tasks.specs.Hooks.{same_hook}
use Rattle.relay_tasks.specs.declared.hook.Hook.TheVariants as hook
use Rattle.relay_tasks.specs.declared.log.Item.{Item}
use Rattle.relay_tasks.specs.declared.log.Item.TheVariants as item
use Rattle.relay_tasks.specs.declared.log.LogEntry.{LogEntry}
use Rattle.relay_tasks.specs.declared.peer.PurgeAction.{PurgeAction}
use Rattle.relay_tasks.specs.declared.peer.Purged.{Purged}
use Rattle.relay_links.specs.declared.purger.PurgeCall.{PurgeCall}
use Rattle.relay_session.specs.Summary.{first_host}

-- the action, the request's head, and the answer of a purger, that an item is
abbrev pub action_in : Item → Option PurgeAction
action_in (item.Action action) = Some action
action_in other = None

abbrev pub request_in : Item → Option RequestHead
request_in (item.Request head) = Some head
request_in other = None

abbrev pub answer_in : Item → Option Purged
answer_in (item.Status answer) = Some answer
answer_in other = None

-- the call of a purger for that request
abbrev pub call_for : PurgeAction → RequestHead → Purged → PurgeCall
call_for action head answer =
    record { action = action; host = first_host head; target = head.target; answer = answer }

abbrev pub call_of : Option PurgeAction → Option RequestHead → Option Purged → List PurgeCall
call_of (Some action) (Some head) (Some answer) = call_for action head answer ∷ []
call_of action head answer = []

-- the call of which two entries tell: one answered the action for the request, and the other was
-- told the answer
abbrev pub call_told : LogEntry → LogEntry → List PurgeCall
call_told asks answers =
    call_of (action_in asks.output) (request_in asks.input) (answer_in answers.input)

-- the calls of the purger that a log tells: one for each filter of an answer, with the action of the
-- entry before it
abbrev pub purges_in : List LogEntry → List PurgeCall
purges_in [] = []
purges_in (e ∷ []) = []
purges_in (e ∷ f ∷ es) =
    (if same_hook hook.PurgeResponseFilter f.hook then call_told e f else [])
    ++ purges_in (f ∷ es)
