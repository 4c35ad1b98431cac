-- The relation of a scripted application: which entry each call of a hook makes, by the rules of
-- that hook.
use Rattle.std.specs.Prelude.{◌≡◌, ◌⊎◌, Bool, true, false, List, [], Option, Some, None, is_some}
use Rattle.relay_tasks.specs.declared.error.Error.{Error}
use Rattle.relay_tasks.specs.declared.hook.Hook.{Hook}
use Rattle.relay_tasks.specs.declared.hook.Hook.TheVariants as hook
use Rattle.relay_tasks.specs.declared.log.Item.{Item}
use Rattle.relay_tasks.specs.declared.log.Item.TheVariants as item
use Rattle.relay_tasks.specs.declared.log.LogEntry.{LogEntry}
use Rattle.relay_tasks.specs.declared.message.Injected.{Injected}
use Rattle.relay_tasks.specs.declared.peer.Peer.{Peer}
use Rattle.relay_tasks.specs.declared.task.HttpTask.{HttpTask}
use Rattle.relay_hooks.specs.DefaultLaw.{IsDefaultWrote, default_output, lone_answer, marked, purge_answer}
use Rattle.relay_hooks.specs.Lawful.{gets_context, next_mark}
use Rattle.relay_hooks.specs.Standing.{Standing}
use Rattle.relay_script.specs.Actions.{on_error, on_injected, on_piece, on_request, on_response}
use Rattle.relay_script.specs.Fold.{Outcome, apply_rules, goes_on, run_rules, stops}
use Rattle.relay_script.specs.declared.rule.Rule.{Rule}
use Rattle.relay_scripted.specs.Decision.{failure_of, kept_by, reply_of, said_by}
use Rattle.relay_scripted.specs.Reply.{IsWriteFault}
use Rattle.relay_scripted.specs.declared.decision.Reply.{Reply}
use Rattle.relay_scripted.specs.declared.decision.Reply.TheVariants as reply

-- ---- what the rules of a hook make of its input or its answer

-- what was made of a value, as an item
abbrev pub as_item : {X : Type 0} → (X → Item) → Outcome X → Outcome Item
as_item says outcome = record { left = says outcome.left; error = outcome.error }

-- what goes on of an item that no rule changes: all of it, also where a rule fails at it
abbrev pub left_unless : Option Error → Item → Outcome Item
left_unless None input = goes_on input
left_unless (Some error) input = stops input error

-- what a filter leaves of what it is given: its rules run on a head, on a piece, on an error that
-- is handed on; trailer fields stay
abbrev pub filtered : List Rule → Hook → Item → Outcome Item
filtered rules on (item.Request head) = as_item item.Request (run_rules on_request on rules head)
filtered rules on (item.Response head end) =
    as_item (λ left. item.Response left end) (run_rules on_response on rules head)
filtered rules on (item.Piece bytes end) =
    as_item (λ left. item.Piece left end) (run_rules on_piece on rules bytes)
filtered rules on (item.Failure error) =
    goes_on (item.Failure (apply_rules on_error on rules error))
filtered rules on (item.Trailers fields) = left_unless (failure_of rules on) (item.Trailers fields)
filtered rules on other = goes_on other

-- what a hook answers: that, or nothing where its rules fail
abbrev pub answered_unless : Option Error → Item → Outcome Item
answered_unless None output = goes_on output
answered_unless (Some error) output = stops item.Nothing error

-- what a hook says that says that by default
abbrev pub says : List Rule → Hook → Bool → Outcome Item
says rules on by_default = goes_on (item.Answer (said_by rules on by_default))

-- no message on either side
abbrev pub no_messages : Injected
no_messages = record { to_upstream = []; to_downstream = [] }

-- the messages that are put in front of a forwarding, or nothing where the rules fail
abbrev pub forwarded : Outcome Injected → Outcome Item
forwarded sent = answered_unless sent.error (item.Injected sent.left)

-- ---- each hook

-- what each hook leaves or answers, and the error that ended its rules: the default, and what the
-- rules of the hook make of it
abbrev pub scripted : List Rule → Peer → Standing → Hook → Item → Outcome Item
scripted rules peer st hook.UpstreamPeer input =
    answered_unless (failure_of rules hook.UpstreamPeer) (item.Addressed peer false)
scripted rules peer st hook.EarlyRequestFilter input =
    answered_unless (failure_of rules hook.EarlyRequestFilter) item.Nothing
scripted rules peer st hook.AllowSpawningSubrequest input =
    says rules hook.AllowSpawningSubrequest false
scripted rules peer st hook.RequestFilter input =
    answered_unless (failure_of rules hook.RequestFilter) (item.Answer false)
scripted rules peer st hook.RequestBodyFilter input = filtered rules hook.RequestBodyFilter input
scripted rules peer st hook.ProxyUpstreamFilter input =
    answered_unless (failure_of rules hook.ProxyUpstreamFilter)
    (item.Answer (said_by rules hook.ProxyUpstreamFilter true))
scripted rules peer st hook.UpstreamRequestFilter input =
    filtered rules hook.UpstreamRequestFilter input
scripted rules peer st hook.UpstreamResponseFilter input =
    filtered rules hook.UpstreamResponseFilter input
scripted rules peer st hook.ResponseFilter input = filtered rules hook.ResponseFilter input
scripted rules peer st hook.CustomForwarding input =
    forwarded (run_rules on_injected hook.CustomForwarding rules no_messages)
scripted rules peer st hook.DownstreamCustomMessageProxyFilter input =
    answered_unless (failure_of rules hook.DownstreamCustomMessageProxyFilter) input
scripted rules peer st hook.UpstreamCustomMessageProxyFilter input =
    answered_unless (failure_of rules hook.UpstreamCustomMessageProxyFilter) input
scripted rules peer st hook.UpstreamResponseBodyFilter input =
    filtered rules hook.UpstreamResponseBodyFilter input
scripted rules peer st hook.UpstreamResponseTrailerFilter input =
    filtered rules hook.UpstreamResponseTrailerFilter input
scripted rules peer st hook.ResponseBodyFilter input = filtered rules hook.ResponseBodyFilter input
scripted rules peer st hook.ResponseTrailerFilter input =
    filtered rules hook.ResponseTrailerFilter input
scripted rules peer st hook.PersistConnectionContext input =
    goes_on (item.Kept (is_some (kept_by rules)))
scripted rules peer st hook.SuppressErrorLog input = says rules hook.SuppressErrorLog false
scripted rules peer st hook.SuppressProxyWarnLog input = says rules hook.SuppressProxyWarnLog false
scripted rules peer st hook.ErrorWhileProxy input =
    filtered rules hook.ErrorWhileProxy (marked st input)
scripted rules peer st hook.FailToConnect input = filtered rules hook.FailToConnect input
scripted rules peer st hook.ConnectedToUpstream input =
    answered_unless (failure_of rules hook.ConnectedToUpstream) item.Nothing
scripted rules peer st hook.IsPurge input = says rules hook.IsPurge false
scripted rules peer st hook.PurgeResponseFilter input =
    filtered rules hook.PurgeResponseFilter (purge_answer input)
scripted rules peer st other input = goes_on (default_output peer st other input)

-- ---- the entries

-- a hook that may answer the client: where a rule answers it is queued, and the hook says so; or a
-- write had failed before, of which the hook fails. Where no rule answers, the other rules run
abbrev pub MayReply : Reply → Bool → Outcome Item → Outcome Item → List HttpTask → Type 0
MayReply (reply.Status code) say other did wrote =
    ((did ≡ goes_on (item.Answer say)) × (wrote ≡ lone_answer code))
    ⊎ ((error : Error) × IsWriteFault error × (did ≡ stops item.Nothing error) × (wrote ≡ []))
MayReply reply.Nothing say other did wrote = (did ≡ other) × (wrote ≡ [])

-- the entry tells of the call, and maybe of the error of making modules, which has no entry of its
-- own
abbrev pub MayTell : Option Error → Outcome Item → Outcome Item → Type 0
MayTell making other did = (did ≡ other) ⊎ (did ≡ record other { error = making })

-- what a call of a hook leaves or answers, its error, and what it queues
abbrev pub Does : List Rule → Peer → Standing → Hook → Item → Outcome Item → List HttpTask → Type 0
Does rules peer st hook.AllowSpawningSubrequest input did wrote =
    MayTell (failure_of rules hook.InitDownstreamModules)
    (scripted rules peer st hook.AllowSpawningSubrequest input) did
    × (wrote ≡ [])
Does rules peer st hook.RequestFilter input did wrote =
    MayReply (reply_of rules hook.RequestFilter) true
    (scripted rules peer st hook.RequestFilter input) did wrote
Does rules peer st hook.ProxyUpstreamFilter input did wrote =
    MayReply (reply_of rules hook.ProxyUpstreamFilter) false
    (scripted rules peer st hook.ProxyUpstreamFilter input) did wrote
Does rules peer st other input did wrote =
    (did ≡ scripted rules peer st other input) × IsDefaultWrote st other input wrote

-- the entry of a call: the mark counts the calls that get the context, the hook does what its rules
-- say, and the request's head and the keepalive flag stay
pub record IsScripted (rules : List Rule) (peer : Peer) (st : Standing) (e : LogEntry)
    : Type 0 where
  pub before : e.mark_before ≡ st.mark
  pub after : e.mark_after ≡ next_mark (gets_context e.hook) st.mark
  pub does : Does rules peer st e.hook e.input (record { left = e.output; error = e.error }) e.wrote
  pub head : e.head ≡ None
  pub keepalive : e.keepalive ≡ st.keepalive
  pub delay : e.delay ≡ None
