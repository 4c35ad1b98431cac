-- The order of the calls of a request: where in its life a request stands, and where each call that
-- may come there leads.
--
-- A context is made; where the request before it on the connection left a value, the value is
-- handed over. Hooks then may stop the request or answer it themselves. Attempts follow: a peer is
-- named, a link to it is got, the head goes out, and filters run while the messages are relayed. An
-- error of an attempt is looked at by its hook and may lead to a further attempt; else it is final,
-- and the client is answered. Each request ends with `logging`.
use Rattle.std.specs.Prelude.{◌≡◌, ℕ, Bool, true, false, ◌&&◌, not, ◌==◌, List, [], ◌∷◌, Option, Some, None, is_none, if◌then◌else◌}
use Rattle.relay_tasks.specs.Error.{may_retry}
use Rattle.relay_tasks.specs.Hooks.{same_hook}
use Rattle.relay_tasks.specs.declared.hook.Hook.{Hook}
use Rattle.relay_tasks.specs.declared.hook.Hook.TheVariants as hook
use Rattle.relay_tasks.specs.declared.log.Item.{Item}
use Rattle.relay_tasks.specs.declared.log.Item.TheVariants as item
use Rattle.relay_tasks.specs.declared.log.LogEntry.{LogEntry}

-- ---- where a request stands

-- what was called last, as far as it tells which hooks may be called next
pub data Station : Type 0 where
  -- before the attempts
  accepted : Station  -- no hook was called; the head was accepted
  made : Station  -- the context was made
  handed : Station  -- the value that was kept was handed over
  early : Station  -- `early_request_filter` let the request go on
  spawning : Station  -- it was asked for subrequests, and the modules stand
  headed : Station  -- the modules filtered the head
  filtered : Station  -- `request_filter` let the request go on
  sending : Station  -- it is no purge
  purging : Station  -- it is a purge
  purged : Station  -- what a purge does was asked
  -- attempts
  trying : Station  -- an attempt is to begin
  named : Station  -- its peer is named
  linked : Station  -- it has a link to its peer
  sent : Station  -- its head was filtered and goes out
  relaying : Station  -- messages are relayed, and no task is between two filters
  at_piece : Station  -- the modules filtered a piece of the request's body
  at_head : Station  -- a head was filtered as it came from the upstream
  at_body : Station  -- a piece of the response's body was
  at_trailers : Station  -- the trailer fields were
  broken : Station  -- the attempt failed behind its link
  repeatable : Station  -- its error may be tried again, as far as the log tells
  warning : Station  -- the warning is to be written, with a summary of the request
  -- the end
  answered : Station  -- the answer of a hook or of a purge, or the relay's 502, is to be written
  failing : Station  -- an error is final
  told : Station  -- the client was answered for it
  reporting : Station  -- the error is to be written, with a summary of the request
  ending : Station  -- all but `logging` is over
  logged : Station  -- `logging` was called
  kept : Station  -- the client goes back, and what is kept for its next request was asked

-- ---- how a call came out

-- the ways in which calls come out that lead to different stations
pub data Way : Type 0 where
  well : Way  -- without an error
  badly : Way  -- with an error
  yes : Way  -- it answered true
  no : Way  -- it answered false
  again : Way  -- it answered an error that may be tried again
  final : Way  -- it answered one that may not

-- the item is that answer
abbrev pub is_answer : Bool → Item → Bool
is_answer true (item.Answer say) = say
is_answer false (item.Answer say) = not say
is_answer want other = false

-- the item is an error that is marked to be tried again
abbrev pub is_marked : Item → Bool
is_marked (item.Failure error) = may_retry error.retry
is_marked other = false

-- another attempt may follow, as far as the entry tells: the error that the hook answered is marked
-- so, no final head was queued, and all that was read of the request's body is kept. That the
-- attempts may be too many stands in no entry
abbrev pub may_try_again : LogEntry → Bool
may_try_again e = is_marked e.output && (not e.view.final_head && not e.view.truncated)

-- the call came out so
abbrev pub came : Way → LogEntry → Bool
came well e = is_none e.error
came badly e = not (is_none e.error)
came yes e = is_none e.error && is_answer true e.output
came no e = is_none e.error && is_answer false e.output
came again e = is_none e.error && may_try_again e
came final e = is_none e.error && not (may_try_again e)

-- ---- the table

-- a call that may come: which hook, how it came out, and where the request stands then
pub record Move : Type 0 where
  pub which : Hook
  pub way : Way
  pub to : Station

abbrev pub move : Hook → Way → Station → Move
move which way to = record { which = which; way = way; to = to }

-- the calls while messages are relayed, where no task is between two filters
abbrev pub while_relaying : List Move
while_relaying =
    move hook.ModuleRequestBody well at_piece
    ∷ move hook.ModuleRequestBody badly broken
    ∷ move hook.RequestBodyFilter well relaying
    ∷ move hook.RequestBodyFilter badly broken
    ∷ move hook.UpstreamResponseFilter well at_head
    ∷ move hook.UpstreamResponseFilter badly broken
    ∷ move hook.UpstreamResponseBodyFilter well at_body
    ∷ move hook.UpstreamResponseBodyFilter badly broken
    ∷ move hook.UpstreamResponseTrailerFilter well at_trailers
    ∷ move hook.UpstreamResponseTrailerFilter badly broken
    ∷ move hook.ModuleResponseHeader well relaying
    ∷ move hook.ModuleResponseHeader badly broken
    ∷ move hook.ModuleResponseBody well relaying
    ∷ move hook.ModuleResponseBody badly broken
    ∷ move hook.ModuleResponseTrailer well relaying
    ∷ move hook.ModuleResponseTrailer badly broken
    ∷ move hook.ModuleResponseDone well relaying
    ∷ move hook.ModuleResponseDone badly broken
    ∷ move hook.DownstreamCustomMessageProxyFilter well relaying
    ∷ move hook.DownstreamCustomMessageProxyFilter badly broken
    ∷ move hook.UpstreamCustomMessageProxyFilter well relaying
    ∷ move hook.UpstreamCustomMessageProxyFilter badly broken
    ∷ move hook.ErrorWhileProxy again repeatable  -- a fault of a link
    ∷ move hook.ErrorWhileProxy final failing
    ∷ move hook.Logging well logged  -- both messages are whole
    ∷ []

-- the calls that may come where a request stands
abbrev pub moves : Station → List Move
moves accepted = move hook.NewCtx well made ∷ []
moves made =
    move hook.OnConnectionReuse well handed
    ∷ move hook.EarlyRequestFilter well early
    ∷ move hook.EarlyRequestFilter badly failing
    ∷ []
moves handed =
    move hook.EarlyRequestFilter well early
    ∷ move hook.EarlyRequestFilter badly failing
    ∷ []
moves early =
    move hook.AllowSpawningSubrequest well spawning
    ∷ move hook.AllowSpawningSubrequest badly failing  -- the modules were not made
    ∷ []
moves spawning =
    move hook.ModuleRequestHeader well headed
    ∷ move hook.ModuleRequestHeader badly failing
    ∷ move hook.RequestFilter yes answered  -- without modules
    ∷ move hook.RequestFilter no filtered
    ∷ move hook.RequestFilter badly failing
    ∷ []
moves headed =
    move hook.RequestFilter yes answered
    ∷ move hook.RequestFilter no filtered
    ∷ move hook.RequestFilter badly failing
    ∷ []
moves filtered =
    move hook.IsPurge yes purging
    ∷ move hook.IsPurge no sending
    ∷ []
moves purging = move hook.PurgeAction well purged ∷ []
moves purged =
    move hook.PurgeResponseFilter well answered
    ∷ move hook.PurgeResponseFilter badly answered  -- by 500
    ∷ []
moves sending =
    move hook.ProxyUpstreamFilter yes trying
    ∷ move hook.ProxyUpstreamFilter no answered
    ∷ move hook.ProxyUpstreamFilter badly failing
    ∷ []
moves trying =
    move hook.UpstreamPeer well named
    ∷ move hook.UpstreamPeer badly failing
    ∷ []
moves named =
    move hook.FailToConnect again repeatable
    ∷ move hook.FailToConnect final failing
    ∷ move hook.ConnectedToUpstream well linked
    ∷ move hook.ConnectedToUpstream badly broken
    ∷ []
moves linked =
    move hook.UpstreamRequestFilter well sent
    ∷ move hook.UpstreamRequestFilter badly broken
    ∷ move hook.ErrorWhileProxy again repeatable  -- the head was refused before its filter
    ∷ move hook.ErrorWhileProxy final failing
    ∷ []
moves sent =
    move hook.CustomForwarding well relaying
    ∷ move hook.CustomForwarding badly broken
    ∷ while_relaying
moves relaying = while_relaying
moves at_piece =
    move hook.RequestBodyFilter well relaying
    ∷ move hook.RequestBodyFilter badly broken
    ∷ []
moves at_head =
    move hook.ResponseFilter well relaying
    ∷ move hook.ResponseFilter badly broken
    ∷ move hook.ErrorWhileProxy again repeatable  -- a 101 was refused
    ∷ move hook.ErrorWhileProxy final failing
    ∷ []
moves at_body =
    move hook.ResponseBodyFilter well relaying
    ∷ move hook.ResponseBodyFilter badly broken
    ∷ []
moves at_trailers =
    move hook.ResponseTrailerFilter well relaying
    ∷ move hook.ResponseTrailerFilter badly relaying  -- the fields go on as they are
    ∷ while_relaying  -- over HTTP/1 there is no second filter
moves broken =
    move hook.ErrorWhileProxy again repeatable
    ∷ move hook.ErrorWhileProxy final failing
    ∷ []
moves repeatable =
    move hook.SuppressProxyWarnLog yes trying
    ∷ move hook.SuppressProxyWarnLog no warning
    ∷ move hook.FailToProxy well told  -- the attempts were too many
    ∷ []
moves warning = move hook.RequestSummary well trying ∷ []
moves answered =
    move hook.Logging well logged
    ∷ move hook.FailToProxy well told  -- the answer could not be written
    ∷ []
moves failing = move hook.FailToProxy well told ∷ []
moves told =
    move hook.SuppressErrorLog yes ending
    ∷ move hook.SuppressErrorLog no reporting
    ∷ []
moves reporting = move hook.RequestSummary well ending ∷ []
moves ending = move hook.Logging well logged ∷ []
moves logged = move hook.PersistConnectionContext well kept ∷ []
moves kept = []

-- ---- a log in order

-- the entry tells that call
abbrev pub is_told : Move → LogEntry → Bool
is_told m e = same_hook m.which e.hook && came m.way e

-- where the first of those calls that the entry tells leads
abbrev pub first_told : List Move → LogEntry → Option Station
first_told [] e = None
first_told (m ∷ ms) e = if is_told m e then Some m.to else first_told ms e

-- where a call leads; nowhere where it may not come there. No entry tells two calls of one station
abbrev pub next : Station → LogEntry → Option Station
next at e = first_told (moves at) e

-- where the calls of a log lead, one behind the other
abbrev pub next_behind : Option Station → List LogEntry → Option Station
next_behind at [] = at
next_behind None (e ∷ es) = None
next_behind (Some at) (e ∷ es) = next_behind (next at e) es

-- the calls of the log come in order, and lead from one station to the other
abbrev pub Accepts : Station → List LogEntry → Station → Type 0
Accepts from log to = next_behind (Some from) log ≡ Some to
