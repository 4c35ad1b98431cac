-- The relation of the default hooks: the one entry that each call of one makes.
use Rattle.std.specs.Prelude.{◌≡◌, ℕ, ◌⊎◌, Bool, true, false, ◌&&◌, not, nat_lt, List, [], ◌∷◌, Option, None, if◌then◌else◌}
use Rattle.relay_tasks.specs.declared.error.Error.{Error}
use Rattle.relay_tasks.specs.declared.hook.Hook.{Hook}
use Rattle.relay_tasks.specs.declared.hook.Hook.TheVariants as hook
use Rattle.relay_tasks.specs.declared.log.Item.{Item}
use Rattle.relay_tasks.specs.declared.log.Item.TheVariants as item
use Rattle.relay_tasks.specs.declared.log.LogEntry.{LogEntry}
use Rattle.relay_tasks.specs.declared.peer.Peer.{Peer}
use Rattle.relay_tasks.specs.declared.peer.PurgeAction.TheVariants.{Delete}
use Rattle.relay_tasks.specs.declared.peer.Purged.TheVariants as purged
use Rattle.relay_tasks.specs.declared.task.HttpTask.{HttpTask}
use Rattle.relay_tasks.specs.declared.task.HttpTask.TheVariants as task
use Rattle.relay_session.specs.Generated.{generated_head}
use Rattle.relay_session.specs.Summary.{request_summary}
use Rattle.relay_session.specs.declared.writing.Outgoing.{Outgoing}
use Rattle.relay_session.specs.declared.writing.Outgoing.TheVariants as outgoing
use Rattle.relay_modules.specs.Seen.{Notes}
use Rattle.relay_modules.specs.declared.seen.Seen.{Seen}
use Rattle.relay_hooks.specs.DefaultAnswer.{marked_for_retry, answer_code}
use Rattle.relay_hooks.specs.Standing.{Standing}

-- ---- the answer to a final error

-- the answer with that status, which has no body
abbrev pub lone_answer : ℕ → List HttpTask
lone_answer code = task.Header (generated_head code 0) true ∷ []

-- there is someone to answer: the status is one, and no final head was queued
abbrev pub is_owed : ℕ → Bool → Bool
is_owed code has_final = nat_lt 0 code && not has_final

-- the answer was queued, and noted; where a write failed before, nothing is, and nothing changes
abbrev pub AnswersOn : Outgoing → ℕ → Seen → Seen → Type 0
AnswersOn (outgoing.Open queue) code old new = Notes (lone_answer code) old new
AnswersOn (outgoing.Broken fault) code old new = new ≡ old

-- the answer was queued where one is owed, and nothing has changed where none is
abbrev pub AnswersIf : Bool → ℕ → Seen → Seen → Type 0
AnswersIf true code old new = AnswersOn old.downstream.writing.output code old new
AnswersIf false code old new = new ≡ old

-- ---- the entries

-- the error of an attempt, as the default marks it
abbrev pub marked : Standing → Item → Item
marked st item.Nothing = item.Nothing
marked st (item.Request head) = item.Nothing
marked st (item.Response head end) = item.Nothing
marked st (item.Piece bytes end) = item.Nothing
marked st (item.Trailers fields) = item.Nothing
marked st (item.Message bytes hop) = item.Nothing
marked st (item.Answer say) = item.Nothing
marked st (item.Addressed peer reused) = item.Nothing
marked st (item.Failure error) =
    item.Failure (marked_for_retry st.head.method st.view.truncated st.reused error)
marked st (item.Code code reuse) = item.Nothing
marked st (item.Status answer) = item.Nothing
marked st (item.Action action) = item.Nothing
marked st (item.Text bytes) = item.Nothing
marked st (item.Kept some) = item.Nothing
marked st (item.Injected lists) = item.Nothing

-- the status with which the default answers the error
abbrev pub code_for : Item → ℕ
code_for item.Nothing = 0
code_for (item.Request head) = 0
code_for (item.Response head end) = 0
code_for (item.Piece bytes end) = 0
code_for (item.Trailers fields) = 0
code_for (item.Message bytes hop) = 0
code_for (item.Answer say) = 0
code_for (item.Addressed peer reused) = 0
code_for (item.Failure error) = answer_code error.esource error.etype
code_for (item.Code code reuse) = 0
code_for (item.Status answer) = 0
code_for (item.Action action) = 0
code_for (item.Text bytes) = 0
code_for (item.Kept some) = 0
code_for (item.Injected lists) = 0

-- the head with which a purge is answered
abbrev pub purge_answer : Item → Item
purge_answer item.Nothing = item.Nothing
purge_answer (item.Request head) = item.Nothing
purge_answer (item.Response head end) = item.Nothing
purge_answer (item.Piece bytes end) = item.Nothing
purge_answer (item.Trailers fields) = item.Nothing
purge_answer (item.Message bytes hop) = item.Nothing
purge_answer (item.Answer say) = item.Nothing
purge_answer (item.Addressed peer reused) = item.Nothing
purge_answer (item.Failure error) = item.Nothing
purge_answer (item.Code code reuse) = item.Nothing
purge_answer (item.Status purged.NoCache) = item.Response (generated_head 405 0) true
purge_answer (item.Status purged.Found) = item.Response (generated_head 200 0) true
purge_answer (item.Status purged.NotFound) = item.Response (generated_head 404 0) true
purge_answer (item.Status (purged.Failed fault)) = item.Response (generated_head 500 0) true
purge_answer (item.Status purged.OutOfMemory) = item.Nothing
purge_answer (item.Action action) = item.Nothing
purge_answer (item.Text bytes) = item.Nothing
purge_answer (item.Kept some) = item.Nothing
purge_answer (item.Injected lists) = item.Nothing

-- what each default leaves or answers
abbrev pub default_output : Peer → Standing → Hook → Item → Item
default_output peer st hook.NewCtx input = item.Nothing
default_output peer st hook.UpstreamPeer input = item.Addressed peer false
default_output peer st hook.InitDownstreamModules input = item.Nothing
default_output peer st hook.EarlyRequestFilter input = item.Nothing
default_output peer st hook.AllowSpawningSubrequest input = item.Answer false
default_output peer st hook.RequestFilter input = item.Answer false
default_output peer st hook.RequestBodyFilter input = input
default_output peer st hook.ProxyUpstreamFilter input = item.Answer true
default_output peer st hook.UpstreamRequestFilter input = input
default_output peer st hook.UpstreamResponseFilter input = input
default_output peer st hook.ResponseFilter input = input
default_output peer st hook.CustomForwarding input =
    item.Injected (record { to_upstream = []; to_downstream = [] })
default_output peer st hook.DownstreamCustomMessageProxyFilter input = input
default_output peer st hook.UpstreamCustomMessageProxyFilter input = input
default_output peer st hook.UpstreamResponseBodyFilter input = input
default_output peer st hook.UpstreamResponseTrailerFilter input = input
default_output peer st hook.ResponseBodyFilter input = input
default_output peer st hook.ResponseTrailerFilter input = input
default_output peer st hook.Logging input = item.Nothing
default_output peer st hook.PersistConnectionContext input = item.Kept false
default_output peer st hook.OnConnectionReuse input = item.Nothing
default_output peer st hook.SuppressErrorLog input = item.Answer false
default_output peer st hook.SuppressProxyWarnLog input = item.Answer false
default_output peer st hook.ErrorWhileProxy input = marked st input
default_output peer st hook.FailToConnect input = input
default_output peer st hook.FailToProxy input = item.Code (code_for input) false
default_output peer st hook.ConnectedToUpstream input = item.Nothing
default_output peer st hook.RequestSummary input = item.Text (request_summary st.head)
default_output peer st hook.IsPurge input = item.Answer false
default_output peer st hook.PurgeAction input = item.Action Delete
default_output peer st hook.PurgeResponseFilter input = purge_answer input
default_output peer st hook.ModuleRequestHeader input = input
default_output peer st hook.ModuleRequestBody input = input
default_output peer st hook.ModuleResponseHeader input = input
default_output peer st hook.ModuleResponseBody input = input
default_output peer st hook.ModuleResponseTrailer input = input
default_output peer st hook.ModuleResponseDone input = input

-- the answer to an error, where one is owed and no write failed before
abbrev pub DefaultWrote : ℕ → Bool → List HttpTask → Type 0
DefaultWrote code true wrote = (wrote ≡ lone_answer code) ⊎ (wrote ≡ [])
DefaultWrote code false wrote = wrote ≡ []

-- what the defaults queue: an answer to a final error, and nothing else
abbrev pub IsDefaultWrote : Standing → Hook → Item → List HttpTask → Type 0
IsDefaultWrote st hook.FailToProxy input wrote =
    DefaultWrote (code_for input) (is_owed (code_for input) st.view.final_head) wrote
IsDefaultWrote st other input wrote = wrote ≡ []

-- the entry of a call of a default hook: nothing of the session changes but what `fail_to_proxy`
-- queues, and there is no error
pub record IsDefault (peer : Peer) (st : Standing) (e : LogEntry) : Type 0 where
  pub before : e.mark_before ≡ st.mark
  pub after : e.mark_after ≡ st.mark
  pub output : e.output ≡ default_output peer st e.hook e.input
  pub wrote : IsDefaultWrote st e.hook e.input e.wrote
  pub error : e.error ≡ None
  pub head : e.head ≡ None
  pub keepalive : e.keepalive ≡ st.keepalive
  pub delay : e.delay ≡ None
