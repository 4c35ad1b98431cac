-- The relation of an application that is made of filters: its calls keep the laws, and its mark
-- counts them.
use Rattle.std.specs.Prelude.{◌≡◌, ℕ, Bool, true, false, ◌||◌, List, [], Option, Some, None}
use Rattle.relay_tasks.specs.Head.{ResponseHead}
use Rattle.relay_tasks.specs.declared.error.Error.{Error}
use Rattle.relay_tasks.specs.declared.hook.Hook.{Hook}
use Rattle.relay_tasks.specs.declared.hook.Hook.TheVariants as hook
use Rattle.relay_tasks.specs.declared.log.Item.{Item}
use Rattle.relay_tasks.specs.declared.log.Item.TheVariants as item
use Rattle.relay_tasks.specs.declared.log.LogEntry.{LogEntry}
use Rattle.relay_tasks.specs.declared.task.HttpTask.{HttpTask}
use Rattle.relay_links.specs.Count.{up}
use Rattle.relay_hooks.specs.Answer.{is_empty, is_whole, is_answer}
use Rattle.relay_hooks.specs.Laws.{KeepsKind, IsBodiless}
use Rattle.relay_hooks.specs.Standing.{Standing}

-- the hook may change its context: each that is not handed it to be read alone
abbrev pub gets_context : Hook → Bool
gets_context hook.NewCtx = false
gets_context hook.UpstreamPeer = true
gets_context hook.InitDownstreamModules = false
gets_context hook.EarlyRequestFilter = true
gets_context hook.AllowSpawningSubrequest = false
gets_context hook.RequestFilter = true
gets_context hook.RequestBodyFilter = true
gets_context hook.ProxyUpstreamFilter = true
gets_context hook.UpstreamRequestFilter = true
gets_context hook.UpstreamResponseFilter = true
gets_context hook.ResponseFilter = true
gets_context hook.CustomForwarding = true
gets_context hook.DownstreamCustomMessageProxyFilter = true
gets_context hook.UpstreamCustomMessageProxyFilter = true
gets_context hook.UpstreamResponseBodyFilter = true
gets_context hook.UpstreamResponseTrailerFilter = true
gets_context hook.ResponseBodyFilter = true
gets_context hook.ResponseTrailerFilter = true
gets_context hook.Logging = true
gets_context hook.PersistConnectionContext = false
gets_context hook.OnConnectionReuse = true
gets_context hook.SuppressErrorLog = false
gets_context hook.SuppressProxyWarnLog = false
gets_context hook.ErrorWhileProxy = true
gets_context hook.FailToConnect = true
gets_context hook.FailToProxy = true
gets_context hook.ConnectedToUpstream = true
gets_context hook.RequestSummary = false
gets_context hook.IsPurge = false
gets_context hook.PurgeAction = false
gets_context hook.PurgeResponseFilter = true
gets_context hook.ModuleRequestHeader = false
gets_context hook.ModuleRequestBody = false
gets_context hook.ModuleResponseHeader = false
gets_context hook.ModuleResponseBody = false
gets_context hook.ModuleResponseTrailer = false
gets_context hook.ModuleResponseDone = false

-- the mark behind a call: one more where the hook may change its context; at its last value it
-- stays
abbrev pub next_mark : Bool → ℕ → ℕ
next_mark true mark = up mark
next_mark false mark = mark

-- with true one whole final answer is queued, else nothing
abbrev pub AnswersTrue : Item → List HttpTask → Type 0
AnswersTrue (item.Answer true) wrote = is_whole wrote ≡ true
AnswersTrue other wrote = wrote ≡ []

-- what a hook may have queued, by what it answered
abbrev pub MayQueue : Hook → Item → List HttpTask → Type 0
MayQueue hook.RequestFilter output wrote = AnswersTrue output wrote
MayQueue hook.FailToProxy output wrote = is_empty wrote || is_answer wrote ≡ true
MayQueue other output wrote = wrote ≡ []

-- that head is left, of the same kind
abbrev pub IsKind : ResponseHead → Item → Type 0
IsKind old (item.Response new end) = KeepsKind old new
IsKind old other = Unit {0}

-- a head of a response keeps its kind
abbrev pub KeepsKindIn : Item → Item → Type 0
KeepsKindIn (item.Response old end) output = IsKind old output
KeepsKindIn other output = Unit {0}

-- the entry of a lawful call: the mark moves on where the hook may change its context, a head keeps
-- its kind, and nothing is queued that the laws forbid
pub record IsLawful (st : Standing) (e : LogEntry) : Type 0 where
  pub before : e.mark_before ≡ st.mark
  pub after : e.mark_after ≡ next_mark (gets_context e.hook) st.mark
  pub kind : KeepsKindIn e.input e.output
  pub queued : MayQueue e.hook e.output e.wrote
