-- Which action may stand on which hook.
use Rattle.std.specs.Prelude.{Bool, true, false}
use Rattle.relay_tasks.specs.declared.hook.Hook.{Hook}
use Rattle.relay_tasks.specs.declared.hook.Hook.TheVariants as hook
use Rattle.relay_script.specs.declared.rule.Action.{Action}
use Rattle.relay_script.specs.declared.rule.Action.TheVariants as action

-- a filter of a response's head
abbrev pub filters_response : Hook → Bool
filters_response hook.UpstreamResponseFilter = true
filters_response hook.ResponseFilter = true
filters_response hook.PurgeResponseFilter = true
filters_response _ = false

-- a filter of a head, that of a module among them
abbrev pub filters_head : Hook → Bool
filters_head hook.UpstreamRequestFilter = true
filters_head hook.ModuleRequestHeader = true
filters_head hook.ModuleResponseHeader = true
filters_head other = filters_response other

-- a filter of the pieces of a body
abbrev pub filters_body : Hook → Bool
filters_body hook.RequestBodyFilter = true
filters_body hook.UpstreamResponseBodyFilter = true
filters_body hook.ResponseBodyFilter = true
filters_body _ = false

-- a hook that may answer the client in the place of the upstream
abbrev pub may_answer : Hook → Bool
may_answer hook.RequestFilter = true
may_answer hook.ProxyUpstreamFilter = true
may_answer _ = false

-- a hook or a module's filter that may fail: those that answer a `Result`, without the two that
-- tell of an error that is there already
abbrev pub may_fail : Hook → Bool
may_fail hook.NewCtx = false
may_fail hook.AllowSpawningSubrequest = false
may_fail hook.Logging = false
may_fail hook.PersistConnectionContext = false
may_fail hook.OnConnectionReuse = false
may_fail hook.SuppressErrorLog = false
may_fail hook.SuppressProxyWarnLog = false
may_fail hook.ErrorWhileProxy = false
may_fail hook.FailToConnect = false
may_fail hook.FailToProxy = false
may_fail hook.RequestSummary = false
may_fail hook.IsPurge = false
may_fail hook.PurgeAction = false
may_fail _ = true

-- a hook that hands an error on
abbrev pub marks_error : Hook → Bool
marks_error hook.ErrorWhileProxy = true
marks_error hook.FailToConnect = true
marks_error _ = false

-- a hook that says yes or no
abbrev pub may_say : Hook → Bool
may_say hook.AllowSpawningSubrequest = true
may_say hook.ProxyUpstreamFilter = true
may_say hook.SuppressErrorLog = true
may_say hook.SuppressProxyWarnLog = true
may_say hook.IsPurge = true
may_say _ = false

-- the hook that keeps a value for the next request
abbrev pub may_keep : Hook → Bool
may_keep hook.PersistConnectionContext = true
may_keep _ = false

-- the hook that puts messages in front of a forwarding
abbrev pub may_inject : Hook → Bool
may_inject hook.CustomForwarding = true
may_inject _ = false

-- the table: whether the action may stand on the hook
abbrev pub may_stand : Hook → Action → Bool
may_stand on (action.Set name value) = filters_head on
may_stand on (action.Remove name) = filters_head on
may_stand on (action.Status code) = filters_response on
may_stand on action.Drop = filters_body on
may_stand on (action.Text text) = filters_body on
may_stand on (action.Answer code say) = may_answer on
may_stand on (action.Error etype) = may_fail on
may_stand on (action.Retry mark) = marks_error on
may_stand on (action.Say say) = may_say on
may_stand on (action.Keep value) = may_keep on
may_stand on (action.Inject up down) = may_inject on
