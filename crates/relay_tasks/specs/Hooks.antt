-- The hooks, told apart by their place among all hooks.
use Rattle.std.specs.Prelude.{ℕ, Bool, ◌==◌}
use Rattle.relay_tasks.specs.declared.hook.Hook.{Hook}
use Rattle.relay_tasks.specs.declared.hook.Hook.TheVariants as hook

-- the place of a hook among all hooks, counted from 0
abbrev pub number_of : Hook → ℕ
number_of hook.NewCtx = 0
number_of hook.UpstreamPeer = 1
number_of hook.InitDownstreamModules = 2
number_of hook.EarlyRequestFilter = 3
number_of hook.AllowSpawningSubrequest = 4
number_of hook.RequestFilter = 5
number_of hook.RequestBodyFilter = 6
number_of hook.ProxyUpstreamFilter = 7
number_of hook.UpstreamRequestFilter = 8
number_of hook.UpstreamResponseFilter = 9
number_of hook.ResponseFilter = 10
number_of hook.CustomForwarding = 11
number_of hook.DownstreamCustomMessageProxyFilter = 12
number_of hook.UpstreamCustomMessageProxyFilter = 13
number_of hook.UpstreamResponseBodyFilter = 14
number_of hook.UpstreamResponseTrailerFilter = 15
number_of hook.ResponseBodyFilter = 16
number_of hook.ResponseTrailerFilter = 17
number_of hook.Logging = 18
number_of hook.PersistConnectionContext = 19
number_of hook.OnConnectionReuse = 20
number_of hook.SuppressErrorLog = 21
number_of hook.SuppressProxyWarnLog = 22
number_of hook.ErrorWhileProxy = 23
number_of hook.FailToConnect = 24
number_of hook.FailToProxy = 25
number_of hook.ConnectedToUpstream = 26
number_of hook.RequestSummary = 27
number_of hook.IsPurge = 28
number_of hook.PurgeAction = 29
number_of hook.PurgeResponseFilter = 30
number_of hook.ModuleRequestHeader = 31
number_of hook.ModuleRequestBody = 32
number_of hook.ModuleResponseHeader = 33
number_of hook.ModuleResponseBody = 34
number_of hook.ModuleResponseTrailer = 35
number_of hook.ModuleResponseDone = 36

-- whether two hooks are the same one
abbrev pub same_hook : Hook → Hook → Bool
same_hook a b = number_of a == number_of b
