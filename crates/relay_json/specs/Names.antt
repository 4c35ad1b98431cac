-- Names: what hooks and types of errors are called, in scripts and in reports.
use Rattle.std.specs.Prelude.{◌≡◌, ℕ, ◌<◌, ◌-◌, ◌^◌, ◌&&◌, nat_lt, List, [], ◌++◌, length, take, drop, find, if◌then◌else◌, Option, Some, None, option_map, codes, decimal}
use Rattle.std.specs.Str.{bytes_eq}
use Rattle.std.specs.Str.Parse.{digits_value}
use Rattle.relay_tasks.specs.declared.error.ErrorType.{ErrorType}
use Rattle.relay_tasks.specs.declared.error.ErrorType.TheVariants as etype
use Rattle.relay_tasks.specs.declared.hook.Hook.{Hook}
use Rattle.relay_tasks.specs.declared.hook.Hook.TheVariants as hook
use Rattle.relay_json.specs.declared.names.TheConstants.{HOOKS, PLAIN_TYPES}

-- ---- hooks

-- what a hook, or a call of a module, is called
abbrev pub hook_name : Hook → List ℕ
hook_name hook.NewCtx = codes "new_ctx"
hook_name hook.UpstreamPeer = codes "upstream_peer"
hook_name hook.InitDownstreamModules = codes "init_downstream_modules"
hook_name hook.EarlyRequestFilter = codes "early_request_filter"
hook_name hook.AllowSpawningSubrequest = codes "allow_spawning_subrequest"
hook_name hook.RequestFilter = codes "request_filter"
hook_name hook.RequestBodyFilter = codes "request_body_filter"
hook_name hook.ProxyUpstreamFilter = codes "proxy_upstream_filter"
hook_name hook.UpstreamRequestFilter = codes "upstream_request_filter"
hook_name hook.UpstreamResponseFilter = codes "upstream_response_filter"
hook_name hook.ResponseFilter = codes "response_filter"
hook_name hook.CustomForwarding = codes "custom_forwarding"
hook_name hook.DownstreamCustomMessageProxyFilter = codes "downstream_custom_message_proxy_filter"
hook_name hook.UpstreamCustomMessageProxyFilter = codes "upstream_custom_message_proxy_filter"
hook_name hook.UpstreamResponseBodyFilter = codes "upstream_response_body_filter"
hook_name hook.UpstreamResponseTrailerFilter = codes "upstream_response_trailer_filter"
hook_name hook.ResponseBodyFilter = codes "response_body_filter"
hook_name hook.ResponseTrailerFilter = codes "response_trailer_filter"
hook_name hook.Logging = codes "logging"
hook_name hook.PersistConnectionContext = codes "persist_connection_context"
hook_name hook.OnConnectionReuse = codes "on_connection_reuse"
hook_name hook.SuppressErrorLog = codes "suppress_error_log"
hook_name hook.SuppressProxyWarnLog = codes "suppress_proxy_warn_log"
hook_name hook.ErrorWhileProxy = codes "error_while_proxy"
hook_name hook.FailToConnect = codes "fail_to_connect"
hook_name hook.FailToProxy = codes "fail_to_proxy"
hook_name hook.ConnectedToUpstream = codes "connected_to_upstream"
hook_name hook.RequestSummary = codes "request_summary"
hook_name hook.IsPurge = codes "is_purge"
hook_name hook.PurgeAction = codes "purge_action"
hook_name hook.PurgeResponseFilter = codes "purge_response_filter"
hook_name hook.ModuleRequestHeader = codes "module_request_header"
hook_name hook.ModuleRequestBody = codes "module_request_body"
hook_name hook.ModuleResponseHeader = codes "module_response_header"
hook_name hook.ModuleResponseBody = codes "module_response_body"
hook_name hook.ModuleResponseTrailer = codes "module_response_trailer"
hook_name hook.ModuleResponseDone = codes "module_response_done"

-- the hook of that name
abbrev pub hook_named : List ℕ → Option Hook
hook_named name = find (λ hook. bytes_eq (hook_name hook) name) HOOKS

-- the hook is found by its name
abbrev pub IsNamedAlone : Hook → Type 0
IsNamedAlone hook = hook_named (hook_name hook) ≡ Some hook

-- ---- types of errors

abbrev pub type_name : ErrorType → List ℕ
type_name etype.InvalidHTTPHeader = codes "InvalidHTTPHeader"
type_name etype.ReadError = codes "ReadError"
type_name etype.ReadTimedout = codes "ReadTimedout"
type_name etype.WriteError = codes "WriteError"
type_name etype.WriteTimedout = codes "WriteTimedout"
type_name etype.ConnectionClosed = codes "ConnectionClosed"
type_name etype.ConnectError = codes "ConnectError"
type_name etype.PrematureBodyEnd = codes "PrematureBodyEnd"
type_name etype.H2Error = codes "H2Error"
type_name etype.H2Downgrade = codes "H2Downgrade"
type_name etype.InvalidH2 = codes "InvalidH2"
type_name etype.InternalError = codes "InternalError"
type_name etype.FileReadError = codes "FileReadError"
type_name (etype.HTTPStatus code) = codes "HTTPStatus"
type_name (etype.Custom code) = codes "Custom"

-- the number of a type that has one
abbrev pub type_number : ErrorType → Option ℕ
type_number (etype.HTTPStatus code) = Some code
type_number (etype.Custom code) = Some code
type_number _ = None

abbrev pub number_text : Option ℕ → List ℕ
number_text None = []
number_text (Some n) = codes "(" ++ decimal n ++ codes ")"

-- what a type is written as: its name, and its number where it has one
abbrev pub type_text : ErrorType → List ℕ
type_text e = type_name e ++ number_text (type_number e)

-- the type of that name that has no number
abbrev pub plain_type : List ℕ → Option ErrorType
plain_type name = find (λ e. bytes_eq (type_name e) name) PLAIN_TYPES

-- the number between that front and a closing bracket, which are all of the text: below 2^16, in
-- plain decimal digits without a leading zero
abbrev pub bracketed : List ℕ → List ℕ → ℕ → Option ℕ
bracketed front text n =
    if nat_lt n (2 ^ 16) && bytes_eq text (front ++ decimal n ++ codes ")") then Some n else None

abbrev pub number_behind : List ℕ → List ℕ → Option ℕ
number_behind front text =
    bracketed front text (digits_value 10 (drop (length front) (take (length text - 1) text)))

-- the first of two, and else the second
abbrev pub or_else : {X : Type 0} → Option X → Option X → Option X
or_else None other = other
or_else (Some x) other = Some x

-- the type that a text writes
abbrev pub type_named : List ℕ → Option ErrorType
type_named text =
    or_else (plain_type text)
    (or_else (option_map etype.HTTPStatus (number_behind (codes "HTTPStatus(") text))
    (option_map etype.Custom (number_behind (codes "Custom(") text)))

-- the number of a type fits 16 bits, where it has one
abbrev pub HasCode : Option ℕ → Type 0
HasCode None = Unit {0}
HasCode (Some n) = n < 2 ^ 16

-- the type is read from what is written of it
abbrev pub IsTypedAlone : ErrorType → Type 0
IsTypedAlone e = HasCode (type_number e) → type_named (type_text e) ≡ Some e
