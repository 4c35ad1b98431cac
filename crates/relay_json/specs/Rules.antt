-- Rules: what a script says of the hooks of its requests.
use Rattle.std.specs.Prelude.{ℕ, ◌+◌, ◌^◌, ◌==◌, ◌&&◌, nat_lt, Bool, true, false, List, [], if◌then◌else◌, Option, Some, None, option_map, codes}
use Rattle.std.specs.List.{list_all}
use Rattle.std.specs.Str.{bytes_eq}
use Rattle.http_header.specs.FieldName.{is_field_name}
use Rattle.http_header.specs.FieldValue.{FieldValue, plain_value}
use Rattle.http_header.specs.Token.{lowercase, is_value_byte}
use Rattle.serde_json.specs.Data.{Data}
use Rattle.serde_json.specs.Find.{get}
use Rattle.relay_tasks.specs.declared.error.ErrorType.{ErrorType}
use Rattle.relay_tasks.specs.declared.hook.Hook.{Hook}
use Rattle.relay_tasks.specs.declared.hook.Hook.TheVariants as hook
use Rattle.relay_script.specs.Lawful.{are_lawful}
use Rattle.relay_script.specs.declared.rule.Action.{Action}
use Rattle.relay_script.specs.declared.rule.Action.TheVariants as action
use Rattle.relay_script.specs.declared.rule.Rule.{Rule}
use Rattle.relay_json.specs.Names.{hook_named, type_named}
use Rattle.relay_json.specs.Values.{◌>>=◌, key_count, where_there, text_of, count_of, flag_of, retry_of, list_of}

-- ---- what actions are made of

-- the name of a field, in lower case: a token (RFC 9110, section 5.1)
abbrev pub field_name : List ℕ → Option (List ℕ)
field_name text = if is_field_name text then Some (lowercase text) else None

abbrev pub field_name_of : Data → Option (List ℕ)
field_name_of value = text_of value >>= field_name

-- the value of a field: no control byte but tabs (RFC 9110, section 5.5)
abbrev pub field_value : List ℕ → Option FieldValue
field_value text = if list_all is_value_byte text then Some (plain_value text) else None

abbrev pub field_value_of : Data → Option FieldValue
field_value_of value = text_of value >>= field_value

-- a status: below 2^16
abbrev pub code_in : ℕ → Option ℕ
code_in n = if nat_lt n (2 ^ 16) then Some n else None

abbrev pub code_of : Data → Option ℕ
code_of value = count_of value >>= code_in

-- the type of an error, as a report writes it
abbrev pub type_of : Data → Option ErrorType
type_of value = text_of value >>= type_named

-- a list of messages: any texts
abbrev pub messages_of : Data → Option (List (List ℕ))
messages_of value = list_of text_of value

-- ---- actions, each by its keys

-- `"do": "set", "name": n, "value": v`
abbrev pub set_of : Data → Option Action
set_of rule =
    get (codes "name") rule >>= field_name_of >>= (λ name.
    option_map (λ value. action.Set name value)
    (get (codes "value") rule >>= field_value_of))

-- `"do": "remove", "name": n`
abbrev pub remove_of : Data → Option Action
remove_of rule = option_map action.Remove (get (codes "name") rule >>= field_name_of)

-- `"do": "status", "code": c`
abbrev pub status_of : Data → Option Action
status_of rule = option_map action.Status (get (codes "code") rule >>= code_of)

-- `"do": "text", "value": t`
abbrev pub text_rule_of : Data → Option Action
text_rule_of rule = option_map action.Text (get (codes "value") rule >>= text_of)

-- `"do": "answer", "code": c, "say": b`
abbrev pub answer_of : Data → Option Action
answer_of rule =
    get (codes "code") rule >>= code_of >>= (λ code.
    option_map (λ say. action.Answer code say) (get (codes "say") rule >>= flag_of))

-- `"do": "error", "type": t`
abbrev pub error_of : Data → Option Action
error_of rule = option_map action.Error (get (codes "type") rule >>= type_of)

-- `"do": "retry", "on": r`
abbrev pub retry_rule_of : Data → Option Action
retry_rule_of rule = option_map action.Retry (get (codes "on") rule >>= retry_of)

-- `"do": "say", "on": b`
abbrev pub say_of : Data → Option Action
say_of rule = option_map action.Say (get (codes "on") rule >>= flag_of)

-- `"do": "keep", "value": n`
abbrev pub keep_of : Data → Option Action
keep_of rule = option_map action.Keep (get (codes "value") rule >>= count_of)

-- `"do": "inject", "up": [t, ..], "down": [t, ..]`
abbrev pub inject_of : Data → Option Action
inject_of rule =
    get (codes "up") rule >>= messages_of >>= (λ up.
    option_map (λ down. action.Inject up down) (get (codes "down") rule >>= messages_of))

-- the action of that name that a rule is
abbrev pub action_named : Data → List ℕ → Option Action
action_named rule name =
    if bytes_eq name (codes "set") then set_of rule
    else if bytes_eq name (codes "remove") then remove_of rule
    else if bytes_eq name (codes "status") then status_of rule
    else if bytes_eq name (codes "drop") then Some action.Drop
    else if bytes_eq name (codes "text") then text_rule_of rule
    else if bytes_eq name (codes "answer") then answer_of rule
    else if bytes_eq name (codes "error") then error_of rule
    else if bytes_eq name (codes "retry") then retry_rule_of rule
    else if bytes_eq name (codes "say") then say_of rule
    else if bytes_eq name (codes "keep") then keep_of rule
    else if bytes_eq name (codes "inject") then inject_of rule
    else None

abbrev pub action_of : Data → Option Action
action_of rule = get (codes "do") rule >>= text_of >>= action_named rule

-- how many keys an action has, `do` aside
abbrev pub keys_of : Action → ℕ
keys_of (action.Set name value) = 2
keys_of (action.Remove name) = 1
keys_of (action.Status code) = 1
keys_of action.Drop = 0
keys_of (action.Text text) = 1
keys_of (action.Answer code say) = 2
keys_of (action.Error etype) = 1
keys_of (action.Retry mark) = 1
keys_of (action.Say say) = 1
keys_of (action.Keep value) = 1
keys_of (action.Inject up down) = 2

-- ---- rules

-- the hook that a name is
abbrev pub hook_of : Data → Option Hook
hook_of value = text_of value >>= hook_named

-- the rule with that action, where the object has no other keys
abbrev pub rule_with : Data → Hook → Action → Option Rule
rule_with value on does =
    if key_count value == 2 + keys_of does then Some (record { hook = on; action = does })
    else None

-- a rule: an object with `hook`, `do` and the keys of its action, and no others
abbrev pub rule_of : Data → Option Rule
rule_of value =
    get (codes "hook") value >>= hook_of >>= (λ on.
    action_of value >>= (λ does. rule_with value on does))

-- a list of rules, whatever they say together
abbrev pub listed_of : Data → Option (List Rule)
listed_of value = list_of rule_of value

-- the hooks that are called: those in front of the attempts and of a purge, those of an attempt with
-- its filters, those that look at its error, and those of the end. The others are taken once they are
abbrev pub is_called : Hook → Bool
is_called hook.EarlyRequestFilter = true
is_called hook.AllowSpawningSubrequest = true
is_called hook.InitDownstreamModules = true
is_called hook.ModuleRequestHeader = true
is_called hook.RequestFilter = true
is_called hook.IsPurge = true
is_called hook.PurgeResponseFilter = true
is_called hook.ProxyUpstreamFilter = true
is_called hook.UpstreamPeer = true
is_called hook.FailToConnect = true
is_called hook.ConnectedToUpstream = true
is_called hook.UpstreamRequestFilter = true
is_called hook.ModuleRequestBody = true
is_called hook.RequestBodyFilter = true
is_called hook.UpstreamResponseFilter = true
is_called hook.ResponseFilter = true
is_called hook.ModuleResponseHeader = true
is_called hook.UpstreamResponseBodyFilter = true
is_called hook.ResponseBodyFilter = true
is_called hook.ModuleResponseBody = true
is_called hook.UpstreamResponseTrailerFilter = true
is_called hook.ModuleResponseTrailer = true
is_called hook.ModuleResponseDone = true
is_called hook.ErrorWhileProxy = true
is_called hook.SuppressProxyWarnLog = true
is_called hook.SuppressErrorLog = true
is_called hook.PersistConnectionContext = true
is_called _ = false

abbrev pub are_called : List Rule → Bool
are_called rules = list_all (λ rule. is_called rule.hook) rules

-- rules that break no condition, on hooks that are called
abbrev pub taken : List Rule → Option (List Rule)
taken rules = if are_lawful rules && are_called rules then Some rules else None

-- the rules of a script: those at `hooks`, and none where there is no such key
abbrev pub rules_of : Data → Option (List Rule)
rules_of value = where_there (get (codes "hooks") value) listed_of (Some []) >>= taken
