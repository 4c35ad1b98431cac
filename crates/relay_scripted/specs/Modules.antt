-- The relation of a script's modules: each filter does what its rules say.
use Rattle.std.specs.Prelude.{◌≡◌, List, None}
use Rattle.relay_tasks.specs.declared.hook.Hook.TheVariants as hook
use Rattle.relay_modules.specs.Module.{ModuleCall, request_header, request_body, response_header, response_body, response_trailer, response_done}
use Rattle.relay_script.specs.Actions.{on_request, on_response}
use Rattle.relay_script.specs.Fold.{run_rules}
use Rattle.relay_script.specs.declared.rule.Rule.{Rule}
use Rattle.relay_scripted.specs.Decision.{failure_of}

-- a filter of a head runs its rules on it; the others leave what they are given, and fail where a
-- rule says so
abbrev pub DoesCall : List Rule → ModuleCall → Type 0
DoesCall rules (request_header before after error) =
    run_rules on_request hook.ModuleRequestHeader rules before
    ≡ record { left = after; error = error }
DoesCall rules (request_body before after end error) =
    (after ≡ before) × (error ≡ failure_of rules hook.ModuleRequestBody)
DoesCall rules (response_header before after end error) =
    run_rules on_response hook.ModuleResponseHeader rules before
    ≡ record { left = after; error = error }
DoesCall rules (response_body before after end error) =
    (after ≡ before) × (error ≡ failure_of rules hook.ModuleResponseBody)
DoesCall rules (response_trailer before after answer error) =
    (after ≡ before) × (answer ≡ None) × (error ≡ failure_of rules hook.ModuleResponseTrailer)
DoesCall rules (response_done answer error) =
    (answer ≡ None) × (error ≡ failure_of rules hook.ModuleResponseDone)
