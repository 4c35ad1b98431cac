-- The relation of a module that guards requests.
use Rattle.std.specs.Prelude.{◌≡◌, Bool, false, bytes_eq, if◌then◌else◌, codes, Option, Some, None}
use Rattle.http_header.specs.FieldValue.{FieldValue}
use Rattle.http_header.specs.HeaderMap.{get}
use Rattle.relay_tasks.specs.Error.{new_error}
use Rattle.relay_tasks.specs.Head.{RequestHead}
use Rattle.relay_tasks.specs.declared.error.Error.{Error}
use Rattle.relay_tasks.specs.declared.error.ErrorSource.TheVariants.{Downstream}
use Rattle.relay_tasks.specs.declared.error.ErrorType.TheVariants as kind
use Rattle.relay_modules.specs.Module.{ModuleCall, LeavesInput, request_header}

-- the value of the field is the secret
abbrev pub is_secret : Option FieldValue → Bool
is_secret None = false
is_secret (Some value) = bytes_eq value.bytes (codes "secret")

-- the head has the secret
abbrev pub is_let_in : RequestHead → Bool
is_let_in head = is_secret (get head.fields (codes "authorization"))

-- what a head is refused with: the status 403, where it has not the secret
abbrev pub refusal_of : RequestHead → Option Error
refusal_of head =
    if is_let_in head then None else Some (new_error (kind.HTTPStatus 403) Downstream)

-- the head of a request is refused without the secret, and stays as it is; and all else passes
abbrev pub Guards : ModuleCall → Type 0
Guards (request_header before after error) = (after ≡ before) × (error ≡ refusal_of before)
Guards other = LeavesInput other
