-- What each action makes of what it changes (RFC 9110, sections 6.3 and 15).
use Rattle.std.specs.Prelude.{ℕ, Bool, not, ◌==◌, ◌&&◌, ◌||◌, nat_le, nat_lt, ◌+◌, ◌^◌, if◌then◌else◌, List, ◌++◌, length, Option, Some, None, is_some}
use Rattle.http_header.specs.HeaderMap.{index_of, value_count, insert, remove}
use Rattle.relay_tasks.specs.Error.{new_error, refused}
use Rattle.relay_tasks.specs.Head.{Fields, RequestHead, ResponseHead}
use Rattle.relay_tasks.specs.declared.context.Context.TheVariants as about
use Rattle.relay_tasks.specs.declared.error.Error.{Error}
use Rattle.relay_tasks.specs.declared.error.ErrorSource.TheVariants.{Unset}
use Rattle.relay_tasks.specs.declared.message.Injected.{Injected}
use Rattle.relay_script.specs.Fold.{Outcome, goes_on, stops}
use Rattle.relay_script.specs.declared.rule.Action.{Action}
use Rattle.relay_script.specs.declared.rule.Action.TheVariants as action

-- the field can be set: it is there already, or a field list has room for one more
abbrev pub has_room : Fields → List ℕ → Bool
has_room fields name =
    is_some (index_of fields name)
    || (nat_lt (length fields) 24576 && nat_lt (value_count fields + 1) (2 ^ 64))

-- the status of an informational head
abbrev pub informs : ℕ → Bool
informs status = nat_le 100 status && nat_lt status 200 && not (status == 101)

-- three digits
abbrev pub is_status : ℕ → Bool
is_status status = nat_le 100 status && nat_lt status 1000

-- a request's head: `set` replaces the field, `remove` removes all its values, `error` fails
abbrev pub on_request : Action → RequestHead → Outcome RequestHead
on_request (action.Set name value) head =
    if has_room head.fields name
    then goes_on (record head { fields = insert head.fields name value })
    else stops head (refused about.HeadTooLong)
on_request (action.Remove name) head = goes_on (record head { fields = remove head.fields name })
on_request (action.Error etype) head = stops head (new_error etype Unset)
on_request _ head = goes_on head

-- a response's head: the same, and `status` sets the status of one that is not informational
abbrev pub on_response : Action → ResponseHead → Outcome ResponseHead
on_response (action.Set name value) head =
    if has_room head.fields name
    then goes_on (record head { fields = insert head.fields name value })
    else stops head (refused about.HeadTooLong)
on_response (action.Remove name) head = goes_on (record head { fields = remove head.fields name })
on_response (action.Status code) head =
    if informs head.status then goes_on head else
    if is_status code then goes_on (record head { status = code })
    else stops head (refused about.HeadGrammar)
on_response (action.Error etype) head = stops head (new_error etype Unset)
on_response _ head = goes_on head

-- a piece of a body: `drop` takes it away, `text` stands in its place where there is one
abbrev pub on_piece : Action → Option (List ℕ) → Outcome (Option (List ℕ))
on_piece action.Drop piece = goes_on None
on_piece (action.Text text) (Some piece) = goes_on (Some text)
on_piece (action.Error etype) piece = stops piece (new_error etype Unset)
on_piece _ piece = goes_on piece

-- what is put in front of a forwarding: `inject` adds its messages on each side
abbrev pub on_injected : Action → Injected → Outcome Injected
on_injected (action.Inject up down) sent = goes_on (record {
  to_upstream = sent.to_upstream ++ up;
  to_downstream = sent.to_downstream ++ down;
})
on_injected (action.Error etype) sent = stops sent (new_error etype Unset)
on_injected _ sent = goes_on sent

-- a yes or no: `say` says it
abbrev pub on_said : Action → Bool → Bool
on_said (action.Say say) said = say
on_said _ said = said

-- the value to keep: `keep` keeps it
abbrev pub on_kept : Action → Option ℕ → Option ℕ
on_kept (action.Keep value) kept = Some value
on_kept _ kept = kept

-- an error: `retry` sets its mark
abbrev pub on_error : Action → Error → Error
on_error (action.Retry mark) error = record error { retry = mark }
on_error _ error = error

-- the failure of a hook with nothing to change: the first `error`
abbrev pub on_failure : Action → Option Error → Option Error
on_failure (action.Error etype) None = Some (new_error etype Unset)
on_failure _ failure = failure
