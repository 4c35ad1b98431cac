-- The hooks at the end of a request: which of them was called, of which error, and the outcome that
-- is given (RFC 9110, section 3.7).
use Rattle.std.specs.Prelude.{◌≡◌, ◌⊎◌, Bool, false, true, not, ◌&&◌, is_some, List, [], ◌∷◌, Option, None, Some, if◌then◌else◌}
use Rattle.std.specs.List.{list_any}
use Rattle.relay_tasks.specs.Hooks.{same_hook}
use Rattle.relay_tasks.specs.declared.Error.{Error}
use Rattle.relay_tasks.specs.declared.hook.Hook.TheVariants as hook
use Rattle.relay_tasks.specs.declared.log.LogEntry.{LogEntry}
use Rattle.relay_hooks.specs.Call.{failure}
use Rattle.relay_closing.specs.Closes.{logged_in}
use Rattle.relay_closing.specs.Place.{error_of, is_lost, next_hook}
use Rattle.relay_closing.specs.declared.place.Cause.TheVariants as cause
use Rattle.relay_closing.specs.declared.place.End.TheVariants as end
use Rattle.relay_closing.specs.declared.place.Place.{Place}
use Rattle.relay_closing.specs.declared.place.Place.TheVariants as place
use Rattle.relay_closing.specs.declared.place.Stage.{Stage}
use Rattle.relay_closing.specs.declared.place.Stage.TheVariants as stage
use Rattle.relay_request.specs.declared.outcome.Outcome.{Outcome}
use Rattle.relay_request.specs.declared.outcome.Outcome.TheVariants as outcome

-- the error that ends the request, at a stage of its end, or none
abbrev pub error_to : Stage → Option Error
error_to (stage.Failing error) = Some error
error_to (stage.Told told) = Some told.error
error_to (stage.Reporting told) = Some told.error
error_to (stage.Ending why) = error_of why
error_to (stage.Logged why) = error_of why

-- a hook was called with which the end begins
abbrev pub has_begun : Stage → Bool
has_begun (stage.Failing error) = false
has_begun (stage.Told told) = true
has_begun (stage.Reporting told) = true
has_begun (stage.Ending cause.Finished) = false
has_begun (stage.Ending (cause.Hidden told)) = true
has_begun (stage.Ending (cause.Reported told summary)) = true
has_begun (stage.Logged why) = true

-- a hook is called next; `goes_back` says that the client may ask for more
abbrev pub calls_next : {K : Type 0} → Place K → Bool → Bool
calls_next (place.At at) goes_back = is_some (next_hook at goes_back)
calls_next (place.Ended how) goes_back = false
calls_next place.Lost goes_back = false

-- where the end stands once an error was told, or none: one of a request without an error is final
abbrev pub failed_to : Stage → Error → Stage
failed_to (stage.Failing error) e = stage.Failing error
failed_to (stage.Told told) e = stage.Told told
failed_to (stage.Reporting told) e = stage.Reporting told
failed_to (stage.Ending cause.Finished) e = stage.Failing e
failed_to (stage.Ending (cause.Hidden told)) e = stage.Ending (cause.Hidden told)
failed_to (stage.Ending (cause.Reported told summary)) e =
    stage.Ending (cause.Reported told summary)
failed_to (stage.Logged why) e = stage.Logged why

abbrev pub failed_with : {K : Type 0} → Place K → Option Error → Place K
failed_with there None = there
failed_with (place.At at) (Some e) = place.At (failed_to at e)
failed_with (place.Ended how) (Some e) = place.Ended how
failed_with place.Lost (Some e) = place.Lost

-- the client is gone: it was not to be kept behind `logging`
abbrev pub is_gone : {K : Type 0} → Place K → Bool
is_gone (place.At at) = false
is_gone (place.Ended (end.Gone why)) = true
is_gone (place.Ended (end.Kept why kept)) = false
is_gone place.Lost = false

-- the outcome that is given of a request that was served so: turns or memory ran out in the hooks
-- of its end, or not; and a client that is gone does not go back
abbrev pub given_served : {K : Type 0} → Place K → Option Error → Bool → Outcome
given_served there error reuse =
    if calls_next there reuse then outcome.TurnLimit else
    (if is_lost there then outcome.OutOfMemory
    else outcome.Served error (reuse && not (is_gone there)))

abbrev pub given : {K : Type 0} → Place K → Outcome → Outcome
given there outcome.NoRequest = outcome.NoRequest
given there (outcome.Refused error) = outcome.Refused error
given there (outcome.Served error reuse) = given_served there error reuse
given there outcome.TurnLimit = outcome.TurnLimit
given there outcome.OutOfMemory = outcome.OutOfMemory

-- the value that is kept for the next request of the connection, or none
abbrev pub kept_in : {K : Type 0} → Place K → Option K
kept_in (place.At at) = None
kept_in (place.Ended (end.Gone why)) = None
kept_in (place.Ended (end.Kept why kept)) = kept
kept_in place.Lost = None

-- ---- what `logging` was told

-- the client may be kept, as the calls of `logging` left the session's keepalive flag
abbrev pub stays_alive : List LogEntry → Bool
stays_alive log =
    not (list_any (λ (e : LogEntry). same_hook hook.Logging e.hook && not e.keepalive) log)

-- the hooks of a request that came to that outcome were called: none of one whose head was not
-- accepted; else `logging` was told of the error that the outcome gives, and once; and the client
-- goes back only where it left the keepalive flag on
abbrev pub IsHeard : List LogEntry → Outcome → Type 0
IsHeard log outcome.NoRequest = log ≡ []
IsHeard log (outcome.Refused error) = log ≡ []
IsHeard log (outcome.Served error reuse) =
    (logged_in log ≡ failure error ∷ []) × (reuse ≡ true → stays_alive log ≡ true)
IsHeard log outcome.TurnLimit = Unit {0}
IsHeard log outcome.OutOfMemory = Unit {0}

-- the outcome that is given of a request that came to that one, as far as its links go: it is the
-- same, and its hooks were called; or its client would go back, and does not, since `logging` left
-- the keepalive flag off; or turns or memory ran out in the hooks of its end
pub data Gives (log : List LogEntry) (came now : Outcome) : Type 0 where
  same : now ≡ came → IsHeard log came → Gives log came now
  closes : (error : Option Error) → came ≡ outcome.Served error true
      → now ≡ outcome.Served error false → logged_in log ≡ failure error ∷ []
      → stays_alive log ≡ false → Gives log came now
  cut : (error : Option Error) (reuse : Bool) → came ≡ outcome.Served error reuse
      → (now ≡ outcome.TurnLimit) ⊎ (now ≡ outcome.OutOfMemory) → Gives log came now
