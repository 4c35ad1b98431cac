-- What the default hooks decide: which error may be tried again, with which status an error is
-- answered, and the answer (RFC 9110, sections 9.2.2 and 15.6).
use Rattle.std.specs.Prelude.{ℕ, Bool, false, ◌&&◌, not, List, [], ◌∷◌, codes, bytes_eq, nat_le, nat_lt, if◌then◌else◌}
use Rattle.std.specs.List.{list_any}
use Rattle.relay_tasks.specs.declared.error.Error.{Error}
use Rattle.relay_tasks.specs.declared.error.ErrorSource.{ErrorSource}
use Rattle.relay_tasks.specs.declared.error.ErrorSource.TheVariants as source
use Rattle.relay_tasks.specs.declared.error.ErrorType.{ErrorType}
use Rattle.relay_tasks.specs.declared.error.ErrorType.TheVariants as kind
use Rattle.relay_tasks.specs.declared.error.RetryType.TheVariants.{Decided}
use Rattle.relay_tasks.specs.Error.{decided_by}

-- the methods that may be repeated
abbrev pub repeatable : List (List ℕ)
repeatable =
    codes "GET" ∷ codes "HEAD" ∷ codes "OPTIONS" ∷ codes "TRACE" ∷ codes "PUT" ∷ codes "DELETE" ∷ []

-- a request with that method may be sent again
abbrev pub is_idempotent : List ℕ → Bool
is_idempotent method = list_any (bytes_eq method) repeatable

-- the error of an attempt, marked: never to be tried again where the method may not be repeated or
-- not all of the body was kept, and else by its own mark, once it is known whether the link had
-- been used before
abbrev pub marked_for_retry : List ℕ → Bool → Bool → Error → Error
marked_for_retry method truncated reused error =
    if is_idempotent method && not truncated
    then record error { retry = decided_by error.retry reused }
    else record error { retry = Decided false }

-- a status that an application named, or 500 where it is none
abbrev pub code_or_500 : ℕ → ℕ
code_or_500 code = if nat_le 100 code && nat_lt code 1000 then code else 500

-- the status of a client's own error, or 0 where there is no one to answer
abbrev pub client_code : ErrorType → ℕ
client_code kind.InvalidHTTPHeader = 400
client_code kind.ReadError = 0
client_code kind.ReadTimedout = 400
client_code kind.WriteError = 0
client_code kind.WriteTimedout = 400
client_code kind.ConnectionClosed = 0
client_code kind.ConnectError = 400
client_code kind.PrematureBodyEnd = 400
client_code kind.H2Error = 400
client_code kind.H2Downgrade = 400
client_code kind.InvalidH2 = 400
client_code kind.InternalError = 400
client_code kind.FileReadError = 400
client_code (kind.HTTPStatus code) = 400
client_code (kind.Custom code) = 400

-- the status of an error that names none, by whose it is
abbrev pub code_by_source : ErrorSource → ErrorType → ℕ
code_by_source source.Upstream etype = 502
code_by_source source.Downstream etype = client_code etype
code_by_source source.Internal etype = 500
code_by_source source.Unset etype = 500

-- the status with which an error is answered, or 0 for no answer: the one that it names, or else by
-- whose error it is
abbrev pub answer_code : ErrorSource → ErrorType → ℕ
answer_code side kind.InvalidHTTPHeader = code_by_source side kind.InvalidHTTPHeader
answer_code side kind.ReadError = code_by_source side kind.ReadError
answer_code side kind.ReadTimedout = code_by_source side kind.ReadTimedout
answer_code side kind.WriteError = code_by_source side kind.WriteError
answer_code side kind.WriteTimedout = code_by_source side kind.WriteTimedout
answer_code side kind.ConnectionClosed = code_by_source side kind.ConnectionClosed
answer_code side kind.ConnectError = code_by_source side kind.ConnectError
answer_code side kind.PrematureBodyEnd = code_by_source side kind.PrematureBodyEnd
answer_code side kind.H2Error = code_by_source side kind.H2Error
answer_code side kind.H2Downgrade = code_by_source side kind.H2Downgrade
answer_code side kind.InvalidH2 = code_by_source side kind.InvalidH2
answer_code side kind.InternalError = code_by_source side kind.InternalError
answer_code side kind.FileReadError = code_by_source side kind.FileReadError
answer_code side (kind.HTTPStatus code) = code_or_500 code
answer_code side (kind.Custom code) = code_by_source side (kind.Custom code)
