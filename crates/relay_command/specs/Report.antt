-- Reports: what the requests of a run came to, as text.
use Rattle.std.specs.Prelude.{◌≡◌, ℕ, ◌+◌, ◌<◌, ◌/◌, ◌%◌, ◌==◌, ◌&&◌, nat_lt, nat_le, List, [], ◌∷◌, ◌++◌, map, flat_map, Bool, true, false, if◌then◌else◌, Option, Some, None, codes, decimal}
use Rattle.relay_tasks.specs.declared.error.Error.{Error}
use Rattle.relay_tasks.specs.declared.error.ErrorSource.{ErrorSource}
use Rattle.relay_tasks.specs.declared.error.ErrorSource.TheVariants as source
use Rattle.relay_tasks.specs.declared.error.RetryType.{RetryType}
use Rattle.relay_tasks.specs.declared.error.RetryType.TheVariants as retry
use Rattle.relay_tasks.specs.declared.log_line.HookAnswer.{HookAnswer}
use Rattle.relay_tasks.specs.declared.log_line.HookAnswer.TheVariants.{Failed, Said, Done}
use Rattle.relay_tasks.specs.declared.log_line.LogLine.{LogLine}
use Rattle.relay_request.specs.declared.outcome.Outcome.{Outcome}
use Rattle.relay_request.specs.declared.outcome.Outcome.TheVariants as outcome
use Rattle.relay_json.specs.Names.{hook_name, type_text}
use Rattle.relay_command.specs.declared.report.AttemptReport.{AttemptReport}
use Rattle.relay_command.specs.declared.report.RequestReport.{RequestReport}

-- a request without where it lies in memory: its outcome, the bytes that the client's link took,
-- its attempts, the first calls of its hooks, and how many followed these
pub record RequestSpec : Type 0 where
  pub outcome : Outcome
  pub written : List ℕ
  pub attempts : List AttemptReport
  pub log : List LogLine
  pub unlisted : ℕ

abbrev pub request_spec : RequestReport → RequestSpec
request_spec r = record {
  outcome = r.outcome;
  written = r.written;
  attempts = r.attempts.items;
  log = r.log.items;
  unlisted = r.unlisted;
}

abbrev pub request_specs : List RequestReport → List RequestSpec
request_specs requests = map request_spec requests

-- a number below 16 as a lower-case digit
abbrev pub hex_digit : ℕ → ℕ
hex_digit n = if nat_lt n 10 then 48 + n else 87 + n

-- a byte that can be seen stands for itself; `\`, CR and LF have names, and others two digits
abbrev pub shown_byte : ℕ → List ℕ
shown_byte b =
    if b == 92 then codes "\\\\" else
    (if b == 13 then codes "\\r" else
    (if b == 10 then codes "\\n" else
    (if nat_le 32 b && nat_le b 126 then b ∷ [] else
    codes "\\x" ++ hex_digit (b / 16) ∷ hex_digit (b % 16) ∷ [])))

abbrev pub shown : List ℕ → List ℕ
shown bytes = flat_map shown_byte bytes

abbrev pub yes_no : Bool → List ℕ
yes_no true = codes "yes"
yes_no false = codes "no"

abbrev pub source_name : ErrorSource → List ℕ
source_name source.Upstream = codes "Upstream"
source_name source.Downstream = codes "Downstream"
source_name source.Internal = codes "Internal"
source_name source.Unset = codes "Unset"

abbrev pub retry_name : RetryType → List ℕ
retry_name (retry.Decided true) = codes "true"
retry_name (retry.Decided false) = codes "false"
retry_name retry.ReusedOnly = codes "reused"

-- type, source and mark of an error, or a dash
abbrev pub error_text : Option Error → List ℕ
error_text None = codes "-"
error_text (Some e) =
    type_text e.etype ++ codes " " ++ source_name e.esource
    ++ codes " " ++ retry_name e.retry

abbrev pub outcome_name : Outcome → List ℕ
outcome_name outcome.NoRequest = codes "NoRequest"
outcome_name (outcome.Refused error) = codes "Refused"
outcome_name (outcome.Served error reuse) = codes "Served"
outcome_name outcome.TurnLimit = codes "TurnLimit"
outcome_name outcome.OutOfMemory = codes "OutOfMemory"

-- the error that an outcome carries
abbrev pub outcome_error : Outcome → Option Error
outcome_error outcome.NoRequest = None
outcome_error (outcome.Refused error) = error
outcome_error (outcome.Served error reuse) = error
outcome_error outcome.TurnLimit = None
outcome_error outcome.OutOfMemory = None

-- whether the client's connection goes back for another request
abbrev pub outcome_reuse : Outcome → Bool
outcome_reuse outcome.NoRequest = false
outcome_reuse (outcome.Refused error) = false
outcome_reuse (outcome.Served error reuse) = reuse
outcome_reuse outcome.TurnLimit = false
outcome_reuse outcome.OutOfMemory = false

-- attempt j: a line on it, and one on what its link took
abbrev pub attempt_text : ℕ → AttemptReport → List ℕ
attempt_text j a =
    codes "attempt " ++ decimal j ++ codes " " ++ shown a.name ++ codes " reused "
    ++ yes_no a.reused
    ++ codes " kept " ++ yes_no a.kept ++ codes " error " ++ error_text a.error
    ++ codes "\nsent " ++ shown a.sent ++ codes "\n"

-- attempts, counted from j
abbrev pub attempts_text : ℕ → List AttemptReport → List ℕ
attempts_text j [] = []
attempts_text j (a ∷ rest) = attempt_text j a ++ attempts_text (j + 1) rest

-- what a hook answered: the type of its error, yes or no, or that it was called
abbrev pub answer_text : HookAnswer → List ℕ
answer_text (Failed etype) = codes "err " ++ type_text etype
answer_text (Said true) = codes "true"
answer_text (Said false) = codes "false"
answer_text Done = codes "ok"

-- a call of a hook, on a line
abbrev pub line_text : LogLine → List ℕ
line_text line =
    codes "log " ++ hook_name line.hook ++ codes " " ++ answer_text line.answer ++ codes "\n"

-- the calls of hooks, in order
abbrev pub log_text : List LogLine → List ℕ
log_text log = flat_map line_text log

-- how many calls followed those, where there were any
abbrev pub unlisted_text : ℕ → List ℕ
unlisted_text calls =
    if calls == 0 then [] else codes "unlisted " ++ decimal calls ++ codes "\n"

-- how request k ended
abbrev pub outcome_text : ℕ → Outcome → List ℕ
outcome_text k ended =
    codes "request " ++ decimal k ++ codes "\noutcome " ++ outcome_name ended
    ++ codes "\nerror " ++ error_text (outcome_error ended) ++ codes "\n"

-- whether the client goes back, and what its link took
abbrev pub client_text : RequestSpec → List ℕ
client_text r =
    codes "reuse " ++ yes_no (outcome_reuse r.outcome) ++ codes "\nwritten " ++ shown r.written
    ++ codes "\n"

abbrev pub request_text : ℕ → RequestSpec → List ℕ
request_text k r =
    outcome_text k r.outcome ++ client_text r ++ attempts_text 1 r.attempts ++ log_text r.log
    ++ unlisted_text r.unlisted

-- requests, counted from k
abbrev pub requests_text : ℕ → List RequestSpec → List ℕ
requests_text k [] = []
requests_text k (r ∷ rest) = request_text k r ++ requests_text (k + 1) rest

-- the report of the requests of a run
abbrev pub report_of : List RequestSpec → List ℕ
report_of requests = requests_text 1 requests

-- the numbers are bytes
abbrev pub AreBytes : List ℕ → Type 0
AreBytes [] = Unit {0}
AreBytes (x ∷ xs) = (x < 256) × AreBytes xs

-- no other bytes are shown as these are
abbrev pub IsShownAlone : List ℕ → Type 0
IsShownAlone bytes =
    (others : List ℕ) → AreBytes bytes → AreBytes others → shown bytes ≡ shown others
    → bytes ≡ others
