-- What the application answers a client for an error, behind what was queued for it before (RFC
-- 9110, section 15).
use Rattle.std.specs.Prelude.{◌≡◌, ℕ, ◌<◌, Bool, List, ◌++◌, length, Option}
use Rattle.relay_tasks.specs.Head.{RequestHead}
use Rattle.relay_tasks.specs.declared.Error.{Error}
use Rattle.relay_tasks.specs.declared.task.HttpTask.{HttpTask}
use Rattle.relay_session.specs.Asked.{request_of}
use Rattle.relay_session.specs.TaskWire.{wire}
use Rattle.relay_session.specs.declared.task_text.Place.TheVariants as place
use Rattle.relay_session.specs.declared.writing.Outgoing.{Outgoing}
use Rattle.relay_session.specs.declared.writing.Outgoing.TheVariants as outgoing
use Rattle.relay_core.specs.Past.{Origin}
use Rattle.relay_hooked.specs.Calls.{Filtering}
use Rattle.relay_hooked.specs.Order.{IsInOrderWith}
use Rattle.relay_attempt.specs.Passed.{Passed}

-- the text of what the application answered an error with, of a request with that head, of which
-- nothing was queued before
abbrev pub answer_to : RequestHead → List HttpTask → List ℕ
answer_to head answered = (wire (request_of head) place.NoHead answered).text

-- what was queued for the client in an exchange, and then the answer to its error
abbrev pub owed_text : {refused : Option Error} {f : Filtering} {o : Origin} {p : Passed}
    {closed : Bool} → IsInOrderWith refused f o p closed → List HttpTask → List ℕ
owed_text {o = o} order answered =
    (wire (request_of o.head) place.NoHead ((order.queued ++ order.closing) ++ answered)).text

-- what passed, when that had been written of it
abbrev pub past_at : Passed → List ℕ → Passed
past_at p before = record { came = p.came; written = before; got = p.got; sent = p.sent }

-- what was written and what waits behind it are that text, and something waits
pub record WaitsOf (output : Outgoing) (written text : List ℕ) : Type 0 where
  pub left : List ℕ
  pub is_open : output ≡ outgoing.Open left
  pub some : 0 < length left
  pub joined : written ++ left ≡ text
