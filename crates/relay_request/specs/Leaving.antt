-- What a failed exchange leaves, and what an attempt comes to whose error was treated.
use Rattle.std.specs.Prelude.{◌≡◌, ℕ, ◌<◌, Bool, false, List, [], length, Some}
use Rattle.std.specs.Global.{Box}
use Rattle.relay_tasks.specs.declared.Error.{Error}
use Rattle.relay_tasks.specs.declared.error.Fail.{Fail}
use Rattle.relay_tasks.specs.declared.error.Fail.TheVariants as fail
use Rattle.relay_links.specs.Link.{LinkState, LinkStart}
use Rattle.relay_session.specs.Response.{pending}
use Rattle.relay_session.specs.declared.session.HttpSession.{HttpSession}
use Rattle.relay_session.specs.declared.writing.Writing.{Writing}
use Rattle.relay_attempt.specs.Passed.{Passed}
use Rattle.relay_request.specs.Calls.{ShowsSame}
use Rattle.relay_request.specs.Endings.{IsPartRelayed}
use Rattle.relay_request.specs.Passed.{Start}
use Rattle.relay_request.specs.Phases.{LeavesSession}
use Rattle.relay_request.specs.declared.machine.Lease.{Lease}
use Rattle.relay_request.specs.declared.machine.Phase.{Phase}
use Rattle.relay_request.specs.declared.machine.Phase.TheVariants as phase
use Rattle.relay_request.specs.declared.outcome.Outcome.TheVariants as outcome

-- what a failure leaves: a part of the exchange where memory was wanted, or that
abbrev pub LeavesBy : Start → Passed → LinkState → List ℕ → LinkState → LinkStart → HttpSession
    → Fail → Type 0
LeavesBy s p client ahead link start session fail.OutOfMemory = IsPartRelayed s p link start
LeavesBy s p client ahead link start session (fail.Error e) =
    LeavesSession s p client ahead link start session e

-- what an attempt comes to whose error is that now, which was answered: what waits for the client
-- is written then, or nothing does
pub data Answers {L C : Type 0} (new : Writing) (link : L) (lease : Lease) (keep : Bool) (e : Error)
    (next : Phase L C) : Type 0 where
  waits : (session : Box HttpSession) → session.value.writing ≡ new
      → 0 < length (pending new.output) → next ≡ phase.Fail link lease keep session e
      → Answers new link lease keep e next
  is_over : pending new.output ≡ []
      → next ≡ phase.Close link lease keep (outcome.Served (Some e) false)
      → Answers new link lease keep e next

-- what an attempt comes to of which some of what waits for the client is offered to it: it stands
-- as it did, with a session of which hooks are shown the same; or memory was wanted
pub data WritesAhead {L C : Type 0} (context : C) (client : HttpSession) (link : L) (lease : Lease)
    (keep : Bool) (e : Error) (next : Phase L C) : Type 0 where
  stays : (session : Box HttpSession) → ShowsSame session.value client
      → next ≡ phase.Broken context session link lease keep e
      → WritesAhead context client link lease keep e next
  lost : next ≡ phase.Close link lease false outcome.OutOfMemory
      → WritesAhead context client link lease keep e next
