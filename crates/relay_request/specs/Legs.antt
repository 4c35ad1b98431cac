-- The attempts of a request that had a link, failed, and were tried again: what passed in each, and
-- where the next one begins (RFC 9110, section 9.2.2).
use Rattle.std.specs.Prelude.{◌≡◌, ◌+◌, ℕ, Bool, false, List, [], ◌∷◌, ◌++◌, drop, length, map, Some, Ok, Err}
use Rattle.std.specs.Global.{Box}
use Rattle.relay_tasks.specs.Head.{RequestHead}
use Rattle.relay_tasks.specs.declared.Error.{Error}
use Rattle.relay_tasks.specs.declared.hook.Hook.TheVariants as hook
use Rattle.relay_tasks.specs.declared.log.LogEntry.{LogEntry}
use Rattle.relay_connector.specs.Connector.{GetResult, handed}
use Rattle.relay_connector.specs.Upstream.{SpeaksBytes}
use Rattle.relay_links.specs.Link.{LinkState, LinkStart, IsHandedOut}
use Rattle.relay_links.specs.Told.{Since}
use Rattle.relay_connector.specs.declared.Returned.{Returned}
use Rattle.relay_opening.specs.Told.{head_behind}
use Rattle.relay_phases.specs.Turns.{wrote_in}
use Rattle.relay_peer.specs.Body.{IsFrontOf}
use Rattle.relay_session.specs.Reading.{head_of}
use Rattle.relay_session.specs.Response.{has_head}
use Rattle.relay_session.specs.declared.session.HttpSession.{HttpSession}
use Rattle.relay_sides.specs.Client.{BeginsBehind}
use Rattle.relay_hooked.specs.Calls.{Filtering}
use Rattle.relay_hooked.specs.Order.{FailsFor, order_of, text_of}
use Rattle.relay_attempt.specs.Passed.{Passed}
use Rattle.relay_request.specs.Bound.{IsWithin, LinkGave, sides_before}
use Rattle.relay_request.specs.Endings.{IsRecordOf}
use Rattle.relay_request.specs.Named.{IsNamed}
use Rattle.relay_request.specs.Answer.{past_at}
use Rattle.relay_request.specs.Passed.{World, Start, StandsIn, based, opened_to, origin_at, origin_of, IsUnsent, IsUntouched, TellsClient, TellsLink}
use Rattle.relay_request.specs.Phases.{IsLeased}
use Rattle.relay_request.specs.Refusals.{faults_told}
use Rattle.relay_request.specs.Relayable.{IsAccepted, IsRelayable}
use Rattle.relay_request.specs.Sent.{IsTreated, RefusesToSend, Sends}
use Rattle.relay_request.specs.Tries.{AreTries, MayTry, refusals_in, tries_in}
use Rattle.relay_request.specs.Uses.{LinkUses}
use Rattle.relay_request.specs.declared.machine.Lease.{Lease}
use Rattle.relay_request.specs.declared.machine.Phase.{Phase}
use Rattle.relay_request.specs.declared.machine.Phase.TheVariants.{Again}
use Rattle.relay_request.specs.declared.record.AttemptRecord.{AttemptRecord}

-- an attempt failed over that link, and its error was treated as this one: in its exchange, when a
-- part of what was queued had been written, where no final head was queued, and all that was queued
-- is written now; or before its head was sent, where nobody asked the link
pub data FailsAgain (s : Start) (p : Passed) (client link : LinkState) (start : LinkStart)
    (keep : Bool) (e : Error) : Type 0 where
  in_exchange : (head sent : RequestHead) (raised : Error) → IsRelayable head
      → Sends s.called head sent → IsTreated s.called raised e → (before : List ℕ)
      (f : Filtering) (began : List LogEntry) → StandsIn s.called began f.calls
      → (why : FailsFor f (origin_at s head sent start.reused began) (past_at p before) client link
      start raised)
      → has_head (text_of (order_of why)).place ≡ false
      → p.written ≡ (text_of (order_of why)).text → SpeaksBytes start → keep ≡ false
      → FailsAgain s p client link start keep e
  ahead_of_it : (head : RequestHead) (raised : Error) → IsAccepted s p head
      → RefusesToSend s.called start head keep raised → IsTreated s.called raised e
      → IsHandedOut link start start.reused → IsUnsent p → p.written ≡ []
      → FailsAgain s p client link start keep e

-- ---- one of them

-- where it began, with the calls up to the treatment of its error; what passed, as the client's
-- link and its own stood at its end; the attempts before it, its record, and the error
pub record Leg (L : Type 0) : Type 0 where
  pub start : Start
  pub passed : Passed
  pub client : LinkState
  pub back : Returned L
  pub tries : List AttemptRecord
  pub attempt : AttemptRecord
  pub error : Error

-- where the next attempt begins behind it
abbrev pub rebased : {L : Type 0} → Start → Leg L → Start
rebased s leg = record (based s leg.client) {
  tried = leg.tries ++ leg.attempt ∷ [];
  refused = length (refusals_in leg.start.called);
}

-- it began there, with the first of those calls
pub record BeginsAt {L : Type 0} (s : Start) (leg : Leg L) : Type 0 where
  pub is_start : leg.start ≡ opened_to s leg.start.called
  pub first : IsFrontOf leg.start.called s.called

module _ {L : Type 0} (state : L → LinkState) (start_at : L → LinkStart) where
  -- what passed is told by both links, which is in order; the link went back to the connector, the
  -- attempt was recorded, and another one was allowed for its error
  pub record IsLeg (leg : Leg L) : Type 0 where
    pub came : Since [] leg.start.given leg.client.given leg.passed.came
    pub written : Since [] leg.start.taken leg.client.taken leg.passed.written
    pub tells : TellsLink leg.passed (state leg.back.link) (start_at leg.back.link)
    pub peer : IsNamed leg.start.called leg.back.peer
    pub are_tries : AreTries leg.start leg.tries
    pub is_record : IsRecordOf leg.start.called leg.attempt (start_at leg.back.link) leg.back.keep
    pub error : leg.attempt.error ≡ Some leg.error
    pub fails : FailsAgain leg.start leg.passed leg.client (state leg.back.link)
        (start_at leg.back.link) leg.back.keep leg.error
    pub may : MayTry leg.start.most (1 + length leg.tries) leg.error

  -- ---- all of them

  -- these were tried again, one behind the other, of a request that began there
  abbrev pub AreLegs : Start → List (Leg L) → Type 0
  AreLegs s [] = Unit {0}
  AreLegs s (leg ∷ legs) = IsLeg leg × BeginsAt s leg × AreLegs (rebased s leg) legs

  -- their links were asked so many times
  abbrev pub LegsUse : ℕ → List (Leg L) → Type 0
  LegsUse n [] = n ≡ 0
  LegsUse n (leg ∷ legs) =
      (own : ℕ) × (rest : ℕ) × (n ≡ own + rest) × LinkUses state start_at own leg.back.link
      × LegsUse rest legs

  -- they moved so many tasks, and so many ends came
  abbrev pub LegsWithin : ℕ → ℕ → List (Leg L) → Type 0
  LegsWithin tasks ends [] = (tasks ≡ 0) × (ends ≡ 0)
  LegsWithin tasks ends (leg ∷ legs) =
      (own_tasks own_ends more_tasks more_ends : ℕ)
      × (tasks ≡ own_tasks + more_tasks) × (ends ≡ own_ends + more_ends)
      × IsWithin own_tasks own_ends (sides_before (1 + length leg.tries)) leg.start leg.client
      (LinkGave state start_at leg.back.link)
      × LegsWithin more_tasks more_ends legs

-- the start of the last attempt's part, behind those
abbrev pub behind : {L : Type 0} → Start → List (Leg L) → Start
behind s [] = s
behind s (leg ∷ legs) = behind (rebased s leg) legs

-- what a request had taken of its connector behind one of them: the refusals of all attempts so
-- far, and its link
abbrev pub taken_to : {L : Type 0} → (L → LinkStart) → Leg L → List GetResult
taken_to start leg =
    map Err (faults_told leg.tries) ++ Ok (handed (start leg.back.link)) ∷ []

-- and what was taken in it
abbrev pub taken_in : {L : Type 0} → (L → LinkStart) → Leg L → List GetResult
taken_in start leg = drop (length (faults_told leg.start.tried)) (taken_to start leg)

-- and in all of them
abbrev pub taken_by : {L : Type 0} → (L → LinkStart) → List (Leg L) → List GetResult
taken_by start [] = []
taken_by start (leg ∷ legs) = taken_in start leg ++ taken_by start legs

-- ---- the turn

-- another attempt follows one that had a link: the application was asked for the warning of its
-- error last, and the link is to be handed back. The session begins behind the head, as hooks left
-- it
pub record RepeatsOn {L C : Type 0} (state : L → LinkState) (start_at : L → LinkStart) (s : Start)
    (w : World) (next : Phase L C) : Type 0 where
  pub context : C
  pub session : Box HttpSession
  pub link : L
  pub lease : Lease
  pub keep : Bool
  pub error : Error
  pub is : next ≡ Again context session link lease keep error
  pub passed : Passed
  pub before : List LogEntry
  pub asked : LogEntry
  pub called : s.called ≡ before ++ asked ∷ []
  pub asks : asked.hook ≡ hook.SuppressProxyWarnLog
  pub unclosed : s.closed ≡ []
  pub tells : TellsClient s passed w
  pub untouched : IsUntouched s passed w
  pub leased : IsLeased (opened_to s before) passed (state link) (start_at link) lease
  pub fails : FailsAgain (opened_to s before) passed w.client (state link) (start_at link) keep
      error
  pub may : MayTry s.most (1 + length (tries_in lease)) error
  pub head : RequestHead
  pub accepted : IsAccepted s passed head
  pub is_left : head_of session.value.reading ≡ Some (head_behind head s.called)
  pub quiet : wrote_in s.called ≡ []
  pub begins : (sent : RequestHead) (reused : Bool)
      → BeginsBehind (origin_of (based s w.client) head sent reused) passed.came w.client w.ahead
      session.value
