-- What a request still owes its client: why it is given a generated answer, and how it ends then.
use Rattle.std.specs.Prelude.{◌≡◌, ◌≢◌, ℕ, Bool, true, false, List, [], ◌∷◌, ◌++◌, Option, None, Some}
use Rattle.relay_tasks.specs.Head.{RequestHead}
use Rattle.relay_tasks.specs.declared.Error.{Error}
use Rattle.relay_tasks.specs.declared.ErrorSource.TheVariants.{Downstream}
use Rattle.relay_tasks.specs.declared.Fault.{Fault}
use Rattle.relay_links.specs.Link.{LinkState, LinkStart}
use Rattle.relay_connector.specs.declared.Returned.{Returned}
use Rattle.relay_h1.specs.declared.framing.Framing.{Framing}
use Rattle.relay_session.specs.Asked.{request_of}
use Rattle.relay_session.specs.Front.{ends_with_head}
use Rattle.relay_session.specs.Reading.{is_body_done}
use Rattle.relay_session.specs.TaskWire.{Sent, wire}
use Rattle.relay_session.specs.declared.session.HttpSession.{HttpSession}
use Rattle.relay_session.specs.declared.task_text.Place.TheVariants as stands
use Rattle.relay_peer.specs.Body.{IsFrontOf}
use Rattle.relay_attempt.specs.Passed.{Passed}
use Rattle.relay_request.specs.Ahead.{IsOwedAhead}
use Rattle.relay_request.specs.Answer.{WaitsOf}
use Rattle.relay_request.specs.Endings.{IsOwedUnlinked, IsTurnedDown, MadeAhead, MadeNone, Misses, IsRecordOf}
use Rattle.relay_request.specs.Passed.{World, Start, asked, TellsLink, IsUnsent}
use Rattle.relay_request.specs.Named.{IsNamed}
use Rattle.relay_request.specs.Sent.{IsUntreated}
use Rattle.relay_request.specs.Tries.{AreTries, EndsTrying, fault_error}
use Rattle.relay_request.specs.declared.outcome.Outcome.{Outcome}
use Rattle.relay_request.specs.declared.outcome.Outcome.TheVariants as outcome
use Rattle.relay_request.specs.declared.owed.Owed.{Owed}
use Rattle.relay_request.specs.declared.owed.Owed.TheVariants.{Refused, Ahead, Served}
use Rattle.relay_request.specs.declared.record.AttemptRecord.{AttemptRecord}

-- its head was accepted
abbrev pub is_served : Owed → Bool
is_served (Refused error) = false
is_served (Ahead why) = true
is_served (Served e) = true

-- the outcome of a request whose answer was written whole; `again` says that its client may ask for
-- more, which it does not behind an error
abbrev pub outcome_written : Owed → Bool → Outcome
outcome_written (Refused error) again = outcome.Refused error
outcome_written (Ahead None) again = outcome.Served None again
outcome_written (Ahead (Some e)) again = outcome.Served (Some e) false
outcome_written (Served e) again = outcome.Served (Some e) false

-- the same where its client may not
abbrev pub outcome_owed : Owed → Outcome
outcome_owed owed = outcome_written owed false

-- the outcome where a write of the answer failed so; a request that failed before keeps its error
abbrev pub outcome_failed : Owed → Fault → Outcome
outcome_failed (Refused error) fault = outcome.Refused (Some (fault_error Downstream fault))
outcome_failed (Ahead None) fault = outcome.Served (Some (fault_error Downstream fault)) false
outcome_failed (Ahead (Some e)) fault = outcome.Served (Some e) false
outcome_failed (Served e) fault = outcome.Served (Some e) false

-- the session of a request with that head tells whether its client may ask for more behind what was
-- sent to answer it
pub record TellsBehind (head : RequestHead) (framing : Framing) (sent : Sent)
    (session : HttpSession) : Type 0 where
  pub request : session.writing.request ≡ request_of head
  pub done : is_body_done session.reading ≡ ends_with_head framing
  pub place : session.writing.place ≡ sent.place
  pub closes : session.writing.closes ≡ sent.closes

-- so does one whose request hooks answered
abbrev pub TellsAgain : {s : Start} {p : Passed} {why : Option Error} {text : List ℕ}
    → IsOwedAhead s p why text → HttpSession → Type 0
TellsAgain (IsOwedAhead.by_answer head tasks text accepted order is_answer is) session =
    TellsBehind head accepted.framing (wire (request_of head) stands.NoHead tasks) session
TellsAgain (IsOwedAhead.by_error head e text accepted stopped told is) session = Unit {0}

-- hooks answered a request: its session tells that, and no call of its client's link failed
abbrev pub IsAnsweredCalmly : {s : Start} {p : Passed} {text : List ℕ} → World
    → (why : Option Error) → IsOwedAhead s p why text → HttpSession → Type 0
IsAnsweredCalmly {s = s} w None owes session =
    TellsAgain owes session × (w.client.faults ≡ s.faults)
IsAnsweredCalmly w (Some e) owes session = Unit {0}

module _ {L : Type 0} (state : L → LinkState) (start_at : L → LinkStart) where
  -- why the client is given that text, by the links that the request handed back: its head was
  -- turned down; hooks answered it or stopped it; the last attempt was given no link; or the
  -- attempt over its link failed
  abbrev pub Owes : Start → Passed → World → List (Returned L) → Owed → List ℕ → Type 0
  Owes s p w [] (Refused error) text = IsTurnedDown (asked s p) text error × IsUnsent p
  Owes s p w [] (Ahead why) text =
      IsOwedAhead s p why text × IsUnsent p × IsUntreated s.called
  Owes s p w [] (Served e) text = IsOwedUnlinked s p w e text
  Owes s p w (r ∷ own) (Refused error) text = ⊥
  Owes s p w (r ∷ own) (Ahead why) text = ⊥
  Owes s p w (r ∷ own) (Served e) text =
      Misses s p w.client (state r.link) (start_at r.link) r.keep e text

  -- whether its client may ask for more, by its session, where hooks answered it
  abbrev pub TellsOwed : (s : Start) (p : Passed) (w : World) (own : List (Returned L))
      (owed : Owed) (text : List ℕ) → Owes s p w own owed text → HttpSession → Type 0
  TellsOwed s p w [] (Refused error) text owes session = Unit {0}
  TellsOwed s p w [] (Ahead why) text owes session = IsAnsweredCalmly w why owes.0 session
  TellsOwed s p w [] (Served e) text owes session = Unit {0}
  TellsOwed s p w (r ∷ own) owed text owes session = Unit {0}

  -- the link of an attempt that failed was handed back, and the attempt was recorded
  pub record IsGivenBack (s : Start) (p : Passed) (r : Returned L)
      (attempts : List AttemptRecord) (e : Error) : Type 0 where
    pub tells : TellsLink p (state r.link) (start_at r.link)
    pub peer : IsNamed s.called r.peer
    pub tries : List AttemptRecord
    pub attempt : AttemptRecord
    pub attempts_are : attempts ≡ tries ++ attempt ∷ []
    pub are_tries : AreTries s tries
    pub is_record : IsRecordOf s.called attempt (start_at r.link) r.keep
    pub error : attempt.error ≡ Some e

  -- the attempts of a request that owes its client an answer
  abbrev pub HasAttempts : Start → Passed → List (Returned L) → Owed → List AttemptRecord → Type 0
  HasAttempts s p [] (Refused error) attempts = MadeNone s attempts
  HasAttempts s p [] (Ahead why) attempts = MadeAhead s why attempts
  HasAttempts s p [] (Served e) attempts = EndsTrying s attempts e
  HasAttempts s p (r ∷ []) (Refused error) attempts = ⊥
  HasAttempts s p (r ∷ []) (Ahead why) attempts = ⊥
  HasAttempts s p (r ∷ []) (Served e) attempts = IsGivenBack s p r attempts e
  HasAttempts s p (r ∷ q ∷ own) owed attempts = ⊥

  -- the client is given a generated answer, and something of it waits
  pub record IsAnswering (s : Start) (p : Passed) (w : World) (own : List (Returned L))
      (session : HttpSession) (owed : Owed) (attempts : List AttemptRecord) : Type 0 where
    pub text : List ℕ
    pub owes : Owes s p w own owed text
    pub tells : TellsOwed s p w own owed text owes session
    pub waits : WaitsOf session.writing.output p.written text
    pub made : HasAttempts s p own owed attempts

  -- the client was given a part of what it is owed
  pub record IsHalfGiven (s : Start) (p : Passed) (w : World) (own : List (Returned L))
      : Type 0 where
    pub owed : Owed
    pub text : List ℕ
    pub owes : Owes s p w own owed text
    pub part : IsFrontOf p.written text
    pub left : p.written ≢ text
