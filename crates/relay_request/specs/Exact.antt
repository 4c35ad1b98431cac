-- Causes the other way round: where a cause stands, the request has that outcome.
use Rattle.std.specs.Prelude.{◌≡◌, ◌⊎◌, ◌||◌, ℕ, All, Bool, true, false, List, [], ◌∷◌, Option, Some, None}
use Rattle.relay_tasks.specs.Head.{RequestHead}
use Rattle.relay_tasks.specs.declared.Error.{Error}
use Rattle.relay_tasks.specs.declared.log.LogEntry.{LogEntry}
use Rattle.relay_links.specs.Count.{Rose}
use Rattle.relay_links.specs.Link.{LinkState, LinkStart}
use Rattle.relay_connector.specs.declared.Returned.{Returned}
use Rattle.relay_calls.specs.Log.{filters_request, filters_response, is_module_response}
use Rattle.relay_attempt.specs.Agrees.{Agrees, AsksAlike}
use Rattle.relay_attempt.specs.Passed.{Passed}
use Rattle.relay_valid.specs.Unfit.{IsUnfit}
use Rattle.relay_valid.specs.Valid.{AsksFor, AnswersWith}
use Rattle.relay_request.specs.Relayable.{IsAccepted, IsRelayable}
use Rattle.relay_request.specs.Passed.{World, Start, origin_of, asked}
use Rattle.relay_request.specs.Sent.{Sends, RefusesToSend}
use Rattle.relay_hooked.specs.Neutral.{LeavesIt}
use Rattle.relay_request.specs.Endings.{EndsAhead, IsTurnedDown, IsLeftAlone}
use Rattle.relay_request.specs.declared.outcome.Outcome.{Outcome}
use Rattle.relay_request.specs.declared.outcome.Outcome.TheVariants.{NoRequest, Refused, Served, TurnLimit, OutOfMemory}

-- the request was not brought to an end of its own: no more turns, or no memory
abbrev pub IsUnfinished : Outcome → Type 0
IsUnfinished outcome = (outcome ≡ TurnLimit) ⊎ (outcome ≡ OutOfMemory)

-- the client was given a generated answer for its bytes
pub record IsRefusal (s : Start) (p : Passed) (outcome : Outcome) : Type 0 where
  pub answer : List ℕ
  pub error : Option Error
  pub turned_down : IsTurnedDown (asked s p) answer error
  pub is : outcome ≡ Refused error

-- nothing was relayed, and the error has its cause
pub record IsLeft (s : Start) (p : Passed) (w : World) (outcome : Outcome) : Type 0 where
  pub e : Error
  pub why : IsLeftAlone s p w e
  pub is : outcome ≡ Refused (Some e)

-- the hooks before the attempts did not end the request: none of them answered or stopped it
abbrev pub PassesHooks : Start → Passed → World → Type 0
PassesHooks s p w = (told : Option Error) → ¬ (EndsAhead s p w told)

-- a call of a filter of the request's body or of the response
abbrev pub is_filter : LogEntry → Bool
is_filter e =
    filters_request e.hook || (filters_response e.hook || is_module_response e.hook)

-- the filters of these calls changed nothing: each left what it was given, and answered no error
abbrev pub LeaveAll : List LogEntry → Type 0
LeaveAll called = All (λ e. is_filter e ≡ true → LeavesIt e) called

-- the attempt failed; the error has its cause by the outcome's own clause
abbrev pub IsMissed : Outcome → Type 0
IsMissed outcome = (e : Error) × (outcome ≡ Served (Some e) false)

module _ {L : Type 0} (state : L → LinkState) (start_at : L → LinkStart) where
  -- no call of a link failed, nor, where no link was handed back, one of the connector
  pub record IsFaultless (s : Start) (w : World) (own : List (Returned L)) : Type 0 where
    pub client : ¬ (Rose s.faults w.client.faults)
    pub connector : own ≡ [] → ¬ (Rose s.connect_faults w.connect_faults)
    pub link : (r : Returned L) → own ≡ r ∷ []
        → ¬ (Rose (start_at r.link).faults (state r.link).faults)

  -- where a cause stands, the request has that outcome, unless it is unfinished
  pub record IsExact
      (s : Start) (p : Passed) (w : World) (own : List (Returned L)) (outcome : Outcome)
      : Type 0 where
    -- the client ended before any byte
    pub no_request : asked s p ≡ [] → w.client.ended ≡ true
        → IsUnfinished outcome ⊎ (outcome ≡ NoRequest)
    -- the head is refused, by the verdict or by the entry check, or asks for a tunnel, and the
    -- generated answer was written whole
    pub refused : (answer : List ℕ) (error : Option Error)
        → IsTurnedDown (asked s p) answer error → p.written ≡ answer
        → IsUnfinished outcome ⊎ IsRefusal s p outcome
    -- the client ended inside its head, or the head names Upgrade
    pub not_relayed : (e : Error) → IsLeftAlone s p w e
        → IsUnfinished outcome ⊎ IsLeft s p w outcome
    -- the response is broken, cut off, or switches protocols, whatever head is sent of the
    -- client's, which is a HEAD exactly where that is one; and the filters changed nothing
    pub unfit : (r : Returned L) (head : RequestHead) → own ≡ r ∷ [] → IsAccepted s p head
        → LeaveAll s.called
        → ((sent : RequestHead) → Sends s.called head sent → AsksAlike head sent)
        → ((sent : RequestHead) → Sends s.called head sent
        → IsUnfit sent.method false p.got (state r.link).ended)
        → IsUnfinished outcome ⊎ IsMissed outcome
    -- a valid request of a form that is relayed, which hooks let pass, and of which a head can be
    -- sent that agrees with it; and a valid response to whatever head is sent of it, with no fault;
    -- and the filters changed nothing
    pub whole : (head : RequestHead) → IsRelayable head → PassesHooks s p w → LeaveAll s.called
        → ((r : Returned L) (keep : Bool) (e : Error) → own ≡ r ∷ []
        → ¬ (RefusesToSend s.called (start_at r.link) head keep e))
        → ((sent : RequestHead) → Sends s.called head sent → Agrees head sent)
        → AsksFor (origin_of s head head false) p w.client
        → ((r : Returned L) (sent : RequestHead) → own ≡ r ∷ [] → Sends s.called head sent
        → AnswersWith sent.method false p (state r.link))
        → IsFaultless s w own
        → IsUnfinished outcome ⊎ ((reuse : Bool) × (outcome ≡ Served None reuse))
