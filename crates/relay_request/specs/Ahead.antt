-- What a request comes to whose hooks ended it before its attempts: one of them answered it, or
-- stopped it with an error (RFC 9110, sections 3.7 and 15).
use Rattle.std.specs.Prelude.{◌≡◌, ◌⊎◌, ℕ, Bool, true, false, List, [], ◌∷◌, ◌++◌, Option, None, Some}
use Rattle.relay_tasks.specs.Head.{RequestHead, ResponseHead}
use Rattle.relay_tasks.specs.Hooks.{same_hook}
use Rattle.relay_tasks.specs.declared.Error.{Error}
use Rattle.relay_tasks.specs.declared.hook.Hook.TheVariants as hook
use Rattle.relay_tasks.specs.declared.log.LogEntry.{LogEntry}
use Rattle.relay_tasks.specs.declared.task.HttpTask.{HttpTask}
use Rattle.relay_session.specs.Asked.{request_of}
use Rattle.relay_session.specs.Response.{has_head}
use Rattle.relay_session.specs.TaskWire.{wire}
use Rattle.relay_session.specs.declared.task_text.Place.TheVariants as place
use Rattle.relay_session.specs.declared.task_text.Request.{Request}
use Rattle.relay_hooks.specs.Answer.{is_whole}
use Rattle.relay_hooks.specs.DefaultLaw.{lone_answer}
use Rattle.relay_hooks.specs.Laws.{IsBodiless}
use Rattle.relay_phases.specs.Order.{Accepts, Station, accepted, answered, failing}
use Rattle.relay_phases.specs.Order.{Station as station}
use Rattle.relay_phases.specs.Turns.{wrote_in}
use Rattle.relay_purging.specs.Purging.{head_told}
use Rattle.relay_purging.specs.Queued.{lone_head}
use Rattle.relay_attempt.specs.Passed.{Passed}
use Rattle.relay_request.specs.Answer.{answer_to}
use Rattle.relay_request.specs.Passed.{Start}
use Rattle.relay_request.specs.Passed as passed
use Rattle.relay_request.specs.Relayable.{IsAccepted}
use Rattle.relay_request.specs.Sent.{IsAnswered, only_treats}

-- at that station hooks have let the request go to an upstream, and none of an attempt has failed
abbrev pub goes_on : Station → Bool
goes_on station.trying = true
goes_on station.named = true
goes_on station.linked = true
goes_on station.sent = true
goes_on other = false

-- hooks let the request go to an upstream, by their log up to where the error of an attempt was
-- treated
pub record LetsGo (called : List LogEntry) : Type 0 where
  pub before : List LogEntry
  pub after : List LogEntry
  pub called_are : called ≡ before ++ after
  pub treats : only_treats after ≡ true
  pub at : Station
  pub order : Accepts accepted before at
  pub goes : goes_on at ≡ true

-- the last of these calls filtered the answer of a purge
abbrev pub ends_purge : List LogEntry → Bool
ends_purge [] = false
ends_purge (e ∷ []) = same_hook hook.PurgeResponseFilter e.hook
ends_purge (e ∷ f ∷ es) = ends_purge (f ∷ es)

-- the last of these calls filtered the answer of a purge, whose head is that one then
pub record LastPurges (called : List LogEntry) (answer : ResponseHead) : Type 0 where
  pub before : List LogEntry
  pub last : LogEntry
  pub is_last : called ≡ before ++ last ∷ []
  pub is_filter : last.hook ≡ hook.PurgeResponseFilter
  pub told : head_told last ≡ Some answer

-- what the client is given where these calls answered a request: what they queued; the relay's own
-- 502 behind that, where no final head is among it; or, where it is a purge, the head of its
-- answer, as the entry of its filter tells, and no body
pub data IsAnswerOf (called : List LogEntry) (request : Request) : List HttpTask → Type 0 where
  as_queued : ends_purge called ≡ false
      → (is_whole (wrote_in called) ≡ true)
      ⊎ (has_head (wire request place.NoHead (wrote_in called)).place ≡ true)
      → IsAnswerOf called request (wrote_in called)
  with_502 : ends_purge called ≡ false
      → has_head (wire request place.NoHead (wrote_in called)).place ≡ false
      → IsAnswerOf called request (wrote_in called ++ lone_answer 502)
  of_purge : (answer : ResponseHead) → LastPurges called answer → IsBodiless answer
      → IsAnswerOf called request (lone_head answer)

-- the last call answered that error
pub record LastFails (called : List LogEntry) (e : Error) : Type 0 where
  pub before : List LogEntry
  pub last : LogEntry
  pub is_last : called ≡ before ++ last ∷ []
  pub error : last.error ≡ Some e

-- hooks stopped a request with that error: one of them answered it, and it is final
pub record IsStoppedFor (called : List LogEntry) (e : Error) : Type 0 where
  pub order : Accepts accepted called failing
  pub fails : LastFails called e

-- the client is owed that text by the hooks before the attempts, for an error or for none: the text
-- of their answer, that of a purge among them; or of what the application answered the error with,
-- with which one of them stopped the request
pub data IsOwedAhead (s : Start) (p : Passed) : Option Error → List ℕ → Type 0 where
  by_answer : (head : RequestHead) (tasks : List HttpTask) (text : List ℕ) → IsAccepted s p head
      → Accepts accepted s.called answered
      → IsAnswerOf s.called (request_of head) tasks
      → text ≡ (wire (request_of head) place.NoHead tasks).text → IsOwedAhead s p None text
  by_error : (head : RequestHead) (e : Error) (text : List ℕ) → IsAccepted s p head
      → IsStoppedFor s.called e → IsAnswered s.closed e → text ≡ answer_to head (passed.answered s)
      → IsOwedAhead s p (Some e) text
