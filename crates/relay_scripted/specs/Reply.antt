-- An answer to the client in the place of an upstream's (RFC 9110, section 15).
use Rattle.std.specs.Prelude.{◌≡◌, ℕ, true, false, Option, Some, Result, Ok, Err}
use Rattle.relay_tasks.specs.declared.error.Error.{Error}
use Rattle.relay_tasks.specs.declared.error.Fail.{Fail}
use Rattle.relay_tasks.specs.declared.error.Fail.TheVariants as fail
use Rattle.relay_tasks.specs.declared.fault.Fault.{Fault}
use Rattle.relay_session.specs.Generated.{IsKeptFault}
use Rattle.relay_session.specs.Response.{error_of}
use Rattle.relay_session.specs.declared.writing.Outgoing.{Outgoing}
use Rattle.relay_modules.specs.declared.seen.Seen.{Seen}
use Rattle.relay_hooks.specs.Answer.{is_whole}
use Rattle.relay_hooks.specs.DefaultLaw.{lone_answer}
use Rattle.relay_hooks.specs.Session.{Queues}
use Rattle.relay_script.specs.Lawful.{is_final_code}
use Rattle.relay_scripted.specs.declared.decision.Reply.{Reply}
use Rattle.relay_scripted.specs.declared.decision.Reply.TheVariants as reply

-- the answer has the status of a final head
abbrev pub IsFinalReply : Reply → Type 0
IsFinalReply reply.Nothing = Unit {0}
IsFinalReply (reply.Status code) = is_final_code code ≡ true

-- the answer with that status was queued, whole; the request's head and the keepalive flag stay
pub record Answers (code : ℕ) (old new : Seen) : Type 0 where
  pub queues : Queues old new
  pub wrote : new.wrote ≡ lone_answer code
  pub whole : is_whole new.wrote ≡ true
  pub untouched : new.touched ≡ false
  pub keepalive : new.keepalive ≡ old.keepalive

-- the error is that of a write that failed before
pub record IsWriteFault (error : Error) : Type 0 where
  pub fault : Fault
  pub is : error ≡ error_of fault

-- the error is that of the write to this client that failed before
pub record TellsFault (old : Seen) (error : Error) : Type 0 where
  pub is_fault : IsWriteFault error
  pub is_kept : IsKeptFault old.downstream.writing.output (fail.Error error)

-- the answer was queued; or a write had failed before, of which the call fails, or it is out of
-- memory, and nothing has changed
abbrev pub AnswersWith : ℕ → Result Unit Fail → Seen → Seen → Type 0
AnswersWith code (Ok done) old new = Answers code old new
AnswersWith code (Err (fail.Error error)) old new = TellsFault old error × (new ≡ old)
AnswersWith code (Err fail.OutOfMemory) old new = new ≡ old

-- the error of a hook that may answer: where a rule answers, that of the write that failed before,
-- which the session keeps; else that of its rules
abbrev pub ErrsAs : Reply → Option Error → Outgoing → Error → Type 0
ErrsAs (reply.Status code) failure output error = IsKeptFault output (fail.Error error)
ErrsAs reply.Nothing failure output error = failure ≡ Some error

-- the hook fails with that error, or is out of memory
abbrev pub FailsAs : Reply → Option Error → Outgoing → Fail → Type 0
FailsAs given failure output (fail.Error error) = ErrsAs given failure output error
FailsAs given failure output fail.OutOfMemory = Unit {0}
