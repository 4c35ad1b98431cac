-- How a request may end: each outcome with its cause, in terms of what passed.
use Rattle.std.specs.Prelude.{◌≡◌, ◌≢◌, ◌⊎◌, ◌↔◌, IsTrue, ℕ, ◌+◌, Bool, true, false, List, [], ◌∷◌, ◌++◌, Option, None, Some}
use Rattle.std.specs.List.{list_any}
use Rattle.http.specs.declared.version.TheConstants.Version.{HTTP_11}
use Rattle.relay_tasks.specs.Error.{explained}
use Rattle.relay_tasks.specs.Head.{RequestHead}
use Rattle.relay_tasks.specs.declared.Context.{Context}
use Rattle.relay_tasks.specs.declared.Context.TheVariants.{ClientClosed}
use Rattle.relay_tasks.specs.declared.Error.{Error}
use Rattle.relay_tasks.specs.declared.ErrorType.TheVariants as kind
use Rattle.relay_tasks.specs.declared.ErrorSource.TheVariants.{Downstream}
use Rattle.relay_tasks.specs.declared.Fault.{Fault}
use Rattle.relay_tasks.specs.declared.log.LogEntry.{LogEntry}
use Rattle.relay_tasks.specs.declared.task.HttpTask.{HttpTask}
use Rattle.relay_tasks.specs.Task.{is_end}
use Rattle.relay_links.specs.Count.{Rose}
use Rattle.relay_links.specs.Link.{LinkState, LinkStart, IsHandedOut, IsReadFault, IsWriteFault}
use Rattle.relay_connector.specs.Upstream.{SpeaksBytes}
use Rattle.relay_connector.specs.declared.Returned.{Returned}
use Rattle.relay_h1.specs.Options.{closes}
use Rattle.relay_h1.specs.Verdict.{IsOpen, HasRequest, IsRefusedRequest, refused_from}
use Rattle.relay_h1.specs.Wire.{generated}
use Rattle.relay_h1.specs.declared.framing.Framing.{Framing}
use Rattle.relay_authority.specs.Entry.{Entered}
use Rattle.relay_session.specs.Asked.{request_of}
use Rattle.relay_session.specs.Front.{ends_with_head}
use Rattle.relay_session.specs.Reading.{IsWhole}
use Rattle.relay_session.specs.Response.{is_over}
use Rattle.relay_session.specs.TaskWire.{Sent, wire}
use Rattle.relay_session.specs.declared.task_text.Place.TheVariants as stands
use Rattle.relay_phases.specs.Order.{may_try_again}
use Rattle.relay_core.specs.Past.{Origin}
use Rattle.relay_peer.specs.Body.{IsFrontOf, body_of}
use Rattle.relay_peer.specs.Faults.{IsAmong, IsLast}
use Rattle.relay_attempt.specs.Agrees.{Agrees}
use Rattle.relay_attempt.specs.Passed.{Passed}
use Rattle.relay_valid.specs.Valid.{IsValid}
use Rattle.relay_hooked.specs.Calls.{Filtering}
use Rattle.relay_hooked.specs.Neutral.{AreNeutral}
use Rattle.relay_hooked.specs.Order as exchange
use Rattle.relay_hooked.specs.Order.{EndsEarly, FailsFor, order_of, text_of, IsInOrderWith, IsRelayed, Keeps, MayServe, SendsShort}
use Rattle.relay_request.specs.Ahead.{IsOwedAhead}
use Rattle.relay_request.specs.Answer.{answer_to, owed_text, past_at}
use Rattle.relay_request.specs.Named.{IsNamed}
use Rattle.relay_request.specs.Relayable.{IsAccepted, IsConnect, IsRelayable, NamesUpgrade}
use Rattle.relay_request.specs.Passed.{World, Start, StandsIn, answered, origin_at, asked, TellsClient, TellsLink, IsUnsent, IsUntouched}
use Rattle.relay_request.specs.Sent.{Sends, RefusesToSend, IsAnswered, IsTreated, IsUntreated, unrelayed}
use Rattle.relay_request.specs.Tries.{AreTries, EndsTrying, IsRefusedFor, LosesTry, MayTry, fault_error, made_before}
use Rattle.relay_request.specs.declared.outcome.Outcome.{Outcome}
use Rattle.relay_request.specs.declared.outcome.Outcome.TheVariants.{NoRequest, Refused, Served, TurnLimit, OutOfMemory}
use Rattle.relay_request.specs.declared.record.AttemptRecord.{AttemptRecord}

-- why the client is given a generated answer, which one, and the error that goes with it
pub data IsTurnedDown (bytes answer : List ℕ) (error : Option Error) : Type 0 where
  -- its head is refused
  has_bad_head : (why : Context) → IsRefusedRequest bytes why → answer ≡ generated 400
      → error ≡ Some (refused_from Downstream why) → IsTurnedDown bytes answer error
  -- its head is valid, and the entry check refuses it: whom it is for is not said, or not in one
  -- way
  is_not_entered : (head : RequestHead) (framing : Framing) (len : ℕ) (why : Context)
      → HasRequest bytes head framing len → Entered head (Some why) → answer ≡ generated 400
      → error ≡ Some (refused_from Downstream why) → IsTurnedDown bytes answer error
  -- its head passes the check, and asks for a tunnel to an authority
  asks_to_connect : (head : RequestHead) (framing : Framing) (len : ℕ)
      → HasRequest bytes head framing len → Entered head None → IsConnect head
      → answer ≡ generated 405 → error ≡ None → IsTurnedDown bytes answer error

-- what was sent and what was written, whatever the outcome: nothing; the front of a generated
-- answer, or of what hooks answered, with nothing sent; those of one exchange, whose request is of
-- a form that is relayed; or those of one that failed when a part had been written: the front of
-- what was queued, with the answer to its error, as it was treated, behind it
pub data IsInOrder (s : Start) (p : Passed) : Type 0 where
  is_nothing : p.written ≡ [] → p.sent ≡ [] → IsInOrder s p
  is_refusal : (answer : List ℕ) (error : Option Error) → IsTurnedDown (asked s p) answer error
      → IsFrontOf p.written answer → p.sent ≡ [] → IsInOrder s p
  is_ahead : (why : Option Error) (text : List ℕ) → IsOwedAhead s p why text
      → IsFrontOf p.written text → p.sent ≡ [] → IsInOrder s p
  is_exchange : (refused : Option Error) (f : Filtering) (began : List LogEntry)
      (head sent : RequestHead) (reused closed : Bool) → IsRelayable head
      → Sends s.called head sent → StandsIn s.called began f.calls
      → IsInOrderWith refused f (origin_at s head sent reused began) p closed → IsInOrder s p
  is_unlinked : (head : RequestHead) (e : Error) → IsAccepted s p head → IsRefusedFor s.called e
      → IsAnswered s.closed e → IsFrontOf p.written (answer_to head (answered s)) → p.sent ≡ []
      → IsInOrder s p
  is_unsent : (head : RequestHead) (start : LinkStart) (keep : Bool) (raised e : Error)
      → IsAccepted s p head → RefusesToSend s.called start head keep raised
      → IsTreated s.called raised e → IsAnswered s.closed e
      → IsFrontOf p.written (answer_to head (answered s)) → p.sent ≡ [] → IsInOrder s p
  is_failure : (refused : Option Error) (f : Filtering) (began : List LogEntry)
      (head sent : RequestHead) (reused closed : Bool) (before : List ℕ) (raised e : Error)
      → IsRelayable head → Sends s.called head sent → StandsIn s.called began f.calls
      → (order : IsInOrderWith refused f (origin_at s head sent reused began) (past_at p before)
      closed)
      → IsTreated s.called raised e → IsAnswered s.closed e
      → IsFrontOf p.written (owed_text order (answered s)) → IsInOrder s p

-- the error of a client that ended inside its head
abbrev pub left_early : Error
left_early = record (explained kind.ConnectionClosed ClientClosed) { esource = Downstream }

-- the client ended before any byte
pub record IsNoRequest (s : Start) (p : Passed) (w : World) : Type 0 where
  pub no_byte : asked s p ≡ []
  pub ended : w.client.ended ≡ true
  pub written : p.written ≡ []
  pub unsent : IsUnsent p

-- the client was given a generated answer, whole
pub record IsAnsweredHere (s : Start) (p : Passed) (error : Option Error) : Type 0 where
  pub answer : List ℕ
  pub turned_down : IsTurnedDown (asked s p) answer error
  pub whole : p.written ≡ answer
  pub unsent : IsUnsent p

-- the client ended inside its head, after at least one byte
pub record EndsInHead (s : Start) (p : Passed) (w : World) : Type 0 where
  pub begun : asked s p ≢ []
  pub open_head : IsOpen (asked s p)
  pub ended : w.client.ended ≡ true

-- the head is valid and passes the entry check, and it names Upgrade, which is not relayed so far
pub record IsUnrelayable (s : Start) (p : Passed) : Type 0 where
  pub head : RequestHead
  pub framing : Framing
  pub len : ℕ
  pub has : HasRequest (asked s p) head framing len
  pub entered : Entered head None
  pub no_connect : ¬ (IsConnect head)
  pub upgrade : NamesUpgrade head

-- why nothing is relayed and no answer is given: the head did not end, or it names Upgrade
pub data IsLeftAlone (s : Start) (p : Passed) (w : World) (e : Error) : Type 0 where
  ends_in_head : EndsInHead s p w → e ≡ left_early → IsLeftAlone s p w e
  is_unrelayable : IsUnrelayable s p → e ≡ unrelayed Downstream → IsLeftAlone s p w e

-- nothing is relayed, and nothing was written
pub record IsNotRelayed (s : Start) (p : Passed) (w : World) (error : Option Error) : Type 0 where
  pub e : Error
  pub is : error ≡ Some e
  pub why : IsLeftAlone s p w e
  pub written : p.written ≡ []
  pub unsent : IsUnsent p

-- a read of the client's head failed, and its fault is the last that the link tells of its reads
-- since the request began
pub record FailsInHead (s : Start) (p : Passed) (w : World) (fault : Fault) : Type 0 where
  pub kind : IsReadFault fault
  pub told : IsLast s.read_faults w.client.read_faults fault
  pub open_head : IsOpen (asked s p)
  pub ended : w.client.ended ≡ false
  pub written : p.written ≡ []

-- the client is given a generated answer, of which some is left
pub record IsHalfAnswered (s : Start) (p : Passed) : Type 0 where
  pub answer : List ℕ
  pub error : Option Error
  pub turned_down : IsTurnedDown (asked s p) answer error
  pub part : IsFrontOf p.written answer
  pub left : p.written ≢ answer

-- a write of the generated answer failed, and its fault is the last that the link tells of its
-- writes since the request began
pub record FailsInRefusal (s : Start) (p : Passed) (w : World) (fault : Fault) : Type 0 where
  pub kind : IsWriteFault fault
  pub told : IsLast s.write_faults w.client.write_faults fault
  pub unfinished : IsHalfAnswered s p

-- the client's link failed before a link was asked for
pub record IsClientFault (s : Start) (p : Passed) (w : World) (error : Option Error) : Type 0 where
  pub fault : Fault
  pub is : error ≡ Some (fault_error Downstream fault)
  pub rose : Rose s.faults w.client.faults
  pub place : FailsInHead s p w fault ⊎ FailsInRefusal s p w fault
  pub unsent : IsUnsent p

-- a write of the client's link failed since the request began: its fault is among those that the
-- link tells of its writes
pub record FailsToWrite (s : Start) (client : LinkState) : Type 0 where
  pub fault : Fault
  pub kind : IsWriteFault fault
  pub rose : Rose s.faults client.faults
  pub among : IsAmong s.write_faults client.write_faults fault

-- the client was given all of the text, or a write of its link failed and it was given the front
abbrev pub IsGiven : Start → Passed → World → List ℕ → Type 0
IsGiven s p w text =
    (p.written ≡ text) ⊎ (FailsToWrite s w.client × IsFrontOf p.written text)

-- the last attempt was given no link, for that error
pub record IsUnconnected (s : Start) (p : Passed) (w : World) (e : Error) : Type 0 where
  pub refused : IsRefusedFor s.called e
  pub rose : Rose s.connect_faults w.connect_faults
  pub head : RequestHead
  pub accepted : IsAccepted s p head
  pub unsent : IsUnsent p

-- and the client is owed that text, which the application answered the error with
pub record IsOwedUnlinked (s : Start) (p : Passed) (w : World) (e : Error) (text : List ℕ)
    : Type 0 where
  pub unconnected : IsUnconnected s p w e
  pub told : IsAnswered s.closed e
  pub text_is : text ≡ answer_to unconnected.head (answered s)

-- and it was given that, or a write of its link failed
pub record FailsToConnect (s : Start) (p : Passed) (w : World) (e : Error) : Type 0 where
  pub text : List ℕ
  pub owed : IsOwedUnlinked s p w e text
  pub given : IsGiven s p w text

-- a write of the client's link failed, and its fault is the last that the link tells of its writes
-- since the request began
pub record FailsToGive (s : Start) (w : World) (fault : Fault) : Type 0 where
  pub kind : IsWriteFault fault
  pub rose : Rose s.faults w.client.faults
  pub told : IsLast s.write_faults w.client.write_faults fault

-- the client was given what hooks answered, or a write of it failed; or, where they stopped the
-- request with an error, the answer to that
abbrev pub IsGivenAhead : Start → Passed → World → Option Error → List ℕ → Option Error → Type 0
IsGivenAhead s p w None text told =
    ((told ≡ None) × (p.written ≡ text))
    ⊎ ((fault : Fault) × FailsToGive s w fault × (told ≡ Some (fault_error Downstream fault))
    × IsFrontOf p.written text)
IsGivenAhead s p w (Some e) text told = (told ≡ Some e) × IsGiven s p w text

-- the hooks before the attempts ended the request, by that error or without one
pub record EndsAhead (s : Start) (p : Passed) (w : World) (told : Option Error) : Type 0 where
  pub why : Option Error
  pub text : List ℕ
  pub owed : IsOwedAhead s p why text
  pub given : IsGivenAhead s p w why text told
  pub unsent : IsUnsent p
  -- no attempt failed, whose error was treated
  pub untreated : IsUntreated s.called

-- a client's connection may serve another request behind what was sent to answer one with that
-- head: it speaks HTTP/1.1; neither its head nor that of the answer asks to close, nor does the
-- body of the answer last until the connection ends; there is an answer, and it is over; and the
-- request, of whose body nothing was read, has none, with no byte behind it (RFC 9112, sections 9.3
-- and 9.6)
pub record IsReusableBehind (head : RequestHead) (framing : Framing) (sent : Sent) (ahead : List ℕ)
    : Type 0 where
  pub version : head.version ≡ HTTP_11
  pub asks : closes head.fields ≡ false
  pub answers : sent.closes ≡ false
  pub some : sent.text ≢ []
  pub over : is_over sent.place ≡ true
  pub ended : ends_with_head framing ≡ true
  pub nothing_ahead : ahead ≡ []

-- so it may behind what hooks answered; behind an error none may
abbrev pub IsReusableAhead : {s : Start} {p : Passed} {why : Option Error} {text : List ℕ}
    → IsOwedAhead s p why text → List ℕ → Type 0
IsReusableAhead (IsOwedAhead.by_answer head tasks text accepted order is_answer is) ahead =
    IsReusableBehind head accepted.framing (wire (request_of head) stands.NoHead tasks) ahead
IsReusableAhead (IsOwedAhead.by_error head e text accepted stopped told is) ahead = ⊥

-- hooks answered the request, and its client was given all of that
pub record EndsAnswered (s : Start) (p : Passed) (w : World) (reuse : Bool) : Type 0 where
  pub ends : EndsAhead s p w None
  -- no call of the client's link failed
  pub calm : w.client.faults ≡ s.faults
  -- the client goes back exactly where it may ask for more
  pub goes_back : IsTrue reuse ↔ IsReusableAhead ends.owed w.ahead

-- how it ends where the client ended with these bytes of its head
abbrev pub ended_outcome : List ℕ → Outcome
ended_outcome [] = NoRequest
ended_outcome (b ∷ bytes) = Refused (Some left_early)

-- how a request ends that had no link
abbrev pub EndsUnlinked : Start → Passed → World → Outcome → Type 0
EndsUnlinked s p w NoRequest = IsNoRequest s p w
EndsUnlinked s p w (Refused error) =
    IsAnsweredHere s p error ⊎ (IsNotRelayed s p w error ⊎ IsClientFault s p w error)
EndsUnlinked s p w (Served None reuse) = EndsAnswered s p w reuse
EndsUnlinked s p w (Served (Some e) reuse) =
    (FailsToConnect s p w e ⊎ EndsAhead s p w (Some e)) × (reuse ≡ false)
EndsUnlinked s p w TurnLimit = IsUnsent p
EndsUnlinked s p w OutOfMemory = IsUnsent p

-- the request of a client has ended: an end is among what came of it
abbrev pub HasEnded : {f : Filtering} {o : Origin} {p : Passed} {closed : Bool}
    → exchange.IsInOrder f o p closed → Type 0
HasEnded order = list_any is_end order.came ≡ true

-- a client's connection may serve another request: it speaks HTTP/1.1, neither its head nor the
-- response as it was written closes it, and its request has ended with no byte behind it; and no
-- call of its link failed since the request began, when so many had (RFC 9112, section 9.3)
pub record IsClientReusable {f : Filtering}
    (o : Origin) (p : Passed) (closed : Bool) (order : exchange.IsInOrder f o p closed)
    (first : ℕ) (w : World) : Type 0 where
  pub version : o.head.version ≡ HTTP_11
  pub asks : closes o.head.fields ≡ false
  pub answers : (text_of order).closes ≡ false
  pub ended : HasEnded order
  pub nothing_ahead : w.ahead ≡ []
  pub unfailed : ¬ (Rose first w.client.faults)

-- request and response were relayed; how far the request was is said by `IsRelayed`
pub record IsRelayedWhole
    (s : Start) (p : Passed) (w : World) (link : LinkState) (start : LinkStart) (keep reuse : Bool)
    : Type 0 where
  pub head : RequestHead
  pub sent : RequestHead
  pub relayable : IsRelayable head
  pub sends : Sends s.called head sent
  -- by these calls of its filters, behind those
  pub f : Filtering
  pub began : List LogEntry
  pub stands : StandsIn s.called began f.calls
  pub relayed : IsRelayed f (origin_at s head sent start.reused began) p link start
  pub speaks : SpeaksBytes start
  -- where both heads agree, and the filters changed nothing, the request does not end short
  pub unshort : Agrees head sent → AreNeutral f.calls
      → ¬ (SendsShort (origin_at s head sent start.reused began) relayed.order.taken)
  -- no call of the client's link failed
  pub calm : w.client.faults ≡ s.faults
  -- the link is kept only where it may serve another request
  pub kept : keep ≡ true
      → MayServe (origin_at s head sent start.reused began) p link.ended relayed.order.read
  -- and where no call of it failed
  pub faultless : keep ≡ true → link.faults ≡ start.faults
  -- and a link that may serve another request is kept, where no call of it failed and the request
  -- did not end short
  pub keeps : Keeps link start relayed.order keep
  -- the client goes back exactly where it may ask for more
  pub goes_back : IsTrue reuse
      ↔ IsClientReusable (origin_at s head sent start.reused began) p link.ended relayed.order
      s.first w
  -- a request that has ended is all that was taken from the client's bytes
  pub behind : HasEnded relayed.order
      → IsWhole (asked s p) (body_of relayed.order.came) w.ahead

-- the response was over towards the client, and relayed so far, before its end was given to the
-- filters, as where these made another one of it
pub record IsRelayedEarly
    (s : Start) (p : Passed) (w : World) (link : LinkState) (start : LinkStart) (keep reuse : Bool)
    : Type 0 where
  pub head : RequestHead
  pub sent : RequestHead
  pub relayable : IsRelayable head
  pub sends : Sends s.called head sent
  -- by these calls of its filters, behind those
  pub f : Filtering
  pub began : List LogEntry
  pub stands : StandsIn s.called began f.calls
  pub early : EndsEarly f (origin_at s head sent start.reused began) p link start
  pub speaks : SpeaksBytes start
  -- no call of the client's link failed
  pub calm : w.client.faults ≡ s.faults
  -- the link is kept only where it may serve another request
  pub kept : keep ≡ true
      → MayServe (origin_at s head sent start.reused began) p link.ended early.order.read
  -- and where its response was read to the end
  pub read_whole : keep ≡ true → list_any is_end early.order.read ≡ true
  -- and where no call of it failed
  pub faultless : keep ≡ true → link.faults ≡ start.faults
  -- and a link whose response was so read, and that may serve another request, is kept, where no
  -- call of it failed and the request did not end short
  pub keeps : list_any is_end early.order.read ≡ true → Keeps link start early.order keep
  -- the client goes back exactly where it may ask for more
  pub goes_back : IsTrue reuse
      ↔ IsClientReusable (origin_at s head sent start.reused began) p link.ended early.order
      s.first w
  -- a request that has ended is all that was taken from the client's bytes
  pub behind : HasEnded early.order
      → IsWhole (asked s p) (body_of early.order.came) w.ahead

-- why no other attempt follows one whose error was treated so in that call: none may, behind so
-- many; or a final head was queued, or bytes of the body were read that are kept no longer, as the
-- call was shown; or a write to the client failed
pub data IsOver (s : Start) (client : LinkState) (call : LogEntry) (e : Error) : Type 0 where
  is_last : ¬ (MayTry s.most (1 + made_before s) e) → IsOver s client call e
  is_told : may_try_again call ≡ false → IsOver s client call e
  is_broken : FailsToWrite s client → IsOver s client call e

-- an exchange failed, when a part of what was queued had been written, and its error was treated:
-- that is what was made of it, and was answered, since no other attempt could follow
pub record HasFailed
    (s : Start) (p : Passed) (client link : LinkState) (start : LinkStart) (e : Error)
    : Type 0 where
  pub head : RequestHead
  pub sent : RequestHead
  pub relayable : IsRelayable head
  pub sends : Sends s.called head sent
  pub before : List ℕ
  pub raised : Error
  pub treated : IsTreated s.called raised e
  pub told : IsAnswered s.closed e
  -- by these calls of its filters, behind those
  pub f : Filtering
  pub began : List LogEntry
  pub stands : StandsIn s.called began f.calls
  pub why : FailsFor f (origin_at s head sent start.reused began) (past_at p before) client link
      start raised
  pub speaks : SpeaksBytes start
  pub over : IsOver s client treated.e e

-- what was queued for the client in it, and then the answer to its error
abbrev pub owed_by : {s : Start} {p : Passed} {client link : LinkState} {start : LinkStart}
    {e : Error} → HasFailed s p client link start e → List ℕ
owed_by {s = s} failed = owed_text (order_of failed.why) (answered s)

-- an attempt failed before its head was sent, and before anything was asked of the link, which
-- stands as it was handed out and is kept or not; that is what was made of its error
pub record IsRefusedAhead (s : Start) (p : Passed) (link : LinkState) (start : LinkStart)
    (keep : Bool) (e : Error)
    : Type 0 where
  pub head : RequestHead
  pub accepted : IsAccepted s p head
  pub raised : Error
  pub refused : RefusesToSend s.called start head keep raised
  pub treated : IsTreated s.called raised e
  pub told : IsAnswered s.closed e
  pub over : ¬ (MayTry s.most (1 + made_before s) e)
  pub fresh : IsHandedOut link start start.reused
  pub unsent : IsUnsent p

-- why an attempt failed that had a link, what its client is owed, and whether the link is kept: its
-- exchange failed; or no head was sent, and nobody asked the link
pub data Misses
    (s : Start) (p : Passed) (client link : LinkState) (start : LinkStart) (keep : Bool) (e : Error)
    (text : List ℕ) : Type 0 where
  in_exchange : (failed : HasFailed s p client link start e) → text ≡ owed_by failed
      → keep ≡ false → Misses s p client link start keep e text
  ahead_of_it : (refused : IsRefusedAhead s p link start keep e)
      → text ≡ answer_to refused.head (answered s) → Misses s p client link start keep e text

-- an attempt failed, for a cause that no valid exchange has whose filters changed nothing, and its
-- client was given what was queued for it and the answer: its link is not kept, and the client does
-- not go back
pub record IsFailedAttempt
    (s : Start) (p : Passed) (w : World) (link : LinkState) (start : LinkStart) (keep reuse : Bool)
    (e : Error) : Type 0 where
  pub failed : HasFailed s p w.client link start e
  pub invalid : AreNeutral failed.f.calls
      → ¬ (IsValid (origin_at s failed.head failed.sent start.reused failed.began) p w.client link
      start)
  pub answered : IsGiven s p w (owed_by failed)
  pub not_kept : keep ≡ false
  pub stays : reuse ≡ false

-- an attempt failed ahead of its exchange, and its client was given the answer to that: the client
-- does not go back
pub record IsUnsentAttempt
    (s : Start) (p : Passed) (w : World) (link : LinkState) (start : LinkStart) (keep reuse : Bool)
    (e : Error) : Type 0 where
  pub refused : IsRefusedAhead s p link start keep e
  pub answered : IsGiven s p w (answer_to refused.head (answered s))
  pub stays : reuse ≡ false

-- what was sent and written so far of one exchange over this link, as the link came back
pub record IsPartRelayed (s : Start) (p : Passed) (link : LinkState) (start : LinkStart)
    : Type 0 where
  pub head : RequestHead
  pub sent : RequestHead
  pub relayable : IsRelayable head
  pub sends : Sends s.called head sent
  -- by these calls of its filters, behind those
  pub f : Filtering
  pub began : List LogEntry
  pub stands : StandsIn s.called began f.calls
  pub refused : Option Error
  pub order : IsInOrderWith refused f (origin_at s head sent start.reused began) p link.ended
  pub speaks : SpeaksBytes start

-- the same of an attempt that failed with that error: a part of what the client is owed
pub record IsPartAnswered
    (s : Start) (p : Passed) (w : World) (link : LinkState) (start : LinkStart) (keep : Bool)
    (e : Error) : Type 0 where
  pub text : List ℕ
  pub misses : Misses s p w.client link start keep e text
  pub part : IsFrontOf p.written text

-- what passed where the request was not brought to an end: a part of one exchange, or nothing but
-- bytes of the client, and the link is not kept; or, by the error with which the attempt had
-- failed, a part of what the client is owed
abbrev pub IsPart : Start → Passed → World → LinkState → LinkStart → Bool → Option Error → Type 0
IsPart s p w link start keep None =
    (IsPartRelayed s p link start ⊎ ((p.written ≡ []) × IsUnsent p)) × (keep ≡ false)
IsPart s p w link start keep (Some e) = IsPartAnswered s p w link start keep e

-- how a request ends that had this link, which was handed back with that mark, and whose attempt is
-- recorded with that error
abbrev pub EndsLinked : Start → Passed → World → LinkState → LinkStart → Bool → Option Error
    → Outcome → Type 0
EndsLinked s p w link start keep told NoRequest = ⊥
EndsLinked s p w link start keep told (Refused error) = ⊥
EndsLinked s p w link start keep told (Served None reuse) =
    IsRelayedWhole s p w link start keep reuse ⊎ IsRelayedEarly s p w link start keep reuse
EndsLinked s p w link start keep told (Served (Some e) reuse) =
    IsFailedAttempt s p w link start keep reuse e ⊎ IsUnsentAttempt s p w link start keep reuse e
EndsLinked s p w link start keep told TurnLimit = IsPart s p w link start keep told
EndsLinked s p w link start keep told OutOfMemory = IsPart s p w link start keep told

-- the error that an outcome gives
abbrev pub error_of : Outcome → Option Error
error_of NoRequest = None
error_of (Refused error) = error
error_of (Served error reuse) = error
error_of TurnLimit = None
error_of OutOfMemory = None

-- the record of an attempt at the peer that these calls named, which had a link: no fault is told
pub record IsRecordOf (called : List LogEntry) (a : AttemptRecord) (start : LinkStart) (keep : Bool)
    : Type 0 where
  pub peer : IsNamed called a.peer
  pub reused : a.reused ≡ start.reused
  pub kept : a.kept ≡ keep
  pub unfaulted : a.fault ≡ None

-- the error of that record, by the outcome: its own; where the request was not brought to an end,
-- that with which the exchange had failed, if it had
abbrev pub IsErrorOf : Option Error → Outcome → Type 0
IsErrorOf told NoRequest = told ≡ None
IsErrorOf told (Refused error) = told ≡ error
IsErrorOf told (Served error reuse) = told ≡ error
IsErrorOf told TurnLimit = Unit {0}
IsErrorOf told OutOfMemory = Unit {0}

-- the attempts were given no link, and the client nothing, or a part of the answer to the error of
-- the last
pub record IsHalfRefused (s : Start) (p : Passed) (w : World) (attempts : List AttemptRecord)
    : Type 0 where
  pub e : Error
  pub unconnected : IsUnconnected s p w e
  pub made : EndsTrying s attempts e
  pub part : (p.written ≡ [])
      ⊎ (IsAnswered s.closed e × IsFrontOf p.written (answer_to unconnected.head (answered s)))

-- what the client was given of a request that made no attempt, where it was not brought to an end:
-- nothing, or the front of the answer to a head that is turned down
abbrev pub IsPartRefused : Start → Passed → Type 0
IsPartRefused s p =
    (p.written ≡ [])
    ⊎ ((answer : List ℕ) × (error : Option Error) × IsTurnedDown (asked s p) answer error
    × IsFrontOf p.written answer)

-- a request made no attempt
abbrev pub MadeNone : Start → List AttemptRecord → Type 0
MadeNone s attempts = (attempts ≡ []) × (s.tried ≡ [])

-- the attempts of a request that hooks ended: none where they answered it; where they stopped it
-- with an error, those that were made before
abbrev pub MadeAhead : Start → Option Error → List AttemptRecord → Type 0
MadeAhead s None attempts = MadeNone s attempts
MadeAhead s (Some e) attempts = AreTries s attempts

-- the same of one that was not brought to an end: its client was given a part of what it is owed
pub record IsPartAhead (s : Start) (p : Passed) (attempts : List AttemptRecord) : Type 0 where
  pub why : Option Error
  pub text : List ℕ
  pub owed : IsOwedAhead s p why text
  pub part : IsFrontOf p.written text
  pub made : MadeAhead s why attempts

-- the attempts of a request that had no link and was not brought to an end: none; those before
-- another one, with nothing written; those behind which hooks ended it; or those of which the last
-- was given no link, and none followed
abbrev pub AttemptsUnfinished : Start → Passed → World → List AttemptRecord → Type 0
AttemptsUnfinished s p w attempts =
    (MadeNone s attempts × IsPartRefused s p)
    ⊎ ((AreTries s attempts × (p.written ≡ []))
    ⊎ (IsPartAhead s p attempts ⊎ IsHalfRefused s p w attempts))

-- those of a request that ended with that error: its last attempt was given no link; or hooks ended
-- it
pub data AttemptsFailed (s : Start) (p : Passed) (w : World) (attempts : List AttemptRecord)
    (e : Error) : Type 0 where
  unlinked : EndsTrying s attempts e → AttemptsFailed s p w attempts e
  ahead : (ends : EndsAhead s p w (Some e)) → MadeAhead s ends.why attempts
      → AttemptsFailed s p w attempts e

-- the attempts of a request whose last part had no link: those up to there, and then those that
-- were given none
abbrev pub AttemptsUnlinked : Start → Passed → World → List AttemptRecord → Outcome → Type 0
AttemptsUnlinked s p w attempts NoRequest = MadeNone s attempts
AttemptsUnlinked s p w attempts (Refused error) = MadeNone s attempts
AttemptsUnlinked s p w attempts (Served None reuse) = MadeNone s attempts
AttemptsUnlinked s p w attempts (Served (Some e) reuse) = AttemptsFailed s p w attempts e
AttemptsUnlinked s p w attempts TurnLimit = AttemptsUnfinished s p w attempts
AttemptsUnlinked s p w attempts OutOfMemory =
    AttemptsUnfinished s p w attempts ⊎ (LosesTry s attempts × (p.written ≡ []))

module _ {L : Type 0} (state : L → LinkState) (start_at : L → LinkStart) where
  -- how a request ends that handed back this link, which its last attempt had
  pub record EndsReturned
      (s : Start) (p : Passed) (w : World) (r : Returned L) (attempts : List AttemptRecord)
      (outcome : Outcome) : Type 0 where
    pub tells : TellsLink p (state r.link) (start_at r.link)
    pub peer : IsNamed s.called r.peer
    pub tries : List AttemptRecord
    pub attempt : AttemptRecord
    pub attempts_are : attempts ≡ tries ++ attempt ∷ []
    pub are_tries : AreTries s tries
    pub is_record : IsRecordOf s.called attempt (start_at r.link) r.keep
    pub error : IsErrorOf attempt.error outcome
    pub ends : EndsLinked s p w (state r.link) (start_at r.link) r.keep attempt.error outcome

  -- how a request ends, by the links that it handed back: none or one
  abbrev pub EndsWith :
      Start → Passed → World → List (Returned L) → List AttemptRecord → Outcome → Type 0
  EndsWith s p w [] attempts outcome =
      EndsUnlinked s p w outcome × AttemptsUnlinked s p w attempts outcome
  EndsWith s p w (r ∷ []) attempts outcome = EndsReturned s p w r attempts outcome
  EndsWith s p w (r ∷ q ∷ rest) attempts outcome = ⊥

  -- an ended request: what passed is told by the links, in order, and the outcome has its cause
  pub record IsEnded
      (s : Start) (p : Passed) (w : World) (own : List (Returned L))
      (attempts : List AttemptRecord) (outcome : Outcome) : Type 0 where
    pub tells : TellsClient s p w
    pub order : IsInOrder s p
    pub untouched : IsUntouched s p w
    pub ends : EndsWith s p w own attempts outcome
