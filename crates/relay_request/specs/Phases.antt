-- The phases of a request: what has passed when it stands in each of them, and what is left to do.
use Rattle.std.specs.Prelude.{◌≡◌, ◌≢◌, ◌==◌, ◌&&◌, not, Bool, false, true, ℕ, List, [], ◌∷◌, ◌++◌, length, Some}
use Rattle.relay_tasks.specs.Head.{RequestHead}
use Rattle.relay_tasks.specs.declared.Error.{Error}
use Rattle.relay_tasks.specs.declared.Fault.{Fault}
use Rattle.relay_tasks.specs.declared.log.LogEntry.{LogEntry}
use Rattle.relay_links.specs.Link.{LinkState, LinkStart, IsHandedOut}
use Rattle.relay_connector.specs.Upstream.{SpeaksBytes}
use Rattle.relay_connector.specs.declared.Returned.{Returned}
use Rattle.relay_opening.specs.Told.{head_behind}
use Rattle.relay_phases.specs.Turns.{wrote_in}
use Rattle.relay_session.specs.Asked.{request_of}
use Rattle.relay_session.specs.Front.{ends_with_head}
use Rattle.relay_session.specs.Reading.{head_of, is_body_done, is_truncated}
use Rattle.relay_session.specs.Response.{Holds, has_head, pending}
use Rattle.relay_session.specs.Session.{may_begin_again}
use Rattle.relay_session.specs.declared.session.HttpSession.{HttpSession}
use Rattle.relay_session.specs.declared.writing.Outgoing.TheVariants as outgoing
use Rattle.relay_sides.specs.Client.{BeginsBehind}
use Rattle.relay_attempt.specs.Passed.{Passed}
use Rattle.relay_hooked.specs.Calls.{Filtering}
use Rattle.relay_hooked.specs.Exchange.{IsUnderWay}
use Rattle.relay_hooked.specs.Head.{link_of}
use Rattle.relay_hooked.specs.Order.{FailsFor, order_of}
use Rattle.relay_request.specs.Relayable.{IsAccepted, IsRelayable}
use Rattle.relay_request.specs.Passed.{World, Start, HasFiltered, StandsIn, based, origin_at, origin_of, asked, TellsClient, TellsLink, IsUnsent, IsUntouched}
use Rattle.relay_request.specs.Sent.{Sends, RefusesToSend}
use Rattle.relay_request.specs.Answer.{past_at, WaitsOf}
use Rattle.relay_request.specs.Endings.{FailsToWrite, IsInOrder, IsUnconnected, Misses, error_of, EndsUnlinked, EndsLinked, EndsWith, AttemptsUnlinked}
use Rattle.relay_request.specs.Owed.{IsAnswering}
use Rattle.relay_request.specs.Named.{IsNamed}
use Rattle.relay_request.specs.Tries.{AreTries, EndsTrying, tries_in}
use Rattle.relay_request.specs.declared.outcome.Outcome.TheVariants.{TurnLimit}
use Rattle.relay_request.specs.declared.machine.Attempt.{Attempt}
use Rattle.relay_request.specs.declared.machine.Lease.{Lease}
use Rattle.relay_request.specs.declared.machine.Phase.{Phase}
use Rattle.relay_request.specs.declared.record.AttemptRecord.{AttemptRecord}
use Rattle.relay_request.specs.declared.machine.Phase.TheVariants.{ReadHead, Connect, Unlinked, Prepare, Relay, Broken, Again, Fail, Close, Answer, Ended}

-- the client's head is read: nothing was taken from what is ahead, and no attempt was made
pub record IsReadingHead (s : Start) (p : Passed) (ahead : List ℕ) : Type 0 where
  pub whole : ahead ≡ asked s p
  pub written : p.written ≡ []
  pub unsent : IsUnsent p
  pub untried : (s.tried ≡ []) × (s.refused ≡ 0)

-- the head was accepted, which hooks then may have changed, and a link is wanted for the session
-- that begins behind it, after those attempts; nothing was queued for the client
pub record IsConnecting (s : Start) (p : Passed) (w : World) (session : HttpSession)
    (tries : List AttemptRecord) : Type 0 where
  pub head : RequestHead
  pub accepted : IsAccepted s p head
  pub is_left : head_of session.reading ≡ Some (head_behind head s.called)
  pub quiet : wrote_in s.called ≡ []
  pub begins : (sent : RequestHead) (reused : Bool)
      → BeginsBehind (origin_of s head sent reused) p.came w.client w.ahead session
  -- of whose body nothing was read before an attempt had a link
  pub unread : s.tried ≡ [] → is_body_done session.reading ≡ ends_with_head accepted.framing
  pub written : p.written ≡ []
  pub unsent : IsUnsent p
  pub are_tries : AreTries s tries

-- the last attempt was given no link, for that error, which is to be answered to the client of the
-- session that begins behind the head
pub record LacksLink (s : Start) (p : Passed) (w : World) (session : HttpSession)
    (attempts : List AttemptRecord) (e : Error) : Type 0 where
  pub unconnected : IsUnconnected s p w e
  pub made : EndsTrying s attempts e
  pub begins : BeginsBehind (origin_of s unconnected.head unconnected.head false) p.came w.client
      w.ahead session
  pub written : p.written ≡ []

-- the link of an attempt tells what passed, and the lease says of it what it was
pub record IsLeased (s : Start) (p : Passed) (link : LinkState) (start : LinkStart) (lease : Lease)
    : Type 0 where
  pub tells : TellsLink p link start
  -- and for which peer it was asked, as it is recorded too
  pub peer : IsNamed s.called lease.peer
  pub recorded : IsNamed s.called lease.recorded
  pub reused : start.reused ≡ lease.reused
  -- and of the attempts before it
  pub tries : AreTries s (tries_in lease)

-- a link was given, of which nothing was asked yet, and the head is wanted that is sent over it
pub record IsPreparing (s : Start) (p : Passed) (w : World) (link : LinkState) (start : LinkStart)
    (session : HttpSession) (lease : Lease) : Type 0 where
  pub connecting : IsConnecting s p w session (tries_in lease)
  pub fresh : IsHandedOut link start lease.reused
  pub speaks : SpeaksBytes start

-- informational heads wait for the client, and nothing else keeps another attempt from beginning
-- with the session: the body is kept, and no final head was queued
abbrev pub waits_to_begin : HttpSession → Bool
waits_to_begin session =
    not (is_truncated session.reading)
    && (not (has_head session.writing.place) && not (length (pending session.writing.output) == 0))

-- the session, once all that waits for its client was written
abbrev pub written_out : HttpSession → HttpSession
written_out session = record session {
  writing = record session.writing { output = outgoing.Open [] };
}

-- an exchange failed with that error, when a part of what was queued had been written, and left
-- that session: it answers the request, with the tasks that were queued, of whose text so much is
-- written now; where it keeps the fault of a write, a write of the client's link failed
pub record LeavesSession (s : Start) (p : Passed) (client : LinkState) (ahead : List ℕ)
    (link : LinkState) (start : LinkStart) (session : HttpSession) (e : Error) : Type 0 where
  pub head : RequestHead
  pub sent : RequestHead
  pub relayable : IsRelayable head
  pub sends : Sends s.called head sent
  pub before : List ℕ
  -- by these calls of its filters, behind those
  pub f : Filtering
  pub began : List LogEntry
  pub stands : StandsIn s.called began f.calls
  pub why : FailsFor f (origin_at s head sent start.reused began) (past_at p before) client link
      start e
  pub speaks : SpeaksBytes start
  pub answers : session.writing.request ≡ request_of head
  pub holds : Holds session.writing ((order_of why).queued ++ (order_of why).closing) p.written
  pub broken : (fault : Fault) → session.writing.output ≡ outgoing.Broken fault
      → FailsToWrite s client
  -- the session has the client's head as hooks left it, and they answered nothing
  pub is_left : head_of session.reading ≡ Some (head_behind head s.called)
  pub quiet : wrote_in s.called ≡ []
  -- once what waits was written another attempt may begin with it, where the body is kept and the
  -- response has not begun
  pub again : (queue : List ℕ) → session.writing.output ≡ outgoing.Open queue
      → may_begin_again (written_out session) ≡ true
      → BeginsBehind (origin_of (based s client) head sent start.reused) p.came client ahead
      (written_out session)

-- an attempt failed with that error ahead of its exchange, over a link that was handed out and is
-- kept or not: the session has nothing queued yet
pub record LeavesAhead (s : Start) (p : Passed) (w : World) (link : LinkState) (start : LinkStart)
    (session : HttpSession) (lease : Lease) (keep : Bool) (e : Error) : Type 0 where
  pub connecting : IsConnecting s p w session (tries_in lease)
  pub leased : IsLeased s p link start lease
  pub fresh : IsHandedOut link start lease.reused
  pub why : RefusesToSend s.called start connecting.head keep e

-- an attempt failed with that error, which is to be treated, over a link that is kept then or not:
-- in its exchange, or ahead of it
pub data IsBroken (s : Start) (p : Passed) (w : World) (link : LinkState) (start : LinkStart)
    (session : HttpSession) (lease : Lease) (keep : Bool) (e : Error) : Type 0 where
  in_exchange : LeavesSession s p w.client w.ahead link start session e → keep ≡ false
      → IsBroken s p w link start session lease keep e
  ahead_of_it : LeavesAhead s p w link start session lease keep e
      → IsBroken s p w link start session lease keep e

module _ {L : Type 0} (state : L → LinkState) (start_at : L → LinkStart) where
  -- the error of an attempt was treated, and its client is owed an answer, or what was queued for
  -- it
  pub record IsFailing (s : Start) (p : Passed) (w : World) (link : L) (keep : Bool)
      (session : HttpSession) (e : Error) : Type 0 where
    pub text : List ℕ
    pub misses : Misses s p w.client (state link) (start_at link) keep e text
    pub waits : WaitsOf session.writing.output p.written text

module _ {L C : Type 0} (state : L → LinkState) (start_at : L → LinkStart) where
  -- the exchange of an attempt is under way
  pub record IsRelaying (s : Start) (p : Passed) (w : World) (a : Attempt L C) : Type 0 where
    pub leased : IsLeased s p (state (link_of a.exchange))
        (start_at (link_of a.exchange)) a.lease
    pub head : RequestHead
    pub sent : RequestHead
    pub relayable : IsRelayable head
    pub sends : Sends s.called head sent
    pub speaks : SpeaksBytes (start_at (link_of a.exchange))
    -- its exchange began behind these calls, the last of which filtered the head that is sent; and
    -- all that were made since are those of its filters
    pub began : List LogEntry
    pub at_sent : HasFiltered began
    pub under_way : IsUnderWay state start_at (origin_at s head sent a.lease.reused began) p
        w.client w.ahead s.called a.exchange
    -- its request had not ended before its first piece
    pub at_first : a.exchange.down.at_first ≡ false
    -- its session has the client's head as hooks left it, and they answered nothing
    pub is_left : head_of a.exchange.down.inner.session.reading
        ≡ Some (head_behind head s.called)
    pub quiet : wrote_in s.called ≡ []

  -- what has passed in each phase
  abbrev pub IsAt : Start → Passed → World → Phase L C → Type 0
  IsAt s p w ReadHead = IsReadingHead s p w.ahead
  IsAt s p w (Connect context session tries) = IsConnecting s p w session.value tries
  IsAt s p w (Unlinked context session attempts error) =
      LacksLink s p w session.value attempts error
  IsAt s p w (Prepare context session link lease) =
      IsLeased s p (state link) (start_at link) lease
      × IsPreparing s p w (state link) (start_at link) session.value lease
  IsAt s p w (Relay a) = IsRelaying s p w a.value
  IsAt s p w (Broken context session link lease keep error) =
      IsLeased s p (state link) (start_at link) lease
      × IsBroken s p w (state link) (start_at link) session.value lease keep error
  IsAt s p w (Again context session link lease keep error) = ⊥
  IsAt s p w (Fail link lease keep session error) =
      IsLeased s p (state link) (start_at link) lease
      × IsFailing state start_at s p w link keep session.value error
  IsAt s p w (Close link lease keep outcome) =
      IsLeased s p (state link) (start_at link) lease
      × EndsLinked s p w (state link) (start_at link) keep (error_of outcome) outcome
  IsAt s p w (Answer session owed attempts) =
      IsAnswering state start_at s p w [] session.value owed attempts
  IsAt s p w (Ended outcome attempts) =
      EndsUnlinked s p w outcome × AttemptsUnlinked s p w attempts outcome

  -- what has passed in each phase, by the links that the request handed back: a request that has
  -- handed one back has ended, or its client is owed an answer
  abbrev pub PhaseHolds : Start → Passed → World → List (Returned L) → Phase L C → Type 0
  PhaseHolds s p w [] phase = IsAt s p w phase
  PhaseHolds s p w (r ∷ own) ReadHead = ⊥
  PhaseHolds s p w (r ∷ own) (Connect context session tries) = ⊥
  PhaseHolds s p w (r ∷ own) (Unlinked context session attempts error) = ⊥
  PhaseHolds s p w (r ∷ own) (Prepare context session link lease) = ⊥
  PhaseHolds s p w (r ∷ own) (Relay a) = ⊥
  PhaseHolds s p w (r ∷ own) (Broken context session link lease keep error) = ⊥
  PhaseHolds s p w (r ∷ own) (Again context session link lease keep error) = ⊥
  PhaseHolds s p w (r ∷ own) (Fail link lease keep session error) = ⊥
  PhaseHolds s p w (r ∷ own) (Close link lease keep outcome) = ⊥
  PhaseHolds s p w (r ∷ own) (Answer session owed attempts) =
      IsAnswering state start_at s p w (r ∷ own) session.value owed attempts
  PhaseHolds s p w (r ∷ own) (Ended outcome attempts) =
      EndsWith state start_at s p w (r ∷ own) attempts outcome

  -- a request that ended did not end by its turns
  abbrev pub IsGoing : Phase L C → Type 0
  IsGoing ReadHead = Unit {0}
  IsGoing (Connect context session tries) = Unit {0}
  IsGoing (Unlinked context session attempts error) = Unit {0}
  IsGoing (Prepare context session link lease) = Unit {0}
  IsGoing (Relay a) = Unit {0}
  IsGoing (Broken context session link lease keep error) = Unit {0}
  IsGoing (Again context session link lease keep error) = Unit {0}
  IsGoing (Fail link lease keep session error) = Unit {0}
  IsGoing (Answer session owed attempts) = Unit {0}
  IsGoing (Close link lease keep outcome) = outcome ≢ TurnLimit
  IsGoing (Ended outcome attempts) = outcome ≢ TurnLimit

  -- no call of the client's link failed before the request ended or its attempt failed
  abbrev pub IsCalm : Start → World → Phase L C → Type 0
  IsCalm s w ReadHead = w.client.faults ≡ s.faults
  IsCalm s w (Connect context session tries) = w.client.faults ≡ s.faults
  IsCalm s w (Unlinked context session attempts error) = w.client.faults ≡ s.faults
  IsCalm s w (Prepare context session link lease) = w.client.faults ≡ s.faults
  IsCalm s w (Relay a) = w.client.faults ≡ s.faults
  IsCalm s w (Broken context session link lease keep error) = Unit {0}
  IsCalm s w (Again context session link lease keep error) = Unit {0}
  IsCalm s w (Fail link lease keep session error) = Unit {0}
  IsCalm s w (Answer session owed attempts) = Unit {0}
  IsCalm s w (Close link lease keep outcome) = Unit {0}
  IsCalm s w (Ended outcome attempts) = Unit {0}

  -- the run so far: what passed is told by the links, in order, and the phase says what is left
  pub record RunSoFar
      (s : Start) (p : Passed) (w : World) (own : List (Returned L)) (phase : Phase L C)
      : Type 0 where
    pub tells : TellsClient s p w
    pub order : IsInOrder s p
    pub untouched : IsUntouched s p w
    pub going : IsGoing phase
    pub calm : IsCalm s w phase
    pub holds : PhaseHolds s p w own phase
