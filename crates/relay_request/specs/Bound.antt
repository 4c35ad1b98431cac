-- How much work a request counts at most: the tasks that it moves are no more than twice the bytes
-- that its links gave, and each end comes once.
use Rattle.std.specs.Prelude.{◌≡◌, ℕ, ◌+◌, ◌≤◌, List, [], ◌∷◌, length}
use Rattle.relay_tasks.specs.Head.{RequestHead}
use Rattle.relay_tasks.specs.declared.log.LogEntry.{LogEntry}
use Rattle.relay_links.specs.Link.{LinkState, LinkStart}
use Rattle.relay_links.specs.Told.{Since}
use Rattle.relay_connector.specs.declared.Returned.{Returned}
use Rattle.relay_attempt.specs.Bound.{most_tasks}
use Rattle.relay_hooked.specs.Bound.{HasCounted}
use Rattle.relay_request.specs.Passed.{Start, origin_at}
use Rattle.relay_request.specs.Tries.{tries_in}
use Rattle.relay_request.specs.declared.machine.Attempt.{Attempt}
use Rattle.relay_request.specs.declared.machine.Lease.{Lease}
use Rattle.relay_request.specs.declared.machine.Phase.{Phase}
use Rattle.relay_request.specs.declared.machine.Phase.TheVariants.{ReadHead, Connect, Unlinked, Prepare, Relay, Broken, Again, Fail, Close, Answer, Ended}
use Rattle.relay_request.specs.declared.record.AttemptRecord.{AttemptRecord}
use Rattle.relay_request.specs.declared.record.RunRecord.{RunRecord}
use Rattle.relay_request.specs.declared.work.Work.{Work}

-- how many ends a request of so many attempts has before its answer: its head was judged; each
-- attempt was refused, or had the five of an exchange, or four and a failure, which the last has
abbrev pub sides_before : ℕ → ℕ
sides_before made = 5 + made

-- and with it
abbrev pub most_sides : ℕ → ℕ
most_sides made = 6 + made

-- so many tasks were moved and so many ends came, since the client's link gave the one bytes and
-- the request's own the others
pub record IsWithin
    (tasks ends most : ℕ) (s : Start) (client : LinkState) (gave : List ℕ → Type 0) : Type 0 where
  pub came : List ℕ
  pub got : List ℕ
  pub client_gave : Since [] s.given client.given came
  pub own_gave : gave got
  pub tasks_within : tasks ≤ most_tasks (length s.ahead + length came) (length got)
  pub ends_within : ends ≤ most

module _ {L : Type 0} (state : L → LinkState) (start_at : L → LinkStart) where
  -- a link gave these bytes since it was handed out
  abbrev pub LinkGave : L → List ℕ → Type 0
  LinkGave link got = Since [] (start_at link).given (state link).given got

  -- the link that a request handed back gave these bytes; it has one at most
  abbrev pub OwnGave : List (Returned L) → List ℕ → Type 0
  OwnGave [] got = got ≡ []
  OwnGave (r ∷ []) got = LinkGave r.link got
  OwnGave (r ∷ q ∷ own) got = ⊥

  -- what a request counted is bounded: each turn did some work or called a hook; and but for so
  -- many tasks and ends of attempts before, the tasks are no more than twice the bytes that its
  -- links gave, and the ends are few
  pub record IsBounded (s : Start) (client : LinkState) (earlier_tasks earlier_ends : ℕ)
      (own : List (Returned L)) (history : RunRecord) : Type 0 where
    pub worked : history.turns_taken
        ≤ history.items_used + history.tasks_moved + history.sides_ended + length history.log
    pub tasks : ℕ
    pub ends : ℕ
    pub moved : history.tasks_moved ≤ earlier_tasks + tasks
    pub ended : history.sides_ended ≤ earlier_ends + ends
    pub within : IsWithin tasks ends (most_sides (length history.attempts)) s client (OwnGave own)

module _ {L C : Type 0} (state : L → LinkState) (start_at : L → LinkStart) where
  -- an attempt whose exchange counted so much: the head that is sent is one more task, and the head
  -- that was judged and each attempt before it are one more end
  pub record AttemptCounts (tasks ends : ℕ) (s : Start) (client : LinkState) (ahead : List ℕ)
      (a : Attempt L C) : Type 0 where
    pub head : RequestHead
    pub sent : RequestHead
    pub began : List LogEntry
    pub of_tasks : ℕ
    pub of_ends : ℕ
    pub counted : HasCounted state start_at of_tasks of_ends
        (origin_at s head sent a.lease.reused began) client ahead s.called a.exchange
    pub tasks_are : tasks ≡ 1 + of_tasks
    pub ends_are : ends ≡ 1 + length (tries_in a.lease) + of_ends

  -- what a request counted up to that phase, none of whose links is to be handed back
  abbrev pub PhaseCounts : ℕ → ℕ → Start → LinkState → List ℕ → List (Returned L) → Phase L C
      → Type 0
  PhaseCounts tasks ends s client ahead own ReadHead = (tasks ≡ 0) × (ends ≡ 0)
  PhaseCounts tasks ends s client ahead own (Connect context session tries) =
      (tasks ≡ 0) × (ends ≡ 1 + length tries)
  PhaseCounts tasks ends s client ahead own (Unlinked context session attempts error) =
      (tasks ≡ 0) × (ends ≡ 1 + length attempts)
  PhaseCounts tasks ends s client ahead own (Prepare context session link lease) =
      (tasks ≡ 0) × (ends ≡ 1 + length (tries_in lease))
  PhaseCounts tasks ends s client ahead own (Relay a) =
      AttemptCounts tasks ends s client ahead a.value
  PhaseCounts tasks ends s client ahead own (Broken context session link lease keep error) =
      IsWithin tasks ends (sides_before (1 + length (tries_in lease))) s client
      (LinkGave state start_at link)
  PhaseCounts tasks ends s client ahead own (Again context session link lease keep error) = ⊥
  PhaseCounts tasks ends s client ahead own (Fail link lease keep session error) = ⊥
  PhaseCounts tasks ends s client ahead own (Close link lease keep outcome) = ⊥
  PhaseCounts tasks ends s client ahead own (Answer session owed attempts) =
      IsWithin tasks ends (sides_before (length attempts)) s client (OwnGave state start_at own)
  PhaseCounts tasks ends s client ahead own (Ended outcome attempts) =
      IsWithin tasks ends (most_sides (length attempts)) s client (OwnGave state start_at own)

  -- the same behind a turn, whose link may be to be handed back
  abbrev pub TurnedCounts : ℕ → ℕ → Start → LinkState → List ℕ → List (Returned L) → Phase L C
      → Type 0
  TurnedCounts tasks ends s client ahead own ReadHead =
      PhaseCounts tasks ends s client ahead own ReadHead
  TurnedCounts tasks ends s client ahead own (Connect context session tries) =
      PhaseCounts tasks ends s client ahead own (Connect context session tries)
  TurnedCounts tasks ends s client ahead own (Unlinked context session attempts error) =
      PhaseCounts tasks ends s client ahead own (Unlinked context session attempts error)
  TurnedCounts tasks ends s client ahead own (Prepare context session link lease) =
      PhaseCounts tasks ends s client ahead own (Prepare context session link lease)
  TurnedCounts tasks ends s client ahead own (Relay a) =
      PhaseCounts tasks ends s client ahead own (Relay a)
  TurnedCounts tasks ends s client ahead own (Broken context session link lease keep error) =
      PhaseCounts tasks ends s client ahead own (Broken context session link lease keep error)
  TurnedCounts tasks ends s client ahead own (Again context session link lease keep error) =
      IsWithin tasks ends (sides_before (1 + length (tries_in lease))) s client
      (LinkGave state start_at link)
  TurnedCounts tasks ends s client ahead own (Fail link lease keep session error) =
      IsWithin tasks ends (sides_before (1 + length (tries_in lease))) s client
      (LinkGave state start_at link)
  TurnedCounts tasks ends s client ahead own (Close link lease keep outcome) =
      IsWithin tasks ends (most_sides (1 + length (tries_in lease))) s client
      (LinkGave state start_at link)
  TurnedCounts tasks ends s client ahead own (Answer session owed attempts) =
      PhaseCounts tasks ends s client ahead own (Answer session owed attempts)
  TurnedCounts tasks ends s client ahead own (Ended outcome attempts) =
      PhaseCounts tasks ends s client ahead own (Ended outcome attempts)

-- what a turn counts that reads or judges the head: nothing, or one end
abbrev pub CountsHead : {L C : Type 0} → Phase L C → Work → Type 0
CountsHead ReadHead work = (work.moved ≡ 0) × (work.ended ≡ 0)
CountsHead (Connect context session tries) work =
    (work.moved ≡ 0) × (work.ended ≡ 1) × (tries ≡ [])
CountsHead (Unlinked context session attempts error) work = ⊥
CountsHead (Prepare context session link lease) work = ⊥
CountsHead (Relay a) work = ⊥
CountsHead (Broken context session link lease keep error) work = ⊥
CountsHead (Again context session link lease keep error) work = ⊥
CountsHead (Fail link lease keep session error) work = ⊥
CountsHead (Close link lease keep outcome) work = ⊥
CountsHead (Answer session owed attempts) work = (work.moved ≡ 0) × (work.ended ≡ 1)
CountsHead (Ended outcome attempts) work = (work.moved ≡ 0) × (work.ended ≡ 1)

-- what a turn counts that calls a hook behind those attempts: no task, and one end at most, also
-- where it was out of memory
abbrev pub CountsCall : {L C : Type 0} → List AttemptRecord → Phase L C → Work → Type 0
CountsCall before ReadHead work = ⊥
CountsCall before (Connect context session tries) work =
    (work.moved ≡ 0) × (work.ended ≡ 0) × (tries ≡ before)
CountsCall before (Unlinked context session attempts error) work = ⊥
CountsCall before (Prepare context session link lease) work = ⊥
CountsCall before (Relay a) work = ⊥
CountsCall before (Broken context session link lease keep error) work = ⊥
CountsCall before (Again context session link lease keep error) work = ⊥
CountsCall before (Fail link lease keep session error) work = ⊥
CountsCall before (Close link lease keep outcome) work = ⊥
CountsCall before (Answer session owed attempts) work =
    (work.moved ≡ 0) × (work.ended ≡ 0) × (attempts ≡ before)
CountsCall before (Ended outcome attempts) work =
    (work.moved ≡ 0) × (work.ended ≤ 1) × (attempts ≡ before)

-- what a turn counts that asks for a link behind those attempts: no task, and one end where none is
-- given, or where a hook fails that is told of it; one that is refused a link made one attempt more
abbrev pub CountsLink : {L C : Type 0} → List AttemptRecord → Phase L C → Work → Type 0
CountsLink before ReadHead work = ⊥
CountsLink before (Connect context session tries) work =
    (work.moved ≡ 0) × (work.ended ≡ 1) × (length tries ≡ 1 + length before)
CountsLink before (Unlinked context session attempts error) work =
    (work.moved ≡ 0) × (work.ended ≡ 1) × (length attempts ≡ 1 + length before)
CountsLink before (Prepare context session link lease) work =
    (work.moved ≡ 0) × (work.ended ≡ 0) × (tries_in lease ≡ before)
CountsLink before (Relay a) work = ⊥
CountsLink before (Broken context session link lease keep error) work =
    (work.moved ≡ 0) × (work.ended ≡ 1) × (tries_in lease ≡ before)
CountsLink before (Again context session link lease keep error) work = ⊥
CountsLink before (Fail link lease keep session error) work = ⊥
CountsLink before (Close link lease keep outcome) work =
    (work.moved ≡ 0) × (work.ended ≡ 1) × (tries_in lease ≡ before)
CountsLink before (Answer session owed attempts) work =
    (work.moved ≡ 0) × (work.ended ≡ 1) × (length attempts ≡ 1 + length before)
CountsLink before (Ended outcome attempts) work =
    (work.moved ≡ 0) × (work.ended ≡ 1) × (length before ≤ length attempts)

-- what a turn counts that makes the head of an attempt behind those: that head, or one end where it
-- is refused
abbrev pub CountsSend : {L C : Type 0} → List AttemptRecord → Phase L C → Work → Type 0
CountsSend before ReadHead work = ⊥
CountsSend before (Connect context session tries) work = ⊥
CountsSend before (Unlinked context session attempts error) work = ⊥
CountsSend before (Prepare context session link lease) work = ⊥
CountsSend before (Relay a) work =
    (work.moved ≡ 1) × (work.ended ≡ 0) × (tries_in a.value.lease ≡ before)
CountsSend before (Broken context session link lease keep error) work =
    (work.moved ≡ 0) × (work.ended ≡ 1) × (tries_in lease ≡ before)
CountsSend before (Again context session link lease keep error) work = ⊥
CountsSend before (Fail link lease keep session error) work = ⊥
CountsSend before (Close link lease keep outcome) work =
    (work.moved ≡ 0) × (work.ended ≡ 1) × (tries_in lease ≡ before)
CountsSend before (Answer session owed attempts) work = ⊥
CountsSend before (Ended outcome attempts) work = ⊥

-- what a turn counts that has the error of an attempt treated or answered behind those: no task,
-- and one end where memory was wanted
abbrev pub CountsTreat : {L C : Type 0} → List AttemptRecord → Phase L C → Work → Type 0
CountsTreat before ReadHead work = ⊥
CountsTreat before (Connect context session tries) work = ⊥
CountsTreat before (Unlinked context session attempts error) work = ⊥
CountsTreat before (Prepare context session link lease) work = ⊥
CountsTreat before (Relay a) work = ⊥
CountsTreat before (Broken context session link lease keep error) work =
    (work.moved ≡ 0) × (work.ended ≡ 0) × (tries_in lease ≡ before)
CountsTreat before (Again context session link lease keep error) work =
    (work.moved ≡ 0) × (work.ended ≡ 0) × (tries_in lease ≡ before)
CountsTreat before (Fail link lease keep session error) work =
    (work.moved ≡ 0) × (work.ended ≡ 0) × (tries_in lease ≡ before)
CountsTreat before (Close link lease keep outcome) work =
    (work.moved ≡ 0) × (work.ended ≤ 1) × (tries_in lease ≡ before)
CountsTreat before (Answer session owed attempts) work = ⊥
CountsTreat before (Ended outcome attempts) work = ⊥

-- what a turn counts that writes an answer: nothing, or one end at most
abbrev pub CountsAnswer : {L C : Type 0} → Phase L C → Work → Type 0
CountsAnswer ReadHead work = ⊥
CountsAnswer (Connect context session tries) work = ⊥
CountsAnswer (Unlinked context session attempts error) work = ⊥
CountsAnswer (Prepare context session link lease) work = ⊥
CountsAnswer (Relay a) work = ⊥
CountsAnswer (Broken context session link lease keep error) work = ⊥
CountsAnswer (Again context session link lease keep error) work = ⊥
CountsAnswer (Fail link lease keep session error) work = ⊥
CountsAnswer (Close link lease keep outcome) work = ⊥
CountsAnswer (Answer session owed attempts) work = (work.moved ≡ 0) × (work.ended ≡ 0)
CountsAnswer (Ended outcome attempts) work = (work.moved ≡ 0) × (work.ended ≤ 1)

-- that link is to be handed back, by that lease
abbrev pub LeavesLink : {L C : Type 0} → L → Lease → Phase L C → Type 0
LeavesLink link lease ReadHead = ⊥
LeavesLink link lease (Connect context session tries) = ⊥
LeavesLink link lease (Unlinked context session attempts error) = ⊥
LeavesLink link lease (Prepare context session left by) = ⊥
LeavesLink link lease (Relay a) = ⊥
LeavesLink link lease (Broken context session left by keep error) = (left ≡ link) × (by ≡ lease)
LeavesLink link lease (Again context session left by keep error) = (left ≡ link) × (by ≡ lease)
LeavesLink link lease (Fail left by keep session error) = (left ≡ link) × (by ≡ lease)
LeavesLink link lease (Close left by keep outcome) = (left ≡ link) × (by ≡ lease)
LeavesLink link lease (Answer session owed attempts) = ⊥
LeavesLink link lease (Ended outcome attempts) = ⊥
