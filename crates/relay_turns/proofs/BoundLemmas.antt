-- How much a request counts, by what each turn counted.
--
--   turns_bounded                 the turns of a request, by what was counted of it
--   counts_as                     what a turn of an exchange that moved counts as
--   head_bounds, link_bounds      a turn that reads the head, and one that asks for a link
--   relay_moved, relay_waited, relay_finished, relay_failed    a turn of an exchange
--   answer_bounds                 a turn that writes an answer
--   head_turn_bounds, link_turn_bounds, unlinked_turn_bounds, send_turn_bounds
--                                 the same, over links handed back
--   open_counts                   a phase none of whose links is to be handed back
--   within_link                   what was counted of an attempt that is given up
use Rattle.std.specs.Global.{Box}
use Rattle.std.proofs.Common.{◌≡◌, ◌⊎◌, ℕ, ◌+◌, ◌≤◌, Bool, true, false, List, [], ◌∷◌, length, Option, None, Some, true≢false, refl, sym, ap, subst, ◌∙◌, inl, inr, arith}
use Rattle.relay_tasks.specs.declared.Error.{Error}
use Rattle.relay_tasks.specs.declared.log.LogEntry.{LogEntry}
use Rattle.relay_links.specs.Link.{LinkState, LinkStart}
use Rattle.relay_links.specs.Told.{Since}
use Rattle.relay_connector.specs.declared.Returned.{Returned}
use Rattle.relay_links.specs.declared.branch.Branch.{Branch}
use Rattle.relay_links.specs.declared.branch.Branch.TheVariants as branch
use Rattle.relay_tasks.specs.declared.error.Fail.{Fail as Why}
use Rattle.relay_session.specs.declared.session.HttpSession.{HttpSession}
use Rattle.relay_tasks.specs.declared.took.Pause.{Pause}
use Rattle.relay_core.specs.Counts.{CountsAs}
use Rattle.relay_core.specs.Past.{Origin}
use Rattle.relay_core.specs.Table.{State}
use Rattle.relay_core.specs.declared.step.Step.{Step}
use Rattle.relay_core.specs.declared.step.Step.TheVariants as step
use Rattle.relay_exchange.specs.Exchange as over
use Rattle.relay_exchange.specs.declared.exchange.Turn.{Turn}
use Rattle.relay_attempt.specs.Bound.{most_tasks}
use Rattle.relay_attempt.specs.Bound as attempt
use Rattle.relay_attempt.specs.Passed.{Passed}
use Rattle.relay_hooked.specs.Bound.{CountsOn, HasCounted}
use Rattle.relay_hooked.specs.Head.{core_in, link_of}
use Rattle.relay_hooked.proofs.BoundLemmas.{first_counted, counted_within}
use Rattle.relay_request.specs.Bound.{AttemptCounts, CountsAnswer, CountsCall, CountsHead, CountsLink, CountsSend, CountsTreat, IsBounded, IsWithin, LeavesLink, LinkGave, OwnGave, PhaseCounts, TurnedCounts, most_sides, sides_before}
use Rattle.relay_request.specs.Passed.{World, Start, called_to, opened_to, origin_at}
use Rattle.relay_request.specs.Phases.{RunSoFar}
use Rattle.relay_request.specs.Refusals.{attempts_in}
use Rattle.relay_request.specs.Relaying.{TurnsWithin, is_closing, turned}
use Rattle.relay_request.specs.Tries.{tries_in}
use Rattle.relay_request.specs.Turn.{Advances}
use Rattle.relay_request.specs.Uses.{Measured, work_by}
use Rattle.relay_request.specs.declared.machine.Attempt.{Attempt}
use Rattle.relay_request.specs.declared.machine.Lease.{Lease}
use Rattle.relay_request.specs.declared.machine.Phase.{Phase}
use Rattle.relay_request.specs.declared.machine.Phase.TheVariants.{ReadHead, Connect, Unlinked, Prepare, Relay, Broken, Again, Fail, Close, Answer, Ended}
use Rattle.relay_request.specs.declared.record.AttemptRecord.{AttemptRecord}
use Rattle.relay_request.specs.declared.record.RunRecord.{RunRecord}
use Rattle.relay_request.specs.declared.work.Work.{Work}
use Rattle.relay_turns.proofs.UseLemmas.{either_rose}

-- ---- the turns of a request

-- a request takes no more turns than its links answered, twice the bytes that the client's and its
-- last one gave, six and its attempts, the calls of its hooks, and the tasks and ends of attempts
-- before
pub turns_bounded : {L : Type 0} (state : L → LinkState) (start_at : L → LinkStart) (s : Start)
    (client : LinkState) (earlier_tasks earlier_ends : ℕ) (own : List (Returned L))
    (history : RunRecord)
    (b : IsBounded state start_at s client earlier_tasks earlier_ends own history)
    → history.turns_taken
    ≤ history.items_used + (earlier_tasks
    + most_tasks (length s.ahead + length b.within.came) (length b.within.got))
    + (earlier_ends + most_sides (length history.attempts)) + length history.log
turns_bounded state start_at s client earlier_tasks earlier_ends own history b =
    omega (arith, b.worked, b.moved, b.ended, b.within.tasks_within, b.within.ends_within)

-- the same attempts are as many
as_many : {these those : List AttemptRecord} → these ≡ those → length these ≡ length those
as_many same = ap (λ (xs : List AttemptRecord). length xs) same

-- and so are those before the same lease
same_tries : {this that : Lease} → this ≡ that → length (tries_in this) ≡ length (tries_in that)
same_tries same = ap (λ (l : Lease). length (tries_in l)) same

-- a link that gave nothing more
still_gave : (s : Start) (client client' : LinkState) (came : List ℕ)
    → client'.given ≡ client.given → Since [] s.given client.given came
    → Since [] s.given client'.given came
still_gave s client client' came same gave =
    subst (λ (told : Option (List ℕ)). Since [] s.given told came) (sym same) gave

-- ---- one turn of an exchange

module _ (client client' upstream upstream' : LinkState) (asked : Bool)
    (m : Measured client client' upstream upstream' asked)
  where
    -- what a turn that moved counts as
    pub counts_as : (b : Option Branch) (old new : State)
        → over.HasMoved b old new client client' upstream upstream'
        → CountsAs old new (work_by b asked).moved (work_by b asked).ended
    counts_as None old new moved = CountsAs.as_none
    counts_as (Some branch.UpWrite) old new moved = CountsAs.as_none
    counts_as (Some branch.DownWrite) old new moved = CountsAs.as_none
    counts_as (Some branch.UpTake) old new (inl asks) = absurd asks
    counts_as (Some branch.UpTake) old new (inr between) =
        CountsAs.as_task branch.UpTake refl between.moves
    counts_as (Some branch.DownTake) old new (inl asks) = absurd asks
    counts_as (Some branch.DownTake) old new (inr between) =
        CountsAs.as_task branch.DownTake refl between.moves
    counts_as (Some branch.DownDrop) old new (inl asks) = absurd asks
    counts_as (Some branch.DownDrop) old new (inr between) =
        CountsAs.as_task branch.DownDrop refl between.moves
    counts_as (Some branch.DownEnd) old new (inl asks) = absurd asks
    counts_as (Some branch.DownEnd) old new (inr between) =
        CountsAs.as_end branch.DownEnd refl between.moves
    counts_as (Some branch.DownClosed) old new (inl asks) = absurd asks
    counts_as (Some branch.DownClosed) old new (inr between) =
        CountsAs.as_end branch.DownClosed refl between.moves
    counts_as (Some branch.UpRead) old new moved = by asked refl moved
      where
        by : (b : Bool) → asked ≡ b
            → over.HasMoved (Some branch.UpRead) old new client client' upstream upstream'
            → CountsAs old new (work_by (Some branch.UpRead) b).moved
            (work_by (Some branch.UpRead) b).ended
        by true is moved = CountsAs.as_none
        by false is (inl asks) =
            let wrong = sym (either_rose client client' upstream upstream' asked m (inr asks)) ∙ is
            in absurd (cc)
        by false is (inr between) = CountsAs.as_task branch.UpRead refl between.moves
    counts_as (Some branch.DownRead) old new moved = by asked refl moved
      where
        by : (b : Bool) → asked ≡ b
            → over.HasMoved (Some branch.DownRead) old new client client' upstream upstream'
            → CountsAs old new (work_by (Some branch.DownRead) b).moved
            (work_by (Some branch.DownRead) b).ended
        by true is moved = CountsAs.as_none
        by false is (inl asks) =
            let wrong = sym (either_rose client client' upstream upstream' asked m (inl asks)) ∙ is
            in absurd (cc)
        by false is (inr between) = CountsAs.as_task branch.DownRead refl between.moves
    counts_as (Some branch.UpFinish) old new (inl asks) = absurd asks
    counts_as (Some branch.UpFinish) old new (inr between) =
        CountsAs.as_end branch.UpFinish refl between.moves
    counts_as (Some branch.DownFinish) old new (inl asks) = absurd asks
    counts_as (Some branch.DownFinish) old new (inr between) =
        CountsAs.as_end branch.DownFinish refl between.moves
    counts_as (Some branch.MessageUp) old new (inl asks) = absurd asks
    counts_as (Some branch.MessageUp) old new (inr between) = absurd between.moves
    counts_as (Some branch.MessageDown) old new (inl asks) = absurd asks
    counts_as (Some branch.MessageDown) old new (inr between) = absurd between.moves

module _ {L C : Type 0} (state : L → LinkState) (start_at : L → LinkStart) where
  -- ---- phases

  -- a phase none of whose links is to be handed back counts the same
  pub open_counts : (tasks ends : ℕ) (s : Start) (client : LinkState) (ahead : List ℕ)
      (own : List (Returned L)) (next : Phase L C) → is_closing next ≡ false
      → TurnedCounts state start_at tasks ends s client ahead own next
      → PhaseCounts state start_at tasks ends s client ahead own next
  open_counts tasks ends s client ahead own ReadHead shut counts = counts
  open_counts tasks ends s client ahead own (Connect context session tries) shut counts = counts
  open_counts tasks ends s client ahead own (Unlinked context session attempts e) shut counts =
      counts
  open_counts tasks ends s client ahead own (Prepare context session link lease) shut counts =
      counts
  open_counts tasks ends s client ahead own (Relay a) shut counts = counts
  open_counts tasks ends s client ahead own (Broken context session link lease keep e) shut counts =
      counts
  open_counts tasks ends s client ahead own (Again context session link lease keep e) shut counts =
      absurd (true≢false shut)
  open_counts tasks ends s client ahead own (Fail link lease keep session e) shut counts =
      absurd (true≢false shut)
  open_counts tasks ends s client ahead own (Close link lease keep outcome) shut counts =
      absurd (true≢false shut)
  open_counts tasks ends s client ahead own (Answer session owed attempts) shut counts = counts
  open_counts tasks ends s client ahead own (Ended outcome attempts) shut counts = counts

  -- what was counted of an attempt, by the bytes that both links gave
  pub within_link : (tasks ends : ℕ) (s : Start) (client : LinkState) (ahead : List ℕ)
      (a : Attempt L C) → AttemptCounts state start_at tasks ends s client ahead a
      → IsWithin tasks ends (5 + length (tries_in a.lease)) s client
      (LinkGave state start_at (link_of a.exchange))
  within_link tasks ends s client ahead a counts =
      let w = counted_within state start_at counts.of_tasks counts.of_ends
      (origin_at s counts.head counts.sent a.lease.reused counts.began) client ahead s.called
      a.exchange counts.counted in
      record {
        came = w.came;
        got = w.got;
        client_gave = w.client_gave;
        own_gave = w.peer_gave;
        tasks_within = omega (arith, w.tasks_within, counts.tasks_are);
        ends_within = omega (arith, w.ends_within, counts.ends_are);
      }

  -- ---- before an exchange

  -- a turn that reads or judges the head
  pub head_bounds : (s : Start) (p : Passed) (w : World) (next : Phase L C) (work : Work)
      (tasks ends : ℕ) → RunSoFar state start_at s p w [] next → CountsHead next work
      → (tasks ≡ 0) × (ends ≡ 0)
      → TurnedCounts state start_at (work.moved + tasks) (work.ended + ends) s w.client w.ahead []
      next
  head_bounds s p w ReadHead work tasks ends run counts had =
      (omega (arith, counts.0, had.0), omega (arith, counts.1, had.1))
  head_bounds s p w (Connect context session tries) work tasks ends run counts had = (
    omega (arith, counts.0, had.0),
    omega (arith, counts.1, had.1, as_many counts.2),
  )
  head_bounds s p w (Unlinked context session attempts e) work tasks ends run counts had =
      absurd counts
  head_bounds s p w (Prepare context session link lease) work tasks ends run counts had =
      absurd counts
  head_bounds s p w (Relay a) work tasks ends run counts had = absurd counts
  head_bounds s p w (Broken context session link lease keep e) work tasks ends run counts had =
      absurd counts
  head_bounds s p w (Again context session link lease keep e) work tasks ends run counts had =
      absurd counts
  head_bounds s p w (Fail link lease keep session e) work tasks ends run counts had = absurd counts
  head_bounds s p w (Close link lease keep outcome) work tasks ends run counts had = absurd counts
  head_bounds s p w (Answer session owed attempts) work tasks ends run counts had = record {
    came = p.came;
    got = [];
    client_gave = run.tells.came;
    own_gave = refl;
    tasks_within = omega (arith, counts.0, had.0);
    ends_within = omega (arith, counts.1, had.1);
  }
  head_bounds s p w (Ended outcome attempts) work tasks ends run counts had = record {
    came = p.came;
    got = [];
    client_gave = run.tells.came;
    own_gave = refl;
    tasks_within = omega (arith, counts.0, had.0);
    ends_within = omega (arith, counts.1, had.1);
  }

  -- a turn that asks for a link
  pub link_bounds : (s : Start) (p : Passed) (w : World) (next : Phase L C) (work : Work)
      (before : List AttemptRecord) (tasks ends : ℕ) → RunSoFar state start_at s p w [] next
      → CountsLink before next work → (tasks ≡ 0) × (ends ≡ 1 + length before)
      → TurnedCounts state start_at (work.moved + tasks) (work.ended + ends) s w.client w.ahead []
      next
  link_bounds s p w ReadHead work before tasks ends run counts had = absurd counts
  link_bounds s p w (Connect context session tries) work before tasks ends run counts had = (
    omega (arith, counts.0, had.0),
    omega (arith, counts.1, counts.2, had.1),
  )
  link_bounds s p w (Unlinked context session attempts e) work before tasks ends run counts had = (
    omega (arith, counts.0, had.0),
    omega (arith, counts.1, counts.2, had.1),
  )
  link_bounds s p w (Prepare context session link lease) work before tasks ends run counts had = (
    omega (arith, counts.0, had.0),
    omega (arith, counts.1, as_many counts.2, had.1),
  )
  link_bounds s p w (Relay a) work before tasks ends run counts had = absurd counts
  link_bounds s p w (Again context session link lease keep e) work before tasks ends run counts had
      =
      absurd counts
  link_bounds s p w (Fail link lease keep session e) work before tasks ends run counts had =
      absurd counts
  link_bounds s p w (Broken context session link lease keep e) work before tasks ends run counts
      had = record {
        came = p.came;
        got = p.got;
        client_gave = run.tells.came;
        own_gave = run.holds.0.tells.got;
        tasks_within = omega (arith, counts.0, had.0);
        ends_within = omega (arith, counts.1, had.1, as_many counts.2);
      }
  link_bounds s p w (Close link lease keep outcome) work before tasks ends run counts had = record {
    came = p.came;
    got = p.got;
    client_gave = run.tells.came;
    own_gave = run.holds.0.tells.got;
    tasks_within = omega (arith, counts.0, had.0);
    ends_within = omega (arith, counts.1, had.1, as_many counts.2);
  }
  link_bounds s p w (Answer session owed attempts) work before tasks ends run counts had = record {
    came = p.came;
    got = [];
    client_gave = run.tells.came;
    own_gave = refl;
    tasks_within = omega (arith, counts.0, had.0);
    ends_within = omega (arith, counts.1, counts.2, had.1);
  }
  link_bounds s p w (Ended outcome attempts) work before tasks ends run counts had = record {
    came = p.came;
    got = [];
    client_gave = run.tells.came;
    own_gave = refl;
    tasks_within = omega (arith, counts.0, had.0);
    ends_within = omega (arith, counts.1, counts.2, had.1);
  }

  -- a turn that makes the head of an attempt
  pub send_bounds : (s : Start) (p : Passed) (w : World) (next : Phase L C) (work : Work)
      (before : List AttemptRecord) (tasks ends : ℕ) → RunSoFar state start_at s p w [] next
      → CountsSend before next work → (tasks ≡ 0) × (ends ≡ 1 + length before)
      → TurnedCounts state start_at (work.moved + tasks) (work.ended + ends) s w.client w.ahead []
      next
  send_bounds s p w ReadHead work before tasks ends run counts had = absurd counts
  send_bounds s p w (Connect context session tries) work before tasks ends run counts had =
      absurd counts
  send_bounds s p w (Unlinked context session attempts e) work before tasks ends run counts had =
      absurd counts
  send_bounds s p w (Prepare context session link lease) work before tasks ends run counts had =
      absurd counts
  send_bounds s p w (Relay a) work before tasks ends run counts had = record {
    head = run.holds.head;
    sent = run.holds.sent;
    began = run.holds.began;
    of_tasks = 0;
    of_ends = 0;
    counted = first_counted state start_at (origin_at s run.holds.head run.holds.sent
        a.value.lease.reused run.holds.began) p w.client w.ahead s.called a.value.exchange
        run.holds.under_way;
    tasks_are = omega (arith, counts.0, had.0);
    ends_are = omega (arith, counts.1, had.1, as_many counts.2);
  }
  send_bounds s p w (Again context session link lease keep e) work before tasks ends run counts had
      =
      absurd counts
  send_bounds s p w (Fail link lease keep session e) work before tasks ends run counts had =
      absurd counts
  send_bounds s p w (Broken context session link lease keep e) work before tasks ends run counts
      had = record {
        came = p.came;
        got = p.got;
        client_gave = run.tells.came;
        own_gave = run.holds.0.tells.got;
        tasks_within = omega (arith, counts.0, had.0);
        ends_within = omega (arith, counts.1, had.1, as_many counts.2);
      }
  send_bounds s p w (Close link lease keep outcome) work before tasks ends run counts had = record {
    came = p.came;
    got = p.got;
    client_gave = run.tells.came;
    own_gave = run.holds.0.tells.got;
    tasks_within = omega (arith, counts.0, had.0);
    ends_within = omega (arith, counts.1, had.1, as_many counts.2);
  }
  send_bounds s p w (Answer session owed attempts) work before tasks ends run counts had =
      absurd counts
  send_bounds s p w (Ended outcome attempts) work before tasks ends run counts had = absurd counts

  -- a turn that calls a hook
  pub call_bounds : (s : Start) (p : Passed) (w : World) (next : Phase L C) (work : Work)
      (before : List AttemptRecord) (tasks ends : ℕ) → RunSoFar state start_at s p w [] next
      → CountsCall before next work → (tasks ≡ 0) × (ends ≡ 1 + length before)
      → TurnedCounts state start_at (work.moved + tasks) (work.ended + ends) s w.client w.ahead []
      next
  call_bounds s p w ReadHead work before tasks ends run counts had = absurd counts
  call_bounds s p w (Connect context session tries) work before tasks ends run counts had = (
    omega (arith, counts.0, had.0),
    omega (arith, counts.1, as_many counts.2, had.1),
  )
  call_bounds s p w (Unlinked context session attempts e) work before tasks ends run counts had =
      absurd counts
  call_bounds s p w (Prepare context session link lease) work before tasks ends run counts had =
      absurd counts
  call_bounds s p w (Relay a) work before tasks ends run counts had = absurd counts
  call_bounds s p w (Broken context session link lease keep e) work before tasks ends run counts had
      =
      absurd counts
  call_bounds s p w (Again context session link lease keep e) work before tasks ends run counts had
      =
      absurd counts
  call_bounds s p w (Fail link lease keep session e) work before tasks ends run counts had =
      absurd counts
  call_bounds s p w (Close link lease keep outcome) work before tasks ends run counts had =
      absurd counts
  call_bounds s p w (Answer session owed attempts) work before tasks ends run counts had = record {
    came = p.came;
    got = [];
    client_gave = run.tells.came;
    own_gave = refl;
    tasks_within = omega (arith, counts.0, had.0);
    ends_within = omega (arith, counts.1, as_many counts.2, had.1);
  }
  call_bounds s p w (Ended outcome attempts) work before tasks ends run counts had = record {
    came = p.came;
    got = [];
    client_gave = run.tells.came;
    own_gave = refl;
    tasks_within = omega (arith, counts.0, had.0);
    ends_within = omega (arith, counts.1, as_many counts.2, had.1);
  }

  -- ---- behind an exchange

  -- a turn that has the error of an attempt treated or answered
  treat_bounds : (s : Start) (these those : List LogEntry) (client : LinkState) (ahead : List ℕ)
      (own : List (Returned L)) (link : L) (lease : Lease) (next : Phase L C) (work : Work)
      (tasks ends : ℕ) → CountsTreat (tries_in lease) next work → LeavesLink link lease next
      → IsWithin tasks ends (sides_before (1 + length (tries_in lease))) (called_to s these) client
      (LinkGave state start_at link)
      → TurnedCounts state start_at (work.moved + tasks) (work.ended + ends) (called_to s those)
      client ahead own next
  treat_bounds s these those client ahead own link lease ReadHead work tasks ends counts leaves had
      =
      absurd counts
  treat_bounds s these those client ahead own link lease (Connect context session tries) work tasks
      ends counts leaves had = absurd counts
  treat_bounds s these those client ahead own link lease (Unlinked context session attempts e) work
      tasks ends counts leaves had = absurd counts
  treat_bounds s these those client ahead own link lease (Prepare context session l by) work tasks
      ends counts leaves had = absurd counts
  treat_bounds s these those client ahead own link lease (Relay a) work tasks ends counts leaves had
      = absurd counts
  treat_bounds s these those client ahead own link lease (Broken context session l by keep e) work
      tasks ends counts leaves had = record {
        came = had.came;
        got = had.got;
        client_gave = had.client_gave;
        own_gave = subst (λ (k : L). LinkGave state start_at k had.got) (sym leaves.0) had.own_gave;
        tasks_within = omega (arith, counts.0, had.tasks_within);
        ends_within = omega (arith, counts.1, had.ends_within, same_tries leaves.1);
      }
  treat_bounds s these those client ahead own link lease (Again context session l by keep e) work
      tasks ends counts leaves had = record {
        came = had.came;
        got = had.got;
        client_gave = had.client_gave;
        own_gave = subst (λ (k : L). LinkGave state start_at k had.got) (sym leaves.0) had.own_gave;
        tasks_within = omega (arith, counts.0, had.tasks_within);
        ends_within = omega (arith, counts.1, had.ends_within, same_tries leaves.1);
      }
  treat_bounds s these those client ahead own link lease (Fail l by keep session e) work tasks ends
      counts leaves had = record {
        came = had.came;
        got = had.got;
        client_gave = had.client_gave;
        own_gave = subst (λ (k : L). LinkGave state start_at k had.got) (sym leaves.0) had.own_gave;
        tasks_within = omega (arith, counts.0, had.tasks_within);
        ends_within = omega (arith, counts.1, had.ends_within, same_tries leaves.1);
      }
  treat_bounds s these those client ahead own link lease (Close l by keep outcome) work tasks ends
      counts leaves had = record {
        came = had.came;
        got = had.got;
        client_gave = had.client_gave;
        own_gave = subst (λ (k : L). LinkGave state start_at k had.got) (sym leaves.0) had.own_gave;
        tasks_within = omega (arith, counts.0, had.tasks_within);
        ends_within = omega (arith, counts.1, had.ends_within, same_tries leaves.1);
      }
  treat_bounds s these those client ahead own link lease (Answer session owed attempts) work tasks
      ends counts leaves had = absurd counts
  treat_bounds s these those client ahead own link lease (Ended outcome attempts) work tasks ends
      counts leaves had = absurd counts

  -- whatever links were handed back before
  pub treat_turn_bounds : (s : Start) (these those : List LogEntry) (client client' : LinkState)
      (ahead left : List ℕ) (own : List (Returned L)) (context : C) (session : Box HttpSession)
      (link : L) (lease : Lease) (keep : Bool) (e : Error) (next : Phase L C) (work : Work)
      (tasks ends : ℕ) → client'.given ≡ client.given → CountsTreat (tries_in lease) next work
      → LeavesLink link lease next
      → PhaseCounts state start_at tasks ends (called_to s these) client ahead own
      (Broken context session link lease keep e)
      → TurnedCounts state start_at (work.moved + tasks) (work.ended + ends) (called_to s those)
      client' left own next
  treat_turn_bounds s these those client client' ahead left own context session link lease keep e
      next work tasks ends same counts leaves had =
      treat_bounds s these those client' left own link lease next work tasks ends counts leaves
      (record {
        came = had.came;
        got = had.got;
        client_gave = subst (λ (given : Option (List ℕ)). Since [] s.given given had.came)
            (sym same) had.client_gave;
        own_gave = had.own_gave;
        tasks_within = had.tasks_within;
        ends_within = had.ends_within;
      })

  -- a turn that writes an answer
  pub answer_bounds : (s : Start) (client client' : LinkState) (ahead : List ℕ)
      (own : List (Returned L)) (next : Phase L C) (work : Work) (tasks ends : ℕ)
      → client'.given ≡ client.given → CountsAnswer next work
      → (attempts : List AttemptRecord) → attempts_in next ≡ attempts
      → IsWithin tasks ends (sides_before (length attempts)) s client (OwnGave state start_at own)
      → TurnedCounts state start_at (work.moved + tasks) (work.ended + ends) s client' ahead own
      next
  answer_bounds s client client' ahead own ReadHead work tasks ends same counts attempts is had =
      absurd counts
  answer_bounds s client client' ahead own (Connect context session tries) work tasks ends same
      counts attempts is had = absurd counts
  answer_bounds s client client' ahead own (Unlinked context session made e) work tasks ends same
      counts attempts is had = absurd counts
  answer_bounds s client client' ahead own (Prepare context session link lease) work tasks ends same
      counts attempts is had = absurd counts
  answer_bounds s client client' ahead own (Relay a) work tasks ends same counts attempts is had =
      absurd counts
  answer_bounds s client client' ahead own (Broken context session link lease keep e) work tasks
      ends same counts attempts is had = absurd counts
  answer_bounds s client client' ahead own (Again context session link lease keep e) work tasks ends
      same counts attempts is had = absurd counts
  answer_bounds s client client' ahead own (Fail link lease keep session e) work tasks ends same
      counts attempts is had = absurd counts
  answer_bounds s client client' ahead own (Close link lease keep outcome) work tasks ends same
      counts attempts is had = absurd counts
  answer_bounds s client client' ahead own (Answer session owed made) work tasks ends same
      counts attempts is had = record {
        came = had.came;
        got = had.got;
        client_gave = still_gave s client client' had.came same had.client_gave;
        own_gave = had.own_gave;
        tasks_within = omega (arith, counts.0, had.tasks_within);
        ends_within = omega (arith, counts.1, had.ends_within, as_many is);
      }
  answer_bounds s client client' ahead own (Ended outcome made) work tasks ends same counts
      attempts is had = record {
        came = had.came;
        got = had.got;
        client_gave = still_gave s client client' had.came same had.client_gave;
        own_gave = had.own_gave;
        tasks_within = omega (arith, counts.0, had.tasks_within);
        ends_within = omega (arith, counts.1, had.ends_within, as_many is);
      }

  -- ---- in an exchange

  -- what a phase that relays counted is that of its attempt
  attempt_counts : (tasks ends : ℕ) (s : Start) (client : LinkState) (ahead : List ℕ)
      (phase : Phase L C) (a : Box (Attempt L C)) → phase ≡ Relay a
      → PhaseCounts state start_at tasks ends s client ahead [] phase
      → AttemptCounts state start_at tasks ends s client ahead a.value
  attempt_counts tasks ends s client ahead phase a is counts =
      subst (λ (k : Phase L C). PhaseCounts state start_at tasks ends s client ahead [] k) is counts

  module _ (s : Start) (log log' : List LogEntry) (client client' : LinkState)
      (ahead left : List ℕ) (phase next : Phase L C) (did : Turn) (asked : Bool)
      (t : TurnsWithin state start_at client client' ahead left log log' phase next did asked)
      (tasks ends : ℕ)
      (had : PhaseCounts state start_at tasks ends (opened_to s log) client ahead [] phase)
    where
      -- what its attempt counted before
      before : AttemptCounts state start_at tasks ends (opened_to s log) client ahead
          t.attempt.value
      before = attempt_counts tasks ends (opened_to s log) client ahead phase t.attempt t.was had

      -- where its exchange began
      abbrev origin : Origin
      origin = origin_at (opened_to s log) before.head before.sent t.attempt.value.lease.reused
          before.began

      -- what its turn counts
      goes_on : CountsOn state start_at before.of_tasks before.of_ends origin client' left log log'
          t.attempt.value.exchange t.exchange did.step
      goes_on = t.turns.counts origin before.of_tasks before.of_ends before.counted

      -- the same by that answer
      goes_by : (r : Step) → did.step ≡ r
          → CountsOn state start_at before.of_tasks before.of_ends origin client' left log log'
          t.attempt.value.exchange t.exchange r
      goes_by r is =
          subst (λ (k : Step). CountsOn state start_at before.of_tasks before.of_ends origin client'
          left log log' t.attempt.value.exchange t.exchange k) is goes_on

      -- the attempt goes on
      stays_under : (of_tasks of_ends more_tasks more_ends : ℕ)
          → HasCounted state start_at of_tasks of_ends origin client' left log' t.exchange
          → of_tasks ≡ more_tasks + before.of_tasks → of_ends ≡ more_ends + before.of_ends
          → TurnedCounts state start_at (more_tasks + tasks) (more_ends + ends)
          (opened_to s log') client' left [] next
      stays_under of_tasks of_ends more_tasks more_ends counted all_tasks all_ends =
          subst (λ (k : Phase L C). TurnedCounts state start_at (more_tasks + tasks)
          (more_ends + ends) (opened_to s log') client' left [] k) (sym t.stands)
          (record {
            head = before.head;
            sent = before.sent;
            began = before.began;
            of_tasks = of_tasks;
            of_ends = of_ends;
            counted = counted;
            tasks_are = omega (arith, before.tasks_are, all_tasks);
            ends_are = omega (arith, before.ends_are, all_ends);
          })

      -- a turn that moved
      pub relay_moved : did.step ≡ step.Moved
          → TurnedCounts state start_at ((work_by did.branch asked).moved + tasks)
          ((work_by did.branch asked).ended + ends) (opened_to s log') client' left [] next
      relay_moved is =
          let work = work_by did.branch asked in
          let moved = t.turns.moves origin before.counted.passed before.counted.under_way is in
          let counts = counts_as client client' (state (link_of t.attempt.value.exchange))
          (state (link_of t.exchange)) asked t.turns.measured did.branch
          (core_in log t.attempt.value.exchange) (core_in log' t.exchange) moved in
          stays_under (work.moved + before.of_tasks) (work.ended + before.of_ends) work.moved
          work.ended (goes_by step.Moved is work.moved work.ended counts) refl refl

      -- one that waited
      pub relay_waited : (pause : Pause) → did.step ≡ step.Waited pause
          → TurnedCounts state start_at (0 + tasks) (0 + ends) (opened_to s log') client' left []
          next
      relay_waited pause is =
          stays_under before.of_tasks before.of_ends 0 0 (goes_by (step.Waited pause) is)
          (omega arith) (omega arith)

      -- one that ended the exchange, whose link is to be handed back
      over_by : attempt.IsWithin before.of_tasks before.of_ends origin client'
          (state (link_of t.exchange)) (start_at (link_of t.exchange))
          → (settled : Phase L C) → LeavesLink (link_of t.exchange) t.attempt.value.lease settled
          → TurnedCounts state start_at (0 + tasks) (1 + ends) (opened_to s log') client' left []
          settled
      over_by w ReadHead leaves = absurd leaves
      over_by w (Connect context session tries) leaves = absurd leaves
      over_by w (Unlinked context session attempts e) leaves = absurd leaves
      over_by w (Prepare context session link lease) leaves = absurd leaves
      over_by w (Relay a) leaves = absurd leaves
      over_by w (Broken context session link lease keep e) leaves = record {
        came = w.came;
        got = w.got;
        client_gave = w.client_gave;
        own_gave = subst (λ (l : L). LinkGave state start_at l w.got) (sym leaves.0) w.peer_gave;
        tasks_within = omega (arith, w.tasks_within, before.tasks_are);
        ends_within = omega (arith, w.ends_within, before.ends_are, same_tries leaves.1);
      }
      over_by w (Again context session link lease keep e) leaves = record {
        came = w.came;
        got = w.got;
        client_gave = w.client_gave;
        own_gave = subst (λ (l : L). LinkGave state start_at l w.got) (sym leaves.0) w.peer_gave;
        tasks_within = omega (arith, w.tasks_within, before.tasks_are);
        ends_within = omega (arith, w.ends_within, before.ends_are, same_tries leaves.1);
      }
      over_by w (Fail link lease keep session e) leaves = record {
        came = w.came;
        got = w.got;
        client_gave = w.client_gave;
        own_gave = subst (λ (l : L). LinkGave state start_at l w.got) (sym leaves.0) w.peer_gave;
        tasks_within = omega (arith, w.tasks_within, before.tasks_are);
        ends_within = omega (arith, w.ends_within, before.ends_are, same_tries leaves.1);
      }
      over_by w (Close link lease keep outcome) leaves = record {
        came = w.came;
        got = w.got;
        client_gave = w.client_gave;
        own_gave = subst (λ (l : L). LinkGave state start_at l w.got) (sym leaves.0) w.peer_gave;
        tasks_within = omega (arith, w.tasks_within, before.tasks_are);
        ends_within = omega (arith, w.ends_within, before.ends_are, same_tries leaves.1);
      }
      over_by w (Answer session owed attempts) leaves = absurd leaves
      over_by w (Ended outcome attempts) leaves = absurd leaves

      -- one that finished it
      pub relay_finished : did.step ≡ step.Finished → (settled : Phase L C)
          → ((a : Box (Attempt L C)) → next ≡ Relay a
          → LeavesLink (link_of a.value.exchange) a.value.lease settled)
          → TurnedCounts state start_at (0 + tasks) (1 + ends) (opened_to s log') client' left []
          settled
      relay_finished is settled leaves =
          over_by (goes_by step.Finished is) settled
          (leaves (turned t.attempt t.exchange t.context) t.stands)

      -- one that failed it
      pub relay_failed : (why : Why) → did.step ≡ step.Failed why → (settled : Phase L C)
          → ((a : Box (Attempt L C)) → next ≡ Relay a
          → LeavesLink (link_of a.value.exchange) a.value.lease settled)
          → TurnedCounts state start_at (0 + tasks) (1 + ends) (opened_to s log') client' left []
          settled
      relay_failed why is settled leaves =
          over_by (goes_by (step.Failed why) is) settled
          (leaves (turned t.attempt t.exchange t.context) t.stands)

  -- ---- a turn, whatever links were handed back before

  -- one that reads or judges the head
  pub head_turn_bounds : (s s' : Start) (p : Passed) (w x : World) (own : List (Returned L))
      (next : Phase L C) (work : Work) (tasks ends : ℕ)
      → RunSoFar {C = C} state start_at s p w own ReadHead
      → (RunSoFar {C = C} state start_at s p w [] ReadHead → Advances state start_at s' x next)
      → CountsHead next work
      → PhaseCounts {C = C} state start_at tasks ends s w.client w.ahead own ReadHead
      → TurnedCounts state start_at (work.moved + tasks) (work.ended + ends) s' x.client x.ahead own
      next
  head_turn_bounds s s' p w x [] next work tasks ends run turn counts had =
      let on = turn run in
      head_bounds s' on.passed x next work tasks ends on.run counts had
  head_turn_bounds s s' p w x (r ∷ own) next work tasks ends run turn counts had = absurd run.holds

  -- one that calls a hook or asks for a link
  pub link_turn_bounds : (s s' : Start) (p : Passed) (w x : World) (own : List (Returned L))
      (context : C) (session : Box HttpSession) (tries : List AttemptRecord) (next : Phase L C)
      (work : Work) (tasks ends : ℕ)
      → RunSoFar state start_at s p w own (Connect context session tries)
      → (RunSoFar state start_at s p w [] (Connect context session tries)
      → Advances state start_at s' x next)
      → CountsCall tries next work ⊎ CountsLink tries next work
      → PhaseCounts state start_at tasks ends s w.client w.ahead own (Connect context session tries)
      → TurnedCounts state start_at (work.moved + tasks) (work.ended + ends) s' x.client x.ahead own
      next
  link_turn_bounds s s' p w x [] context session tries next work tasks ends run turn (inl counts)
      had =
      let on = turn run in
      call_bounds s' on.passed x next work tries tasks ends on.run counts had
  link_turn_bounds s s' p w x [] context session tries next work tasks ends run turn (inr counts)
      had =
      let on = turn run in
      link_bounds s' on.passed x next work tries tasks ends on.run counts had
  link_turn_bounds s s' p w x (r ∷ own) context session tries next work tasks ends run turn counts
      had =
      absurd run.holds

  -- one that has the error of the last attempt answered, which was given no link
  pub unlinked_turn_bounds : (s s' : Start) (p : Passed) (w x : World) (own : List (Returned L))
      (context : C) (session : Box HttpSession) (attempts : List AttemptRecord) (error : Error)
      (next : Phase L C) (work : Work) (tasks ends : ℕ)
      → RunSoFar state start_at s p w own (Unlinked context session attempts error)
      → (RunSoFar state start_at s p w [] (Unlinked context session attempts error)
      → Advances state start_at s' x next)
      → CountsCall attempts next work
      → PhaseCounts state start_at tasks ends s w.client w.ahead own
      (Unlinked context session attempts error)
      → TurnedCounts state start_at (work.moved + tasks) (work.ended + ends) s' x.client x.ahead own
      next
  unlinked_turn_bounds s s' p w x [] context session attempts error next work tasks ends run turn
      counts had =
      let on = turn run in
      call_bounds s' on.passed x next work attempts tasks ends on.run counts had
  unlinked_turn_bounds s s' p w x (r ∷ own) context session attempts error next work tasks ends run
      turn counts had = absurd run.holds

  -- one that makes the head of an attempt
  pub send_turn_bounds : (s s' : Start) (p : Passed) (w x : World) (own : List (Returned L))
      (context : C) (session : Box HttpSession) (link : L) (lease : Lease) (next : Phase L C)
      (work : Work) (tasks ends : ℕ)
      → RunSoFar state start_at s p w own (Prepare context session link lease)
      → (RunSoFar state start_at s p w [] (Prepare context session link lease)
      → Advances state start_at s' x next)
      → CountsSend (tries_in lease) next work
      → PhaseCounts state start_at tasks ends s w.client w.ahead own
      (Prepare context session link lease)
      → TurnedCounts state start_at (work.moved + tasks) (work.ended + ends) s' x.client x.ahead own
      next
  send_turn_bounds s s' p w x [] context session link lease next work tasks ends run turn counts
      had =
      let on = turn run in
      send_bounds s' on.passed x next work (tries_in lease) tasks ends on.run counts had
  send_turn_bounds s s' p w x (r ∷ own) context session link lease next work tasks ends run turn
      counts had = absurd run.holds
