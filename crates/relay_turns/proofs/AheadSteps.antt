-- A write of what waits for the client of an attempt that failed, behind which another one may
-- follow.
--
--   some_ahead      something waits, where that keeps another attempt from beginning
--   ahead_wrote     the attempt stands as it did, and more of what was queued is written
--   ahead_offered   so it is, whatever the client's link answered
--   ahead_memory    it found no memory
use Rattle.std.specs.Global.{Box}
use Rattle.std.proofs.Common.{◌≡◌, ℕ, ◌<◌, Bool, true, false, not, ◌&&◌, List, [], ◌∷◌, ◌++◌, length, take, refl, sym, ap, subst, ◌∙◌, arith, append-nil, true≢false}
use Rattle.std.specs.Prelude.{◌==◌}
use Rattle.relay_tasks.specs.declared.Error.{Error}
use Rattle.relay_tasks.specs.declared.Fault.{Fault}
use Rattle.relay_tasks.specs.declared.task.HttpTask.{HttpTask}
use Rattle.relay_links.specs.Link.{LinkState, LinkStart, WantsMemory}
use Rattle.relay_links.specs.declared.link.Put.{Put}
use Rattle.relay_links.specs.declared.link.Put.TheVariants as put
use Rattle.relay_h1.specs.Move.{taken}
use Rattle.relay_session.specs.Reading.{head_of, is_truncated}
use Rattle.relay_session.specs.Response.{Holds, has_head, WritesPending, WritesQueue, pending}
use Rattle.relay_session.specs.Session.{may_begin_again}
use Rattle.relay_session.specs.declared.session.HttpSession.{HttpSession}
use Rattle.relay_session.specs.declared.writing.Outgoing.{Outgoing}
use Rattle.relay_session.specs.declared.writing.Outgoing.TheVariants as outgoing
use Rattle.relay_peer.specs.Faults.{TellsSince}
use Rattle.relay_attempt.specs.Order.{WrittenTo}
use Rattle.relay_attempt.specs.Passed.{Passed}
use Rattle.relay_attempt.proofs.FailLemmas.{written_to}
use Rattle.relay_hooked.specs.Order.{order_of}
use Rattle.relay_peer.proofs.FaultLemmas.{grew_none, grew_same}
use Rattle.relay_sides.specs.Client.{BeginsBehind}
use Rattle.relay_request.specs.Answer.{past_at}
use Rattle.relay_request.specs.Endings.{FailsToWrite}
use Rattle.relay_request.specs.Passed.{World, Start, origin_at, origin_of, TellsClient}
use Rattle.relay_request.specs.Phases.{IsBroken, IsLeased, LeavesSession, RunSoFar, waits_to_begin, written_out}
use Rattle.relay_request.specs.Turn.{Advances}
use Rattle.relay_request.specs.declared.machine.Lease.{Lease}
use Rattle.relay_request.specs.declared.machine.Phase.TheVariants.{Broken, Close}
use Rattle.relay_request.specs.declared.outcome.Outcome.TheVariants as outcome
use Rattle.relay_turns.proofs.AgainLemmas.{begins_there, out_still, rebased_to}
use Rattle.relay_turns.proofs.AnswerSteps.{WrittenOf, client_failed, fails_to_write, past_same, still, write_failed}
use Rattle.relay_turns.proofs.CutLemmas.{queued_in}
use Rattle.relay_turns.proofs.Tells.{client_still, client_took}
use Rattle.relay_turns.proofs.FailSteps.{leaves_part, left_memory, part_closed, part_order}

-- where that keeps another attempt from beginning, something waits
pub some_ahead : (session : HttpSession) → waits_to_begin session ≡ true
    → 0 < length (pending session.writing.output)
some_ahead session waits =
    by (is_truncated session.reading) (has_head session.writing.place)
    (pending session.writing.output) waits
  where
    by : (lost has : Bool) (queue : List ℕ)
        → (not lost && (not has && not (length queue == 0))) ≡ true → 0 < length queue
    by lost has (b ∷ queue) is = omega arith
    by true has [] is = absurd (true≢false (sym is))
    by false true [] is = absurd (true≢false (sym is))
    by false false [] is = absurd (true≢false (sym is))

-- an output that is open has no fault
never_broken : (rest : List ℕ) (fault : Fault) → outgoing.Open rest ≡ outgoing.Broken fault → ⊥
never_broken rest fault is = cc

-- where the client's link found no memory it tells what it told
memory_tells : (s : Start) (p : Passed) (w x : World) → x.connect_faults ≡ w.connect_faults
    → WantsMemory w.client x.client → TellsClient s p w → TellsClient s p x
memory_tells s p w x same wants tells =
    client_still s p w x (omega (arith, same)) (ap (λ (l : LinkState). l.given) wants.same)
    (ap (λ (l : LinkState). l.taken) wants.same)
    (omega (arith, ap (λ (l : LinkState). l.faults) wants.same))
    (grew_none w.client x.client (ap (λ (l : LinkState). l.read_faults) wants.same)
    (ap (λ (l : LinkState). l.write_faults) wants.same)) tells

-- the link of an attempt is leased, whatever was written to the client
leased_wrote : (s : Start) (p : Passed) (written : List ℕ) (link : LinkState) (start : LinkStart)
    (lease : Lease) → IsLeased s p link start lease
    → IsLeased s (past_at p written) link start lease
leased_wrote s p written link start lease leased = record {
  tells = record {
    got = leased.tells.got;
    sent = leased.tells.sent;
    faults = leased.tells.faults;
  };
  peer = leased.peer;
  recorded = leased.recorded;
  reused = leased.reused;
  tries = leased.tries;
}

-- what a failed exchange left, once more of what was queued is written
left_wrote : (s : Start) (p : Passed) (written : List ℕ) (before after : LinkState)
    (ahead : List ℕ) (link : LinkState) (start : LinkStart) (session left : HttpSession)
    (e : Error) → WrittenTo before after → after.given ≡ before.given → WrittenOf session left
    → ((tasks : List HttpTask) → Holds session.writing tasks p.written
    → Holds left.writing tasks written)
    → ((fault : Fault) → left.writing.output ≡ outgoing.Broken fault → FailsToWrite s after)
    → ((queue : List ℕ) → left.writing.output ≡ outgoing.Open queue
    → (was : List ℕ) × (session.writing.output ≡ outgoing.Open was))
    → TellsSince s.read_faults s.write_faults after
    → LeavesSession s p before ahead link start session e
    → LeavesSession s (past_at p written) after ahead link start left e
left_wrote s p written before after ahead link start session left e to given same keeps fails was
    tells l =
    let o = origin_of s l.head l.sent start.reused in
    let on = still l.f (origin_at s l.head l.sent start.reused l.began) (past_at p l.before) before
    after link start e to l.why in
    record {
      head = l.head;
      sent = l.sent;
      relayable = l.relayable;
      sends = l.sends;
      before = l.before;
      f = l.f;
      began = l.began;
      stands = l.stands;
      why = on.again;
      speaks = l.speaks;
      answers = ap (λ (h : HttpSession). h.writing.request) same ∙ l.answers;
      holds = subst (λ (tasks : List HttpTask). Holds left.writing tasks written) (sym on.same)
          (keeps (queued_in (order_of l.why)) l.holds);
      broken = fails;
      is_left = ap (λ (h : HttpSession). head_of h.reading) same ∙ l.is_left;
      quiet = l.quiet;
      again = λ queue open_to begun.
          let out = out_still session left same in
          let first = was queue open_to in
          subst (λ (h : HttpSession). BeginsBehind (rebased_to o after) p.came after ahead h)
          (sym out)
          (begins_there o p.came before after ahead (written_out session) given tells
          (l.again first.0 first.1 (ap may_begin_again (sym out) ∙ begun)));
    }

module _ {L C : Type 0} (state : L → LinkState) (start_at : L → LinkStart) (s : Start)
    (p : Passed) (w x : World) (context : C) (session : Box HttpSession) (link : L)
    (lease : Lease) (keep : Bool) (raised : Error)
    (run : RunSoFar {C = C} state start_at s p w []
    (Broken context session link lease keep raised))
    (waits : 0 < length (pending session.value.writing.output))
  where
    -- the attempt failed in its exchange, since ahead of it nothing was queued
    record FailsIn : Type 0 where
      leaves : LeavesSession s p w.client w.ahead (state link) (start_at link) session.value raised
      unkept : keep ≡ false

    fails_in : IsBroken s p w (state link) (start_at link) session.value lease keep raised
        → FailsIn
    fails_in (IsBroken.in_exchange l kept) = record { leaves = l; unkept = kept }
    fails_in (IsBroken.ahead_of_it l) =
        absurd (omega (
          arith,
          waits,
          ap length (ap pending (l.connecting.begins l.connecting.head false).output),
        ))

    -- the attempt stands as it did, and so much is written
    pub ahead_wrote : (left : Box HttpSession) (written : List ℕ)
        → TellsClient s (past_at p written) x → WrittenTo w.client x.client
        → x.client.given ≡ w.client.given → x.ahead ≡ w.ahead
        → WrittenOf session.value left.value
        → ((tasks : List HttpTask) → Holds session.value.writing tasks p.written
        → Holds left.value.writing tasks written)
        → ((fault : Fault) → left.value.writing.output ≡ outgoing.Broken fault
        → FailsToWrite s x.client)
        → ((queue : List ℕ) → left.value.writing.output ≡ outgoing.Open queue
        → (was : List ℕ) × (session.value.writing.output ≡ outgoing.Open was))
        → Advances {C = C} state start_at s x (Broken context left link lease keep raised)
    ahead_wrote left written tells to given ahead same keeps fails was =
        let f = fails_in run.holds.1 in
        let l = subst (λ (front : List ℕ). LeavesSession s (past_at p written) x.client front
        (state link) (start_at link) left.value raised) (sym ahead)
        (left_wrote s p written w.client x.client w.ahead (state link) (start_at link)
        session.value left.value raised to given same keeps fails was tells.fault_lists f.leaves) in
        let part = leaves_part s (past_at p written) x.client x.ahead (state link) (start_at link)
        left.value raised l in
        record {
          passed = past_at p written;
          run = record {
            tells = tells;
            order = part_order s (past_at p written) (state link) (start_at link) part;
            untouched = part_closed s (past_at p written) x (state link) (start_at link) part;
            going = tt;
            calm = tt;
            holds = (
              leased_wrote s p written (state link) (start_at link) lease run.holds.0,
              IsBroken.in_exchange l f.unkept,
            );
          };
        }

    -- the client's link found no memory
    pub ahead_memory : x.connect_faults ≡ w.connect_faults → (left : Outgoing)
        → WritesPending session.value.writing.output w.client x.client put.OutOfMemory left
        → Advances {C = C} state start_at s x (Close link lease false outcome.OutOfMemory)
    ahead_memory same left writes = by session.value.writing.output refl writes
      where
        by : (output : Outgoing) → session.value.writing.output ≡ output
            → WritesPending output w.client x.client put.OutOfMemory left
            → Advances {C = C} state start_at s x (Close link lease false outcome.OutOfMemory)
        by (outgoing.Open queue) is wr =
            left_memory state start_at s p x link lease
            (memory_tells s p w x same wr.writes.writes run.tells) run.holds.0
            (leaves_part s p w.client w.ahead (state link) (start_at link) session.value raised
            (fails_in run.holds.1).leaves)
        by (outgoing.Broken fault) is wr =
            absurd (omega (arith, waits, ap length (ap pending is)))

    -- what was offered was taken, in part or not at all, or the write failed
    pub ahead_offered : (answer : Put) (left : Box HttpSession)
        → x.connect_faults ≡ w.connect_faults → x.ahead ≡ w.ahead
        → WritesPending session.value.writing.output w.client x.client answer
        left.value.writing.output
        → WrittenOf session.value left.value
        → ((tasks : List HttpTask) → Holds session.value.writing tasks p.written
        → Holds left.value.writing tasks
        (p.written ++ take (taken answer) (pending session.value.writing.output)))
        → Advances {C = C} state start_at s x (Broken context left link lease keep raised)
    ahead_offered answer left same ahead writes wrote keeps =
        by session.value.writing.output refl writes keeps
      where
        -- the session holds as much, where the link took nothing
        KeepsAs : Put → List ℕ → Type 0
        KeepsAs put queue = (tasks : List HttpTask) → Holds session.value.writing tasks p.written
            → Holds left.value.writing tasks (p.written ++ take (taken put) queue)

        -- the client takes nothing now, and what waited waits, or the write failed
        stays : TellsClient s p x → WrittenTo w.client x.client
            → x.client.given ≡ w.client.given
            → ((tasks : List HttpTask) → Holds session.value.writing tasks p.written
            → Holds left.value.writing tasks (p.written ++ []))
            → ((fault : Fault) → left.value.writing.output ≡ outgoing.Broken fault
            → FailsToWrite s x.client)
            → ((queue : List ℕ) → left.value.writing.output ≡ outgoing.Open queue
            → (was : List ℕ) × (session.value.writing.output ≡ outgoing.Open was))
            → Advances {C = C} state start_at s x (Broken context left link lease keep raised)
        stays tells to given held fails was =
            ahead_wrote left p.written (past_same s p x tells) to given ahead wrote
            (λ tasks before. subst (λ (xs : List ℕ). Holds left.value.writing tasks xs)
            (append-nil p.written) (held tasks before)) fails was

        on : (put : Put) (queue : List ℕ) → session.value.writing.output ≡ outgoing.Open queue
            → WrittenTo w.client x.client
            → WritesQueue w.client x.client queue put left.value.writing.output
            → KeepsAs put queue
            → Advances {C = C} state start_at s x (Broken context left link lease keep raised)
        on (put.Took n) queue is to wr held =
            ahead_wrote left (p.written ++ take n queue)
            (client_took s p w x queue n same wr.writes.writes run.tells) to
            wr.writes.writes.given ahead wrote held
            (λ fault broken. absurd (never_broken wr.rest fault (sym wr.leaves ∙ broken)))
            (λ rest open_to. (queue, is))
        on put.NotReady queue is to wr held =
            let waits = wr.writes.writes in
            stays
            (client_still s p w x (omega (arith, same)) waits.given waits.taken
            (omega (arith, waits.faults))
            (grew_none w.client x.client waits.read_faults waits.write_faults) run.tells) to
            waits.given held
            (λ fault broken. absurd (never_broken wr.rest fault (sym wr.leaves ∙ broken)))
            (λ rest open_to. (queue, is))
        on put.Silent queue is to wr held =
            let silent = wr.writes.writes in
            stays
            (client_still s p w x (omega (arith, same))
            (ap (λ (l : LinkState). l.given) silent.same)
            (ap (λ (l : LinkState). l.taken) silent.same)
            (omega (arith, ap (λ (l : LinkState). l.faults) silent.same))
            (grew_same w.client x.client silent.same) run.tells) to
            (ap (λ (l : LinkState). l.given) silent.same) held
            (λ fault broken. absurd (never_broken wr.rest fault (sym wr.leaves ∙ broken)))
            (λ rest open_to. (queue, is))
        on (put.Failed fault) queue is to wr held =
            let fails = wr.writes.writes in
            stays (client_failed s p w x fault same fails run.tells) to fails.given held
            (λ told broken. fails_to_write s x fault (write_failed s p w x fault fails run.tells))
            (λ rest open_to. absurd (never_broken rest fault (sym open_to ∙ wr.leaves)))
        on put.OutOfMemory queue is to wr held =
            let wants = wr.writes.writes in
            stays (memory_tells s p w x same wants run.tells) to
            (ap (λ (l : LinkState). l.given) wants.same) held
            (λ fault broken. absurd (never_broken wr.rest fault (sym wr.leaves ∙ broken)))
            (λ rest open_to. (queue, is))

        by : (output : Outgoing) → session.value.writing.output ≡ output
            → WritesPending output w.client x.client answer left.value.writing.output
            → KeepsAs answer (pending output)
            → Advances {C = C} state start_at s x (Broken context left link lease keep raised)
        by (outgoing.Open queue) is wr held =
            on answer queue is
            (written_to (outgoing.Open queue) w.client x.client answer left.value.writing.output wr)
            wr held
        by (outgoing.Broken fault) is wr held =
            absurd (omega (arith, waits, ap length (ap pending is)))
