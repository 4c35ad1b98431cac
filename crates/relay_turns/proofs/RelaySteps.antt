-- What a turn of an attempt's exchange makes of the run so far.
use Rattle.std.proofs.Common.{◌≡◌, ◌≢◌, ◌↔◌, ◌⊎◌, ℕ, ◌+◌, ◌<◌, All, Bool, true, false, not, ◌&&◌, ◌||◌, ltb, List, [], ◌∷◌, ◌++◌, append_assoc, append-nil, length, length-append, None, Option, Some, refl, sym, ap, subst, ◌∙◌, inl, inr, true≢false, arith}
use Rattle.std.specs.Prelude.{IsSome, IsTrue, ◌==◌, if◌then◌else◌}
use Rattle.std.specs.Box.{with_value}
use Rattle.std.specs.Global.{Box}
use Rattle.std.proofs.lemmas.Bool.{eqb-true, lt-ltb, ltb-true}
use Rattle.std.proofs.lemmas.List.{nil_from_length}
use Rattle.std.proofs.lemmas.List.Elements.{All-nil}
use Rattle.relay_tasks.specs.Head.{RequestHead}
use Rattle.relay_tasks.specs.declared.error.Error.{Error}
use Rattle.relay_tasks.specs.declared.error.Fail.{Fail}
use Rattle.relay_tasks.specs.declared.error.Fail.TheVariants as fail
use Rattle.relay_tasks.specs.declared.log.LogEntry.{LogEntry}
use Rattle.relay_tasks.specs.declared.took.Pause.{Pause}
use Rattle.relay_tasks.specs.declared.took.Pause.TheVariants.{NotReady, Silent}
use Rattle.relay_links.specs.Count.{Rose, last_count}
use Rattle.relay_connector.specs.Upstream.{SpeaksBytes}
use Rattle.relay_links.specs.Link.{LinkState, LinkStart}
use Rattle.relay_links.specs.declared.branch.Branch.{Branch}
use Rattle.relay_links.specs.declared.branch.Branch.TheVariants as branch
use Rattle.relay_h1.specs.Options.{closes}
use Rattle.relay_h1.specs.Verdict.{IsOpen}
use Rattle.relay_session.specs.Asked.{is_http_11, lets_ask, request_of}
use Rattle.relay_session.specs.Reading.{head_of, is_body_done}
use Rattle.relay_session.specs.declared.session.HttpSession.{HttpSession}
use Rattle.relay_session.specs.declared.task_text.Request.{Request}
use Rattle.relay_core.specs.Asked.{WaitRose}
use Rattle.relay_core.specs.Causes.{says_failed}
use Rattle.relay_core.specs.Past.{Origin}
use Rattle.relay_core.specs.declared.step.Step.{Step}
use Rattle.relay_core.specs.declared.step.Step.TheVariants as step
use Rattle.relay_core.specs.Table.{enabled}
use Rattle.relay_core.specs.Uses.{MovesInside}
use Rattle.relay_core.specs.Uses as core_uses
use Rattle.relay_core.proofs.BoolLemmas.{decide}
use Rattle.relay_sides.specs.Client.{BeginsBehind, IsSide}
use Rattle.relay_modules.specs.declared.seen.Seen.{Seen}
use Rattle.relay_hooks.specs.Standing.{Standing}
use Rattle.relay_purging.specs.Told.{purges_in}
use Rattle.relay_opening.specs.Told.{head_behind}
use Rattle.relay_exchange.specs.Exchange as over
use Rattle.relay_exchange.specs.declared.exchange.Stage.{Stage}
use Rattle.relay_exchange.specs.declared.exchange.Stage.TheVariants as flows
use Rattle.relay_exchange.specs.declared.exchange.Turn.{Turn}
use Rattle.relay_filters.specs.Hooked.{PastBy, PastOf, Walks, WalksTo, inside, is_lost}
use Rattle.relay_filters.specs.Request.{pieces_in}
use Rattle.relay_filters.specs.Response.{IsFilterCall}
use Rattle.relay_attempt.specs.Exchange.{AreTold}
use Rattle.relay_attempt.specs.Passed.{Passed}
use Rattle.relay_hooked.specs.Calls.{Filtering, calls_behind}
use Rattle.relay_hooked.specs.Exchange as exchange_meets
use Rattle.relay_hooked.specs.Exchange.{ComesTo, IsUnderWay, IsFinished, IsOverEarly, Turns}
use Rattle.relay_hooked.specs.Head.{core_in, filtering_of, link_of, may_keep}
use Rattle.relay_hooked.specs.Order as exchange
use Rattle.relay_hooked.specs.Order.{FailsWith, Leaves}
use Rattle.relay_hooked.specs.declared.exchange.HookedExchange.{HookedExchange}
use Rattle.relay_hooked.proofs.TurnLemmas.{unstopped}
use Rattle.relay_still.proofs.UnshortLemmas.{never_ends_short}
use Rattle.relay_closing.specs.Place.{begun}
use Rattle.relay_request.specs.Calls.{BreaksOff, CallsSoFar, EntersCalls, GrowsCalls, IsRelayingCalls, closed_with, log_of, seen_with}
use Rattle.relay_request.specs.declared.calls.At.TheVariants as at
use Rattle.relay_request.specs.declared.calls.Calls.{Calls}
use Rattle.relay_request.specs.Bound.{PhaseCounts, TurnedCounts}
use Rattle.relay_request.specs.Relayable.{IsRelayable}
use Rattle.relay_request.specs.Endings.{IsClientReusable, IsPartRelayed, IsRelayedEarly, IsRelayedWhole, IsInOrder, EndsLinked, error_of}
use Rattle.relay_request.specs.Leaving.{LeavesBy}
use Rattle.relay_request.specs.Sent.{Sends}
use Rattle.relay_request.specs.Passed.{World, Start, HasFiltered, StandsIn, called_to, opened_to, origin_at, asked, TellsClient}
use Rattle.relay_request.specs.Phases.{IsLeased, LeavesSession, RunSoFar, written_out}
use Rattle.relay_request.specs.Relaying.{turned, TurnsOver, TurnsWithin}
use Rattle.relay_request.specs.Reuse.{client_reusable, has_risen}
use Rattle.relay_request.specs.Tries.{tries_in}
use Rattle.relay_request.specs.Turn.{world_with, Advances, HasMoved, HasWaited, MeetsSilence, held_state, is_over}
use Rattle.relay_request.specs.Uses.{BothUse, ExchangeMoved, LinkUses, MovedBy, OwesAnswer, PhaseUses, TurnCounts, TurnUses, ups, work_by}
use Rattle.relay_turns.proofs.AgainLemmas.{begins_any, begins_out, rebased_to}
use Rattle.relay_turns.proofs.ConnectSteps.{part_relayed, stands_behind}
use Rattle.relay_turns.proofs.FilterSteps.{front_past, head_past, named_past, open_past, purges_past, quiet_past, sends_past, tries_past}
use Rattle.relay_turns.proofs.LastCalls.{IsTurnedCalls, finished_come, going_calls, off_calls, turned_calls}
use Rattle.relay_request.proofs.TreatLemmas.{still_open}
use Rattle.relay_turns.proofs.OpenHead.{exchange_open}
use Rattle.relay_turns.proofs.CountLemmas.{both_counts}
use Rattle.relay_turns.proofs.UseLemmas.{moved_uses, turned_uses}
use Rattle.relay_request.specs.declared.machine.Attempt.{Attempt}
use Rattle.relay_request.specs.declared.machine.Lease.{Lease}
use Rattle.relay_request.specs.declared.machine.Phase.{Phase}
use Rattle.relay_request.specs.declared.machine.Phase.TheVariants.{Relay, Close}
use Rattle.relay_request.specs.declared.outcome.Outcome.{Outcome}
use Rattle.relay_request.specs.declared.work.Work.{Work}
use Rattle.relay_request.specs.declared.outcome.Outcome.TheVariants.{Served, TurnLimit}
use Rattle.relay_turns.proofs.ReuseLemmas.{version_11}

-- ---- whether the client may ask for more

-- what the six tests of a client that may ask for more say
record SixPass (risen closing none_ahead done is_11 asks_close : Bool) : Type 0 where
  pub unfailed : risen ≡ false
  pub answers : closing ≡ false
  pub nothing_ahead : none_ahead ≡ true
  pub ended : done ≡ true
  pub version : is_11 ≡ true
  pub asks : asks_close ≡ false

-- together they pass where each says so
six_pass : (r a b c d e : Bool) → (not r && ((not a && b) && (c && (d && not e)))) ≡ true
    → SixPass r a b c d e
six_pass false false true true true false all = record {
  unfailed = refl;
  answers = refl;
  nothing_ahead = refl;
  ended = refl;
  version = refl;
  asks = refl;
}
six_pass true a b c d e all = cc
six_pass false true b c d e all = cc
six_pass false false false c d e all = cc
six_pass false false true false d e all = cc
six_pass false false true true false e all = cc
six_pass false false true true true true all = cc

-- and so the other way round
all_pass : (r a b c d e : Bool) → SixPass r a b c d e
    → (not r && ((not a && b) && (c && (d && not e)))) ≡ true
all_pass r a b c d e six =
    rw (six.unfailed, six.answers, six.nothing_ahead, six.ended, six.version, six.asks) refl

-- a count that the test says has not risen did not rise
not_risen : (before after : ℕ) → has_risen before after ≡ false → ¬ (Rose before after)
not_risen before after test = λ rose.
    by (ltb before after) (ltb after last_count) refl refl test rose
  where
    by : (a b : Bool) → ltb before after ≡ a → ltb after last_count ≡ b → (a || not b) ≡ false
        → Rose before after → ⊥
    by true b is fits test rose = cc
    by false false is fits test rose = cc
    by false true is fits test rose =
        true≢false (sym (lt-ltb before after (rose (ltb-true after last_count fits))) ∙ is)

-- and the other way round
none_risen : (before after : ℕ) → ¬ (Rose before after) → has_risen before after ≡ false
none_risen before after still = by (ltb before after) (ltb after last_count) refl refl
  where
    by : (a b : Bool) → ltb before after ≡ a → ltb after last_count ≡ b → (a || not b) ≡ false
    by true b is fits = absurd (still (λ few. ltb-true before after is))
    by false false is fits =
        absurd (still (λ few. absurd (true≢false (sym (lt-ltb after last_count few) ∙ fits))))
    by false true is fits = refl

-- what is known of a finished exchange says exactly whether its client may ask for more
reusable : {L : Type 0} {f : Filtering} (x : HookedExchange L) (o : Origin) (p : Passed)
    (link : LinkState) (start : LinkStart) (order : exchange.IsInOrder f o p link.ended)
    (first : ℕ) (w : World) (keeps : Bool)
    → x.down.inner.session.writing.request ≡ request_of o.head
    → Leaves f o p link start order w.ahead x.down.inner.session keeps
    → IsTrue (client_reusable x w.ahead first w.client.faults)
    ↔ IsClientReusable o p link.ended order first w
reusable x o p link start order first w keeps answers leaves = (
  λ passes. by_tests (six_pass risen closing none done is_11 asks (sym tests ∙ passes)),
  λ may. tests ∙ all_pass risen closing none done is_11 asks (record {
    unfailed = none_risen first w.client.faults may.unfailed;
    answers = leaves.closes ∙ may.answers;
    nothing_ahead = ap (λ (bytes : List ℕ). length bytes == 0) may.nothing_ahead;
    ended = leaves.ended.1 may.ended;
    version = ap is_http_11 may.version;
    asks = may.asks;
  }),
)
  where
    risen : Bool
    risen = has_risen first w.client.faults

    closing : Bool
    closing = x.down.inner.session.writing.closes

    none : Bool
    none = length w.ahead == 0

    done : Bool
    done = is_body_done x.down.inner.session.reading

    is_11 : Bool
    is_11 = is_http_11 o.head.version

    asks : Bool
    asks = closes o.head.fields

    tests : client_reusable x w.ahead first w.client.faults
        ≡ (not risen && ((not closing && none) && (done && (is_11 && not asks))))
    tests = ap (λ (r : Request). not risen && ((not closing && none) && (done && lets_ask r)))
        answers

    by_tests : SixPass risen closing none done is_11 asks
        → IsClientReusable o p link.ended order first w
    by_tests six = record {
      version = version_11 o.head.version six.version;
      asks = six.asks;
      answers = sym leaves.closes ∙ six.answers;
      ended = leaves.ended.0 six.ended;
      nothing_ahead = nil_from_length w.ahead (eqb-true (length w.ahead) 0 six.nothing_ahead);
      unfailed = not_risen first w.client.faults six.unfailed;
    }

-- ---- what calls of filters keep

module _ {L : Type 0} (state : L → LinkState) (start_at : L → LinkStart) where
  -- the session of an exchange that is under way has a head
  pub under_head : (o : Origin) (p : Passed) (client : LinkState) (ahead : List ℕ)
      (log : List LogEntry) (x : HookedExchange L)
      → IsUnderWay state start_at o p client ahead log x
      → IsSome (head_of x.down.inner.session.reading)
  under_head o p client ahead log x under =
      let h = under.holds.so_far.down.passed in
      let side : IsSide o (inside under.down h.came h.queued) client ahead x.down.inner.session
      x.down.inner.told x.down.inner.done x.down.inner.finished x.down.inner.broken =
      subst (λ (lost : Bool). PastOf lost (PastBy o client ahead x.down.inner)
      x.down.inner.session (inside under.down h.came h.queued)) under.alive h.holds in
      side.passed.client.has_head

  -- no filter stopped its side
  pub under_goes_on : (o : Origin) (p : Passed) (client : LinkState) (ahead : List ℕ)
      (log : List LogEntry) (x : HookedExchange L)
      → IsUnderWay state start_at o p client ahead log x → x.down.stopped ≡ None
  under_goes_on o p client ahead log x under =
      unstopped x.down.stopped under.alive
      (under.holds.so_far.down.quiet.none under.untold).1

module _ {L : Type 0} (state : L → LinkState) (start_at : L → LinkStart)
    (log es log' : List LogEntry) (more : log' ≡ log ++ es) (plain : All IsFilterCall es)
  where
    -- the client's link tells what passed, and the connector's count stands where it stood
    tells_client : (s : Start) (head sent : RequestHead) (reused : Bool) (began : List LogEntry)
        (p q : Passed) (w : World) (client peer : LinkState) (start : LinkStart) (ahead : List ℕ)
        → TellsClient (opened_to s log) p w
        → AreTold state start_at (origin_at (opened_to s log) head sent reused began) q client peer
        start
        → TellsClient (opened_to s log') q (world_with client ahead w.connect_faults)
    tells_client s head sent reused began p q w client peer start ahead tells told = record {
      came = told.came;
      written = told.written;
      faults = told.faults;
      connect_faults = tells.connect_faults;
      fault_lists = told.client_tells;
    }

    -- the attempt's link tells what passed, and the lease still says what it was
    leased : (s : Start) (head sent : RequestHead) (began : List LogEntry) (p q : Passed)
        (client old peer : LinkState) (old_start start : LinkStart) (lease : Lease)
        → IsLeased (opened_to s log) p old old_start lease
        → AreTold state start_at (origin_at (opened_to s log) head sent lease.reused began) q client
        peer start
        → IsLeased (opened_to s log') q peer start lease
    leased s head sent began p q client old peer old_start start lease was told = record {
      tells = record { got = told.got; sent = told.sent; faults = told.peer_faults };
      peer = named_past log es log' more plain lease.peer was.peer;
      recorded = named_past log es log' more plain lease.recorded was.recorded;
      reused = told.reused;
      tries = tries_past log es log' more plain s (tries_in lease) was.tries;
    }

    -- its calls stand in the log, behind those before and these
    stands_on : (o : Origin) (p : Passed) (client : LinkState) (ahead : List ℕ)
        (x : HookedExchange L) → HasFiltered o.called
        → IsUnderWay state start_at o p client ahead log x
        → StandsIn log' o.called (calls_behind o.called log')
    stands_on o p client ahead x at_sent under =
        let h = under.holds.so_far.down.passed in
        stands_behind log' o.called (h.own ++ es) at_sent
        (more ∙ ap (λ (l : List LogEntry). l ++ es) h.parts ∙ append_assoc o.called h.own es)

-- ---- how an exchange ends

module _ {L : Type 0} (state : L → LinkState) (start_at : L → LinkStart) (s : Start) (p : Passed)
    (w : World) (log began : List LogEntry) (head sent : RequestHead) (x : HookedExchange L)
    (relayable : IsRelayable head) (sends : Sends log head sent)
    (stands : StandsIn log began (calls_behind began log)) (calm : w.client.faults ≡ s.faults)
    (speaks : SpeaksBytes (start_at (link_of x)))
  where
    -- where it began
    abbrev there : Origin
    there = origin_at (opened_to s log) head sent (start_at (link_of x)).reused began

    -- a finished exchange relayed its request whole
    relayed_whole : x.down.at_first ≡ false
        → IsFinished state start_at there p w.ahead log x
        → IsRelayedWhole (opened_to s log) p w (state (link_of x)) (start_at (link_of x))
        (may_keep x) (client_reusable x w.ahead s.first w.client.faults)
    relayed_whole first finished = record {
      head = head;
      sent = sent;
      relayable = relayable;
      sends = sends;
      f = filtering_of there log x.down;
      began = began;
      stands = stands;
      relayed = finished.relayed;
      speaks = speaks;
      unshort = λ agrees neutral short. never_ends_short there p (filtering_of there log x.down)
          (state (link_of x)).ended finished.relayed.order agrees neutral short;
      calm = calm;
      kept = finished.leaves.serves;
      faultless = finished.leaves.faultless;
      keeps = finished.keeps first;
      goes_back = reusable x there p (state (link_of x)) (start_at (link_of x))
          finished.relayed.order s.first w (may_keep x) finished.answers finished.leaves;
      behind = λ ended. finished.leaves.behind (finished.leaves.ended.1 ended);
    }

    -- one whose response was over early relayed it so far
    relayed_early : x.down.at_first ≡ false
        → IsOverEarly state start_at there p w.ahead log x
        → IsRelayedEarly (opened_to s log) p w (state (link_of x)) (start_at (link_of x))
        (may_keep x) (client_reusable x w.ahead s.first w.client.faults)
    relayed_early first over = record {
      head = head;
      sent = sent;
      relayable = relayable;
      sends = sends;
      f = filtering_of there log x.down;
      began = began;
      stands = stands;
      early = over.early;
      speaks = speaks;
      calm = calm;
      kept = over.leaves.serves;
      read_whole = over.leaves.read_whole;
      faultless = over.leaves.faultless;
      keeps = over.keeps first;
      goes_back = reusable x there p (state (link_of x)) (start_at (link_of x)) over.early.order
          s.first w (may_keep x) over.answers over.leaves;
      behind = λ ended. over.leaves.behind (over.leaves.ended.1 ended);
    }

-- ---- a turn

-- a turn that failed with an error lost nothing
pub not_lost : (stopped : Option Fail) (e : Error)
    → (is_lost stopped ≡ true
    → step.Failed (fail.Error e) ≡ step.Failed fail.OutOfMemory) → is_lost stopped ≡ false
not_lost stopped e lost = elim (decide (is_lost stopped)) [
  | inl gone ↦ (let wrong = lost gone in absurd (apart wrong))
  | inr kept ↦ kept
]
  where
    apart : step.Failed (fail.Error e) ≡ step.Failed fail.OutOfMemory → ⊥
    apart same = cc

-- why one failed
pub same_reason : (why : Fail) → step.Failed why ≡ step.Failed fail.OutOfMemory
    → why ≡ fail.OutOfMemory
same_reason why same = cc

module _ {L C : Type 0} (state : L → LinkState) (start_at : L → LinkStart)
    (log es log' : List LogEntry) (more : log' ≡ log ++ es) (plain : All IsFilterCall es)
    (s : Start) (p : Passed) (v : World) (client : LinkState) (ahead : List ℕ)
    (a : Box (Attempt L C)) (x : HookedExchange L) (context : C)
    (run : RunSoFar state start_at (opened_to s log) p v [] (Relay a))
    (begun_so : start_at (link_of x) ≡ start_at (link_of a.value.exchange))
  where
    -- where its exchange began
    abbrev origin : Origin
    origin = origin_at (opened_to s log) run.holds.head run.holds.sent a.value.lease.reused
        run.holds.began

    -- the world behind it
    abbrev now : World
    now = world_with client ahead v.connect_faults

    -- the head is sent, and the calls stand in the log
    sends_now : Sends log' run.holds.head run.holds.sent
    sends_now = sends_past log es log' more plain run.holds.sends

    stands_now : StandsIn log' run.holds.began (calls_behind run.holds.began log')
    stands_now = stands_on state start_at log es log' more plain origin p v.client v.ahead
        a.value.exchange run.holds.at_sent run.holds.under_way

    -- its link carries bytes still
    speaks_now : SpeaksBytes (start_at (link_of x))
    speaks_now = ap (λ (b : LinkStart). b.kind) begun_so ∙ run.holds.speaks

    -- the session that it leaves has the client's head, as hooks leave it
    abbrev LeavesHead : Type 0
    LeavesHead = head_of a.value.exchange.down.inner.session.reading
        ≡ Some (head_behind run.holds.head log)
        → IsSome (head_of x.down.inner.session.reading)
        → head_of x.down.inner.session.reading ≡ Some (head_behind run.holds.head log')

    -- the exchange goes on, and so does the attempt
    going_on : (q : Passed)
        → AreTold state start_at origin q client (state (link_of x)) (start_at (link_of x))
        → IsUnderWay state start_at origin q client ahead log' x → client.faults ≡ s.faults
        → x.down.at_first ≡ a.value.exchange.down.at_first → LeavesHead
        → RunSoFar {C = C} state start_at (opened_to s log') q now [] (Relay (turned a x context))
    going_on q told under calm first leads = record {
      tells = tells_client state start_at log es log' more plain s run.holds.head run.holds.sent
          a.value.lease.reused run.holds.began p q v client _ _ ahead run.tells told;
      order = IsInOrder.is_exchange None (filtering_of origin log' x.down) run.holds.began
          run.holds.head run.holds.sent a.value.lease.reused _ run.holds.relayable sends_now
          stands_now under.order;
      untouched = λ open_head.
          absurd (exchange_open None (filtering_of origin log' x.down) (opened_to s log') q
          run.holds.head run.holds.sent a.value.lease.reused run.holds.began _ under.order
          open_head);
      going = tt;
      calm = calm;
      holds = record {
        leased = leased state start_at log es log' more plain s run.holds.head run.holds.sent
            run.holds.began p q client _ _ _ _ a.value.lease run.holds.leased told;
        head = run.holds.head;
        sent = run.holds.sent;
        relayable = run.holds.relayable;
        sends = sends_now;
        speaks = speaks_now;
        began = run.holds.began;
        at_sent = run.holds.at_sent;
        under_way = under;
        at_first = first ∙ run.holds.at_first;
        is_left = leads run.holds.is_left
            (under_head state start_at origin q client ahead log' x under);
        quiet = quiet_past log es log' more plain run.holds.quiet;
      };
    }

    -- a turn that moved
    moves : Turns state start_at origin client ahead log' x step.Moved
        → client.faults ≡ v.client.faults → x.down.at_first ≡ a.value.exchange.down.at_first
        → LeavesHead
        → Advances {C = C} state start_at (opened_to s log') now (Relay (turned a x context))
    moves turns calm first leads = record {
      passed = turns.passed;
      run = going_on turns.passed turns.told turns.comes_to (calm ∙ run.calm) first leads;
    }

    -- a turn that waited
    waits : (pause : Pause) → Turns state start_at origin client ahead log' x (step.Waited pause)
        → client.faults ≡ v.client.faults → x.down.at_first ≡ a.value.exchange.down.at_first
        → LeavesHead
        → Advances {C = C} state start_at (opened_to s log') now (Relay (turned a x context))
    waits pause turns calm first leads = record {
      passed = turns.passed;
      run = going_on turns.passed turns.told turns.comes_to (calm ∙ run.calm) first leads;
    }

    -- the exchange is over, and its link is to be handed back
    closing : (q : Passed) (keep : Bool) (outcome : Outcome)
        → AreTold state start_at origin q client (state (link_of x)) (start_at (link_of x))
        → IsInOrder (opened_to s log') q → ¬ (IsOpen (asked s q)) → outcome ≢ TurnLimit
        → EndsLinked (opened_to s log') q now (state (link_of x)) (start_at (link_of x)) keep
        (error_of outcome) outcome
        → RunSoFar {C = C} state start_at (opened_to s log') q now []
        (Close (link_of x) a.value.lease keep outcome)
    closing q keep outcome told order ended_head going ends = record {
      tells = tells_client state start_at log es log' more plain s run.holds.head run.holds.sent
          a.value.lease.reused run.holds.began p q v client _ _ ahead run.tells told;
      order = order;
      untouched = λ open_head. absurd (ended_head open_head);
      going = going;
      calm = tt;
      holds = (
        leased state start_at log es log' more plain s run.holds.head run.holds.sent
            run.holds.began p q client _ _ _ _ a.value.lease run.holds.leased told,
        ends,
      );
    }

    -- a turn that finished the exchange
    finishes : Turns state start_at origin client ahead log' x step.Finished
        → client.faults ≡ v.client.faults → x.down.at_first ≡ a.value.exchange.down.at_first
        → Advances {C = C} state start_at (opened_to s log') now
        (Close (link_of x) a.value.lease (may_keep x)
        (Served None (client_reusable x ahead s.first client.faults)))
    finishes turns calm first =
        let head = run.holds.head in
        let sent = run.holds.sent in
        let began = run.holds.began in
        let told = turns.told in
        let both = subst
        (λ (reused : Bool). IsFinished state start_at
        (origin_at (opened_to s log') head sent reused began) turns.passed ahead log' x
        ⊎ IsOverEarly state start_at (origin_at (opened_to s log') head sent reused began)
        turns.passed ahead log' x)
        (sym told.reused) turns.comes_to in
        elim both as (λ _. Advances {C = C} state start_at (opened_to s log') now
        (Close (link_of x) a.value.lease (may_keep x)
        (Served None (client_reusable x ahead s.first client.faults)))) [
          | inl finished ↦ record {
            passed = turns.passed;
            run = closing turns.passed _ _ told
                (IsInOrder.is_exchange None (filtering_of origin log' x.down) began head sent _ _
                run.holds.relayable sends_now stands_now finished.relayed.order)
                (λ open_head. exchange_open None (filtering_of origin log' x.down)
                (opened_to s log') turns.passed head sent _ began _ finished.relayed.order
                open_head)
                (λ same. cc)
                (inl (relayed_whole state start_at s turns.passed now log' began head sent x
                run.holds.relayable sends_now stands_now (calm ∙ run.calm)
                speaks_now (first ∙ run.holds.at_first) finished));
          }
          | inr over ↦ record {
            passed = turns.passed;
            run = closing turns.passed _ _ told
                (IsInOrder.is_exchange None (filtering_of origin log' x.down) began head sent _ _
                run.holds.relayable sends_now stands_now over.early.order)
                (λ open_head. exchange_open None (filtering_of origin log' x.down)
                (opened_to s log') turns.passed head sent _ began _ over.early.order open_head)
                (λ same. cc)
                (inr (relayed_early state start_at s turns.passed now log' began head sent x
                run.holds.relayable sends_now stands_now (calm ∙ run.calm) speaks_now
                (first ∙ run.holds.at_first) over));
          }
        ]

    -- what a turn that failed left
    record LeavesOff (why : Fail) : Type 0 where
      passed : Passed
      tells : TellsClient (opened_to s log') passed now
      held : IsLeased (opened_to s log') passed (state (link_of x)) (start_at (link_of x))
          a.value.lease
      left : LeavesBy (opened_to s log') passed client ahead (state (link_of x))
          (start_at (link_of x)) x.down.inner.session why

    -- what an exchange that failed with an error leaves
    fails_with : (q : Passed) (e : Error) → (start_at (link_of x)).reused ≡ a.value.lease.reused
        → FailsWith (filtering_of origin log' x.down) origin q client (state (link_of x))
        (start_at (link_of x)) ahead x.down.inner.session e
        → LeavesHead
        → LeavesSession (opened_to s log') q client ahead (state (link_of x))
        (start_at (link_of x)) x.down.inner.session e
    fails_with q e reused fails leads =
        let o : Bool → Origin = λ r.
        origin_at (opened_to s log') run.holds.head run.holds.sent r run.holds.began in
        let own = subst (λ (r : Bool). FailsWith (filtering_of (o r) log' x.down) (o r) q client
        (state (link_of x)) (start_at (link_of x)) ahead x.down.inner.session e) (sym reused)
        fails in
        let here = o (start_at (link_of x)).reused in
        record {
          head = run.holds.head;
          sent = run.holds.sent;
          relayable = run.holds.relayable;
          sends = sends_now;
          before = q.written;
          f = filtering_of here log' x.down;
          began = run.holds.began;
          stands = stands_now;
          why = own.why;
          speaks = speaks_now;
          answers = own.answers;
          holds = own.holds;
          broken = λ fault is.
              let fails = own.broken fault is in
              record {
                fault = fault;
                kind = fails.1.kind;
                rose = fails.0;
                among = fails.1.among;
              };
          is_left = leads run.holds.is_left own.client.has_head;
          quiet = quiet_past log es log' more plain run.holds.quiet;
          again = λ queue is begun.
              begins_any (rebased_to here client) q.came client ahead
              (written_out x.down.inner.session) here.sent here.reused []
              (subst (λ (came : List ℕ). BeginsBehind (rebased_to here client) came client ahead
              (written_out x.down.inner.session)) own.came
              (begins_out here own.down client ahead x.down.inner.session own.client queue is
              begun));
        }

    -- a turn that failed
    fails : (why : Fail) → Turns state start_at origin client ahead log' x (step.Failed why)
        → (is_lost x.down.stopped ≡ false → LeavesHead) → LeavesOff why
    fails why turns leads = record {
      passed = turns.passed;
      tells = tells_client state start_at log es log' more plain s run.holds.head run.holds.sent
          a.value.lease.reused run.holds.began p turns.passed v client _ _ ahead run.tells
          turns.told;
      held = leased state start_at log es log' more plain s run.holds.head run.holds.sent
          run.holds.began p turns.passed client _ _ _ _ a.value.lease run.holds.leased turns.told;
      left = by why turns.comes_to turns.lost;
    }
      where
        part : (refused : Option Error)
            → exchange.IsInOrderWith refused (filtering_of origin log' x.down) origin turns.passed
            (state (link_of x)).ended
            → IsPartRelayed (opened_to s log') turns.passed (state (link_of x))
            (start_at (link_of x))
        part refused order =
            part_relayed (opened_to s log') turns.passed run.holds.head run.holds.sent
            a.value.lease.reused _ _ refused (filtering_of origin log' x.down) run.holds.began
            run.holds.relayable sends_now speaks_now turns.told.reused stands_now order

        by : (f : Fail) → ComesTo state start_at origin turns.passed client ahead log' x
            (step.Failed f)
            → (is_lost x.down.stopped ≡ true → step.Failed f ≡ step.Failed fail.OutOfMemory)
            → LeavesBy (opened_to s log') turns.passed client ahead (state (link_of x))
            (start_at (link_of x)) x.down.inner.session f
        by fail.OutOfMemory (inl order) lost = part None order
        by fail.OutOfMemory (inr order) lost = part (Some order.0) order.3
        by (fail.Error e) fails lost =
            fails_with turns.passed e turns.told.reused fails
            (leads (not_lost x.down.stopped e lost))

-- ---- what was moved, whatever was called

module _ {L : Type 0} (state : L → LinkState) (log log' : List LogEntry) (same : log' ≡ log)
    (old new : HookedExchange L)
  where
    -- where no entry is new nothing that moves between both sides depends on the log
    moves_inside : (b : Branch) → MovesInside b (core_in log old) (core_in log' new)
        → MovesInside b (core_in [] old) (core_in [] new)
    moves_inside branch.UpWrite moves = moves
    moves_inside branch.DownWrite moves = moves
    moves_inside branch.UpTake moves = moves
    moves_inside branch.DownTake moves = moves
    moves_inside branch.DownDrop moves = moves
    moves_inside branch.DownEnd moves = moves
    moves_inside branch.DownClosed moves = moves
    moves_inside branch.UpRead moves = moves
    moves_inside branch.DownRead (inl gains) = inl gains
    moves_inside branch.DownRead (inr called) =
        absurd (omega (
          arith,
          called,
          ap (λ (l : List LogEntry). length (pieces_in l)) same,
        ))
    moves_inside branch.UpFinish moves = moves
    moves_inside branch.DownFinish moves = moves
    moves_inside branch.MessageUp moves = moves
    moves_inside branch.MessageDown moves = moves

    -- so neither does what was moved
    moved_alike : (branch : Option Branch) (before after : LinkState)
        → exchange_meets.HasMoved state branch before after log log' old new
        → exchange_meets.HasMoved state branch before after [] [] old new
    moved_alike None before after moved = moved
    moved_alike (Some b) before after (inl asks) = inl asks
    moved_alike (Some b) before after (inr between) =
        inr (record { unasked = between.unasked; moves = moves_inside b between.moves })

-- which branches can be taken does not depend on the log
enabled_alike : {L : Type 0} (log : List LogEntry) (x : HookedExchange L) (b : Branch)
    → enabled (core_in [] x) b ≡ enabled (core_in log x) b
enabled_alike log x branch.UpWrite = refl
enabled_alike log x branch.DownWrite = refl
enabled_alike log x branch.UpTake = refl
enabled_alike log x branch.DownTake = refl
enabled_alike log x branch.DownDrop = refl
enabled_alike log x branch.DownEnd = refl
enabled_alike log x branch.DownClosed = refl
enabled_alike log x branch.UpRead = refl
enabled_alike log x branch.DownRead = refl
enabled_alike log x branch.UpFinish = refl
enabled_alike log x branch.DownFinish = refl
enabled_alike log x branch.MessageUp = refl
enabled_alike log x branch.MessageDown = refl

-- so silence does not
silent_alike : {L : Type 0} (log : List LogEntry) (x : HookedExchange L) (at : Stage)
    (client link : LinkState) → over.SilentIn at (core_in log x) client link
    → over.SilentIn at (core_in [] x) client link
silent_alike log x flows.Head client link silent = silent
silent_alike log x flows.Bodies client link silent = λ b on.
    silent b (sym (enabled_alike log x b) ∙ on)

-- a log that has these entries more has none, or it grew
none_or_grew : (log es log' : List LogEntry) → log' ≡ log ++ es
    → (log' ≡ log) ⊎ (length log < length log')
none_or_grew log [] log' more = inl (more ∙ append-nil log)
none_or_grew log (e ∷ es) log' more =
    inr (omega (
      arith,
      ap (λ (l : List LogEntry). length l) more,
      length-append log (e ∷ es),
    ))

-- ---- a turn of a phase that relays

-- one attempt is held
same_attempt : {L C : Type 0} (a b : Box (Attempt L C)) → Relay a ≡ Relay b → a ≡ b
same_attempt a b same = cc

-- a phase that relays holds one attempt, so what is shown of it is shown of the attempt
pub of_attempt : {L C : Type 0} (P : Box (Attempt L C) → Type 0) (phase : Phase L C)
    (own : Box (Attempt L C)) → phase ≡ Relay own → P own
    → (a : Box (Attempt L C)) → phase ≡ Relay a → P a
of_attempt P phase own is holds a same =
    subst P (same_attempt own a (sym is ∙ same)) holds

module _ {L C : Type 0} (state : L → LinkState) (start_at : L → LinkStart)
    (w x : World) (log log' : List LogEntry) (phase next : Phase L C) (did : Turn) (asked : Bool)
    (within : TurnsWithin state start_at w.client x.client w.ahead x.ahead log log' phase next did
    asked)
  where
    -- the attempt behind the turn
    abbrev left : Box (Attempt L C)
    left = turned within.attempt within.exchange within.context

    -- what is shown of both attempts is shown of both phases
    of_both : (P : Phase L C → Phase L C → Type 0)
        → P (Relay within.attempt) (Relay left) → P phase next
    of_both P holds =
        subst (λ (k : Phase L C). P k next) (sym within.was)
        (subst (λ (k : Phase L C). P (Relay within.attempt) k) (sym within.stands) holds)

    -- an exchange under way is that of the attempt
    own_under : (s : Origin) (p : Passed) (a : Box (Attempt L C)) → phase ≡ Relay a
        → IsUnderWay state start_at s p w.client w.ahead log a.value.exchange
        → IsUnderWay state start_at s p w.client w.ahead log within.attempt.value.exchange
    own_under s p a is under =
        subst (λ (b : Box (Attempt L C)).
        IsUnderWay state start_at s p w.client w.ahead log b.value.exchange)
        (sym (same_attempt within.attempt a (sym within.was ∙ is))) under

    -- what a turn that moved moved, where no entry is new
    pub moved_by : log' ≡ log → did.step ≡ step.Moved → (a : Box (Attempt L C)) → phase ≡ Relay a
        → ExchangeMoved {C = C} state start_at did.branch log w x a.value.exchange next
    moved_by same did_move a is = record {
      held = left;
      goes_on = within.stands;
      moved = λ s p under. subst
          (λ (b : Box (Attempt L C)). exchange_meets.HasMoved state did.branch w.client
          x.client [] [] b.value.exchange within.exchange)
          (same_attempt within.attempt a (sym within.was ∙ is))
          (moved_alike state log log' same within.attempt.value.exchange within.exchange did.branch
          w.client x.client (within.turns.moves s p (own_under s p a is under) did_move));
    }

    -- it is the cause of the turn, or the log grew
    pub moved_cause : (es : List LogEntry) → log' ≡ log ++ es → did.step ≡ step.Moved
        → HasMoved {C = C} state start_at log w x phase next ⊎ (length log < length log')
    moved_cause es more did_move = elim (none_or_grew log es log' more) [
      | inl same ↦ inl (subst (λ (k : Phase L C). HasMoved {C = C} state start_at log w x k next)
          (sym within.was) (inl (did.branch, moved_by same did_move within.attempt within.was)))
      | inr grew ↦ inr grew
    ]

    -- and so it is with its work
    pub moved_work : (work : Work) (es : List LogEntry) → log' ≡ log ++ es
        → work ≡ work_by did.branch asked → did.step ≡ step.Moved → (a : Box (Attempt L C))
        → phase ≡ Relay a
        → MovedBy {C = C} state start_at log w x work a.value.exchange next
        ⊎ (OwesAnswer next ⊎ (length log < length log'))
    moved_work work es more counted did_move a is = elim (none_or_grew log es log' more) [
      | inl same ↦ inl (record {
        branch = did.branch;
        moved = moved_by same did_move a is;
        asked = asked;
        counted = counted;
      })
      | inr grew ↦ inr (inr grew)
    ]

    -- one that failed and owes its client an answer
    pub failed_cause : (end : Phase L C) → OwesAnswer end
        → HasMoved {C = C} state start_at log w x phase end
    failed_cause end owes =
        subst (λ (k : Phase L C). HasMoved {C = C} state start_at log w x k end) (sym within.was)
        (inr owes)

    -- the uses of a turn, where the link stands so behind it
    uses_at : (n : ℕ) (end : Phase L C)
        → held_state state end ≡ Some (state (link_of within.exchange))
        → BothUse n w.client x.client (state (link_of within.attempt.value.exchange))
        (state (link_of within.exchange))
        → TurnUses n w.client x.client (held_state state phase)
        (λ link. held_state state end ≡ Some link)
    uses_at n end held uses =
        subst (λ (k : Phase L C). TurnUses n w.client x.client (held_state state k)
        (λ link. held_state state end ≡ Some link)) (sym within.was)
        (state (link_of within.exchange), held, uses)

    -- the next phase holds the link
    next_held : held_state state next ≡ Some (state (link_of within.exchange))
    next_held = ap (λ (k : Phase L C). held_state state k) within.stands

    -- how both links were asked, by the answer
    asked_so : (to : Step) → did.step ≡ to
        → core_uses.Asks to w.client x.client (state (link_of within.attempt.value.exchange))
        (state (link_of within.exchange))
    asked_so to is =
        subst (λ (d : Step). core_uses.Asks d w.client x.client
        (state (link_of within.attempt.value.exchange)) (state (link_of within.exchange))) is
        within.turns.asks

    -- the link of the next phase was asked as often as the exchange's
    next_asked : (k : ℕ) → LinkUses state start_at k (link_of within.exchange)
        → PhaseUses state start_at k [] next
    next_asked k asked =
        subst (λ (n : Phase L C). PhaseUses state start_at k [] n) (sym within.stands) asked

    -- what a turn counted, where the link was asked so often behind it
    counts_at : (u : ℕ) (end : Phase L C)
        → ((k : ℕ) → LinkUses state start_at k (link_of within.exchange)
        → PhaseUses state start_at k [] end)
        → BothUse u w.client x.client (state (link_of within.attempt.value.exchange))
        (state (link_of within.exchange))
        → (a : Box (Attempt L C)) (n : ℕ) → phase ≡ Relay a
        → LinkUses state start_at n (link_of a.value.exchange)
        → TurnCounts state start_at n w.client x.client u [] end
    counts_at u end lands uses a n is asked =
        let own : LinkUses state start_at n (link_of within.attempt.value.exchange) =
        subst (λ (b : Box (Attempt L C)). LinkUses state start_at n (link_of b.value.exchange))
        (sym (same_attempt within.attempt a (sym within.was ∙ is))) asked in
        let both = both_counts n u w.client x.client
        (state (link_of within.attempt.value.exchange)) (state (link_of within.exchange))
        (start_at (link_of within.attempt.value.exchange)).used uses own in
        record {
          of_client = both.of_client;
          of_own = both.of_own;
          client_rose = both.client_rose;
          own_rose = lands (both.of_own + n) (both.own_rose
              ∙ ap (λ (b : LinkStart). ups (both.of_own + n) b.used) (sym within.turns.same_start));
          all = both.all;
        }

    -- the uses of a turn that moved
    moved_both : did.step ≡ step.Moved → (s : Origin) (p : Passed) (a : Box (Attempt L C))
        → phase ≡ Relay a → IsUnderWay state start_at s p w.client w.ahead log a.value.exchange
        → BothUse (work_by did.branch asked).used w.client x.client
        (state (link_of within.attempt.value.exchange)) (state (link_of within.exchange))
    moved_both did_move s p a is under =
        moved_uses w.client x.client (state (link_of within.attempt.value.exchange))
        (state (link_of within.exchange)) asked within.turns.measured did.branch _ _
        (within.turns.moves s p (own_under s p a is under) did_move)

    pub moved_uses_within : did.step ≡ step.Moved → (s : Origin) (p : Passed)
        (a : Box (Attempt L C)) → phase ≡ Relay a
        → IsUnderWay state start_at s p w.client w.ahead log a.value.exchange
        → TurnUses (work_by did.branch asked).used w.client x.client (held_state state phase)
        (λ link. held_state state next ≡ Some link)
    moved_uses_within did_move s p a is under =
        uses_at (work_by did.branch asked).used next next_held (moved_both did_move s p a is under)

    pub moved_counts_within : did.step ≡ step.Moved → (s : Origin) (p : Passed)
        (a : Box (Attempt L C)) (n : ℕ) → phase ≡ Relay a
        → IsUnderWay state start_at s p w.client w.ahead log a.value.exchange
        → LinkUses state start_at n (link_of a.value.exchange)
        → TurnCounts state start_at n w.client x.client (work_by did.branch asked).used [] next
    moved_counts_within did_move s p a n is under had =
        counts_at (work_by did.branch asked).used next next_asked
        (moved_both did_move s p a is under) a n is had

    -- one that waits asked the link that it waits for
    waited_both : did.step ≡ step.Waited NotReady
        → BothUse 1 w.client x.client (state (link_of within.attempt.value.exchange))
        (state (link_of within.exchange))
    waited_both is = inl (refl, asked_so (step.Waited NotReady) is)

    pub waited_uses_within : did.step ≡ step.Waited NotReady
        → TurnUses 1 w.client x.client (held_state state phase)
        (λ link. held_state state next ≡ Some link)
    waited_uses_within is = uses_at 1 next next_held (waited_both is)

    pub waited_counts_within : did.step ≡ step.Waited NotReady
        → (a : Box (Attempt L C)) (n : ℕ) → phase ≡ Relay a
        → LinkUses state start_at n (link_of a.value.exchange)
        → TurnCounts state start_at n w.client x.client 1 [] next
    waited_counts_within is = counts_at 1 next next_asked (waited_both is)

    -- one that met silence asked none
    silent_both : did.step ≡ step.Waited Silent
        → BothUse 0 w.client x.client (state (link_of within.attempt.value.exchange))
        (state (link_of within.exchange))
    silent_both is = inr (refl, asked_so (step.Waited Silent) is)

    pub silent_uses_within : did.step ≡ step.Waited Silent
        → TurnUses 0 w.client x.client (held_state state phase)
        (λ link. held_state state next ≡ Some link)
    silent_uses_within is = uses_at 0 next next_held (silent_both is)

    pub silent_counts_within : did.step ≡ step.Waited Silent
        → (a : Box (Attempt L C)) (n : ℕ) → phase ≡ Relay a
        → LinkUses state start_at n (link_of a.value.exchange)
        → TurnCounts state start_at n w.client x.client 0 [] next
    silent_counts_within is = counts_at 0 next next_asked (silent_both is)

    -- the link of an attempt that is to be closed was asked as often as the exchange's
    end_asked : (end : Phase L C) (lease : Lease) (keep : Bool) (outcome : Outcome)
        → end ≡ Close (link_of within.exchange) lease keep outcome
        → (k : ℕ) → LinkUses state start_at k (link_of within.exchange)
        → PhaseUses state start_at k [] end
    end_asked end lease keep outcome is k had =
        subst (λ (n : Phase L C). PhaseUses state start_at k [] n) (sym is) had

    -- one that finished asked none
    finished_both : did.step ≡ step.Finished
        → BothUse 0 w.client x.client (state (link_of within.attempt.value.exchange))
        (state (link_of within.exchange))
    finished_both is = inr (refl, asked_so step.Finished is)

    pub finished_uses_within : (first : ℕ) → did.step ≡ step.Finished → (end : Phase L C)
        → ((a : Box (Attempt L C)) → next ≡ Relay a
        → end ≡ Close (link_of a.value.exchange) a.value.lease (may_keep a.value.exchange)
        (Served None (client_reusable a.value.exchange x.ahead first x.client.faults)))
        → TurnUses 0 w.client x.client (held_state state phase)
        (λ link. held_state state end ≡ Some link)
    finished_uses_within first is end closes =
        uses_at 0 end (ap (λ (k : Phase L C). held_state state k)
        (closes left within.stands)) (finished_both is)

    pub finished_counts_within : (first : ℕ) → did.step ≡ step.Finished → (end : Phase L C)
        → ((a : Box (Attempt L C)) → next ≡ Relay a
        → end ≡ Close (link_of a.value.exchange) a.value.lease (may_keep a.value.exchange)
        (Served None (client_reusable a.value.exchange x.ahead first x.client.faults)))
        → (a : Box (Attempt L C)) (n : ℕ) → phase ≡ Relay a
        → LinkUses state start_at n (link_of a.value.exchange)
        → TurnCounts state start_at n w.client x.client 0 [] end
    finished_counts_within first is end closes =
        counts_at 0 end (end_asked end _ _ _
        (closes left within.stands)) (finished_both is)

    -- one that failed asked one or none
    failed_both : (why : Fail) → did.step ≡ step.Failed why
        → BothUse (if asked then 1 else 0) w.client x.client
        (state (link_of within.attempt.value.exchange)) (state (link_of within.exchange))
    failed_both why is =
        turned_uses w.client x.client (state (link_of within.attempt.value.exchange))
        (state (link_of within.exchange)) asked within.turns.measured
        (asked_so (step.Failed why) is)

    pub failed_uses_within : (why : Fail) → did.step ≡ step.Failed why → (end : Phase L C)
        → ((a : Box (Attempt L C)) → next ≡ Relay a
        → held_state state end ≡ Some (state (link_of a.value.exchange)))
        → TurnUses (if asked then 1 else 0) w.client x.client (held_state state phase)
        (λ link. held_state state end ≡ Some link)
    failed_uses_within why is end held =
        uses_at (if asked then 1 else 0) end
        (held left within.stands) (failed_both why is)

    pub failed_counts_within : (why : Fail) → did.step ≡ step.Failed why → (end : Phase L C)
        → ((a : Box (Attempt L C)) (n : ℕ) → next ≡ Relay a
        → LinkUses state start_at n (link_of a.value.exchange)
        → PhaseUses state start_at n [] end)
        → (a : Box (Attempt L C)) (n : ℕ) → phase ≡ Relay a
        → LinkUses state start_at n (link_of a.value.exchange)
        → TurnCounts state start_at n w.client x.client (if asked then 1 else 0) [] end
    failed_counts_within why is end last =
        counts_at (if asked then 1 else 0) end
        (λ k had. last left k within.stands had)
        (failed_both why is)

    -- a turn that waited waits because a link answered so
    pub waited_cause : did.step ≡ step.Waited NotReady
        → HasWaited {C = C} state start_at w x phase next
    waited_cause is =
        of_both (λ (k n : Phase L C). HasWaited {C = C} state start_at w x k n)
        (by (within.turns.waits is))
      where
        by : WaitRose w.client x.client (state (link_of within.attempt.value.exchange))
            (state (link_of within.exchange))
            → HasWaited {C = C} state start_at w x (Relay within.attempt)
            (Relay left)
        by (inl rose) = inl rose
        by (inr rose) = inr rose

    -- in silence all that can be done asks a silent link
    pub silent_cause : did.step ≡ step.Waited Silent
        → MeetsSilence {C = C} state start_at w x phase next
    silent_cause is =
        let meets = within.turns.quiet is in
        of_both (λ (k n : Phase L C). MeetsSilence {C = C} state start_at w x k n) (record {
          stalled = silent_alike log' within.exchange within.exchange.exchange.stage x.client
              (state (link_of within.exchange)) meets.silent;
          client_same = meets.client_same;
          held_same = ap Some meets.peer_same;
        })

-- ---- the run and the calls behind a turn

-- the entries that a turn added, each a call of a filter
abbrev pub Enters : List LogEntry → List LogEntry → Type 0
Enters log log' = (es : List LogEntry) × (log' ≡ log ++ es) × All IsFilterCall es

-- those of a walk
pub entries_of : (allows : Standing → LogEntry → Type 0) (was lost : Bool) (old new : Seen)
    (mark mark' : ℕ) → Walks allows was lost old mark new mark' → Enters old.log new.log
entries_of allows false false old new mark mark' w = (w.es, w.log, w.plain)
entries_of allows false true old new mark mark' w = (w.es, w.log, w.plain)
entries_of allows true false old new mark mark' w = absurd w
entries_of allows true true old new mark mark' w =
    ([], w ∙ sym (append-nil old.log), All-nil IsFilterCall)

-- where no hook wanted memory they lead on
alive_walks : (allows : Standing → LogEntry → Type 0) (was lost : Bool) (old new : Seen)
    (mark mark' : ℕ) → was ≡ false → lost ≡ false → Walks allows was lost old mark new mark'
    → WalksTo allows old mark new mark'
alive_walks allows false false old new mark mark' none still w = w
alive_walks allows false true old new mark mark' none still w = absurd (true≢false still)
alive_walks allows true lost old new mark mark' none still w = absurd (true≢false none)

module _ {L C M K : Type 0} (state : L → LinkState) (start_at : L → LinkStart)
    (allows : Standing → LogEntry → Type 0) (mark_of : C → ℕ) (w x : World)
    (calls mid : Calls M K C) (phase next : Phase L C) (did : Turn) (asked : Bool)
    (within : TurnsWithin state start_at w.client x.client w.ahead x.ahead (log_of calls)
    (log_of mid) phase next did asked)
    (enters : (a b : Box (Attempt L C)) → phase ≡ Relay a → next ≡ Relay b
    → EntersCalls allows mark_of (is_lost a.value.exchange.down.stopped)
    (is_lost b.value.exchange.down.stopped) calls a.value.exchange.down.inner.session
    a.value.context mid b.value.exchange.down.inner.session b.value.context)
  where
    -- the attempt before the turn, and behind it
    abbrev own : Attempt L C
    own = within.attempt.value

    abbrev after : Attempt L C
    after = (turned within.attempt within.exchange within.context).value

    -- the calls that its exchange entered
    entered : EntersCalls allows mark_of (is_lost own.exchange.down.stopped)
        (is_lost after.exchange.down.stopped) calls own.exchange.down.inner.session own.context mid
        after.exchange.down.inner.session after.context
    entered =
        enters within.attempt (turned within.attempt within.exchange within.context) within.was
        within.stands

    -- all of them are of filters
    pub entries : Enters (log_of calls) (log_of mid)
    entries =
        entries_of allows (is_lost own.exchange.down.stopped)
        (is_lost after.exchange.down.stopped)
        (seen_with calls own.exchange.down.inner.session)
        (seen_with mid after.exchange.down.inner.session) (mark_of own.context)
        (mark_of after.context) entered.walks

    -- the calls before it
    own_so_far : CallsSoFar allows mark_of calls phase → IsRelayingCalls allows mark_of calls own
    own_so_far so_far =
        subst (λ (k : Phase L C). CallsSoFar allows mark_of calls k) within.was so_far

    -- and the run, of an open request
    own_run : (s : Start) (p : Passed) → IsRelayingCalls allows mark_of calls own
        → RunSoFar state start_at (called_to s (log_of calls)) p w [] phase
        → RunSoFar state start_at (opened_to s (log_of calls)) p w [] (Relay within.attempt)
    own_run s p so_far run =
        subst (λ (k : Phase L C). RunSoFar state start_at (opened_to s (log_of calls)) p w [] k)
        within.was
        (subst (λ (o : Start). RunSoFar state start_at o p w [] phase)
        (still_open s (log_of calls) so_far.unended) run)

    -- behind it the request is open still
    run_on : (s : Start) (end : Phase L C) → IsRelayingCalls allows mark_of calls own
        → Advances {C = C} state start_at (opened_to s (log_of mid))
        (world_with x.client x.ahead w.connect_faults) end
        → x.connect_faults ≡ w.connect_faults
        → Advances {C = C} state start_at (called_to s (log_of mid)) x end
    run_on s end so_far on same =
        subst (λ (o : Start). Advances {C = C} state start_at o x end)
        (sym (open_past (log_of calls) entries.0 (log_of mid) entries.1 entries.2 s
        so_far.unended))
        (subst (λ (n : ℕ). Advances {C = C} state start_at (opened_to s (log_of mid))
        (world_with x.client x.ahead n) end) (sym same) on)

    -- the exchange took a turn
    module _ (s : Start) (p : Passed)
        (run : RunSoFar state start_at (opened_to s (log_of calls)) p w [] (Relay within.attempt))
        (so_far : IsRelayingCalls allows mark_of calls own)
      where
        -- where it began
        abbrev began_at : Origin
        began_at = origin_at (opened_to s (log_of calls)) run.holds.head run.holds.sent
            own.lease.reused run.holds.began

        own_turn : (to : Step) → did.step ≡ to
            → Turns state start_at began_at x.client x.ahead (log_of mid) within.exchange to
        own_turn to is =
            subst (λ (d : Step). Turns state start_at began_at x.client x.ahead (log_of mid)
            within.exchange d) is (within.turns.goes began_at p run.holds.under_way)

        -- its session has the client's head, as hooks leave it
        leads_head : is_lost after.exchange.down.stopped ≡ false
            → head_of own.exchange.down.inner.session.reading
            ≡ Some (head_behind run.holds.head (log_of calls))
            → IsSome (head_of after.exchange.down.inner.session.reading)
            → head_of after.exchange.down.inner.session.reading
            ≡ Some (head_behind run.holds.head (log_of mid))
        leads_head alive was some =
            let to = alive_walks allows (is_lost own.exchange.down.stopped)
            (is_lost after.exchange.down.stopped)
            (seen_with calls own.exchange.down.inner.session)
            (seen_with mid after.exchange.down.inner.session) (mark_of own.context)
            (mark_of after.context) so_far.alive alive entered.walks in
            head_past (log_of calls) to.es (log_of mid) to.log to.plain allows
            (seen_with calls own.exchange.down.inner.session)
            (seen_with mid after.exchange.down.inner.session) (mark_of own.context)
            (mark_of after.context) to.walk run.holds.head was some

        -- its calls stand in order
        own_calls : (to : Step) → did.step ≡ to → IsTurnedCalls allows mark_of mid after
        own_calls to is =
            let h = run.holds.under_way.holds.so_far.down.passed in
            turned_calls allows mark_of calls mid own after run.holds.began (h.own ++ entries.0)
            (entries.1 ∙ ap (λ (l : List LogEntry). l ++ entries.0) h.parts
            ∙ append_assoc run.holds.began h.own entries.0) run.holds.at_sent.order
            (own_turn to is).calls entered so_far

        -- a turn that goes on
        goes_on : Advances {C = C} state start_at (opened_to s (log_of mid))
            (world_with x.client x.ahead w.connect_faults)
            (Relay (turned within.attempt within.exchange within.context))
            → x.connect_faults ≡ w.connect_faults
            → Advances {C = C} state start_at (called_to s (log_of mid)) x next
        goes_on on same =
            subst
            (λ (k : Phase L C). Advances {C = C} state start_at (called_to s (log_of mid)) x k)
            (sym within.stands)
            (run_on s (Relay (turned within.attempt within.exchange within.context)) so_far on same)

        own_moved : did.step ≡ step.Moved → x.connect_faults ≡ w.connect_faults
            → Advances {C = C} state start_at (called_to s (log_of mid)) x next
        own_moved is same =
            let turns = own_turn step.Moved is in
            goes_on (moves state start_at (log_of calls) entries.0 (log_of mid) entries.1 entries.2
            s p w x.client x.ahead within.attempt within.exchange within.context run
            within.turns.same_start turns
            (within.turns.calm (ap says_failed is)) within.turns.same_first
            (leads_head turns.comes_to.alive)) same

        own_waited : (pause : Pause) → did.step ≡ step.Waited pause
            → x.connect_faults ≡ w.connect_faults
            → Advances {C = C} state start_at (called_to s (log_of mid)) x next
        own_waited pause is same =
            let turns = own_turn (step.Waited pause) is in
            goes_on (waits state start_at (log_of calls) entries.0 (log_of mid) entries.1 entries.2
            s p w x.client x.ahead within.attempt within.exchange within.context run
            within.turns.same_start pause turns
            (within.turns.calm (ap says_failed is)) within.turns.same_first
            (leads_head turns.comes_to.alive)) same

        own_finished : did.step ≡ step.Finished → x.connect_faults ≡ w.connect_faults
            → Advances {C = C} state start_at (called_to s (log_of mid)) x
            (Close (link_of within.exchange) own.lease (may_keep within.exchange)
            (Served None (client_reusable within.exchange x.ahead s.first x.client.faults)))
        own_finished is same =
            run_on s _ so_far
            (finishes state start_at (log_of calls) entries.0 (log_of mid) entries.1 entries.2 s
            p w x.client x.ahead within.attempt within.exchange within.context run
            within.turns.same_start (own_turn step.Finished is)
            (within.turns.calm (ap says_failed is)) within.turns.same_first) same

        own_left : (why : Fail) → did.step ≡ step.Failed why
            → LeavesOff state start_at (log_of calls) entries.0 (log_of mid) entries.1 entries.2 s
            p w x.client x.ahead within.attempt within.exchange within.context run
            within.turns.same_start why
        own_left why is =
            fails state start_at (log_of calls) entries.0 (log_of mid) entries.1 entries.2 s
            p w x.client x.ahead within.attempt within.exchange within.context run
            within.turns.same_start why (own_turn (step.Failed why) is) leads_head

        -- one that goes on leaves calls that do
        own_going : (to : Step) (is : did.step ≡ to)
            → IsUnderWay state start_at began_at (own_turn to is).passed x.client x.ahead
            (log_of mid) within.exchange → CallsSoFar allows mark_of mid next
        own_going to is under =
            subst (λ (k : Phase L C). CallsSoFar allows mark_of mid k) (sym within.stands)
            (going_calls allows mark_of mid after (own_calls to is)
            (under_goes_on state start_at began_at _ x.client x.ahead (log_of mid) within.exchange
            under))

        -- one that finished was not stopped
        own_unstopped : did.step ≡ step.Finished → after.exchange.down.stopped ≡ None
        own_unstopped is = elim (own_turn step.Finished is).comes_to [
          | inl finished ↦ finished.goes_on
          | inr over ↦ over.goes_on
        ]

    -- what is counted of an open request is counted of one by its log
    pub bounds_on : (end : Phase L C) (s : Start) (tasks ends more_tasks more_ends : ℕ)
        → CallsSoFar allows mark_of calls phase
        → (PhaseCounts state start_at tasks ends (opened_to s (log_of calls)) w.client w.ahead []
        phase
        → TurnedCounts state start_at more_tasks more_ends (opened_to s (log_of mid)) x.client
        x.ahead [] end)
        → PhaseCounts state start_at tasks ends (called_to s (log_of calls)) w.client w.ahead []
        phase
        → TurnedCounts state start_at more_tasks more_ends (called_to s (log_of mid)) x.client
        x.ahead [] end
    bounds_on end s tasks ends more_tasks more_ends so_far turn had =
        let r = own_so_far so_far in
        subst (λ (o : Start). TurnedCounts state start_at more_tasks more_ends o x.client x.ahead []
        end)
        (sym (open_past (log_of calls) entries.0 (log_of mid) entries.1 entries.2 s r.unended))
        (turn
        (subst (λ (o : Start). PhaseCounts state start_at tasks ends o w.client w.ahead [] phase)
        (still_open s (log_of calls) r.unended) had))

    -- a turn that moved
    pub moved_within : did.step ≡ step.Moved → x.connect_faults ≡ w.connect_faults → (s : Start)
        (p : Passed) → CallsSoFar allows mark_of calls phase
        → RunSoFar state start_at (called_to s (log_of calls)) p w [] phase
        → Advances {C = C} state start_at (called_to s (log_of mid)) x next
    moved_within is same s p so_far run =
        let r = own_so_far so_far in own_moved s p (own_run s p r run) r is same

    pub moved_calls : did.step ≡ step.Moved → (s : Start) (p : Passed)
        → CallsSoFar allows mark_of calls phase
        → RunSoFar state start_at (called_to s (log_of calls)) p w [] phase
        → CallsSoFar allows mark_of mid next
    moved_calls is s p so_far run =
        let r = own_so_far so_far in
        let o = own_run s p r run in
        own_going s p o r step.Moved is (own_turn s p o r step.Moved is).comes_to

    -- a turn that waited
    pub waited_within : (pause : Pause) → did.step ≡ step.Waited pause
        → x.connect_faults ≡ w.connect_faults → (s : Start) (p : Passed)
        → CallsSoFar allows mark_of calls phase
        → RunSoFar state start_at (called_to s (log_of calls)) p w [] phase
        → Advances {C = C} state start_at (called_to s (log_of mid)) x next
    waited_within pause is same s p so_far run =
        let r = own_so_far so_far in own_waited s p (own_run s p r run) r pause is same

    pub waited_calls : (pause : Pause) → did.step ≡ step.Waited pause → (s : Start) (p : Passed)
        → CallsSoFar allows mark_of calls phase
        → RunSoFar state start_at (called_to s (log_of calls)) p w [] phase
        → CallsSoFar allows mark_of mid next
    waited_calls pause is s p so_far run =
        let r = own_so_far so_far in
        let o = own_run s p r run in
        own_going s p o r (step.Waited pause) is (own_turn s p o r (step.Waited pause) is).comes_to

    -- a turn that finished the exchange, whose attempt is then to be closed
    pub finished_within : (first : ℕ) → did.step ≡ step.Finished
        → x.connect_faults ≡ w.connect_faults → (end : Phase L C)
        → ((a : Box (Attempt L C)) → next ≡ Relay a
        → end ≡ Close (link_of a.value.exchange) a.value.lease (may_keep a.value.exchange)
        (Served None (client_reusable a.value.exchange x.ahead first x.client.faults)))
        → (s : Start) (p : Passed) → s.first ≡ first → CallsSoFar allows mark_of calls phase
        → RunSoFar state start_at (called_to s (log_of calls)) p w [] phase
        → Advances {C = C} state start_at (called_to s (log_of mid)) x end
    finished_within first is same end closes s p began so_far run =
        let r = own_so_far so_far in
        let closed : ℕ → Phase L C = λ begun.
        Close (link_of within.exchange) own.lease (may_keep within.exchange)
        (Served None (client_reusable within.exchange x.ahead begun x.client.faults)) in
        subst (λ (k : Phase L C). Advances {C = C} state start_at (called_to s (log_of mid)) x k)
        (sym (closes (turned within.attempt within.exchange within.context) within.stands))
        (subst (λ (n : ℕ). Advances {C = C} state start_at (called_to s (log_of mid)) x (closed n))
        began (own_finished s p (own_run s p r run) r is same))

    pub finished_calls : (first : ℕ) → did.step ≡ step.Finished → (new : Calls M K C)
        (end : Phase L C)
        → ((a : Box (Attempt L C)) → next ≡ Relay a
        → end ≡ Close (link_of a.value.exchange) a.value.lease (may_keep a.value.exchange)
        (Served None (client_reusable a.value.exchange x.ahead first x.client.faults)))
        → ((a : Box (Attempt L C)) → next ≡ Relay a
        → new ≡ closed_with (record mid { at = at.Closing a.value.context (begun None) })
        a.value.exchange.down.inner.session None)
        → (s : Start) (p : Passed) → CallsSoFar allows mark_of calls phase
        → RunSoFar state start_at (called_to s (log_of calls)) p w [] phase
        → CallsSoFar allows mark_of new end
    finished_calls first is new end closes calls_are s p so_far run =
        let r = own_so_far so_far in
        let o = own_run s p r run in
        let there = turned within.attempt within.exchange within.context in
        let reuse = client_reusable within.exchange x.ahead first x.client.faults in
        subst (λ (k : Phase L C). CallsSoFar allows mark_of new k)
        (sym (closes there within.stands))
        (finished_come allows mark_of mid new after (Served None reuse) (record {
          calls = calls_are there within.stands;
          reuse = reuse;
          served = refl;
        }) (own_calls s p o r step.Finished is) (own_unstopped s p o r is))

    -- a turn that failed, and what follows
    pub failed_within : (why : Fail) → did.step ≡ step.Failed why
        → x.connect_faults ≡ w.connect_faults → (end : Phase L C)
        → ((a : Box (Attempt L C)) (s : Start) (p : Passed) (z : World) → next ≡ Relay a
        → TellsClient s p z
        → IsLeased s p (state (link_of a.value.exchange)) (start_at (link_of a.value.exchange))
        a.value.lease
        → LeavesBy s p z.client z.ahead (state (link_of a.value.exchange))
        (start_at (link_of a.value.exchange)) a.value.exchange.down.inner.session why
        → Advances {C = C} state start_at s z end)
        → (s : Start) (p : Passed) → CallsSoFar allows mark_of calls phase
        → RunSoFar state start_at (called_to s (log_of calls)) p w [] phase
        → Advances {C = C} state start_at (called_to s (log_of mid)) x end
    failed_within why is same end follows s p so_far run =
        let r = own_so_far so_far in
        let left = own_left s p (own_run s p r run) r why is in
        run_on s end r
        (follows (turned within.attempt within.exchange within.context)
        (opened_to s (log_of mid)) left.passed (world_with x.client x.ahead w.connect_faults)
        within.stands left.tells left.held left.left) same

    pub failed_calls : (why : Fail) → did.step ≡ step.Failed why → (end : Phase L C)
        → ((b : Box (Attempt L C)) → next ≡ Relay b
        → BreaksOff b.value.context b.value.exchange.down.inner.session end)
        → (why ≡ fail.OutOfMemory → is_over end ≡ true)
        → (s : Start) (p : Passed) → CallsSoFar allows mark_of calls phase
        → RunSoFar state start_at (called_to s (log_of calls)) p w [] phase
        → CallsSoFar allows mark_of mid end
    failed_calls why is end off ends s p so_far run =
        let r = own_so_far so_far in
        let o = own_run s p r run in
        off_calls allows mark_of mid after end
        (off (turned within.attempt within.exchange within.context) within.stands)
        (own_calls s p o r (step.Failed why) is)
        (λ lost. ends (same_reason why ((own_turn s p o r (step.Failed why) is).lost lost)))

module _ {L C : Type 0} (state : L → LinkState) (start_at : L → LinkStart) where
  -- a turn of the exchange, as the pointer of its attempt lends it, is one of the phase
  pub lent_turn : (before after : LinkState) (ahead left : List ℕ) (log log' : List LogEntry)
      (a : Box (Attempt L C)) (given now : Attempt L C) (phase next : Phase L C) (did : Turn)
      (asked : Bool) → phase ≡ Relay a → given ≡ a.value → next ≡ Relay (with_value a now)
      → now.lease ≡ given.lease
      → TurnsOver state start_at before after ahead left log log' given.exchange now.exchange did
      asked
      → TurnsWithin {C = C} state start_at before after ahead left log log' phase next did asked
  lent_turn before after ahead left log log' a given now phase next did asked was same stands kept
      turns = record {
        attempt = a;
        was = was;
        exchange = now.exchange;
        context = now.context;
        stands = stands
            ∙ ap (λ (l : Lease). Relay (with_value a
            (record { exchange = now.exchange; lease = l; context = now.context })))
            (kept ∙ ap (λ (b : Attempt L C). b.lease) same);
        turns = subst
            (λ (b : Attempt L C). TurnsOver state start_at before after ahead left log log'
            b.exchange now.exchange did asked) same turns;
      }

-- what is shown of an attempt that is lent, and of what it is given back as, is shown of those of
-- the phases
pub lent_both : {L C : Type 0} (P : Attempt L C → Attempt L C → Type 0) (a : Box (Attempt L C))
    (given now : Attempt L C) (phase next : Phase L C) → phase ≡ Relay a → given ≡ a.value
    → next ≡ Relay (with_value a now) → P given now → (b c : Box (Attempt L C))
    → phase ≡ Relay b → next ≡ Relay c → P b.value c.value
lent_both P a given now phase next was same stands holds b c is is' =
    subst (λ (k : Box (Attempt _ _)). P b.value k.value)
    (same_attempt (with_value a now) c (sym stands ∙ is'))
    (subst (λ (k : Box (Attempt _ _)). P k.value now) (same_attempt a b (sym was ∙ is))
    (subst (λ (k : Attempt _ _). P k now) same holds))

-- what is counted of calls of filters: none, behind those that stood there
pub grows_by : {M K X : Type 0} (old new : Calls M K X) (work : Work) → work.called ≡ 0
    → Enters (log_of old) (log_of new) → GrowsCalls old new work
grows_by old new work none (es, more, plain) = record {
  counted = omega (
    arith,
    none,
    ap (λ (l : List LogEntry). length l) more,
    length-append (log_of old) es,
  );
  grows = front_past (log_of old) es (log_of new) more plain;
}

-- and the purger is asked nothing by them
pub unpurged_by : (log log' : List LogEntry) → Enters log log' → purges_in log' ≡ purges_in log
unpurged_by log log' (es, more, plain) = purges_past log es log' more plain
