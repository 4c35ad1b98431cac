-- Turns of the connector that gave no link: another attempt follows, or the client is to be
-- answered.
use Rattle.std.proofs.Common.{◌≡◌, ◌≢◌, ◌⊎◌, ℕ, ◌≤◌, Bool, false, List, [], ◌∷◌, ◌++◌, length, drop, append-nil, Option, Some, refl, sym, ap, subst, ◌∙◌, inl, inr, arith}
use Rattle.std.proofs.lemmas.List.{drop_at}
use Rattle.std.specs.Global.{Box}
use Rattle.relay_tasks.specs.Error.{error_of_fault, may_retry}
use Rattle.relay_tasks.specs.declared.Error.{Error}
use Rattle.relay_tasks.specs.declared.error.ErrorSource.TheVariants.{Upstream}
use Rattle.relay_tasks.specs.declared.Fault.{Fault}
use Rattle.relay_tasks.specs.declared.Peer.{Peer}
use Rattle.relay_tasks.specs.declared.hook.Hook.TheVariants as hook
use Rattle.relay_tasks.specs.declared.log.Item.TheVariants as item
use Rattle.relay_tasks.specs.declared.log.LogEntry.{LogEntry}
use Rattle.relay_tasks.specs.Head.{RequestHead}
use Rattle.relay_connector.specs.Connector.{IsConnectFault}
use Rattle.relay_connector.specs.Upstream.{SpeaksBytes}
use Rattle.relay_links.specs.Count.{last_count, Rose}
use Rattle.relay_links.specs.Link.{LinkState, LinkStart}
use Rattle.relay_core.specs.Past.{Origin}
use Rattle.relay_session.specs.declared.session.HttpSession.{HttpSession}
use Rattle.relay_hooks.specs.Call.{only}
use Rattle.relay_hooks.specs.Standing.{Standing}
use Rattle.relay_phases.specs.Order.{Station}
use Rattle.relay_trying.specs.Trying.{CallsHook}
use Rattle.relay_attempt.specs.Passed.{Passed}
use Rattle.relay_hooked.specs.Calls.{Filtering, calls_behind}
use Rattle.relay_hooked.specs.Exchange.{IsUnderWay}
use Rattle.relay_hooked.specs.Head.{filtering_of}
use Rattle.relay_hooked.specs.Order as exchange
use Rattle.relay_hooked.specs.declared.exchange.HookedExchange.{HookedExchange}
use Rattle.relay_request.specs.Calls.{log_of, seen_with}
use Rattle.relay_request.specs.Relayable.{IsRelayable}
use Rattle.relay_request.specs.Sent.{Sends}
use Rattle.relay_request.specs.Endings.{IsInOrder, IsPartRelayed}
use Rattle.relay_request.specs.Named.{IsNamed}
use Rattle.relay_request.specs.Tries.{AreTries, IsRaised, MayTry, Refusal, fault_error, record_of, refusals_in, unlinked_record, upstream_error}
use Rattle.relay_request.specs.Passed.{World, Start, HasFiltered, StandsIn, opened_to, origin_at, origin_of, TellsClient}
use Rattle.relay_request.specs.Phases.{IsConnecting, LacksLink, RunSoFar}
use Rattle.relay_request.specs.Turn.{Advances, HasCause, world_with}
use Rattle.relay_request.specs.Uses.{OwesAnswer}
use Rattle.relay_request.specs.declared.calls.Calls.{Calls}
use Rattle.relay_request.specs.declared.machine.Phase.{Phase}
use Rattle.relay_request.specs.declared.machine.RunStep.{RunStep}
use Rattle.relay_request.specs.declared.machine.RunStep.TheVariants as step
use Rattle.relay_request.specs.declared.machine.Phase.TheVariants.{Connect, Unlinked, Ended}
use Rattle.relay_request.specs.declared.record.AttemptRecord.{AttemptRecord}
use Rattle.relay_request.specs.declared.outcome.Outcome.TheVariants as outcome
use Rattle.relay_request.proofs.NamedLemmas.{refusals_one}
use Rattle.relay_turns.proofs.OpenSteps.{begins_on, called_accepted, called_tells, called_tries, stays_with}
use Rattle.relay_peer.proofs.FaultLemmas.{grew_same}
use Rattle.relay_turns.proofs.Tells.{Rose-le, client_still}
use Rattle.relay_turns.proofs.TryLemmas.{last_one, may_or_not, one_more, raised_so, recorded_so, refused_last}

-- out of memory is no limit of turns
pub no_limit : outcome.OutOfMemory ≢ outcome.TurnLimit
no_limit limit = cc

-- what the client's link tells stands where the connector gave none
unconnected_tells : (s : Start) (p : Passed) (w : World) (failed : ℕ)
    → w.connect_faults ≤ last_count → Rose w.connect_faults failed → TellsClient s p w
    → TellsClient s p (world_with w.client w.ahead failed)
unconnected_tells s p w failed fits rose tells =
    client_still s p w (world_with w.client w.ahead failed)
    (Rose-le w.connect_faults failed fits rose) refl refl (omega arith)
    (grew_same w.client w.client refl) tells

-- the calls behind those with which a log began stand in it
pub stands_behind : (called began own : List LogEntry) → HasFiltered began → called ≡ began ++ own
    → StandsIn called began (calls_behind began called)
stands_behind called began own at_sent parts = record {
  at_sent = at_sent;
  after = [];
  treats = refl;
  called_are = parts
      ∙ ap (λ (es : List LogEntry). began ++ es) (sym (append-nil (drop (length began) called)
      ∙ ap (λ (l : List LogEntry). drop (length began) l) parts
      ∙ drop_at began own (length began) refl));
}

-- those of an exchange under way stand in its log
pub relaying_stands : {L : Type 0} (state : L → LinkState) (start_at : L → LinkStart) (o : Origin)
    (p : Passed) (client : LinkState) (ahead : List ℕ) (log : List LogEntry) (x : HookedExchange L)
    → HasFiltered o.called → IsUnderWay state start_at o p client ahead log x
    → StandsIn log o.called (filtering_of o log x.down).calls
relaying_stands state start_at o p client ahead log x at_sent under =
    stands_behind log o.called under.holds.so_far.down.passed.own at_sent
    under.holds.so_far.down.passed.parts

-- what passed of an exchange by these calls, by the mark of its link
pub part_relayed : (s : Start) (p : Passed) (head sent : RequestHead) (reused : Bool)
    (link : LinkState) (start : LinkStart) (refused : Option Error) (f : Filtering)
    (began : List LogEntry) → IsRelayable head → Sends s.called head sent
    → SpeaksBytes start → start.reused ≡ reused → StandsIn s.called began f.calls
    → exchange.IsInOrderWith refused f (origin_at s head sent reused began) p link.ended
    → IsPartRelayed s p link start
part_relayed s p head sent reused link start refused f began relayable sends speaks same stands
    order =
    record {
      head = head;
      sent = sent;
      relayable = relayable;
      sends = sends;
      f = f;
      began = began;
      stands = stands;
      refused = refused;
      order = subst (λ (r : Bool). exchange.IsInOrderWith refused f (origin_at s head sent r began)
          p link.ended) (sym same) order;
      speaks = speaks;
    }

module _ {L C : Type 0} (state : L → LinkState) (start_at : L → LinkStart) where
  -- memory was wanted before the connector was asked
  pub not_asked : (s : Start) (p : Passed) (w : World) (context : C) (session : Box HttpSession)
      (tries attempts : List AttemptRecord) → attempts ≡ tries
      → RunSoFar {C = C} state start_at s p w [] (Connect context session tries)
      → Advances {C = C} state start_at s w (Ended outcome.OutOfMemory attempts)
  not_asked s p w context session tries attempts same run = record {
    passed = p;
    run = record {
      tells = run.tells;
      order = run.order;
      untouched = run.untouched;
      going = no_limit;
      calm = tt;
      holds = (
        run.holds.unsent,
        inl (inr (inl (
          subst (λ (xs : List AttemptRecord). AreTries s xs) (sym same) run.holds.are_tries,
          run.holds.written,
        ))),
      );
    };
  }

-- ---- the connector gave no link

module _ {L M K C : Type 0} (state : L → LinkState) (start_at : L → LinkStart) (c d : Calls M K C)
    (s : Start) (p : Passed) (w : World) (failed : ℕ) (context : C) (session : Box HttpSession)
    (tries attempts : List AttemptRecord) (fits : w.connect_faults ≤ last_count)
    (rose : Rose w.connect_faults failed)
    (run : RunSoFar {C = C} state start_at (opened_to s (log_of c)) p w []
    (Connect context session tries))
  where
    -- what the client's link tells, behind more calls
    tells_still : TellsClient (opened_to s (log_of d)) p (world_with w.client w.ahead failed)
    tells_still =
        called_tells s (log_of c) (log_of d) p (world_with w.client w.ahead failed)
        (unconnected_tells (opened_to s (log_of c)) p w failed fits rose run.tells)

    -- memory was wanted as the application was to be told so
    pub not_told : (peer recorded : Peer) (fault : Fault) (e : Error)
        → log_of d ≡ log_of c → IsNamed (log_of c) peer → recorded ≡ peer → IsConnectFault fault
        → e ≡ fault_error Upstream fault
        → attempts ≡ tries ++ unlinked_record recorded fault e ∷ []
        → Advances {C = C} state start_at (opened_to s (log_of d))
        (world_with w.client w.ahead failed) (Ended outcome.OutOfMemory attempts)
    not_told peer recorded fault e log named same kind is are = record {
      passed = p;
      run = record {
        tells = tells_still;
        order = IsInOrder.is_nothing run.holds.written run.holds.unsent.sent;
        untouched = run.untouched;
        going = no_limit;
        calm = tt;
        holds = (
          run.holds.unsent,
          inr (
            record {
              tries = tries;
              are_tries = called_tries s (log_of c) (log_of d) tries
                  (ap (λ (l : List LogEntry). refusals_in l) log) run.holds.are_tries;
              peer = peer;
              named = subst (λ (l : List LogEntry). IsNamed l peer) (sym log) named;
              fault = fault;
              kind = kind;
              attempts_are = are
                  ∙ ap (λ (x : Peer). tries ++ unlinked_record x fault e ∷ []) same
                  ∙ ap (λ (x : Error). tries ++ unlinked_record peer fault x ∷ []) is;
            },
            run.holds.written,
          ),
        );
      };
    }

module _ {L M K C : Type 0} (state : L → LinkState) (start_at : L → LinkStart)
    (allows : Standing → LogEntry → Type 0) (c d : Calls M K C) (mark behind : ℕ)
    (s : Start) (p : Passed) (w : World) (failed most : ℕ) (context : C) (session : Box HttpSession)
    (left : HttpSession) (tries attempts : List AttemptRecord) (from to : Station)
    (peer recorded : Peer) (fault : Fault) (raised treated e : Error)
    (limit : s.most ≡ most) (fits : w.connect_faults ≤ last_count)
    (rose : Rose w.connect_faults failed) (kind : IsConnectFault fault)
    (named : IsNamed (log_of c) peer) (same : recorded ≡ peer) (is : raised ≡ error_of_fault fault)
    (made : e ≡ upstream_error treated)
    (are : attempts ≡ tries ++ unlinked_record recorded fault e ∷ [])
    (t : CallsHook allows hook.FailToConnect (Some peer) false from to (item.Failure raised)
    (only (item.Failure treated)) (seen_with c session.value) mark (seen_with d left) behind)
    (run : RunSoFar {C = C} state start_at (opened_to s (log_of c)) p w []
    (Connect context session tries))
  where
    -- what the call tells of the attempt
    abbrev refusal : Refusal
    refusal = record { peer = peer; raised = raised; treated = treated }

    -- the log tells of one more
    one_refusal : refusals_in (log_of d) ≡ refusals_in (log_of c) ++ refusal ∷ []
    one_refusal =
        ap (λ (l : List LogEntry). refusals_in l) t.turn.calls.log
        ∙ refusals_one (log_of c) t.turn.e peer raised treated named t.turn.hook t.input t.output

    -- and its record is one more
    one_record : attempts ≡ tries ++ record_of refusal ∷ []
    one_record =
        are
        ∙ ap (λ (a : AttemptRecord). tries ++ a ∷ [])
        (recorded_so peer recorded fault raised treated e same kind is made)

    -- the application was told of the connector's fault
    is_raised : IsRaised refusal
    is_raised = raised_so peer fault raised treated kind is

    -- another attempt follows
    pub tried_again : (context' : C) (session' : Box HttpSession) → session'.value ≡ left
        → MayTry most (length attempts) e
        → Advances {C = C} state start_at (opened_to s (log_of d))
        (world_with w.client w.ahead failed) (Connect context' session' attempts)
    tried_again context' session' stays may = record {
      passed = p;
      run = record {
        tells = tells_still state start_at c d s p w failed context session tries attempts fits rose
            run;
        order = IsInOrder.is_nothing run.holds.written run.holds.unsent.sent;
        untouched = run.untouched;
        going = tt;
        calm = run.calm;
        holds = subst (λ (h : HttpSession). IsConnecting (opened_to s (log_of d)) p
            (world_with w.client w.ahead failed) h attempts) (sym stays) (record {
              head = k.head;
              accepted = k.accepted;
              is_left = k.is_left;
              quiet = k.quiet;
              begins = k.begins;
              unread = k.unread;
              written = k.written;
              unsent = k.unsent;
              are_tries = k.are_tries;
            });
      };
    }
      where
        k : IsConnecting (opened_to s (log_of d)) p w left attempts
        k = stays_with allows c d session.value left mark behind hook.FailToConnect from to t.turn
            s p
            w tries attempts
            (one_more s most (log_of c) (log_of d) tries attempts refusal limit one_refusal
            one_record
            run.holds.are_tries (record {
              raised = is_raised;
              again = sym (ap (λ (x : Error). may_retry x.retry) made) ∙ may.0;
            }) may.1) run.holds

    -- or none, and the client is to be answered
    pub not_connected : (context' : C) (session' : Box HttpSession) → session'.value ≡ left
        → (¬ (MayTry most (length attempts) e))
        → Advances {C = C} state start_at (opened_to s (log_of d))
        (world_with w.client w.ahead failed) (Unlinked context' session' attempts e)
    not_connected context' session' stays over = record {
      passed = p;
      run = record {
        tells = tells_still state start_at c d s p w failed context session tries attempts fits rose
            run;
        order = IsInOrder.is_nothing run.holds.written run.holds.unsent.sent;
        untouched = run.untouched;
        going = tt;
        calm = run.calm;
        holds = subst (λ (h : HttpSession). LacksLink (opened_to s (log_of d)) p
            (world_with w.client w.ahead failed) h attempts e) (sym stays) (record {
              unconnected = record {
                refused = refused_last (log_of c) (log_of d) refusal e one_refusal is_raised made;
                rose = λ below. omega (arith, run.tells.connect_faults, rose below);
                head = run.holds.head;
                accepted = called_accepted s (log_of c) (log_of d) p run.holds.head
                    run.holds.accepted;
                unsent = run.holds.unsent;
              };
              made = last_one s most (log_of c) (log_of d) tries attempts refusal e limit
                  one_refusal
                  one_record run.holds.are_tries is_raised made over;
              begins = begins_on (origin_of s run.holds.head run.holds.head false) p.came w.client
                  w.ahead
                  (seen_with c session.value) (seen_with d left) t.turn.calls.reads
                  t.turn.queued.same
                  (run.holds.begins run.holds.head false);
              written = run.holds.written;
            });
      };
    }

    -- whichever it is, with more that calls no hook
    pub refused_on : (f : Calls M K C) (context' : C) (session' : Box HttpSession)
        (next : Phase L C) → log_of f ≡ log_of d
        → (MayTry most (length attempts) e → next ≡ Connect context' session' attempts)
        → ((¬ (MayTry most (length attempts) e)) → next ≡ Unlinked context' session' attempts e)
        → session'.value ≡ left
        → Advances {C = C} state start_at (opened_to s (log_of f))
        (world_with w.client w.ahead failed) next
    refused_on f context' session' next log again ends stays =
        subst (λ (l : List LogEntry). Advances {C = C} state start_at (opened_to s l)
        (world_with w.client w.ahead failed) next) (sym log)
        (elim (may_or_not most (length attempts) e) [
          | inl may ↦ subst (λ (n : Phase L C). Advances {C = C} state start_at
              (opened_to s (log_of d)) (world_with w.client w.ahead failed) n) (sym (again may))
              (tried_again context' session' stays may)
          | inr over ↦ subst (λ (n : Phase L C). Advances {C = C} state start_at
              (opened_to s (log_of d)) (world_with w.client w.ahead failed) n) (sym (ends over))
              (not_connected context' session' stays over)
        ])

-- what the turn moved: another attempt follows, or the client is to be answered
pub refused_moved : {L C : Type 0} (state : L → LinkState) (start_at : L → LinkStart)
    (log : List LogEntry) (w x : World) (context context' : C) (session session' : Box HttpSession)
    (tries attempts : List AttemptRecord)
    (a : AttemptRecord) (e : Error) (next : Phase L C) (did : RunStep) → did ≡ step.Moved
    → attempts ≡ tries ++ a ∷ []
    → (next ≡ Connect context' session' attempts) ⊎ (next ≡ Unlinked context' session' attempts e)
    → HasCause state start_at log w x (Connect context session tries) next did
refused_moved {L = L} {C = C} state start_at log w x context context' session session' tries
    attempts a e next did moved are follows =
    subst (λ (k : RunStep). HasCause state start_at log w x (Connect context session tries) next k)
    (sym moved)
    (inr (elim follows [
      | inl is ↦ inl (record {
        context = context';
        session = session';
        attempt = a;
        again = is ∙ ap (λ (xs : List AttemptRecord). Connect context' session' xs) are;
      })
      | inr is ↦ inr (inr (subst (λ (n : Phase L C). OwesAnswer n) (sym is) tt))
    ]))
