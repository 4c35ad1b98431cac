-- Turns over a link that was given: the application is told of it, the head is made, and the
-- attempt's exchange begins.
--
--   linked_on, prepared_on     a hook was called, and the request stands as it stood
--   told_badly                 the application failed as it was told of the link
--   told_unspoken              it let be a link over which nothing is relayed
--   sends_by, refuses_by       what became of the head
--   link_lost .. ahead_broken  an attempt that ends ahead of its exchange
--   begins_by .. lost_first    what begins an exchange: the filters of requests, or none
--   held_calls .. lost_calls   the calls so far then
--   begun .. not_held          its exchange
--   begun_enters .. unbegun_run  what the beginning of one comes to
--   begun_grows, once_grows    what is counted of the calls
use Rattle.std.proofs.Common.{◌≡◌, ℕ, ◌+◌, ◌≤◌, Bool, false, true, List, [], ◌∷◌, ◌++◌, length, length-append, append-nil, append_assoc, Option, Some, None, refl, sym, ap, subst, ◌∙◌, inl, inr, arith, true≢false}
use Rattle.std.proofs.lemmas.List.Elements.{All-nil}
use Rattle.std.specs.Global.{Box}
use Rattle.std.specs.Prelude.{◌⊎◌, All, is_some, IsSome, IsTrue, Result, Ok, Err}
use Rattle.relay_tasks.specs.declared.error.Error.{Error}
use Rattle.relay_tasks.specs.declared.ErrorSource.TheVariants.{Upstream}
use Rattle.relay_tasks.specs.declared.error.Fail.{Fail}
use Rattle.relay_tasks.specs.declared.error.Fail.TheVariants as fail
use Rattle.relay_tasks.specs.declared.Peer.{Peer}
use Rattle.relay_tasks.specs.declared.hook.Hook.{Hook}
use Rattle.relay_tasks.specs.declared.hook.Hook.TheVariants as hook
use Rattle.relay_tasks.specs.declared.log.LogEntry.{LogEntry}
use Rattle.relay_tasks.specs.Hooks.{same_hook}
use Rattle.relay_tasks.specs.Head.{RequestHead}
use Rattle.relay_connector.specs.Upstream.{SpeaksBytes}
use Rattle.relay_links.specs.Link.{LinkState, LinkStart, IsHandedOut}
use Rattle.relay_links.specs.Told.{Since}
use Rattle.relay_links.proofs.SinceLemmas.{Since-start}
use Rattle.relay_h1.specs.Framing.{request_framing}
use Rattle.relay_h1.specs.declared.framing.Framing.{Framing}
use Rattle.relay_authority.specs.Stage.{Makes}
use Rattle.relay_opening.proofs.ToldLemmas.{reads_done, reads_truncated}
use Rattle.relay_session.specs.Front.{ends_with_head}
use Rattle.relay_session.specs.Reading.{head_of, is_body_empty, RequestSoFar}
use Rattle.relay_session.specs.declared.reading.Reading.{Reading}
use Rattle.relay_session.specs.declared.reading.Reading.TheVariants as reading
use Rattle.relay_h1.proofs.VerdictLemmas.{HasRequest-unique}
use Rattle.relay_h1.specs.Verdict.{HasRequest}
use Rattle.relay_session.specs.Response.{has_head}
use Rattle.relay_session.specs.declared.writing.Writing.{Writing}
use Rattle.relay_session.specs.declared.session.HttpSession.{HttpSession}
use Rattle.relay_modules.specs.Module.{ModuleCall}
use Rattle.relay_modules.specs.declared.seen.Seen.{Seen}
use Rattle.relay_modules.specs.declared.session.Session.{Session}
use Rattle.relay_hooks.specs.Session.{moment, request_head}
use Rattle.relay_hooks.specs.Standing.{Standing, standing}
use Rattle.relay_calls.specs.Log.{Walk}
use Rattle.relay_calls.proofs.LogLemmas.{Views-same}
use Rattle.relay_phases.specs.Order.{Accepts, Station}
use Rattle.relay_phases.specs.Order.{Station as station}
use Rattle.relay_phases.specs.Turns.{QueuesNothing, ReadsNothing, Turns}
use Rattle.relay_opening.specs.Told.{head_behind}
use Rattle.relay_purging.specs.Told.{purges_in}
use Rattle.relay_trying.specs.Trying.{FiltersHead, TellsConnected, may_break}
use Rattle.relay_sides.specs.Client.{BeginsBehind}
use Rattle.relay_sides.specs.Lent.{SameButHead}
use Rattle.relay_filters.specs.Hooked.{WalksOut, WalksTo, seen_by, is_lost as lost_by}
use Rattle.relay_filters.specs.Request.{LetsOn, PieceChain, Refused}
use Rattle.relay_filters.specs.Response.{Adds, IsFilterCall}
use Rattle.relay_core.specs.Past.{Origin}
use Rattle.relay_attempt.specs.Passed.{Passed}
use Rattle.relay_hooked.specs.Begins.{CallsOnce, CannotPut, IsUnbegun, kept_piece}
use Rattle.relay_hooked.specs.Exchange.{IsUnderWay}
use Rattle.relay_hooked.specs.Head.{link_of}
use Rattle.relay_hooked.specs.Sides.{PeerHolds}
use Rattle.relay_hooked.specs.Stations.{Relays}
use Rattle.relay_hooked.specs.declared.exchange.HookedExchange.{HookedExchange}
use Rattle.relay_hooked.specs.declared.exchange.Unbegun.{Unbegun}
use Rattle.relay_hooked.proofs.StationLemmas.{from_piece, piece_fails, piece_stays}
use Rattle.relay_request.specs.Calls.{BeginsCalls, BegunBy, CountsCalls, GoesOn, GrowsCalls, IsBreaking, IsLogged, IsOpening, IsSendingCalls, IsUnended, TellsPeer, UnbegunBy, allowed_by, is_before, log_of, seen_with, station_at, treated_at}
use Rattle.relay_request.specs.Named.{IsNamed}
use Rattle.relay_request.specs.Preparing.{FiltersReady, MakesHead, Prepares, Settles, Unprepared}
use Rattle.relay_request.specs.Sent.{FailsAt, Filters, Sends, ends_at, RefusesToSend, SettlesFramed, asked_in, client_in, client_of, unrelayed}
use Rattle.relay_request.specs.Endings.{IsInOrder}
use Rattle.relay_request.specs.Tries.{AreTries, tries_in}
use Rattle.relay_request.specs.Passed.{asked, World, Start, HasFiltered, begins_end, opened_to, origin_at, origin_of, TellsClient, IsUnsent, IsUntouched}
use Rattle.relay_request.specs.Phases.{IsBroken, IsConnecting, IsLeased, IsRelaying, LeavesAhead, RunSoFar}
use Rattle.relay_request.specs.Turn.{Advances}
use Rattle.relay_request.specs.declared.calls.At.{At}
use Rattle.relay_request.specs.declared.calls.At.TheVariants as at
use Rattle.relay_request.specs.declared.calls.Calls.{Calls}
use Rattle.relay_request.specs.declared.machine.Attempt.{Attempt}
use Rattle.relay_request.specs.declared.machine.Lease.{Lease}
use Rattle.relay_request.specs.declared.machine.Phase.{Phase}
use Rattle.relay_request.specs.declared.machine.Phase.TheVariants.{Connect, Prepare, Relay, Close}
use Rattle.relay_request.specs.declared.machine.Phase.TheVariants as phase
use Rattle.relay_request.specs.declared.record.AttemptRecord.{AttemptRecord}
use Rattle.relay_request.specs.declared.outcome.Outcome.TheVariants as outcome
use Rattle.relay_request.specs.declared.work.Work.{Work}
use Rattle.relay_turns.proofs.AgainLemmas.{begins_any}
use Rattle.relay_turns.proofs.ConnectSteps.{no_limit, part_relayed, relaying_stands}
use Rattle.relay_turns.proofs.StandsLemmas.{ends_with}
use Rattle.relay_request.proofs.CallLemmas.{breaks_more, breaks_same, logged_more, logged_same, none_called, one_called, order_more, sending_more, walks_more}
use Rattle.relay_request.proofs.NamedLemmas.{TellsSame, tells_same, tells_still}
use Rattle.relay_turns.proofs.FilterSteps.{head_past, named_past, purge_past, quiet_past, sends_past, tells_past, tries_past}
use Rattle.relay_turns.proofs.OpenHead.{exchange_open}
use Rattle.relay_turns.proofs.OpenSteps.{begins_on, called_accepted, called_tells, called_tries, stays_connecting}
use Rattle.relay_turns.proofs.SentLemmas.{client_is, never_unready}
use Rattle.relay_request.proofs.TreatLemmas.{unended_more, untreated_more}

-- ---- the calls

-- a hook that neither names a peer nor is told of a link that was refused leaves the peer that the
-- log tells, and the attempts
pub peers_stay : {M K X : Type 0} (allows : Standing → LogEntry → Type 0) (c d : Calls M K X)
    (client left : HttpSession) (mark behind : ℕ) (which : Hook) (from to : Station)
    → same_hook hook.UpstreamPeer which ≡ false → same_hook hook.FailToConnect which ≡ false
    → Turns allows which from to QueuesNothing (seen_with c client) mark (seen_with d left) behind
    → TellsSame (log_of c) (log_of d)
peers_stay allows c d client left mark behind which from to names refuses t =
    subst (λ (l : List LogEntry). TellsSame (log_of c) l) (sym t.calls.log)
    (tells_same (log_of c) t.e which t.hook names refuses)

-- a link that was just handed out gave and took nothing since
pub leased_anew : (s : Start) (p : Passed) (link : LinkState) (start : LinkStart) (lease : Lease)
    → IsUnsent p → AreTries s (tries_in lease) → IsHandedOut link start lease.reused
    → IsNamed s.called lease.peer → IsNamed s.called lease.recorded → IsLeased s p link start lease
leased_anew s p link start lease unsent tries handed peer recorded = record {
  tells = record {
    got = rw handed.given (rw unsent.got (Since-start [] link.given));
    sent = rw handed.taken (rw unsent.sent (Since-start [] link.taken));
    faults = omega (arith, handed.faults);
  };
  peer = peer;
  recorded = recorded;
  reused = handed.marked;
  tries = tries;
}

-- it is that of the same peer, once more calls were made that tell the same of attempts
pub leased_on : (s : Start) (these those : List LogEntry) (p : Passed) (link : LinkState)
    (start : LinkStart) (lease : Lease) → TellsSame these those
    → IsLeased (opened_to s these) p link start lease
    → IsLeased (opened_to s those) p link start lease
leased_on s these those p link start lease same leased = record {
  tells = leased.tells;
  peer = same.peers ∙ leased.peer;
  recorded = same.peers ∙ leased.recorded;
  reused = leased.reused;
  tries = called_tries s these those (tries_in lease) same.refusals leased.tries;
}

-- ---- what is made of the head

-- the session says of its body what the framing of its head does
empty_is : (given body ahead : List ℕ) (now : Reading) (head : RequestHead) (framing : Framing)
    (len : ℕ) → HasRequest given head framing len → IsSome (head_of now)
    → RequestSoFar given body ahead now → is_body_empty now ≡ ends_with_head framing
empty_is given body ahead reading.Head head framing len has some so_far = cc
empty_is given body ahead (reading.Body request) head framing len has some so_far =
    ap ends_with_head (HasRequest-unique given so_far.head head request.framing framing so_far.len
    len so_far.has has).1

-- whether the client's body has bytes is what its session says
client_asked : (s : Start) (p : Passed) (w : World) (session : HttpSession)
    (tries : List AttemptRecord) (k : IsConnecting s p w session tries)
    → client_in session ≡ client_of k.head
client_asked s p w session tries k =
    let b = k.begins k.head false in
    let framed : request_framing k.head ≡ Some b.framing =
    subst (λ (h : RequestHead). request_framing h ≡ Some b.framing) b.own b.has.framed in
    client_is k.head b.framing (is_body_empty session.reading) framed
    (empty_is (asked s p) b.body w.ahead session.reading b.head b.framing b.len b.has b.has_head
    b.request)

module _ {M K X : Type 0} (allows : Standing → LogEntry → Type 0) (c d : Calls M K X)
    (client left : HttpSession) (mark behind : ℕ) (s : Start) (p : Passed) (w : World)
    (tries : List AttemptRecord) (k : IsConnecting (opened_to s (log_of c)) p w client tries)
  where
    -- behind a hook that is not told of a link that was refused the request stands as it stood
    abbrev pub stays_on : (which : Hook) (from to : Station)
        → same_hook hook.FailToConnect which ≡ false
        → Turns allows which from to QueuesNothing (seen_with c client) mark (seen_with d left)
        behind
        → IsConnecting (opened_to s (log_of d)) p w left tries
    stays_on which from to other t =
        stays_connecting allows c d client left mark behind which from to t s p w tries other k

    -- the filter was called on the client's head, made ready
    abbrev pub filters_by : (filtered : RequestHead)
        → (f : FiltersReady allows c client mark d left behind filtered)
        → Filters (log_of d) k.head filtered
    filters_by filtered f = record {
      before = log_of c;
      e = f.call.turn.e;
      after = [];
      called_are = f.call.turn.calls.log;
      is_last = refl;
      is_filter = f.call.turn.hook;
      ready = f.ready;
      readies = f.readies (head_behind k.head (log_of c)) k.is_left;
      given = f.call.input;
      left = f.call.output;
      passes = f.call.error;
    }

    -- what it left is settled beside the client's head
    settled_by : (filtered : RequestHead) (answer : Result RequestHead Error)
        → (f : FiltersReady allows c client mark d left behind filtered)
        → Settles left filtered answer
        → SettlesFramed (client_of k.head) (asked_in (filters_by filtered f)) filtered answer
    settled_by filtered answer f settles =
        let on : IsConnecting (opened_to s (log_of d)) p w left tries =
        stays_on hook.UpstreamRequestFilter station.linked station.sent refl f.call.turn in
        subst (λ (h : RequestHead). SettlesFramed (client_of k.head) h filtered answer)
        (ap (λ (l : List LogEntry). head_behind k.head l) f.call.turn.calls.log)
        (subst (λ (x : _). SettlesFramed x (head_behind k.head (log_of d)) filtered answer)
        (client_asked (opened_to s (log_of d)) p w left tries on)
        (settles (head_behind k.head (log_of d)) on.is_left))

    -- so the head is sent of the client's
    pub sends_by : (sent : RequestHead) → Prepares allows c client mark d left behind sent
        → Sends (log_of d) k.head sent
    sends_by sent made = record {
      filtered = made.filtered;
      filters = filters_by made.filtered made.filters;
      settles = settled_by made.filtered (Ok sent) made.filters made.settles;
    }

    -- why it is not, and how the request stands then
    pub record Refuses (start : LinkStart) (e : Error) : Type 0 where
      pub on : IsConnecting (opened_to s (log_of d)) p w left tries
      pub same_peers : TellsSame (log_of c) (log_of d)
      pub why : RefusesToSend (log_of d) start on.head true e

    pub refuses_as : (start : LinkStart) → SpeaksBytes start → (e : Error)
        → Unprepared allows c client mark d left behind e → Refuses start e
    refuses_as start speaks e (Unprepared.unready same stays still readies) =
        absurd (never_unready (head_behind k.head (log_of c)) e
        (readies (head_behind k.head (log_of c)) k.is_left))
    refuses_as start speaks e (Unprepared.unfiltered ready call) =
        record {
          on = stays_on hook.UpstreamRequestFilter station.linked station.broken refl
              call.call.turn;
          same_peers = peers_stay allows c d client left mark behind hook.UpstreamRequestFilter
              station.linked station.broken refl refl call.call.turn;
          why = RefusesToSend.unfiltered speaks (record {
            before = log_of c;
            last = call.call.turn.e;
            after = [];
            treats = refl;
            called_are = call.call.turn.calls.log;
            is_of_it = call.call.turn.hook;
            error = call.call.error;
          }) refl;
        }
    refuses_as start speaks e (Unprepared.unsettled filtered f settles) =
        record {
          on = stays_on hook.UpstreamRequestFilter station.linked station.sent refl f.call.turn;
          same_peers = peers_stay allows c d client left mark behind hook.UpstreamRequestFilter
              station.linked station.sent refl refl f.call.turn;
          why = RefusesToSend.unsettled speaks filtered (filters_by filtered f)
              (settled_by filtered (Err e) f settles) refl;
        }

-- ---- what passed

-- what passed is what the client gave, where nothing was written and no link of an attempt was used
came_alone : (p : Passed) → p.written ≡ [] → IsUnsent p
    → record { came = p.came; written = []; got = []; sent = [] } ≡ p
came_alone p none unsent = grind (arith, none, unsent.got, unsent.sent)

-- ---- an attempt that ends ahead of its exchange

module _ {L C : Type 0} (state : L → LinkState) (start_at : L → LinkStart) where
  -- a link that was leased is to go back, not kept, where memory was wanted
  lease_lost : (s : Start) (p : Passed) (w : World) (link : L) (lease : Lease) → TellsClient s p w
      → IsUntouched s p w → IsLeased s p (state link) (start_at link) lease → p.written ≡ []
      → IsUnsent p
      → Advances {C = C} state start_at s w (Close link lease false outcome.OutOfMemory)
  lease_lost s p w link lease tells untouched leased none unsent = record {
    passed = p;
    run = record {
      tells = tells;
      order = IsInOrder.is_nothing none unsent.sent;
      untouched = untouched;
      going = no_limit;
      calm = tt;
      holds = (
        leased,
        (inr (none, record { got = unsent.got; sent = unsent.sent }), refl),
      );
    };
  }

  -- so it is of an attempt that was to send its head
  pub link_lost : (these those : List LogEntry) (s : Start) (p : Passed) (w : World) (context : C)
      (session : Box HttpSession) (link : L) (lease : Lease) → TellsSame these those
      → RunSoFar {C = C} state start_at (opened_to s these) p w []
      (Prepare context session link lease)
      → Advances {C = C} state start_at (opened_to s those) w
      (Close link lease false outcome.OutOfMemory)
  link_lost these those s p w context session link lease same run =
      lease_lost (opened_to s those) p w link lease (called_tells s these those p w run.tells)
      run.untouched
      (leased_on s these those p (state link) (start_at link) lease same run.holds.0)
      run.holds.1.connecting.written run.holds.1.connecting.unsent

  -- a hook was called, and the request stands as it stood, its link given
  abbrev pub prepared_on : (these those : List LogEntry) (s : Start) (p : Passed) (w : World)
      (context context' : C) (session session' : Box HttpSession) (link : L) (lease : Lease)
      → TellsSame these those
      → IsConnecting (opened_to s those) p w session'.value (tries_in lease)
      → RunSoFar {C = C} state start_at (opened_to s these) p w []
      (Prepare context session link lease)
      → RunSoFar {C = C} state start_at (opened_to s those) p w []
      (Prepare context' session' link lease)
  prepared_on these those s p w context context' session session' link lease same k run = record {
    tells = called_tells s these those p w run.tells;
    order = IsInOrder.is_nothing k.written k.unsent.sent;
    untouched = run.untouched;
    going = tt;
    calm = run.calm;
    holds = (
      leased_on s these those p (state link) (start_at link) lease same run.holds.0,
      record { connecting = k; fresh = run.holds.1.fresh; speaks = run.holds.1.speaks },
    );
  }

  -- a link was given that nobody asked yet, and that carries bytes
  abbrev pub linked : (s : Start) (p : Passed) (w : World) (context : C) (session : Box HttpSession)
      (link : L) (lease : Lease) → IsHandedOut (state link) (start_at link) lease.reused
      → SpeaksBytes (start_at link) → IsNamed s.called lease.peer → lease.recorded ≡ lease.peer
      → RunSoFar {C = C} state start_at s p w [] (Connect context session (tries_in lease))
      → RunSoFar {C = C} state start_at s p w [] (Prepare context session link lease)
  linked s p w context session link lease handed speaks named same run = record {
    tells = run.tells;
    order = run.order;
    untouched = run.untouched;
    going = tt;
    calm = run.calm;
    holds = (
      leased_anew s p (state link) (start_at link) lease run.holds.unsent run.holds.are_tries handed
          named (named ∙ ap (λ (x : Peer). Some x) (sym same)),
      record { connecting = run.holds; fresh = handed; speaks = speaks },
    );
  }

  -- it failed, and its error is to be treated
  pub ahead_broken : (s : Start) (p : Passed) (w : World) (context : C) (session : Box HttpSession)
      (link : L) (lease : Lease) (keep : Bool) (e : Error) → TellsClient s p w → IsUntouched s p w
      → LeavesAhead s p w (state link) (start_at link) session.value lease keep e
      → Advances {C = C} state start_at s w (phase.Broken context session link lease keep e)
  ahead_broken s p w context session link lease keep e tells untouched l = record {
    passed = p;
    run = record {
      tells = tells;
      order = IsInOrder.is_nothing l.connecting.written l.connecting.unsent.sent;
      untouched = untouched;
      going = tt;
      calm = tt;
      holds = (l.leased, IsBroken.ahead_of_it l);
    };
  }

-- ---- the application is told of a link

-- what it answered, by the error
pub told_error : (allows : Standing → LogEntry → Type 0) (peer : Peer) (reused : Bool) (old : Seen)
    (before : ℕ) (new : Seen) (behind : ℕ) (why to : Fail) → why ≡ to
    → TellsConnected allows peer reused old before new behind (Err why)
    → TellsConnected allows peer reused old before new behind (Err to)
told_error allows peer reused old before new behind why to is told =
    subst (λ (f : Fail). TellsConnected allows peer reused old before new behind (Err f)) is told

module _ {L C M K : Type 0} (state : L → LinkState) (start_at : L → LinkStart)
    (c : Calls M K C) (s : Start) (p : Passed) (w : World) (context : C) (session : Box HttpSession)
    (link : L) (lease : Lease) (handed : IsHandedOut (state link) (start_at link) lease.reused)
    (was : c.at ≡ at.Named lease.peer) (same : lease.recorded ≡ lease.peer)
    (tells : TellsPeer c.at (log_of c) (request_head (seen_with c session.value)))
    (run : RunSoFar {C = C} state start_at (opened_to s (log_of c)) p w []
    (Connect context session (tries_in lease)))
  where
    -- the peer that was named is the one of the lease
    named_peer : IsNamed (log_of c) lease.peer
    named_peer =
        subst (λ (a : At K C). TellsPeer a (log_of c) (request_head (seen_with c session.value)))
        was tells

    -- the link is leased
    link_leased : IsLeased (opened_to s (log_of c)) p (state link) (start_at link) lease
    link_leased = leased_anew (opened_to s (log_of c)) p (state link) (start_at link) lease
        run.holds.unsent run.holds.are_tries handed named_peer
        (named_peer ∙ ap (λ (x : Peer). Some x) (sym same))

    -- and held, where it carries bytes
    holds_link : SpeaksBytes (start_at link)
        → RunSoFar {C = C} state start_at (opened_to s (log_of c)) p w []
        (Prepare context session link lease)
    holds_link speaks = linked state start_at (opened_to s (log_of c)) p w context session link
        lease handed speaks named_peer same run

    -- memory was wanted
    pub told_lost : (d : Calls M K C) → log_of d ≡ log_of c
        → Advances {C = C} state start_at (opened_to s (log_of d)) w
        (Close link lease false outcome.OutOfMemory)
    told_lost d log =
        lease_lost state start_at (opened_to s (log_of d)) p w link lease
        (called_tells s (log_of c) (log_of d) p w run.tells) run.untouched
        (leased_on s (log_of c) (log_of d) p (state link) (start_at link) lease
        (tells_still (log_of c) (log_of d) log) link_leased) run.holds.written run.holds.unsent

module _ {L C M K : Type 0} (state : L → LinkState) (start_at : L → LinkStart)
    (allows : Standing → LogEntry → Type 0) (c d : Calls M K C) (mark behind : ℕ) (s : Start)
    (p : Passed) (w : World) (context : C) (session : Box HttpSession) (left : HttpSession)
    (link : L) (lease : Lease) (handed : IsHandedOut (state link) (start_at link) lease.reused)
    (was : c.at ≡ at.Named lease.peer) (same : lease.recorded ≡ lease.peer)
    (tells : TellsPeer c.at (log_of c) (request_head (seen_with c session.value)))
    (run : RunSoFar {C = C} state start_at (opened_to s (log_of c)) p w []
    (Connect context session (tries_in lease)))
  where
    -- the link is leased
    leased_link : IsLeased (opened_to s (log_of c)) p (state link) (start_at link) lease
    leased_link = link_leased state start_at c s p w context session link lease handed was same
        tells run

    -- the head comes next, over a link that carries bytes
    pub told_well : SpeaksBytes (start_at link) → (context' : C) (session' : Box HttpSession)
        → session'.value ≡ left
        → Turns allows hook.ConnectedToUpstream station.named station.linked QueuesNothing
        (seen_with c session.value) mark (seen_with d left) behind
        → Advances {C = C} state start_at (opened_to s (log_of d)) w
        (Prepare context' session' link lease)
    told_well speaks context' session' is turn = record {
      passed = p;
      run = prepared_on state start_at (log_of c) (log_of d) s p w context context' session session'
          link lease
          (peers_stay allows c d session.value left mark behind hook.ConnectedToUpstream
          station.named station.linked refl refl turn)
          (subst (λ (h : HttpSession). IsConnecting (opened_to s (log_of d)) p w h (tries_in lease))
          (sym is)
          (stays_on allows c d session.value left mark behind s p w (tries_in lease)
          run.holds hook.ConnectedToUpstream station.named station.linked refl turn))
          (holds_link state start_at c s p w context session link lease handed was same tells run
          speaks);
    }

    -- the attempt fails behind that call, whichever way it came out, for a reason ahead of its head
    told_ahead : (to : Station) (e : Error)
        → (turn : Turns allows hook.ConnectedToUpstream station.named to QueuesNothing
        (seen_with c session.value) mark (seen_with d left) behind)
        → RefusesToSend (log_of d) (start_at link) run.holds.head false e
        → LeavesAhead (opened_to s (log_of d)) p w (state link) (start_at link) left lease false e
    told_ahead to e turn why = record {
      connecting = stays_on allows c d session.value left mark behind s p w
          (tries_in lease) run.holds hook.ConnectedToUpstream station.named to refl turn;
      leased = leased_on s (log_of c) (log_of d) p (state link) (start_at link) lease
          (peers_stay allows c d session.value left mark behind hook.ConnectedToUpstream
          station.named to refl refl turn) leased_link;
      fresh = handed;
      why = why;
    }

    -- it failed
    pub told_badly : (e : Error)
        → (turn : Turns allows hook.ConnectedToUpstream station.named station.broken QueuesNothing
        (seen_with c session.value) mark (seen_with d left) behind)
        → turn.e.error ≡ Some e
        → LeavesAhead (opened_to s (log_of d)) p w (state link) (start_at link) left lease
        false e
    told_badly e turn fails =
        told_ahead station.broken e turn
        (RefusesToSend.untold (record {
          before = log_of c;
          last = turn.e;
          after = [];
          treats = refl;
          called_are = turn.calls.log;
          is_of_it = turn.hook;
          error = fails;
        }) refl)

    -- it let the link be, which carries messages, over which nothing is relayed
    pub told_unspoken : ¬ (SpeaksBytes (start_at link))
        → Turns allows hook.ConnectedToUpstream station.named station.linked QueuesNothing
        (seen_with c session.value) mark (seen_with d left) behind
        → LeavesAhead (opened_to s (log_of d)) p w (state link) (start_at link) left lease false
        (unrelayed Upstream)
    told_unspoken silent turn =
        told_ahead station.linked (unrelayed Upstream) turn
        (RefusesToSend.unspoken silent refl refl)

-- ---- the head is made

module _ {L C M K : Type 0} (state : L → LinkState) (start_at : L → LinkStart)
    (allows : Standing → LogEntry → Type 0) (c d : Calls M K C) (mark behind : ℕ) (s : Start)
    (p : Passed) (w : World) (context : C) (session : Box HttpSession) (left : HttpSession)
    (link : L) (lease : Lease)
    (run : RunSoFar {C = C} state start_at (opened_to s (log_of c)) p w []
    (Prepare context session link lease))
  where
    -- the filter was called, and the head is sent of the client's
    pub record IsFiltered (context' : C) (session' : Box HttpSession) (sent : RequestHead)
        : Type 0 where
      pub on : RunSoFar {C = C} state start_at (opened_to s (log_of d)) p w []
          (Prepare context' session' link lease)
      pub sends : Sends (log_of d) on.holds.1.connecting.head sent

    pub filtered_well : (context' : C) (session' : Box HttpSession) → session'.value ≡ left
        → (sent : RequestHead)
        → (made : Prepares allows c session.value mark d left behind sent)
        → IsFiltered context' session' sent
    filtered_well context' session' is sent made =
        subst (λ (h : HttpSession). (k : IsConnecting (opened_to s (log_of d)) p w h
        (tries_in lease)) → Sends (log_of d) k.head sent → h ≡ session'.value
        → IsFiltered context' session' sent) is
        (λ k sends same. record {
          on = prepared_on state start_at (log_of c) (log_of d) s p w context context' session
              session' link lease peers k run;
          sends = sends;
        })
        (stays_on allows c d session.value left mark behind s p w (tries_in lease)
        run.holds.1.connecting hook.UpstreamRequestFilter station.linked station.sent refl
        made.filters.call.turn)
        (sends_by allows c d session.value left mark behind s p w (tries_in lease)
        run.holds.1.connecting sent made) (sym is)
      where
        peers : TellsSame (log_of c) (log_of d)
        peers = peers_stay allows c d session.value left mark behind hook.UpstreamRequestFilter
            station.linked station.sent refl refl made.filters.call.turn

    -- it is refused
    pub filtered_badly : (e : Error)
        → Unprepared allows c session.value mark d left behind e
        → LeavesAhead (opened_to s (log_of d)) p w (state link) (start_at link) left lease
        true e
    filtered_badly e refused =
        let r = refuses_as allows c d session.value left mark behind s p w
        (tries_in lease) run.holds.1.connecting (start_at link) run.holds.1.speaks e refused in
        record {
          connecting = r.on;
          leased = leased_on s (log_of c) (log_of d) p (state link) (start_at link) lease
              r.same_peers run.holds.0;
          fresh = run.holds.1.fresh;
          why = r.why;
        }

    -- memory was wanted
    pub filtered_lost : MakesHead allows c session.value mark d left behind
        (Err fail.OutOfMemory)
        → Advances {C = C} state start_at (opened_to s (log_of d)) w
        (Close link lease false outcome.OutOfMemory)
    filtered_lost (inl log) =
        link_lost state start_at (log_of c) (log_of d) s p w context session link lease
        (tells_still (log_of c) (log_of d) log) run
    filtered_lost (inr (filtered, f)) =
        link_lost state start_at (log_of c) (log_of d) s p w context session link lease
        (peers_stay allows c d session.value left mark behind hook.UpstreamRequestFilter
        station.linked station.sent refl refl f.call.turn) run

-- ---- what the steps to the head come to

module _ {M K X : Type 0} (allows : Standing → LogEntry → Type 0) (c d : Calls M K X)
    (client left : HttpSession) (mark behind : ℕ)
  where
    -- the filter did not leave a head
    pub filter_fails : (ready : RequestHead) (why : Fail)
        → FiltersHead allows ready (seen_with c client) mark (seen_with d left) behind (Err why)
        → MakesHead allows c client mark d left behind (Err why)
    filter_fails ready fail.OutOfMemory same = inl same
    filter_fails ready (fail.Error e) call = Unprepared.unfiltered ready call

    -- what it left is made as it is sent, or refused
    pub settles_on : (filtered : RequestHead) (answer : Result RequestHead Fail)
        → FiltersReady allows c client mark d left behind filtered
        → Makes (Settles left filtered) answer
        → MakesHead allows c client mark d left behind answer
    settles_on filtered (Ok sent) f settles =
        record { filtered = filtered; filters = f; settles = settles }
    settles_on filtered (Err fail.OutOfMemory) f settles = inr (filtered, f)
    settles_on filtered (Err (fail.Error e)) f settles = Unprepared.unsettled filtered f settles

    -- and so by the error
    pub makes_error : (why to : Fail) → why ≡ to
        → MakesHead allows c client mark d left behind (Err why)
        → MakesHead allows c client mark d left behind (Err to)
    makes_error why to is makes =
        subst (λ (f : Fail). MakesHead allows c client mark d left behind (Err f)) is makes

-- ---- the calls so far

module _ {C M K : Type 0} (allows : Standing → LogEntry → Type 0) (mark_of : C → ℕ)
    (c d : Calls M K C) (context context' : C) (client left : HttpSession)
    (tries : List AttemptRecord) (o : IsOpening allows mark_of c context client tries)
  where
    -- a call from where the hooks stand
    logged_at : (from : Station) → station_at c.at ≡ from → (which : Hook) (to : Station)
        → Turns allows which from to QueuesNothing (seen_with c client) (mark_of context)
        (seen_with d left) (mark_of context') → IsLogged allows (log_of d) to
    logged_at from is which to turn =
        logged_more allows mark_of c d context context' client left tries which to QueuesNothing
        (subst (λ (a : Station). Turns allows which a to QueuesNothing (seen_with c client)
        (mark_of context) (seen_with d left) (mark_of context')) (sym is) turn) o

    -- the application was told of a link
    pub told_calls : (peer : Peer) → c.at ≡ at.Named peer → d.at ≡ at.Linked
        → Turns allows hook.ConnectedToUpstream station.named station.linked QueuesNothing
        (seen_with c client) (mark_of context) (seen_with d left) (mark_of context')
        → IsOpening allows mark_of d context' left tries
    told_calls peer was is turn = record {
      from = o.from;
      walks = walks_more allows mark_of c d context context' client left o.from turn.e turn.calls
          o.walks;
      order = subst (λ (a : At K C). Accepts station.accepted (log_of d) (station_at a)) (sym is)
          (order_more c d station.named station.linked turn.e turn.calls.log
          turn.order
          (subst (λ (a : At K C). Accepts station.accepted (log_of c) (station_at a)) was o.order));
      goes = subst (λ (a : At K C). GoesOn a) (sym is) tt;
      named = subst (λ (a : At K C). TellsPeer a (log_of d) (request_head (seen_with d left)))
          (sym is) tt;
      untried = λ still.
          absurd (true≢false (sym still ∙ ap (λ (a : At K C). is_before a) is));
      untreated = untreated_more (log_of c) (log_of d) turn.e hook.ConnectedToUpstream
          turn.calls.log turn.hook refl o.untreated;
      unanswered = ap (λ (x : Writing). has_head x.place) turn.queued.same ∙ o.unanswered;
      kept = reads_truncated (seen_with c client) (seen_with d left) turn.calls.reads ∙ o.kept;
      unended = unended_more (log_of c) (log_of d) turn.e hook.ConnectedToUpstream turn.calls.log
          turn.hook refl o.unended;
    }

    -- a call behind which the attempt may have failed
    breaks_at : (from : Station) → station_at c.at ≡ from → (which : Hook) (to : Station)
        (error : Error) → treated_at d.at ≡ None → begins_end which ≡ false
        → IsTrue (may_break to)
        → Turns allows which from to QueuesNothing (seen_with c client) (mark_of context)
        (seen_with d left) (mark_of context') → IsBreaking allows mark_of d context' left error
    breaks_at from is which to error untreated before may turn =
        breaks_more allows mark_of c d context context' client left tries which to error untreated
        before may
        (subst (λ (a : Station). Turns allows which a to QueuesNothing (seen_with c client)
        (mark_of context) (seen_with d left) (mark_of context')) (sym is) turn) o

    -- the application failed as it was told of the link
    pub told_breaks : (peer : Peer) (error : Error) → c.at ≡ at.Named peer → d.at ≡ c.at
        → Turns allows hook.ConnectedToUpstream station.named station.broken QueuesNothing
        (seen_with c client) (mark_of context) (seen_with d left) (mark_of context')
        → IsBreaking allows mark_of d context' left error
    told_breaks peer error was stays turn =
        breaks_at station.named (ap (λ (a : At K C). station_at a) was) hook.ConnectedToUpstream
        station.broken error (ap (λ (a : At K C). treated_at a) (stays ∙ was)) refl refl turn

    -- it let be a link that carries messages, over which nothing is relayed
    pub unspoken_breaks : (peer : Peer) (error : Error) → c.at ≡ at.Named peer → d.at ≡ at.Linked
        → Turns allows hook.ConnectedToUpstream station.named station.linked QueuesNothing
        (seen_with c client) (mark_of context) (seen_with d left) (mark_of context')
        → IsBreaking allows mark_of d context' left error
    unspoken_breaks peer error was is turn =
        breaks_at station.named (ap (λ (a : At K C). station_at a) was) hook.ConnectedToUpstream
        station.linked error (ap (λ (a : At K C). treated_at a) is) refl refl turn

    -- the filter was called
    pub filtered_logged : c.at ≡ at.Linked → (filtered : RequestHead)
        → FiltersReady allows c client (mark_of context) d left (mark_of context') filtered
        → IsLogged allows (log_of d) station.sent
    filtered_logged was filtered f =
        logged_at station.linked (ap (λ (a : At K C). station_at a) was) hook.UpstreamRequestFilter
        station.sent f.call.turn

    -- no head is sent
    pub unsent_breaks : c.at ≡ at.Linked → d.at ≡ at.Linked → (e : Error)
        → Unprepared allows c client (mark_of context) d left (mark_of context') e
        → IsBreaking allows mark_of d context' left e
    unsent_breaks was is e (Unprepared.unready same stays still readies) =
        breaks_same allows mark_of c d context context' client left tries e same stays still
        (ap (λ (a : At K C). treated_at a) is) (ap (λ (a : At K C). may_break (station_at a)) was) o
    unsent_breaks was is e (Unprepared.unfiltered ready call) =
        breaks_at station.linked (ap (λ (a : At K C). station_at a) was)
        hook.UpstreamRequestFilter station.broken e (ap (λ (a : At K C). treated_at a) is) refl refl
        call.call.turn
    unsent_breaks was is e (Unprepared.unsettled filtered f settles) =
        breaks_at station.linked (ap (λ (a : At K C). station_at a) was)
        hook.UpstreamRequestFilter station.sent e (ap (λ (a : At K C). treated_at a) is) refl refl
        f.call.turn

    -- the head goes out
    pub filtered_sends : c.at ≡ at.Linked → d.at ≡ at.Linked → (filtered : RequestHead)
        → FiltersReady allows c client (mark_of context) d left (mark_of context') filtered
        → IsSendingCalls allows mark_of d context' left
    filtered_sends was is filtered f =
        sending_more allows mark_of c d context context' client left tries
        hook.UpstreamRequestFilter is refl
        (subst (λ (x : Station). Turns allows hook.UpstreamRequestFilter x station.sent
        QueuesNothing (seen_with c client) (mark_of context) (seen_with d left)
        (mark_of context')) (sym (ap (λ (a : At K C). station_at a) was)) f.call.turn) o

    -- with the call of its filter last
    pub filtered_ends : (filtered : RequestHead)
        → FiltersReady allows c client (mark_of context) d left (mark_of context') filtered
        → (order : Accepts station.accepted (log_of d) station.sent) → HasFiltered (log_of d)
    filtered_ends filtered f order = record {
      order = order;
      last =
          subst (λ (l : List LogEntry). ends_at hook.UpstreamRequestFilter l ≡ true)
          (sym f.call.turn.calls.log)
          (ends_with hook.UpstreamRequestFilter (log_of c) f.call.turn.e
          (subst (λ (h : Hook). same_hook hook.UpstreamRequestFilter h ≡ true)
          (sym f.call.turn.hook) refl));
    }

    pub lost_logged : c.at ≡ at.Linked
        → MakesHead allows c client (mark_of context) d left (mark_of context')
        (Err fail.OutOfMemory) → (at : Station) × IsLogged allows (log_of d) at
    lost_logged was (inl log) = logged_same allows mark_of c d context client tries log o
    lost_logged was (inr (filtered, f)) = (station.sent, filtered_logged was filtered f)

-- the end does not begin with the steps to the head
module _ {M K X : Type 0} (allows : Standing → LogEntry → Type 0) (c d : Calls M K X)
    (client left : HttpSession) (mark behind : ℕ) (open_to : IsUnended (log_of c))
  where
    filter_unended : (to : Station) → Turns allows hook.UpstreamRequestFilter station.linked to
        QueuesNothing (seen_with c client) mark (seen_with d left) behind → IsUnended (log_of d)
    filter_unended to turn =
        unended_more (log_of c) (log_of d) turn.e hook.UpstreamRequestFilter turn.calls.log
        turn.hook refl open_to

    pub made_unended : (answer : Result RequestHead Fail)
        → MakesHead allows c client mark d left behind answer → IsUnended (log_of d)
    made_unended (Ok sent) made = filter_unended station.sent made.filters.call.turn
    made_unended (Err (fail.Error e)) (Unprepared.unready same stays still readies) =
        subst (λ (x : Calls M K X). IsUnended (log_of x)) (sym same) open_to
    made_unended (Err (fail.Error e)) (Unprepared.unfiltered ready call) =
        filter_unended station.broken call.call.turn
    made_unended (Err (fail.Error e)) (Unprepared.unsettled filtered f settles) =
        filter_unended station.sent f.call.turn
    made_unended (Err fail.OutOfMemory) (inl same) =
        subst (λ (l : List LogEntry). IsUnended l) (sym same) open_to
    made_unended (Err fail.OutOfMemory) (inr (filtered, f)) =
        filter_unended station.sent f.call.turn

    -- nor as the application is told of a link
    pub told_unended : (peer : Peer) (reused : Bool) (answer : Result Unit Fail)
        → TellsConnected allows peer reused (seen_with c client) mark (seen_with d left) behind
        answer → IsUnended (log_of d)
    told_unended peer reused (Ok done) told =
        unended_more (log_of c) (log_of d) told.turn.e hook.ConnectedToUpstream told.turn.calls.log
        told.turn.hook refl open_to
    told_unended peer reused (Err (fail.Error e)) told =
        unended_more (log_of c) (log_of d) told.turn.e hook.ConnectedToUpstream told.turn.calls.log
        told.turn.hook refl open_to
    told_unended peer reused (Err fail.OutOfMemory) same =
        subst (λ (l : List LogEntry). IsUnended l) (sym same) open_to

-- no purger is asked in the steps to the head
module _ {M K X : Type 0} (allows : Standing → LogEntry → Type 0) (c d : Calls M K X)
    (client left : HttpSession) (mark behind : ℕ)
  where
    filter_purges : (to : Station) → Turns allows hook.UpstreamRequestFilter station.linked to
        QueuesNothing (seen_with c client) mark (seen_with d left) behind
        → purges_in (log_of d) ≡ purges_in (log_of c)
    filter_purges to turn =
        ap (λ (l : List LogEntry). purges_in l) turn.calls.log
        ∙ purge_past (log_of c) turn.e
        (ap (λ (h : Hook). same_hook hook.PurgeResponseFilter h) turn.hook)

    pub made_purges : (answer : Result RequestHead Fail)
        → MakesHead allows c client mark d left behind answer
        → purges_in (log_of d) ≡ purges_in (log_of c)
    made_purges (Ok sent) made = filter_purges station.sent made.filters.call.turn
    made_purges (Err (fail.Error e)) (Unprepared.unready same stays still readies) =
        ap (λ (x : Calls M K X). purges_in (log_of x)) same
    made_purges (Err (fail.Error e)) (Unprepared.unfiltered ready call) =
        filter_purges station.broken call.call.turn
    made_purges (Err (fail.Error e)) (Unprepared.unsettled filtered f settles) =
        filter_purges station.sent f.call.turn
    made_purges (Err fail.OutOfMemory) (inl same) =
        ap (λ (l : List LogEntry). purges_in l) same
    made_purges (Err fail.OutOfMemory) (inr (filtered, f)) =
        filter_purges station.sent f.call.turn

-- what is counted of the calls of a head that is not sent
module _ {M K X : Type 0} (allows : Standing → LogEntry → Type 0) (c d : Calls M K X)
    (client left : HttpSession) (mark behind : ℕ) (work : Work) (none : work.called ≡ 0)
  where
    pub unsent_counts : (e : Error) → Unprepared allows c client mark d left behind e
        → CountsCalls c d work
    unsent_counts e (Unprepared.unready same stays still readies) =
        none_called c d work none (ap (λ (x : Calls M K X). log_of x) same)
    unsent_counts e (Unprepared.unfiltered ready call) =
        one_called c d work (omega (arith, none)) call.call.turn.e call.call.turn.calls.log
    unsent_counts e (Unprepared.unsettled filtered f settles) =
        one_called c d work (omega (arith, none)) f.call.turn.e f.call.turn.calls.log

    pub lost_counts : MakesHead allows c client mark d left behind (Err fail.OutOfMemory)
        → CountsCalls c d work
    lost_counts (inl log) = none_called c d work none log
    lost_counts (inr (filtered, f)) =
        one_called c d work (omega (arith, none)) f.call.turn.e f.call.turn.calls.log

-- ---- what begins an exchange

-- calls of filters behind the head that is sent, and where they lead
pub record LeadsOn (allows : Standing → LogEntry → Type 0) (ends : Station → Type 0) (old : Seen)
    (mark : ℕ) (new : Seen) (behind : ℕ) : Type 0 where
  pub walks : WalksTo allows old mark new behind
  pub here : Station
  pub order : Accepts station.sent walks.es here
  pub stands : ends here

-- the same, where memory was wanted
pub record LeadsOut (allows : Standing → LogEntry → Type 0) (old : Seen) (mark : ℕ) (new : Seen)
    : Type 0 where
  pub walks : WalksOut allows old mark new
  pub here : Station
  pub order : Accepts station.sent walks.es here

module _ (allows : Standing → LogEntry → Type 0) (old : Seen) (mark : ℕ) where
  -- no call leads nowhere else
  none_leads : LeadsOn allows Relays old mark old mark
  none_leads = record {
    walks = record {
      es = [];
      log = sym (append-nil old.log);
      walk = Views-same (standing None false (moment old mark));
      plain = All-nil IsFilterCall;
    };
    here = station.sent;
    order = refl;
    stands = inl refl;
  }

  module _ (new : Seen) where
    -- no entry is new
    none_leads_out : new.log ≡ old.log → LeadsOut allows old mark new
    none_leads_out same = record {
      walks = record {
        es = [];
        to = standing None false (moment old mark);
        log = same ∙ sym (append-nil old.log);
        walk = Views-same (standing None false (moment old mark));
        plain = All-nil IsFilterCall;
      };
      here = station.sent;
      order = refl;
    }

    module _ (behind : ℕ) where
      -- the calls of a piece lead where they lead
      pub adds_lead : (ends : Station → Type 0) (es : List LogEntry)
          → Adds allows old mark new behind es → (to : Station) → Accepts station.sent es to
          → ends to → LeadsOn allows ends old mark new behind
      adds_lead ends es adds to order is = record {
        walks = record { es = es; log = adds.log; walk = adds.walk; plain = adds.plain };
        here = to;
        order = order;
        stands = is;
      }

      -- calls that lead somewhere do so where memory is wanted behind them
      pub leads_out : (ends : Station → Type 0) → LeadsOn allows ends old mark new behind
          → LeadsOut allows old mark new
      leads_out ends l = record {
        walks = record {
          es = l.walks.es;
          to = standing None false (moment new behind);
          log = l.walks.log;
          walk = l.walks.walk;
          plain = l.walks.plain;
        };
        here = l.here;
        order = l.order;
      }

-- the last call of a piece is one of a filter of requests, which failed with that error
last_fails : (which : Hook) (log log' es front : List LogEntry) (last : LogEntry) (e : Error)
    → log' ≡ log ++ es → es ≡ front ++ last ∷ [] → last.hook ≡ which → last.error ≡ Some e
    → FailsAt which log' e
last_fails which log log' es front last e more are is failed = record {
  before = log ++ front;
  last = last;
  after = [];
  called_are = more ∙ ap (λ (l : List LogEntry). log ++ l) are
      ∙ sym (append_assoc log front (last ∷ []));
  treats = refl;
  is_of_it = is;
  error = failed;
}

fails_by : (stand : Bool) (log log' es : List LogEntry) (call : LogEntry) (e : Error)
    → log' ≡ log ++ es → PieceChain stand es call → call.error ≡ Some e
    → FailsAt hook.RequestBodyFilter log' e ⊎ FailsAt hook.ModuleRequestBody log' e
fails_by stand log log' es call e more (PieceChain.by_app none are is piece) failed =
    inl (last_fails hook.RequestBodyFilter log log' es [] call e more are is failed)
fails_by stand log log' es call e more
    (PieceChain.by_both there first m last are is was piece becomes) failed =
    inl (last_fails hook.RequestBodyFilter log log' es first last e more are is
    (sym (ap (λ (x : LogEntry). x.error) becomes) ∙ failed))
fails_by stand log log' es call e more (PieceChain.by_modules there are is bad piece) failed =
    inr (last_fails hook.ModuleRequestBody log log' es [] call e more are is failed)

-- where the calls of a piece lead in which memory was wanted
lost_to : (es : List LogEntry) (stand : Bool) (given : LetsOn es → Type 0)
    → (es ≡ []) ⊎ ((stand ≡ true) × (m : LetsOn es) × given m)
    → (to : Station) × Accepts station.sent es to
lost_to es stand given (inl none) =
    subst (λ (l : List LogEntry). (to : Station) × Accepts station.sent l to) (sym none)
    (station.sent, refl)
lost_to es stand given (inr (there, m, was)) =
    subst (λ (l : List LogEntry). (to : Station) × Accepts station.sent l to) (sym m.are)
    (station.at_piece, from_piece station.sent es m (inl refl))

-- by what an exchange was begun with, and what that left
module _ {M C : Type 0} (app : Standing → LogEntry → Type 0) (modules : M → ModuleCall → Type 0)
    (mark_of : C → ℕ) (session : Session M) (ctx : C) (client : HttpSession)
  where
    -- the filters of requests failed, with that error
    pub record FailsFirst (session' : Session M) (ctx' : C) (client' : HttpSession) (e : Error)
        : Type 0 where
      pub leads : LeadsOn (allowed_by app modules) (λ h. IsTrue (may_break h))
          (seen_by session.seen client) (mark_of ctx) (seen_by session'.seen client')
          (mark_of ctx')
      pub same : SameButHead client client'
      pub fails : FailsAt hook.RequestBodyFilter session'.seen.log e
          ⊎ FailsAt hook.ModuleRequestBody session'.seen.log e

    module _ (session' : Session M) (ctx' : C) (client' : HttpSession) where
      -- an exchange was begun
      pub begins_by : CallsOnce session ctx client (allowed_by app modules) mark_of session' ctx'
          client'
          → LeadsOn (allowed_by app modules) Relays (seen_by session.seen client) (mark_of ctx)
          (seen_by session'.seen client') (mark_of ctx')
      begins_by (CallsOnce.none empty same) =
          rw (same.session_same, same.ctx_same, same.client_same)
          (none_leads (allowed_by app modules) (seen_by session.seen client) (mark_of ctx))
      begins_by (CallsOnce.once one made f) =
          let on = piece_stays (is_some session.modules) f.came.es f.came.call f.came.chain
          f.came.says station.sent (inl refl) in
          adds_lead (allowed_by app modules) (seen_by session.seen client) (mark_of ctx)
          (seen_by session'.seen client') (mark_of ctx') Relays f.came.es f.came.adds on.0 on.1 on.2

      -- the calls of a piece that was refused lead to where the attempt has failed
      refused_leads : (e : Error)
          → (r : Refused (allowed_by app modules) (is_some session.modules) e (kept_piece client)
          (seen_by session.seen client) (mark_of ctx) (seen_by session'.seen client')
          (mark_of ctx'))
          → LeadsOn (allowed_by app modules) (λ h. IsTrue (may_break h))
          (seen_by session.seen client) (mark_of ctx) (seen_by session'.seen client')
          (mark_of ctx')
      refused_leads e r =
          adds_lead (allowed_by app modules) (seen_by session.seen client) (mark_of ctx)
          (seen_by session'.seen client') (mark_of ctx') (λ h. IsTrue (may_break h)) r.came.es
          r.came.adds station.broken
          (piece_fails (is_some session.modules) r.came.es r.came.call e r.came.chain r.came.says
          station.sent (inl refl)) refl

      -- one was not, for an error
      pub fails_first : (why : Fail) (e : Error) → why ≡ fail.Error e
          → CannotPut session ctx client (allowed_by app modules) mark_of why session' ctx' client'
          → FailsFirst session' ctx' client' e
      fails_first why e is (CannotPut.before lost same) = absurd (cc)
      fails_first why e is (CannotPut.in_filter lost one same) = absurd (cc)
      fails_first why e is (CannotPut.by_filter raised told one r) = record {
        leads = refused_leads raised r;
        same = r.came.adds.client;
        fails = fails_by (is_some session.modules) session.seen.log session'.seen.log r.came.es
            r.came.call e r.came.adds.log r.came.chain (r.came.says ∙ cc);
      }

      -- nor where memory was wanted then, whyever it was not
      pub lost_first : (why : Fail)
          → CannotPut session ctx client (allowed_by app modules) mark_of why session' ctx' client'
          → LeadsOut (allowed_by app modules) (seen_by session.seen client) (mark_of ctx)
          (seen_by session'.seen client')
      lost_first why (CannotPut.before lost same) =
          none_leads_out (allowed_by app modules) (seen_by session.seen client) (mark_of ctx)
          (seen_by session'.seen client')
          (ap (λ (s : Session M). s.seen.log) same.session_same)
      lost_first why (CannotPut.in_filter lost one l) =
          let to = lost_to l.es (is_some session.modules) _ l.are in
          record {
            walks = record {
              es = l.es;
              to = l.adds.to;
              log = l.adds.log;
              walk = l.adds.walk;
              plain = l.adds.plain;
            };
            here = to.0;
            order = to.1;
          }
      lost_first why (CannotPut.by_filter raised told one r) =
          leads_out (allowed_by app modules) (seen_by session.seen client) (mark_of ctx)
          (seen_by session'.seen client') (mark_of ctx') (λ h. IsTrue (may_break h))
          (refused_leads raised r)

-- an exchange whose head has a framing is not begun for what was to be put first alone
pub framed_unbegun : {L M C : Type 0} (session : Session M) (ctx : C) (client : HttpSession)
    (app : Standing → LogEntry → Type 0) (mark_of : C → ℕ) (head : RequestHead)
    (session' : Session M) (ctx' : C) (left : Unbegun L) → IsSome (request_framing head)
    → IsUnbegun session ctx client app mark_of head session' ctx' left
    → CannotPut session ctx client app mark_of left.why session' ctx' left.client
framed_unbegun session ctx client app mark_of head session' ctx' left framed
    (inl (is, none, same)) =
    absurd (unfounded (request_framing head) framed none)
  where
    unfounded : (found : Option Framing) → IsSome found → found ≡ None → ⊥
    unfounded None some none = true≢false (sym some)
    unfounded (Some framing) some none = cc
framed_unbegun session ctx client app mark_of head session' ctx' left framed (inr cannot) = cannot

-- ---- the calls of an exchange that begins

module _ {L C M K : Type 0} (allows : Standing → LogEntry → Type 0) (mark_of : C → ℕ)
    (c d : Calls M K C) (session : HttpSession) (context : C) (stands : d.at ≡ c.at)
  where
    -- the attempt is held
    pub held_calls : (a : Attempt L C) (b : Box (Attempt L C)) → b.value ≡ a
        → lost_by a.exchange.down.stopped ≡ false
        → LeadsOn allows Relays (seen_with c session) (mark_of context)
        (seen_with d a.exchange.down.inner.session) (mark_of a.context)
        → BeginsCalls {L = L} allows mark_of c session context d (Relay b)
    held_calls a b same alive l =
        subst (λ (x : Attempt L C). BegunBy allows mark_of c session context d
        x.exchange.down.inner.session x.context × (lost_by x.exchange.down.stopped ≡ false))
        (sym same) (
          record {
            enters = record { walks = l.walks; stands = stands };
            here = l.here;
            order = l.order;
            relays = l.stands;
          },
          alive,
        )

    -- a filter failed
    pub broken_calls : (context' : C) (left : HttpSession) (stays : Box HttpSession)
        (link : L) (lease : Lease) (keep : Bool) (e : Error) → stays.value ≡ left
        → LeadsOn allows (λ h. IsTrue (may_break h)) (seen_with c session) (mark_of context)
        (seen_with d left) (mark_of context')
        → BeginsCalls {L = L} allows mark_of c session context d
        (phase.Broken context' stays link lease keep e)
    broken_calls context' left stays link lease keep e same l =
        subst (λ (h : HttpSession). UnbegunBy allows mark_of c session context d h context')
        (sym same)
        (record {
          enters = record { walks = l.walks; stands = stands };
          here = l.here;
          order = l.order;
          breaks = l.stands;
        })

    -- memory was wanted
    pub lost_calls : (left : HttpSession) (link : L) (lease : Lease) (keep : Bool)
        → LeadsOut allows (seen_with c session) (mark_of context) (seen_with d left)
        → BeginsCalls {L = L} allows mark_of c session context d
        (Close link lease keep outcome.OutOfMemory)
    lost_calls left link lease keep l = (
      refl,
      record {
        walks = record {
          es = l.walks.es;
          to = l.walks.to;
          log = l.walks.log;
          walk = l.walks.walk;
          plain = l.walks.plain;
        };
        here = l.here;
        order = l.order;
      },
    )

-- ---- the exchange

module _ {L : Type 0} (state : L → LinkState) (start_at : L → LinkStart) where
  -- an exchange that is under way is over a link that tells what passed
  leased_under_way : (s : Start) (o : Origin) (p : Passed) (client : LinkState) (ahead : List ℕ)
      (log : List LogEntry) (x : HookedExchange L) (lease : Lease) → o.reused ≡ lease.reused
      → IsNamed s.called lease.peer → IsNamed s.called lease.recorded
      → AreTries s (tries_in lease) → IsUnderWay state start_at o p client ahead log x
      → IsLeased s p (state (link_of x)) (start_at (link_of x)) lease
  leased_under_way s o p client ahead log x lease reused peer recorded tries under = record {
    tells = record {
      got = subst (λ (xs : List ℕ). Since [] (start_at (link_of x)).given
          (state (link_of x)).given xs) under.got side.peer.got;
      sent = subst (λ (xs : List ℕ). Since [] (start_at (link_of x)).taken
          (state (link_of x)).taken xs) under.sent side.peer.sent;
      faults = side.peer.faults;
    };
    peer = peer;
    recorded = recorded;
    reused = side.reused ∙ reused;
    tries = tries;
  }
    where
      side : PeerHolds state start_at o x.exchange.up under.up
      side = under.holds.so_far.up

-- by the calls so far, and those with which the exchange began
module _ {L C : Type 0} (state : L → LinkState) (start_at : L → LinkStart)
    (log log' es : List LogEntry) (more : log' ≡ log ++ es) (plain : All IsFilterCall es)
    (s : Start) (p : Passed) (w : World) (context : C) (session : Box HttpSession) (link : L)
  where
    -- the exchange is under way, and nothing was sent or written yet
    pub begun : (given : RequestHead) (a : Attempt L C)
        → (run : RunSoFar {C = C} state start_at (opened_to s log) p w []
        (Prepare context session link a.lease))
        → link_of a.exchange ≡ link → Sends log run.holds.1.connecting.head given → HasFiltered log
        → (allows : Standing → LogEntry → Type 0) (old new : Seen) (mark behind : ℕ)
        → Walk allows (standing None false (moment (seen_by old session.value) mark)) es
        (standing None false (moment (seen_by new a.exchange.down.inner.session) behind))
        → SameButHead session.value a.exchange.down.inner.session
        → a.exchange.down.at_first ≡ false
        → ((o : Origin) (came : List ℕ) (reused : Bool) → given ≡ o.sent → o.asked ≡ false
        → o.called ≡ log → BeginsBehind o came w.client w.ahead session.value
        → IsHandedOut (state link) (start_at link) reused → o.reused ≡ reused
        → IsUnderWay state start_at o
        (record { came = came; written = []; got = []; sent = [] }) w.client w.ahead log'
        a.exchange)
        → IsRelaying state start_at (opened_to s log') p w a
    begun given a run over sends at_sent allows old new mark behind walk same first begins =
        record {
          leased = leased_under_way state start_at (opened_to s log') origin p w.client w.ahead log'
              a.exchange a.lease refl
              (named_past log es log' more plain a.lease.peer run.holds.0.peer)
              (named_past log es log' more plain a.lease.recorded run.holds.0.recorded)
              (tries_past log es log' more plain s (tries_in a.lease) run.holds.0.tries) under;
          head = k.head;
          sent = given;
          relayable = k.accepted.relayable;
          sends = sends_past log es log' more plain sends;
          speaks = subst (λ (l : L). SpeaksBytes (start_at l)) (sym over) run.holds.1.speaks;
          began = log;
          at_sent = at_sent;
          under_way = under;
          at_first = first;
          is_left = head_past log es log' more plain allows (seen_by old session.value)
              (seen_by new a.exchange.down.inner.session) mark behind walk k.head k.is_left
              (same.head (k.begins k.head false).has_head);
          quiet = quiet_past log es log' more plain k.quiet;
        }
      where
        k : IsConnecting (opened_to s log) p w session.value (tries_in a.lease)
        k = run.holds.1.connecting

        origin : Origin
        origin = origin_at (opened_to s log') k.head given a.lease.reused log

        under : IsUnderWay state start_at origin p w.client w.ahead log' a.exchange
        under = subst (λ (q : Passed).
            IsUnderWay state start_at origin q w.client w.ahead log' a.exchange)
            (came_alone p k.written k.unsent)
            (begins origin p.came a.lease.reused refl refl refl
            (begins_any (origin_of (opened_to s log) k.head given a.lease.reused) p.came w.client
            w.ahead session.value given a.lease.reused log (k.begins given a.lease.reused))
            run.holds.1.fresh refl)

    -- what the client's link tells stands
    pub begun_tells : (lease : Lease)
        → RunSoFar {C = C} state start_at (opened_to s log) p w []
        (Prepare context session link lease) → TellsClient (opened_to s log') p w
    begun_tells lease run = called_tells s log log' p w run.tells

    -- the exchange was not begun, when out of memory
    pub not_begun : (back : L) (lease : Lease) → back ≡ link
        → RunSoFar {C = C} state start_at (opened_to s log) p w []
        (Prepare context session link lease)
        → Advances {C = C} state start_at (opened_to s log') w
        (Close back lease false outcome.OutOfMemory)
    not_begun back lease same run =
        subst (λ (l : L). Advances {C = C} state start_at (opened_to s log') w
        (Close l lease false outcome.OutOfMemory)) (sym same)
        (link_lost state start_at log log' s p w context session link lease
        (tells_past log es log' more plain) run)

module _ {L C M K : Type 0} (state : L → LinkState) (start_at : L → LinkStart)
    (allows : Standing → LogEntry → Type 0) (c d : Calls M K C) (mark behind : ℕ) (s : Start)
    (p : Passed) (w : World) (context : C) (session : Box HttpSession) (left : HttpSession)
    (link : L) (lease : Lease)
  where
    -- behind calls of filters that changed no more than the head the request stands as it stood
    connecting_past : (tries : List AttemptRecord)
        → WalksTo allows (seen_with c session.value) mark (seen_with d left) behind
        → SameButHead session.value left
        → IsConnecting (opened_to s (log_of c)) p w session.value tries
        → IsConnecting (opened_to s (log_of d)) p w left tries
    connecting_past tries walks same k =
        let reads : ReadsNothing (seen_with c session.value) (seen_with d left) =
        record { head = same.head; but_head = same.but_head } in
        record {
          head = k.head;
          accepted = called_accepted s (log_of c) (log_of d) p k.head k.accepted;
          is_left = head_past (log_of c) walks.es (log_of d) walks.log walks.plain allows
              (seen_with c session.value) (seen_with d left) mark behind walks.walk k.head k.is_left
              (same.head (k.begins k.head false).has_head);
          quiet = quiet_past (log_of c) walks.es (log_of d) walks.log walks.plain k.quiet;
          begins = λ sent reused.
              begins_on (origin_of s k.head sent reused) p.came w.client w.ahead
              (seen_with c session.value) (seen_with d left) reads same.writing
              (k.begins sent reused);
          unread = λ none.
              reads_done (seen_with c session.value) (seen_with d left) reads ∙ k.unread none;
          written = k.written;
          unsent = k.unsent;
          are_tries = tries_past (log_of c) walks.es (log_of d) walks.log walks.plain s tries
              k.are_tries;
        }

    -- a filter failed as the exchange was to begin
    pub unpassed : (back : L) → back ≡ link → (e : Error)
        → WalksTo allows (seen_with c session.value) mark (seen_with d left) behind
        → SameButHead session.value left
        → FailsAt hook.RequestBodyFilter (log_of d) e ⊎ FailsAt hook.ModuleRequestBody (log_of d) e
        → RunSoFar {C = C} state start_at (opened_to s (log_of c)) p w []
        (Prepare context session link lease)
        → LeavesAhead (opened_to s (log_of d)) p w (state back) (start_at back) left lease true e
    unpassed back same e walks but_head fails run =
        subst (λ (l : L). LeavesAhead (opened_to s (log_of d)) p w (state l) (start_at l) left lease
        true e) (sym same)
        (record {
          connecting = connecting_past (tries_in lease) walks but_head run.holds.1.connecting;
          leased = leased_on s (log_of c) (log_of d) p (state link) (start_at link) lease
              (tells_past (log_of c) walks.es (log_of d) walks.log walks.plain) run.holds.0;
          fresh = run.holds.1.fresh;
          why = RefusesToSend.unpassed run.holds.1.speaks fails refl;
        })

module _ {L C : Type 0} (state : L → LinkState) (start_at : L → LinkStart) where
  -- the attempt is held
  pub held : (s : Start) (p : Passed) (w : World) (a : Attempt L C) (b : Box (Attempt L C))
      → b.value ≡ a → TellsClient s p w → IsInOrder s p → w.client.faults ≡ s.faults
      → IsRelaying state start_at s p w a
      → Advances {C = C} state start_at s w (Relay b)
  held s p w a b same tells order calm relaying = record {
    passed = p;
    run = record {
      tells = tells;
      order = order;
      untouched = λ open_head.
          absurd (exchange_open _ _ s p relaying.head relaying.sent a.lease.reused relaying.began _
          relaying.under_way.order open_head);
      going = tt;
      calm = calm;
      holds = subst (λ (x : Attempt L C). IsRelaying state start_at s p w x) (sym same) relaying;
    };
  }

  -- the attempt is not held, when out of memory
  pub not_held : (s : Start) (p : Passed) (w : World) (a : Attempt L C) → TellsClient s p w
      → IsInOrder s p → IsRelaying state start_at s p w a
      → Advances {C = C} state start_at s w
      (Close (link_of a.exchange) a.lease false outcome.OutOfMemory)
  not_held s p w a tells order relaying = record {
    passed = p;
    run = record {
      tells = tells;
      order = order;
      untouched = λ open_head.
          absurd (exchange_open _ _ s p relaying.head relaying.sent a.lease.reused relaying.began _
          relaying.under_way.order open_head);
      going = no_limit;
      calm = tt;
      holds = (
        relaying.leased,
        (
          inl (part_relayed s p relaying.head relaying.sent a.lease.reused _ _ None _ relaying.began
              relaying.relayable relaying.sends relaying.speaks relaying.leased.reused
              (relaying_stands state start_at _ p w.client w.ahead s.called a.exchange
              relaying.at_sent relaying.under_way) relaying.under_way.order),
          refl,
        ),
      );
    };
  }

-- ---- what the beginning of an exchange comes to

-- by the calls so far, as the head goes out, and behind what it called
module _ {L C M K : Type 0} (state : L → LinkState) (start_at : L → LinkStart)
    (app : Standing → LogEntry → Type 0) (modules : M → ModuleCall → Type 0) (mark_of : C → ℕ)
    (c d : Calls M K C) (stands : d.at ≡ c.at) (context : C) (session : Box HttpSession)
  where
    -- an exchange was begun
    module _ (a : Attempt L C) (calls : CallsOnce c.session context session.value
        (allowed_by app modules) mark_of d.session a.context a.exchange.down.inner.session)
      where
        -- where its calls lead
        leads : LeadsOn (allowed_by app modules) Relays (seen_with c session.value)
            (mark_of context) (seen_with d a.exchange.down.inner.session) (mark_of a.context)
        leads = begins_by app modules mark_of c.session context session.value d.session a.context
            a.exchange.down.inner.session calls

        -- they are those of filters
        pub begun_enters :
            (es : List LogEntry) × (log_of d ≡ log_of c ++ es) × All IsFilterCall es
        begun_enters = (leads.walks.es, leads.walks.log, leads.walks.plain)

        -- the calls so far, whether it is held or not
        pub begun_calls : (next : Phase L C)
            → ((b : Box (Attempt L C)) × (b.value ≡ a) × (next ≡ Relay b))
            ⊎ (next ≡ Close (link_of a.exchange) a.lease false outcome.OutOfMemory)
            → lost_by a.exchange.down.stopped ≡ false
            → BeginsCalls (allowed_by app modules) mark_of c session.value context d next
        begun_calls next (inl (b, same, is)) alive =
            subst (λ (n : Phase L C).
            BeginsCalls (allowed_by app modules) mark_of c session.value context d n) (sym is)
            (held_calls (allowed_by app modules) mark_of c d session.value context stands a b same
            alive leads)
        begun_calls next (inr is) alive =
            subst (λ (n : Phase L C).
            BeginsCalls (allowed_by app modules) mark_of c session.value context d n) (sym is)
            (lost_calls (allowed_by app modules) mark_of c d session.value context stands
            a.exchange.down.inner.session (link_of a.exchange) a.lease false
            (leads_out (allowed_by app modules) (seen_with c session.value) (mark_of context)
            (seen_with d a.exchange.down.inner.session) (mark_of a.context) Relays leads))

        -- and it is under way
        pub begun_relays : (s : Start) (p : Passed) (w : World) (link : L) (given : RequestHead)
            → (run : RunSoFar {C = C} state start_at (opened_to s (log_of c)) p w []
            (Prepare context session link a.lease))
            → link_of a.exchange ≡ link → Sends (log_of c) run.holds.1.connecting.head given
            → HasFiltered (log_of c) → SameButHead session.value a.exchange.down.inner.session
            → a.exchange.down.at_first ≡ false
            → ((o : Origin) (came : List ℕ) (reused : Bool) → given ≡ o.sent → o.asked ≡ false
            → o.called ≡ log_of c → BeginsBehind o came w.client w.ahead session.value
            → IsHandedOut (state link) (start_at link) reused → o.reused ≡ reused
            → IsUnderWay state start_at o
            (record { came = came; written = []; got = []; sent = [] }) w.client w.ahead (log_of d)
            a.exchange)
            → IsRelaying state start_at (opened_to s (log_of d)) p w a
        begun_relays s p w link given run over sends at_sent same first begins =
            begun state start_at (log_of c) (log_of d) leads.walks.es leads.walks.log
            leads.walks.plain s p w context session link given a run over sends at_sent
            (allowed_by app modules) c.session.seen d.session.seen (mark_of context)
            (mark_of a.context) leads.walks.walk same first begins

    -- none was, for what was to be put first
    module _ (left : Unbegun L) (context' : C) (cannot : CannotPut c.session context session.value
        (allowed_by app modules) mark_of left.why d.session context' left.client)
      where
        -- where its calls lead
        out : LeadsOut (allowed_by app modules) (seen_with c session.value) (mark_of context)
            (seen_with d left.client)
        out = lost_first app modules mark_of c.session context session.value d.session context'
            left.client left.why cannot

        -- what it comes to: the attempt is broken, or its link is to go back
        abbrev pub ComesToBreak : Lease → Phase L C → Type 0
        ComesToBreak lease next =
            ((stays : Box HttpSession) × (e : Error) × (stays.value ≡ left.client)
            × (left.why ≡ fail.Error e)
            × (next ≡ phase.Broken context' stays left.link lease true e))
            ⊎ (next ≡ Close left.link lease false outcome.OutOfMemory)

        -- they are those of filters
        pub unbegun_enters :
            (es : List LogEntry) × (log_of d ≡ log_of c ++ es) × All IsFilterCall es
        unbegun_enters = (out.walks.es, out.walks.log, out.walks.plain)

        -- the calls so far then
        pub unbegun_calls : (lease : Lease) (next : Phase L C) → ComesToBreak lease next
            → BeginsCalls (allowed_by app modules) mark_of c session.value context d next
        unbegun_calls lease next (inl (stays, e, same, why, is)) =
            let f = fails_first app modules mark_of c.session context session.value d.session
            context' left.client left.why e why cannot in
            subst (λ (n : Phase L C).
            BeginsCalls (allowed_by app modules) mark_of c session.value context d n) (sym is)
            (broken_calls (allowed_by app modules) mark_of c d session.value context stands context'
            left.client stays left.link lease true e same f.leads)
        unbegun_calls lease next (inr is) =
            subst (λ (n : Phase L C).
            BeginsCalls (allowed_by app modules) mark_of c session.value context d n) (sym is)
            (lost_calls (allowed_by app modules) mark_of c d session.value context stands
            left.client left.link lease false out)

        -- and the run
        pub unbegun_run : (s : Start) (p : Passed) (w : World) (link : L) (lease : Lease)
            (next : Phase L C) → ComesToBreak lease next → left.link ≡ link
            → RunSoFar {C = C} state start_at (opened_to s (log_of c)) p w []
            (Prepare context session link lease)
            → Advances {C = C} state start_at (opened_to s (log_of d)) w next
        unbegun_run s p w link lease next (inl (stays, e, same, why, is)) back run =
            let f = fails_first app modules mark_of c.session context session.value d.session
            context' left.client left.why e why cannot in
            subst (λ (n : Phase L C). Advances {C = C} state start_at (opened_to s (log_of d)) w n)
            (sym is)
            (ahead_broken state start_at (opened_to s (log_of d)) p w context' stays left.link lease
            true e (called_tells s (log_of c) (log_of d) p w run.tells) run.untouched
            (subst (λ (h : HttpSession). LeavesAhead (opened_to s (log_of d)) p w (state left.link)
            (start_at left.link) h lease true e) (sym same)
            (unpassed state start_at (allowed_by app modules) c d (mark_of context)
            (mark_of context') s p w context session left.client link lease left.link back e
            f.leads.walks f.same f.fails run)))
        unbegun_run s p w link lease next (inr is) back run =
            subst (λ (n : Phase L C). Advances {C = C} state start_at (opened_to s (log_of d)) w n)
            (sym is)
            (not_begun state start_at (log_of c) (log_of d) out.walks.es out.walks.log
            out.walks.plain s p w context session link left.link lease back run)

-- ---- what is counted of the calls

-- behind a call more, and those of filters
pub begun_grows : {M K X : Type 0} (c d f : Calls M K X) (e : LogEntry) (es : List LogEntry)
    (work : Work) → log_of d ≡ log_of c ++ e ∷ [] → log_of f ≡ log_of d ++ es → work.called ≤ 1
    → GrowsCalls c f work
begun_grows c d f e es work one more few =
    let whole : log_of f ≡ log_of c ++ e ∷ es =
    more ∙ ap (λ (l : List LogEntry). l ++ es) one ∙ append_assoc (log_of c) (e ∷ []) es in
    let longer : length (log_of f) ≡ length (log_of c) + length (e ∷ es) =
    ap (λ (l : List LogEntry). length l) whole ∙ length-append (log_of c) (e ∷ es) in
    record {
      counted = omega (arith, longer, few);
      grows = record { rest = e ∷ es; joined = sym whole };
    }

-- a turn that added one at most
pub once_grows : {M K X : Type 0} (c d : Calls M K X) (work : Work) → CountsCalls c d work
    → GrowsCalls c d work
once_grows c d work counts = record { counted = counts.counted; grows = counts.grows }
