-- What fails an exchange behind filters has its cause in what passed.
--
--   fails_here   from SoFar and the reason of an error: FailsWith
use Rattle.std.proofs.Common.{◌≡◌, ℕ, Bool, true, false, ◌⊎◌, List, [], ◌∷◌, ◌++◌, length, refl, sym, ap, subst, ◌∙◌, append-nil, append_assoc, arith, inl, inr, true≢false, Option, Some, None}
use Rattle.std.specs.List.{list_any}
use Rattle.relay_tasks.specs.declared.error.Error.{Error}
use Rattle.relay_tasks.specs.declared.error.Fail.{Fail}
use Rattle.relay_tasks.specs.declared.error.Fail.TheVariants as fail
use Rattle.relay_tasks.specs.declared.log.LogEntry.{LogEntry}
use Rattle.relay_tasks.specs.declared.task.HttpTask.{HttpTask}
use Rattle.relay_tasks.specs.declared.task.HttpTask.TheVariants as task
use Rattle.relay_tasks.specs.Task.{is_end}
use Rattle.relay_links.specs.Link.{LinkState, LinkStart}
use Rattle.relay_peer.specs.declared.peer_side.PeerSide.{PeerSide}
use Rattle.relay_session.specs.Asked.{request_of}
use Rattle.relay_session.specs.Response.{Holds, has_head, is_over}
use Rattle.relay_session.specs.TaskWire.{first_refusal, or_later, refusal, wire}
use Rattle.relay_session.specs.declared.task_text.Place.{Place}
use Rattle.relay_session.specs.declared.task_text.Place.TheVariants as place
use Rattle.relay_session.specs.declared.task_text.Request.{Request}
use Rattle.relay_session.proofs.WireSteps.{first_refusal-append}
use Rattle.relay_core.specs.Moves.{HasReason, Refused}
use Rattle.relay_core.specs.Past.{Origin, DownPast, UpPast}
use Rattle.relay_core.proofs.BoolLemmas.{decide}
use Rattle.relay_core.specs.declared.duplex.Duplex.{Duplex}
use Rattle.relay_sides.specs.Client.{AllPass, ClientBlames, ClientRefuses, CannotEnd, Counts, IsUnanswered}
use Rattle.relay_sides.specs.Client as client
use Rattle.relay_sides.specs.Filtered.{is_head_request, stops_for_error}
use Rattle.relay_sides.proofs.ClientTasks.{plain-append}
use Rattle.relay_filters.specs.Chain.{Refuses}
use Rattle.relay_filters.specs.Hooked.{HadStopped, RefusesOver, StoppedFor, inside}
use Rattle.relay_filters.specs.Response.{BatchStops, WasMade}
use Rattle.relay_attempt.specs.Exchange.{DownHolds}
use Rattle.relay_attempt.proofs.KeepLemmas.{over_ends}
use Rattle.relay_attempt.proofs.OrderLemmas.{answers_own, front_pass, text_written}
use Rattle.relay_attempt.proofs.SentLemmas.{stays_over}
use Rattle.relay_attempt.proofs.WriterLemmas.{IsWriters, client_apart, peer_apart, refused_is}
use Rattle.relay_hooked.specs.Attempt.{HookedHalf}
use Rattle.relay_hooked.specs.Calls.{calls_behind}
use Rattle.relay_hooked.specs.Laws.{GoesSoFar, passed_by}
use Rattle.relay_hooked.specs.Order.{FailsFor, FailsWith, IsInOrderWith}
use Rattle.relay_hooked.specs.Order as causes
use Rattle.relay_hooked.specs.Sides.{Behind, HookedBlames, HookedCannotEnd, HookedRefuses, PeerSideBlames, TellsAlone, filtering, hooked_state}
use Rattle.relay_hooked.proofs.FinishLemmas.{over_made}
use Rattle.relay_hooked.proofs.HalfLemmas.{half_with, hooked_half, own_blames, own_calls}
use Rattle.relay_hooked.proofs.OrderLemmas.{attempt_by, ends_made, order_by}

-- no filter stopped a side for an error where that is said
none_stopped : {A : Type 0} (stopped : Option Fail) (e : Error) → stops_for_error stopped ≡ false
    → stopped ≡ Some (fail.Error e) → A
none_stopped stopped e none is = absurd (true≢false (sym (ap stops_for_error is) ∙ none))

-- ---- what the client's side answers for

-- what it answers for is the same, whatever it put, and whatever was queued where that leaves the
-- response as far
module _ (s : Origin) (p : DownPast) (put put' queued queued' : List HttpTask) (link : LinkState)
    (same : IsUnanswered s (inside p put queued) → IsUnanswered s (inside p put' queued'))
  where
    -- a read that counts does
    counts_moved : (fault : _) → Counts s (inside p put queued) link fault
        → Counts s (inside p put' queued') link fault
    counts_moved fault (inl written) = inl written
    counts_moved fault (inr was) = inr (record {
      kind = was.kind;
      last = was.last;
      matters = elim was.matters [
        | inl open_still ↦ inl open_still
        | inr unanswered ↦ inr (same unanswered)
      ];
    })

    -- and so does each cause
    blames_moved : (e : Error) → ClientBlames s (inside p put queued) link e
        → ClientBlames s (inside p put' queued') link e
    blames_moved e (client.ClientBlames.link_failed fault is rose counts) =
        client.ClientBlames.link_failed fault is rose (counts_moved fault counts)
    blames_moved e (client.ClientBlames.body_is_broken body says is) =
        client.ClientBlames.body_is_broken body says is
    blames_moved e (client.ClientBlames.ends_inside body says ended is) =
        client.ClientBlames.ends_inside body says ended is
    blames_moved e (client.ClientBlames.ends_behind body whole ended unanswered is) =
        client.ClientBlames.ends_behind body whole ended (same unanswered) is
    blames_moved e (client.ClientBlames.sent_more body behind whole some unanswered is) =
        client.ClientBlames.sent_more body behind whole some (same unanswered) is

-- ---- the causes

module _ {L : Type 0} (state : L → LinkState) (start_at : L → LinkStart)
    (link : LinkState) (ahead : List ℕ) (s : Origin)
    (b : Behind) (up : PeerSide L) (duplex : Duplex) (p : DownPast) (q : UpPast) (e : Error)
    (so_far : GoesSoFar state start_at link ahead s b up duplex p q)
    (tells : TellsAlone b e)
  where
    -- the client's side told none, or this one alone, and no filter stopped the side over it
    inside_tells : (b.side.told.errors ≡ 0)
        ⊎ ((b.side.told.errors ≡ 1) × (b.side.told.last ≡ Some e)
        × (stops_for_error b.stopped ≡ false))
    inside_tells = elim tells [
      | inl none ↦ inl ((so_far.down.quiet.none none).0)
      | inr one ↦ elim (so_far.down.quiet.one one.0) [
        | inl none ↦ inl none
        | inr alone ↦ inr (alone.0, alone.1 ∙ one.1, alone.2)
      ]
    ]

    -- it failed with the error, for a cause
    abbrev Fails : Type 0
    Fails = FailsWith (filtering s b) s (passed_by p q) link (state up.client.link)
        (start_at up.client.link) ahead b.side.session e

    -- for that cause, where the session holds what was queued by it
    fails_as : (why : FailsFor (filtering s b) s (passed_by p q) link (state up.client.link)
        (start_at up.client.link) e)
        → Holds b.side.session.writing
        ((causes.order_of why).queued ++ (causes.order_of why).closing) p.written → Fails
    fails_as why holds =
        let c = so_far.down.passed.holds.passed.client in
        record {
          why = why;
          answers = answers_own s (inside p so_far.down.passed.came so_far.down.passed.queued)
              link ahead b.side.session c;
          holds = holds;
          broken = c.broken;
          down = inside p so_far.down.passed.came so_far.down.passed.queued;
          client = c;
          came = refl;
        }

    -- as it holds the tasks that its side names
    held : Holds b.side.session.writing (so_far.down.passed.queued ++ p.closing) p.written
    held = so_far.down.passed.holds.passed.client.response

    -- the client's half
    abbrev half : HookedHalf (filtering s b) s link b.ended b.side.done p
    half = hooked_half link ahead s b p so_far.down

    -- the order, by the first refusal
    abbrev in_order : (refused : Option Error)
        → first_refusal (request_of s.head) place.NoHead
        (so_far.down.passed.queued ++ p.closing) ≡ refused
        → IsInOrderWith refused (filtering s b) s (passed_by p q) (state up.client.link).ended
    in_order refused passes =
        order_by state start_at link ahead s b up duplex p q so_far half refused passes

    -- none of the tasks that were queued is refused, or the first that is is so with the error
    queued_by : AllPass s (so_far.down.passed.queued ++ p.closing)
        ⊎ (first_refusal (request_of s.head) place.NoHead (so_far.down.passed.queued ++ p.closing)
        ≡ Some e)
    queued_by = elim inside_tells [
      | inl none ↦ inl (so_far.down.passed.holds.tasks.none none)
      | inr one ↦ elim (so_far.down.passed.holds.tasks.one one.0) [
        | inl pass ↦ inl pass
        | inr refused ↦ inr (refused.2 ∙ (sym refused.1 ∙ one.1))
      ]
    ]

    -- so none is where the error is none of the writer's
    none_refused : (IsWriters e → ⊥) → AllPass s (so_far.down.passed.queued ++ p.closing)
    none_refused apart = elim queued_by [
      | inl pass ↦ pass
      | inr refused ↦ absurd (apart (refused_is (request_of s.head) place.NoHead
          (so_far.down.passed.queued ++ p.closing) e
          (plain-append so_far.down.passed.queued p.closing so_far.down.passed.holds.passed.plain
          so_far.down.passed.holds.passed.plain_end) refused))
    ]

    -- the tasks with which the client's side holds leave the response where its session stands
    place_at : (came queued : List HttpTask)
        → DownHolds link ahead b.side s (inside p came queued)
        → (wire (request_of s.head) place.NoHead (queued ++ p.closing)).place
        ≡ b.side.session.writing.place
    place_at came queued holds =
        subst (λ (r : Request).
        (wire r place.NoHead (queued ++ p.closing)).place ≡ b.side.session.writing.place)
        (answers_own s (inside p came queued) link ahead b.side.session holds.passed.client)
        (text_written s (inside p came queued) link ahead b.side.session holds.passed.client).at

    -- so all do alike
    same_place : (came queued : List HttpTask)
        → DownHolds link ahead b.side s (inside p came queued)
        → (wire (request_of s.head) place.NoHead (queued ++ p.closing)).place
        ≡ (wire (request_of s.head) place.NoHead (so_far.down.passed.queued ++ p.closing)).place
    same_place came queued holds =
        place_at came queued holds
        ∙ sym (place_at so_far.down.passed.came so_far.down.passed.queued so_far.down.passed.holds)

    -- the client's side answers for the error
    fails_client : (came queued : List HttpTask)
        → DownHolds link ahead b.side s (inside p came queued)
        → ClientBlames s (inside p came queued) link e → Fails
    fails_client came queued holds blames =
        let passes = none_refused (client_apart s (inside p came queued) link e blames) in
        fails_as
        (FailsFor.by_client (in_order None passes)
        (blames_moved s p came half.pieces queued so_far.down.passed.queued link
        (λ unanswered.
        subst (λ (at : Place). is_over at ≡ false) (same_place came queued holds) unanswered) e
        blames)) held

    -- where a filter stopped the side none of them is refused
    stopped_passes : b.stopped ≡ Some (fail.Error e)
        → AllPass s (so_far.down.passed.queued ++ p.closing)
    stopped_passes is = elim inside_tells [
      | inl none ↦ so_far.down.passed.holds.tasks.none none
      | inr one ↦ none_stopped b.stopped e one.2 is
    ]

    -- no side had stopped for it before, which would have told more than one
    fails_before : HadStopped b.stopped b.told e → Fails
    fails_before (is, twice) = elim tells [
      | inl none ↦ none_stopped b.stopped e (so_far.down.quiet.none none).1 is
      | inr one ↦ absurd (twice one.0)
    ]

    -- it stopped for it: so the filter of requests answered it, by the last call
    fails_stopped : StoppedFor b.stopped b.told (calls_behind s.called b.log) e → Fails
    fails_stopped (inl (is, refused)) =
        fails_as
        (FailsFor.by_piece (in_order None (stopped_passes is)) is refused.before refused.call
        refused.are refused.is_piece refused.answers) held
    fails_stopped (inr had) = fails_before had

    -- the peer's side answers for the error
    fails_given : PeerSideBlames state start_at s up q e → Fails
    fails_given blames =
        let own = own_blames state start_at s up q so_far.up e blames in
        fails_as
        (FailsFor.by_peer
        (in_order None (none_refused (peer_apart (start_at up.client.link) (state up.client.link)
        s.sent s.asked q e own))) q.lost own) held

    -- the client's side refuses what the filters made, behind what they made before
    module _
        (left rest : List HttpTask) (read : q.read ≡ p.batched ++ (left ++ rest))
        (came queued made : List HttpTask)
        (holds : DownHolds link ahead b.side s (inside p came queued))
        (half' : HookedHalf (filtering s b) s link b.ended b.side.done p)
        (is_half : half'.queued ≡ queued)
        (own : List LogEntry) (parts : b.log ≡ s.called ++ own)
        (made_so : WasMade b.of_head b.stand own left made)
      where
        -- the order, by the first refusal of these tasks
        abbrev order_here : (refused : Option Error)
            → first_refusal (request_of s.head) place.NoHead (queued ++ p.closing) ≡ refused
            → IsInOrderWith refused (filtering s b) s (passed_by p q) (state up.client.link).ended
        order_here refused passes =
            order_by state start_at link ahead s b up duplex p q so_far half' refused
            (subst (λ (l : List HttpTask).
            first_refusal (request_of s.head) place.NoHead (l ++ p.closing) ≡ refused)
            (sym is_half) passes)

        -- the session holds them
        held_here : Holds b.side.session.writing (half'.queued ++ p.closing) p.written
        held_here =
            subst (λ (l : List HttpTask). Holds b.side.session.writing (l ++ p.closing) p.written)
            (sym is_half) holds.passed.client.response

        -- nothing stands behind them where no end was asked for
        none_behind : p.closing ≡ [] → (tasks : List HttpTask) → tasks ++ p.closing ≡ tasks
        none_behind unasked tasks =
            ap (λ (l : List HttpTask). tasks ++ l) unasked ∙ append-nil tasks

        -- the last task of them is refused
        fails_cut : (front : List HttpTask) (at : HttpTask) → p.closing ≡ []
            → queued ≡ front ++ at ∷ [] → AllPass s front
            → refusal (request_of s.head) (wire (request_of s.head) place.NoHead front).place at
            ≡ Some e → Fails
        fails_cut front at unasked is passes refused =
            fails_as
            (FailsFor.by_cut
            (order_here (Some e)
            (ap (λ (l : List HttpTask). first_refusal (request_of s.head) place.NoHead l)
            (none_behind unasked queued ∙ is)
            ∙ first_refusal-append (request_of s.head) place.NoHead front (at ∷ [])
            ∙ ap (λ (o : Option Error).
            or_later o (first_refusal (request_of s.head)
            (wire (request_of s.head) place.NoHead front).place (at ∷ []))) passes
            ∙ ap (λ (o : Option Error). or_later o None) refused)) front at unasked
            (is_half ∙ is) passes) held_here

        -- a batch is refused as a whole
        fails_batch : p.closing ≡ [] → AllPass s queued
            → first_refusal (request_of s.head) (wire (request_of s.head) place.NoHead queued).place
            made ≡ Some e → Fails
        fails_batch unasked passes refused =
            fails_as
            (FailsFor.by_writer
            (order_here None
            (ap (λ (l : List HttpTask). first_refusal (request_of s.head) place.NoHead l)
            (none_behind unasked queued) ∙ passes)) b.stand left made unasked
            (record { rest = rest; joined = append_assoc p.batched left rest ∙ sym read })
            (subst (λ (es : List LogEntry).
            WasMade (is_head_request s.head.method) b.stand es left made)
            (own_calls s.called own b.log parts)
            (subst (λ (of_head : Bool). WasMade of_head b.stand own left made)
            so_far.down.passed.is_of_head made_so))
            (ap (λ (l : List HttpTask).
            first_refusal (request_of s.head) place.NoHead (l ++ made)) is_half
            ∙ first_refusal-append (request_of s.head) place.NoHead queued made
            ∙ ap (λ (o : Option Error).
            or_later o (first_refusal (request_of s.head)
            (wire (request_of s.head) place.NoHead queued).place made)) passes ∙ refused)) held_here

        -- where the side told no error none of them is refused
        told_none : b.side.told.errors ≡ 0 → AllPass s queued
        told_none none =
            front_pass (request_of s.head) queued p.closing (holds.tasks.none none)

        -- why it refuses
        fails_made : p.closing ≡ []
            → ClientRefuses s (inside p came queued) link b.side.told made e → Fails
        fails_made none (client.ClientRefuses.link_failed fault is rose) =
            fails_client came queued holds
            (client.ClientBlames.link_failed fault is rose.0 (inl rose.1))
        fails_made none (client.ClientRefuses.is_cut front at unasked is refused passes) =
            fails_cut front at unasked is (elim inside_tells [
              | inl quiet ↦ front_pass (request_of s.head) front (at ∷ [])
                  (subst (λ (l : List HttpTask). AllPass s l) is (told_none quiet))
              | inr one ↦ passes one.0
            ]) refused
        fails_made none (client.ClientRefuses.is_unfit unasked refused passes) =
            fails_batch unasked (elim inside_tells [
              | inl quiet ↦ told_none quiet
              | inr one ↦ passes one.0
            ]) refused
        fails_made none (client.ClientRefuses.behind_the_end some is) =
            let nothing : length p.closing ≡ 0 = ap (λ (l : List HttpTask). length l) none in
            absurd (omega (arith, some, nothing))

    -- a filter stopped a batch, or the check behind one did
    fails_filter : (left rest : List HttpTask) → q.read ≡ p.batched ++ (left ++ rest)
        → (before own : List LogEntry) → b.log ≡ s.called ++ (before ++ own)
        → BatchStops b.of_head b.stand left own → Refuses b.of_head e own
        → b.stopped ≡ Some (fail.Error e) → p.closing ≡ [] → Fails
    fails_filter left rest read before own parts stops refuses is unasked =
        let oh = so_far.down.passed.is_of_head in
        fails_as
        (FailsFor.by_batch (in_order None (stopped_passes is)) is unasked b.stand left before own
        (sym (own_calls s.called (before ++ own) b.log parts))
        (record { rest = rest; joined = append_assoc p.batched left rest ∙ sym read })
        (subst (λ (of_head : Bool). BatchStops of_head b.stand left own) oh stops)
        (subst (λ (of_head : Bool). Refuses of_head e own) oh refuses)) held

    -- the side refuses tasks that the peer gave
    fails_tasks : Refused (HookedRefuses link ahead s b) false p q e → Fails
    fails_tasks r = on r.refused
      where
        on : HookedRefuses link ahead s b p r.left e → Fails
        on (RefusesOver.by_filter before own parts stops refuses is) =
            fails_filter r.left r.rest r.came before own parts stops refuses is (r.unasked refl)
        on (RefusesOver.by_inner came queued made holds own parts makes made_so refuses) =
            fails_made r.left r.rest r.came came queued made holds
            (half_with link ahead s b p so_far.down came queued holds own parts makes) refl own
            parts made_so (r.unasked refl) refuses
        on (RefusesOver.had_stopped had) = fails_before had

    -- the end of the response that was asked for is refused
    fails_unended : (came queued : List HttpTask)
        → DownHolds link ahead b.side s (inside p came queued)
        → CannotEnd s (inside p came queued) b.side.told e
        → (list_any is_end p.batched ≡ true) ⊎ (b.side.done ≡ true) → Fails
    fails_unended came queued holds cannot (inr done) =
        absurd (over_ends (request_of s.head)
        (wire (request_of s.head) place.NoHead (so_far.down.passed.queued ++ p.closing)).place e
        (stays_over (request_of s.head) place.NoHead so_far.down.passed.queued p.closing
        (half.over done))
        (ap (λ (at : Place). refusal (request_of s.head) at task.Done)
        (sym (same_place came queued holds)) ∙ cannot.refused))
    fails_unended came queued holds cannot (inl ends) =
        let refused = ap (λ (at : Place). refusal (request_of s.head) at task.Done)
        (sym (same_place came queued holds)) ∙ cannot.refused in
        let made = ends_made (filtering s b) s link (state up.client.link) (start_at up.client.link)
        b.ended (hooked_state b) refl
        (attempt_by state start_at link ahead s b up duplex p q so_far half) ∙ ends in
        elim queued_by [
          | inl pass ↦ fails_as (FailsFor.by_end None (in_order None pass) made
              (inr (no_head pass ends refused)) refused) held
          | inr first ↦
              fails_as
              (FailsFor.by_end (Some e) (in_order (Some e) first) made (inl refl) refused) held
        ]
      where
        -- where none of them is refused there is no final head: else the response is over
        no_head : AllPass s (so_far.down.passed.queued ++ p.closing)
            → list_any is_end p.batched ≡ true
            → refusal (request_of s.head)
            (wire (request_of s.head) place.NoHead (so_far.down.passed.queued ++ p.closing)).place
            task.Done ≡ Some e
            → has_head (wire (request_of s.head) place.NoHead so_far.down.passed.queued).place
            ≡ false
        no_head pass ends refused = elim (decide _) [
          | inl has ↦ absurd (over_ends (request_of s.head)
              (wire (request_of s.head) place.NoHead
              (so_far.down.passed.queued ++ p.closing)).place e
              (over_made state start_at link ahead s b up duplex p q so_far pass ends has)
              refused)
          | inr none ↦ none
        ]

    -- the error has its cause in what passed
    pub fails_here :
        HasReason (HookedBlames link ahead s b) (HookedRefuses link ahead s b)
        (HookedCannotEnd link ahead s b) (PeerSideBlames state start_at s up) (hooked_state b) p q e
        → Fails
    fails_here (inl (inl (came, queued, holds, blames))) = fails_client came queued holds blames
    fails_here (inl (inr stopped)) = fails_stopped stopped
    fails_here (inr (inl blames)) = fails_given blames
    fails_here (inr (inr (inl refused))) = fails_tasks refused
    fails_here (inr (inr (inr unended))) = elim unended.why [
      | inl over ↦ elim over.3 [
        | inl blames ↦ fails_client over.0 over.1 over.2 blames
        | inr cannot ↦ fails_unended over.0 over.1 over.2 cannot (unended.asked refl)
      ]
      | inr stopped ↦ fails_stopped stopped
    ]
