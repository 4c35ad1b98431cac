-- The client's side behind filters as it is held between turns, by the laws of one whose session is
-- not lost.
--
--   half_of        what it holds is the client's half, whether its session is lost or not
--   attempt_at     so what passed is an attempt
--   order_at       and in order, where the side told no error
--   order_one      and where it told one, up to the task that is refused so
--   told_at        and told by both links
--   alive_so_far   where no hook wanted memory it holds what the laws speak of
--   alive_reason   and so does the reason of an error
use Rattle.std.proofs.Common.{◌≡◌, ℕ, Bool, true, false, ◌⊎◌, List, ◌++◌, Option, Some, None, inl, inr, refl, sym, subst, ◌∙◌}
use Rattle.std.specs.Prelude.{if◌then◌else◌, length, IsSome}
use Rattle.relay_tasks.specs.declared.error.Error.{Error}
use Rattle.relay_tasks.specs.declared.error.Fail.{Fail}
use Rattle.relay_tasks.specs.declared.log.LogEntry.{LogEntry}
use Rattle.relay_links.specs.Link.{LinkState, LinkStart}
use Rattle.relay_peer.specs.Peer as peer
use Rattle.relay_peer.specs.declared.peer_side.PeerSide.{PeerSide}
use Rattle.relay_session.specs.Asked.{request_of}
use Rattle.relay_session.specs.Reading.{head_of}
use Rattle.relay_session.specs.TaskWire.{first_refusal}
use Rattle.relay_session.specs.declared.session.HttpSession.{HttpSession}
use Rattle.relay_session.specs.declared.task_text.Place.TheVariants as place
use Rattle.relay_core.specs.Down.{DownState}
use Rattle.relay_core.specs.Moves.{Finishes, HasReason, SoFar}
use Rattle.relay_core.specs.Past.{Origin, DownPast, UpPast}
use Rattle.relay_core.specs.Table.{core}
use Rattle.relay_core.specs.declared.duplex.Duplex.{Duplex}
use Rattle.relay_core.specs.declared.told.Told.{Told}
use Rattle.relay_sides.specs.Client.{AllPass, CannotEnd, ClientBlames, ClientRefuses}
use Rattle.relay_filters.specs.Hooked.{BlamesOver, HookedPast, PastBy, PastOf, RefusesOver, is_lost, shown_done, state_of_side}
use Rattle.relay_filters.specs.Request.{pieces_in}
use Rattle.relay_filters.specs.declared.rested.Rested.{Rested}
use Rattle.relay_attempt.specs.Attempt.{IsAttempt}
use Rattle.relay_attempt.specs.Exchange.{AreTold, DownHolds}
use Rattle.relay_attempt.proofs.AttemptLemmas.{attempt_of, with_halves}
use Rattle.relay_hooked.specs.Attempt.{HookedHalf, PeerHalf}
use Rattle.relay_hooked.specs.Calls.{calls_behind}
use Rattle.relay_hooked.specs.Exchange.{SideBlames, SideCannotEnd, SideHolds, SideRefuses}
use Rattle.relay_hooked.specs.Head.{behind, core_of, filtering_of, side_state}
use Rattle.relay_hooked.specs.Laws.{GoesSoFar, passed_by}
use Rattle.relay_hooked.specs.Order.{IsInOrder, IsInOrderWith}
use Rattle.relay_hooked.specs.Sides.{Behind, HookedBlames, HookedCannotEnd, HookedHolds, HookedRefuses, PeerHolds, PeerSideBlames, hooked_core, hooked_state}
use Rattle.relay_hooked.proofs.HalfLemmas.{hooked_half, peer_half}
use Rattle.relay_hooked.proofs.OrderLemmas.{order_of}

-- what holds of a side over one past of its inner side holds over another, where that was put and
-- was given the same, and over another session of a client whose head was read
abbrev over_other : (inner other : DownPast → Type 0) (method : List ℕ)
    (client before : HttpSession) (called log : List LogEntry)
    (of_head at_first ended upgraded refused stood : Bool) (stopped : Option Fail)
    (told inner_told : Told) (p : DownPast)
    (h : HookedPast inner method client called log of_head at_first ended upgraded refused stood
    stopped told inner_told p)
    → other (record p { put = h.passed.came; batched = h.passed.queued })
    → IsSome (head_of before.reading)
    → HookedPast other method before called log of_head at_first ended upgraded refused stood
    stopped told inner_told p
over_other inner other method client before called log of_head at_first ended upgraded refused stood
    stopped told inner_told p h holds has_head = record {
      passed = record {
        came = h.passed.came;
        queued = h.passed.queued;
        holds = holds;
        own = h.passed.own;
        parts = h.passed.parts;
        chains = h.passed.chains;
        request = h.passed.request;
        is_of_head = h.passed.is_of_head;
        response = h.passed.response;
        head = λ goes_on. has_head;
        told = h.passed.told;
      };
      quiet = h.quiet;
      calls = h.calls;
    }

module _ {L : Type 0} (state : L → LinkState) (start_at : L → LinkStart) (s : Origin)
    (link : LinkState) (ahead : List ℕ) (log : List LogEntry) (u : Rested)
  where
    -- the side, its session being lost or not
    abbrev HoldsAt : Bool → DownPast → Type 0
    HoldsAt lost p =
        HookedPast (PastOf lost (PastBy s link ahead u.inner) u.inner.session) s.head.method
        u.inner.session s.called log u.of_head u.at_first u.ended false u.refused u.stood u.stopped
        u.told u.inner.told p

    -- as the laws speak of it, over the session that stood before
    abbrev before_it : HttpSession → Behind
    before_it session = record (behind log false u) { side = record u.inner { session = session } }

    -- over that session it holds what they speak of
    abbrev held_before : (p : DownPast) (h : HoldsAt true p)
        → HookedHolds link ahead s (before_it h.passed.holds.0) p
    held_before p h =
        over_other (PastOf true (PastBy s link ahead u.inner) u.inner.session)
        (DownHolds link ahead (record u.inner { session = h.passed.holds.0 }) s) s.head.method
        u.inner.session h.passed.holds.0 s.called log u.of_head u.at_first u.ended false u.refused
        u.stood u.stopped u.told u.inner.told p h h.passed.holds.1
        h.passed.holds.1.passed.client.has_head

    -- so it is the client's half
    abbrev half_at : (lost : Bool) (p : DownPast) → HoldsAt lost p
        → HookedHalf (filtering_of s log u) s link u.ended u.inner.done p
    half_at false p h = hooked_half link ahead s (behind log false u) p h
    half_at true p h =
        hooked_half link ahead s (before_it h.passed.holds.0) p (held_before p h)

    abbrev pub half_of : (p : DownPast) → SideHolds link ahead log s u p
        → HookedHalf (filtering_of s log u) s link u.ended u.inner.done p
    half_of p h = half_at (is_lost u.stopped) p h

    -- none of what the filters made is refused, where the inner side told no error
    passes_at : (lost : Bool) (p : DownPast) (h : HoldsAt lost p) → u.inner.told.errors ≡ 0
        → AllPass s ((half_at lost p h).queued ++ p.closing)
    passes_at false p h untold = h.passed.holds.tasks.none untold
    passes_at true p h untold = h.passed.holds.1.tasks.none untold

    -- where it told one, none is, or the first that is refused is so with that
    told_one : (lost : Bool) (p : DownPast) (h : HoldsAt lost p) → u.inner.told.errors ≡ 1
        → AllPass s ((half_at lost p h).queued ++ p.closing)
        ⊎ ((e : Error) × (u.inner.told.last ≡ Some e)
        × (first_refusal (request_of s.head) place.NoHead
        ((half_at lost p h).queued ++ p.closing) ≡ Some e))
    told_one false p h one = h.passed.holds.tasks.one one
    told_one true p h one = h.passed.holds.1.tasks.one one

    module _ (up : PeerSide L) (duplex : Duplex) (p : DownPast) (q : UpPast)
        (so_far : SoFar (SideHolds link ahead log s u)
        (PeerHolds state start_at s up) (PeerSideBlames state start_at s up)
        (core_of log duplex u up) p q)
      where
        -- what passed is an attempt
        abbrev pub attempt_at :
            IsAttempt (HookedHalf (filtering_of s log u) s link u.ended u.inner.done)
            (PeerHalf s (start_at up.client.link) (state up.client.link)) (side_state log u)
        attempt_at =
            with_halves (SideHolds link ahead log s u)
            (HookedHalf (filtering_of s log u) s link u.ended u.inner.done)
            (PeerHolds state start_at s up)
            (PeerHalf s (start_at up.client.link) (state up.client.link)) (side_state log u) half_of
            (λ r h. peer_half s (start_at up.client.link) (state up.client.link) up r h)
            (attempt_of (SideHolds link ahead log s u)
            (PeerHolds state start_at s up) (PeerSideBlames state start_at s up)
            (core_of log duplex u up) p q so_far)

        -- in order, by the first refusal of what was queued
        order_with : (refused : Option Error)
            → first_refusal (request_of s.head) place.NoHead
            ((half_of p so_far.down).queued ++ p.closing) ≡ refused
            → IsInOrderWith refused (filtering_of s log u) s (passed_by p q)
            (state up.client.link).ended
        order_with refused passes =
            order_of (filtering_of s log u) s link (state up.client.link)
            (start_at up.client.link) u.ended (side_state log u) refl attempt_at refused passes

        -- where the side told no error
        pub order_at : u.told.errors ≡ 0
            → IsInOrder (filtering_of s log u) s (passed_by p q) (state up.client.link).ended
        order_at untold =
            order_with None
            (passes_at (is_lost u.stopped) p so_far.down (so_far.down.quiet.none untold).0)

        -- where it told one, up to the task that is refused so
        pub order_one : (e : Error) → u.told.errors ≡ 1 → u.told.last ≡ Some e
            → IsInOrder (filtering_of s log u) s (passed_by p q) (state up.client.link).ended
            ⊎ ((why : Error) × (u.told.errors ≡ 1) × (u.told.last ≡ Some why)
            × IsInOrderWith (Some why) (filtering_of s log u) s (passed_by p q)
            (state up.client.link).ended)
        order_one e one last = elim (so_far.down.quiet.one one) [
          | inl none ↦ inl (order_with None
              (passes_at (is_lost u.stopped) p so_far.down none))
          | inr alone ↦ elim (told_one (is_lost u.stopped) p so_far.down alone.0) [
            | inl pass ↦ inl (order_with None pass)
            | inr refused ↦ inr (
              refused.0,
              one,
              sym alone.1 ∙ refused.1,
              order_with (Some refused.0) refused.2,
            )
          ]
        ]

        -- and told by both links
        pub told_at : AreTold state start_at s (passed_by p q) link (state up.client.link)
            (start_at up.client.link)
        told_at =
            let a = attempt_at in
            record {
              came = a.is_down.came;
              written = a.is_down.written;
              faults = a.is_down.faults;
              got = a.is_up.got;
              sent = a.is_up.sent;
              peer_faults = a.is_up.faults;
              reused = a.is_up.reused;
              client_tells = a.is_down.tells;
            }

        -- ---- a side whose session is not lost

        -- its state, its session being lost or not
        abbrev state_at : Bool → DownState
        state_at lost = record (state_of_side u.inner) {
          request_ended = u.ended;
          body_done = shown_done u.stopped u.was.body_done (state_of_side u.inner).body_done;
          pending = if lost then u.was.pending else (state_of_side u.inner).pending;
          told = u.told;
          calls = length (pieces_in log);
        }

        -- where no hook wanted memory it holds what the laws speak of
        pub alive_so_far : (stand : Bool) → is_lost u.stopped ≡ false
            → GoesSoFar state start_at link ahead s (behind log stand u) up duplex p q
        alive_so_far stand alive =
            subst (λ (lost : Bool).
            SoFar (HoldsAt lost) (PeerHolds state start_at s up)
            (PeerSideBlames state start_at s up) (core duplex (state_at lost) (peer.state_of up)) p q)
            alive so_far

        -- how both halves finished
        pub alive_finishes : (stand : Bool) → is_lost u.stopped ≡ false
            → Finishes (core_of log duplex u up) p q
            → Finishes (hooked_core duplex (behind log stand u) up) p q
        alive_finishes stand alive finishes =
            subst (λ (lost : Bool). Finishes (core duplex (state_at lost) (peer.state_of up)) p q)
            alive finishes

        -- and so does the reason of an error
        pub alive_reason : (stand : Bool) (e : Error) → is_lost u.stopped ≡ false
            → HasReason (SideBlames link ahead log s u) (SideRefuses link ahead log stand s u)
            (SideCannotEnd link ahead log s u) (PeerSideBlames state start_at s up)
            (side_state log u) p q e
            → HasReason (HookedBlames link ahead s (behind log stand u))
            (HookedRefuses link ahead s (behind log stand u))
            (HookedCannotEnd link ahead s (behind log stand u)) (PeerSideBlames state start_at s up)
            (hooked_state (behind log stand u)) p q e
        alive_reason stand e alive reason =
            subst (λ (lost : Bool).
            HasReason
            (λ r why. BlamesOver (PastOf lost (PastBy s link ahead u.inner) u.inner.session)
            (λ i. ClientBlames s i link) u.stopped u.told (calls_behind s.called log) r why)
            (λ r left why. RefusesOver (PastOf lost (PastBy s link ahead u.inner) u.inner.session)
            (λ i. ClientRefuses s i link u.inner.told) u.of_head u.stood stand u.refused
            u.stopped u.told s.called log r left why)
            (λ r why. BlamesOver (PastOf lost (PastBy s link ahead u.inner) u.inner.session)
            (λ i x. ClientBlames s i link x ⊎ CannotEnd s i u.inner.told x) u.stopped u.told
            (calls_behind s.called log) r why)
            (PeerSideBlames state start_at s up) (state_at lost) p q e) alive reason
