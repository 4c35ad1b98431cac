-- What both sides of an exchange behind filters hold is in order.
--
--   attempt_so_far   from SoFar: an attempt between both halves
--   order_of         from such an attempt: IsInOrderWith, whose pieces, taken, read, batched and
--                    closing are those of the pasts, by computing
--   told_so_far      and it is told by both links
--   order_by         from SoFar and a half: the order
--   order_so_far     so the order, from SoFar
use Rattle.std.proofs.Common.{◌≡◌, ℕ, Bool, true, false, ◌⊎◌, List, [], ◌++◌, refl, sym, ◌∙◌, inl, inr, Option, None}
use Rattle.std.specs.List.{list_any}
use Rattle.relay_tasks.specs.declared.error.Error.{Error}
use Rattle.relay_tasks.specs.Task.{is_end}
use Rattle.relay_links.specs.Link.{LinkState, LinkStart}
use Rattle.relay_peer.specs.Body.{IsFrontOf}
use Rattle.relay_peer.specs.declared.peer_side.PeerSide.{PeerSide}
use Rattle.relay_session.specs.Asked.{request_of}
use Rattle.relay_session.specs.Response.{is_over}
use Rattle.relay_session.specs.TaskWire.{first_refusal, wire}
use Rattle.relay_session.specs.declared.task_text.Place.TheVariants as place
use Rattle.relay_core.specs.Down.{DownState}
use Rattle.relay_core.specs.Past.{Origin, DownPast, UpPast}
use Rattle.relay_core.specs.Pipe.{is_failure}
use Rattle.relay_core.specs.declared.duplex.Duplex.{Duplex}
use Rattle.relay_sides.specs.Client.{AllPass}
use Rattle.relay_sides.specs.Filtered.{is_head_request}
use Rattle.relay_filters.specs.Hooked.{TakesOn}
use Rattle.relay_attempt.specs.Attempt.{IsAttempt}
use Rattle.relay_attempt.specs.Exchange.{AreTold}
use Rattle.relay_attempt.proofs.AttemptLemmas.{attempt_of, batches}
use Rattle.relay_hooked.specs.Attempt.{HookedHalf, PeerHalf}
use Rattle.relay_hooked.specs.Calls.{Filtering}
use Rattle.relay_hooked.specs.Laws.{GoesSoFar, passed_by}
use Rattle.relay_hooked.specs.Order.{IsInOrder, IsInOrderWith}
use Rattle.relay_hooked.specs.Sides.{Behind, HookedHolds, PeerHolds, PeerSideBlames, filtering, hooked_core, hooked_state}
use Rattle.relay_hooked.proofs.ChainLemmas.{makes_ends, makes_plain}
use Rattle.relay_hooked.proofs.HalfLemmas.{hooked_half, peer_half}

-- ---- the order

-- the halves of an attempt, each of which took the front of what the other put, are in order, where
-- none of the tasks that the filters made is refused
module _
    (f : Filtering) (s : Origin) (client link : LinkState) (start : LinkStart) (ended : Bool)
    (side : DownState) (plain : side.upgraded ≡ false)
    (a : IsAttempt (HookedHalf f s client ended side.response_done) (PeerHalf s start link) side)
  where
    -- no failure came, since none was made
    plain_came : list_any is_failure a.p.batched ≡ false
    plain_came =
        sym (makes_plain (is_head_request s.head.method) f.stood f.calls
        (TakesOn f.stopped f.refused) a.p.batched a.is_down.queued a.is_down.makes)
        ∙ a.is_down.plain

    -- the tasks that passed the filters are a front of those that were read
    pub first_batched : IsFrontOf a.p.batched a.q.read
    first_batched = batches a.p.batched a.given a.q.read a.refused a.batched a.responses plain_came

    -- an end that came is one that was made
    pub ends_made : list_any is_end a.is_down.queued ≡ list_any is_end a.p.batched
    ends_made =
        makes_ends (is_head_request s.head.method) f.stood f.calls (TakesOn f.stopped f.refused)
        a.p.batched a.is_down.queued a.is_down.makes

    -- where an end was asked for, the response had ended or was over behind what was made
    pub late : (a.p.closing ≡ []) ⊎ ((list_any is_end a.is_down.queued ≡ true)
        ⊎ (is_over (wire (request_of s.head) place.NoHead a.is_down.queued).place ≡ true))
    late = elim (a.asked plain) [
      | inl none ↦ inl none
      | inr (inl ends) ↦ inr (inl (ends_made ∙ ends))
      | inr (inr done) ↦ inr (inr (a.is_down.over done))
    ]

    -- so what passed is in order, by the first refusal of what was queued
    abbrev pub order_of : (refused : Option Error)
        → first_refusal (request_of s.head) place.NoHead (a.is_down.queued ++ a.p.closing) ≡ refused
        → IsInOrderWith refused f s (passed_by a.p a.q) link.ended
    order_of refused passes = record {
      are_filters = a.is_down.are_filters;
      asks = record {
        framing = a.is_down.framing;
        len = a.is_down.len;
        has = a.is_down.asks;
      };
      came = a.is_down.pieces;
      are_came = a.is_down.are_pieces;
      ended = ended;
      pieces = a.p.put;
      chains = a.is_down.chains;
      passed = a.is_down.passed;
      ends_last = a.ends_last plain;
      taken = a.q.taken;
      first_taken = a.requests;
      sent = a.is_up.is_sent;
      read = a.q.read;
      are_said = a.is_up.are_said;
      batched = a.p.batched;
      first_batched = first_batched;
      queued = a.is_down.queued;
      makes = a.is_down.makes;
      closing = a.p.closing;
      passes = passes;
      closes_late = late;
      written = a.is_down.is_written;
    }

-- ---- so far

module _ {L : Type 0} (state : L → LinkState) (start_at : L → LinkStart)
    (link : LinkState) (ahead : List ℕ) (s : Origin) (b : Behind) (up : PeerSide L)
    (duplex : Duplex) (p : DownPast) (q : UpPast)
    (so_far : GoesSoFar state start_at link ahead s b up duplex p q)
  where
    -- what passed between a client behind filters and a peer is an attempt, by the client's half
    abbrev pub attempt_by : HookedHalf (filtering s b) s link b.ended b.side.done p
        → IsAttempt (HookedHalf (filtering s b) s link b.ended b.side.done)
        (PeerHalf s (start_at up.client.link) (state up.client.link)) (hooked_state b)
    attempt_by half =
        let a = attempt_of (HookedHolds link ahead s b) (PeerHolds state start_at s up)
        (PeerSideBlames state start_at s up) (hooked_core duplex b up) p q so_far in
        record {
          p = p;
          q = q;
          is_down = half;
          is_up = peer_half s (start_at up.client.link) (state up.client.link) up q so_far.up;
          requests = a.requests;
          given = a.given;
          refused = a.refused;
          batched = a.batched;
          responses = a.responses;
          ends_last = a.ends_last;
          asked = a.asked;
        }

    -- it is an attempt by the half that its side names
    abbrev pub attempt_so_far :
        IsAttempt (HookedHalf (filtering s b) s link b.ended b.side.done)
        (PeerHalf s (start_at up.client.link) (state up.client.link)) (hooked_state b)
    attempt_so_far = attempt_by (hooked_half link ahead s b p so_far.down)

    -- it is told by both links
    pub told_so_far : AreTold state start_at s (passed_by p q) link (state up.client.link)
        (start_at up.client.link)
    told_so_far =
        let c = so_far.down.passed.holds.passed.client in
        let u = so_far.up.peer in
        record {
          came = c.came;
          written = c.written;
          faults = c.faults;
          got = u.got;
          sent = u.sent;
          peer_faults = u.faults;
          reused = so_far.up.reused;
          client_tells = c.tells;
        }

    -- it is in order, by the client's half and the first refusal of what was queued
    abbrev pub order_by : (half : HookedHalf (filtering s b) s link b.ended b.side.done p)
        → (refused : Option Error)
        → first_refusal (request_of s.head) place.NoHead (half.queued ++ p.closing) ≡ refused
        → IsInOrderWith refused (filtering s b) s (passed_by p q) (state up.client.link).ended
    order_by half refused passes =
        order_of (filtering s b) s link (state up.client.link) (start_at up.client.link) b.ended
        (hooked_state b) refl (attempt_by half) refused passes

    -- so it is in order, where none of what the filters made is refused
    abbrev pub order_so_far : AllPass s (so_far.down.passed.queued ++ p.closing)
        → IsInOrder (filtering s b) s (passed_by p q) (state up.client.link).ended
    order_so_far passes = order_by (hooked_half link ahead s b p so_far.down) None passes

    -- none of it is refused where the side told no error
    pub untold_passes : b.told.errors ≡ 0 → AllPass s (so_far.down.passed.queued ++ p.closing)
    untold_passes none = so_far.down.passed.holds.tasks.none (so_far.down.quiet.none none).0
