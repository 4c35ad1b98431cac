-- No valid exchange fails behind filters that change nothing.
--
--   never_fails   from FailsFor, AreNeutral and IsValid: nothing
use Rattle.std.proofs.Common.{◌≡◌, Bool, true, List, [], ◌∷◌, ◌++◌, drop, map, refl, sym, ap, subst, ◌∙◌, inl, Some, None}
use Rattle.std.specs.List.{AllByRecursion, list_any}
use Rattle.std.proofs.lemmas.List.Folds.{list_any-append}
use Rattle.relay_tasks.specs.Task.{is_end}
use Rattle.relay_tasks.specs.declared.error.Error.{Error}
use Rattle.relay_tasks.specs.declared.log.LogEntry.{LogEntry}
use Rattle.relay_tasks.specs.declared.task.HttpTask.{HttpTask}
use Rattle.relay_links.specs.Link.{LinkState, LinkStart}
use Rattle.relay_peer.specs.Body.{IsFrontOf, sent_as}
use Rattle.relay_peer.specs.Peer.{PeerBlames}
use Rattle.relay_peer.specs.RequestWriting.{sent_wire}
use Rattle.relay_peer.proofs.FrontLemmas.{front_then}
use Rattle.relay_session.specs.Asked.{request_of}
use Rattle.relay_session.specs.TaskWire.{wire}
use Rattle.relay_session.specs.declared.task_text.Place.TheVariants as place
use Rattle.relay_core.specs.Past.{Origin}
use Rattle.relay_core.proofs.BoolLemmas.{or_inl}
use Rattle.relay_sides.specs.Filtered.{RefusesHead, handed, is_head_request}
use Rattle.relay_filters.specs.Chain.{Refuses}
use Rattle.relay_filters.specs.Response.{BatchStops}
use Rattle.relay_attempt.specs.Order as without
use Rattle.relay_attempt.specs.Order.{ArePieces}
use Rattle.relay_attempt.specs.Passed.{Passed, asked}
use Rattle.relay_valid.specs.Valid.{IsValid}
use Rattle.relay_valid.proofs.ValidLemmas.{client_blameless, head_blameless, peer_blameless}
use Rattle.relay_hooked.specs.Calls.{Filtering}
use Rattle.relay_hooked.specs.Neutral.{AreNeutral}
use Rattle.relay_hooked.specs.Order.{FailsFor, IsInOrder, down_past, up_past}
use Rattle.relay_hooked.proofs.MadeLemmas.{rest_neutral}
use Rattle.relay_still.proofs.SaidLemmas.{read_passes}
use Rattle.relay_still.proofs.StopLemmas.{TaskMayPass, front_of, last_neutral, rest_of, unstopped}
use Rattle.relay_still.proofs.RequestLemmas.{whole_pieces}
use Rattle.relay_still.proofs.WriterLemmas.{are, never_short, one_method}

-- ---- an order of the same pieces without filters

-- what came, where nothing was sent or written
abbrev unsent : Passed → Passed
unsent p = record p { written = []; sent = [] }

-- it is as valid
valid_unsent : (s : Origin) (p : Passed) (client link : LinkState) (start : LinkStart)
    → IsValid s p client link start → IsValid s (unsent p) client link start
valid_unsent s p client link start valid = record {
  asks = record {
    request = valid.asks.request;
    gives = valid.asks.gives;
    is_request = valid.asks.is_request;
    stays = valid.asks.stays;
  };
  answers = record {
    response = valid.answers.response;
    gives = valid.answers.gives;
    is_response = valid.answers.is_response;
    ends = valid.answers.ends;
  };
  agrees = valid.agrees;
  client_faultless = valid.client_faultless;
  link_faultless = valid.link_faultless;
}

module _
    (f : Filtering) (s : Origin) (p : Passed) (client link : LinkState) (start : LinkStart)
    (n : AreNeutral f.calls) (valid : IsValid s p client link start)
  where
    -- no head of the response is refused
    unrefused : (e : Error) → RefusesHead s.sent.method s.asked p.got e → ⊥
    unrefused = head_blameless s p client link start valid

    -- an order of pieces of the body
    order_of : (o : IsInOrder f s p link.ended) (pieces taken : List HttpTask)
        → ArePieces o.asks.framing (drop o.asks.len (asked s p)) pieces → IsFrontOf taken pieces
        → without.IsInOrder s (unsent p) link.ended
    order_of o pieces taken are_pieces first = record {
      asks = record { framing = o.asks.framing; len = o.asks.len; has = o.asks.has };
      pieces = pieces;
      are_pieces = are_pieces;
      taken = taken;
      first_taken = first;
      sent = record { rest = sent_wire (sent_as s.sent taken); joined = refl };
      read = map (handed s.sent.method) o.read;
      are_of = are f s p link.ended n valid.agrees.method unrefused None o;
      batched = [];
      first_batched = record { rest = map (handed s.sent.method) o.read; joined = refl };
      closing = [];
      passes = refl;
      closes_late = inl refl;
      written = record {
        rest = (wire (request_of s.head) place.NoHead []).text;
        joined = refl;
      };
    }

    -- with nothing taken of what came
    order_came : IsInOrder f s p link.ended → without.IsInOrder s (unsent p) link.ended
    order_came o = order_of o o.came [] o.are_came (record { rest = o.came; joined = refl })

    -- the peer's side answers for no error
    peer_still : (o : IsInOrder f s p link.ended) (lost : Bool) (e : Error)
        → PeerBlames start link s.sent s.asked (up_past o lost) e → ⊥
    unfolding order_of
    peer_still o lost e (PeerBlames.link_failed fault is rose answered) =
        peer_blameless s (unsent p) client link start (valid_unsent s p client link start valid)
        (order_came o) lost e (PeerBlames.link_failed fault is rose answered)
    peer_still o lost e (PeerBlames.is_cut_off told gone is reads) =
        peer_blameless s (unsent p) client link start (valid_unsent s p client link start valid)
        (order_came o) lost e (PeerBlames.is_cut_off told gone is reads)
    peer_still o lost e (PeerBlames.is_broken why closed came told is front reads breaks) =
        peer_blameless s (unsent p) client link start (valid_unsent s p client link start valid)
        (order_came o) lost e (PeerBlames.is_broken why closed came told is front reads breaks)
    peer_still o lost e (PeerBlames.is_short_request front pieces first found joined short is) =
        let among = front_then front o.taken o.pieces first o.first_taken in
        let ends : list_any is_end o.pieces ≡ true =
        sym (ap (list_any is_end) among.joined) ∙ list_any-append is_end front among.rest
        ∙ or_inl (list_any is_end front) (list_any is_end among.rest) found in
        let whole = whole_pieces f s p link.ended None o n ends in
        peer_blameless s (unsent p) client link start (valid_unsent s p client link start valid)
        (order_of o o.pieces o.taken whole o.first_taken)
        lost e (PeerBlames.is_short_request front pieces first found joined short is)

    -- ---- the filters

    -- no batch of the response is stopped
    batch_still : (o : IsInOrder f s p link.ended) (stand : Bool) (batch : List HttpTask)
        (before own : List LogEntry) (e : Error) → f.calls ≡ before ++ own
        → IsFrontOf (o.batched ++ batch) o.read
        → BatchStops (is_head_request s.head.method) stand batch own
        → Refuses (is_head_request s.head.method) e own → ⊥
    batch_still o stand batch before own e are within stops refuses =
        let oh = is_head_request s.head.method in
        let P : HttpTask → Type 0 = λ one. TaskMayPass oh one in
        let all = read_passes s p link.ended unrefused o.read o.are_said oh
        (one_method f s p link.ended n valid.agrees.method unrefused) in
        unstopped oh stand e batch own
        (rest_neutral before own (subst (λ (l : List LogEntry). AreNeutral l) are n))
        (rest_of P o.batched batch
        (front_of P (o.batched ++ batch) within.rest
        (subst (λ (l : List HttpTask). AllByRecursion P l) (sym within.joined) all)))
        stops refuses

    -- nor is the exchange by the filter of requests
    piece_still : (front : List LogEntry) (last : LogEntry) (e : Error)
        → f.calls ≡ front ++ last ∷ [] → last.error ≡ Some e → ⊥
    piece_still front last e are answered =
        let left = last_neutral front last (subst (λ (l : List LogEntry). AreNeutral l) are n) in
        let both = sym left.ok ∙ answered in cc

    -- so it does not fail
    pub never_fails : (e : Error) → FailsFor f s p client link start e → ⊥
    never_fails e (FailsFor.by_client o blames) =
        client_blameless s p client link start valid (down_past o) refl e blames
    never_fails e (FailsFor.by_peer o lost blames) = peer_still o lost e blames
    never_fails e (FailsFor.by_piece o stopped front last are call answered) =
        piece_still front last e are answered
    never_fails e
        (FailsFor.by_batch o stopped unasked stand batch before own are within stops refuses) =
        batch_still o stand batch before own e are within stops refuses
    never_fails e (FailsFor.by_writer o stand batch made unasked read made_so fails) =
        never_short f s p client link start e
        (FailsFor.by_writer o stand batch made unasked read made_so fails) refl n valid
    never_fails e (FailsFor.by_cut o front at unasked last passes) =
        never_short f s p client link start e (FailsFor.by_cut o front at unasked last passes) refl
        n valid
    never_fails e (FailsFor.by_end refused o ends why cannot) =
        never_short f s p client link start e (FailsFor.by_end refused o ends why cannot) refl
        n valid
