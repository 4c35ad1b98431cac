-- Filters that change nothing leave an order as it is without them.
--
--   alike_head    two heads that ask alike are both of a HEAD, or none is
--   passed_none   nothing passes once the request has ended
--   call_bytes    what a call passes brings the bytes that it was given
--   pieces_neutral   the calls of each piece, as one, leave it where each of them leaves what it was
--                 given
--   as_without    from IsInOrder and ChangesNothing: IsInOrder of relay_attempt
use Rattle.std.proofs.Common.{◌≡◌, ℕ, Bool, true, false, not, ◌==◌, List, [], ◌∷◌, ◌++◌, length, map, refl, sym, ap, subst, ◌∙◌, append_assoc, append-nil, arith, Option, Some, None, if◌then◌else◌}
use Rattle.std.specs.Prelude.{◌||◌, ◌&&◌, is_some, option_to_list, unwrap_or}
use Rattle.std.proofs.lemmas.Bool.Decides.{nat_tests}
use Rattle.std.proofs.lemmas.List.{map-append}
use Rattle.relay_tasks.specs.declared.error.Error.{Error}
use Rattle.relay_tasks.specs.declared.log.Item.{Item}
use Rattle.relay_tasks.specs.declared.log.Item.TheVariants as item
use Rattle.relay_tasks.specs.declared.log.LogEntry.{LogEntry}
use Rattle.relay_tasks.specs.declared.task.HttpTask.{HttpTask}
use Rattle.relay_tasks.specs.declared.task.HttpTask.TheVariants as task
use Rattle.relay_h1.specs.Body.{ended_text}
use Rattle.relay_peer.specs.Body.{IsFrontOf, body_of}
use Rattle.relay_peer.proofs.FrontLemmas.{front_then}
use Rattle.relay_session.specs.Asked.{asks_of}
use Rattle.relay_session.specs.declared.task_text.Asks.TheVariants as asks
use Rattle.relay_core.specs.Past.{Origin}
use Rattle.relay_core.specs.Piece.{is_empty}
use Rattle.relay_calls.specs.Log.{requests_in}
use Rattle.relay_sides.specs.Filtered.{handed, is_head_request}
use Rattle.relay_sides.proofs.ClientPast.{body_of-append}
use Rattle.relay_filters.specs.Request.{AreChains, InChains, PieceChain, bytes_in, given_to, has_piece, is_end_by, passed, passes, pieces_in, put_in_item}
use Rattle.relay_attempt.specs.Order as without
use Rattle.relay_attempt.specs.Passed.{Passed}
use Rattle.relay_hooked.specs.Calls.{Filtering}
use Rattle.relay_hooked.specs.Neutral.{AreNeutral, ChangesNothing, LeavesIt}
use Rattle.relay_hooked.specs.Order.{IsInOrder}
use Rattle.relay_hooked.proofs.HalfLemmas.{body_same}
use Rattle.relay_hooked.proofs.MadeLemmas.{makes_neutral, part_neutral}

-- ---- the response

-- two heads ask alike where both are a HEAD, or none is
pub alike_head : (a b : List ℕ) → asks_of a ≡ asks_of b → is_head_request a ≡ is_head_request b
alike_head a b = on (is_head_request a) (is_head_request b)
  where
    on : (x y : Bool)
        → (if x then asks.Head else asks.Other) ≡ (if y then asks.Head else asks.Other) → x ≡ y
    on true true same = refl
    on true false same = absurd (cc)
    on false true same = absurd (cc)
    on false false same = refl

-- ---- the request

-- once the request has ended nothing passes
pub passed_none : (es : List LogEntry) → passed true es ≡ []
passed_none [] = refl
passed_none (e ∷ es) = passed_none es

-- a piece puts its bytes
put_bytes : (left : Option (List ℕ)) (end : Bool)
    → body_of
    (option_to_list (if is_empty left && not end then None else Some (task.Body left end)))
    ≡ unwrap_or left []
put_bytes None true = refl
put_bytes None false = refl
put_bytes (Some []) true = refl
put_bytes (Some []) false = refl
put_bytes (Some (b ∷ bytes)) end =
    let some : (length (b ∷ bytes) == 0) ≡ false = grind (arith, nat_tests) in
    rw some (append-nil (b ∷ bytes))

-- so does what was left
item_bytes : (given : Bool) (left : Item) → body_of (put_in_item given left) ≡ bytes_in left
item_bytes given (item.Piece left end) = put_bytes left _
item_bytes given (item.Request head) = refl
item_bytes given (item.Response head end) = refl
item_bytes given (item.Trailers fields) = refl
item_bytes given item.Nothing = refl
item_bytes given (item.Message bytes end) = refl
item_bytes given (item.Answer says) = refl
item_bytes given (item.Addressed peer reused) = refl
item_bytes given (item.Failure error) = refl
item_bytes given (item.Code code reused) = refl
item_bytes given (item.Status purged) = refl
item_bytes given (item.Action action) = refl
item_bytes given (item.Text text) = refl
item_bytes given (item.Kept kept) = refl
item_bytes given (item.Injected injected) = refl

-- what a call passes brings what it was given
pub call_bytes : (e : LogEntry) → LeavesIt e → body_of (passes false e) ≡ bytes_in e.input
call_bytes e n =
    ap (λ (o : Option Error).
    body_of (if false || is_some o then [] else put_in_item (has_piece e.input) e.output)) n.ok
    ∙ item_bytes (has_piece e.input) e.output ∙ ap bytes_in n.same

-- what passes by such calls is the front of what they were given
passed_front : (ended : Bool) (es : List LogEntry) → AreNeutral es
    → IsFrontOf (body_of (passed ended es)) (given_to es)
passed_front true es n =
    record {
      rest = given_to es;
      joined = ap (λ (l : List HttpTask). body_of l ++ given_to es)
          (passed_none es);
    }
passed_front false [] n = record { rest = []; joined = refl }
passed_front false (e ∷ es) n =
    let more = passed_front (is_end_by e) es n.1 in
    let behind = body_of (passed (is_end_by e) es) in
    record {
      rest = more.rest;
      joined = ap (λ (l : List ℕ). l ++ more.rest)
          (body_of-append (passes false e) (passed (is_end_by e) es))
          ∙ append_assoc (body_of (passes false e)) behind more.rest
          ∙ ap (λ (l : List ℕ). l ++ (behind ++ more.rest)) (call_bytes e n.0)
          ∙ ap (λ (l : List ℕ). bytes_in e.input ++ l) more.joined;
    }

-- ---- the calls of a piece

-- neutral calls, of two lists
neutral_first : (es fs : List LogEntry) → AreNeutral (es ++ fs) → AreNeutral es
neutral_first [] fs n = tt
neutral_first (e ∷ es) fs n = (n.0, neutral_first es fs n.1)

neutral_last : (es fs : List LogEntry) → AreNeutral (es ++ fs) → AreNeutral fs
neutral_last [] fs n = n
neutral_last (e ∷ es) fs n = neutral_last es fs n.1

-- what the calls of a piece came to left it, where each of them left what it was given
chain_neutral : (stand : Bool) (es : List LogEntry) (call : LogEntry) → PieceChain stand es call
    → AreNeutral es → LeavesIt call
chain_neutral stand es call (PieceChain.by_app none are is piece) n =
    (subst AreNeutral are n).0
chain_neutral stand es call (PieceChain.by_both there first m e are is was piece becomes) n =
    let both = subst AreNeutral (are ∙ ap (λ (l : List LogEntry). l ++ e ∷ []) m.are) n in
    subst LeavesIt (sym becomes) (record {
      ok = both.1.0.ok;
      same = both.1.0.same ∙ was ∙ both.0.same;
    })
chain_neutral stand es call (PieceChain.by_modules there are is bad piece) n =
    (subst AreNeutral are n).0

chains_neutral : (es calls : List LogEntry) → AreChains es calls → AreNeutral es
    → AreNeutral calls
chains_neutral es [] none n = tt
chains_neutral es (call ∷ calls) (stand, own, rest, are, chain, chains) n =
    let both = subst AreNeutral are n in (
      chain_neutral stand own call chain (neutral_first own rest both),
      chains_neutral rest calls chains (neutral_last own rest both),
    )

-- so it is with all pieces of a request
pub pieces_neutral : (calls : List LogEntry) (on : Type 0) → InChains (requests_in calls) on
    → AreNeutral calls → AreNeutral (pieces_in calls)
pieces_neutral calls on c n =
    chains_neutral c.done (pieces_in calls) c.chains
    (neutral_first c.done c.lost (subst AreNeutral c.are (part_neutral _ calls n)))

-- ---- the order

module _
    (f : Filtering) (s : Origin) (p : Passed) (closed : Bool) (order : IsInOrder f s p closed)
    (n : ChangesNothing f s p closed order)
  where
    -- both heads ask alike
    one_method : is_head_request s.sent.method ≡ is_head_request s.head.method
    one_method = alike_head s.sent.method s.head.method n.alike

    -- what was queued is what passed the filters, as it is handed on
    queued_same : order.queued ≡ map (handed s.sent.method) order.batched
    queued_same =
        makes_neutral (is_head_request s.head.method) f.stood f.calls _ order.batched order.queued
        s.sent.method one_method n.calls order.makes

    -- the pieces are the front of the body that came
    pieces_front : IsFrontOf (body_of order.pieces) (body_of order.came)
    pieces_front =
        let es = pieces_in f.calls in
        front_then (body_of order.pieces) (given_to es) (body_of order.came)
        (subst (λ (l : List HttpTask). IsFrontOf (body_of l) (given_to es))
        (sym order.passed.left) (passed_front f.at_first es
        (pieces_neutral f.calls (f.stopped ≡ None) order.chains n.calls)))
        (record {
          rest = order.passed.rest;
          joined = sym order.passed.read ∙ body_same order.came;
        })

    -- so it is an order without filters
    pub as_without : without.IsInOrder s p closed
    as_without = record {
      asks = order.asks;
      pieces = order.pieces;
      are_pieces = record {
        text = order.are_came.text;
        says = order.are_came.says;
        front = front_then (body_of order.pieces) (body_of order.came) order.are_came.text.bytes
            pieces_front order.are_came.front;
        ends_last = order.ends_last;
        whole = λ ends.
            let both = n.ends ends in
            let all = order.are_came.whole both.0 in (
              all.0,
              all.1 ∙ ap (λ (l : List ℕ). ended_text l all.0) (sym both.1),
            );
        headed = λ none. n.ends_too (order.are_came.headed none);
      };
      taken = order.taken;
      first_taken = order.first_taken;
      sent = order.sent;
      read = map (handed s.sent.method) order.read;
      are_of = record {
        given = order.read;
        are = refl;
        follow = order.are_said.follow;
        stays = n.stays;
        have_room = n.have_room;
        informed = order.are_said.informed;
        final = order.are_said.final;
        body = order.are_said.body;
        ends_last = order.are_said.ends_last;
        whole = order.are_said.whole;
        framed = order.are_said.framed;
      };
      batched = order.queued;
      first_batched = record {
        rest = map (handed s.sent.method) order.first_batched.rest;
        joined = ap (λ (l : List HttpTask). l
            ++ map (handed s.sent.method) order.first_batched.rest) queued_same
            ∙ sym (map-append (handed s.sent.method) order.batched order.first_batched.rest)
            ∙ ap (map (handed s.sent.method)) order.first_batched.joined;
      };
      closing = order.closing;
      passes = order.passes;
      closes_late = order.closes_late;
      written = order.written;
    }
