-- A request behind filters that change nothing never ends short, where both heads agree.
--
--   never_ends_short   from IsInOrder, Agrees, AreNeutral and SendsShort: nothing
use Rattle.std.proofs.Common.{◌≡◌, ℕ, Bool, true, false, List, [], ◌∷◌, ◌++◌, drop, length, length-append, refl, sym, ap, ◌∙◌, arith, inl, None}
use Rattle.std.specs.List.{list_any}
use Rattle.std.proofs.lemmas.List.Elements.{All-nil}
use Rattle.std.proofs.lemmas.List.Folds.{list_any-append}
use Rattle.relay_tasks.specs.Task.{is_end}
use Rattle.relay_tasks.specs.declared.task.HttpTask.{HttpTask}
use Rattle.relay_peer.specs.Body.{IsFrontOf, sent_as}
use Rattle.relay_peer.specs.RequestWriting.{sent_wire}
use Rattle.relay_peer.proofs.FrontLemmas.{front_then}
use Rattle.relay_session.specs.Asked.{request_of}
use Rattle.relay_session.specs.TaskWire.{wire}
use Rattle.relay_session.specs.declared.task_text.Place.TheVariants as place
use Rattle.relay_core.specs.Past.{Origin}
use Rattle.relay_core.proofs.BoolLemmas.{or_inl}
use Rattle.relay_sides.specs.Filtered.{HasRoom}
use Rattle.relay_attempt.specs.Agrees.{Agrees}
use Rattle.relay_attempt.specs.Order as without
use Rattle.relay_attempt.specs.Order.{AreOf, ArePieces}
use Rattle.relay_attempt.specs.Passed.{Passed, asked}
use Rattle.relay_valid.proofs.UnshortLemmas.{request_unshort}
use Rattle.relay_hooked.specs.Calls.{Filtering}
use Rattle.relay_hooked.specs.Neutral.{AreNeutral}
use Rattle.relay_hooked.specs.Order.{IsInOrder, SendsShort}
use Rattle.relay_still.proofs.RequestLemmas.{whole_pieces}

-- what came, where nothing was sent, written or given
abbrev came_alone : Passed → Passed
came_alone p = record p { written = []; got = []; sent = [] }

-- no end is among no tasks
none_behind : (front behind : List HttpTask) → [] ≡ front ++ behind → behind ≡ []
none_behind front [] are = refl
none_behind front (x ∷ xs) are =
    absurd (omega (
      arith,
      ap (λ (l : List HttpTask). length l) are,
      length-append front (x ∷ xs),
    ))

-- no task is one of no bytes
none_of : (method : List ℕ) (upgrade : Bool) → AreOf method upgrade false [] []
none_of method upgrade = record {
  given = [];
  are = refl;
  follow = tt;
  stays = refl;
  have_room = All-nil (HasRoom method);
  informed = λ text says. record { rest = text.informed; joined = refl };
  final = λ head is. cc;
  body = λ text says. record { rest = text.body; joined = refl };
  ends_last = λ front behind are found. none_behind front behind are;
  whole = λ found. cc;
  framed = λ head is. cc;
}

module _ (s : Origin) (p : Passed) where
  -- an order of pieces of the body, without filters and without a response
  abbrev order_of : (asks : without.Asks s p) (pieces taken : List HttpTask)
      → ArePieces asks.framing (drop asks.len (asked s p)) pieces → IsFrontOf taken pieces
      → without.IsInOrder s (came_alone p) false
  order_of asks pieces taken are_pieces first = record {
    asks = record { framing = asks.framing; len = asks.len; has = asks.has };
    pieces = pieces;
    are_pieces = are_pieces;
    taken = taken;
    first_taken = first;
    sent = record { rest = sent_wire (sent_as s.sent taken); joined = refl };
    read = [];
    are_of = none_of s.sent.method s.asked;
    batched = [];
    first_batched = record { rest = []; joined = refl };
    closing = [];
    passes = refl;
    closes_late = inl refl;
    written = record { rest = (wire (request_of s.head) place.NoHead []).text; joined = refl };
  }

  -- such a request does not end short
  pub never_ends_short : (f : Filtering) (closed : Bool) (o : IsInOrder f s p closed)
      → Agrees s.head s.sent → AreNeutral f.calls → SendsShort s o.taken → ⊥
  never_ends_short f closed o agrees n short =
      let among = front_then short.front o.taken o.pieces short.first o.first_taken in
      let ends : list_any is_end o.pieces ≡ true =
      sym (ap (list_any is_end) among.joined) ∙ list_any-append is_end short.front among.rest
      ∙ or_inl (list_any is_end short.front) (list_any is_end among.rest) short.ended in
      let whole = whole_pieces f s p closed None o n ends in
      apart (sym short.short
      ∙ request_unshort s agrees (came_alone p) false
      (order_of o.asks o.pieces o.taken whole o.first_taken) short.front short.pieces short.first
      short.ended short.joined)
    where
      apart : true ≡ false → ⊥
      apart same = cc
