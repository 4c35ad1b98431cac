-- Filters that change nothing, and what an exchange behind them is.
use Rattle.std.specs.Prelude.{◌≡◌, All, Bool, true, false, List, [], ◌∷◌, None}
use Rattle.std.specs.List.{list_any}
use Rattle.relay_tasks.specs.declared.log.LogEntry.{LogEntry}
use Rattle.relay_tasks.specs.Task.{is_end}
use Rattle.relay_core.specs.Past.{Origin}
use Rattle.relay_peer.specs.Body.{body_of}
use Rattle.relay_sides.specs.Filtered.{HasRoom, is_switch}
use Rattle.relay_attempt.specs.Agrees.{AsksAlike}
use Rattle.relay_attempt.specs.Order as without
use Rattle.relay_attempt.specs.Passed.{Passed}
use Rattle.relay_hooked.specs.Calls.{Filtering}
use Rattle.relay_hooked.specs.Order.{IsInOrder}

-- a call left what it was given, and answered no error
pub record LeavesIt (e : LogEntry) : Type 0 where
  pub ok : e.error ≡ None
  pub same : e.output ≡ e.input

-- so did each of the calls
abbrev pub AreNeutral : List LogEntry → Type 0
AreNeutral [] = Unit {0}
AreNeutral (e ∷ es) = LeavesIt e × AreNeutral es

-- the calls change nothing; the head that is sent asks for the response as the client's does, no
-- head of which switches protocols, and one that is to be chunked has room for that; and the
-- request ends for the peer exactly where the client's has ended, with all its bytes
pub record ChangesNothing
    (f : Filtering) (s : Origin) (p : Passed) (closed : Bool) (order : IsInOrder f s p closed)
    : Type 0 where
  pub calls : AreNeutral f.calls
  pub alike : AsksAlike s.head s.sent
  pub stays : list_any is_switch order.read ≡ false
  pub have_room : All (HasRoom s.sent.method) order.read
  pub ends : list_any is_end order.pieces ≡ true
      → (list_any is_end order.came ≡ true) × (body_of order.pieces ≡ body_of order.came)
  pub ends_too : list_any is_end order.came ≡ true → list_any is_end order.pieces ≡ true

-- an order behind filters that change nothing is one without filters
abbrev pub IsAsWithout : Type 0
IsAsWithout = (f : Filtering) (s : Origin) (p : Passed) (closed : Bool)
    (order : IsInOrder f s p closed) → ChangesNothing f s p closed order
    → without.IsInOrder s p closed
