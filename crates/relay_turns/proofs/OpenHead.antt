-- A head that was turned down or relayed is open no more.
use Rattle.std.proofs.Common.{ℕ, Bool, List, Option}
use Rattle.relay_tasks.specs.Head.{RequestHead}
use Rattle.relay_tasks.specs.declared.Error.{Error}
use Rattle.relay_h1.specs.Verdict.{IsOpen}
use Rattle.relay_h1.proofs.VerdictLemmas.{HasRequest-IsOpen, IsRefusedRequest-IsOpen}
use Rattle.relay_tasks.specs.declared.log.LogEntry.{LogEntry}
use Rattle.relay_attempt.specs.Passed.{Passed}
use Rattle.relay_hooked.specs.Calls.{Filtering}
use Rattle.relay_hooked.specs.Order.{IsInOrderWith}
use Rattle.relay_request.specs.Passed.{Start, origin_at, asked}
use Rattle.relay_request.specs.Endings as endings
use Rattle.relay_request.specs.Endings.{IsTurnedDown}

-- a generated answer to an open head
pub turns_down_open : {bytes answer : List ℕ} {error : Option Error}
    → IsTurnedDown bytes answer error → IsOpen bytes → ⊥
turns_down_open {bytes} (endings.IsTurnedDown.has_bad_head why refused is told) open_head =
    IsRefusedRequest-IsOpen bytes why refused open_head
turns_down_open {bytes}
    (endings.IsTurnedDown.is_not_entered head framing len why has refused is told) open_head =
    HasRequest-IsOpen bytes head framing len has open_head
turns_down_open {bytes}
    (endings.IsTurnedDown.asks_to_connect head framing len has entered connect is told) open_head =
    HasRequest-IsOpen bytes head framing len has open_head

-- the head of an exchange is open no more
pub exchange_open : (refused : Option Error) (f : Filtering) (s : Start) (p : Passed)
    (head sent : RequestHead) (reused : Bool) (began : List LogEntry) (closed : Bool)
    → IsInOrderWith refused f (origin_at s head sent reused began) p closed
    → IsOpen (asked s p) → ⊥
exchange_open refused f s p head sent reused began closed order open_head =
    HasRequest-IsOpen (asked s p) head order.asks.framing order.asks.len order.asks.has open_head
