-- What was queued in an exchange that failed.
--
--   queued_in   what was queued for the client, and the ends that were asked for behind it
--   at_written  what was sent and written is in order too when more of what was queued is written
use Rattle.std.proofs.Common.{ℕ, Bool, List, ◌++◌, Option}
use Rattle.relay_tasks.specs.declared.error.Error.{Error}
use Rattle.relay_tasks.specs.declared.task.HttpTask.{HttpTask}
use Rattle.relay_core.specs.Past.{Origin}
use Rattle.relay_peer.specs.Body.{IsFrontOf}
use Rattle.relay_attempt.specs.Passed.{Passed}
use Rattle.relay_hooked.specs.Calls.{Filtering}
use Rattle.relay_hooked.specs.Order.{IsInOrderWith, text_of}
use Rattle.relay_request.specs.Answer.{past_at}

-- what was queued for the client, and the ends that were asked for behind it
abbrev pub queued_in : {refused : Option Error} {f : Filtering} {o : Origin} {p : Passed}
    {closed : Bool} → IsInOrderWith refused f o p closed → List HttpTask
queued_in order = order.queued ++ order.closing

-- what was sent and written is in order too when more of what was queued is written
abbrev pub at_written : (refused : Option Error) (f : Filtering) (o : Origin) (p : Passed)
    (before : List ℕ) (closed : Bool)
    (order : IsInOrderWith refused f o (past_at p before) closed)
    → IsFrontOf p.written (text_of order).text → IsInOrderWith refused f o p closed
at_written refused f o p before closed order front = record {
  are_filters = order.are_filters;
  asks = record { framing = order.asks.framing; len = order.asks.len; has = order.asks.has };
  came = order.came;
  are_came = order.are_came;
  ended = order.ended;
  pieces = order.pieces;
  chains = order.chains;
  passed = order.passed;
  ends_last = order.ends_last;
  taken = order.taken;
  first_taken = order.first_taken;
  sent = order.sent;
  read = order.read;
  are_said = order.are_said;
  batched = order.batched;
  first_batched = order.first_batched;
  queued = order.queued;
  makes = order.makes;
  closing = order.closing;
  passes = order.passes;
  closes_late = order.closes_late;
  written = front;
}
