use Rattle.std.proofs.Common.{◌≡◌, map}
use Rattle.relay_tasks.proofs.message.MessageList.copy.Given as goal

-- the copy so far is what the loop has gone over
abbrev pub invariant-loop-message : goal.invariant-loop-message
invariant-loop-message l = l.copy ≡ map (λ message. message.now) l.yielded
