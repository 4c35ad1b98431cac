use Rattle.std.proofs.Common.{◌≡◌, ◌++◌, length}
use Rattle.relay_script.proofs.filtered.joined.Given as goal

-- what was added and what is left are both lists
abbrev pub invariant-loop-message : goal.invariant-loop-message
invariant-loop-message l = l.joined ++ l.rest ≡ l.list ++ l.more

-- each message is taken once
abbrev pub decreases-loop-message : goal.decreases-loop-message
decreases-loop-message l = length l.rest
