-- So far the set has the branches that can be taken among those passed.
use Rattle.std.proofs.Common.{◌≡◌, ◌&&◌, take}
use Rattle.std.specs.List.{list_any}
use Rattle.relay_links.specs.Branch.{has, is_same_branch}
use Rattle.relay_links.specs.declared.branch.Branch.{Branch}
use Rattle.relay_links.specs.declared.branch.TheConstants.{BRANCHES}
use Rattle.relay_core.specs.Table.{core, enabled}
use Rattle.relay_core.proofs.duplex.Duplex.enabled_set.Given as goal

-- the order is walked, and the set is right so far
abbrev pub invariant-loop-branch : goal.invariant-loop-branch
invariant-loop-branch g l =
    (l.branch-items ≡ BRANCHES)
    × ((b : Branch) → has l.set b
    ≡ list_any (λ x. is_same_branch x b
    && enabled (core l.self (g.D.Down.state l.down) (g.U.Up.state l.up)) x)
    (take l.branch-index BRANCHES))
