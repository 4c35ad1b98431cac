-- A schedule that goes round the branches.
use Rattle.std.specs.Prelude.{ℕ, ◌+◌, List, ◌++◌, take, drop, Option, Some, None}
use Rattle.relay_links.specs.declared.branch.Branch.{Branch}
use Rattle.relay_links.specs.declared.round_robin.RoundRobin.{RoundRobin}
use Rattle.relay_links.specs.Branch.{place_of}
use Rattle.relay_links.specs.declared.branch.TheConstants.{BRANCHES}

-- the answer of its last pick
abbrev pub last_of_round : RoundRobin → Option Branch
last_of_round schedule = schedule.last

-- how many branches stand up to that answer, in the order
abbrev pub places_up_to : Option Branch → ℕ
places_up_to None = 0
places_up_to (Some branch) = place_of branch + 1

-- every branch, going round from behind that answer
abbrev pub round_from : Option Branch → List Branch
round_from last = drop (places_up_to last) BRANCHES ++ take (places_up_to last) BRANCHES
