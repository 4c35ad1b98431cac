-- Schedules in memory.
use Rattle.std.specs.Prelude.{List, drop, Option}
use Rattle.relay_links.specs.declared.branch.Branch.{Branch}
use Rattle.relay_links.specs.declared.list_schedule.ListSchedule.{ListSchedule}

-- the branches that a list has left
abbrev pub branches_left : ListSchedule → List Branch
branches_left schedule = drop schedule.at schedule.branches.items

-- the answer of its last pick
abbrev pub last_of_list : ListSchedule → Option Branch
last_of_list schedule = schedule.last
