-- How much work a turn was, and how it adds up.
use Rattle.std.specs.Prelude.{ℕ, ◌+◌, ◌≤◌, min, if◌then◌else◌, nat_lt}
use Rattle.relay_links.specs.Count.{last_count, up}
use Rattle.relay_request.specs.declared.work.Work.{Work}

-- all the work of a turn
abbrev pub total_work : Work → ℕ
total_work work = work.used + work.moved + work.ended + work.called

-- the work so far and that of one more turn, each number up to its last value
abbrev pub added_work : Work → Work → Work
added_work work turn = record {
  used = min (work.used + turn.used) last_count;
  moved = min (work.moved + turn.moved) last_count;
  ended = min (work.ended + turn.ended) last_count;
  called = min (work.called + turn.called) last_count;
}

-- no number of the work fell
pub record Grows (before after : Work) : Type 0 where
  pub used : before.used ≤ after.used
  pub moved : before.moved ≤ after.moved
  pub ended : before.ended ≤ after.ended
  pub called : before.called ≤ after.called

-- the turns so far and one more, where that did some work
abbrev pub turns_after : ℕ → Work → ℕ
turns_after turns work = if nat_lt 0 (total_work work) then up turns else turns
