-- How much an exchange behind filters does without asking its links: what it moves is no more than
-- twice the bytes that both links gave, and each end comes once.
use Rattle.std.specs.Prelude.{ℕ, ◌+◌, ◌≤◌, List, length}
use Rattle.relay_tasks.specs.declared.log.LogEntry.{LogEntry}
use Rattle.relay_links.specs.Link.{LinkState, LinkStart}
use Rattle.relay_core.specs.Counts.{CountsAs, ends_left, read_count}
use Rattle.relay_core.specs.Past.{Origin, UpPast}
use Rattle.relay_core.specs.Table.{State}
use Rattle.relay_core.specs.declared.step.Step.{Step}
use Rattle.relay_core.specs.declared.step.Step.TheVariants as step
use Rattle.relay_filters.specs.Request.{pieces_in}
use Rattle.relay_attempt.specs.Bound.{IsWithin, most_ends}
use Rattle.relay_attempt.specs.Passed.{Passed}
use Rattle.relay_hooked.specs.Calls.{calls_behind}
use Rattle.relay_hooked.specs.Exchange.{IsUnderWay}
use Rattle.relay_hooked.specs.Head.{core_in, link_of}
use Rattle.relay_hooked.specs.declared.exchange.HookedExchange.{HookedExchange}

-- how much was moved so far, by the calls of the exchange: each piece whose filters were called puts
-- one task at most, which is taken once; and each task of the response goes once in and once out,
-- but for those that are held
pub record Carries (moved : ℕ) (calls : List LogEntry) (s : State) (q : UpPast) : Type 0 where
  pub within : moved + length s.duplex.responses.tasks
      ≤ length (pieces_in calls) + length q.taken + (read_count s q + read_count s q)

module _ {L : Type 0} (state : L → LinkState) (start_at : L → LinkStart) where
  -- an exchange is under way that moved so much, a piece that put nothing counted as a task, and of
  -- which so many ends came
  pub record HasCounted (tasks ends : ℕ) (s : Origin) (link : LinkState) (ahead : List ℕ)
      (log : List LogEntry) (x : HookedExchange L) : Type 0 where
    pub passed : Passed
    pub under_way : IsUnderWay state start_at s passed link ahead log x
    pub carries : Carries tasks (calls_behind s.called log) (core_in log x) under_way.up
    pub left : ends + ends_left (core_in log x) ≤ most_ends

  -- what a turn counted, by its answer: one that moved counts as what it moved, and one that ends
  -- the exchange moves nothing
  abbrev pub CountsOn : ℕ → ℕ → Origin → LinkState → List ℕ → List LogEntry → List LogEntry
      → HookedExchange L → HookedExchange L → Step → Type 0
  CountsOn tasks ends s link ahead log log' old new step.Moved =
      (more_tasks more_ends : ℕ)
      → CountsAs (core_in log old) (core_in log' new) more_tasks more_ends
      → HasCounted (more_tasks + tasks) (more_ends + ends) s link ahead log' new
  CountsOn tasks ends s link ahead log log' old new (step.Waited pause) =
      HasCounted tasks ends s link ahead log' new
  CountsOn tasks ends s link ahead log log' old new step.Finished =
      IsWithin tasks ends s link (state (link_of new)) (start_at (link_of new))
  CountsOn tasks ends s link ahead log log' old new (step.Failed why) =
      IsWithin tasks ends s link (state (link_of new)) (start_at (link_of new))
