-- How much an exchange over HTTP/1 links does without asking them: the tasks that it moves are no
-- more than twice the bytes that both links gave, and each end comes once.
use Rattle.std.specs.Prelude.{ℕ, ◌+◌, ◌*◌, ◌≤◌, ◌<◌, List, [], length}
use Rattle.relay_links.specs.Link.{LinkState, LinkStart}
use Rattle.relay_links.specs.Told.{Since}
use Rattle.relay_core.specs.Counts.{Carries, CountsAs, ends_left}
use Rattle.relay_core.specs.Past.{Origin}
use Rattle.relay_core.specs.Table.{State}
use Rattle.relay_core.specs.declared.step.Step.{Step}
use Rattle.relay_core.specs.declared.step.Step.TheVariants as step
use Rattle.relay_attempt.specs.Exchange.{IsUnderWay, core_of}
use Rattle.relay_attempt.specs.Head.{link_of}
use Rattle.relay_attempt.specs.Passed.{Passed}
use Rattle.relay_attempt.specs.declared.h1_exchange.H1Exchange.{H1Exchange}

-- how many tasks are moved at most where both links gave so many bytes: each task has a byte, and
-- is put once and taken once. The heads have more bytes than the ends have none
abbrev pub most_tasks : ℕ → ℕ → ℕ
most_tasks asked got = 2 * (asked + got)

-- how many ends an exchange has: those of the client's request and of its response, of both halves,
-- and of the response's body
abbrev pub most_ends : ℕ
most_ends = 5

-- so many tasks were moved between links that gave these bytes, and so many ends came, of which one
-- is left at least
pub record IsWithin
    (tasks ends : ℕ) (s : Origin) (client peer : LinkState) (start : LinkStart) : Type 0 where
  pub came : List ℕ
  pub got : List ℕ
  pub client_gave : Since [] s.given client.given came
  pub peer_gave : Since [] start.given peer.given got
  pub tasks_within : tasks < most_tasks (length s.ahead + length came) (length got)
  pub ends_within : ends < most_ends

module _ {L : Type 0} (state : L → LinkState) (start_at : L → LinkStart) where
  -- the core of an exchange
  abbrev pub core_in : H1Exchange L → State
  core_in x = core_of state start_at x.exchange.duplex x.down x.exchange.up

  -- an exchange is under way in which so many tasks were moved, and so many ends came
  pub record HasCounted (tasks ends : ℕ) (s : Origin) (link : LinkState) (ahead : List ℕ)
      (x : H1Exchange L) : Type 0 where
    pub passed : Passed
    pub under_way : IsUnderWay state start_at s passed link ahead x
    pub carries : Carries tasks (core_in x) under_way.down under_way.up
    pub left : ends + ends_left (core_in x) ≤ most_ends

  -- what a turn counted, by its answer: one that moved counts as what it moved, and one that ends
  -- the exchange moves no task
  abbrev pub CountsOn : ℕ → ℕ → Origin → LinkState → List ℕ → H1Exchange L → H1Exchange L → Step
      → Type 0
  CountsOn tasks ends s link ahead old new step.Moved =
      (more_tasks more_ends : ℕ) → CountsAs (core_in old) (core_in new) more_tasks more_ends
      → HasCounted (more_tasks + tasks) (more_ends + ends) s link ahead new
  CountsOn tasks ends s link ahead old new (step.Waited pause) =
      HasCounted tasks ends s link ahead new
  CountsOn tasks ends s link ahead old new step.Finished =
      IsWithin tasks ends s link (state (link_of new)) (start_at (link_of new))
  CountsOn tasks ends s link ahead old new (step.Failed why) =
      IsWithin tasks ends s link (state (link_of new)) (start_at (link_of new))
