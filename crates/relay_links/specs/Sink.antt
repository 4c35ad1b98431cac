-- What a sink means, and what one write to it does.
use Rattle.std.specs.Prelude.{◌≡◌, ℕ, ◌≤◌, List, length, take, Option}
use Rattle.relay_links.specs.declared.sink.Wrote.{Wrote}
use Rattle.relay_links.specs.declared.sink.Wrote.TheVariants.{Took, Failed, OutOfMemory}
use Rattle.relay_links.specs.Count.{last_count, Rose}
use Rattle.relay_links.specs.Told.{more}

-- a sink: what it took, in order, where it tells that, and how many of its writes failed
pub record SinkState : Type 0 where
  pub taken : Option (List ℕ)
  pub faults : ℕ

-- a write took the first n bytes of the part
pub record TakesFirst (before : SinkState) (part : List ℕ) (n : ℕ)
    (after : SinkState) : Type 0 where
  pub some : 1 ≤ n
  pub fits : n ≤ length part
  pub taken : after.taken ≡ more before.taken (take n part)
  pub faults : after.faults ≡ before.faults
  pub faults_fit : before.faults ≤ last_count

-- a write failed: the count of faults rose, and nothing was taken
pub record FailsSink (before after : SinkState) : Type 0 where
  pub taken : after.taken ≡ before.taken
  pub faults : Rose before.faults after.faults
  pub fits_before : before.faults ≤ last_count
  pub faults_fit : after.faults ≤ last_count

-- what a write does, by its answer; when out of memory nothing changed
abbrev pub Pushes : SinkState → List ℕ → SinkState → Wrote → Type 0
Pushes before part after (Took n) = TakesFirst before part n after
Pushes before part after Failed = FailsSink before after
Pushes before part after OutOfMemory = after ≡ before
