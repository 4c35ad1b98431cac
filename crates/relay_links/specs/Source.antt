-- What a source means, and what one read of it does.
use Rattle.std.specs.Prelude.{◌≡◌, ℕ, ◌≤◌, Bool, true, false, List, [], ◌++◌, length, take, Option, option_map}
use Rattle.relay_links.specs.declared.source.Read.{Read}
use Rattle.relay_links.specs.declared.source.Read.TheVariants.{Bytes, End, Failed}
use Rattle.relay_links.specs.Count.{last_count, Rose}
use Rattle.relay_links.specs.Told.{more}

-- a source: what it gave and what it has left, in order, where it tells them; whether it has
-- answered End; and how many of its reads failed
pub record SourceState : Type 0 where
  pub given : Option (List ℕ)
  pub left : Option (List ℕ)
  pub ended : Bool
  pub faults : ℕ

-- a read gave the first n bytes of the room, which are the first that were left
pub record GivesFirst (before : SourceState) (room : List ℕ) (n : ℕ)
    (after : SourceState) : Type 0 where
  pub some : 1 ≤ n
  pub fits : n ≤ length room
  pub was_open : before.ended ≡ false
  pub given : after.given ≡ more before.given (take n room)
  pub left : before.left ≡ option_map (λ rest. take n room ++ rest) after.left
  pub ended : after.ended ≡ false
  pub faults : after.faults ≡ before.faults
  pub faults_fit : before.faults ≤ last_count

-- the source has given all: nothing is left
pub record EndsSource (before after : SourceState) : Type 0 where
  pub given : after.given ≡ before.given
  pub left : before.left ≡ option_map (λ _. []) after.left
  pub left_after : after.left ≡ before.left
  pub ended : after.ended ≡ true
  pub faults : after.faults ≡ before.faults
  pub faults_fit : before.faults ≤ last_count

-- a read failed: the count of faults rose, and nothing else changed
pub record FailsSource (before after : SourceState) : Type 0 where
  pub was_open : before.ended ≡ false
  pub given : after.given ≡ before.given
  pub left : after.left ≡ before.left
  pub ended : after.ended ≡ false
  pub faults : Rose before.faults after.faults
  pub fits_before : before.faults ≤ last_count
  pub faults_fit : after.faults ≤ last_count

-- what a read does, by its answer: `room` is the room as the call left it
abbrev pub Pulls : SourceState → List ℕ → SourceState → Read → Type 0
Pulls before room after (Bytes n) = GivesFirst before room n after
Pulls before room after End = EndsSource before after
Pulls before room after Failed = FailsSource before after
