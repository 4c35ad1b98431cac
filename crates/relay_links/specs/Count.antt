-- Counts that the outside tells: each is a u64, never falls, and stands still at its last value.
use Rattle.std.specs.Prelude.{◌≡◌, ℕ, ◌+◌, ◌-◌, ◌^◌, ◌<◌, min}

-- the last value of a count
abbrev pub last_count : ℕ
last_count = 2 ^ 64 - 1

-- the count after one more
abbrev pub up : ℕ → ℕ
up n = min (n + 1) last_count

-- the count rose; standing at its last value counts as risen
abbrev pub Rose : ℕ → ℕ → Type 0
Rose before after = after < last_count → before < after

-- the count rose by n, as long as it has not come to its last value
abbrev pub Counted : ℕ → ℕ → ℕ → Type 0
Counted before after n = after < last_count → after ≡ before + n
