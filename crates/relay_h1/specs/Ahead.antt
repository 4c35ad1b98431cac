-- The bytes that were read ahead, as they lie in their buffer.
use Rattle.std.specs.Prelude.{ℕ, ◌-◌, ◌≤◌, List, length, slice_range}
use Rattle.relay_h1.specs.HeadEnd.{NoMarkBefore}

-- the bytes ahead lie in the buffer from `start` to `end`, and none of the first `searched` of
-- them, which leave out the last three, begins a CR LF CR LF
pub record IsAhead (buffer : List ℕ) (start end searched : ℕ) : Type 0 where
  pub ordered : start ≤ end
  pub within : end ≤ length buffer
  pub margin : searched ≤ end - start - 3
  pub known : NoMarkBefore searched (slice_range buffer start end)
