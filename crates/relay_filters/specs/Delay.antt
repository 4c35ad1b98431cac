-- The delays that calls asked for, together.
use Rattle.std.specs.Prelude.{ℕ, List, sum_by}

-- delays in milliseconds, summed
abbrev pub summed : List ℕ → ℕ
summed delays = sum_by (λ delay. delay) delays
