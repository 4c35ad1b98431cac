-- The delays that calls of a request asked for, as the outside's `Delay` counts them: how many were
-- handed to it, and how long they are together.
use Rattle.std.specs.Prelude.{◌≡◌, ℕ, ◌+◌, min, List, [], ◌∷◌, drop, length}
use Rattle.relay_tasks.specs.Log.{delays_of}
use Rattle.relay_tasks.specs.declared.log.LogEntry.{LogEntry}
use Rattle.relay_links.specs.Count.{last_count, up}

-- how often a `Delay` was called, once it was called for each of these too
abbrev pub calls_behind : ℕ → List ℕ → ℕ
calls_behind calls [] = calls
calls_behind calls (delay ∷ delays) = calls_behind (up calls) delays

-- and for how many milliseconds in all
abbrev pub total_behind : ℕ → List ℕ → ℕ
total_behind total [] = total
total_behind total (delay ∷ delays) = total_behind (min (total + delay) last_count) delays

-- these delays were handed over, each once: from so many calls for so long to that
pub record HandsOver (from_calls from_total to_calls to_total : ℕ) (delays : List ℕ) : Type 0 where
  pub calls : to_calls ≡ calls_behind from_calls delays
  pub total : to_total ≡ total_behind from_total delays

-- the delays that the calls asked for by which one log became the other
abbrev pub delays_since : List LogEntry → List LogEntry → List ℕ
delays_since log log' = drop (length (delays_of log)) (delays_of log')
