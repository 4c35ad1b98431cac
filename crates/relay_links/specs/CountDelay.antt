-- A delay that counts.
use Rattle.std.specs.Prelude.{ℕ}
use Rattle.relay_links.specs.declared.count_delay.CountDelay.{CountDelay}

-- how often it was called
abbrev pub delay_calls : CountDelay → ℕ
delay_calls delay = delay.calls

-- the sum of the milliseconds
abbrev pub delay_total : CountDelay → ℕ
delay_total delay = delay.total
