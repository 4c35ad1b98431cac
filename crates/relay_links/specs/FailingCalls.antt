-- Calls of which those with listed numbers fail.
use Rattle.std.specs.Prelude.{ℕ, Bool, ◌==◌, List}
use Rattle.std.specs.List.{list_any}
use Rattle.relay_links.specs.declared.failing_calls.FailingCalls.{FailingCalls}
use Rattle.relay_links.specs.Count.{up}

-- the call with that number fails
abbrev pub fails_at : List ℕ → ℕ → Bool
fails_at numbers call = list_any (λ n. n == call) numbers

-- the next call fails
abbrev pub next_fails : FailingCalls → Bool
next_fails calls = fails_at calls.numbers.items (up calls.count)

-- the calls after one more
abbrev pub after_call : FailingCalls → FailingCalls
after_call calls = record calls { count = up calls.count }
