-- A shutdown watch that is set from a look on.
use Rattle.std.specs.Prelude.{ℕ, Bool, false, nat_le, Option, Some, None}
use Rattle.relay_links.specs.declared.shutdown_at.ShutdownAt.{ShutdownAt}

-- from which look on it is set, if ever
abbrev pub set_from : ShutdownAt → Option ℕ
set_from watch = watch.look

-- how often it was looked at
abbrev pub looks : ShutdownAt → ℕ
looks watch = watch.looks

-- how often it was seen set
abbrev pub times_seen : ShutdownAt → ℕ
times_seen watch = watch.seen

-- the watch is set at that look, counted from 1
abbrev pub is_set_at : Option ℕ → ℕ → Bool
is_set_at None look = false
is_set_at (Some from) look = nat_le from look
