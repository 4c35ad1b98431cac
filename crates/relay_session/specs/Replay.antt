-- What is kept of the body of a request, so that another attempt sends it again from its first byte
-- on (RFC 9110, section 9.2.2).
use Rattle.std.specs.Prelude.{◌≡◌, ℕ, ◌<◌, ◌≤◌, Bool, true, false, List, [], ◌∷◌, length, Option, Some, None}
use Rattle.relay_session.specs.declared.replay.Replay.{Replay}
use Rattle.relay_session.specs.declared.replay.Replay.TheVariants as replay

-- how many bytes of a body are kept at most
abbrev pub most_kept : ℕ
most_kept = 65536

-- what is kept of a body of which these bytes were given out: all of them, where they are no more
-- than that, and else none. Where memory was wanted none is kept
abbrev pub Keeps : List ℕ → Replay → Type 0
Keeps body (replay.Kept bytes) = (bytes ≡ body) × (length body ≤ most_kept)
Keeps body replay.Truncated = most_kept < length body
Keeps body replay.Lost = Unit {0}

-- all of them are kept
abbrev pub is_kept : Replay → Bool
is_kept (replay.Kept bytes) = true
is_kept replay.Truncated = false
is_kept replay.Lost = false

-- bytes, where there are some
abbrev pub some_bytes : List ℕ → Option (List ℕ)
some_bytes [] = None
some_bytes (b ∷ bytes) = Some (b ∷ bytes)

-- what another attempt begins with: what is kept, where that is some
abbrev pub retry_buffer : Replay → Option (List ℕ)
retry_buffer (replay.Kept bytes) = some_bytes bytes
retry_buffer replay.Truncated = None
retry_buffer replay.Lost = None
