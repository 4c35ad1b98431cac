-- At which ports a poller listens.
use Rattle.std.specs.Prelude.{ℕ, List, [], ◌∷◌, Option}
use Rattle.relay_links.specs.Told.{more}
use Rattle.relay_links.specs.declared.poller.Listening.{Listening}
use Rattle.relay_links.specs.declared.poller.Listening.TheVariants as listening

-- the ports behind a call that asked for one more
abbrev pub listened : Listening → Option (List ℕ) → ℕ → Option (List ℕ)
listened listening.Ready ports port = more ports (port ∷ [])
listened listening.Failed ports port = ports
