-- What passed between the outside and one exchange.
use Rattle.std.specs.Prelude.{ℕ, List, ◌++◌}
use Rattle.relay_core.specs.Past.{Origin}

-- the bytes that the client's link gave and took since the request began, and those that the peer's
-- link gave and took since it was handed out
pub record Passed : Type 0 where
  pub came : List ℕ
  pub written : List ℕ
  pub got : List ℕ
  pub sent : List ℕ

-- the client's bytes, from those that were read ahead on
abbrev pub asked : Origin → Passed → List ℕ
asked s p = s.ahead ++ p.came
