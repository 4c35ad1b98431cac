-- At which ports a server listens.
use Rattle.std.specs.Prelude.{◌≡◌, ◌⊎◌, ℕ, List, [], ◌∷◌, Option}
use Rattle.relay_links.specs.Told.{more}

-- a server listens at the port that it was asked to listen at, and at no other; or at none more,
-- and then it serves nobody
abbrev pub ListensAt : Option (List ℕ) → Option (List ℕ) → ℕ → ℕ → Type 0
ListensAt before after port served =
    (after ≡ more before (port ∷ [])) ⊎ ((after ≡ before) × (served ≡ 0))
