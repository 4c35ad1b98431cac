-- The items that a script has left, and those from the first that answers.
use Rattle.std.specs.Prelude.{ℕ, Bool, cond, List, [], ◌∷◌}

-- the items, of the first of which so many waits are done: `rest` is what is left of it
abbrev pub begun : {X : Type 0} → (X → ℕ → X) → List X → ℕ → List X
begun rest [] done = []
begun rest (x ∷ xs) done = rest x done ∷ xs

-- the items from the first that is not passed over
abbrev pub unpassed : {X : Type 0} → (X → Bool) → List X → List X
unpassed passed [] = []
unpassed passed (x ∷ xs) = cond (passed x) (unpassed passed xs) (x ∷ xs)

-- the items behind the first
abbrev pub behind : {X : Type 0} → List X → List X
behind [] = []
behind (x ∷ xs) = xs
