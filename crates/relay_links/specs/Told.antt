-- Lists that an object of the outside may tell: what they gain, and what came since a place.
use Rattle.std.specs.Prelude.{◌≡◌, ℕ, ◌≤◌, List, ◌++◌, length, drop, Option, Some, None, option_map}

-- the list with a piece at its end, where the list is told
abbrev pub more : {X : Type 0} → Option (List X) → List X → Option (List X)
more told piece = option_map (λ xs. xs ++ piece) told

-- the list with a piece at its end is the list that is told after, where one is told then
abbrev pub Gains : {X : Type 0} → Option (List X) → List X → Option (List X) → Type 0
Gains before piece None = Unit {0}
Gains before piece (Some after) = more before piece ≡ Some after

-- the length of the list, and 0 where it is not told
abbrev pub told_length : {X : Type 0} → Option (List X) → ℕ
told_length None = 0
told_length (Some xs) = length xs

-- what was ahead, and then what the list gained since that place, are these items
abbrev pub Since : {X : Type 0} → List X → ℕ → Option (List X) → List X → Type 0
Since ahead place None items = Unit {0}
Since ahead place (Some told) items = (place ≤ length told) × (ahead ++ drop place told ≡ items)
