-- The first Host field and the number of them say what the list of them is.
use Rattle.std.proofs.Common.{◌≡◌, ℕ, ◌<◌, List, [], ◌∷◌, length, refl, arith}
use Rattle.std.specs.Prelude.{Some, None, slice_get}

-- there is no first Host exactly where there is none
pub none_of_first : (hosts : List (List ℕ)) → slice_get hosts 0 ≡ None → hosts ≡ []
none_of_first [] none = refl
none_of_first (host ∷ hosts) none = absurd cc

-- a first Host that is not followed by another is the only one
pub only_of_first : (hosts : List (List ℕ)) (text : List ℕ) → slice_get hosts 0 ≡ Some text
    → ¬ (1 < length hosts) → hosts ≡ text ∷ []
only_of_first [] text first few = absurd cc
only_of_first (host ∷ []) text first few = cc
only_of_first (host ∷ next ∷ hosts) text first few = absurd (few (omega arith))
