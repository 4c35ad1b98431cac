-- Setting or removing a field keeps the names of a field list apart, and the values of other names.
use Rattle.std.proofs.Common.{ℕ, List, [], ◌∷◌, sym, subst, Option, Some, None, MatchOption}
use Rattle.http_header.specs.FieldValue.{FieldValue}
use Rattle.http_header.specs.HeaderMap.{IsUnique, index_of, insert, remove, remove_at, update}
use Rattle.http_header.specs.Places.{IsAbsent, IsAt}
use Rattle.http_header.proofs.BucketsLemmas.{IsUnique-push, IsUnique-swap_remove, IsUnique-with_values}
use Rattle.http_header.proofs.PlacesLemmas.{index_of_cases}
use Rattle.relay_tasks.specs.Head.{Fields}

-- a field that is set stands once
pub set_unique : (fields : Fields) (name : List ℕ) (value : FieldValue) → IsUnique fields
    → IsUnique (insert fields name value)
set_unique fields name value unique = on (index_of fields name) (index_of_cases fields name)
  where
    on : (o : Option ℕ) → MatchOption o (IsAbsent fields name) (IsAt fields name)
        → IsUnique (update fields name (λ _. value ∷ []))
    on None x =
        subst IsUnique (sym (x.updates (λ _. value ∷ [])))
        (IsUnique-push fields (name, value ∷ []) x.absent unique)
    on (Some i) x =
        subst IsUnique (sym (x.updates (λ _. value ∷ [])))
        (IsUnique-with_values fields i (value ∷ []) x.within unique)

-- the fields that are left stand once
pub removed_unique : (fields : Fields) (name : List ℕ) → IsUnique fields
    → IsUnique (remove fields name)
removed_unique fields name unique = on (index_of fields name) (index_of_cases fields name)
  where
    on : (o : Option ℕ) → MatchOption o (IsAbsent fields name) (IsAt fields name)
        → IsUnique (remove_at fields o)
    on None x = unique
    on (Some i) x = IsUnique-swap_remove fields i x.within unique
