-- What came since a place, and counts since a place: kept where nothing comes, grown where it does.
use Rattle.std.proofs.Common.{◌≡◌, ℕ, ◌+◌, List, ◌++◌, length, drop, Option, Some, None, sym, subst, ap, ◌∙◌, append_assoc, append-nil, le_refl, length-append, drop_of_length-le, arith}
use Rattle.std.proofs.lemmas.List.{drop-append-le}
use Rattle.relay_links.specs.Count.{up, Counted}
use Rattle.relay_links.specs.Told.{more, told_length, Since}

-- at its end, a list has nothing since
pub Since-start : {X : Type 0} (ahead : List X) (told : Option (List X))
    → Since ahead (told_length told) told ahead
Since-start ahead None = tt
Since-start ahead (Some xs) =
    (le_refl (length xs), rw (drop_of_length-le xs (le_refl (length xs))) (append-nil ahead))

-- a list that gained nothing
pub Since-kept : {X : Type 0} (ahead : List X) (place : ℕ) (before after : Option (List X))
    (items : List X)
    → after ≡ before → Since ahead place before items → Since ahead place after items
Since-kept {X} ahead place before after items same since =
    subst (λ (told : Option (List X)). Since ahead place told items) (sym same) since

-- the list with a piece at its end
Since-more : {X : Type 0} (ahead : List X) (place : ℕ) (told : Option (List X))
    (items piece : List X)
    → Since ahead place told items → Since ahead place (more told piece) (items ++ piece)
Since-more ahead place None items piece since = tt
Since-more ahead place (Some xs) items piece (within, is) = (
  omega (arith, length-append xs piece),
  rw (drop-append-le place xs piece within)
      (sym (append_assoc ahead (drop place xs) piece) ∙ ap (λ (ys : List _). ys ++ piece) is),
)

-- a list that gained a piece
pub Since-grows : {X : Type 0} (ahead : List X) (place : ℕ) (before after : Option (List X))
    (items piece : List X)
    → after ≡ more before piece → Since ahead place before items
    → Since ahead place after (items ++ piece)
Since-grows ahead place before after items piece grown since =
    Since-kept ahead place (more before piece) after (items ++ piece) grown
    (Since-more ahead place before items piece since)

-- a count at its start
pub Counted-start : (count : ℕ) → Counted count count 0
Counted-start count = λ _. omega arith

-- a count that did not change
pub Counted-kept : (start before after n : ℕ) → after ≡ before → Counted start before n
    → Counted start after n
Counted-kept start before after n same counted = λ below. omega (arith, counted (omega arith))

-- a count that went up by one
pub Counted-up : (start before after n : ℕ) → after ≡ up before → Counted start before n
    → Counted start after (n + 1)
Counted-up start before after n raised counted = λ below. omega (arith, counted (omega arith))
