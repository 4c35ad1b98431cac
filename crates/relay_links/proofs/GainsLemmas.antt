-- Lists that are told as long as an object tells them: what they gained adds up.
use Rattle.std.proofs.Common.{◌≡◌, List, [], ◌++◌, Option, Some, None, ap, sym, ◌∙◌, append_assoc, append-nil}
use Rattle.std.proofs.lemmas.Option.{same_Some}
use Rattle.relay_links.specs.Told.{more, Gains}

-- a list that stays gained nothing
pub Gains-nothing : {X : Type 0} (before after : Option (List X)) → after ≡ before
    → Gains before [] after
Gains-nothing before None same = tt
Gains-nothing None (Some after) same = cc
Gains-nothing (Some before) (Some after) same = ap Some (append-nil before) ∙ sym same

-- a list that gained twice
pub Gains-twice : {X : Type 0} (before now after : Option (List X)) (xs ys : List X)
    → Gains before xs now → Gains now ys after → Gains before (xs ++ ys) after
Gains-twice before now None xs ys first second = tt
Gains-twice before None (Some after) xs ys first second = cc
Gains-twice None (Some now) (Some after) xs ys first second = cc
Gains-twice (Some before) (Some now) (Some after) xs ys first second =
    ap Some (sym (append_assoc before xs ys)
    ∙ ap (λ (zs : List _). zs ++ ys) (same_Some (before ++ xs) now first)) ∙ second
