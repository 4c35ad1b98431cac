-- A clone is an equal value.
use Rattle.std.proofs.Common.{◌≡◌, List, [], ◌∷◌, refl}
use Rattle.std.specs.List.{AllZip}
use Rattle.std.specs.Option.{ForSome, ForNone}
use Rattle.std.specs.Prelude.{IsSome}
use Rattle.std.proofs.Props.{props}
use mathlib.Core.HLevel.{is_prop→PathP}
use Rattle.http_header.specs.FieldValue.{FieldValue}
use Rattle.http_header.specs.HeaderMap.{IsMapClone}
use Rattle.http_uri.specs.Uri.{HasParts}
use Rattle.http_uri.specs.declared.Uri.{Uri}
use Rattle.relay_tasks.specs.Head.{Fields}

-- values that are each equal make equal lists
pub values_equal : (old new : List FieldValue) → AllZip (λ v copy. copy ≡ v) old new → new ≡ old
values_equal [] [] same = refl
values_equal [] (y ∷ new) same = absurd same
values_equal (x ∷ old) [] same = absurd same
values_equal (x ∷ old) (y ∷ new) same = let rest = values_equal old new same.1 in cc

-- a clone of a field list is the same field list
pub fields_equal : (old new : Fields) → IsMapClone (λ v copy. copy ≡ v) old new → new ≡ old
fields_equal [] [] same = refl
fields_equal [] (y ∷ new) same = absurd same
fields_equal (x ∷ old) [] same = absurd same
fields_equal (x ∷ old) (y ∷ new) same =
    let rest = fields_equal old new same.1 in
    let values = values_equal x.1 y.1 same.0.1 in
    λ i. (same.0.0 i, values i) ∷ rest i

-- a URI is its parts: what else it holds are facts about them
pub uri_equal : (old new : Uri) → HasParts new old.scheme old.authority old.path_and_query → new ≡ old
uri_equal old new same =
    λ i. record {
      scheme = same.0 i;
      authority = same.1 i;
      path_and_query = same.2 i;
      absolute =
          is_prop→PathP (λ j. ForSome (same.0 j) (λ _. IsSome (same.1 j))) (λ j. Prim.hlevel props) new.absolute old.absolute i;
      authority_alone =
          is_prop→PathP (λ j. ForNone (same.0 j) (ForSome (same.1 j) (λ _. same.2 j ≡ []))) (λ j. Prim.hlevel props)
          new.authority_alone old.authority_alone i;
    }
