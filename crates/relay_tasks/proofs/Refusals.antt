-- A refusal of a map is the refusal of the head that holds it.
use Rattle.std.proofs.Common.{◌↔◌, refl}
use Rattle.std.specs.Prelude.{Ok, Err, IsErrOf}
use Rattle.http_header.specs.declared.HeaderMapError.{HeaderMapError}
use Rattle.http_header.specs.declared.HeaderMapError.TheVariants as map
use Rattle.relay_tasks.specs.Error.{refused}
use Rattle.relay_tasks.specs.Fields.{map_failure}
use Rattle.relay_tasks.specs.declared.error.Fail.TheVariants as fail
use Rattle.relay_tasks.specs.declared.context.Context.TheVariants as about

-- a map answers that it is full exactly where the head answers that it is too long
pub full_as_head : {T U : Type 0} (e : HeaderMapError) (P : Type 0) → (IsErrOf {T = T} (Err e) map.MaxSizeReached ↔ P)
    → IsErrOf {T = U} (Err (map_failure e)) (fail.Error (refused about.HeadTooLong)) ↔ P
full_as_head map.MaxSizeReached P full = (λ _. full.0 refl, λ _. refl)
full_as_head map.OutOfMemory P full = (λ h. absurd cc, λ p. absurd (let h = full.1 p in cc))

-- what was done was not refused
pub done_not_full : {T U E F : Type 0} (x : T) (y : U) (e : E) (f : F) (P : Type 0) → (IsErrOf (Ok x) e ↔ P) → (IsErrOf (Ok y) f ↔ P)
done_not_full x y e f P full = (λ h. absurd cc, λ p. absurd (let h = full.1 p in cc))
