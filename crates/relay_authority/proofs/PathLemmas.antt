-- Which line of the table for an HTTP/2 path applies.
use Rattle.std.proofs.Common.{◌≡◌, ℕ, List, ◌∷◌, [], true, false, inl, inr, refl, sym, ◌∙◌}
use Rattle.std.specs.Prelude.{Bool, IsTrue, IsUtf8, Option, Some, None}
use Rattle.relay_tasks.specs.declared.Context.{Context}
use Rattle.relay_tasks.specs.declared.Context.TheVariants as about
use Rattle.relay_authority.specs.Http2.{PathFor, TakenAs, is_origin, path_of_rest}
use Rattle.relay_authority.specs.Target.{Parts, absolute_parts, is_ambiguous}

-- a test that is off is not on
off : (test : Bool) → test ≡ false → ¬ (IsTrue test)
off test fails on = let clash = sym fails ∙ on in absurd cc

module _ (target : List ℕ) (utf8 : IsUtf8 target) where
  -- a target in origin form is the path
  pub of_origin : is_origin target ≡ true → (refusal : Option Context) (path : List ℕ)
      → TakenAs target refusal path
      → PathFor target refusal path
  of_origin origin refusal path taken = inr ((λ bad. bad utf8), inl (origin, taken))

  -- an ambiguous target is refused
  pub of_ambiguous : is_origin target ≡ false → is_ambiguous target ≡ true
      → PathFor target (Some about.Ambiguous) []
  of_ambiguous other ambiguous = inr ((λ bad. bad utf8), inr (off _ other, inl (ambiguous, refl)))

  -- a target without parts has the path of the root
  pub of_none : is_origin target ≡ false → is_ambiguous target ≡ false
      → absolute_parts target ≡ None
      → (refusal : Option Context) (path : List ℕ) → TakenAs (47 ∷ []) refusal path
      → PathFor target refusal path
  of_none other clear none refusal path taken =
      inr ((λ bad. bad utf8), inr (off _ other, inr (off _ clear, rw none taken)))

  -- an absolute target has the path that its rest says
  pub of_absolute : (parts : Parts) → is_origin target ≡ false → is_ambiguous target ≡ false
      → absolute_parts target ≡ Some parts
      → (refusal : Option Context) (path : List ℕ) → TakenAs (path_of_rest parts.rest) refusal path
      → PathFor target refusal path
  of_absolute parts other clear absolute refusal path taken =
      inr ((λ bad. bad utf8), inr (off _ other, inr (off _ clear, rw absolute taken)))
