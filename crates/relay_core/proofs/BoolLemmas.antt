-- Tests that are joined, taken apart.
use Rattle.std.proofs.Common.{◌≡◌, Bool, true, false, ◌&&◌, ◌||◌, not, refl, ◌⊎◌, inl, inr}

-- a test passes or fails
pub decide : (b : Bool) → (b ≡ true) ⊎ (b ≡ false)
decide true = inl refl
decide false = inr refl

-- no test both passes and fails
pub clash : {A : Type 0} (b : Bool) → b ≡ true → b ≡ false → A
clash b passes fails = cc

-- where both hold, the first holds
pub and_left : (a b : Bool) → (a && b) ≡ true → a ≡ true
and_left true b h = refl
and_left false b h = cc

-- where both hold, the second holds
pub and_right : (a b : Bool) → (a && b) ≡ true → b ≡ true
and_right true b h = h
and_right false b h = cc

-- both hold together
pub and_both : (a b : Bool) → a ≡ true → b ≡ true → (a && b) ≡ true
and_both true b p q = q
and_both false b p q = p

-- a test and one that holds is that test
pub and-true : (a : Bool) → (a && true) ≡ a
and-true true = refl
and-true false = refl

-- where neither holds, the first does not
pub or_left : (a b : Bool) → (a || b) ≡ false → a ≡ false
or_left true b h = h
or_left false b h = refl

-- where neither holds, the second does not
pub or_right : (a b : Bool) → (a || b) ≡ false → b ≡ false
or_right true b h = cc
or_right false b h = h

-- one of two holds where the first does
pub or_inl : (a b : Bool) → a ≡ true → (a || b) ≡ true
or_inl true b p = refl
or_inl false b p = cc

-- one of two holds where the second does
pub or_inr : (a b : Bool) → b ≡ true → (a || b) ≡ true
or_inr true b p = refl
or_inr false b p = p

-- where one of two holds, it is the first or the second
pub or_cases : (a b : Bool) → (a || b) ≡ true → (a ≡ true) ⊎ (b ≡ true)
or_cases true b h = inl refl
or_cases false b h = inr h

-- where neither holds, none of both does
pub or_false : (a b : Bool) → a ≡ false → b ≡ false → (a || b) ≡ false
or_false true b p q = p
or_false false b p q = q

-- a test whose opposite holds fails
pub not_true : (b : Bool) → not b ≡ true → b ≡ false
not_true true h = cc
not_true false h = refl

-- the opposite of a test that fails holds
pub not_false : (b : Bool) → b ≡ false → not b ≡ true
not_false true h = cc
not_false false h = refl

-- a test or one that holds, holds
pub or-true : (a : Bool) → (a || true) ≡ true
or-true true = refl
or-true false = refl

-- a test and one that fails, fails
pub and_false : (a b : Bool) → b ≡ false → (a && b) ≡ false
and_false true b h = h
and_false false b h = refl
