-- Sets of branches: what a filtered list has, and the bits of a set.
use Rattle.std.proofs.Common.{◌≡◌, ℕ, ◌<◌, ◌*◌, ◌/◌, ◌%◌, ◌^◌, Bool, true, false, cond, ◌&&◌, ◌||◌, ◌==◌, nat_eq, eqb, List, [], ◌∷◌, filter, eqb-true, eq-eqb, refl, sym, ap, ◌∙◌, arith, bit_or, bit_and, inl, inr, w16}
use Rattle.std.specs.Int.{bit_at}
use Rattle.std.proofs.lemmas.Bool.Decides.{eqb_tells}
use Rattle.std.proofs.lemmas.Nat.Bits.{bit_at_set_same, bit_at_set_other, shr_and_one}
use Rattle.relay_links.specs.declared.branch.Branch.{Branch}
use Rattle.relay_links.specs.declared.branch.Branch.TheVariants.{UpWrite, DownWrite, UpTake, DownTake, DownDrop, DownEnd, DownClosed, UpRead, DownRead, UpFinish, DownFinish, MessageUp, MessageDown}
use Rattle.relay_links.specs.Branch.{all_branches, place_of, is_same_branch, has, with_branch, branches_of}

-- a filter by tests that agree
pub filter-ext : {X : Type 0} (p q : X → Bool) (same : (x : X) → p x ≡ q x) (xs : List X)
    → filter p xs ≡ filter q xs
filter-ext p q same [] = refl
filter-ext p q same (x ∷ xs) = rw (same x, filter-ext p q same xs)

-- a branch has its place below 13
pub place-lt : (b : Branch) → place_of b < 13
place-lt UpWrite = omega arith
place-lt DownWrite = omega arith
place-lt UpTake = omega arith
place-lt DownTake = omega arith
place-lt DownDrop = omega arith
place-lt DownEnd = omega arith
place-lt DownClosed = omega arith
place-lt UpRead = omega arith
place-lt DownRead = omega arith
place-lt UpFinish = omega arith
place-lt DownFinish = omega arith
place-lt MessageUp = omega arith
place-lt MessageDown = omega arith

-- every branch is among all of them
pub has-all : (b : Branch) → has all_branches b ≡ true
unfolding all_branches
has-all UpWrite = refl
has-all DownWrite = refl
has-all UpTake = refl
has-all DownTake = refl
has-all DownDrop = refl
has-all DownEnd = refl
has-all DownClosed = refl
has-all UpRead = refl
has-all DownRead = refl
has-all UpFinish = refl
has-all DownFinish = refl
has-all MessageUp = refl
has-all MessageDown = refl

-- a list that may begin with x
has-cond : (v : Bool) (x : Branch) (xs : List Branch) (b : Branch)
    → has (cond v (x ∷ xs) xs) b ≡ ((v && is_same_branch b x) || has xs b)
has-cond true x xs b = refl
has-cond false x xs b = refl

-- a test that the two pass alike where they are the same
one_step : (same v w h : Bool) → (same ≡ true → v ≡ w)
    → ((v && same) || (h && w)) ≡ ((same || h) && w)
one_step true true true h alike = refl
one_step true true false h alike = cc (alike refl)
one_step true false true h alike = cc (alike refl)
one_step true false false true alike = refl
one_step true false false false alike = refl
one_step false true true true alike = refl
one_step false true true false alike = refl
one_step false true false true alike = refl
one_step false true false false alike = refl
one_step false false w h alike = refl

-- the list of those that pass has those that pass
has-filter : (p : ℕ → Bool) (b : Branch) (xs : List Branch)
    → has (filter (λ x. p (place_of x)) xs) b ≡ (has xs b && p (place_of b))
has-filter p b [] = refl
has-filter p b (x ∷ xs) =
    has-cond (p (place_of x)) x (filter (λ y. p (place_of y)) xs) b
    ∙ ap (λ (t : Bool). (p (place_of x) && is_same_branch b x) || t) (has-filter p b xs)
    ∙ one_step (is_same_branch b x) (p (place_of x)) (p (place_of b)) (has xs b)
    (λ same. ap p (sym (eqb-true (place_of b) (place_of x) same)))

-- of all branches those that pass
pub has-filter-all : (p : ℕ → Bool) (b : Branch)
    → has (filter (λ x. p (place_of x)) all_branches) b ≡ p (place_of b)
has-filter-all p b = has-filter p b all_branches
    ∙ ap (λ (t : Bool). t && p (place_of b)) (has-all b)

-- a set has the branches whose bits are set
pub has-branches_of : (bits : ℕ) (b : Branch)
    → has (branches_of bits) b ≡ (bit_at bits (place_of b) == 1)
unfolding branches_of
has-branches_of bits b = has-filter-all (λ k. bit_at bits k == 1) b

-- or, at each value of its right side
or_true : (a : Bool) → true ≡ (a || true)
or_true true = refl
or_true false = refl

or_false : (a : Bool) → a ≡ (a || false)
or_false true = refl
or_false false = refl

-- no branch is in the empty set
pub branches_of-zero : branches_of 0 ≡ []
unfolding branches_of all_branches
branches_of-zero = refl

-- a bit that is set
bit_set_same : (bits k i : ℕ) → k < 16 → i ≡ k
    → eqb (bit_at (bit_or bits (1 * 2 ^ k % 65536)) i) 1 ≡ true
bit_set_same bits k i small same =
    eq-eqb (bit_at (bit_or bits (1 * 2 ^ k % 65536)) i) 1
    (rw same (bit_at_set_same w16 bits k small))

-- the bits after one more is set
bit_set : (bits k i : ℕ) → k < 16
    → (bit_at (bit_or bits (1 * 2 ^ k % 65536)) i == 1) ≡ ((bit_at bits i == 1) || (k == i))
bit_set bits k i small = elim (eqb_tells k i) [
  | inl (alike, same) ↦ bit_set_same bits k i small (sym same)
      ∙ rw alike (or_true (eqb (bit_at bits i) 1))
  | inr (differ, other) ↦ rw (differ, bit_at_set_other w16 bits k small i (λ e. other (sym e)))
      (or_false (eqb (bit_at bits i) 1))
]

-- a set after an insertion
pub branches_of-set : (bits k : ℕ) → k < 16
    → branches_of (bit_or bits (1 * 2 ^ k % 65536))
    ≡ filter (λ b. (bit_at bits (place_of b) == 1) || (k == place_of b)) all_branches
unfolding branches_of
branches_of-set bits k small =
    filter-ext (λ b. bit_at (bit_or bits (1 * 2 ^ k % 65536)) (place_of b) == 1)
    (λ b. (bit_at bits (place_of b) == 1) || (k == place_of b))
    (λ b. bit_set bits k (place_of b) small) all_branches

-- the code's test of a bit, for a set with these bits
pub bit_test : (bits k : ℕ) (set : List Branch) (b : Branch) → branches_of bits ≡ set
    → k ≡ place_of b
    → nat_eq (bit_and (bits / 2 ^ k) 1) 1 ≡ has set b
bit_test bits k set b is at =
    rw (← is, at, shr_and_one bits (place_of b)) (sym (has-branches_of bits b))

-- the set with these bits and one more
pub set_bit : (bits k : ℕ) (set : List Branch) (b : Branch) → branches_of bits ≡ set
    → k ≡ place_of b
    → branches_of (bit_or bits (1 * 2 ^ k % 65536)) ≡ with_branch set b
set_bit bits k set b is at =
    branches_of-set bits k (omega (arith, place-lt b))
    ∙ filter-ext (λ x. (bit_at bits (place_of x) == 1) || (k == place_of x))
    (λ x. has set x || is_same_branch b x)
    (λ x. rw (← is, at, has-branches_of bits x) refl) all_branches

-- what a set with these bits and one more has
pub has-set_bit : (bits k : ℕ) (set : List Branch) (b x : Branch) → branches_of bits ≡ set
    → k ≡ place_of b
    → has (branches_of (bit_or bits (1 * 2 ^ k % 65536))) x ≡ (has set x || is_same_branch b x)
has-set_bit bits k set b x is at =
    has-branches_of (bit_or bits (1 * 2 ^ k % 65536)) x
    ∙ bit_set bits k (place_of x) (omega (arith, place-lt b))
    ∙ rw (← is, at, has-branches_of bits x) refl
