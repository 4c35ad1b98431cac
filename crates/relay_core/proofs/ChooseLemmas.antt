-- The set of enabled branches has each of them, and its first is the first that can be taken.
use Rattle.std.proofs.Common.{◌≡◌, ℕ, ◌+◌, ◌<◌, ◌≤◌, Bool, ◌&&◌, ◌||◌, List, [], ◌∷◌, take, get_or, find, refl, sym, ap, ◌∙◌, take_all}
use Rattle.std.proofs.lemmas.List.Folds.{list_any_more}
use Rattle.std.proofs.Math.Bool.{or-false}
use Rattle.std.specs.List.{list_any}
use Rattle.relay_links.specs.Branch.{has, is_same_branch}
use Rattle.relay_links.specs.declared.branch.Branch.{Branch}
use Rattle.relay_links.specs.declared.branch.Branch.TheVariants.{UpWrite, DownWrite, UpTake, DownTake, DownDrop, DownEnd, DownClosed, UpRead, DownRead, UpFinish, DownFinish, MessageUp, MessageDown}
use Rattle.relay_links.specs.declared.branch.TheConstants.{BRANCHES}

-- a branch that passes is found among all branches
pub any-branch : (p : Branch → Bool) (b : Branch)
    → list_any (λ x. is_same_branch x b && p x) BRANCHES ≡ p b
any-branch p UpWrite = or-false (p UpWrite)
any-branch p DownWrite = or-false (p DownWrite)
any-branch p UpTake = or-false (p UpTake)
any-branch p DownTake = or-false (p DownTake)
any-branch p DownDrop = or-false (p DownDrop)
any-branch p DownEnd = or-false (p DownEnd)
any-branch p DownClosed = or-false (p DownClosed)
any-branch p UpRead = or-false (p UpRead)
any-branch p DownRead = or-false (p DownRead)
any-branch p UpFinish = or-false (p UpFinish)
any-branch p DownFinish = or-false (p DownFinish)
any-branch p MessageUp = or-false (p MessageUp)
any-branch p MessageDown = or-false (p MessageDown)

-- two tests that agree find the same
pub find-ext : (p q : Branch → Bool) → ((x : Branch) → p x ≡ q x) → (xs : List Branch)
    → find p xs ≡ find q xs
find-ext p q same [] = refl
find-ext p q same (x ∷ xs) = rw (same x, find-ext p q same xs)

-- one more branch was looked at: the set has it where it passes
pub passed_more : (p : Branch → Bool) (old new : List Branch) (i : ℕ) (d : Branch) (on : Bool)
    → i < 13 → on ≡ p (get_or BRANCHES i d)
    → ((b : Branch) → has new b ≡ (has old b || (is_same_branch (get_or BRANCHES i d) b && on)))
    → ((b : Branch) → has old b ≡ list_any (λ x. is_same_branch x b && p x) (take i BRANCHES))
    → (b : Branch) → has new b ≡ list_any (λ x. is_same_branch x b && p x) (take (i + 1) BRANCHES)
passed_more p old new i d on within is put before b =
    put b
    ∙ ap (λ (v : Bool). v || (is_same_branch (get_or BRANCHES i d) b && on)) (before b)
    ∙ ap (λ (v : Bool). list_any (λ x. is_same_branch x b && p x) (take i BRANCHES)
    || (is_same_branch (get_or BRANCHES i d) b && v)) is
    ∙ sym (list_any_more (λ x. is_same_branch x b && p x) BRANCHES i d within)

-- all branches were looked at: the set has those that pass
pub passed_all : (p : Branch → Bool) (set : List Branch) (i : ℕ) → 13 ≤ i
    → ((b : Branch) → has set b ≡ list_any (λ x. is_same_branch x b && p x) (take i BRANCHES))
    → (b : Branch) → has set b ≡ p b
passed_all p set i past before b =
    before b
    ∙ ap (λ (xs : List Branch). list_any (λ x. is_same_branch x b && p x) xs)
    (take_all i BRANCHES past)
    ∙ any-branch p b
