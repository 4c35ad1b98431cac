-- The branches of a duplex in their order, and sets of them.
use Rattle.std.specs.Prelude.{ℕ, Bool, ◌||◌, ◌==◌, List, [], ◌∷◌, filter}
use Rattle.std.specs.Int.{bit_at}
use Rattle.std.specs.List.{list_any}
use Rattle.relay_links.specs.declared.branch.Branch.{Branch}
use Rattle.relay_links.specs.declared.branch.Branch.TheVariants.{UpWrite, DownWrite, UpTake, DownTake, DownDrop, DownEnd, DownClosed, UpRead, DownRead, UpFinish, DownFinish, MessageUp, MessageDown}

-- every branch, in order
unfoldable pub all_branches : List Branch
all_branches =
    UpWrite ∷ DownWrite ∷ UpTake ∷ DownTake ∷ DownDrop ∷ DownEnd ∷ DownClosed ∷ UpRead ∷ DownRead
    ∷ UpFinish ∷ DownFinish ∷ MessageUp ∷ MessageDown ∷ []

-- the place of a branch in the order
abbrev pub place_of : Branch → ℕ
place_of UpWrite = 0
place_of DownWrite = 1
place_of UpTake = 2
place_of DownTake = 3
place_of DownDrop = 4
place_of DownEnd = 5
place_of DownClosed = 6
place_of UpRead = 7
place_of DownRead = 8
place_of UpFinish = 9
place_of DownFinish = 10
place_of MessageUp = 11
place_of MessageDown = 12

-- they are one branch
abbrev pub is_same_branch : Branch → Branch → Bool
is_same_branch a b = place_of a == place_of b

-- the set, listed in order, has the branch
abbrev pub has : List Branch → Branch → Bool
has set branch = list_any (is_same_branch branch) set

-- the set with that branch, in order
abbrev pub with_branch : List Branch → Branch → List Branch
with_branch set branch = filter (λ b. has set b || is_same_branch branch b) all_branches

-- the branches whose bits are set, in order
unfoldable pub branches_of : ℕ → List Branch
branches_of bits = filter (λ b. bit_at bits (place_of b) == 1) all_branches
