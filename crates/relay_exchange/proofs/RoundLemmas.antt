-- Going round the order of the branches comes to each of them.
use Rattle.std.proofs.Common.{◌≡◌, ℕ, ◌+◌, ◌-◌, ◌%◌, ◌<◌, true, ◌⊎◌, get_or, refl, sym, ap, ◌∙◌, subst, inl, inr, arith}
use Rattle.std.proofs.lemmas.Bool.{cases_lt}
use Rattle.relay_links.specs.Branch.{place_of}
use Rattle.relay_links.specs.declared.branch.Branch.{Branch}
use Rattle.relay_links.specs.declared.branch.Branch.TheVariants as branch
use Rattle.relay_links.specs.declared.branch.TheConstants.{BRANCHES}
use Rattle.relay_links.specs.Link.{LinkState}
use Rattle.relay_core.specs.Asked.{is_silent_for, MeetsSilence}
use Rattle.relay_exchange.specs.Exchange.{IsSilentLink}

-- the branch so many places behind that one, going round
abbrev pub behind : Branch → ℕ → Branch
behind first n = get_or BRANCHES ((place_of first + n) % 13) branch.UpWrite

-- the branch at its place
at_place : (b : Branch) → get_or BRANCHES (place_of b) branch.UpWrite ≡ b
at_place branch.UpWrite = refl
at_place branch.DownWrite = refl
at_place branch.UpTake = refl
at_place branch.DownTake = refl
at_place branch.DownDrop = refl
at_place branch.DownEnd = refl
at_place branch.DownClosed = refl
at_place branch.UpRead = refl
at_place branch.DownRead = refl
at_place branch.UpFinish = refl
at_place branch.DownFinish = refl
at_place branch.MessageUp = refl
at_place branch.MessageDown = refl

-- there are thirteen places
place_below : (b : Branch) → place_of b < 13
place_below branch.UpWrite = omega arith
place_below branch.DownWrite = omega arith
place_below branch.UpTake = omega arith
place_below branch.DownTake = omega arith
place_below branch.DownDrop = omega arith
place_below branch.DownEnd = omega arith
place_below branch.DownClosed = omega arith
place_below branch.UpRead = omega arith
place_below branch.DownRead = omega arith
place_below branch.UpFinish = omega arith
place_below branch.DownFinish = omega arith
place_below branch.MessageUp = omega arith
place_below branch.MessageDown = omega arith

-- each place is so many behind another
around : (f b : ℕ) → f < 13 → b < 13 → (n : ℕ) × (n < 13) × ((f + n) % 13 ≡ b)
around f b in_f in_b =
    elim (cases_lt b f) [
      | inl below ↦
          ((b + 13) - f, omega (arith, below, in_f, in_b), omega (arith, below, in_f, in_b))
      | inr last ↦ (b - f, omega (arith, last, in_f, in_b), omega (arith, last, in_f, in_b))
    ]

-- each branch is so many places behind another
comes_round : (first b : Branch) → (n : ℕ) × (n < 13) × (behind first n ≡ b)
comes_round first b =
    let way = around (place_of first) (place_of b) (place_below first) (place_below b) in
    (way.0, way.1, ap (λ (n : ℕ). get_or BRANCHES n branch.UpWrite) way.2 ∙ at_place b)

-- the branch itself comes first
pub comes_first : (first : Branch) → behind first 0 ≡ first
comes_first first =
    let in_first = place_below first in
    let at : (place_of first + 0) % 13 ≡ place_of first = omega (arith, in_first) in
    ap (λ (n : ℕ). get_or BRANCHES n branch.UpWrite) at ∙ at_place first

-- what holds of all thirteen places holds of each branch
pub all_round : (P : Branch → Type 0) (first : Branch) (n : ℕ) → 13 ≡ n
    → ((k : ℕ) → k < n → P (behind first k)) → (b : Branch) → P b
all_round P first n is passed b =
    let way = comes_round first b in
    subst P way.2 (passed way.0 (let below = way.1 in omega (arith, below, is)))

-- what holds of the first branch holds of the first place
pub passed_first : (P : Branch → Type 0) (first : Branch) → P first → (k : ℕ) → k < 1
    → P (behind first k)
passed_first P first holds k below =
    let none : 0 ≡ k = omega (arith, below) in
    subst (λ (n : ℕ). P (behind first n)) none (subst P (sym (comes_first first)) holds)

-- what holds of all places passed and of the next one holds of all places to there
pub passed_more : (P : Branch → Type 0) (first b : Branch) (n m : ℕ) → n + 1 ≡ m
    → ((k : ℕ) → k < n → P (behind first k)) → behind first n ≡ b → P b → (k : ℕ) → k < m
    → P (behind first k)
passed_more P first b n m is before at holds k below =
    elim (cases_lt k n) [
      | inl under ↦ before k under
      | inr last ↦ (let same : n ≡ k = omega (arith, last, below, is) in
          subst (λ (i : ℕ). P (behind first i)) same (subst P (sym at) holds))
    ]

-- a branch that met silence asks a link that was silent before
pub met : (b : Branch) (client₀ client client' upstream₀ upstream upstream' : LinkState)
    → client ≡ client₀ → upstream ≡ upstream₀
    → MeetsSilence b client client' upstream upstream' → is_silent_for client₀ upstream₀ b ≡ true
met b client₀ client client' upstream₀ upstream upstream' is is' m =
    subst (λ (l : LinkState). is_silent_for l upstream₀ b ≡ true) (m.client_same ∙ is)
    (subst (λ (l : LinkState). is_silent_for client' l b ≡ true) (m.upstream_same ∙ is') m.silent)

-- a branch that asks a silent link shows that a link is silent
pub silent_link : (client upstream : LinkState) (b : Branch)
    → is_silent_for client upstream b ≡ true → IsSilentLink client ⊎ IsSilentLink upstream
silent_link client upstream branch.UpWrite is = inr (inr is)
silent_link client upstream branch.DownWrite is = inl (inr is)
silent_link client upstream branch.UpTake is = absurd (cc)
silent_link client upstream branch.DownTake is = absurd (cc)
silent_link client upstream branch.DownDrop is = absurd (cc)
silent_link client upstream branch.DownEnd is = absurd (cc)
silent_link client upstream branch.DownClosed is = absurd (cc)
silent_link client upstream branch.UpRead is = inr (inl is)
silent_link client upstream branch.DownRead is = inl (inl is)
silent_link client upstream branch.UpFinish is = absurd (cc)
silent_link client upstream branch.DownFinish is = absurd (cc)
silent_link client upstream branch.MessageUp is = absurd (cc)
silent_link client upstream branch.MessageDown is = absurd (cc)
