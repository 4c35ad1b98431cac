-- What a scan of a whole text saw decides whether the text is an authority.
use Rattle.std.proofs.Common.{◌≡◌, ◌↔◌, ℕ, ◌<◌, ◌≤◌, ◌-◌, List, length, take, get_or, arith, not, refl}
use mathlib.Core.Bool.{beq}
use Rattle.std.proofs.lemmas.Bool.Decides.{nat_tests}
use Rattle.std.specs.Prelude.{Bool, true, false, IsTrue, ◌==◌}
use Rattle.http_uri.proofs.AuthorityLemmas.{Tracks}
use Rattle.http_uri.specs.Grammar.{IsAuthority, MayFollow}

-- a text that is not empty has a byte
pub filled : (text : List ℕ) (test : Bool) → test ≡ (length text == 0) → test ≡ false
    → 0 < length text
filled text test is fails = grind (arith, nat_tests)

-- with matched brackets, and no colons or percents too many behind them, only an `@` at the end is
-- amiss
pub decided : (text : List ℕ) (colons : ℕ) (opened closed percent : Bool)
    → Tracks text colons opened closed percent
    → ((k : ℕ) → k < length text → MayFollow (take k text) (get_or text k 0)) → opened ≡ closed
    → colons ≤ 1 → percent ≡ false
    → 0 < length text → IsTrue (not (get_or text (length text - 1) 0 == 64)) ↔ IsAuthority text
decided text colons opened closed percent t follows matched few bare full = (
  λ other. record {
    nonempty = full;
    bytes = follows;
    closed = grind (arith, nat_tests);
    one_colon = grind (arith, nat_tests);
    no_percent = grind (arith, nat_tests);
    has_host = grind (arith, nat_tests);
  },
  λ valid. let host = valid.has_host in grind (arith, nat_tests),
)

-- brackets of both kinds, or of neither
pub matched : (opened closed : Bool) → not (beq opened closed) ≡ false → opened ≡ closed
matched true true h = refl
matched false false h = refl
matched true false h = absurd cc
matched false true h = absurd cc
