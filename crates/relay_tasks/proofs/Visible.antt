-- What a URI is sent as has no blank and no control byte.
use Rattle.std.proofs.Common.{◌≡◌, ℕ, true, false, List, [], ◌∷◌, refl, inl, inr, arith}
use Rattle.std.proofs.lemmas.Bool.{cases_Bool}
use Rattle.std.proofs.lemmas.Bool.Decides.{nat_tests}
use Rattle.std.proofs.lemmas.List.Elements.{All-cons, All-nil, All-weaker}
use Rattle.std.specs.Prelude.{Bool, Some, None, if◌then◌else◌, All, IsTrue, ◌==◌, ◌||◌}
use Rattle.http_uri.proofs.Visible.{IsNotSpaceOrControl, IsPathAndQuery_visible}
use Rattle.http_uri.specs.Grammar.{IsPathAndQuery, path_and_query_text}
use Rattle.relay_tasks.specs.Head.{is_target_byte, IsSendable}

-- the byte may stand in a target
abbrev pub IsVisible : ℕ → Type 0
IsVisible b = IsTrue (is_target_byte b)

-- no space and no control byte
visible_byte : (b : ℕ) → IsNotSpaceOrControl b → IsVisible b
visible_byte b h = grind (arith, nat_tests)

-- a text of such bytes
pub visible_text : (text : List ℕ) → All IsNotSpaceOrControl text → All IsVisible text
visible_text = All-weaker _ IsVisible visible_byte

-- with a `/` in front, any visible text can stand in a request line
slashed : (text : List ℕ) → All IsVisible text → IsSendable (47 ∷ text)
slashed text visible = record { filled = omega arith; visible = All-cons IsVisible 47 text refl visible }

-- what a URI is sent as can stand in a request line
pub sendable : (text : List ℕ) → IsPathAndQuery text → IsSendable (path_and_query_text text)
sendable [] valid = slashed [] (All-nil IsVisible)
sendable (b ∷ text) valid =
    let visible = visible_text (b ∷ text) (IsPathAndQuery_visible (b ∷ text) valid) in
    elim (cases_Bool ((b == 47) || (b == 42))) [
      | inl first ↦ rw first record { filled = omega arith; visible = visible }
      | inr other ↦ rw other (slashed (b ∷ text) visible)
    ]

-- the text of a choice that has one
pub chosen : (b : Bool) (text kept : List ℕ) → Some text ≡ (if b then Some kept else None) → text ≡ kept
chosen true text kept same = cc
chosen false text kept same = absurd cc
