-- A table has one answer: the first line that applies is the only one that decides.
use Rattle.std.proofs.Common.{◌≡◌, inl, inr, sym, ◌∙◌}
use Rattle.std.specs.Prelude.{Option}
use Rattle.relay_tasks.specs.Head.{RequestHead}
use Rattle.relay_tasks.specs.declared.Context.{Context}
use Rattle.relay_authority.specs.Entry.{Entered, Validated, ValidatedTarget}
use Rattle.relay_authority.specs.Table.{Line}

-- two answers by one line, and by the lines below it, which give one
line_once : {A : Type 0} (applies here there below beyond : Type 0) (a b : A)
    → (here → there → a ≡ b) → (below → beyond → a ≡ b)
    → Line applies here below → Line applies there beyond → a ≡ b
line_once applies here there below beyond a b one rest (inl x) (inl y) = one x.1 y.1
line_once applies here there below beyond a b one rest (inl x) (inr y) = absurd (y.0 x.0)
line_once applies here there below beyond a b one rest (inr x) (inl y) = absurd (x.0 y.0)
line_once applies here there below beyond a b one rest (inr x) (inr y) = rest x.1 y.1

-- two answers that are both that one are one
same : (a b c : Option Context) → a ≡ c → b ≡ c → a ≡ b
same a b c x y = x ∙ sym y

-- the lines on the target give one answer
target_once : (head : RequestHead) (a b : Option Context) → ValidatedTarget head a
    → ValidatedTarget head b → a ≡ b
target_once head a b =
    line_once _ _ _ _ _ a b (same a b _)
    (line_once _ _ _ _ _ a b (same a b _)
    (line_once _ _ _ _ _ a b (same a b _) (same a b _)))

-- the lines on Host and target give one answer
pub Validated-unique : (head : RequestHead) (a b : Option Context) → Validated head a
    → Validated head b → a ≡ b
Validated-unique head a b =
    line_once _ _ _ _ _ a b (same a b _)
    (line_once _ _ _ _ _ a b (same a b _)
    (line_once _ _ _ _ _ a b (same a b _) (target_once head a b)))

-- the entry check gives one answer
pub Entered-unique : (head : RequestHead) (a b : Option Context) → Entered head a
    → Entered head b → a ≡ b
Entered-unique head a b =
    line_once _ _ _ _ _ a b (same a b _) (Validated-unique head a b)
