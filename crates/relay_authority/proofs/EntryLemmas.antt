-- Which line of the table for an incoming head applies.
use Rattle.std.proofs.Common.{◌≡◌, length, ltb, inr}
use Rattle.std.specs.Prelude.{◌↔◌, Bool, false, IsTrue, Option}
use Rattle.relay_tasks.specs.Head.{RequestHead}
use Rattle.relay_tasks.specs.declared.Context.{Context}
use Rattle.relay_authority.proofs.Settling.{not_below, refuted}
use Rattle.relay_authority.specs.Entry.{HostHasUserinfo, HostIsNoAuthority, Validated, ValidatedTarget}
use Rattle.relay_authority.specs.Heads.{hosts}

-- no line on Host applies, and those on the target decide
pub behind_host : (head : RequestHead) (answer : Option Context) (many userinfo invalid : Bool)
    → many ≡ ltb 1 (length (hosts head.fields)) → many ≡ false
    → (IsTrue userinfo ↔ HostHasUserinfo head) → userinfo ≡ false
    → (IsTrue invalid ↔ HostIsNoAuthority head) → invalid ≡ false
    → ValidatedTarget head answer → Validated head answer
behind_host head answer many userinfo invalid counts few tells_host plain tells_form formed below =
    inr (
      not_below 1 (length (hosts head.fields)) many counts few,
      inr (refuted userinfo tells_host plain, inr (refuted invalid tells_form formed, below)),
    )
