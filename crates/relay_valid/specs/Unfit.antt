-- Responses that are not relayed whole.
use Rattle.std.specs.Prelude.{◌≡◌, ℕ, Bool, List, Some}
use Rattle.relay_tasks.specs.Head.{ResponseHead}
use Rattle.relay_h1.specs.Tasks.{Tasks, ResponseText, broken, cut_off}

-- what a link gave is no response that is relayed whole: its text is broken, it is cut off by the
-- end of the link, or its final head switches protocols
pub data IsUnfit (method : List ℕ) (upgrade : Bool) (got : List ℕ) (closed : Bool) : Type 0 where
  is_broken : (said : ResponseText) → Tasks method upgrade got closed said → said.mark ≡ broken
      → IsUnfit method upgrade got closed
  is_cut_off : (said : ResponseText) → Tasks method upgrade got closed said → said.mark ≡ cut_off
      → IsUnfit method upgrade got closed
  switches : (said : ResponseText) (head : ResponseHead) → Tasks method upgrade got closed said
      → said.final ≡ Some head → head.status ≡ 101 → IsUnfit method upgrade got closed
