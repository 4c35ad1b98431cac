-- What a connector that hands out listed links answers.
use Rattle.std.specs.Prelude.{◌≡◌, ◌⊎◌, ℕ, zero, suc, ◌+◌, Bool, true, false, List, [], ◌∷◌, Option, Some, None, Result, Ok, Err, MatchResult}
use Rattle.relay_tasks.specs.declared.error.RetryType.{RetryType}
use Rattle.relay_tasks.specs.declared.fault.Fault.{Fault}
use Rattle.relay_links.specs.Link.{LinkState, LinkStart}
use Rattle.relay_links.specs.ScriptLink.{script_state, script_start, KeepsScripts}
use Rattle.relay_links.specs.declared.script_link.ScriptLink.{ScriptLink}
use Rattle.relay_messages.specs.MessageScript as messages
use Rattle.relay_messages.specs.MessageScript.{ScriptMessages, ScriptCustom}
use Rattle.relay_messages.specs.declared.message_script.MessageScript.{MessageScript}
use Rattle.relay_connector.specs.declared.script_connector.PeerScript.{PeerScript}
use Rattle.relay_connector.specs.declared.upstream.Upstream.{Upstream}
use Rattle.relay_connector.specs.declared.upstream.Upstream.TheVariants.{H1, H2, Custom}
use Rattle.relay_connector.specs.Connector.{connect_fault, nothing_left}
use Rattle.relay_connector.specs.Upstream.{IsHandedOver, upstream_state, upstream_start}

-- a link in memory, of whatever it carries
abbrev pub AnyScript : Type 0
AnyScript = Upstream ScriptLink ScriptMessages ScriptCustom

-- its state, as that of a link of bytes
abbrev pub any_state : AnyScript → LinkState
any_state = upstream_state script_state messages.script_state messages.script_state

-- and as it was handed out
abbrev pub any_start : AnyScript → LinkStart
any_start = upstream_start script_start messages.script_start messages.script_start

-- it is as a connector hands it out
abbrev pub IsHandedScript : AnyScript → Bool → Type 0
IsHandedScript =
    IsHandedOver script_state script_start messages.script_state messages.script_start
    messages.script_state messages.script_start

-- the links of messages stand where they stood, and run by the same scripts
pub record IsSameMessages {custom : ℕ} (link got : MessageScript custom) : Type 0 where
  pub state : messages.script_state got ≡ messages.script_state link
  pub scripts : messages.KeepsScripts link got

-- the links stand where they stood, and run by the same scripts
abbrev pub IsSameScript : AnyScript → AnyScript → Type 0
IsSameScript (H1 link) (H1 got) = (script_state got ≡ script_state link) × KeepsScripts link got
IsSameScript (H1 link) (H2 got) = ⊥
IsSameScript (H1 link) (Custom got) = ⊥
IsSameScript (H2 link) (H1 got) = ⊥
IsSameScript (H2 link) (H2 got) = IsSameMessages link got
IsSameScript (H2 link) (Custom got) = ⊥
IsSameScript (Custom link) (H1 got) = ⊥
IsSameScript (Custom link) (H2 got) = ⊥
IsSameScript (Custom link) (Custom got) = IsSameMessages link got

-- the fault of an entry with that mark, where so many links came back to be kept and were not used
-- again yet: its own, or that no such link is there where it wants one
abbrev pub refusal_of : Option RetryType → Bool → ℕ → Option Fault
refusal_of (Some retry) again idle = Some (connect_fault retry)
refusal_of None false idle = None
refusal_of None true zero = Some nothing_left
refusal_of None true (suc idle) = None

-- an entry's link is handed out as it stands, marked as used before where it is in place of one
-- that came back, which is not there any more
pub record HandsOut (entry : PeerScript) (idle : ℕ) (got : AnyScript × Bool) (left : ℕ)
    : Type 0 where
  pub link : IsSameScript entry.link got.0
  pub marked : got.1 ≡ entry.again
  pub placed : (entry.again ≡ true) → idle ≡ left + 1
  pub new : (entry.again ≡ false) → idle ≡ left

-- the answer is that fault and no link is used again, or the entry's link is handed out
abbrev pub AnswersEntry : Option Fault → PeerScript → ℕ → Result (AnyScript × Bool) Fault → ℕ
    → Type 0
AnswersEntry (Some fault) entry idle result left = (result ≡ Err fault) × (left ≡ idle)
AnswersEntry None entry idle result left =
    MatchResult result (λ got. HandsOut entry idle got left) (λ _. ⊥)

-- the answer of the next entry, where so many links came back to be kept and were not used again
-- yet, and how many are left then; past the last entry it is a fault that is not to be retried
abbrev pub AnswersGet : List PeerScript → ℕ → Result (AnyScript × Bool) Fault → ℕ → Type 0
AnswersGet [] idle result left = (result ≡ Err nothing_left) × (left ≡ idle)
AnswersGet (entry ∷ entries) idle result left =
    AnswersEntry (refusal_of entry.connect entry.again idle) entry idle result left
