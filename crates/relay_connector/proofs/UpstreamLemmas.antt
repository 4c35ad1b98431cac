-- What a link carries, by what it was handed out as.
use Rattle.std.proofs.Common.{◌↔◌, Bool, IsTrue, refl}
use Rattle.relay_links.specs.Link.{LinkState, LinkStart}
use Rattle.relay_messages.specs.MessageLink.{MessageState, MessageStart}
use Rattle.relay_connector.specs.Upstream.{IsHandedOver, SpeaksBytes, is_of_bytes, upstream_start}
use Rattle.relay_connector.specs.declared.upstream.Upstream.{Upstream}
use Rattle.relay_connector.specs.declared.upstream.Upstream.TheVariants.{H1, H2, Custom}

-- a link that was handed out says that it carries bytes exactly where it does
pub speaks_of_bytes : {L M C : Type 0} (state : L → LinkState) (start : L → LinkStart)
    (m_state : M → MessageState) (m_start : M → MessageStart) (c_state : C → MessageState)
    (c_start : C → MessageStart) (link : Upstream L M C) (reused : Bool)
    → IsHandedOver state start m_state m_start c_state c_start link reused
    → (IsTrue (is_of_bytes link) ↔ SpeaksBytes (upstream_start start m_start c_start link))
speaks_of_bytes state start m_state m_start c_state c_start (H1 link) reused over =
    (λ yes. over.1, λ speaks. refl)
speaks_of_bytes state start m_state m_start c_state c_start (H2 link) reused over =
    (λ no. absurd (cc), λ speaks. absurd (cc))
speaks_of_bytes state start m_state m_start c_state c_start (Custom link) reused over =
    (λ no. absurd (cc), λ speaks. absurd (cc))
