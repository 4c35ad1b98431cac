-- The law is a lemma.
use Rattle.relay_hooked.proofs.StationLemmas.{come_in_order}
use Rattle.relay_hooked.proofs.calls_in_order.Goals as goal

-- each segment leads on, and the last calls to where they may
pub returns : goal.returns
returns c = λ of_head stopped es from relays s.
    come_in_order of_head stopped es from relays s
