-- The law is a lemma.
use Rattle.relay_neutral.proofs.WholeLemmas.{whole}
use Rattle.relay_neutral.proofs.neutral_is_whole.Goals as goal

-- no call changed the exchange, so it is relayed whole
pub returns : goal.returns
returns g c = λ s w before after told_before told_after had has client turns processed run head all
    relayable can asks answers faultless.
    whole _ _ s w before after told_before told_after had has client turns processed run head all
    relayable can asks answers faultless
