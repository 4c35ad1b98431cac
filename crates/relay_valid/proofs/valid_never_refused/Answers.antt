-- The law is a lemma.
use Rattle.relay_valid.proofs.AskedLemmas.{asks_unrefused}
use Rattle.relay_valid.proofs.valid_never_refused.Goals as goal

-- the whole request has another verdict
pub returns : goal.returns
returns c = λ s p client why asks refused. asks_unrefused s p client why asks refused
