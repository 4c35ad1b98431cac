-- The law is a lemma.
use Rattle.relay_valid.proofs.UnfitLemmas.{relayed_fit}
use Rattle.relay_valid.proofs.relayed_is_fit.Goals as goal

-- its bytes say a whole response
pub returns : goal.returns
returns c = λ s p link start relayed unfit. relayed_fit s p link start relayed unfit
