-- The law is a lemma.
use Rattle.relay_still.proofs.FitLemmas.{relayed_fit}
use Rattle.relay_still.proofs.relayed_is_fit.Goals as goal

-- its bytes say a whole response, and none of its heads passed that switches protocols
pub returns : goal.returns
returns c = λ f s p link start relayed n unfit. relayed_fit f s p link start relayed n unfit
