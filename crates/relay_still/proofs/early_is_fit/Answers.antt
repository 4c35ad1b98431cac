-- The law is a lemma.
use Rattle.relay_still.proofs.EarlyLemmas.{early_fit}
use Rattle.relay_still.proofs.early_is_fit.Goals as goal

-- its end was read, so it came whole
pub returns : goal.returns
returns c = λ f s p link start early n alike unfit.
    early_fit f s p link start early n alike unfit
