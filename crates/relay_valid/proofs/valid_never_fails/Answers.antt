-- The law is a lemma.
use Rattle.relay_valid.proofs.ValidLemmas.{never_fails}
use Rattle.relay_valid.proofs.valid_never_fails.Goals as goal

-- neither side answers for an error
pub returns : goal.returns
returns c = λ s p client link start e why valid. never_fails s p client link start e why valid
