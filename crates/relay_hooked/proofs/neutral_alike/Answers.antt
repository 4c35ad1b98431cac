-- The law is a lemma.
use Rattle.relay_hooked.proofs.NeutralLemmas.{as_without}
use Rattle.relay_hooked.proofs.neutral_alike.Goals as goal

-- what such filters made is what came, as it is handed on
pub returns : goal.returns
returns c = λ f s p closed order n. as_without f s p closed order n
