-- The law is a lemma.
use Rattle.relay_neutral.proofs.DefaultLemmas.{default_neutral}
use Rattle.relay_neutral.proofs.defaults_are_neutral.Goals as goal

-- each call of a default hook is neutral
pub returns : goal.returns
returns c = λ peer head st e d. default_neutral peer head st e d
