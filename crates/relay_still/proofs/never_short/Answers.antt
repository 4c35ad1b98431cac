-- The law is a lemma.
use Rattle.relay_still.proofs.WriterLemmas.{never_short}
use Rattle.relay_still.proofs.never_short.Goals as goal

-- what was made is what came, as it is handed on, and none of that is refused
pub returns : goal.returns
returns c = λ f s p client link start e why is n valid.
    never_short f s p client link start e why is n valid
