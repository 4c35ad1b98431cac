-- The law is a lemma.
use Rattle.relay_still.proofs.FailLemmas.{never_fails}
use Rattle.relay_still.proofs.valid_never_fails.Goals as goal

-- neither side answers for an error, no filter stops it, and the writer refuses nothing
pub returns : goal.returns
returns c = λ f s p client link start e why n valid.
    never_fails f s p client link start n valid e why
