-- The law is a lemma.
use Rattle.relay_hooked.proofs.CauseLemmas.{end_caused}
use Rattle.relay_hooked.proofs.end_caused.Goals as goal

-- by the call that ended the request
pub returns : goal.returns
returns c = λ refused f s p closed order ends. end_caused refused f s p closed order ends
