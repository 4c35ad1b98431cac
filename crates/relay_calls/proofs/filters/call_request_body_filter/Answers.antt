-- Where the call was entered a log walks on past it, since it is allowed.
use Rattle.std.proofs.Common.{refl, arith}
use Rattle.std.proofs.lemmas.Grind.{common_steps}
use Rattle.relay_calls.proofs.CallLemmas.{Calls-walks, Enters-map}
use Rattle.relay_calls.proofs.filters.call_request_body_filter.Goals as goal

pub returns-clause-calls : goal.returns-clause-calls
returns-clause-calls g c = grind (arith, common_steps)

pub returns-clause-walks : goal.returns-clause-walks
returns-clause-walks g c =
    Enters-map _ _ _ _ _ (λ left call. Calls-walks _ _ _ _ _ _ _ _ _ refl call)
    (returns-clause-calls g c)
