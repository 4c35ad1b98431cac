-- Where the call was entered a log walks on past it, since it is allowed.
use Rattle.std.proofs.Common.{arith}
use Rattle.std.proofs.lemmas.Grind.{common_steps}
use Rattle.relay_calls.proofs.CallLemmas.{CallsModule-walks, Enters-map}
use Rattle.relay_calls.proofs.modules.call_module_request_body.Goals as goal

pub returns-clause-calls : goal.returns-clause-calls
returns-clause-calls g c = grind (arith, common_steps)

pub returns-clause-walks : goal.returns-clause-walks
returns-clause-walks g c =
    Enters-map _ _ _ _ _ (λ call made. CallsModule-walks _ _ _ _ _ call made)
    (returns-clause-calls g c)
