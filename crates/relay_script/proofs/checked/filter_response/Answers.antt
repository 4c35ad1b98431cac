use Rattle.relay_script.proofs.LawLemmas.{keeps_kind, lawful_codes}
use Rattle.relay_script.specs.Actions.{informs}
use Rattle.relay_script.specs.Lawful.{has_code}
use Rattle.relay_script.proofs.checked.filter_response.Goals as goal

-- no lawful rule changes the kind of a head
pub returns-clause-kind : goal.returns-clause-kind
returns-clause-kind c =
    c.run_rules.ensures.keeps has_code (λ head. informs head.status) keeps_kind
    (rw c.as_slice.ensures.value (lawful_codes c.args.rules.now c.as_slice.ensures.lawful))
