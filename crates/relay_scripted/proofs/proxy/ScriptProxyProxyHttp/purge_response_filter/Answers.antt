use Rattle.std.proofs.Common.{◌≡◌, true}
use Rattle.relay_script.proofs.LawLemmas.{keeps_kind, lawful_codes}
use Rattle.relay_script.specs.Actions.{informs}
use Rattle.relay_script.specs.Lawful.{are_lawful, has_code}
use Rattle.relay_scripted.proofs.PurgeLemmas.{filtered_bodiless}
use Rattle.relay_scripted.proofs.proxy.ScriptProxyProxyHttp.purge_response_filter.Goals as goal

-- checked rules leave the answer without a body
pub returns-clause-bodiless : goal.returns-clause-bodiless
returns-clause-bodiless c =
    let lawful : are_lawful c.as_slice.result.now ≡ true =
    rw c.as_slice.ensures.value c.as_slice.ensures.lawful in
    filtered_bodiless c.as_slice.result.now c.args._status.now c.run_rules.result
    c.args.answer.now _ lawful
    c.requires.answer c.run_rules.ensures.answers
    (c.run_rules.ensures.keeps has_code (λ head. informs head.status) keeps_kind
    (lawful_codes c.as_slice.result.now lawful))
