-- The requests follow each other up to the one from which the client does not go back.
use Rattle.std.proofs.Common.{◌≡◌, ◌-◌, ◌∷◌, ◌++◌, ◌∙◌, [], List, ap, arith, refl, sym, subst}
use Rattle.std.proofs.lemmas.List.{map-append}
use Rattle.relay_command.specs.Exchange.{IsRun}
use Rattle.relay_command.specs.Report.{RequestSpec, request_spec, request_specs}
use Rattle.relay_json.specs.Script.{script_spec}
use Rattle.relay_command.proofs.ExchangeLemmas.{IsUnderWay, none_yet, one_more, last_one, all_run}
use Rattle.relay_command.proofs.exchange.run_exchanges.Goals as goal

pub loop-left-init : goal.loop-left-init
loop-left-init c =
    subst (λ (rs : List RequestSpec).
    IsUnderWay (script_spec c.args.script) c.in_ok-run.run' c.args.script.requests rs)
    (sym (ap request_specs c.new-requests.ensures.items))
    (none_yet (script_spec c.args.script) c.in_ok-run.run' c.args.script.requests refl
    c.in_ok-run.ensures)

pub returns-then-not-goes_back : goal.returns-then-not-goes_back
returns-then-not-goes_back c =
    let script = script_spec c.args.script in
    let under = c.loop-left.invariant in
    let request = c.in_ok-request.request in
    let runs = c.in_ok-request.ensures script under.peers refl under.at in
    let gone = sym c.outcome_reuse-goes_back.ensures ∙ c.if-not-goes_back.true in
    let pushed : request_specs c.push.new.self.items
    ≡ request_specs c.loop-left.requests.items ++ request_spec request ∷ [] =
    ap request_specs c.in_ok-push.ensures.items
    ∙ map-append request_spec c.loop-left.requests.items (request ∷ []) in
    subst (λ (rs : List RequestSpec). IsRun script rs) (sym pushed)
    (last_one script c.loop-left.run c.next.new.self c.loop-left.left (c.loop-left.left - 1)
    (request_specs c.loop-left.requests.items) (request_spec request) under runs gone
    (omega (arith, c.loop-left-test.true)))

pub loop-left-preserved : goal.loop-left-preserved
loop-left-preserved c =
    let script = script_spec c.args.script in
    let under = c.loop-left.invariant in
    let request = c.in_ok-request.request in
    let runs = c.in_ok-request.ensures script under.peers refl under.at in
    let back = sym c.outcome_reuse-goes_back.ensures ∙ c.if-not-goes_back.false in
    let pushed : request_specs c.push.new.self.items
    ≡ request_specs c.loop-left.requests.items ++ request_spec request ∷ [] =
    ap request_specs c.in_ok-push.ensures.items
    ∙ map-append request_spec c.loop-left.requests.items (request ∷ []) in
    subst (λ (rs : List RequestSpec).
    IsUnderWay script c.next.new.self (c.loop-left.left - 1) rs) (sym pushed)
    (one_more script c.loop-left.run c.next.new.self c.loop-left.left (c.loop-left.left - 1)
    (request_specs c.loop-left.requests.items) (request_spec request) under runs back
    (omega (arith, c.loop-left-test.true)))

pub returns : goal.returns
returns c =
    all_run (script_spec c.args.script) c.loop-left.run c.loop-left.left
    (request_specs c.loop-left.requests.items) c.loop-left.invariant
    (omega (arith, c.loop-left-test.false))
