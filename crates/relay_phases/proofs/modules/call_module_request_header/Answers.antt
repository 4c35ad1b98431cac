-- The head that the modules left is read again from the session.
use Rattle.std.proofs.Common.{◌≡◌, Some, ap, subst, ◌∙◌}
use Rattle.std.proofs.lemmas.Result.{err_from_is_err_and}
use Rattle.relay_tasks.specs.declared.log.Item.{Item}
use Rattle.relay_modules.specs.Filtering.{FiltersRequest}
use Rattle.relay_modules.specs.Module.{AllowsMade}
use Rattle.relay_modules.specs.declared.seen.Seen.{Seen}
use Rattle.relay_hooks.specs.Call.{changed}
use Rattle.relay_hooks.specs.Session.{moment, request_head}
use Rattle.relay_calls.specs.Entry.{told, with_entry}
use Rattle.relay_phases.specs.Settled.{left_of}
use Rattle.relay_phases.proofs.ModulesLemmas.{filters_log, entered_head}
use Rattle.relay_phases.proofs.modules.call_module_request_header.Goals as goal

pub returns-in_err-made-clause-calls : goal.returns-in_err-made-clause-calls
returns-in_err-made-clause-calls g c =
    let log : c.filter_request_header-answer.new.self.seen.log ≡ c.args.session.now.seen.log =
    filters_log (AllowsMade g.M.HttpModule.allows c.args.session.now.modules)
    c.filter_request_header-answer.result c.begin_with_head.new.seen
    c.filter_request_header-answer.new.self.seen
    c.filter_request_header-answer.ensures.filters
    ∙ ap (λ (s : Seen). s.log) c.in_ok-begun.ensures.seen in
    let same = ap (λ (s : Seen). s.log) c.session_item.ensures.same in
    let failure =
    err_from_is_err_and c.from_residual-in_err-made.result
    c.from_residual-in_err-made.ensures.1 in
    rw (failure.1, failure.2, c.in_err-made.ensures.memory) (same ∙ log)

pub returns-clause-calls : goal.returns-clause-calls
returns-clause-calls g c =
    entered_head (AllowsMade g.M.HttpModule.allows c.args.session.now.modules)
    c.args.session.now.seen
    c.filter_request_header-answer.new.self.seen c.log_call.new.seen c.args.mark
    c.filter_request_header-answer.result c.in_ok-begun.begun c.in_ok-outcome.outcome
    (request_head c.filter_request_header-answer.new.self.seen)
    (subst
    (λ (s : Seen).
    FiltersRequest (AllowsMade g.M.HttpModule.allows c.args.session.now.modules)
    c.filter_request_header-answer.result s c.filter_request_header-answer.new.self.seen)
    c.in_ok-begun.ensures.seen c.filter_request_header-answer.ensures.filters)
    c.session_item.ensures.shown c.in_ok-begun.ensures.begun
    (subst
    (λ (i : Item). changed i c.filter_request_header-answer.result
    ≡ Some (left_of c.in_ok-outcome.outcome))
    c.in_ok-made.ensures.ok c.in_ok-outcome.ensures.ok)
    (subst
    (λ (s : Seen). c.log_call.new.seen
    ≡ with_entry s (told c.in_ok-begun.begun c.in_ok-outcome.outcome (moment s c.args.mark)))
    c.session_item.ensures.same c.in_ok-log_call.ensures.ok)
