-- The parts of a request's text are written one behind the other.
use Rattle.std.proofs.Common.{List, ℕ, ◌++◌, ap, ◌∙◌}
use Rattle.relay_tasks.specs.declared.log_line.LogLine.{LogLine}
use Rattle.relay_command.specs.Report.{RequestSpec, attempts_text, client_text, log_text, outcome_text, request_spec, unlisted_text}
use Rattle.relay_command.specs.declared.report.AttemptReport.{AttemptReport}
use Rattle.relay_command.proofs.ListLemmas.{written_on}
use Rattle.relay_command.proofs.report.push_request.Goals as goal

pub returns : goal.returns
returns c =
    let o : List ℕ = c.args.out.now.items in
    let r : RequestSpec = request_spec c.args.request.now in
    let a : List ℕ = outcome_text c.args.k r.outcome in
    let b : List ℕ = a ++ client_text r in
    let d : List ℕ = b ++ attempts_text 1 r.attempts in
    let e : List ℕ = d ++ log_text r.log in
    written_on o e (unlisted_text r.unlisted) c.push_log.new.out.items c.push_unlisted.new.out.items
    (written_on o d (log_text r.log) c.push_attempts.new.out.items c.push_log.new.out.items
    (written_on o b (attempts_text 1 r.attempts) c.push_client.new.out.items
    c.push_attempts.new.out.items
    (written_on o a (client_text r) c.push_outcome.new.out.items c.push_client.new.out.items
    c.in_ok-push_outcome.ensures c.in_ok-push_client.ensures)
    (c.in_ok-push_attempts.ensures
    ∙ ap (λ (l : List AttemptReport). c.push_client.new.out.items ++ attempts_text 1 l)
    c.deref.ensures.value))
    (c.in_ok-push_log.ensures
    ∙ ap (λ (l : List LogLine). c.push_attempts.new.out.items ++ log_text l)
    c.deref-2.ensures.value)) c.in_ok-push_unlisted.ensures
