-- The hook left the log, so where the copy of its answer is out of memory no entry is new.
use Rattle.std.proofs.Common.{◌≡◌, ap, ◌∙◌}
use Rattle.std.proofs.lemmas.Result.{err_from_is_err_and}
use Rattle.relay_modules.specs.declared.seen.Seen.{Seen}
use Rattle.relay_phases.proofs.LogLemmas.{LeavesUnless-log}
use Rattle.relay_phases.proofs.attempt.call_custom_forwarding.Goals as goal

pub returns-in_err-outcome : goal.returns-in_err-outcome
returns-in_err-outcome g c =
    let log : c.custom_forwarding.new.session.seen.log ≡ c.args.session.now.seen.log =
    LeavesUnless-log c.custom_forwarding.result c.begin_with_head.new.seen
    c.custom_forwarding.new.session.seen
    c.custom_forwarding.ensures.leaves
    ∙ ap (λ (s : Seen). s.log) c.in_ok-begun.ensures.seen in
    let failure =
    err_from_is_err_and c.from_residual-in_err-outcome.result
    c.from_residual-in_err-outcome.ensures.1 in
    rw (failure.1, failure.2, c.in_err-outcome.ensures.memory) (record { calls = log })
