-- The hook left the log, so where the copy of its answer is out of memory no entry is new.
use Rattle.std.proofs.Common.{◌≡◌, ap, ◌∙◌}
use Rattle.std.proofs.lemmas.Result.{err_from_is_err_and}
use Rattle.relay_modules.specs.declared.seen.Seen.{Seen}
use Rattle.relay_phases.proofs.LogLemmas.{LeavesUnless-log}
use Rattle.relay_phases.proofs.attempt.call_upstream_peer.Goals as goal

pub returns-in_err-outcome : goal.returns-in_err-outcome
returns-in_err-outcome g c =
    let log : c.upstream_peer.new.session.seen.log ≡ c.args.session.now.seen.log =
    LeavesUnless-log c.upstream_peer.result c.begin_with_head.new.seen
    c.upstream_peer.new.session.seen
    c.upstream_peer.ensures.leaves
    ∙ ap (λ (s : Seen). s.log) c.in_ok-begun.ensures.seen in
    let failure =
    err_from_is_err_and c.from_residual-in_err-outcome.result
    c.from_residual-in_err-outcome.ensures.1 in
    rw (failure.1, failure.2, c.in_err-outcome.ensures.memory) (record { calls = log })
