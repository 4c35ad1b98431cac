use Rattle.std.proofs.Common.{sym, ◌∙◌}
use Rattle.relay_session.proofs.BatchLemmas.{settled, unsettled}
use Rattle.relay_session.proofs.batch.unframed_in.Goals as goal

pub returns-then-settles : goal.returns-then-settles
returns-then-settles c =
    c.unframed_head.ensures
    ∙ settled c.args.request.now c.args.tasks.now c.loop-at.at c.in-Some.task.now
    (sym c.in-Some.ensures) c.loop-at.invariant (sym c.settles.ensures ∙ c.if-settles.true)

pub loop-at-preserved : goal.loop-at-preserved
loop-at-preserved c =
    unsettled c.args.request.now c.args.tasks.now c.loop-at.at c.in-Some.task.now
    (sym c.in-Some.ensures) c.loop-at.invariant (sym c.settles.ensures ∙ c.if-settles.false)
