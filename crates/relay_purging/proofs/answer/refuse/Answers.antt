-- The head of the 500 has no body behind it.
use Rattle.std.proofs.Common.{sym, subst}
use Rattle.relay_tasks.specs.Head.{ResponseHead}
use Rattle.relay_hooks.specs.Laws.{IsBodiless}
use Rattle.relay_purging.proofs.QueuedLemmas.{refusal_bodiless}
use Rattle.relay_purging.proofs.answer.refuse.Goals as goal

pub answer-requires-clause-bodiless : goal.answer-requires-clause-bodiless
answer-requires-clause-bodiless c =
    subst (λ (h : ResponseHead). IsBodiless h) (sym c.in-Ok.ensures.ok) refusal_bodiless
